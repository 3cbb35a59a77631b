use Rattle.std.proofs.Common.{List, ℕ, None, Some, true, refl}
use Rattle.std.proofs.lemmas.Bool.Decides.{Decides-eqb}
use Rattle.std.proofs.lemmas.Slice.Eq.{slice_eq-Decides}
use Rattle.acpi_base.specs.Listed.{slot_numbers}
use Rattle.acpi_lint.specs.Rules.RootAdvice.{listed_signature}
use Rattle.acpi_lint.proofs.RootTables.{no_difference, first_differs, difference_of, same_slots}
use Rattle.acpi_lint.proofs.root_advice.rsdt_differs.Goals as goal

pub returns-in_default : goal.returns-in_default
returns-in_default c = λ at other point (place, unused, (xsdt, rsdt, wide, narrow, differ)).
    let none = rw c.in_default.is at (c.xsdt.ensures.root c.args.image.now c.args.rsdp c.requires) in
    none xsdt wide

pub returns-in_default-named_rsdt : goal.returns-in_default-named_rsdt
returns-in_default-named_rsdt c = λ at other point (place, unused, (xsdt, rsdt, wide, narrow, differ)).
    let none = rw c.in_default-named_rsdt.is at c.named_rsdt.ensures in
    none rsdt narrow

pub returns-then-eq : goal.returns-then-eq
returns-then-eq c =
    let m = c.args.image.now in
    let xsdt : List ℕ = c.in-Some.xsdt.now in
    let rsdt : List ℕ = c.in-Some-named_rsdt.rsdt in
    let ours = c.in_ok-ours.ours.items in
    let theirs = c.in_ok-theirs.theirs.items in
    no_difference xsdt rsdt (c.in-Some.ensures.root m c.args.rsdp c.requires) c.in-Some-named_rsdt.ensures
    (same_slots (listed_signature m) (slot_numbers xsdt 8) (slot_numbers rsdt 4) ours theirs c.in_ok-ours.ensures
    (rw c.bytes.ensures.bytes at c.in_ok-theirs.ensures)
    ((slice_eq-Decides Decides-eqb ours theirs true c.if-eq.ensures).0 refl))

pub returns-in_default-2 : goal.returns-in_default-2
returns-in_default-2 c =
    let m = c.args.image.now in
    let h = listed_signature m in
    let xsdt : List ℕ = c.in-Some.xsdt.now in
    let rsdt : List ℕ = c.in-Some-named_rsdt.rsdt in
    let ours = c.in_ok-ours.ours.items in
    let theirs = c.in_ok-theirs.theirs.items in
    let found = rw (c.in_ok-ours-2.ensures, c.in_ok-theirs-2.ensures, c.deref.ensures.value) at
    c.in_ok-signature.ensures in
    no_difference xsdt rsdt (c.in-Some.ensures.root m c.args.rsdp c.requires) c.in-Some-named_rsdt.ensures
    (difference_of h (slot_numbers xsdt 8) (slot_numbers rsdt 4) ours theirs None c.in_ok-ours.ensures
    (rw c.bytes.ensures.bytes at c.in_ok-theirs.ensures)
    (rw (c.deref-2.ensures.value, c.in_default-2.is) at found))

pub returns : goal.returns
returns c =
    let m = c.args.image.now in
    let h = listed_signature m in
    let n = c.in-Some-2.signature in
    let xsdt : List ℕ = c.in-Some.xsdt.now in
    let rsdt : List ℕ = c.in-Some-named_rsdt.rsdt in
    let ours = c.in_ok-ours.ours.items in
    let theirs = c.in_ok-theirs.theirs.items in
    let found = rw (c.in_ok-ours-2.ensures, c.in_ok-theirs-2.ensures, c.deref.ensures.value) at
    c.in_ok-signature.ensures in
    first_differs xsdt rsdt n (c.in-Some.ensures.root m c.args.rsdp c.requires) c.in-Some-named_rsdt.ensures
    (difference_of h (slot_numbers xsdt 8) (slot_numbers rsdt 4) ours theirs (Some n) c.in_ok-ours.ensures
    (rw c.bytes.ensures.bytes at c.in_ok-theirs.ensures)
    (rw (c.deref-2.ensures.value, c.in-Some-2.is) at found))
