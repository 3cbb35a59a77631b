-- The first table in a root table's slots is the one that the set lists.
use Rattle.std.proofs.Common.{◌≡◌, ◌+◌, ◌≤◌, ◌<◌, ◌↔◌, ℕ, Bool, true, false, not, Option, Some, None, is_some, List, length, IsTrue, MatchOption, inl, inr, refl, subst, arith}
use borrow.Author.Count.{below_more}
use denote.Ref.{Bor}
use Rattle.std.specs.Option.{option_or, option_zip}
use Rattle.acpi_base.specs.Memory.{Memory}
use Rattle.acpi_base.specs.Root.{HasSlot}
use Rattle.acpi_base.specs.Tables.{IsSigned, IsTable}
use Rattle.acpi_base.specs.Facs.{NamedFacsFault, FacsFault}
use Rattle.acpi_base.specs.Fadt.{FadtTableFault, FadtFault}
use Rattle.acpi_base.specs.Listed.{fadt_signature, IsFirstListed, IsNoneListed, IsListedTable, ListsNone, HasListed}
use Rattle.acpi_base.specs.declared.code.Code.{Code}
use Rattle.acpi_base.proofs.Root.Named.{of_root}
use Rattle.acpi_base.proofs.Tables.Listed.{one_first_listed, one_listed, none_and_first_listed, none_and_listed, listed_of_root, listed_in_root, none_in_root}
use Rattle.acpi_confirm.specs.Roots.{IsFirstSoFar, IsSignedIn, IsCompleteRoot}

-- ---- one table

pub none_without_root : {m : Memory} {p : ℕ} {signature : List ℕ}
    → ((d : ℕ) (bytes : List ℕ) → ¬ IsCompleteRoot m p d bytes) → (whole : List ℕ) → ¬ IsListedTable m p signature whole
none_without_root none whole listed =
    let first = listed.first in none _ _ (record { r = first.r; root = first.root; table = first.table })

pub first_of_listed : {m : Memory} {p d : ℕ} {bytes signature whole : List ℕ} → IsCompleteRoot m p d bytes
    → (listed : IsListedTable m p signature whole) → IsFirstListed m bytes d signature listed.a
first_of_listed root listed = listed_of_root root.root root.table listed.first

-- the table at the first address is the set's, if it is complete
pub table_of_first : {m : Memory} {p d : ℕ} {bytes signature : List ℕ} (a : ℕ) (table : Option (Bor (List ℕ)))
    → IsCompleteRoot m p d bytes → IsFirstListed m bytes d signature a
    → MatchOption table ((header whole : List ℕ) → ¬ IsTable m a header whole)
    (λ whole. (header : List ℕ) × IsTable m a header whole.now)
    → MatchOption table ((whole : List ℕ) → ¬ IsListedTable m p signature whole)
    (λ whole. IsListedTable m p signature whole.now)
table_of_first {m} {d = d} {bytes = bytes} {signature = signature} a None root first none = λ whole listed.
    none listed.header whole (subst (λ (b : ℕ). IsTable m b listed.header whole)
    (one_first_listed m bytes d signature listed.a a (first_of_listed root listed) first) listed.table)
table_of_first a (Some whole) root first table = listed_in_root root.root root.table first table.1

-- ---- none

pub root_of_none : {m : Memory} {p : ℕ} {signature : List ℕ} (none : ListsNone m p signature)
    → IsCompleteRoot m p none.d none.root_bytes
root_of_none none = record { r = none.r; root = none.root; table = none.table }

-- no slot has such a header exactly where the set lists none
pub test_of_none : {m : Memory} {p d : ℕ} {bytes signature : List ℕ} (found : Option ℕ) (test : Bool)
    → IsCompleteRoot m p d bytes → is_some found ≡ not test
    → MatchOption found (IsNoneListed m bytes d signature) (IsFirstListed m bytes d signature)
    → IsTrue test ↔ ListsNone m p signature
test_of_none None true root is none = (λ _. none_in_root root.root root.table none, λ _. refl)
test_of_none None false root is none = absurd cc
test_of_none (Some a) true root is first = absurd cc
test_of_none {m} {signature = signature} (Some a) false root is first = (
  λ yes. absurd cc,
  λ none. absurd (none_and_first_listed
      (of_root (λ x bs. IsNoneListed m bs x signature) none.root root.root none.table root.table none.none) first),
)

-- ---- a table whose bytes have P

pub test_of_listed : {m : Memory} {p : ℕ} {signature whole : List ℕ} {test : Bool} (P : List ℕ → Type 0)
    → IsListedTable m p signature whole → (IsTrue test ↔ P whole) → IsTrue test ↔ HasListed m p signature P
test_of_listed {m} {p} {signature} {whole} P listed decides = (
  λ yes. (whole, listed, decides.0 yes),
  λ has. decides.1
      (subst P (one_listed m p signature has.0 whole has.1 listed) has.2),
)

pub none_has_listed : {m : Memory} {p : ℕ} {signature : List ℕ} (P : List ℕ → Type 0)
    → ((whole : List ℕ) → ¬ IsListedTable m p signature whole) → IsTrue false ↔ HasListed m p signature P
none_has_listed P none = (λ yes. absurd cc, λ has. absurd (none has.0 has.1))

-- what is tested of the listed table's bytes; false if none is listed
pub test_of_found : {m : Memory} {p : ℕ} {signature : List ℕ} (P : List ℕ → Type 0) (Says : Bor (List ℕ) → Type 0)
    (found : Option (Bor (List ℕ))) (test : Bool)
    → MatchOption found ((whole : List ℕ) → ¬ IsListedTable m p signature whole)
    (λ whole. IsListedTable m p signature whole.now)
    → MatchOption found (test ≡ false) Says → ((whole : Bor (List ℕ)) → Says whole → (IsTrue test ↔ P whole.now))
    → IsTrue test ↔ HasListed m p signature P
test_of_found P Says None test none is decides = rw is (none_has_listed P none)
test_of_found P Says (Some whole) test listed says decides = test_of_listed P listed (decides whole says)

-- the same for two tables
pub test_of_both : {m : Memory} {p : ℕ} {first second : List ℕ} (P : List ℕ → List ℕ → Type 0)
    (Says : Bor (List ℕ) × Bor (List ℕ) → Type 0) (one other : Option (Bor (List ℕ)))
    (both : Option (Bor (List ℕ) × Bor (List ℕ))) (test : Bool)
    → MatchOption one ((whole : List ℕ) → ¬ IsListedTable m p first whole) (λ whole. IsListedTable m p first whole.now)
    → MatchOption other ((whole : List ℕ) → ¬ IsListedTable m p second whole)
    (λ whole. IsListedTable m p second whole.now)
    → both ≡ option_zip one other → MatchOption both (test ≡ false) Says
    → ((pair : Bor (List ℕ) × Bor (List ℕ)) → Says pair → (IsTrue test ↔ P pair.0.now pair.1.now))
    → IsTrue test ↔ HasListed m p first (λ x. HasListed m p second (P x))
test_of_both {m} {p} {first} {second} P Says None other both test none found is says decides =
    rw (rw is at says) (none_has_listed (λ x. HasListed m p second (P x)) none)
test_of_both {m} {p} {first} {second} P Says (Some x) None both test listed none is says decides =
    test_of_listed (λ x. HasListed m p second (P x)) listed (rw (rw is at says) (none_has_listed (P x.now) none))
test_of_both {m} {p} {first} {second} P Says (Some x) (Some y) both test listed also is says decides =
    test_of_listed (λ x. HasListed m p second (P x)) listed
    (test_of_listed (P x.now) also (decides (x, y) (rw is at says)))

-- ---- the FADT and the FACS

pub test_of_fadt : {m : Memory} {p at : ℕ} {fadt : List ℕ} {code : Code} {test : Bool}
    → IsListedTable m p fadt_signature fadt → (IsTrue test ↔ FadtTableFault fadt code at)
    → IsTrue test ↔ FadtFault m p code at
test_of_fadt {m} {p} {at} {fadt} {code} listed decides = (
  λ yes. inr (fadt, listed, decides.0 yes),
  λ fault. elim fault [
    | inl none ↦ absurd (none_and_listed none.0 listed)
    | inr here ↦ decides.1 (subst (λ (bytes : List ℕ). FadtTableFault bytes code at)
        (one_listed m p fadt_signature here.0 fadt here.1 listed) here.2)
  ],
)

pub test_of_facs : {m : Memory} {p : ℕ} {fadt : List ℕ} {test : Bool} (code : Code) (at : ℕ)
    → IsListedTable m p fadt_signature fadt
    → (IsTrue test ↔ ((116 ≤ length fadt) × NamedFacsFault m fadt code at)) → IsTrue test ↔ FacsFault m p code at
test_of_facs {m} {p} {fadt} code at listed decides = (
  λ yes. (let here = decides.0 yes in (fadt, listed, here.0, here.1)),
  λ fault. decides.1 (subst (λ (bytes : List ℕ). (116 ≤ length bytes) × NamedFacsFault m bytes code at)
      (one_listed m p fadt_signature fault.0 fadt fault.1 listed) (fault.2, fault.3)),
)

-- ---- the first table that the slots list, from slot to slot

module _ (m : Memory) (bytes signature : List ℕ) (d k : ℕ) where
  pub so_far_next : (found here next : Option ℕ) → next ≡ option_or found here
      → IsFirstSoFar m bytes d k signature found → IsSignedIn m bytes d k signature here
      → IsFirstSoFar m bytes d (k + 1) signature next
  so_far_next (Some a) here next is first at = rw is first
  so_far_next None None next is none at =
      rw is
      (λ j b below slot signed. below_more (λ (i : ℕ). (a : ℕ) → HasSlot bytes d i a → ¬ IsSigned m a signature) k
      (λ i lower a. none i a lower) at j below b slot signed)
  so_far_next None (Some a) next is none at =
      let first : IsFirstListed m bytes d signature a =
      record { k = k; slot = at.0; signed = at.1; none_before = λ j b below slot signed. none j b below slot signed } in
      rw is first

  pub so_far_all : (n : ℕ) (found : Option ℕ) → ((j b : ℕ) → HasSlot bytes d j b → j < n) → n ≤ k
      → IsFirstSoFar m bytes d k signature found
      → MatchOption found (IsNoneListed m bytes d signature) (IsFirstListed m bytes d signature)
  so_far_all n None within past none = λ j b slot. none j b (let below = within j b slot in omega arith) slot
  so_far_all n (Some a) within past first = first
