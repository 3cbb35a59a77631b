-- The interrupt number of an ISA interrupt.
use Rattle.std.proofs.Common.{◌≡◌, ℕ, ◌≤◌, List, None, refl, sym, ap, ◌∙◌, subst, inl, inr, arith}
use Rattle.std.specs.Bool.{then_some}
use Rattle.std.specs.Prelude.{◌↔◌, IsTrue, Bool}
use Rattle.acpi_base.specs.Across.{IsServed}
use Rattle.acpi_base.specs.Entries.{Stands, StandsWith}
use Rattle.acpi_lint.specs.Rules.FadtAdvice.{IsOverrideOf, IsFirstOverride, IsGsiOf, IsSciNowhere}
use Rattle.acpi_base.specs.Madt.{MadtEntry, IoApic, Override, OverrideValue, ServesFrom, MadtContents, madt_contents}
use Rattle.acpi_base.specs.Number.{field}
use Rattle.acpi_base.specs.Policy.{PolicyValue}
use Rattle.acpi_base.proofs.Madt.Faults.{ones}
use Rattle.acpi_lint.specs.Overrides.{IsOverrideAt, ServesNumber, IsNowhere}
use Rattle.acpi_rules.specs.Places.{IsNotAfter, IsLeast, FindsLeast}
use Rattle.acpi_rules.specs.declared.place.Place.{Place}
use Rattle.acpi_lint.proofs.LeastPlaces.{finds_one}

some_number : (c : MadtContents) (source at : ℕ) → StandsWith c.entries at (IsOverrideOf source)
    → (other : ℕ) × IsOverrideAt source c at other 0
some_number c source at (Override v, stands, (bus, is)) = (v.gsi, (Override v, stands, (bus, is, refl, refl)))
some_number c source at (_, stands, is) = absurd is

upto : (p : Place) (at other point : ℕ) → IsNotAfter p at other point → p.at ≤ at
upto p at other point (inl less) = omega arith
upto p at other point (inr (same, rest)) = omega (arith, same)

pub is_first_override : (c : MadtContents) (source : ℕ) (p : Place) → IsLeast (IsOverrideAt source c) p
    → IsFirstOverride c source p.other
is_first_override c source p first = go first.here
  where
    least : (at : ℕ) → StandsWith c.entries at (IsOverrideOf source) → p.at ≤ at
    least at stands =
        let (other, here) = some_number c source at stands in
        upto p at other 0 (first.least at other 0 here)

    go : IsOverrideAt source c p.at p.other p.point → IsFirstOverride c source p.other
    go (Override v, stands, (bus, is, gsi, unused)) =
        record { at = p.at; v = v; stands = stands; of = (bus, is); is = gsi; first = least }
    go (_, stands, is) = absurd is

none_is_first : (c : MadtContents) (source g : ℕ) → ((p : ℕ) → ¬ StandsWith c.entries p (IsOverrideOf source))
    → ¬ IsFirstOverride c source g
none_is_first c source g none first = none first.at (Override first.v, first.stands, first.of)

one_first : (whole : List ℕ) (source g h : ℕ) → IsFirstOverride (madt_contents whole) source g
    → IsFirstOverride (madt_contents whole) source h → g ≡ h
one_first whole source g h one other =
    let before : one.at ≤ other.at = one.first other.at (Override other.v, other.stands, other.of) in
    let behind : other.at ≤ one.at = other.first one.at (Override one.v, one.stands, one.of) in
    let place : other.at ≡ one.at = omega arith in
    let there = subst (λ (o : ℕ). Stands (madt_contents whole).entries o (Override other.v)) place other.stands in
    let same : Override one.v ≡ Override other.v =
    ones whole one.at (Override one.v) (Override other.v) one.stands there in
    let value : one.v ≡ other.v = cc in
    sym one.is ∙ ap (λ (v : OverrideValue). v.gsi) value ∙ other.is

pub one_gsi : (whole : List ℕ) (source g h : ℕ) → IsGsiOf (madt_contents whole) source g
    → IsGsiOf (madt_contents whole) source h → g ≡ h
one_gsi whole source g h (inl one) (inl other) = one_first whole source g h one other
one_gsi whole source g h (inl one) (inr none) = absurd (none_is_first (madt_contents whole) source g none.0 one)
one_gsi whole source g h (inr none) (inl other) = absurd (none_is_first (madt_contents whole) source h none.0 other)
one_gsi whole source g h (inr one) (inr other) = one.1 ∙ sym other.1

pub own_gsi : (c : MadtContents) (source : ℕ) → FindsLeast (IsOverrideAt source c) None → IsGsiOf c source source
own_gsi c source none =
    inr (λ p stands. (let (other, here) = some_number c source p stands in none p other 0 here), refl)

-- ---- I/O APICs

serves_from : (q : PolicyValue) (g : ℕ) (e : MadtEntry) → ServesNumber q g e → (start : ℕ) × ServesFrom q start g e
serves_from q g (IoApic v) (least, below) = (v.gsi_base, (refl, least, below))
serves_from q g _ is = absurd is

serves_number : (q : PolicyValue) (start g : ℕ) (e : MadtEntry) → ServesFrom q start g e → ServesNumber q g e
serves_number q start g (IoApic v) (is, least, below) = rw is (least, below)
serves_number q start g _ is = absurd is

pub served : (q : PolicyValue) (c : MadtContents) (g : ℕ) (b : Bool)
    → (IsTrue b ↔ ((o : ℕ) × StandsWith c.entries o (ServesNumber q g))) → IsTrue b ↔ IsServed q c g
served q c g b is = (
  λ some.
      let (o, (e, stands, serves)) = is.0 some in
      let (start, from) = serves_from q g e serves in
      (o, start, (e, stands, from)),
  λ (o, start, (e, stands, from)). is.1 (o, (e, stands, serves_number q start g e from)),
)

-- ---- SCI_INT

-- no I/O APIC serves its number exactly if the rule is broken, at one place
pub nowhere_at : (q : PolicyValue) (whole : List ℕ) (c : MadtContents) (g : ℕ) (b : Bool)
    → IsGsiOf c (field whole 46 2) g → ((h : ℕ) → IsGsiOf c (field whole 46 2) h → h ≡ g)
    → (IsTrue b ↔ IsNowhere q whole c g)
    → FindsLeast (IsSciNowhere q whole c) (then_some b (record { at = 46; other = 0; point = g }))
nowhere_at q whole c g b is one test =
    finds_one (record { at = 46; other = 0; point = g }) b (
      λ true.
          let ((fixed, some, nowhere), well_formed) = test.0 true in
          record {
            not_reduced = fixed;
            well_formed = well_formed;
            place = (refl, refl);
            number = is;
            some = some;
            nowhere = nowhere;
          },
      λ broken. test.1 ((broken.not_reduced, broken.some, broken.nowhere), broken.well_formed),
    )
    (λ at other point broken. (broken.place.0, broken.place.1, one point broken.number))
