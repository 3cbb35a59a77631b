-- A slot that lists another address than the first slot of its kind.
use Rattle.std.proofs.Common.{◌≡◌, ◌≢◌, ℕ, Option, Some, None, refl, sym, ◌∙◌, inl, inr, arith}
use Rattle.std.specs.Prelude.{◌==◌, if◌then◌else◌}
use Rattle.std.specs.Option.{option_and_then}
use Rattle.std.proofs.lemmas.Bool.{cases_lt}
use Rattle.std.proofs.lemmas.Bool.Decides.{nat_tests}
use Rattle.acpi_lint.specs.Rules.Slots.{IsSecondTable}
use Rattle.acpi_base.specs.Memory.{Memory}
use Rattle.acpi_base.specs.Root.{IsSlot}
use Rattle.acpi_base.specs.declared.table_kind.TableKind.{TableKind}
use Rattle.acpi_lint.specs.Slots.{IsTableAt, IsSought, FindsSlot, AreFirstSlots, first_of, second_after, second_place}
use Rattle.acpi_lint.specs.declared.first_slots.FirstSlots.{FirstSlots}
use Rattle.acpi_lint.specs.declared.listed_slots.Slot.{Slot}
use Rattle.acpi_rules.specs.declared.place.Place.{Place}
use Rattle.acpi_lint.specs.declared.table_at.Sought.TheVariants as sought
use Rattle.acpi_lint.proofs.FirstSlots.{one_listed}

differs_from : (a b : ℕ) (x y : Place) → (if a == b then None else Some x) ≡ Some y → (a ≢ b) × (x ≡ y)
differs_from a b x y is = (λ same. grind (arith, nat_tests), grind (arith, nat_tests))

differs_to : (a b : ℕ) (x : Place) → a ≢ b → (if a == b then None else Some x) ≡ Some x
differs_to a b x differs = grind (arith, nat_tests)

pub second_from : {m : Memory} {p : ℕ} (firsts : FirstSlots) (s : Slot) (place : Place) → AreFirstSlots m p firsts
    → IsSlot m p s.number s.table.address → IsTableAt m s.table → second_place firsts s ≡ Some place
    → IsSecondTable m p place.at place.other place.point × (place.at ≡ s.number)
second_from {m} {p} firsts s place are slot there is = from s.table.kind refl is
  where
    behind : (kind : TableKind) (found : Option Slot) → s.table.kind ≡ Some kind
        → FindsSlot m p (IsSought m (sought.Kind kind)) found → option_and_then (second_after s) found ≡ Some place
        → IsSecondTable m p place.at place.other place.point × (place.at ≡ s.number)
    behind kind None same none is = cc
    behind kind (Some f) same first is =
        let (differs, one) = differs_from f.table.address s.table.address
        (record { at = s.number; other = f.number; point = s.table.address }) place is in
        rw (← one) (
          (
            kind,
            record {
              here = (slot, (there.tells (sought.Kind kind)).0 same);
              a = f.table.address;
              there = (first.slot, first.here);
              first = λ k b (other, signed).
                  elim (cases_lt k f.number) [
                    | inl less ↦ absurd (first.before k b less other signed)
                    | inr most ↦ most
                  ];
              differs = differs;
            },
          ),
          refl,
        )

    from : (found : Option TableKind) → s.table.kind ≡ found
        → option_and_then (λ kind. option_and_then (second_after s) (first_of firsts kind)) found ≡ Some place
        → IsSecondTable m p place.at place.other place.point × (place.at ≡ s.number)
    from None same is = cc
    from (Some kind) same is = behind kind (first_of firsts kind) same (are.kinds kind) is

pub second_to : {m : Memory} {p at other point : ℕ} (firsts : FirstSlots) (s : Slot) → AreFirstSlots m p firsts
    → s.number ≡ at → s.table.address ≡ point → IsTableAt m s.table → IsSecondTable m p at other point
    → second_place firsts s ≡ Some (record { at = at; other = other; point = point })
second_to {m} {p} {at} {other} {point} firsts s are number address there (kind, second) =
    let is : s.table.kind ≡ Some kind = (there.tells (sought.Kind kind)).1 (rw address second.here.1) in
    rw is (behind (first_of firsts kind) (are.kinds kind))
  where
    behind : (found : Option Slot) → FindsSlot m p (IsSought m (sought.Kind kind)) found
        → option_and_then (second_after s) found ≡ Some (record { at = at; other = other; point = point })
    behind None none = absurd (none at point second.here.0 second.here.1)
    behind (Some f) first =
        let upto = second.first f.number f.table.address (first.slot, first.here) in
        let same : f.number ≡ other =
        elim (cases_lt other f.number) [
          | inl less ↦ absurd (first.before other second.a less second.there.0 second.there.1)
          | inr most ↦ omega (arith, upto, most)
        ] in
        let there : f.table.address ≡ second.a = one_listed (rw same at first.slot) second.there.0 in
        rw (number, same, address) (differs_to f.table.address point _ (λ is. second.differs (sym there ∙ is)))
