-- The examples of advice on the FADT, by computing.
use Rattle.std.proofs.Common.{◌≡◌, ℕ, ◌≤◌, refl, sym, ◌∙◌, subst, inl, inr, arith}
use Rattle.std.specs.List.{AllByRecursion}
use Rattle.std.proofs.lemmas.Bool.{both_ways}
use Rattle.std.proofs.lemmas.Option.{none-some}
use Rattle.acpi_base.specs.Number.{field}
use Rattle.acpi_base.specs.Across.{IsIoApic, IsServed}
use Rattle.acpi_base.specs.Entries.{Stands, StandsWith}
use Rattle.acpi_base.specs.Fadt.{has_flag}
use Rattle.acpi_base.specs.Madt.{Override, MadtContents, ServesFrom}
use Rattle.acpi_base.specs.Policy.{PolicyValue, inputs_of}
use Rattle.acpi_lint.specs.Rules.FadtAdvice.{IsOverrideOf, IsGsiOf}
use Rattle.acpi_lint.specs.Rules.WellFormed.{HasOtherMadtLength, IsWellFormedMadt}
use Rattle.acpi_examples.specs.Advice.{one_entry, processor}
use Rattle.acpi_examples.specs.AdviceFadt.{io_apic_entry, overridden, twice_overridden, AreScisNowhere, IsFadtAdvised}
use Rattle.acpi_examples.proofs.NamedEntries.{each_entry, none_stands, never}

-- ---- SCI_INT

pub not_served : (q : PolicyValue) (bus : ℕ) → inputs_of q 0xfec00000 ≡ 24 → ¬ IsServed q (overridden bus) 24
not_served q bus inputs (o, start, here) =
    none_stands (overridden bus).entries o (λ o e. ServesFrom q start 24 e)
    ((λ h. omega (arith, h.0, h.2, inputs)), (never, tt)) here

pub is_served : (q : PolicyValue) (n : ℕ) → inputs_of q 0xfec00000 ≡ 25 → 24 ≡ n → IsServed q (overridden 0) n
is_served q n inputs is =
    subst (IsServed q (overridden 0)) is
    (44, 0, (_, (0, omega arith, refl), (refl, omega arith, omega (arith, inputs))))

nine_served : (q : PolicyValue) (c : MadtContents) (n : ℕ) → inputs_of q 0xfec00000 ≡ 24 → 9 ≡ n
    → Stands c.entries 44 io_apic_entry → IsServed q c n
nine_served q c n inputs is stands =
    subst (IsServed q c) is (44, 0, (io_apic_entry, stands, (refl, omega arith, omega (arith, inputs))))

not_overridden : (o : ℕ) → ¬ StandsWith (overridden 0).entries o (IsOverrideOf 24)
not_overridden o =
    none_stands (overridden 0).entries o (λ o e. IsOverrideOf 24 e) (never, ((λ h. omega (arith, h.1)), tt))

overridden_gsi : (g : ℕ) → IsGsiOf (overridden 0) 9 g → 24 ≡ g
overridden_gsi g (inl it) =
    each_entry (overridden 0).entries (λ o e. e ≡ Override it.v → 24 ≡ it.v.gsi)
    ((λ is. absurd cc), ((λ is. cc), tt)) it.at (Override it.v) it.stands refl ∙ it.is
overridden_gsi g (inr (none, _)) = absurd (none 56 (_, (1, omega arith, refl), (refl, refl)))

own_gsi : (c : MadtContents) (g : ℕ) → AllByRecursion (λ s. ¬ IsOverrideOf 9 s.entry) c.entries → IsGsiOf c 9 g → 9 ≡ g
own_gsi c g none (inl it) =
    absurd (none_stands c.entries it.at (λ o e. IsOverrideOf 9 e) none (Override it.v, it.stands, it.of))
own_gsi c g none (inr (_, is)) = sym is

pub well_formed : (bus : ℕ) → IsWellFormedMadt (overridden bus)
well_formed bus = (refl, λ o. none_stands (overridden bus).entries o (λ o e. HasOtherMadtLength e) (never, (never, tt)))

scis_nowhere : (q : PolicyValue) → AreScisNowhere q
unfolding field has_flag
scis_nowhere q = record {
  nowhere = λ inputs. record {
    not_reduced = refl;
    well_formed = well_formed 0;
    place = (refl, refl);
    number = inl (record {
      at = 56;
      v = _;
      stands = (1, omega arith, refl);
      of = (refl, refl);
      is = refl;
      first = λ p here. each_entry (overridden 0).entries (λ o e. IsOverrideOf 9 e → 56 ≤ o)
          ((λ h. absurd h), ((λ _. omega arith), tt)) p here.0 here.1 here.2;
    });
    some = (44, (_, (0, omega arith, refl), tt));
    nowhere = not_served q 0 inputs;
  };
  first = λ inputs. record {
    not_reduced = refl;
    well_formed = (
      refl,
      λ o. none_stands twice_overridden.entries o (λ o e. HasOtherMadtLength e)
          (never, (never, (never, tt))),
    );
    place = (refl, refl);
    number = inl (record {
      at = 56;
      v = _;
      stands = (1, omega arith, refl);
      of = (refl, refl);
      is = refl;
      first = λ p here. each_entry twice_overridden.entries (λ o e. IsOverrideOf 9 e → 56 ≤ o)
          ((λ h. absurd h), ((λ _. omega arith), ((λ _. omega arith), tt))) p here.0 here.1 here.2;
    });
    some = (44, (_, (0, omega arith, refl), tt));
    nowhere = λ served. none_stands twice_overridden.entries served.0 (λ o e. ServesFrom q served.1 24 e)
        ((λ h. omega (arith, h.0, h.2, inputs)), (never, (never, tt))) served.2;
  };
  own = λ inputs. record {
    not_reduced = refl;
    well_formed = well_formed 0;
    place = (refl, refl);
    number = inr (not_overridden, refl);
    some = (44, (_, (0, omega arith, refl), tt));
    nowhere = not_served q 0 inputs;
  };
  served = λ inputs at other point it. it.nowhere (is_served q point inputs (overridden_gsi point it.number));
  no_override = λ inputs at other point it. it.nowhere (nine_served q (one_entry 12 io_apic_entry) point inputs
      (own_gsi (one_entry 12 io_apic_entry) point (never, tt) it.number) (0, omega arith, refl));
  other_bus = λ inputs at other point it. it.nowhere (nine_served q (overridden 1) point inputs
      (own_gsi (overridden 1) point (never, ((λ h. omega (arith, h.0)), tt)) it.number) (0, omega arith, refl));
  reduced = λ at other point it. both_ways _ it.not_reduced refl;
  no_io_apic =
      λ at other point it. none_stands (one_entry 8 (processor 1)).entries it.some.0 (λ o e. IsIoApic e) (never, tt)
      it.some.1;
  cut = λ at other point it. none-some 66 (sym it.well_formed.0);
}

pub fadt_advised : (q : PolicyValue) → IsFadtAdvised q
fadt_advised q = record {
  scis = scis_nowhere q;
}
