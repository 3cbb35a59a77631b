-- The examples of the MADT, by computing.
use Rattle.std.proofs.Common.{◌≡◌, ℕ, ◌<◌, [], ◌∷◌, refl, sym, ◌∙◌, subst, inl, inr, arith}
use Rattle.std.specs.Prelude.{◌≢◌}
use Rattle.std.proofs.lemmas.Option.{none-some}
use Rattle.std.proofs.lemmas.Bool.{cases_lt}
use Rattle.acpi_base.specs.Number.{field, byte_sum}
use Rattle.acpi_base.specs.Policy.{PolicyValue}
use Rattle.acpi_base.specs.Listed.{madt_signature}
use Rattle.acpi_base.specs.Entries.{StandsWith, first_entry, entries_from, entries_of, end_of_entries, cut_of, has_form}
use Rattle.acpi_base.specs.Madt.{MadtContents, madt_entry, madt_contents, MadtFault, MadtEntryFault, IsAddressOverride, ServesFrom, Serves}
use Rattle.acpi_base.specs.Overlaps.{ComesBefore}
use Rattle.acpi_examples.specs.Tables.{table}
use Rattle.acpi_examples.specs.Madts.{AreMadtContents, AreMadtFaults, IsFirstInterrupt, HasNoMadtFault, example_madts, all_kinds, two_io_apics}
use Rattle.acpi_base.specs.declared.code.Code.{Code}
use Rattle.acpi_base.specs.declared.code.Code.TheVariants as code
use Rattle.acpi_examples.proofs.NamedEntries.{each_entry, none_stands, never, all_valid}

pub madt_said : AreMadtContents
unfolding first_entry entries_from entries_of end_of_entries cut_of has_form field byte_sum madt_entry madt_contents
madt_said = record {
  valid = all_valid example_madts refl;
  kinds_say = refl;
  io_apics_say = refl;
  cut_says = refl;
  overrides_say = refl;
  faulty_says = refl;
}

short_madt : (q : PolicyValue)
    → MadtFault q (madt_contents (table madt_signature 40 1 72 (0 ∷ 0 ∷ 0xe0 ∷ 0xfe ∷ []))) code.MadtShort 0 0 0
unfolding madt_contents
short_madt q = (omega arith, refl, (refl, refl))

pub madt_faults : (q : PolicyValue) → AreMadtFaults q
madt_faults q = record {
  short = short_madt q;
  cut = rw madt_said.cut_says (refl, (refl, refl));
  size = rw madt_said.faulty_says ((_, (0, omega arith, refl), inl refl), (refl, refl));
  bus = rw madt_said.faulty_says ((_, (1, omega arith, refl), λ is. omega arith), (refl, refl));
  inti = rw madt_said.faulty_says ((_, (1, omega arith, refl), inl refl), (refl, refl));
  second =
      rw madt_said.faulty_says ((_, (3, omega arith, refl), tt), (_, (2, omega arith, refl), tt), omega arith, refl);
  gsi = λ inputs. rw madt_said.faulty_says ((_, (4, omega arith, refl), omega arith), (refl, refl));
  overlap = λ first second. rw madt_said.io_apics_say (record {
    s = 0;
    t = 24;
    one_holds = (_, (0, omega arith, refl), (refl, omega arith, omega arith));
    other_holds = (_, (1, omega arith, refl), (refl, omega arith, omega arith));
    two = λ same. omega arith;
  });
  sources = rw madt_said.overrides_say (
    20,
    9,
    (_, (1, omega arith, refl), (refl, refl)),
    (_, (0, omega arith, refl), (refl, refl)),
    omega arith,
    λ same. omega arith,
  );
}

-- ---- which interrupt number is reported

pub first_interrupt : (q : PolicyValue) → IsFirstInterrupt q
first_interrupt q thirty_two twenty_four = record {
  overlap = record {
    s = 0;
    t = 24;
    one_holds = (_, (0, omega arith, refl), (refl, omega arith, omega arith));
    other_holds = (_, (1, omega arith, refl), (refl, omega arith, omega arith));
    two = λ same. omega arith;
  };
  in_order = inl (omega arith);
  others_after =
      λ p u here not_at not_other. each_entry two_io_apics.entries
      (λ p e. p ≢ 0x2c → p ≢ 0x38 → ServesFrom q u 0x18 e → ComesBefore 24 0x38 u p)
      ((λ not_at _ _. absurd (not_at refl)), ((λ _ not_other _. absurd (not_other refl)), tt)) p here.0 here.1 not_at
      not_other here.2;
  least = λ o p x it. elim (cases_lt x 0x18) [
    | inr most ↦ most
    | inl less ↦ absurd (it.two (only x less o it.s it.one_holds ∙ sym (only x less p it.t it.other_holds)))
  ];
}
  where
    only : (x : ℕ) → x < 0x18 → (o s : ℕ) → Serves q two_io_apics o s x → o ≡ 0x2c
    only x less o s here =
        each_entry two_io_apics.entries (λ o e. ServesFrom q s x e → o ≡ 0x2c)
        ((λ _. refl), ((λ serves. absurd (omega (arith, serves.0, serves.1))), tt)) o here.0 here.1 here.2

-- ---- a MADT without a fault

pub no_madt_fault : (q : PolicyValue) → HasNoMadtFault q
no_madt_fault q few fault at other point =
    subst (λ (c : MadtContents). ¬ MadtFault q c fault at other point) (sym madt_said.kinds_say)
    (none fault at other point)
  where
    only : (o : ℕ) → StandsWith all_kinds.entries o IsAddressOverride → o ≢ 88 → ⊥
    only o here other =
        none_stands all_kinds.entries o (λ o e. (o ≢ 88) × IsAddressOverride e) (
          λ h. h.1,
          (
            λ h. h.1,
            (
              λ h. h.1,
              (λ h. h.1, (λ h. h.1, (λ h. h.0 refl, (λ h. h.1, (λ h. h.1, (λ h. h.1, tt)))))),
            ),
          ),
        )
        (here.0, here.1, (other, here.2))

    none : (fault : Code) (at other point : ℕ) → ¬ MadtFault q all_kinds fault at other point
    none code.MadtShort at other point (short, _, _) = omega arith
    none code.MadtEntryCut at other point (cut, _) = none-some at cut
    none code.SecondAddressOverride at other point (one, two, less, _) =
        only at one (λ here. only other two (λ there. omega arith))
    none code.MadtEntryLength at other point (here, _) =
        none_stands all_kinds.entries at (λ o e. MadtEntryFault q code.MadtEntryLength e)
        (never, (never, (never, (never, (never, (never, (never, (never, ((λ is. omega arith), tt))))))))) here
    none code.OverrideBus at other point (here, _) =
        none_stands all_kinds.entries at (λ o e. MadtEntryFault q code.OverrideBus e)
        (never, (never, ((λ is. is refl), (never, (never, (never, (never, (never, (never, tt))))))))) here
    none code.ReservedInti at other point (here, _) =
        none_stands all_kinds.entries at (λ o e. MadtEntryFault q code.ReservedInti e) (
          never,
          (
            never,
            (
              (λ is. omega arith),
              ((λ is. omega arith), ((λ is. omega arith), (never, (never, ((λ is. omega arith), (never, tt)))))),
            ),
          ),
        ) here
    none code.GsiPastEnd at other point (here, _) =
        none_stands all_kinds.entries at (λ o e. MadtEntryFault q code.GsiPastEnd e)
        (never, ((λ most. omega arith), (never, (never, (never, (never, (never, (never, (never, tt))))))))) here
    none _ at other point fault = fault.0.2
