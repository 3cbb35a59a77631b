-- The examples of the SRAT, by computing.
use Rattle.std.proofs.Common.{◌≡◌, ℕ, ◌<◌, [], ◌∷◌, refl, sym, ◌∙◌, subst, inl, inr, arith}
use Rattle.std.specs.Prelude.{◌≢◌}
use Rattle.std.proofs.lemmas.Option.{none-some}
use Rattle.std.proofs.lemmas.Bool.{both_ways, cases_lt}
use Rattle.acpi_base.specs.Number.{field, byte_sum, has_bit}
use Rattle.acpi_base.specs.Listed.{srat_signature}
use Rattle.acpi_base.specs.Entries.{first_entry, entries_from, entries_of, end_of_entries, cut_of, has_form}
use Rattle.acpi_base.specs.Overlaps.{IsIntervalOverlap, ComesBefore}
use Rattle.acpi_base.specs.Srat.{MemoryValue, CoversFrom, Covers, IsAny, IsHotPluggable, IsNotHotPluggable, SratContents, srat_entry, srat_contents, SratFault, SratEntryFault, RangeFault, IsFirstOverlap}
use Rattle.acpi_examples.specs.Tables.{table}
use Rattle.acpi_examples.specs.Srats.{AreSratContents, AreSratFaults, AreFirstOverlaps, HasNoSratFault, example_srats, two_processors, four_ranges, overlapping_ranges, hot_ranges, faulty_srat}
use Rattle.acpi_base.specs.declared.policy.HotPlug.{HotPlug}
use Rattle.acpi_base.specs.declared.policy.HotPlug.TheVariants.{Counted, Apart}
use Rattle.acpi_base.specs.declared.code.Code.{Code}
use Rattle.acpi_base.specs.declared.code.Code.TheVariants as code
use Rattle.acpi_examples.proofs.NamedEntries.{each_entry, none_at, none_stands, never, all_valid}

pub srat_said : AreSratContents
unfolding first_entry entries_from entries_of end_of_entries cut_of has_form field byte_sum srat_entry srat_contents
srat_said = record {
  valid = all_valid example_srats refl;
  processors_say = refl;
  ranges_say = refl;
  overlapping_say = refl;
  hot_ranges_say = refl;
  faulty_says = refl;
}

short_srat : SratFault (srat_contents (table srat_signature 40 1 8 (1 ∷ 0 ∷ 0 ∷ 0 ∷ []))) code.SratShort 0 0 0
unfolding srat_contents
short_srat = (omega arith, refl, (refl, refl))

-- ---- overlaps

abbrev overlap : {P : MemoryValue → Type 0} (c : SratContents) {at other point : ℕ} (s t : ℕ) → Covers P c at s point
    → Covers P c other t point → at ≢ other → IsIntervalOverlap (Covers P c) at other point
overlap c s t one other two = record { s = s; t = t; one_holds = one; other_holds = other; two = two }

exchanged : (P : MemoryValue → Type 0) (c : SratContents) {at other point : ℕ}
    → IsIntervalOverlap (Covers P c) at other point → IsIntervalOverlap (Covers P c) other at point
exchanged P c it = overlap {P = P} c it.t it.s it.other_holds it.one_holds (λ same. it.two (sym same))

any_overlap : IsIntervalOverlap (Covers IsAny four_ranges) 0x80 0xa8 0x3fffffff
unfolding has_bit
any_overlap =
    overlap four_ranges 0x100000 0x3fffffff (_, (2, omega arith, refl), (refl, tt, refl, omega arith, omega arith))
    (_, (3, omega arith, refl), (refl, tt, refl, omega arith, omega arith)) (λ same. omega arith)

plain_overlap : IsIntervalOverlap (Covers IsNotHotPluggable four_ranges) 0x80 0xa8 0x3fffffff
unfolding has_bit
plain_overlap =
    overlap four_ranges 0x100000 0x3fffffff (_, (2, omega arith, refl), (refl, refl, refl, omega arith, omega arith))
    (_, (3, omega arith, refl), (refl, refl, refl, omega arith, omega arith)) (λ same. omega arith)

first_overlap : RangeFault Counted overlapping_ranges code.Overlap 0x58 0x30 0x1000
unfolding has_bit
first_overlap = (
  omega arith,
  overlap overlapping_ranges 0 0x1000 (_, (1, omega arith, refl), (refl, tt, refl, omega arith, omega arith))
      (_, (0, omega arith, refl), (refl, tt, refl, omega arith, omega arith)) (λ same. omega arith),
)

counted_overlap : RangeFault Counted hot_ranges code.Overlap 0x30 0x80 0
unfolding has_bit
counted_overlap = (
  omega arith,
  overlap hot_ranges 0 0 (_, (0, omega arith, refl), (refl, tt, refl, omega arith, omega arith))
      (_, (2, omega arith, refl), (refl, tt, refl, omega arith, omega arith)) (λ same. omega arith),
)

apart_overlap : RangeFault Apart hot_ranges code.Overlap 0x80 0xa8 0
unfolding has_bit
apart_overlap = (
  omega arith,
  inl (overlap hot_ranges 0 0 (_, (2, omega arith, refl), (refl, refl, refl, omega arith, omega arith))
      (_, (3, omega arith, refl), (refl, refl, refl, omega arith, omega arith)) (λ same. omega arith)),
)

mixed_overlap : ¬ RangeFault Apart hot_ranges code.Overlap 0x30 0x80 0
unfolding has_bit
mixed_overlap (fits, inl it) =
    none_at hot_ranges.entries 0x30 (CoversFrom IsNotHotPluggable it.s 0) (
      λ h. both_ways _ h.1.1 refl,
      (λ h. both_ways _ h.1.1 refl, (λ h. omega (arith, h.0), (λ h. omega (arith, h.0), tt))),
    ) it.one_holds
mixed_overlap (fits, inr it) =
    none_at hot_ranges.entries 0x80 (CoversFrom IsHotPluggable it.t 0) (
      λ h. omega (arith, h.0),
      (
        λ h. omega (arith, h.0),
        (λ h. both_ways _ refl h.1.1, (λ h. both_ways _ refl h.1.1, tt)),
      ),
    ) it.other_holds

past_end : SratFault faulty_srat code.RangePastEnd 0x40 0 0
unfolding has_bit
past_end = ((_, (1, omega arith, refl), (refl, omega arith)), (refl, refl))

overlaps : (h : HotPlug) → RangeFault h four_ranges code.Overlap 0x80 0xa8 0x3fffffff
overlaps Counted = (omega arith, any_overlap)
overlaps Apart = (omega arith, inl plain_overlap)

overlaps_too : (h : HotPlug) → RangeFault h four_ranges code.Overlap 0xa8 0x80 0x3fffffff
overlaps_too Counted = (omega arith, exchanged IsAny four_ranges any_overlap)
overlaps_too Apart = (omega arith, inl (exchanged IsNotHotPluggable four_ranges plain_overlap))

pub srat_faults : AreSratFaults
srat_faults = record {
  short = short_srat;
  cut = rw srat_said.faulty_says (refl, (refl, refl));
  size = rw srat_said.faulty_says ((_, (0, omega arith, refl), inr (inl refl)), (refl, refl));
  past_end = rw srat_said.faulty_says past_end;
  overlap = λ h. rw srat_said.ranges_say (overlaps h);
  exchanged = λ h. rw srat_said.ranges_say (overlaps_too h);
  least = rw srat_said.overlapping_say first_overlap;
  counted = rw srat_said.hot_ranges_say counted_overlap;
  apart = rw srat_said.hot_ranges_say apart_overlap;
  not_mixed = rw srat_said.hot_ranges_say mixed_overlap;
}

-- ---- which overlap is reported

first_addresses : IsFirstOverlap Counted overlapping_ranges 0x58 0x30 0x1000
unfolding first_overlap
first_addresses = record {
  overlap = first_overlap.1;
  in_order = inl (omega arith);
  others_after =
      λ p u here not_at not_other. each_entry overlapping_ranges.entries
      (λ p e. p ≢ 0x58 → p ≢ 0x30 → CoversFrom IsAny u 0x1000 e → ComesBefore 0x1000 0x30 u p) (
        (λ _ not_other _. absurd (not_other refl)),
        ((λ not_at _ _. absurd (not_at refl)), ((λ _ _ covers. inr (covers.2, omega arith)), tt)),
      ) p here.0 here.1
      not_at not_other here.2;
  least = λ o p x it. elim (cases_lt x 0x1000) [
    | inr most ↦ most
    | inl less ↦ absurd (it.two (only x less o it.s it.one_holds ∙ sym (only x less p it.t it.other_holds)))
  ];
}
  where
    only : (x : ℕ) → x < 0x1000 → (o s : ℕ) → Covers IsAny overlapping_ranges o s x → o ≡ 0x58
    only x less o s here =
        each_entry overlapping_ranges.entries (λ o e. CoversFrom IsAny s x e → o ≡ 0x58) (
          (λ covers. absurd (omega (arith, covers.2, covers.3))),
          ((λ _. refl), ((λ covers. absurd (omega (arith, covers.2, covers.3))), tt)),
        ) o here.0 here.1 here.2

first_counted : IsFirstOverlap Counted hot_ranges 0x30 0x58 0
unfolding has_bit
first_counted = record {
  overlap = overlap hot_ranges 0 0 (_, (0, omega arith, refl), (refl, tt, refl, omega arith, omega arith))
      (_, (1, omega arith, refl), (refl, tt, refl, omega arith, omega arith)) (λ same. omega arith);
  in_order = inr (refl, omega arith);
  others_after =
      λ p u here not_at not_other. each_entry hot_ranges.entries
      (λ p e. p ≢ 0x30 → p ≢ 0x58 → CoversFrom IsAny u 0 e → ComesBefore 0 0x58 u p) (
        (λ not_at _ _. absurd (not_at refl)),
        (
          (λ _ not_other _. absurd (not_other refl)),
          ((λ _ _ covers. inr (covers.2, omega arith)), ((λ _ _ covers. inr (covers.2, omega arith)), tt)),
        ),
      ) p here.0
      here.1 not_at not_other here.2;
  least = λ o p x it. omega arith;
}

first_apart : IsFirstOverlap Apart hot_ranges 0x80 0xa8 0
unfolding has_bit
first_apart = inl (
  record {
    overlap = overlap hot_ranges 0 0 (_, (2, omega arith, refl), (refl, refl, refl, omega arith, omega arith))
        (_, (3, omega arith, refl), (refl, refl, refl, omega arith, omega arith)) (λ same. omega arith);
    in_order = inr (refl, omega arith);
    others_after =
        λ p u here not_at not_other. each_entry hot_ranges.entries
        (λ p e. p ≢ 0x80 → p ≢ 0xa8 → CoversFrom IsNotHotPluggable u 0 e → ComesBefore 0 0xa8 u p) (
          (λ _ _ covers. absurd (both_ways _ covers.1 refl)),
          (
            (λ _ _ covers. absurd (both_ways _ covers.1 refl)),
            ((λ not_at _ _. absurd (not_at refl)), ((λ _ not_other _. absurd (not_other refl)), tt)),
          ),
        ) p here.0 here.1
        not_at not_other here.2;
    least = λ o p x it. omega arith;
  },
  λ o p x it. omega arith,
)

pub first_overlaps : AreFirstOverlaps
first_overlaps = record { addresses = first_addresses; counted = first_counted; apart = first_apart }

-- ---- an SRAT without a fault

pub no_srat_fault : HasNoSratFault
no_srat_fault fault at other point =
    subst (λ (c : SratContents). ¬ SratFault c fault at other point) (sym srat_said.processors_say)
    (none fault at other point)
  where
    none : (fault : Code) (at other point : ℕ) → ¬ SratFault two_processors fault at other point
    none code.SratShort at other point (short, _, _) = omega arith
    none code.SratEntryCut at other point (cut, _) = none-some at cut
    none code.SratEntryLength at other point (here, _) =
        none_stands two_processors.entries at (λ o e. SratEntryFault code.SratEntryLength e) (never, (never, tt)) here
    none code.RangePastEnd at other point (here, _) =
        none_stands two_processors.entries at (λ o e. SratEntryFault code.RangePastEnd e) (never, (never, tt)) here
    none _ at other point fault = fault.0.2
