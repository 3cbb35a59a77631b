-- The examples of advice on the MCFG, the SPCR, the HMAT and the GTDT, by computing.
use Rattle.std.proofs.Common.{◌≡◌, ℕ, ◌+◌, true, List, [], ◌∷◌, map, take, Some, refl, subst, sym, ◌∙◌, inl, inr, arith}
use Rattle.std.specs.Prelude.{Contains, codes}
use Rattle.std.specs.List.{AllByRecursion}
use Rattle.std.proofs.lemmas.Bool.{both_ways}
use Rattle.std.proofs.lemmas.Option.{none-some, same_Some}
use Rattle.acpi_base.specs.Across.{IsIoApic}
use Rattle.acpi_base.specs.Image.Runs.{lookup}
use Rattle.acpi_base.specs.Listed.{srat_signature}
use Rattle.acpi_base.specs.Memory.{cons_both, run_of}
use Rattle.acpi_base.specs.Number.{field, number_bytes}
use Rattle.acpi_base.specs.Policy.{PolicyValue}
use Rattle.acpi_base.specs.Signature.{has_signature}
use Rattle.acpi_rules.specs.Cases.{gives, has_length, has_type, in_case, is_kind}
use Rattle.acpi_rules.specs.Clauses.{all_hold, holds, passes}
use Rattle.acpi_rules.specs.Fields.{reading}
use Rattle.acpi_rules.specs.Numbers.{GivenIn}
use Rattle.acpi_rules.specs.Rows.{IsGivenByAny, Row, SaidRow, guard_holds, row_said}
use Rattle.acpi_rules.specs.Series.{first_bytes, head_said, kind_in, most_of, said_in, size_in, start_of}
use Rattle.acpi_rules.specs.Sites.{sites_inside, sites_inside_all}
use Rattle.acpi_rules.specs.Terms.{value_number}
use Rattle.acpi_rules.specs.Walks.{cut_from, structures_from}
use Rattle.acpi_rules.specs.declared.numbered.Numbered.{Numbered}
use Rattle.acpi_rules.specs.declared.overlap.Range.TheVariants as range
use Rattle.acpi_lint.specs.Rules.Entries.{alone, entries_give}
use Rattle.acpi_lint.specs.Rules.McfgAdvice.{IsEcam, ecam_of}
use Rattle.acpi_lint.specs.Rules.MissingTables.{IsUnlisted}
use Rattle.acpi_lint.specs.Rules.TimerAdvice.{IsTimerOverlap}
use Rattle.acpi_lint.specs.declared.rows.gtdt.TheConstants.{TIMER_RANGES}
use Rattle.acpi_lint.specs.declared.rows.mcfg.TheConstants.{ECAMS}
use Rattle.acpi_lint.specs.declared.rows.mcfg_fields.TheConstants.{MCFG_ENTRIES}
use Rattle.acpi_examples.specs.Advice.{one_entry, processor}
use Rattle.acpi_examples.specs.AdviceDevices.{two_ecams, header, hmat_bytes, madt_of, AreEcamsOverlapping, AreNamesOpen, AreGsisUnserved, AreTimersOverlapping, AreHmatsAlone, AreNoGtdts, AreDevicesAdvised}
use Rattle.acpi_examples.specs.Rows.{block, entry, frame, patched, timed, watchdog}
use Rattle.acpi_examples.specs.Sets.{rsdp_at, set_of}
use Rattle.acpi_examples.proofs.AdviceFadt.{is_served, not_served, well_formed}
use Rattle.acpi_examples.proofs.AdviceHierarchy.{each_given}
use Rattle.acpi_examples.proofs.AdviceSlots.{unlisted}
use Rattle.acpi_examples.proofs.NamedEntries.{none_stands, never}
use Rattle.acpi_examples.proofs.Sets.{bytes_of_runs, root, root_table, runs, slot_1}
use Rattle.acpi_examples.proofs.TwoRanges.{AreTwoRanges, IsOne, range_of, two_apart, two_overlap}
use Rattle.acpi_base.proofs.Elements.{first_or_later, no_element}
use Rattle.acpi_base.proofs.Root.Slots.{root_slot}

-- ---- ECAMs

-- that of the buses 0 and 1, and those of bus 2
abbrev first : Numbered
first = range_of 44 0x100000 0x2fffff

abbrev near : Numbered
near = range_of 60 0x2fffff 0x3ffffe

abbrev behind : Numbered
behind = range_of 60 0x300000 0x3fffff

-- the ECAM of an entry is the first one, or this one
abbrev IsFirstOr : Numbered → Numbered → Type 0
IsFirstOr b e = (g : Numbered) → ecam_of e ≡ Some g → IsOne range.Last 0 first b 0 g

two_are : (mcfg : List ℕ) (b : Numbered) → AllByRecursion (IsFirstOr b) (entries_give MCFG_ENTRIES ECAMS mcfg)
    → AreTwoRanges range.Last (IsEcam mcfg) 0 first b 0
two_are mcfg b each g (e, given, is) = each_given (IsFirstOr b) MCFG_ENTRIES ECAMS mcfg each e given g is

ecams_overlapping : AreEcamsOverlapping
unfolding field number_bytes gives has_length has_type in_case is_kind all_hold holds passes reading
    first_bytes kind_in most_of size_in start_of value_number structures_from ecam_of
ecams_overlapping = record {
  shared =
      two_overlap range.Last (IsEcam (two_ecams 0xfffff)) 0 first near 0
      (two_are (two_ecams 0xfffff) near
      ((λ g is. inl (sym (same_Some first g is))), ((λ g is. inr (inl (sym (same_Some near g is)))), tt)))
      (range_of 44 0x100000 256, (_, (0, omega arith, refl), refl), refl)
      (range_of 60 0xfffff 514, (_, (1, omega arith, refl), refl), refl)
      (λ same. omega arith) (omega arith) (omega arith) (omega arith);
  apart =
      two_apart range.Last (IsEcam (two_ecams 0x100000)) 0 first behind 0
      (two_are (two_ecams 0x100000) behind
      ((λ g is. inl (sym (same_Some first g is))), ((λ g is. inr (inl (sym (same_Some behind g is)))), tt)))
      (omega arith) (omega arith, omega arith);
}

-- ---- the namespace string

names_open : AreNamesOpen
unfolding field number_bytes
names_open = record {
  unclosed = (refl, refl, refl, λ same. omega (arith, same));
  closed = λ at other point (end, _, is, some).
      let same : at ≡ 89 = sym (same_Some 89 at end) in
      let null : point ≡ 0 = rw same at is in
      some null;
  older = λ at other point (end, _, _, _). none-some at end;
}

-- ---- the GSI

gsis_unserved : (q : PolicyValue) → AreGsisUnserved q
unfolding field number_bytes
gsis_unserved q = record {
  unserved = λ inputs.
      (refl, refl, refl, (((44, (_, (0, omega arith, refl), tt)), not_served q 0 inputs), well_formed 0));
  served = λ inputs at other point (_, _, is, ((_, none), _)). none (is_served q point inputs (same_Some 24 point is));
  gic = λ at other point (_, _, is, _). none-some point is;
  no_io_apic = λ at other point (_, _, _, ((some, _), _)).
      none_stands (one_entry 8 (processor 1)).entries some.0 (λ o e. IsIoApic e) (never, tt) some.1;
  cut = λ at other point (_, _, _, (_, well)). none-some 66 (sym well.0);
}

-- ---- the frames of a GTDT's platform timers

abbrev IsFrame : List ℕ → Numbered → Type 0
IsFrame gtdt = IsGivenByAny (map row_said TIMER_RANGES.now) (alone gtdt)

-- what is computed of all that a row gives holds of each
abbrev AllGiven : (Numbered → Type 0) → List ℕ → SaidRow → Type 0
AllGiven P gtdt row = AllByRecursion P (entries_give row.3.0.now row.3.1 gtdt)

each_frame : (P : Numbered → Type 0) (gtdt : List ℕ)
    → AllByRecursion (AllGiven P gtdt) TIMER_RANGES.now → (g : Numbered)
    → IsFrame gtdt g → P g
each_frame P gtdt each g (row, listed, (_, (given, _))) = of TIMER_RANGES.now each listed
  where
    of : (rows : List SaidRow) → AllByRecursion (AllGiven P gtdt) rows → Contains (map row_said rows) row → P g
    of [] each listed = absurd (no_element row listed)
    of (r ∷ rows) each listed =
        elim (first_or_later (row_said r) row (map row_said rows) listed) [
          | inl same ↦
              each_given P r.3.0.now r.3.1 gtdt each.0 g
              (subst (λ (x : Row). GivenIn (alone gtdt) x.numbers.path x.numbers.cases g) (sym same) given)
          | inr later ↦ of rows each.1 later
        ]

-- a range of 4096 addresses
abbrev page : ℕ → ℕ → Numbered
page at start = range_of at start 0x1000

overlapping : (gtdt : List ℕ) (at start other : ℕ)
    → AllByRecursion (AllGiven (IsOne range.Count 0 (page at start) (page other (start + 4095)) 0) gtdt)
    TIMER_RANGES.now
    → IsFrame gtdt (page at start) → IsFrame gtdt (page other (start + 4095)) → ¬ (at ≡ other)
    → IsTimerOverlap gtdt at other (start + 4095)
overlapping gtdt at start other two one second differ =
    two_overlap range.Count (IsFrame gtdt) 0 (page at start) (page other (start + 4095)) 0
    (each_frame (IsOne range.Count 0 (page at start) (page other (start + 4095)) 0) gtdt two) one second differ
    (omega arith) (omega arith) (omega arith)

timers_overlapping : AreTimersOverlapping
unfolding field number_bytes gives has_length has_type in_case is_kind all_hold holds passes reading guard_holds
    first_bytes head_said kind_in most_of said_in size_in start_of value_number structures_from sites_inside
    sites_inside_all
timers_overlapping = record {
  of_watchdog =
      overlapping (timed (watchdog 0x2000 0x2fff 0 ∷ [])) 108 0x2000 116
      ((inl refl, tt), ((inr (inl refl), tt), (tt, (tt, tt)))) (
        _,
        (0, omega arith, refl),
        (refl, ((_, (0, omega arith, refl), refl), λ (h, (u, here, given), same). none-some h given)),
      ) (
        _,
        (1, omega arith, refl),
        (refl, ((_, (0, omega arith, refl), refl), λ (h, (u, here, given), same). none-some h given)),
      )
      (λ same. omega arith);
  of_block =
      overlapping (timed (patched 4 (0xff ∷ 0x2f ∷ []) (block (frame 0 0x2000 0 0 ∷ [])) ∷ [])) 128 0x2000 108
      ((inr (inl refl), tt), (tt, ((inl refl, tt), (tt, tt)))) (
        _,
        (2, omega arith, refl),
        (refl, ((_, (0, omega arith, refl), refl), λ (h, (u, here, given), same). none-some h given)),
      ) (
        _,
        (0, omega arith, refl),
        (refl, ((_, (0, omega arith, refl), refl), λ (h, (u, here, given), same). none-some h given)),
      )
      (λ same. omega arith);
  of_frame =
      overlapping (timed (block (patched 12 (0xff ∷ 0x2f ∷ []) (frame 0 0x2000 0 0) ∷ []) ∷ [])) 128 0x2000 136
      (tt, (tt, ((inl refl, tt), ((inr (inl refl), tt), tt)))) (
        _,
        (2, omega arith, refl),
        (refl, ((_, (0, omega arith, refl), refl), λ (h, (u, here, given), same). none-some h given)),
      ) (
        _,
        (3, omega arith, refl),
        (refl, ((_, (0, omega arith, refl), refl), λ (h, (u, here, given), same). none-some h given)),
      )
      (λ same. omega arith);
  apart =
      let gtdt = timed (watchdog 0x2000 0x3000 0 ∷ []) in
      two_apart range.Count (IsFrame gtdt) 0 (page 108 0x2000) (page 116 0x3000) 0
      (each_frame (IsOne range.Count 0 (page 108 0x2000) (page 116 0x3000) 0) gtdt
      ((inl refl, tt), ((inr (inl refl), tt), (tt, (tt, tt)))))
      (omega arith) (omega arith, omega arith);
  none = λ at other point (g, f, is, _, _). each_frame (λ g. ⊥) _ (tt, (tt, (tt, (tt, tt)))) g is.shared.one;
  not_full = λ at other point (g, f, is, _, _). each_frame (λ g. ⊥) _ (tt, (tt, (tt, (tt, tt)))) g is.shared.one;
}

-- ---- tables that are not listed

-- the second of two tables is listed
is_listed : (one other signature : List ℕ) → run_of (lookup (runs one other)) 0x3000 36 ≡ Some (take 36 other)
    → has_signature (take 36 other) signature ≡ true → ¬ IsUnlisted (set_of one other) rsdp_at signature
is_listed one other signature present signed none =
    none 1 0x3000 (root_slot (root one other) (root_table one other) slot_1)
    (record { header = take 36 other; header_present = bytes_of_runs one other 0x3000 36 ∙ present; signed = signed })

hmats_alone : AreHmatsAlone
unfolding run_of cons_both has_signature
hmats_alone = record {
  alone = (
    unlisted hmat_bytes (header (codes "GTDT")) srat_signature refl refl refl refl,
    (refl, refl, refl),
  );
  listed = λ at other point (none, _). is_listed hmat_bytes (header srat_signature) srat_signature refl refl none;
}

no_gtdts : AreNoGtdts
unfolding run_of cons_both has_signature field gives has_length has_type in_case is_kind all_hold holds passes
    reading guard_holds
    first_bytes head_said kind_in most_of said_in size_in start_of value_number cut_from structures_from
no_gtdts = record {
  missing = (
    unlisted (madt_of (entry 11 5)) (header (codes "HMAT")) (codes "GTDT") refl refl refl refl,
    record {
      about = refl;
      broken = ((_, (0, omega arith, refl), refl), λ (g, (s, here, given), same). none-some g given);
    },
  );
  listed = λ at other point (none, _).
      is_listed (madt_of (entry 11 5)) (header (codes "GTDT")) (codes "GTDT") refl refl none;
  no_gicc = λ at other point (_, broken). both_ways _ refl broken.about;
  cut = λ at other point (_, broken). both_ways _ refl broken.about;
  unread = λ at other point (_, broken). both_ways _ refl broken.about;
}

pub devices_advised : (q : PolicyValue) → AreDevicesAdvised q
devices_advised q = record {
  ecams = ecams_overlapping;
  names = names_open;
  gsis = gsis_unserved q;
  timers = timers_overlapping;
  hmats = hmats_alone;
  gtdts = no_gtdts;
}
