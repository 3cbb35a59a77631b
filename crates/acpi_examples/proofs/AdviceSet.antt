-- The examples of advice on what the RSDP, the root tables and the FADT name, by computing.
use Rattle.std.proofs.Common.{◌≡◌, ◌≢◌, ℕ, zero, suc, ◌+◌, ◌*◌, ◌<◌, ◌≤◌, ◌==◌, ◌&&◌, nat_le, Bool, true, false, List, [], ◌∷◌, length, take, drop, Option, Some, None, refl, sym, ap, subst, ◌∙◌, inl, inr, arith}
use Rattle.std.specs.Prelude.{◌++◌, ◌⊎◌, not, nat_lt, slice_index, codes, replicate}
use Rattle.std.specs.List.{cons_option}
use Rattle.std.proofs.lemmas.Bool.{both_ways, and_parts, cases_eq, cases_lt}
use Rattle.std.proofs.lemmas.Bool.Decides.{nat_tests}
use Rattle.std.proofs.lemmas.Option.{none-some}
use Rattle.acpi_base.specs.Facs.{IsFacs}
use Rattle.acpi_base.specs.Fadt.{has_flag, wide_address}
use Rattle.acpi_base.specs.Frames.{IsFrame}
use Rattle.acpi_base.specs.Image.Runs.{lookup, memory_of}
use Rattle.acpi_base.specs.Memory.{run_of, cons_both, bytes_at}
use Rattle.acpi_base.specs.Number.{field, byte_sum, has_bit}
use Rattle.acpi_base.specs.Root.{chosen_root, IsRoot, IsRootTable, HasSlot, IsSlot}
use Rattle.acpi_base.specs.Rsdp.{addresses_at}
use Rattle.acpi_base.specs.Signature.{has_signature}
use Rattle.acpi_base.specs.Tables.{table_frame}
use Rattle.acpi_base.specs.declared.frame.Question.TheVariants as question
use Rattle.acpi_lint.specs.Rules.HeaderAdvice.{IsNoText, IsOddField, IsOddOem, is_once, once_signatures, signature_number, ListsNumber}
use Rattle.acpi_lint.specs.Rules.NamedAdvice.{IsBrokenDsdt, IsOddFacs}
use Rattle.acpi_lint.specs.Rules.FixedFields.{IsUsed}
use Rattle.acpi_lint.specs.Rules.RootAdvice.{IsOddRoot, IsNullIn, listed_signature, listed_signatures, times_in, IsXsdt, IsNamedRsdt}
use Rattle.acpi_lint.specs.Rules.Slots.{dsdt_signature}
use Rattle.acpi_examples.specs.AdviceSet.{oem_of, named_rsdp, short_rsdp, sized_rsdp, long_rsdp, rsdp_runs, one_xsdt, both_runs, no_rsdt_slot, late_rsdt_slot, cut_rsdt, same_rsdt, rsdt_runs, plain_header, odd_header, two_tables, header_of_oem, named_rsdt, named_root, named_runs, header_runs, dsdt_runs, flagged_facs, facs_runs, AreRootsAdvised, AreRsdpsAdvised, AreHeadersAdvised, AreNamedAdvised, AreSetsAdvised}
use Rattle.acpi_examples.specs.AdviceSlots.{twice_bytes}
use Rattle.acpi_examples.specs.Sets.{rsdp_at, rsdt_bytes, set_of, uid_bytes, new_leaf_bytes}
use Rattle.acpi_examples.specs.Tables.{table}
use Rattle.acpi_examples.proofs.AdviceSlots.{in_two, twice_root, twice_table}
use Rattle.acpi_examples.proofs.Sets.{bytes_of_runs, root_table_of, root, root_table, slot_0, slot_1}
use Rattle.acpi_base.proofs.Frames.{one_frame, stands_wrong}
use Rattle.acpi_base.proofs.Images.RunMemory.{bytes_at_present as bytes_in}
use Rattle.acpi_base.proofs.Options.{same_value}
use Rattle.acpi_base.proofs.Root.Named.{of_root, one_root_table}
use Rattle.acpi_base.proofs.Root.Slots.{root_slot, slot_of_root}

-- ---- bytes that are all of a kind

-- whether this many numbers from one on pass a test
abbrev all_pass : (ℕ → Bool) → ℕ → ℕ → Bool
all_pass test start zero = true
all_pass test start (suc n) = test start && all_pass test (suc start) n

passes_at : (test : ℕ → Bool) (start n at : ℕ) → all_pass test start n ≡ true → start ≤ at → at < start + n
    → test at ≡ true
passes_at test start zero at are from below = absurd (omega (arith, from, below))
passes_at test start (suc n) at are from below =
    let (here, more) = and_parts (test start) (all_pass test (suc start) n) are in
    elim (cases_eq at start) [
      | inl same ↦ rw same here
      | inr differs ↦ passes_at test (suc start) n at more (omega (arith, from, differs)) (omega (arith, below))
    ]

is_zero : (k : ℕ) → (k == 0) ≡ true → k ≡ 0
is_zero k is = grind (arith, nat_tests)

abbrev zeros : List ℕ → ℕ → ℕ → Bool
zeros bytes start n = all_pass (λ at. field bytes at 1 == 0) start n

none_used : (bytes : List ℕ) (start n end at other point : ℕ) → start + n ≡ end → zeros bytes start n ≡ true
    → ¬ IsUsed bytes start end at other point
none_used bytes start n end at other point size is (from, below, unused, here, some) =
    some (here ∙ is_zero (field bytes at 1)
    (passes_at (λ at. field bytes at 1 == 0) start n at is from (omega (arith, size, below))))

-- ---- text

abbrev is_letter : ℕ → Bool
is_letter k = nat_le 32 k && nat_le k 126

-- this many letters, and this many zeros behind them
is_text : (text : List ℕ) (n m : ℕ) → length text ≡ n + m → all_pass (λ i. is_letter (slice_index text i)) 0 n ≡ true
    → all_pass (λ i. slice_index text i == 0) n m ≡ true → ¬ IsNoText text
is_text text n m size letters others it =
    elim (cases_lt it.i n) [
      | inl before ↦
          of (slice_index text it.i)
          (passes_at (λ i. is_letter (slice_index text i)) 0 n it.i letters (omega arith) (omega (arith, before)))
          it.odd
      | inr behind ↦
          it.used (is_zero (slice_index text it.j)
          (passes_at (λ i. slice_index text i == 0) n m it.j others (omega (arith, behind, it.order))
          (omega (arith, it.inside, size))))
    ]
  where
    of : (k : ℕ) → is_letter k ≡ true → ¬ ((k < 32) ⊎ (126 < k))
    of k is odd = grind (arith, nat_tests)

-- byte i is no letter, and byte j, the same or a later one, is not 0
abbrev is_odd : List ℕ → ℕ → ℕ → Bool
is_odd text i j =
    (nat_le i j && nat_lt j (length text)) && (not (is_letter (slice_index text i)) && not (slice_index text j == 0))

no_text : (text : List ℕ) (i j : ℕ) → is_odd text i j ≡ true → IsNoText text
no_text text i j is =
    let (order, inside, odd, used) = of (length text) (slice_index text i) (slice_index text j) is in
    record { i = i; j = j; order = order; inside = inside; odd = odd; used = used }
  where
    of : (n k l : ℕ) → ((nat_le i j && nat_lt j n) && (not (is_letter k) && not (l == 0))) ≡ true
        → (i ≤ j) × (j < n) × ((k < 32) ⊎ (126 < k)) × (l ≢ 0)
    of n k l is = grind (arith, nat_tests)

no_odd_oem : (header : List ℕ) (at other point : ℕ) → take 6 (drop 10 header) ≡ oem_of 0x41
    → take 8 (drop 16 header) ≡ replicate 8 0x41 → take 4 (drop 28 header) ≡ replicate 4 0
    → ¬ IsOddOem header at other point
no_odd_oem header at other point oem table_id creator odd =
    elim odd [
      | inl it ↦ is_text (oem_of 0x41) 3 3 refl refl refl (subst IsNoText oem it.3)
      | inr (inl it) ↦ is_text (replicate 8 0x41) 8 0 refl refl refl (subst IsNoText table_id it.3)
      | inr (inr it) ↦ is_text (replicate 4 0) 0 4 refl refl refl (subst IsNoText creator it.3)
    ]

-- ---- root tables

two_slots : (k : ℕ) → 36 + 4 * (k + 1) ≤ 44 → (k ≡ 0) ⊎ (k ≡ 1)
two_slots zero inside = inl refl
two_slots (suc zero) inside = inr refl
two_slots (suc (suc k)) inside = absurd (omega (arith, inside))

none_null : (at other point : ℕ) → ¬ IsNullIn rsdt_bytes 4 at other point
unfolding field
none_null at other point (inside, null, unused) =
    elim (two_slots at inside) [
      | inl first ↦ (let here : 0x2000 ≡ 0 = rw first at null in omega (arith, here))
      | inr second ↦ (let here : 0x3000 ≡ 0 = rw second at null in omega (arith, here))
    ]

-- an RSDT alone
rsdt_root : (rsdt bytes : List ℕ) → IsRoot (memory_of (rsdt_runs rsdt bytes)) rsdp_at 0x1000 4
unfolding run_of cons_both addresses_at chosen_root field
rsdt_root rsdt bytes =
    record { named = record { rsdt = 0x1000; xsdt = 0 }; read = rw present refl; chosen = refl }
  where
    present : bytes_at (memory_of (rsdt_runs rsdt bytes)) rsdp_at 20 ≡ Some (short_rsdp 0)
    present = bytes_in (rsdt_runs rsdt bytes) rsdp_at 20

cut_table : IsRootTable (memory_of (rsdt_runs cut_rsdt [])) 0x1000 4 cut_rsdt
unfolding run_of cons_both has_signature field
cut_table =
    root_table_of cut_rsdt (bytes_in (rsdt_runs cut_rsdt []) 0x1000 36) (omega arith)
    (bytes_in (rsdt_runs cut_rsdt []) 0x1000 39) refl

named_table : (revision byte : ℕ) → IsRootTable (named_root revision byte) 0x1000 4 (named_rsdt revision byte)
unfolding run_of cons_both has_signature field
named_table revision byte =
    let runs = rsdt_runs (named_rsdt revision byte) [] in
    root_table_of (named_rsdt revision byte) (bytes_in runs 0x1000 36) (omega arith) (bytes_in runs 0x1000 36) refl

none_odd_root : (at other point : ℕ) → ¬ IsOddRoot (named_rsdt 1 0x41) 4 at other point
unfolding field
none_odd_root at other point (inl (place, unused, is, differs)) = differs is
none_odd_root at other point (inr odd) = no_odd_oem (named_rsdt 1 0x41) at other point refl refl refl odd

same_table : (bytes : List ℕ) → IsRootTable (memory_of (rsdt_runs same_rsdt bytes)) 0x1000 4 same_rsdt
unfolding run_of cons_both has_signature field
same_table bytes =
    root_table_of same_rsdt (bytes_in (rsdt_runs same_rsdt bytes) 0x1000 36) (omega arith)
    (bytes_in (rsdt_runs same_rsdt bytes) 0x1000 44) refl

same_slot : (bytes : List ℕ) (k a : ℕ) → IsSlot (memory_of (rsdt_runs same_rsdt bytes)) rsdp_at k a → a ≡ 0x2000
unfolding field
same_slot bytes k a slot =
    of k (slot_of_root (memory_of (rsdt_runs same_rsdt bytes)) rsdp_at 0x1000 4 k a same_rsdt
    (rsdt_root same_rsdt bytes) (same_table bytes) slot)
  where
    of : (k : ℕ) → HasSlot same_rsdt 4 k a → a ≡ 0x2000
    of zero slot = sym slot.address
    of (suc zero) slot = sym slot.address
    of (suc (suc k)) slot = absurd (omega (arith, slot.inside))

both_root : (rsdt : List ℕ) → IsRoot (memory_of (both_runs rsdt)) rsdp_at 0x1000 8
unfolding run_of cons_both addresses_at chosen_root field
both_root rsdt =
    record {
      named = record { rsdt = 0x2000; xsdt = 0x1000 };
      read = rw (present, long) refl;
      chosen = refl;
    }
  where
    present : bytes_at (memory_of (both_runs rsdt)) rsdp_at 20 ≡ Some (take 20 (long_rsdp 0))
    present = bytes_in (both_runs rsdt) rsdp_at 20

    long : bytes_at (memory_of (both_runs rsdt)) rsdp_at 36 ≡ Some (long_rsdp 0)
    long = bytes_in (both_runs rsdt) rsdp_at 36

both_xsdt : (rsdt : List ℕ) → IsXsdt (memory_of (both_runs rsdt)) rsdp_at one_xsdt
unfolding run_of cons_both has_signature field
both_xsdt rsdt =
    record {
      r = 0x1000;
      root = both_root rsdt;
      table =
          root_table_of one_xsdt (bytes_in (both_runs rsdt) 0x1000 36) (omega arith)
          (bytes_in (both_runs rsdt) 0x1000 44)
          refl;
    }

no_slot_rsdt : IsNamedRsdt (memory_of (both_runs no_rsdt_slot)) rsdp_at no_rsdt_slot
unfolding run_of cons_both has_signature field
no_slot_rsdt =
    record {
      rsdp = long_rsdp 0;
      present = bytes_in (both_runs no_rsdt_slot) rsdp_at 36;
      named = λ same. (let here : 0x2000 ≡ 0 = same in omega (arith, here));
      table =
          root_table_of no_rsdt_slot (bytes_in (both_runs no_rsdt_slot) 0x2000 36) (omega arith)
          (bytes_in (both_runs no_rsdt_slot) 0x2000 36) refl;
    }

late_rsdt : IsNamedRsdt (memory_of (both_runs late_rsdt_slot)) rsdp_at late_rsdt_slot
unfolding run_of cons_both has_signature field
late_rsdt =
    record {
      rsdp = long_rsdp 0;
      present = bytes_in (both_runs late_rsdt_slot) rsdp_at 36;
      named = λ same. (let here : 0x2000 ≡ 0 = same in omega (arith, here));
      table =
          root_table_of late_rsdt_slot (bytes_in (both_runs late_rsdt_slot) 0x2000 36) (omega arith)
          (bytes_in (both_runs late_rsdt_slot) 0x2000 44) refl;
    }

-- what each address leads to
ssdt : (rsdt : List ℕ) → listed_signature (memory_of (both_runs rsdt)) 0x3000 ≡ Some 0x54445353
unfolding listed_signature run_of cons_both field
ssdt rsdt = rw present refl
  where
    present : bytes_at (memory_of (both_runs rsdt)) 0x3000 4 ≡ Some (codes "SSDT")
    present = bytes_in (both_runs rsdt) 0x3000 4

nothing : (rsdt : List ℕ) → listed_signature (memory_of (both_runs rsdt)) 0 ≡ None
unfolding listed_signature
nothing rsdt = refl

of_xsdt : (rsdt : List ℕ) → listed_signatures (memory_of (both_runs rsdt)) one_xsdt 8 ≡ 0x54445353 ∷ []
unfolding field
of_xsdt rsdt = ap (λ (o : Option ℕ). cons_option o []) (ssdt rsdt)

of_late : listed_signatures (memory_of (both_runs late_rsdt_slot)) late_rsdt_slot 4 ≡ 0x54445353 ∷ []
unfolding field
of_late =
    ap (λ (o : Option ℕ). cons_option o (cons_option
    (listed_signature (memory_of (both_runs late_rsdt_slot)) 0x3000) []))
    (nothing late_rsdt_slot)
    ∙ ap (λ (o : Option ℕ). cons_option o []) (ssdt late_rsdt_slot)

same_lists : (at other point : ℕ) (xsdt rsdt : List ℕ) → IsXsdt (memory_of (both_runs late_rsdt_slot)) rsdp_at xsdt
    → IsNamedRsdt (memory_of (both_runs late_rsdt_slot)) rsdp_at rsdt
    → times_in (listed_signatures (memory_of (both_runs late_rsdt_slot)) xsdt 8) point
    ≡ times_in (listed_signatures (memory_of (both_runs late_rsdt_slot)) rsdt 4) point
same_lists at other point xsdt rsdt wide narrow =
    let one : xsdt ≡ one_xsdt =
    one_root_table xsdt one_xsdt wide.root (both_xsdt late_rsdt_slot).root wide.table
    (both_xsdt late_rsdt_slot).table in
    let place : narrow.rsdp ≡ late_rsdt.rsdp = same_value narrow.rsdp late_rsdt.rsdp narrow.present late_rsdt.present in
    let moved = subst (λ (b : List ℕ). IsRootTable (memory_of (both_runs late_rsdt_slot)) (field b 16 4) 4 rsdt) place
    narrow.table in
    let two : rsdt ≡ late_rsdt_slot = one_frame moved.table late_rsdt.table.table in
    ap (λ (b : List ℕ). times_in (listed_signatures (memory_of (both_runs late_rsdt_slot)) b 8) point) one
    ∙ ap (λ (ns : List ℕ). times_in ns point) (of_xsdt late_rsdt_slot ∙ sym of_late)
    ∙ sym (ap (λ (b : List ℕ). times_in (listed_signatures (memory_of (both_runs late_rsdt_slot)) b 4) point) two)

roots_advised : AreRootsAdvised
unfolding field
roots_advised = record {
  null = record {
    r = 0x1000;
    d = 4;
    whole = twice_bytes;
    root = twice_root;
    table = twice_table;
    holds = (omega arith, refl, (refl, refl));
  };
  no_null = λ at other point it.
      none_null at other point
      (of_root (λ d whole. IsNullIn whole d at other point) it.root (root uid_bytes new_leaf_bytes) it.table
      (root_table uid_bytes new_leaf_bytes) it.holds);
  cut = λ at other point it.
      let null = of_root (λ d whole. IsNullIn whole d at other point) it.root (rsdt_root cut_rsdt []) it.table cut_table
      it.holds in
      let inside : 36 + 4 * (at + 1) ≤ 39 = null.0 in
      omega (arith, inside);
  differs = (
    refl,
    refl,
    (
      one_xsdt,
      no_rsdt_slot,
      both_xsdt no_rsdt_slot,
      no_slot_rsdt,
      λ same. (let one : 1 ≡ 0 =
          sym (ap (λ (ns : List ℕ). times_in ns 0x54445353) (of_xsdt no_rsdt_slot)) ∙ same in omega (arith, one)),
    ),
  );
  same = λ at other point (place, unused, (xsdt, rsdt, wide, narrow, differ)).
      differ (same_lists at other point xsdt rsdt wide narrow);
  revision = record {
    r = 0x1000;
    d = 4;
    whole = named_rsdt 2 0x41;
    root = rsdt_root (named_rsdt 2 0x41) [];
    table = named_table 2 0x41;
    holds = inl (refl, refl, refl, (λ same. omega (arith, same)));
  };
  text = record {
    r = 0x1000;
    d = 4;
    whole = named_rsdt 1 0;
    root = rsdt_root (named_rsdt 1 0) [];
    table = named_table 1 0;
    holds = inr (inl (refl, refl, refl, no_text (oem_of 0) 1 2 refl));
  };
  plain = λ at other point it.
      none_odd_root at other point
      (of_root (λ d whole. IsOddRoot whole d at other point) it.root (rsdt_root (named_rsdt 1 0x41) []) it.table
      (named_table 1 0x41) it.holds);
}

-- ---- the RSDP

rsdp_is : (rsdp : List ℕ) (n : ℕ)
    → bytes_at (memory_of (rsdp_runs rsdp)) rsdp_at n ≡ run_of (lookup (rsdp_runs rsdp)) rsdp_at n
rsdp_is rsdp n = bytes_in (rsdp_runs rsdp) rsdp_at n

rsdps_advised : AreRsdpsAdvised
unfolding run_of cons_both field
rsdps_advised = record {
  revision = inl (
    refl,
    refl,
    λ same. omega (arith, same),
    λ same. omega (arith, same),
    (short_rsdp 1, rsdp_is (short_rsdp 1) 20, refl),
  );
  reserved = inr (
    long_rsdp 7,
    ((take 20 (long_rsdp 7), rsdp_is (long_rsdp 7) 20, omega arith), rsdp_is (long_rsdp 7) 36),
    inr (omega arith, omega arith, refl, refl, λ same. omega (arith, same)),
  );
  long = inr (
    sized_rsdp 37 0,
    (
      (take 20 (sized_rsdp 37 0), rsdp_is (sized_rsdp 37 0 ++ 0 ∷ []) 20, omega arith),
      rsdp_is (sized_rsdp 37 0 ++ 0 ∷ []) 36,
    ),
    inl (refl, refl, refl, omega arith, (sized_rsdp 37 0 ++ 0 ∷ [], rsdp_is (sized_rsdp 37 0 ++ 0 ∷ []) 37)),
  );
  cut = λ at other point it. elim it [
    | inl (place, unused, some, other_form, (head, present, is)) ↦
        let same : head ≡ take 20 (sized_rsdp 37 0) = same_value head _ present (rsdp_is (sized_rsdp 37 0) 20) in
        let two : point ≡ 2 = rw same at is in
        other_form two
    | inr (bytes, there, odd) ↦
        let same : bytes ≡ sized_rsdp 37 0 = same_value bytes _ there.1 (rsdp_is (sized_rsdp 37 0) 36) in
        elim odd [
          | inl (place, unused, is, more, (whole, present)) ↦
              let size : point ≡ 37 = rw same at is in
              none-some whole (sym (rsdp_is (sized_rsdp 37 0) 37) ∙ (rw size at present))
          | inr used ↦ none_used (sized_rsdp 37 0) 33 3 36 at other point refl refl (rw same at used)
        ]
  ];
  none_reserved = λ at other point it. elim it [
    | inl (place, unused, some, other_form, (head, present, is)) ↦
        let same : head ≡ take 20 (long_rsdp 0) = same_value head _ present (rsdp_is (long_rsdp 0) 20) in
        let two : point ≡ 2 = rw same at is in
        other_form two
    | inr (bytes, there, odd) ↦
        let same : bytes ≡ long_rsdp 0 = same_value bytes _ there.1 (rsdp_is (long_rsdp 0) 36) in
        elim odd [
          | inl (place, unused, is, more, whole) ↦ (let size : point ≡ 36 = rw same at is in omega (arith, size, more))
          | inr used ↦ none_used (long_rsdp 0) 33 3 36 at other point refl refl (rw same at used)
        ]
  ];
  text = (named_rsdp 0, rsdp_is (named_rsdp 0) 20, (refl, refl, refl, no_text (oem_of 0) 1 2 refl));
  plain = λ at other point (head, present, odd).
      let same : head ≡ named_rsdp 0x41 = same_value head _ present (rsdp_is (named_rsdp 0x41) 20) in
      is_text (oem_of 0x41) 3 3 refl refl refl (subst (λ (b : List ℕ). IsNoText (take 6 (drop 9 b))) same odd.3);
}

-- ---- headers

-- the header of an MCFG
abbrev cfg : List ℕ
cfg = plain_header (codes "MCFG")

no_odd_field : (offset : ℕ) → ¬ IsOddField cfg offset
no_odd_field offset (size, inl (here, is), odd) = is_text (codes "MCFG") 4 0 refl refl refl (rw (here, is) at odd)
no_odd_field offset (size, inr (inl (here, is)), odd) =
    is_text (replicate 6 0x41) 6 0 refl refl refl (rw (here, is) at odd)
no_odd_field offset (size, inr (inr (inl (here, is))), odd) =
    is_text (replicate 8 0x41) 8 0 refl refl refl (rw (here, is) at odd)
no_odd_field offset (size, inr (inr (inr (here, is))), odd) =
    is_text (replicate 4 0) 0 4 refl refl refl (rw (here, is) at odd)

-- the header that each of two slots lists
header_in_two : (bytes header : List ℕ) (k a : ℕ) → bytes_at (set_of bytes bytes) 0x2000 36 ≡ Some bytes
    → bytes_at (set_of bytes bytes) 0x3000 36 ≡ Some bytes → IsSlot (set_of bytes bytes) rsdp_at k a
    → bytes_at (set_of bytes bytes) a 36 ≡ Some header → header ≡ bytes
header_in_two bytes header k a one other slot present =
    elim (in_two bytes bytes k a slot) [
      | inl (first, here) ↦ same_value header bytes (rw here at present) one
      | inr (second, here) ↦ same_value header bytes (rw here at present) other
    ]

ssdts : (k a n : ℕ) → ListsNumber (two_tables (codes "SSDT")) rsdp_at n k a → n ≡ 0x54445353
unfolding run_of cons_both field
ssdts k a n (slot, (header, present, is)) =
    sym is
    ∙ ap signature_number
    (header_in_two (plain_header (codes "SSDT")) header k a
    (bytes_of_runs (plain_header (codes "SSDT")) (plain_header (codes "SSDT")) 0x2000 36)
    (bytes_of_runs (plain_header (codes "SSDT")) (plain_header (codes "SSDT")) 0x3000 36) slot present)

no_once : (n : ℕ) → n ≡ 0x54445353 → is_once n ≡ true → ⊥
unfolding once_signatures field
no_once n same once = both_ways false refl (rw same at once)

headers_advised : AreHeadersAdvised
unfolding run_of cons_both field once_signatures
headers_advised = record {
  odd = (
    root_slot (root odd_header odd_header) (root_table odd_header odd_header) slot_0,
    (
      odd_header,
      bytes_of_runs odd_header odd_header 0x2000 36,
      (6, inr (inl (refl, refl)), no_text (0x41 ∷ 0 ∷ 0x41 ∷ 0 ∷ 0 ∷ 0 ∷ []) 1 2 refl),
    ),
  );
  low = no_text (0x1f ∷ []) 0 0 refl;
  high = no_text (0x7f ∷ []) 0 0 refl;
  text = is_text (0x20 ∷ 0x7e ∷ 0 ∷ []) 2 1 refl refl refl;
  table_id = inr (inl (refl, refl, refl, no_text (replicate 7 0x41 ++ 0x1f ∷ []) 7 7 refl));
  creator = inr (inr (refl, refl, refl, no_text (0 ∷ 0 ∷ 0 ∷ 0x7f ∷ []) 0 3 refl));
  letters = λ at other point (slot, (header, present, odd)).
      no_odd_field other
      (rw
      (header_in_two cfg header at point (bytes_of_runs cfg cfg 0x2000 36) (bytes_of_runs cfg cfg 0x3000 36) slot
      present) at odd);
  second = (
    0x4746434d,
    refl,
    record {
      here = (root_slot (root cfg cfg) (root_table cfg cfg) slot_1, (cfg, bytes_of_runs cfg cfg 0x3000 36, refl));
      a = 0x2000;
      there = (root_slot (root cfg cfg) (root_table cfg cfg) slot_0, (cfg, bytes_of_runs cfg cfg 0x2000 36, refl));
      first = λ k b lists. omega arith;
      differs = λ same. omega (arith, same);
    },
  );
  same = λ at other point (signature, once, it).
      it.differs (same_slot cfg other it.a it.there.0 ∙ sym (same_slot cfg at point it.here.0));
  several = λ at other point (signature, once, it). no_once signature (ssdts at point signature it.here) once;
}

-- ---- what the FADT names

dsdt_frame : (checksum : ℕ) → IsFrame table_frame (memory_of (dsdt_runs checksum)) 0x3000
    (table dsdt_signature 36 2 checksum []) (table dsdt_signature 36 2 checksum [])
unfolding run_of cons_both field
dsdt_frame checksum =
    record {
      header_present = bytes_in (dsdt_runs checksum) 0x3000 36;
      least = omega arith;
      present = bytes_in (dsdt_runs checksum) 0x3000 36;
    }

other_dsdt : IsBrokenDsdt (memory_of (header_runs (codes "SSDT") 36 0)) 0x3000
unfolding run_of cons_both has_signature
other_dsdt = inl (
  table (codes "SSDT") 36 2 0 [],
  bytes_in (header_runs (codes "SSDT") 36 0) 0x3000 36,
  refl,
)

short_dsdt : IsBrokenDsdt (memory_of (header_runs dsdt_signature 35 0)) 0x3000
unfolding run_of cons_both field
short_dsdt = inr (inl (
  table dsdt_signature 35 2 0 [],
  bytes_in (header_runs dsdt_signature 35 0) 0x3000 36,
  omega arith,
))

right_dsdt : ¬ IsBrokenDsdt (memory_of (dsdt_runs 23)) 0x3000
unfolding has_signature byte_sum
right_dsdt (inl signature) = both_ways _ (stands_wrong (question.Signature dsdt_signature) signature (dsdt_frame 23))
    refl
right_dsdt (inr (inl size)) = stands_wrong question.Length size (dsdt_frame 23)
right_dsdt (inr (inr sum)) = stands_wrong question.Sum sum (dsdt_frame 23) refl

named_facs : (flags : ℕ) → IsFacs (memory_of (facs_runs (flagged_facs flags))) 0x3000 (flagged_facs flags)
unfolding run_of cons_both has_signature field
named_facs flags = record {
  aligned = refl;
  header = take 8 (flagged_facs flags);
  frame = record {
    header_present = bytes_in (facs_runs (flagged_facs flags)) 0x3000 8;
    least = omega arith;
    present = bytes_in (facs_runs (flagged_facs flags)) 0x3000 64;
  };
  signed = refl;
}

none_odd : (at other point : ℕ) → ¬ IsOddFacs (flagged_facs 3) at other point
unfolding field
none_odd at other point it =
    elim it [
      | inl (place, unused, is, more) ↦ (let three : point ≡ 3 = is in omega (arith, three, more))
      | inr (inl (place, unused, is, more)) ↦ (let two : point ≡ 2 = is in omega (arith, two, more))
      | inr (inr (inl used)) ↦ none_used (flagged_facs 3) 33 3 36 at other point refl refl used
      | inr (inr (inr (inl (place, unused, is, more)))) ↦ (let one : point ≡ 1 = is in omega (arith, one, more))
      | inr (inr (inr (inr used))) ↦ none_used (flagged_facs 3) 40 24 64 at other point refl refl used
    ]

there : ◌≢◌ {A = ℕ} 0x3000 0
there same = omega (arith, same)

named_advised : AreNamedAdvised
unfolding run_of cons_both has_signature has_flag has_bit wide_address field byte_sum
named_advised = record {
  signature = (refl, refl, refl, (λ same. omega (arith, same)), other_dsdt);
  short = (refl, refl, refl, (λ same. omega (arith, same)), short_dsdt);
  sum = (
    refl,
    refl,
    refl,
    λ same. omega (arith, same),
    inr (inr (
      table dsdt_signature 36 2 0 [],
      table dsdt_signature 36 2 0 [],
      dsdt_frame 0,
      λ same. (let here : 233 ≡ 0 = same in omega (arith, here)),
    )),
  );
  right = λ at other point (place, unused, is, some, wrong). right_dsdt (rw is at wrong);
  flags = inl (refl, refl, refl, omega arith);
  version = inr (inl (refl, refl, refl, omega arith));
  first = inr (inr (inl (omega arith, omega arith, refl, refl, (λ same. omega (arith, same)))));
  ospm = inr (inr (inr (inl (refl, refl, refl, omega arith))));
  last = inr (inr (inr (inr (omega arith, omega arith, refl, refl, (λ same. omega (arith, same))))));
  two_flags = none_odd;
  named_flags = (there, (flagged_facs 4, named_facs 4, inl (refl, refl, refl, omega arith)));
  named_two = λ at other point (some, (facs, is, odd)).
      let same : facs ≡ flagged_facs 3 = one_frame is.frame (named_facs 3).frame in
      none_odd at other point (rw same at odd);
  text = (
    header_of_oem dsdt_signature 2 (oem_of 0),
    (there, bytes_in (named_runs dsdt_signature 0) 0x3000 36, refl),
    inl (refl, refl, refl, no_text (oem_of 0) 1 2 refl),
  );
  plain = λ at other point (header, (some, present, signed), odd).
      let same : header ≡ header_of_oem dsdt_signature 2 (oem_of 0x41) =
      same_value header _ present (bytes_in (named_runs dsdt_signature 0x41) 0x3000 36) in
      no_odd_oem (header_of_oem dsdt_signature 2 (oem_of 0x41)) at other point refl refl refl (rw same at odd);
  no_dsdt = λ at other point (header, (some, present, signed), odd).
      let same : header ≡ header_of_oem (codes "SSDT") 2 (oem_of 0) =
      same_value header _ present (bytes_in (named_runs (codes "SSDT") 0) 0x3000 36) in
      both_ways false refl (rw same at signed);
  command = (
    refl,
    there,
    (flagged_facs 2, named_facs 2, (refl, refl, refl, inl ((λ same. omega (arith, same)), refl))),
  );
  flag = (refl, there, (flagged_facs 1, named_facs 1, (refl, refl, refl, inr (refl, refl))));
  both = λ at other point (full, some, (facs, is, (place, unused, number, differ))).
      let same : facs ≡ flagged_facs 1 = one_frame is.frame (named_facs 1).frame in
      elim differ [
        | inl (on, clear) ↦ both_ways true (rw same at clear) refl
        | inr (off, set) ↦ (let seven : 7 ≡ 0 = sym number ∙ off in omega (arith, seven))
      ];
  neither = λ at other point (full, some, (facs, is, (place, unused, number, differ))).
      let same : facs ≡ flagged_facs 2 = one_frame is.frame (named_facs 2).frame in
      elim differ [ inl (on, clear) ↦ on number | inr (off, set) ↦ both_ways false refl (rw same at set) ];
  reduced = λ at other point (full, some, facs). both_ways true full refl;
}

pub sets_advised : AreSetsAdvised
sets_advised =
    record { roots = roots_advised; rsdps = rsdps_advised; headers = headers_advised; named = named_advised }
