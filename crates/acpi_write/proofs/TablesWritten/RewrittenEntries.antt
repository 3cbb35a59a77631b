-- The entries that are written for those of a table: they have the same offsets and as many bytes.
use Rattle.std.proofs.Common.{◌≡◌, ℕ, zero, suc, ◌+◌, ◌-◌, ◌<◌, ◌≤◌, cond, List, [], ◌∷◌, ◌++◌, length, get_or, drop, map, flat_map, Some, None, refl, sym, ap, ◌∙◌, subst, inl, inr, arith, length-append, length-drop}
use Rattle.std.specs.Prelude.{nat_lt, slice_index, sum_by}
use Rattle.std.specs.List.{All}
use Rattle.std.proofs.lemmas.Bool.{cases_lt}
use Rattle.std.proofs.lemmas.Bool.Decides.{nat_tests}
use Rattle.std.proofs.lemmas.List.{get_or-drop, get_or_append_left, get_or-append_right, length-take-le}
use Rattle.std.proofs.lemmas.List.Elements.{All-nil, All-cons, All-head, All-tail}
use Rattle.std.proofs.lemmas.List.Sums.{sum_by-cons}
use Rattle.std.proofs.lemmas.Option.{cond_some}
use Rattle.std.proofs.Math.ListN.{get_or-eq_default}
use Rattle.acpi_base.specs.Entries.{IsEntry, PlacedEntry, first_entry, entries_from, entries_of, end_of_entries, cut_of, entries_read_by}
use Rattle.acpi_base.proofs.Entries.{no_cut_fault}
use Rattle.acpi_base.proofs.Options.{cases_Option}
use Rattle.acpi_write.specs.Bodies.{entries_in}
use Rattle.acpi_write.specs.Laws.{AreByteValues, WrittenAgain}
use Rattle.acpi_write.proofs.TablesWritten.EntryRuns.{standing, cut_stands, said_standing, joined_again, entries_each}

-- ---- how many bytes entries have

first_fits : (left e : List ℕ) → first_entry left ≡ Some e → length e ≤ length left
unfolding first_entry
first_fits left e is =
    let parts = cond_some _ _ _ is in
    let count = length-take-le (slice_index left 1) left in
    grind (arith, nat_tests, count)

entries_fit : (n offset : ℕ) (left : List ℕ) → sum_by (λ s. length s.entry) (entries_from n offset left) ≤ length left
unfolding entries_from
entries_fit zero offset left = omega arith
entries_fit (suc n) offset left =
    elim (cases_Option (first_entry left)) [
      | inl (e, is) ↦
          let rest = entries_from n (offset + length e) (drop (length e) left) in
          let sum = sum_by-cons (λ (t : PlacedEntry (List ℕ)). length t.entry) (record { offset = offset; entry = e })
          rest in
          let fits = first_fits left e is in
          let more = entries_fit n (offset + length e) (drop (length e) left) in
          rw is (omega (arith, sum, fits, more, length-drop (length e) left))
      | inr none ↦ rw none (omega arith)
    ]

not_below : (a b : ℕ) → cond (nat_lt a b) (Some a) None ≡ None → b ≤ a
not_below a b e =
    elim (cases_lt a b) [
      | inl less ↦ absurd (grind (arith, nat_tests, e, less))
      | inr most ↦ most
    ]

filled_length : (first : ℕ) (whole : List ℕ) → first ≤ length whole → cut_of first whole ≡ None
    → first + sum_by (λ s. length s.entry) (entries_of first whole) ≡ length whole
unfolding cut_of end_of_entries entries_of
filled_length first whole long filled =
    let most = not_below (first + sum_by (λ s. length s.entry) (entries_from (length whole) first (drop first whole)))
    (length whole) filled in
    let fits = entries_fit (length whole) first (drop first whole) in
    omega (arith, most, fits, length-drop first whole)

-- ---- bytes

low_behind : (n : ℕ) (bytes : List ℕ) → AreByteValues bytes → AreByteValues (drop n bytes)
low_behind n bytes low k = subst (λ (x : ℕ). x < 256) (sym (get_or-drop n bytes k 0)) (low (n + k))

low_left : (xs ys : List ℕ) → AreByteValues (xs ++ ys) → AreByteValues xs
low_left xs ys low k =
    elim (cases_lt k (length xs)) [
      | inl below ↦ subst (λ (x : ℕ). x < 256) (get_or_append_left xs ys 0 k below) (low k)
      | inr past ↦ subst (λ (x : ℕ). x < 256) (sym (get_or-eq_default xs 0 past)) (omega arith)
    ]

low_right : (xs ys : List ℕ) → AreByteValues (xs ++ ys) → AreByteValues ys
low_right xs ys low k =
    let place : length xs + k - length xs ≡ k = omega arith in
    let same = get_or-append_right xs ys (length xs) (length xs + k) 0 refl (omega arith)
    ∙ ap (λ (i : ℕ). get_or ys i 0) place in
    subst (λ (x : ℕ). x < 256) same (low (length xs + k))

-- ---- entries that are read and written again

module _ {E : Type 0} (read : List ℕ → E) (bytes_of : E → List ℕ)
    (kept : (e : List ℕ) → AreByteValues e → IsEntry e → WrittenAgain read bytes_of e) where
  each_kept : (es : List (List ℕ)) → AreByteValues (flat_map (λ e. e) es) → All IsEntry es
      → All (WrittenAgain read bytes_of) es
  each_kept [] low each = All-nil (WrittenAgain read bytes_of)
  each_kept (e ∷ es) low each =
      All-cons (WrittenAgain read bytes_of) e es
      (kept e (low_left e (flat_map (λ x. x) es) low) (All-head IsEntry e es each))
      (each_kept es (low_right e (flat_map (λ x. x) es) low) (All-tail IsEntry e es each))

  said_again : (offset other : ℕ) (es : List (List ℕ)) → offset ≡ other → All (WrittenAgain read bytes_of) es
      → entries_read_by read (standing offset (map (λ e. bytes_of (read e)) es)) ≡ entries_read_by read
      (standing other es)
  said_again offset other [] same each = refl
  said_again offset other (e ∷ es) same each =
      let here = All-head (WrittenAgain read bytes_of) e es each in
      let count = here.count in
      let next : offset + length (bytes_of (read e)) ≡ other + length e = omega (arith, same, count) in
      let rest = said_again (offset + length (bytes_of (read e))) (other + length e) es next
      (All-tail (WrittenAgain read bytes_of) e es each) in
      λ i. record { offset = same i; entry = here.says.1 i } ∷ rest i

  -- the written entries are at the same offsets, and fill the table
  pub entries_kept : (first : ℕ) (whole new : List ℕ) → AreByteValues whole → cut_of first whole ≡ None
      → drop first new ≡ flat_map bytes_of (entries_in (entries_read_by read (entries_of first whole)))
      → (entries_read_by read (entries_of first new) ≡ entries_read_by read (entries_of first whole))
      × (cut_of first new ≡ cut_of first whole)
  entries_kept first whole new low filled written =
      let cut = (no_cut_fault first whole).0 filled in
      let es = cut.0 in
      let each = each_kept es (subst AreByteValues (sym cut.1.joined) (low_behind first whole low)) cut.1.each in
      let old = cut_stands first whole es cut.1.each cut.1.joined in
      let others = map (λ e. bytes_of (read e)) es in
      let all = (entries_each read bytes_of read es (λ k d below. (each k d below).says)).0 in
      let made : flat_map (λ e. e) others ≡ drop first new =
      joined_again bytes_of read es ∙ ap (flat_map bytes_of)
      (sym (ap (λ l. entries_in (entries_read_by read l)) old ∙ said_standing read first es)) ∙ sym written in
      let stand = cut_stands first new others all made in
      let none = (no_cut_fault first new).1 (others, record { each = all; joined = made }) in (
        ap (entries_read_by read) stand ∙ said_again first first es refl each ∙ ap (entries_read_by read) (sym old),
        none ∙ sym filled,
      )

-- they have as many bytes as the table from the first entry on
pub written_length : {E : Type 0} (read : List ℕ → E) (bytes_of : E → List ℕ)
    → ((e : List ℕ) → length (bytes_of (read e)) ≡ length e) → (first : ℕ) (whole : List ℕ)
    → first ≤ length whole → cut_of first whole ≡ None
    → first + length (flat_map bytes_of (entries_in (entries_read_by read (entries_of first whole)))) ≡ length whole
written_length read bytes_of same first whole long filled =
    ap (λ (n : ℕ). first + n) (each (entries_of first whole)) ∙ filled_length first whole long filled
  where
    each : (entries : List (PlacedEntry (List ℕ)))
        → length (flat_map bytes_of (entries_in (entries_read_by read entries))) ≡ sum_by (λ s. length s.entry) entries
    each [] = refl
    each (s ∷ ss) =
        let joined = length-append (bytes_of (read s.entry))
        (flat_map bytes_of (entries_in (entries_read_by read ss))) in
        let sum = sum_by-cons (λ (t : PlacedEntry (List ℕ)). length t.entry) s ss in
        omega (arith, joined, sum, same s.entry, each ss)
