-- An image has one written form.
use Rattle.std.proofs.Common.{◌≡◌, ℕ, ◌+◌, ◌-◌, ◌<◌, ◌≤◌, ◌⊎◌, inl, inr, List, [], ◌∷◌, length, get_or, Option, Some, None, refl, sym, ap, ◌∙◌, arith}
use Rattle.std.specs.Option.{option_or}
use Rattle.std.specs.FinMap.{empty, get-empty}
use Rattle.std.specs.Ordering.{nat_cmp}
use Rattle.std.proofs.lemmas.Bool.{cases_lt}
use Rattle.std.proofs.lemmas.List.{ext_get_or}
use Rattle.std.proofs.lemmas.Option.{same_Some}
use Rattle.acpi_base.specs.Memory.{Memory, byte_of, with_bytes}
use Rattle.acpi_base.specs.Image.Runs.{Run, end_of, byte_in, lookup}
use Rattle.acpi_base.specs.Text.WrittenText.{AreSortedRuns, with_runs, runs_text, OneWritten}
use Rattle.acpi_base.proofs.Images.RunBytes.{present_none, present_at, byte_of-with_bytes}

pub lookup_below : (rs : List Run) (bound x : ℕ) → AreSortedRuns bound rs → x < bound → lookup rs x ≡ None
lookup_below [] bound x up h = refl
lookup_below (r ∷ rs) bound x up h =
    ap (λ (o : Option ℕ). option_or o (lookup rs x)) (present_none r x (inl (omega (arith, up.0))))
    ∙ lookup_below rs (end_of r + 1) x up.2 (omega (arith, up.0))

or_order : (x y m : Option ℕ) → (x ≡ None) ⊎ (y ≡ None) → option_or y (option_or x m) ≡ option_or (option_or x y) m
or_order None y m e = refl
or_order (Some x) None m e = refl
or_order (Some x) (Some y) m (inl e) = absurd (cc)
or_order (Some x) (Some y) m (inr e) = absurd (cc)

pub byte_of-with_runs : (m : Memory) (rs : List Run) (bound x : ℕ) → AreSortedRuns bound rs
    → byte_of (with_runs m rs) x ≡ option_or (lookup rs x) (byte_of m x)
unfolding with_runs
byte_of-with_runs m [] bound x up = refl
byte_of-with_runs m (r ∷ rs) bound x up =
    byte_of-with_runs (with_bytes m r.base r.bytes) rs (end_of r + 1) x up.2
    ∙ ap (option_or (lookup rs x)) (byte_of-with_bytes m r.base r.bytes x)
    ∙ or_order (byte_in r x) (lookup rs x) (byte_of m x) (apart (cases_lt x (end_of r)))
  where
    apart : (x < end_of r) ⊎ (end_of r ≤ x) → (byte_in r x ≡ None) ⊎ (lookup rs x ≡ None)
    apart (inl below) = inr (lookup_below rs (end_of r + 1) x up.2 (omega arith))
    apart (inr past) = inl (present_none r x (inr past))

abbrev Alike : List Run → List Run → Type 0
Alike rs ss = (x : ℕ) → lookup rs x ≡ lookup ss x

here : (r : Run) (rs : List Run) (x : ℕ) → r.base ≤ x → x < end_of r
    → lookup (r ∷ rs) x ≡ Some (get_or r.bytes (x - r.base) 0)
here r rs x l h = ap (λ (o : Option ℕ). option_or o (lookup rs x)) (present_at r x l h)

behind : (r : Run) (rs : List Run) (x : ℕ) → end_of r ≤ x → lookup (r ∷ rs) x ≡ lookup rs x
behind r rs x h = ap (λ (o : Option ℕ). option_or o (lookup rs x)) (present_none r x (inr h))

nothing_some : {o : Option ℕ} {b : ℕ} → o ≡ None → o ≡ Some b → ⊥
nothing_some none some = cc

not_before : (bound bound' : ℕ) (r s : Run) (rs ss : List Run) → AreSortedRuns bound (r ∷ rs)
    → AreSortedRuns bound' (s ∷ ss) → Alike (r ∷ rs) (s ∷ ss) → s.base ≤ r.base
not_before bound bound' r s rs ss a b alike =
    elim (cases_lt r.base s.base) [
      | inl less ↦
          let filled = a.1.filled in
          let one = here r rs r.base (omega arith) (omega arith) in
          absurd (nothing_some (lookup_below (s ∷ ss) s.base r.base (omega arith, b.1, b.2) less)
          (sym (alike r.base) ∙ one))
      | inr from ↦ from
    ]

not_short : (bound bound' : ℕ) (r s : Run) (rs ss : List Run) → AreSortedRuns bound (r ∷ rs)
    → AreSortedRuns bound' (s ∷ ss) → Alike (r ∷ rs) (s ∷ ss) → s.base ≡ r.base → end_of s ≤ end_of r
not_short bound bound' r s rs ss a b alike same =
    elim (cases_lt (end_of r) (end_of s)) [
      | inl less ↦
          let one = here s ss (end_of r) (omega (arith, same)) less in
          let none = behind r rs (end_of r) (omega arith) ∙ lookup_below rs (end_of r + 1) (end_of r) a.2
          (omega arith) in
          absurd (nothing_some none (alike (end_of r) ∙ one))
      | inr up ↦ up
    ]

one_runs : (rs ss : List Run) (bound bound' : ℕ) → AreSortedRuns bound rs → AreSortedRuns bound' ss → Alike rs ss
    → rs ≡ ss
one_runs [] [] bound bound' a b alike = refl
one_runs [] (s ∷ ss) bound bound' a b alike =
    let filled = b.1.filled in
    absurd (nothing_some refl (alike s.base ∙ here s ss s.base (omega arith) (omega arith)))
one_runs (r ∷ rs) [] bound bound' a b alike =
    let filled = a.1.filled in
    absurd (nothing_some refl (sym (alike r.base) ∙ here r rs r.base (omega arith) (omega arith)))
one_runs (r ∷ rs) (s ∷ ss) bound bound' a b alike =
    let back : Alike (s ∷ ss) (r ∷ rs) = λ x. sym (alike x) in
    let low = not_before bound bound' r s rs ss a b alike in
    let high = not_before bound' bound s r ss rs b a back in
    let base : r.base ≡ s.base = omega arith in
    let long = not_short bound bound' r s rs ss a b alike (sym base) in
    let short = not_short bound' bound s r ss rs b a back base in
    let count : length r.bytes ≡ length s.bytes = omega (arith, base) in
    let bytes : r.bytes ≡ s.bytes = ext_get_or 0 r.bytes s.bytes count (λ k h.
    let p : r.base + k - r.base ≡ k = omega arith in
    let q : r.base + k - s.base ≡ k = omega (arith, base) in
    let one = here r rs (r.base + k) (omega arith) (omega arith) in
    let other = here s ss (r.base + k) (omega (arith, base)) (omega (arith, base, count)) in
    ap (λ (i : ℕ). get_or r.bytes i 0) (sym p) ∙ same_Some _ _ (sym one ∙ alike (r.base + k) ∙ other)
    ∙ ap (λ (i : ℕ). get_or s.bytes i 0) q) in
    let first : r ≡ s = λ i. record { base = base i; bytes = bytes i } in
    let rest : Alike rs ss = λ x. elim (cases_lt x (end_of r + 1)) [
      | inl below ↦ lookup_below rs (end_of r + 1) x a.2 below
          ∙ sym (lookup_below ss (end_of s + 1) x b.2 (omega (arith, base, count)))
      | inr above ↦ sym (behind r rs x (omega arith)) ∙ alike x ∙ behind s ss x (omega (arith, base, count))
    ] in
    let more = one_runs rs ss (end_of r + 1) (end_of s + 1) a.2 b.2 rest in
    λ i. first i ∷ more i

or_none : (o : Option ℕ) → option_or o None ≡ o
or_none None = refl
or_none (Some x) = refl

looked : (rs : List Run) (x : ℕ) → AreSortedRuns 0 rs → byte_of (with_runs empty rs) x ≡ lookup rs x
looked rs x up =
    byte_of-with_runs empty rs 0 x up ∙ ap (option_or (lookup rs x)) (get-empty nat_cmp x) ∙ or_none (lookup rs x)

pub one_written : OneWritten
one_written m text other a b =
    let image : with_runs empty a.runs ≡ with_runs empty b.runs = a.image ∙ sym b.image in
    let alike : Alike a.runs b.runs = λ x. sym (looked a.runs x a.rising) ∙ ap (λ (n : Memory). byte_of n x) image
    ∙ looked b.runs x b.rising in
    a.is ∙ ap runs_text (one_runs a.runs b.runs 0 0 a.rising b.rising alike) ∙ sym b.is
