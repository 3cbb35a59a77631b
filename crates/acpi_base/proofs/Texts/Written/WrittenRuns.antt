-- The text of runs, one run after another.
use Rattle.std.proofs.Common.{◌≡◌, ℕ, ◌+◌, ◌-◌, ◌^◌, ◌<◌, ◌≤◌, inl, inr, List, [], ◌∷◌, ◌++◌, length, Option, Some, None, IsSome, refl, sym, ap, ◌∙◌, arith, append_assoc}
use Rattle.std.specs.List.{flat_map}
use Rattle.std.specs.Ordering.{nat_cmp}
use Rattle.std.specs.FinMap.{empty, get-empty}
use Rattle.std.proofs.lemmas.Bool.{cases_lt}
use Rattle.std.proofs.lemmas.List.{append-nil}
use Rattle.std.proofs.lemmas.List.Elements.{All-from_get_or, recursion_from_All}
use Rattle.acpi_base.specs.Memory.{Memory, byte_of, with_bytes, IsImage}
use Rattle.acpi_base.specs.Image.Runs.{Run, end_of, IsComplete}
use Rattle.acpi_base.specs.Text.WrittenText.{AreSortedRuns, with_runs, IsEmptyFrom, IsNextRun, run_lines, text_of, runs_text, IsWritten}
use Rattle.acpi_base.proofs.Images.RunMemory.{same_memory}
use Rattle.acpi_base.proofs.Images.RunBytes.{byte_of-with_bytes_within, byte_of-with_bytes_outside}
use Rattle.acpi_base.proofs.Images.ByteRuns.{run_of-each}
use Rattle.acpi_base.proofs.Texts.Written.Reading.{text_append}

-- rising runs, after which another may begin at an address
abbrev RiseTo : ℕ → List Run → ℕ → Type 0
RiseTo from [] next = from ≤ next
RiseTo from (r ∷ rs) next = (from ≤ r.base) × IsComplete r × RiseTo (end_of r + 1) rs next

rising : (from : ℕ) (rs : List Run) (next : ℕ) → RiseTo from rs next → AreSortedRuns from rs
rising from [] next up = tt
rising from (r ∷ rs) next up = (up.0, up.1, rising (end_of r + 1) rs next up.2)

rise_more : (from : ℕ) (rs : List Run) (next : ℕ) (r : Run) → RiseTo from rs next → next ≤ r.base → IsComplete r
    → RiseTo from (rs ++ r ∷ []) (end_of r + 1)
rise_more from [] next r up h whole = (omega (arith, up), whole, omega arith)
rise_more from (s ∷ rs) next r up h whole = (up.0, up.1, rise_more (end_of s + 1) rs next r up.2 h whole)

with_more : (m : Memory) (rs : List Run) (r : Run)
    → with_runs m (rs ++ r ∷ []) ≡ with_bytes (with_runs m rs) r.base r.bytes
unfolding with_runs
with_more m [] r = refl
with_more m (s ∷ rs) r = with_more (with_bytes m s.base s.bytes) rs r

lines_more : (rs : List Run) (r : Run) → flat_map run_lines (rs ++ r ∷ []) ≡ flat_map run_lines rs ++ run_lines r
lines_more [] r = append-nil (run_lines r)
lines_more (s ∷ rs) r =
    ap (λ (ls : List (List ℕ)). run_lines s ++ ls) (lines_more rs r)
    ∙ sym (append_assoc (run_lines s) (flat_map run_lines rs) (run_lines r))

written_more : (rs : List Run) (r : Run) → runs_text (rs ++ r ∷ []) ≡ runs_text rs ++ text_of (run_lines r)
unfolding runs_text
written_more rs r = ap text_of (lines_more rs r) ∙ text_append (flat_map run_lines rs) (run_lines r)

written_none : runs_text [] ≡ []
unfolding runs_text
written_none = refl

-- the text has all bytes of an image below an address
pub record IsWrittenTo (text : List ℕ) (m : Memory) (from : ℕ) : Type 0 where
  pub runs : List Run
  pub next : ℕ
  pub up : RiseTo 0 runs next
  pub gap : (x : ℕ) → from ≤ x → x < next → byte_of m x ≡ None
  pub text_is : text ≡ runs_text runs
  pub below : (x : ℕ) → x < from → byte_of (with_runs empty runs) x ≡ byte_of m x
  pub past : (x : ℕ) → from ≤ x → byte_of (with_runs empty runs) x ≡ None

nothing_put : (x : ℕ) → byte_of (with_runs empty []) x ≡ None
unfolding with_runs
nothing_put x = get-empty nat_cmp x

pub begin : (m : Memory) → IsWrittenTo [] m 0
begin m = record {
  runs = [];
  next = 0;
  up = omega arith;
  gap = λ x l h. absurd (omega arith);
  text_is = sym written_none;
  below = λ x h. absurd (omega arith);
  past = λ x h. nothing_put x;
}

some_none : {o : Option ℕ} → IsSome o → o ≡ None → ⊥
some_none present none = absurd (cc)

whole_run : (m : Memory) (from base : ℕ) (bytes : List ℕ) → IsImage m → IsNextRun m from base bytes
    → IsComplete (record { base = base; bytes = bytes })
whole_run m from base bytes image run =
    let each = run_of-each (byte_of m) base (length bytes) bytes run.present in
    let filled : 0 < length bytes = elim (cases_lt 0 (length bytes)) [
      | inl some ↦ some
      | inr none ↦
          let here : base + length bytes ≡ base = omega arith in
          absurd (some_none run.first.present (ap (byte_of m) (sym here) ∙ run.none_behind))
    ] in
    record {
      filled = filled;
      fits = (let last = image.addresses (base + (length bytes - 1)) _
          (each (length bytes - 1) (omega (arith, filled))) in omega (arith, last, filled));
      bytes = recursion_from_All (λ b. b < 256) bytes
          (All-from_get_or (λ b. b < 256) bytes 0 (λ k h. image.bytes (base + k) _ (each k h)));
    }

pub next_run_is_later : (m : Memory) (from base : ℕ) (bytes : List ℕ) → IsImage m → IsNextRun m from base bytes
    → (from < base + length bytes) × (base + length bytes ≤ 2 ^ 64)
next_run_is_later m from base bytes image run =
    let whole = whole_run m from base bytes image run in
    (omega (arith, run.first.from_there, whole.filled), whole.fits)

pub more : (text : List ℕ) (m : Memory) (from base : ℕ) (bytes : List ℕ) → IsImage m → IsWrittenTo text m from
    → IsNextRun m from base bytes
    → IsWrittenTo (text ++ text_of (run_lines (record { base = base; bytes = bytes }))) m (base + length bytes)
more text m from base bytes image so_far run =
    let r : Run = record { base = base; bytes = bytes } in
    let old = with_runs empty so_far.runs in
    let whole = whole_run m from base bytes image run in
    let start = run.first.from_there in
    let behind : so_far.next ≤ base = elim (cases_lt base so_far.next) [
      | inl less ↦ absurd (some_none run.first.present (so_far.gap base start less))
      | inr from ↦ from
    ] in
    let put : (x : ℕ) → byte_of (with_runs empty (so_far.runs ++ r ∷ [])) x ≡ byte_of (with_bytes old base bytes) x =
    λ x. ap (λ (n : Memory). byte_of n x) (with_more empty so_far.runs r) in
    record {
      runs = so_far.runs ++ r ∷ [];
      next = base + length bytes + 1;
      up = rise_more 0 so_far.runs so_far.next r so_far.up behind whole;
      gap = λ x l h. (let here : x ≡ base + length bytes = omega arith in ap (byte_of m) here ∙ run.none_behind);
      text_is = ap (λ (t : List ℕ). t ++ text_of (run_lines r)) so_far.text_is ∙ sym (written_more so_far.runs r);
      below = λ x h. put x ∙ elim (cases_lt x base) [
        | inl less ↦ byte_of-with_bytes_outside old base bytes x (inl less) ∙ elim (cases_lt x from) [
          | inl earlier ↦ so_far.below x earlier
          | inr later ↦ so_far.past x later ∙ sym (run.first.none_before x later less)
        ]
        | inr within ↦
            let place : base + (x - base) ≡ x = omega arith in
            byte_of-with_bytes_within old base bytes x within h
            ∙ sym (run_of-each (byte_of m) base (length bytes) bytes run.present (x - base) (omega arith))
            ∙ ap (byte_of m) place
      ];
      past = λ x h. put x ∙ byte_of-with_bytes_outside old base bytes x (inr h) ∙ so_far.past x (omega (arith, start));
    }

pub whole_text : (text : List ℕ) (m : Memory) (from : ℕ) → IsWrittenTo text m from → IsEmptyFrom m from
    → IsWritten text m
whole_text text m from so_far none = record {
  runs = so_far.runs;
  rising = rising 0 so_far.runs so_far.next so_far.up;
  image = same_memory (with_runs empty so_far.runs) m (λ x. elim (cases_lt x from) [
    | inl below ↦ so_far.below x below
    | inr past ↦ so_far.past x past ∙ sym (none x past)
  ]);
  is = so_far.text_is;
}

pub last_text : (text : List ℕ) (m : Memory) (from : ℕ) → IsImage m → 2 ^ 64 ≤ from → IsWrittenTo text m from
    → IsWritten text m
last_text text m from image end so_far =
    whole_text text m from so_far (λ x h. elim (byte_of m x) as (λ v. byte_of m x ≡ v → v ≡ None) [
      | None ↦ λ e. refl
      | Some b ↦ λ e. (let below = image.addresses x b e in absurd (omega arith))
    ] refl)

pub ruleset written_runs = (begin, next_run_is_later, more, whole_text, last_text)
