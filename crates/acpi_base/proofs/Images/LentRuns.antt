-- Searches of runs that are lent.
use Rattle.std.proofs.Common.{◌≡◌, ◌⊎◌, inl, inr, ℕ, zero, suc, ◌+◌, ◌<◌, ◌≤◌, List, [], ◌∷◌, ◌++◌, length, length-drop, take, drop, get_or, ◌-◌, Option, None, Some, IsSome, is_some, slice_get, refl, sym, ap, ◌∙◌, arith}
use Rattle.std.specs.List.{AllByRecursion}
use Rattle.std.specs.Option.{option_map, option_or}
use Rattle.acpi_base.specs.Memory.{run_of}
use Rattle.acpi_base.specs.Number.{byte_sum}
use Rattle.acpi_base.proofs.Images.ByteRuns.{run_of_none, run_of-take}
use Rattle.std.proofs.lemmas.Bool.{cases_lt}
use Rattle.std.specs.Prelude.{min}
use Rattle.std.proofs.lemmas.List.{drop_all, get_or_default, take_all}
use Rattle.acpi_base.specs.Image.Lent.{AreLent, AreRunsApart, IsPlaceOf}
use Rattle.acpi_base.specs.Image.Runs.{Run, byte_in, end_of, lookup, IsComplete}
use Rattle.acpi_base.specs.Image.Segments.{IsGap, IsRest, IsRunAt}
use Rattle.acpi_base.proofs.Images.Rests.{no_rest, rest_first, rest_of_run}
use Rattle.acpi_base.proofs.Images.RunBytes.{present_none, present_some}
use Rattle.acpi_base.proofs.Images.Stores.{all_from, of_all, all_weaker}

pub none_in : (rs : List Run) (x : ℕ) → AllByRecursion (λ r. (end_of r ≤ x) ⊎ (x < r.base)) rs → lookup rs x ≡ None
none_in [] x clear = refl
none_in (r ∷ rs) x clear = grind (arith, clear.0, present_none r x, none_in rs x clear.1)

-- runs that end before an address have nothing from the address before it on
pub none_from : (rs : List Run) (a x : ℕ) → AllByRecursion (λ r. end_of r < a) rs → a ≤ x + 1 → lookup rs x ≡ None
none_from rs a x below from = none_in rs x (all_weaker _ _ rs (λ r ends. inl (omega arith)) below)

pub bases_rise : (rs : List Run) (i k : ℕ) (d : Run) → AreRunsApart rs → i ≤ k → k < length rs
    → (get_or rs i d).base ≤ (get_or rs k d).base
bases_rise [] i k d apart l h = absurd (omega arith)
bases_rise (r ∷ rs) zero zero d apart l h = omega arith
bases_rise (r ∷ rs) zero (suc k) d apart l h = (let behind = of_all _ rs k d apart.0 (omega arith) in omega arith)
bases_rise (r ∷ rs) (suc i) zero d apart l h = absurd (omega arith)
bases_rise (r ∷ rs) (suc i) (suc k) d apart l h = bases_rise rs i k d apart.1 (omega arith) (omega arith)

-- ---- the last run that begins at an address or before it

-- from the address on, to its end, no other run has anything
alone : (rs : List Run) (i a x : ℕ) (d : Run) → AreRunsApart rs → i < length rs → IsPlaceOf rs a (i + 1) → a ≤ x
    → (x ≤ a) ⊎ (x ≤ end_of (get_or rs i d)) → lookup rs x ≡ byte_in (get_or rs i d) x
alone [] i a x d apart h place from to = absurd (omega arith)
alone (r ∷ rs) zero a x d apart h place from to =
    let later : AllByRecursion (λ q. (end_of q ≤ x) ⊎ (x < q.base)) rs = all_from _ rs (λ k e m.
    inr (let behind = of_all _ rs k e apart.0 m in let above = place.1 (suc k) e (omega arith) (omega arith) in
    grind arith)) in
    grind (arith, none_in rs x later)
alone (r ∷ rs) (suc i) a x d apart h place from to =
    let before = of_all _ rs i d apart.0 (omega arith) in
    let begins = place.0 (suc i) d (omega arith) (omega arith) in
    let rest = alone rs i a x d apart.1 (omega arith)
    (λ k e m o. place.0 (suc k) e (omega arith) (omega arith), λ k e m o. place.1 (suc k) e (omega arith) (omega arith))
    from to in
    grind (arith, present_none r x, rest)

pub reached : (rs : List Run) (a i : ℕ) (d : Run) → AreLent rs → i < length rs → IsPlaceOf rs a (i + 1)
    → IsRunAt rs a (get_or rs i d)
reached rs a i d lent h place = record {
  begins = place.0 i d (omega arith) (omega arith);
  here = alone rs i a a d lent.apart h place (omega arith) (inl (omega arith));
  further = λ x l m. alone rs i a x d lent.apart h place l (inr m);
}

pub none_reached : (rs : List Run) (a : ℕ) → IsPlaceOf rs a 0 → lookup rs a ≡ None
none_reached rs a place = none_in rs a (all_from _ rs (λ k d l. inr (place.1 k d (omega arith) l)))

-- ---- the next run after an address that is not present

has_base : (rs : List Run) (k : ℕ) (d : Run) → AllByRecursion IsComplete rs → k < length rs
    → IsSome (lookup rs (get_or rs k d).base)
has_base [] k d complete h = absurd (omega arith)
has_base (r ∷ rs) zero d complete h = (let some = complete.0.filled in grind (arith, present_some r r.base))
has_base (r ∷ rs) (suc k) d complete h = grind (arith, has_base rs k d complete.1)

ended_at : (rs : List Run) (k a : ℕ) (d : Run) → lookup rs a ≡ None → k < length rs → (get_or rs k d).base ≤ a
    → end_of (get_or rs k d) ≤ a
ended_at [] k a d none h begins = absurd (omega arith)
ended_at (r ∷ rs) zero a d none h begins = grind (arith, cases_lt a (end_of r), present_some r a)
ended_at (r ∷ rs) (suc k) a d none h begins =
    (let rest : lookup rs a ≡ None = grind arith in ended_at rs k a d rest (omega arith) begins)

-- nothing is present up to the base of the run at the index
gap_before : (rs : List Run) (a b i x : ℕ) → lookup rs a ≡ None → IsPlaceOf rs a i
    → ((k : ℕ) (d : Run) → i ≤ k → k < length rs → b ≤ (get_or rs k d).base) → a ≤ x → x < b → lookup rs x ≡ None
gap_before rs a b i x none place above from to = none_in rs x (all_from _ rs (λ k d h. elim (cases_lt k i) [
  | inl m ↦ inl (let ended = ended_at rs k a d none h (place.0 k d (omega arith) m) in omega arith)
  | inr m ↦ inr (let low = above k d m h in omega arith)
]))

pub next_run : (rs : List Run) (a i : ℕ) (d : Run) → AreLent rs → lookup rs a ≡ None → IsPlaceOf rs a i → i < length rs
    → (a ≤ (get_or rs i d).base) × IsSome (lookup rs (get_or rs i d).base) × IsGap rs a (get_or rs i d).base
next_run rs a i d lent none place h =
    let behind = place.1 i d (omega arith) h in (
      omega arith,
      has_base rs i d lent.complete h,
      λ x from to. gap_before rs a (get_or rs i d).base i x none place (λ k e m o.
          let rise = bases_rise rs i k e lent.apart m o in
          let same = get_or_default rs i d e h in
          rw same rise) from to,
    )

pub no_next : (rs : List Run) (a : ℕ) → lookup rs a ≡ None → IsPlaceOf rs a (length rs) → (x : ℕ) → a ≤ x
    → lookup rs x ≡ None
no_next rs a none place x from =
    gap_before rs a (x + 1) (length rs) x none place (λ k e m o. absurd (omega arith)) from (omega arith)

-- ---- whether there is anything

pub rest_none : (rs : List Run) (a : ℕ) (bytes : List ℕ) → IsRest rs a bytes → length bytes ≡ 0 → lookup rs a ≡ None
rest_none rs a [] rest none = sym (rest_first rs a [] rest)
rest_none rs a (b ∷ bs) rest none = absurd (omega arith)

pub rest_some : (rs : List Run) (a : ℕ) (bytes : List ℕ) → IsRest rs a bytes → 0 < length bytes → IsSome (lookup rs a)
rest_some rs a [] rest some = absurd (omega arith)
rest_some rs a (b ∷ bs) rest some = ap is_some (sym (rest_first rs a (b ∷ bs) rest))

-- the bytes from an address on
pub skipped : (bytes : List ℕ) (far k : ℕ) → k ≡ min far (length bytes)
    → take (length bytes - k) (drop k bytes) ≡ drop far bytes
skipped bytes far k is =
    let long = length-drop k bytes in
    take_all (length bytes - k) (drop k bytes) (omega arith)
    ∙ elim (cases_lt (length bytes) far) [
      | inl past ↦ drop_all k bytes (omega arith) ∙ sym (drop_all far bytes (omega arith))
      | inr within ↦ (let same : k ≡ far = omega arith in ap (λ n. drop n bytes) same)
    ]

pub rest_filled : (rs : List Run) (a : ℕ) (bytes : List ℕ) → IsRest rs a bytes → IsSome (lookup rs a) → 0 < length bytes
rest_filled rs a [] rest some = absurd (let none = rest_none rs a [] rest refl in grind (arith, none, some))
rest_filled rs a (b ∷ bs) rest some = omega arith

pub rest_short : (rs : List Run) (a : ℕ) (bytes : List ℕ) (n : ℕ) → IsRest rs a bytes → length bytes < n
    → None ≡ run_of (lookup rs) a n
rest_short rs a bytes n rest short = sym (run_of_none (lookup rs) a n (length bytes) short rest.none_behind)

pub rest_present : (rs : List Run) (a : ℕ) (bytes : List ℕ) (n : ℕ) → IsRest rs a bytes → n ≤ length bytes
    → Some (take n bytes) ≡ run_of (lookup rs) a n
rest_present rs a bytes n rest within = sym (run_of-take (lookup rs) a (length bytes) n bytes rest.present within)

pub no_sum : (rs : List Run) (a n : ℕ) → 0 < n → lookup rs a ≡ None
    → None ≡ option_map byte_sum (run_of (lookup rs) a n)
no_sum rs a n some none =
    ap (option_map byte_sum) (rest_short rs a [] n (no_rest rs a none) (omega arith))

pub sum_past : (rs : List Run) (a n start : ℕ) (r : Run) → IsRunAt rs a r → 0 < n → start ≡ a - r.base
    → length r.bytes < start + n → None ≡ option_map byte_sum (run_of (lookup rs) a n)
sum_past rs a n start r reached some is past =
    let long = length-drop start r.bytes in
    ap (option_map byte_sum) (rest_short rs a (drop start r.bytes) n
    (rest_of_run rs a r (drop start r.bytes) reached (ap (λ k. drop k r.bytes) is)) (omega arith))

pub sum_within : (rs : List Run) (a n start : ℕ) (r : Run) → IsRunAt rs a r → start ≡ a - r.base
    → start + n ≤ length r.bytes
    → Some (byte_sum (take n (drop start r.bytes))) ≡ option_map byte_sum (run_of (lookup rs) a n)
sum_within rs a n start r reached is within =
    let long = length-drop start r.bytes in
    ap (option_map byte_sum) (rest_present rs a (drop start r.bytes) n
    (rest_of_run rs a r (drop start r.bytes) reached (ap (λ k. drop k r.bytes) is)) (omega arith))

-- all runs end before what the last one ends before
pub all_end_before : (rs : List Run) (i a : ℕ) (d : Run) → AreRunsApart rs → i + 1 ≡ length rs
    → end_of (get_or rs i d) < a → AllByRecursion (λ r. end_of r < a) rs
all_end_before [] i a d apart last ends = tt
all_end_before (r ∷ []) zero a d apart last ends = (ends, tt)
all_end_before (r ∷ q ∷ rs) zero a d apart last ends = absurd (omega arith)
all_end_before (r ∷ []) (suc i) a d apart last ends = absurd (omega arith)
all_end_before (r ∷ q ∷ rs) (suc i) a d apart last ends =
    let rest = all_end_before (q ∷ rs) i a d apart.1 (omega arith) ends in
    let low = rest.0 in
    let next = apart.0.0 in
    (omega arith, rest)
