-- Pieces that came in the order of their addresses: their bytes are in the store as they are in an image.
use Rattle.std.proofs.Common.{◌≡◌, inl, inr, ℕ, ◌+◌, ◌-◌, ◌<◌, ◌≤◌, List, [], ◌∷◌, ◌++◌, length, get_or, take, drop, refl, sym, ap, subst, ◌∙◌, arith, length-drop}
use Rattle.std.specs.Prelude.{Ok}
use Rattle.std.specs.List.{AllByRecursion}
use Rattle.std.specs.FinMap.{empty}
use Rattle.std.proofs.lemmas.Bool.{cases_lt}
use Rattle.std.proofs.lemmas.List.{drop_more, get_or-drop, get_or-take, get_or_past, length-take, take_all}
use Rattle.std.proofs.lemmas.List.Sorted.{IsPermutation-append_comm}
use Rattle.acpi_base.specs.declared.image.span.Span.{Span}
use Rattle.acpi_base.specs.Memory.{IsImage}
use Rattle.acpi_base.specs.Image.Draft.{AreContiguous, AreDisjoint, AreDrafted, all_added, holder_count}
use Rattle.acpi_base.specs.Image.Runs.{memory_of, run_at}
use Rattle.acpi_base.specs.Image.Pieces.{Piece, LiesBefore, end_at, memory_in_store, runs_in}
use Rattle.acpi_base.specs.Image.Segments.{AreSegments, AreSegmentsApart}
use Rattle.acpi_base.proofs.Images.Drafts.{all_before, all_last, contiguous-last}
use Rattle.acpi_base.proofs.Images.FirstTwice.{all_joined}
use Rattle.acpi_base.proofs.Images.Holders.{has_or_not, has_outside, memory_permuted}
use Rattle.acpi_base.proofs.Images.RunMemory.{image_of, image_with}
use Rattle.acpi_base.proofs.Images.Stores.{all_weaker, of_all, run_ends}

-- ---- one more piece

-- pieces that are apart, from `next` on
abbrev pub AreApartFrom : List Piece → ℕ → Type 0
AreApartFrom ps next = AreSegmentsApart ps × AllByRecursion (λ p. next ≤ p.0) ps

pub one_more : (ps : List Piece) (i : ℕ) (d : Piece) (next : ℕ) → 0 < i → i ≤ length ps
    → AllByRecursion (λ p. 0 < p.1.len) ps → end_at (get_or ps (i - 1) d) < next → AreApartFrom (drop i ps) next
    → AreApartFrom (drop (i - 1) ps) (get_or ps (i - 1) d).0
one_more ps i d next some within filled gap rest =
    let p = get_or ps (i - 1) d in
    let place : i - 1 + 1 ≡ i = omega arith in
    let first : 0 < p.1.len = of_all (λ p. 0 < p.1.len) ps (i - 1) d filled (omega arith) in
    subst (λ qs. AreApartFrom qs p.0)
    (sym (drop_more ps (i - 1) d (omega arith) ∙ ap (λ n. p ∷ drop n ps) place)) (
      (first, all_weaker (λ q. next ≤ q.0) (λ q. end_at p < q.0) (drop i ps) (λ q h. omega arith) rest.1, rest.0),
      (omega arith, all_weaker (λ q. next ≤ q.0) (λ q. p.0 ≤ q.0) (drop i ps) (λ q h. omega arith) rest.1),
    )

-- ---- pieces that are apart

apart_before : (ps : List Piece) (q : Piece) → AreSegmentsApart (ps ++ q ∷ []) → AreSegmentsApart ps
apart_before [] q apart = tt
apart_before (p ∷ ps) q apart =
    (apart.0, all_before (λ r. end_at p < r.0) ps q apart.1, apart_before ps q apart.2)

apart_last : (ps : List Piece) (q : Piece) → AreSegmentsApart (ps ++ q ∷ []) → AllByRecursion (λ p. end_at p < q.0) ps
apart_last [] q apart = tt
apart_last (p ∷ ps) q apart = (all_last (λ r. end_at p < r.0) ps q apart.1, apart_last ps q apart.2)

none_below : (ps : List Piece) (x : ℕ) → AllByRecursion (λ p. x < p.0) ps → holder_count ps x ≡ 0
none_below [] x all = refl
none_below (p ∷ ps) x all =
    (let none = has_outside x p (inl all.0) in let rest = none_below ps x all.1 in omega arith)

apart_once : (ps : List Piece) → AreSegmentsApart ps → (x : ℕ) → holder_count ps x < 2
apart_once [] apart x = omega arith
apart_once (p ∷ ps) apart x = elim (has_or_not x p) [
  | inl y ↦
      let one = y.0 in
      let high = y.2 in
      let none = none_below ps x (all_weaker (λ q. end_at p < q.0) (λ q. x < q.0) ps (λ q l. omega arith) apart.1) in
      omega arith
  | inr y ↦ (let none = y.0 in let rest = apart_once ps apart.2 x in omega arith)
]

pub apart_joined : (store : List ℕ) (ps : List Piece) → AreDrafted store ps → AreSegmentsApart ps
    → all_added empty (runs_in store ps) ≡ Ok (memory_of (runs_in store ps))
apart_joined store ps drafted apart = all_joined store ps drafted.lies (apart_once ps apart)

-- ---- an image

part_below : (store : List ℕ) (start count : ℕ) → ((k : ℕ) → get_or store k 0 < 256) → (k : ℕ)
    → get_or (take count (drop start store)) k 0 < 256
part_below store start count bytes k = elim (cases_lt k count) [
  | inl within ↦ subst (λ b. b < 256)
      (sym (get_or-take count (drop start store) k 0 within ∙ get_or-drop start store k 0)) (bytes (start + k))
  | inr past ↦
      let part = take count (drop start store) in
      let long = length-take count (drop start store) in
      subst (λ b. b < 256) (sym (get_or_past part k 0 (omega arith))) (omega arith)
]

runs_image : (store : List ℕ) (n : ℕ) (ps : List Piece) → n ≤ length store → ((k : ℕ) → get_or store k 0 < 256)
    → AllByRecursion (LiesBefore n) ps → IsImage (memory_of (runs_in store ps))
runs_image store n [] within bytes lies = image_of [] tt
runs_image store n (p ∷ ps) within bytes lies =
    let fits = lies.0.1 in
    image_with (memory_of (runs_in store ps)) p.0 (take p.1.len (drop p.1.start store))
    (runs_image store n ps within bytes lies.1) (omega (arith, run_ends store p n within lies.0))
    (part_below store p.1.start p.1.len bytes)

-- ---- the last piece is the open one

from_start : (ps : List Piece) (q : Piece) (from to : ℕ) → AreContiguous (ps ++ q ∷ []) from to → from ≤ q.1.start
unfolding AreContiguous
from_start [] q from to row = (let at = row.0 in omega arith)
from_start (p ∷ ps) q from to row = (let rest = from_start ps q (from + p.1.len) to row.1 in omega arith)

lie_before : (ps : List Piece) (q : Piece) (from to n : ℕ) → AreContiguous (ps ++ q ∷ []) from to
    → AllByRecursion (LiesBefore n) (ps ++ q ∷ []) → AllByRecursion (LiesBefore q.1.start) ps
unfolding AreContiguous
lie_before [] q from to n row lies = tt
lie_before (p ∷ ps) q from to n row lies =
    let at = row.0 in
    let rest = from_start ps q (from + p.1.len) to row.1 in
    ((omega arith, lies.0.1), lie_before ps q (from + p.1.len) to n row.1 lies.1)

laid : (store : List ℕ) (ps : List Piece) (base : ℕ) (v : Span) → ((k : ℕ) → get_or store k 0 < 256)
    → AreDrafted store (ps ++ (base, v) ∷ []) → AreSegmentsApart (ps ++ (base, v) ∷ [])
    → AreSegments store ps base v.start
laid store ps base v bytes drafted apart =
    let ends = contiguous-last ps (base, v) 0 (length store) drafted.contiguous in
    let fits = (all_last (LiesBefore (length store)) ps (base, v) drafted.lies).1 in
    let lies = lie_before ps (base, v) 0 (length store) (length store) drafted.contiguous drafted.lies in
    record {
      apart = apart_before ps (base, v) apart;
      below = apart_last ps (base, v) apart;
      lies = lies;
      within = omega arith;
      fits = omega arith;
      image = image_with (memory_of (runs_in store ps)) base (drop v.start store)
          (runs_image store v.start ps (omega arith) bytes lies) (omega (arith, length-drop v.start store))
          (λ k. subst (λ b. b < 256) (sym (get_or-drop v.start store k 0)) (bytes (v.start + k)));
    }

pub adopted_laid : (store : List ℕ) (ps qs : List Piece) (base : ℕ) (v : Span) → qs ≡ ps ++ (base, v) ∷ []
    → ((k : ℕ) → get_or store k 0 < 256) → AreDrafted store qs → AreSegmentsApart qs → AreSegments store ps base v.start
adopted_laid store ps qs base v e bytes drafted apart =
    laid store ps base v bytes (subst (AreDrafted store) e drafted) (subst AreSegmentsApart e apart)

pub adopted_same : (store : List ℕ) (ps qs : List Piece) (base : ℕ) (v : Span) → qs ≡ ps ++ (base, v) ∷ []
    → AreDrafted store qs → AreSegmentsApart qs
    → all_added empty (runs_in store qs) ≡ Ok (memory_in_store store ps base v.start)
adopted_same store ps qs base v e drafted apart =
    let row = subst (AreDrafted store) e drafted in
    let ends = contiguous-last ps (base, v) 0 (length store) row.contiguous in
    let once = apart_once qs apart in
    let disjoint : AreDisjoint (length store) qs = record {
      once = λ x. (let few = once x in omega arith);
      filled = drafted.filled;
      lies = drafted.lies;
    } in
    let rest : List ℕ = drop v.start store in
    apart_joined store qs drafted apart
    ∙ ap (λ m. Ok m) (
    ap (λ rs. memory_of (runs_in store rs)) e
    ∙ sym (memory_permuted store (ps ++ (base, v) ∷ []) ((base, v) ∷ ps) (IsPermutation-append_comm ps ((base, v) ∷ []))
    (subst (AreDisjoint (length store)) e disjoint))
    ∙ ap (λ bytes. memory_of (run_at base bytes ∷ runs_in store ps))
    (take_all v.len rest (omega (arith, length-drop v.start store))))
