-- Segments that are laid one after another: what they have, and that they stay in order.
use Rattle.std.proofs.Common.{◌≡◌, ◌⊎◌, inl, inr, ℕ, ◌+◌, ◌-◌, ◌^◌, ◌<◌, ◌≤◌, List, [], ◌∷◌, ◌++◌, length, get_or, take, drop, Option, None, refl, sym, ap, subst, ◌∙◌, arith, length-append, length-drop}
use Rattle.std.specs.Option.{option_or}
use Rattle.std.specs.List.{AllByRecursion}
use Rattle.std.specs.FinMap.{empty}
use Rattle.std.proofs.lemmas.Bool.{cases_lt}
use Rattle.std.proofs.lemmas.List.{drop_all, take_all, drop-append-le, drop_more}
use Rattle.acpi_base.specs.declared.image.span.Span.{Span}
use Rattle.acpi_base.specs.Memory.{Memory, byte_of, with_bytes, IsImage}
use Rattle.acpi_base.specs.Image.Runs.{Run, run_at, byte_in, lookup, end_of, memory_of}
use Rattle.acpi_base.specs.Image.Pieces.{Piece, AreSortedDisjoint, end_at, LiesBefore, run_in, runs_in, all_runs, memory_in_store}
use Rattle.acpi_base.specs.declared.image.segments.Segments.{Segments}
use Rattle.acpi_base.specs.Image.Segments.{AreSegmentsApart, AreSegments, IsValid, end_in, memory_in}
use Rattle.acpi_base.proofs.Images.RunBytes.{present_none, byte_in-cons, byte_in-nil, byte_of_memory_of, byte_of-with_bytes}
use Rattle.acpi_base.proofs.Images.Stores.{all_weaker, run_ends, runs_in_more, none_present}
use Rattle.acpi_base.proofs.Images.RunMemory.{same_memory, no_bytes, image_with}
use Rattle.acpi_base.proofs.Images.Holders.{all_push}

-- ---- more bytes after those of the open piece

pub byte_in-append : (a : ℕ) (xs ys : List ℕ) (x : ℕ)
    → byte_in (run_at a (xs ++ ys)) x ≡ option_or (byte_in (run_at a xs) x) (byte_in (run_at (a + length xs) ys) x)
byte_in-append a [] ys x = grind (arith, byte_in-nil)
byte_in-append a (b ∷ xs) ys x = grind (arith, byte_in-cons, byte_in-append (a + 1) xs ys x)

pub never_both : (r s : Run) (x : ℕ) → (end_of r ≤ s.base) ⊎ (end_of s ≤ r.base)
    → (byte_in r x ≡ None) ⊎ (byte_in s x ≡ None)
never_both r s x e = grind (arith, cases_lt, present_none)

pub with_bytes-append : (m : Memory) (a : ℕ) (xs ys : List ℕ)
    → with_bytes m a (xs ++ ys) ≡ with_bytes (with_bytes m a xs) (a + length xs) ys
with_bytes-append m a xs ys = same_memory _ _ (λ x.
    grind (
      arith,
      byte_of-with_bytes m a (xs ++ ys) x,
      byte_of-with_bytes (with_bytes m a xs) (a + length xs) ys x,
      byte_of-with_bytes m a xs x,
      byte_in-append a xs ys x,
      never_both (run_at a xs) (run_at (a + length xs) ys) x,
    ))

-- the open piece takes more bytes
pub more_present : (store new more : List ℕ) (ps : List Piece) (base begin : ℕ) → new ≡ store ++ more
    → begin ≤ length store → AllByRecursion (LiesBefore begin) ps
    → memory_in_store new ps base begin ≡ with_bytes (memory_in_store store ps base begin)
    (base + (length store - begin)) more
more_present store new more ps base begin e within lies =
    ap (λ n. memory_in_store n ps base begin) e
    ∙ ap (λ d. with_bytes (memory_of (runs_in (store ++ more) ps)) base d) (drop-append-le begin store more within)
    ∙ ap (λ rs. with_bytes (memory_of rs) base (drop begin store ++ more))
    (runs_in_more store more begin ps within lies)
    ∙ with_bytes-append (memory_of (runs_in store ps)) base (drop begin store) more
    ∙ ap (λ n. with_bytes (memory_in_store store ps base begin) (base + n) more) (length-drop begin store)

pub more_laid : (store new more : List ℕ) (ps : List Piece) (base begin : ℕ) → new ≡ store ++ more
    → base + (length store - begin) + length more ≤ 2 ^ 64
    → ((k : ℕ) → get_or more k 0 < 256) → AreSegments store ps base begin → AreSegments new ps base begin
more_laid store new more ps base begin e fits bytes s =
    let within = s.within in
    let long : length new ≡ length store + length more = ap length e ∙ length-append store more in
    record {
      apart = s.apart;
      below = s.below;
      lies = s.lies;
      within = omega arith;
      fits = omega arith;
      image = subst IsImage (sym (more_present store new more ps base begin e within s.lies))
          (image_with _ _ more s.image fits bytes);
    }

-- ---- the open segment ends

pub apart_pushed : (ps : List Piece) (q : Piece) → AreSegmentsApart ps → AllByRecursion (λ p. end_at p < q.0) ps
    → 0 < q.1.len → AreSegmentsApart (ps ++ q ∷ [])
apart_pushed [] q apart below some = (some, tt, tt)
apart_pushed (p ∷ ps) q apart below some =
    (apart.0, all_push _ ps q apart.1 below.0, apart_pushed ps q apart.2 below.1 some)

-- a piece after others has its part
lookup_pushed : (store : List ℕ) (n : ℕ) (ps : List Piece) (q : Piece) (x : ℕ) → n ≤ length store
    → AllByRecursion (LiesBefore n) ps → AllByRecursion (λ p. end_at p < q.0) ps
    → lookup (runs_in store (ps ++ q ∷ [])) x ≡ option_or (byte_in (run_in store q) x) (lookup (runs_in store ps) x)
lookup_pushed store n [] q x l lies below = refl
lookup_pushed store n (p ∷ ps) q x l lies below =
    let low = below.0 in
    grind (
      arith,
      lookup_pushed store n ps q x l lies.1 below.1,
      run_ends store p n l lies.0,
      never_both (run_in store p) (run_in store q) x,
    )

-- the open segment has ended
pub pushed_present : (store : List ℕ) (ps qs : List Piece) (old base begin : ℕ) (end : ℕ) (v : Span)
    → qs ≡ ps ++ (old, v) ∷ [] → AreSegments store ps old begin
    → v.start ≡ begin → v.len ≡ length store - begin → end ≡ length store
    → memory_in_store store qs base end ≡ memory_in_store store ps old begin
pushed_present store ps qs old base begin end v e s b n l =
    let within = s.within in
    let long = length-drop begin store in
    let lies = all_weaker (LiesBefore begin) (LiesBefore (length store)) ps (λ p low. (omega arith, low.1)) s.lies in
    let whole : take v.len (drop v.start store) ≡ drop begin store =
    ap (λ k. take v.len (drop k store)) b ∙ take_all v.len (drop begin store) (omega arith) in
    sym (no_bytes (memory_of (runs_in store qs)) base (drop end store) (ap length (drop_all end store (omega arith))))
    ∙ ap (λ ts. memory_of (runs_in store ts)) e
    ∙ same_memory _ _ (λ x.
    byte_of_memory_of (runs_in store (ps ++ (old, v) ∷ [])) x
    ∙ lookup_pushed store (length store) ps (old, v) x (omega arith) lies s.below
    ∙ ap (λ d. option_or (byte_in (run_at old d) x) (lookup (runs_in store ps) x)) whole
    ∙ sym (byte_of_memory_of (all_runs store ps old begin) x))

pub pushed_laid : (store : List ℕ) (ps qs : List Piece) (old base begin : ℕ) (end : ℕ) (v : Span)
    → qs ≡ ps ++ (old, v) ∷ [] → AreSegments store ps old begin
    → v.start ≡ begin → v.len ≡ length store - begin → end ≡ length store → 0 < v.len → old + v.len < base
    → base ≤ 2 ^ 64 → AreSegments store qs base end
pushed_laid store ps qs old base begin end v e s b n l some gap fits =
    let within = s.within in
    let low = s.fits in
    subst (λ ts. AreSegments store ts base end) (sym e) (record {
      apart = apart_pushed ps (old, v) s.apart s.below some;
      below = all_push _ ps (old, v) (all_weaker _ (λ p. end_at p < base) ps (λ p h. omega arith) s.below) gap;
      lies = all_push _ ps (old, v)
          (all_weaker _ (LiesBefore end) ps (λ p h. (let inside = h.0 in omega arith, h.1)) s.lies)
          (omega arith, omega arith);
      within = omega arith;
      fits = omega arith;
      image = subst IsImage (sym (pushed_present store ps (ps ++ (old, v) ∷ []) old base begin end v refl s b n l))
          s.image;
    })

-- ---- nothing is open

pub moved_present : (store : List ℕ) (ps : List Piece) (old base begin : ℕ) → length store ≤ begin
    → memory_in_store store ps base begin ≡ memory_in_store store ps old begin
moved_present store ps old base begin none =
    let empty_rest = ap length (drop_all begin store none) in
    sym (no_bytes (memory_of (runs_in store ps)) base (drop begin store) empty_rest)
    ∙ no_bytes (memory_of (runs_in store ps)) old (drop begin store) empty_rest

pub moved_laid : (store : List ℕ) (ps : List Piece) (old base begin : ℕ) → length store ≤ begin → old ≤ base
    → base ≤ 2 ^ 64 → AreSegments store ps old begin
    → AreSegments store ps base begin
moved_laid store ps old base begin none later fits s = record {
  apart = s.apart;
  below = all_weaker _ (λ p. end_at p < base) ps (λ p h. omega arith) s.below;
  lies = s.lies;
  within = s.within;
  fits = omega arith;
  image = subst IsImage (sym (moved_present store ps old base begin none)) s.image;
}

pub nothing_laid : (store : List ℕ) (ps : List Piece) → store ≡ [] → ps ≡ [] → AreSegments store ps 0 0
nothing_laid store ps e f = rw (e, f) (record {
  apart = tt;
  below = tt;
  lies = tt;
  within = omega arith;
  fits = omega arith;
  image = subst IsImage (no_bytes empty 0 [] refl) nothing_image;
})
  where
    nothing_image : IsImage empty
    nothing_image =
        record {
          addresses = λ a b e. absurd (grind (arith, byte_of_memory_of [] a));
          bytes = λ a b e. absurd (grind (arith, byte_of_memory_of [] a));
        }

pub nothing_present_by : (store : List ℕ) (ps : List Piece) → store ≡ [] → ps ≡ []
    → memory_in_store store ps 0 0 ≡ empty
nothing_present_by store ps e f = rw (e, f) (sym (no_bytes empty 0 [] refl))

-- ---- piece by piece

-- the rest of the pieces of a store is still to be taken, and f is what is present once all are
pub record IsLeft (store : List ℕ) (f : ℕ → Option ℕ) (s : Segments) (rest : List Piece) : Type 0 where
  pub valid : IsValid s
  pub rising : AreSortedDisjoint rest
  pub lies : AllByRecursion (LiesBefore (length store)) rest
  pub behind : AllByRecursion (λ p. end_in s ≤ p.0) rest
  pub whole : (x : ℕ) → option_or (byte_of (memory_in s) x) (lookup (runs_in store rest) x) ≡ f x

past_end : (s : Segments) (x : ℕ) → IsValid s → end_in s ≤ x → byte_of (memory_in s) x ≡ None
past_end s x valid past =
    let store = s.store in
    let long = length-drop s.start store in
    let within = valid.within in
    let none : lookup (runs_in store s.ended.items) x ≡ None =
    none_present store s.start s.ended.items x within valid.lies
    (all_weaker _ _ s.ended.items (λ p below. inl (omega arith)) valid.below) in
    byte_of_memory_of (all_runs store s.ended.items s.base s.start) x
    ∙ rw (present_none (run_at s.base (drop s.start store)) x (inr (omega arith))) none

-- the next piece is taken
pub left_more : (store : List ℕ) (f : ℕ → Option ℕ) (s t : Segments) (p : Piece) (rest : List Piece) (bytes : List ℕ)
    → IsLeft store f s (p ∷ rest)
    → bytes ≡ take p.1.len (drop p.1.start store) → IsValid t → memory_in t ≡ with_bytes (memory_in s) p.0 bytes
    → end_in t ≡ p.0 + length bytes → IsLeft store f t rest
left_more store f s t p rest bytes left same valid present_is end_is =
    let ends : end_in t ≡ end_at p = end_is ∙ ap (λ (b : List ℕ). p.0 + length b) same
    ∙ run_ends store p (length store) (omega arith) left.lies.0 in
    record {
      valid = valid;
      rising = left.rising.2;
      lies = left.lies.1;
      behind = subst (λ n. AllByRecursion (λ q. n ≤ q.0) rest) (sym ends) left.rising.1;
      whole = λ x.
          let clear : (byte_in (run_in store p) x ≡ None) ⊎ (byte_of (memory_in s) x ≡ None) = elim (cases_lt x p.0) [
            | inl l ↦ inl (present_none (run_in store p) x (inl l))
            | inr l ↦ inr (let behind = left.behind.0 in past_end s x left.valid (omega arith))
          ] in
          let here : byte_of (memory_in t) x ≡ option_or (byte_in (run_in store p) x) (byte_of (memory_in s) x) =
          ap (λ m. byte_of m x) present_is ∙ byte_of-with_bytes (memory_in s) p.0 bytes x
          ∙ ap (λ b. option_or (byte_in (run_at p.0 b) x) (byte_of (memory_in s) x)) same in
          swapped (byte_of (memory_in t) x) (byte_in (run_in store p) x) (byte_of (memory_in s) x)
          (lookup (runs_in store rest) x) here clear ∙ left.whole x;
    }
  where
    swapped : (now new old later : Option ℕ) → now ≡ option_or new old → (new ≡ None) ⊎ (old ≡ None)
        → option_or now later ≡ option_or old (option_or new later)
    swapped now new old later e clear = grind arith

drop_read : (ps : List Piece) (i : ℕ) (p : Piece) → i < length ps → p ≡ get_or ps i p → drop i ps ≡ p ∷ drop (i + 1) ps
drop_read ps i p h is = drop_more ps i p h ∙ ap (λ q. q ∷ drop (i + 1) ps) (sym is)

-- the same, in a list
pub left_next : (store : List ℕ) (f : ℕ → Option ℕ) (s t : Segments) (ps : List Piece) (i : ℕ) (p : Piece)
    (bytes : List ℕ) → IsLeft store f s (drop i ps)
    → i < length ps → p ≡ get_or ps i p → bytes ≡ take p.1.len (drop p.1.start store) → IsValid t
    → memory_in t ≡ with_bytes (memory_in s) p.0 bytes
    → end_in t ≡ p.0 + length bytes → IsLeft store f t (drop (i + 1) ps)
left_next store f s t ps i p bytes left h is same valid present_is end_is =
    left_more store f s t p (drop (i + 1) ps) bytes (subst (IsLeft store f s) (drop_read ps i p h is) left) same valid
    present_is end_is

-- the conditions for taking the next one
pub record IsNext (store : List ℕ) (s : Segments) (p : Piece) : Type 0 where
  pub behind : end_in s ≤ p.0
  pub inside : p.1.start + p.1.len ≤ length store
  pub fits : end_at p ≤ 2 ^ 64

pub next_left : (store : List ℕ) (f : ℕ → Option ℕ) (s : Segments) (ps : List Piece) (i : ℕ) (p : Piece)
    → IsLeft store f s (drop i ps) → i < length ps
    → p ≡ get_or ps i p → IsNext store s p
next_left store f s ps i p left h is =
    let first = subst (IsLeft store f s) (drop_read ps i p h is) left in
    record { behind = first.behind.0; inside = first.lies.0.0; fits = first.lies.0.1 }

pub next_ends : (store : List ℕ) (s : Segments) (p : Piece) (bytes : List ℕ) (end : ℕ) → IsNext store s p
    → bytes ≡ take p.1.len (drop p.1.start store)
    → end ≡ p.0 + length bytes → end ≡ end_at p
next_ends store s p bytes end next same is =
    let inside = next.inside in
    is ∙ ap (λ (b : List ℕ). p.0 + length b) same ∙ run_ends store p (length store) (omega arith) (inside, next.fits)
