-- Pieces that came one after another: their bytes, and that they stay in order.
use Rattle.std.proofs.Common.{◌≡◌, inr, ℕ, zero, suc, ◌+◌, ◌-◌, ◌^◌, ◌<◌, ◌≤◌, Bool, true, false, cond, List, [], ◌∷◌, ◌++◌, length, get_or, take, drop, slice_set, Option, Some, None, is_some, refl, sym, ap, subst, ◌∙◌, arith, length-append, length-drop, add-zero}
use Rattle.std.specs.Prelude.{Result, Ok, Err}
use Rattle.std.specs.Option.{option_map_or, option_or}
use Rattle.std.specs.List.{AllByRecursion}
use Rattle.std.specs.FinMap.{empty}
use Rattle.std.proofs.lemmas.List.{take_all, drop-append-le}
use Rattle.std.proofs.Math.Seq.{drop-append_seam}
use Rattle.acpi_base.specs.declared.image.span.Span.{Span}
use Rattle.acpi_base.specs.Memory.{Memory, byte_of, first_present, least_defined, with_bytes}
use Rattle.acpi_base.specs.Image.Adding.{added}
use Rattle.acpi_base.specs.Image.Draft.{AreContiguous, AreDrafted, EndsAt, all_added}
use Rattle.acpi_base.specs.Image.Pieces.{Piece, LiesBefore, end_at, run_in, runs_in}
use Rattle.acpi_base.specs.Image.Runs.{Run, run_at}
use Rattle.acpi_base.specs.Text.ImageText.{on_ok}
use Rattle.acpi_base.proofs.Images.Holders.{all_push}
use Rattle.acpi_base.proofs.Images.RunBytes.{byte_of-with_bytes_outside}
use Rattle.acpi_base.proofs.Images.SegmentOrder.{with_bytes-append}
use Rattle.acpi_base.proofs.Images.Stores.{all_weaker, runs_in_more}

-- ---- one step after the other

pub on_ok_assoc : {A B C E : Type 0} → (x : Result A E) (f : A → Result B E) (g : B → Result C E)
    → on_ok (on_ok x f) g ≡ on_ok x (λ a. on_ok (f a) g)
on_ok_assoc (Ok a) f g = refl
on_ok_assoc (Err e) f g = refl

pub on_ok_same : {A B E : Type 0} → (x : Result A E) (f g : A → Result B E) → ((a : A) → f a ≡ g a)
    → on_ok x f ≡ on_ok x g
on_ok_same (Ok a) f g h = h a
on_ok_same (Err e) f g h = refl

pub on_ok_last : {A E : Type 0} → (x : Result A E) → on_ok x (λ a. Ok a) ≡ x
on_ok_last (Ok a) = refl
on_ok_last (Err e) = refl

pub added_nothing : (x : Result Memory ℕ) (a : ℕ) (bytes : List ℕ) → length bytes ≡ 0
    → x ≡ on_ok x (λ m. added m a bytes)
unfolding with_bytes least_defined
added_nothing (Ok m) a [] none = refl
added_nothing (Ok m) a (b ∷ bytes) none = absurd (omega arith)
added_nothing (Err x) a bytes none = refl

pub all_added-append : (m : Memory) (rs ts : List Run)
    → all_added m (rs ++ ts) ≡ on_ok (all_added m rs) (λ n. all_added n ts)
unfolding all_added
all_added-append m [] ts = refl
all_added-append m (r ∷ rs) ts =
    on_ok_same (added m r.base r.bytes) _ _ (λ n. all_added-append n rs ts)
    ∙ sym (on_ok_assoc (added m r.base r.bytes) (λ n. all_added n rs) (λ n. all_added n ts))

pub all_added-push : (m : Memory) (rs : List Run) (a : ℕ) (bytes : List ℕ)
    → all_added m (rs ++ run_at a bytes ∷ []) ≡ on_ok (all_added m rs) (λ n. added n a bytes)
unfolding all_added
all_added-push m rs a bytes =
    all_added-append m rs (run_at a bytes ∷ [])
    ∙ on_ok_same (all_added m rs) _ _ (λ n. on_ok_last (added n a bytes))

pub runs_in-append : (store : List ℕ) (ps qs : List Piece)
    → runs_in store (ps ++ qs) ≡ runs_in store ps ++ runs_in store qs
runs_in-append store [] qs = refl
runs_in-append store (p ∷ ps) qs = ap (λ rs. run_in store p ∷ rs) (runs_in-append store ps qs)

-- ---- one run in two parts

least_defined-append : (f : ℕ → Option ℕ) (a n k : ℕ)
    → least_defined f a (n + k) ≡ option_or (least_defined f a n) (least_defined f (a + n) k)
unfolding least_defined
least_defined-append f a zero k =
    ap (least_defined f a) zero_and ∙ ap (λ b. least_defined f b k) (sym (add-zero a))
  where
    zero_and : 0 + k ≡ k
    zero_and = omega arith
least_defined-append f a (suc n) k =
    let more : suc n + k ≡ suc (n + k) = omega arith in
    let next : a + 1 + n ≡ a + suc n = omega arith in
    ap (least_defined f a) more
    ∙ ap (cond (is_some (f a)) (Some a)) (least_defined-append f (a + 1) n k
    ∙ ap (λ b. option_or (least_defined f (a + 1) n) (least_defined f b k)) next)
    ∙ before (is_some (f a)) (least_defined f (a + 1) n) (least_defined f (a + suc n) k)
  where
    before : (t : Bool) (x y : Option ℕ) → cond t (Some a) (option_or x y) ≡ option_or (cond t (Some a) x) y
    before true x y = refl
    before false x y = refl

least_defined-same : (f g : ℕ → Option ℕ) (a n : ℕ) → ((x : ℕ) → a ≤ x → f x ≡ g x)
    → least_defined f a n ≡ least_defined g a n
unfolding least_defined
least_defined-same f g a zero same = refl
least_defined-same f g a (suc n) same =
    grind (arith, same a (omega arith), least_defined-same f g (a + 1) n (λ x l. same x (omega arith)))

pub added-append : (m : Memory) (a : ℕ) (xs ys : List ℕ)
    → added m a (xs ++ ys) ≡ on_ok (added m a xs) (λ n. added n (a + length xs) ys)
added-append m a xs ys =
    ap (λ k. option_map_or (λ x. Err x) (first_present m a k) (Ok (with_bytes m a (xs ++ ys)))) (length-append xs ys)
    ∙ ap (λ o. option_map_or (λ x. Err x) o (Ok (with_bytes m a (xs ++ ys))))
    (least_defined-append (byte_of m) a (length xs) (length ys))
    ∙ either (first_present m a (length xs))
  where
    behind : first_present m (a + length xs) (length ys) ≡ first_present (with_bytes m a xs) (a + length xs) (length ys)
    behind = least_defined-same _ _ _ _ (λ x l. sym (byte_of-with_bytes_outside m a xs x (inr l)))

    either : (o : Option ℕ) → option_map_or (λ x. Err x) (option_or o (first_present m (a + length xs) (length ys)))
        (Ok (with_bytes m a (xs ++ ys)))
        ≡ on_ok (option_map_or (λ x. Err x) o (Ok (with_bytes m a xs))) (λ n. added n (a + length xs) ys)
    either (Some x) = refl
    either None =
        ap (λ o. option_map_or (λ x. Err x) o (Ok (with_bytes m a (xs ++ ys)))) behind
        ∙ ap (λ n. option_map_or (λ x. Err x) (first_present (with_bytes m a xs) (a + length xs) (length ys)) (Ok n))
        (with_bytes-append m a xs ys)

-- ---- contiguous pieces

pub all_before : (P : Piece → Type 0) (ps : List Piece) (p : Piece) → AllByRecursion P (ps ++ p ∷ [])
    → AllByRecursion P ps
all_before P [] p all = tt
all_before P (q ∷ ps) p all = (all.0, all_before P ps p all.1)

pub all_last : (P : Piece → Type 0) (ps : List Piece) (p : Piece) → AllByRecursion P (ps ++ p ∷ []) → P p
all_last P [] p all = all.0
all_last P (q ∷ ps) p all = all_last P ps p all.1

pub contiguous-push : (ps : List Piece) (from to n a : ℕ) (v : Span) → AreContiguous ps from to → v.start ≡ to
    → n ≡ to + v.len
    → AreContiguous (ps ++ (a, v) ∷ []) from n
unfolding AreContiguous
contiguous-push [] from to n a v e s l = (omega arith, omega arith)
contiguous-push (p ∷ ps) from to n a v e s l = (e.0, contiguous-push ps (from + p.1.len) to n a v e.1 s l)

pub contiguous-last : (ps : List Piece) (p : Piece) (from to : ℕ) → AreContiguous (ps ++ p ∷ []) from to
    → p.1.start + p.1.len ≡ to
unfolding AreContiguous
contiguous-last [] p from to e = (let first = e.0 in let last = e.1 in omega arith)
contiguous-last (q ∷ ps) p from to e = contiguous-last ps p (from + q.1.len) to e.1

pub contiguous-grow : (ps : List Piece) (p : Piece) (from to n : ℕ) (v : Span) → AreContiguous (ps ++ p ∷ []) from to
    → v.start ≡ p.1.start → v.len ≡ p.1.len + n → AreContiguous (ps ++ (p.0, v) ∷ []) from (to + n)
unfolding AreContiguous
contiguous-grow [] p from to n v e s l = (let first = e.0 in let last = e.1 in (omega arith, omega arith))
contiguous-grow (q ∷ ps) p from to n v e s l = (e.0, contiguous-grow ps p (from + q.1.len) to n v e.1 s l)

-- ---- what has come

-- one more piece
pub opened_draft : (store new more : List ℕ) (ps qs : List Piece) (a : ℕ) (v : Span) → AreDrafted store ps
    → new ≡ store ++ more → qs ≡ ps ++ (a, v) ∷ [] → v.start ≡ length store → v.len ≡ length more
    → all_added empty (runs_in new qs) ≡ on_ok (all_added empty (runs_in store ps)) (λ m. added m a more)
opened_draft store new more ps qs a v d e f s l =
    let here : take v.len (drop v.start (store ++ more)) ≡ more =
    ap (λ k. take v.len (drop k (store ++ more))) s ∙ ap (take v.len) (drop-append_seam store more)
    ∙ take_all v.len more (omega arith) in
    ap (λ w. all_added empty (runs_in w qs)) e
    ∙ ap (λ ts. all_added empty (runs_in (store ++ more) ts)) f
    ∙ ap (all_added empty) (runs_in-append (store ++ more) ps ((a, v) ∷ []))
    ∙ ap (λ b. all_added empty (runs_in (store ++ more) ps ++ run_at a b ∷ [])) here
    ∙ ap (λ rs. all_added empty (rs ++ run_at a more ∷ []))
    (runs_in_more store more (length store) ps (omega arith) d.lies)
    ∙ all_added-push empty (runs_in store ps) a more

-- the last piece takes more bytes
pub extended_draft : (store new more : List ℕ) (ps qs : List Piece) (p : Piece) (v : Span)
    → AreDrafted store (ps ++ p ∷ [])
    → new ≡ store ++ more → qs ≡ ps ++ (p.0, v) ∷ [] → v.start ≡ p.1.start → v.len ≡ p.1.len + length more
    → all_added empty (runs_in new qs)
    ≡ on_ok (all_added empty (runs_in store (ps ++ p ∷ []))) (λ m. added m (end_at p) more)
extended_draft store new more ps qs p v d e f s l =
    let last = contiguous-last ps p 0 (length store) d.contiguous in
    let bytes = take p.1.len (drop p.1.start store) in
    let behind : length (drop p.1.start store) ≡ p.1.len = length-drop p.1.start store ∙ omega arith in
    let whole : bytes ≡ drop p.1.start store = take_all p.1.len (drop p.1.start store) (omega arith) in
    let long : length bytes ≡ p.1.len = ap length whole ∙ behind in
    let here : take v.len (drop v.start (store ++ more)) ≡ bytes ++ more =
    ap (λ k. take v.len (drop k (store ++ more))) s
    ∙ ap (take v.len) (drop-append-le p.1.start store more (omega arith))
    ∙ take_all v.len (drop p.1.start store ++ more) (omega (arith, length-append (drop p.1.start store) more))
    ∙ ap (λ b. b ++ more) (sym whole) in
    ap (λ w. all_added empty (runs_in w qs)) e
    ∙ ap (λ ts. all_added empty (runs_in (store ++ more) ts)) f
    ∙ ap (all_added empty) (runs_in-append (store ++ more) ps ((p.0, v) ∷ []))
    ∙ ap (λ b. all_added empty (runs_in (store ++ more) ps ++ run_at p.0 b ∷ [])) here
    ∙ ap (λ rs. all_added empty (rs ++ run_at p.0 (bytes ++ more) ∷ []))
    (runs_in_more store more (length store) ps (omega arith) (all_before (LiesBefore (length store)) ps p d.lies))
    ∙ all_added-push empty (runs_in store ps) p.0 (bytes ++ more)
    ∙ on_ok_same (all_added empty (runs_in store ps)) _ _ (λ m. added-append m p.0 bytes more
    ∙ ap (λ k. on_ok (added m p.0 bytes) (λ n. added n (p.0 + k) more)) long)
    ∙ sym (on_ok_assoc (all_added empty (runs_in store ps)) (λ m. added m p.0 bytes) (λ n. added n (end_at p) more))
    ∙ ap (λ x. on_ok x (λ n. added n (end_at p) more)) (sym (all_added-push empty (runs_in store ps) p.0 bytes))
    ∙ ap (λ rs. on_ok (all_added empty rs) (λ n. added n (end_at p) more)) (sym (runs_in-append store ps (p ∷ [])))

-- ---- in order

more_store : (store new more : List ℕ) (ps : List Piece) → new ≡ store ++ more
    → AllByRecursion (LiesBefore (length store)) ps
    → AllByRecursion (LiesBefore (length new)) ps
more_store store new more ps e lies =
    let long : length new ≡ length store + length more = ap length e ∙ length-append store more in
    all_weaker (LiesBefore (length store)) (LiesBefore (length new)) ps (λ p h. (let low = h.0 in omega arith, h.1))
    lies

pub drafted-push : (store new more : List ℕ) (ps qs : List Piece) (a : ℕ) (v : Span) → AreDrafted store ps
    → new ≡ store ++ more
    → qs ≡ ps ++ (a, v) ∷ [] → v.start ≡ length store → v.len ≡ length more → 0 < length more → a + length more ≤ 2 ^ 64
    → AreDrafted new qs
drafted-push store new more ps qs a v d e f s l some fits =
    let long : length new ≡ length store + length more = ap length e ∙ length-append store more in
    subst (AreDrafted new) (sym f) (record {
      filled = all_push (λ p. 0 < p.1.len) ps (a, v) d.filled (omega arith);
      lies = all_push (LiesBefore (length new)) ps (a, v) (more_store store new more ps e d.lies)
          (omega arith, omega arith);
      contiguous = contiguous-push ps 0 (length store) (length new) a v d.contiguous s (omega arith);
    })

pub drafted-grow : (store new more : List ℕ) (ps qs : List Piece) (p : Piece) (v : Span)
    → AreDrafted store (ps ++ p ∷ [])
    → new ≡ store ++ more → qs ≡ ps ++ (p.0, v) ∷ [] → v.start ≡ p.1.start → v.len ≡ p.1.len + length more
    → end_at p + length more ≤ 2 ^ 64 → AreDrafted new qs
drafted-grow store new more ps qs p v d e f s l fits =
    let long : length new ≡ length store + length more = ap length e ∙ length-append store more in
    let last = contiguous-last ps p 0 (length store) d.contiguous in
    let some = all_last (λ p. 0 < p.1.len) ps p d.filled in
    subst (AreDrafted new) (sym f) (record {
      filled = all_push (λ p. 0 < p.1.len) ps (p.0, v) (all_before (λ p. 0 < p.1.len) ps p d.filled) (omega arith);
      lies = all_push (LiesBefore (length new)) ps (p.0, v)
          (more_store store new more ps e (all_before (LiesBefore (length store)) ps p d.lies))
          (omega arith, omega arith);
      contiguous = subst (AreContiguous (ps ++ (p.0, v) ∷ []) 0) (sym long)
          (contiguous-grow ps p 0 (length store) (length more) v d.contiguous s l);
    })

pub nothing_drafted : (store : List ℕ) (ps : List Piece) → store ≡ [] → ps ≡ [] → AreDrafted store ps
unfolding AreContiguous
nothing_drafted store ps e f = rw (e, f) (record { filled = tt; lies = tt; contiguous = refl })

pub nothing_added : (store : List ℕ) (ps : List Piece) → ps ≡ [] → all_added empty (runs_in store ps) ≡ Ok empty
unfolding all_added
nothing_added store ps f = rw f refl

-- ---- the piece that came last

pub last_split : (ps : List Piece) (k : ℕ) (d : Piece) → length ps ≡ suc k → ps ≡ take k ps ++ get_or ps k d ∷ []
last_split [] k d e = absurd (omega arith)
last_split (p ∷ []) zero d e = refl
last_split (p ∷ q ∷ ps) zero d e = absurd (omega arith)
last_split (p ∷ ps) (suc k) d e = ap (λ qs. p ∷ qs) (last_split ps k d (omega arith))

last_set : (ps : List Piece) (k : ℕ) (q : Piece) → length ps ≡ suc k → slice_set ps k q ≡ take k ps ++ q ∷ []
last_set [] k q e = absurd (omega arith)
last_set (p ∷ []) zero q e = refl
last_set (p ∷ r ∷ ps) zero q e = absurd (omega arith)
last_set (p ∷ ps) (suc k) q e = ap (λ qs. p ∷ qs) (last_set ps k q (omega arith))

ends_there : (ps : List Piece) (i : ℕ) (d p : Piece) (base : ℕ) → EndsAt ps base → i ≡ length ps - 1 → p ≡ get_or ps i d
    → end_at p ≡ base
ends_there ps i d p base end at is = ap end_at is ∙ ap (λ j. end_at (get_or ps j d)) at ∙ end.1 d

pub extended_last : (store new more : List ℕ) (ps : List Piece) (i : ℕ) (d p : Piece) (v : Span) (base : ℕ)
    → AreDrafted store ps → new ≡ store ++ more → EndsAt ps base → i ≡ length ps - 1 → p ≡ get_or ps i d
    → v.start ≡ p.1.start → v.len ≡ p.1.len + length more
    → all_added empty (runs_in new (slice_set ps i (p.0, v)))
    ≡ on_ok (all_added empty (runs_in store ps)) (λ m. added m base more)
extended_last store new more ps i d p v base a e end at is s l =
    let some = end.0 in
    let n : length ps ≡ suc i = omega arith in
    let split : ps ≡ take i ps ++ p ∷ [] = last_split ps i d n ∙ ap (λ q. take i ps ++ q ∷ []) (sym is) in
    extended_draft store new more (take i ps) (slice_set ps i (p.0, v)) p v (subst (AreDrafted store) split a) e
    (last_set ps i (p.0, v) n) s l
    ∙ ap (λ qs. on_ok (all_added empty (runs_in store qs)) (λ m. added m (end_at p) more)) (sym split)
    ∙ ap (λ b. on_ok (all_added empty (runs_in store ps)) (λ m. added m b more)) (ends_there ps i d p base end at is)

pub drafted_last : (store new more : List ℕ) (ps : List Piece) (i : ℕ) (d p : Piece) (v : Span) (base : ℕ)
    → AreDrafted store ps → new ≡ store ++ more → EndsAt ps base → base + length more ≤ 2 ^ 64 → i ≡ length ps - 1
    → p ≡ get_or ps i d → v.start ≡ p.1.start → v.len ≡ p.1.len + length more → AreDrafted new (slice_set ps i (p.0, v))
drafted_last store new more ps i d p v base a e end fits at is s l =
    let some = end.0 in
    let n : length ps ≡ suc i = omega arith in
    let split : ps ≡ take i ps ++ p ∷ [] = last_split ps i d n ∙ ap (λ q. take i ps ++ q ∷ []) (sym is) in
    let ends = ends_there ps i d p base end at is in
    drafted-grow store new more (take i ps) (slice_set ps i (p.0, v)) p v (subst (AreDrafted store) split a) e
    (last_set ps i (p.0, v) n) s l (omega arith)
