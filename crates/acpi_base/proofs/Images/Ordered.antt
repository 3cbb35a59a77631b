-- Pieces whose bytes are put into the order of the pieces.
use Rattle.std.proofs.Common.{◌≡◌, ℕ, zero, suc, ◌+◌, ◌<◌, ◌≤◌, List, [], ◌∷◌, ◌++◌, length, get_or, take, drop, slice_set, refl, sym, ap, ◌∙◌, arith, length-append, length-drop, append_assoc, subst}
use Rattle.std.specs.List.{AllByRecursion}
use Rattle.std.proofs.lemmas.List.{append-nil, drop_all, length-take-le, take-append-le, take_all}
use Rattle.std.proofs.Math.Seq.{drop-append_seam}
use Rattle.acpi_base.specs.Image.Runs.{run_at}
use Rattle.acpi_base.specs.Image.Draft.{AreContiguous, AreDrafted}
use Rattle.acpi_base.specs.Image.Pieces.{Piece, LiesBefore, end_at, run_in, runs_in}
use Rattle.acpi_base.specs.Image.Segments.{AreSegmentsApart}

-- the bytes of pieces, one after the other
abbrev pub bytes_of : List ℕ → List Piece → List ℕ
bytes_of store [] = []
bytes_of store (p ∷ ps) = take p.1.len (drop p.1.start store) ++ bytes_of store ps

-- the pieces, if their bytes are these from an index on
abbrev pub placed : ℕ → List Piece → List Piece
placed from [] = []
placed from (p ∷ ps) = (p.0, record { start = from; len = p.1.len }) ∷ placed (from + p.1.len) ps

abbrev pub count_of : List Piece → ℕ
count_of [] = 0
count_of (p ∷ ps) = p.1.len + count_of ps

-- ---- one piece after the other

pub placed_next : (ps : List Piece) (i from start : ℕ) (d : Piece) → i < length ps
    → start ≡ from + count_of (take i ps)
    → slice_set (placed from (take i ps) ++ drop i ps) i
    ((get_or ps i d).0, record { start = start; len = (get_or ps i d).1.len })
    ≡ placed from (take (suc i) ps) ++ drop (suc i) ps
placed_next [] i from start d h e = absurd (omega arith)
placed_next (p ∷ ps) zero from start d h e =
    ap (λ s. (p.0, record { start = s; len = p.1.len }) ∷ ps) (omega arith)
placed_next (p ∷ ps) (suc i) from start d h e =
    ap (λ qs. (p.0, record { start = from; len = p.1.len }) ∷ qs)
    (placed_next ps i (from + p.1.len) start d (omega arith) (omega arith))

pub placed_get : (ps : List Piece) (i from : ℕ) (d : Piece) → i < length ps
    → get_or (placed from (take i ps) ++ drop i ps) i d ≡ get_or ps i d
placed_get [] i from d h = absurd (omega arith)
placed_get (p ∷ ps) zero from d h = refl
placed_get (p ∷ ps) (suc i) from d h = placed_get ps i (from + p.1.len) d (omega arith)

pub placed_length : (ps : List Piece) (i from : ℕ) → length (placed from (take i ps) ++ drop i ps) ≡ length ps
placed_length [] zero from = refl
placed_length [] (suc i) from = refl
placed_length (p ∷ ps) zero from = refl
placed_length (p ∷ ps) (suc i) from = ap suc (placed_length ps i (from + p.1.len))

pub bytes_next : (store : List ℕ) (ps : List Piece) (i : ℕ) (d : Piece) → i < length ps
    → bytes_of store (take (suc i) ps)
    ≡ bytes_of store (take i ps) ++ take (get_or ps i d).1.len (drop (get_or ps i d).1.start store)
bytes_next store [] i d h = absurd (omega arith)
bytes_next store (p ∷ ps) zero d h = append-nil (take p.1.len (drop p.1.start store))
bytes_next store (p ∷ ps) (suc i) d h =
    ap (λ bs. take p.1.len (drop p.1.start store) ++ bs) (bytes_next store ps i d (omega arith))
    ∙ sym (append_assoc (take p.1.len (drop p.1.start store)) (bytes_of store (take i ps)) _)

bytes_count : (store : List ℕ) (ps : List Piece) (i : ℕ) → AllByRecursion (LiesBefore (length store)) ps
    → length (bytes_of store (take i ps)) ≡ count_of (take i ps)
bytes_count store [] zero lies = refl
bytes_count store [] (suc i) lies = refl
bytes_count store (p ∷ ps) zero lies = refl
bytes_count store (p ∷ ps) (suc i) lies =
    let low = lies.0.0 in
    let rest = bytes_count store ps i lies.1 in
    let here = length-take-le p.1.len (drop p.1.start store) (omega (arith, length-drop p.1.start store)) in
    let both = length-append (take p.1.len (drop p.1.start store)) (bytes_of store (take i ps)) in
    omega arith

-- the first pieces have been placed
pub record ArePlaced (store : List ℕ) (ps : List Piece) (i : ℕ) (row : List ℕ) (qs : List Piece) : Type 0 where
  pub pieces : qs ≡ placed 0 (take i ps) ++ drop i ps
  pub bytes : row ≡ bytes_of store (take i ps)

-- ---- all of them

above : (a from : ℕ) (ps : List Piece) → AllByRecursion (λ q. a < q.0) ps
    → AllByRecursion (λ q. a < q.0) (placed from ps)
above a from [] all = tt
above a from (p ∷ ps) all = (all.0, above a (from + p.1.len) ps all.1)

placed_apart : (from : ℕ) (ps : List Piece) → AreSegmentsApart ps → AreSegmentsApart (placed from ps)
placed_apart from [] apart = tt
placed_apart from (p ∷ ps) apart =
    (apart.0, above (end_at p) (from + p.1.len) ps apart.1, placed_apart (from + p.1.len) ps apart.2)

placed_filled : (from : ℕ) (ps : List Piece) → AreSegmentsApart ps → AllByRecursion (λ p. 0 < p.1.len) (placed from ps)
placed_filled from [] apart = tt
placed_filled from (p ∷ ps) apart = (apart.0, placed_filled (from + p.1.len) ps apart.2)

placed_lie : (from n m : ℕ) (ps : List Piece) → from + count_of ps ≤ n → AllByRecursion (LiesBefore m) ps
    → AllByRecursion (LiesBefore n) (placed from ps)
placed_lie from n m [] h lies = tt
placed_lie from n m (p ∷ ps) h lies =
    ((omega arith, lies.0.1), placed_lie (from + p.1.len) n m ps (omega arith) lies.1)

placed_contiguous : (from to : ℕ) (ps : List Piece) → to ≡ from + count_of ps → AreContiguous (placed from ps) from to
unfolding AreContiguous
placed_contiguous from to [] e = omega arith
placed_contiguous from to (p ∷ ps) e = (refl, placed_contiguous (from + p.1.len) to ps (omega arith))

placed_runs : (store before : List ℕ) (from : ℕ) (ps : List Piece) → from ≡ length before
    → AllByRecursion (LiesBefore (length store)) ps
    → runs_in (before ++ bytes_of store ps) (placed from ps) ≡ runs_in store ps
placed_runs store before from [] e lies = refl
placed_runs store before from (p ∷ ps) e lies =
    let bytes : List ℕ = take p.1.len (drop p.1.start store) in
    let low = lies.0.0 in
    let long : length bytes ≡ p.1.len =
    length-take-le p.1.len (drop p.1.start store) (omega (arith, length-drop p.1.start store)) in
    let here : take p.1.len (drop from (before ++ (bytes ++ bytes_of store ps))) ≡ bytes =
    ap (λ k. take p.1.len (drop k (before ++ (bytes ++ bytes_of store ps)))) e
    ∙ ap (take p.1.len) (drop-append_seam before (bytes ++ bytes_of store ps))
    ∙ take-append-le p.1.len bytes (bytes_of store ps) (omega arith)
    ∙ take_all p.1.len bytes (omega arith) in
    ap (λ bs. run_at p.0 bs ∷ runs_in (before ++ (bytes ++ bytes_of store ps)) (placed (from + p.1.len) ps)) here
    ∙ ap (λ all. run_in store p ∷ runs_in all (placed (from + p.1.len) ps))
    (sym (append_assoc before bytes (bytes_of store ps)))
    ∙ ap (λ rs. run_in store p ∷ rs)
    (placed_runs store (before ++ bytes) (from + p.1.len) ps (omega (arith, length-append before bytes)) lies.1)

pub record AreOrdered (store : List ℕ) (ps : List Piece) (bytes : List ℕ) (qs : List Piece) : Type 0 where
  pub draft : AreDrafted bytes qs
  pub apart : AreSegmentsApart qs
  pub same : runs_in bytes qs ≡ runs_in store ps

ordered : (store : List ℕ) (ps : List Piece) → AllByRecursion (LiesBefore (length store)) ps → AreSegmentsApart ps
    → AreOrdered store ps (bytes_of store ps) (placed 0 ps)
ordered store ps lies apart =
    let long : length (bytes_of store ps) ≡ count_of ps =
    sym (ap (λ qs. length (bytes_of store qs)) (take_all (length ps) ps (omega arith)))
    ∙ bytes_count store ps (length ps) lies ∙ ap count_of (take_all (length ps) ps (omega arith)) in
    record {
      draft = record {
        filled = placed_filled 0 ps apart;
        lies = placed_lie 0 (length (bytes_of store ps)) (length store) ps (omega arith) lies;
        contiguous = placed_contiguous 0 (length (bytes_of store ps)) ps (omega arith);
      };
      apart = placed_apart 0 ps apart;
      same = placed_runs store [] 0 ps refl lies;
    }

pub all_ordered : (store : List ℕ) (ps : List Piece) (i : ℕ) (bytes : List ℕ) (qs : List Piece)
    → ArePlaced store ps i bytes qs → length ps ≤ i → AllByRecursion (LiesBefore (length store)) ps
    → AreSegmentsApart ps → AreOrdered store ps bytes qs
all_ordered store ps i bytes qs is past lies apart =
    let row : qs ≡ placed 0 ps = is.pieces ∙ ap (λ rest. placed 0 (take i ps) ++ rest) (drop_all i ps past)
    ∙ append-nil (placed 0 (take i ps)) ∙ ap (placed 0) (take_all i ps past) in
    let all : bytes ≡ bytes_of store ps = is.bytes ∙ ap (bytes_of store) (take_all i ps past) in
    subst (λ rs. AreOrdered store ps bytes rs) (sym row)
    (subst (λ bs. AreOrdered store ps bs (placed 0 ps)) (sym all) (ordered store ps lies apart))

pub placed_more : (store : List ℕ) (ps : List Piece) (i : ℕ) (bytes new : List ℕ) (qs : List Piece) (d p : Piece)
    (start : ℕ) → ArePlaced store ps i bytes qs → i < length ps → AllByRecursion (LiesBefore (length store)) ps
    → p ≡ get_or qs i d → start ≡ length bytes → new ≡ bytes ++ take p.1.len (drop p.1.start store)
    → ArePlaced store ps (i + 1) new (slice_set qs i (p.0, record { start = start; len = p.1.len }))
placed_more store ps i bytes new qs d p start is within lies read at e =
    let same : p ≡ get_or ps i d = read ∙ ap (λ rs. get_or rs i d) is.pieces ∙ placed_get ps i 0 d within in
    let from : start ≡ 0 + count_of (take i ps) =
    at ∙ ap length is.bytes ∙ bytes_count store ps i lies ∙ omega arith in
    let next : suc i ≡ i + 1 = omega arith in
    subst (λ n. ArePlaced store ps n new (slice_set qs i (p.0, record { start = start; len = p.1.len }))) next (record {
      pieces = ap (λ rs. slice_set rs i (p.0, record { start = start; len = p.1.len })) is.pieces
          ∙ ap (λ q. slice_set (placed 0 (take i ps) ++ drop i ps) i (q.0, record { start = start; len = q.1.len }))
          same
          ∙ placed_next ps i 0 start d within from;
      bytes = e ∙ ap (λ q. bytes ++ take q.1.len (drop q.1.start store)) same
          ∙ ap (λ bs. bs ++ take (get_or ps i d).1.len (drop (get_or ps i d).1.start store)) is.bytes
          ∙ sym (bytes_next store ps i d within);
    })
