-- Which pieces are refused, and why.
use Rattle.std.proofs.Common.{◌≡◌, inl, inr, ℕ, zero, suc, ◌+◌, ◌-◌, ◌^◌, ◌<◌, ◌≤◌, Bool, true, false, cond, List, [], ◌∷◌, ◌++◌, length, Option, Some, None, IsSome, is_some, Ok, Err, refl, sym, subst, ap, ◌∙◌, arith, add-zero}
use Rattle.std.specs.Prelude.{nat_lt}
use Rattle.std.specs.FinMap.{empty}
use Rattle.std.specs.Option.{option_map}
use Rattle.std.proofs.lemmas.Bool.{cases_lt}
use Rattle.std.proofs.lemmas.Bool.Decides.{nat_tests}
use Rattle.acpi_base.specs.Image.Adding.{add_refusal}
use Rattle.acpi_base.specs.Image.Runs.{run_at}
use Rattle.acpi_base.specs.Memory.{Memory, byte_of, first_present, least_defined, with_bytes}
use Rattle.acpi_base.specs.declared.image.ImageFault.{ImageFault}
use Rattle.acpi_base.specs.declared.image.ImageFault.TheVariants.{PastEnd, Twice}
use Rattle.acpi_base.specs.declared.image.ImageFault.TheVariants as image
use Rattle.acpi_base.proofs.Images.ByteRuns.{first_of_at}
use Rattle.acpi_base.proofs.Images.RunBytes.{present_inside, present_some}
use Rattle.acpi_base.proofs.Options.{a_value}
use Rattle.acpi_c.specs.Laws.{StandsBehind, IsPastEnd, IsOverlap, HasByte, HaveByte, PastEndMeans, OverlapMeans}
use Rattle.acpi_c.specs.Pieces.{piece_refusal, unless_refused, with_pieces}
use Rattle.acpi_c.specs.declared.pieces.Piece.{Piece}
use Rattle.acpi_c.specs.declared.refusal.Refusal.{Refusal}
use Rattle.acpi_c.specs.declared.refusal.Refusal.TheVariants.{PiecePastEnd, PiecesOverlap}
use Rattle.acpi_c.proofs.PiecesMean.{byte_at, byte_at_has, has_byte_at, pieces_mean}

-- The first piece that cannot be added, if those before it give an image.
record Refused (i : ℕ) (m : Memory) (ps : List Piece) (r : Refusal) : Type 0 where
  pub piece : Piece
  pub earlier : List Piece
  pub later : List Piece
  pub all : ps ≡ earlier ++ (piece ∷ later)
  pub image : Memory
  pub made : with_pieces i m earlier ≡ Ok image
  pub fault : ImageFault
  pub why : add_refusal image piece.address piece.bytes.now ≡ Some fault
  pub same : r ≡ piece_refusal (i + length earlier) fault

refused : (ps : List Piece) (i : ℕ) (m : Memory) (r : Refusal) → with_pieces i m ps ≡ Err r → Refused i m ps r
refused [] i m r e = absurd (cc)
refused (p ∷ ps) i m r e =
    go (λ h. refused ps (suc i) (with_bytes m p.address p.bytes.now) r h) (add_refusal m p.address p.bytes.now) refl e
  where
    go : (with_pieces (suc i) (with_bytes m p.address p.bytes.now) ps ≡ Err r
        → Refused (suc i) (with_bytes m p.address p.bytes.now) ps r)
        → (o : Option ImageFault) → add_refusal m p.address p.bytes.now ≡ o
        → unless_refused o i (with_pieces (suc i) (with_bytes m p.address p.bytes.now) ps) ≡ Err r
        → Refused i m (p ∷ ps) r
    go more (Some fault) why h =
        record {
          piece = p;
          earlier = [];
          later = ps;
          all = refl;
          image = m;
          made = refl;
          fault = fault;
          why = why;
          same = own h ∙ ap (λ k. piece_refusal k fault) (sym (add-zero i));
        }
      where
        own : unless_refused (Some fault) i (with_pieces (suc i) (with_bytes m p.address p.bytes.now) ps) ≡ Err r
            → r ≡ piece_refusal i fault
        own h = cc
    go more None free h =
        let rest = more h in
        let place : suc i + length rest.earlier ≡ i + suc (length rest.earlier) = omega arith in
        record {
          piece = rest.piece;
          earlier = p ∷ rest.earlier;
          later = rest.later;
          all = ap (λ l. p ∷ l) rest.all;
          image = rest.image;
          made = rw free rest.made;
          fault = rest.fault;
          why = rest.why;
          same = rest.same ∙ ap (λ k. piece_refusal k rest.fault) place;
        }

refuse : (earlier : List Piece) (i : ℕ) (m image : Memory) (p : Piece) (later : List Piece) (fault : ImageFault)
    → with_pieces i m earlier ≡ Ok image → add_refusal image p.address p.bytes.now ≡ Some fault
    → with_pieces i m (earlier ++ (p ∷ later)) ≡ Err (piece_refusal (i + length earlier) fault)
refuse [] i m image p later fault made why =
    let same : m ≡ image = cc in
    rw (subst (λ o. add_refusal o p.address p.bytes.now ≡ Some fault) (sym same) why)
    (ap (λ k. Err (piece_refusal k fault)) (sym (add-zero i)))
refuse (q ∷ earlier) i m image p later fault made why =
    go (λ h. refuse earlier (suc i) (with_bytes m q.address q.bytes.now) image p later fault h why)
    (add_refusal m q.address q.bytes.now) refl made
  where
    go : (with_pieces (suc i) (with_bytes m q.address q.bytes.now) earlier ≡ Ok image
        → with_pieces (suc i) (with_bytes m q.address q.bytes.now) (earlier ++ (p ∷ later))
        ≡ Err (piece_refusal (suc i + length earlier) fault))
        → (o : Option ImageFault) → add_refusal m q.address q.bytes.now ≡ o
        → unless_refused o i (with_pieces (suc i) (with_bytes m q.address q.bytes.now) earlier) ≡ Ok image
        → unless_refused (add_refusal m q.address q.bytes.now) i
        (with_pieces (suc i) (with_bytes m q.address q.bytes.now) (earlier ++ (p ∷ later)))
        ≡ Err (piece_refusal (i + suc (length earlier)) fault)
    go more (Some f) free h = absurd (cc)
    go more None free h =
        let place : suc i + length earlier ≡ i + suc (length earlier) = omega arith in
        rw free (more h ∙ ap (λ k. Err (piece_refusal k fault)) place)

-- ---- the first address that is present

-- x is the first of the n numbers from a on at which f has something
record IsFirstAt (f : ℕ → Option ℕ) (a n x : ℕ) : Type 0 where
  pub from : a ≤ x
  pub below : x < a + n
  pub some : IsSome (f x)
  pub none : (y : ℕ) → a ≤ y → y < x → f y ≡ None

nothing : (o : Option ℕ) → is_some o ≡ false → o ≡ None
nothing None e = refl
nothing (Some x) e = absurd (cc)

first_found : (f : ℕ → Option ℕ) (a n x : ℕ) → least_defined f a n ≡ Some x → IsFirstAt f a n x
unfolding least_defined
first_found f a zero x e = absurd (cc)
first_found f a (suc n) x e = go (λ h. first_found f (a + 1) n x h) (is_some (f a)) refl e
  where
    go : (least_defined f (a + 1) n ≡ Some x → IsFirstAt f (a + 1) n x) → (t : Bool) → is_some (f a) ≡ t
        → cond t (Some a) (least_defined f (a + 1) n) ≡ Some x → IsFirstAt f a (suc n) x
    go later true s h =
        let same : a ≡ x = cc in
        record {
          from = omega (arith, same);
          below = omega (arith, same);
          some = subst (λ y. IsSome (f y)) same s;
          none = λ y l m. absurd (omega (arith, same));
        }
    go later false s h =
        let rest = later h in
        record {
          from = omega (arith, rest.from);
          below = omega (arith, rest.below);
          some = rest.some;
          none = λ y l m. elim (cases_lt a y) [
            | inl above ↦ rest.none y (omega arith) m
            | inr at ↦ (let same : a ≡ y = omega arith in nothing (f y) (subst (λ z. is_some (f z) ≡ false) same s))
          ];
        }

-- ---- why bytes are refused

past_end : (t : Bool) (o : Option ℕ) → cond t (Some PastEnd) (option_map (λ x. Twice x) o) ≡ Some PastEnd → t ≡ true
past_end t o e = grind arith

overlap : (t : Bool) (o : Option ℕ) (a : ℕ) → cond t (Some PastEnd) (option_map (λ x. Twice x) o) ≡ Some (Twice a)
    → (t ≡ false) × (o ≡ Some a)
overlap t o a e = grind arith

-- ---- past the last address

past_fault : (fault : ImageFault) (k index : ℕ) → PiecePastEnd index ≡ piece_refusal k fault
    → (fault ≡ PastEnd) × (k ≡ index)
past_fault image.PastEnd k index e = (refl, cc)
past_fault (image.Twice a) k index e = absurd (cc)
past_fault image.Memory k index e = absurd (cc)

behind : (ps : List Piece) (r : Refusal) (index : ℕ) (it : Refused 0 empty ps r) → 0 + length it.earlier ≡ index
    → StandsBehind ps index it.piece it.earlier
behind ps r index it e =
    record { later = it.later; all = it.all; count = omega (arith, e); image = it.image; made = it.made }

past_end_there : (ps : List Piece) (index : ℕ) → Refused 0 empty ps (PiecePastEnd index) → IsPastEnd ps index
past_end_there ps index it =
    let known = past_fault it.fault (0 + length it.earlier) index it.same in
    let why = subst (λ f. add_refusal it.image it.piece.address it.piece.bytes.now ≡ Some f) known.0 it.why in
    let test = past_end _ _ why in
    record {
      piece = it.piece;
      earlier = it.earlier;
      behind = behind ps (PiecePastEnd index) index it known.1;
      past = grind (arith, nat_tests, test);
    }

past_end_back : (ps : List Piece) (index : ℕ) → IsPastEnd ps index → with_pieces 0 empty ps ≡ Err (PiecePastEnd index)
past_end_back ps index h =
    let test : nat_lt (2 ^ 64) (h.piece.address + length h.piece.bytes.now) ≡ true = grind (arith, nat_tests, h.past) in
    let why : add_refusal h.behind.image h.piece.address h.piece.bytes.now ≡ Some PastEnd = rw test refl in
    let same : 0 + length h.earlier ≡ index = omega (arith, h.behind.count) in
    subst (λ l. with_pieces 0 empty l ≡ Err (PiecePastEnd index)) (sym h.behind.all)
    (refuse h.earlier 0 empty h.behind.image h.piece h.behind.later PastEnd h.behind.made why
    ∙ ap (λ k. Err (PiecePastEnd k)) same)

pub past_end_means : PastEndMeans
past_end_means ps index =
    (λ e. past_end_there ps index (refused ps 0 empty (PiecePastEnd index) e), past_end_back ps index)

-- ---- overlaps

overlap_fault : (fault : ImageFault) (k index a : ℕ) → PiecesOverlap index a ≡ piece_refusal k fault
    → (fault ≡ Twice a) × (k ≡ index)
overlap_fault image.PastEnd k index a e = absurd (cc)
overlap_fault (image.Twice b) k index a e = (let same : b ≡ a = cc in ap (λ x. Twice x) same, cc)
overlap_fault image.Memory k index a e = absurd (cc)

own_byte : (m : Memory) (p : Piece) (a : ℕ) → IsFirstAt (byte_of m) p.address (length p.bytes.now) a
    → (b : ℕ) × HasByte p a b
own_byte m p a first =
    let found = a_value (byte_at p a) (present_some (run_at p.address p.bytes.now) a first.from first.below) in
    (found.0, byte_at_has p a found.0 found.1)

least_shared : (m : Memory) (p : Piece) (earlier : List Piece) (a : ℕ) → with_pieces 0 empty earlier ≡ Ok m
    → IsFirstAt (byte_of m) p.address (length p.bytes.now) a
    → (x b c : ℕ) → HasByte p x b → HaveByte earlier x c → a ≤ x
least_shared m p earlier a made first x b c own there =
    elim (cases_lt x a) [ inl below ↦ absurd (never below) | inr above ↦ above ]
  where
    never : x < a → ⊥
    never below =
        let here : byte_of m x ≡ Some c = (pieces_mean earlier m made x c).1 there in
        let none : byte_of m x ≡ None = first.none x (omega (arith, own.place)) below in
        cc

overlap_there : (ps : List Piece) (index a : ℕ) → Refused 0 empty ps (PiecesOverlap index a) → IsOverlap ps index a
overlap_there ps index a it =
    let known = overlap_fault it.fault (0 + length it.earlier) index a it.same in
    let why = subst (λ f. add_refusal it.image it.piece.address it.piece.bytes.now ≡ Some f) known.0 it.why in
    let tests = overlap _ _ a why in
    let first = first_found (byte_of it.image) it.piece.address (length it.piece.bytes.now) a tests.1 in
    let taken = a_value (byte_of it.image a) first.some in
    record {
      piece = it.piece;
      earlier = it.earlier;
      behind = behind ps (PiecesOverlap index a) index it known.1;
      fits = grind (arith, nat_tests, tests.0);
      own = own_byte it.image it.piece a first;
      taken = (taken.0, (pieces_mean it.earlier it.image it.made a taken.0).0 taken.1);
      least = least_shared it.image it.piece it.earlier a it.made first;
    }

-- the lowest address of the piece that the image has
shared_first : (m : Memory) (p : Piece) (earlier : List Piece) (a : ℕ) → with_pieces 0 empty earlier ≡ Ok m
    → ((b : ℕ) × HasByte p a b) → ((b : ℕ) × HaveByte earlier a b)
    → ((x b c : ℕ) → HasByte p x b → HaveByte earlier x c → a ≤ x)
    → first_present m p.address (length p.bytes.now) ≡ Some a
shared_first m p earlier a made own taken least =
    let inside = present_inside (run_at p.address p.bytes.now) a (ap is_some (has_byte_at p a own.0 own.1)) in
    let same : p.address + (a - p.address) ≡ a = omega (arith, inside.0) in
    let here : byte_of m a ≡ Some taken.0 = (pieces_mean earlier m made a taken.0).1 taken.1 in
    first_of_at (byte_of m) p.address (length p.bytes.now) (a - p.address) (omega (arith, inside.0, inside.1))
    (subst (λ x. IsSome (byte_of m x)) (sym same) (ap is_some here)) (λ j l. free j (omega (arith, inside.0, l)))
    ∙ ap (λ x. Some x) same
  where
    free : (j : ℕ) → p.address + j < a → byte_of m (p.address + j) ≡ None
    free j below = go (byte_of m (p.address + j)) refl
      where
        inside : a < p.address + length p.bytes.now
        inside = (present_inside (run_at p.address p.bytes.now) a (ap is_some (has_byte_at p a own.0 own.1))).1

        go : (o : Option ℕ) → byte_of m (p.address + j) ≡ o → o ≡ None
        go None e = refl
        go (Some c) e =
            let mine = a_value (byte_at p (p.address + j))
            (present_some (run_at p.address p.bytes.now) (p.address + j) (omega arith)
            (omega (arith, inside, below))) in
            let theirs = (pieces_mean earlier m made (p.address + j) c).0 e in
            let above = least (p.address + j) mine.0 c (byte_at_has p (p.address + j) mine.0 mine.1) theirs in
            absurd (omega (arith, above, below))

overlap_back : (ps : List Piece) (index a : ℕ) → IsOverlap ps index a
    → with_pieces 0 empty ps ≡ Err (PiecesOverlap index a)
overlap_back ps index a h =
    let test : nat_lt (2 ^ 64) (h.piece.address + length h.piece.bytes.now) ≡ false =
    grind (arith, nat_tests, h.fits) in
    let first = shared_first h.behind.image h.piece h.earlier a h.behind.made h.own h.taken h.least in
    let why : add_refusal h.behind.image h.piece.address h.piece.bytes.now ≡ Some (Twice a) = rw (test, first) refl in
    let same : 0 + length h.earlier ≡ index = omega (arith, h.behind.count) in
    subst (λ l. with_pieces 0 empty l ≡ Err (PiecesOverlap index a)) (sym h.behind.all)
    (refuse h.earlier 0 empty h.behind.image h.piece h.behind.later (Twice a) h.behind.made why
    ∙ ap (λ k. Err (PiecesOverlap k a)) same)

pub overlap_means : OverlapMeans
overlap_means ps index a =
    (λ e. overlap_there ps index a (refused ps 0 empty (PiecesOverlap index a) e), overlap_back ps index a)
