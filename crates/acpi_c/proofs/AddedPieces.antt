-- One more piece is added, or is refused.
use Rattle.std.proofs.Common.{◌≡◌, ◌⊎◌, inl, inr, ℕ, zero, suc, ◌+◌, ◌^◌, ◌<◌, ◌≤◌, true, false, List, [], ◌∷◌, length, get_or, drop, Option, Some, None, is_some, refl, sym, subst, ap, ◌∙◌, arith, drop-cons}
use Rattle.std.specs.Prelude.{nat_lt, Result, Ok, Err, ⊤, IsOkUnless, MatchOption}
use Rattle.std.specs.FinMap.{empty, get-empty}
use Rattle.std.specs.Option.{option_map_or}
use Rattle.std.specs.Ordering.{nat_cmp}
use Rattle.std.proofs.lemmas.Bool.{cases_lt, le-ltb, lt-ltb}
use Rattle.std.proofs.lemmas.Bool.Decides.{nat_tests}
use Rattle.acpi_base.specs.Image.Adding.{add_refusal, added}
use Rattle.acpi_base.specs.Image.Runs.{byte_in, run_at}
use Rattle.acpi_base.specs.Memory.{Memory, byte_of, first_present, with_bytes}
use Rattle.acpi_base.specs.Text.ImageText.{on_ok}
use Rattle.acpi_base.specs.declared.image.ImageFault.{ImageFault}
use Rattle.acpi_base.specs.declared.image.ImageFault.TheVariants as image
use Rattle.acpi_base.proofs.Images.RunBytes.{byte_of-with_bytes, present_none, present_some}
use Rattle.acpi_base.proofs.Images.ByteRuns.{first_of_from, first_of_here, first_of_none}
use Rattle.acpi_base.proofs.Images.RunMemory.{fits_unless}
use Rattle.acpi_base.proofs.Images.Searches.{nothing_present}
use Rattle.acpi_c.specs.AddedPieces.{RefusesFirst, Stands, has_address, second_with}
use Rattle.acpi_c.specs.Pieces.{FirstFits, piece_refusal, with_pieces}
use Rattle.acpi_c.specs.Sources.{Fails, pieces_source}
use Rattle.acpi_c.specs.declared.pieces.Piece.{Piece}
use Rattle.acpi_c.specs.declared.refusal.Refusal.TheVariants.{PiecesOverlap}

pub stands_first : (ps : List Piece) → Stands ps 0 (Ok empty)
stands_first ps = (refl, λ a. ap (λ o. second_with (is_some o) 0 ps a) (get-empty nat_cmp a))

-- ---- a piece that fits

has_or_not : (p : Piece) (a : ℕ)
    → ((has_address p a ≡ true) × (p.address ≤ a) × (a < p.address + length p.bytes.now))
    ⊎ ((has_address p a ≡ false) × ((a < p.address) ⊎ (p.address + length p.bytes.now ≤ a)))
has_or_not p a = elim (cases_lt a p.address) [
  | inl low ↦ inr (grind (arith, nat_tests), inl low)
  | inr from ↦ elim (cases_lt a (p.address + length p.bytes.now)) [
    | inl below ↦ inl (grind (arith, nat_tests), from, below)
    | inr past ↦ inr (grind (arith, nat_tests), inr past)
  ]
]

-- if none of its addresses was present, the search for the second piece with an address continues after it
passed : (m : Memory) (p : Piece) (rest : List Piece) (index a : ℕ)
    → first_present m p.address (length p.bytes.now) ≡ None
    → second_with (is_some (byte_of (with_bytes m p.address p.bytes.now) a)) (suc index) rest a
    ≡ second_with (is_some (byte_of m a)) index (p ∷ rest) a
passed m p rest index a free =
    ap (λ o. second_with (is_some o) (suc index) rest a) (byte_of-with_bytes m p.address p.bytes.now a)
    ∙ elim (has_or_not p a) [
      | inl y ↦
          let here : is_some (byte_at a) ≡ true = present_some (run_at p.address p.bytes.now) a y.1 y.2 in
          let before : byte_of m a ≡ None = nothing_present (byte_of m) p.address (length p.bytes.now) a free y.1 y.2 in
          grind (arith, here, before, y.0)
      | inr y ↦
          let none : byte_at a ≡ None = present_none (run_at p.address p.bytes.now) a y.1 in
          grind (arith, none, y.0)
    ]
  where
    byte_at : ℕ → Option ℕ
    byte_at a = byte_in (run_at p.address p.bytes.now) a

pub stands_next : (ps : List Piece) (index : ℕ) (d : Piece) (old new : Result Memory ℕ) → index < length ps
    → (get_or ps index d).address + length (get_or ps index d).bytes.now ≤ 2 ^ 64
    → new ≡ on_ok old (λ m. added m (get_or ps index d).address (get_or ps index d).bytes.now)
    → Stands ps index old → Stands ps (index + 1) new
stands_next ps index d (Err a) new below fits is stands = subst (Stands ps (index + 1)) (sym is) stands
stands_next ps index d (Ok m) new below fits is (so_far, seen) =
    let place : suc index ≡ index + 1 = omega arith in
    subst (Stands ps (index + 1)) (sym is)
    (subst (λ k. Stands ps k (added m p.address p.bytes.now)) place
    (go (first_present m p.address (length p.bytes.now)) refl))
  where
    p : Piece
    p = get_or ps index d

    rest : List Piece
    rest = drop (suc index) ps

    split : drop index ps ≡ p ∷ rest
    split = drop-cons ps index d below

    low : nat_lt (2 ^ 64) (p.address + length p.bytes.now) ≡ false
    low = le-ltb (2 ^ 64) (p.address + length p.bytes.now) fits

    all : with_pieces index m (p ∷ rest) ≡ with_pieces 0 empty ps
    all = ap (with_pieces index m) (sym split) ∙ so_far

    searched : (a : ℕ) → second_with (is_some (byte_of m a)) index (p ∷ rest) a ≡ second_with false 0 ps a
    searched a = ap (λ l. second_with (is_some (byte_of m a)) index l a) (sym split) ∙ seen a

    go : (o : Option ℕ) → first_present m p.address (length p.bytes.now) ≡ o
        → Stands ps (suc index) (option_map_or (λ a. Err a) o (Ok (with_bytes m p.address p.bytes.now)))
    go None free = (
      rw (low, free) at all,
      λ a. passed m p rest index a free ∙ searched a,
    )
    go (Some a) present =
        let from = first_of_from (byte_of m) p.address (length p.bytes.now) a present in
        let there = first_of_here (byte_of m) p.address (length p.bytes.now) a present in
        let here : has_address p a ≡ true = grind (arith, nat_tests, there.0) in
        let second : second_with false 0 ps a ≡ index = sym (searched a) ∙ rw (here, there.1) refl in
        let overlap : Err (PiecesOverlap index a) ≡ with_pieces 0 empty ps = rw (low, present) at all in
        sym overlap ∙ ap (λ k. Err (PiecesOverlap k a)) (sym second)

-- ---- how adding ends

fits_first : (p : Piece) (rest : List Piece) → p.address + length p.bytes.now ≤ 2 ^ 64 → FirstFits (p ∷ rest)
fits_first p rest fits =
    rw (
      le-ltb (2 ^ 64) (p.address + length p.bytes.now) fits,
      first_of_none (byte_of empty) p.address (length p.bytes.now) (λ k l. get-empty nat_cmp (p.address + k)),
    ) refl

pub begun_next : (ps : List Piece) (index : ℕ) (d : Piece) → index < length ps
    → (get_or ps index d).address + length (get_or ps index d).bytes.now ≤ 2 ^ 64 → (index ≡ 0) ⊎ FirstFits ps
    → (index + 1 ≡ 0) ⊎ FirstFits ps
begun_next [] index d below fits begun = absurd (omega arith)
begun_next (p ∷ rest) index d below fits (inr first) = inr first
begun_next (p ∷ rest) zero d below fits (inl start) = inr (fits_first p rest fits)
begun_next (p ∷ rest) (suc index) d below fits (inl start) = absurd (omega arith)

pub stopped : (ps : List Piece) (index : ℕ) (m : Memory) (fault : ImageFault) → Stands ps index (Ok m)
    → RefusesFirst (drop index ps) fault → (index ≡ 0) ⊎ FirstFits ps
    → Fails (pieces_source ps) (piece_refusal index fault)
stopped ps index m fault (so_far, seen) refuses begun = go (drop index ps) refl fault refuses
  where
    go : (rest : List Piece) → drop index ps ≡ rest → (f : ImageFault) → RefusesFirst rest f
        → Fails (pieces_source ps) (piece_refusal index f)
    go [] e f never = absurd never
    go (p ∷ rest) e image.PastEnd past =
        let high : nat_lt (2 ^ 64) (p.address + length p.bytes.now) ≡ true = lt-ltb _ _ past in
        let all : with_pieces index m (p ∷ rest) ≡ with_pieces 0 empty ps = ap (with_pieces index m) (sym e) ∙ so_far in
        inr (sym (rw high at all))
    go (p ∷ rest) e (image.Twice a) never = absurd never
    go (p ∷ rest) e image.Memory fits = inl (
      refl,
      elim begun [
        | inl start ↦ subst FirstFits (sym (ap (λ k. drop k ps) (sym start) ∙ e)) (fits_first p rest fits)
        | inr first ↦ first
      ],
    )

-- ---- pieces that are added at once

fits_free : (m : Memory) (p : Piece) → add_refusal m p.address p.bytes.now ≡ None
    → p.address + length p.bytes.now ≤ 2 ^ 64
fits_free m p free = (let low = (fits_unless _ _ free).0 in grind (arith, nat_tests, low))

pub begun_added : (ps : List Piece) (index : ℕ) (d : Piece) (m : Memory) → index < length ps
    → add_refusal m (get_or ps index d).address (get_or ps index d).bytes.now ≡ None → (index ≡ 0) ⊎ FirstFits ps
    → (index + 1 ≡ 0) ⊎ FirstFits ps
begun_added ps index d m below free begun = begun_next ps index d below (fits_free m (get_or ps index d) free) begun

-- one is refused
pub refused_in_order : (ps : List Piece) (index : ℕ) (d : Piece) (m : Memory) (r : Result ⊤ ImageFault)
    (fault : ImageFault) → r ≡ Err fault → index < length ps
    → MatchOption (add_refusal m (get_or ps index d).address (get_or ps index d).bytes.now) (IsOkUnless r image.Memory)
    (λ f. r ≡ Err f)
    → with_pieces index m (drop index ps) ≡ with_pieces 0 empty ps → (index ≡ 0) ⊎ FirstFits ps
    → Fails (pieces_source ps) (piece_refusal index fault)
refused_in_order ps index d m r fault is below why so_far begun =
    go (add_refusal m p.address p.bytes.now) refl why
  where
    p : Piece
    p = get_or ps index d

    all : with_pieces index m (p ∷ drop (suc index) ps) ≡ with_pieces 0 empty ps
    all = ap (with_pieces index m) (sym (drop-cons ps index d below)) ∙ so_far

    go : (o : Option ImageFault) → add_refusal m p.address p.bytes.now ≡ o
        → MatchOption o (IsOkUnless r image.Memory) (λ f. r ≡ Err f)
        → Fails (pieces_source ps) (piece_refusal index fault)
    go (Some f) refusal same =
        let one : f ≡ fault = cc in
        inr (subst (λ g. with_pieces 0 empty ps ≡ Err (piece_refusal index g)) one (sym (rw refusal at all)))
    go None free memory =
        let one : fault ≡ image.Memory = (rw is at memory) in
        inl (
          ap (piece_refusal index) one,
          elim begun [
            | inl start ↦
                subst FirstFits (sym (ap (λ k. drop k ps) (sym start) ∙ drop-cons ps index d below))
                (fits_first p (drop (suc index) ps) (fits_free m p free))
            | inr first ↦ first
          ],
        )
