-- The image that pieces give has their bytes, and no others.
use Rattle.std.proofs.Common.{◌≡◌, ◌⊎◌, inl, inr, ℕ, suc, ◌-◌, ◌≤◌, List, [], ◌∷◌, length, slice_get, Option, Some, None, IsSome, is_some, Ok, refl, sym, subst, ap, ◌∙◌, arith}
use Rattle.std.specs.Prelude.{◌↔◌}
use Rattle.std.specs.FinMap.{empty, get-empty}
use Rattle.std.specs.Option.{option_or}
use Rattle.std.specs.Ordering.{nat_cmp}
use Rattle.acpi_base.specs.Image.Adding.{add_refusal}
use Rattle.acpi_base.specs.Image.Runs.{byte_in, run_at}
use Rattle.acpi_base.specs.Memory.{Memory, byte_of, with_bytes}
use Rattle.acpi_base.specs.declared.image.ImageFault.{ImageFault}
use Rattle.acpi_base.proofs.Images.RunBytes.{byte_of-with_bytes, present_from, present_inside}
use Rattle.acpi_base.proofs.Images.RunMemory.{fits_unless, same_memory}
use Rattle.acpi_base.proofs.Images.Searches.{nothing_present}
use Rattle.acpi_base.proofs.Options.{same_options}
use Rattle.acpi_c.specs.Laws.{PiecesMean, OneImage, HaveByte, HasByte}
use Rattle.acpi_c.specs.Pieces.{unless_refused, with_pieces}
use Rattle.acpi_c.specs.declared.pieces.Piece.{Piece}

-- the byte of a piece at an address
abbrev pub byte_at : Piece → ℕ → Option ℕ
byte_at p a = byte_in (run_at p.address p.bytes.now) a

pub byte_at_has : (p : Piece) (a b : ℕ) → byte_at p a ≡ Some b → HasByte p a b
byte_at_has p a b e =
    let inside = present_inside (run_at p.address p.bytes.now) a (ap is_some e) in
    record {
      offset = a - p.address;
      place = omega (arith, inside.0);
      byte = sym (present_from (run_at p.address p.bytes.now) a inside.0) ∙ e;
    }

pub has_byte_at : (p : Piece) (a b : ℕ) → HasByte p a b → byte_at p a ≡ Some b
has_byte_at p a b h =
    let above : p.address ≤ a = omega (arith, h.place) in
    let same : a - p.address ≡ h.offset = omega (arith, h.place) in
    present_from (run_at p.address p.bytes.now) a above ∙ ap (slice_get p.bytes.now) same ∙ h.byte

one_more : (m : Memory) (p : Piece) (a b : ℕ) → add_refusal m p.address p.bytes.now ≡ None
    → (byte_of (with_bytes m p.address p.bytes.now) a ≡ Some b) ↔ ((byte_of m a ≡ Some b) ⊎ HasByte p a b)
one_more m p a b free = (there (byte_at p a) refl, back)
  where
    has : byte_of (with_bytes m p.address p.bytes.now) a ≡ option_or (byte_at p a) (byte_of m a)
    has = byte_of-with_bytes m p.address p.bytes.now a

    there : (o : Option ℕ) → byte_at p a ≡ o → byte_of (with_bytes m p.address p.bytes.now) a ≡ Some b
        → (byte_of m a ≡ Some b) ⊎ HasByte p a b
    there None e h = inl (sym (has ∙ ap (λ o. option_or o (byte_of m a)) e) ∙ h)
    there (Some c) e h = inr (byte_at_has p a b (e ∙ sym (has ∙ ap (λ o. option_or o (byte_of m a)) e) ∙ h))

    apart : IsSome (byte_at p a) → byte_of m a ≡ None
    apart some =
        let inside = present_inside (run_at p.address p.bytes.now) a some in
        nothing_present (byte_of m) p.address (length p.bytes.now) a (fits_unless _ _ free).1 inside.0 inside.1

    still : (o : Option ℕ) → byte_at p a ≡ o → byte_of m a ≡ Some b
        → byte_of (with_bytes m p.address p.bytes.now) a ≡ Some b
    still None e h = has ∙ ap (λ o. option_or o (byte_of m a)) e ∙ h
    still (Some c) e h = absurd (cc (sym (apart (ap is_some e)) ∙ h))

    back : (byte_of m a ≡ Some b) ⊎ HasByte p a b → byte_of (with_bytes m p.address p.bytes.now) a ≡ Some b
    back (inl h) = still (byte_at p a) refl h
    back (inr h) = has ∙ ap (λ o. option_or o (byte_of m a)) (has_byte_at p a b h)

pub all_mean : (ps : List Piece) (i : ℕ) (m n : Memory) → with_pieces i m ps ≡ Ok n → (a b : ℕ)
    → (byte_of n a ≡ Some b) ↔ ((byte_of m a ≡ Some b) ⊎ HaveByte ps a b)
all_mean [] i m n e a b = (λ h. inl (subst (λ o. byte_of o a ≡ Some b) (sym (ok e)) h), back)
  where
    ok : with_pieces i m [] ≡ Ok n → m ≡ n
    ok h = cc

    back : (byte_of m a ≡ Some b) ⊎ ⊥ → byte_of n a ≡ Some b
    back (inl h) = subst (λ o. byte_of o a ≡ Some b) (ok e) h
    back (inr never) = absurd never
all_mean (p ∷ ps) i m n e a b =
    go (λ h. all_mean ps (suc i) (with_bytes m p.address p.bytes.now) n h a b)
    (add_refusal m p.address p.bytes.now) refl e
  where
    go : (with_pieces (suc i) (with_bytes m p.address p.bytes.now) ps ≡ Ok n
        → (byte_of n a ≡ Some b) ↔ ((byte_of (with_bytes m p.address p.bytes.now) a ≡ Some b) ⊎ HaveByte ps a b))
        → (o : Option ImageFault) → add_refusal m p.address p.bytes.now ≡ o
        → unless_refused o i (with_pieces (suc i) (with_bytes m p.address p.bytes.now) ps) ≡ Ok n
        → (byte_of n a ≡ Some b) ↔ ((byte_of m a ≡ Some b) ⊎ (HasByte p a b ⊎ HaveByte ps a b))
    go more (Some fault) free h = absurd (cc)
    go more None free h =
        let rest = more h in
        let one = one_more m p a b free in (
          λ x. elim (rest.0 x)
              [ inl y ↦ elim (one.0 y) [ inl z ↦ inl z | inr z ↦ inr (inl z) ] | inr y ↦ inr (inr y) ],
          λ x. elim x [
            | inl z ↦ rest.1 (inl (one.1 (inl z)))
            | inr y ↦ elim y [ inl z ↦ rest.1 (inl (one.1 (inr z))) | inr z ↦ rest.1 (inr z) ]
          ],
        )

pub pieces_mean : PiecesMean
pieces_mean ps m e a b =
    let all = all_mean ps 0 empty m e a b in
    let nothing : byte_of empty a ≡ Some b → ⊥ = λ h. cc (sym (get-empty nat_cmp a) ∙ h) in
    (λ h. elim (all.0 h) [ inl never ↦ absurd (nothing never) | inr s ↦ s ], λ s. all.1 (inr s))

pub one_image : OneImage
one_image ps qs m n e f same =
    same_memory m n (λ a. same_options (byte_of m a) (byte_of n a) (λ b. (
      λ h. (pieces_mean qs n f a b).1 ((same a b).0 ((pieces_mean ps m e a b).0 h)),
      λ h. (pieces_mean ps m e a b).1 ((same a b).1 ((pieces_mean qs n f a b).0 h)),
    )))
