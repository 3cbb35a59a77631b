-- Pieces that can be added one after another can be so in any order, and give the same image.
use Rattle.std.proofs.Common.{◌≡◌, ℕ, suc, ◌+◌, ◌^◌, ◌<◌, ◌≤◌, List, [], ◌∷◌, length, get_or, drop, Option, Some, None, IsSome, refl, sym, ap, subst, ◌∙◌, arith, drop-cons}
use Rattle.std.specs.Prelude.{IfSome, Result, Ok, Err}
use Rattle.std.specs.FinMap.{empty}
use Rattle.std.specs.List.{AllByRecursion, sum_by}
use Rattle.std.specs.List.Sorted.{IsPermutation}
use Rattle.std.specs.Option.{option_or}
use Rattle.std.specs.Result.{result_ok}
use Rattle.std.proofs.lemmas.Bool.{le-ltb}
use Rattle.std.proofs.lemmas.Bool.Decides.{nat_tests}
use Rattle.std.proofs.lemmas.List.Elements.{All-from_recursion, recursion_from_All}
use Rattle.std.proofs.lemmas.List.Sorted.{All-permutation, IsPermutation-sym, sum_by-IsPermutation}
use Rattle.std.proofs.lemmas.List.Sums.{sum_by-cons}
use Rattle.acpi_base.specs.Image.Adding.{add_refusal}
use Rattle.acpi_base.specs.Image.Runs.{run_at}
use Rattle.acpi_base.specs.Memory.{Memory, byte_of, with_bytes}
use Rattle.acpi_base.specs.declared.image.ImageFault.{ImageFault}
use Rattle.acpi_base.proofs.Images.ByteRuns.{first_of_none}
use Rattle.acpi_base.proofs.Images.RunBytes.{byte_of-with_bytes, present_inside, present_some}
use Rattle.acpi_base.proofs.Images.RunMemory.{fits_unless, same_memory}
use Rattle.acpi_base.proofs.Images.Searches.{nothing_present}
use Rattle.acpi_c.specs.Pieces.{unless_refused, with_pieces}
use Rattle.acpi_c.specs.Sources.{Reads, pieces_source}
use Rattle.acpi_c.specs.declared.pieces.Piece.{Piece}
use Rattle.acpi_c.specs.declared.refusal.Refusal.{Refusal}
use Rattle.acpi_c.proofs.PiecesMean.{byte_at}

-- how many bytes there are
abbrev pub count : Option ℕ → ℕ
count None = 0
count (Some b) = 1

-- a number for the byte
abbrev pub number : Option ℕ → ℕ
number None = 0
number (Some b) = suc b

number-injective : (o q : Option ℕ) → number o ≡ number q → o ≡ q
number-injective None None e = refl
number-injective None (Some b) e = absurd (let no : 0 ≡ suc b = e in omega arith)
number-injective (Some a) None e = absurd (let no : suc a ≡ 0 = e in omega arith)
number-injective (Some a) (Some b) e = (let up : suc a ≡ suc b = e in let same : a ≡ b = omega arith in ap Some same)

abbrev pub Fits : Piece → Type 0
Fits p = p.address + length p.bytes.now ≤ 2 ^ 64

-- ---- a piece that can be added

-- where it has a byte, there was none
free_there : (m : Memory) (p : Piece) (a : ℕ) → add_refusal m p.address p.bytes.now ≡ None → IsSome (byte_at p a)
    → byte_of m a ≡ None
free_there m p a free some =
    let inside = present_inside (run_at p.address p.bytes.now) a some in
    nothing_present (byte_of m) p.address (length p.bytes.now) a (fits_unless _ _ free).1 inside.0 inside.1

-- so what is there then is what one or the other has
module _ (m : Memory) (p : Piece) (a : ℕ) (free : add_refusal m p.address p.bytes.now ≡ None) where
  has : byte_of (with_bytes m p.address p.bytes.now) a ≡ option_or (byte_at p a) (byte_of m a)
  has = byte_of-with_bytes m p.address p.bytes.now a

  count_more : count (byte_of (with_bytes m p.address p.bytes.now) a) ≡ count (byte_at p a) + count (byte_of m a)
  count_more = ap count has ∙ go (byte_at p a) (free_there m p a free)
    where
      go : (o : Option ℕ) → (IsSome o → byte_of m a ≡ None)
          → count (option_or o (byte_of m a)) ≡ count o + count (byte_of m a)
      go None none = omega arith
      go (Some b) none = rw (none refl) refl

  number_more : number (byte_of (with_bytes m p.address p.bytes.now) a) ≡ number (byte_at p a) + number (byte_of m a)
  number_more = ap number has ∙ go (byte_at p a) (free_there m p a free)
    where
      go : (o : Option ℕ) → (IsSome o → byte_of m a ≡ None)
          → number (option_or o (byte_of m a)) ≡ number o + number (byte_of m a)
      go None none = omega arith
      go (Some b) none = rw (none refl) (omega arith)

-- ---- pieces that can all be added

first_added : (i : ℕ) (m r : Memory) (p : Piece) (rest : List Piece) → with_pieces i m (p ∷ rest) ≡ Ok r
    → (add_refusal m p.address p.bytes.now ≡ None)
    × (with_pieces (suc i) (with_bytes m p.address p.bytes.now) rest ≡ Ok r)
first_added i m r p rest e = go (add_refusal m p.address p.bytes.now) refl e
  where
    go : (o : Option ImageFault) → add_refusal m p.address p.bytes.now ≡ o
        → unless_refused o i (with_pieces (suc i) (with_bytes m p.address p.bytes.now) rest) ≡ Ok r
        → (add_refusal m p.address p.bytes.now ≡ None)
        × (with_pieces (suc i) (with_bytes m p.address p.bytes.now) rest ≡ Ok r)
    go None is h = (is, h)
    go (Some fault) is h = absurd (cc)

all_fit : (i : ℕ) (m r : Memory) (ps : List Piece) → with_pieces i m ps ≡ Ok r → AllByRecursion Fits ps
all_fit i m r [] e = tt
all_fit i m r (p ∷ rest) e =
    let first = first_added i m r p rest e in
    let low = (fits_unless _ _ first.0).0 in
    (grind (arith, nat_tests, low), all_fit (suc i) (with_bytes m p.address p.bytes.now) r rest first.1)

-- no two of them have the address, nor does it have a byte before
once : (i : ℕ) (m r : Memory) (ps : List Piece) (a : ℕ) → with_pieces i m ps ≡ Ok r
    → count (byte_of m a) + sum_by (λ p. count (byte_at p a)) ps ≤ 1
once i m r [] a e = go (byte_of m a)
  where
    go : (o : Option ℕ) → count o + 0 ≤ 1
    go None = omega arith
    go (Some b) = omega arith
once i m r (p ∷ rest) a e =
    let first = first_added i m r p rest e in
    let more = count_more m p a first.0 in
    let later = once (suc i) (with_bytes m p.address p.bytes.now) r rest a first.1 in
    let all = sum_by-cons (λ q. count (byte_at q a)) p rest in
    omega arith

-- the other way round: these can be added
record Gives (i : ℕ) (m : Memory) (ps : List Piece) : Type 0 where
  image : Memory
  added : with_pieces i m ps ≡ Ok image
  bytes : (a : ℕ) → number (byte_of image a) ≡ number (byte_of m a) + sum_by (λ p. number (byte_at p a)) ps

can_add : (m : Memory) (p : Piece) → Fits p → ((a : ℕ) → count (byte_of m a) + count (byte_at p a) ≤ 1)
    → add_refusal m p.address p.bytes.now ≡ None
can_add m p fits apart =
    rw (
      le-ltb (2 ^ 64) (p.address + length p.bytes.now) fits,
      first_of_none (byte_of m) p.address (length p.bytes.now) (λ k l.
          none (byte_of m (p.address + k)) (byte_at p (p.address + k)) (apart (p.address + k))
          (present_some (run_at p.address p.bytes.now) (p.address + k) (omega arith) (omega arith))),
    ) refl
  where
    none : (o q : Option ℕ) → count o + count q ≤ 1 → IsSome q → o ≡ None
    none None q most some = refl
    none (Some b) None most some = absurd (cc)
    none (Some b) (Some c) most some = absurd (omega arith)

gives : (i : ℕ) (m : Memory) (ps : List Piece) → AllByRecursion Fits ps
    → ((a : ℕ) → count (byte_of m a) + sum_by (λ p. count (byte_at p a)) ps ≤ 1) → Gives i m ps
gives i m [] fit most = record { image = m; added = refl; bytes = λ a. omega arith }
gives i m (p ∷ rest) fit most =
    let free = can_add m p fit.0
    (λ a. let all = sum_by-cons (λ q. count (byte_at q a)) p rest in let low = most a in omega arith) in
    let later = gives (suc i) (with_bytes m p.address p.bytes.now) rest fit.1
    (λ a. let all = sum_by-cons (λ q. count (byte_at q a)) p rest in let low = most a in
    let more = count_more m p a free in omega arith) in
    record {
      image = later.image;
      added = rw free later.added;
      bytes = λ a.
          let all = sum_by-cons (λ q. number (byte_at q a)) p rest in
          let more = number_more m p a free in
          let is = later.bytes a in
          omega arith;
    }

-- ---- another order

ok_is : (m n : Memory) → ◌≡◌ {A = Result Memory Refusal} (Ok m) (Ok n) → m ≡ n
ok_is m n e = cc

pub permuted : (ps qs : List Piece) (m : Memory) → IsPermutation ps qs → with_pieces 0 empty qs ≡ Ok m
    → with_pieces 0 empty ps ≡ Ok m
permuted ps qs m moved e =
    let back = IsPermutation-sym ps qs moved in
    let fit = all_fit 0 empty m qs e in
    let other = gives 0 empty qs fit (λ a. once 0 empty m qs a e) in
    let same = ok_is other.image m (sym other.added ∙ e) in
    let here = gives 0 empty ps
    (recursion_from_All Fits ps (All-permutation Fits qs ps back (All-from_recursion Fits qs fit)))
    (λ a. let sums = sum_by-IsPermutation (λ (p : Piece). count (byte_at p a)) ps qs moved in
    let most = once 0 empty m qs a e in omega arith) in
    here.added
    ∙ ap Ok (same_memory here.image other.image (λ a. number-injective _ _ (here.bytes a
    ∙ ap (λ n. number (byte_of empty a) + n)
    (sym (sum_by-IsPermutation (λ (p : Piece). number (byte_at p a)) ps qs moved))
    ∙ sym (other.bytes a))) ∙ same)

-- ---- one more piece

pub more : (ps : List Piece) (i : ℕ) (d : Piece) (m n : Memory) → i < length ps
    → add_refusal m (get_or ps i d).address (get_or ps i d).bytes.now ≡ None
    → n ≡ with_bytes m (get_or ps i d).address (get_or ps i d).bytes.now
    → with_pieces i m (drop i ps) ≡ with_pieces 0 empty ps
    → with_pieces (i + 1) n (drop (i + 1) ps) ≡ with_pieces 0 empty ps
more ps i d m n below free is so_far =
    let p = get_or ps i d in
    let next : suc i ≡ i + 1 = omega arith in
    let rest = drop (suc i) ps in
    let here : with_pieces i m (drop i ps) ≡ with_pieces (suc i) (with_bytes m p.address p.bytes.now) rest =
    ap (with_pieces i m) (drop-cons ps i d below)
    ∙ ap (λ o. unless_refused o i (with_pieces (suc i) (with_bytes m p.address p.bytes.now) rest)) free in
    subst (λ k. with_pieces k n (drop k ps) ≡ with_pieces 0 empty ps) next
    (ap (λ k. with_pieces (suc i) k rest) is ∙ sym here ∙ so_far)

pub permuted_image : (ps qs : List Piece) (found : Result Memory Refusal) (image : Option Memory)
    → image ≡ result_ok found → IsPermutation ps qs → Reads (pieces_source qs) found
    → IfSome image (λ m. with_pieces 0 empty ps ≡ Ok m)
permuted_image ps qs (Ok m) image is moved there = rw is (permuted ps qs m moved there)
permuted_image ps qs (Err refusal) image is moved there = rw is tt
