-- The memory that runs make.
use Rattle.std.proofs.Common.{◌≡◌, ℕ, zero, suc, ◌+◌, ◌-◌, ◌^◌, ◌<◌, ◌≤◌, Bool, false, cond, List, [], ◌∷◌, length, get_or, slice_get, Option, Some, None, refl, arith}
use Rattle.std.specs.Prelude.{nat_lt}
use Rattle.std.specs.Option.{option_map}
use Rattle.std.specs.List.{AllByRecursion}
use Rattle.std.specs.FinMap.{same_map, nat_cmp-IsAntisymmetric}
use Rattle.std.specs.Cmp.{nat_cmp_total}
use Rattle.std.proofs.lemmas.Bool.{le-ltb}
use Rattle.acpi_base.specs.Memory.{Memory, byte_of, least_defined, run_of, bytes_at, first_present, with_bytes, IsImage}
use Rattle.acpi_base.specs.declared.image.ImageFault.TheVariants.{PastEnd, Twice}
use Rattle.acpi_base.specs.Image.Runs.{Run, lookup, run_at, memory_of, IsComplete}
use Rattle.acpi_base.proofs.Images.RunBytes.{present_inside, present_from, present_at, byte_of_memory_of, byte_of-with_bytes}
use Rattle.acpi_base.proofs.Images.Searches.{nothing_present}
use Rattle.std.proofs.lemmas.Bool.Decides.{nat_tests}

each_byte : (bs : List ℕ) (i b : ℕ) → AllByRecursion (λ x. x < 256) bs → slice_get bs i ≡ Some b → b < 256
each_byte [] i b h e = absurd (cc)
each_byte (x ∷ xs) zero b h e = grind (arith, h.0)
each_byte (x ∷ xs) (suc i) b h e = each_byte xs i b h.1 e

lookup_byte : (rs : List Run) (a b : ℕ) → AllByRecursion IsComplete rs → lookup rs a ≡ Some b → (a < 2 ^ 64) × (b < 256)
lookup_byte [] a b w e = absurd (cc)
lookup_byte (r ∷ rs) a b w e =
    grind (
      arith,
      w.0.fits,
      present_inside r a,
      present_from r a,
      each_byte r.bytes (a - r.base) b w.0.bytes,
      lookup_byte rs a b w.1,
    )

pub image_of : (rs : List Run) → AllByRecursion IsComplete rs → IsImage (memory_of rs)
image_of rs t = grind (arith, lookup_byte, byte_of_memory_of)

pub bytes_at_present : (rs : List Run) (a n : ℕ) → bytes_at (memory_of rs) a n ≡ run_of (lookup rs) a n
bytes_at_present rs a n = λ i. run_of (λ x. byte_of_memory_of rs x i) a n

pub first_present_in : (rs : List Run) (a n : ℕ) → first_present (memory_of rs) a n ≡ least_defined (lookup rs) a n
first_present_in rs a n = λ i. least_defined (λ x. byte_of_memory_of rs x i) a n

pub image_with : (m : Memory) (a : ℕ) (bs : List ℕ) → IsImage m → a + length bs ≤ 2 ^ 64
    → ((k : ℕ) → get_or bs k 0 < 256) → IsImage (with_bytes m a bs)
image_with m a bs image fits bytes = record {
  addresses = λ x b e. grind (arith, byte_of-with_bytes m a bs x, present_inside (run_at a bs) x, image.addresses x b);
  bytes = λ x b e. grind (
    arith,
    byte_of-with_bytes m a bs x,
    present_inside (run_at a bs) x,
    present_at (run_at a bs) x,
    bytes (x - a),
    image.bytes x b,
  );
}

pub same_memory : (m n : Memory) → ((x : ℕ) → byte_of m x ≡ byte_of n x) → m ≡ n
same_memory m n h = same_map nat_cmp_total nat_cmp-IsAntisymmetric m n h

-- adding no bytes is never refused
pub no_refusal : (f : ℕ → Option ℕ) (a n : ℕ) → a < 2 ^ 64 → n ≡ 0
    → None ≡ cond (nat_lt (2 ^ 64) (a + n)) (Some PastEnd) (option_map (λ x. Twice x) (least_defined f a n))
unfolding least_defined
no_refusal f a zero l e = grind (arith, le-ltb)
no_refusal f a (suc n) l e = absurd (omega arith)

pub no_bytes : (m : Memory) (a : ℕ) (bs : List ℕ) → length bs ≡ 0 → m ≡ with_bytes m a bs
unfolding with_bytes
no_bytes m a [] e = refl
no_bytes m a (b ∷ bs) e = absurd (omega arith)

pub fits_unless : (t : Bool) (o : Option ℕ) → cond t (Some PastEnd) (option_map (λ x. Twice x) o) ≡ None
    → (t ≡ false) × (o ≡ None)
fits_unless t o e = grind arith
