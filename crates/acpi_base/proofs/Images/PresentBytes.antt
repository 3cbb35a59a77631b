-- Bytes of an image, and the numbers in them.
use Rattle.std.proofs.Common.{◌≡◌, ℕ, zero, suc, ◌+◌, ◌-◌, ◌^◌, ◌<◌, ◌≤◌, List, [], length, take, drop, Option, Some, None, refl, sym, ◌∙◌, subst, inl, inr, arith}
use Rattle.std.specs.Prelude.{◌⊎◌, slice_index}
use Rattle.std.proofs.lemmas.List.{get_or-drop, drop-take}
use Rattle.std.proofs.lemmas.Option.{none-some, same_Some}
use Rattle.byteorder.specs.Numbers.{little_from-lt, little_from-take}
use Rattle.acpi_base.specs.Memory.{Memory, IsImage, byte_of, bytes_at, run_of}
use Rattle.acpi_base.specs.Number.{field}
use Rattle.acpi_base.proofs.Images.ByteRuns.{run_of-split, run_of-count}

pub length-bytes_at : (m : Memory) (a n : ℕ) (bytes : List ℕ) → bytes_at m a n ≡ Some bytes → length bytes ≡ n
length-bytes_at m a n bytes e = run_of-count (byte_of m) a n bytes e

pub bytes_below : (m : Memory) → IsImage m → (a n : ℕ) (bytes : List ℕ) → bytes_at m a n ≡ Some bytes → (k : ℕ)
    → slice_index bytes k < 256
unfolding run_of
bytes_below m image a zero bytes e k =
    subst (λ (bs : List ℕ). slice_index bs k < 256) (same_Some [] bytes e) (omega arith)
bytes_below m image a (suc n) bytes e zero = grind (arith, run_of-split (byte_of m) a n bytes e, image.bytes a)
bytes_below m image a (suc n) bytes e (suc k) =
    let parts = run_of-split (byte_of m) a n bytes e in
    grind (arith, parts.4, bytes_below m image (a + 1) n parts.1 parts.3 k)

pub field_below : (bytes : List ℕ) → ((k : ℕ) → slice_index bytes k < 256) → (offset width : ℕ)
    → field bytes offset width < 256 ^ width
unfolding field
field_below bytes below offset width =
    little_from-lt 0 width (drop offset bytes) (λ k. grind (arith, get_or-drop offset bytes k 0, below (offset + k)))

pub present_field_below : (m : Memory) → IsImage m → (a n : ℕ) (bytes : List ℕ) → bytes_at m a n ≡ Some bytes
    → (offset width : ℕ) → field bytes offset width < 256 ^ width
present_field_below m image a n bytes present = field_below bytes (bytes_below m image a n bytes present)

pub field-take : (bytes : List ℕ) (n offset width : ℕ) → offset + width ≤ n
    → field (take n bytes) offset width ≡ field bytes offset width
unfolding field
field-take bytes n offset width h =
    grind (
      arith,
      drop-take offset (n - offset) bytes,
      little_from-take 0 width (n - offset) (drop offset bytes)
          (omega arith),
    )
