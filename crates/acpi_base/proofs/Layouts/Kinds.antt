-- What follows from the layout of a kind of entry.
use Rattle.std.proofs.Common.{◌≡◌, ℕ, ◌+◌, true, List, [], ◌∷◌, ◌++◌, length, replicate, refl, sym, ap, ◌∙◌, subst, arith, length-append}
use Rattle.std.specs.Prelude.{slice_index}
use Rattle.std.proofs.lemmas.List.{get_or-drop, length-replicate}
use Rattle.acpi_base.specs.Number.{field, number_bytes}
use Rattle.acpi_base.proofs.Images.PresentBytes.{field_below}
use Rattle.acpi_base.proofs.Layouts.RoundTrip.{length-number_bytes, HasValues-layout_bytes}
use Rattle.acpi_base.specs.Layouts.{Part, NumberOf, BytesOf, Fixed, Reserved, PartValue, Number, Bytes, layout_size, values_at, HasFixedAt, layout_bytes, FitLayout, IsOfLayout, HasValues}
use Rattle.acpi_base.specs.Entries.{kind_as, IsEntryOf}
use Rattle.acpi_base.specs.KindLayouts.{AreByteValues, are_numbers, HaveNumbers, KindLayout, IsLaidOut, parts_of, bytes_of, LaysOut, KeepsKind}

pub byte_field : (bytes : List ℕ) (k : ℕ) → field bytes k 1 ≡ slice_index bytes k
unfolding field
byte_field bytes k = grind (arith, get_or-drop k bytes 0 0)

-- ---- numbers and reserved bytes

none_fixed : (parts : List Part) (offset : ℕ) (e : List ℕ) → are_numbers parts ≡ true → HasFixedAt offset parts e
none_fixed [] offset e are = tt
none_fixed (NumberOf n ∷ parts) offset e are = none_fixed parts (offset + n) e are
none_fixed (Reserved n ∷ parts) offset e are = none_fixed parts (offset + n) e are
none_fixed (BytesOf n ∷ parts) offset e are = absurd (cc)
none_fixed (Fixed byte ∷ parts) offset e are = absurd (cc)

numbers_fit : (parts : List Part) (offset : ℕ) (e : List ℕ) → AreByteValues e → are_numbers parts ≡ true
    → FitLayout parts (values_at offset parts e)
numbers_fit [] offset e low are = tt
numbers_fit (NumberOf n ∷ parts) offset e low are =
    (field_below e low offset n, numbers_fit parts (offset + n) e low are)
numbers_fit (Reserved n ∷ parts) offset e low are = numbers_fit parts (offset + n) e low are
numbers_fit (BytesOf n ∷ parts) offset e low are = absurd (cc)
numbers_fit (Fixed byte ∷ parts) offset e low are = absurd (cc)

length-numbers : (parts : List Part) (values : List PartValue) → HaveNumbers parts values
    → length (layout_bytes parts values) ≡ layout_size parts
length-numbers [] [] have = refl
length-numbers (NumberOf n ∷ parts) (Number x ∷ values) have =
    omega (
      arith,
      length-append (number_bytes n x) (layout_bytes parts values),
      length-number_bytes n x,
      length-numbers parts values have,
    )
length-numbers (Reserved n ∷ parts) values have =
    omega (
      arith,
      length-append (replicate n 0) (layout_bytes parts values),
      length-replicate {A = ℕ} n 0,
      length-numbers parts values have,
    )
length-numbers [] (_ ∷ _) have = absurd have
length-numbers (NumberOf n ∷ parts) [] have = absurd have
length-numbers (NumberOf n ∷ parts) (Bytes _ ∷ values) have = absurd have
length-numbers (BytesOf n ∷ parts) _ have = absurd have
length-numbers (Fixed byte ∷ parts) _ have = absurd have

-- ---- the layout of a kind

module _ {V : Type 0} (l : KindLayout V) (laid : IsLaidOut l) where
  formed_by : (e : List ℕ) → length e ≡ l.kind.size → slice_index e 0 ≡ l.kind.type → slice_index e 1 ≡ l.kind.size
      → IsOfLayout (parts_of l) e
  formed_by e count typed said =
      record {
        count = omega (arith, count, laid.counted);
        fixed = (byte_field e 0 ∙ typed, (byte_field e 1 ∙ said, none_fixed l.rest 2 e laid.numbers));
      }

  reads_by : (e : List ℕ) (v : V) → HasValues (parts_of l) e (l.values v) → IsEntryOf l.kind e v
  reads_by e v has =
      let count : length e ≡ l.kind.size = omega (arith, has.layout.count, laid.counted) in
      record {
        count = count;
        typed = sym (byte_field e 0) ∙ has.layout.fixed.0;
        said = sym (byte_field e 1) ∙ has.layout.fixed.1.0;
        value = laid.reads e v count has.same;
      }

  writes_by : (e : List ℕ) (v : V) → AreByteValues e → IsEntryOf l.kind e v → HasValues (parts_of l) e (l.values v)
  writes_by e v low is =
      record {
        layout = formed_by e is.count is.typed is.said;
        same = sym (laid.agrees e is.count low) ∙ ap l.values is.value;
      }

  pub lays_out : {S : Type 0} (say : S → V) → LaysOut l.kind (parts_of l) (λ s. l.values (say s)) (λ _. Unit {0}) say
  lays_out say =
      record {
        reads = λ e s has. reads_by e (say s) has;
        writes = λ e s low is. writes_by e (say s) low is;
        formed = λ e count typed said. (formed_by e count typed said, tt);
      }

  pub written : (e : List ℕ) → length e ≡ l.kind.size → length (bytes_of l (l.kind.read e)) ≡ l.kind.size
  written e count =
      let v = l.kind.read e in
      omega (
        arith,
        laid.counted,
        length-numbers l.rest (l.values v) (laid.shaped e count),
        length-append (number_bytes 1 l.kind.type) (number_bytes 1 l.kind.size ++ layout_bytes l.rest (l.values v)),
        length-append (number_bytes 1 l.kind.size) (layout_bytes l.rest (l.values v)),
        length-number_bytes 1 l.kind.type,
        length-number_bytes 1 l.kind.size,
      )

  pub written_again : (e : List ℕ) → length e ≡ l.kind.size → AreByteValues e
      → IsEntryOf l.kind (bytes_of l (l.kind.read e)) (l.kind.read e)
  written_again e count low =
      let v = l.kind.read e in
      let fit : FitLayout l.rest (l.values v) = subst (FitLayout l.rest) (sym (laid.agrees e count low))
      (numbers_fit l.rest 2 e low laid.numbers) in
      reads_by (bytes_of l v) v (HasValues-layout_bytes (parts_of l) (l.values v) (laid.typed, (laid.sized, fit)))

  pub keeps : {E : Type 0} (variant : V → E) (write : E → List ℕ) → ((v : V) → write (variant v) ≡ bytes_of l v)
      → KeepsKind write (kind_as variant l.kind)
  keeps variant write same =
      record {
        count = λ e count. ap length (same (l.kind.read e)) ∙ written e count;
        again = λ e count low. subst (λ (w : List ℕ). IsEntryOf (kind_as variant l.kind) w (variant (l.kind.read e)))
            (sym (same (l.kind.read e))) (again e (written_again e count low));
      }
    where
      again : (e : List ℕ) → IsEntryOf l.kind (bytes_of l (l.kind.read e)) (l.kind.read e)
          → IsEntryOf (kind_as variant l.kind) (bytes_of l (l.kind.read e)) (variant (l.kind.read e))
      again e is = record { count = is.count; typed = is.typed; said = is.said; value = ap variant is.value }
