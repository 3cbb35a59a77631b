-- Structures of a fixed layout: what was written is read back, whatever follows it.
use Rattle.std.proofs.Common.{◌≡◌, ℕ, ◌+◌, ◌^◌, ◌<◌, List, [], ◌∷◌, ◌++◌, length, drop, replicate, refl, sym, ap, ◌∙◌, append_assoc, append-nil, length-append, arith}
use Rattle.std.proofs.Math.Seq.{drop-drop}
use Rattle.std.proofs.lemmas.List.{drop_at, length-replicate, take_at}
use Rattle.byteorder.specs.Endian.{little_number}
use Rattle.byteorder.specs.Numbers.{little_number-reads_back, length-bytes_low_first}
use Rattle.acpi_base.specs.Number.{field, number_bytes}
use Rattle.acpi_base.specs.Layouts.{Part, NumberOf, BytesOf, Fixed, Reserved, PartValue, Number, Bytes, layout_size, values_at, HasFixedAt, HasValues, layout_bytes, FitLayout}

pub length-number_bytes : (n x : ℕ) → length (number_bytes n x) ≡ n
unfolding number_bytes
length-number_bytes n x = length-bytes_low_first 0 n x

pub length-layout_bytes : (parts : List Part) (values : List PartValue) → FitLayout parts values
    → length (layout_bytes parts values) ≡ layout_size parts
length-layout_bytes [] [] fit = refl
length-layout_bytes (NumberOf n ∷ parts) (Number x ∷ values) fit =
    grind (arith, length-append, length-number_bytes, length-layout_bytes parts values fit.1)
length-layout_bytes (BytesOf n ∷ parts) (Bytes text ∷ values) fit =
    grind (arith, length-append, fit.0, length-layout_bytes parts values fit.1)
length-layout_bytes (Fixed byte ∷ parts) values fit =
    grind (arith, length-append, length-number_bytes, length-layout_bytes parts values fit.1)
length-layout_bytes (Reserved n ∷ parts) values fit =
    grind (arith, length-append, length-replicate {A = ℕ} n 0, length-layout_bytes parts values fit)
length-layout_bytes _ _ fit = absurd fit

past : (offset n : ℕ) (bytes here rest : List ℕ) → drop offset bytes ≡ here ++ rest → length here ≡ n
    → drop (offset + n) bytes ≡ rest
past offset n bytes here rest stands counted =
    sym (drop-drop n offset bytes) ∙ ap (drop n) stands ∙ drop_at here rest n counted

pub number_there : (offset n x : ℕ) (bytes rest : List ℕ) → drop offset bytes ≡ number_bytes n x ++ rest → x < 256 ^ n
    → field bytes offset n ≡ x
unfolding field number_bytes
number_there offset n x bytes rest stands fits = ap (little_number n) stands ∙ little_number-reads_back n x rest fits

-- from an offset on the bytes have these values, and the fixed bytes
abbrev HasValuesAt : ℕ → List Part → List PartValue → List ℕ → Type 0
HasValuesAt offset parts values bytes = (values_at offset parts bytes ≡ values) × HasFixedAt offset parts bytes

read_there : (offset : ℕ) (parts : List Part) (values : List PartValue) (bytes rest : List ℕ) → FitLayout parts values
    → drop offset bytes ≡ layout_bytes parts values ++ rest → HasValuesAt offset parts values bytes
read_there offset [] [] bytes rest fit stands = (refl, tt)
read_there offset (NumberOf n ∷ parts) (Number x ∷ values) bytes rest fit stands =
    let behind = layout_bytes parts values ++ rest in
    let here : drop offset bytes ≡ number_bytes n x ++ behind =
    stands ∙ append_assoc (number_bytes n x) (layout_bytes parts values) rest in
    let others = read_there (offset + n) parts values bytes rest fit.1
    (past offset n bytes (number_bytes n x) behind here (length-number_bytes n x)) in
    (rw (number_there offset n x bytes behind here fit.0, others.0) refl, others.1)
read_there offset (BytesOf n ∷ parts) (Bytes text ∷ values) bytes rest fit stands =
    let behind = layout_bytes parts values ++ rest in
    let here : drop offset bytes ≡ text ++ behind = stands ∙ append_assoc text (layout_bytes parts values) rest in
    let others = read_there (offset + n) parts values bytes rest fit.1 (past offset n bytes text behind here fit.0) in
    (rw (here, take_at text behind n fit.0, others.0) refl, others.1)
read_there offset (Fixed byte ∷ parts) values bytes rest fit stands =
    let behind = layout_bytes parts values ++ rest in
    let here : drop offset bytes ≡ number_bytes 1 byte ++ behind =
    stands ∙ append_assoc (number_bytes 1 byte) (layout_bytes parts values) rest in
    let others = read_there (offset + 1) parts values bytes rest fit.1
    (past offset 1 bytes (number_bytes 1 byte) behind here (length-number_bytes 1 byte)) in
    (others.0, (number_there offset 1 byte bytes behind here fit.0, others.1))
read_there offset (Reserved n ∷ parts) values bytes rest fit stands =
    let here = stands ∙ append_assoc (replicate n 0) (layout_bytes parts values) rest in
    read_there (offset + n) parts values bytes rest fit
    (past offset n bytes (replicate n 0) (layout_bytes parts values ++ rest) here (length-replicate {A = ℕ} n 0))
read_there offset _ _ bytes rest fit stands = absurd fit

pub values_at-layout_bytes : (parts : List Part) (values : List PartValue) (rest : List ℕ) → FitLayout parts values
    → values_at 0 parts (layout_bytes parts values ++ rest) ≡ values
values_at-layout_bytes parts values rest fit =
    (read_there 0 parts values (layout_bytes parts values ++ rest) rest fit refl).0

pub drop-layout_bytes : (parts : List Part) (values : List PartValue) (rest : List ℕ) → FitLayout parts values
    → drop (layout_size parts) (layout_bytes parts values ++ rest) ≡ rest
drop-layout_bytes parts values rest fit =
    drop_at (layout_bytes parts values) rest (layout_size parts) (length-layout_bytes parts values fit)

pub HasValues-layout_bytes : (parts : List Part) (values : List PartValue) → FitLayout parts values
    → HasValues parts (layout_bytes parts values) values
HasValues-layout_bytes parts values fit =
    let there = read_there 0 parts values (layout_bytes parts values) [] fit
    (sym (append-nil (layout_bytes parts values))) in
    record {
      layout = record { count = length-layout_bytes parts values fit; fixed = there.1 };
      same = there.0;
    }
