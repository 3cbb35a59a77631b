-- Headers: what was written is read back, whatever follows it.
use Rattle.std.proofs.Common.{rules, ◌≡◌, ℕ, ◌+◌, List, ◌++◌, length, drop, refl, sym, ◌∙◌, length-append, arith}
use Rattle.acpi_base.specs.Header.{HeaderValue, header_of, header_parts, header_values, header_bytes, FitsHeader, HeadValue, head_of, header_with}
use Rattle.acpi_base.specs.Layouts.{values_at, FitLayout}
use Rattle.acpi_base.proofs.Layouts.RoundTrip.{values_at-layout_bytes, drop-layout_bytes, length-layout_bytes}

pub values_at-header_of : (bytes : List ℕ) → values_at 0 header_parts bytes ≡ header_values (header_of bytes)
unfolding header_of
values_at-header_of bytes = refl

FitLayout-header : (v : HeaderValue) → FitsHeader v → FitLayout header_parts (header_values v)
FitLayout-header v fits = search rules

pub one_header_values : (one other : HeaderValue) → header_values one ≡ header_values other → one ≡ other
one_header_values one other same = search rules

pub header_of-header_bytes : (v : HeaderValue) (rest : List ℕ) → FitsHeader v → header_of (header_bytes v ++ rest) ≡ v
unfolding header_bytes
header_of-header_bytes v rest fits =
    one_header_values (header_of (header_bytes v ++ rest)) v
    (sym (values_at-header_of (header_bytes v ++ rest)) ∙ values_at-layout_bytes header_parts (header_values v) rest
    (FitLayout-header v fits))

pub head_of-header_bytes : (signature : List ℕ) (size checksum : ℕ) (head : HeadValue) (rest : List ℕ)
    → FitsHeader (header_with signature size checksum head)
    → head_of (header_bytes (header_with signature size checksum head) ++ rest) ≡ head
head_of-header_bytes signature size checksum head rest fits =
    rw (header_of-header_bytes (header_with signature size checksum head) rest fits) refl

pub length-header_bytes : (v : HeaderValue) → FitsHeader v → length (header_bytes v) ≡ 36
unfolding header_bytes
length-header_bytes v fits = length-layout_bytes header_parts (header_values v) (FitLayout-header v fits)

pub drop-header_bytes : (v : HeaderValue) (rest : List ℕ) → FitsHeader v → drop 36 (header_bytes v ++ rest) ≡ rest
unfolding header_bytes
drop-header_bytes v rest fits = drop-layout_bytes header_parts (header_values v) rest (FitLayout-header v fits)

pub length-header_and_body : (v : HeaderValue) (rest : List ℕ) → FitsHeader v
    → length (header_bytes v ++ rest) ≡ 36 + length rest
length-header_and_body v rest fits = grind (arith, length-append, length-header_bytes v fits)
