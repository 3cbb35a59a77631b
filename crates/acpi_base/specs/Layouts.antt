-- Structures of a fixed layout: the list of their parts, and the values that these have.
use Rattle.std.specs.Prelude.{◌≡◌, ℕ, ◌+◌, ◌^◌, ◌<◌, List, [], ◌∷◌, ◌++◌, length, take, drop, replicate}
use Rattle.acpi_base.specs.Number.{field, number_bytes}
use Rattle.acpi_base.specs.declared.field.Value.{Value}
use Rattle.acpi_base.specs.declared.field.Value.TheVariants as value

-- a part of a structure
pub data Part : Type 0 where
  NumberOf : ℕ → Part  -- a little-endian number of so many bytes
  BytesOf : ℕ → Part  -- so many bytes as they are, such as a name
  Fixed : ℕ → Part  -- this byte in all structures of the kind, such as its type
  Reserved : ℕ → Part  -- so many bytes that the standard reserves, with any values

-- the value of a number or of bytes; fixed and reserved parts have none
pub data PartValue : Type 0 where
  Number : ℕ → PartValue
  Bytes : List ℕ → PartValue

-- how many bytes a part has
abbrev pub part_size : Part → ℕ
part_size (NumberOf n) = n
part_size (BytesOf n) = n
part_size (Fixed byte) = 1
part_size (Reserved n) = n

-- how many bytes a structure has
abbrev pub layout_size : List Part → ℕ
layout_size [] = 0
layout_size (part ∷ parts) = part_size part + layout_size parts

-- the values of the parts that follow one another from an offset on
abbrev pub values_at : ℕ → List Part → List ℕ → List PartValue
values_at offset [] bytes = []
values_at offset (NumberOf n ∷ parts) bytes = Number (field bytes offset n) ∷ values_at (offset + n) parts bytes
values_at offset (BytesOf n ∷ parts) bytes = Bytes (take n (drop offset bytes)) ∷ values_at (offset + n) parts bytes
values_at offset (part ∷ parts) bytes = values_at (offset + part_size part) parts bytes

-- from an offset on the fixed bytes of these parts are in their places
abbrev pub HasFixedAt : ℕ → List Part → List ℕ → Type 0
HasFixedAt offset [] bytes = Unit {0}
HasFixedAt offset (Fixed byte ∷ parts) bytes = (field bytes offset 1 ≡ byte) × HasFixedAt (offset + 1) parts bytes
HasFixedAt offset (part ∷ parts) bytes = HasFixedAt (offset + part_size part) parts bytes

-- the bytes are a structure of this layout
pub record IsOfLayout (parts : List Part) (bytes : List ℕ) : Type 0 where
  pub count : length bytes ≡ layout_size parts
  pub fixed : HasFixedAt 0 parts bytes

-- the bytes are a structure of this layout with these values
pub record HasValues (parts : List Part) (bytes : List ℕ) (values : List PartValue) : Type 0 where
  pub layout : IsOfLayout parts bytes
  pub same : values_at 0 parts bytes ≡ values

-- the bytes of a structure with these values; reserved bytes are 0
abbrev pub layout_bytes : List Part → List PartValue → List ℕ
layout_bytes (NumberOf n ∷ parts) (Number x ∷ values) = number_bytes n x ++ layout_bytes parts values
layout_bytes (BytesOf n ∷ parts) (Bytes text ∷ values) = text ++ layout_bytes parts values
layout_bytes (Fixed byte ∷ parts) values = number_bytes 1 byte ++ layout_bytes parts values
layout_bytes (Reserved n ∷ parts) values = replicate n 0 ++ layout_bytes parts values
layout_bytes _ _ = []

-- there is a value of the right size for each part that has one
abbrev pub FitLayout : List Part → List PartValue → Type 0
FitLayout [] [] = Unit {0}
FitLayout (NumberOf n ∷ parts) (Number x ∷ values) = (x < 256 ^ n) × FitLayout parts values
FitLayout (BytesOf n ∷ parts) (Bytes text ∷ values) = (length text ≡ n) × FitLayout parts values
FitLayout (Fixed byte ∷ parts) values = (byte < 256) × FitLayout parts values
FitLayout (Reserved n ∷ parts) values = FitLayout parts values
FitLayout _ _ = ⊥

-- ---- what code writes

-- the bytes of a value
abbrev pub value_bytes : Value → List ℕ
value_bytes (value.U8 x) = number_bytes 1 x
value_bytes (value.U16 x) = number_bytes 2 x
value_bytes (value.U32 x) = number_bytes 4 x
value_bytes (value.U64 x) = number_bytes 8 x
value_bytes (value.Bytes bytes) = bytes.now
value_bytes (value.Zeros n) = replicate n 0

-- how many bytes it has
abbrev pub value_size : Value → ℕ
value_size (value.U8 x) = 1
value_size (value.U16 x) = 2
value_size (value.U32 x) = 4
value_size (value.U64 x) = 8
value_size (value.Bytes bytes) = length bytes.now
value_size (value.Zeros n) = n

-- the bytes of values that are written one after another
abbrev pub values_bytes : List Value → List ℕ
values_bytes [] = []
values_bytes (v ∷ values) = value_bytes v ++ values_bytes values

-- how many bytes they have
abbrev pub values_size : List Value → ℕ
values_size [] = 0
values_size (v ∷ values) = value_size v + values_size values

-- a number is below the bound that its bytes set
abbrev pub FitsValue : Value → Type 0
FitsValue (value.U8 x) = x < 256 ^ 1
FitsValue (value.U16 x) = x < 256 ^ 2
FitsValue (value.U32 x) = x < 256 ^ 4
FitsValue (value.U64 x) = x < 256 ^ 8
FitsValue _ = Unit {0}

-- all of them are
abbrev pub FitValues : List Value → Type 0
FitValues [] = Unit {0}
FitValues (v ∷ values) = FitsValue v × FitValues values
