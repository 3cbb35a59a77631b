-- Signatures: the ASCII letters that a structure begins with.
use Rattle.std.specs.Prelude.{ℕ, Bool, List, codes, nat_eq}
use Rattle.std.specs.List.{starts_with}

-- whether the bytes begin with the signature
unfoldable pub has_signature : List ℕ → List ℕ → Bool
has_signature bytes signature = starts_with nat_eq bytes signature

-- the RSDP's (5.2.5.3), the last one a blank
abbrev pub rsdp_signature : List ℕ
rsdp_signature = codes "RSD PTR "

-- the RSDT's (5.2.7)
abbrev pub rsdt_signature : List ℕ
rsdt_signature = codes "RSDT"

-- the XSDT's (5.2.8)
abbrev pub xsdt_signature : List ℕ
xsdt_signature = codes "XSDT"
