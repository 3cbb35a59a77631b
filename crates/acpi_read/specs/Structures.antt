-- Headers (ACPI 6.5, 5.2.6), generic addresses (5.2.3.2) and the heads of nodes (5.2.30.1) as the plain values of the
-- definitions.
use Rattle.std.proofs.Common.{◌≡◌, ◌≤◌, ℕ, ap, sym, subst, ◌∙◌}
use Rattle.std.specs.Coded.{le_prop}
use Rattle.acpi_base.specs.Header.{HeaderValue}
use Rattle.acpi_base.specs.Fadt.{GasValue}
use Rattle.acpi_read.specs.declared.header.Header.{Header}
use Rattle.acpi_read.specs.declared.gas.Gas.{Gas}
use Rattle.acpi_read.specs.Pptts.{node_head_values}
use Rattle.acpi_read.specs.declared.pptt.node_head.NodeHead.{NodeHead}

-- ---- headers as the plain values of the definitions

-- the contents of a header
abbrev pub header_value : Header → HeaderValue
header_value h =
    record {
      signature = h.signature;
      length = h.length;
      revision = h.revision;
      checksum = h.checksum;
      oemid = h.oemid;
      oem_table_id = h.oem_table_id;
      oem_revision = h.oem_revision;
      creator_id = h.creator_id;
      creator_revision = h.creator_revision;
    }

-- ---- generic addresses as the plain values of the definitions

-- the contents of a generic address
abbrev pub gas_value : Gas → GasValue
gas_value g =
    record {
      space = g.space;
      bit_width = g.bit_width;
      bit_offset = g.bit_offset;
      access_size = g.access_size;
      address = g.address;
    }

-- ---- the heads of the PPTT's nodes

-- heads with the same fields are the same
same_fields : (flags parent id count : ℕ) (fits : count ≤ 58) (h : NodeHead) → flags ≡ h.flags → parent ≡ h.parent → id ≡ h.id → count ≡ h.count
    → record { flags = flags; parent = parent; id = id; count = count; fits = fits } ≡ h
same_fields flags parent id count fits h same_flags same_parent same_id same_count =
    subst (λ (k : ℕ). (f : k ≤ 58) → record { flags = flags; parent = parent; id = id; count = k; fits = f } ≡ h) (sym same_count)
    (λ f.
    ap (λ (x : ℕ). record h { flags = x; parent = parent; id = id; fits = f }) same_flags
    ∙ ap (λ (x : ℕ). record h { parent = x; id = id; fits = f }) same_parent
    ∙ ap (λ (x : ℕ). record h { id = x; fits = f }) same_id
    ∙ ap (λ (g : h.count ≤ 58). record h { fits = g }) (le_prop f h.fits))
    fits

-- and so are those with the same values
pub one_head : (one other : NodeHead) → node_head_values one ≡ node_head_values other → one ≡ other
one_head one other same = same_fields one.flags one.parent one.id one.count one.fits other (cc) (cc) (cc) (cc)
