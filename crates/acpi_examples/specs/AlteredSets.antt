-- Examples of the faults 1 to 31: the clean set with one byte changed or missing, which then has the fault. Worked out by hand
-- from the rules.
use Rattle.std.specs.Prelude.{ℕ, Option, Some, None}
use Rattle.std.specs.FinMap.{insert, remove}
use Rattle.acpi_base.specs.Memory.{Memory}
use Rattle.acpi_examples.specs.ExampleSet.{example_set, example_policy}
use Rattle.acpi_examples.specs.Sets.{rsdp_at, HasFault}
use Rattle.acpi_base.specs.declared.code.Code.{Code}
use Rattle.acpi_base.specs.declared.code.Code.TheVariants as code

-- the clean set with this byte at an address, or with none there
abbrev pub altered_set : ℕ → Option ℕ → Memory
altered_set address (Some byte) = insert example_set address byte
altered_set address None = remove example_set address

-- it has this fault, whose third number is 0
abbrev pub HasFaultWith : ℕ → Option ℕ → Code → ℕ → ℕ → Type 0
HasFaultWith address byte fault at other = HasFault (altered_set address byte) example_policy fault at other 0

-- the faults of the RSDP at 0xE0000
pub record AreRsdpFaults : Type 0 where
  pub out : HasFaultWith 0xe0013 None code.RsdpOut rsdp_at 0  -- the last of the first 20 bytes
  pub signature : HasFaultWith 0xe0000 (Some 0x72) code.RsdpSignature rsdp_at 0  -- r for R
  pub sum : HasFaultWith 0xe0000 (Some 0x72) code.RsdpSum rsdp_at 0
  pub tail_out : HasFaultWith 0xe0023 None code.RsdpTailOut rsdp_at 0  -- the last byte
  pub size : HasFaultWith 0xe0014 (Some 35) code.RsdpLength rsdp_at 0  -- Length
  pub long_out : HasFaultWith 0xe0014 (Some 37) code.RsdpLongOut rsdp_at 0
  pub extended_sum : HasFaultWith 0xe0021 (Some 1) code.RsdpExtendedSum rsdp_at 0  -- a reserved byte

-- the faults of the XSDT at 0x1000; if the RSDP names none, at the RSDP
pub record AreRootFaults : Type 0 where
  pub none : HasFaultWith 0xe0019 (Some 0) code.NoRoot rsdp_at 0  -- the XSDT's address
  pub header_out : HasFaultWith 0x1023 None code.RootHeaderOut 0x1000 0  -- the header's last byte
  pub signature : HasFaultWith 0x1000 (Some 0x52) code.RootSignature 0x1000 0  -- R for X
  pub size : HasFaultWith 0x1004 (Some 35) code.RootLength 0x1000 0  -- Length
  pub out : HasFaultWith 0x104b None code.RootOut 0x1000 0  -- the last byte
  pub ragged : HasFaultWith 0x1004 (Some 75) code.RootRagged 0x1000 0
  pub sum : HasFaultWith 0x1008 (Some 2) code.RootSum 0x1000 0  -- Revision

-- the faults of the table at 0x2000, in the XSDT's slot 0
pub record AreTableFaults : Type 0 where
  pub header_out : HasFaultWith 0x2023 None code.TableHeaderOut 0 0x2000  -- the header's last byte
  pub size : HasFaultWith 0x2004 (Some 35) code.TableLength 0 0x2000  -- Length
  pub out : HasFaultWith 0x2080 None code.TableOut 0 0x2000  -- the last byte
  pub sum : HasFaultWith 0x2008 (Some 3) code.TableSum 0 0x2000  -- Revision

-- the faults of the FADT, which is that table
pub record AreFadtFaults : Type 0 where
  pub none : HasFaultWith 0x2000 (Some 0x47) code.NoFadt 0 0  -- G for F
  pub short : HasFaultWith 0x2004 (Some 115) code.FadtShort 0 0  -- Length
  pub event : HasFaultWith 0x2058 (Some 3) code.PmEventLength 88 0  -- PM1_EVT_LEN
  pub control : HasFaultWith 0x2059 (Some 1) code.PmControlLength 89 0  -- PM1_CNT_LEN
  pub timer : HasFaultWith 0x205b (Some 3) code.PmTimerLength 91 0  -- PM_TMR_LEN
  pub gpe0 : HasFaultWith 0x205c (Some 3) code.GpeLength 92 0  -- GPE0_BLK_LEN
  pub gpe1 : HasFaultWith 0x205d (Some 3) code.GpeLength 93 0  -- GPE1_BLK_LEN
  pub reset : HasFaultWith 0x2074 (Some 3) code.ResetRegister 116 0  -- the address space of RESET_REG

-- the faults of the FACS at 0x3000, or at the address in FIRMWARE_CTRL
pub record AreFacsFaults : Type 0 where
  pub none : HasFaultWith 0x2025 (Some 0) code.NoFacs 0 0  -- 0
  pub align : HasFaultWith 0x2024 (Some 0x20) code.FacsAlign 0x3020 0  -- 0x3020
  pub header_out : HasFaultWith 0x3007 None code.FacsHeaderOut 0x3000 0  -- the last of the first 8 bytes
  pub signature : HasFaultWith 0x3000 (Some 0x66) code.FacsSignature 0x3000 0  -- f for F
  pub size : HasFaultWith 0x3004 (Some 63) code.FacsLength 0x3000 0  -- Length
  pub out : HasFaultWith 0x303f None code.FacsOut 0x3000 0  -- the last byte
