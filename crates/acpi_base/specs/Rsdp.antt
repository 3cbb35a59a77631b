-- The RSDP (ACPI 6.5, 5.2.5.3): its fields, and when it is valid. Offsets are from its start.
use Rattle.std.specs.Prelude.{◌≡◌, ◌≢◌, ℕ, ◌≤◌, List, take, drop, Option, Some, None, true, false, nat_lt, if◌then◌else◌}
use Rattle.std.specs.Option.{option_map, option_and_then}
use Rattle.acpi_base.specs.Frames.{IsValidFrame, FrameFault}
use Rattle.acpi_base.specs.Memory.{Memory, bytes_at}
use Rattle.acpi_base.specs.Number.{field, byte_sum}
use Rattle.acpi_base.specs.Signature.{has_signature, rsdp_signature}
use Rattle.acpi_base.specs.declared.code.Code.{Code}
use Rattle.acpi_base.specs.declared.code.Code.TheVariants as code
use Rattle.acpi_base.specs.declared.frame.Frame.{Frame}
use Rattle.acpi_base.specs.declared.frame.Question.TheVariants as question

-- the revision: 0 or 1 means the short form of 20 bytes, 2 or more the extended one of at least 36
abbrev pub revision_of : List ℕ → ℕ
revision_of head = field head 15 1

-- the checks of the extended form besides those of its first 20 bytes
abbrev pub extended_frame : Frame
extended_frame = record { header = 36; length_at = 20; least = 36 }

-- the addresses of the RSDT and the XSDT; 0 names none
pub record Addresses : Type 0 where
  pub rsdt : ℕ
  pub xsdt : ℕ

abbrev pub short_addresses : List ℕ → Addresses
short_addresses head = record { rsdt = field head 16 4; xsdt = 0 }

abbrev pub extended_addresses : List ℕ → Addresses
extended_addresses prefix = record { rsdt = field prefix 16 4; xsdt = field prefix 24 8 }

-- what the RSDP at p names, if its 20 bytes are present, and in the extended form its 36; a short one names no XSDT
unfoldable pub addresses_at : Memory → ℕ → Option Addresses
addresses_at m p =
    option_and_then
    (λ head. if nat_lt (revision_of head) 2 then Some (short_addresses head) else option_map extended_addresses (bytes_at m p 36))
    (bytes_at m p 20)

-- what an RSDP says: its address, its revision, its OEMID and the addresses that it names
pub record RsdpValue : Type 0 where
  pub address : ℕ
  pub revision : ℕ
  pub oemid : List ℕ
  pub named : Addresses

-- v is what the RSDP at p says, in the form that its revision means
pub record IsRsdp (m : Memory) (p : ℕ) (v : RsdpValue) : Type 0 where
  pub address : v.address ≡ p
  pub head : List ℕ
  pub head_present : bytes_at m p 20 ≡ Some head
  pub oemid : v.oemid ≡ take 6 (drop 9 head)
  pub revision : v.revision ≡ revision_of head
  pub named : addresses_at m p ≡ Some v.named

-- the 20 bytes at p are present and are those of the extended form
abbrev pub IsExtended : Memory → ℕ → Type 0
IsExtended m p = (head : List ℕ) × (bytes_at m p 20 ≡ Some head) × (2 ≤ revision_of head)

-- Stage 1: the 20 bytes at p are present, begin with the signature and sum to 0; the extended form is valid as well.
pub record IsValidRsdp (m : Memory) (p : ℕ) : Type 0 where
  pub head : List ℕ
  pub head_present : bytes_at m p 20 ≡ Some head
  pub signed : has_signature head rsdp_signature ≡ true
  pub zero_sum : byte_sum head ≡ 0
  pub extended : 2 ≤ revision_of head → IsValidFrame extended_frame m p

-- The faults of stage 1, by their code.
abbrev pub RsdpFault : Memory → ℕ → Code → Type 0
RsdpFault m p code.RsdpOut = bytes_at m p 20 ≡ None
RsdpFault m p code.RsdpSignature = (head : List ℕ) × (bytes_at m p 20 ≡ Some head) × (has_signature head rsdp_signature ≡ false)
RsdpFault m p code.RsdpSum = (head : List ℕ) × (bytes_at m p 20 ≡ Some head) × (byte_sum head ≢ 0)
RsdpFault m p code.RsdpTailOut = IsExtended m p × FrameFault extended_frame m p question.Header
RsdpFault m p code.RsdpLength = IsExtended m p × FrameFault extended_frame m p question.Length
RsdpFault m p code.RsdpLongOut = IsExtended m p × FrameFault extended_frame m p question.Bytes
RsdpFault m p code.RsdpExtendedSum = IsExtended m p × FrameFault extended_frame m p question.Sum
RsdpFault m p _ = ⊥
