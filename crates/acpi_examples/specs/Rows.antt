-- Examples of the rules that are rows: of each tables that break it, with the three numbers of the first finding, and tables that
-- just keep it. Proved by computing: a further example is a line here.
use Rattle.std.specs.Prelude.{ℕ, ◌+◌, ◌-◌, ◌*◌, ◌^◌, List, [], ◌∷◌, ◌++◌, length, map, replicate, take, drop, Contains, Option, Some, None}
use Rattle.acpi_base.specs.Number.{number_bytes}
use Rattle.acpi_rules.specs.Places.{FindsLeast}
use Rattle.acpi_rules.specs.Rows.{Row}
use Rattle.acpi_rules.specs.Terms.{TwoTables}
use Rattle.acpi_rules.specs.declared.place.Place.{Place}
use Rattle.acpi_lint.specs.RowGroups.{BreaksRow, OfAny, devices_group, dmar_group, dmar_scopes_group, dmar_with_srat_group, fadt_further_group, fadt_group, fadt_with_madt_group, gic_group, gtdt_group, gtdt_with_madt_group, hmat_group, hmat_with_srat_group, hpet_group, ivrs_group, madt_further_group, madt_group, madt_with_dmar_group, madt_with_fadt_group, madt_with_ivrs_group, madt_with_pptt_group, madt_with_srat_group, mcfg_group, pptt_group, pptt_with_madt_group, spcr_group, spcr_with_madt_group, srat_group, srat_with_madt_group, srat_with_slit_group}
use Rattle.acpi_lint.specs.Rules.Rows.{rule_number}
use Rattle.acpi_lint.specs.declared.rule.Rule.{Rule}
use Rattle.acpi_lint.specs.declared.rule.Rule.TheVariants as rule

-- ---- what an example says

pub record Example : Type 0 where
  pub rule : Rule
  pub table : List ℕ
  pub other : List ℕ
  pub found : Option Place

-- a table, with another one, breaks the rule, first at these numbers, or it keeps the rule
abbrev pub breaks : Rule → List ℕ → List ℕ → ℕ → ℕ → ℕ → Example
breaks r table other at other_at point =
    record { rule = r; table = table; other = other; found = Some (record { at = at; other = other_at; point = point }) }

abbrev pub keeps : Rule → List ℕ → List ℕ → Example
keeps r table other = record { rule = r; table = table; other = other; found = None }

abbrev pub tables_of : Example → TwoTables
tables_of e = record { table = e.table; other = e.other }

-- with some rows each of these finds what it says
abbrev pub AreFound : List Row → List Example → Type 0
AreFound rows examples =
    (e : Example) → Contains examples e
    → FindsLeast (OfAny (BreaksRow (tables_of e)) rows (rule_number e.rule)) e.found

-- a table that breaks the rule, first at these numbers, and one that keeps it
abbrev pub edge : Rule → List ℕ → ℕ × ℕ × ℕ → List ℕ → List Example
edge r broken place kept = breaks r broken [] place.0 place.1 place.2 ∷ keeps r kept [] ∷ []

-- ---- tables

-- bytes, with others from an offset on
abbrev pub patched : ℕ → List ℕ → List ℕ → List ℕ
patched at bytes table = take at table ++ bytes ++ drop (at + length bytes) table

-- a table with a byte, the last of three numbers, at an offset, the second one, in the structure at the first one breaks the rule
-- there
abbrev pub breaks_at : Rule → List ℕ → ℕ × ℕ × ℕ → Example
breaks_at r table place = breaks r (patched (place.0 + place.1) (place.2 ∷ []) table) [] place.0 place.1 place.2

-- a table with these bytes at these offsets
abbrev pub set_bytes : List (ℕ × ℕ) → List ℕ → List ℕ
set_bytes [] table = table
set_bytes (b ∷ more) table = patched b.0 (b.1 ∷ []) (set_bytes more table)

abbrev pub joined : List (List ℕ) → List ℕ
joined [] = []
joined (e ∷ es) = e ++ joined es

abbrev pub zeros : List ℕ
zeros = replicate 8 0

-- eight bytes, of which the one at an offset is this
abbrev pub byte : ℕ → ℕ → List ℕ
byte at n = patched at (n ∷ []) zeros

-- a FADT of this Revision and Length, one of Revision 6 with these bytes, and one of reduced hardware
abbrev pub fadt : ℕ → ℕ → List ℕ
fadt revision size = patched 8 (revision ∷ []) (replicate size 0)

abbrev pub fadt_with : List (ℕ × ℕ) → List ℕ
fadt_with bytes = set_bytes bytes (fadt 6 276)

abbrev pub reduced : List ℕ → List ℕ
reduced table = patched 114 (16 ∷ []) table

-- one with an address in the X_ structure at this offset, whose space and width are these
abbrev pub with_block : ℕ → ℕ → ℕ → List ℕ
with_block at space width = patched at (space ∷ width ∷ 0 ∷ 0 ∷ 1 ∷ []) (fadt 6 276)

-- the Revisions, and how many bytes a FADT of each has
abbrev pub fadt_sizes : List (ℕ × ℕ)
fadt_sizes = (1, 116) ∷ (2, 132) ∷ (3, 244) ∷ (4, 244) ∷ (5, 268) ∷ (6, 276) ∷ (7, 276) ∷ []

-- a MADT, an SRAT and a PPTT with these entries
abbrev pub madt : List (List ℕ) → List ℕ
madt entries = replicate 44 0 ++ joined entries

abbrev pub srat : ℕ → List (List ℕ) → List ℕ
srat revision entries = patched 8 (revision ∷ []) (patched 36 (1 ∷ []) (replicate 48 0)) ++ joined entries

-- a SLIT of this many localities
abbrev pub slit : ℕ → List ℕ
slit count = replicate 36 0 ++ count ∷ replicate 7 0 ++ replicate (count * count) 10

abbrev pub pptt : ℕ → List (List ℕ) → List ℕ
pptt revision entries = patched 8 (revision ∷ []) (replicate 36 0) ++ joined entries

-- ---- entries: an ID is before the flags, and before these a UID where it is a local APIC's

-- one of this type and length, 0 behind these
abbrev pub entry : ℕ → ℕ → List ℕ
entry kind size = kind ∷ size ∷ replicate (size - 2) 0

abbrev pub local_apic : ℕ → ℕ → ℕ → List ℕ
local_apic uid id flags = 0 ∷ 8 ∷ uid ∷ id ∷ flags ∷ replicate 3 0

abbrev pub io_apic : ℕ → ℕ → List ℕ
io_apic id address = 1 ∷ 12 ∷ id ∷ 0 ∷ address ∷ replicate 7 0

abbrev pub override : ℕ → ℕ → ℕ → List ℕ
override source gsi flags = 2 ∷ 10 ∷ 0 ∷ source ∷ gsi ∷ 0 ∷ 0 ∷ 0 ∷ flags ∷ 0 ∷ []

abbrev pub nmi : ℕ → ℕ → List ℕ
nmi uid lint = 4 ∷ 6 ∷ uid ∷ 0 ∷ 0 ∷ lint ∷ []

abbrev pub x2apic : ℕ → ℕ → ℕ → List ℕ
x2apic id flags uid = 9 ∷ 16 ∷ 0 ∷ 0 ∷ id ∷ 0 ∷ 0 ∷ 0 ∷ flags ∷ 0 ∷ 0 ∷ 0 ∷ uid ∷ replicate 3 0

-- a GIC CPU interface with an MPIDR
abbrev pub gicc : ℕ → ℕ → List ℕ → List ℕ
gicc uid flags mpidr = 11 ∷ 76 ∷ replicate 6 0 ++ uid ∷ 0 ∷ 0 ∷ 0 ∷ flags ∷ replicate 55 0 ++ mpidr

-- one that is enabled, with a version of the parking protocol, its address, and that of a redistributor of its own
abbrev pub interface : ℕ → ℕ → ℕ → List ℕ
interface parking base redistributor =
    11 ∷ 76 ∷ replicate 10 0 ++ 1 ∷ 0 ∷ 0 ∷ 0 ∷ parking ∷ replicate 15 0 ++ base ∷ replicate 27 0 ++ redistributor ∷ replicate 15 0

abbrev pub gicd : ℕ → List ℕ
gicd version = 12 ∷ 24 ∷ replicate 18 0 ++ version ∷ replicate 3 0

abbrev pub msi_frame : ℕ → List ℕ
msi_frame id = 13 ∷ 24 ∷ 0 ∷ 0 ∷ id ∷ replicate 19 0

abbrev pub gicr : ℕ → ℕ → List ℕ
gicr base size = 14 ∷ 16 ∷ 0 ∷ 0 ∷ base ∷ replicate 7 0 ++ size ∷ replicate 3 0

abbrev pub its : ℕ → List ℕ
its id = 15 ∷ 20 ∷ 0 ∷ 0 ∷ id ∷ replicate 15 0

-- one with this base address
abbrev pub its_at : ℕ → List ℕ
its_at address = patched 8 (number_bytes 8 address) (its 5)

-- a wakeup structure of this length, with a version, a reserved byte, and bits 15:8 of the mailbox's address
abbrev pub wakeup : ℕ → ℕ → ℕ → ℕ → List ℕ
wakeup size version reserved high =
    take size (16 ∷ size ∷ version ∷ 0 ∷ reserved ∷ 0 ∷ 0 ∷ 0 ∷ 0 ∷ high ∷ replicate 14 0)

-- an interrupt controller of LoongArch or RISC-V, of version 1, and a MADT with one of each type, from 44 on
abbrev pub pic : ℕ → ℕ → List ℕ
pic kind size = patched 2 (1 ∷ []) (entry kind size)

abbrev pub pics : List ℕ
pics =
    madt
    (pic 17 15 ∷ pic 18 23 ∷ pic 19 21 ∷ pic 20 13 ∷ pic 21 19 ∷ pic 22 17 ∷ pic 23 14 ∷ pic 24 20
    ∷ pic 25 16 ∷ pic 26 36 ∷ pic 27 36 ∷ [])

-- a MADT with the structures that FurtherReserved looks at, at 44, 122, 146, 170, 186, 206, 221 and 241, with all flags that they
-- have
abbrev pub flagged : List ℕ
flagged =
    madt
    (patched 12 (31 ∷ []) (entry 11 78) ∷ entry 12 24 ∷ patched 16 (1 ∷ []) (entry 13 24) ∷ patched 2 (1 ∷ []) (entry 14 16)
    ∷ patched 2 (1 ∷ []) (entry 15 20) ∷ patched 11 (1 ∷ []) (entry 17 15) ∷ patched 4 (3 ∷ []) (entry 24 20) ∷ entry 25 16 ∷ [])

abbrev pub rintc : ℕ → ℕ → ℕ → List ℕ
rintc flags hart uid = 24 ∷ 20 ∷ 0 ∷ 0 ∷ flags ∷ 0 ∷ 0 ∷ 0 ∷ hart ∷ replicate 7 0 ++ uid ∷ replicate 3 0

-- the affinity of a local APIC, with bits 15:8 of its domain
abbrev pub apic_affinity : ℕ → ℕ → ℕ → List ℕ
apic_affinity high id flags = 0 ∷ 16 ∷ 0 ∷ id ∷ flags ∷ 0 ∷ 0 ∷ 0 ∷ 0 ∷ high ∷ replicate 6 0

abbrev pub memory : ℕ → ℕ → ℕ → ℕ → List ℕ
memory domain base size flags =
    1 ∷ 40 ∷ number_bytes 4 domain ++ 0 ∷ 0 ∷ base ∷ replicate 7 0 ++ size ∷ replicate 11 0 ++ flags ∷ replicate 11 0

abbrev pub gicc_affinity : ℕ → ℕ → List ℕ
gicc_affinity domain uid = 3 ∷ 18 ∷ domain ∷ 0 ∷ 0 ∷ 0 ∷ uid ∷ 0 ∷ 0 ∷ 0 ∷ 1 ∷ replicate 7 0

abbrev pub its_affinity : ℕ → List ℕ
its_affinity id = 4 ∷ 12 ∷ replicate 6 0 ++ id ∷ replicate 3 0

abbrev pub initiator : ℕ → ℕ → List ℕ
initiator domain flags = 5 ∷ 32 ∷ 0 ∷ 0 ∷ domain ∷ replicate 19 0 ++ flags ∷ replicate 7 0

abbrev pub port : ℕ → ℕ → List ℕ
port domain flags = patched 0 (6 ∷ []) (initiator domain flags)

-- an SRAT with the structures that AffinityReserved looks at, at 48, 66, 78, 110 and 142, with all flags that they have
abbrev pub affinities : List ℕ
affinities =
    srat 2 (gicc_affinity 7 3 ∷ its_affinity 5 ∷ initiator 7 3 ∷ port 7 3 ∷ patched 12 (1 ∷ []) (entry 7 20) ∷ [])

-- an ITS in domain 7, and what else may be in it, with this flag that it is enabled
abbrev pub its_in_seven : List ℕ
its_in_seven = patched 2 (7 ∷ []) (its_affinity 5)

abbrev pub others_in_seven : ℕ → List (List ℕ)
others_in_seven flag =
    patched 2 (7 ∷ []) (apic_affinity 0 4 flag) ∷ memory 7 9 1 flag ∷ patched 4 (7 ∷ []) (patched 12 (flag ∷ []) (entry 2 24))
    ∷ patched 10 (flag ∷ []) (gicc_affinity 7 3) ∷ initiator 7 flag ∷ port 7 flag
    ∷ patched 4 (7 ∷ []) (patched 12 (flag ∷ []) (entry 7 20)) ∷ []

-- a node without private resources, and a cache of 28 bytes with a Cache ID
abbrev pub node : ℕ → List ℕ
node flags = 0 ∷ 20 ∷ 0 ∷ 0 ∷ flags ∷ replicate 15 0

-- one with a Parent and an ID
abbrev pub child : ℕ → ℕ → ℕ → List ℕ
child flags parent id = 0 ∷ 20 ∷ 0 ∷ 0 ∷ flags ∷ 0 ∷ 0 ∷ 0 ∷ parent ∷ 0 ∷ 0 ∷ 0 ∷ id ∷ replicate 7 0

abbrev pub cache : ℕ → ℕ → ℕ → List ℕ
cache flags id line = 1 ∷ 28 ∷ 0 ∷ 0 ∷ flags ∷ replicate 17 0 ++ line ∷ 0 ∷ id ∷ replicate 3 0

-- one of 24 bytes with a Size, a Number of Sets, an Associativity and a Line Size
abbrev pub sized_cache : ℕ → ℕ → ℕ → ℕ → ℕ → List ℕ
sized_cache flags size sets ways line =
    1 ∷ 24 ∷ 0 ∷ 0 ∷ flags ∷ replicate 7 0 ++ size ∷ 0 ∷ 0 ∷ 0 ∷ sets ∷ 0 ∷ 0 ∷ 0 ∷ ways ∷ 0 ∷ line ∷ 0 ∷ []

-- ---- further tables

-- a table of this Revision and this Length, 0 behind them
abbrev pub sized : ℕ → ℕ → List ℕ
sized revision size = patched 4 (number_bytes 4 size ++ revision ∷ []) (replicate size 0)

-- an entry of an MCFG, with a base address, a segment, and the first and the last bus, and an MCFG with such entries
abbrev pub ecam : ℕ → ℕ → ℕ → ℕ → List ℕ
ecam base segment first last = number_bytes 8 base ++ segment ∷ 0 ∷ first ∷ last ∷ replicate 4 0

abbrev pub mcfg : ℕ → List (List ℕ) → List ℕ
mcfg revision entries = patched 8 (revision ∷ []) (replicate 44 0) ++ joined entries

-- one with a single entry, of segment 0
abbrev pub one_ecam : ℕ → ℕ → ℕ → ℕ → List ℕ
one_ecam revision base first last = mcfg revision (ecam base 0 first last ∷ [])

-- an HPET with an address space and a base address
abbrev pub hpet : ℕ → ℕ → List ℕ
hpet space address = patched 40 (space ∷ 0 ∷ 0 ∷ 0 ∷ number_bytes 8 address) (sized 1 56)

-- an SPCR with these bytes, and one with a base address, an interrupt type and a GSI
abbrev pub spcr : ℕ → ℕ → List (ℕ × ℕ) → List ℕ
spcr revision size bytes = set_bytes bytes (sized revision size)

abbrev pub console : ℕ → ℕ → List ℕ
console kind gsi = patched 44 (1 ∷ replicate 7 0 ++ kind ∷ 0 ∷ number_bytes 4 gsi) (sized 4 88)

-- an HMAT of this Revision with these structures
abbrev pub hmat : ℕ → List (List ℕ) → List ℕ
hmat revision structures = patched 8 (revision ∷ []) (replicate 40 0) ++ joined structures

-- one of this type and length, and 8 bytes or more, with these bytes
abbrev pub structure : ℕ → ℕ → List (ℕ × ℕ) → List ℕ
structure kind size bytes = set_bytes bytes (kind ∷ 0 ∷ 0 ∷ 0 ∷ number_bytes 4 size ++ replicate (size - 8) 0)

-- attributes of memory: flags, the initiator's domain, and its own
abbrev pub attributes : ℕ → ℕ → ℕ → List ℕ
attributes flags by own = structure 0 40 ((8, flags) ∷ (12, by) ∷ (16, own) ∷ [])

-- latencies in units of 1: the domains of the initiators and of the targets, and the bytes of the numbers
abbrev pub locality : List ℕ → List ℕ → List ℕ → List ℕ
locality initiators targets cells =
    let lists = joined (map (number_bytes 4) (initiators ++ targets)) ++ cells in
    structure 1 32 ((4, 32 + length lists) ∷ (12, length initiators) ∷ (16, length targets) ∷ (24, 1) ∷ []) ++ lists

-- an HMAT of this Revision with latencies of no domains, with these bytes
abbrev pub latencies : ℕ → List (ℕ × ℕ) → List ℕ
latencies revision bytes = hmat revision (structure 1 32 bytes ∷ [])

-- one with one initiator, in domain 7, one target, in domain 8, and this number, in these units
abbrev pub latency : ℕ → ℕ → List ℕ
latency unit cell = hmat 1 (patched 24 (number_bytes 8 unit) (locality (7 ∷ []) (8 ∷ []) (number_bytes 2 cell)) ∷ [])

-- one with a memory side cache, of domain 7, with these attributes, and this number of SMBIOS handles, of which it has none
abbrev pub side_cache : ℕ → ℕ → List ℕ
side_cache marks handles = hmat 1 (patched 24 (number_bytes 4 marks) (structure 2 32 ((8, 7) ∷ (30, handles) ∷ [])) ∷ [])

-- attributes of one that are wrong
abbrev pub odd_marks : List ℕ
odd_marks = 4 ∷ 0x10 ∷ 0x21 ∷ 0x32 ∷ 0x43 ∷ 0x300 ∷ 0x3000 ∷ []

-- SRATs with memory in this domain, those with an entry of any kind in domain 7, whether it is enabled or not, and some with an
-- entry that is not read
abbrev pub memory_in : ℕ → List ℕ
memory_in domain = srat 2 (memory domain 0 0 0 ∷ [])

abbrev pub srats_of_seven : List (List ℕ)
srats_of_seven = map (λ e. srat 2 (e ∷ [])) (its_in_seven ∷ others_in_seven 0)

abbrev pub unread_srats : List (List ℕ)
unread_srats = map (λ e. srat 2 (e ∷ [])) (entry 8 2 ∷ entry 0 15 ∷ entry 3 17 ∷ (0 ∷ []) ∷ [])

-- the Revisions of a GTDT, and how many bytes each needs
abbrev pub gtdt_sizes : List (ℕ × ℕ)
gtdt_sizes = (0, 80) ∷ (1, 80) ∷ (2, 96) ∷ (3, 104) ∷ (4, 104) ∷ []

-- a GTDT with these bytes, and one with these platform timers, from 104 on
abbrev pub gtdt : ℕ → ℕ → List (ℕ × ℕ) → List ℕ
gtdt revision size bytes = set_bytes bytes (sized revision size)

abbrev pub timed : List (List ℕ) → List ℕ
timed timers = gtdt 3 104 ((88, length timers) ∷ (92, 104) ∷ []) ++ joined timers

-- a platform timer of this type and length with these bytes
abbrev pub timer : ℕ → ℕ → List (ℕ × ℕ) → List ℕ
timer kind size bytes = set_bytes bytes (kind ∷ number_bytes 2 size ++ replicate (size - 3) 0)

-- a watchdog: its two addresses and its GSIV
abbrev pub watchdog : ℕ → ℕ → ℕ → List ℕ
watchdog refresh control gsiv =
    1 ∷ 28 ∷ 0 ∷ 0 ∷ number_bytes 8 refresh ++ number_bytes 8 control ++ number_bytes 4 gsiv ++ replicate 4 0

-- a GT Block with these frames, and one with a byte behind them
abbrev pub block : List (List ℕ) → List ℕ
block frames =
    0 ∷ number_bytes 2 (20 + 40 * length frames) ++ replicate 9 0 ++ length frames ∷ 0 ∷ 0 ∷ 0 ∷ 20 ∷ 0 ∷ 0 ∷ 0 ∷ joined frames

abbrev pub loose_block : List (List ℕ) → List ℕ
loose_block frames = patched 1 (number_bytes 2 (21 + 40 * length frames)) (block frames) ++ 0 ∷ []

-- a frame: its number, the first of its addresses, and the GSIVs of its physical and of its virtual timer
abbrev pub frame : ℕ → ℕ → ℕ → ℕ → List ℕ
frame number base physical virtual =
    number ∷ 0 ∷ 0 ∷ 0 ∷ number_bytes 8 base ++ zeros ++ number_bytes 4 physical ++ replicate 4 0 ++ number_bytes 4 virtual ++ zeros

-- a DMAR with this Host Address Width and these flags (Intel VT-d specification, 8.1), and one without flags
abbrev pub dmar_of : ℕ → ℕ → List (List ℕ) → List ℕ
dmar_of width flags structures =
    patched 4 (number_bytes 4 (48 + length (joined structures))) (patched 36 (width ∷ flags ∷ []) (replicate 48 0))
    ++ joined structures

abbrev pub dmar : List (List ℕ) → List ℕ
dmar = dmar_of 38 0

-- a structure of this type with these bytes at these offsets, and behind its fields these device scopes
abbrev pub remapping : ℕ → ℕ → List (ℕ × ℕ) → List (List ℕ) → List ℕ
remapping kind size bytes scopes =
    set_bytes bytes (kind ∷ 0 ∷ (size + length (joined scopes)) ∷ 0 ∷ replicate (size - 4) 0) ++ joined scopes

-- a DRHD (8.3) whose registers begin at 0x1000 times a number
abbrev pub drhd : ℕ → ℕ → ℕ → List (List ℕ) → List ℕ
drhd flags segment page scopes = remapping 0 16 ((4, flags) ∷ (6, segment) ∷ (9, 16 * page) ∷ []) scopes

abbrev pub scoped : List (List ℕ) → List ℕ
scoped = drhd 0 0 1

-- a DRHD with these registers and this size
abbrev pub sized_drhd : ℕ → ℕ → List ℕ
sized_drhd base size = patched 8 (number_bytes 8 base) (remapping 0 16 ((5, size) ∷ []) [])

abbrev pub atsr : ℕ → ℕ → List (List ℕ) → List ℕ
atsr flags segment scopes = remapping 2 8 ((4, flags) ∷ (6, segment) ∷ []) scopes

abbrev pub rmrr : ℕ → ℕ → List (List ℕ) → List ℕ
rmrr base limit scopes =
    patched 8 (number_bytes 8 base ++ number_bytes 8 limit) (remapping 1 24 [] scopes)

abbrev pub rhsa : ℕ → ℕ → List ℕ
rhsa page domain = remapping 3 20 ((9, 16 * page) ∷ (16, domain) ∷ []) []

abbrev pub andd : ℕ → List ℕ → List ℕ
andd number name = remapping 4 8 ((7, number) ∷ []) (name ∷ [])

-- a device scope (8.3.1) with this Enumeration ID and this path
abbrev pub scope : ℕ → ℕ → List ℕ → List ℕ
scope kind id path = kind ∷ (6 + length path) ∷ 0 ∷ 0 ∷ id ∷ 0 ∷ path

abbrev pub device : List ℕ
device = scope 1 0 (31 ∷ 7 ∷ [])

-- structures that keep a DMAR from being well-formed: bytes that are none, one that is too short, and a DRHD with bytes that are
-- no device scope
abbrev pub unread_structures : List (List ℕ)
unread_structures = (9 ∷ []) ∷ remapping 3 19 [] [] ∷ scoped ((9 ∷ []) ∷ []) ∷ []

-- the sizes of a DRHD's registers, of which 4096 bytes are the least, as powers of two
abbrev pub sizes_of_registers : List ℕ
sizes_of_registers = 0 ∷ 1 ∷ 2 ∷ 3 ∷ 4 ∷ 5 ∷ 6 ∷ 7 ∷ 8 ∷ 9 ∷ 10 ∷ 11 ∷ 12 ∷ 13 ∷ 14 ∷ 15 ∷ []

-- a DMAR of these structures keeps the rule
abbrev pub keeps_alone : Rule → List (List ℕ) → Example
keeps_alone r structures = keeps r (dmar structures) []

-- the least length of each type
abbrev pub least_remappings : List (ℕ × ℕ)
least_remappings = (0, 16) ∷ (1, 24) ∷ (2, 8) ∷ (3, 20) ∷ (4, 9) ∷ (5, 8) ∷ (6, 8) ∷ []

-- an IVRS (AMD 48882, 5.2.1)
abbrev pub ivrs : List (List ℕ) → List ℕ
ivrs blocks = patched 4 (number_bytes 4 (48 + length (joined blocks))) (replicate 48 0) ++ joined blocks

-- a block of this type with these bytes at these offsets, and behind its fields these device entries
abbrev pub ivrs_block : ℕ → ℕ → List (ℕ × ℕ) → List (List ℕ) → List ℕ
ivrs_block kind size bytes entries =
    set_bytes bytes (kind ∷ 0 ∷ (size + length (joined entries)) ∷ 0 ∷ replicate (size - 4) 0) ++ joined entries

-- an IVHD of type 0x10, and one of type 0x11 or 0x40 (5.2.2), with these DeviceID and segment, and registers at 0x1000 times a number
abbrev pub ivhd_10 : ℕ → ℕ → ℕ → List (List ℕ) → List ℕ
ivhd_10 id segment page entries = ivrs_block 0x10 24 ((4, id) ∷ (9, 16 * page) ∷ (16, segment) ∷ []) entries

abbrev pub ivhd : ℕ → ℕ → ℕ → ℕ → List (List ℕ) → List ℕ
ivhd kind id segment page entries = ivrs_block kind 40 ((4, id) ∷ (9, 16 * page) ∷ (16, segment) ∷ []) entries

abbrev pub entries_in : List (List ℕ) → List ℕ
entries_in entries = ivrs (ivhd_10 0 0 4 entries ∷ [])

-- an IVMD (5.2.3)
abbrev pub ivmd : ℕ → ℕ → ℕ → ℕ → List ℕ
ivmd kind flags start size =
    patched 16 (number_bytes 8 start ++ number_bytes 8 size) (ivrs_block kind 32 ((1, flags) ∷ (6, 5) ∷ []) [])

-- device entries of 4 and of 8 bytes, a special device, and an ACPI HID device
abbrev pub entry_4 : ℕ → ℕ → List ℕ
entry_4 kind id = kind ∷ id ∷ 0 ∷ 0 ∷ []

abbrev pub entry_8 : ℕ → ℕ → List ℕ
entry_8 kind id = kind ∷ id ∷ replicate 6 0

abbrev pub special : ℕ → ℕ → List ℕ
special handle variety = 0x48 ∷ 0 ∷ 0 ∷ 0 ∷ handle ∷ 0 ∷ 0 ∷ variety ∷ []

abbrev pub hid_device : ℕ → ℕ → ℕ → List ℕ
hid_device id format size = 0xf0 ∷ 0 ∷ 0 ∷ 0 ∷ id ∷ replicate 15 0 ++ format ∷ size ∷ replicate size 0

abbrev pub least_blocks : List (ℕ × ℕ)
least_blocks = (0x10, 24) ∷ (0x11, 40) ∷ (0x40, 40) ∷ (0x20, 32) ∷ (0x21, 32) ∷ (0x22, 32) ∷ (0x23, 32) ∷ []

-- numbers next to those of PPIs, and of SPIs
abbrev pub no_ppis : List ℕ
no_ppis = 1 ∷ 15 ∷ 32 ∷ 1055 ∷ 1120 ∷ []

abbrev pub no_spis : List ℕ
no_spis = 1 ∷ 31 ∷ 1020 ∷ 4095 ∷ 5120 ∷ []

-- a MADT with a GIC Distributor, and some without one, or with one and an entry that is not read
abbrev pub with_gic : List ℕ
with_gic = madt (gicd 3 ∷ [])

abbrev pub without_gic : List (List ℕ)
without_gic = madt (local_apic 3 5 1 ∷ []) ∷ madt (gicd 3 ∷ entry 0 7 ∷ []) ∷ madt (gicd 3 ∷ (0 ∷ []) ∷ []) ∷ []

-- ---- the rules, by the tables of their rows

-- the MADT (5.2.12)
abbrev pub madt_examples : List Example
madt_examples =
    breaks rule.SameUid (madt (local_apic 3 5 1 ∷ local_apic 3 6 1 ∷ [])) [] 52 44 3
    ∷ keeps rule.SameUid (madt (local_apic 3 5 1 ∷ local_apic 3 6 0 ∷ [])) []
    ∷ breaks rule.SameApicId (madt (local_apic 3 5 1 ∷ local_apic 4 5 2 ∷ [])) [] 52 44 5
    ∷ keeps rule.SameApicId (madt (local_apic 3 5 1 ∷ local_apic 4 5 0 ∷ [])) []
    ∷ edge rule.IoApicAtZero (madt (io_apic 7 0 ∷ [])) (44, 0, 0) (madt (io_apic 7 1 ∷ []))
    ++ edge rule.SameIoApicId (madt (io_apic 7 1 ∷ io_apic 7 2 ∷ [])) (56, 44, 7) (madt (io_apic 7 1 ∷ io_apic 8 2 ∷ []))
    ++ edge rule.SameIoApicAddress (madt (io_apic 7 1 ∷ io_apic 8 1 ∷ [])) (56, 44, 1) (madt (io_apic 7 0 ∷ io_apic 8 0 ∷ []))
    ++ edge rule.NmiNowhere (madt (local_apic 3 5 0 ∷ nmi 4 1 ∷ [])) (52, 0, 4) (madt (local_apic 3 5 0 ∷ nmi 255 1 ∷ []))
    ++ edge rule.NoProcessor (madt (local_apic 3 5 0 ∷ [])) (0, 0, 0) (madt (local_apic 3 5 2 ∷ []))
    ++ edge rule.MadtUnread (madt ((16 ∷ 4 ∷ 0 ∷ 0 ∷ []) ∷ [])) (44, 16, 0) (madt (gicd 3 ∷ []))
    ++ breaks rule.X2ApicBelow255 (madt (local_apic 3 5 1 ∷ x2apic 254 1 4 ∷ [])) [] 52 0 254
    ∷ keeps rule.X2ApicBelow255 (madt (local_apic 3 5 1 ∷ x2apic 255 1 4 ∷ [])) []
    ∷ edge rule.BroadcastId (madt (local_apic 3 255 1 ∷ [])) (44, 0, 255) (madt (local_apic 3 254 1 ∷ []))
    ++ edge rule.EnabledAndCapable (madt (local_apic 3 5 3 ∷ [])) (44, 0, 3) (madt (local_apic 3 5 2 ∷ []))
    ++ edge rule.TimerLevel (madt (override 0 2 13 ∷ [])) (44, 0, 13) (madt (override 0 2 5 ∷ []))
    ++ breaks rule.TwoSourcesOneGsi (madt (override 0 2 0 ∷ override 1 2 0 ∷ [])) [] 54 44 2
    ∷ keeps rule.TwoSourcesOneGsi (madt (override 0 2 0 ∷ override 0 2 0 ∷ [])) []
    ∷ edge rule.LintNotOne (madt (nmi 255 0 ∷ [])) (44, 0, 0) (madt (nmi 255 1 ∷ []))
    ++ breaks rule.NoIoApic (madt (local_apic 3 5 1 ∷ override 0 2 0 ∷ [])) [] 0 0 0
    ∷ keeps rule.NoIoApic (madt (local_apic 3 5 1 ∷ override 0 2 0 ∷ io_apic 7 1 ∷ [])) []
    ∷ edge rule.SameHart (madt (rintc 1 5 1 ∷ rintc 2 5 2 ∷ [])) (64, 44, 5) (madt (rintc 1 5 1 ∷ rintc 0 5 2 ∷ []))
    ++ edge rule.MadtReserved (patched 40 (2 ∷ []) (madt [])) (40, 0, 2) (patched 40 (1 ∷ []) (madt []))
    ++ edge rule.MadtReserved (madt (local_apic 3 5 4 ∷ [])) (44, 4, 0) (madt (local_apic 3 5 3 ∷ []))
    ++ map (λ (e : ℕ × ℕ). breaks rule.MadtUnread (madt (entry e.0 e.1 ∷ [])) [] 44 e.0 0)
    ((6, 4) ∷ (8, 4) ∷ (11, 39) ∷ (12, 25) ∷ (13, 23) ∷ (14, 15) ∷ (15, 21) ∷ (17, 14) ∷ (24, 19) ∷ (28, 4) ∷ (255, 2)
    ∷ (16, 15) ∷ (16, 20) ∷ (16, 28) ∷ (18, 22) ∷ (18, 24) ∷ (19, 20) ∷ (19, 22) ∷ (20, 12) ∷ (20, 14) ∷ (21, 18) ∷ (21, 20)
    ∷ (22, 16) ∷ (22, 18) ∷ (23, 13) ∷ (23, 15) ∷ (25, 15) ∷ (25, 17) ∷ (26, 35) ∷ (26, 37) ∷ (27, 35) ∷ (27, 37) ∷ [])
    ++ keeps rule.MadtUnread (madt (entry 16 16 ∷ entry 16 24 ∷ [])) []
    ∷ keeps rule.MadtUnread pics []
    ∷ []

-- the MADT, further: a wakeup structure, those of LoongArch and RISC-V, and what is reserved (5.2.12.8, 5.2.12.14 to 5.2.12.26)
abbrev pub madt_further_examples : List Example
madt_further_examples =
    map (breaks_at rule.PicVersion pics)
    ((44, 2, 0) ∷ (59, 2, 2) ∷ (82, 2, 2) ∷ (103, 2, 2) ∷ (116, 2, 2) ∷ (135, 2, 2) ∷ (152, 2, 2) ∷ (166, 2, 2) ∷ (186, 2, 2)
    ∷ (202, 2, 2) ∷ (238, 2, 2) ∷ [])
    ++ keeps rule.PicVersion pics []
    ∷ keeps rule.PicVersion (madt (entry 16 16 ∷ entry 18 22 ∷ entry 28 4 ∷ [])) []
    ∷ map (breaks_at rule.FurtherReserved flagged)
    ((44, 2, 1) ∷ (44, 3, 1) ∷ (44, 12, 32) ∷ (44, 77, 1) ∷ (122, 2, 1) ∷ (122, 3, 1) ∷ (122, 21, 1) ∷ (122, 22, 1) ∷ (122, 23, 1)
    ∷ (146, 2, 1) ∷ (146, 3, 1) ∷ (146, 16, 2) ∷ (170, 2, 2) ∷ (170, 3, 1) ∷ (186, 2, 2) ∷ (186, 3, 1) ∷ (186, 16, 1) ∷ (186, 17, 1)
    ∷ (186, 18, 1) ∷ (186, 19, 1) ∷ (206, 11, 2) ∷ (221, 3, 1) ∷ (221, 4, 4) ∷ (241, 3, 1) ∷ (241, 4, 1) ∷ [])
    ++ edge rule.FurtherReserved (patched 59 (1 ∷ []) flagged) (44, 12, 0x100001f) flagged
    ++ keeps rule.FurtherReserved (madt (patched 2 (1 ∷ []) (entry 12 25) ∷ [])) []
    ∷ breaks rule.HartInvalid (madt (patched 8 (replicate 8 255) (rintc 1 0 1) ∷ [])) [] 44 8 0xffffffffffffffff
    ∷ breaks rule.HartInvalid (madt (patched 8 (replicate 8 255) (rintc 2 0 1) ∷ [])) [] 44 8 0xffffffffffffffff
    ∷ keeps rule.HartInvalid (madt (patched 8 (254 ∷ replicate 7 255) (rintc 1 0 1) ∷ [])) []
    ∷ keeps rule.HartInvalid (madt (patched 8 (replicate 8 255) (rintc 0 0 1) ∷ [])) []
    ∷ map (λ (w : List ℕ × ℕ × ℕ). breaks rule.WakeupMailbox (madt (w.0 ∷ [])) [] 44 w.1 w.2)
    ((entry 16 3, 16, 3) ∷ (entry 16 12, 16, 12) ∷ (wakeup 24 0 0 16, 16, 24) ∷ (wakeup 16 1 0 16, 24, 16)
    ∷ (wakeup 24 2 0 16, 2, 2) ∷ (wakeup 16 0 1 0, 4, 1) ∷ (wakeup 16 0 0 0, 8, 0) ∷ [])
    ++ edge rule.WakeupMailbox (madt (wakeup 24 1 0 8 ∷ [])) (44, 8, 2048) (madt (wakeup 16 0 0 16 ∷ wakeup 24 1 0 16 ∷ []))
    ++ edge rule.LapicAtZero (madt (entry 5 12 ∷ [])) (44, 4, 0) (madt (patched 11 (1 ∷ []) (entry 5 12) ∷ entry 5 13 ∷ []))
    ++ map (λ kind. breaks rule.MadtRevision (patched 8 (2 ∷ []) (madt (entry kind 2 ∷ []))) [] 8 0 2) (9 ∷ 15 ∷ [])
    ++ keeps rule.MadtRevision (patched 8 (3 ∷ []) (madt (entry 9 2 ∷ entry 15 2 ∷ []))) []
    ∷ keeps rule.MadtRevision (patched 8 (2 ∷ []) (madt (entry 8 2 ∷ entry 16 2 ∷ []))) []
    ∷ map (λ kind. breaks rule.MadtRevision (patched 8 (5 ∷ []) (madt (entry kind 2 ∷ []))) [] 8 0 5) (24 ∷ 27 ∷ [])
    ++ keeps rule.MadtRevision (patched 8 (6 ∷ []) (madt (entry 24 2 ∷ entry 27 2 ∷ []))) []
    ∷ keeps rule.MadtRevision (patched 8 (5 ∷ []) (madt (entry 23 2 ∷ entry 28 2 ∷ []))) []
    ∷ []

-- the parts of a GIC (5.2.12.14 to 5.2.12.18)
abbrev pub gic_examples : List Example
gic_examples =
    edge rule.SecondGicd (madt (gicd 3 ∷ gicd 3 ∷ [])) (68, 44, 0) (madt (gicd 3 ∷ []))
    ++ edge rule.NoDistributor (madt (gicc 0 1 zeros ∷ [])) (0, 0, 0) (madt (gicc 0 1 zeros ∷ gicd 3 ∷ []))
    ++ breaks rule.SameMpidr (madt (gicc 0 1 (byte 0 5) ∷ gicc 1 1 (byte 0 5) ∷ [])) [] 120 44 5
    ∷ keeps rule.SameMpidr (madt (gicc 0 1 (byte 0 5) ∷ gicc 1 1 (byte 0 6) ∷ [])) []
    ∷ edge rule.MpidrReserved (madt (gicc 0 1 (byte 3 1) ∷ [])) (44, 0, 16777216) (madt (gicc 0 1 (byte 4 1) ∷ []))
    ++ edge rule.GicrEmpty (madt (gicr 5 0 ∷ [])) (44, 0, 5) (madt (gicr 5 1 ∷ []))
    ++ edge rule.NoRedistributor (madt (gicd 3 ∷ interface 0 0 0 ∷ [])) (44, 3, 0) (madt (gicd 2 ∷ gicd 3 ∷ interface 0 0 0 ∷ []))
    ++ keeps rule.NoRedistributor (madt (gicd 4 ∷ interface 0 0 1 ∷ [])) []
    ∷ breaks rule.GiccBaseDiffers (madt (gicd 2 ∷ interface 0 1 0 ∷ interface 0 2 0 ∷ [])) [] 144 68 2
    ∷ keeps rule.GiccBaseDiffers (madt (gicd 2 ∷ interface 0 1 0 ∷ interface 0 1 0 ∷ [])) []
    ∷ keeps rule.GiccBaseDiffers (madt (gicd 3 ∷ interface 0 1 0 ∷ interface 0 2 0 ∷ [])) []
    ∷ edge rule.RedistributorTwice (madt (interface 0 0 5 ∷ gicr 1 1 ∷ [])) (44, 120, 5) (madt (interface 0 0 0 ∷ gicr 1 1 ∷ []))
    ++ edge rule.SameIts (madt (its 5 ∷ its 5 ∷ [])) (64, 44, 5) (madt (its 5 ∷ its 6 ∷ []))
    ++ edge rule.SameMsiFrame (madt (msi_frame 5 ∷ msi_frame 5 ∷ [])) (68, 44, 5) (madt (msi_frame 5 ∷ msi_frame 6 ∷ []))
    ++ edge rule.GicOverlap (madt (its_at 0xffff ∷ gicd 3 ∷ [])) (64, 44, 0xffff) (madt (its_at 0x10000 ∷ gicd 4 ∷ []))
    ++ edge rule.GicOverlap (madt (its_at 0xfff ∷ gicd 2 ∷ [])) (64, 44, 0xfff) (madt (its_at 0x1000 ∷ gicd 2 ∷ gicr 0 0 ∷ []))
    ++ breaks rule.GicOverlap (madt (its_at 0x40000 ∷ its_at 0x5ffff ∷ [])) [] 44 64 0x5ffff
    ∷ keeps rule.GicOverlap (madt (its_at 0x40000 ∷ its_at 0x60000 ∷ [])) []
    ∷ edge rule.GicOverlap (madt (its_at 0xfff ∷ msi_frame 5 ∷ [])) (64, 44, 0xfff) (madt (its_at 0x1000 ∷ msi_frame 5 ∷ []))
    ++ breaks rule.GicOverlap (madt (gicr 1 5 ∷ msi_frame 5 ∷ [])) [] 60 44 1
    ∷ edge rule.GiccShort (madt (entry 11 75 ∷ [])) (44, 76, 75) (madt (entry 11 76 ∷ []))
    ++ keeps rule.GiccShort (madt (entry 11 39 ∷ [])) []
    ∷ breaks rule.GiccNoGicr (madt (gicd 3 ∷ patched 12 (8 ∷ []) (interface 0 0 5) ∷ interface 0 0 0 ∷ [])) [] 144 60 0
    ∷ breaks rule.GiccNoGicr (madt (gicd 4 ∷ interface 0 0 0 ∷ interface 0 0 5 ∷ [])) [] 68 60 0
    ∷ keeps rule.GiccNoGicr (madt (gicd 3 ∷ interface 0 0 5 ∷ gicc 1 8 zeros ∷ [])) []
    ∷ keeps rule.GiccNoGicr (madt (gicd 3 ∷ patched 12 (0 ∷ []) (interface 0 0 5) ∷ interface 0 0 0 ∷ [])) []
    ∷ keeps rule.GiccNoGicr (madt (gicd 2 ∷ gicd 3 ∷ interface 0 0 5 ∷ interface 0 0 0 ∷ [])) []
    ∷ keeps rule.GiccNoGicr (madt (gicd 3 ∷ interface 0 0 5 ∷ interface 0 0 0 ∷ entry 14 2 ∷ [])) []
    ∷ keeps rule.GiccNoGicr (madt (gicd 3 ∷ interface 0 0 5 ∷ interface 0 0 0 ∷ (0 ∷ []) ∷ [])) []
    ∷ breaks rule.CapableNoGicr (madt (gicd 3 ∷ gicc 1 24 zeros ∷ [])) [] 68 12 24
    ∷ edge rule.CapableNoGicr (madt (gicd 4 ∷ gicc 1 8 zeros ∷ [])) (68, 12, 8) (madt (gicd 4 ∷ gicc 1 9 zeros ∷ []))
    ++ keeps rule.CapableNoGicr (madt (gicd 2 ∷ gicc 1 8 zeros ∷ [])) []
    ∷ keeps rule.CapableNoGicr (madt (gicd 3 ∷ gicc 1 8 zeros ∷ entry 14 2 ∷ [])) []
    ∷ keeps rule.CapableNoGicr (madt (gicd 3 ∷ gicc 1 8 zeros ∷ entry 0 7 ∷ [])) []
    ∷ map (λ at. breaks rule.GiccDiffers (madt (gicc 0 1 zeros ∷ patched at (7 ∷ []) (gicc 1 8 zeros) ∷ [])) [] 120 at 7)
    (40 ∷ 48 ∷ 56 ∷ [])
    ++ breaks rule.GiccDiffers (madt (gicc 0 1 zeros ∷ patched 40 (7 ∷ []) (gicc 1 5 zeros) ∷ [])) [] 120 12 5
    ∷ breaks rule.GiccDiffers (madt (gicc 0 5 zeros ∷ gicc 1 8 zeros ∷ [])) [] 120 12 8
    ∷ breaks rule.GiccDiffers
    (madt (gicc 0 1 zeros ∷ patched 59 (1 ∷ []) (patched 12 (1 ∷ []) (entry 11 60)) ∷ [])) [] 120 56 0x1000000
    ∷ keeps rule.GiccDiffers (madt (gicc 0 1 zeros ∷ patched 40 (7 ∷ []) (patched 12 (5 ∷ []) (entry 11 59)) ∷ [])) []
    ∷ keeps rule.GiccDiffers (madt (patched 40 (7 ∷ []) (gicc 0 0 zeros) ∷ gicc 1 1 zeros ∷ gicc 2 4 zeros ∷ [])) []
    ∷ keeps rule.GiccDiffers (madt (gicc 0 5 zeros ∷ patched 32 (7 ∷ []) (gicc 1 13 (byte 0 5)) ∷ [])) []
    ∷ breaks rule.SameGicrBase (madt (gicd 3 ∷ interface 0 0 5 ∷ interface 0 0 5 ∷ [])) [] 144 68 5
    ∷ breaks rule.SameGicrBase (madt (gicd 4 ∷ interface 0 0 5 ∷ interface 0 0 6 ∷ interface 0 0 5 ∷ [])) [] 220 68 5
    ∷ keeps rule.SameGicrBase (madt (gicd 3 ∷ interface 0 0 5 ∷ patched 12 (8 ∷ []) (interface 0 0 5) ∷ [])) []
    ∷ keeps rule.SameGicrBase (madt (gicd 3 ∷ interface 0 0 0 ∷ interface 0 0 0 ∷ [])) []
    ∷ keeps rule.SameGicrBase (madt (gicd 2 ∷ interface 0 0 5 ∷ interface 0 0 5 ∷ [])) []
    ∷ edge rule.ParkingVersion (madt (interface 2 0 0 ∷ [])) (44, 16, 2) (madt (interface 1 0 0 ∷ []))
    ++ map (λ n. breaks rule.GiccNoPpi (madt (patched 78 (number_bytes 2 n) (entry 11 80) ∷ [])) [] 44 78 n) no_ppis
    ++ map (λ n. breaks rule.GiccNoPpi (madt (patched 80 (number_bytes 2 n) (entry 11 82) ∷ [])) [] 44 80 n) no_ppis
    ++ map (λ n. keeps rule.GiccNoPpi (madt (patched 78 (number_bytes 2 n ++ number_bytes 2 n) (entry 11 82) ∷ [])) [])
    (16 ∷ 31 ∷ 1056 ∷ 1119 ∷ [])
    ++ keeps rule.GiccNoPpi (madt (patched 78 (15 ∷ []) (entry 11 79) ∷ [])) []
    ∷ []

-- the MADT with the FADT
abbrev pub madt_with_fadt_examples : List Example
madt_with_fadt_examples =
    breaks rule.CapableTooEarly (madt (local_apic 3 5 2 ∷ [])) (patched 131 (2 ∷ []) (fadt 6 276)) 44 6 2
    ∷ keeps rule.CapableTooEarly (madt (local_apic 3 5 2 ∷ [])) (patched 131 (3 ∷ []) (fadt 6 276))
    ∷ breaks rule.OverridePastIsa (madt (override 16 20 0 ∷ [])) (patched 46 (9 ∷ []) (fadt 6 276)) 44 16 20
    ∷ keeps rule.OverridePastIsa (madt (override 16 20 0 ∷ [])) (patched 46 (16 ∷ []) (fadt 6 276))
    ∷ []

-- the FADT with the MADT (5.2.9, 5.2.12.14)
abbrev pub fadt_with_madt_examples : List Example
fadt_with_madt_examples =
    breaks rule.FadtForArch (reduced (fadt 5 276)) (madt (gicc 0 1 zeros ∷ [])) 8 5 0
    ∷ keeps rule.FadtForArch (reduced (patched 131 (1 ∷ []) (fadt 5 276))) (madt (gicc 0 1 zeros ∷ []))
    ∷ breaks rule.FadtForArch (fadt 6 276) (madt (rintc 1 5 1 ∷ [])) 112 0 0
    ∷ keeps rule.FadtForArch (reduced (fadt 6 276)) (madt (rintc 1 5 1 ∷ []))
    ∷ breaks rule.NoBootMethod (fadt 6 131) (madt (interface 0 0 0 ∷ interface 0 0 0 ∷ [])) 129 0 0
    ∷ keeps rule.NoBootMethod (fadt 6 131) (madt (interface 0 0 0 ∷ interface 1 0 0 ∷ []))
    ∷ keeps rule.NoBootMethod (fadt 6 131) (madt (interface 0 0 0 ∷ []))
    ∷ keeps rule.NoBootMethod (patched 129 (1 ∷ []) (fadt 6 131)) (madt (interface 0 0 0 ∷ interface 0 0 0 ∷ []))
    ∷ keeps rule.NoBootMethod (fadt 6 130) (madt (interface 0 0 0 ∷ interface 0 0 0 ∷ []))
    ∷ breaks rule.FadtForRiscv (patched 131 (0xf5 ∷ []) (fadt 6 276)) (madt (rintc 1 5 1 ∷ [])) 8 6 5
    ∷ keeps rule.FadtForRiscv (patched 131 (6 ∷ []) (fadt 6 276)) (madt (rintc 1 5 1 ∷ []))
    ∷ breaks rule.FadtForRiscv (fadt 6 131) (madt (entry 24 2 ∷ [])) 8 6 0
    ∷ keeps rule.FadtForRiscv (fadt 7 131) (madt (rintc 1 5 1 ∷ []))
    ∷ keeps rule.FadtForRiscv (fadt 6 276) (madt (gicc 0 1 zeros ∷ []))
    ∷ []

-- the MADT with the SRAT
abbrev pub madt_with_srat_examples : List Example
madt_with_srat_examples =
    breaks rule.NoDomain (madt (local_apic 3 5 1 ∷ [])) (srat 2 (apic_affinity 0 4 1 ∷ [])) 44 0 5
    ∷ keeps rule.NoDomain (madt (local_apic 3 5 1 ∷ [])) (srat 2 (apic_affinity 0 5 1 ∷ []))
    ∷ breaks rule.NoDomain (madt (gicc 3 1 zeros ∷ [])) (srat 2 (gicc_affinity 0 4 ∷ [])) 44 0 3
    ∷ keeps rule.NoDomain (madt (gicc 3 1 zeros ∷ [])) (srat 2 (gicc_affinity 0 3 ∷ []))
    ∷ []

-- the SRAT with the MADT
abbrev pub srat_with_madt_examples : List Example
srat_with_madt_examples =
    breaks rule.AffinityNowhere (srat 2 (apic_affinity 0 4 1 ∷ [])) (madt (local_apic 3 5 1 ∷ [])) 48 0 4
    ∷ keeps rule.AffinityNowhere (srat 2 (apic_affinity 0 5 1 ∷ [])) (madt (local_apic 3 5 1 ∷ []))
    ∷ breaks rule.AffinityNowhere (srat 2 (gicc_affinity 0 4 ∷ [])) (madt (gicc 3 1 zeros ∷ [])) 48 0 4
    ∷ keeps rule.AffinityNowhere (srat 2 (gicc_affinity 0 3 ∷ [])) (madt (gicc 3 1 zeros ∷ []))
    ∷ breaks rule.ItsNowhere (srat 2 (its_affinity 5 ∷ [])) (madt (its 6 ∷ [])) 48 0 5
    ∷ keeps rule.ItsNowhere (srat 2 (its_affinity 5 ∷ [])) (madt (its 5 ∷ []))
    ∷ []

-- the SRAT (5.2.16)
abbrev pub srat_examples : List Example
srat_examples =
    breaks rule.TwoUidDomains (srat 2 (gicc_affinity 1 3 ∷ gicc_affinity 2 3 ∷ [])) [] 48 66 3
    ∷ keeps rule.TwoUidDomains (srat 2 (gicc_affinity 1 3 ∷ gicc_affinity 1 3 ∷ [])) []
    ∷ edge rule.SratUnread (srat 2 ((8 ∷ 4 ∷ 0 ∷ 0 ∷ []) ∷ [])) (48, 8, 0) (srat 2 (its_affinity 5 ∷ []))
    ++ edge rule.NoMemoryRange (srat 2 (apic_affinity 0 4 1 ∷ [])) (0, 0, 0) (srat 2 (apic_affinity 0 4 1 ∷ memory 0 7 1 1 ∷ []))
    ++ edge rule.EmptyRange (srat 2 (memory 0 7 0 1 ∷ [])) (48, 0, 7) (srat 2 (memory 0 7 0 0 ∷ []))
    ++ edge rule.InitiatorOff (srat 2 (initiator 3 0 ∷ [])) (48, 0, 3) (srat 2 (initiator 3 1 ∷ []))
    ++ edge rule.DomainPastRevision (srat 1 (memory 256 7 1 1 ∷ [])) (48, 1, 256) (srat 1 (memory 255 7 1 1 ∷ []))
    ++ edge rule.DomainPastRevision (srat 1 (apic_affinity 1 4 1 ∷ [])) (48, 1, 256) (srat 2 (apic_affinity 1 4 1 ∷ []))
    ++ edge rule.SratReserved (patched 36 (2 ∷ []) (srat 2 [])) (36, 0, 2) (srat 2 [])
    ++ edge rule.SratReserved (srat 2 (apic_affinity 0 4 2 ∷ [])) (48, 4, 0) (srat 2 (apic_affinity 0 4 1 ∷ []))
    ++ map (breaks_at rule.AffinityReserved affinities)
    ((48, 10, 2) ∷ (66, 6, 1) ∷ (66, 7, 1) ∷ (78, 2, 1) ∷ (78, 24, 4) ∷ (78, 28, 1) ∷ (78, 29, 1) ∷ (78, 30, 1) ∷ (78, 31, 1)
    ∷ (110, 2, 1) ∷ (110, 24, 4) ∷ (110, 28, 1) ∷ (110, 29, 1) ∷ (110, 30, 1) ∷ (110, 31, 1) ∷ (142, 2, 1) ∷ (142, 3, 1)
    ∷ (142, 12, 2) ∷ [])
    ++ keeps rule.AffinityReserved affinities []
    ∷ map (breaks_at rule.DeviceHandle affinities) ((78, 3, 2) ∷ (110, 3, 2) ∷ [])
    ++ keeps rule.DeviceHandle (patched 81 (1 ∷ []) (patched 113 (1 ∷ []) affinities)) []
    ∷ breaks rule.ItsDomain (srat 2 (its_in_seven ∷ others_in_seven 0)) [] 48 2 7
    ∷ map (λ e. keeps rule.ItsDomain (srat 2 (its_in_seven ∷ e ∷ [])) []) (others_in_seven 1)
    ++ map (λ e. keeps rule.ItsDomain (srat 2 (its_in_seven ∷ e ∷ [])) []) (entry 8 2 ∷ entry 0 15 ∷ (0 ∷ []) ∷ [])
    ++ breaks rule.ItsDomain (srat 2 (apic_affinity 1 4 1 ∷ its_affinity 5 ∷ [])) [] 64 2 0
    ∷ keeps rule.ItsDomain (srat 2 (apic_affinity 1 4 1 ∷ patched 3 (1 ∷ []) (its_affinity 5) ∷ [])) []
    ∷ []

-- the SRAT with the SLIT (5.2.17)
abbrev pub srat_with_slit_examples : List Example
srat_with_slit_examples =
    breaks rule.DomainPastSlit (srat 2 (initiator 2 1 ∷ [])) (slit 2) 48 2 2
    ∷ keeps rule.DomainPastSlit (srat 2 (initiator 1 1 ∷ [])) (slit 2)
    ∷ breaks rule.DomainPastSlit (srat 2 (apic_affinity 1 4 1 ∷ [])) (slit 1) 48 1 256
    ∷ keeps rule.DomainPastSlit (srat 2 (initiator 2 1 ∷ [])) (take 47 (slit 2))
    ∷ []

-- the MADT with the PPTT (5.2.30.1)
abbrev pub madt_with_pptt_examples : List Example
madt_with_pptt_examples =
    breaks rule.NoLeaf (madt (local_apic 3 5 2 ∷ [])) (pptt 2 (child 10 0 7 ∷ [])) 44 0 3
    ∷ keeps rule.NoLeaf (madt (local_apic 3 5 2 ∷ [])) (pptt 2 (child 10 0 3 ∷ []))
    ∷ breaks rule.NoLeaf (madt (local_apic 3 5 2 ∷ [])) (pptt 1 (child 2 0 3 ∷ child 2 36 4 ∷ [])) 44 0 3
    ∷ keeps rule.NoLeaf (madt (local_apic 4 5 2 ∷ [])) (pptt 1 (child 2 0 3 ∷ child 2 36 4 ∷ []))
    ∷ []

-- the PPTT with the MADT (5.2.30.1)
abbrev pub pptt_with_madt_examples : List Example
pptt_with_madt_examples =
    breaks rule.LeafNowhere (pptt 2 (child 10 0 7 ∷ [])) (madt (gicc 3 0 zeros ∷ [])) 36 0 7
    ∷ keeps rule.LeafNowhere (pptt 2 (child 10 0 3 ∷ [])) (madt (gicc 3 0 zeros ∷ []))
    ∷ keeps rule.LeafNowhere (pptt 2 (child 10 0 7 ∷ [])) (madt (local_apic 3 5 1 ∷ []))
    ∷ breaks rule.LeafNowhere (pptt 1 (child 2 0 7 ∷ [])) (madt (gicc 3 0 zeros ∷ [])) 36 0 7
    ∷ keeps rule.LeafNowhere (pptt 1 (child 2 0 7 ∷ child 0 36 0 ∷ [])) (madt (gicc 3 0 zeros ∷ []))
    ∷ []

-- the PPTT (5.2.30)
abbrev pub pptt_examples : List Example
pptt_examples =
    edge rule.SameLeaf (pptt 2 (child 10 0 7 ∷ child 10 36 7 ∷ [])) (56, 36, 7) (pptt 2 (child 10 0 7 ∷ child 2 36 7 ∷ []))
    ++ edge rule.SameLeaf (pptt 1 (child 2 0 7 ∷ child 2 0 7 ∷ [])) (56, 36, 7) (pptt 1 (child 2 0 7 ∷ child 2 36 7 ∷ []))
    ++ keeps rule.SameLeaf (pptt 1 (child 2 0 7 ∷ child 2 0 7 ∷ (0 ∷ []) ∷ [])) []
    ∷ edge rule.LeafUnflagged (pptt 2 (child 2 0 7 ∷ child 8 0 8 ∷ [])) (36, 0, 7) (pptt 2 (child 2 0 7 ∷ child 8 36 8 ∷ []))
    ++ keeps rule.LeafUnflagged (pptt 1 (child 2 0 7 ∷ child 8 0 8 ∷ [])) []
    ∷ edge rule.LeafAsParent (pptt 2 (child 8 0 0 ∷ child 0 36 0 ∷ [])) (36, 56, 0) (pptt 2 (child 7 0 0 ∷ child 0 36 0 ∷ []))
    ++ keeps rule.LeafAsParent (pptt 2 (child 8 0 0 ∷ child 0 35 0 ∷ [])) []
    ∷ breaks rule.CacheNumbers (pptt 2 (sized_cache 4 5 6 0 7 ∷ [])) [] 36 5 0
    ∷ breaks rule.CacheNumbers (pptt 2 (sized_cache 1 0 2 3 4 ∷ [])) [] 36 0 24
    ∷ edge rule.CacheNumbers (pptt 2 (sized_cache 71 25 2 3 4 ∷ [])) (36, 25, 24) (pptt 2 (sized_cache 71 24 2 3 4 ∷ []))
    ++ keeps rule.CacheNumbers (pptt 2 (sized_cache 69 25 2 3 4 ∷ [])) []
    ∷ edge rule.CacheShape (pptt 3 (cache 64 0 3 ∷ [])) (36, 0, 0) (pptt 3 (cache 64 0 4 ∷ []))
    ++ breaks rule.SameCacheId (pptt 3 (cache 128 5 4 ∷ cache 128 5 4 ∷ [])) [] 64 36 5
    ∷ keeps rule.SameCacheId (pptt 2 (cache 128 5 4 ∷ cache 128 5 4 ∷ [])) []
    ∷ edge rule.PpttReserved (pptt 3 (node 32 ∷ [])) (36, 4, 0) (pptt 3 (node 31 ∷ []))
    ++ breaks rule.PpttUnread (pptt 3 (node 0 ∷ entry 2 30 ∷ entry 255 2 ∷ [])) [] 56 2 0
    ∷ edge rule.PpttUnread (pptt 3 (entry 255 2 ∷ [])) (36, 255, 0) (pptt 3 (entry 0 2 ∷ entry 1 2 ∷ []))
    ++ breaks rule.CacheIdZero (pptt 3 (cache 128 0 4 ∷ [])) [] 36 24 0
    ∷ keeps rule.CacheIdZero (pptt 3 (cache 128 1 4 ∷ cache 127 0 4 ∷ sized_cache 128 5 6 0 7 ∷ [])) []
    ∷ keeps rule.CacheIdZero (pptt 2 (cache 128 0 4 ∷ [])) []
    ∷ []

-- the FADT (5.2.9)
abbrev pub fadt_examples : List Example
fadt_examples =
    edge rule.FadtOfRevision (fadt 6 275) (4, 275, 276) (fadt 6 276)
    ++ edge rule.FacsDiffers (fadt_with ((132, 2) ∷ (36, 1) ∷ [])) (36, 1, 2) (fadt_with ((132, 2) ∷ (36, 2) ∷ []))
    ++ edge rule.DsdtDiffers (fadt_with ((140, 2) ∷ (40, 1) ∷ [])) (40, 1, 2) (fadt_with ((140, 2) ∷ (40, 0) ∷ []))
    ++ breaks rule.BlockDiffers (fadt_with ((236, 2) ∷ (232, 1) ∷ (84, 1) ∷ [])) [] 84 1 2
    ∷ keeps rule.BlockDiffers (fadt_with ((236, 2) ∷ (232, 0) ∷ (84, 1) ∷ [])) []
    ∷ edge rule.NoDsdt (fadt 6 276) (40, 0, 0) (patched 140 (1 ∷ []) (fadt 6 276))
    ++ edge rule.NoPm1Block (patched 56 (1 ∷ []) (fadt 6 276)) (64, 0, 0) (fadt_with ((176, 1) ∷ (56, 1) ∷ []))
    ++ breaks rule.BlockWidth (fadt_with ((152, 1) ∷ (149, 16) ∷ (88, 4) ∷ (56, 1) ∷ [])) [] 56 32 16
    ∷ keeps rule.BlockWidth (fadt_with ((152, 1) ∷ (149, 32) ∷ (88, 4) ∷ (56, 1) ∷ [])) []
    ∷ edge rule.HalfBlock (patched 90 (1 ∷ []) (fadt 6 276)) (72, 1, 0) (fadt_with ((72, 7) ∷ (90, 1) ∷ []))
    ++ edge rule.HalfBlock (patched 236 (7 ∷ []) (fadt 6 276)) (84, 0, 7) (fadt_with ((93, 2) ∷ (236, 7) ∷ []))
    ++ breaks rule.GpeOverlap (fadt_with ((94, 15) ∷ (93, 4) ∷ (92, 4) ∷ (84, 1) ∷ (80, 1) ∷ [])) [] 94 16 15
    ∷ keeps rule.GpeOverlap (fadt_with ((94, 16) ∷ (93, 4) ∷ (92, 4) ∷ (84, 1) ∷ (80, 1) ∷ [])) []
    ∷ breaks rule.SmiHalf (fadt_with ((53, 1) ∷ (52, 1) ∷ (48, 178) ∷ [])) [] 48 52 178
    ∷ keeps rule.SmiHalf (fadt_with ((53, 2) ∷ (52, 1) ∷ (48, 178) ∷ [])) []
    ∷ edge rule.SmiHalf (patched 95 (1 ∷ []) (fadt 6 276)) (48, 95, 0) (fadt 6 276)
    ++ edge rule.SciZero (fadt 6 276) (46, 0, 0) (reduced (fadt 6 276))
    ++ edge rule.ResetNowhere (patched 113 (4 ∷ []) (fadt 6 276)) (116, 0, 0) (fadt_with ((120, 1) ∷ (113, 4) ∷ []))
    ++ edge rule.SleepRegister (reduced (patched 245 (7 ∷ 0 ∷ 0 ∷ 1 ∷ []) (fadt 6 276))) (244, 7, 0) (reduced (fadt 6 276))
    ++ breaks rule.SleepRegister (reduced (patched 257 (8 ∷ 0 ∷ 0 ∷ 1 ∷ []) (fadt 6 276))) [] 244 0 0
    ∷ keeps rule.SleepRegister (reduced (patched 245 (8 ∷ 0 ∷ 0 ∷ 1 ∷ []) (patched 257 (8 ∷ 0 ∷ 0 ∷ 1 ∷ []) (fadt 6 276)))) []
    ∷ edge rule.FadtReserved (patched 45 (9 ∷ []) (fadt 6 276)) (45, 0, 9) (patched 45 (8 ∷ []) (fadt 6 276))
    ++ edge rule.FadtReserved (patched 114 (192 ∷ []) (fadt 6 276)) (112, 0, 12582912) (patched 114 (64 ∷ []) (fadt 6 276))

-- the FADT, further: its Revision, and what the hardware or the standard does not have (5.2.9)
abbrev pub fadt_further_examples : List Example
fadt_further_examples =
    map (λ (r : ℕ × ℕ). breaks rule.FadtPastRevision (fadt r.0 (r.1 + 1)) [] 4 r.1 (r.1 + 1)) fadt_sizes
    ++ map (λ (r : ℕ × ℕ). keeps rule.FadtPastRevision (fadt r.0 r.1) []) fadt_sizes
    ++ breaks rule.FadtPastRevision (fadt 0 116) [] 8 0 0
    ∷ breaks rule.ArmBootEarly (patched 129 (0 ∷ 1 ∷ 0x10 ∷ []) (fadt 5 268)) [] 129 0 256
    ∷ keeps rule.ArmBootEarly (patched 129 (0 ∷ 1 ∷ 0x11 ∷ []) (fadt 5 268)) []
    ∷ edge rule.ArmBootEarly (patched 129 (1 ∷ []) (fadt 5 131)) (129, 0, 1) (patched 129 (1 ∷ []) (fadt 6 131))
    ++ keeps rule.ArmBootEarly (patched 129 (1 ∷ []) (fadt 5 130)) []
    ∷ map (λ at. breaks rule.FixedInReduced (reduced (patched at (7 ∷ []) (fadt 6 276))) [] at 0 7)
    (48 ∷ 56 ∷ 60 ∷ 64 ∷ 68 ∷ 72 ∷ 76 ∷ 80 ∷ 84 ∷ 152 ∷ 164 ∷ 176 ∷ 188 ∷ 200 ∷ 212 ∷ 224 ∷ 236 ∷ [])
    ++ keeps rule.FixedInReduced (patched 48 (7 ∷ []) (with_block 148 1 8)) []
    ∷ keeps rule.FixedInReduced (reduced (patched 236 (7 ∷ []) (fadt 3 243))) []
    ∷ edge rule.SmiHandshake (fadt_with ((48, 178) ∷ (53, 1) ∷ [])) (52, 0, 0) (reduced (fadt_with ((48, 178) ∷ (53, 1) ∷ [])))
    ++ edge rule.SmiHandshake (fadt_with ((48, 178) ∷ (52, 1) ∷ [])) (53, 0, 0) (fadt_with ((48, 178) ∷ (52, 1) ∷ (53, 1) ∷ []))
    ++ map (λ (b : ℕ × ℕ). keeps rule.SmiHandshake (fadt_with (b ∷ [])) []) ((48, 178) ∷ (53, 1) ∷ [])
    ++ edge rule.GpePastEnd (fadt_with ((92, 65) ∷ (80, 1) ∷ [])) (92, 0, 65) (fadt_with ((93, 1) ∷ (94, 252) ∷ (84, 1) ∷ []))
    ++ edge rule.GpePastEnd (patched 92 (65 ∷ []) (with_block 220 1 8)) (92, 0, 65) (patched 92 (64 ∷ []) (with_block 220 1 8))
    ++ edge rule.GpePastEnd (patched 93 (65 ∷ []) (with_block 232 1 8)) (94, 0, 0) (fadt_with ((92, 65) ∷ (93, 65) ∷ []))
    ++ breaks rule.GpePastEnd (fadt_with ((93, 1) ∷ (94, 253) ∷ (84, 1) ∷ [])) [] 94 0 253
    ∷ keeps rule.GpePastEnd (reduced (patched 92 (65 ∷ []) (with_block 220 1 8))) []
    ∷ map
    (λ (b : ℕ × ℕ × ℕ). breaks rule.BlockTooLong (patched b.1 (32 ∷ []) (patched b.0 (1 ∷ []) (fadt 3 b.2))) [] b.1 0 32)
    ((56, 88, 276) ∷ (56, 88, 159) ∷ (60, 88, 276) ∷ (60, 88, 171) ∷ (64, 89, 276) ∷ (64, 89, 183) ∷ (68, 89, 276) ∷ (68, 89, 195)
    ∷ (72, 90, 276) ∷ (72, 90, 207) ∷ (76, 91, 276) ∷ (76, 91, 219) ∷ [])
    ++ keeps rule.BlockTooLong (fadt_with ((88, 31) ∷ (56, 1) ∷ [])) []
    ∷ keeps rule.BlockTooLong (patched 88 (32 ∷ []) (patched 56 (1 ∷ []) (with_block 148 1 8))) []
    ∷ keeps rule.BlockTooLong (fadt_with ((92, 32) ∷ (80, 1) ∷ [])) []
    ∷ keeps rule.BlockTooLong (reduced (fadt_with ((88, 32) ∷ (56, 1) ∷ []))) []
    ∷ map (λ at. breaks rule.BlockSpace (with_block at 2 8) [] at 0 2) (148 ∷ 160 ∷ 172 ∷ 184 ∷ 196 ∷ 208 ∷ 220 ∷ 232 ∷ [])
    ++ keeps rule.BlockSpace (patched 160 (2 ∷ []) (with_block 148 1 8)) []
    ∷ keeps rule.BlockSpace (reduced (with_block 148 2 8)) []
    ∷ map (λ (b : ℕ × ℕ). breaks rule.BlockUsualWidth (with_block b.0 1 b.1) [] (b.0 + 1) 0 b.1)
    ((148, 16) ∷ (160, 31) ∷ (172, 32) ∷ (184, 8) ∷ (196, 16) ∷ (208, 24) ∷ [])
    ++ map (λ (b : ℕ × ℕ). keeps rule.BlockUsualWidth (with_block b.0 1 b.1) [])
    ((148, 32) ∷ (160, 32) ∷ (172, 16) ∷ (184, 16) ∷ (196, 8) ∷ (208, 32) ∷ (220, 7) ∷ (232, 7) ∷ [])
    ++ keeps rule.BlockUsualWidth (patched 149 (16 ∷ []) (fadt 6 276)) []
    ∷ keeps rule.BlockUsualWidth (reduced (with_block 148 1 16)) []
    ∷ edge rule.SleepNotReduced (patched 248 (7 ∷ []) (fadt 5 256)) (248, 0, 7) (patched 248 (7 ∷ []) (fadt 5 255))
    ++ edge rule.SleepNotReduced (patched 260 (7 ∷ []) (fadt 5 268)) (260, 0, 7) (reduced (patched 260 (7 ∷ []) (fadt 5 268)))

-- the MCFG (PCI Firmware Specification 3.3, 4.1.2)
abbrev pub mcfg_examples : List Example
mcfg_examples =
    edge rule.McfgLength (sized 1 44) (4, 60, 44) (sized 1 60)
    ++ map (λ n. breaks rule.McfgLength (sized 1 n) [] 4 76 n)
    (61 ∷ 62 ∷ 63 ∷ 64 ∷ 65 ∷ 66 ∷ 67 ∷ 68 ∷ 69 ∷ 70 ∷ 71 ∷ 72 ∷ 73 ∷ 74 ∷ 75 ∷ [])
    ++ keeps rule.McfgLength (sized 1 76) []
    ∷ edge rule.EcamAddress (one_ecam 1 0 0 1) (44, 0, 0) (one_ecam 1 0x100000 0 1)
    ++ breaks rule.EcamAddress (mcfg 1 (ecam 0x100000 0 0 1 ∷ ecam 0x180000 0 2 3 ∷ [])) [] 60 0 0x180000
    ∷ edge rule.BusesReversed (one_ecam 1 0x100000 5 4) (44, 11, 4) (one_ecam 1 0x100000 5 5)
    ++ breaks rule.EcamWraps (one_ecam 1 0xfffffffff0000001 0 255) [] 44 0 0xfffffffff0000001
    ∷ edge rule.EcamWraps (one_ecam 1 0xfffffffff0010000 0 255) (44, 0, 0xfffffffff0010000) (one_ecam 1 0xfffffffff0000000 0 255)
    ++ edge rule.EcamTooHigh (one_ecam 0 0xffffffff 0 0) (44, 0, 0xffffffff) (one_ecam 0 0xfffffffe 0 0)
    ++ keeps rule.EcamTooHigh (one_ecam 1 0xffffffff 0 0) []
    ∷ keeps rule.EcamTooHigh (patched 10 (0x53 ∷ 0x47 ∷ 0x49 ∷ []) (one_ecam 0 0xffffffff 0 0)) []
    ∷ edge rule.SameBus (mcfg 1 (ecam 0 1 4 7 ∷ ecam 0 1 0 4 ∷ [])) (60, 44, 260) (mcfg 1 (ecam 0 1 4 7 ∷ ecam 0 1 0 3 ∷ []))
    ++ edge rule.SameBus (mcfg 1 (ecam 0 0 4 7 ∷ ecam 0 0 4 4 ∷ [])) (44, 60, 4) (mcfg 1 (ecam 0 0 0 255 ∷ ecam 0 1 0 255 ∷ []))
    ++ keeps rule.SameBus (mcfg 1 (ecam 0 0 0 255 ∷ ecam 0 0 5 4 ∷ [])) []
    ∷ []

-- the HPET (IA-PC HPET 1.0a, 3.2.4)
abbrev pub hpet_examples : List Example
hpet_examples =
    edge rule.HpetLength (sized 1 55) (4, 56, 55) (sized 1 56)
    ++ edge rule.HpetSpace (hpet 1 0xfed00000) (40, 0, 1) (hpet 0 0xfed00000)
    ++ keeps rule.HpetSpace (patched 40 (1 ∷ []) (sized 1 55)) []
    ∷ edge rule.HpetAddress (hpet 0 0) (44, 0, 0) (sized 1 55)
    ++ edge rule.HpetAddress (hpet 0 0xfed0000000000000) (44, 0, 0xfed0000000000000) (hpet 0 0xfed00000)
    ++ edge rule.HpetAddress (hpet 0 0xfed00200) (44, 0, 0xfed00200) (hpet 0 0xfed00400)

-- the SPCR (Microsoft's Serial Port Console Redirection Table 1.10)
abbrev pub spcr_examples : List Example
spcr_examples =
    edge rule.SpcrLength (spcr 3 79 []) (4, 80, 79) (spcr 3 80 [])
    ++ edge rule.SpcrLength (spcr 4 87 []) (4, 88, 87) (spcr 4 88 [])
    ++ edge rule.SpcrAddress (spcr 3 80 ((44, 1) ∷ (40, 2) ∷ [])) (40, 0, 2) (spcr 3 79 ((44, 1) ∷ (40, 2) ∷ []))
    ++ edge rule.SpcrAddress (spcr 4 88 ((51, 1) ∷ (40, 2) ∷ [])) (40, 0, 2) (spcr 4 87 ((51, 1) ∷ (40, 2) ∷ []))
    ++ edge rule.SpcrAddress (spcr 4 88 ((44, 1) ∷ (43, 4) ∷ [])) (43, 0, 4) (spcr 4 88 ((44, 1) ∷ (43, 3) ∷ []))
    ++ map (λ (bytes : List (ℕ × ℕ)). keeps rule.SpcrAddress (spcr 4 88 ((43, 4) ∷ bytes)) [])
    ([] ∷ ((40, 2) ∷ []) ∷ ((44, 1) ∷ (40, 1) ∷ []) ∷ ((44, 1) ∷ (40, 2) ∷ (36, 0x15) ∷ []) ∷ ((44, 1) ∷ (36, 0x15) ∷ []) ∷ [])
    ++ map (λ n. breaks rule.SpcrBaud (spcr 4 88 ((58, n) ∷ [])) [] 58 0 n) (1 ∷ 2 ∷ 5 ∷ 8 ∷ [])
    ++ map (λ n. keeps rule.SpcrBaud (spcr 4 88 ((58, n) ∷ [])) []) (0 ∷ 3 ∷ 4 ∷ 6 ∷ 7 ∷ [])
    ++ edge rule.SpcrBaud (spcr 3 88 ((58, 5) ∷ (80, 1) ∷ [])) (58, 0, 5) (spcr 4 88 ((58, 5) ∷ (80, 1) ∷ []))
    ++ edge rule.SpcrBaud (spcr 3 80 ((58, 5) ∷ [])) (58, 0, 5) (spcr 4 87 ((58, 5) ∷ []))
    ++ map (λ n. breaks rule.SpcrGsi (spcr 4 88 ((52, 1) ∷ (53, n) ∷ [])) [] 53 0 n) (0 ∷ 1 ∷ 8 ∷ 13 ∷ 16 ∷ [])
    ++ map (λ n. keeps rule.SpcrGsi (spcr 4 88 ((52, 1) ∷ (53, n) ∷ [])) []) (2 ∷ 7 ∷ 9 ∷ 12 ∷ 14 ∷ 15 ∷ [])
    ++ keeps rule.SpcrGsi (spcr 4 88 ((52, 14) ∷ [])) []
    ∷ keeps rule.SpcrGsi (spcr 4 87 ((52, 1) ∷ [])) []
    ∷ edge rule.SpcrPci (spcr 4 88 ((64, 255) ∷ (65, 255) ∷ [])) (64, 0, 0xffff) (spcr 4 88 ((64, 255) ∷ (67, 255) ∷ []))
    ++ edge rule.SpcrPci (spcr 4 88 ((64, 7) ∷ (66, 255) ∷ (67, 255) ∷ [])) (64, 0, 7) (spcr 4 87 ((64, 255) ∷ (65, 255) ∷ []))
    ++ edge rule.SpcrPci (spcr 4 88 ((69, 32) ∷ [])) (69, 0, 32) (spcr 4 88 ((69, 31) ∷ []))
    ++ edge rule.SpcrPci (spcr 4 88 ((70, 8) ∷ [])) (70, 0, 8) (spcr 4 88 ((70, 7) ∷ []))
    ++ keeps rule.SpcrPci (patched 64 (replicate 4 255) (spcr 4 88 ((69, 32) ∷ (70, 8) ∷ []))) []
    ∷ edge rule.SpcrName (spcr 4 90 ((84, 1) ∷ (86, 88) ∷ [])) (84, 0, 1) (spcr 4 90 ((84, 2) ∷ (86, 88) ∷ []))
    ++ edge rule.SpcrName (spcr 4 90 ((84, 2) ∷ (86, 87) ∷ [])) (86, 0, 87) (spcr 3 90 ((84, 2) ∷ (86, 87) ∷ []))
    ++ edge rule.SpcrName (spcr 4 90 ((84, 3) ∷ (86, 88) ∷ [])) (86, 0, 88) (spcr 4 87 [])

-- the SPCR with the MADT
abbrev pub spcr_with_madt_examples : List Example
spcr_with_madt_examples =
    breaks rule.SpcrGsi (console 2 0) with_gic 52 0 2
    ∷ map (λ n. breaks rule.SpcrGsi (console 8 n) with_gic 54 0 n) (0 ∷ 31 ∷ 1020 ∷ 4095 ∷ 5120 ∷ [])
    ++ map (λ n. keeps rule.SpcrGsi (console 8 n) with_gic) (32 ∷ 1019 ∷ 4096 ∷ 5119 ∷ [])
    ++ map (λ table. keeps rule.SpcrGsi table with_gic)
    (console 0 31 ∷ spcr 4 88 ((52, 2) ∷ []) ∷ spcr 4 87 ((44, 1) ∷ (52, 2) ∷ []) ∷ [])
    ++ map (keeps rule.SpcrGsi (console 2 31)) without_gic

-- the HMAT (ACPI 6.5, 5.2.28)
abbrev pub hmat_examples : List Example
hmat_examples =
    edge rule.HmatHeader (sized 1 39) (4, 40, 39) (sized 1 40)
    ++ edge rule.HmatHeader (sized 0 40) (8, 0, 0) (sized 2 40)
    ++ breaks rule.HmatHeader (sized 3 40) [] 8 0 3
    ∷ edge rule.HmatCut (hmat 1 (replicate 7 0 ∷ [])) (40, 0, 47) (hmat 1 [])
    ++ edge rule.HmatCut (hmat 1 (structure 5 7 [] ∷ [])) (40, 7, 48) (hmat 1 (structure 5 8 [] ∷ []))
    ++ edge rule.HmatCut (hmat 1 (structure 0 40 [] ∷ structure 5 8 ((4, 9) ∷ []) ∷ [])) (80, 9, 88)
    (hmat 1 (structure 0 40 [] ∷ structure 5 9 [] ∷ []))
    ++ map (λ (s : List ℕ × ℕ × ℕ). breaks rule.HmatLength (hmat 1 (s.0 ∷ [])) [] 40 s.1 s.2)
    ((structure 0 39 [], 40, 39) ∷ (structure 0 41 [], 40, 41) ∷ (structure 1 31 [], 32, 31)
    ∷ (structure 1 63 ((12, 2) ∷ (16, 3) ∷ []), 64, 63) ∷ (patched 12 (replicate 8 255) (structure 1 32 []), 0xffffffffffffffff, 32)
    ∷ (structure 2 31 [], 32, 31) ∷ (structure 2 33 ((30, 1) ∷ []), 34, 33) ∷ [])
    ++ map (λ s. keeps rule.HmatLength (hmat 1 (s ∷ [])) [])
    (structure 0 40 [] ∷ structure 1 33 [] ∷ structure 1 64 ((12, 2) ∷ (16, 3) ∷ []) ∷ structure 1 9 ((1, 1) ∷ [])
    ∷ structure 2 34 ((30, 1) ∷ []) ∷ structure 3 8 [] ∷ [])
    ++ edge rule.HmatDataType (latencies 1 ((9, 6) ∷ [])) (40, 9, 6) (latencies 1 ((9, 5) ∷ []))
    ++ edge rule.HmatHierarchy (latencies 1 ((8, 0x15) ∷ [])) (40, 8, 0x15) (latencies 1 ((8, 0xf4) ∷ []))
    ++ edge rule.HmatHierarchy (latencies 2 ((8, 0x14) ∷ [])) (40, 8, 0x14) (latencies 2 ((8, 0xf3) ∷ []))
    ++ edge rule.HmatHierarchy (latencies 2 ((8, 5) ∷ [])) (40, 8, 5) (latencies 2 ((8, 4) ∷ (12, 1) ∷ []))
    ++ edge rule.HmatUnit (latencies 1 []) (40, 24, 0) (latencies 1 ((31, 1) ∷ []))
    ++ map (λ r. keeps r (latencies 1 ((8, 5) ∷ (9, 6) ∷ (12, 1) ∷ [])) [])
    (rule.HmatDataType ∷ rule.HmatHierarchy ∷ rule.HmatUnit ∷ [])
    ++ edge rule.HmatTooLarge (latency 0x55555556 3) (80, 0, 3) (latency 0x55555555 3)
    ++ edge rule.HmatTooLarge (latency 0x10003 0xfffe) (80, 0, 0xfffe) (latency 0x10003 0xffff)
    ++ edge rule.HmatTooLarge (hmat 1 (patched 27 (128 ∷ []) (locality (7 ∷ []) (8 ∷ 9 ∷ []) (1 ∷ 0 ∷ 2 ∷ 0 ∷ [])) ∷ [])) (86, 0, 2)
    (hmat 1 (patched 27 (128 ∷ []) (locality (7 ∷ []) (8 ∷ 9 ∷ []) (2 ∷ 0 ∷ 1 ∷ [])) ∷ []))
    ++ edge rule.HmatSameDomain (hmat 1 (locality (7 ∷ 8 ∷ 7 ∷ []) [] [] ∷ [])) (80, 72, 7)
    (hmat 1 (locality (7 ∷ []) (7 ∷ []) (1 ∷ 0 ∷ []) ∷ locality (7 ∷ []) (7 ∷ []) (1 ∷ 0 ∷ []) ∷ []))
    ++ edge rule.HmatSameDomain (hmat 1 (locality (7 ∷ []) (8 ∷ 8 ∷ []) (1 ∷ 0 ∷ 1 ∷ 0 ∷ []) ∷ [])) (80, 76, 8)
    (hmat 1 (locality (7 ∷ 0x1000007 ∷ []) (8 ∷ 0x1000008 ∷ []) zeros ∷ []))
    ++ keeps rule.HmatSameDomain (hmat 1 (locality (7 ∷ 7 ∷ []) (8 ∷ 8 ∷ []) (replicate 7 0) ∷ [])) []
    ∷ map (λ n. breaks rule.HmatCache (side_cache n 0) [] 40 24 n) odd_marks
    ++ map (λ n. keeps rule.HmatCache (side_cache n 1) []) odd_marks
    ++ map (λ n. keeps rule.HmatCache (side_cache n 0) []) (0 ∷ 0x11 ∷ 0x22 ∷ 0xffff2233 ∷ 0x2203 ∷ [])

-- the HMAT with the SRAT
abbrev pub hmat_with_srat_examples : List Example
hmat_with_srat_examples =
    breaks rule.HmatProximity (hmat 1 (attributes 1 7 9 ∷ [])) (memory_in 9) 40 12 7
    ∷ breaks rule.HmatProximity (hmat 2 (attributes 1 7 9 ∷ [])) (memory_in 8) 40 12 7
    ∷ map (keeps rule.HmatProximity (hmat 1 (attributes 1 7 9 ∷ []))) srats_of_seven
    ++ breaks rule.HmatProximity (patched 53 (1 ∷ []) (hmat 1 (attributes 1 7 9 ∷ []))) (memory_in 7) 40 12 263
    ∷ keeps rule.HmatProximity (patched 53 (1 ∷ []) (hmat 1 (attributes 1 7 9 ∷ [])))
    (srat 2 (patched 2 (7 ∷ []) (apic_affinity 1 4 0) ∷ []))
    ∷ keeps rule.HmatProximity (hmat 1 (attributes 0 7 9 ∷ [])) (memory_in 8)
    ∷ breaks rule.HmatProximity (hmat 2 (attributes 0 7 9 ∷ [])) (memory_in 8) 40 16 9
    ∷ breaks rule.HmatProximity (hmat 1 (attributes 2 7 9 ∷ [])) (srat 2 (initiator 9 1 ∷ gicc_affinity 9 3 ∷ [])) 40 16 9
    ∷ map (keeps rule.HmatProximity (hmat 2 (attributes 2 7 9 ∷ []))) (memory_in 9 ∷ srat 2 (port 9 0 ∷ []) ∷ [])
    ++ map (keeps rule.HmatProximity (hmat 2 (attributes 3 7 9 ∷ []))) unread_srats
    ++ keeps rule.HmatProximity (hmat 2 (structure 0 39 ((8, 3) ∷ []) ∷ structure 0 41 ((8, 3) ∷ []) ∷ [])) (memory_in 8)
    ∷ breaks rule.HmatDomainNowhere (latency 1 1) (memory_in 8) 72 0 7
    ∷ breaks rule.HmatDomainNowhere (latency 1 1) (memory_in 7) 76 0 8
    ∷ keeps rule.HmatDomainNowhere (latency 1 1) (srat 2 (initiator 7 0 ∷ port 8 0 ∷ []))
    ∷ map (keeps rule.HmatDomainNowhere (hmat 1 (locality (7 ∷ []) (7 ∷ []) (1 ∷ 0 ∷ []) ∷ []))) srats_of_seven
    ++ map (keeps rule.HmatDomainNowhere (latency 1 1)) unread_srats
    ++ keeps rule.HmatDomainNowhere (hmat 1 (locality (7 ∷ []) (8 ∷ []) (1 ∷ []) ∷ [])) (memory_in 9)
    ∷ breaks rule.HmatCacheNowhere (side_cache 0 0) (srat 2 (memory 8 0 0 0 ∷ initiator 7 1 ∷ port 7 1 ∷ [])) 40 8 7
    ∷ map (keeps rule.HmatCacheNowhere (side_cache 0 0)) (memory_in 7 ∷ unread_srats)
    ++ keeps rule.HmatCacheNowhere (side_cache 0 1) (memory_in 8)
    ∷ []

-- the GTDT (ACPI 6.5, 5.2.25)
abbrev pub gtdt_examples : List Example
gtdt_examples =
    map (λ (g : ℕ × ℕ). breaks rule.GtdtLength (sized g.0 (g.1 - 1)) [] 4 g.1 (g.1 - 1)) gtdt_sizes
    ++ map (λ (g : ℕ × ℕ). keeps rule.GtdtLength (sized g.0 g.1) []) gtdt_sizes
    ++ map (λ (g : ℕ × ℕ). breaks rule.NoTimer (sized g.0 g.1) [] 56 0 0) gtdt_sizes
    ++ map (λ (g : ℕ × ℕ). keeps rule.NoTimer (sized g.0 (g.1 - 1)) []) gtdt_sizes
    ++ breaks rule.NoTimer (gtdt 1 80 ((48, 16) ∷ (60, 1) ∷ (68, 1) ∷ (72, 16) ∷ [])) [] 56 0 0
    ∷ map (λ at. keeps rule.NoTimer (gtdt 1 80 ((at, 1) ∷ [])) []) (56 ∷ 59 ∷ 64 ∷ 67 ∷ [])
    ++ edge rule.SameTimer (gtdt 1 80 ((56, 16) ∷ (64, 16) ∷ [])) (64, 56, 16) (gtdt 2 95 ((56, 16) ∷ (64, 16) ∷ []))
    ++ edge rule.SameTimer (gtdt 1 80 ((56, 16) ∷ (64, 17) ∷ (72, 17) ∷ [])) (72, 64, 17) (gtdt 1 80 ((48, 16) ∷ (56, 16) ∷ []))
    ++ edge rule.SameTimer (gtdt 3 104 ((56, 16) ∷ (96, 16) ∷ [])) (96, 56, 16) (gtdt 2 104 ((56, 16) ∷ (96, 16) ∷ []))
    ++ keeps rule.SameTimer (gtdt 3 104 ((56, 16) ∷ (80, 16) ∷ (88, 16) ∷ [])) []
    ∷ edge rule.PlatformTimerCut (gtdt 2 96 ((88, 1) ∷ (92, 95) ∷ [])) (92, 0, 95) (gtdt 2 96 ((92, 95) ∷ []))
    ++ edge rule.PlatformTimerCut (gtdt 3 104 ((88, 1) ∷ (92, 103) ∷ [])) (92, 0, 103) (gtdt 3 104 ((92, 103) ∷ []))
    ++ map (λ (g : ℕ × ℕ). keeps rule.PlatformTimerCut (gtdt g.0 g.1 ((88, 1) ∷ [])) []) ((1, 104) ∷ (2, 95) ∷ (3, 103) ∷ [])
    ++ edge rule.PlatformTimerCut (gtdt 2 96 ((88, 1) ∷ (92, 96) ∷ [])) (96, 0, 96) (gtdt 1 96 ((88, 1) ∷ (92, 96) ∷ []))
    ++ edge rule.PlatformTimerCut (gtdt 3 104 ((88, 1) ∷ (92, 200) ∷ [])) (200, 0, 104) (gtdt 3 103 ((88, 1) ∷ (92, 200) ∷ []))
    ++ edge rule.PlatformTimerCut (timed ((1 ∷ 3 ∷ 0 ∷ 0 ∷ []) ∷ [])) (104, 3, 108) (timed ((1 ∷ 4 ∷ 0 ∷ 0 ∷ []) ∷ []))
    ++ edge rule.PlatformTimerCut (timed (timer 1 28 [] ∷ [] ∷ [])) (132, 0, 132) (timed ((timer 1 28 [] ++ 1 ∷ []) ∷ []))
    ++ breaks rule.PlatformTimerCut (timed ((1 ∷ 5 ∷ 0 ∷ 0 ∷ []) ∷ [])) [] 104 5 108
    ∷ breaks rule.PlatformTimerCut (timed ((1 ∷ 4 ∷ []) ∷ [])) [] 104 0 106
    ∷ keeps rule.PlatformTimerCut (gtdt 3 104 ((92, 200) ∷ [])) []
    ∷ breaks rule.PlatformTimerCut (timed (timer 255 4 [] ∷ [])) [] 104 0 255
    ∷ edge rule.PlatformTimerCut (timed (timer 2 4 [] ∷ [])) (104, 0, 2) (timed (timer 1 4 [] ∷ timer 0 4 [] ∷ []))
    ++ map (λ (b : List ℕ × ℕ × ℕ). breaks rule.TimerBlock (timed (b.0 ∷ [])) [] 104 b.1 b.2)
    ((timer 0 19 [], 20, 19) ∷ (timer 0 20 ((16, 20) ∷ []), 12, 0) ∷ (block (replicate 9 (replicate 40 0)), 12, 9)
    ∷ (timer 0 59 ((12, 1) ∷ (16, 19) ∷ []), 16, 19) ∷ (timer 0 60 ((12, 1) ∷ (16, 21) ∷ []), 61, 60)
    ∷ (timer 0 62 ((12, 1) ∷ (16, 21) ∷ []), 61, 62) ∷ [])
    ++ map (λ b. keeps rule.TimerBlock (timed (b ∷ [])) [])
    (block (replicate 8 (replicate 40 0)) ∷ timer 0 61 ((12, 1) ∷ (16, 21) ∷ []) ∷ timer 1 19 [] ∷ [])
    ++ map (λ (f : List ℕ × ℕ × ℕ). breaks rule.TimerFrame (timed (block (f.0 ∷ []) ∷ [])) [] 124 f.1 f.2)
    ((frame 8 1 32 0, 0, 8) ∷ (frame 7 0 32 0, 4, 0) ∷ (frame 7 1 0 32, 20, 0) ∷ (patched 36 (2 ∷ []) (frame 7 0 0 0), 4, 0) ∷ [])
    ++ map (λ f. keeps rule.TimerFrame (timed (block (f ∷ []) ∷ [])) [])
    (frame 7 1 32 0 ∷ patched 36 (1 ∷ []) (frame 7 0 0 0) ∷ [])
    ++ edge rule.TimerFrame (timed (watchdog 1 1 0 ∷ block (frame 0 1 32 0 ∷ frame 8 1 32 0 ∷ []) ∷ [])) (192, 0, 8)
    (timed (loose_block (frame 8 1 32 0 ∷ frame 7 0 32 0 ∷ frame 7 1 0 0 ∷ []) ∷ []))
    ++ keeps rule.TimerFrame (timed (block (frame 8 1 32 0 ∷ frame 7 0 32 0 ∷ replicate 7 (frame 7 1 0 0)) ∷ [])) []
    ∷ edge rule.SameFrame (timed (block (frame 3 1 32 0 ∷ frame 4 1 32 0 ∷ frame 3 1 32 0 ∷ []) ∷ [])) (204, 124, 3)
    (timed (block (frame 3 1 32 0 ∷ []) ∷ block (frame 3 1 32 0 ∷ []) ∷ []))
    ++ keeps rule.SameFrame (timed (loose_block (replicate 2 (frame 3 1 32 0)) ∷ [])) []
    ∷ keeps rule.SameFrame (timed (block (replicate 9 (frame 3 1 32 0)) ∷ [])) []
    ∷ map (λ (w : List ℕ × ℕ × ℕ). breaks rule.Watchdog (timed (w.0 ∷ [])) [] 104 w.1 w.2)
    ((timer 1 27 ((4, 1) ∷ (12, 1) ∷ []), 28, 27) ∷ (timer 1 29 ((4, 1) ∷ (12, 1) ∷ []), 28, 29)
    ∷ (watchdog 0 1 32, 4, 0) ∷ (watchdog 1 0 32, 12, 0) ∷ [])
    ++ keeps rule.Watchdog (timed (watchdog 1 1 0 ∷ timer 0 27 [] ∷ [])) []
    ∷ edge rule.Watchdog (gtdt 2 104 ((88, 1) ∷ (92, 100) ∷ (100, 1) ∷ (101, 4) ∷ [])) (100, 28, 4)
    (gtdt 3 104 ((88, 1) ∷ (92, 100) ∷ (100, 1) ∷ (101, 4) ∷ []))

-- the GTDT with the MADT
abbrev pub gtdt_with_madt_examples : List Example
gtdt_with_madt_examples =
    map (λ n. breaks rule.TimerNoPpi (patched 48 (number_bytes 4 n) (sized 1 80)) with_gic 48 0 n) no_ppis
    ++ map (λ n. breaks rule.TimerNoPpi (patched 96 (number_bytes 4 n) (sized 3 104)) with_gic 96 0 n) no_ppis
    ++ map (λ at. breaks rule.TimerNoPpi (gtdt 1 80 ((at, 15) ∷ [])) (madt (entry 12 2 ∷ [])) at 0 15) (56 ∷ 64 ∷ 72 ∷ [])
    ++ map (λ n. keeps rule.TimerNoPpi (patched 48 (number_bytes 4 n) (patched 96 (number_bytes 4 n) (sized 3 104))) with_gic)
    (0 ∷ 16 ∷ 31 ∷ 1056 ∷ 1119 ∷ [])
    ++ map (λ n. keeps rule.TimerNoPpi (patched 80 (number_bytes 4 n) (patched 96 (number_bytes 4 n) (sized 2 104))) with_gic) no_ppis
    ++ keeps rule.TimerNoPpi (gtdt 1 79 ((48, 15) ∷ [])) with_gic
    ∷ map (keeps rule.TimerNoPpi (gtdt 1 80 ((48, 15) ∷ []))) without_gic
    ++ map (λ n. breaks rule.TimerNoSpi (timed (block (frame 7 1 n 0 ∷ []) ∷ [])) with_gic 124 20 n) no_spis
    ++ map (λ n. breaks rule.TimerNoSpi (timed (block (frame 7 1 0 n ∷ []) ∷ [])) with_gic 124 28 n) no_spis
    ++ map (λ n. breaks rule.TimerNoSpi (timed (watchdog 1 1 n ∷ [])) with_gic 104 20 n) no_spis
    ++ map (λ n. keeps rule.TimerNoSpi (timed (block (frame 7 1 n n ∷ []) ∷ watchdog 1 1 n ∷ [])) with_gic)
    (0 ∷ 32 ∷ 1019 ∷ 4096 ∷ 5119 ∷ [])
    ++ map (λ n. keeps rule.TimerNoSpi (timed (loose_block (frame 7 1 n 0 ∷ frame 7 1 0 n ∷ []) ∷ [])) with_gic) no_spis
    ++ map (λ n. keeps rule.TimerNoSpi (timed (watchdog 0 1 n ∷ watchdog 1 0 n ∷ [])) with_gic) no_spis
    ++ keeps rule.TimerNoSpi (timed (block (map (λ n. frame 7 1 n 0) no_spis ++ map (λ n. frame 7 1 0 n) no_spis) ∷ [])) with_gic
    ∷ map (keeps rule.TimerNoSpi (timed (block (frame 7 1 1 1 ∷ []) ∷ watchdog 1 1 1 ∷ []))) without_gic

-- the DMAR (Intel VT-d specification, 8.1 to 8.9)
abbrev pub dmar_examples : List Example
dmar_examples =
    edge rule.DmarWidth (sized 1 47) (4, 48, 47) (dmar [])
    ++ edge rule.DmarWidth (dmar_of 10 0 []) (36, 0, 10) (dmar_of 11 0 [])
    ++ edge rule.DmarWidth (dmar_of 64 0 []) (36, 0, 64) (dmar_of 63 0 [])
    ++ edge rule.DmarCut (dmar ((9 ∷ 0 ∷ 3 ∷ 0 ∷ []) ∷ [])) (48, 3, 52) (dmar ((9 ∷ 0 ∷ 4 ∷ 0 ∷ []) ∷ []))
    ++ edge rule.DmarCut (dmar ((9 ∷ 0 ∷ 5 ∷ 0 ∷ []) ∷ [])) (48, 5, 52) (sized 1 47)
    ++ breaks rule.DmarCut (dmar (scoped [] ∷ (9 ∷ 0 ∷ 4 ∷ []) ∷ [])) [] 64 0 67
    ∷ map (λ (k : ℕ × ℕ). breaks rule.DmarShort (dmar (remapping k.0 (k.1 - 1) [] [] ∷ [])) [] 48 k.1 (k.1 - 1)) least_remappings
    ++ map (λ (k : ℕ × ℕ). keeps rule.DmarShort (dmar (remapping k.0 k.1 [] [] ∷ [])) []) ((7, 4) ∷ least_remappings)
    ++ edge rule.NoDrhd (dmar (rhsa 1 0 ∷ [])) (0, 0, 0) (dmar (rhsa 1 0 ∷ scoped [] ∷ []))
    ++ map (λ e. keeps rule.NoDrhd (dmar (e ∷ [])) []) unread_structures
    ++ breaks rule.NoDrhd (dmar []) [] 0 0 0
    ∷ keeps rule.NoDrhd (sized 1 47) []
    ∷ edge rule.DrhdAddress (dmar (drhd 0 0 0 [] ∷ [])) (48, 8, 0) (dmar (drhd 0 0 1 [] ∷ []))
    ++ edge rule.DrhdAddress (dmar (sized_drhd 0x1800 0 ∷ [])) (48, 8, 0x1800) (dmar (remapping 0 15 [] [] ∷ []))
    ++ map
    (λ n. breaks rule.DrhdOverlap (dmar (sized_drhd 0x1000 n ∷ sized_drhd (0x1000 * 2 ^ n) 0 ∷ [])) [] 48 64 (0x1000 * 2 ^ n))
    sizes_of_registers
    ++ map
    (λ n. keeps rule.DrhdOverlap (dmar (sized_drhd 0x1000 (n + 16) ∷ sized_drhd (0x1000 + 0x1000 * 2 ^ n) 0 ∷ [])) [])
    sizes_of_registers
    ++ keeps rule.DrhdOverlap (dmar (sized_drhd 0 0 ∷ sized_drhd 0 0 ∷ [])) []
    ∷ edge rule.SecondIncludeAll (dmar (drhd 1 5 1 [] ∷ drhd 1 5 2 [] ∷ [])) (64, 48, 5)
    (dmar (drhd 1 5 1 [] ∷ drhd 1 4 2 [] ∷ []))
    ++ edge rule.SecondIncludeAll (dmar (atsr 3 5 [] ∷ atsr 1 5 [] ∷ [])) (56, 48, 5) (dmar (atsr 1 5 [] ∷ atsr 1 4 [] ∷ []))
    ++ map (keeps_alone rule.SecondIncludeAll)
    ((drhd 1 5 1 [] ∷ atsr 1 5 [] ∷ []) ∷ (drhd 1 5 1 [] ∷ drhd 2 5 2 [] ∷ []) ∷ (atsr 1 5 [] ∷ atsr 2 5 [] ∷ []) ∷ [])
    ++ edge rule.IncludeAllNotLast (dmar (drhd 1 5 1 [] ∷ drhd 1 5 2 [] ∷ drhd 2 5 3 [] ∷ [])) (80, 48, 5)
    (dmar (drhd 0 5 1 [] ∷ drhd 1 5 2 [] ∷ []))
    ++ map (keeps_alone rule.IncludeAllNotLast)
    ((drhd 1 4 1 [] ∷ drhd 0 5 2 [] ∷ []) ∷ (drhd 1 5 1 [] ∷ drhd 1 5 2 [] ∷ []) ∷ (atsr 1 5 [] ∷ drhd 0 5 2 [] ∷ []) ∷ [])
    ++ edge rule.RmrrRange (dmar (rmrr 0x1800 0x2fff [] ∷ [])) (48, 8, 0x1800) (dmar (rmrr 0x1000 0x1fff [] ∷ []))
    ++ map (λ (r : ℕ × ℕ). breaks rule.RmrrRange (dmar (rmrr r.0 r.1 [] ∷ [])) [] 48 16 r.1)
    ((0x1000, 0x1ffe) ∷ (0x1000, 0x2000) ∷ (0x2000, 0x1fff) ∷ [])
    ++ edge rule.RmrrNoDevice (dmar (rmrr 0 0 [] ∷ [])) (48, 32, 24) (dmar (rmrr 0 0 (device ∷ []) ∷ []))
    ++ edge rule.RhsaNowhere (dmar (scoped [] ∷ rhsa 2 0 ∷ [])) (64, 8, 0x2000) (dmar (rhsa 1 0 ∷ scoped [] ∷ []))
    ++ map (λ e. keeps rule.RhsaNowhere (dmar (rhsa 2 0 ∷ e ∷ [])) []) unread_structures
    ++ edge rule.SameRhsa (dmar (rhsa 1 0 ∷ rhsa 1 1 ∷ [])) (68, 48, 0x1000) (dmar (rhsa 1 0 ∷ rhsa 2 0 ∷ scoped [] ∷ []))
    ++ edge rule.AnddName (dmar (andd 7 (65 ∷ 66 ∷ []) ∷ [])) (48, 8, 0) (dmar (andd 7 (65 ∷ 0 ∷ []) ∷ []))
    ++ edge rule.AnddName (dmar (andd 0 (65 ∷ []) ∷ [])) (48, 8, 0) (dmar (andd 7 (0 ∷ 65 ∷ []) ∷ []))
    ++ edge rule.AnddNowhere (dmar (andd 7 (0 ∷ []) ∷ [])) (48, 7, 7)
    (dmar (andd 7 (0 ∷ []) ∷ scoped (scope 5 7 (0 ∷ 0 ∷ []) ∷ []) ∷ []))
    ++ map (λ e. breaks rule.AnddNowhere (dmar (andd 7 (0 ∷ []) ∷ e ∷ [])) [] 48 7 7)
    (scoped (scope 4 7 (0 ∷ 0 ∷ []) ∷ []) ∷ scoped (scope 5 6 (0 ∷ 0 ∷ []) ∷ []) ∷ atsr 0 0 (scope 5 7 (0 ∷ 0 ∷ []) ∷ []) ∷ [])
    ++ map (λ e. keeps rule.AnddNowhere (dmar (andd 7 (0 ∷ []) ∷ e ∷ [])) []) unread_structures

-- the device scopes of the DMAR
abbrev pub dmar_scopes_examples : List Example
dmar_scopes_examples =
    map (λ (e : List ℕ × ℕ × ℕ × ℕ). breaks rule.ScopeCut (dmar (e.0 ∷ [])) [] e.1 e.2 e.3)
    ((scoped ((1 ∷ 7 ∷ zeros) ∷ []), 64, 7, 74) ∷ (scoped ((1 ∷ 11 ∷ zeros) ∷ []), 64, 11, 74) ∷ (scoped ((1 ∷ []) ∷ []), 64, 0, 65)
    ∷ (rmrr 0 0 (device ∷ (1 ∷ 0 ∷ []) ∷ []), 80, 0, 82) ∷ (atsr 0 0 ((1 ∷ []) ∷ []), 56, 0, 57)
    ∷ (remapping 5 8 [] ((1 ∷ []) ∷ []), 56, 0, 57) ∷ (remapping 6 8 [] ((1 ∷ []) ∷ []), 56, 0, 57) ∷ [])
    ++ map (λ e. keeps rule.ScopeCut (dmar (e ∷ [])) [])
    (scoped (device ∷ (1 ∷ 10 ∷ zeros) ∷ []) ∷ remapping 3 21 [] [] ∷ remapping 4 10 [] [] ∷ remapping 7 21 [] [] ∷ remapping 0 15 [] []
    ∷ [])
    ++ map (λ n. breaks rule.ScopeType (dmar (scoped (device ∷ scope n 0 (0 ∷ 0 ∷ []) ∷ []) ∷ [])) [] 72 0 n) (0 ∷ 6 ∷ 255 ∷ [])
    ++ map (λ n. keeps rule.ScopeType (dmar (rmrr 0 0 (device ∷ scope n 0 (0 ∷ 0 ∷ []) ∷ []) ∷ [])) []) (1 ∷ 2 ∷ 3 ∷ 4 ∷ 5 ∷ [])
    ++ breaks rule.ScopeType (dmar (scoped (scope 1 0 (0 ∷ 0 ∷ 99 ∷ []) ∷ []) ∷ [])) [] 64 1 9
    ∷ map (λ e. breaks rule.ScopeType (dmar (e ∷ [])) [] 80 0 32)
    (rmrr 0 0 (scope 1 0 (31 ∷ 7 ∷ 32 ∷ 8 ∷ []) ∷ []) ∷ scoped (device ∷ scope 2 0 (0 ∷ 0 ∷ 32 ∷ 0 ∷ []) ∷ []) ∷ [])
    ++ breaks rule.ScopeType (dmar (atsr 0 0 (scope 1 0 (31 ∷ 8 ∷ []) ∷ []) ∷ [])) [] 62 1 8
    ∷ edge rule.AnddNowhere (dmar (scoped (scope 5 7 (0 ∷ 0 ∷ []) ∷ []) ∷ andd 6 (0 ∷ []) ∷ [])) (64, 4, 7)
    (dmar (scoped (scope 5 7 (0 ∷ 0 ∷ []) ∷ []) ∷ andd 7 (0 ∷ []) ∷ []))
    ++ edge rule.AnddNowhere (dmar (atsr 0 0 (scope 5 7 (0 ∷ 0 ∷ []) ∷ []) ∷ [])) (56, 4, 7)
    (dmar (scoped (scope 4 7 (0 ∷ 0 ∷ []) ∷ []) ∷ []))
    ++ map (λ e. keeps rule.AnddNowhere (dmar (scoped (scope 5 7 (0 ∷ 0 ∷ []) ∷ []) ∷ e ∷ [])) []) unread_structures
    ++ edge rule.SameScope (dmar (scoped (scope 3 7 (0 ∷ 0 ∷ []) ∷ []) ∷ scoped (scope 3 7 (1 ∷ 0 ∷ []) ∷ []) ∷ [])) (88, 64, 7)
    (dmar (scoped (scope 3 7 (0 ∷ 0 ∷ []) ∷ scope 3 6 (1 ∷ 0 ∷ []) ∷ scope 4 7 (0 ∷ 0 ∷ []) ∷ scope 4 7 (0 ∷ 0 ∷ []) ∷ []) ∷ []))
    ++ keeps rule.SameScope (dmar (scoped (scope 3 7 (0 ∷ 0 ∷ []) ∷ []) ∷ atsr 0 0 (scope 3 7 (0 ∷ 0 ∷ []) ∷ []) ∷ [])) []
    ∷ []

-- the DMAR with the SRAT, and the MADT with the DMAR
abbrev pub dmar_with_srat_examples : List Example
dmar_with_srat_examples =
    breaks rule.RhsaDomain (dmar (rhsa 1 7 ∷ [])) (memory_in 8) 48 16 7
    ∷ map (keeps rule.RhsaDomain (dmar (rhsa 1 7 ∷ []))) (srats_of_seven ++ unread_srats)

abbrev pub madt_with_dmar_examples : List Example
madt_with_dmar_examples =
    breaks rule.IoApicUnmapped (madt (io_apic 2 1 ∷ io_apic 3 1 ∷ [])) (dmar_of 38 1 (scoped (scope 3 2 (0 ∷ 0 ∷ []) ∷ []) ∷ [])) 56 2 3
    ∷ map (λ e. breaks rule.IoApicUnmapped (madt (io_apic 3 1 ∷ [])) (dmar_of 38 3 (e ∷ [])) 44 2 3)
    (scoped [] ∷ scoped (scope 4 3 (0 ∷ 0 ∷ []) ∷ []) ∷ atsr 0 0 (scope 3 3 (0 ∷ 0 ∷ []) ∷ []) ∷ [])
    ++ map (keeps rule.IoApicUnmapped (madt (io_apic 3 1 ∷ [])))
    (dmar_of 38 1 (scoped (scope 3 3 (0 ∷ 0 ∷ []) ∷ []) ∷ []) ∷ dmar_of 38 2 (scoped [] ∷ []) ∷ patched 37 (1 ∷ []) (sized 1 47)
    ∷ map (λ e. dmar_of 38 1 (e ∷ [])) unread_structures)
    ++ map (λ e. keeps rule.IoApicUnmapped (madt (io_apic 3 1 ∷ e ∷ [])) (dmar_of 38 1 (scoped [] ∷ []))) ((9 ∷ []) ∷ entry 0 7 ∷ [])

-- the IVRS (AMD 48882, 5.2)
abbrev pub ivrs_examples : List Example
ivrs_examples =
    edge rule.IvrsCut (sized 1 47) (4, 48, 47) (sized 1 48)
    ++ edge rule.IvrsCut (ivrs ((9 ∷ 0 ∷ 3 ∷ 0 ∷ []) ∷ [])) (48, 3, 52) (ivrs ((9 ∷ 0 ∷ 4 ∷ 0 ∷ []) ∷ []))
    ++ breaks rule.IvrsCut (ivrs ((9 ∷ 0 ∷ 5 ∷ 0 ∷ []) ∷ [])) [] 48 5 52
    ∷ breaks rule.IvrsCut (ivrs (ivhd_10 0 0 4 [] ∷ (9 ∷ 0 ∷ 4 ∷ []) ∷ [])) [] 72 0 75
    ∷ map (λ (k : ℕ × ℕ). breaks rule.IvrsShort (ivrs (ivrs_block k.0 (k.1 - 1) [] [] ∷ [])) [] 48 k.1 (k.1 - 1)) least_blocks
    ++ map (λ (k : ℕ × ℕ). keeps rule.IvrsShort (ivrs (ivrs_block k.0 k.1 [] [] ∷ [])) []) ((0x12, 4) ∷ (0x24, 4) ∷ least_blocks)
    ++ breaks rule.NoIvhd (ivrs (ivmd 0x20 1 0 1 ∷ [])) [] 0 0 0
    ∷ breaks rule.NoIvhd (ivrs []) [] 0 0 0
    ∷ keeps rule.NoIvhd (sized 1 47) []
    ∷ map (λ e. keeps rule.NoIvhd (ivrs (e ∷ [])) [])
    ((9 ∷ []) ∷ ivrs_block 0x20 31 [] [] ∷ ivhd_10 0 0 4 [] ∷ ivhd 0x11 0 0 4 [] ∷ ivhd 0x40 0 0 4 [] ∷ [])
    ++ map (λ e. breaks rule.IvhdAddress (ivrs (e ∷ [])) [] 48 8 0) (ivhd_10 0 0 0 [] ∷ ivhd 0x11 0 0 0 [] ∷ ivhd 0x40 0 0 0 [] ∷ [])
    ++ map (λ e. breaks rule.IvhdAddress (ivrs (e ∷ [])) [] 48 8 0x2000)
    (ivhd_10 0 0 2 [] ∷ ivhd 0x11 0 0 2 [] ∷ ivhd 0x40 0 0 2 [] ∷ [])
    ++ map (λ e. keeps rule.IvhdAddress (ivrs (e ∷ [])) [])
    (ivhd_10 0 0 4 [] ∷ ivhd 0x11 0 0 4 [] ∷ ivhd 0x40 0 0 4 [] ∷ ivrs_block 0x10 23 [] [] ∷ ivhd 0x12 0 0 0 [] ∷ [])
    ++ breaks rule.SameIvhd (ivrs (ivhd_10 7 5 4 [] ∷ ivhd_10 7 5 4 [] ∷ [])) [] 72 48 7
    ∷ map (λ k. breaks rule.SameIvhd (ivrs (ivhd k 7 5 4 [] ∷ ivhd k 7 5 4 [] ∷ [])) [] 88 48 7) (0x11 ∷ 0x40 ∷ [])
    ++ map (λ bs. keeps rule.SameIvhd (ivrs bs) [])
    ((ivhd_10 7 5 4 [] ∷ ivhd_10 7 6 4 [] ∷ ivhd_10 8 5 4 [] ∷ []) ∷ (ivhd_10 7 5 4 [] ∷ ivhd 0x11 7 5 4 [] ∷ ivhd 0x40 7 5 4 [] ∷ []) ∷ [])
    ++ breaks rule.IvhdDiffers (ivrs (ivhd_10 7 5 4 [] ∷ ivhd 0x11 7 5 8 [] ∷ [])) [] 72 48 0x8000
    ∷ map (λ e. breaks rule.IvhdDiffers (ivrs (ivhd 0x11 7 5 4 [] ∷ e ∷ [])) [] 88 48 0x4000)
    (ivhd 0x40 7 6 4 [] ∷ ivhd_10 8 5 4 [] ∷ [])
    ++ map (λ e. keeps rule.IvhdDiffers (ivrs (ivhd_10 7 5 4 [] ∷ e ∷ [])) [])
    (ivhd 0x40 7 5 4 [] ∷ ivhd 0x11 8 6 8 [] ∷ ivhd_10 7 6 8 [] ∷ ivhd_10 8 5 8 [] ∷ [])
    ++ map (λ (m : List ℕ × ℕ × ℕ). breaks rule.IvmdRange (ivrs (m.0 ∷ [])) [] 48 m.1 m.2)
    ((ivmd 0x20 6 0 1, 1, 6) ∷ (ivmd 0x21 0x11 0 1, 1, 0x11) ∷ (patched 4 (6 ∷ []) (ivmd 0x22 1 0 1), 6, 5)
    ∷ (ivmd 0x20 1 0xfffffffffffff000 0x1001, 16, 0xfffffffffffff000) ∷ (ivmd 0x22 8 0 0, 24, 0) ∷ [])
    ++ map (λ m. keeps rule.IvmdRange (ivrs (m ∷ [])) [])
    (ivmd 0x20 15 0xfffffffffffff000 0x1000 ∷ ivmd 0x21 8 0 0xffffffffffffffff ∷ patched 4 (5 ∷ []) (ivmd 0x22 1 0 1)
    ∷ patched 4 (6 ∷ []) (ivmd 0x21 1 0 1) ∷ ivmd 0x23 0 0 0 ∷ [])

-- the device entries of the IVRS
abbrev pub devices_examples : List Example
devices_examples =
    map (λ (e : List ℕ × ℕ × ℕ). breaks rule.IvhdEntryCut (entries_in (entry_4 0x3f 0 ∷ e.0 ∷ [])) [] 76 e.1 e.2)
    ((0x80 ∷ 0 ∷ 0 ∷ 0 ∷ [], 0, 80) ∷ (1 ∷ 0 ∷ 0 ∷ [], 4, 79) ∷ (0x7f ∷ replicate 6 0, 8, 83) ∷ (0xf0 ∷ replicate 20 0, 0, 97)
    ∷ (0xf0 ∷ replicate 20 0 ++ 2 ∷ 0 ∷ [], 24, 99) ∷ (0xff ∷ replicate 30 0, 0, 107) ∷ [])
    ++ map (λ k. breaks rule.IvhdEntryCut (ivrs (ivhd k 0 0 4 ((1 ∷ []) ∷ []) ∷ [])) [] 88 4 89) (0x11 ∷ 0x40 ∷ [])
    ++ map (λ e. keeps rule.IvhdEntryCut (ivrs (e ∷ [])) [])
    (ivhd_10 0 0 4 (entry_4 0 0 ∷ entry_8 0x40 0 ∷ hid_device 1 2 3 ∷ []) ∷ ivhd 0x12 0 0 4 ((1 ∷ []) ∷ [])
    ∷ patched 0 (0x20 ∷ []) (ivmd 0x20 1 0 1 ++ 1 ∷ []) ∷ [])
    ++ map (λ k. breaks rule.IvhdEntryType (entries_in (entry_4 k 0 ∷ [])) [] 72 0 k) (5 ∷ 0x3f ∷ [])
    ++ map (λ k. breaks rule.IvhdEntryType (entries_in (entry_8 k 0 ∷ [])) [] 72 0 k) (0x41 ∷ 0x44 ∷ 0x45 ∷ 0x49 ∷ 0x7f ∷ [])
    ++ map (λ k. keeps rule.IvhdEntryType (entries_in (entry_4 k 0 ∷ [])) []) (0 ∷ 1 ∷ 2 ∷ 3 ∷ 4 ∷ [])
    ++ map (λ k. keeps rule.IvhdEntryType (entries_in (entry_8 k 0 ∷ [])) []) (0x40 ∷ 0x42 ∷ 0x43 ∷ 0x46 ∷ 0x47 ∷ [])
    ++ map (λ n. breaks rule.IvhdEntryType (entries_in (special 0 n ∷ [])) [] 72 7 n) (0 ∷ 4 ∷ [])
    ++ map (λ n. keeps rule.IvhdEntryType (entries_in (special 0 n ∷ [])) []) (1 ∷ 2 ∷ 3 ∷ [])
    ++ breaks rule.IvhdEntryType (entries_in (hid_device 1 2 0 ∷ [])) [] 72 0 0xf0
    ∷ breaks rule.IvhdEntryType (ivrs (ivhd 0x11 0 0 4 (hid_device 1 2 0 ∷ []) ∷ [])) [] 88 0 0xf0
    ∷ map (λ (h : List ℕ × ℕ × ℕ). breaks rule.IvhdEntryType (ivrs (ivhd 0x40 0 0 4 (h.0 ∷ []) ∷ [])) [] 88 h.1 h.2)
    ((hid_device 0 2 0, 4, 0) ∷ (hid_device 1 3 0, 20, 3) ∷ (hid_device 1 0 1, 21, 1) ∷ (hid_device 1 1 7, 21, 7)
    ∷ (hid_device 1 1 0, 21, 0) ∷ [])
    ++ map (λ h. keeps rule.IvhdEntryType (ivrs (ivhd 0x40 0 0 4 (h ∷ []) ∷ [])) [])
    (hid_device 1 0 0 ∷ hid_device 1 1 8 ∷ hid_device 1 2 3 ∷ [])
    ++ map (λ es. breaks rule.IvhdRange (entries_in es) [] 72 1 7)
    ((entry_4 3 7 ∷ []) ∷ (entry_8 0x43 7 ∷ []) ∷ (entry_8 0x47 7 ∷ []) ∷ (entry_4 3 7 ∷ entry_4 2 8 ∷ [])
    ∷ (entry_8 0x43 7 ∷ entry_8 0x46 8 ∷ []) ∷ (entry_8 0x47 7 ∷ entry_4 3 8 ∷ entry_4 4 9 ∷ []) ∷ (entry_4 4 7 ∷ []) ∷ [])
    ++ map (λ es. breaks rule.IvhdRange (entries_in es) [] 76 1 7)
    ((entry_4 2 7 ∷ entry_4 4 7 ∷ []) ∷ (entry_4 0 7 ∷ entry_4 4 7 ∷ []) ∷ (entry_4 3 8 ∷ entry_4 4 7 ∷ []) ∷ [])
    ++ map (λ k. breaks rule.IvhdRange (entries_in (entry_8 k 8 ∷ entry_4 4 7 ∷ [])) [] 80 1 7) (0x42 ∷ 0x43 ∷ 0x46 ∷ 0x47 ∷ 0x48 ∷ [])
    ++ breaks rule.IvhdRange (entries_in (entry_4 3 7 ∷ entry_4 4 7 ∷ entry_4 4 9 ∷ [])) [] 80 1 9
    ∷ map (λ k. breaks rule.IvhdRange (ivrs (ivhd k 0 0 4 (entry_4 4 7 ∷ []) ∷ [])) [] 88 1 7) (0x11 ∷ 0x40 ∷ [])
    ++ map (λ es. keeps rule.IvhdRange (entries_in es) [])
    ((entry_4 3 7 ∷ entry_4 4 7 ∷ []) ∷ (entry_8 0x43 7 ∷ entry_4 4 8 ∷ entry_8 0x47 9 ∷ entry_4 4 9 ∷ []) ∷ (entry_4 3 7 ∷ (4 ∷ []) ∷ [])
    ∷ [])
    ++ breaks rule.SameSpecial (entries_in (special 7 1 ∷ special 7 1 ∷ [])) [] 80 72 7
    ∷ map (λ k. breaks rule.SameSpecial (ivrs (ivhd k 0 0 4 (special 7 2 ∷ []) ∷ ivhd k 1 0 8 (special 7 2 ∷ []) ∷ [])) [] 136 88 7)
    (0x11 ∷ 0x40 ∷ [])
    ++ map (λ bs. keeps rule.SameSpecial (ivrs bs) [])
    ((ivhd_10 0 0 4 (special 7 1 ∷ special 7 2 ∷ special 6 1 ∷ []) ∷ [])
    ∷ (ivhd_10 0 0 4 (special 7 1 ∷ []) ∷ ivhd 0x11 0 0 4 (special 7 1 ∷ []) ∷ ivhd 0x40 0 0 4 (special 7 1 ∷ []) ∷ []) ∷ [])

-- the MADT with the IVRS
abbrev pub madt_with_ivrs_examples : List Example
madt_with_ivrs_examples =
    breaks rule.IoApicNotInIvrs (madt (io_apic 2 1 ∷ io_apic 3 1 ∷ [])) (entries_in (special 2 1 ∷ [])) 56 2 3
    ∷ map (λ e. breaks rule.IoApicNotInIvrs (madt (io_apic 3 1 ∷ [])) (ivrs (ivhd_10 0 0 4 (special 3 1 ∷ []) ∷ e ∷ [])) 44 2 3)
    (ivhd 0x11 0 0 4 (special 2 1 ∷ []) ∷ ivhd 0x40 0 0 4 (special 2 1 ∷ special 3 2 ∷ []) ∷ [])
    ++ map (λ bs. keeps rule.IoApicNotInIvrs (madt (io_apic 3 1 ∷ [])) (ivrs bs))
    ((ivhd_10 0 0 4 (special 2 1 ∷ special 3 1 ∷ []) ∷ []) ∷ (ivhd_10 0 0 4 (special 2 2 ∷ []) ∷ []) ∷ (ivhd 0x40 0 0 4 [] ∷ [])
    ∷ map (λ e. ivhd_10 0 0 4 (special 2 1 ∷ []) ∷ e ∷ []) ((9 ∷ []) ∷ ivrs_block 0x20 31 [] [] ∷ ivhd 0x11 0 0 4 ((1 ∷ []) ∷ []) ∷ []))
    ++ map (λ e. keeps rule.IoApicNotInIvrs (madt (io_apic 3 1 ∷ e ∷ [])) (entries_in (special 2 1 ∷ []))) ((9 ∷ []) ∷ entry 0 7 ∷ [])

-- each of these finds what it says
pub record AreRowsFound : Type 0 where
  pub madt : AreFound madt_group.rows madt_examples
  pub madt_further : AreFound madt_further_group.rows madt_further_examples
  pub gic : AreFound gic_group.rows gic_examples
  pub madt_with_fadt : AreFound madt_with_fadt_group.rows madt_with_fadt_examples
  pub fadt_with_madt : AreFound fadt_with_madt_group.rows fadt_with_madt_examples
  pub madt_with_srat : AreFound madt_with_srat_group.rows madt_with_srat_examples
  pub srat_with_madt : AreFound srat_with_madt_group.rows srat_with_madt_examples
  pub srat : AreFound srat_group.rows srat_examples
  pub srat_with_slit : AreFound srat_with_slit_group.rows srat_with_slit_examples
  pub madt_with_pptt : AreFound madt_with_pptt_group.rows madt_with_pptt_examples
  pub pptt_with_madt : AreFound pptt_with_madt_group.rows pptt_with_madt_examples
  pub pptt : AreFound pptt_group.rows pptt_examples
  pub fadt : AreFound fadt_group.rows fadt_examples
  pub fadt_further : AreFound fadt_further_group.rows fadt_further_examples
  pub mcfg : AreFound mcfg_group.rows mcfg_examples
  pub hpet : AreFound hpet_group.rows hpet_examples
  pub spcr : AreFound spcr_group.rows spcr_examples
  pub spcr_with_madt : AreFound spcr_with_madt_group.rows spcr_with_madt_examples
  pub hmat : AreFound hmat_group.rows hmat_examples
  pub hmat_with_srat : AreFound hmat_with_srat_group.rows hmat_with_srat_examples
  pub gtdt : AreFound gtdt_group.rows gtdt_examples
  pub gtdt_with_madt : AreFound gtdt_with_madt_group.rows gtdt_with_madt_examples
  pub dmar : AreFound dmar_group.rows dmar_examples
  pub dmar_scopes : AreFound dmar_scopes_group.rows dmar_scopes_examples
  pub dmar_with_srat : AreFound dmar_with_srat_group.rows dmar_with_srat_examples
  pub madt_with_dmar : AreFound madt_with_dmar_group.rows madt_with_dmar_examples
  pub ivrs : AreFound ivrs_group.rows ivrs_examples
  pub devices : AreFound devices_group.rows devices_examples
  pub madt_with_ivrs : AreFound madt_with_ivrs_group.rows madt_with_ivrs_examples
