-- From what is found in a table to what is found in the set that lists it, and for the rules that look at it.
use Rattle.std.proofs.Common.{◌≡◌, ℕ, ◌≤◌, List, length, Option, Some, None, Result, Ok, Err, refl, arith, ◌<◌}
use Rattle.std.specs.Prelude.{◌↔◌, IfOk, MatchOption}
use Rattle.std.proofs.lemmas.Option.{same_Some}
use Rattle.acpi_base.specs.Contents.{HasPptt}
use Rattle.acpi_lint.specs.RowGroups.{OfTable}
use Rattle.acpi_lint.specs.FurtherTables.{further_signature, row_length, row_signature}
use Rattle.acpi_lint.specs.Rules.Broken.{OfFadt, OfMadt}
use Rattle.acpi_base.specs.Listed.{fadt_signature, madt_signature, srat_signature, slit_signature, pptt_signature, HasListed, IsListedTable}
use Rattle.acpi_base.specs.Madt.{madt_contents}
use Rattle.acpi_base.specs.Memory.{Memory}
use Rattle.acpi_base.specs.Policy.{PolicyValue}
use Rattle.acpi_base.specs.Pptt.{pptt_contents}
use Rattle.acpi_base.proofs.Faults.ListedTables.{of_listed}
use Rattle.acpi_rules.specs.Places.{FindsLeast}
use Rattle.acpi_lint.specs.CompleteTables.{IsFound, IsLong, AreCompleteTables, further_of, row_table_of, table_of}
use Rattle.acpi_rules.specs.declared.place.Place.{Place}
use Rattle.acpi_lint.specs.declared.complete_tables.CompleteTables.{CompleteTables}
use Rattle.acpi_lint.proofs.CollectedNumbers.{each_ok}
use Rattle.acpi_rules.proofs.LeastPlaces.{least_as}
use Rattle.acpi_base.specs.Root.{IsSlot}
use Rattle.acpi_base.specs.TableKinds.{signature_of}
use Rattle.acpi_base.specs.declared.table_kind.TableKind.{TableKind}
use Rattle.acpi_lint.specs.Slots.{IsRootOf, IsSought, AreSlots, AreFirstSlots, FindsSlot, first_of, first_of_further}
use Rattle.acpi_base.specs.declared.table_kind.TableKind.TheVariants as kind
use Rattle.acpi_lint.specs.declared.first_slots.FirstSlots.{FirstSlots}
use Rattle.acpi_lint.specs.declared.further_table.FurtherTable.{FurtherTable}
use Rattle.acpi_lint.specs.declared.further_table.FurtherTable.TheVariants as further
use Rattle.acpi_lint.specs.declared.further_table.RowTable.{RowTable}
use Rattle.acpi_lint.specs.declared.further_table.RowTable.TheVariants.{Further, Kind}
use Rattle.acpi_lint.specs.declared.table_at.Sought.TheVariants as sought

pub of_table : {m : Memory} {p : ℕ} {signature whole : List ℕ} (P : List ℕ → ℕ → ℕ → ℕ → Type 0) (found : Option Place)
    → IsListedTable m p signature whole → FindsLeast (P whole) found
    → FindsLeast (λ at other point. HasListed m p signature (λ bytes. P bytes at other point)) found
of_table {whole = whole} P found listed first =
    least_as found (λ at other point holds. (whole, listed, holds))
    (λ at other point has. of_listed (λ bytes. P bytes at other point) listed has) first

pub of_no_table : {m : Memory} {p : ℕ} {signature : List ℕ} (P : List ℕ → ℕ → ℕ → ℕ → Type 0)
    → ((whole : List ℕ) → ¬ IsListedTable m p signature whole)
    → FindsLeast (λ at other point. HasListed m p signature (λ bytes. P bytes at other point)) None
of_no_table P none = λ at other point (whole, listed, holds). none whole listed

-- what is found in the table that was looked for, if there is one, is found in the set
pub of_found : (m : Memory) (p : ℕ) (signature : List ℕ) {whole : List ℕ} {found : Option (List ℕ)}
    (P : List ℕ → ℕ → ℕ → ℕ → Type 0) (place : Option Place) → IsFound m p signature found → found ≡ Some whole
    → FindsLeast (P whole) place
    → FindsLeast (λ at other point. HasListed m p signature (λ bytes. P bytes at other point)) place
of_found m p signature P place looked is least = of_table P place (rw is at looked) least

pub of_not_found : (m : Memory) (p : ℕ) (signature : List ℕ) {found : Option (List ℕ)}
    (P : List ℕ → ℕ → ℕ → ℕ → Type 0) → IsFound m p signature found → found ≡ None
    → FindsLeast (λ at other point. HasListed m p signature (λ bytes. P bytes at other point)) None
of_not_found m p signature P looked is = of_no_table P (rw is at looked)

-- what a table that is found and long enough says is what the set says
pub some_long : (m : Memory) (p : ℕ) (signature : List ℕ) (P : List ℕ → ℕ → ℕ → ℕ → Type 0) {X : Type 0}
    {found : Option (List ℕ)} {whole : List ℕ} (r : Result (Option Place) X) → IsFound m p signature found
    → found ≡ Some whole → IfOk r (FindsLeast (P whole))
    → IfOk r (FindsLeast (λ at other point. HasListed m p signature (λ bytes. P bytes at other point)))
some_long m p signature P (Ok place) looked is least = of_found m p signature P place looked is least
some_long m p signature P (Err e) looked is least = tt

-- a table that is not found, or too short, says nothing, if those that are too short say nothing
pub none_long : (m : Memory) (p : ℕ) (signature : List ℕ) (least : ℕ) (P : List ℕ → ℕ → ℕ → ℕ → Type 0)
    (found : Option (List ℕ)) → IsFound m p signature found → IsLong least found None
    → ((whole : List ℕ) → length whole < least → (at other point : ℕ) → ¬ P whole at other point)
    → FindsLeast (λ at other point. HasListed m p signature (λ bytes. P bytes at other point)) None
none_long m p signature least P None looked long short = of_no_table P looked
none_long m p signature least P (Some bytes) looked long short =
    of_table P None looked (short bytes (long bytes refl))

-- these are the first slots of each kind, and of each further table
pub are_first_slots : {m : Memory} {p : ℕ} (firsts : FirstSlots)
    → FindsSlot m p (IsSought m (sought.Kind kind.Fadt)) firsts.fadt
    → FindsSlot m p (IsSought m (sought.Kind kind.Madt)) firsts.madt
    → FindsSlot m p (IsSought m (sought.Kind kind.Srat)) firsts.srat
    → FindsSlot m p (IsSought m (sought.Kind kind.Slit)) firsts.slit
    → FindsSlot m p (IsSought m (sought.Kind kind.Pptt)) firsts.pptt
    → FindsSlot m p (IsSought m (sought.Further further.Mcfg)) firsts.mcfg
    → FindsSlot m p (IsSought m (sought.Further further.Hpet)) firsts.hpet
    → FindsSlot m p (IsSought m (sought.Further further.Hmat)) firsts.hmat
    → FindsSlot m p (IsSought m (sought.Further further.Gtdt)) firsts.gtdt
    → FindsSlot m p (IsSought m (sought.Further further.Dmar)) firsts.dmar
    → FindsSlot m p (IsSought m (sought.Further further.Ivrs)) firsts.ivrs
    → FindsSlot m p (IsSought m (sought.Further further.Spcr)) firsts.spcr → AreFirstSlots m p firsts
are_first_slots {m} {p} firsts fadt madt srat slit pptt mcfg hpet hmat gtdt dmar ivrs spcr =
    record { kinds = kinds; further = all }
  where
    kinds : (k : TableKind) → FindsSlot m p (IsSought m (sought.Kind k)) (first_of firsts k)
    kinds kind.Fadt = fadt
    kinds kind.Madt = madt
    kinds kind.Srat = srat
    kinds kind.Slit = slit
    kinds kind.Pptt = pptt

    all : (t : FurtherTable) → FindsSlot m p (IsSought m (sought.Further t)) (first_of_further firsts t)
    all further.Mcfg = mcfg
    all further.Hpet = hpet
    all further.Hmat = hmat
    all further.Gtdt = gtdt
    all further.Dmar = dmar
    all further.Ivrs = ivrs
    all further.Spcr = spcr

-- the root table and each table are those of the set
pub are_whole : {m : Memory} {p : ℕ} (tables : CompleteTables)
    → IsRootOf m p tables.root → AreSlots m (IsSlot m p) tables.slots.items → AreFirstSlots m p tables.firsts
    → IsFound m p fadt_signature tables.fadt → IsFound m p madt_signature tables.madt
    → IsFound m p srat_signature tables.srat → IsFound m p slit_signature tables.slit
    → IsFound m p pptt_signature tables.pptt → IsFound m p (further_signature further.Mcfg) tables.mcfg
    → IsFound m p (further_signature further.Hpet) tables.hpet
    → IsFound m p (further_signature further.Hmat) tables.hmat
    → IsFound m p (further_signature further.Gtdt) tables.gtdt
    → IsFound m p (further_signature further.Dmar) tables.dmar
    → IsFound m p (further_signature further.Ivrs) tables.ivrs
    → IsFound m p (further_signature further.Spcr) tables.spcr → AreCompleteTables m p tables
are_whole {m} {p} tables root slots firsts fadt madt srat slit pptt mcfg hpet hmat gtdt dmar ivrs spcr =
    record { root = root; slots = slots; firsts = firsts; listed = listed; further = all }
  where
    listed : (k : TableKind) → IsFound m p (signature_of k) (table_of tables k)
    listed kind.Fadt = fadt
    listed kind.Madt = madt
    listed kind.Srat = srat
    listed kind.Slit = slit
    listed kind.Pptt = pptt

    all : (t : FurtherTable) → IsFound m p (further_signature t) (further_of tables t)
    all further.Mcfg = mcfg
    all further.Hpet = hpet
    all further.Hmat = hmat
    all further.Gtdt = gtdt
    all further.Dmar = dmar
    all further.Ivrs = ivrs
    all further.Spcr = spcr

-- any table is that of the set
pub row_listed : {m : Memory} {p : ℕ} {tables : CompleteTables} → AreCompleteTables m p tables → (t : RowTable)
    → IsFound m p (row_signature t) (row_table_of tables t)
row_listed are (Kind k) = are.listed k
row_listed are (Further t) = are.further t

-- ---- the tables of a set

-- `Of P` says that P holds for what the set's table says: for what this view says, and without a view P does not hold
abbrev pub Lifts : {C : Type 0} → ((C → Type 0) → Type 0) → (List ℕ → C) → Option (List ℕ) → Type 1
Lifts {C} Of read None = (P : C → Type 0) → ¬ Of P
Lifts {C} Of read (Some whole) = (P : C → Type 0) → Of P ↔ P (read whole)

pub listed_lifts : (m : Memory) (p : ℕ) (signature : List ℕ) (found : Option (List ℕ)) → IsFound m p signature found
    → Lifts (HasListed m p signature) (λ whole. whole) found
listed_lifts m p signature None looked = λ P (whole, listed, holds). looked whole listed
listed_lifts m p signature (Some whole) looked = λ P. (
  λ has. of_listed P looked has,
  λ holds. (whole, looked, holds),
)

long_lifts : (Of : (List ℕ → Type 0) → Type 0) (least : ℕ) (found view : Option (List ℕ)) → Lifts Of (λ whole. whole)
    found
    → IsLong least found view → Lifts (λ P. Of (λ whole. (least ≤ length whole) × P whole)) (λ whole. whole) view
long_lifts Of least None None lifts long = λ P. lifts (λ whole. (least ≤ length whole) × P whole)
long_lifts Of least None (Some whole) lifts (is, size) = cc
long_lifts Of least (Some whole) None lifts long = λ P has.
    let (size, _) = (lifts (λ whole. (least ≤ length whole) × P whole)).0 has in omega (arith, size, long whole refl)
long_lifts Of least (Some other) (Some whole) lifts (is, size) = λ P.
    let same : other ≡ whole = same_Some other whole is in
    let both = rw same at (lifts (λ whole. (least ≤ length whole) × P whole)) in
    (λ has. (both.0 has).1, λ holds. both.1 (size, holds))

read_lifts : {C : Type 0} (Of : (List ℕ → Type 0) → Type 0) (read : List ℕ → C) (view : Option (List ℕ))
    → Lifts Of (λ whole. whole) view → Lifts (λ P. Of (λ whole. P (read whole))) read view
read_lifts Of read None lifts = λ P. lifts (λ whole. P (read whole))
read_lifts Of read (Some whole) lifts = λ P. lifts (λ whole. P (read whole))

pub fadt_lifts : (m : Memory) (q : PolicyValue) {tables : CompleteTables} (view : Option (List ℕ))
    → AreCompleteTables m q.rsdp tables → IsLong 116 tables.fadt view → Lifts (OfFadt m q) (λ whole. whole) view
fadt_lifts m q {tables = tables} view are long =
    long_lifts (HasListed m q.rsdp fadt_signature) 116 tables.fadt view
    (listed_lifts m q.rsdp fadt_signature tables.fadt (are.listed kind.Fadt)) long

pub madt_lifts : (m : Memory) (q : PolicyValue) {tables : CompleteTables} (view : Option (List ℕ))
    → AreCompleteTables m q.rsdp tables → IsLong 44 tables.madt view → Lifts (OfMadt m q) madt_contents view
unfolding madt_contents
madt_lifts m q {tables = tables} view are long =
    read_lifts (λ P. HasListed m q.rsdp madt_signature (λ whole. (44 ≤ length whole) × P whole)) madt_contents view
    (long_lifts (HasListed m q.rsdp madt_signature) 44 tables.madt view
    (listed_lifts m q.rsdp madt_signature tables.madt (are.listed kind.Madt)) long)

pub pptt_lifts : (m : Memory) (q : PolicyValue) {tables : CompleteTables} (view : Option (List ℕ))
    → AreCompleteTables m q.rsdp tables → view ≡ tables.pptt → Lifts (HasPptt m q) pptt_contents view
pptt_lifts m q {tables = tables} view are is =
    read_lifts (HasListed m q.rsdp pptt_signature) pptt_contents view
    (rw is (listed_lifts m q.rsdp pptt_signature tables.pptt (are.listed kind.Pptt)))

-- the bytes of a table that has all its fields
pub table_lifts : (table : RowTable) (m : Memory) (q : PolicyValue) {tables : CompleteTables}
    (view : Option (List ℕ)) → AreCompleteTables m q.rsdp tables
    → IsLong (row_length table) (row_table_of tables table) view → Lifts (OfTable table m q) (λ whole. whole) view
table_lifts table m q {tables = tables} view are long =
    long_lifts (HasListed m q.rsdp (row_signature table)) (row_length table) (row_table_of tables table) view
    (listed_lifts m q.rsdp (row_signature table) (row_table_of tables table) (row_listed are table)) long

-- ---- what is found in one table

-- P holds nowhere if there is no view of the table
pub not_there : {C : Type 0} (Of : (C → Type 0) → Type 0) (read : List ℕ → C) {view : Option (List ℕ)}
    (P : C → ℕ → ℕ → ℕ → Type 0) → Lifts Of read view → view ≡ None
    → FindsLeast (λ at other point. Of (λ c. P c at other point)) None
not_there Of read {view} P lifts none = λ at other point. (rw none at lifts) (λ c. P c at other point)

-- what is found in the view is found in the set
pub there : {C : Type 0} (Of : (C → Type 0) → Type 0) (read : List ℕ → C) {view : Option (List ℕ)} {whole : List ℕ}
    (P : C → ℕ → ℕ → ℕ → Type 0) (found : Option Place) → Lifts Of read view → view ≡ Some whole
    → FindsLeast (P (read whole)) found → FindsLeast (λ at other point. Of (λ c. P c at other point)) found
there Of read P found lifts is least =
    let lift = rw is at lifts in
    least_as found (λ at other point holds. (lift (λ c. P c at other point)).1 holds)
    (λ at other point has. (lift (λ c. P c at other point)).0 has) least

-- the same for two tables: the first is missing, the second is, and neither
pub first_missing : {C D : Type 0} (Of : (C → Type 0) → Type 0) (read : List ℕ → C) (With : (D → Type 0) → Type 0)
    {first : Option (List ℕ)} (P : C → D → ℕ → ℕ → ℕ → Type 0) → Lifts Of read first → first ≡ None
    → FindsLeast (λ at other point. Of (λ c. With (λ d. P c d at other point))) None
first_missing Of read With P lifts none =
    not_there Of read (λ c at other point. With (λ d. P c d at other point)) lifts none

pub second_missing : {C D : Type 0} (Of : (C → Type 0) → Type 0) (read : List ℕ → C) (With : (D → Type 0) → Type 0)
    (say : List ℕ → D) {first second : Option (List ℕ)} {one : List ℕ} (P : C → D → ℕ → ℕ → ℕ → Type 0)
    → Lifts Of read first → first ≡ Some one → Lifts With say second → second ≡ None
    → FindsLeast (λ at other point. Of (λ c. With (λ d. P c d at other point))) None
second_missing Of read With say {one = one} P lifts is more none =
    there Of read (λ c at other point. With (λ d. P c d at other point)) None lifts is
    (not_there With say (P (read one)) more none)

pub both_there : {C D : Type 0} (Of : (C → Type 0) → Type 0) (read : List ℕ → C) (With : (D → Type 0) → Type 0)
    (say : List ℕ → D) {first second : Option (List ℕ)} {one two : List ℕ} (P : C → D → ℕ → ℕ → ℕ → Type 0)
    (found : Option Place) → Lifts Of read first → first ≡ Some one → Lifts With say second → second ≡ Some two
    → FindsLeast (P (read one) (say two)) found
    → FindsLeast (λ at other point. Of (λ c. With (λ d. P c d at other point))) found
both_there Of read With say {one = one} P found lifts is more also least =
    there Of read (λ c at other point. With (λ d. P c d at other point)) found lifts is
    (there With say (P (read one)) found more also least)

pub of_one : {C : Type 0} (Of : (C → Type 0) → Type 0) (read : List ℕ → C) (P : C → ℕ → ℕ → ℕ → Type 0) {X A : Type 0}
    {B : List ℕ → Type 0} (r : Result (Option Place) X) (view : Option (List ℕ)) → Lifts Of read view
    → MatchOption view A B → (A → r ≡ Ok None)
    → ((whole : List ℕ) → B whole → IfOk r (FindsLeast (P (read whole))))
    → IfOk r (FindsLeast (λ at other point. Of (λ c. P c at other point)))
of_one Of read P r None lifts is none some = rw (none is) (λ at other point has. lifts (λ c. P c at other point) has)
of_one Of read P r (Some whole) lifts is none some =
    each_ok r (λ found least. there Of read P found lifts refl least) (some whole is)

-- ---- the SRAT and the SLIT

pub slit_found : (m : Memory) (q : PolicyValue) {tables : CompleteTables} (view : Option (List ℕ))
    → AreCompleteTables m q.rsdp tables → view ≡ tables.slit
    → Lifts (HasListed m q.rsdp slit_signature) (λ whole. whole) view
slit_found m q {tables = tables} view are is =
    rw is (listed_lifts m q.rsdp slit_signature tables.slit (are.listed kind.Slit))
