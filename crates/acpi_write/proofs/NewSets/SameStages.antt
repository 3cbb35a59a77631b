-- The stages of the tables with entries hold for a set if each of its tables says what one of a clean set says.
use Rattle.std.proofs.Common.{◌≡◌, ℕ, List, sym, subst}
use Rattle.acpi_base.specs.Memory.{Memory}
use Rattle.acpi_base.specs.Policy.{PolicyValue, with_rsdp, inputs_of}
use Rattle.acpi_base.specs.Rsdp.{IsValidRsdp}
use Rattle.acpi_base.specs.Root.{IsValidRoot}
use Rattle.acpi_base.specs.Fadt.{IsValidFadt}
use Rattle.acpi_base.specs.Facs.{IsValidFacs}
use Rattle.acpi_base.specs.Listed.{srat_signature, pptt_signature, IsListedTable, ForListed}
use Rattle.acpi_base.specs.Madt as madt
use Rattle.acpi_base.specs.Madt.{MadtContents, Serves, IsValidMadt, AreInterruptsApart, DoOverridesAgree}
use Rattle.acpi_base.specs.Srat.{srat_contents, IsValidSrat, AreRangesApart}
use Rattle.acpi_base.specs.Slit.{IsValidSlit}
use Rattle.acpi_base.specs.Pptt.{pptt_contents, IsCutPptt, AreReferencesValid, DoParentsEnd, DoCachesEnd}
use Rattle.acpi_base.specs.Across.{HaveOneDomain, AreNamedServed, AreLeavesKnown}
use Rattle.acpi_base.specs.Statements.{AreValidTables, Holds, IsClean}
use Rattle.acpi_base.specs.declared.stage.Stage.{Stage}
use Rattle.acpi_base.specs.declared.stage.Stage.TheVariants as stage
use Rattle.acpi_base.specs.TableKinds.{signature_of}
use Rattle.acpi_base.specs.declared.table_kind.TableKind.{TableKind}
use Rattle.acpi_base.specs.declared.table_kind.TableKind.TheVariants as kind
use Rattle.acpi_write.specs.Bodies.{ContentsOf, contents_of}

-- each table of the image n that is the first of its kind says what that of the image m says
abbrev pub AreSameListed : Memory → ℕ → Memory → ℕ → Type 0
AreSameListed m p n base =
    (kind : TableKind) (new : List ℕ) → IsListedTable n base (signature_of kind) new
    → (old : List ℕ) × IsListedTable m p (signature_of kind) old × (contents_of kind new ≡ contents_of kind old)

-- the first five stages hold
pub record IsValidFront (m : Memory) (p : ℕ) : Type 0 where
  pub rsdp : IsValidRsdp m p
  pub root : IsValidRoot m p
  pub tables : AreValidTables m p
  pub fadt : IsValidFadt m p
  pub facs : IsValidFacs m p

-- ---- the policy: the requirements on a MADT do not depend on the RSDP's address

entry_again : (q : PolicyValue) (base : ℕ) (e : madt.MadtEntry) → madt.IsValidMadtEntry q e
    → madt.IsValidMadtEntry (with_rsdp q base) e
unfolding inputs_of
entry_again q base (madt.IoApic v) valid = valid
entry_again q base _ valid = valid

madt_again : (q : PolicyValue) (base : ℕ) (c : MadtContents) → IsValidMadt q c → IsValidMadt (with_rsdp q base) c
madt_again q base c valid = record {
  long = valid.long;
  filled = valid.filled;
  entries = λ o e stands. entry_again q base e (valid.entries o e stands);
  one_address = valid.one_address;
}

serves_again : (q : PolicyValue) (base start g : ℕ) (e : madt.MadtEntry) → madt.ServesFrom q start g e
    → madt.ServesFrom (with_rsdp q base) start g e
unfolding inputs_of
serves_again q base start g (madt.IoApic v) serves = serves
serves_again q base start g e serves = absurd serves

serves_before : (q : PolicyValue) (base start g : ℕ) (e : madt.MadtEntry) → madt.ServesFrom (with_rsdp q base) start g e
    → madt.ServesFrom q start g e
unfolding inputs_of
serves_before q base start g (madt.IoApic v) serves = serves
serves_before q base start g e serves = absurd serves

apart_again : (q : PolicyValue) (base : ℕ) (c : MadtContents) → AreInterruptsApart q c
    → AreInterruptsApart (with_rsdp q base) c
apart_again q base c apart o p x clash =
    let one = clash.one_holds in
    let other = clash.other_holds in
    apart o p x (record {
      s = clash.s;
      t = clash.t;
      one_holds = (one.0, one.1, serves_before q base clash.s x one.0 one.2);
      other_holds = (other.0, other.1, serves_before q base clash.t x other.0 other.2);
      two = clash.two;
    })

served_again : (q : PolicyValue) (base : ℕ) (c : MadtContents) → AreNamedServed q c
    → AreNamedServed (with_rsdp q base) c
served_again q base c served has o g names =
    let by = served has o g names in
    let entry = by.2 in
    (by.0, by.1, (entry.0, entry.1, serves_again q base by.1 g entry.0 entry.2))

-- ---- the requirements on contents

module _ {m n : Memory} {p base : ℕ} (same : AreSameListed m p n base) where
  moved : (kind : TableKind) (P Q : ContentsOf kind → Type 0) → ((c : ContentsOf kind) → P c → Q c)
      → ForListed m p (signature_of kind) (λ whole. P (contents_of kind whole))
      → ForListed n base (signature_of kind) (λ whole. Q (contents_of kind whole))
  moved kind P Q weaker holds new is =
      let from = same kind new is in
      subst Q (sym from.2) (weaker (contents_of kind from.0) (holds from.0 from.1))

  still : (kind : TableKind) (P : ContentsOf kind → Type 0)
      → ForListed m p (signature_of kind) (λ whole. P (contents_of kind whole))
      → ForListed n base (signature_of kind) (λ whole. P (contents_of kind whole))
  still kind P = moved kind P P (λ c holds. holds)

pub clean_again : (m n : Memory) (q : PolicyValue) (base : ℕ) → IsClean m q → AreSameListed m q.rsdp n base
    → IsValidFront n base → IsClean n (with_rsdp q base)
clean_again m n q base clean same front = each
  where
    each : (s : Stage) → Holds s n (with_rsdp q base)
    each stage.Rsdp = front.rsdp
    each stage.Root = front.root
    each stage.Tables = front.tables
    each stage.Fadt = front.fadt
    each stage.Facs = front.facs
    each stage.Madt =
        moved same kind.Madt (IsValidMadt q) (IsValidMadt (with_rsdp q base)) (madt_again q base) (clean stage.Madt)
    each stage.Interrupts =
        moved same kind.Madt (AreInterruptsApart q) (AreInterruptsApart (with_rsdp q base)) (apart_again q base)
        (clean stage.Interrupts)
    each stage.Overrides = still same kind.Madt DoOverridesAgree (clean stage.Overrides)
    each stage.Srat = still same kind.Srat IsValidSrat (clean stage.Srat)
    each stage.Ranges = still same kind.Srat (AreRangesApart q.hotplug) (clean stage.Ranges)
    each stage.Slit = still same kind.Slit IsValidSlit (clean stage.Slit)
    each stage.Pptt = still same kind.Pptt IsCutPptt (clean stage.Pptt)
    each stage.References = still same kind.Pptt AreReferencesValid (clean stage.References)
    each stage.Parents = still same kind.Pptt DoParentsEnd (clean stage.Parents)
    each stage.Caches = still same kind.Pptt DoCachesEnd (clean stage.Caches)
    each stage.Domains =
        moved same kind.Madt (λ c. ForListed m q.rsdp srat_signature
        (λ whole. HaveOneDomain q.processors c (srat_contents whole)))
        (λ c. ForListed n base srat_signature (λ whole. HaveOneDomain q.processors c (srat_contents whole)))
        (λ c holds. still same kind.Srat (HaveOneDomain q.processors c) holds)
        (clean stage.Domains)
    each stage.Served =
        moved same kind.Madt (AreNamedServed q) (AreNamedServed (with_rsdp q base)) (served_again q base)
        (clean stage.Served)
    each stage.Leaves =
        moved same kind.Madt (λ c. ForListed m q.rsdp pptt_signature (λ whole. AreLeavesKnown c (pptt_contents whole)))
        (λ c. ForListed n base pptt_signature (λ whole. AreLeavesKnown c (pptt_contents whole)))
        (λ c holds. still same kind.Pptt (AreLeavesKnown c) holds)
        (clean stage.Leaves)
