-- The fault of processors in two domains: it can be decided, and there is none exactly if each has one domain; the
-- bounds of its numbers.
use Rattle.std.proofs.Common.{◌≡◌, ◌≢◌, ℕ, ◌^◌, ◌<◌, List, length, refl, sym, subst, inl, inr, arith}
use Rattle.std.specs.Prelude.{slice_index}
use Rattle.std.proofs.lemmas.Bool.{cases_order}
use Rattle.acpi_base.specs.Entries.{Stands}
use Rattle.acpi_base.specs.Policy.{counts_as_enabled}
use Rattle.acpi_base.specs.Madt.{MadtEntry, LocalApic, X2apic, MadtContents, IsEnabledProcessor}
use Rattle.acpi_base.specs.Srat.{SratEntry, ApicDomain, X2apicDomain, SratContents, srat_entry, srat_contents, is_enabled, PutsIn}
use Rattle.acpi_base.specs.Across.{IsEnabled, PutsAt, HaveOneDomain, DomainFault}
use Rattle.acpi_base.specs.Codes.{stage_of}
use Rattle.acpi_base.specs.declared.policy.Processors.{Processors}
use Rattle.acpi_base.specs.declared.code.Code.{Code}
use Rattle.acpi_base.specs.declared.code.Code.TheVariants as code
use Rattle.acpi_base.specs.declared.stage.Stage.TheVariants as stage
use Rattle.acpi_base.proofs.Faults.Deciding.{Decided, decided_as, both, all3, same, below, differs, is_true, not_other}
use Rattle.acpi_base.proofs.Images.PresentBytes.{field_below}
use Rattle.acpi_base.proofs.EntryOffsets.{AreOnes, one_said, said_inside, stands_with_decided, somewhere_decided, entries_bounded, said_with}

-- ---- what an entry of the SRAT says

-- the number of the processor that an entry puts in a domain
processor_of : SratEntry → ℕ
processor_of (ApicDomain v) = v.apic_id
processor_of (X2apicDomain v) = v.x2apic_id
processor_of _ = 0

-- the domain in which an entry puts its processor
domain_of : SratEntry → ℕ
domain_of (ApicDomain v) = v.domain
domain_of (X2apicDomain v) = v.domain
domain_of _ = 0

put_as : (e : SratEntry) (i d : ℕ) → PutsIn i d e → (processor_of e ≡ i) × (domain_of e ≡ d)
unfolding processor_of domain_of
put_as (ApicDomain v) i d puts = (puts.0, puts.1)
put_as (X2apicDomain v) i d puts = (puts.0, puts.1)
put_as _ i d puts = absurd puts

puts_decided : (i d : ℕ) (e : SratEntry) → Decided (PutsIn i d e)
puts_decided i d (ApicDomain v) = all3 (same v.apic_id i) (same v.domain d) (is_true (is_enabled v.flags))
puts_decided i d (X2apicDomain v) = all3 (same v.x2apic_id i) (same v.domain d) (is_true (is_enabled v.flags))
puts_decided i d _ = inr (λ h. h)

put_decided : (c : SratContents) (o i : ℕ) (P : ℕ → Type 0) → ((d : ℕ) → Decided (P d))
    → Decided ((d : ℕ) × PutsAt c o i d × P d)
put_decided c o i P decide =
    decided_as (λ h. (domain_of h.0, (h.0, h.1, h.2.0), h.2.1))
    (λ h. let e = h.1 in let is = (put_as e.0 i h.0 e.2).1 in (e.0, e.1, (rw is e.2, rw is h.2)))
    (stands_with_decided c.entries o (λ e. PutsIn i (domain_of e) e × P (domain_of e))
    (λ e. both (puts_decided i (domain_of e) e) (decide (domain_of e))))

one_put : (c : SratContents) → AreOnes c.entries → (o i d f : ℕ) → PutsAt c o i d → PutsAt c o i f → d ≡ f
one_put c ones o i d f one other =
    let is = ones o one.0 other.0 one.1 other.1 in
    cc ((put_as one.0 i d one.2).1, (put_as other.0 i f other.2).1)

-- ---- decided, and what the fault excludes

processor_decided : (p : Processors) (i : ℕ) (e : MadtEntry) → Decided (IsEnabledProcessor p i e)
processor_decided p i (LocalApic v) = both (same v.apic_id i) (is_true (counts_as_enabled p v.flags))
processor_decided p i (X2apic v) = both (same v.x2apic_id i) (is_true (counts_as_enabled p v.flags))
processor_decided p i _ = inr (λ h. h)

enabled_decided : (p : Processors) (madt : MadtContents) (i : ℕ) → Decided (IsEnabled p madt i)
enabled_decided p madt i = somewhere_decided madt.entries (IsEnabledProcessor p i) (processor_decided p i)

pub decided : (p : Processors) (madt : MadtContents) (srat : SratContents) (fault : Code) (at other point : ℕ)
    → Decided (DomainFault p madt srat fault at other point)
decided p madt srat code.TwoDomains at other point =
    decided_as (λ h. (h.0, h.2.0, h.2.2.0, h.2.1, h.2.2.1, h.1, h.2.2.2)) (λ h. (h.0, h.5, (h.1, h.3, (h.2, h.4, h.6))))
    (all3 (enabled_decided p madt point) (below other at)
    (put_decided srat at point _ (λ d. put_decided srat other point (λ f. d ≢ f) (λ f. differs d f))))
decided p madt srat _ at other point = inr (λ fault. fault)

pub one_domain_without_fault : (p : Processors) (madt : MadtContents) (whole : List ℕ)
    → ((fault : Code) (at other point : ℕ) → stage_of fault ≡ stage.Domains
    → ¬ DomainFault p madt (srat_contents whole) fault at other point)
    → HaveOneDomain p madt (srat_contents whole)
unfolding srat_contents
one_domain_without_fault p madt whole none i enabled o r d f one other =
    not_other d f (λ differ. elim (cases_order o r) [
      | inl is ↦ differ (one_put (srat_contents whole) (one_said srat_entry 48 whole) r i d f
          (subst (λ (k : ℕ). PutsAt (srat_contents whole) k i d) is one) other)
      | inr (inl less) ↦ none code.TwoDomains r o i refl (enabled, f, d, other, one, less, λ is. differ (sym is))
      | inr (inr more) ↦ none code.TwoDomains o r i refl (enabled, d, f, one, other, more, differ)
    ])

pub excludes : (p : Processors) (madt : MadtContents) (srat : SratContents) (fault : Code) (at other point : ℕ)
    → DomainFault p madt srat fault at other point → ¬ HaveOneDomain p madt srat
excludes p madt srat code.TwoDomains at other point (enabled, d, f, one, two, _, differ) valid =
    differ (valid point enabled at other d f one two)
excludes p madt srat _ at other point fault valid = fault

-- ---- the bounds of its numbers

pub bounded : (p : Processors) (madt : MadtContents) (srat : SratContents)
    → (most : ℕ) × ((fault : Code) (at other point : ℕ) → DomainFault p madt srat fault at other point
    → (at < most) × (other < most) × (point < most))
bounded p madt srat = (all.0, place)
  where
    all : (most : ℕ) × ((o : ℕ) (e : SratEntry) → Stands srat.entries o e → (o < most) × (processor_of e < most))
    all = entries_bounded srat.entries processor_of

    place : (fault : Code) (at other point : ℕ) → DomainFault p madt srat fault at other point
        → (at < all.0) × (other < all.0) × (point < all.0)
    place code.TwoDomains at other point (enabled, d, f, (e, stands, puts), _, before, _) =
        let here = all.1 at e stands in
        (here.0, omega arith, omega (arith, put_as e point d puts))
    place _ at other point fault = absurd fault

processor_fits : (e : List ℕ) → ((k : ℕ) → slice_index e k < 256) → processor_of (srat_entry e) < 256 ^ 4
unfolding srat_entry processor_of
processor_fits e small = grind (arith, field_below e small 3 1, field_below e small 8 4)

pub fits : (p : Processors) (madt : MadtContents) (whole : List ℕ) → ((k : ℕ) → slice_index whole k < 256)
    → (fault : Code) (at other point : ℕ) → DomainFault p madt (srat_contents whole) fault at other point
    → (at < length whole) × (other < length whole) × (point < 256 ^ 4)
unfolding srat_contents
fits p madt whole small code.TwoDomains at other point (enabled, d, f, (e, stands, puts), _, before, _) =
    let inside = said_inside srat_entry 48 whole at e stands in
    let number = said_with srat_entry (λ x. processor_of x < 256 ^ 4) processor_fits 48 whole small at e stands in
    (inside, omega arith, omega (arith, put_as e point d puts))
fits p madt whole small _ at other point fault = absurd fault
