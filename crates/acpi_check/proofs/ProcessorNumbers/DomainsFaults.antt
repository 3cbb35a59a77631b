-- From processors that an SRAT puts into two domains to the first fault of the two tables.
use Rattle.std.proofs.Common.{◌≡◌, ◌<◌, ℕ, List, length, get_or, Some, None, refl, ap, ◌∙◌, inl, inr}
use Rattle.std.specs.Prelude.{◌↔◌, Contains, slice_index}
use Rattle.std.proofs.lemmas.List.{get_or_default}
use Rattle.std.proofs.lemmas.List.Elements.{Contains-get_or}
use Rattle.std.proofs.lemmas.Option.{none-some, cond_some}
use Rattle.acpi_base.specs.Across.{IsEnabled, PutsAt, HaveOneDomain, DomainFault}
use Rattle.acpi_base.specs.Entries.{StandsWith}
use Rattle.acpi_base.specs.Faults.{NotAfter}
use Rattle.acpi_base.specs.Madt.{MadtEntry, LocalApic, X2apic, MadtContents, IsEnabledProcessor}
use Rattle.acpi_base.specs.Policy.{counts_as_enabled}
use Rattle.acpi_base.specs.Srat.{SratContents}
use Rattle.acpi_base.specs.declared.code.Code.{Code}
use Rattle.acpi_base.specs.declared.code.Code.TheVariants as code
use Rattle.acpi_base.specs.declared.policy.Processors.{Processors}
use Rattle.acpi_base.specs.declared.stage.Stage.TheVariants as stage
use Rattle.acpi_check.specs.Processors.{PutsPlaced, number_of, AreNumbers}
use Rattle.acpi_check.specs.FirstSeen.{IsFirstOther, FindsOther}
use Rattle.acpi_check.specs.TableResults.{IsFirstOfTable}
use Rattle.acpi_check.specs.declared.first_seen.OtherValue.{OtherValue}
use Rattle.acpi_check.specs.declared.processors.Key.TheVariants as key
use Rattle.acpi_check.proofs.EntryPasses.ValuesPass.{in_order}

-- ---- processors

is_enabled : (p : Processors) (i : ℕ) (e : MadtEntry) → IsEnabledProcessor p i e
    ↔ (number_of (key.Enabled p) e ≡ Some i)
is_enabled p i (LocalApic v) = (
  λ (is, counts). rw (counts, is) refl,
  λ is. (let parts = cond_some (counts_as_enabled p v.flags) v.apic_id i is in (parts.1, parts.0)),
)
is_enabled p i (X2apic v) = (
  λ (is, counts). rw (counts, is) refl,
  λ is. (let parts = cond_some (counts_as_enabled p v.flags) v.x2apic_id i is in (parts.1, parts.0)),
)
is_enabled p i _ = (λ h. absurd h, λ is. none-some i is)

are_enabled : (p : Processors) (madt : MadtContents) (numbers : List ℕ) → AreNumbers (key.Enabled p) madt numbers
    → (i : ℕ) → Contains numbers i ↔ IsEnabled p madt i
are_enabled p madt numbers are i =
    (from, λ (o, (e, stands, is)). (are.all i).1 (o, (e, stands, (is_enabled p i e).0 is)))
  where
    from : Contains numbers i → IsEnabled p madt i
    from listed = let (o, (e, stands, is)) = (are.all i).0 listed in (o, (e, stands, (is_enabled p i e).1 is))

-- ---- the tables

placed : (numbers : List ℕ) (srat : SratContents) (k i o d : ℕ) → k < length numbers → get_or numbers k i ≡ i
    → PutsAt srat o i d → StandsWith srat.entries o (PutsPlaced numbers k d)
placed numbers srat k i o d inside is (e, stands, puts) =
    (e, stands, (inside, rw (get_or_default numbers k 0 i inside ∙ is) puts))

pub one_domain_each : (p : Processors) (madt : MadtContents) (srat : SratContents) (numbers : List ℕ)
    → AreNumbers (key.Enabled p) madt numbers → FindsOther (PutsPlaced numbers) srat.entries None
    → HaveOneDomain p madt srat
one_domain_each p madt srat numbers are all i enabled o r d f one other =
    let (k, inside, is) = (are_enabled p madt numbers are i).1 enabled in
    all o r k d f (placed numbers srat k i o d inside is one) (placed numbers srat k i r f inside is other)

-- the first entry that gives an index another domain is the first fault
pub two_domains : (p : Processors) (madt : MadtContents) (srat : SratContents) (numbers : List ℕ)
    → AreNumbers (key.Enabled p) madt numbers → (found : OtherValue) → found.key < length numbers
    → IsFirstOther (PutsPlaced numbers) srat.entries found
    → IsFirstOfTable stage.Domains (DomainFault p madt srat)
    (record { code = code.TwoDomains; at = found.at; other = found.other; point = slice_index numbers found.key })
two_domains p madt srat numbers are found inside first =
    record {
      own = refl;
      fault =
          let (d, f, (e, stands, puts), (b, also, puts_too), before, differ) = first.other in (
            (are_enabled p madt numbers are _).0 (Contains-get_or numbers found.key 0 inside),
            d,
            f,
            (e, stands, puts.1),
            (b, also, puts_too.1),
            before,
            differ,
          );
      least = λ v wrong. least v.code v.at v.other v.point wrong;
    }
  where
    least : (c : Code) (at other point : ℕ) → DomainFault p madt srat c at other point
        → NotAfter (record {
          code = code.TwoDomains;
          at = found.at;
          other = found.other;
          point = slice_index numbers found.key;
        }) (record { code = c; at = at; other = other; point = point })
    least code.TwoDomains at other point (enabled, d, f, one, two, before, differ) =
        let (k, within, is) = (are_enabled p madt numbers are point).1 enabled in
        elim (first.first at other k (
          d,
          f,
          placed numbers srat k point at d within is one,
          placed numbers srat k point other f within is two,
          before,
          differ,
        )) [
          | inl behind ↦ inl behind
          | inr (same, most, key) ↦ in_order code.TwoDomains found.at found.other (slice_index numbers found.key) at
              other point (inr (
                same,
                most,
                ap (slice_index numbers) key ∙ get_or_default numbers k 0 point within
                    ∙ is,
              ))
        ]
    least _ at other point wrong = absurd wrong
