-- What the entries of an SRAT say about processors.
use Rattle.std.proofs.Common.{◌≡◌, ℕ, ◌<◌, List, Some, None, sym, ◌∙◌, ap, inl, inr, arith, refl}
use Rattle.std.specs.Prelude.{◌↔◌, AllPairs, slice_index}
use Rattle.std.proofs.lemmas.Bool.{cases_order}
use Rattle.std.proofs.lemmas.Option.{none-some, same_Some, cond_some}
use Rattle.acpi_base.specs.Srat.{SratEntry, ApicDomain, X2apicDomain, PutsIn, is_enabled}
use Rattle.acpi_check.specs.Processors.{placement_of, PutsPlaced}
use Rattle.acpi_check.specs.declared.domains.Placement.{Placement}

pub puts : (i d : ℕ) (e : SratEntry) → PutsIn i d e ↔ (placement_of e ≡ Some (record { processor = i; domain = d }))
puts i d (ApicDomain v) = (
  λ (number, domain, enabled). rw (enabled, number, domain) refl,
  λ is.
      let parts = cond_some (is_enabled v.flags) (record { processor = v.apic_id; domain = v.domain })
      (record { processor = i; domain = d }) is in
      (ap (λ (p : Placement). p.processor) parts.1, ap (λ (p : Placement). p.domain) parts.1, parts.0),
)
puts i d (X2apicDomain v) = (
  λ (number, domain, enabled). rw (enabled, number, domain) refl,
  λ is.
      let parts = cond_some (is_enabled v.flags) (record { processor = v.x2apic_id; domain = v.domain })
      (record { processor = i; domain = d }) is in
      (ap (λ (p : Placement). p.processor) parts.1, ap (λ (p : Placement). p.domain) parts.1, parts.0),
)
puts i d _ = (λ h. absurd h, λ is. none-some (record { processor = i; domain = d }) is)

pub one_put : (e : SratEntry) (i j d h : ℕ) → PutsIn i d e → PutsIn j h e → (i ≡ j) × (d ≡ h)
one_put e i j d h one other =
    let is = same_Some (record { processor = i; domain = d }) (record { processor = j; domain = h })
    (sym ((puts i d e).0 one) ∙ (puts j h e).0 other) in
    (ap (λ (p : Placement). p.processor) is, ap (λ (p : Placement). p.domain) is)

pub put_alone : (e : SratEntry) (put : Placement) → placement_of e ≡ Some put → (i d : ℕ) → PutsIn i d e
    → i ≡ put.processor
put_alone e put is i d says =
    ap (λ (p : Placement). p.processor)
    (same_Some (record { processor = i; domain = d }) put (sym ((puts i d e).0 says) ∙ is))

pub none_put : (e : SratEntry) → placement_of e ≡ None → (i d : ℕ) → ¬ PutsIn i d e
none_put e none i d says = none-some (record { processor = i; domain = d }) (sym none ∙ (puts i d e).0 says)

pub one_place : (numbers : List ℕ) → AllPairs (λ i j. i < j) numbers → (e : SratEntry) (k l d h : ℕ)
    → PutsPlaced numbers k d e → PutsPlaced numbers l h e → (k ≡ l) × (d ≡ h)
one_place numbers rise e k l d h (inside, one) (inside_too, other) =
    let same = one_put e (slice_index numbers k) (slice_index numbers l) d h one other in
    elim (cases_order k l) [
      | inl is ↦ (is, same.1)
      | inr (inl less) ↦ absurd (omega (arith, rise k l 0 less inside_too, same.0))
      | inr (inr more) ↦ absurd (omega (arith, rise l k 0 more inside, same.0))
    ]
