-- Chains of a PPTT's entries, followed step by step.
use Rattle.std.proofs.Common.{◌≡◌, ◌≢◌, ◌+◌, ◌-◌, ◌<◌, ◌≤◌, zero, suc, ℕ, List, length, drop, Option, Some, None, refl, sym, ap, ◌∙◌, subst, inl, inr, arith}
use Rattle.std.specs.Prelude.{◌↔◌, IsTrue, Bool}
use Rattle.std.proofs.lemmas.Option.{same_Some}
use Rattle.acpi_base.specs.Chains.{IsStep, LeadsTo, IsCycle}
use Rattle.acpi_base.specs.Entries.{PlacedEntry, Stands, first_entry, entries_of}
use Rattle.acpi_base.proofs.Elements.{first_or_later, no_element}
use Rattle.acpi_base.proofs.Options.{cases_Option, none_and_some}
use Rattle.acpi_base.proofs.EntryOffsets.{entry_within}
use Rattle.acpi_confirm.specs.References.{IsStepTo}
use Rattle.acpi_confirm.specs.Walks.{IsOnWay, IsOnly}
use Rattle.acpi_confirm.proofs.Walks.{is_end, is_next, at_first, at_next}

-- ---- a walk that goes on

pub ahead : (n first start : ℕ) (whole : List ℕ) (at : ℕ) (e : List ℕ) → length whole ≤ first + n
    → Stands (entries_of first whole) start e → start ≤ at → IsOnWay first start whole at
ahead zero first start whole at e few stands behind =
    (let here = entry_within first whole start e stands in absurd (omega arith))
ahead (suc n) first start whole at e few stands behind =
    elim (cases_Option (first_entry (drop first whole))) [
      | inr none ↦ absurd (no_element _ (rw (is_end first whole none).none at stands))
      | inl (d, is) ↦
          let next = is_next first whole d is in
          let least = next.entry.least in
          elim (first_or_later _ _ _ (rw next.first at stands)) [
            | inl same ↦ subst (λ (k : ℕ). IsOnWay first k whole at) (ap (λ (s : PlacedEntry (List ℕ)). s.offset) same)
                (at_first first whole at)
            | inr later ↦
                let here = entry_within (first + length d) whole start e later in
                let way = at_next first first whole at d (at_first first whole at) next (omega arith) in
                let rest = ahead n (first + length d) start whole at e (omega arith) later behind in
                record {
                  same = λ x. (
                    λ h. (rest.same x).0 ((way.same x).0 h),
                    λ h. (way.same x).1 ((rest.same x).1 h),
                  );
                }
          ]
    ]

-- ---- steps

-- what an offset names is the one offset that it names
abbrev IsNamed : (ℕ → ℕ → Type 0) → ℕ → Option ℕ → Type 0
IsNamed Named o named = IsOnly (Named o) named

pub no_step_to_none : (Named : ℕ → ℕ → Type 0) (o n : ℕ) → IsNamed Named o (Some n) → n ≡ 0 → (p : ℕ)
    → ¬ IsStep Named o p
no_step_to_none Named o n named none p step = step.some (sym (same_Some _ _ ((named.is p).0 step.names)) ∙ none)

pub no_step_nowhere : (Named : ℕ → ℕ → Type 0) (o n : ℕ) → IsNamed Named o (Some n) → IsNamed Named n None → (p : ℕ)
    → ¬ IsStep Named o p
no_step_nowhere Named o n named nowhere p step =
    let same : n ≡ p = same_Some _ _ ((named.is p).0 step.names) in
    let (q, there) = step.there in
    none_and_some refl ((nowhere.is q).0 (subst (λ (k : ℕ). Named k q) (sym same) there))

pub no_step : (Named : ℕ → ℕ → Type 0) (o : ℕ) → IsNamed Named o None → (p : ℕ) → ¬ IsStep Named o p
no_step Named o none p step = none_and_some refl ((none.is p).0 step.names)

pub step_to : (Named : ℕ → ℕ → Type 0) (o n m : ℕ) → IsNamed Named o (Some n) → n ≢ 0 → IsNamed Named n (Some m)
    → IsStepTo Named o (record { at = n; names = m })
step_to Named o n m named some there =
    record {
      step = record { names = (named.is n).1 refl; some = some; there = (m, (there.is m).1 refl) };
      names = there;
    }

pub ruleset steps = (no_step_to_none, no_step_nowhere, step_to)

-- ---- several steps

-- the steps from an offset lead where those that are left lead from here
pub record IsLed (Named : ℕ → ℕ → Type 0) (from steps here left : ℕ) : Type 0 where
  pub same : (p : ℕ) → LeadsTo Named steps from p ↔ LeadsTo Named left here p

pub led_first : (Named : ℕ → ℕ → Type 0) (from steps : ℕ) → IsLed Named from steps from steps
led_first Named from steps = record { same = λ p. (λ h. h, λ h. h) }

lead_step : (Named : ℕ → ℕ → Type 0) (k o m n p : ℕ) → IsNamed Named o (Some m) → IsStep Named o n
    → LeadsTo Named (suc k) o p ↔ LeadsTo Named k n p
lead_step Named k o m n p named step =
    let mine : m ≡ n = same_Some _ _ ((named.is n).0 step.names) in (
      λ (q, first, rest). subst (λ (x : ℕ). LeadsTo Named k x p)
          (sym (same_Some _ _ ((named.is q).0 first.names)) ∙ mine) rest,
      λ rest. (n, step, rest),
    )

pub led_next : (Named : ℕ → ℕ → Type 0) (from steps here left m n : ℕ) → IsLed Named from steps here left → 0 < left
    → IsNamed Named here (Some m) → IsStep Named here n → IsLed Named from steps n (left - 1)
led_next Named from steps here zero m n led some named step = absurd (omega arith)
led_next Named from steps here (suc k) m n led some named step =
    let one : suc k - 1 ≡ k = omega arith in
    rw one (record {
      same = λ p. (
        λ h. (lead_step Named k here m n p named step).0 ((led.same p).0 h),
        λ h. (led.same p).1 ((lead_step Named k here m n p named step).1 h),
      );
    })

pub led_nowhere : (Named : ℕ → ℕ → Type 0) (from steps here left : ℕ) → IsLed Named from steps here left → 0 < left
    → ((p : ℕ) → ¬ IsStep Named here p) → IsOnly (LeadsTo Named steps from) None
led_nowhere Named from steps here zero led some none = absurd (omega arith)
led_nowhere Named from steps here (suc k) led some none =
    record {
      is = λ p. (
        λ h. (let (q, step, rest) = (led.same p).0 h in absurd (none q step)),
        λ is. absurd (none_and_some refl is),
      );
    }

pub led_there : (Named : ℕ → ℕ → Type 0) (from steps here left : ℕ) → IsLed Named from steps here left → left ≡ 0
    → IsOnly (LeadsTo Named steps from) (Some here)
led_there Named from steps here zero led none =
    record { is = λ p. (λ h. ap Some ((led.same p).0 h), λ is. (led.same p).1 (same_Some _ _ is)) }
led_there Named from steps here (suc k) led none = absurd (omega arith)

pub ruleset led = (led_first, led_nowhere, led_there, no_step)

-- ---- a cycle

pub cycle : (Named : ℕ → ℕ → Type 0) (most from lead round there : ℕ) (back : Option ℕ) (b : Bool)
    → IsOnly (LeadsTo Named lead from) (Some there) → IsOnly (LeadsTo Named round there) back
    → 1 ≤ round → lead + round ≤ most → (IsTrue b ↔ (back ≡ Some there)) → IsTrue b ↔ IsCycle Named most from lead round
cycle Named most from lead round there back b once again some fits is = (
  λ true. record {
    there = there;
    once = (once.is there).1 refl;
    back = (again.is there).1 (is.0 true);
    some = some;
    fits = fits;
  },
  λ c.
      let same : there ≡ c.there = same_Some _ _ ((once.is c.there).0 c.once) in
      is.1 ((again.is there).0 (subst (λ (x : ℕ). LeadsTo Named round x x) (sym same) c.back)),
)
