-- Faults across tables.
use Rattle.std.proofs.Common.{◌≡◌, ◌≤◌, ℕ, List, length, None, refl, sym, ◌∙◌, arith, true≢false}
use Rattle.std.specs.Prelude.{◌↔◌, IsTrue, Bool, true, false, not}
use Rattle.std.proofs.lemmas.List.{get_or-drop, get_or_past}
use Rattle.acpi_base.specs.Across.{IsServed}
use Rattle.acpi_base.specs.Entries.{Stands, StandsWith, cut_of}
use Rattle.acpi_base.specs.Madt.{MadtContents, MadtEntry, Opaque, IsWhollyTyped, madt_contents}
use Rattle.acpi_base.specs.Number.{field}
use Rattle.acpi_base.specs.Policy.{PolicyValue}
use Rattle.acpi_base.specs.Pptt.{pptt_contents}
use Rattle.acpi_confirm.specs.Madts.{IsOpaque, ServesGsi}
use Rattle.acpi_confirm.proofs.MadtFaults.{serves_from, serves_gsi, madt_size, madt_cut}

-- ---- interrupt numbers

pub served : (q : PolicyValue) (c : MadtContents) (g : ℕ) (b : Bool)
    → (IsTrue b ↔ ((o : ℕ) × StandsWith c.entries o (ServesGsi q g))) → IsTrue b ↔ IsServed q c g
served q c g b is = (
  λ true. (let (o, stands) = is.0 true in let from = serves_from q c o g stands in (o, from.0, from.1)),
  λ (o, s, serves). is.1 (o, serves_gsi q c o s g serves),
)

-- ---- leaves

pub wholly_typed : (c : MadtContents) → 44 ≤ c.size → c.cut ≡ None → ¬ ((o : ℕ) × StandsWith c.entries o IsOpaque)
    → IsWhollyTyped c
wholly_typed c long filled none =
    record { long = long; filled = filled; typed = λ o e stands. none (o, (Opaque e, stands, tt)) }

not_opaque : (c : MadtContents) → IsWhollyTyped c → (o : ℕ) (e : MadtEntry) → Stands c.entries o e → ¬ IsOpaque e
not_opaque c whole o (Opaque e) stands is = whole.typed o e stands
not_opaque c whole o _ stands is = is

pub none_opaque : (c : MadtContents) → IsWhollyTyped c → ¬ ((o : ℕ) × StandsWith c.entries o IsOpaque)
none_opaque c whole (o, (e, stands, is)) = not_opaque c whole o e stands is

pub typed : (madt : List ℕ) (b : Bool) → 44 ≤ length madt → None ≡ cut_of 44 madt
    → (IsTrue b ↔ ((o : ℕ) × StandsWith (madt_contents madt).entries o IsOpaque))
    → IsTrue (not b) ↔ IsWhollyTyped (madt_contents madt)
typed madt true long filled is =
    (λ no_one. absurd (cc), λ whole. absurd (none_opaque (madt_contents madt) whole (is.0 refl)))
typed madt false long filled is = (
  λ _. wholly_typed (madt_contents madt) (omega (arith, madt_size madt)) (madt_cut madt ∙ sym filled)
      (λ some. true≢false (sym (is.1 some))),
  λ _. refl,
)

pub revision_is : (pptt : List ℕ) → (pptt_contents pptt).revision ≡ field pptt 8 1
unfolding pptt_contents
revision_is pptt = refl

pub short_revision : (pptt : List ℕ) → length pptt ≤ 8 → field pptt 8 1 ≡ 0
unfolding field
short_revision pptt short = grind (arith, get_or-drop 8 pptt 0 0, get_or_past pptt 8 0)

pub ruleset revision = (revision_is, short_revision)
