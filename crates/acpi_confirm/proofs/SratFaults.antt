-- The faults of an SRAT.
use Rattle.std.proofs.Common.{◌≡◌, ◌≢◌, ◌≤◌, ℕ, List, length, refl, sym, ap, ◌∙◌, inl, inr, ◌+◌, ◌*◌, arith}
use Rattle.std.specs.Prelude.{◌↔◌, Bool, true, false}
use Rattle.std.proofs.lemmas.List.{get_or-drop}
use Rattle.acpi_base.specs.Number.{field}
use Rattle.acpi_base.specs.Entries.{StandsWith, AreUnused, cut_of}
use Rattle.acpi_base.specs.Srat.{SratContents, MemoryValue, MemoryRange, srat_contents, SratFault, SratEntryFault, IsAny, IsHotPluggable, IsNotHotPluggable, is_hot_pluggable, Covers, IsOverlap}
use Rattle.acpi_base.specs.Overlaps.{IsIntervalOverlap}
use Rattle.acpi_base.specs.declared.policy.HotPlug.{HotPlug}
use Rattle.acpi_base.specs.declared.policy.HotPlug.TheVariants.{Counted, Apart}
use Rattle.acpi_confirm.specs.Srats.{CoversWith, AreCompared}
use Rattle.acpi_base.specs.declared.code.Code.{Code}
use Rattle.acpi_base.specs.declared.code.Code.TheVariants as code

pub three_bytes : (e : List ℕ) → field e 9 3 ≡ field e 9 2 + 65536 * field e 11 1
unfolding field
three_bytes e = grind (arith, get_or-drop 9 e 0 0, get_or-drop 9 e 1 0, get_or-drop 9 e 2 0, get_or-drop 11 e 0 0)

pub srat_size : (srat : List ℕ) → (srat_contents srat).size ≡ length srat
unfolding srat_contents
srat_size srat = refl

pub srat_cut : (srat : List ℕ) → (srat_contents srat).cut ≡ cut_of 48 srat
unfolding srat_contents
srat_cut srat = refl

pub own_codes : (c : SratContents) (fault : Code) (at other point : ℕ) → ¬ (fault ≡ code.SratShort)
    → ¬ (fault ≡ code.SratEntryCut)
    → SratFault c fault at other point ≡ (StandsWith c.entries at (SratEntryFault fault) × AreUnused other point)
own_codes c code.SratShort at other point short cut = absurd (short refl)
own_codes c code.SratEntryCut at other point short cut = absurd (cut refl)
own_codes c _ at other point short cut = refl

pub ruleset srat_codes = (srat_size, srat_cut, own_codes)

-- ---- ranges

abbrev CoversAt : SratContents → ℕ → ℕ → ℕ → Type 0
CoversAt c o x flags = StandsWith c.entries o (CoversWith x flags)

covers : (P : MemoryValue → Type 0) (c : SratContents) (o x flags : ℕ) → ((v : MemoryValue) → v.flags ≡ flags → P v)
    → CoversAt c o x flags → (s : ℕ) × Covers P c o s x
covers P c o x flags holds (MemoryRange v, stands, (enabled, from, below, is)) =
    (v.base, (MemoryRange v, stands, (enabled, holds v is, refl, from, below)))
covers P c o x flags holds (_, stands, not) = absurd not

-- conversely, a range with P covers the address, with its flags
record CoversBy (P : MemoryValue → Type 0) (c : SratContents) (o x : ℕ) : Type 0 where
  range : MemoryValue
  there : CoversAt c o x range.flags
  kind : P range

covered : (P : MemoryValue → Type 0) (c : SratContents) (o s x : ℕ) → Covers P c o s x → CoversBy P c o x
covered P c o s x (MemoryRange v, stands, (enabled, kind, base, from, below)) =
    let least : v.base ≤ x = rw base from in
    let most = rw (← base) at below in
    record { range = v; there = (MemoryRange v, stands, (enabled, least, most, refl)); kind = kind }
covered P c o s x (_, stands, not) = absurd not

clash : (P : MemoryValue → Type 0) (c : SratContents) (o p x f g : ℕ) → CoversAt c o x f → CoversAt c p x g → o ≢ p
    → ((v : MemoryValue) → v.flags ≡ f → P v) → ((v : MemoryValue) → v.flags ≡ g → P v)
    → IsIntervalOverlap (Covers P c) o p x
clash P c o p x f g one other apart mine its =
    let first = covers P c o x f mine one in
    let second = covers P c p x g its other in
    record { s = first.0; t = second.0; one_holds = first.1; other_holds = second.1; two = apart }

of_kind : (kind : Bool) (f : ℕ) → is_hot_pluggable f ≡ kind → (v : MemoryValue) → v.flags ≡ f
    → is_hot_pluggable v.flags ≡ kind
of_kind kind f is v same = ap is_hot_pluggable same ∙ is

compared_apart : (c : SratContents) (o p x f g : ℕ) (kind : Bool) → is_hot_pluggable f ≡ kind → CoversAt c o x f
    → CoversAt c p x g → o ≢ p → is_hot_pluggable f ≡ is_hot_pluggable g → IsOverlap Apart c o p x
compared_apart c o p x f g true is one other apart same =
    inr (clash IsHotPluggable c o p x f g one other apart (of_kind true f is) (of_kind true g (sym same ∙ is)))
compared_apart c o p x f g false is one other apart same =
    inl (clash IsNotHotPluggable c o p x f g one other apart (of_kind false f is) (of_kind false g (sym same ∙ is)))

-- two ranges that are compared cover the address
abbrev CoverBoth : HotPlug → SratContents → ℕ → ℕ → ℕ → Type 0
CoverBoth h c o p x = (f : ℕ) × (g : ℕ) × CoversAt c o x f × CoversAt c p x g × AreCompared h f g

cover_both : (h : HotPlug) (P : MemoryValue → Type 0) (c : SratContents) (o p x : ℕ)
    → ((v w : MemoryValue) → P v → P w → AreCompared h v.flags w.flags) → IsIntervalOverlap (Covers P c) o p x
    → CoverBoth h c o p x
cover_both h P c o p x compared clash =
    let one = covered P c o clash.s x clash.one_holds in
    let other = covered P c p clash.t x clash.other_holds in
    (one.range.flags, other.range.flags, one.there, other.there, compared one.range other.range one.kind other.kind)

pub overlap : (h : HotPlug) (c : SratContents) (o p x : ℕ) → o ≢ p → CoverBoth h c o p x ↔ IsOverlap h c o p x
overlap Counted c o p x apart = (
  λ (f, g, one, other, _). clash IsAny c o p x f g one other apart (λ v same. tt) (λ v same. tt),
  cover_both Counted IsAny c o p x (λ v w one other. tt),
)
overlap Apart c o p x apart = (
  λ (f, g, one, other, same). compared_apart c o p x f g (is_hot_pluggable f) refl one other apart same,
  λ clashes. elim clashes [
    | inl clash ↦ cover_both Apart IsNotHotPluggable c o p x (λ v w one other. one ∙ sym other) clash
    | inr clash ↦ cover_both Apart IsHotPluggable c o p x (λ v w one other. one ∙ sym other) clash
  ],
)
