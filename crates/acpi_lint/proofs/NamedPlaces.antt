-- Dangling references of a PPTT's entries: those at none of some offsets.
use Rattle.std.proofs.Common.{◌≡◌, ℕ, ◌*◌, ◌<◌, ◌≤◌, Bool, true, true≢false, List, Option, Some, None, Result, Ok, Err, refl, sym, ◌∙◌, ap, subst, inl, inr, arith}
use Rattle.std.specs.Prelude.{◌↔◌, ◌⊎◌, Contains, IfOk, is_some, not}
use Rattle.std.specs.List.{filter_map}
use Rattle.std.proofs.lemmas.Bool.{cases_order, eqb-false, not-true, ne_eqb}
use Rattle.std.proofs.lemmas.Option.{cond_some}
use Rattle.acpi_base.specs.Chains.{IsAt}
use Rattle.acpi_base.specs.Entries.{PlacedEntry, Stands, StandsWith}
use Rattle.acpi_base.specs.Number.{field}
use Rattle.acpi_base.specs.Pptt.{PpttEntry, Node, NodeValue, PpttContents, pptt_contents, Says, IsResourceAt, ReferenceFault}
use Rattle.acpi_base.specs.declared.code.Code.TheVariants as code
use Rattle.acpi_base.proofs.Options.{cases_Option}
use Rattle.acpi_check.specs.Chains.{named_offset}
use Rattle.acpi_check.specs.BitSets.{IsIn}
use Rattle.acpi_check.specs.declared.nodes.Chain.{Chain}
use Rattle.acpi_check.specs.declared.bit_set.BitSet.{BitSet}
use Rattle.acpi_check.proofs.EntryPasses.Kept.{kept_has, kept_from}
use Rattle.acpi_check.proofs.NodeLinks.NamedPlaces.{numbers_in, number_is, is_number}
use Rattle.acpi_rules.specs.Places.{FindsLeast}
use Rattle.acpi_lint.specs.Places.{FindsOwn}
use Rattle.acpi_lint.specs.References.{offset_where, is_linked, is_resource, AreOffsets, IsDanglingLink, NamesNoLink, NamesNoResource}
use Rattle.acpi_rules.specs.declared.place.Place.{Place}
use Rattle.acpi_lint.proofs.FirstEntries.{IsFaultAt}
use Rattle.acpi_rules.proofs.LeastPlaces.{least_as}

-- ---- offsets

offset_is : (test : PpttEntry → Bool) (s : PlacedEntry PpttEntry) (o : ℕ) → offset_where test s ≡ Some o
    → (test s.entry ≡ true) × (o ≡ s.offset)
offset_is test s o is = (let parts = cond_some (test s.entry) s.offset o is in (parts.0, sym parts.1))

stand : (test : PpttEntry → Bool) (entries : List (PlacedEntry PpttEntry)) (o : ℕ)
    → Contains (filter_map (offset_where test) entries) o ↔ StandsWith entries o (λ e. test e ≡ true)
stand test entries o = (
  from,
  λ (e, stands, is). kept_has (offset_where test) entries (record { offset = o; entry = e }) o stands (rw is refl),
)
  where
    from : Contains (filter_map (offset_where test) entries) o → StandsWith entries o (λ e. test e ≡ true)
    from listed =
        let (s, found, gives) = kept_from (offset_where test) entries o listed in
        let (passes, same) = offset_is test s o gives in
        (s.entry, subst (λ (k : ℕ). Stands entries k s.entry) (sym same) found, passes)

pub linked_there : (kind : Chain) (whole offsets : List ℕ)
    → offsets ≡ filter_map (offset_where (is_linked kind)) (pptt_contents whole).entries
    → (o : ℕ) → Contains offsets o ↔ IsAt (Says (named_offset kind) (pptt_contents whole)) o
linked_there kind whole offsets are o =
    let said = (pptt_contents whole).entries in
    rw are (
      λ listed. (let (e, stands, is) = (stand (is_linked kind) said o).0 listed in
          elim (cases_Option (named_offset kind e)) [
            | inl (p, names) ↦ (p, (e, stands, names))
            | inr none ↦ absurd (true≢false (sym is ∙ ap is_some none))
          ]),
      λ (p, (e, stands, names)). (stand (is_linked kind) said o).1 (e, stands, ap is_some names),
    )

pub resources_there : (whole offsets : List ℕ)
    → offsets ≡ filter_map (offset_where is_resource) (pptt_contents whole).entries
    → (o : ℕ) → Contains offsets o ↔ IsResourceAt (pptt_contents whole) o
resources_there whole offsets are o =
    let said = (pptt_contents whole).entries in
    rw are (
      λ listed. (let (e, stands, is) = (stand is_resource said o).0 listed in
          (e, stands, eqb-false _ _ (not-true _ is))),
      λ (e, stands, other). (stand is_resource said o).1 (e, stands, ap not (ne_eqb _ _ other)),
    )

pub same_places : {X : Type 0} {IsThere : ℕ → Type 0} (offsets : List ℕ) (r : Result BitSet X)
    → ((o : ℕ) → Contains offsets o ↔ IsThere o) → IfOk r (λ s. (o : ℕ) → IsIn s o ↔ Contains offsets o)
    → IfOk r (AreOffsets IsThere)
same_places offsets (Ok s) there same = λ o. (λ is. (there o).0 ((same o).0 is), λ is. (same o).1 ((there o).1 is))
same_places offsets (Err e) there same = tt

-- ---- what dangles

-- an entry whose link is at none of the offsets of its kind dangles
pub links_dangle : (kind : Chain) (c : PpttContents) (offsets : BitSet) (found : Option Place)
    → AreOffsets (IsAt (Says (named_offset kind) c)) offsets
    → FindsLeast (IsFaultAt (NamesNoLink kind offsets) c.entries) found
    → FindsLeast (IsDanglingLink kind c) found
links_dangle kind c offsets found are least =
    least_as found
    (λ at other point (e, stands, (is, some, not, zero)).
    (record { names = (e, stands, is); some = some; nowhere = λ there. not ((are other).1 there) }, zero))
    (λ at other point (dangles, zero).
    let (e, stands, is) = dangles.names in
    (e, stands, (is, dangles.some, λ listed. dangles.nowhere ((are other).0 listed), zero)))
    least

pub resources_dangle : (c : PpttContents) (offsets : BitSet) (found : Option Place)
    → AreOffsets (IsResourceAt c) offsets → FindsLeast (IsFaultAt (NamesNoResource offsets) c.entries) found
    → FindsLeast (ReferenceFault c code.DanglingResource) found
resources_dangle c offsets found are least =
    least_as found
    (λ at other point (e, stands, (is, not)). ((e, stands, is), λ there. not ((are point).1 there)))
    (λ at other point ((e, stands, is), nowhere). (e, stands, (is, λ listed. nowhere ((are point).0 listed))))
    least

-- ---- private resources

-- for a node all of whose private resources are present
pub none_missing : (offsets : BitSet) (references : List ℕ) (count : ℕ) (s : PlacedEntry PpttEntry) (v : NodeValue)
    → s.entry ≡ Node v → v.resources ≡ numbers_in references count
    → ((j : ℕ) → j < count → IsIn offsets (field references (4 * j) 4)) → FindsOwn (NamesNoResource offsets) s None
none_missing offsets references count s v node are all = λ other point (is, not).
    let (below, number) = number_is references count other point (rw are at (rw node at is)) in
    not (rw number (all other below))

-- for one whose first private resource that is missing is this one
pub first_missing : (offsets : BitSet) (references : List ℕ) (count j : ℕ) (s : PlacedEntry PpttEntry)
    (v : NodeValue) → s.entry ≡ Node v → v.resources ≡ numbers_in references count → j < count
    → ¬ IsIn offsets (field references (4 * j) 4)
    → ((i : ℕ) → i < j → IsIn offsets (field references (4 * i) 4))
    → FindsOwn (NamesNoResource offsets) s
    (Some (record { at = s.offset; other = j; point = field references (4 * j) 4 }))
first_missing offsets references count j s v node are below missing before = (
  refl,
  (rw (node, are) (is_number references count j below), missing),
  least,
)
  where
    least : (other point : ℕ) → NamesNoResource offsets s.offset s.entry other point
        → (j < other) ⊎ ((j ≡ other) × (field references (4 * j) 4 ≤ point))
    least other point (is, not) =
        let (inside, number) = number_is references count other point (rw are at (rw node at is)) in
        elim (cases_order other j) [
          | inl same ↦ inr (sym same, omega (arith, number, ap (λ i. field references (4 * i) 4) same))
          | inr (inl less) ↦ absurd (not (rw number (before other less)))
          | inr (inr more) ↦ inl more
        ]
