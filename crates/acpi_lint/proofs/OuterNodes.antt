-- Nodes of a PPTT by their offsets, and the chains of their Parents.
use Rattle.std.proofs.Common.{◌≡◌, ℕ, ◌<◌, ◌≤◌, Bool, List, Option, Some, None, length, get_or, map, refl, sym, ◌∙◌, ap, subst, inl, inr, arith}
use Rattle.std.specs.Prelude.{◌↔◌, AllPairs, Contains}
use Rattle.std.proofs.lemmas.Bool.{cases_lt, cases_order}
use Rattle.std.proofs.lemmas.List.{get_or-map, get_or_default, length-map}
use Rattle.std.proofs.lemmas.List.Elements.{Contains-get_or}
use Rattle.acpi_base.specs.Chains.{Ends}
use Rattle.acpi_lint.specs.Hierarchy.{AreNoneOutside, IsOutsideAt, none}
use Rattle.acpi_lint.specs.Rules.Hierarchy.{HasParent, IsLeafAt, IsNoPackage, outer_nodes}
use Rattle.acpi_rules.specs.Numbered.{IsFirst, IsNotAbove}
use Rattle.acpi_rules.specs.Places.{FindsLeast, IsNotAfter}
use Rattle.acpi_rules.specs.declared.numbered.Numbered.{Numbered}
use Rattle.acpi_rules.specs.declared.place.Place.{Place}
use Rattle.acpi_rules.proofs.LeastPlaces.{least_as, not_after_itself}
use Rattle.acpi_rules.proofs.KnownNumbers.{IsParted}
use Rattle.acpi_rules.proofs.RepeatedNumbers.{first_at, never_falls, one_first}
use Rattle.acpi_lint.proofs.OuterChains.{IsWalk, NamesOne, NoneEnds, nowhere, ends_as}

-- the offsets of nodes
abbrev pub offsets : List Numbered → List ℕ
offsets nodes = map (λ (g : Numbered). g.number) nodes

pub count_of : (nodes : List Numbered) → length (offsets nodes) ≡ length nodes
count_of nodes = length-map nodes (λ (g : Numbered). g.number)

pub offset_of : (nodes : List Numbered) (k : ℕ) → k < length nodes
    → get_or (offsets nodes) k 0 ≡ (get_or nodes k none).number
offset_of nodes k within = get_or-map (λ (g : Numbered). g.number) nodes k none 0 within

-- the node at the index where those with lower offsets end is the first one at its offset
pub first_there : (nodes : List Numbered) (offset i : ℕ) → IsParted nodes offset i → i < length nodes
    → (get_or nodes i none).number ≡ offset
    → (i < length nodes) × IsFirst (λ g. Contains nodes g) (get_or nodes i none)
    × ((get_or nodes i none).number ≡ offset)
first_there nodes offset i parted within is =
    let here : get_or nodes i (get_or nodes i none) ≡ get_or nodes i none =
    get_or_default nodes i (get_or nodes i none) none within in (
      within,
      first_at nodes parted.order i (get_or nodes i none) within here
          (λ k d below. omega (arith, parted.less k d below, is)),
      is,
    )

-- if it is at another offset, or there is none, no node is at this one
pub none_there : (nodes : List Numbered) (offset i : ℕ) → IsParted nodes offset i
    → (i < length nodes → ¬ ((get_or nodes i none).number ≡ offset)) → (g : Numbered) → Contains nodes g
    → ¬ (g.number ≡ offset)
none_there nodes offset i parted differs g (k, inside, is) same =
    elim (cases_lt k i) [
      | inl below ↦ omega (arith, parted.less k none below, there, same)
      | inr least ↦
          let within : i < length nodes = omega (arith, least, inside) in
          let upto = parted.upto i none (omega arith) within in
          let rises = never_falls nodes parted.order i k none least inside in
          differs within (omega (arith, upto, rises, there, same))
    ]
  where
    there : (get_or nodes k none).number ≡ g.number
    there = ap (λ (n : Numbered). n.number) (get_or_default nodes k none g inside ∙ is)

pub names_one : (nodes : List Numbered) → NamesOne (HasParent nodes)
names_one nodes o p q (f, first, here, is) (e, other, there, also) =
    sym is
    ∙ ap (λ (g : Numbered). g.value) (one_first (λ g. Contains nodes g) first other (here ∙ sym there))
    ∙ also

-- the node at an index, which is the first at its offset, has its Parent
pub names_there : (nodes : List Numbered) (k here : ℕ) → IsFirst (λ g. Contains nodes g) (get_or nodes k none)
    → (get_or nodes k none).number ≡ here → HasParent nodes here (get_or nodes k none).value
names_there nodes k here first is = (get_or nodes k none, first, is, refl)

pub not_named : (nodes : List Numbered) (here : ℕ) → ((g : Numbered) → Contains nodes g → ¬ (g.number ≡ here))
    → ¬ Ends (HasParent nodes) here
not_named nodes here absent = nowhere (HasParent nodes) here (λ p (f, first, is, _). absent f first.here is)

-- a walk from `start` begins there
pub starts : (nodes : List Numbered) (visited : List Bool) (start : ℕ) → AreNoneOutside nodes visited
    → IsWalk (HasParent nodes) (offsets nodes) visited start start
starts nodes visited start are =
    record {
      count = are.count ∙ sym (count_of nodes);
      back = λ ends. ends;
      leads = λ n ends. (n, omega arith, ends);
      marks = λ k within marked.
          let inside : k < length nodes = omega (arith, within, count_of nodes) in
          inl (subst (λ (o : ℕ). ¬ Ends (HasParent nodes) o) (sym (offset_of nodes k inside))
          (are.none k inside marked));
    }

-- no chain from a node that is marked ends
pub are_none : (nodes : List Numbered) (visited : List Bool) → length visited ≡ length (offsets nodes)
    → NoneEnds (HasParent nodes) (offsets nodes) visited → AreNoneOutside nodes visited
are_none nodes visited count none =
    record {
      count = count ∙ count_of nodes;
      none = λ k within marked.
          subst (λ (o : ℕ). ¬ Ends (HasParent nodes) o) (offset_of nodes k within)
          (none k (omega (arith, within, count_of nodes)) marked);
    }

-- ---- the leaves

-- if no leaf before the index is outside, one that is has no lower place than the one at the index
pub upto_behind : (nodes leaves : List Numbered) (i : ℕ) (x : Numbered) → AllPairs IsNotAbove leaves
    → ((g : Numbered) → Contains leaves g → g.at ≡ g.number) → i < length leaves
    → ((j : ℕ) → j < i → ¬ Ends (HasParent nodes) (get_or leaves j none).number) → Contains leaves x
    → Ends (HasParent nodes) x.number
    → IsNotAfter (record { at = (get_or leaves i none).number; other = 0; point = (get_or leaves i none).value })
    x.number 0 x.value
upto_behind nodes leaves i x order placed within passed (j, inside, is) ends =
    elim (cases_order i j) [
      | inl same ↦
          let here : get_or leaves i none ≡ x = ap (λ (k : ℕ). get_or leaves k none) same ∙ there in
          not_after_itself place x.number 0 x.value (
            sym (ap (λ (g : Numbered). g.number) here),
            refl,
            sym (ap (λ (g : Numbered). g.value) here),
          )
      | inr (inl less) ↦ (let before = order i j none less inside in behind (rw there at before))
      | inr (inr more) ↦
          absurd (passed j more (subst (λ (g : Numbered). Ends (HasParent nodes) g.number) (sym there) ends))
    ]
  where
    here : Numbered
    here = get_or leaves i none

    place : Place
    place = record { at = here.number; other = 0; point = here.value }

    there : get_or leaves j none ≡ x
    there = get_or_default leaves j none x inside ∙ is

    behind : IsNotAbove here x → IsNotAfter place x.number 0 x.value
    behind (inl less) = inl less
    behind (inr (same, inl before)) =
        absurd (omega (
          arith,
          before,
          same,
          placed here (Contains-get_or leaves i none within),
          placed x (j, inside, is),
        ))
    behind (inr (same, inr (at, upto))) = inr (same, inr (refl, upto))

pub outside_here : (nodes leaves : List Numbered) (i : ℕ) → AllPairs IsNotAbove leaves
    → ((g : Numbered) → Contains leaves g → g.at ≡ g.number) → i < length leaves
    → ((j : ℕ) → j < i → ¬ Ends (HasParent nodes) (get_or leaves j none).number)
    → Ends (HasParent nodes) (get_or leaves i none).number
    → FindsLeast (IsOutsideAt nodes leaves)
    (Some (record { at = (get_or leaves i none).number; other = 0; point = (get_or leaves i none).value }))
outside_here nodes leaves i order placed within passed ends =
    record {
      here = (get_or leaves i none, Contains-get_or leaves i none within, refl, refl, ends, refl);
      least = λ at other point (x, listed, there, id, outside, unused).
          rw (← there, ← id, unused)
          (upto_behind nodes leaves i x order placed within passed listed
          (subst (Ends (HasParent nodes)) (sym there) outside));
    }

pub none_outside : (nodes leaves : List Numbered) (i : ℕ) → length leaves ≤ i
    → ((j : ℕ) → j < i → ¬ Ends (HasParent nodes) (get_or leaves j none).number)
    → FindsLeast (IsOutsideAt nodes leaves) None
none_outside nodes leaves i end passed at other point (x, (j, inside, is), there, id, ends, unused) =
    passed j (omega (arith, inside, end))
    (subst (λ (g : Numbered). Ends (HasParent nodes) g.number) (sym (get_or_default leaves j none x inside ∙ is))
    (subst (Ends (HasParent nodes)) (sym there) ends))

-- ---- the rule

pub first_as : {P Q : Numbered → Type 0} (f : Numbered) → ((g : Numbered) → P g ↔ Q g) → IsFirst P f → IsFirst Q f
first_as f same first =
    record { here = (same f).0 first.here; least = λ g there is. first.least g ((same g).1 there) is }

parents_as : (some others : List Numbered) → ((g : Numbered) → Contains some g ↔ Contains others g) → (o p : ℕ)
    → HasParent some o p → HasParent others o p
parents_as some others same o p (f, first, here, is) = (f, first_as f same first, here, is)

pub outside_leaves : (pptt : List ℕ) (nodes leaves : List Numbered) (found : Option Place)
    → ((g : Numbered) → Contains nodes g ↔ Contains (outer_nodes pptt) g)
    → ((at id : ℕ) → IsLeafAt pptt at id ↔ ((g : Numbered) × Contains leaves g × (g.number ≡ at) × (g.value ≡ id)))
    → FindsLeast (IsOutsideAt nodes leaves) found → FindsLeast (IsNoPackage pptt) found
outside_leaves pptt nodes leaves found same say least = least_as found to from least
  where
    to : (at other point : ℕ) → IsOutsideAt nodes leaves at other point → IsNoPackage pptt at other point
    to at other point (g, listed, there, id, (rest, chain), unused) = (
      (say at point).1 (g, listed, there, id),
      (rest, ends_as (parents_as nodes (outer_nodes pptt) same) at rest chain),
      unused,
    )

    from : (at other point : ℕ) → IsNoPackage pptt at other point → IsOutsideAt nodes leaves at other point
    from at other point (leaf, (rest, chain), unused) =
        let (g, listed, there, id) = (say at point).0 leaf in (
          g,
          listed,
          there,
          id,
          (rest, ends_as (parents_as (outer_nodes pptt) nodes (λ n. ((same n).1, (same n).0))) at rest chain),
          unused,
        )
