-- The examples of advice on the packages and the caches of a PPTT, by computing.
use Rattle.std.proofs.Common.{◌≡◌, ◌∙◌, ℕ, ◌+◌, ◌*◌, List, [], ◌∷◌, Option, Some, None, ap, arith, false, inl, inr, map, refl, subst, sym}
use Rattle.std.specs.Prelude.{Contains}
use Rattle.std.specs.List.{AllByRecursion, cons_option, filter_map, list_all}
use Rattle.std.proofs.lemmas.Bool.{both_ways}
use Rattle.std.proofs.lemmas.Option.{none-some}
use Rattle.acpi_base.specs.Chains.{Ends, IsChain}
use Rattle.acpi_base.specs.Number.{field, number_bytes}
use Rattle.acpi_base.proofs.Elements.{first_or_later, no_element}
use Rattle.acpi_rules.specs.Cases.{Said, SaidCase, case_said, gives, has_length, has_type, in_case, is_kind}
use Rattle.acpi_rules.specs.Clauses.{all_hold, holds, passes}
use Rattle.acpi_rules.specs.Fields.{reading}
use Rattle.acpi_rules.specs.Numbered.{IsFirst, IsNoLater}
use Rattle.acpi_rules.specs.Numbers.{GivenIn}
use Rattle.acpi_rules.specs.Rows.{guard_holds, row_said}
use Rattle.acpi_rules.specs.Series.{first_bytes, head_said, kind_in, most_of, said_in, size_in, start_of}
use Rattle.acpi_rules.specs.Sites.{SiteValue, sites_inside, sites_inside_all, sites_of}
use Rattle.acpi_rules.specs.Terms.{value_number}
use Rattle.acpi_rules.specs.Walks.{cut_from, structures_from}
use Rattle.acpi_rules.specs.declared.numbered.Numbered.{Numbered}
use Rattle.acpi_rules.specs.declared.series.Path.{Path}
use Rattle.acpi_lint.specs.Rules.CacheTypes.{IsCache, IsNearest, IsResource, IsSameCacheType, IsSameOfType, IsTyped, LeadsTo}
use Rattle.acpi_lint.specs.Rules.Entries.{alone, entries_give}
use Rattle.acpi_lint.specs.Rules.Hierarchy.{HasParent, IsLeafAt, outer_nodes}
use Rattle.acpi_lint.specs.declared.rows.pptt.TheConstants.{CACHE_TYPES, LEAF_IDS, NEXT_LEVELS, RESOURCES, UNMARKED_LEAVES}
use Rattle.acpi_lint.specs.declared.rows.pptt_fields.TheConstants.{PPTT_ENTRIES, PPTT_RESOURCES}
use Rattle.acpi_examples.specs.Advice.{IsKept}
use Rattle.acpi_examples.specs.AdviceHierarchy.{nodes, caches, AreNoPackages, AreSameCacheTypes, IsHierarchyAdvised}
use Rattle.acpi_examples.proofs.NamedEntries.{each_of}

-- a node at an offset with a Parent
abbrev outer : ℕ → ℕ → Numbered
outer offset parent = record { number = offset; at = offset; value = parent }

-- a node at 36, and one at 56 with it as its Parent
abbrev both : List Numbered
both = outer 36 0 ∷ outer 56 36 ∷ []

parent_of : (nodes : List Numbered) (f : Numbered) → Contains nodes f
    → AllByRecursion (λ (g : Numbered). g.number ≡ f.number → IsNoLater f g) nodes → HasParent nodes f.number f.value
parent_of nodes f here each = (f, record { here = here; least = each_of _ nodes each }, refl, refl)

ends : Ends (HasParent both) 56
ends = (
  36 ∷ [],
  (
    record {
      names =
          parent_of both (outer 56 36) (1, omega arith, refl)
          ((λ is. absurd (omega (arith, is))), ((λ _. inr (refl, omega arith)), tt));
      some = λ is. omega (arith, is);
      there = (0, root);
    },
    root,
  ),
)
  where
    root : HasParent both 36 0
    root =
        parent_of both (outer 36 0) (0, omega arith, refl)
        ((λ _. inr (refl, omega arith)), ((λ is. absurd (omega (arith, is))), tt))

-- no chain ends if no node has the Parent 0
no_root : (nodes : List Numbered) → AllByRecursion (λ (g : Numbered). ¬ (g.value ≡ 0)) nodes → (rest : List ℕ) (o : ℕ)
    → ¬ IsChain (HasParent nodes) o rest
no_root nodes none [] o (g, first, here, is) = each_of _ nodes none g first.here is
no_root nodes none (p ∷ rest) o (step, chain) = no_root nodes none rest p chain

-- nor does one that begins where no node is, or that leads there
none_begins : (nodes : List Numbered) (o : ℕ) → AllByRecursion (λ (g : Numbered). ¬ (g.number ≡ o)) nodes
    → (p : ℕ) → ¬ HasParent nodes o p
none_begins nodes o none p (g, first, here, is) = each_of _ nodes none g first.here here

no_chain : (nodes : List Numbered) (o : ℕ) → ((p : ℕ) → ¬ HasParent nodes o p) → ¬ Ends (HasParent nodes) o
no_chain nodes o none ([], names) = none 0 names
no_chain nodes o none (p ∷ rest, (step, chain)) = none p step.names

-- nor one that leads from where the nodes have another Parent to it, where no node is
leads_nowhere : (nodes : List Numbered) (o next : ℕ)
    → AllByRecursion (λ (g : Numbered). g.number ≡ o → g.value ≡ next) nodes → ¬ (next ≡ 0)
    → AllByRecursion (λ (g : Numbered). ¬ (g.number ≡ next)) nodes → ¬ Ends (HasParent nodes) o
leads_nowhere nodes o next all some none (rest, chain) = by rest chain
  where
    named : (p : ℕ) → HasParent nodes o p → p ≡ next
    named p (g, first, here, is) = sym is ∙ each_of _ nodes all g first.here here

    by : (rest : List ℕ) → ¬ IsChain (HasParent nodes) o rest
    by [] names = some (sym (named 0 names))
    by (p ∷ rest) (step, chain) =
        let (q, there) = step.there in
        none_begins nodes next none q (subst (λ (n : ℕ). HasParent nodes n q) (named p step.names) there)

-- what is computed of all that structures give holds of each
pub each_given : (P : Numbered → Type 0) (path : Path) (cases : Said SaidCase) (pptt : List ℕ)
    → AllByRecursion P (entries_give path cases pptt) → (g : Numbered)
    → GivenIn (alone pptt) path (map case_said cases.now) g → P g
each_given P path cases pptt each g (s, listed, is) = of (sites_of path pptt) each listed
  where
    give : SiteValue → Option Numbered
    give = gives (alone pptt) (map case_said cases.now)

    rest : (o : Option Numbered) (all : List Numbered) → AllByRecursion P (cons_option o all) → AllByRecursion P all
    rest None all each = each
    rest (Some n) all each = each.1

    of : (sites : List SiteValue) → AllByRecursion P (filter_map give sites) → Contains sites s → P g
    of [] each listed = absurd (no_element s listed)
    of (u ∷ sites) each listed =
        elim (first_or_later u s sites listed) [
          | inl same ↦ (rw (ap give same ∙ is) at each).0
          | inr later ↦ of sites (rest (give u) (filter_map give sites) each) later
        ]

-- the only leaf is at 56, if no other entry gives one by its marks
leaf_there : (pptt : List ℕ) (at id : ℕ)
    → AllByRecursion (λ (g : Numbered). g.at ≡ 56) (entries_give PPTT_ENTRIES LEAF_IDS pptt)
    → list_all (guard_holds (alone pptt)) (row_said UNMARKED_LEAVES).guards ≡ false → IsLeafAt pptt at id → at ≡ 56
leaf_there pptt at id each off (other, inl broken) = each_given _ PPTT_ENTRIES LEAF_IDS pptt each _ broken.broken.0
leaf_there pptt at id each off (other, inr broken) = absurd (both_ways _ off broken.about)

no_packages : AreNoPackages
unfolding field number_bytes gives has_length has_type in_case is_kind all_hold holds passes reading
    guard_holds first_bytes head_said kind_in most_of said_in size_in start_of
    value_number cut_from structures_from
no_packages = record {
  none = (
    (
      0,
      inl (record {
        about = refl;
        broken = ((_, (1, omega arith, refl), refl), λ (g, (s, listed, given), here). none-some _ given);
      }),
    ),
    ends,
    refl,
  );
  inside = λ at other point (_, (rest, chain), _).
      no_root (outer_nodes (nodes 1 0 10 36)) ((λ is. omega (arith, is)), tt) rest at chain;
  itself = λ at other point (leaf, ends, _).
      no_chain (outer_nodes (nodes 0 0 11 36)) 56
      (none_begins (outer_nodes (nodes 0 0 11 36)) 56 ((λ is. omega (arith, is)), tt))
      (subst (Ends (HasParent (outer_nodes (nodes 0 0 11 36))))
      (leaf_there (nodes 0 0 11 36) at point (refl, tt) refl leaf) ends);
  dangling = λ at other point (leaf, ends, _).
      leads_nowhere (outer_nodes (nodes 0 0 10 37)) 56 37 ((λ is. absurd (omega (arith, is))), ((λ _. refl), tt))
      (λ is. omega (arith, is))
      ((λ is. omega (arith, is)), ((λ is. omega (arith, is)), tt))
      (subst (Ends (HasParent (outer_nodes (nodes 0 0 10 37))))
      (leaf_there (nodes 0 0 10 37) at point (refl, tt) refl leaf) ends);
  cycle = λ at other point (_, (rest, chain), _).
      no_root (outer_nodes (nodes 0 56 10 36))
      ((λ is. omega (arith, is)), ((λ is. omega (arith, is)), tt)) rest at chain;
}

-- the node at 36 names the cache at an offset, at a place
abbrev named : ℕ → ℕ → Numbered
named at cache = record { number = 36; at = at; value = cache }

-- two caches of one type, where none has a Next Level
same_of : (pptt : List ℕ) (type : ℕ)
    → IsResource (alone pptt) (record { number = 64; at = 56; value = 36 })
    → IsResource (alone pptt) (record { number = 88; at = 60; value = 36 })
    → IsTyped (alone pptt) (outer 64 type) → IsTyped (alone pptt) (outer 88 type)
    → AllByRecursion (λ (r : Numbered). IsNoLater (named 56 64) (named r.at r.number))
    (entries_give PPTT_RESOURCES RESOURCES pptt)
    → AllByRecursion (λ (c : Numbered). c.value ≡ 0) (entries_give PPTT_ENTRIES NEXT_LEVELS pptt)
    → AllByRecursion (λ (g : Numbered). (g.at ≡ g.number) × (g.value ≡ type))
    (entries_give PPTT_ENTRIES CACHE_TYPES pptt)
    → IsSameOfType type pptt 36 64 88
same_of pptt type one other one_typed other_typed resources levels types = (
  named 60 88,
  named 56 64,
  record {
    first = record {
      here = near 56 64 one one_typed (λ is. omega (arith, is));
      least = λ g is _. each_given _ PPTT_RESOURCES RESOURCES pptt resources _ is.named;
    };
    here = near 60 88 other other_typed (λ is. omega (arith, is));
    same = refl;
    told = λ is. omega (arith, is);
  },
  refl,
)
  where
    first : (cache : ℕ) → IsTyped (alone pptt) (outer cache type) → IsFirst (IsTyped (alone pptt)) (outer cache type)
    first cache typed = record {
      here = typed;
      least = λ g is same.
          let (at, value) = each_given _ PPTT_ENTRIES CACHE_TYPES pptt types g is in
          inr (omega (arith, at, same), omega (arith, value));
    }

    near : (at cache : ℕ) → IsResource (alone pptt) (record { number = cache; at = at; value = 36 })
        → IsTyped (alone pptt) (outer cache type) → ¬ (cache ≡ 0) → IsNearest (alone pptt) type (named at cache)
    near at cache here typed some = record {
      named = here;
      typed = (outer cache type, first cache typed, refl, refl);
      nearest = λ (_, c, _, first, _, _, is).
          some (sym is ∙ each_given _ PPTT_ENTRIES NEXT_LEVELS pptt levels c first.here);
    }

-- of each type the node names one cache
kept : (pptt : List ℕ) (cache : ℕ → ℕ)
    → ((type : ℕ) (g : Numbered) → IsNearest (alone pptt) type g → g.value ≡ cache type)
    → IsKept (IsSameCacheType pptt)
kept pptt cache one at other point (inl (g, f, it, _)) = it.told (one 0 g it.here ∙ sym (one 0 f it.first.here))
kept pptt cache one at other point (inr (inl (g, f, it, _))) = it.told (one 1 g it.here ∙ sym (one 1 f it.first.here))
kept pptt cache one at other point (inr (inr (g, f, it, _))) = it.told (one 2 g it.here ∙ sym (one 2 f it.first.here))

one_typed : (pptt : List ℕ)
    → AllByRecursion (λ (c : Numbered). c.number ≡ 64 + 24 * c.value) (entries_give PPTT_ENTRIES CACHE_TYPES pptt)
    → IsKept (IsSameCacheType pptt)
one_typed pptt each =
    kept pptt (λ type. 64 + 24 * type)
    (λ type g near.
    let (c, first, number, value) = near.typed in
    let is : c.number ≡ 64 + 24 * c.value = each_given _ PPTT_ENTRIES CACHE_TYPES pptt each c first.here in
    omega (arith, is, number, value))

one_near : (pptt : List ℕ) → IsResource (alone pptt) (record { number = 64; at = 56; value = 36 })
    → IsCache (alone pptt) (outer 64 88)
    → AllByRecursion (IsNoLater (outer 64 88)) (entries_give PPTT_ENTRIES NEXT_LEVELS pptt)
    → (LeadsTo (alone pptt) 36 88
    → AllByRecursion (λ (r : Numbered). ¬ LeadsTo (alone pptt) r.value r.number → r.number ≡ 64)
    (entries_give PPTT_RESOURCES RESOURCES pptt))
    → IsKept (IsSameCacheType pptt)
one_near pptt here cache levels each =
    kept pptt (λ type. 64)
    (λ type g near. each_given _ PPTT_RESOURCES RESOURCES pptt (each leads) _ near.named near.nearest)
  where
    first : IsFirst (IsCache (alone pptt)) (outer 64 88)
    first = record { here = cache; least = λ g is _. each_given _ PPTT_ENTRIES NEXT_LEVELS pptt levels g is }

    leads : LeadsTo (alone pptt) 36 88
    leads = (_, _, here, first, refl, refl, refl)

same_types : AreSameCacheTypes
unfolding field number_bytes gives has_length has_type in_case is_kind all_hold holds passes reading
    first_bytes head_said kind_in most_of said_in size_in start_of
    value_number structures_from sites_inside sites_inside_all
same_types = record {
  of_data =
      inl (same_of (caches 0 0 16 0) 0 (_, (0, omega arith, refl), refl) (_, (1, omega arith, refl), refl)
      (_, (1, omega arith, refl), refl) (_, (2, omega arith, refl), refl)
      (inr (refl, omega arith), (inl (omega arith), tt)) (refl, (refl, tt)) ((refl, refl), ((refl, refl), tt)));
  of_instructions =
      inr (inl (same_of (caches 0 4 16 4) 1 (_, (0, omega arith, refl), refl) (_, (1, omega arith, refl), refl)
      (_, (1, omega arith, refl), refl) (_, (2, omega arith, refl), refl)
      (inr (refl, omega arith), (inl (omega arith), tt)) (refl, (refl, tt)) ((refl, refl), ((refl, refl), tt))));
  of_both =
      inr (inr (same_of (caches 0 8 16 12) 2 (_, (0, omega arith, refl), refl) (_, (1, omega arith, refl), refl)
      (_, (1, omega arith, refl), refl) (_, (2, omega arith, refl), refl)
      (inr (refl, omega arith), (inl (omega arith), tt)) (refl, (refl, tt)) ((refl, refl), ((refl, refl), tt))));
  next =
      one_near (caches 88 4 16 4) (_, (0, omega arith, refl), refl) (_, (1, omega arith, refl), refl)
      (inr (refl, omega arith), (inl (omega arith), tt)) (λ leads. ((λ _. refl), ((λ none. absurd (none leads)), tt)));
  unlike = one_typed (caches 0 0 16 4) (refl, (refl, tt));
  invalid = one_typed (caches 0 0 239 0) (refl, tt);
}

pub hierarchy_advised : IsHierarchyAdvised
hierarchy_advised = record {
  packages = no_packages;
  cache_types = same_types;
}
