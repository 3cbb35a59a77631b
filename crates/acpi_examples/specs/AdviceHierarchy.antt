-- Examples of advice on the packages and the caches of a PPTT: each rule broken, and kept (ACPI 6.5, 5.2.30.1, 5.2.30.2).
use Rattle.std.specs.Prelude.{ℕ, List, [], ◌∷◌, ◌++◌}
use Rattle.acpi_lint.specs.Rules.CacheTypes.{IsSameCacheType}
use Rattle.acpi_lint.specs.Rules.Hierarchy.{IsNoPackage}
use Rattle.acpi_examples.specs.Advice.{IsKept}
use Rattle.acpi_examples.specs.Rows.{cache, child, node, patched, pptt, sized_cache}

-- a PPTT of Revision 2 with a node at 36 and another one at 56, with these flags and Parents; their IDs are 7 and 8
abbrev pub nodes : ℕ → ℕ → ℕ → ℕ → List ℕ
nodes flags parent other_flags other_parent = pptt 2 (child flags parent 7 ∷ child other_flags other_parent 8 ∷ [])

-- a leaf whose Parent is no package; not so if the Parent is one, or the leaf itself, if the Parent is not there, or
-- if they are in a cycle
pub record AreNoPackages : Type 0 where
  pub none : IsNoPackage (nodes 0 0 10 36) 56 0 8
  pub inside : IsKept (IsNoPackage (nodes 1 0 10 36))
  pub itself : IsKept (IsNoPackage (nodes 0 0 11 36))
  pub dangling : IsKept (IsNoPackage (nodes 0 0 10 37))
  pub cycle : IsKept (IsNoPackage (nodes 0 56 10 36))

-- a PPTT with a node at 36 that names two caches of these attributes: one of 24 bytes at 64, with this Next Level, whose type is
-- valid, and one of 28 bytes at 88 with these flags
abbrev pub caches : ℕ → ℕ → ℕ → ℕ → List ℕ
caches next attributes flags other_attributes =
    pptt 3
    ((patched 1 (28 ∷ []) (patched 16 (2 ∷ []) (node 0)) ++ 64 ∷ 0 ∷ 0 ∷ 0 ∷ 88 ∷ 0 ∷ 0 ∷ 0 ∷ [])
    ∷ patched 8 (next ∷ []) (patched 21 (attributes ∷ []) (sized_cache 16 0 0 0 0))
    ∷ patched 21 (other_attributes ∷ []) (cache flags 0 0) ∷ [])

-- two caches for data, for instructions and, by either number, for both; not so if one is the Next Level of the other, if their
-- types differ, or if one does not validly say its type
pub record AreSameCacheTypes : Type 0 where
  pub of_data : IsSameCacheType (caches 0 0 16 0) 36 64 88
  pub of_instructions : IsSameCacheType (caches 0 4 16 4) 36 64 88
  pub of_both : IsSameCacheType (caches 0 8 16 12) 36 64 88
  pub next : IsKept (IsSameCacheType (caches 88 4 16 4))
  pub unlike : IsKept (IsSameCacheType (caches 0 0 16 4))
  pub invalid : IsKept (IsSameCacheType (caches 0 0 239 0))

-- all of them
pub record IsHierarchyAdvised : Type 0 where
  pub packages : AreNoPackages
  pub cache_types : AreSameCacheTypes
