-- The offsets of a PPTT's entries, and what can be decided about the entry at an offset.
use Rattle.std.proofs.Common.{◌≡◌, ℕ, ◌+◌, ◌*◌, ◌/◌, ◌<◌, ◌≤◌, true, List, length, refl, subst, Option, Some, inl, inr, arith}
use Rattle.std.specs.Prelude.{◌⊎◌, ◌≢◌}
use Rattle.std.proofs.lemmas.Bool.{and_parts, or_cases, eqb-true, cond_both}
use Rattle.acpi_base.specs.Entries.{Stands, entries_of, has_form}
use Rattle.acpi_base.specs.Pptt.{PpttEntry, Node, Cache, Opaque, resource_count, has_node_form, has_cache_form, pptt_entry, pptt_type, pptt_contents, parent_of, next_level_of, Says, NamesParent, NamesNextLevel, IsResourceAt, most_nodes, most_caches}
use Rattle.acpi_base.proofs.Chains.{IsNaming, IsNumbered}
use Rattle.acpi_base.proofs.Faults.Deciding.{Decided, decided_as, differs, is_some}
use Rattle.acpi_base.proofs.EntryOffsets.{AreOnes, said_from, said_inside, one_said, entry_within, entries_apart, stands_with_decided}

-- ---- how long entries are

-- the minimum length of an entry
abbrev pub least_size : PpttEntry → ℕ
least_size (Node v) = 20
least_size (Cache v) = 24
least_size (Opaque e) = 2

pub form_size : (e : List ℕ) (type size : ℕ) → has_form e type size ≡ true → length e ≡ size
unfolding has_form
form_size e type size form = eqb-true _ _ (and_parts _ _ form).1

node_size : (e : List ℕ) → has_node_form e ≡ true → 20 ≤ length e
unfolding has_node_form
node_size e form = omega (arith, form_size e 0 (20 + 4 * resource_count e) form)

cache_size : (e : List ℕ) → has_cache_form e ≡ true → 24 ≤ length e
unfolding has_cache_form
cache_size e form =
    elim (or_cases (has_form e 1 24) (has_form e 1 28) form) [
      | inl short ↦
          omega (arith, form_size e 1 24 short)
      | inr long ↦ omega (arith, form_size e 1 28 long)
    ]

entry_size : (e : List ℕ) → 2 ≤ length e → least_size (pptt_entry e) ≤ length e
unfolding pptt_entry
entry_size e least =
    cond_both (has_node_form e) _ _ (λ x. least_size x ≤ length e) (node_size e)
    (λ _. cond_both (has_cache_form e) _ _ (λ x. least_size x ≤ length e) (cache_size e) (λ _. least))

-- ---- where they are

bytes_at : (whole : List ℕ) (o : ℕ) (e : PpttEntry) → Stands (pptt_contents whole).entries o e
    → (bytes : List ℕ) × Stands (entries_of 36 whole) o bytes × (least_size e ≤ length bytes)
unfolding pptt_contents
bytes_at whole o e stands =
    let (bytes, here, is) = said_from pptt_entry (entries_of 36 whole) o e stands in (
      bytes,
      here,
      subst (λ (x : PpttEntry). least_size x ≤ length bytes) is
          (entry_size bytes (entry_within 36 whole o bytes here).1),
    )

within : (whole : List ℕ) (o : ℕ) (e : PpttEntry) → Stands (pptt_contents whole).entries o e
    → o + least_size e ≤ length whole
within whole o e stands =
    let (bytes, here, size) = bytes_at whole o e stands in
    omega (arith, entry_within 36 whole o bytes here)

pub inside : (whole : List ℕ) (o : ℕ) (e : PpttEntry) → Stands (pptt_contents whole).entries o e → o < length whole
unfolding pptt_contents
inside whole = said_inside pptt_entry 36 whole

apart : (whole : List ℕ) (o p : ℕ) (e d : PpttEntry) → Stands (pptt_contents whole).entries o e
    → Stands (pptt_contents whole).entries p d
    → (o ≡ p) ⊎ ((o + least_size e ≤ p) ⊎ (p + least_size d ≤ o))
apart whole o p e d one other =
    let (bytes, here, size) = bytes_at whole o e one in
    let (others, there, more) = bytes_at whole p d other in
    grind (arith, entries_apart 36 whole o p bytes others here there)

pub ones : (whole : List ℕ) → AreOnes (pptt_contents whole).entries
unfolding pptt_contents
ones whole = one_said pptt_entry 36 whole

pub size_is : (whole : List ℕ) → (pptt_contents whole).size ≡ length whole
unfolding pptt_contents
size_is whole = refl

node_long : (e : PpttEntry) (p : ℕ) → parent_of e ≡ Some p → 20 ≤ least_size e
node_long (Node v) p is = omega arith
node_long _ p is = absurd cc

cache_long : (e : PpttEntry) (p : ℕ) → next_level_of e ≡ Some p → 24 ≤ least_size e
cache_long (Cache v) p is = omega arith
cache_long _ p is = absurd cc

-- the number of a node or a cache is its offset in units of its minimum length
pub nodes_numbered : (whole : List ℕ)
    → IsNumbered (NamesParent (pptt_contents whole)) (most_nodes (pptt_contents whole))
nodes_numbered whole =
    record {
      number = λ o. o / 20;
      below = λ o here. omega (
        arith,
        within whole o here.1.0 here.1.1,
        node_long here.1.0 here.0 here.1.2,
        size_is whole,
      );
      apart = λ o p one other same. grind (
        arith,
        apart whole o p one.1.0 other.1.0 one.1.1 other.1.1,
        node_long one.1.0 one.0 one.1.2,
        node_long other.1.0 other.0 other.1.2,
      );
    }

pub caches_numbered : (whole : List ℕ)
    → IsNumbered (NamesNextLevel (pptt_contents whole)) (most_caches (pptt_contents whole))
caches_numbered whole =
    record {
      number = λ o. o / 24;
      below = λ o here. omega (
        arith,
        within whole o here.1.0 here.1.1,
        cache_long here.1.0 here.0 here.1.2,
        size_is whole,
      );
      apart = λ o p one other same. grind (
        arith,
        apart whole o p one.1.0 other.1.0 one.1.1 other.1.1,
        cache_long one.1.0 one.0 one.1.2,
        cache_long other.1.0 other.0 other.1.2,
      );
    }

-- ---- what can be decided

pub resource_decided : (whole : List ℕ) (o : ℕ) → Decided (IsResourceAt (pptt_contents whole) o)
resource_decided whole o =
    stands_with_decided (pptt_contents whole).entries o (λ e. pptt_type e ≢ 0) (λ e. differs (pptt_type e) 0)

pub naming : (whole : List ℕ) (read : PpttEntry → Option ℕ) → IsNaming (Says read (pptt_contents whole))
naming whole read =
    record {
      one = λ o p q a b. let same = ones whole o a.0 b.0 a.1 b.1 in cc (a.2, b.2);
      decide = λ o. decided_as (λ h. (h.2.0, (h.0, h.1, h.2.1))) (λ h. (h.1.0, h.1.1, (h.0, h.1.2)))
          (stands_with_decided (pptt_contents whole).entries o (λ e. (p : ℕ) × (read e ≡ Some p))
          (λ e. is_some (read e)));
    }
