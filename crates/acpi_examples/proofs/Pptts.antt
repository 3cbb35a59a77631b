-- The examples of the PPTT, by computing.
use Rattle.std.proofs.Common.{◌≡◌, ℕ, zero, suc, [], ◌∷◌, refl, sym, subst, inl, inr, arith}
use Rattle.std.specs.Prelude.{◌≢◌, ◌⊎◌, slice_get, Some, None}
use Rattle.std.proofs.lemmas.Option.{none-some, same_Some}
use Rattle.acpi_base.specs.Number.{field, byte_sum}
use Rattle.acpi_base.specs.Entries.{first_entry, entries_from, entries_of, end_of_entries, cut_of, has_form}
use Rattle.acpi_base.specs.Pptt.{HasOtherPpttLength, has_node_form, has_cache_form, pptt_entry, pptt_contents, parent_of, resource_of, next_level_of, pptt_type, IsResourceAt, NamesParent, NamesNextLevel, IsCutPptt, DoParentsEnd, DoCachesEnd, AreReferencesValid, ReferenceFault}
use Rattle.acpi_base.specs.Chains.{IsStep, IsAt, Ends}
use Rattle.acpi_examples.specs.Pptts.{example_pptts, ArePpttContents, ArePpttFaults, AreCycleFaults, HasNoPpttFault, all_kinds_bytes, all_kinds, hidden_node, with_resource, own_parent, five_nodes, with_next_level}
use Rattle.acpi_base.specs.declared.code.Code.TheVariants as code
use Rattle.acpi_base.proofs.Pptt.Faults.{cut_excludes, references_excludes}
use Rattle.acpi_base.proofs.Pptt.Chains.{parents_excludes, caches_excludes}
use Rattle.acpi_examples.proofs.NamedEntries.{each_entry, none_at, never, all_valid}

pub pptt_said : ArePpttContents
unfolding first_entry entries_from entries_of end_of_entries cut_of has_form field byte_sum has_node_form has_cache_form
    pptt_entry pptt_contents
pptt_said = record {
  valid = all_valid example_pptts refl;
  kinds_say = refl;
  faulty_says = refl;
  hidden_says = refl;
  cache_resource_says = refl;
  own_resource_says = refl;
  no_resource_says = refl;
  own_parent_says = refl;
  five_say = refl;
  own_next_level_says = refl;
  no_next_level_says = refl;
}

-- ---- entries, and what they name

hidden : ReferenceFault hidden_node code.DanglingParent 0x24 0x3a 0
hidden = (record { names = (_, (0, omega arith, refl), refl); some = λ same. omega arith; nowhere = nowhere }, refl)
  where
    nowhere : ¬ IsAt (NamesParent hidden_node) 58
    nowhere (p, (e, stands, is)) =
        none_at hidden_node.entries 58 (λ e. (p : ℕ) × (parent_of e ≡ Some p))
        (λ h. omega (arith, h.0), (λ h. omega (arith, h.0), tt)) (e, stands, (p, is))

no_next_level : ReferenceFault (with_next_level 37) code.DanglingCache 0x24 0x25 0
no_next_level =
    (record { names = (_, (0, omega arith, refl), refl); some = λ same. omega arith; nowhere = nowhere }, refl)
  where
    nowhere : ¬ IsAt (NamesNextLevel (with_next_level 37)) 37
    nowhere (p, (e, stands, is)) =
        none_at (with_next_level 37).entries 37 (λ e. (p : ℕ) × (next_level_of e ≡ Some p))
        (λ h. omega (arith, h.0), tt) (e, stands, (p, is))

own_resource : ReferenceFault (with_resource 36) code.DanglingResource 0x24 0 0x24
own_resource = ((_, (0, omega arith, refl), refl), nowhere)
  where
    nowhere : ¬ IsResourceAt (with_resource 36) 36
    nowhere = none_at (with_resource 36).entries 36 (λ e. pptt_type e ≢ 0)
        (λ h. h.1 refl, (λ h. omega (arith, h.0), tt))

no_resource : ReferenceFault (with_resource 0) code.DanglingResource 0x24 0 0
no_resource = ((_, (0, omega arith, refl), refl), nowhere)
  where
    nowhere : ¬ IsResourceAt (with_resource 0) 0
    nowhere = none_at (with_resource 0).entries 0 (λ e. pptt_type e ≢ 0)
        (λ h. omega (arith, h.0), (λ h. omega (arith, h.0), tt))

pub pptt_faults : ArePpttFaults
pptt_faults = record {
  cut = rw pptt_said.faulty_says (refl, refl, refl);
  node_size = rw pptt_said.faulty_says ((_, (0, omega arith, refl), omega arith), refl, refl);
  resources_size = rw pptt_said.faulty_says ((_, (1, omega arith, refl), omega arith), refl, refl);
  cache_size = rw pptt_said.faulty_says ((_, (2, omega arith, refl), omega arith), refl, refl);
  parent = rw pptt_said.hidden_says hidden;
  own_resource = rw pptt_said.own_resource_says own_resource;
  no_resource = rw pptt_said.no_resource_says no_resource;
  cache_resource = rw pptt_said.cache_resource_says (λ fault. fault.1 (_, (1, omega arith, refl), λ same. omega arith));
  next_level = rw pptt_said.no_next_level_says no_next_level;
}

-- ---- chains

step : (Names : ℕ → ℕ → Type 0) (o p q : ℕ) → Names o p → p ≢ 0 → Names p q → IsStep Names o p
step Names o p q names some there = record { names = names; some = some; there = (q, there) }

to_own_parent : IsStep (NamesParent own_parent) 36 36
to_own_parent =
    step (NamesParent own_parent) 36 36 36 (_, (0, omega arith, refl), refl) (λ same. omega arith)
    (_, (0, omega arith, refl), refl)

to_own_next_level : IsStep (NamesNextLevel (with_next_level 36)) 36 36
to_own_next_level =
    step (NamesNextLevel (with_next_level 36)) 36 36 36 (_, (0, omega arith, refl), refl) (λ same. omega arith)
    (_, (0, omega arith, refl), refl)

-- the steps from the first three of the five nodes, and those from the other two
first : IsStep (NamesParent five_nodes) 36 56
first = step (NamesParent five_nodes) 36 56 76 (_, (0, omega arith, refl), refl) (λ same. omega arith)
    (_, (1, omega arith, refl), refl)

second : IsStep (NamesParent five_nodes) 56 76
second = step (NamesParent five_nodes) 56 76 96 (_, (1, omega arith, refl), refl) (λ same. omega arith)
    (_, (2, omega arith, refl), refl)

third : IsStep (NamesParent five_nodes) 76 96
third = step (NamesParent five_nodes) 76 96 116 (_, (2, omega arith, refl), refl) (λ same. omega arith)
    (_, (3, omega arith, refl), refl)

fourth : IsStep (NamesParent five_nodes) 96 116
fourth = step (NamesParent five_nodes) 96 116 76 (_, (3, omega arith, refl), refl) (λ same. omega arith)
    (_, (4, omega arith, refl), refl)

fifth : IsStep (NamesParent five_nodes) 116 76
fifth = step (NamesParent five_nodes) 116 76 96 (_, (4, omega arith, refl), refl) (λ same. omega arith)
    (_, (2, omega arith, refl), refl)

pub cycle_faults : AreCycleFaults
cycle_faults = record {
  own_parent =
      rw pptt_said.own_parent_says
      (record { there = 36; once = refl; back = (36, to_own_parent, refl); some = omega arith; fits = omega arith });
  two_rounds = rw pptt_said.own_parent_says (record {
    there = 36;
    once = refl;
    back = (36, to_own_parent, (36, to_own_parent, refl));
    some = omega arith;
    fits = omega arith;
  });
  three_rounds = rw pptt_said.own_parent_says (λ cycle. omega (arith, cycle.fits));
  no_steps = rw pptt_said.own_parent_says (λ cycle. omega (arith, cycle.some));
  five_nodes = rw pptt_said.five_say (record {
    there = 76;
    once = (56, first, (76, second, refl));
    back = (96, third, (116, fourth, (76, fifth, refl)));
    some = omega arith;
    fits = omega arith;
  });
  longer_lead = rw pptt_said.five_say (record {
    there = 96;
    once = (56, first, (76, second, (96, third, refl)));
    back = (116, fourth, (76, fifth, (96, third, refl)));
    some = omega arith;
    fits = omega arith;
  });
  longest_lead = rw pptt_said.five_say (λ cycle. omega (arith, cycle.fits));
  own_next_level = rw pptt_said.own_next_level_says (record {
    there = 36;
    once = refl;
    back = (36, to_own_next_level, refl);
    some = omega arith;
    fits = omega arith;
  });
  one_step = rw pptt_said.own_next_level_says (record {
    there = 36;
    once = (36, to_own_next_level, refl);
    back = (36, to_own_next_level, refl);
    some = omega arith;
    fits = omega arith;
  });
  two_steps = rw pptt_said.own_next_level_says (λ cycle. omega (arith, cycle.fits));
}

-- ---- a PPTT without a fault

entries_valid : IsCutPptt all_kinds
entries_valid =
    record {
      filled = refl;
      lengths = each_entry all_kinds.entries (λ o e. ¬ HasOtherPpttLength e)
          (never, (never, (never, (never, ((λ is. omega arith), tt)))));
    }

names_none : {A : Type 0} (p : ℕ) → None ≡ Some p → A
names_none p is = absurd (none-some p is)

first_node : NamesParent all_kinds 36 0
first_node = (_, (0, omega arith, refl), refl)

last_cache : NamesNextLevel all_kinds 112 0
last_cache = (_, (3, omega arith, refl), refl)

of_first_node : (j r : ℕ) → slice_get (140 ∷ []) j ≡ Some r → IsResourceAt all_kinds r
of_first_node zero r is =
    subst (IsResourceAt all_kinds) (same_Some 140 r is) (_, (4, omega arith, refl), λ same. omega arith)
of_first_node (suc j) r is = names_none r is

of_second_node : (j r : ℕ) → slice_get (88 ∷ 112 ∷ []) j ≡ Some r → IsResourceAt all_kinds r
of_second_node zero r is =
    subst (IsResourceAt all_kinds) (same_Some 88 r is) (_, (2, omega arith, refl), λ same. omega arith)
of_second_node (suc zero) r is =
    subst (IsResourceAt all_kinds) (same_Some 112 r is) (_, (3, omega arith, refl), λ same. omega arith)
of_second_node (suc (suc j)) r is = names_none r is

references_valid : AreReferencesValid all_kinds
references_valid = record {
  parents = λ o p names. each_entry all_kinds.entries (λ o e. parent_of e ≡ Some p
      → (p ≡ 0) ⊎ IsAt (NamesParent all_kinds) p) (
        (λ is. inl (sym (same_Some 0 p is))),
        (
          (λ is. inr (subst (IsAt (NamesParent all_kinds)) (same_Some 36 p is) (0, first_node))),
          (names_none p, (names_none p, (names_none p, tt))),
        ),
      ) o names.0 names.1 names.2;
  resources = λ o j r names. each_entry all_kinds.entries (λ o e. resource_of j e ≡ Some r → IsResourceAt all_kinds r)
      (of_first_node j r, (of_second_node j r, (names_none r, (names_none r, (names_none r, tt))))) o names.0 names.1
      names.2;
  next_levels =
      λ o p names. each_entry all_kinds.entries (λ o e. next_level_of e ≡ Some p
      → (p ≡ 0) ⊎ IsAt (NamesNextLevel all_kinds) p) (
        names_none p,
        (
          names_none p,
          (
            (λ is. inr (subst (IsAt (NamesNextLevel all_kinds)) (same_Some 112 p is) (0, last_cache))),
            ((λ is. inl (sym (same_Some 0 p is))), (names_none p, tt)),
          ),
        ),
      ) o names.0 names.1 names.2;
}

parents_end : DoParentsEnd all_kinds
parents_end o (p, names) =
    each_entry all_kinds.entries (λ o e. parent_of e ≡ Some p → Ends (NamesParent all_kinds) o) (
      (λ _. ([], first_node)),
      (
        (λ _. (
          36 ∷ [],
          (
            record { names = (_, (1, omega arith, refl), refl); some = λ same. omega arith; there = (0, first_node) },
            first_node,
          ),
        )),
        (names_none p, (names_none p, (names_none p, tt))),
      ),
    ) o names.0 names.1 names.2

caches_end : DoCachesEnd all_kinds
caches_end o (p, names) =
    each_entry all_kinds.entries (λ o e. next_level_of e ≡ Some p → Ends (NamesNextLevel all_kinds) o) (
      names_none p,
      (
        names_none p,
        (
          (λ _. (
            112 ∷ [],
            (
              record { names = (_, (2, omega arith, refl), refl); some = λ same. omega arith; there = (0, last_cache) },
              last_cache,
            ),
          )),
          ((λ _. ([], last_cache)), (names_none p, tt)),
        ),
      ),
    ) o names.0 names.1 names.2

pub no_pptt_fault : HasNoPpttFault
no_pptt_fault = record {
  entries = λ fault at other point wrong. cut_excludes (pptt_contents all_kinds_bytes) fault at other point wrong
      (rw pptt_said.kinds_say entries_valid);
  references = λ fault at other point wrong. references_excludes (pptt_contents all_kinds_bytes) fault at other point
      wrong (rw pptt_said.kinds_say references_valid);
  parents = λ fault at other point wrong. parents_excludes all_kinds_bytes fault at other point wrong
      (rw pptt_said.kinds_say parents_end);
  caches = λ fault at other point wrong. caches_excludes all_kinds_bytes fault at other point wrong
      (rw pptt_said.kinds_say caches_end);
}
