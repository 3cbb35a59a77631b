-- The first fault of the references of an entry of a PPTT.
use Rattle.std.proofs.Common.{◌≡◌, ℕ, ◌*◌, ◌<◌, List, map, Option, Some, None, refl, sym, ◌∙◌, ap, subst, inl, inr, arith}
use Rattle.std.specs.Prelude.{◌≢◌, ◌⊎◌, MatchOption, slice_get}
use Rattle.std.specs.List.{range_with_len}
use Rattle.std.proofs.lemmas.Bool.{cases_order}
use Rattle.std.proofs.lemmas.List.FromFn.{length-map-range_with_len, get_or-map-range_with_len}
use Rattle.std.proofs.lemmas.Option.{same_Some, slice_get_within, slice_get-get_or, get_or_from_slice_get}
use Rattle.acpi_base.specs.Faults.{NotAfter}
use Rattle.acpi_base.specs.Number.{field}
use Rattle.acpi_base.specs.Pptt.{Node, Cache, NodeValue, CacheValue}
use Rattle.acpi_base.specs.declared.code.Code.{Code}
use Rattle.acpi_base.specs.declared.code.Code.TheVariants as code
use Rattle.acpi_base.specs.declared.witness.Witness.{Witness}
use Rattle.acpi_base.proofs.Faults.Order.{not_after}
use Rattle.acpi_check.specs.EntryPlaces.{NamesPlaces, EntryReferenceFault, IsFirstReference}
use Rattle.acpi_check.specs.BitSets.{IsIn}
use Rattle.acpi_check.specs.declared.places.Places.{Places}

-- ---- private resources

-- resource j of the bytes of so many references
abbrev pub numbers_in : List ℕ → ℕ → List ℕ
numbers_in references count = map (λ j. field references (4 * j) 4) (range_with_len 0 count)

pub number_is : (references : List ℕ) (count j r : ℕ) → slice_get (numbers_in references count) j ≡ Some r
    → (j < count) × (r ≡ field references (4 * j) 4)
number_is references count j r is =
    let size = length-map-range_with_len (λ i. field references (4 * i) 4) 0 count in
    let within = slice_get_within (numbers_in references count) j r is in (
      omega arith,
      sym (get_or_from_slice_get (numbers_in references count) j r 0 is)
          ∙ get_or-map-range_with_len (λ i. field references (4 * i) 4) 0 count j j 0 (omega arith) (omega arith),
    )

pub is_number : (references : List ℕ) (count j : ℕ) → j < count
    → slice_get (numbers_in references count) j ≡ Some (field references (4 * j) 4)
is_number references count j below =
    let size = length-map-range_with_len (λ i. field references (4 * i) 4) 0 count in
    slice_get-get_or (numbers_in references count) j 0 (omega arith)
    ∙ ap Some (get_or-map-range_with_len (λ i. field references (4 * i) 4) 0 count j j 0 (omega arith)
    (omega arith))

-- ---- nodes

-- a node is valid whose Parent and private resources are
pub node_valid : (places : Places) (v : NodeValue) (references : List ℕ) (count : ℕ)
    → v.resources ≡ numbers_in references count → (v.parent ≡ 0) ⊎ IsIn places.nodes v.parent
    → ((j : ℕ) → j < count → IsIn places.resources (field references (4 * j) 4)) → NamesPlaces places (Node v)
node_valid places v references count are parent resources =
    record {
      parent = λ p is. subst (λ (x : ℕ). (x ≡ 0) ⊎ IsIn places.nodes x) (same_Some v.parent p is) parent;
      resource = λ j r is. let (below, number) = number_is references count j r (rw are at is) in
          rw number (resources j below);
      next_level = λ p is. absurd cc;
    }

pub parent_first : (places : Places) (v : NodeValue) (at : ℕ) → v.parent ≢ 0 → ¬ IsIn places.nodes v.parent
    → IsFirstReference places (Node v) (record { code = code.DanglingParent; at = at; other = v.parent; point = 0 })
parent_first places v at some nowhere =
    record {
      own = refl;
      fault = (refl, some, nowhere, refl);
      least = λ u here wrong. least u.code u.at u.other u.point here wrong;
    }
  where
    w : Witness
    w = record { code = code.DanglingParent; at = at; other = v.parent; point = 0 }

    least : (c : Code) (place other point : ℕ) → at ≡ place → EntryReferenceFault places (Node v) c other point
        → NotAfter w (record { code = c; at = place; other = other; point = point })
    least code.DanglingParent place other point here (is, _, _, zero) =
        not_after w (record { code = code.DanglingParent; at = place; other = other; point = point })
        (inr (here, omega arith)) (same_Some v.parent other is) (sym zero)
    least code.DanglingResource place other point here wrong = inr (here, inl (omega arith))
    least code.DanglingCache place other point here wrong = inr (here, inl (omega arith))
    least _ place other point here wrong = absurd wrong

-- if its Parent does not dangle, the first of its private resources that does is the first fault
pub resource_first : (places : Places) (v : NodeValue) (references : List ℕ) (count at j r : ℕ)
    → v.resources ≡ numbers_in references count → (v.parent ≡ 0) ⊎ IsIn places.nodes v.parent
    → j < count → r ≡ field references (4 * j) 4 → ¬ IsIn places.resources r
    → ((i : ℕ) → i < j → IsIn places.resources (field references (4 * i) 4))
    → IsFirstReference places (Node v) (record { code = code.DanglingResource; at = at; other = j; point = r })
resource_first places v references count at j r are parent below number nowhere before =
    record {
      own = refl;
      fault = (rw (are, number) (is_number references count j below), nowhere);
      least = λ u here wrong. least u.code u.at u.other u.point here wrong;
    }
  where
    w : Witness
    w = record { code = code.DanglingResource; at = at; other = j; point = r }

    least : (c : Code) (place other point : ℕ) → at ≡ place → EntryReferenceFault places (Node v) c other point
        → NotAfter w (record { code = c; at = place; other = other; point = point })
    least code.DanglingParent place other point here (is, some, dangles, _) =
        let same = same_Some v.parent other is in
        elim parent [ inl zero ↦ absurd (some (sym same ∙ zero)) | inr there ↦ absurd (dangles (rw same at there)) ]
    least code.DanglingResource place other point here (is, dangles) =
        let (inside, own) = number_is references count other point (rw are at is) in
        elim (cases_order other j) [
          | inl same ↦ inr
              (here, inr (refl, inr (sym same, omega (arith, own, number, ap (λ i. field references (4 * i) 4) same))))
          | inr (inl less) ↦ absurd (dangles (rw own (before other less)))
          | inr (inr more) ↦ inr (here, inr (refl, inl more))
        ]
    least code.DanglingCache place other point here wrong = inr (here, inl (omega arith))
    least _ place other point here wrong = absurd wrong

-- ---- caches

pub cache_valid : (places : Places) (v : CacheValue) → (v.next_level ≡ 0) ⊎ IsIn places.caches v.next_level
    → NamesPlaces places (Cache v)
cache_valid places v next =
    record {
      parent = λ p is. absurd cc;
      resource = λ j r is. absurd cc;
      next_level = λ p is. subst (λ (x : ℕ). (x ≡ 0) ⊎ IsIn places.caches x) (same_Some v.next_level p is)
          next;
    }

pub cache_first : (places : Places) (v : CacheValue) (at : ℕ) → v.next_level ≢ 0
    → ¬ IsIn places.caches v.next_level
    → IsFirstReference places (Cache v) (record { code = code.DanglingCache; at = at; other = v.next_level; point = 0 })
cache_first places v at some nowhere =
    record {
      own = refl;
      fault = (refl, some, nowhere, refl);
      least = λ u here wrong. least u.code u.at u.other u.point here wrong;
    }
  where
    w : Witness
    w = record { code = code.DanglingCache; at = at; other = v.next_level; point = 0 }

    least : (c : Code) (place other point : ℕ) → at ≡ place → EntryReferenceFault places (Cache v) c other point
        → NotAfter w (record { code = c; at = place; other = other; point = point })
    least code.DanglingParent place other point here wrong = absurd (cc)
    least code.DanglingResource place other point here wrong = absurd (cc)
    least code.DanglingCache place other point here (is, _, _, zero) =
        not_after w (record { code = code.DanglingCache; at = place; other = other; point = point })
        (inr (here, omega arith)) (same_Some v.next_level other is) (sym zero)
    least _ place other point here wrong = absurd wrong

-- for the Next Level of either kind of cache
pub cache_link : (places : Places) (v : CacheValue) (at : ℕ) (o : Option Witness)
    → MatchOption o ((v.next_level ≡ 0) ⊎ IsIn places.caches v.next_level)
    (λ w. (w ≡ record { code = code.DanglingCache; at = at; other = v.next_level; point = 0 }) × (v.next_level ≢ 0)
    × ¬ IsIn places.caches v.next_level)
    → MatchOption o (NamesPlaces places (Cache v)) (λ w. (w.at ≡ at) × IsFirstReference places (Cache v) w)
cache_link places v at None valid = cache_valid places v valid
cache_link places v at (Some w) (is, some, nowhere) = rw is (refl, cache_first places v at some nowhere)
