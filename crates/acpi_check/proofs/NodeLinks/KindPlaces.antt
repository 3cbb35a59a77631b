-- The offsets that are collected from the entries of a PPTT are those of the entries that may be named.
use Rattle.std.proofs.Common.{◌≡◌, ℕ, true, false, List, [], ◌∷◌, Option, Some, None, refl, sym, subst, inl, inr, arith}
use Rattle.std.specs.Prelude.{◌↔◌, ◌≢◌, ◌⊎◌, Bool, Contains, if◌then◌else◌}
use Rattle.std.proofs.lemmas.Bool.{cases_Bool}
use Rattle.std.proofs.lemmas.Option.{cond_some, none-some}
use Rattle.acpi_base.specs.Entries.{PlacedEntry, Stands, StandsWith}
use Rattle.acpi_base.specs.Pptt.{PpttEntry, Node, Cache, Opaque, pptt_type, pptt_contents, parent_of, next_level_of, HasOtherPpttLength, IsCutPptt}
use Rattle.acpi_base.proofs.Elements.{first_element, later_element, first_or_later, no_element}
use Rattle.acpi_check.specs.EntryPlaces.{ArePlaces, kind_of, is_node, is_cache, is_resource, kind_offsets}
use Rattle.acpi_check.specs.BitSets.{IsIn, Adds}
use Rattle.acpi_check.specs.declared.places.PlaceKind.{PlaceKind}
use Rattle.acpi_check.specs.declared.places.Places.{Places}
use Rattle.acpi_check.specs.declared.bit_set.BitSet.{BitSet}
use Rattle.acpi_check.proofs.EntryPasses.Kept.{kept_has, kept_from}

-- ---- entries of some kinds

-- the offset of an entry of the kinds
abbrev kept : (PlaceKind → Bool) → PlacedEntry PpttEntry → Option ℕ
kept kinds s = if kinds (kind_of s.entry) then Some s.offset else None

kept_is : (kinds : PlaceKind → Bool) (s : PlacedEntry PpttEntry) (o : ℕ) → kept kinds s ≡ Some o
    → (kinds (kind_of s.entry) ≡ true) × (o ≡ s.offset)
kept_is kinds s o is = (let parts = cond_some (kinds (kind_of s.entry)) s.offset o is in (parts.0, sym parts.1))

stand : (kinds : PlaceKind → Bool) (entries : List (PlacedEntry PpttEntry)) (o : ℕ)
    → Contains (kind_offsets kinds entries) o ↔ StandsWith entries o (λ e. kinds (kind_of e) ≡ true)
stand kinds entries o =
    (from, λ (e, stands, is). kept_has (kept kinds) entries (record { offset = o; entry = e }) o stands (rw is refl))
  where
    from : Contains (kind_offsets kinds entries) o → StandsWith entries o (λ e. kinds (kind_of e) ≡ true)
    from listed =
        let (s, found, is) = kept_from (kept kinds) entries o listed in
        let (kind, same) = kept_is kinds s o is in
        (s.entry, subst (λ (k : ℕ). Stands entries k s.entry) (sym same) found, kind)

-- ---- in the loop over the entries

-- the offsets so far, with those of the entries left, are those of all entries of the kinds
pub record IsGathering (kinds : PlaceKind → Bool) (all left : List (PlacedEntry PpttEntry)) (offsets : BitSet) :
    Type 0
  where
    pub each : (o : ℕ) → (IsIn offsets o ⊎ Contains (kind_offsets kinds left) o) ↔ Contains (kind_offsets kinds all) o

pub none_gathered : (kinds : PlaceKind → Bool) (all : List (PlacedEntry PpttEntry)) (offsets : BitSet)
    → ((o : ℕ) → ¬ IsIn offsets o) → IsGathering kinds all all offsets
none_gathered kinds all offsets none =
    record {
      each = λ o. (λ either. elim either [ inl here ↦ absurd (none o here) | inr left ↦ left ], λ listed. inr listed);
    }

pub one_gathered : (kinds : PlaceKind → Bool) (all left : List (PlacedEntry PpttEntry)) (s : PlacedEntry PpttEntry)
    (old new : BitSet) → IsGathering kinds all (s ∷ left) old → Adds (kinds (kind_of s.entry)) s.offset old new
    → IsGathering kinds all left new
one_gathered kinds all left s old new before adds =
    record {
      each = elim (cases_Bool (kinds (kind_of s.entry))) [
        | inl is ↦ kept is (rw is at adds)
        | inr is ↦ passed is (rw is at adds)
      ];
    }
  where
    kept : kinds (kind_of s.entry) ≡ true → ((o : ℕ) → IsIn new o ↔ ((o ≡ s.offset) ⊎ IsIn old o)) → (o : ℕ)
        → (IsIn new o ⊎ Contains (kind_offsets kinds left) o) ↔ Contains (kind_offsets kinds all) o
    kept is added o = (
      λ either. (before.each o).0 (elim either [
        | inr later ↦ inr (rw is (later_element s.offset o (kind_offsets kinds left) later))
        | inl here ↦ elim ((added o).0 here) [
          | inl same ↦ inr (rw (is, same) (first_element s.offset (kind_offsets kinds left)))
          | inr earlier ↦ inl earlier
        ]
      ]),
      λ listed. elim ((before.each o).1 listed) [
        | inl earlier ↦ inl ((added o).1 (inr earlier))
        | inr left_or_here ↦
            elim (first_or_later s.offset o (kind_offsets kinds left) (rw is at left_or_here)) [
              | inl same ↦ inl ((added o).1 (inl (sym same)))
              | inr later ↦ inr later
            ]
      ],
    )

    passed : kinds (kind_of s.entry) ≡ false → ((o : ℕ) → IsIn new o ↔ IsIn old o) → (o : ℕ)
        → (IsIn new o ⊎ Contains (kind_offsets kinds left) o) ↔ Contains (kind_offsets kinds all) o
    passed is same o =
        let was : (IsIn old o ⊎ Contains (kind_offsets kinds left) o) ↔ Contains (kind_offsets kinds all) o =
        rw is at (before.each o) in (
          λ either. was.0 (elim either [ inl here ↦ inl ((same o).0 here) | inr later ↦ inr later ]),
          λ listed. elim (was.1 listed) [ inl earlier ↦ inl ((same o).1 earlier) | inr later ↦ inr later ],
        )

all_gathered : (kinds : PlaceKind → Bool) (all : List (PlacedEntry PpttEntry)) (offsets : BitSet)
    → IsGathering kinds all [] offsets → (o : ℕ) → IsIn offsets o ↔ StandsWith all o (λ e. kinds (kind_of e) ≡ true)
all_gathered kinds all offsets here o = (
  λ is. (stand kinds all o).0 ((here.each o).0 (inl is)),
  λ stands. elim ((here.each o).1 ((stand kinds all o).1 stands)) [
    | inl is ↦ is
    | inr left ↦ absurd (no_element o left)
  ],
)

-- ---- what may be named

names_parent : (e : PpttEntry) → (is_node (kind_of e) ≡ true) ↔ ((p : ℕ) × (parent_of e ≡ Some p))
names_parent (Node v) = (λ is. (v.parent, refl), λ names. refl)
names_parent (Cache v) = (λ is. absurd cc, λ (p, is). absurd (none-some p is))
names_parent (Opaque e) = (λ is. absurd cc, λ (p, is). absurd (none-some p is))

names_next_level : (e : PpttEntry) → (is_cache (kind_of e) ≡ true) ↔ ((p : ℕ) × (next_level_of e ≡ Some p))
names_next_level (Node v) = (λ is. absurd cc, λ (p, is). absurd (none-some p is))
names_next_level (Cache v) = (λ is. (v.next_level, refl), λ names. refl)
names_next_level (Opaque e) = (λ is. absurd cc, λ (p, is). absurd (none-some p is))

of_other_type : (e : PpttEntry) → ¬ HasOtherPpttLength e → (is_resource (kind_of e) ≡ true) ↔ (pptt_type e ≢ 0)
of_other_type (Node v) valid = (λ is. absurd cc, λ other. absurd (other refl))
of_other_type (Cache v) valid = (λ is same. absurd cc, λ other. refl)
of_other_type (Opaque e) valid = (λ is same. valid (omega (arith, same)), λ other. refl)

-- ---- of a PPTT

-- if entries have a length of their type, the collected offsets are those of what may be named
pub are_places : (whole : List ℕ) (places : Places) → IsCutPptt (pptt_contents whole)
    → IsGathering is_node (pptt_contents whole).entries [] places.nodes
    → IsGathering is_cache (pptt_contents whole).entries [] places.caches
    → IsGathering is_resource (pptt_contents whole).entries [] places.resources → ArePlaces (pptt_contents whole) places
are_places whole places cut nodes caches resources =
    let said = (pptt_contents whole).entries in
    record {
      nodes = λ o. (
        λ here. (let (e, stands, is) = (all_gathered is_node said places.nodes nodes o).0 here in
            let (p, names) = (names_parent e).0 is in (p, (e, stands, names))),
        λ (p, (e, stands, names)). (all_gathered is_node said places.nodes nodes o).1
            (e, stands, (names_parent e).1 (p, names)),
      );
      caches = λ o. (
        λ here. (let (e, stands, is) = (all_gathered is_cache said places.caches caches o).0 here in
            let (p, names) = (names_next_level e).0 is in (p, (e, stands, names))),
        λ (p, (e, stands, names)). (all_gathered is_cache said places.caches caches o).1
            (e, stands, (names_next_level e).1 (p, names)),
      );
      resources = λ o. (
        λ here. (let (e, stands, is) = (all_gathered is_resource said places.resources resources o).0 here in
            (e, stands, (of_other_type e (cut.lengths o e stands)).0 is)),
        λ (e, stands, is). (all_gathered is_resource said places.resources resources o).1
            (e, stands, (of_other_type e (cut.lengths o e stands)).1 is),
      );
    }
