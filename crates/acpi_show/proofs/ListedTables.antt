-- The first listed table of each kind, from slot to slot.
use Rattle.std.proofs.Common.{◌≡◌, ℕ, ◌+◌, ◌<◌, Bool, true, false, Option, Some, None, List, refl, sym, subst, inl, inr, ◌∙◌, arith}
use Rattle.std.specs.Prelude.{◌⊎◌}
use Rattle.std.specs.Option.{option_map}
use Rattle.std.proofs.lemmas.Bool.{cases_Bool, both_ways}
use borrow.Author.Count.{below_more}
use Rattle.acpi_base.specs.Listed.{IsFirstListed}
use Rattle.acpi_base.specs.Memory.{Memory, bytes_at}
use Rattle.acpi_base.specs.Root.{HasSlot}
use Rattle.acpi_base.specs.Signature.{has_signature}
use Rattle.acpi_base.specs.TableKinds.{signature_of}
use Rattle.acpi_base.specs.Tables.{IsSigned, IsTable}
use Rattle.acpi_base.specs.declared.table_kind.TableKind.{TableKind}
use Rattle.acpi_base.proofs.Root.Slots.{one_slot}
use Rattle.acpi_base.proofs.Tables.Faults.{signed_table}
use Rattle.acpi_base.proofs.Tables.Kinds.{one_kind, length-signature_of}
use Rattle.acpi_base.proofs.Tables.Listed.{one_first_listed}
use Rattle.acpi_read.specs.FirstTables.{first_signed}
use Rattle.acpi_read.specs.Roots.{RootValue}
use Rattle.acpi_read.specs.declared.first_tables.Listed.{Listed}
use Rattle.acpi_show.specs.ListedTables.{IsCompleteAt, IsFirstComplete}
use Rattle.acpi_show.specs.SlotPass.{IsFirstBefore}

-- ---- what is at an address

module _ (m : Memory) (a : ℕ) where
  one_header : (header other : List ℕ) → bytes_at m a 36 ≡ Some header → bytes_at m a 36 ≡ Some other → header ≡ other
  one_header header other is also = cc

  -- a header of one kind is at a: the other kind is the same, or no header of it is
  pub kind_or_not : (one other : TableKind) → IsSigned m a (signature_of one)
      → (one ≡ other) ⊎ (¬ IsSigned m a (signature_of other))
  kind_or_not one other is =
      elim (cases_Bool (has_signature is.header (signature_of other))) [
        | inl also ↦ inl (one_kind is.header one other is.signed also)
        | inr lacks ↦ inr (λ has. both_ways (has_signature is.header (signature_of other)) lacks
            (subst (λ (header : List ℕ). has_signature header (signature_of other) ≡ true)
            (one_header has.header is.header has.header_present is.header_present) has.signed))
      ]

  -- the table at a begins with the header there
  signed_whole : (kind : TableKind) (whole : List ℕ) → (header : List ℕ) × IsTable m a header whole
      → IsSigned m a (signature_of kind) → has_signature whole (signature_of kind) ≡ true
  signed_whole kind whole table is =
      signed_table m a table.0 whole (signature_of kind) table.1 (length-signature_of kind)
      ∙ subst (λ (header : List ℕ). has_signature header (signature_of kind) ≡ true)
      (one_header is.header table.0 is.header_present table.1.header_present) is.signed

  unsigned_whole : (kind : TableKind) (whole : List ℕ) → (header : List ℕ) × IsTable m a header whole
      → ¬ IsSigned m a (signature_of kind) → has_signature whole (signature_of kind) ≡ false
  unsigned_whole kind whole table unsigned =
      elim (cases_Bool (has_signature whole (signature_of kind))) [
        | inl has ↦ absurd (unsigned (record {
          header = table.0;
          header_present = table.1.header_present;
          signed = sym (signed_table m a table.0 whole (signature_of kind) table.1 (length-signature_of kind)) ∙ has;
        }))
        | inr lacks ↦ lacks
      ]

  -- ---- the table at a is added

  pub added : (kind : TableKind) (old new : Option Listed) (next : Listed)
      → (header : List ℕ) × IsTable m a header next.table → next.address ≡ a
      → new ≡ first_signed (signature_of kind) old next → IsSigned m a (signature_of kind) → old ≡ None
      → IsCompleteAt m a new
  added kind old new next table at is signed none =
      let has = signed_whole kind next.table table signed in
      rw is (rw none (rw has (at, table)))

  pub not_added : (kind : TableKind) (old new : Option Listed) (next : Listed)
      → (header : List ℕ) × IsTable m a header next.table → new ≡ first_signed (signature_of kind) old next
      → ¬ IsSigned m a (signature_of kind) → new ≡ old
  not_added kind old new next table is unsigned =
      let lacks = unsigned_whole kind next.table table unsigned in rw is (rw lacks refl)

-- ---- one more slot

module _ (m : Memory) (root : RootValue) where
  first_complete : (signature : List ℕ) (a : ℕ) (found : Option Listed)
      → IsFirstListed m root.bytes root.width signature a → IsCompleteAt m a found
      → IsFirstComplete m root signature found
  first_complete signature a None first none = λ b other.
      subst (λ (x : ℕ). IsCompleteAt m x None) (one_first_listed m root.bytes root.width signature a b first other) none
  first_complete signature a (Some listed) first complete =
      subst (λ (x : ℕ). IsFirstListed m root.bytes root.width signature x × IsCompleteAt m x (Some listed))
      (sym complete.0) (first, complete)

  module _ (k : ℕ) where
    pub next_unsigned : (signature : List ℕ) (met : Bool) (found : Option Listed)
        → ((a : ℕ) → HasSlot root.bytes root.width k a → ¬ IsSigned m a signature)
        → IsFirstBefore m root k signature met found → IsFirstBefore m root (k + 1) signature met found
    next_unsigned signature true found unsigned before = before
    next_unsigned signature false found unsigned before = (
      λ j a below slot signed. below_more (λ (i : ℕ). (b : ℕ) → HasSlot root.bytes root.width i b
          → ¬ IsSigned m b signature) k (λ i lower b. before.0 i b lower) unsigned j below a slot signed,
      before.1,
    )

    -- the header in slot k is of another kind
    next_other : (a : ℕ) (kind : TableKind) (met : Bool) (found : Option Listed) → HasSlot root.bytes root.width k a
        → ¬ IsSigned m a (signature_of kind) → IsFirstBefore m root k (signature_of kind) met found
        → IsFirstBefore m root (k + 1) (signature_of kind) met found
    next_other a kind met found slot other =
        next_unsigned (signature_of kind) met found
        (λ b also. subst (λ (x : ℕ). ¬ IsSigned m x (signature_of kind))
        (one_slot root.bytes root.width k a b slot also) other)

    -- a header of its kind was met before
    pub next_met : (a : ℕ) (one kind : TableKind) (met : TableKind → Bool) (found : Option Listed)
        → HasSlot root.bytes root.width k a → IsSigned m a (signature_of one) → met one ≡ true
        → IsFirstBefore m root k (signature_of kind) (met kind) found
        → IsFirstBefore m root (k + 1) (signature_of kind) (met kind) found
    next_met a one kind met found slot signed was =
        elim (kind_or_not m a one kind signed) [
          | inl same ↦ subst (λ (b : Bool). IsFirstBefore m root k (signature_of kind) b found
              → IsFirstBefore m root (k + 1) (signature_of kind) b found)
              (sym (subst (λ (x : TableKind). met x ≡ true) same was)) (λ before. before)
          | inr other ↦ next_other a kind (met kind) found slot other
        ]

    -- it is the first of its kind
    next_first : (a : ℕ) (kind : TableKind) (met now : Bool) (old new : Option Listed)
        → HasSlot root.bytes root.width k a → IsSigned m a (signature_of kind) → met ≡ false → now ≡ true
        → (old ≡ None → IsCompleteAt m a new) → IsFirstBefore m root k (signature_of kind) met old
        → IsFirstBefore m root (k + 1) (signature_of kind) now new
    next_first a kind met now old new slot signed was is adds before =
        let none = rw was at before in
        let first : IsFirstListed m root.bytes root.width (signature_of kind) a =
        record { k = k; slot = slot; signed = signed; none_before = λ j b below. none.0 j b below } in
        rw is (first_complete (signature_of kind) a new first (adds none.1))

    pub next_new : (a : ℕ) (one kind : TableKind) (met now : TableKind → Bool) (old new : Option Listed)
        → HasSlot root.bytes root.width k a → IsSigned m a (signature_of one) → met one ≡ false → now one ≡ true
        → ((other : TableKind) → ¬ (other ≡ one) → now other ≡ met other)
        → (IsSigned m a (signature_of kind) → old ≡ None → IsCompleteAt m a new)
        → (¬ IsSigned m a (signature_of kind) → new ≡ old)
        → IsFirstBefore m root k (signature_of kind) (met kind) old
        → IsFirstBefore m root (k + 1) (signature_of kind) (now kind) new
    next_new a one kind met now old new slot signed was is others adds keeps before =
        elim (kind_or_not m a one kind signed) [
          | inl same ↦ let here = subst (λ (x : TableKind). IsSigned m a (signature_of x)) same signed in
              next_first a kind (met kind) (now kind) old new slot here
              (subst (λ (x : TableKind). met x ≡ false) same was) (subst (λ (x : TableKind). now x ≡ true) same is)
              (adds here) before
          | inr other ↦
              let unlike : ¬ (kind ≡ one) = λ same. other (subst (λ (x : TableKind). IsSigned m a (signature_of x))
              (sym same) signed) in
              rw (others kind unlike) (rw (keeps other) (next_other a kind (met kind) old slot other before))
        ]

    pub all_slots : (signature : List ℕ) (met : Bool) (found : Option Listed)
        → ((j a : ℕ) → HasSlot root.bytes root.width j a → j < k) → IsFirstBefore m root k signature met found
        → IsFirstComplete m root signature found
    all_slots signature true found within first = first
    all_slots signature false found within before =
        rw before.1 (λ a first. absurd (before.0 first.k a (within first.k a first.slot) first.slot first.signed))

  -- ---- no slot yet

  pub no_slot : (signature : List ℕ) (met : Bool) (found : Option Listed) → met ≡ false
      → option_map (λ (first : Listed). first.table) found ≡ None → IsFirstBefore m root 0 signature met found
  no_slot signature met None is none = rw is (λ j a below. absurd (omega arith), refl)
  no_slot signature met (Some listed) is none = absurd cc
