-- The faults of the root table: each can be decided, and there is none exactly if it is valid.
use Rattle.std.proofs.Common.{◌≡◌, ◌<◌, ◌^◌, ◌+◌, ℕ, List, Some, refl, sym, ap, subst, inl, inr, arith}
use Rattle.std.specs.Prelude.{◌-◌, ◌%◌}
use Rattle.std.proofs.lemmas.Bool.{both_ways}
use Rattle.acpi_base.specs.Memory.{Memory, IsImage, bytes_at}
use Rattle.acpi_base.specs.Signature.{has_signature}
use Rattle.acpi_base.specs.Rsdp.{Addresses, addresses_at}
use Rattle.acpi_base.specs.Root.{IsRoot, root_signature, IsValidRootTable, IsValidRoot, RootTableFault, RootFault}
use Rattle.acpi_base.specs.Tables.{length_of, table_frame}
use Rattle.acpi_base.specs.Codes.{code_number, stage_of}
use Rattle.acpi_base.specs.declared.code.Code.{Code}
use Rattle.acpi_base.specs.declared.code.Code.TheVariants as code
use Rattle.acpi_base.specs.declared.frame.Question.TheVariants as question
use Rattle.acpi_base.specs.declared.stage.Stage.TheVariants as stage
use Rattle.acpi_base.proofs.Options.{same_value}
use Rattle.acpi_base.proofs.Faults.Deciding.{Decided, decided_as, both, same, at_most, differs, is_some_with, not_other, not_false}
use Rattle.acpi_base.proofs.Faults.Numbers.{same_code}
use Rattle.acpi_base.proofs.Root.Named.{one_root, root_or_none, no_root_and_root, root_fits}
use Rattle.acpi_base.proofs.Frames as frame
use Rattle.acpi_base.proofs.Frames.{length_frame, stands_wrong}

-- ---- of the root table at an address

table_decided : (m : Memory) (r d : ℕ) (c : Code) → Decided (RootTableFault m r d c)
table_decided m r d code.RootHeaderOut = frame.decided table_frame m r question.Header
table_decided m r d code.RootSignature = frame.decided table_frame m r (question.Signature (root_signature d))
table_decided m r d code.RootLength = frame.decided table_frame m r question.Length
table_decided m r d code.RootOut = frame.decided table_frame m r question.Bytes
table_decided m r d code.RootRagged =
    decided_as (λ h. (h.0, h.1, h.2.0, h.2.1)) (λ h. (h.0, h.1, (h.2, h.3)))
    (is_some_with (bytes_at m r 36) _
    (λ header. both (at_most 36 (length_of header)) (differs ((length_of header - 36) % d) 0)))
table_decided m r d code.RootSum = frame.decided table_frame m r question.Sum
table_decided m r d _ = inr (λ fault. fault)

table_without_fault : (m : Memory) (r d : ℕ) → ((c : Code) → stage_of c ≡ stage.Root → ¬ RootTableFault m r d c)
    → (whole : List ℕ) × IsValidRootTable m r d whole
table_without_fault m r d none =
    let valid = frame.valid_without_fault table_frame m r (none code.RootHeaderOut refl) (none code.RootLength refl)
    (none code.RootOut refl) (none code.RootSum refl) in
    let header = valid.header in
    let present = valid.frame.header_present in
    let signed = not_false (has_signature header (root_signature d))
    (λ unsigned. none code.RootSignature refl (header, present, unsigned)) in
    let slots = not_other ((length_of header - 36) % d) 0
    (λ ragged. none code.RootRagged refl (header, present, valid.frame.least, ragged)) in (
      valid.whole,
      record {
        table = record { header = header; table = valid.frame; signed = signed };
        slots = rw (length_frame valid.frame) slots;
        zero_sum = valid.zero_sum;
      },
    )

table_excludes : (m : Memory) (r d : ℕ) (whole : List ℕ) (c : Code) → RootTableFault m r d c
    → ¬ IsValidRootTable m r d whole
table_excludes m r d whole code.RootHeaderOut fault valid = stands_wrong question.Header fault valid.table.table
table_excludes m r d whole code.RootSignature fault valid =
    both_ways _ (stands_wrong (question.Signature (root_signature d)) fault valid.table.table) valid.table.signed
table_excludes m r d whole code.RootLength fault valid = stands_wrong question.Length fault valid.table.table
table_excludes m r d whole code.RootOut fault valid = stands_wrong question.Bytes fault valid.table.table
table_excludes m r d whole code.RootRagged (header, present, least, ragged) valid =
    let same = same_value header valid.table.header present valid.table.table.header_present in
    grind (arith, same, length_frame valid.table.table, valid.slots)
table_excludes m r d whole code.RootSum fault valid = stands_wrong question.Sum fault valid.table.table valid.zero_sum
table_excludes m r d whole _ fault valid = absurd fault

-- ---- of the root table that an RSDP names

pub decided : (m : Memory) (p : ℕ) (named : Addresses) → addresses_at m p ≡ Some named → (c : Code) (at : ℕ)
    → Decided (RootFault m p c at)
decided m p named read c at =
    elim (root_or_none m p named read) [
      | inl none ↦
          decided_as (λ h. inl (none, same_code c code.NoRoot h.0, h.1))
          (λ h. elim h [ inl f ↦ (ap code_number f.1, f.2) | inr f ↦ absurd (no_root_and_root none f.1) ])
          (both (same (code_number c) (code_number code.NoRoot)) (same at p))
      | inr (r, d, root) ↦
          decided_as (λ h. inr (
            d,
            subst (λ (x : ℕ). IsRoot m p x d) (sym h.0) root,
            subst (λ (x : ℕ). RootTableFault m x d c) (sym h.0) h.1,
          ))
          (λ h. elim h [ inl f ↦ absurd (no_root_and_root f.0 root) | inr f ↦ here r d root f.0 f.1 f.2 ])
          (both (same at r) (table_decided m r d c))
    ]
  where
    here : (r d : ℕ) → IsRoot m p r d → (e : ℕ) → IsRoot m p at e → RootTableFault m at e c
        → (at ≡ r) × RootTableFault m r d c
    here r d root e other fault =
        (let same = one_root m p at e r d other root in (same.0, rw (same.0, same.1) at fault))

pub bounded : (m : Memory) (p : ℕ) (named : Addresses) → addresses_at m p ≡ Some named
    → (n : ℕ) × ((c : Code) (at : ℕ) → RootFault m p c at → at < n)
bounded m p named read =
    elim (root_or_none m p named read) [
      | inl none ↦ (
        p + 1,
        λ c at fault. elim fault [
          | inl f ↦ omega (arith, f.2)
          | inr f ↦
              absurd (no_root_and_root none f.1)
        ],
      )
      | inr (r, d, root) ↦ (
        r + 1,
        λ c at fault. elim fault [
          | inl f ↦ absurd (no_root_and_root f.0 root)
          | inr f ↦
              omega (arith, (one_root m p at f.0 r d f.1 root).0)
        ],
      )
    ]

pub valid_without_fault : (m : Memory) (p : ℕ) (named : Addresses) → addresses_at m p ≡ Some named
    → ((c : Code) (at : ℕ) → stage_of c ≡ stage.Root → ¬ RootFault m p c at) → IsValidRoot m p
valid_without_fault m p named read none =
    elim (root_or_none m p named read) [
      | inl no_root ↦ absurd (none code.NoRoot p refl (inl (no_root, refl, refl)))
      | inr (r, d, root) ↦
          let valid = table_without_fault m r d (λ c own fault. none c r own (inr (d, root, fault))) in
          record { r = r; d = d; whole = valid.0; root = root; valid = valid.1 }
    ]

pub excludes : (m : Memory) (p at : ℕ) (c : Code) → RootFault m p c at → ¬ IsValidRoot m p
excludes m p at c (inl (none, is, place)) valid = no_root_and_root none valid.root
excludes m p at c (inr (d, root, fault)) valid =
    let same = one_root m p at d valid.r valid.d root valid.root in
    table_excludes m valid.r valid.d valid.whole c (rw (same.0, same.1) at fault) valid.valid

pub place_fits : {m : Memory} {p at : ℕ} {c : Code} → p < 2 ^ 64 → IsImage m → RootFault m p c at → at < 2 ^ 64
place_fits fits image (inl (none, is, place)) = omega arith
place_fits fits image (inr (d, root, fault)) = root_fits image root
