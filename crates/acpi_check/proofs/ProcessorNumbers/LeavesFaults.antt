-- From the leaves of a PPTT that are no processors of a MADT to the first fault of the two tables.
use Rattle.std.proofs.Common.{◌≡◌, ℕ, ◌≤◌, List, Option, Some, None, refl, sym, ap, subst}
use Rattle.std.specs.Prelude.{◌↔◌, ◌&&◌, Contains}
use Rattle.std.proofs.lemmas.Bool.{and_parts, and_from}
use Rattle.std.proofs.lemmas.Option.{same_Some, none-some, cond_some}
use Rattle.acpi_base.specs.Across.{IsLeaf, IsUid, AreLeavesKnown, LeafFault}
use Rattle.acpi_base.specs.Codes.{stage_of}
use Rattle.acpi_base.specs.Faults.{NotAfter}
use Rattle.acpi_base.specs.Header.{header_of}
use Rattle.acpi_base.specs.Madt.{MadtEntry, LocalApic, X2apic, MadtContents, HasUid, IsWhollyTyped}
use Rattle.acpi_base.specs.Number.{has_bit}
use Rattle.acpi_base.specs.Pptt.{PpttEntry, Node, PpttContents, pptt_contents}
use Rattle.acpi_base.specs.declared.code.Code.{Code}
use Rattle.acpi_base.specs.declared.code.Code.TheVariants as code
use Rattle.acpi_base.specs.declared.stage.Stage.TheVariants as stage
use Rattle.acpi_base.specs.declared.witness.Witness.{Witness}
use Rattle.acpi_check.specs.Processors.{leaf_id, number_of, AreNumbers}
use Rattle.acpi_check.specs.NamedNumbers.{FindsUnknown}
use Rattle.acpi_check.specs.PassResults.{FindsFault}
use Rattle.acpi_check.specs.declared.processors.Key.TheVariants as key

-- ---- entries

pub is_leaf : (id : ℕ) (e : PpttEntry) → IsLeaf id e ↔ (leaf_id e ≡ Some id)
is_leaf id (Node v) = (
  λ (valid, leaf, is). rw (and_from (has_bit v.flags 1) (has_bit v.flags 3) valid leaf, is) refl,
  λ is.
      let parts = cond_some (has_bit v.flags 1 && has_bit v.flags 3) v.id id is in
      let flags = and_parts (has_bit v.flags 1) (has_bit v.flags 3) parts.0 in
      (flags.0, flags.1, parts.1),
)
is_leaf id _ = (λ h. absurd h, λ is. none-some id is)

pub has_uid : (uid : ℕ) (e : MadtEntry) → HasUid uid e ↔ (number_of key.Uid e ≡ Some uid)
has_uid uid (LocalApic v) = (λ is. ap Some is, λ is. same_Some v.uid uid is)
has_uid uid (X2apic v) = (λ is. ap Some is, λ is. same_Some v.uid uid is)
has_uid uid _ = (λ h. absurd h, λ is. none-some uid is)

are_uids : (madt : MadtContents) (uids : List ℕ) → AreNumbers key.Uid madt uids → (uid : ℕ)
    → Contains uids uid ↔ IsUid madt uid
are_uids madt uids are uid = (from, λ (o, (e, stands, has)). (are.all uid).1 (o, (e, stands, (has_uid uid e).0 has)))
  where
    from : Contains uids uid → IsUid madt uid
    from listed = let (o, (e, stands, is)) = (are.all uid).0 listed in (o, (e, stands, (has_uid uid e).1 is))

-- ---- the tables

pub revision : (whole : List ℕ) → (header_of whole).revision ≡ (pptt_contents whole).revision
unfolding pptt_contents header_of
revision whole = refl

-- what is found about the leaves holds for the tables
pub leaves_found : (madt : MadtContents) (pptt : PpttContents) (uids : List ℕ) → AreNumbers key.Uid madt uids
    → 2 ≤ pptt.revision → IsWhollyTyped madt
    → (found : Option Witness) → FindsUnknown (Contains uids) leaf_id code.LeafUnknown pptt.entries found
    → FindsFault stage.Leaves (AreLeavesKnown madt pptt) (LeafFault madt pptt) found
leaves_found madt pptt uids are recent typed None all =
    λ _ _ o id (e, stands, leaf). (are_uids madt uids are id).0 (all o id (e, stands, (is_leaf id e).0 leaf))
leaves_found madt pptt uids are recent typed (Some w) first =
    record {
      own = ap stage_of first.code;
      fault = rw first.code fault;
      least = λ v wrong. least v.code v.at v.other v.point wrong;
    }
  where
    fault : LeafFault madt pptt code.LeafUnknown w.at w.other w.point
    fault =
        let (e, stands, is) = first.names in (
          recent,
          typed,
          (e, stands, (is_leaf w.point e).1 is),
          λ known. first.unknown ((are_uids madt uids are w.point).1 known),
          first.other,
        )

    least : (d : Code) (at other point : ℕ) → LeafFault madt pptt d at other point
        → NotAfter w (record { code = d; at = at; other = other; point = point })
    least code.LeafUnknown at other point (_, _, (e, stands, leaf), unknown, zero) =
        subst (λ (k : ℕ). NotAfter w (record { code = code.LeafUnknown; at = at; other = k; point = point })) (sym zero)
        (first.first at point (e, stands, (is_leaf point e).0 leaf)
        (λ listed. unknown ((are_uids madt uids are point).0 listed)))
    least _ at other point wrong = absurd wrong
