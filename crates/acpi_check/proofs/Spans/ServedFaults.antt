-- From the interrupt numbers that entries of a MADT name to its first fault.
use Rattle.std.proofs.Common.{◌≡◌, ℕ, ◌<◌, List, [], ◌∷◌, length, Option, Some, None, refl, sym, ap, subst, inl, inr, arith}
use Rattle.std.specs.FinMap.{get}
use Rattle.std.specs.Prelude.{◌↔◌, AllPairs}
use Rattle.std.specs.List.Sorted.{IsPermutation}
use Rattle.std.proofs.lemmas.List.Sorted.{Contains-permutation, IsPermutation-sym}
use Rattle.std.proofs.lemmas.Option.{same_Some, none-some}
use Rattle.acpi_base.specs.Across.{IsIoApic, HasIoApic, IsServed, AreNamedServed, ServedFault}
use Rattle.acpi_base.specs.Codes.{stage_of}
use Rattle.acpi_base.specs.Faults.{NotAfter}
use Rattle.acpi_base.specs.Madt.{MadtEntry, IoApic, Override, NmiSource, MadtContents, NamesGsi, ServesFrom, Serves}
use Rattle.acpi_base.specs.Policy.{PolicyValue, IsPolicy, inputs_of}
use Rattle.acpi_base.specs.declared.code.Code.{Code}
use Rattle.acpi_base.specs.declared.code.Code.TheVariants as code
use Rattle.acpi_base.specs.declared.stage.Stage.TheVariants as stage
use Rattle.acpi_base.specs.declared.witness.Witness.{Witness}
use Rattle.acpi_base.proofs.Elements.{first_element}
use Rattle.acpi_base.proofs.Options.{cases_Option}
use Rattle.acpi_graph.specs.Spans.{ComesBefore}
use Rattle.acpi_graph.specs.declared.span.Span.{Span}
use Rattle.acpi_check.specs.NamedNumbers.{FindsUnknown}
use Rattle.acpi_check.specs.PassResults.{FindsFault}
use Rattle.acpi_check.specs.RangeSpans.{AreSpansOf}
use Rattle.acpi_check.specs.ServedGsis.{named_gsi, IsInSpans, DoStartsRise}

-- ---- entries

pub names : (g : ℕ) (e : MadtEntry) → NamesGsi g e ↔ (named_gsi e ≡ Some g)
names g (Override v) = (λ is. ap Some is, λ is. same_Some v.gsi g is)
names g (NmiSource v) = (λ is. ap Some is, λ is. same_Some v.gsi g is)
names g _ = (λ h. absurd h, λ is. none-some g is)

one_input : (q : PolicyValue) → IsPolicy q → (address : ℕ) → 0 < inputs_of q address
unfolding inputs_of
one_input q is address =
    elim (cases_Option (get q.inputs address)) [
      | inr none ↦ rw none (omega (arith, is.default_fits))
      | inl (count, given) ↦ rw given (omega (arith, is.inputs_fit address count given))
    ]

serves_one : (q : PolicyValue) → IsPolicy q → (e : MadtEntry) → IsIoApic e → (s : ℕ) × ServesFrom q s s e
serves_one q is (IoApic v) io =
    (v.gsi_base, (refl, omega arith, omega (arith, one_input q is v.address)))
serves_one q is _ io = absurd io

is_io_apic : (q : PolicyValue) (s g : ℕ) (e : MadtEntry) → ServesFrom q s g e → IsIoApic e
is_io_apic q s g (IoApic v) serves = tt
is_io_apic q s g _ serves = absurd serves

-- ---- spans

pub starts_rise : (spans : List Span) → AllPairs ComesBefore spans → DoStartsRise spans
starts_rise spans order i j d before within =
    elim (order i j d before within) [ inl less ↦ omega (arith, less) | inr same ↦ omega (arith, same.0) ]

pub no_io_apic : (q : PolicyValue) → IsPolicy q → (c : MadtContents) (spans : List Span)
    → AreSpansOf (Serves q c) spans → length spans ≡ 0 → ¬ HasIoApic c
no_io_apic q is c spans are none (o, (e, stands, io)) =
    let (s, serves) = serves_one q is e io in
    let (k, within, _) = ((are.covers o s s).0 (e, stands, serves)).listed in
    omega (arith, within, none)

pub has_io_apic : (q : PolicyValue) (c : MadtContents) (spans : List Span) → AreSpansOf (Serves q c) spans
    → 0 < length spans → HasIoApic c
has_io_apic q c [] are some = absurd (omega (arith, some))
has_io_apic q c (span ∷ spans) are some =
    let (e, stands, serves) = (are.covers span.name span.start span.start).1 (record {
      span = span;
      listed = first_element span spans;
      name = refl;
      start = refl;
      holds = record { from_start = omega arith; below_end = span.not_empty };
    }) in
    (span.name, (e, stands, is_io_apic q span.start span.start e serves))

are_served : (q : PolicyValue) (c : MadtContents) (spans : List Span) → AreSpansOf (Serves q c) spans → (g : ℕ)
    → IsInSpans spans g ↔ IsServed q c g
are_served q c spans are g = (
  λ h. (
    h.span.name,
    h.span.start,
    (are.covers h.span.name h.span.start g).1
        (record { span = h.span; listed = h.listed; name = refl; start = refl; holds = h.holds }),
  ),
  λ (o, s, serves). (
      let h = (are.covers o s g).0 serves in
      record { span = h.span; listed = h.listed; holds = h.holds }),
)

pub rising_served : (q : PolicyValue) (c : MadtContents) (spans sorted rising : List Span)
    → AreSpansOf (Serves q c) spans → IsPermutation spans sorted
    → ((g : ℕ) → IsInSpans rising g ↔ IsInSpans sorted g) → (g : ℕ) → IsInSpans rising g ↔ IsServed q c g
rising_served q c spans sorted rising are moved same g = (
  λ here. (
      let h = (same g).0 here in
      (are_served q c spans are g).0 (record {
        span = h.span;
        listed = Contains-permutation sorted spans h.span (IsPermutation-sym spans sorted moved) h.listed;
        holds = h.holds;
      })),
  λ served. (
      let h = (are_served q c spans are g).1 served in
      (same g).1 (record {
        span = h.span;
        listed = Contains-permutation spans sorted h.span moved h.listed;
        holds = h.holds;
      })),
)

-- ---- the table

-- what is found about the entries holds for the table
pub unserved_found : (q : PolicyValue) (c : MadtContents) (rising : List Span) → HasIoApic c
    → ((g : ℕ) → IsInSpans rising g ↔ IsServed q c g)
    → (found : Option Witness) → FindsUnknown (IsInSpans rising) named_gsi code.GsiNowhere c.entries found
    → FindsFault stage.Served (AreNamedServed q c) (ServedFault q c) found
unserved_found q c rising io same None all =
    λ _ o g (e, stands, named). (same g).0 (all o g (e, stands, (names g e).0 named))
unserved_found q c rising io same (Some w) first =
    record {
      own = ap stage_of first.code;
      fault = rw first.code fault;
      least = λ v wrong. least v.code v.at v.other v.point wrong;
    }
  where
    fault : ServedFault q c code.GsiNowhere w.at w.other w.point
    fault =
        let (e, stands, is) = first.names in (
          io,
          (e, stands, (names w.point e).1 is),
          λ served. first.unknown ((same w.point).1 served),
          first.other,
        )

    least : (d : Code) (at other point : ℕ) → ServedFault q c d at other point
        → NotAfter w (record { code = d; at = at; other = other; point = point })
    least code.GsiNowhere at other point (_, (e, stands, named), unserved, zero) =
        subst (λ (k : ℕ). NotAfter w (record { code = code.GsiNowhere; at = at; other = k; point = point })) (sym zero)
        (first.first at point (e, stands, (names point e).0 named) (λ here. unserved ((same point).0 here)))
    least _ at other point wrong = absurd wrong
