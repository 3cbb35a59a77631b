-- Facts about each table with a signature are facts about the one that a set lists first.
use Rattle.std.proofs.Common.{ℕ, ◌^◌, ◌<◌, List, length, Some, None, subst, inr, arith}
use Rattle.std.specs.Prelude.{slice_index}
use Rattle.acpi_base.specs.Memory.{Memory, IsImage}
use Rattle.acpi_base.specs.Tables.{length_of}
use Rattle.acpi_base.specs.Listed.{IsListedTable, ForListed, HasListed}
use Rattle.acpi_base.specs.declared.code.Code.{Code}
use Rattle.acpi_base.specs.declared.stage.Stage.{Stage}
use Rattle.acpi_base.proofs.Images.PresentBytes.{bytes_below, present_field_below}
use Rattle.acpi_base.proofs.Faults.Deciding.{decided_as}
use Rattle.acpi_base.proofs.Faults.HoldsOrFault.{AreJudged}
use Rattle.acpi_base.proofs.Tables.Listed.{IsListedOrNone, none_and_listed, one_listed}
use Rattle.acpi_base.proofs.Frames.{length_frame}

pub of_listed : {m : Memory} {p : ℕ} {signature whole : List ℕ} (P : List ℕ → Type 0)
    → IsListedTable m p signature whole → HasListed m p signature P → P whole
of_listed {m} {p} {signature} {whole} P is (bytes, also, holds) =
    subst P (one_listed m p signature bytes whole also is) holds

pub for_listed : {m : Memory} {p : ℕ} {signature whole : List ℕ} (P : List ℕ → Type 0)
    → IsListedTable m p signature whole → P whole → ForListed m p signature P
for_listed {m} {p} {signature} {whole} P is holds bytes also =
    subst P (one_listed m p signature whole bytes is also) holds

pub listed_judged : (s : Stage) (m : Memory) (p : ℕ) (signature : List ℕ) (Valid : List ℕ → Type 0)
    (IsFault : List ℕ → Code → ℕ → ℕ → ℕ → Type 0) → IsListedOrNone m p signature
    → ((whole : List ℕ) → IsListedTable m p signature whole → AreJudged s (Valid whole) (IsFault whole))
    → AreJudged s (ForListed m p signature Valid)
    (λ c at other point. HasListed m p signature (λ whole. IsFault whole c at other point))
listed_judged s m p signature Valid IsFault (None, none) each =
    record {
      bound = 0;
      fit = λ c at other point fault. absurd (none_and_listed none fault.1);
      decided = λ c at other point. inr (λ fault. none_and_listed none fault.1);
      holds = λ no_fault whole is. absurd (none_and_listed none is);
    }
listed_judged s m p signature Valid IsFault (Some whole, is) each =
    let judged = each whole is in
    record {
      bound = judged.bound;
      fit = λ c at other point fault. judged.fit c at other point
          (of_listed (λ bytes. IsFault bytes c at other point) is fault);
      decided = λ c at other point. decided_as (λ fault. (whole, is, fault))
          (of_listed (λ bytes. IsFault bytes c at other point) is) (judged.decided c at other point);
      holds = λ none. for_listed Valid is
          (judged.holds (λ c at other point own fault. none c at other point own (whole, is, fault)));
    }

pub listed_fits : {m : Memory} {p : ℕ} {signature whole : List ℕ} → IsImage m → IsListedTable m p signature whole
    → ((k : ℕ) → slice_index whole k < 256) × (length whole < 2 ^ 32)
listed_fits {m} {whole = whole} image listed =
    let table = listed.table in (
      bytes_below m image listed.a (length_of listed.header) whole table.present,
      omega (
        arith,
        length_frame table,
        present_field_below m image listed.a 36 listed.header table.header_present 4 4,
      ),
    )
