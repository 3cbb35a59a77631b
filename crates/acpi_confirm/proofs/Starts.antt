-- Notes of where entries of a PPTT begin: each is the start of an entry.
use Rattle.std.proofs.Common.{◌≤◌, ℕ, List, Option, length, sym, subst, inl, inr, arith}
use Rattle.acpi_base.specs.Entries.{entries_of}
use Rattle.acpi_base.proofs.Elements.{first_element}
use Rattle.acpi_confirm.specs.Walks.{HasEntryAt, AreStarts, AreNotedWith, IsThere, IsNext}
use Rattle.acpi_confirm.proofs.Chains.{ahead}
use Rattle.acpi_confirm.proofs.Walks.{IsOver}

-- ---- what is noted

pub noted_with : (size start : ℕ) (old new whole : List ℕ) → AreStarts size old whole → HasEntryAt whole start
    → AreNotedWith size start old new → AreStarts size new whole
noted_with size start old new whole starts here with =
    record {
      some = starts.some;
      stand = λ o noted. elim (with.either o noted) [
        | inl before ↦ starts.stand o before
        | inr is ↦ subst (HasEntryAt whole) (sym is) here
      ];
    }

-- ---- the walk over all entries

pub has_entry : (No : List ℕ → Type 0) (start : ℕ) (whole e : List ℕ) → IsOver No 36 start whole → IsNext start whole e
    → HasEntryAt whole start
has_entry No start whole e over next = (e, over.listed start e (rw next.first (first_element _ _)))

-- ---- a look-up

pub there_ahead : (pptt : List ℕ) (start at : ℕ) (there : Option (List ℕ)) → HasEntryAt pptt start → start ≤ at
    → IsThere (entries_of start pptt) at there → IsThere (entries_of 36 pptt) at there
there_ahead pptt start at there (e, stands) behind is =
    let way = ahead (length pptt) 36 start pptt at e (omega arith) stands behind in
    record { is = λ x. (λ h. (is.is x).0 ((way.same x).0 h), λ h. (way.same x).1 ((is.is x).1 h)) }
