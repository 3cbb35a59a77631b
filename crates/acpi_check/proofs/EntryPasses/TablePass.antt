-- A pass over the entries of a table, each by itself: it stops at the first fault, and finds none if there is none.
use Rattle.std.proofs.Common.{◌≡◌, ℕ, ◌<◌, ◌≤◌, List, [], ◌∷◌, length, Option, Some, None, Ok, Err, true, refl, sym, ◌∙◌, ap, subst, inl, inr, arith}
use Rattle.std.specs.Prelude.{◌⊎◌}
use Rattle.std.proofs.lemmas.Bool.{cases_Bool, eqb-true}
use Rattle.std.proofs.lemmas.Option.{none-some, same_Some}
use Rattle.acpi_base.specs.Codes.{code_number}
use Rattle.acpi_base.specs.Entries.{PlacedEntry, Stands, StandsWith, AreUnused, entries_of, cut_of, entries_read_by}
use Rattle.acpi_base.specs.Faults.{NotAfter}
use Rattle.acpi_base.specs.Policy.{PolicyValue}
use Rattle.acpi_base.specs.declared.code.Code.{Code}
use Rattle.acpi_base.specs.declared.stage.Stage.{Stage}
use Rattle.acpi_base.specs.declared.witness.Witness.{Witness}
use Rattle.acpi_base.proofs.Elements.{first_element, later_element}
use Rattle.acpi_base.proofs.Entries.{none_in_short}
use Rattle.acpi_base.proofs.Faults.Numbers.{same_code}
use Rattle.acpi_base.proofs.Faults.Order.{not_after}
use Rattle.acpi_base.proofs.Options.{none_and_some, same_value}
use Rattle.acpi_read.specs.EntryTables.{EntryTable, entries_in, IsAbout, AreFaults, is_code, subject_of}
use Rattle.acpi_read.specs.declared.entry_codes.EntryCodes.{EntryCodes}
use Rattle.acpi_read.specs.declared.entry_codes.Subject.{Subject}
use Rattle.acpi_read.specs.declared.entry_codes.Subject.TheVariants.{Short, Cut, Second, Own}
use Rattle.acpi_check.specs.PassResults.{IsOwnFault, IsSecondFault, PassesEntry}
use Rattle.acpi_check.specs.TableResults.{IsFirstOfTable}
use Rattle.acpi_check.proofs.EntryPasses.Kept.{rising}
use Rattle.acpi_check.proofs.EntryPasses.Passes.{HasPassed, none_passed, one_more, before_or_behind, left_behind, next_stands, all_passed, own_fault_after, before_cut, none_said}

-- ---- codes

-- the code of the faults about this
abbrev code_about : EntryCodes → Subject → Option Code
code_about codes Short = codes.short
code_about codes Cut = Some codes.cut
code_about codes Second = codes.second
code_about codes Own = None

is_one : (one : Option Code) (c : Code) → is_code one c ≡ true → one ≡ Some c
is_one None c is = absurd cc
is_one (Some one) c is = ap Some (same_code one c (eqb-true _ _ is))

about_code : (codes : EntryCodes) (c : Code) → (subject_of codes c ≡ Own)
    ⊎ (code_about codes (subject_of codes c) ≡ Some c)
about_code codes c =
    elim (cases_Bool (is_code codes.short c)) [
      | inl is ↦ rw is (inr (is_one codes.short c is))
      | inr other ↦ rw other (elim (cases_Bool (is_code (Some codes.cut) c)) [
        | inl is ↦ rw is (inr (is_one (Some codes.cut) c is))
        | inr another ↦ rw another (elim (cases_Bool (is_code codes.second c)) [
          | inl is ↦ rw is (inr (is_one codes.second c is))
          | inr own ↦ rw own (inl refl)
        ])
      ])
    ]

one_code : (codes : EntryCodes) (c d : Code) (about : Subject) → subject_of codes c ≡ about → subject_of codes d ≡ about
    → ¬ (about ≡ Own) → c ≡ d
one_code codes c d about is also not =
    elim (about_code codes c) [
      | inl own ↦ absurd (not (sym is ∙ own))
      | inr one ↦ elim (about_code codes d) [
        | inl own ↦ absurd (not (sym also ∙ own))
        | inr other ↦
            same_Some c d (sym one ∙ ap (code_about codes) (is ∙ sym also) ∙ other)
      ]
    ]

-- ---- the first fault

-- a fault with this code, about what the code is about
abbrev pub IsFaultOf : {E : Type 0} → EntryTable E → EntryCodes → List ℕ → Code → ℕ → ℕ → ℕ → Type 0
IsFaultOf t codes whole c at other point = IsAbout t whole (subject_of codes c) c at other point

-- w is a fault, and comes after no other
pub record IsFirst {E : Type 0} (t : EntryTable E) (codes : EntryCodes) (whole : List ℕ) (w : Witness) : Type 0 where
  pub fault : IsFaultOf t codes whole w.code w.at w.other w.point
  pub least : (c : Code) (at other point : ℕ) → IsFaultOf t codes whole c at other point
      → NotAfter w (record { code = c; at = at; other = other; point = point })

-- what is not after the faults about each subject is not after any
first_of : {E : Type 0} (t : EntryTable E) (codes : EntryCodes) (whole : List ℕ) (w : Witness)
    → IsFaultOf t codes whole w.code w.at w.other w.point
    → ((about : Subject) (c : Code) → subject_of codes c ≡ about → (at other point : ℕ)
    → IsAbout t whole about c at other point
    → NotAfter w (record { code = c; at = at; other = other; point = point })) → IsFirst t codes whole w
first_of t codes whole w fault least =
    record { fault = fault; least = λ c at other point wrong. least (subject_of codes c) c refl at other point wrong }

-- ---- the pass

-- an entry that was passed at o has no fault by itself, and where a table has at most one like it, it is the first
abbrev Passed : {E : Type 0} → EntryTable E → Option ℕ → ℕ → E → Type 0
Passed t earlier o e = ((c : Code) → ¬ t.IsOwn c e) × (t.IsSingle e → earlier ≡ Some o)

-- the pass has these entries left, and the first of those of which a table has at most one is at `earlier`
pub record IsAt {E : Type 0} (t : EntryTable E) (whole : List ℕ) (left : List (PlacedEntry (List ℕ)))
    (earlier : Option ℕ) : Type 0
  where
    pub long : t.first ≤ length whole
    pub pass : HasPassed (entries_in t whole) (entries_read_by t.read left) (Passed t earlier)
    pub first : (o : ℕ) → earlier ≡ Some o → StandsWith (entries_in t whole) o t.IsSingle
    pub before : (o p : ℕ) (e : E) → earlier ≡ Some o → Stands (entries_read_by t.read left) p e → o < p

pub at_first : {E : Type 0} (t : EntryTable E) (whole : List ℕ) → t.first ≤ length whole
    → IsAt t whole (entries_of t.first whole) None
at_first t whole long =
    record {
      long = long;
      pass = none_passed t.first (Passed t None) (rising t.read t.first whole);
      first = λ o is. absurd (none-some o is);
      before = λ o p e is stands. absurd (none-some o is);
    }

pub at_next : {E : Type 0} (t : EntryTable E) (codes : EntryCodes) (whole : List ℕ) (s : PlacedEntry (List ℕ))
    (left : List (PlacedEntry (List ℕ))) (earlier now : Option ℕ) → IsAt t whole (s ∷ left) earlier
    → PassesEntry t codes s.offset (t.read s.entry) earlier (Ok now) → IsAt t whole left now
at_next t codes whole s left earlier now here (valid, inl (is, none, first)) =
    record {
      long = here.long;
      pass = one_more here.pass (valid, λ _. first)
          (λ o e before passed. (passed.0, λ other. absurd (none_and_some none (passed.1 other))));
      first = λ o at. subst (λ k. StandsWith (entries_in t whole) k t.IsSingle) (same_value s.offset o first at)
          (t.read s.entry, next_stands here.pass, is);
      before = λ o p e at stands. omega (arith, same_value s.offset o first at, left_behind here.pass p e stands);
    }
at_next t codes whole s left earlier now here (valid, inr (is_not, same)) =
    record {
      long = here.long;
      pass = one_more here.pass (valid, λ is. absurd (is_not is))
          (λ o e before passed. (passed.0, λ is. same ∙ passed.1 is));
      first = λ o at. here.first o (sym same ∙ at);
      before = λ o p e at stands. here.before o p e (sym same ∙ at)
          (later_element _ _ (entries_read_by t.read left) stands);
    }

-- ---- where it stops

-- an entry of which a table has at most one has no fault by itself
abbrev pub AreValidSingles : {E : Type 0} → EntryTable E → Type 0
AreValidSingles {E} t = (c : Code) (e : E) → t.IsSingle e → ¬ t.IsOwn c e

-- what is found about an entry
abbrev IsFound : {E : Type 0} → EntryTable E → EntryCodes → E → Option ℕ → Witness → Type 0
IsFound t codes e earlier w = IsOwnFault (λ c. t.IsOwn c e) w ⊎ IsSecondFault (t.IsSingle e) codes earlier w

-- a fault of a second entry of which a table has at most one is at the lowest fault of the next entry or after it
second_after : {E : Type 0} (t : EntryTable E) (codes : EntryCodes) → AreValidSingles t → (whole : List ℕ)
    (s : PlacedEntry (List ℕ)) (left : List (PlacedEntry (List ℕ))) (earlier : Option ℕ) (w : Witness)
    → IsAt t whole (s ∷ left) earlier → w.at ≡ s.offset → IsFound t codes (t.read s.entry) earlier w
    → (c : Code) → subject_of codes c ≡ Second → (at other point : ℕ) → IsAbout t whole Second c at other point
    → NotAfter w (record { code = c; at = at; other = other; point = point })
second_after t codes singles whole s left earlier w here place fault c about at other point
    ((e, stands, is), (d, also, other_is), before, zero) =
    elim (before_or_behind here.pass at e stands) [
      | inr (inr behind) ↦ inl (omega arith)
      | inl (earlier_at, passed) ↦
          elim (before_or_behind here.pass other d also) [
            | inl (_, passed_too) ↦ absurd
                (omega (arith, before, same_value at other (passed.1 is) (passed_too.1 other_is)))
            | inr (inl (same, _)) ↦ absurd (omega arith)
            | inr (inr behind) ↦ absurd (omega arith)
          ]
      | inr (inl (same, entry)) ↦
          elim (before_or_behind here.pass other d also) [
            | inr (inl (too, _)) ↦ absurd (omega arith)
            | inr (inr behind) ↦ absurd (omega arith)
            | inl (_, passed) ↦
                elim fault [
                  | inl own ↦ absurd (singles w.code (t.read s.entry) (subst t.IsSingle entry is) own.lowest.0)
                  | inr second ↦
                      not_after w (record { code = c; at = at; other = other; point = point })
                      (inr (
                        place ∙ sym same,
                        omega (arith, ap code_number (one_code codes w.code c Second second.code about (λ own. cc))),
                      ))
                      (same_value w.other other second.first (passed.1 other_is)) (second.unused ∙ sym zero)
                ]
          ]
    ]

-- no fault of the table comes before the lowest fault of the next entry
none_before : {E : Type 0} (t : EntryTable E) (codes : EntryCodes) → AreValidSingles t → (whole : List ℕ)
    (s : PlacedEntry (List ℕ)) (left : List (PlacedEntry (List ℕ))) (earlier : Option ℕ) (w : Witness)
    → IsAt t whole (s ∷ left) earlier → w.at ≡ s.offset → IsFound t codes (t.read s.entry) earlier w
    → (about : Subject) (c : Code) → subject_of codes c ≡ about → (at other point : ℕ)
    → IsAbout t whole about c at other point
    → NotAfter w (record { code = c; at = at; other = other; point = point })
none_before t codes singles whole s left earlier w here place fault Short c is at other point (short, _, _) =
    absurd (omega (arith, short, here.long))
none_before t codes singles whole s left earlier w here place fault Cut c is at other point (cut, _) =
    inl (omega (arith, place, before_cut t.read t.first whole at here.pass cut))
none_before t codes singles whole s left earlier w here place fault Second c is at other point wrong =
    second_after t codes singles whole s left earlier w here place fault c is at other point wrong
none_before t codes singles whole s left earlier w here place fault Own c is at other point (wrong, unused) =
    own_fault_after here.pass t.IsOwn (λ d o e passed mine. passed.0 d mine) w place
    (λ d mine. elim fault [
      | inl own ↦ (own.lowest.1 d mine, own.unused)
      | inr second ↦ absurd (singles d (t.read s.entry) second.single mine)
    ]) c at other point wrong unused

-- the pass stops at the first fault
pub stops : {E : Type 0} (t : EntryTable E) (codes : EntryCodes) → AreValidSingles t
    → ((c : Code) (e : E) → t.IsOwn c e → subject_of codes c ≡ Own) → (whole : List ℕ)
    (s : PlacedEntry (List ℕ)) (left : List (PlacedEntry (List ℕ))) (earlier : Option ℕ) (w : Witness)
    → IsAt t whole (s ∷ left) earlier → PassesEntry t codes s.offset (t.read s.entry) earlier (Err w)
    → IsFirst t codes whole w
stops t codes singles owns whole s left earlier w here (place, inl own) =
    let stands = subst (λ k. Stands (entries_in t whole) k (t.read s.entry)) (sym place) (next_stands here.pass) in
    first_of t codes whole w
    (rw (owns w.code (t.read s.entry) own.lowest.0) ((t.read s.entry, stands, own.lowest.0), own.unused))
    (none_before t codes singles whole s left earlier w here place (inl own))
stops t codes singles owns whole s left earlier w here (place, inr second) =
    let stands = subst (λ k. Stands (entries_in t whole) k (t.read s.entry)) (sym place) (next_stands here.pass) in
    let before = here.before w.other s.offset (t.read s.entry) second.first
    (first_element _ (entries_read_by t.read left)) in
    first_of t codes whole w
    (rw second.code
    ((t.read s.entry, stands, second.single), here.first w.other second.first, omega arith, second.unused))
    (none_before t codes singles whole s left earlier w here place (inr second))

-- ---- no entry is left

-- a fault that is left is at the cut
only_cut : {E : Type 0} (t : EntryTable E) (whole : List ℕ) (earlier : Option ℕ) → IsAt t whole [] earlier
    → (about : Subject) (c : Code) (at other point : ℕ) → IsAbout t whole about c at other point
    → (about ≡ Cut) × (cut_of t.first whole ≡ Some at) × AreUnused other point
only_cut t whole earlier here Short c at other point (short, _, _) = absurd (omega (arith, short, here.long))
only_cut t whole earlier here Cut c at other point (cut, unused) = (refl, cut, unused)
only_cut t whole earlier here Second c at other point ((e, stands, is), (d, also, other_is), before, zero) =
    absurd (omega (
      arith,
      before,
      same_value at other ((all_passed here.pass at e stands).1 is) ((all_passed here.pass other d also).1 other_is),
    ))
only_cut t whole earlier here Own c at other point ((e, stands, wrong), _) =
    absurd ((all_passed here.pass at e stands).0 c wrong)

pub ends_valid : {E : Type 0} (t : EntryTable E) (whole : List ℕ) (earlier : Option ℕ) → IsAt t whole [] earlier
    → cut_of t.first whole ≡ None → (about : Subject) (c : Code) (at other point : ℕ)
    → ¬ IsAbout t whole about c at other point
ends_valid t whole earlier here filled about c at other point wrong =
    none_and_some filled (only_cut t whole earlier here about c at other point wrong).1

-- and the cut is the first fault
pub ends_cut : {E : Type 0} (t : EntryTable E) (codes : EntryCodes) → subject_of codes codes.cut ≡ Cut
    → (whole : List ℕ) (earlier : Option ℕ) (at : ℕ) → IsAt t whole [] earlier → cut_of t.first whole ≡ Some at
    → IsFirst t codes whole (record { code = codes.cut; at = at; other = 0; point = 0 })
ends_cut t codes cuts whole earlier at here is =
    first_of t codes whole (record { code = codes.cut; at = at; other = 0; point = 0 })
    (rw cuts (is, (refl, refl)))
    (λ about c subject place other point wrong.
    let (of_cut, also, unused) = only_cut t whole earlier here about c place other point wrong in
    let same : codes.cut ≡ c = one_code codes codes.cut c Cut cuts (subject ∙ of_cut) (λ own. cc) in
    not_after (record { code = codes.cut; at = at; other = 0; point = 0 })
    (record { code = c; at = place; other = other; point = point })
    (inr (same_value at place is also, omega (arith, ap code_number same))) (sym unused.0) (sym unused.1))

pub short_first : {E : Type 0} (t : EntryTable E) (codes : EntryCodes) (whole : List ℕ) (code : Code)
    → length whole < t.first → subject_of codes code ≡ Short
    → IsFirst t codes whole (record { code = code; at = 0; other = 0; point = 0 })
short_first t codes whole code short is =
    first_of t codes whole w (rw is (short, refl, (refl, refl))) alone
  where
    w : Witness
    w = record { code = code; at = 0; other = 0; point = 0 }

    alone : (about : Subject) (c : Code) → subject_of codes c ≡ about → (at other point : ℕ)
        → IsAbout t whole about c at other point
        → NotAfter w (record { code = c; at = at; other = other; point = point })
    alone Short c about at other point (_, zero, unused) =
        not_after w (record { code = c; at = at; other = other; point = point })
        (inr (sym zero, omega (arith, ap code_number (one_code codes code c Short is about (λ own. cc)))))
        (sym unused.0) (sym unused.1)
    alone Cut c about at other point (cut, _) = absurd (none_and_some (none_in_short t.first whole short).0 cut)
    alone Second c about at other point (one, two, before, zero) =
        absurd (none_said t.read t.first whole short at one.0 one.1)
    alone Own c about at other point (wrong, _) = absurd (none_said t.read t.first whole short at wrong.0 wrong.1)

-- ---- the faults of the stage

pub first_of_stage : {E : Type 0} {s : Stage} {codes : EntryCodes} {table : PolicyValue → EntryTable E}
    {IsFault : PolicyValue → List ℕ → Code → ℕ → ℕ → ℕ → Type 0}
    {IsValid : PolicyValue → List ℕ → Type 0} (q : PolicyValue) (whole : List ℕ) (w : Witness)
    → AreFaults s codes table IsFault IsValid → IsFirst (table q) codes whole w
    → IsFirstOfTable s (IsFault q whole) w
first_of_stage q whole w are first =
    let fault = are.fault q whole w.code w.at w.other w.point first.fault in
    record {
      own = (are.about q whole w.code w.at w.other w.point fault).0;
      fault = fault;
      least = λ v wrong. first.least v.code v.at v.other v.point
          (are.about q whole v.code v.at v.other v.point wrong).1;
    }
