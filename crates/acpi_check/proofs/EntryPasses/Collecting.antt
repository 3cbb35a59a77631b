-- Collecting values from the entries of a table, in a loop, and what the collected values are.
use Rattle.std.proofs.Common.{◌≡◌, List, [], ◌∷◌, ◌++◌, map, Option, Some, None, Result, Ok, Err, Vec, Global, refl, sym, ◌∙◌, ap, subst}
use Rattle.std.specs.Prelude.{All, Contains, IfOk, IfSome, option_map}
use Rattle.std.specs.List.{AllByRecursion, cons_option, filter_map}
use Rattle.std.proofs.lemmas.Grind.{common_steps}
use Rattle.std.proofs.lemmas.List.{append-nil, append_assoc, map-id}
use Rattle.std.proofs.lemmas.List.Elements.{All-from_recursion}
use denote.Ref.{Bor}
use Rattle.acpi_base.specs.Entries.{PlacedEntry}
use Rattle.acpi_base.proofs.Elements.{first_element, later_element}
use Rattle.acpi_read.specs.Entries.{entry_at_value}
use Rattle.acpi_read.specs.declared.typed_entries.EntryAt.{EntryAt}
use Rattle.acpi_check.specs.CollectedValues.{Picks, Collects}

-- ---- the loop

-- what is collected so far, with what is collected from the entries left, is what is collected from all
pub record IsCollecting {S T : Type 0} (Gives : S → Option T → Type 0) (all left : List S) (found : List T) : Type 0
  where
    pub listed : (s : S) → Contains left s → Contains all s
    pub others : (rest : List T) → Collects Gives left rest → Collects Gives all (found ++ rest)

pub one_kept : {S T : Type 0} {Gives : S → Option T → Type 0} {all left : List S} {found : List T} {s : S} {value : T}
    → IsCollecting Gives all (s ∷ left) found → Gives s (Some value)
    → IsCollecting Gives all left (found ++ value ∷ [])
one_kept {Gives = Gives} {all = all} {left = left} {found = found} {s = s} {value = value} before gives =
    record {
      listed = λ t here. before.listed t (later_element s t left here);
      others = λ rest more. subst (Collects Gives all) (sym (append_assoc found (value ∷ []) rest))
          (before.others (value ∷ rest) (Some value, rest, gives, refl, more));
    }

pub one_passed : {S T : Type 0} {Gives : S → Option T → Type 0} {all left : List S} {found : List T} {s : S}
    → IsCollecting Gives all (s ∷ left) found → Gives s None → IsCollecting Gives all left found
one_passed {left = left} {s = s} before gives =
    record {
      listed = λ t here. before.listed t (later_element s t left here);
      others = λ rest more. before.others rest (None, rest, gives, refl, more);
    }

pub all_collected : {S T : Type 0} {Gives : S → Option T → Type 0} {all left : List S} {found : List T}
    → IsCollecting Gives all left found → left ≡ [] → Collects Gives all found
all_collected {Gives = Gives} {all = all} {found = found} here none =
    subst (Collects Gives all) (append-nil found) (here.others [] (rw none refl))

-- ---- the values

kept : {T V : Type 0} (view : T → V) (others : List T) (picked : Option T) (given : Option V) (rest : List V)
    → option_map view picked ≡ given → map view others ≡ rest
    → map view (cons_option picked others) ≡ cons_option given rest
kept view others None given rest same are = rw (← same) are
kept view others (Some value) given rest same are = rw (← same) (ap (λ vs. view value ∷ vs) are)

pub itself : {T : Type 0} (picked : Option T) → option_map (λ x. x) picked ≡ picked
itself None = refl
itself (Some value) = refl

-- if what is given for each is what a function gives for it, the values are what the function gives
pub are_collected : {S T V : Type 0} {Gives : S → Option T → Type 0} (view : T → V) (h : S → Option V) (all : List S)
    (found : List T) → Collects Gives all found
    → ((s : S) (picked : Option T) → Contains all s → Gives s picked → option_map view picked ≡ h s)
    → map view found ≡ filter_map h all
are_collected view h [] found none each = rw none refl
are_collected {S} {T} {V} {Gives} view h (s ∷ left) found (picked, others, gives, is, more) each =
    ap (map view) is ∙ kept view others picked (h s) (filter_map h left) (each s picked (first_element s left) gives)
    (are_collected view h left others more (λ t p here. each t p (later_element s t left here)))

-- in a function that returns them: if each call returns what `h` gives for its entry, P holds for them
pub gathered : {E Said T V X : Type 0} (value : E → Said) {Answers : Bor (EntryAt E) → Option T → Type 0} (view : T → V)
    (h : PlacedEntry Said → Option V) {said entries : List (PlacedEntry Said)} (P : List T → Type 0)
    (r : Result (Vec T Global) X)
    → IfOk r (λ v. Collects (Picks value Answers) said v.items) → said ≡ entries
    → ((at : Bor (EntryAt E)) (picked : Option T) → Contains entries (entry_at_value value at.now) → Answers at picked
    → option_map view picked ≡ h (entry_at_value value at.now))
    → ((found : List T) → map view found ≡ filter_map h entries → P found) → IfOk r (λ v. P v.items)
gathered value view h {entries = entries} P (Ok v) found same each says =
    says v.items (are_collected view h entries v.items (rw same at found)
    (λ s picked here (at, is, answers). each at picked (subst (Contains entries) (sym is) here) answers ∙ ap h is))
gathered value view h P (Err e) found same each says = tt

-- the same for values that represent themselves
pub gathered_same : {E Said T X : Type 0} (value : E → Said) {Answers : Bor (EntryAt E) → Option T → Type 0}
    (h : PlacedEntry Said → Option T) {said entries : List (PlacedEntry Said)} (P : List T → Type 0)
    (r : Result (Vec T Global) X)
    → IfOk r (λ v. Collects (Picks value Answers) said v.items) → said ≡ entries
    → ((at : Bor (EntryAt E)) (picked : Option T) → Answers at picked → picked ≡ h (entry_at_value value at.now))
    → ((found : List T) → found ≡ filter_map h entries → P found) → IfOk r (λ v. P v.items)
gathered_same value h P r found same each says =
    gathered value (λ x. x) h P r found same (λ at picked here answers. itself picked ∙ each at picked answers)
    (λ vs is. says vs (sym (map-id vs) ∙ is))

each_given : {S T : Type 0} {Gives : S → Option T → Type 0} (P : T → Type 0) (all : List S) (found : List T)
    → Collects Gives all found → ((s : S) (picked : Option T) → Gives s picked → IfSome picked P)
    → AllByRecursion P found
each_given P [] found none each = rw none tt
each_given P (s ∷ left) found (None, others, gives, is, more) each = rw is (each_given P left others more each)
each_given P (s ∷ left) found (Some value, others, gives, is, more) each =
    rw is (each s (Some value) gives, each_given P left others more each)

pub gathered_each : {E Said T X : Type 0} (value : E → Said) {Answers : Bor (EntryAt E) → Option T → Type 0}
    (P : T → Type 0) (said : List (PlacedEntry Said)) (r : Result (Vec T Global) X)
    → IfOk r (λ v. Collects (Picks value Answers) said v.items)
    → ((at : Bor (EntryAt E)) (picked : Option T) → Answers at picked → IfSome picked P) → IfOk r (λ v. All P v.items)
gathered_each value P said (Ok v) found each =
    All-from_recursion P v.items
    (each_given P said v.items found (λ s picked (at, is, answers). each at picked answers))
gathered_each value P said (Err e) found each = tt

-- for a loop that collects offsets of several kinds
pub ruleset gathering = (common_steps, append_assoc, append-nil)
