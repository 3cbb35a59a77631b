-- The entry at an offset of a table, by what it says.
use Rattle.std.proofs.Common.{◌≡◌, ◌≢◌, ℕ, List, [], ◌∷◌, Option, Some, None, refl, sym, ap, ◌∙◌, subst, inl, inr}
use denote.Ref.{Bor}
use Rattle.std.specs.Prelude.{◌↔◌, IsTrue, Bool, true, false}
use Rattle.std.specs.Option.{option_map, option_zip, is_some, MatchOption}
use Rattle.std.proofs.lemmas.Option.{same_Some}
use Rattle.acpi_base.specs.Entries.{PlacedEntry, Stands, StandsWith, entries_read_by}
use Rattle.acpi_base.proofs.Elements.{first_element, later_element, first_or_later, no_element}
use Rattle.acpi_base.proofs.Options.{none_and_some}
use Rattle.acpi_base.proofs.EntryOffsets.{said_from}
use Rattle.acpi_confirm.specs.Walks.{IsThere, IsOnly, FindsAny}

pub said_at : {E : Type 0} (read : List ℕ → E) (entries : List (PlacedEntry (List ℕ))) (o : ℕ) (e : List ℕ)
    → Stands entries o e → Stands (entries_read_by read entries) o (read e)
said_at read [] o e stands = absurd (no_element _ stands)
said_at {E} read (s ∷ entries) o e stands =
    elim (first_or_later s (record { offset = o; entry = e }) entries stands) [
      | inl is ↦
          let said : PlacedEntry (List ℕ) → PlacedEntry E = λ t. record { offset = t.offset; entry = read t.entry } in
          subst (λ (t : PlacedEntry E). Stands (entries_read_by read (s ∷ entries)) t.offset t.entry) (ap said is)
          (first_element (said s) (entries_read_by read entries))
      | inr later ↦ later_element _ _ _ (said_at read entries o e later)
    ]

pub some_with : {E : Type 0} (read : List ℕ → E) (entries : List (PlacedEntry (List ℕ))) (o : ℕ) (e : List ℕ)
    (P : E → Type 0) → IsThere entries o (Some e) → P (read e) ↔ StandsWith (entries_read_by read entries) o P
some_with {E} read entries o e P there = (
  λ holds. (read e, said_at read entries o e ((there.is e).1 refl), holds),
  λ (v, stands, holds).
      let (d, here, says) = said_from read entries o v stands in
      let same : e ≡ d = same_Some _ _ ((there.is d).0 here) in
      subst (λ (x : List ℕ). P (read x)) (sym same) (subst P (sym says) holds),
)

pub none_with : {E : Type 0} (read : List ℕ → E) (entries : List (PlacedEntry (List ℕ))) (o : ℕ) (P : E → Type 0)
    → IsThere entries o None → ¬ StandsWith (entries_read_by read entries) o P
none_with read entries o P there (v, stands, holds) =
    let (d, here, says) = said_from read entries o v stands in
    none_and_some refl ((there.is d).0 here)

-- what is tested of the entry at an offset; false if there is none
pub test_at : {E : Type 0} (read : List ℕ → E) (entries : List (PlacedEntry (List ℕ))) (o : ℕ) (P : E → Type 0)
    (Says : Bor (List ℕ) → Type 0) (found : Option (Bor (List ℕ))) (test : Bool)
    → IsThere entries o (option_map (λ entry. entry.now) found) → MatchOption found (test ≡ false) Says
    → ((entry : Bor (List ℕ)) → Says entry → (IsTrue test ↔ P (read entry.now)))
    → IsTrue test ↔ StandsWith (entries_read_by read entries) o P
test_at read entries o P Says None test there is decides =
    rw is (λ true. absurd (cc), λ stands. absurd (none_with read entries o P there stands))
test_at read entries o P Says (Some entry) test there says decides =
    let with = some_with read entries o entry.now P there in
    let is = decides entry says in
    (λ true. with.0 (is.0 true), λ stands. is.1 (with.1 stands))

-- the one value for which the entry at an offset satisfies R; none if there is no entry
pub only_at : {E X : Type 0} (read : List ℕ → E) (entries : List (PlacedEntry (List ℕ))) (o : ℕ) (R : X → E → Type 0)
    (Says : Bor (List ℕ) → Type 0) (found : Option (Bor (List ℕ))) (only : Option X)
    → IsThere entries o (option_map (λ entry. entry.now) found) → MatchOption found (only ≡ None) Says
    → ((entry : Bor (List ℕ)) → Says entry → IsOnly (λ x. R x (read entry.now)) only)
    → IsOnly (λ x. StandsWith (entries_read_by read entries) o (R x)) only
only_at read entries o R Says None only there is says_one =
    record {
      is = λ x. (
        λ stands. absurd (none_with read entries o (R x) there stands),
        λ same. absurd (none_and_some is same),
      );
    }
only_at read entries o R Says (Some entry) only there says says_one =
    let one = says_one entry says in
    record {
      is = λ x. (let with = some_with read entries o entry.now (R x) there in
          (λ stands. (one.is x).0 (with.1 stands), λ same. with.0 ((one.is x).1 same)));
    }

pub only_of : {X : Type 0} (P : X → Type 0) (is only : Option X) → IsOnly P is → only ≡ is → IsOnly P only
only_of P is only one same =
    record { is = λ x. (λ holds. same ∙ (one.is x).0 holds, λ some. (one.is x).1 (sym same ∙ some)) }

-- what is tested of the only values with P and Q; false if there is none for either
pub test_of_two : {X : Type 0} (P Q : X → Type 0) (R : X → X → Type 0) (Says : X × X → Type 0) (one other : Option X)
    (both : Option (X × X)) (test : Bool)
    → IsOnly P one → IsOnly Q other → both ≡ option_zip one other → MatchOption both (test ≡ false) Says
    → ((pair : X × X) → Says pair → (IsTrue test ↔ R pair.0 pair.1))
    → IsTrue test ↔ ((x : X) × (y : X) × P x × Q y × R x y)
test_of_two P Q R Says None other both test none only is says decides =
    rw (rw is at says) (
      λ true. absurd (cc),
      λ (x, y, first, second, related). absurd
          (none_and_some refl ((none.is x).0 first)),
    )
test_of_two P Q R Says (Some f) None both test only none is says decides =
    rw (rw is at says) (
      λ true. absurd (cc),
      λ (x, y, first, second, related). absurd
          (none_and_some refl ((none.is y).0 second)),
    )
test_of_two {X} P Q R Says (Some f) (Some g) both test one other is says decides =
    let with = decides (f, g) (rw is at says) in (
      λ true. (f, g, (one.is f).1 refl, (other.is g).1 refl, with.0 true),
      λ (x, y, first, second, related).
          let same : f ≡ x = same_Some _ _ ((one.is x).0 first) in
          let also : g ≡ y = same_Some _ _ ((other.is y).0 second) in
          with.1 (subst (λ (v : X). R v g) (sym same) (subst (λ (v : X). R x v) (sym also) related)),
    )

pub differ : {X : Type 0} {Known : Type 0} {P Q : X → Type 0} {test : Bool} → Known
    → (IsTrue test ↔ ((x : X) × (y : X) × P x × Q y × (x ≢ y)))
    → IsTrue test ↔ ((x : X) × (y : X) × P x × Q y × Known × (x ≢ y))
differ known is = (
  λ true. (let (x, y, first, second, apart) = is.0 true in (x, y, first, second, known, apart)),
  λ (x, y, first, second, _, apart). is.1 (x, y, first, second, apart),
)

pub only_same : {X : Type 0} (is only : Option X) → only ≡ is → IsOnly (λ x. is ≡ Some x) only
only_same is only same = record { is = λ x. (λ some. same ∙ some, λ some. sym same ∙ some) }

pub only_some : {X : Type 0} (P : X → Type 0) (only : Option X) → IsOnly P only
    → IsTrue (is_some only) ↔ ((x : X) × P x)
only_some P None is = (λ true. absurd (cc), λ (x, holds). absurd (none_and_some refl ((is.is x).0 holds)))
only_some P (Some x) is = (λ _. (x, (is.is x).1 refl), λ _. refl)

-- ---- of all entries

-- whether P holds for what some entry says, by a search that gives this answer for each
pub found : {E : Type 0} (read : List ℕ → E) (entries : List (PlacedEntry (List ℕ))) (P : E → Type 0)
    (Answers : Bor (List ℕ) → Bool → Type 0) (r : Bool) → FindsAny Answers entries r
    → ((entry : Bor (List ℕ)) (b : Bool) → Answers entry b → (IsTrue b ↔ P (read entry.now)))
    → IsTrue r ↔ ((o : ℕ) × StandsWith (entries_read_by read entries) o P)
found read entries P Answers true finds says =
    let (o, entry, stands, answer) = finds.one in
    (λ _. (o, (read entry.now, said_at read entries o entry.now stands, (says entry true answer).0 refl)), λ _. refl)
found read entries P Answers false finds says = (
  λ true. absurd (cc),
  λ (o, (v, stands, holds)).
      let (e, here, is) = said_from read entries o v stands in
      let (entry, same, answer) = finds.one o e here in
      (says entry false answer).1 (subst (λ (x : List ℕ). P (read x)) (sym same) (subst P (sym is) holds)),
)
