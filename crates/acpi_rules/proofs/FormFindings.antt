-- What is found in each form of a rule.
use Rattle.std.proofs.Common.{◌≡◌, ◌∙◌, ℕ, Bool, List, [], ◌∷◌, length, map, Option, Result, Ok, Err, true, false, refl, sym, ap, arith, subst, Some, None}
use Rattle.std.specs.Prelude.{◌↔◌, ◌==◌, AllPairs, Contains, IfOk, if◌then◌else◌, option_map}
use Rattle.std.specs.List.Sorted.{IsPermutation}
use Rattle.std.specs.Option.{is_some}
use Rattle.std.proofs.lemmas.Bool.{eqb-true}
use Rattle.std.proofs.lemmas.List.Sorted.{Contains-permutation, IsPermutation-sym}
use Rattle.acpi_rules.specs.Cases.{BorCase, Case, case_value, gives}
use Rattle.acpi_rules.specs.Known.{first_of, found_place, is_reported, place_by, told}
use Rattle.acpi_rules.specs.Numbered.{IsFirst, IsNotAbove, IsRepeated, Repeats}
use Rattle.acpi_rules.specs.Numbers.{AreExcepted, Counts, GivenBeside, GivenIn, IsGiven, IsToldOf, Numbers, gives_any}
use Rattle.acpi_rules.specs.Places.{FindsLeast}
use Rattle.acpi_rules.specs.Rows.{IsCut, IsKnown, IsLookedUp, Known, Knows, Row, of_source, reported}
use Rattle.acpi_rules.specs.Sites.{first_cut}
use Rattle.acpi_rules.specs.Terms.{TwoTables}
use Rattle.acpi_rules.specs.declared.known.LookUp.{LookUp}
use Rattle.acpi_rules.specs.declared.known.LookUp.TheVariants as lookup
use Rattle.acpi_rules.specs.declared.numbered.Numbered.{Numbered}
use Rattle.acpi_rules.specs.declared.numbered.Repeat.{Repeat}
use Rattle.acpi_rules.specs.declared.place.Place.{Place}
use Rattle.acpi_rules.specs.declared.series.Path.{Path}
use Rattle.acpi_rules.specs.declared.structures.Cut.{Cut}
use Rattle.std.proofs.lemmas.Option.{same_Some}
use Rattle.acpi_rules.proofs.KnownNumbers.{first_of_found, first_of_is, first_of_none}
use Rattle.acpi_rules.proofs.LeastPlaces.{least_as, not_after_itself}
use Rattle.acpi_rules.proofs.ToldNumbers.{none_given}

pub each_ok : {A X : Type 0} {P Q : A → Type 0} (r : Result A X) → ((a : A) → P a → Q a) → IfOk r P → IfOk r Q
each_ok (Ok a) follows holds = follows a holds
each_ok (Err e) follows holds = tt

pub both_ok : {A X : Type 0} {P Q R : A → Type 0} (r : Result A X) → ((a : A) → P a → Q a → R a) → IfOk r P → IfOk r Q
    → IfOk r R
both_ok (Ok a) follows one other = follows a one other
both_ok (Err e) follows one other = tt

-- ---- what is told of a number

-- its place is not excepted, and this is told by what is found
pub told_parts : (l : LookUp) (except known : List Numbered) (g : Numbered) (p : Place) → told l except known g ≡ Some p
    → (first_of except g.at ≡ None) × (place_by l g (first_of known g.number) ≡ Some p)
unfolding told
told_parts l except known g p is = go (first_of except g.at) refl is
  where
    go : (o : Option Numbered) → first_of except g.at ≡ o
        → (if is_some o then None else place_by l g (first_of known g.number)) ≡ Some p
        → (first_of except g.at ≡ None) × (place_by l g (first_of known g.number) ≡ Some p)
    go None none tells = (none, tells)
    go (Some f) some tells = absurd cc

pub told_by : (l : LookUp) (except known : List Numbered) (g : Numbered) → first_of except g.at ≡ None
    → told l except known g ≡ place_by l g (first_of known g.number)
unfolding told
told_by l except known g none = rw none refl

abbrev given_place : Numbered → Place
given_place g = record { at = g.at; other = g.value; point = g.number }

same_reported : (g : Numbered) (at other point : ℕ)
    → given_place g ≡ record { at = at; other = other; point = point } → g ≡ reported at other point
same_reported g at other point same =
    λ i. record { number = (same i).point; at = (same i).at; value = (same i).other }

-- ---- numbers that count

pub counted_as : (t : TwoTables) (n : Numbers) (except all : List Numbered) → AreExcepted t n except
    → ((g : Numbered) → Contains all g ↔ GivenBeside t n.path n.cases except g) → (g : Numbered)
    → Contains all g ↔ Counts t n g
counted_as t n except all excepted are g = (
  λ listed. let (given, beside) = (are g).0 listed in (given, (excepted g given).0 beside),
  λ (given, counts). (are g).1 (given, (excepted g given).1 counts),
)

pub given_as : (t : TwoTables) (n : Numbers) (except : List Numbered) (found : Option Place) → AreExcepted t n except
    → FindsLeast (IsToldOf lookup.Nowhere t n.path n.cases except []) found
    → FindsLeast (λ at other point. Counts t n (reported at other point)) found
unfolding first_of
given_as t n except found excepted least =
    least_as found
    (λ at other point (g, given, is).
    let (beside, tells) = told_parts lookup.Nowhere except [] g _ is in
    let same = same_reported g at other point (same_Some (given_place g) _ tells) in
    subst (Counts t n) same (given, (excepted g given).0 beside))
    (λ at other point (given, counts).
    let g = reported at other point in
    (g, given, told_by lookup.Nowhere except [] g ((excepted g given).1 counts)))
    least

-- ---- numbers that are looked up

-- these are the numbers that are looked up in
abbrev pub AreKnown : Row → TwoTables → List Numbered → Type 0
AreKnown row t known = (g : Numbered) → Contains known g ↔ Knows row t g

pub known_of : (k : Known) (t u : TwoTables) (counted known : List Numbered) → u ≡ of_source k.source t
    → ((g : Numbered) → Contains counted g ↔ Counts u k.numbers g) → IsPermutation counted known
    → (g : Numbered) → Contains known g ↔ IsKnown (Some k) t g
known_of k t u counted known is are moved g = (
  λ listed.
      subst (λ v. Counts v k.numbers g) is
      ((are g).0 (Contains-permutation known counted g (IsPermutation-sym counted known moved) listed)),
  λ knows.
      Contains-permutation counted known g moved ((are g).1 (subst (λ v. Counts v k.numbers g) (sym is) knows)),
)

first_moved : {P Q : Numbered → Type 0} (f : Numbered) → ((x : Numbered) → P x ↔ Q x) → IsFirst P f → IsFirst Q f
first_moved f same first =
    record { here = (same f).0 first.here; least = λ x there is. first.least x ((same x).1 there) is }

back : {P Q : Numbered → Type 0} → ((x : Numbered) → P x ↔ Q x) → (x : Numbered) → Q x ↔ P x
back same x = ((same x).1, (same x).0)

if_some : {A : Type 0} (b : Bool) (x y : A) → (if b then Some x else None) ≡ Some y → (b ≡ true) × (x ≡ y)
if_some true x y is = (refl, same_Some _ _ is)
if_some false x y is = absurd cc

some_if : {A : Type 0} (b : Bool) (x y : A) → b ≡ true → x ≡ y → (if b then Some x else None) ≡ Some y
some_if true x y passes same = ap Some same
some_if false x y passes same = absurd cc

-- what is told by what is found is what the rule says
tells_of : (l : LookUp) (row : Row) (t : TwoTables) (known : List Numbered) (g : Numbered) (at other point : ℕ)
    → AllPairs IsNotAbove known → AreKnown row t known → Counts t row.numbers g → (o : Option Numbered)
    → first_of known g.number ≡ o → place_by l g o ≡ Some (record { at = at; other = other; point = point })
    → IsLookedUp l row t at other point
tells_of lookup.Nowhere row t known g at other point order are counts None none tells =
    subst (λ (h : Numbered). Counts t row.numbers h × ((x : Numbered) → Knows row t x → ¬ (x.number ≡ h.number)))
    (same_reported g at other point (same_Some (given_place g) _ tells))
    (counts, λ x knows same. first_of_none known g.number none x ((are x).1 knows) same)
tells_of lookup.Nowhere row t known g at other point order are counts (Some f) some tells = absurd cc
tells_of (lookup.Found w) row t known g at other point order are counts None none tells = absurd cc
tells_of (lookup.Found w) row t known g at other point order are counts (Some f) some tells =
    let (first, same) = first_of_is known g.number f order some in
    let (told, is) = if_some (is_reported w g f) (found_place w g f) _ tells in (
      g,
      f,
      (counts, first_moved f are first, sym same),
      told,
      sym (ap (λ (p : Place). p.at) is),
      sym (ap (λ (p : Place). p.other) is),
      sym (ap (λ (p : Place). p.point) is),
    )

-- what the rule says is told by what is found
told_as : (l : LookUp) (row : Row) (t : TwoTables) (known : List Numbered) (at other point : ℕ)
    → AllPairs IsNotAbove known → AreKnown row t known → IsLookedUp l row t at other point
    → (g : Numbered) × Counts t row.numbers g
    × (place_by l g (first_of known g.number) ≡ Some (record { at = at; other = other; point = point }))
told_as lookup.Nowhere row t known at other point order are (counts, unknown) = (
  reported at other point,
  counts,
  go (first_of known point) refl,
)
  where
    go : (o : Option Numbered) → first_of known point ≡ o
        → place_by lookup.Nowhere (reported at other point) o
        ≡ Some (record { at = at; other = other; point = point })
    go None none = refl
    go (Some f) some =
        let (first, same) = first_of_is known point f order some in
        absurd (unknown f ((are f).0 first.here) same)
told_as (lookup.Found w) row t known at other point order are (g, f, (counts, first, same), tells, p, q, r) =
    let found = first_of_found known f order (first_moved f (back are) first) in
    let here : first_of known g.number ≡ Some f = ap (first_of known) same ∙ found in (
      g,
      counts,
      ap (place_by (lookup.Found w) g) here
          ∙ some_if (is_reported w g f) (found_place w g f) _ tells
          (λ i. record { at = sym p i; other = sym q i; point = sym r i }),
    )

pub looked_up_as : (l : LookUp) (row : Row) (t : TwoTables) (except known : List Numbered) (found : Option Place)
    → AllPairs IsNotAbove known → AreExcepted t row.numbers except → AreKnown row t known
    → FindsLeast (IsToldOf l t row.numbers.path row.numbers.cases except known) found
    → FindsLeast (IsLookedUp l row t) found
looked_up_as l row t except known found order excepted are least =
    least_as found
    (λ at other point (g, given, is).
    let (beside, tells) = told_parts l except known g _ is in
    tells_of l row t known g at other point order are (given, (excepted g given).0 beside)
    (first_of known g.number) refl tells)
    (λ at other point looked.
    let (g, (given, counts), tells) = told_as l row t known at other point order are looked in
    (g, given, told_by l except known g ((excepted g given).1 counts) ∙ tells))
    least

-- where nothing is given, nothing is looked up
pub none_looked_up : (l : LookUp) (row : Row) (t : TwoTables) → gives_any t row.numbers.path row.numbers.cases ≡ false
    → FindsLeast (IsLookedUp l row t) None
none_looked_up lookup.Nowhere row t none at other point (counts, unknown) =
    none_given t row.numbers.path row.numbers.cases none _ counts.0
none_looked_up (lookup.Found w) row t none at other point (g, f, (counts, first, same), told, p, q, r) =
    none_given t row.numbers.path row.numbers.cases none g counts.0

-- ---- numbers that occur again

moved : (r : Repeat) {P Q : Numbered → Type 0} (g f : Numbered) → ((x : Numbered) → P x ↔ Q x) → Repeats r P g f
    → Repeats r Q g f
moved r g f same repeats =
    record {
      first = first_moved f same repeats.first;
      here = (same g).0 repeats.here;
      same = repeats.same;
      told = repeats.told;
    }

pub repeated_as : (r : Repeat) {P Q : Numbered → Type 0} (found : Option Place) → ((x : Numbered) → P x ↔ Q x)
    → FindsLeast (IsRepeated r P) found → FindsLeast (IsRepeated r Q) found
repeated_as r {P} {Q} found same least =
    least_as found
    (λ at other point (g, f, repeats, is). (g, f, moved r g f same repeats, is))
    (λ at other point (g, f, repeats, is). (g, f, moved r g f (back same) repeats, is)) least

-- ---- the numbers of a path

pub sorted_given : (t : TwoTables) (path : Path) (cases : List Case) (items sorted : List Numbered)
    → ((g : Numbered) → Contains items g ↔ GivenBeside t path cases [] g) → IsPermutation items sorted → (g : Numbered)
    → Contains sorted g ↔ GivenIn t path cases g
unfolding first_of
sorted_given t path cases items sorted given moved g = (
  λ listed. ((given g).0 (Contains-permutation sorted items g (IsPermutation-sym items sorted moved) listed)).0,
  λ holds. Contains-permutation items sorted g moved ((given g).1 (holds, refl)),
)

-- the numbers of a path, in order, are those at whose places none counts
pub excepted_as : (t : TwoTables) (n : Numbers) (except : List Numbered) → AllPairs IsNotAbove except
    → ((g : Numbered) → Contains except g ↔ GivenIn t n.path n.except_cases g) → AreExcepted t n except
excepted_as t n except order are g given = (
  λ none (h, there, same). first_of_none except g.at none h ((are h).1 there) same,
  λ not. go not (first_of except g.at) refl,
)
  where
    go : ¬ IsGiven t n.path n.except_cases g.at → (o : Option Numbered) → first_of except g.at ≡ o → o ≡ None
    go not None none = refl
    go not (Some f) some =
        let (first, same) = first_of_is except g.at f order some in absurd (not (f, (are f).0 first.here, same))

pub no_cases : (cases : List BorCase) → (length cases == 0) ≡ true → map case_value cases ≡ []
no_cases [] none = refl
no_cases (case ∷ cases) none = absurd (omega (arith, eqb-true (length (case ∷ cases)) 0 none))

-- without cases there are none
pub none_excepted : (t : TwoTables) (n : Numbers) → n.except_cases ≡ [] → AreExcepted t n []
unfolding first_of gives
none_excepted t n none g given = (
  λ is (h, (s, listed, there), same).
      let no : None ≡ Some h = sym (ap (λ (cases : List Case). gives t cases s) none) ∙ there in absurd cc,
  λ not. refl,
)

-- where nothing is given there is nothing to be excepted
pub nothing_excepted : (t : TwoTables) (n : Numbers) → gives_any t n.path n.cases ≡ false → AreExcepted t n []
nothing_excepted t n none g given = absurd (none_given t n.path n.cases none g given)

-- ---- the first cut

abbrev pub cut_found : Cut → Place
cut_found cut = record { at = cut.at; other = cut.said; point = cut.end }

pub cut_is_least : (path : Path) (table : List ℕ) (cut : Option Cut) → cut ≡ first_cut path table
    → FindsLeast (IsCut path table) (option_map cut_found cut)
cut_is_least path table None is = λ at other point there.
    (let no : None ≡ Some (record { at = at; said = other; end = point }) = is ∙ there in absurd cc)
cut_is_least path table (Some cut) is =
    record {
      here = sym is;
      least = λ at other point there.
          let same = same_Some cut (record { at = at; said = other; end = point }) (is ∙ there) in
          not_after_itself (cut_found cut) at other point (
            sym (ap (λ (c : Cut). c.at) same),
            sym (ap (λ (c : Cut). c.said) same),
            sym (ap (λ (c : Cut). c.end) same),
          );
    }
