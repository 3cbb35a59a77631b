-- What is told of given numbers, one after another.
use Rattle.std.proofs.Common.{◌≡◌, ◌∙◌, ℕ, List, [], ◌∷◌, ◌++◌, Option, Some, None, true, false, refl, sym, ap, arith, inl, inr, le-leb, subst}
use Rattle.std.specs.Prelude.{◌⊎◌, ◌↔◌, ◌==◌, not, Contains, IfSome, MatchOption, option_to_list}
use Rattle.std.specs.List.{filter_map, list_any, slice_get}
use Rattle.std.specs.Option.{is_some}
use Rattle.std.proofs.lemmas.List.{append_assoc, append-nil}
use Rattle.std.proofs.lemmas.Option.{same_Some}
use Rattle.std.proofs.lemmas.List.Elements.{Contains-append_cases, Contains-append_left, Contains-append_right}
use Rattle.acpi_base.proofs.Elements.{first_element, first_or_later, later_element, no_element}
use Rattle.acpi_rules.specs.Cases.{Case, first_some, gives}
use Rattle.acpi_rules.specs.Given.{all_given}
use Rattle.acpi_rules.specs.Known.{first_of, told}
use Rattle.acpi_rules.specs.Places.{FindsLeast, IsNotAfter}
use Rattle.acpi_rules.specs.Rows.{first_is_some, gives_two}
use Rattle.acpi_rules.specs.Numbers.{GivenBeside, GivenIn, IsToldOf, gives_any}
use Rattle.acpi_rules.specs.Sites.{SiteValue, sites_of, whole_site, whole_table}
use Rattle.acpi_rules.specs.Terms.{TwoTables}
use Rattle.acpi_rules.specs.declared.known.LookUp.{LookUp}
use Rattle.acpi_rules.specs.declared.numbered.Numbered.{Numbered}
use Rattle.acpi_rules.specs.declared.place.Place.{Place}
use Rattle.acpi_rules.specs.declared.series.Path.{Path}
use Rattle.acpi_rules.specs.declared.series.Path.TheVariants.{Table}
use Rattle.acpi_rules.proofs.Following.{cases_Option}
use Rattle.acpi_rules.proofs.LeastPlaces.{finds_one_more, least_as, not_after_itself}

-- something is told of one of these
abbrev pub IsToldAmong : (Numbered → Option Place) → List Numbered → ℕ → ℕ → ℕ → Type 0
IsToldAmong tell given at other point =
    (g : Numbered) × Contains given g × (tell g ≡ Some (record { at = at; other = other; point = point }))

pub none_told : (tell : Numbered → Option Place) (given : List Numbered) → given ≡ []
    → FindsLeast (IsToldAmong tell given) None
none_told tell given none = λ at other point (g, listed, is). no_element g (rw none at listed)

pub last_or_before : (given : List Numbered) (g x : Numbered) → Contains (given ++ (g ∷ [])) x
    → Contains given x ⊎ (g ≡ x)
last_or_before given g x listed =
    elim (Contains-append_cases given (g ∷ []) x listed) [
      | inl before ↦ inl before
      | inr last ↦
          elim (first_or_later g x [] last) [
            | inl same ↦ inr same
            | inr none ↦ absurd (no_element x none)
          ]
    ]

-- a further number, of which nothing is told
pub untold_next : (tell : Numbered → Option Place) (given more : List Numbered) (g : Numbered) (least : Option Place)
    → more ≡ given ++ (g ∷ []) → tell g ≡ None → FindsLeast (IsToldAmong tell given) least
    → FindsLeast (IsToldAmong tell more) least
untold_next tell given more g least is nothing found =
    rw is (least_as least
    (λ at other point (x, before, told). (x, Contains-append_left given (g ∷ []) x before, told))
    (λ at other point (x, there, told).
    elim (last_or_before given g x there) [
      | inl before ↦ (x, before, told)
      | inr same ↦ let no = sym nothing ∙ ap tell same ∙ told in absurd cc
    ])
    found)

-- one of which something is told
pub told_next : (tell : Numbered → Option Place) (given more : List Numbered) (g : Numbered) (least : Option Place)
    → (place low : Place) → more ≡ given ++ (g ∷ []) → tell g ≡ Some place
    → FindsLeast (IsToldAmong tell given) least → (low ≡ place) ⊎ (least ≡ Some low)
    → IsNotAfter low place.at place.other place.point
    → IfSome least (λ l. IsNotAfter low l.at l.other l.point) → FindsLeast (IsToldAmong tell more) (Some low)
told_next tell given more g least place low is tells found one after before =
    rw is (finds_one_more least place low found
    (g, Contains-append_right given (g ∷ []) g (first_element g []), tells)
    (λ at other point (x, listed, told). (x, Contains-append_left given (g ∷ []) x listed, told))
    (λ at other point (x, there, told).
    elim (last_or_before given g x there) [
      | inl listed ↦ inl (x, listed, told)
      | inr same ↦ inr (same_Some place _ (sym tells ∙ ap tell same ∙ told))
    ])
    one after before)

-- all of them
pub all_told : (l : LookUp) (t : TwoTables) (path : Path) (cases : List Case) (all except known : List Numbered)
    → (least : Option Place) → ((g : Numbered) → Contains all g ↔ GivenIn t path cases g)
    → FindsLeast (IsToldAmong (told l except known) all) least → FindsLeast (IsToldOf l t path cases except known) least
all_told l t path cases all except known least given found =
    least_as least
    (λ at other point (g, listed, is). (g, (given g).0 listed, is))
    (λ at other point (g, gives_it, is). (g, (given g).1 gives_it, is))
    found

-- what the first call for a number gives
abbrev pub IsFirstOf : List Numbered → Option Numbered → Type 0
IsFirstOf all None = all ≡ []
IsFirstOf all (Some g) = Contains all g

-- ---- the number of a table itself

pub table_given : (t : TwoTables) (cases : List Case) (found : Option Numbered)
    → found ≡ gives t cases (whole_site (whole_table t.table)) → (g : Numbered)
    → Contains (option_to_list found) g ↔ GivenIn t Table cases g
table_given t cases None is g = (
  λ listed. absurd (no_element g listed),
  λ (s, there, gives_it). elim (first_or_later (whole_site (whole_table t.table)) s [] there) [
    | inl same ↦ let no = is ∙ ap (gives t cases) same ∙ gives_it in absurd cc
    | inr none ↦ absurd (no_element s none)
  ],
)
table_given t cases (Some h) is g = (
  λ listed. elim (first_or_later h g [] listed) [
    | inl same ↦
        (whole_site (whole_table t.table), first_element _ [], sym is ∙ ap (λ (y : Numbered). Some y) same)
    | inr none ↦ absurd (no_element g none)
  ],
  λ (s, there, gives_it). elim (first_or_later (whole_site (whole_table t.table)) s [] there) [
    | inl same ↦
        subst (λ (y : Numbered). Contains (h ∷ []) y)
        (same_Some h g (is ∙ ap (gives t cases) same ∙ gives_it)) (first_element h [])
    | inr none ↦ absurd (no_element s none)
  ],
)

pub first_alone : (found : Option Numbered) → IsFirstOf (option_to_list found) found
first_alone None = refl
first_alone (Some g) = first_element g []

told_alone : (tell : Numbered → Option Place) (g : Numbered) (found : Option Place) → found ≡ tell g
    → FindsLeast (IsToldAmong tell (g ∷ [])) found
told_alone tell g None is = untold_next tell [] (g ∷ []) g None refl (sym is) (none_told tell [] refl)
told_alone tell g (Some place) is =
    told_next tell [] (g ∷ []) g None place place refl (sym is) (none_told tell [] refl) (inl refl)
    (not_after_itself place place.at place.other place.point (refl, refl, refl)) tt

pub table_told : (l : LookUp) (t : TwoTables) (cases : List Case) (except known : List Numbered) (g : Numbered)
    → (found : Option Place) → Some g ≡ gives t cases (whole_site (whole_table t.table))
    → found ≡ told l except known g → FindsLeast (IsToldOf l t Table cases except known) found
table_told l t cases except known g found given is =
    all_told l t Table cases (g ∷ []) except known found (table_given t cases (Some g) given)
    (told_alone (told l except known) g found is)

pub table_untold : (l : LookUp) (t : TwoTables) (cases : List Case) (except known : List Numbered)
    → None ≡ gives t cases (whole_site (whole_table t.table)) → FindsLeast (IsToldOf l t Table cases except known) None
table_untold l t cases except known given =
    all_told l t Table cases [] except known None (table_given t cases None given)
    (none_told (told l except known) [] refl)

-- ---- numbers at other places than some

-- these are the given ones at other places
abbrev pub AreBeside : List Numbered → List Numbered → List Numbered → Type 0
AreBeside except given all = (g : Numbered) → Contains all g ↔ (Contains given g × (first_of except g.at ≡ None))

pub none_beside : (except given all : List Numbered) → given ≡ [] → all ≡ [] → AreBeside except given all
none_beside except given all none empty g = (
  λ listed. absurd (no_element g (rw empty at listed)),
  λ (listed, beside). absurd (no_element g (rw none at listed)),
)

pub is_beside : (except : List Numbered) (g : Numbered) (found : Option Numbered) → found ≡ first_of except g.at
    → is_some found ≡ false → first_of except g.at ≡ None
is_beside except g None is none = sym is
is_beside except g (Some f) is none = absurd cc

pub in_except : (except : List Numbered) (g : Numbered) (found : Option Numbered) → found ≡ first_of except g.at
    → is_some found ≡ true → ¬ (first_of except g.at ≡ None)
in_except except g None is some none = absurd cc
in_except except g (Some f) is some none = let no = is ∙ none in absurd cc

pub beside_next : (except given more all : List Numbered) (g : Numbered) → more ≡ given ++ (g ∷ [])
    → first_of except g.at ≡ None → AreBeside except given all → AreBeside except more (all ++ (g ∷ []))
beside_next except given more all g is beside are =
    rw is (λ x. (
      λ listed. elim (last_or_before all g x listed) [
        | inl before ↦
            let (there, other) = (are x).0 before in (Contains-append_left given (g ∷ []) x there, other)
        | inr same ↦ rw (sym same) (Contains-append_right given (g ∷ []) g (first_element g []), beside)
      ],
      λ (listed, other). elim (last_or_before given g x listed) [
        | inl before ↦ Contains-append_left all (g ∷ []) x ((are x).1 (before, other))
        | inr same ↦ rw (sym same) (Contains-append_right all (g ∷ []) g (first_element g []))
      ],
    ))

pub excepted_next : (except given more all : List Numbered) (g : Numbered) → more ≡ given ++ (g ∷ [])
    → ¬ (first_of except g.at ≡ None) → AreBeside except given all → AreBeside except more all
excepted_next except given more all g is not are =
    rw is (λ x. (
      λ listed.
          let (there, other) = (are x).0 listed in (Contains-append_left given (g ∷ []) x there, other),
      λ (listed, other). elim (last_or_before given g x listed) [
        | inl before ↦ (are x).1 (before, other)
        | inr same ↦ absurd (not (ap (λ (y : Numbered). first_of except y.at) same ∙ other))
      ],
    ))

pub all_beside : (t : TwoTables) (path : Path) (cases : List Case) (given except all : List Numbered)
    → ((g : Numbered) → Contains given g ↔ GivenIn t path cases g) → AreBeside except given all
    → (g : Numbered) → Contains all g ↔ GivenBeside t path cases except g
all_beside t path cases given except all are beside g = (
  λ listed. let (there, other) = (beside g).0 listed in ((are g).0 there, other),
  λ (gives_it, other). (beside g).1 ((are g).1 gives_it, other),
)

-- ---- whether a number is given

any_of : (f : SiteValue → Option Numbered) (sites : List SiteValue)
    → ((s : SiteValue) (g : Numbered) → Contains sites s → ¬ (f s ≡ Some g))
    → list_any (λ s. is_some (f s)) sites ≡ false
any_of f [] none = refl
any_of f (s ∷ sites) none =
    elim (cases_Option (f s)) [
      | inl (g, is) ↦ absurd (none s g (first_element s sites) is)
      | inr is ↦ rw is (any_of f sites (λ u g listed. none u g (later_element s u sites listed)))
    ]

some_of : (f : SiteValue → Option Numbered) (sites : List SiteValue) (s : SiteValue) (g : Numbered)
    → Contains sites s → f s ≡ Some g → list_any (λ u. is_some (f u)) sites ≡ true
some_of f [] s g listed is = absurd (no_element s listed)
some_of f (u ∷ sites) s g listed is =
    elim (first_or_later u s sites listed) [
      | inl same ↦ rw (ap f same ∙ is) refl
      | inr later ↦
          let rest = some_of f sites s g later is in
          elim (cases_Option (f u)) [
            | inl (h, here) ↦ rw here refl
            | inr none ↦ rw none rest
          ]
    ]

pub none_given : (t : TwoTables) (path : Path) (cases : List Case) → gives_any t path cases ≡ false → (g : Numbered)
    → ¬ GivenIn t path cases g
none_given t path cases none g (s, listed, is) =
    let no = sym (some_of (gives t cases) (sites_of path t.table) s g listed is) ∙ none in absurd cc

pub any_given : (t : TwoTables) (path : Path) (cases : List Case) (all : List Numbered)
    → ((g : Numbered) → Contains all g ↔ GivenIn t path cases g) → (first : Option Numbered) → IsFirstOf all first
    → is_some first ≡ gives_any t path cases
any_given t path cases all given None none =
    sym (any_of (gives t cases) (sites_of path t.table)
    (λ s g listed is. no_element g (rw none at ((given g).1 (s, listed, is)))))
any_given t path cases all given (Some g) first =
    let (s, listed, gives_it) = (given g).0 first in
    sym (some_of (gives t cases) (sites_of path t.table) s g listed gives_it)

pub first_call : (all rest : List Numbered) (first : Option Numbered)
    → MatchOption first ((all ≡ []) × (rest ≡ [])) (λ g. all ≡ g ∷ rest) → IsFirstOf all first
first_call all rest None steps = steps.0
first_call all rest (Some g) steps = subst (λ (xs : List Numbered). Contains xs g) (sym steps) (first_element g rest)

-- ---- the first number that is given

first_kept : {X Y : Type 0} (f : X → Option Y) (xs : List X) → first_some f xs ≡ slice_get (filter_map f xs) 0
first_kept f [] = refl
first_kept f (x ∷ xs) =
    elim (cases_Option (f x)) [
      | inl (y, is) ↦ rw is refl
      | inr none ↦ rw none (first_kept f xs)
    ]

pub first_is : (t : TwoTables) (path : Path) (cases : List Case) (sites rest : List SiteValue) (g : Numbered)
    → sites ≡ sites_of path t.table → all_given t cases sites ≡ g ∷ all_given t cases rest
    → not (g.number == 0) ≡ first_is_some t path cases
first_is t path cases sites rest g same is =
    rw (sym same, first_kept (gives t cases) sites, is) refl

pub first_is_none : (t : TwoTables) (path : Path) (cases : List Case) (sites : List SiteValue)
    → sites ≡ sites_of path t.table → all_given t cases sites ≡ [] → false ≡ first_is_some t path cases
first_is_none t path cases sites same none =
    rw (sym same, first_kept (gives t cases) sites, none) refl

pub two_given : (t : TwoTables) (path : Path) (cases : List Case) (sites left rest : List SiteValue)
    → (first second : Option Numbered) → sites ≡ sites_of path t.table
    → MatchOption first ((all_given t cases sites ≡ []) × (left ≡ []))
    (λ g. all_given t cases sites ≡ g ∷ all_given t cases left)
    → is_some first ≡ true
    → MatchOption second ((all_given t cases left ≡ []) × (rest ≡ []))
    (λ g. all_given t cases left ≡ g ∷ all_given t cases rest)
    → is_some second ≡ gives_two t path cases
two_given t path cases sites left rest None second same one some two = absurd cc
two_given t path cases sites left rest (Some g) None same one some (none, end) =
    rw (sym same, one, none) refl
two_given t path cases sites left rest (Some g) (Some h) same one some two =
    rw (sym same, one, two) (sym (le-leb 2 _ (omega arith)))

pub none_given_twice : (t : TwoTables) (path : Path) (cases : List Case) (sites left : List SiteValue)
    → (first : Option Numbered) → sites ≡ sites_of path t.table
    → MatchOption first ((all_given t cases sites ≡ []) × (left ≡ []))
    (λ g. all_given t cases sites ≡ g ∷ all_given t cases left)
    → is_some first ≡ false → false ≡ gives_two t path cases
none_given_twice t path cases sites left None same (none, end) is_none = rw (sym same, none) refl
none_given_twice t path cases sites left (Some g) same one is_none = absurd cc

nothing_kept : (f : SiteValue → Option Numbered) (sites : List SiteValue)
    → list_any (λ s. is_some (f s)) sites ≡ false → filter_map f sites ≡ []
nothing_kept f [] none = refl
nothing_kept f (s ∷ sites) none =
    elim (cases_Option (f s)) [
      | inl (g, is) ↦ let some : true ≡ false = rw is at none in absurd cc
      | inr empty ↦ rw empty (nothing_kept f sites (rw empty at none))
    ]

pub no_first : (t : TwoTables) (path : Path) (cases : List Case) → gives_any t path cases ≡ false
    → false ≡ first_is_some t path cases
no_first t path cases none =
    rw (first_kept (gives t cases) (sites_of path t.table), nothing_kept (gives t cases) (sites_of path t.table) none)
    refl

pub no_two : (t : TwoTables) (path : Path) (cases : List Case) → gives_any t path cases ≡ false
    → false ≡ gives_two t path cases
no_two t path cases none = rw (nothing_kept (gives t cases) (sites_of path t.table) none) refl

-- ---- a list that is gone over

pub all_of : (taken left all : List Numbered) → left ≡ [] → taken ++ left ≡ all → taken ≡ all
all_of taken left all none is = sym (append-nil taken) ∙ ap (λ (rest : List Numbered). taken ++ rest) (sym none) ∙ is

pub one_taken : (taken left rest all : List Numbered) (g : Numbered) → left ≡ g ∷ rest → taken ++ left ≡ all
    → (taken ++ (g ∷ [])) ++ rest ≡ all
one_taken taken left rest all g is whole =
    append_assoc taken (g ∷ []) rest ∙ ap (λ (more : List Numbered). taken ++ more) (sym is) ∙ whole

pub told_found : (tell : Numbered → Option Place) (given all : List Numbered) (least : Option Place) → given ≡ all
    → FindsLeast (IsToldAmong tell given) least → FindsLeast (IsToldAmong tell all) least
told_found tell given all least is found =
    subst (λ (xs : List Numbered). FindsLeast (IsToldAmong tell xs) least) is found

pub beside_found : (except given all beside : List Numbered) → given ≡ all → AreBeside except given beside
    → AreBeside except all beside
beside_found except given all beside is are = subst (λ (xs : List Numbered). AreBeside except xs beside) is are
