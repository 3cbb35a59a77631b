-- The structures of an index, by their types.
use Rattle.std.proofs.Common.{◌≡◌, ◌∙◌, ℕ, zero, suc, ◌+◌, ◌-◌, ◌<◌, ◌≤◌, List, [], ◌∷◌, ◌++◌, length, map, get_or, Option, Some, None, Bool, true, false, refl, sym, ap, inl, inr, subst, arith}
use Rattle.std.specs.Prelude.{◌⊎◌, ◌↔◌, Contains, not, slice_set}
use Rattle.std.specs.Option.{is_none, is_some}
use Rattle.std.proofs.lemmas.List.{map-append}
use Rattle.std.proofs.lemmas.List.Elements.{Contains-append_cases, Contains-append_left, Contains-append_right}
use Rattle.std.proofs.Math.Logic.{∥∥₁_elim}
use Rattle.acpi_base.proofs.Elements.{element_decided, first_element, first_or_later, later_element, no_element}
use Rattle.std.proofs.Math.Bool.{Bool-set}
use Rattle.acpi_base.proofs.Faults.Deciding.{Decided, both, decided_as, same}
use Rattle.acpi_rules.specs.Cases.{Case, gives}
use Rattle.acpi_rules.specs.Given.{all_given, given_in_types}
use Rattle.acpi_rules.specs.Indexes.{IsAmong, IsIndexOf, listed_window, typed_site, typed_sites}
use Rattle.acpi_rules.specs.Laws.{Follow, IsPart}
use Rattle.acpi_rules.specs.Numbers.{GivenIn}
use Rattle.acpi_rules.specs.Series.{start_of}
use Rattle.acpi_rules.specs.Sites.{SiteValue, sites_of, whole_table}
use Rattle.acpi_rules.specs.Terms.{TwoTables}
use Rattle.acpi_rules.specs.Walks.{Placed, Walk, cut_behind, walk_of}
use Rattle.acpi_rules.specs.declared.index.Index.{Index}
use Rattle.acpi_rules.specs.declared.index.Listed.{Listed}
use Rattle.acpi_rules.specs.declared.index.OfType.{OfType}
use Rattle.acpi_rules.specs.declared.numbered.Numbered.{Numbered}
use Rattle.acpi_rules.specs.declared.series.Path.{Path}
use Rattle.acpi_rules.specs.declared.series.Path.TheVariants.{Entries}
use Rattle.acpi_rules.specs.declared.series.Series.{Series}
use Rattle.acpi_rules.proofs.Elements.{kept_from, kept_has}
use Rattle.acpi_rules.proofs.GivenNumbers.{given_listed}
use Rattle.acpi_rules.proofs.Following.{cases_Option, structures_follow}

-- ---- an element in place of another one

set_from : {X : Type 0} (xs : List X) (i : ℕ) (y z : X) → Contains (slice_set xs i y) z → (y ≡ z) ⊎ Contains xs z
set_from [] i y z has = absurd (no_element z has)
set_from (x ∷ xs) zero y z has =
    elim (first_or_later y z xs has) [
      | inl same ↦ inl same
      | inr later ↦ inr (later_element x z xs later)
    ]
set_from {X} (x ∷ xs) (suc i) y z has =
    elim (first_or_later x z (slice_set xs i y) has) [
      | inl same ↦ inr (subst (λ (w : X). Contains (x ∷ xs) w) same (first_element x xs))
      | inr later ↦
          elim (set_from xs i y z later) [
            | inl is ↦ inl is
            | inr there ↦ inr (later_element x z xs there)
          ]
    ]

set_new : {X : Type 0} (xs : List X) (i : ℕ) (y : X) → i < length xs → Contains (slice_set xs i y) y
set_new [] i y less = absurd (omega (arith, less))
set_new (x ∷ xs) zero y less = first_element y xs
set_new (x ∷ xs) (suc i) y less = later_element x y (slice_set xs i y) (set_new xs i y (omega (arith, less)))

set_kept : {X : Type 0} (xs : List X) (i : ℕ) (old y z : X) → i < length xs → get_or xs i old ≡ old → Contains xs z
    → (old ≡ z) ⊎ Contains (slice_set xs i y) z
set_kept [] i old y z less is has = absurd (no_element z has)
set_kept (x ∷ xs) zero old y z less is has =
    elim (first_or_later x z xs has) [
      | inl same ↦ inl (sym is ∙ same)
      | inr later ↦ inr (later_element y z xs later)
    ]
set_kept {X} (x ∷ xs) (suc i) old y z less is has =
    elim (first_or_later x z xs has) [
      | inl same ↦ inr (subst (λ (w : X). Contains (x ∷ slice_set xs i y) w) same (first_element x (slice_set xs i y)))
      | inr later ↦
          elim (set_kept xs i old y z (omega (arith, less)) is later) [
            | inl same ↦ inl same
            | inr there ↦ inr (later_element x z (slice_set xs i y) there)
          ]
    ]

-- ---- one more structure

-- with one more of a type
grown : (whole : Placed) (kind : ℕ) (listed more : List Listed) (own : Listed) → more ≡ listed ++ (own ∷ [])
    → (s : SiteValue)
    → Contains (map (typed_site whole kind) more) s
    ↔ ((s ≡ typed_site whole kind own) ⊎ Contains (map (typed_site whole kind) listed) s)
grown whole kind listed more own is s =
    let site = typed_site whole kind in
    rw (is, map-append site listed (own ∷ [])) (
      λ has. elim (Contains-append_cases (map site listed) (site own ∷ []) s has) [
        | inl before ↦ inr before
        | inr last ↦
            elim (first_or_later (site own) s [] last) [
              | inl same ↦ inl (sym same)
              | inr none ↦ absurd (no_element s none)
            ]
      ],
      λ either. elim either [
        | inl same ↦
            Contains-append_right (map site listed) (site own ∷ []) s
            (subst (λ (x : SiteValue). Contains (site own ∷ []) x) (sym same) (first_element (site own) []))
        | inr before ↦ Contains-append_left (map site listed) (site own ∷ []) s before
      ],
    )

-- it goes to the others of its type
pub added_to : (whole : Placed) (kind : ℕ) (types : List OfType) (i : ℕ) (old new : OfType) (own : Listed)
    → i < length types → get_or types i old ≡ old → old.kind ≡ kind → new.kind ≡ old.kind
    → new.listed.items ≡ old.listed.items ++ (own ∷ []) → (s : SiteValue)
    → IsAmong whole (slice_set types i new) s ↔ ((s ≡ typed_site whole kind own) ⊎ IsAmong whole types s)
added_to whole kind types i old new own less is typed same more s =
    let grows = grown whole kind old.listed.items new.listed.items own more s in
    let of_new : new.kind ≡ kind = same ∙ typed in (
      λ (o, listed, has). elim (set_from types i new o listed) [
        | inr there ↦ inr (o, there, has)
        | inl new_is ↦
            let here = subst (λ (x : OfType). Contains (typed_sites whole x) s) (sym new_is) has in
            elim (grows.0 (rw of_new at here)) [
              | inl own_is ↦ inl own_is
              | inr before ↦
                  inr (
                    old,
                    subst (λ (x : OfType). Contains types x) is (get_listed types i old less),
                    rw (sym typed) at before,
                  )
            ]
      ],
      λ either. elim either [
        | inl own_is ↦ (new, set_new types i new less, rw (sym of_new) at (grows.1 (inl own_is)))
        | inr (o, listed, has) ↦
            elim (set_kept types i old new o less is listed) [
              | inr there ↦ (o, there, has)
              | inl old_is ↦
                  let here = subst (λ (x : OfType). Contains (typed_sites whole x) s) (sym old_is) has in
                  (new, set_new types i new less, rw (sym of_new) at (grows.1 (inr (rw typed at here))))
            ]
      ],
    )
  where
    get_listed : (types : List OfType) (i : ℕ) (d : OfType) → i < length types → Contains types (get_or types i d)
    get_listed [] i d less = absurd (omega (arith, less))
    get_listed (x ∷ xs) zero d less = first_element x xs
    get_listed (x ∷ xs) (suc i) d less = later_element x (get_or xs i d) xs (get_listed xs i d (omega (arith, less)))

-- it is the first of its type
pub added_alone : (whole : Placed) (kind : ℕ) (types more : List OfType) (new : OfType) (own : Listed)
    → more ≡ types ++ (new ∷ []) → new.kind ≡ kind → new.listed.items ≡ own ∷ [] → (s : SiteValue)
    → IsAmong whole more s ↔ ((s ≡ typed_site whole kind own) ⊎ IsAmong whole types s)
added_alone whole kind types more new own is typed alone s =
    let grows = grown whole kind [] new.listed.items own alone s in
    rw is (
      λ (o, listed, has). elim (Contains-append_cases types (new ∷ []) o listed) [
        | inl before ↦ inr (o, before, has)
        | inr last ↦
            elim (first_or_later new o [] last) [
              | inr none ↦ absurd (no_element o none)
              | inl new_is ↦
                  let here = subst (λ (x : OfType). Contains (typed_sites whole x) s) (sym new_is) has in
                  elim (grows.0 (rw typed at here)) [
                    | inl own_is ↦ inl own_is
                    | inr none ↦ absurd (no_element s none)
                  ]
            ]
      ],
      λ either. elim either [
        | inl own_is ↦ (
          new,
          Contains-append_right types (new ∷ []) new (first_element new []),
          rw (sym typed) at (grows.1 (inl own_is)),
        )
        | inr (o, listed, has) ↦ (o, Contains-append_left types (new ∷ []) o listed, has)
      ],
    )

-- ---- the structures of a walk

part_of : (inside : Placed) (at : ℕ) (ws : List Placed) (w : Placed) → Follow inside at ws → Contains ws w
    → IsPart inside w.offset w
part_of inside at [] w follow listed = absurd (no_element w listed)
part_of inside at (v ∷ ws) w (part, rest) listed =
    elim (first_or_later v w ws listed) [
      | inl same ↦
          subst (λ (x : Placed). IsPart inside x.offset x) same (subst (λ k. IsPart inside k v) (sym part.here) part)
      | inr later ↦ part_of inside (at + length v.entry) ws w rest later
    ]

-- a structure of a walk over a table lies in it, and is found there again
pub record IsListedAs (table : List ℕ) (w : Placed) : Type 0 where
  pub within : w.offset + length w.entry ≤ length table
  pub same : listed_window table (record { at = w.offset; size = length w.entry }) ≡ w

pub listed_as : (series : Series) (table : List ℕ) (w : Placed)
    → Contains (walk_of series (whole_table table)).structures w → IsListedAs table w
listed_as series table w listed =
    let follow = structures_follow series (whole_table table) in
    elim (cases_Option (start_of series.start table)) [
      | inr none ↦ absurd (no_element w (rw none at listed))
      | inl (start, some) ↦
          let part = part_of (whole_table table) (0 + start) _ w (rw some at follow) (rw some at listed) in
          let fits = part.within in
          let count : w.offset - 0 + length w.entry - (w.offset - 0) ≡ length w.entry = omega arith in
          let place : w.offset - 0 ≡ w.offset = omega arith in
          record {
            within = omega (arith, fits);
            same = ap (λ (e : List ℕ). record { offset = w.offset; entry = e }) (rw (count, place) at part.run);
          }
    ]

-- those so far and those that are left are all
abbrev pub AreAll : Placed → List OfType → List SiteValue → List SiteValue → Type 0
AreAll whole types left all = (s : SiteValue) → Contains all s ↔ (IsAmong whole types s ⊎ Contains left s)

pub none_yet : (whole : Placed) (types : List OfType) (all : List SiteValue) → types ≡ [] → AreAll whole types all all
none_yet whole types all none s = rw none (
  λ listed. inr listed,
  λ either. elim either [ inl (o, listed, has) ↦ absurd (no_element o listed) | inr listed ↦ listed ],
)

pub one_more : (whole : Placed) (types more : List OfType) (x : SiteValue) (left all : List SiteValue)
    → AreAll whole types (x ∷ left) all
    → ((s : SiteValue) → IsAmong whole more s ↔ ((s ≡ x) ⊎ IsAmong whole types s)) → AreAll whole more left all
one_more whole types more x left all are added s = (
  λ listed. elim ((are s).0 listed) [
    | inl before ↦ inl ((added s).1 (inr before))
    | inr rest ↦
        elim (first_or_later x s left rest) [
          | inl same ↦ inl ((added s).1 (inl (sym same)))
          | inr later ↦ inr later
        ]
  ],
  λ either. elim either [
    | inl among ↦
        elim ((added s).0 among) [
          | inl same ↦
              (are s).1 (inr (subst (λ (y : SiteValue). Contains (x ∷ left) y) (sym same) (first_element x left)))
          | inr before ↦ (are s).1 (inl before)
        ]
    | inr later ↦ (are s).1 (inr (later_element x s left later))
  ],
)

pub all_listed : (whole : Placed) (types : List OfType) (left all : List SiteValue) → left ≡ []
    → AreAll whole types left all → (s : SiteValue) → IsAmong whole types s ↔ Contains all s
all_listed whole types left all none are s = (
  λ among. (are s).1 (inl among),
  λ listed. elim ((are s).0 listed) [
    | inl among ↦ among
    | inr rest ↦ absurd (no_element s (rw none at rest))
  ],
)

-- whether it is cut, once no structure is left
pub cut_at : (walk : Walk) → walk.structures ≡ [] → cut_behind walk ≡ walk.cut
cut_at walk none = rw none refl

pub none_same : {X : Type 0} (o : Option X) (b : Bool) → is_some o ≡ not b → b ≡ is_none o
none_same (Some x) true is = absurd cc
none_same (Some x) false is = refl
none_same None true is = refl
none_same None false is = absurd cc

-- ---- what the structures of all types give

types_given : (t : TwoTables) (cases : List Case) (types : List OfType) (g : Numbered)
    → Contains (given_in_types t cases types) g
    ↔ ((s : SiteValue) × IsAmong (whole_table t.table) types s × (gives t cases s ≡ Some g))
types_given t cases [] g = (
  λ listed. absurd (no_element g listed),
  λ (s, (o, listed, has), is). absurd (no_element o listed),
)
types_given t cases (o ∷ types) g =
    let whole = whole_table t.table in
    let own = all_given t cases (typed_sites whole o) in
    let rest = types_given t cases types g in (
      λ listed. elim (Contains-append_cases own (given_in_types t cases types) g listed) [
        | inl here ↦
            let (s, has, is) = kept_from (gives t cases) (typed_sites whole o) g here in
            (s, (o, first_element o types, has), is)
        | inr later ↦
            let (s, (p, among, has), is) = rest.0 later in
            (s, (p, later_element o p types among, has), is)
      ],
      λ (s, (p, among, has), is). elim (first_or_later o p types among) [
        | inl same ↦
            Contains-append_left own (given_in_types t cases types) g
            (kept_has (gives t cases) (typed_sites whole o) s g
            (subst (λ (x : OfType). Contains (typed_sites whole x) s) (sym same) has) is)
        | inr later ↦
            Contains-append_right own (given_in_types t cases types) g (rest.1 (s, (p, later, has), is))
      ],
    )

same_numbered : (x g : Numbered) → (x.number ≡ g.number) × ((x.at ≡ g.at) × (x.value ≡ g.value)) → x ≡ g
same_numbered x g (number, (at, value)) =
    ap (λ (n : ℕ). record { number = n; at = x.at; value = x.value }) number
    ∙ ap (λ (a : ℕ). record { number = g.number; at = a; value = x.value }) at
    ∙ ap (λ (v : ℕ). record { number = g.number; at = g.at; value = v }) value

numbered_decided : (g x : Numbered) → Decided (x ≡ g)
numbered_decided g x =
    decided_as (same_numbered x g)
    (λ is. (ap (λ (y : Numbered). y.number) is, (ap (λ (y : Numbered). y.at) is, ap (λ (y : Numbered). y.value) is)))
    (both (same x.number g.number) (both (same x.at g.at) (same x.value g.value)))

-- whether a number is among these can be decided, so a fact that is known to be there tells it
told_listed : (all : List Numbered) (g : Numbered) {P : Type 0} → ∥ P ∥₁ → (P → Contains all g) → Contains all g
told_listed all g told follows =
    elim (element_decided all (λ x. x ≡ g) (numbered_decided g)) [
      | inl (x, listed, is) ↦ subst (λ (y : Numbered). Contains all y) is listed
      | inr none ↦
          let no : true ≡ false = ∥∥₁_elim told (Bool-set _ _) (λ p. absurd (none (g, follows p, refl))) in
          cc
    ]

-- by an index, the structures of a path give the same numbers
pub indexed_given : (t : TwoTables) (path : Path) (cases : List Case) (i : Index) → path ≡ Entries i.series
    → ∥ IsIndexOf i t.table ∥₁ → (g : Numbered)
    → Contains (given_in_types t cases i.types.items) g ↔ GivenIn t path cases g
indexed_given t path cases i is told g =
    let given = types_given t cases i.types.items g in
    let sites = given_listed t (Entries i.series) cases g in
    rw is (
      λ listed.
          let (s, among, gives_it) = given.0 listed in
          sites.0 (told_listed (all_given t cases (sites_of (Entries i.series) t.table)) g told
          (λ index. sites.1 (s, (index.sites s).0 among, gives_it))),
      λ (s, listed, gives_it). told_listed (given_in_types t cases i.types.items) g told
          (λ index. given.1 (s, (index.sites s).1 listed, gives_it)),
    )

-- ---- what the next structure gives

pub some_of : {X : Type 0} (o : Option X) → true ≡ is_some o → (x : X) × (o ≡ Some x)
some_of (Some x) is = (x, refl)
some_of None is = absurd cc

pub none_of : {X : Type 0} (o : Option X) → false ≡ is_some o → o ≡ None
none_of (Some x) is = absurd cc
none_of None is = refl
