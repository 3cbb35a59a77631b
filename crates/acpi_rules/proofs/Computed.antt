-- The first finding of rows, by computing, for examples.
use Rattle.std.proofs.Common.{◌≡◌, ℕ, List, [], ◌∷◌, Option, Some, None, Bool, true, false, ap, arith, inl, inr, refl, sym, subst}
use Rattle.std.specs.Prelude.{◌⊎◌, ◌==◌, ◌&&◌, ◌||◌, Contains, not, nat_lt, nat_le, if◌then◌else◌}
use Rattle.std.specs.Bool.{Decides}
use Rattle.std.specs.List.{filter_map, list_all, list_any}
use Rattle.std.proofs.lemmas.Bool.{leb-true, le-leb}
use Rattle.std.proofs.lemmas.Bool.Decides.{Decides-and, Decides-eqb, Decides-ltb, Decides-not, Decides-or, eqb_tells, not_from_Decides}
use Rattle.std.proofs.lemmas.Option.{same_Some}
use Rattle.acpi_base.proofs.Elements.{first_element, first_or_later, later_element, no_element}
use Rattle.acpi_rules.specs.Cases.{Case, gives}
use Rattle.acpi_rules.specs.Known.{found_place, is_reported}
use Rattle.acpi_rules.specs.Numbered.{IsNoLater, IsRepeated, IsTold, repeat_place}
use Rattle.acpi_rules.specs.Places.{FindsLeast, IsNotAfter}
use Rattle.acpi_rules.specs.Numbers.{Counts, GivenIn, Numbers}
use Rattle.acpi_rules.specs.Rows.{InForm, IsBroken, IsKnown, IsLookedUp, Known, Knows, Row, guard_holds, of_source, reported}
use Rattle.acpi_rules.specs.Sites.{first_cut, sites_of}
use Rattle.acpi_rules.specs.Terms.{TwoTables}
use Rattle.acpi_rules.specs.declared.known.LookUp.{LookUp}
use Rattle.acpi_rules.specs.declared.known.LookUp.TheVariants as lookup
use Rattle.acpi_rules.specs.declared.known.FoundAs.{FoundAs}
use Rattle.acpi_rules.specs.declared.numbered.Numbered.{Numbered}
use Rattle.acpi_rules.specs.declared.numbered.Repeat.{Repeat}
use Rattle.acpi_rules.specs.declared.numbered.Repeat.TheVariants as repeat
use Rattle.acpi_rules.specs.declared.place.Place.{Place}
use Rattle.acpi_rules.specs.declared.row.Form.{Form}
use Rattle.acpi_rules.specs.declared.row.Form.TheVariants as form
use Rattle.acpi_rules.specs.declared.series.Path.{Path}
use Rattle.acpi_rules.specs.declared.structures.Cut.{Cut}
use Rattle.acpi_rules.proofs.ComputedLists.{IsAmong, decides_all, decides_any, decides_no_later, no_later, over, over_from, over_has}
use Rattle.acpi_rules.proofs.ComputedOverlaps.{overlaps, overlaps_from, overlaps_has}
use Rattle.acpi_rules.proofs.Elements.{kept_from, kept_has}
use Rattle.acpi_rules.proofs.LeastPlaces.{least_as, not_after_itself, not_after_trans}

-- ---- the lowest of some places

abbrev not_after : Place → Place → Bool
not_after p q =
    nat_lt p.at q.at
    || ((p.at == q.at) && (nat_lt p.other q.other || ((p.other == q.other) && nat_le p.point q.point)))

decides_not_after : (p q : Place) → Decides (not_after p q) (IsNotAfter p q.at q.other q.point)
decides_not_after p q =
    Decides-or (nat_lt p.at q.at) _ (Decides-ltb p.at q.at)
    (Decides-and (p.at == q.at) _ (Decides-eqb p.at q.at)
    (Decides-or (nat_lt p.other q.other) _ (Decides-ltb p.other q.other)
    (Decides-and (p.other == q.other) _ (Decides-eqb p.other q.other)
    (leb-true p.point q.point, le-leb p.point q.point))))

abbrev lower : Place → Option Place → Place
lower p None = p
lower p (Some q) = if not_after p q then p else q

abbrev pub lowest : List Place → Option Place
lowest [] = None
lowest (p ∷ ps) = Some (lower p (lowest ps))

finds_lowest : (ps : List Place) → FindsLeast (IsAmong ps) (lowest ps)
finds_lowest [] = λ at other point listed. no_element _ listed
finds_lowest (p ∷ ps) = by (lowest ps) (finds_lowest ps)
  where
    itself : (r : Place) → IsNotAfter r r.at r.other r.point
    itself r = not_after_itself r r.at r.other r.point (refl, refl, refl)

    of_first : (r : Place) → IsNotAfter r p.at p.other p.point
        → ((at other point : ℕ) → IsAmong ps at other point → IsNotAfter r at other point)
        → (at other point : ℕ) → IsAmong (p ∷ ps) at other point → IsNotAfter r at other point
    of_first r first rest at other point listed =
        elim (first_or_later p _ ps listed) [
          | inl same ↦ subst (λ (q : Place). IsNotAfter r q.at q.other q.point) same first
          | inr later ↦ rest at other point later
        ]

    before : (q : Place) → ¬ IsNotAfter p q.at q.other q.point → IsNotAfter q p.at p.other p.point
    before q differ = grind (arith, differ)

    either : (q : Place) (b : Bool) → Decides b (IsNotAfter p q.at q.other q.point) → FindsLeast (IsAmong ps) (Some q)
        → FindsLeast (IsAmong (p ∷ ps)) (Some (if b then p else q))
    either q true decides found =
        record {
          here = first_element p ps;
          least = of_first p (itself p) (λ at other point listed.
              not_after_trans p q at other point (decides.0 refl) (found.least at other point listed));
        }
    either q false decides found =
        record {
          here = later_element p q ps found.here;
          least = of_first q (before q (not_from_Decides false decides refl)) found.least;
        }

    by : (o : Option Place) → FindsLeast (IsAmong ps) o → FindsLeast (IsAmong (p ∷ ps)) (Some (lower p o))
    by None none =
        record {
          here = first_element p ps;
          least = of_first p (itself p) (λ at other point listed. absurd (none at other point listed));
        }
    by (Some q) found = either q (not_after p q) (decides_not_after p q) found

-- ---- what each form finds

-- the numbers that structures give
abbrev given : TwoTables → Path → List Case → List Numbered
given t path cases = filter_map (gives t cases) (sites_of path t.table)

given_has : (t : TwoTables) (path : Path) (cases : List Case) (g : Numbered) → GivenIn t path cases g
    → Contains (given t path cases) g
given_has t path cases g (s, listed, is) = kept_has (gives t cases) (sites_of path t.table) s g listed is

given_from : (t : TwoTables) (path : Path) (cases : List Case) (g : Numbered) → Contains (given t path cases) g
    → GivenIn t path cases g
given_from t path cases g listed = kept_from (gives t cases) (sites_of path t.table) g listed

-- whether one of them is n
abbrev has_number : List Numbered → ℕ → Bool
has_number all n = list_any (λ k. k.number == n) all

decides_number : (all : List Numbered) (n : ℕ)
    → Decides (has_number all n) ((k : Numbered) × Contains all k × (k.number ≡ n))
decides_number all n =
    decides_any (λ k. k.number == n) (λ k. k.number ≡ n) (λ k. Decides-eqb k.number n) all

-- the number, if there is none of some at its place
abbrev beside : List Numbered → Numbered → Option Numbered
beside except g = if has_number except g.at then None else Some g

-- the numbers that count
abbrev counted : TwoTables → Numbers → List Numbered
counted t n = filter_map (beside (given t n.path n.except_cases)) (given t n.path n.cases)

counted_has : (t : TwoTables) (n : Numbers) (g : Numbered) → Counts t n g → Contains (counted t n) g
counted_has t n g (is_given, counts) =
    kept_has (beside except) (given t n.path n.cases) g g (given_has t n.path n.cases g is_given)
    (of (has_number except g.at) (decides_number except g.at))
  where
    except : List Numbered
    except = given t n.path n.except_cases

    of : (b : Bool) → Decides b ((k : Numbered) × Contains except k × (k.number ≡ g.at))
        → (if b then None else Some g) ≡ Some g
    of true decides =
        let (k, listed, same) = decides.0 refl in
        absurd (counts (k, given_from t n.path n.except_cases k listed, same))
    of false decides = refl

counted_from : (t : TwoTables) (n : Numbers) (g : Numbered) → Contains (counted t n) g → Counts t n g
counted_from t n g listed =
    let (h, there, is) = kept_from (beside except) (given t n.path n.cases) g listed in
    of h (given_from t n.path n.cases h there) (has_number except h.at) (decides_number except h.at) is
  where
    except : List Numbered
    except = given t n.path n.except_cases

    of : (h : Numbered) → GivenIn t n.path n.cases h → (b : Bool)
        → Decides b ((k : Numbered) × Contains except k × (k.number ≡ h.at)) → (if b then None else Some h) ≡ Some g
        → Counts t n g
    of h is_given true decides is = absurd cc
    of h is_given false decides is =
        subst (Counts t n) (same_Some h g is) (
          is_given,
          λ (k, k_given, same). not_from_Decides false decides refl
              (k, given_has t n.path n.except_cases k k_given, same),
        )

abbrev given_place : Numbered → Place
given_place g = record { at = g.at; other = g.value; point = g.number }

-- the places of numbers that a test passes
abbrev passed : (Numbered → Bool) → Numbered → Option Place
passed test g = if test g then Some (given_place g) else None

same_number : (g : Numbered) (at other point : ℕ)
    → given_place g ≡ record { at = at; other = other; point = point } → g ≡ reported at other point
same_number g at other point same =
    λ i. record { number = (same i).point; at = (same i).at; value = (same i).other }

passed_has : (test : Numbered → Bool) (P : Numbered → Type 0) → ((g : Numbered) → Decides (test g) (P g))
    → (all : List Numbered) (at other point : ℕ) → Contains all (reported at other point) → P (reported at other point)
    → IsAmong (filter_map (passed test) all) at other point
passed_has test P each all at other point listed holds =
    let g = reported at other point in
    kept_has (passed test) all g (given_place g) listed (of (test g) ((each g).1 holds))
  where
    of : (b : Bool) → b ≡ true
        → (if b then Some (given_place (reported at other point)) else None)
        ≡ Some (given_place (reported at other point))
    of b is = rw is refl

passed_from : (test : Numbered → Bool) (P : Numbered → Type 0) → ((g : Numbered) → Decides (test g) (P g))
    → (all : List Numbered) (at other point : ℕ) → IsAmong (filter_map (passed test) all) at other point
    → Contains all (reported at other point) × P (reported at other point)
passed_from test P each all at other point among =
    let (g, listed, is) = kept_from (passed test) all _ among in
    of g listed (test g) (each g) is
  where
    of : (g : Numbered) → Contains all g → (b : Bool) → Decides b (P g)
        → (if b then Some (given_place g) else None) ≡ Some (record { at = at; other = other; point = point })
        → Contains all (reported at other point) × P (reported at other point)
    of g listed true decides is =
        let same = same_number g at other point (same_Some _ _ is) in
        (subst (Contains all) same listed, subst P same (decides.0 refl))
    of g listed false decides is = cc

-- ---- numbers that occur again

abbrev is_first : List Numbered → Numbered → Bool
is_first all f = list_all (λ h. not (h.number == f.number) || no_later f h) all

decides_first : (all : List Numbered) (f : Numbered)
    → Decides (is_first all f) ((h : Numbered) → Contains all h → (¬ (h.number ≡ f.number)) ⊎ IsNoLater f h)
decides_first all f =
    decides_all (λ h. not (h.number == f.number) || no_later f h)
    (λ h. (¬ (h.number ≡ f.number)) ⊎ IsNoLater f h)
    (λ h. Decides-or (not (h.number == f.number)) (no_later f h)
    (Decides-not (h.number == f.number) (Decides-eqb h.number f.number)) (decides_no_later f h)) all

abbrev is_told : Repeat → Numbered → Numbered → Bool
is_told repeat.Twice g f = not (g.at == f.at)
is_told repeat.Unlike g f = not (g.value == f.value)
is_told repeat.UnlikeFirst g f = not (g.value == f.value)
is_told repeat.UnlikeValue g f = not (g.value == f.value)
is_told repeat.UnlikeNumber g f = not (g.value == f.value)
is_told repeat.UnlikeValues g f = not (g.value == f.value)

decides_told : (r : Repeat) (g f : Numbered) → Decides (is_told r g f) (IsTold r g f)
decides_told repeat.Twice g f = Decides-not (g.at == f.at) (Decides-eqb g.at f.at)
decides_told repeat.Unlike g f = Decides-not (g.value == f.value) (Decides-eqb g.value f.value)
decides_told repeat.UnlikeFirst g f = Decides-not (g.value == f.value) (Decides-eqb g.value f.value)
decides_told repeat.UnlikeValue g f = Decides-not (g.value == f.value) (Decides-eqb g.value f.value)
decides_told repeat.UnlikeNumber g f = Decides-not (g.value == f.value) (Decides-eqb g.value f.value)
decides_told repeat.UnlikeValues g f = Decides-not (g.value == f.value) (Decides-eqb g.value f.value)

-- f is the first one of g's number, and this is told of g
abbrev is_repeat : Repeat → List Numbered → Numbered → Numbered → Bool
is_repeat r all g f = (g.number == f.number) && (is_first all f && is_told r g f)

abbrev IsRepeat : Repeat → List Numbered → Numbered → Numbered → Type 0
IsRepeat r all g f =
    (g.number ≡ f.number)
    × (((h : Numbered) → Contains all h → (¬ (h.number ≡ f.number)) ⊎ IsNoLater f h) × IsTold r g f)

decides_repeat : (r : Repeat) (all : List Numbered) (g f : Numbered)
    → Decides (is_repeat r all g f) (IsRepeat r all g f)
decides_repeat r all g f =
    Decides-and (g.number == f.number) _ (Decides-eqb g.number f.number)
    (Decides-and (is_first all f) _ (decides_first all f) (decides_told r g f))

abbrev repeat_here : Repeat → List Numbered → Numbered → Numbered → Option Place
repeat_here r all g f = if is_repeat r all g f then Some (repeat_place r g f) else None

abbrev repeats : Repeat → List Numbered → List Place
repeats r all = over (λ g. filter_map (repeat_here r all g) all) all

repeats_has : (r : Repeat) (all : List Numbered) (Has : Numbered → Type 0)
    → ((g : Numbered) → Has g → Contains all g) → ((g : Numbered) → Contains all g → Has g)
    → (at other point : ℕ) → IsRepeated r Has at other point → IsAmong (repeats r all) at other point
repeats_has r all Has there back at other point (g, f, it, is) =
    over_has (λ g. filter_map (repeat_here r all g) all) all g _ (there g it.here)
    (kept_has (repeat_here r all g) all f _ (there f it.first.here)
    (of (is_repeat r all g f) ((decides_repeat r all g f).1 (it.same, (firsts, it.told)))))
  where
    firsts : (h : Numbered) → Contains all h → (¬ (h.number ≡ f.number)) ⊎ IsNoLater f h
    firsts h listed =
        elim (eqb_tells h.number f.number) [
          | inl (_, same) ↦ inr (it.first.least h (back h listed) same)
          | inr (_, differ) ↦ inl differ
        ]

    of : (b : Bool) → b ≡ true
        → (if b then Some (repeat_place r g f) else None) ≡ Some (record { at = at; other = other; point = point })
    of b passes = rw passes (ap Some is)

repeats_from : (r : Repeat) (all : List Numbered) (Has : Numbered → Type 0)
    → ((g : Numbered) → Has g → Contains all g) → ((g : Numbered) → Contains all g → Has g)
    → (at other point : ℕ) → IsAmong (repeats r all) at other point → IsRepeated r Has at other point
repeats_from r all Has there back at other point among =
    let (g, in_all, within) = over_from (λ g. filter_map (repeat_here r all g) all) all _ among in
    let (f, listed, is) = kept_from (repeat_here r all g) all _ within in
    of g in_all f listed (is_repeat r all g f) (decides_repeat r all g f) is
  where
    of : (g : Numbered) → Contains all g → (f : Numbered) → Contains all f → (b : Bool) → Decides b (IsRepeat r all g f)
        → (if b then Some (repeat_place r g f) else None) ≡ Some (record { at = at; other = other; point = point })
        → IsRepeated r Has at other point
    of g in_all f listed false decides is = cc
    of g in_all f listed true decides is =
        let (same, (firsts, told)) = decides.0 refl in (
          g,
          f,
          record {
            first =
                record {
                  here = back f listed;
                  least = λ h has equal. elim (firsts h (there h has)) [
                    | inl differ ↦ absurd (differ equal)
                    | inr before ↦ before
                  ];
                };
            here = back g in_all;
            same = same;
            told = told;
          },
          same_Some _ _ is,
        )

-- ---- the forms

-- those that are looked up in
abbrev known_counted : Option Known → TwoTables → List Numbered
known_counted None t = []
known_counted (Some k) t = counted (of_source k.source t) k.numbers

known_has : (known : Option Known) (t : TwoTables) (g : Numbered) → IsKnown known t g
    → Contains (known_counted known t) g
known_has None t g knows = absurd knows
known_has (Some k) t g knows = counted_has (of_source k.source t) k.numbers g knows

known_from : (known : Option Known) (t : TwoTables) (g : Numbered) → Contains (known_counted known t) g
    → IsKnown known t g
known_from None t g (x, below, same) = absurd (omega (arith, below))
known_from (Some k) t g listed = counted_from (of_source k.source t) k.numbers g listed

abbrev unknown : List Numbered → Numbered → Bool
unknown known g = not (has_number known g.number)

decides_unknown : (row : Row) (t : TwoTables) (g : Numbered)
    → Decides (unknown (known_counted row.known t) g)
    ((x : Numbered) → Knows row t x → ¬ (x.number ≡ g.number))
decides_unknown row t g =
    let not_one = Decides-not (has_number known g.number) (decides_number known g.number) in (
      λ passes x knows same. not_one.0 passes (x, known_has row.known t x knows, same),
      λ none. not_one.1
          (λ (k, listed, same). none k (known_from row.known t k listed) same),
    )
  where
    known : List Numbered
    known = known_counted row.known t

-- f is the first one of g's number, by which something is told
abbrev is_found : FoundAs → List Numbered → Numbered → Numbered → Bool
is_found w known g f = ((g.number == f.number) && is_first known f) && is_reported w g f

abbrev found_here : FoundAs → List Numbered → Numbered → Numbered → Option Place
found_here w known g f =
    if is_found w known g f then Some (found_place w g f) else None

abbrev found_places : FoundAs → List Numbered → List Numbered → List Place
found_places w known all = over (λ g. filter_map (found_here w known g) known) all

-- f is not later than each of these with its number
abbrev IsFirstOf : List Numbered → Numbered → Type 0
IsFirstOf known f = (h : Numbered) → Contains known h → (¬ (h.number ≡ f.number)) ⊎ IsNoLater f h

decides_found : (w : FoundAs) (known : List Numbered) (g f : Numbered)
    → Decides (is_found w known g f) (((g.number ≡ f.number) × IsFirstOf known f) × (is_reported w g f ≡ true))
decides_found w known g f =
    Decides-and _ (is_reported w g f)
    (Decides-and (g.number == f.number) _ (Decides-eqb g.number f.number) (decides_first known f))
    (λ passes. passes, λ holds. holds)

found_has : (w : FoundAs) (row : Row) (t : TwoTables) (at other point : ℕ)
    → IsLookedUp (lookup.Found w) row t at other point
    → IsAmong (found_places w (known_counted row.known t) (counted t row.numbers)) at other point
found_has w row t at other point (g, f, (counts, first, same), told, p, q, r) =
    over_has (λ h. filter_map (found_here w known h) known) (counted t row.numbers) g _
    (counted_has t row.numbers g counts)
    (kept_has (found_here w known g) known f _ (known_has row.known t f first.here)
    (of (is_found w known g f) ((decides_found w known g f).1 ((same, firsts), told))))
  where
    known : List Numbered
    known = known_counted row.known t

    firsts : (h : Numbered) → Contains known h → (¬ (h.number ≡ f.number)) ⊎ IsNoLater f h
    firsts h listed =
        elim (eqb_tells h.number f.number) [
          | inl (_, equal) ↦ inr (first.least h (known_from row.known t h listed) equal)
          | inr (_, differ) ↦ inl differ
        ]

    of : (b : Bool) → b ≡ true
        → (if b then Some (found_place w g f) else None)
        ≡ Some (record { at = at; other = other; point = point })
    of b passes = rw passes (ap Some (λ i. record { at = sym p i; other = sym q i; point = sym r i }))

found_from : (w : FoundAs) (row : Row) (t : TwoTables) (at other point : ℕ)
    → IsAmong (found_places w (known_counted row.known t) (counted t row.numbers)) at other point
    → IsLookedUp (lookup.Found w) row t at other point
found_from w row t at other point among =
    let found : Numbered → List Place = λ h. filter_map (found_here w known h) known in
    let (g, in_all, within) = over_from found (counted t row.numbers) _ among in
    let (f, listed, is) = kept_from (found_here w known g) known _ within in
    of g in_all f listed (is_found w known g f) (decides_found w known g f) is
  where
    known : List Numbered
    known = known_counted row.known t

    of : (g : Numbered) → Contains (counted t row.numbers) g → (f : Numbered) → Contains known f → (b : Bool)
        → Decides b (((g.number ≡ f.number) × IsFirstOf known f) × (is_reported w g f ≡ true))
        → (if b then Some (found_place w g f) else None)
        ≡ Some (record { at = at; other = other; point = point })
        → IsLookedUp (lookup.Found w) row t at other point
    of g in_all f listed false decides is = absurd cc
    of g in_all f listed true decides is =
        let ((same, firsts), told) = decides.0 refl in
        let here = same_Some _ _ is in (
          g,
          f,
          (
            counted_from t row.numbers g in_all,
            record {
              here = known_from row.known t f listed;
              least = λ h knows equal.
                  elim (firsts h (known_has row.known t h knows)) [
                    | inl differ ↦ absurd (differ equal)
                    | inr before ↦ before
                  ];
            },
            same,
          ),
          told,
          sym (ap (λ (x : Place). x.at) here),
          sym (ap (λ (x : Place). x.other) here),
          sym (ap (λ (x : Place). x.point) here),
        )

abbrev cut_place : Option Cut → List Place
cut_place None = []
cut_place (Some cut) = record { at = cut.at; other = cut.said; point = cut.end } ∷ []

abbrev looked_up : LookUp → Row → TwoTables → List Place
looked_up lookup.Nowhere row t =
    filter_map (passed (unknown (known_counted row.known t))) (counted t row.numbers)
looked_up (lookup.Found w) row t = found_places w (known_counted row.known t) (counted t row.numbers)

abbrev places : Form → Row → TwoTables → List Place
places form.Given row t = filter_map (passed (λ g. true)) (counted t row.numbers)
places (form.Repeated r) row t = repeats r (counted t row.numbers)
places (form.LookedUp l) row t = looked_up l row t
places (form.Overlap r) row t = overlaps r (counted t row.numbers)
places form.Cut row t = cut_place (first_cut row.numbers.path t.table)

always : (g : Numbered) → Decides true (Unit {0})
always g = (λ passes. tt, λ holds. refl)

looked_up_has : (l : LookUp) (row : Row) (t : TwoTables) (at other point : ℕ) → IsLookedUp l row t at other point
    → IsAmong (looked_up l row t) at other point
looked_up_has lookup.Nowhere row t at other point (counts, none) =
    passed_has (unknown (known_counted row.known t))
    (λ g. (x : Numbered) → Knows row t x → ¬ (x.number ≡ g.number)) (decides_unknown row t) (counted t row.numbers)
    at other point
    (counted_has t row.numbers _ counts) none
looked_up_has (lookup.Found w) row t at other point is = found_has w row t at other point is

looked_up_from : (l : LookUp) (row : Row) (t : TwoTables) (at other point : ℕ)
    → IsAmong (looked_up l row t) at other point → IsLookedUp l row t at other point
looked_up_from lookup.Nowhere row t at other point among =
    let (listed, none) = passed_from (unknown (known_counted row.known t))
    (λ g. (x : Numbered) → Knows row t x → ¬ (x.number ≡ g.number)) (decides_unknown row t) (counted t row.numbers)
    at other point among in
    (counted_from t row.numbers _ listed, none)
looked_up_from (lookup.Found w) row t at other point among = found_from w row t at other point among

in_form_has : (f : Form) (row : Row) (t : TwoTables) (at other point : ℕ) → InForm f row t at other point
    → IsAmong (places f row t) at other point
in_form_has form.Given row t at other point counts =
    passed_has (λ g. true) (λ g. Unit {0}) always (counted t row.numbers) at other point
    (counted_has t row.numbers _ counts) tt
in_form_has (form.Repeated r) row t at other point is =
    repeats_has r (counted t row.numbers) (Counts t row.numbers) (counted_has t row.numbers)
    (counted_from t row.numbers) at other point is
in_form_has (form.LookedUp l) row t at other point is = looked_up_has l row t at other point is
in_form_has (form.Overlap r) row t at other point is =
    overlaps_has r (counted t row.numbers) (Counts t row.numbers) (counted_has t row.numbers)
    (counted_from t row.numbers) at other point is
in_form_has form.Cut row t at other point is = rw is (first_element _ [])

in_form_from : (f : Form) (row : Row) (t : TwoTables) (at other point : ℕ) → IsAmong (places f row t) at other point
    → InForm f row t at other point
in_form_from form.Given row t at other point among =
    counted_from t row.numbers _
    (passed_from (λ g. true) (λ g. Unit {0}) always (counted t row.numbers) at other point among).0
in_form_from (form.Repeated r) row t at other point among =
    repeats_from r (counted t row.numbers) (Counts t row.numbers) (counted_has t row.numbers)
    (counted_from t row.numbers) at other point among
in_form_from (form.LookedUp l) row t at other point among = looked_up_from l row t at other point among
in_form_from (form.Overlap r) row t at other point among =
    overlaps_from r (counted t row.numbers) (Counts t row.numbers) (counted_has t row.numbers)
    (counted_from t row.numbers) at other point among
in_form_from form.Cut row t at other point among = of (first_cut row.numbers.path t.table) among
  where
    of : (o : Option Cut) → IsAmong (cut_place o) at other point
        → o ≡ Some (record { at = at; said = other; end = point })
    of None listed = absurd (no_element _ listed)
    of (Some cut) listed =
        elim (first_or_later _ _ [] listed) [
          | inl same ↦ ap Some (λ i. record { at = (same i).at; said = (same i).other; end = (same i).point })
          | inr none ↦ absurd (no_element _ none)
        ]

-- ---- rows

-- where tables break a row
abbrev places_of : TwoTables → Row → List Place
places_of t row = if list_all (guard_holds t) row.guards then places row.form row t else []

broken_has : (t : TwoTables) (row : Row) (at other point : ℕ) → IsBroken row t at other point
    → IsAmong (places_of t row) at other point
broken_has t row at other point broken = of (list_all (guard_holds t) row.guards) broken.about
  where
    of : (b : Bool) → b ≡ true → IsAmong (if b then places row.form row t else []) at other point
    of b hold = rw hold (in_form_has row.form row t at other point broken.broken)

broken_from : (t : TwoTables) (row : Row) (at other point : ℕ) → IsAmong (places_of t row) at other point
    → IsBroken row t at other point
broken_from t row at other point among = of (list_all (guard_holds t) row.guards) refl among
  where
    of : (b : Bool) → list_all (guard_holds t) row.guards ≡ b
        → IsAmong (if b then places row.form row t else []) at other point → IsBroken row t at other point
    of false is listed = absurd (no_element _ listed)
    of true is listed = record { about = is; broken = in_form_from row.form row t at other point listed }

-- where they break rows with a number
abbrev numbered_places : ℕ → TwoTables → Row → List Place
numbered_places n t row = if row.number == n then places_of t row else []

abbrev pub first_broken : ℕ → List Row → TwoTables → Option Place
first_broken n rows t = lowest (over (numbered_places n t) rows)

-- the first place at which tables break rows with a number
pub finds_broken : (n : ℕ) (rows : List Row) (t : TwoTables)
    → FindsLeast (λ at other point.
    (row : Row) × Contains rows row × ((row.number ≡ n) × IsBroken row t at other point))
    (first_broken n rows t)
finds_broken n rows t =
    least_as (first_broken n rows t)
    (λ at other point among.
    let (row, listed, within) = over_from (numbered_places n t) rows _ among in
    (row, listed, back row at other point (row.number == n) (Decides-eqb row.number n) within))
    (λ at other point (row, listed, (same, broken)).
    over_has (numbered_places n t) rows row _ listed
    (there row at other point (row.number == n) ((Decides-eqb row.number n).1 same) broken))
    (finds_lowest (over (numbered_places n t) rows))
  where
    back : (row : Row) (at other point : ℕ) (b : Bool) → Decides b (row.number ≡ n)
        → IsAmong (if b then places_of t row else []) at other point → (row.number ≡ n) × IsBroken row t at other point
    back row at other point false decides listed = absurd (no_element _ listed)
    back row at other point true decides listed = (decides.0 refl, broken_from t row at other point listed)

    there : (row : Row) (at other point : ℕ) (b : Bool) → b ≡ true → IsBroken row t at other point
        → IsAmong (if b then places_of t row else []) at other point
    there row at other point b same broken = rw same (broken_has t row at other point broken)
