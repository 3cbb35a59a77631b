-- What rows find, one after another, and the first findings of all.
use Rattle.std.proofs.Common.{◌≡◌, ◌≢◌, ℕ, ◌≤◌, ◌<◌, ◌+◌, ◌∙◌, ◌++◌, List, [], ◌∷◌, length, map, drop, get_or, Option, Some, None, Result, Ok, Err, Vec, Global, ap, arith, false, inl, inr, refl, sym, subst, true, true≢false}
use Rattle.std.specs.Prelude.{◌⊎◌, ◌↔◌, ◌==◌, Contains, IfOk, IfSome, OnErr, option_map}
use denote.Ref.{Bor}
use Rattle.std.proofs.lemmas.List.Elements.{Contains-get_or, Contains-append_left, Contains-append_right, Contains-append_cases}
use Rattle.std.proofs.lemmas.List.{append-nil}
use Rattle.std.proofs.lemmas.Bool.{eqb-true}
use Rattle.std.proofs.lemmas.Option.{same_Some}
use Rattle.std.proofs.Math.ListN.{drop_of_length-le}
use Rattle.std.proofs.Math.Numerals.{suc-eq-add-one}
use Rattle.std.proofs.Math.Seq.{drop-cons}
use Rattle.acpi_base.specs.Listed.{IsListedTable}
use Rattle.acpi_base.specs.Memory.{Memory}
use Rattle.acpi_base.specs.Policy.{PolicyValue}
use Rattle.acpi_base.specs.declared.table_kind.TableKind.{TableKind}
use Rattle.acpi_base.proofs.Elements.{first_element, first_or_later, later_element, no_element}
use Rattle.acpi_base.proofs.Faults.ListedTables.{of_listed}
use Rattle.acpi_rules.specs.Indexes.{IsIndexOf}
use Rattle.acpi_rules.specs.declared.index.Index.{Index}
use Rattle.acpi_rules.specs.Places.{FindsLeast, IsNotAfter}
use Rattle.acpi_rules.specs.Rows.{BorRow, row_value}
use Rattle.acpi_rules.specs.Rows as rows
use Rattle.acpi_rules.specs.Terms.{TwoTables}
use Rattle.acpi_rules.specs.declared.place.Place.{Place}
use Rattle.acpi_lint.specs.CompleteTables.{AreCompleteTables, IsFound, IsLong, row_table_of, table_of}
use Rattle.acpi_lint.specs.RowFindings.{AreBroken, AreFirsts, AreIndexes, AreTablesOf, FindsIndex, HasFound, HasTable, IsLongTable, IsLowestOf, IsUpTo, index_of_table}
use Rattle.acpi_lint.specs.FurtherTables.{row_length, row_signature}
use Rattle.acpi_lint.specs.declared.further_table.RowTable.{RowTable}
use Rattle.acpi_lint.specs.RowGroups.{BreaksRow, IsRowBroken, OfAny, OfTable, OfTables, RowGroup, row_groups}
use Rattle.acpi_lint.specs.TableLengths.{least_length}
use Rattle.acpi_lint.specs.Rules.Broken.{IsBroken, IsBrokenByHand}
use Rattle.acpi_lint.specs.Rules.Rows.{rule_number}
use Rattle.acpi_lint.specs.StageFaults.{FindsFirstAdvice}
use Rattle.acpi_lint.specs.declared.complete_tables.CompleteTables.{CompleteTables}
use Rattle.acpi_lint.specs.declared.row_findings.Found.{Found}
use Rattle.acpi_lint.specs.declared.row_findings.Indexes.{Indexes}
use Rattle.acpi_lint.specs.declared.rule.Rule.{Rule}
use Rattle.acpi_lint.proofs.CollectedNumbers.{each_ok}
use Rattle.acpi_lint.proofs.OfTables.{row_listed}
use Rattle.acpi_rules.proofs.LeastPlaces.{not_after_itself, not_after_trans}

-- ---- findings of one after another

module _ {X : Type 0} (Is : X → ℕ → ℕ → ℕ → ℕ → Type 0) where
  -- each of these is a finding of one of all, and the first of each that is not left is among these
  pub record AreFirstsBut (all left : List X) (found : List Found) : Type 0 where
    pub here : (f : Found) → Contains found f → OfAny Is all f.number f.place.at f.place.other f.place.point
    pub first : (x : X) → Contains all x → (number at other point : ℕ) → Is x number at other point
        → HasFound found number at other point ⊎ Contains left x

  pub none_yet : (all : List X) → AreFirstsBut all all []
  none_yet all =
      record {
        here = λ f listed. absurd (no_element f listed);
        first = λ x listed number at other point is. inr listed;
      }

  pub one_more : (all left : List X) (x : X) (found more : List Found) → Contains all x
      → AreFirsts (Is x) more → AreFirstsBut all (x ∷ left) found → AreFirstsBut all left (found ++ more)
  one_more all left x found more listed own before =
      record {
        here = λ f within. elim (Contains-append_cases found more f within) [
          | inl old ↦ before.here f old
          | inr new ↦ (x, listed, own.here f new)
        ];
        first = λ y in_all number at other point is.
            elim (before.first y in_all number at other point is) [
              | inl (f, has, same, order) ↦ inl (f, Contains-append_left found more f has, same, order)
              | inr rest ↦
                  elim (first_or_later x y left rest) [
                    | inl same ↦
                        let (f, has, number_is, order) =
                        own.first number at other point
                        (subst (λ (z : X). Is z number at other point) (sym same) is) in
                        inl (f, Contains-append_right found more f has, number_is, order)
                    | inr later ↦ inr later
                  ]
            ];
      }

  pub all_found : (all : List X) (found : List Found) → AreFirstsBut all [] found → AreFirsts (OfAny Is all) found
  all_found all found done =
      record {
        here = done.here;
        first = λ number at other point (x, listed, is).
            elim (done.first x listed number at other point is) [
              | inl has ↦ has
              | inr left ↦ absurd (no_element x left)
            ];
      }

-- ---- the finding of one row

pub no_finding : {P : ℕ → ℕ → ℕ → Type 0} (k : ℕ) → FindsLeast P None
    → AreFirsts (λ number at other point. (k ≡ number) × P at other point) []
no_finding k none =
    record {
      here = λ f listed. absurd (no_element f listed);
      first = λ number at other point (same, holds). absurd (none at other point holds);
    }

pub one_finding : {P : ℕ → ℕ → ℕ → Type 0} (f : Found) → FindsLeast P (Some f.place)
    → AreFirsts (λ number at other point. (f.number ≡ number) × P at other point) (f ∷ [])
one_finding {P} f least =
    record {
      here = λ g listed. elim (first_or_later f g [] listed) [
        | inl same ↦
            subst (λ (h : Found). (f.number ≡ h.number) × P h.place.at h.place.other h.place.point) same
            (refl, least.here)
        | inr none ↦ absurd (no_element g none)
      ];
      first = λ number at other point (same, holds).
          (f, first_element f [], same, least.least at other point holds);
    }

-- ---- one after another of a list

mapped : {A X : Type 0} (f : A → X) (xs : List A) (x : A) → Contains xs x → Contains (map f xs) (f x)
mapped f [] x listed = absurd (no_element x listed)
mapped {A} f (u ∷ xs) x listed =
    elim (first_or_later u x xs listed) [
      | inl same ↦ subst (λ (y : A). Contains (f u ∷ map f xs) (f y)) same (first_element (f u) (map f xs))
      | inr later ↦ later_element (f u) (f x) (map f xs) (mapped f xs x later)
    ]

-- the same if the list is what a function gives of another one, which is gone through
pub next_found : {A X : Type 0} (Is : X → ℕ → ℕ → ℕ → ℕ → Type 0) (f : A → X) (xs : List A) (i : ℕ) (d : A)
    (found more : List Found) → i < length xs → AreFirsts (Is (f (get_or xs i d))) more
    → AreFirstsBut Is (map f xs) (map f (drop i xs)) found
    → AreFirstsBut Is (map f xs) (map f (drop (i + 1) xs)) (found ++ more)
next_found {A} Is f xs i d found more within own before =
    let rest : drop i xs ≡ get_or xs i d ∷ drop (i + 1) xs =
    subst (λ (j : ℕ). drop i xs ≡ get_or xs i d ∷ drop j xs) (suc-eq-add-one i) (drop-cons xs i d within) in
    one_more Is (map f xs) (map f (drop (i + 1) xs)) (f (get_or xs i d)) found more
    (mapped f xs (get_or xs i d) (Contains-get_or xs i d within)) own
    (subst (λ (left : List A). AreFirstsBut Is (map f xs) (map f left) found) rest before)

pub all_passed : {A X : Type 0} (Is : X → ℕ → ℕ → ℕ → ℕ → Type 0) (f : A → X) (xs : List A) (i : ℕ) (found : List Found)
    → length xs ≤ i → AreFirstsBut Is (map f xs) (map f (drop i xs)) found → AreFirsts (OfAny Is (map f xs)) found
all_passed {A} Is f xs i found past before =
    all_found Is (map f xs) found
    (subst (λ (left : List A). AreFirstsBut Is (map f xs) (map f left) found) (drop_of_length-le xs past) before)

-- the rows that two tables break
module _ (t : TwoTables) (all : List BorRow) where
  pub no_row : (i : ℕ) (d : BorRow) (found : List Found) → i < length all
      → FindsLeast (rows.IsBroken (row_value (get_or all i d)) t) None
      → AreFirstsBut (BreaksRow t) (map row_value all) (map row_value (drop i all)) found
      → AreFirstsBut (BreaksRow t) (map row_value all) (map row_value (drop (i + 1) all)) found
  no_row i d found within none before =
      subst (AreFirstsBut (BreaksRow t) (map row_value all) (map row_value (drop (i + 1) all))) (append-nil found)
      (next_found (BreaksRow t) row_value all i d found [] within
      (no_finding {P = rows.IsBroken (row_value (get_or all i d)) t} (get_or all i d).0 none) before)

  pub one_row : (i : ℕ) (d : BorRow) (found : List Found) (place : Place) → i < length all
      → FindsLeast (rows.IsBroken (row_value (get_or all i d)) t) (Some place)
      → AreFirstsBut (BreaksRow t) (map row_value all) (map row_value (drop i all)) found
      → AreFirstsBut (BreaksRow t) (map row_value all) (map row_value (drop (i + 1) all))
      (found ++ record { number = (get_or all i d).0; place = place } ∷ [])
  one_row i d found place within least before =
      next_found (BreaksRow t) row_value all i d found (record { number = (get_or all i d).0; place = place } ∷ [])
      within
      (one_finding {P = rows.IsBroken (row_value (get_or all i d)) t}
      (record { number = (get_or all i d).0; place = place }) least) before

-- ---- the lowest of a place and those of the findings with a number

-- the same of all findings but those that are left
pub record IsLowestBut (one : Option Place) (found left : List Found) (number : ℕ)
    (lowest : Option Place) : Type 0 where
  pub is : (lowest ≡ one) ⊎ ((f : Found) × Contains found f × (f.number ≡ number) × (lowest ≡ Some f.place))
  pub first : (p : Place) → one ≡ Some p → IsUpTo lowest p
  pub rest : (f : Found) → Contains found f → f.number ≡ number → IsUpTo lowest f.place ⊎ Contains left f

module _ (one : Option Place) (found : List Found) (number : ℕ) where
  pub lowest_first : IsLowestBut one found found number one
  lowest_first =
      record {
        is = inl refl;
        first = λ p is. (p, is, not_after_itself p p.at p.other p.point (refl, refl, refl));
        rest = λ f listed same. inr listed;
      }

  pub lowest_kept : (left : List Found) (f : Found) (lowest : Option Place) → f.number ≢ number
      → IsLowestBut one found (f ∷ left) number lowest → IsLowestBut one found left number lowest
  lowest_kept left f lowest differs before =
      record {
        is = before.is;
        first = before.first;
        rest = λ g listed same. elim (before.rest g listed same) [
          | inl upto ↦ inl upto
          | inr within ↦
              elim (first_or_later f g left within) [
                | inl own ↦ absurd (differs (ap (λ (h : Found). h.number) own ∙ same))
                | inr later ↦ inr later
              ]
        ];
      }

  pub lowest_next : (left : List Found) (f : Found) (lowest : Option Place) (r : Place) → Contains found f
      → f.number ≡ number → (r ≡ f.place) ⊎ (lowest ≡ Some r) → IsNotAfter r f.place.at f.place.other f.place.point
      → IfSome lowest (λ l. IsNotAfter r l.at l.other l.point) → IsLowestBut one found (f ∷ left) number lowest
      → IsLowestBut one found left number (Some r)
  lowest_next left f lowest r listed same which after below before =
      record {
        is = elim which [
          | inl own ↦ inr (f, listed, same, ap Some own)
          | inr old ↦
              elim before.is [
                | inl is ↦ inl (sym old ∙ is)
                | inr (g, has, of, is) ↦ inr (g, has, of, sym old ∙ is)
              ]
        ];
        first = λ p is. lower p (before.first p is);
        rest = λ g has of. elim (before.rest g has of) [
          | inl upto ↦ inl (lower g.place upto)
          | inr within ↦
              elim (first_or_later f g left within) [
                | inl own ↦ inl (subst (λ (h : Found). IsUpTo (Some r) h.place) own (r, refl, after))
                | inr later ↦ inr later
              ]
        ];
      }
    where
      lower : (p : Place) → IsUpTo lowest p → IsUpTo (Some r) p
      lower p (s, is, order) =
          (r, refl, not_after_trans r s p.at p.other p.point (rw is at below) order)

  pub lowest_last : (lowest : Option Place) → IsLowestBut one found [] number lowest
      → IsLowestOf one found number lowest
  lowest_last lowest done =
      record {
        is = done.is;
        first = done.first;
        all = λ f listed same. elim (done.rest f listed same) [
          | inl upto ↦ upto
          | inr none ↦ absurd (no_element f none)
        ];
      }

-- the same while the list is gone through
module _ (one : Option Place) (found : List Found) (number : ℕ) (i : ℕ) where
  next_left : (d : Found) → i < length found → drop i found ≡ get_or found i d ∷ drop (i + 1) found
  next_left d within =
      subst (λ (j : ℕ). drop i found ≡ get_or found i d ∷ drop j found) (suc-eq-add-one i) (drop-cons found i d within)

  pub kept_lowest : (d : Found) (lowest : Option Place) → i < length found → (get_or found i d).number ≢ number
      → IsLowestBut one found (drop i found) number lowest → IsLowestBut one found (drop (i + 1) found) number lowest
  kept_lowest d lowest within differs before =
      lowest_kept one found number (drop (i + 1) found) (get_or found i d) lowest differs
      (subst (λ (left : List Found). IsLowestBut one found left number lowest) (next_left d within) before)

  pub next_lowest : (d : Found) (lowest : Option Place) (r : Place) → i < length found
      → (get_or found i d).number ≡ number → (r ≡ (get_or found i d).place) ⊎ (lowest ≡ Some r)
      → IsNotAfter r (get_or found i d).place.at (get_or found i d).place.other (get_or found i d).place.point
      → IfSome lowest (λ l. IsNotAfter r l.at l.other l.point)
      → IsLowestBut one found (drop i found) number lowest
      → IsLowestBut one found (drop (i + 1) found) number (Some r)
  next_lowest d lowest r within same which after below before =
      lowest_next one found number (drop (i + 1) found) (get_or found i d) lowest r (Contains-get_or found i d within)
      same which after below
      (subst (λ (left : List Found). IsLowestBut one found left number lowest) (next_left d within) before)

  pub last_lowest : (lowest : Option Place) → length found ≤ i → IsLowestBut one found (drop i found) number lowest
      → IsLowestOf one found number lowest
  last_lowest lowest past before =
      lowest_last one found number lowest
      (subst (λ (left : List Found). IsLowestBut one found left number lowest)
      (drop_of_length-le found past) before)

-- what is found of two conditions, by a place of the one and findings of the other
pub lowest_of_both : (P : ℕ → ℕ → ℕ → Type 0) (Q : ℕ → ℕ → ℕ → ℕ → Type 0) (one : Option Place) (found : List Found)
    (number : ℕ) (lowest : Option Place) → FindsLeast P one → AreFirsts Q found → IsLowestOf one found number lowest
    → FindsLeast (λ at other point. P at other point ⊎ Q number at other point) lowest
lowest_of_both P Q one found number lowest least firsts is = by lowest is.is below_one below_found
  where
    below_one : (at other point : ℕ) → P at other point → (r : Place) × (lowest ≡ Some r) × IsNotAfter r at other point
    below_one at other point holds = of one least is.first
      where
        of : (o : Option Place) → FindsLeast P o → ((p : Place) → o ≡ Some p → IsUpTo lowest p)
            → (r : Place) × (lowest ≡ Some r) × IsNotAfter r at other point
        of None none upto = absurd (none at other point holds)
        of (Some p) first upto =
            let (r, same, order) = upto p refl in
            (r, same, not_after_trans r p at other point order (first.least at other point holds))

    below_found : (at other point : ℕ) → Q number at other point
        → (r : Place) × (lowest ≡ Some r) × IsNotAfter r at other point
    below_found at other point holds =
        let (f, listed, same, order) = firsts.first number at other point holds in
        let (r, at_lowest, below) = is.all f listed same in
        (r, at_lowest, not_after_trans r f.place at other point below order)

    by : (low : Option Place)
        → (low ≡ one) ⊎ ((f : Found) × Contains found f × (f.number ≡ number) × (low ≡ Some f.place))
        → ((at other point : ℕ) → P at other point → (r : Place) × (low ≡ Some r) × IsNotAfter r at other point)
        → ((at other point : ℕ) → Q number at other point
        → (r : Place) × (low ≡ Some r) × IsNotAfter r at other point)
        → FindsLeast (λ at other point. P at other point ⊎ Q number at other point) low
    by None which of_one of_found = λ at other point holds. elim holds [
      | inl p ↦ (let (r, is, order) = of_one at other point p in absurd cc)
      | inr q ↦ (let (r, is, order) = of_found at other point q in absurd cc)
    ]
    by (Some r) which of_one of_found =
        record {
          here = elim which [
            | inl same ↦ inl (least_at r same)
            | inr (f, listed, own, same) ↦
                inr (subst (λ (p : Place). Q number p.at p.other p.point) (sym (same_Some r f.place same))
                (rw own at (firsts.here f listed)))
          ];
          least = λ at other point holds. elim holds [
            | inl p ↦ own_order at other point (of_one at other point p)
            | inr q ↦ own_order at other point (of_found at other point q)
          ];
        }
      where
        least_at : (s : Place) → Some s ≡ one → P s.at s.other s.point
        least_at s same =
            let found_there : FindsLeast P (Some s) = subst (FindsLeast P) (sym same) least in found_there.here

        own_order : (at other point : ℕ) → (s : Place) × (Some r ≡ Some s) × IsNotAfter s at other point
            → IsNotAfter r at other point
        own_order at other point (s, same, order) =
            subst (λ (p : Place). IsNotAfter p at other point) (sym (same_Some r s same)) order

-- ---- the tables of a group

pub group_broken : {X : Type 0} (tables : CompleteTables) (g : RowGroup) (result : Result (Vec Found Global) X)
    (t : TwoTables)
    → AreTablesOf tables g.table g.other t → IfOk result (λ found. AreFirsts (OfAny (BreaksRow t) g.rows) found.items)
    → IfOk result (λ found. AreFirsts (AreBroken tables g) found.items)
group_broken tables g result t are found = each_ok result (λ v firsts. of v firsts) found
  where
    one_value : (a b : List ℕ) {view : Option (List ℕ)} → view ≡ Some a → view ≡ Some b → a ≡ b
    one_value a b one two = same_Some a b (sym one ∙ two)

    one_pair : (beside : Option RowTable) (u : TwoTables) → AreTablesOf tables g.table beside t
        → AreTablesOf tables g.table beside u → u ≡ t
    one_pair None u (one, none) (two, empty) =
        let same = one_value u.table t.table two.0 one.0 in
        λ i. record { table = same i; other = (empty ∙ sym none) i }
    one_pair (Some other) u (one, also) (two, more) =
        let same = one_value u.table t.table two.0 one.0 in
        let equal = one_value u.other t.other more.0 also.0 in
        λ i. record { table = same i; other = equal i }

    of : (v : Vec Found Global) → AreFirsts (OfAny (BreaksRow t) g.rows) v.items
        → AreFirsts (AreBroken tables g) v.items
    of v firsts =
        record {
          here = λ f listed. (t, are, firsts.here f listed);
          first = λ number at other point (u, also, breaks).
              firsts.first number at other point
              (subst (λ (w : TwoTables). OfAny (BreaksRow w) g.rows number at other point)
              (one_pair g.other u are also) breaks);
        }

-- ---- the index of a table

pub index_found : {X : Type 0} (result : Result (Option Index) X) (least : ℕ) (found view : Option (List ℕ))
    (table bytes : List ℕ) → bytes ≡ table → view ≡ Some table → IsLong least found view
    → IfOk result (λ index. IfSome index (λ i. IsIndexOf i bytes)) → IfOk result (FindsIndex found)
index_found result least found view table bytes same is long right =
    each_ok result (λ index indexes whole at.
    let own : found ≡ Some table = (rw is at long).0 in
    let equal : table ≡ whole = same_Some table whole (sym own ∙ at) in
    subst (λ (b : List ℕ). IfSome index (λ i. IsIndexOf i b)) (same ∙ equal) indexes) right

-- the index is that of the table
pub indexed_right : (tables : CompleteTables) (indexes : Indexes) (k : RowTable) (index : Option (Bor Index))
    (i : Bor Index) (view : Option (List ℕ)) (table bytes : List ℕ) → AreIndexes tables indexes
    → option_map (λ j. j.now) index ≡ index_of_table indexes k → index ≡ Some i → bytes ≡ table → view ≡ Some table
    → IsLong (row_length k) (row_table_of tables k) view → IsIndexOf i.now bytes
indexed_right tables indexes k index i view table bytes are said is same seen long =
    let own : row_table_of tables k ≡ Some table = (rw seen at long).0 in
    let of_table_is : index_of_table indexes k ≡ Some i.now = sym said ∙ ap (option_map (λ j. j.now)) is in
    rw same (rw of_table_is at (are k table own))

-- ---- from the tables that were found to the set

module _ {m : Memory} (q : PolicyValue) (tables : CompleteTables) (are : AreCompleteTables m q.rsdp tables) where
  of_table : (k : RowTable) (P : List ℕ → Type 0)
      → OfTable k m q P ↔ ((whole : List ℕ) × IsLongTable tables k whole × P whole)
  of_table k P = by (row_table_of tables k) (row_listed are k)
    where
      by : (found : Option (List ℕ)) → IsFound m q.rsdp (row_signature k) found
          → OfTable k m q P
          ↔ ((whole : List ℕ) × ((found ≡ Some whole) × (row_length k ≤ length whole)) × P whole)
      by None looked =
          (λ (whole, listed, holds). absurd (looked whole listed), λ (whole, (is, size), holds). absurd cc)
      by (Some v) looked = (
        λ has.
            let (size, holds) = of_listed (λ w. (row_length k ≤ length w) × P w) looked has in
            (v, (refl, size), holds),
        λ (whole, (is, size), holds). (
          whole,
          subst (λ (w : List ℕ). IsListedTable m q.rsdp (row_signature k) w) (same_Some v whole is) looked,
          (size, holds),
        ),
      )

  of_tables : (k : RowTable) (beside : Option RowTable) (P : TwoTables → Type 0)
      → OfTables k beside m q P ↔ ((t : TwoTables) × AreTablesOf tables k beside t × P t)
  of_tables k None P =
      let own = of_table k (λ table. P (record { table = table; other = [] })) in (
        λ has.
            let (whole, long, holds) = own.0 has in (record { table = whole; other = [] }, (long, refl), holds),
        λ (t, (long, none), holds).
            own.1 (t.table, long, subst (λ (o : List ℕ). P (record { table = t.table; other = o })) none holds),
      )
  of_tables k (Some beside) P =
      let own = of_table k (λ table. OfTable beside m q (λ other. P (record { table = table; other = other }))) in
      let next = λ (table : List ℕ). of_table beside (λ other. P (record { table = table; other = other })) in (
        λ has.
            let (whole, long, more) = own.0 has in
            let (other, also, holds) = (next whole).0 more in
            (record { table = whole; other = other }, (long, also), holds),
        λ (t, (long, also), holds). own.1 (t.table, long, (next t.table).1 (t.other, also, holds)),
      )

  pub rows_of_set : (found : List Found) → AreFirsts (OfAny (AreBroken tables) row_groups) found
      → AreFirsts (λ number. IsRowBroken number m q) found
  rows_of_set found firsts =
      record {
        here = λ f listed.
            let (g, in_all, broken) = firsts.here f listed in (
              g,
              in_all,
              (of_tables g.table g.other
                  (λ t. OfAny (BreaksRow t) g.rows f.number f.place.at f.place.other f.place.point)).1 broken,
            );
        first = λ number at other point (g, in_all, broken).
            firsts.first number at other point
            (g, in_all, (of_tables g.table g.other (λ t. OfAny (BreaksRow t) g.rows number at other point)).0 broken);
      }

-- ---- the first finding of a rule

pub first_of_rule : (m : Memory) (q : PolicyValue) (tables : CompleteTables) (rule : Rule) (place : Option Place)
    (found : List Found) (lowest : Option Place) → AreCompleteTables m q.rsdp tables
    → FindsLeast (IsBrokenByHand rule m q) place → AreFirsts (OfAny (AreBroken tables) row_groups) found
    → IsLowestOf place found (rule_number rule) lowest → FindsLeast (IsBroken rule m q) lowest
first_of_rule m q tables rule place found lowest are least firsts is =
    lowest_of_both (IsBrokenByHand rule m q) (λ number. IsRowBroken number m q) place found (rule_number rule) lowest
    least (rows_of_set q tables are found firsts) is

-- as an advice
pub some_advice : (m : Memory) (q : PolicyValue) (rule : Rule) (number : ℕ) (p : Place) → rule_number rule ≡ number
    → FindsLeast (IsBroken rule m q) (Some p)
    → FindsFirstAdvice number m q (Some (record { rule = rule; at = p.at; other = p.other; point = p.point }))
some_advice m q rule number p is least = (
  is,
  record {
    broken = least.here;
    least = λ b same broken. least.least b.at b.other b.point (rw same at broken);
  },
)

-- ---- a finding is on tables that are there

pub has_table : (tables : CompleteTables) (g : RowGroup) (t : TwoTables) (other : Option RowTable)
    → AreTablesOf tables g.table other t → HasTable tables
has_table tables g t None are = (g.table, rw are.0.0 refl)
has_table tables g t (Some k) are = (g.table, rw are.0.0 refl)

pub found_has_table : (tables : CompleteTables) (g : RowGroup) (more : List Found)
    → AreFirsts (AreBroken tables g) more → false ≡ (length more == 0) → HasTable tables
found_has_table tables g [] firsts some = absurd (true≢false (sym some))
found_has_table tables g (f ∷ more) firsts some =
    let (t, are, breaks) = firsts.here f (first_element f more) in has_table tables g t g.other are

pub none_more : (found more : List Found) → true ≡ (length more == 0) → found ++ more ≡ found
none_more found [] none = append-nil found
none_more found (f ∷ more) none = absurd (omega (arith, eqb-true (length (f ∷ more)) 0 (sym none)))

pub on_err : {A E : Type 0} {P : Type 0} (r : Result A E) → P → OnErr r P
on_err (Ok a) holds = tt
on_err (Err e) holds = holds
