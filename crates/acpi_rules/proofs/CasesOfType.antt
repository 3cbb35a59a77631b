-- Cases for structures of other types give nothing.
use Rattle.std.proofs.Common.{◌≡◌, ◌∙◌, ℕ, zero, suc, ◌+◌, ◌-◌, ◌<◌, ◌≤◌, List, [], ◌∷◌, length, map, take, drop, get_or, Option, None, Bool, true, false, refl, sym, ap, subst, arith}
use Rattle.std.specs.Prelude.{◌==◌, Contains}
use Rattle.std.specs.List.{cons_option, filter_map}
use Rattle.std.specs.Option.{option_or}
use Rattle.std.proofs.lemmas.Bool.{and_parts, eqb-true}
use Rattle.std.proofs.Math.Numerals.{suc-eq-add-one}
use Rattle.std.proofs.Math.Seq.{drop-cons}
use Rattle.acpi_base.proofs.Elements.{element_of_map, first_element, later_element}
use Rattle.acpi_rules.specs.Cases.{BorCase, Case, GiveSame, case_value, gives, has_type, in_case, is_kind}
use Rattle.acpi_rules.specs.Indexes.{typed_site}
use Rattle.acpi_rules.specs.Sites.{SiteValue}
use Rattle.acpi_rules.specs.Terms.{TwoTables}
use Rattle.acpi_rules.specs.Walks.{Placed}
use Rattle.acpi_rules.specs.declared.case.Kind.{Kind}
use Rattle.acpi_rules.specs.declared.index.Listed.{Listed}
use Rattle.acpi_rules.specs.declared.numbered.Numbered.{Numbered}

-- a structure of a kind has one of its types
kind_typed : (kind : Kind) (s : SiteValue) → is_kind kind s ≡ true → has_type kind s.kind ≡ true
unfolding is_kind
kind_typed kind s is = (and_parts (has_type kind s.kind) _ is).0

-- one of another type gives nothing in a case
pub other_type : (t : TwoTables) (s : SiteValue) (case : Case) → has_type case.kind s.kind ≡ false
    → in_case t s case ≡ None
unfolding in_case
other_type t s case other = go (is_kind case.kind s) refl
  where
    go : (b : Bool) → is_kind case.kind s ≡ b → in_case t s case ≡ None
    go true is = (let no : true ≡ false = sym (kind_typed case.kind s is) ∙ other in absurd cc)
    go false is = rw is refl

-- without the first of these they give the same
skip_one : (kind : ℕ) (case : Case) (cases : List Case) → has_type case.kind kind ≡ false
    → GiveSame kind cases (case ∷ cases)
unfolding gives
skip_one kind case cases other t s same =
    rw (other_type t s case (ap (has_type case.kind) same ∙ other)) refl

pub skip_first : (kind i : ℕ) (cases : List BorCase) (d : BorCase) → i < length cases
    → false ≡ has_type (get_or cases i d).0 kind
    → GiveSame kind (map case_value (drop (i + 1) cases)) (map case_value (drop i cases))
skip_first kind i cases d less other =
    let rest : drop i cases ≡ get_or cases i d ∷ drop (i + 1) cases =
    drop-cons cases i d less ∙ ap (λ (k : ℕ). get_or cases i d ∷ drop k cases) (suc-eq-add-one i) in
    let others = map case_value (drop (i + 1) cases) in
    subst (λ (left : List BorCase). GiveSame kind others (map case_value left)) (sym rest)
    (skip_one kind (case_value (get_or cases i d)) (map case_value (drop (i + 1) cases)) (sym other))

-- without the last of these they give the same
skip_last_from : (kind m : ℕ) (cases : List BorCase) (d : BorCase) → m < length cases
    → has_type (get_or cases m d).0 kind ≡ false
    → GiveSame kind (map case_value (take m cases)) (map case_value (take (suc m) cases))
unfolding gives
skip_last_from kind m [] d less other = absurd (omega (arith, less))
skip_last_from kind zero (case ∷ cases) d less other = skip_one kind (case_value case) [] other
skip_last_from kind (suc m) (case ∷ cases) d less other = λ t s same.
    ap (λ (rest : Option Numbered). option_or (in_case t s (case_value case)) rest)
    (skip_last_from kind m cases d (omega (arith, less)) other t s same)

pub skip_last : (kind count : ℕ) (cases : List BorCase) (d : BorCase) → 0 < count → count ≤ length cases
    → false ≡ has_type (get_or cases (count - 1) d).0 kind
    → GiveSame kind (map case_value (take (count - 1) cases)) (map case_value (take count cases))
skip_last kind zero cases d some within other = absurd (omega (arith, some))
skip_last kind (suc m) cases d some within other =
    let less : suc m - 1 ≡ m = omega arith in
    let last = ap (λ k. has_type (get_or cases k d).0 kind) (sym less) ∙ sym other in
    rw less (skip_last_from kind m cases d (omega (arith, within)) last)

pub same_after : (kind : ℕ) (some more all : List Case) → GiveSame kind some more → GiveSame kind more all
    → GiveSame kind some all
same_after kind some more all first second t s is = first t s is ∙ second t s is

-- no cases give nothing, and cases that give the same for a type give the same of all its structures
pub none_given : (t : TwoTables) (sites : List SiteValue) → filter_map (gives t []) sites ≡ []
unfolding gives
none_given t [] = refl
none_given t (s ∷ sites) = none_given t sites

pub same_given : (t : TwoTables) (kind : ℕ) (some all : List Case) (sites : List SiteValue) → GiveSame kind some all
    → ((s : SiteValue) → Contains sites s → s.kind ≡ kind)
    → filter_map (gives t some) sites ≡ filter_map (gives t all) sites
same_given t kind some all [] same typed = refl
same_given t kind some all (s ∷ sites) same typed =
    rw (same t s (typed s (first_element s sites)))
    (ap (cons_option (gives t all s))
    (same_given t kind some all sites same (λ u listed. typed u (later_element s u sites listed))))

pub typed_kind : (whole : Placed) (kind : ℕ) (listed : List Listed) (s : SiteValue)
    → Contains (map (typed_site whole kind) listed) s → s.kind ≡ kind
typed_kind whole kind listed s has =
    let (l, among, is) = element_of_map (typed_site whole kind) listed s has in
    ap (λ (x : SiteValue). x.kind) (sym is)

pub nothing_given : (t : TwoTables) (kind : ℕ) (some : List BorCase) (all : List Case) (sites : List SiteValue)
    → true ≡ (length some == 0) → GiveSame kind (map case_value some) all
    → ((s : SiteValue) → Contains sites s → s.kind ≡ kind) → [] ≡ filter_map (gives t all) sites
nothing_given t kind [] all sites none same typed = sym (none_given t sites) ∙ same_given t kind [] all sites same typed
nothing_given t kind (case ∷ some) all sites none same typed =
    absurd (omega (arith, eqb-true (length (case ∷ some)) 0 (sym none)))
