-- What a table says after others, from table to table, and when another table says the same there.
use Rattle.std.proofs.Common.{◌≡◌, ℕ, Bool, true, false, cond, List, [], ◌∷◌, length, take, Option, Some, None, refl, sym, ap, ◌∙◌, subst, suc, ◌+◌, ◌<◌, ◌++◌, get_or, arith, append_assoc}
use Rattle.std.specs.Cmp.Lexicographic.{same_text}
use Rattle.std.specs.List.{AllByRecursion, find}
use Rattle.std.proofs.lemmas.Bool.{both_ways}
use Rattle.std.specs.Prelude.{not, ◌&&◌, ◌||◌, is_none, if◌then◌else◌}
use Rattle.std.proofs.lemmas.List.{append-nil}
use Rattle.std.proofs.lemmas.List.Folds.{list_any-append}
use Rattle.std.proofs.Math.Seq.{take-suc}
use Rattle.acpi_base.specs.Header.{head_of}
use Rattle.acpi_base.specs.Signature.{has_signature}
use Rattle.acpi_base.specs.TableKinds.{signature_of}
use Rattle.acpi_base.specs.declared.table_kind.TableKind.{TableKind}
use Rattle.acpi_base.proofs.Tables.Kinds.{one_kind, length-signature_of}
use Rattle.acpi_read.specs.FirstTables.{first_listed, first_table, first_signed, IsFirstOf}
use Rattle.acpi_read.specs.declared.first_tables.Listed.{Listed}
use Rattle.acpi_read.proofs.FirstsKept.{bytes_of_first}
use Rattle.acpi_read.specs.declared.first_tables.FirstTables.{FirstTables}
use Rattle.acpi_write.specs.Bodies.{kinds}
use Rattle.acpi_write.specs.Kinds.{is_among, IsKindBehind, HasFirsts}
use Rattle.acpi_write.specs.SetValues.{is_first, table_value_behind, table_value_as, values_behind, values_of}
use Rattle.acpi_write.specs.Spells.{IsTableOf}
use Rattle.acpi_write.specs.Views.{IsCompleteTable}
use Rattle.acpi_write.proofs.OldSets.FirstTables.{first_parts}
use Rattle.acpi_write.proofs.Tables.Kinds.{each_kind}

-- ---- what a table says after others

one_behind : (before : List (List ℕ)) (whole : List ℕ) (one other : Option TableKind) → IsKindBehind before whole one
    → IsKindBehind before whole other → one ≡ other
one_behind before whole None None is also = refl
one_behind before whole None (Some kind) is also =
    absurd (both_ways (is_first before whole (signature_of kind)) (is kind) also)
one_behind before whole (Some kind) None is also =
    absurd (both_ways (is_first before whole (signature_of kind)) (also kind) is)
one_behind before whole (Some one) (Some other) is also =
    ap Some (one_kind whole one other
    (first_parts (has_signature whole (signature_of one)) (is_among before (signature_of one)) is).0
    (first_parts (has_signature whole (signature_of other)) (is_among before (signature_of other)) also).0)

-- the first of the kinds that passes a test, or that none does
FoundIn : (TableKind → Bool) → List TableKind → Option TableKind → Type 0
FoundIn test ks (Some kind) = test kind ≡ true
FoundIn test ks None = AllByRecursion (λ kind. test kind ≡ false) ks

found_in : (test : TableKind → Bool) (ks : List TableKind) → FoundIn test ks (find test ks)
unfolding FoundIn
found_in test [] = tt
found_in test (k ∷ ks) = by (test k) (find test ks) refl (found_in test ks)
  where
    by : (here : Bool) (rest : Option TableKind) → test k ≡ here → FoundIn test ks rest
        → FoundIn test (k ∷ ks) (cond here (Some k) rest)
    by true rest is found = is
    by false (Some other) is found = found
    by false None is found = (is, found)

pub kind_found : (before : List (List ℕ)) (whole : List ℕ)
    → (kind : Option TableKind) × IsKindBehind before whole kind
    × (table_value_behind before whole ≡ table_value_as kind whole)
unfolding table_value_behind FoundIn
kind_found before whole = (find test kinds, behind (find test kinds) (found_in test kinds), refl)
  where
    test : TableKind → Bool
    test kind = is_first before whole (signature_of kind)

    behind : (kind : Option TableKind) → FoundIn test kinds kind → IsKindBehind before whole kind
    behind (Some kind) found = found
    behind None none = each_kind (λ kind. test kind ≡ false) none

pub says : (before : List (List ℕ)) (whole : List ℕ) (kind : Option TableKind) → IsKindBehind before whole kind
    → table_value_behind before whole ≡ table_value_as kind whole
says before whole kind is =
    let found = kind_found before whole in
    subst (λ (k : Option TableKind). table_value_behind before whole ≡ table_value_as k whole)
    (one_behind before whole found.0 kind found.1 is) found.2

-- ---- a table that is written again

-- the same signatures of four letters are among the tables
abbrev pub AmongAlike : List (List ℕ) → List (List ℕ) → Type 0
AmongAlike one other = (signature : List ℕ) → length signature ≡ 4 → is_among one signature ≡ is_among other signature

-- one table is another one with the same signature, that says the same
pub record IsRewritten (before : List (List ℕ)) (old new : List ℕ) : Type 0 where
  pub table : IsCompleteTable new
  pub signature : (s : List ℕ) → length s ≡ 4 → has_signature new s ≡ has_signature old s
  pub said : (others : List (List ℕ)) → AmongAlike others before
      → table_value_behind others new ≡ table_value_behind before old

first_letters : (bytes signature : List ℕ) → length signature ≡ 4 → has_signature bytes signature ≡ true
    → take 4 bytes ≡ signature
unfolding has_signature
first_letters bytes signature four is =
    ap (λ n. take n bytes) (sym four) ∙ sym (same_text signature (take (length signature) bytes) (sym is))

has_same : (one other : List ℕ) → take 4 one ≡ take 4 other → (s : List ℕ) → length s ≡ 4
    → has_signature one s ≡ has_signature other s
unfolding has_signature
has_same one other same s four = rw (four, same) refl

first_same : (others before : List (List ℕ)) (new old s : List ℕ) → is_among others s ≡ is_among before s
    → has_signature new s ≡ has_signature old s → is_first others new s ≡ is_first before old s
first_same others before new old s among has = rw (among, has) refl

-- a table of a kind
pub as_first : (kind : TableKind) (before : List (List ℕ)) (old new : List ℕ)
    → is_first before old (signature_of kind) ≡ true → IsTableOf (signature_of kind) (head_of old) new
    → table_value_as (Some kind) new ≡ table_value_as (Some kind) old → IsRewritten before old new
as_first kind before old new is table same =
    let signature = signature_of kind in
    let four = length-signature_of kind in
    let has = (first_parts (has_signature old signature) (is_among before signature) is).0 in
    let letters : take 4 new ≡ take 4 old = first_letters new signature four table.signed
    ∙ sym (first_letters old signature four has) in
    record {
      table = record { least = table.least; size = table.size; zero_sum = table.zero_sum };
      signature = has_same new old letters;
      said = λ others alike.
          says others new (Some kind) (first_same others before new old signature (alike signature four)
          (has_same new old letters signature four) ∙ is) ∙ same ∙ sym (says before old (Some kind) is);
    }

pub as_it_was : (before : List (List ℕ)) (old : List ℕ) → IsKindBehind before old None → IsCompleteTable old
    → IsRewritten before old old
as_it_was before old none whole =
    record {
      table = whole;
      signature = λ s four. refl;
      said = λ others alike.
          says others old None (λ kind. first_same others before old old (signature_of kind)
          (alike (signature_of kind) (length-signature_of kind)) refl ∙ none kind)
          ∙ sym (says before old None none);
    }

-- ---- the tables before it

among_more : (tables : List (List ℕ)) (whole signature : List ℕ)
    → is_among (tables ++ whole ∷ []) signature ≡ (is_among tables signature || has_signature whole signature)
among_more tables whole signature =
    list_any-append (λ t. has_signature t signature) tables (whole ∷ [])
    ∙ ap (λ b. is_among tables signature || b) (or_false (has_signature whole signature))
  where
    or_false : (b : Bool) → (b || false) ≡ b
    or_false true = refl
    or_false false = refl

pub firsts_none : (tables : List (List ℕ)) (firsts : FirstTables)
    → ((kind : TableKind) → first_table firsts kind ≡ None) → tables ≡ [] → HasFirsts tables firsts
firsts_none tables firsts none empty kind = rw (none kind, empty) refl

kept_or_not : (found : Option (List ℕ)) (whole : List ℕ) (has among : Bool) → is_none found ≡ not among
    → is_none (if has && is_none found then Some whole else found) ≡ not (among || has)
kept_or_not (Some first) whole true true same = refl
kept_or_not (Some first) whole false true same = refl
kept_or_not (Some first) whole has false same = absurd cc
kept_or_not None whole true false same = refl
kept_or_not None whole false false same = refl
kept_or_not None whole has true same = absurd cc

pub firsts_more : (tables next : List (List ℕ)) (listed : Listed) (old new : FirstTables)
    → next ≡ tables ++ listed.table ∷ [] → HasFirsts tables old
    → ((kind : TableKind) → first_listed new kind ≡ first_signed (signature_of kind) (first_listed old kind) listed)
    → HasFirsts next new
firsts_more tables next listed old new is has added kind =
    rw (
      is,
      bytes_of_first (signature_of kind) (first_listed old kind) listed (added kind),
      among_more tables listed.table (signature_of kind),
    )
    (kept_or_not (first_table old kind) listed.table (has_signature listed.table (signature_of kind))
    (is_among tables (signature_of kind)) (has kind))

pub kind_behind : (tables : List (List ℕ)) (whole : List ℕ) (firsts : FirstTables) (kind : Option TableKind)
    → HasFirsts tables firsts → IsFirstOf firsts whole kind → IsKindBehind tables whole kind
kind_behind tables whole firsts (Some kind) has (signed, none) = rw (signed, ← has kind, none) refl
kind_behind tables whole firsts None has none = λ kind. rw (← has kind) (none kind)

-- ---- what tables say

pub values_more : (before tables : List (List ℕ)) (whole : List ℕ)
    → values_behind before (tables ++ whole ∷ []) ≡ values_behind before tables ++ table_value_behind (before ++ tables)
    whole ∷ []
unfolding values_behind
values_more before [] whole = ap (λ b. table_value_behind b whole ∷ []) (sym (append-nil before))
values_more before (t ∷ ts) whole =
    ap (λ vs. table_value_behind before t ∷ vs)
    (values_more (before ++ t ∷ []) ts whole
    ∙ ap (λ b. values_behind (before ++ t ∷ []) ts ++ table_value_behind b whole ∷ [])
    (append_assoc before (t ∷ []) ts))

pub values_none : values_of [] ≡ []
unfolding values_behind
values_none = refl

pub next_take : (tables : List (List ℕ)) (k : ℕ) → k < length tables
    → take (k + 1) tables ≡ take k tables ++ get_or tables k [] ∷ []
next_take tables k below =
    let next : k + 1 ≡ suc k = omega arith in
    ap (λ n. take n tables) next ∙ take-suc tables k [] below

pub values_next : (tables : List (List ℕ)) (k : ℕ) → k < length tables
    → values_of (take (k + 1) tables) ≡ values_of (take k tables) ++ table_value_behind (take k tables)
    (get_or tables k []) ∷ []
values_next tables k below =
    ap values_of (next_take tables k below) ∙ values_more [] (take k tables) (get_or tables k [])
