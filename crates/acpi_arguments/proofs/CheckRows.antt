-- The rows in which `clap` returns the arguments of `check`, and which row has each argument.
use Rattle.std.proofs.Common.{◌≡◌, ◌∙◌, ◌++◌, ◌&&◌, Bool, List, [], ◌∷◌, Option, Some, None, true, false, cond, codes, append_assoc, append-nil, refl, ap, sym, unwrap_or}
use Rattle.std.specs.Prelude.{find, not}
use Rattle.std.specs.List.{list_any}
use Rattle.std.specs.Str.{bytes_eq}
use Rattle.std.proofs.lemmas.Bool.{and_parts, not-true, or_parts}
use Rattle.std.proofs.lemmas.List.Folds.{find-append, list_any-append}
use Rattle.std.proofs.lemmas.Slice.Eq.{bytes_eq-Decides}
use Rattle.clap.specs.Words.{Row, Text, all_of, first_of}
use Rattle.acpi_arguments.specs.CommandLine.{is_set}
use Rattle.clap.specs.Walk.{at_row, has_row}
use Rattle.clap.specs.declared.builder.value_parser.Reading.TheVariants.{AsWritten}
use Rattle.clap.specs.declared.parser.matches.ValueSource.TheVariants.{CommandLine, DefaultValue}

-- what was read of one argument
abbrev pub row : Text → List Text → Row
row id values = record { id = id; values = values; count = None; source = Some CommandLine; reading = AsWritten }

-- what was read of an option, if it has a value
abbrev pub option_rows : Text → Option Text → List Row
option_rows id None = []
option_rows id (Some value) = row id (value ∷ []) ∷ []

-- what was read of the arguments `ADDRESS=COUNT`
abbrev pub word_rows : List Text → List Row
word_rows [] = []
word_rows (word ∷ words) = row (codes "inputs") (word ∷ words) ∷ []

-- what was read of `--strict`, if the command has this flag: that it is given
abbrev pub flag_rows : Option Bool → List Row
flag_rows None = []
flag_rows (Some false) = []
flag_rows (Some true) = row (codes "strict") (codes "true" ∷ []) ∷ []

-- or otherwise the value that it then has
abbrev pub default_flag_rows : Option Bool → List Row
default_flag_rows None = []
default_flag_rows (Some true) = []
default_flag_rows (Some false) =
    record (row (codes "strict") (codes "false" ∷ [])) { source = Some DefaultValue } ∷ []

-- everything that was read after the options
abbrev pub rows_behind : Option Bool → List Text → List Row
rows_behind flag words = flag_rows flag ++ word_rows words ++ default_flag_rows flag

-- what was read of several options, each an id and a value
abbrev pub options_rows : List (Text × Option Text) → List Row
options_rows [] = []
options_rows (choice ∷ options) = option_rows choice.0 choice.1 ++ options_rows options

-- one of them has this id
abbrev pub has_option : Text → List (Text × Option Text) → Bool
has_option id options = list_any (λ choice. bytes_eq choice.0 id) options

-- ---- rows with an id

pub at_row_behind : (id : Text) (change : Row → List Row) (missing rows behind : List Row) → has_row id rows ≡ false
    → at_row id change missing (rows ++ behind) ≡ rows ++ at_row id change missing behind
at_row_behind id change missing [] behind e = refl
at_row_behind id change missing (r ∷ rs) behind e =
    let others = or_parts (bytes_eq r.id id) (has_row id rs) e in
    rw others.0 (ap (λ (rows : List Row). r ∷ rows) (at_row_behind id change missing rs behind others.1))

pub at_row_absent : (id : Text) (change : Row → List Row) (missing rows : List Row) → has_row id rows ≡ false
    → at_row id change missing rows ≡ rows ++ missing
at_row_absent id change missing rows e =
    ap (at_row id change missing) (sym (append-nil rows)) ∙ at_row_behind id change missing rows [] e

pub rows_of_one_more : (options : List (Text × Option Text)) (choice : Text × Option Text)
    → options_rows (options ++ choice ∷ []) ≡ options_rows options ++ option_rows choice.0 choice.1
rows_of_one_more [] choice = append-nil (option_rows choice.0 choice.1)
rows_of_one_more (first ∷ options) choice =
    ap (λ (rows : List Row). option_rows first.0 first.1 ++ rows) (rows_of_one_more options choice)
    ∙ sym (append_assoc (option_rows first.0 first.1) (options_rows options) (option_rows choice.0 choice.1))

no_other_row : (id other : Text) (value : Option Text) → bytes_eq other id ≡ false
    → has_row id (option_rows other value) ≡ false
no_other_row id other None e = refl
no_other_row id other (Some value) e = rw e refl

pub no_row_in_both : (id : Text) (rows behind : List Row) → has_row id rows ≡ false → has_row id behind ≡ false
    → has_row id (rows ++ behind) ≡ false
no_row_in_both id rows behind e f = rw (list_any-append, e, f) refl

pub no_option_row : (id : Text) (options : List (Text × Option Text)) → has_option id options ≡ false
    → has_row id (options_rows options) ≡ false
no_option_row id [] e = refl
no_option_row id (choice ∷ options) e =
    let others = or_parts (bytes_eq choice.0 id) (has_option id options) e in
    no_row_in_both id (option_rows choice.0 choice.1) (options_rows options)
    (no_other_row id choice.0 choice.1 others.0) (no_option_row id options others.1)

pub no_word_row : (id : Text) (words : List Text) → bytes_eq (codes "inputs") id ≡ false
    → has_row id (word_rows words) ≡ false
no_word_row id [] e = refl
no_word_row id (word ∷ words) e = rw e refl

pub no_row_behind : (id : Text) (flag : Option Bool) (words : List Text) → bytes_eq (codes "inputs") id ≡ false
    → bytes_eq (codes "strict") id ≡ false → has_row id (rows_behind flag words) ≡ false
no_row_behind id None words e other = no_row_in_both id (word_rows words) [] (no_word_row id words e) refl
no_row_behind id (Some true) words e other =
    rw other (no_row_in_both id (word_rows words) [] (no_word_row id words e) refl)
no_row_behind id (Some false) words e other =
    no_row_in_both id (word_rows words) (default_flag_rows (Some false)) (no_word_row id words e) (rw other refl)

-- ---- which row has each argument

-- no two of the options have one id
abbrev pub are_distinct : List (Text × Option Text) → Bool
are_distinct [] = true
are_distinct (choice ∷ options) = not (has_option choice.0 options) && are_distinct options

-- the value of the option with this id
abbrev pub value_of : Text → List (Text × Option Text) → Option Text
value_of id [] = None
value_of id (choice ∷ options) = cond (bytes_eq choice.0 id) choice.1 (value_of id options)

finds_none : (id : Text) (rows : List Row) → has_row id rows ≡ false → find (λ (r : Row). bytes_eq r.id id) rows ≡ None
finds_none id [] e = refl
finds_none id (r ∷ rs) e =
    let others = or_parts (bytes_eq r.id id) (has_row id rs) e in
    rw others.0 (finds_none id rs others.1)

pub option_is_found : (id : Text) (options : List (Text × Option Text)) (behind : List Row)
    → are_distinct options ≡ true → has_row id behind ≡ false
    → first_of id (options_rows options ++ behind) ≡ value_of id options
option_is_found id [] behind distinct other = rw (finds_none id behind other) refl
option_is_found id (choice ∷ options) behind distinct other =
    go (bytes_eq choice.0 id) refl choice.1 (option_is_found id options behind parts.1 other)
  where
    parts : (not (has_option choice.0 options) ≡ true) × (are_distinct options ≡ true)
    parts = and_parts (not (has_option choice.0 options)) (are_distinct options) distinct

    none_behind : bytes_eq choice.0 id ≡ true → has_row id (options_rows options ++ behind) ≡ false
    none_behind is =
        let same : choice.0 ≡ id = (bytes_eq-Decides choice.0 id).0 is in
        no_row_in_both id (options_rows options) behind
        (no_option_row id options (ap (λ (i : Text). has_option i options) (sym same) ∙ not-true _ parts.0)) other

    go : (is : Bool) → bytes_eq choice.0 id ≡ is → (value : Option Text)
        → first_of id (options_rows options ++ behind) ≡ value_of id options
        → first_of id (option_rows choice.0 value ++ options_rows options ++ behind) ≡ cond is value
        (value_of id options)
    go true is None found = rw (finds_none id (options_rows options ++ behind) (none_behind is)) refl
    go true is (Some value) found = rw is refl
    go false is None found = found
    go false is (Some value) found = rw is found

pub words_are_found : (options : List (Text × Option Text)) (flag : Option Bool) (words : List Text)
    → has_option (codes "inputs") options ≡ false
    → unwrap_or (all_of (codes "inputs") (options_rows options ++ rows_behind flag words)) [] ≡ words
words_are_found options flag words e =
    rw (find-append, finds_none (codes "inputs") (options_rows options) (no_option_row (codes "inputs") options e))
    (go flag words)
  where
    go : (flag : Option Bool) (words : List Text)
        → unwrap_or (all_of (codes "inputs") (rows_behind flag words)) [] ≡ words
    go None [] = refl
    go None (word ∷ words) = refl
    go (Some true) [] = refl
    go (Some true) (word ∷ words) = refl
    go (Some false) [] = refl
    go (Some false) (word ∷ words) = refl

pub flag_is_found : (options : List (Text × Option Text)) (is_given : Bool) (words : List Text)
    → has_option (codes "strict") options ≡ false
    → is_set (first_of (codes "strict") (options_rows options ++ rows_behind (Some is_given) words)) ≡ is_given
flag_is_found options is_given words e =
    rw (find-append, finds_none (codes "strict") (options_rows options) (no_option_row (codes "strict") options e))
    (go is_given words)
  where
    go : (is_given : Bool) (words : List Text)
        → is_set (first_of (codes "strict") (rows_behind (Some is_given) words)) ≡ is_given
    go true words = refl
    go false [] = refl
    go false (word ∷ words) = refl
