-- What `clap` reads from the arguments of a command with options, a flag and values `ADDRESS=COUNT`, one after another.
use Rattle.std.proofs.Common.{◌≡◌, ◌==◌, ◌∙◌, ◌&&◌, ◌||◌, Bool, List, [], ◌∷◌, ◌++◌, Option, Some, None, true, false, cond, codes, append_assoc, append-nil, refl, ap, subst, sym, true≢false}
use Rattle.std.specs.Prelude.{find, fold, is_some, not, IfSome}
use Rattle.std.specs.List.{list_all, list_any}
use Rattle.std.specs.Str.{bytes_eq}
use Rattle.std.proofs.Math.Bool.{and-false, or-true, or-false}
use Rattle.std.proofs.lemmas.Bool.{and_parts, not-true, or_parts}
use Rattle.std.proofs.lemmas.List.Folds.{list_any-append}
use Rattle.std.proofs.lemmas.Slice.Eq.{bytes_eq-Decides}
use Rattle.clap.specs.Lexer.{long_of}
use Rattle.clap.specs.Words.{Row, Rule, Text, Shape}
use Rattle.clap.specs.Walk.{Held, Waiting, Walk, arg_by_id, at_row, arg_by_index, arg_by_long, finished, has_long, has_row, idle, more_values, nothing_held, option, positional, rows_after, settled, settled_rows, walked, with_default, with_values}
use Rattle.clap.specs.Simple.{filled, filled_from, help_rule, new_shape, with_index}
use Rattle.clap.specs.Kinds.{Kinds, or_else}
use Rattle.clap.specs.Faults.{defaults_fault, level_fault, settle_fault, turn_fault, walk_fault}
use Rattle.clap.specs.Takes.{is_given}
use Rattle.clap.specs.declared.builder.value_parser.Reading.TheVariants.{AsWritten}
use Rattle.clap.specs.declared.parser.matches.ValueSource.TheVariants.{CommandLine, DefaultValue}
use Rattle.clap.proofs.OnLiterals.{clap_on_literals}
use Rattle.acpi_arguments.specs.CommandLine.{flag_rule, inputs_rule, option_rule, option_words, options_words, strict_words}
use Rattle.acpi_arguments.proofs.CheckRows.{at_row_absent, at_row_behind, default_flag_rows, flag_rows, has_option, no_option_row, no_row_in_both, no_word_row, option_rows, options_rows, row, rows_behind, rows_of_one_more, word_rows}
use Rattle.acpi_arguments.proofs.Hyphens.{ArePlain, IsPlain}

-- ---- the arguments that a command has

-- an option as `clap` builds it
abbrev built_option : Text → Rule
built_option id = with_index 1 (filled (option_rule id))

-- the flag `--strict`
abbrev pub built_flag : Rule
built_flag = with_index 1 (filled (flag_rule (codes "strict")))

-- and `ADDRESS=COUNT`
abbrev built_inputs : Rule
built_inputs = with_index 1 (filled inputs_rule)

-- the options of such a line, the flag, if the command has it, `ADDRESS=COUNT` and the command's own `--help`
unfoldable pub rules : List (Text × Option Text) → Option Bool → List Rule
rules [] None = filled_from 1 (inputs_rule ∷ help_rule ∷ [])
rules [] (Some is_given) = filled_from 1 (flag_rule (codes "strict") ∷ inputs_rule ∷ help_rule ∷ [])
rules (choice ∷ options) flag = built_option choice.0 ∷ rules options flag

-- a command, the value in the line for each of its options, and whether `--strict` is there, if the command has it
pub record Line : Type 0 where
  pub name : Text
  pub options : List (Text × Option Text)
  pub flag : Option Bool
  pub no_inputs : has_option (codes "inputs") options ≡ false
  pub no_strict : has_option (codes "strict") options ≡ false

-- the command as `clap` builds it
unfoldable pub shape : Line → Shape
shape l = record (new_shape l.name) { rules = rules l.options l.flag; disable_help_subcommand = true; is_built = true }

-- the first rule that passes a test, if only one of all options passes
finds_option : (test : Rule → Bool) (id : Text) (options : List (Text × Option Text)) (flag : Option Bool)
    → ((other : Text) → test (built_option other) ≡ bytes_eq other id) → has_option id options ≡ true
    → find test (rules options flag) ≡ Some (built_option id)
unfolding rules
finds_option test id [] flag tells is = absurd (true≢false (sym is))
finds_option test id (choice ∷ options) flag tells is =
    go (bytes_eq choice.0 id) refl (finds_option test id options flag tells)
  where
    go : (same : Bool) → bytes_eq choice.0 id ≡ same
        → (has_option id options ≡ true → find test (rules options flag) ≡ Some (built_option id))
        → find test (rules (choice ∷ options) flag) ≡ Some (built_option id)
    go true e others =
        rw (tells choice.0, e) (ap (λ (i : Text). Some (built_option i)) ((bytes_eq-Decides choice.0 id).0 e))
    go false e others = rw (tells choice.0, e) (others (ap (λ (b : Bool). b || has_option id options) (sym e) ∙ is))

finds_inputs : (options : List (Text × Option Text)) (flag : Option Bool) → has_option (codes "inputs") options ≡ false
    → arg_by_id (rules options flag) (codes "inputs") ≡ Some built_inputs
unfolding rules
finds_inputs [] None none = refl
finds_inputs [] (Some is_given) none = refl
finds_inputs (choice ∷ options) flag none =
    let others = or_parts (bytes_eq choice.0 (codes "inputs")) (has_option (codes "inputs") options) none in
    rw others.0 (finds_inputs options flag others.1)

-- `--strict` is found by its name, if the command has it
finds_flag : (test : Rule → Bool) (options : List (Text × Option Text)) (is_given : Bool)
    → ((other : Text) → test (built_option other) ≡ bytes_eq other (codes "strict")) → test built_flag ≡ true
    → has_option (codes "strict") options ≡ false → find test (rules options (Some is_given)) ≡ Some built_flag
unfolding rules
finds_flag test [] is_given tells is none = rw is refl
finds_flag test (choice ∷ options) is_given tells is none =
    let others = or_parts (bytes_eq choice.0 (codes "strict")) (has_option (codes "strict") options) none in
    rw (tells choice.0, others.0) (finds_flag test options is_given tells is others.1)

takes_words : (options : List (Text × Option Text)) (flag : Option Bool)
    → arg_by_index (rules options flag) 1 ≡ Some built_inputs
unfolding rules
takes_words [] None = refl
takes_words [] (Some is_given) = refl
takes_words (choice ∷ options) flag = takes_words options flag

-- ---- the walk over the arguments

-- what is read so far, and whose values are being read
abbrev pub held : List Row → Option (Text × List Text) → Held
held rows pending = record { rows = rows; pending = pending; skip = 0 }

-- the walk between two arguments, before any `--`
abbrev pub standing : List Row → Option (Text × List Text) → Waiting → Walk
standing rows pending waiting =
    record { held = held rows pending; waiting = waiting; position = 1; is_trailing = false; stopped = None }

-- from here on the arguments have no fault, and give these rows
pub record Reads (l : Line) (start : Walk) (words : List Text) (rows : List Row) : Type 0 where
  pub no_fault : walk_fault (shape l) [] start words ≡ []
  pub settles : settle_fault (rules l.options l.flag) false
      (fold (walked (rules l.options l.flag) []) start words).held
      ≡ []
  pub gives : (settled (rules l.options l.flag) (fold (walked (rules l.options l.flag) []) start words).held).rows
      ≡ rows

-- what is read so far and what is pending give these rows
record Holds (l : Line) (before : List Row) (pending : Option (Text × List Text)) (rows : List Row) : Type 0 where
  pub valid : settle_fault (rules l.options l.flag) false (held before pending) ≡ []
  pub come_to : settled_rows (rules l.options l.flag) pending before ≡ rows

-- the argument has no fault, and leads on
record Steps (l : Line) (start : Walk) (word : Text) (next : Walk) : Type 0 where
  pub valid : turn_fault (shape l) [] start word ≡ []
  pub leads : walked (rules l.options l.flag) [] start word ≡ next

reads_none : (l : Line) (before rows : List Row) (pending : Option (Text × List Text)) (waiting : Waiting)
    → Holds l before pending rows
    → Reads l (standing before pending waiting) [] rows
unfolding clap_on_literals
reads_none l before rows pending waiting holds =
    record { no_fault = refl; settles = holds.valid; gives = holds.come_to }

reads_one : (l : Line) (start next : Walk) (word : Text) (words : List Text) (rows : List Row) → Steps l start word next
    → Reads l next words rows
    → Reads l start (word ∷ words) rows
unfolding shape clap_on_literals
reads_one l start next word words rows steps reads = record {
  no_fault = ap (λ (kinds : Kinds). or_else kinds
      (walk_fault (shape l) [] (walked (rules l.options l.flag) [] start word) words)) steps.valid
      ∙ ap (λ (w : Walk). walk_fault (shape l) [] w words) steps.leads
      ∙ reads.no_fault;
  settles = ap (λ (w : Walk). settle_fault (rules l.options l.flag) false
      (fold (walked (rules l.options l.flag) []) w words).held)
      steps.leads ∙ reads.settles;
  gives = ap (λ (w : Walk). (settled (rules l.options l.flag)
      (fold (walked (rules l.options l.flag) []) w words).held).rows)
      steps.leads ∙ reads.gives;
}

-- ---- options

-- an argument is `--` and this id
abbrev names_only : Option (Text × Option Text) → Text → Bool
names_only None id = false
names_only (Some met) id = bytes_eq met.0 id && not (is_some met.1)

-- one of the options has this id, and `--ID` is no other argument
abbrev pub is_option : List (Text × Option Text) → Text → Bool
is_option options id =
    has_option id options && (names_only (long_of (codes "--" ++ id)) id && not
    (bytes_eq (codes "--" ++ id) (codes "--")))

-- `--ID VALUE` gives the option `id` its value
record IsOption (options : List (Text × Option Text)) (flag : Option Bool) (id : Text) : Type 0 where
  pub by_id : arg_by_id (rules options flag) id ≡ Some (built_option id)
  pub by_long : arg_by_long (rules options flag) id ≡ Some (built_option id)
  pub long : long_of (codes "--" ++ id) ≡ Some (id, None)
  pub more : bytes_eq (codes "--" ++ id) (codes "--") ≡ false

long_is : (met : Option (Text × Option Text)) (id : Text) → names_only met id ≡ true → met ≡ Some (id, None)
long_is None id is = absurd (true≢false (sym is))
long_is (Some (name, None)) id is =
    ap (λ (n : Text). Some (n, None)) ((bytes_eq-Decides name id).0 (and_parts (bytes_eq name id) true is).0)
long_is (Some (name, Some v)) id is = absurd (true≢false (sym (and_parts (bytes_eq name id) false is).1))

option_is : (options : List (Text × Option Text)) (flag : Option Bool) (id : Text) → is_option options id ≡ true
    → IsOption options flag id
option_is options flag id is =
    let parts = and_parts (has_option id options) _ is in
    let words = and_parts (names_only (long_of (codes "--" ++ id)) id) _ parts.1 in
    record {
      by_id = finds_option (λ a. bytes_eq a.id id) id options flag (λ other. refl) parts.0;
      by_long = finds_option (λ a. not (is_some a.index) && has_long a id) id options flag
          (λ other. or-false (bytes_eq other id)) parts.0;
      long = long_is (long_of (codes "--" ++ id)) id words.0;
      more = not-true (bytes_eq (codes "--" ++ id) (codes "--")) words.1;
    }

-- the name of an option is read
to_option : (l : Line) (id : Text) (rows : List Row) (pending : Option (Text × List Text))
    → IsOption l.options l.flag id
    → settle_fault (rules l.options l.flag) false (held rows pending) ≡ []
    → Steps l (standing rows pending idle) (codes "--" ++ id)
    (standing (settled_rows (rules l.options l.flag) pending rows) (Some (id, [])) (option id))
unfolding shape clap_on_literals
to_option l id rows pending is valid = record {
  valid = rw (is.more, is.long, is.by_long, valid) refl;
  leads = rw (is.more, is.long, is.by_long) refl;
}

to_value : (l : Line) (id text : Text) (rows : List Row) → IsOption l.options l.flag id → IsPlain text
    → Steps l (standing rows (Some (id, [])) (option id)) text (standing rows (Some (id, text ∷ [])) idle)
unfolding shape clap_on_literals
to_value l id [] rows is plain = absurd (true≢false (sym plain))
to_value l id (c ∷ cs) rows is plain = record {
  valid = simp (not-true (c == 45) plain);
  leads = simp (not-true (c == 45) plain, is.by_id, (bytes_eq-Decides id id).1 refl);
}

option_behind : (l : Line) (id text : Text) (rows : List Row) → IsOption l.options l.flag id → has_row id rows ≡ false
    → Holds l rows (Some (id, text ∷ [])) (rows ++ option_rows id (Some text))
option_behind l id text rows is other = record {
  valid = rw (is.by_id, other) refl;
  come_to = rw is.by_id
      (ap (with_values id AsWritten CommandLine (text ∷ []))
      (at_row_absent id (λ _. []) [] rows other ∙ append-nil rows)
      ∙ at_row_absent id (more_values CommandLine (text ∷ [])) _ rows other);
}

-- `--ID TEXT`, if there is a text, and then the arguments after it
reads_option : (l : Line) (id : Text) (text : Option Text) (words : List Text) (before options rows : List Row)
    (pending : Option (Text × List Text)) → IsOption l.options l.flag id
    → IfSome text IsPlain → Holds l before pending options → has_row id options ≡ false
    → ((now : List Row) (waits : Option (Text × List Text)) → Holds l now waits (options ++ option_rows id text)
    → Reads l (standing now waits idle) words rows)
    → Reads l (standing before pending idle) (option_words id text ++ words) rows
reads_option l id None words before options rows pending is plain holds other reads =
    reads before pending (record { valid = holds.valid; come_to = holds.come_to ∙ sym (append-nil options) })
reads_option l id (Some text) words before options rows pending is plain holds other reads =
    reads_one l _ _ _ _ _ (to_option l id before pending is holds.valid)
    (subst (λ (r : List Row). Reads l (standing r (Some (id, [])) (option id)) (text ∷ words) rows) (sym holds.come_to)
    (reads_one l _ _ _ _ _ (to_value l id text options is plain)
    (reads options (Some (id, text ∷ [])) (option_behind l id text options is other))))

-- ---- arguments without a hyphen

-- what is expected after an argument `ADDRESS=COUNT`, and otherwise, if no option expects a value
abbrev behind : Bool → Waiting
behind true = positional
behind false = idle

-- the next argument `ADDRESS=COUNT`, which may come if what is pending has no fault
to_word : (l : Line) (text : Text) (rows : List Row) (pending : Option (Text × List Text)) (is_more : Bool)
    → IsPlain text → settle_fault (rules l.options l.flag) false (held rows pending) ≡ []
    → Steps l (standing rows pending (behind is_more)) text
    (standing (settled_rows (rules l.options l.flag) pending rows) (Some (codes "inputs", text ∷ [])) positional)
unfolding shape clap_on_literals
to_word l [] rows pending is_more plain valid = absurd (true≢false (sym plain))
to_word l (c ∷ cs) rows pending true plain valid = record {
  valid = simp (not-true (c == 45) plain, takes_words l.options l.flag, and-false, valid);
  leads = simp (not-true (c == 45) plain, takes_words l.options l.flag, and-false);
}
to_word l (c ∷ cs) rows pending false plain valid = record {
  valid = simp (not-true (c == 45) plain, takes_words l.options l.flag, and-false, valid);
  leads = simp (not-true (c == 45) plain, takes_words l.options l.flag, and-false);
}

-- an argument without a hyphen, and then the arguments after it
reads_word : (l : Line) (text : Text) (words : List Text) (before now rows : List Row)
    (pending : Option (Text × List Text)) (is_more : Bool) → IsPlain text
    → Holds l before pending now → Reads l (standing now (Some (codes "inputs", text ∷ [])) positional) words rows
    → Reads l (standing before pending (behind is_more)) (text ∷ words) rows
reads_word l text words before now rows pending is_more plain holds reads =
    reads_one l _ _ _ _ _ (to_word l text before pending is_more plain holds.valid)
    (subst (λ (r : List Row). Reads l (standing r (Some (codes "inputs", text ∷ [])) positional) words rows)
    (sym holds.come_to) reads)

one_more_word : (l : Line) (options : List Row) (read : List Text) (word : Text)
    → has_row (codes "inputs") options ≡ false
    → Holds l (options ++ word_rows read) (Some (codes "inputs", word ∷ [])) (options ++ word_rows (read ++ word ∷ []))
one_more_word l options read word other = record {
  valid = rw (finds_inputs l.options l.flag l.no_inputs) refl;
  come_to = rw (finds_inputs l.options l.flag l.no_inputs) (go read);
}
  where
    more : List Row → List Row
    more = at_row (codes "inputs") (more_values CommandLine (word ∷ [])) (row (codes "inputs") (word ∷ []) ∷ [])

    go : (read : List Text) → more (options ++ word_rows read) ≡ options ++ word_rows (read ++ word ∷ [])
    go [] = at_row_behind (codes "inputs") (more_values CommandLine (word ∷ [])) _ options [] other
    go (first ∷ read) =
        at_row_behind (codes "inputs") (more_values CommandLine (word ∷ [])) (row (codes "inputs") (word ∷ []) ∷ [])
        options (word_rows (first ∷ read)) other

-- all arguments after the first
reads_words : (l : Line) (options : List Row) (read : List Text) (word : Text) (words : List Text)
    → has_row (codes "inputs") options ≡ false → ArePlain words
    → Reads l (standing (options ++ word_rows read) (Some (codes "inputs", word ∷ [])) positional) words
    (options ++ word_rows (read ++ word ∷ words))
reads_words l options read word [] other plain = reads_none l _ _ _ positional (one_more_word l options read word other)
reads_words l options read word (next ∷ words) other plain =
    reads_word l next words (options ++ word_rows read) _ _ (Some (codes "inputs", word ∷ [])) true plain.0
    (one_more_word l options read word other)
    (subst (λ (all : List Text). Reads l
    (standing (options ++ word_rows (read ++ word ∷ [])) (Some (codes "inputs", next ∷ [])) positional) words
    (options ++ word_rows all))
    (append_assoc read (word ∷ []) (next ∷ words)) (reads_words l options (read ++ word ∷ []) next words other plain.1))

-- the arguments after the options
reads_all_words : (l : Line) (before options : List Row) (pending : Option (Text × List Text)) (words : List Text)
    → Holds l before pending options
    → has_row (codes "inputs") options ≡ false → ArePlain words
    → Reads l (standing before pending idle) words (options ++ word_rows words)
reads_all_words l before options pending [] holds other plain =
    reads_none l before _ pending idle
    (record { valid = holds.valid; come_to = holds.come_to ∙ sym (append-nil options) })
reads_all_words l before options pending (word ∷ words) holds other plain =
    reads_word l word words before options _ pending false plain.0 holds
    (subst (λ (rows : List Row). Reads l (standing rows (Some (codes "inputs", word ∷ [])) positional) words
    (options ++ word_rows (word ∷ words))) (append-nil options)
    (reads_words l options [] word words other plain.1))

-- ---- the flag

-- the flag is put after what is read
flag_behind : (l : Line) (is_given : Bool) (rows : List Row) (pending : Option (Text × List Text))
    → l.flag ≡ Some is_given → settle_fault (rules l.options l.flag) false (held rows pending) ≡ []
    → has_row (codes "strict") (settled_rows (rules l.options l.flag) pending rows) ≡ false
    → Steps l (standing rows pending idle) (codes "--strict")
    (standing (settled_rows (rules l.options l.flag) pending rows ++ flag_rows (Some true)) None idle)
unfolding shape clap_on_literals
flag_behind l is_given rows pending has valid other = record {
  valid = rw (by_long, valid, other) refl;
  leads = rw by_long (ap (λ (r : List Row). standing r None idle)
      (ap (with_values (codes "strict") AsWritten CommandLine (codes "true" ∷ []))
      (at_row_absent (codes "strict") (λ _. []) [] read other ∙ append-nil read)
      ∙ at_row_absent (codes "strict") (more_values CommandLine (codes "true" ∷ [])) _ read other));
}
  where
    read : List Row
    read = settled_rows (rules l.options l.flag) pending rows

    by_long : arg_by_long (rules l.options l.flag) (codes "strict") ≡ Some built_flag
    by_long =
        rw has (finds_flag (λ a. not (is_some a.index) && has_long a (codes "strict")) l.options is_given
        (λ other. or-false (bytes_eq other (codes "strict"))) refl l.no_strict)

-- `--strict`, if it is given
abbrev pub flag_words : Option Bool → List Text
flag_words None = []
flag_words (Some is_given) = strict_words is_given

-- the flag and the arguments after the options
reads_flag : (l : Line) (flag : Option Bool) (before options : List Row) (pending : Option (Text × List Text))
    (words : List Text)
    → l.flag ≡ flag → Holds l before pending options → has_row (codes "inputs") options ≡ false
    → has_row (codes "strict") options ≡ false → ArePlain words
    → Reads l (standing before pending idle) (flag_words flag ++ words) (options ++ (flag_rows flag ++ word_rows words))
reads_flag l None before options pending words is holds other new plain =
    reads_all_words l before options pending words holds other plain
reads_flag l (Some false) before options pending words is holds other new plain =
    reads_all_words l before options pending words holds other plain
reads_flag l (Some true) before options pending words is holds other new plain =
    reads_one l _ _ _ _ _
    (flag_behind l true before pending is holds.valid
    (ap (has_row (codes "strict")) holds.come_to ∙ new))
    (subst (λ (r : List Row). Reads l (standing (r ++ flag_rows (Some true)) None idle) words
    (options ++ (flag_rows (Some true) ++ word_rows words))) (sym holds.come_to)
    (subst (λ (all : List Row). Reads l (standing (options ++ flag_rows (Some true)) None idle) words all)
    (append_assoc options (flag_rows (Some true)) (word_rows words))
    (reads_all_words l (options ++ flag_rows (Some true)) (options ++ flag_rows (Some true)) None words
    (record { valid = refl; come_to = refl })
    (no_row_in_both (codes "inputs") options (flag_rows (Some true)) other refl) plain)))

-- ---- all arguments

-- none of the options has the id of one before it
abbrev pub are_new : List (Text × Option Text) → List (Text × Option Text) → Bool
are_new before [] = true
are_new before (choice ∷ options) = not (has_option choice.0 before) && are_new (before ++ choice ∷ []) options

-- their values begin with no hyphen
abbrev pub AllPlain : List (Text × Option Text) → Type 0
AllPlain [] = Unit {0}
AllPlain (choice ∷ options) = IfSome choice.1 IsPlain × AllPlain options

-- the options that are left, and the arguments after them
reads_rest : (l : Line) (done left : List (Text × Option Text)) (words : List Text) (before : List Row)
    (pending : Option (Text × List Text))
    → done ++ left ≡ l.options → list_all (λ choice. is_option l.options choice.0) left ≡ true
    → are_new done left ≡ true → AllPlain left → ArePlain words → Holds l before pending (options_rows done)
    → Reads l (standing before pending idle) (options_words left (flag_words l.flag ++ words))
    (options_rows l.options ++ (flag_rows l.flag ++ word_rows words))
reads_rest l done [] words before pending e are new begin plain holds =
    let come_to = holds.come_to ∙ ap options_rows (sym (append-nil done) ∙ e) in
    reads_flag l l.flag before (options_rows l.options) pending words refl
    (record { valid = holds.valid; come_to = come_to })
    (no_option_row (codes "inputs") l.options l.no_inputs) (no_option_row (codes "strict") l.options l.no_strict) plain
reads_rest l done (choice ∷ left) words before pending e are new begin plain holds =
    let first = and_parts (is_option l.options choice.0) (list_all (λ choice. is_option l.options choice.0) left) are in
    let others = and_parts (not (has_option choice.0 done)) (are_new (done ++ choice ∷ []) left) new in
    reads_option l choice.0 choice.1 (options_words left (flag_words l.flag ++ words)) before (options_rows done) _
    pending
    (option_is l.options l.flag choice.0 first.0) begin.0 holds
    (no_option_row choice.0 done (not-true (has_option choice.0 done) others.0))
    (λ now waits holds. reads_rest l (done ++ choice ∷ []) left words now waits
    (append_assoc done (choice ∷ []) left ∙ e) first.1 others.1 begin.1 plain
    (record { valid = holds.valid; come_to = holds.come_to ∙ sym (rows_of_one_more done choice) }))

-- all options and arguments of a plain line
pub reads_options : (l : Line) (words : List Text) → list_all (λ choice. is_option l.options choice.0) l.options ≡ true
    → are_new [] l.options ≡ true → AllPlain l.options → ArePlain words
    → Reads l (standing [] None idle) (options_words l.options (flag_words l.flag ++ words))
    (options_rows l.options ++ (flag_rows l.flag ++ word_rows words))
reads_options l words are new begin plain =
    reads_rest l [] l.options words [] None refl are new begin plain (record { valid = refl; come_to = refl })

-- ---- at the end of the arguments

either_way : {X : Type 0} (b : Bool) (x : X) → cond b x x ≡ x
either_way true x = refl
either_way false x = refl

-- the flag has a value if it is not given
abbrev pub flagged : Option Bool → List Row → List Row
flagged None rows = rows
flagged (Some is_given) rows = with_default rows built_flag

no_defaults : (options : List (Text × Option Text)) (flag : Option Bool) (rows : List Row)
    → fold with_default rows (rules options flag) ≡ flagged flag rows
unfolding rules
no_defaults [] None rows = simp either_way
no_defaults [] (Some is_given) rows = simp either_way
no_defaults (choice ∷ options) flag rows =
    ap (λ (r : List Row). fold with_default r (rules options flag)) (either_way (has_row choice.0 rows) rows)
    ∙ no_defaults options flag rows

no_default_fault : (options : List (Text × Option Text)) (flag : Option Bool) (rows : List Row)
    → defaults_fault rows (rules options flag) ≡ []
unfolding rules clap_on_literals
no_default_fault [] None rows = simp (or-true, either_way)
no_default_fault [] (Some is_given) rows = simp (or-true, or-false, either_way)
no_default_fault (choice ∷ options) flag rows =
    rw (or-true, either_way (has_row choice.0 rows) rows) (no_default_fault options flag rows)

none_needed : (options : List (Text × Option Text)) (flag : Option Bool) (rows : List Row)
    → list_any (λ (a : Rule). a.required && not (is_given a.id rows)) (rules options flag) ≡ false
unfolding rules
none_needed [] None rows = refl
none_needed [] (Some is_given) rows = refl
none_needed (choice ∷ options) flag rows = none_needed options flag rows

pub taken : (l : Line) (words : List Text) (rows : List Row) → Reads l (standing [] None idle) words rows
    → level_fault (shape l) [] nothing_held words false [] ≡ []
unfolding shape
taken l words rows reads =
    rw (
      reads.no_fault,
      reads.settles,
      no_default_fault l.options l.flag _,
      none_needed l.options l.flag (finished (rules l.options l.flag)
          (fold (walked (rules l.options l.flag) []) (standing [] None idle) words).held),
    ) refl

pub given : (l : Line) (words : List Text) (rows : List Row) → Reads l (standing [] None idle) words rows
    → rows_after (rules l.options l.flag) [] words ≡ flagged l.flag rows
given l words rows reads = no_defaults l.options l.flag _ ∙ ap (flagged l.flag) reads.gives

-- for a plain line these are the options, the flag, if it is given, the arguments, and otherwise the flag's value
pub all_given : (options : List (Text × Option Text)) (flag : Option Bool) (words : List Text)
    → has_option (codes "strict") options ≡ false
    → flagged flag (options_rows options ++ (flag_rows flag ++ word_rows words))
    ≡ options_rows options ++ rows_behind flag words
all_given options None words none =
    ap (λ (r : List Row). options_rows options ++ r) (sym (append-nil (word_rows words)))
all_given options (Some true) words none =
    rw (list_any-append, or-true)
    (ap (λ (r : List Row). options_rows options ++ (flag_rows (Some true) ++ r)) (sym (append-nil (word_rows words))))
all_given options (Some false) words none =
    rw other
    (at_row_absent (codes "strict") (more_values DefaultValue (codes "false" ∷ [])) (default_flag_rows (Some false))
    (options_rows options ++ word_rows words) other
    ∙ append_assoc (options_rows options) (word_rows words) (default_flag_rows (Some false)))
  where
    other : has_row (codes "strict") (options_rows options ++ word_rows words) ≡ false
    other =
        no_row_in_both (codes "strict") (options_rows options) (word_rows words)
        (no_option_row (codes "strict") options none) (no_word_row (codes "strict") words refl)
