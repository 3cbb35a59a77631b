-- What `help` and `version` print.
use Rattle.std.specs.Prelude.{◌∷◌, ℕ, List, [], Option, Some, None, if◌then◌else◌, codes}
use Rattle.std.specs.List.{flat_map}
use Rattle.std.specs.Str.{bytes_eq}
use Rattle.acpi_arguments.specs.declared.topic.Topic.{Topic}
use Rattle.acpi_arguments.specs.declared.topic.Topic.TheVariants as topic
use Rattle.acpi_arguments.specs.declared.usage.TheConstants as text

-- the topic of the command with this name
abbrev pub topic_named : List ℕ → Option Topic
topic_named name =
    if bytes_eq name (codes "check")
    then Some topic.Check
    else (if bytes_eq name (codes "lint")
    then Some topic.Lint
    else (if bytes_eq name (codes "confirm")
    then Some topic.Confirm
    else (if bytes_eq name (codes "rebuild")
    then Some topic.Rebuild
    else (if bytes_eq name (codes "show")
    then Some topic.Show
    else (if bytes_eq name (codes "find")
    then Some topic.Find
    else (if bytes_eq name (codes "help")
    then Some topic.Help
    else (if bytes_eq name (codes "version") then Some topic.Version else None)))))))

-- `help` and `version`
abbrev pub topic_alone : List ℕ → Option Topic
topic_alone command =
    if bytes_eq command (codes "help")
    then Some topic.Everything
    else (if bytes_eq command (codes "version") then Some topic.Release else None)

-- `help COMMAND`
abbrev pub topic_with_name : List ℕ → List ℕ → Option Topic
topic_with_name command name = if bytes_eq command (codes "help") then topic_named name else None

-- what the arguments ask to print, of which the first is the program's name
abbrev pub asked_topic : List (List ℕ) → Option Topic
asked_topic (program ∷ command ∷ []) = topic_alone command
asked_topic (program ∷ command ∷ name ∷ []) = topic_with_name command name
asked_topic _ = None

-- the complete text of a topic: its parts one after another
abbrev pub topic_text : Topic → List ℕ
topic_text topic.Everything = flat_map (λ part. part.now) text.EVERYTHING.now
topic_text topic.Release = flat_map (λ part. part.now) text.RELEASE.now
topic_text topic.Check = flat_map (λ part. part.now) text.CHECK.now
topic_text topic.Lint = flat_map (λ part. part.now) text.LINT.now
topic_text topic.Confirm = flat_map (λ part. part.now) text.CONFIRM.now
topic_text topic.Rebuild = flat_map (λ part. part.now) text.REBUILD.now
topic_text topic.Show = flat_map (λ part. part.now) text.SHOW.now
topic_text topic.Find = flat_map (λ part. part.now) text.FIND.now
topic_text topic.Help = flat_map (λ part. part.now) text.HELP.now
topic_text topic.Version = flat_map (λ part. part.now) text.VERSION_HELP.now
