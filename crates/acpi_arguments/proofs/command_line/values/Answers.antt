use Rattle.std.proofs.Common.{◌≡◌, ◌∙◌, List, [], Option, Some, None, Bor, map, option_map, unwrap_or, ap}
use Rattle.std.specs.Option.{UnwrapsOrElse}
use Rattle.clap.specs.Words.{Text, found_of}
use Rattle.clap.proofs.WalkLemmas.{raw_values-rows}
use Rattle.acpi_arguments.proofs.command_line.values.Goals as goal

-- an argument that was not given has no values
given_or_none : (given : Option (Bor (List (Bor Text)))) (is_default : Bor (List (Bor Text)) → Type 0)
    (returned : Bor (List (Bor Text)))
    → ((none : Bor (List (Bor Text))) → is_default none → none.now ≡ []) → UnwrapsOrElse given is_default returned
    → map (λ text. text.now) returned.now ≡ unwrap_or (option_map (λ values. map (λ text. text.now) values.now) given)
    []
given_or_none None is_default returned empty is = ap (map (λ (text : Bor Text). text.now)) (empty returned is)
given_or_none (Some values) is_default returned empty is =
    ap (λ (s : Bor (List (Bor Text))). map (λ (text : Bor Text). text.now) s.now) is

pub returns : goal.returns
returns c =
    given_or_none c.get_raw.result _ c.unwrap_or_default.result (λ none is. is) c.unwrap_or_default.ensures
    ∙ ap (λ given. unwrap_or given []) (c.get_raw.ensures ∙ raw_values-rows (found_of c.args.options.now) c.args.id.now)
