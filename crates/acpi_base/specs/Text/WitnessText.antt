-- A fault and a verdict as text, in ASCII.
use Rattle.std.specs.Prelude.{◌≡◌, ℕ, Bool, not, ◌==◌, List, ◌∷◌, ◌++◌, codes, decimal, true, false}
use Rattle.std.specs.List.{list_all}
use Rattle.std.specs.Fmt.{digits}
use Rattle.acpi_base.specs.Codes.{stage_number, code_name, stage_of}
use Rattle.acpi_base.specs.declared.code.Code.{Code}
use Rattle.acpi_base.specs.declared.witness.Witness.{Witness}
use Rattle.acpi_base.specs.declared.verdict.Verdict.{Verdict}
use Rattle.acpi_base.specs.declared.verdict.Verdict.TheVariants.{Yes, No}

-- a number in lower case hex without leading zeros, as 0x0 and 0x1f
unfoldable pub hex_text : ℕ → List ℕ
hex_text n = codes "0x" ++ digits 16 false n

-- the stage in decimal, the code's name, and the three numbers, separated by single blanks
unfoldable pub witness_line : Witness → List ℕ
witness_line w =
    decimal (stage_number (stage_of w.code)) ++ codes " " ++ code_name w.code
    ++ codes " " ++ hex_text w.at ++ codes " " ++ hex_text w.other ++ codes " " ++ hex_text w.point

-- `yes`, or `no` and the fault, and the line's end
abbrev pub verdict_line : Verdict → List ℕ
verdict_line Yes = codes "yes\n"
verdict_line (No w) = codes "no " ++ witness_line w ++ codes "\n"

-- ---- the parts of a fault's text

-- words are between blanks
abbrev pub is_no_blank : ℕ → Bool
is_no_blank b = not (b == 32)

-- these are the words of a text: it has them with one blank between two, and only the last may have a blank
pub record AreWords (text stage name at other point : List ℕ) : Type 0 where
  pub stage_whole : list_all is_no_blank stage ≡ true
  pub name_whole : list_all is_no_blank name ≡ true
  pub at_whole : list_all is_no_blank at ≡ true
  pub other_whole : list_all is_no_blank other ≡ true
  pub joined : text ≡ stage ++ (32 ∷ (name ++ (32 ∷ (at ++ (32 ∷ (other ++ (32 ∷ point)))))))

-- the first two words of a fault with this code
pub record IsHead (stage name : List ℕ) (c : Code) : Type 0 where
  pub number : stage ≡ decimal (stage_number (stage_of c))
  pub named : name ≡ code_name c
