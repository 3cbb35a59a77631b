-- One verdict on one image, what a search finds, and what is known if memory runs out.
use Rattle.std.proofs.Common.{◌≡◌, inl, inr, ℕ, ◌∙◌, List, [], ◌∷◌, Option, Some, None, Result, Ok, sym, subst, ap, refl}
use Rattle.std.specs.Prelude.{◌↔◌, Bool, IfSome, IsNone, IsTrue}
use Rattle.std.specs.FinMap.{empty}
use Rattle.std.specs.Option.{option_or}
use Rattle.acpi_base.specs.Codes.{code_number, stage_number}
use Rattle.acpi_base.specs.Faults.{Fault, IsVerdict}
use Rattle.acpi_lint.specs.Rules.Findings.{AreFindings}
use Rattle.acpi_base.specs.Image.Adding.{add_refusal}
use Rattle.acpi_base.specs.Memory.{Memory, with_bytes}
use Rattle.acpi_base.specs.Policy.{PolicyValue}
use Rattle.acpi_base.specs.RsdpSearch.{IsFound, IsNowhere}
use Rattle.acpi_base.specs.Text.ImageText.{IsText, Reading}
use Rattle.acpi_base.specs.Text.TextMemory.{MayRunOut}
use Rattle.acpi_base.proofs.Faults.Laws.{one_verdict}
use Rattle.acpi_base.proofs.Faults.Numbers.{same_stage}
use Rattle.acpi_base.specs.declared.code.Code.{Code}
use Rattle.acpi_base.specs.declared.image.ImageFault.{ImageFault}
use Rattle.acpi_lint.specs.declared.rule.Advice.{Advice}
use Rattle.acpi_base.specs.declared.stage.Stage.{Stage}
use Rattle.acpi_base.specs.declared.verdict.Verdict.{Verdict}
use Rattle.acpi_base.specs.declared.witness.Witness.{Witness}
use Rattle.acpi_c.specs.Laws.{OneAnswer}
use Rattle.acpi_c.specs.Pieces.{FirstFits, unless_refused, with_pieces}
use Rattle.acpi_c.specs.Results.{Asks, Finds, IsRefusal, Judges, Reports, Tells}
use Rattle.acpi_c.specs.Settings.{policy_of, with_inputs}
use Rattle.acpi_c.specs.Sources.{Source}
use Rattle.acpi_c.specs.declared.answer.Finding.{Finding}
use Rattle.acpi_c.specs.declared.pieces.Piece.{Piece}
use Rattle.acpi_c.specs.declared.refusal.Refusal.{Refusal}
use Rattle.acpi_c.specs.declared.refusal.Refusal.TheVariants.{OutOfMemory}
use Rattle.acpi_c.specs.declared.settings.Inputs.{Inputs}
use Rattle.acpi_c.specs.declared.settings.Settings.{Settings}

pub finds : (source : Source) (m : Memory) (found : Option ℕ) → source.Is m → IfSome found (IsFound m)
    → (IsNone found → IsNowhere m) → Finds source (Ok found)
finds source m None is some none = (m, is, none refl)
finds source m (Some p) is some none = (m, is, some)

-- ---- a verdict on what was passed

pub asks : (source : Source) (settings : Settings) (inputs : List Inputs) (m : Memory) (tested q : PolicyValue)
    → source.Is m → policy_of settings inputs ≡ Ok (with_inputs tested inputs) → q ≡ with_inputs tested inputs
    → Asks source settings inputs m q
asks source settings inputs m tested q is policy given =
    record { image = is; policy = policy ∙ ap (λ p. Ok p) (sym given) }

pub judges : (source : Source) (settings : Settings) (inputs : List Inputs) (m : Memory) (q : PolicyValue)
    (last : Stage) (v : Verdict) → Asks source settings inputs m q → stage_number last ≡ settings.through
    → IsVerdict last m q v → Judges source settings inputs v
judges source settings inputs m q last v asked through verdict =
    record { image = m; policy = q; asked = asked; last = last; through = through; verdict = verdict }

pub tells : (source : Source) (settings : Settings) (inputs : List Inputs) (f : Finding) (m : Memory) (q : PolicyValue)
    (code : Code) (b : Bool) → Asks source settings inputs m q → code_number code ≡ f.number
    → IsTrue b ↔ Fault m q (record { code = code; at = f.at; other = f.other; point = f.point })
    → Tells source settings inputs f b
tells source settings inputs f m q code b asked number fault =
    record { image = m; policy = q; asked = asked; code = code; number = number; fault = fault }

pub reports : (source : Source) (settings : Settings) (inputs : List Inputs) (m : Memory) (q : PolicyValue)
    (faults : List Witness) (advice : List Advice) → Asks source settings inputs m q → AreFindings m q faults advice
    → Reports source settings inputs (faults, advice)
reports source settings inputs m q faults advice asked found =
    record { image = m; policy = q; asked = asked; findings = found }

-- ---- memory that runs out

pub pieces_begin : (pieces : List Piece) (m : Memory) → with_pieces 0 empty pieces ≡ Ok m → FirstFits pieces
pieces_begin [] m e = tt
pieces_begin (p ∷ rest) m e = go (add_refusal empty p.address p.bytes.now) e
  where
    go : (o : Option ImageFault)
        → unless_refused o 0 (with_pieces 1 (with_bytes empty p.address p.bytes.now) rest) ≡ Ok m → o ≡ None
    go None h = refl
    go (Some fault) h = absurd (cc)

pub text_faultless : (bytes : List ℕ) (m : Memory) → IsText bytes m → MayRunOut bytes
text_faultless bytes m is = inr (is.0, is.1)

pub runs_out : (numbers : Option Refusal) (source : Source) (r : Refusal) → numbers ≡ None → source.MayRunOut
    → r ≡ OutOfMemory → IsRefusal numbers source r
runs_out numbers source r none may out = inr (none, inl (out, may))

pub neither : (one other : Option Refusal) → one ≡ None → other ≡ None → option_or one other ≡ None
neither one other e f = rw e f

-- ---- one verdict

ok_same : {A E : Type 0} (x y : A) → ◌≡◌ {A = Result A E} (Ok x) (Ok y) → x ≡ y
ok_same x y e = cc

text_image : (text : List ℕ) (m n : Memory) → IsText text m → IsText text n → m ≡ n
text_image text m n one other =
    let same : one.0 ≡ other.0 = ok_same one.0 other.0 (sym one.1 ∙ other.1) in
    sym one.2 ∙ ap (λ (r : Reading). r.image) same ∙ other.2

pub one_answer : OneAnswer
one_answer pieces text m settings inputs v w made is one other =
    let image : one.image ≡ m = ok_same one.image m (sym one.asked.image ∙ made) in
    let same : other.image ≡ one.image = text_image text other.image m other.asked.image is ∙ sym image in
    let policy : other.policy ≡ one.policy =
    ok_same other.policy one.policy (sym other.asked.policy ∙ one.asked.policy) in
    let last : other.last ≡ one.last = same_stage other.last one.last (other.through ∙ sym one.through) in
    one_verdict one.last one.image one.policy v w one.verdict
    (subst (λ s. IsVerdict s one.image one.policy w) last
    (subst (λ q. IsVerdict other.last one.image q w) policy
    (subst (λ n. IsVerdict other.last n other.policy w) same other.verdict)))
