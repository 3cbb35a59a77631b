-- The ECAMs of an MCFG.
use Rattle.std.proofs.Common.{◌≡◌, ℕ, List}
use Rattle.std.specs.Prelude.{◌↔◌, Contains, map}
use Rattle.std.specs.List.{filter_map}
use Rattle.acpi_rules.specs.Cases.{case_said}
use Rattle.acpi_rules.specs.Given.{all_given}
use Rattle.acpi_rules.specs.Numbers.{GivenIn}
use Rattle.acpi_rules.specs.Sites.{sites_of}
use Rattle.acpi_rules.specs.declared.numbered.Numbered.{Numbered}
use Rattle.acpi_check.proofs.EntryPasses.Kept.{kept_from, kept_has}
use Rattle.acpi_lint.specs.Rules.Entries.{alone}
use Rattle.acpi_lint.specs.Rules.McfgAdvice.{IsEcam, ecam_of}
use Rattle.acpi_lint.specs.declared.rows.mcfg.TheConstants.{ECAMS}
use Rattle.acpi_lint.specs.declared.rows.mcfg_fields.TheConstants.{MCFG_ENTRIES}
use Rattle.acpi_lint.proofs.NearestCaches.{given_are}

pub ecams_are : (mcfg : List ℕ) (entries all : List Numbered)
    → entries ≡ all_given (alone mcfg) (map case_said ECAMS.now) (sites_of MCFG_ENTRIES mcfg)
    → all ≡ filter_map ecam_of entries → (g : Numbered) → Contains all g ↔ IsEcam mcfg g
ecams_are mcfg entries all given are g =
    rw are (
      λ listed.
          let (e, there, is) = kept_from ecam_of entries g listed in (e, (one e).0 there, is),
      λ (e, there, is). kept_has ecam_of entries e g ((one e).1 there) is,
    )
  where
    one : (e : Numbered) → Contains entries e ↔ GivenIn (alone mcfg) MCFG_ENTRIES (map case_said ECAMS.now) e
    one e = given_are (alone mcfg) MCFG_ENTRIES (map case_said ECAMS.now) entries given e
