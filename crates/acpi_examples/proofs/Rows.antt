-- The examples of the rules that are rows, by computing.
use Rattle.std.proofs.Common.{◌≡◌, ◌∷◌, [], List, Option, ap, drop, get_or, inl, inr, map, refl, subst, sym}
use Rattle.std.specs.Prelude.{Contains}
use Rattle.acpi_base.specs.Number.{field, number_bytes}
use Rattle.acpi_base.proofs.Elements.{first_or_later, no_element}
use Rattle.acpi_rules.specs.Cases.{gives, has_length, has_type, in_case, is_kind}
use Rattle.acpi_rules.specs.Clauses.{all_hold, holds, passes}
use Rattle.acpi_rules.specs.Fields.{reading}
use Rattle.acpi_rules.specs.Rows.{Row, guard_holds}
use Rattle.acpi_rules.specs.Known.{is_reported, other_told}
use Rattle.acpi_rules.specs.Series.{first_bytes, head_said, kind_in, length_by, most_of, said_in, size_in, start_by, start_of}
use Rattle.acpi_rules.specs.Sites.{cut_inside, sites_inside, sites_inside_all}
use Rattle.acpi_rules.specs.Terms.{value_number}
use Rattle.acpi_rules.specs.Walks.{cut_from, structures_from}
use Rattle.acpi_rules.proofs.Computed.{finds_broken, first_broken}
use Rattle.acpi_rules.specs.declared.place.Place.{Place}
use Rattle.acpi_lint.specs.RowGroups.{devices_group, dmar_group, dmar_scopes_group, dmar_with_srat_group, fadt_further_group, fadt_group, fadt_with_madt_group, gic_group, gtdt_group, gtdt_with_madt_group, hmat_group, hmat_with_srat_group, hpet_group, ivrs_group, madt_further_group, madt_group, madt_with_dmar_group, madt_with_fadt_group, madt_with_ivrs_group, madt_with_pptt_group, madt_with_srat_group, mcfg_group, pptt_group, pptt_with_madt_group, spcr_group, spcr_with_madt_group, srat_group, srat_with_madt_group, srat_with_slit_group}
use Rattle.acpi_lint.specs.Rules.Rows.{rule_number}
use Rattle.acpi_examples.specs.Rows.{AreFound, AreRowsFound, Example, tables_of, devices_examples, dmar_examples, dmar_scopes_examples, dmar_with_srat_examples, fadt_examples, fadt_further_examples, fadt_with_madt_examples, gic_examples, gtdt_examples, gtdt_with_madt_examples, hmat_examples, hmat_with_srat_examples, hpet_examples, ivrs_examples, madt_examples, madt_further_examples, madt_with_dmar_examples, madt_with_fadt_examples, madt_with_ivrs_examples, madt_with_pptt_examples, madt_with_srat_examples, mcfg_examples, pptt_examples, pptt_with_madt_examples, spcr_examples, spcr_with_madt_examples, srat_examples, srat_with_madt_examples, srat_with_slit_examples}

-- what two functions give for each element, if the lists are the same
same_of : {X Y : Type 0} (f g : X → Y) (xs : List X) → map f xs ≡ map g xs → (x : X) → Contains xs x → f x ≡ g x
same_of f g [] same x listed = absurd (no_element x listed)
same_of {X} f g (u ∷ xs) same x listed =
    elim (first_or_later u x xs listed) [
      | inl is ↦ subst (λ (y : X). f y ≡ g y) is (ap (λ ys. get_or ys 0 (f u)) same)
      | inr later ↦ same_of f g xs (ap (drop 1) same) x later
    ]

-- what is computed for an example
computed : List Row → Example → Option Place
computed rows e = first_broken (rule_number e.rule) rows (tables_of e)

all_computed : (rows : List Row) (examples : List Example) → map (computed rows) examples ≡ map (λ e. e.found) examples
    → AreFound rows examples
unfolding computed
all_computed rows examples same = λ e listed.
    rw (sym (same_of (computed rows) (λ x. x.found) examples same e listed))
    (finds_broken (rule_number e.rule) rows (tables_of e))

pub rows_found : AreRowsFound
unfolding field number_bytes gives has_length has_type in_case is_kind all_hold holds passes reading guard_holds
    first_bytes head_said kind_in length_by most_of said_in size_in start_by start_of value_number cut_from
    structures_from cut_inside sites_inside sites_inside_all is_reported other_told computed
    madt_group madt_further_group gic_group madt_with_fadt_group fadt_with_madt_group madt_with_srat_group
    srat_with_madt_group srat_group srat_with_slit_group madt_with_pptt_group pptt_with_madt_group pptt_group
    fadt_group fadt_further_group mcfg_group hpet_group spcr_group spcr_with_madt_group
    hmat_group hmat_with_srat_group gtdt_group gtdt_with_madt_group
    dmar_group dmar_scopes_group dmar_with_srat_group madt_with_dmar_group ivrs_group devices_group madt_with_ivrs_group
rows_found = record {
  madt = all_computed madt_group.rows madt_examples refl;
  madt_further = all_computed madt_further_group.rows madt_further_examples refl;
  gic = all_computed gic_group.rows gic_examples refl;
  madt_with_fadt = all_computed madt_with_fadt_group.rows madt_with_fadt_examples refl;
  fadt_with_madt = all_computed fadt_with_madt_group.rows fadt_with_madt_examples refl;
  madt_with_srat = all_computed madt_with_srat_group.rows madt_with_srat_examples refl;
  srat_with_madt = all_computed srat_with_madt_group.rows srat_with_madt_examples refl;
  srat = all_computed srat_group.rows srat_examples refl;
  srat_with_slit = all_computed srat_with_slit_group.rows srat_with_slit_examples refl;
  madt_with_pptt = all_computed madt_with_pptt_group.rows madt_with_pptt_examples refl;
  pptt_with_madt = all_computed pptt_with_madt_group.rows pptt_with_madt_examples refl;
  pptt = all_computed pptt_group.rows pptt_examples refl;
  fadt = all_computed fadt_group.rows fadt_examples refl;
  fadt_further = all_computed fadt_further_group.rows fadt_further_examples refl;
  mcfg = all_computed mcfg_group.rows mcfg_examples refl;
  hpet = all_computed hpet_group.rows hpet_examples refl;
  spcr = all_computed spcr_group.rows spcr_examples refl;
  spcr_with_madt = all_computed spcr_with_madt_group.rows spcr_with_madt_examples refl;
  hmat = all_computed hmat_group.rows hmat_examples refl;
  hmat_with_srat = all_computed hmat_with_srat_group.rows hmat_with_srat_examples refl;
  gtdt = all_computed gtdt_group.rows gtdt_examples refl;
  gtdt_with_madt = all_computed gtdt_with_madt_group.rows gtdt_with_madt_examples refl;
  dmar = all_computed dmar_group.rows dmar_examples refl;
  dmar_scopes = all_computed dmar_scopes_group.rows dmar_scopes_examples refl;
  dmar_with_srat = all_computed dmar_with_srat_group.rows dmar_with_srat_examples refl;
  madt_with_dmar = all_computed madt_with_dmar_group.rows madt_with_dmar_examples refl;
  ivrs = all_computed ivrs_group.rows ivrs_examples refl;
  devices = all_computed devices_group.rows devices_examples refl;
  madt_with_ivrs = all_computed madt_with_ivrs_group.rows madt_with_ivrs_examples refl;
}
