use Rattle.acpi_base.proofs.Entries.{one_cut, entries_stand, cut_is_start, no_cut_fault, cuts_where_all_stand, none_in_short}
use Rattle.acpi_base.proofs.laws.entries_stand.Goals as goal

pub returns : goal.returns
returns c = record {
  one = one_cut;
  stand = entries_stand;
  cut = cut_is_start;
  filled = no_cut_fault;
  all = cuts_where_all_stand;
  short = none_in_short;
}
