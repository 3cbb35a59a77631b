use Rattle.std.proofs.Common.{[], ◌≡◌, ℕ, map, rules}
use Rattle.std.specs.Prelude.{◌⊎◌, ◌↔◌, true, Contains}
use Rattle.acpi_rules.specs.Cases.{case_said}
use Rattle.acpi_rules.specs.Places.{FindsLeast}
use Rattle.acpi_rules.specs.Terms.{TwoTables}
use Rattle.acpi_rules.specs.declared.numbered.Numbered.{Numbered}
use Rattle.acpi_lint.specs.CacheTypes.{has_pair}
use Rattle.acpi_lint.specs.Rules.CacheTypes.{IsResource, IsSameOfType, IsTyped, LeadsTo}
use Rattle.acpi_lint.specs.Rules.Entries.{alone}
use Rattle.acpi_lint.specs.declared.rows.pptt.TheConstants.{RESOURCES}
use Rattle.acpi_lint.specs.declared.rows.pptt_fields.TheConstants.{PPTT_RESOURCES}
use Rattle.acpi_lint.proofs.NearestCaches.{found_of_type, given_are, lower_of_both}
use Rattle.acpi_lint.proofs.cache_types.same_in.Goals as goal

pub pairs_in-requires : goal.pairs_in-requires
pairs_in-requires c =
    let t : TwoTables = record { table = c.args.table.now.bytes.now; other = c.new-other.result.bytes.now } in
    rw c.deref.ensures.value
    (given_are t PPTT_RESOURCES (map case_said RESOURCES.now) c.in_ok-resources.resources.items
    c.in_ok-resources.ensures)

pub returns : goal.returns
returns c =
    let pptt = c.args.table.now.bytes.now in
    let other : c.new-other.result.bytes.now ≡ [] = search rules in
    let resources = c.in_ok-resources.resources.items in
    let types = c.in_ok-types.types.items in
    let pairs = c.in_ok-pairs.pairs.items in
    let are : (g : Numbered) → Contains resources g ↔ IsResource (alone pptt) g =
    given_are (alone pptt) PPTT_RESOURCES (map case_said RESOURCES.now) resources
    (rw other at c.in_ok-resources.ensures) in
    let typed : (g : Numbered) → Contains types g ↔ IsTyped (alone pptt) g = rw other at c.in_ok-types.ensures.all in
    let lead : (n o : ℕ) → (has_pair pairs n o ≡ true) ↔ LeadsTo (alone pptt) n o =
    rw other at c.in_ok-pairs.ensures.pairs in
    let one : FindsLeast (IsSameOfType 0 pptt) c.in_ok-of_data.of_data =
    found_of_type pptt 0 resources types pairs c.in_ok-of_data.of_data c.in_ok-types.ensures.order are typed lead
    (rw (c.deref-2.ensures.value, c.deref-3.ensures.value, c.deref-4.ensures.value) at c.in_ok-of_data.ensures) in
    let two : FindsLeast (IsSameOfType 1 pptt) c.in_ok-of_instruction.of_instruction =
    found_of_type pptt 1 resources types pairs c.in_ok-of_instruction.of_instruction c.in_ok-types.ensures.order are
    typed lead
    (rw (c.deref-5.ensures.value, c.deref-6.ensures.value, c.deref-7.ensures.value) at
    c.in_ok-of_instruction.ensures) in
    let three : FindsLeast (IsSameOfType 2 pptt) c.in_ok-of_both.of_both =
    found_of_type pptt 2 resources types pairs c.in_ok-of_both.of_both c.in_ok-types.ensures.order are typed lead
    (rw (c.deref-8.ensures.value, c.deref-9.ensures.value, c.deref-10.ensures.value) at c.in_ok-of_both.ensures) in
    let later = lower_of_both (IsSameOfType 1 pptt) (IsSameOfType 2 pptt) c.in_ok-of_instruction.of_instruction
    c.in_ok-of_both.of_both c.lower.result two three c.lower.ensures in
    lower_of_both (IsSameOfType 0 pptt)
    (λ at second third. IsSameOfType 1 pptt at second third ⊎ IsSameOfType 2 pptt at second third)
    c.in_ok-of_data.of_data c.lower.result c.lower-2.result one later c.lower-2.ensures
