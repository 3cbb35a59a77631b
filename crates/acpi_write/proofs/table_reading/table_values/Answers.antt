use Rattle.std.proofs.Common.{◌≡◌, ◌+◌, ◌∙◌, ◌++◌, ◌∷◌, [], ◌<◌, List, ℕ, take, map, length, get_or, refl, ap, sym, subst, arith}
use Rattle.std.proofs.Math.ListN.{get_or-map}
use Rattle.std.proofs.lemmas.List.{map-append, get_or_default, length-map}
use Rattle.std.proofs.lemmas.List.Elements.{All-nil, All-push}
use Rattle.acpi_read.specs.declared.first_tables.Listed.{Listed}
use Rattle.acpi_write.specs.Kinds.{IsReadableBehind, IsKindBehind, table_of}
use Rattle.acpi_write.specs.SetValues.{table_value_behind}
use Rattle.acpi_write.specs.Views.{table_value, IsShaped, IsShort}
use Rattle.acpi_write.proofs.OldSets.LaterValues.{firsts_none, firsts_more, kind_behind, values_none, values_next, next_take, says}
use Rattle.acpi_write.proofs.table_reading.table_values.Goals as goal

pub loop-k-init : goal.loop-k-init
loop-k-init c = (
  firsts_none [] c.new-firsts.result c.new-firsts.ensures refl,
  ap (map table_value) c.new-found.ensures.items ∙ sym values_none,
  rw c.new-found.ensures.items (All-nil IsShaped),
  rw c.new-found.ensures.items (All-nil IsShort),
)

same_table : (listed : List Listed) (k : ℕ) (here none kept : Listed) → k < length (map table_of listed)
    → here ≡ get_or listed k here → kept ≡ here → table_of kept ≡ table_of (get_or listed k none)
same_table listed k here none kept below is copied =
    ap table_of (copied ∙ is) ∙ sym (get_or-map table_of listed k here)
    ∙ get_or_default (map table_of listed) k (table_of here) (table_of none) below
    ∙ get_or-map table_of listed k none

pub value_as-requires-clause-readable : goal.value_as-requires-clause-readable
value_as-requires-clause-readable c =
    let ts = map table_of c.args.tables.now in
    let k = c.loop-k.k in
    let below : k < length ts = omega (arith, c.loop-k-test.true, length-map c.args.tables.now table_of) in
    let listed = c.index-tables-k-in-loop-k.result in
    let same = same_table c.args.tables.now k c.index-tables-k.result listed c.copied.result below c.index-tables-k.is
    c.copied.ensures in
    let first = kind_behind (take k ts) (table_of c.copied.result) c.loop-k.firsts c.add-kind.result
    c.loop-k.invariant.0 c.add-kind.ensures.kind in
    let behind : IsReadableBehind (take k ts) (table_of (get_or c.args.tables.now k listed)) =
    subst (IsReadableBehind (take k ts)) (get_or-map table_of c.args.tables.now k listed)
    (c.requires k (table_of listed) below) in
    behind.readable c.add-kind.result (subst (λ (w : List ℕ). IsKindBehind (take k ts) w c.add-kind.result) same first)

pub value_as-requires-clause-zero_sum : goal.value_as-requires-clause-zero_sum
value_as-requires-clause-zero_sum c =
    let ts = map table_of c.args.tables.now in
    let k = c.loop-k.k in
    let below : k < length ts = omega (arith, c.loop-k-test.true, length-map c.args.tables.now table_of) in
    let listed = c.index-tables-k-in-loop-k.result in
    let behind : IsReadableBehind (take k ts) (table_of (get_or c.args.tables.now k listed)) =
    subst (IsReadableBehind (take k ts)) (get_or-map table_of c.args.tables.now k listed)
    (c.requires k (table_of listed) below) in
    behind.zero_sum

pub loop-k-preserved : goal.loop-k-preserved
loop-k-preserved c =
    let ts = map table_of c.args.tables.now in
    let k = c.loop-k.k in
    let below : k < length ts = omega (arith, c.loop-k-test.true, length-map c.args.tables.now table_of) in
    let listed = c.index-tables-k-in-loop-k.result in
    let whole = table_of (get_or c.args.tables.now k listed) in
    let same = same_table c.args.tables.now k c.index-tables-k.result listed c.copied.result below c.index-tables-k.is
    c.copied.ensures in
    let first = kind_behind (take k ts) (table_of c.copied.result) c.loop-k.firsts c.add-kind.result
    c.loop-k.invariant.0 c.add-kind.ensures.kind in
    let nil = sym (get_or-map table_of c.args.tables.now k listed) ∙ get_or_default ts k (table_of listed) [] below in
    let here : table_value c.in_ok-value.value ≡ table_value_behind (take k ts) _ =
    c.in_ok-value.ensures.value ∙ sym
    (says (take k ts) whole c.add-kind.result
    (subst (λ (w : List ℕ). IsKindBehind (take k ts) w c.add-kind.result) same first))
    ∙ ap (table_value_behind (take k ts)) nil in
    let next = next_take ts k below ∙ ap (λ (w : List ℕ). take k ts ++ w ∷ []) (sym (same ∙ nil)) in (
      firsts_more (take k ts) (take (k + 1) ts) c.copied.result c.loop-k.firsts c.add-kind.new.self next
          c.loop-k.invariant.0 c.add-kind.ensures.tables,
      ap (map table_value) c.in_ok-push.ensures.items ∙ map-append table_value c.loop-k.found.items
          (c.in_ok-value.value ∷ []) ∙ (λ i. c.loop-k.invariant.1 i ++ here i ∷ []) ∙ sym (values_next ts k below),
      rw c.in_ok-push.ensures.items
          (All-push IsShaped c.loop-k.found.items c.in_ok-value.value c.loop-k.invariant.2
          c.in_ok-value.ensures.shaped),
      rw c.in_ok-push.ensures.items
          (All-push IsShort c.loop-k.found.items c.in_ok-value.value c.loop-k.invariant.3 c.in_ok-value.ensures.short),
    )
