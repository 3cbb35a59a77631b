use Rattle.std.proofs.Common.{arith, ◌≡◌, ◌+◌, ◌*◌, ◌++◌, ℕ, length, map, List, [], ◌∷◌, sym, ap, ◌∙◌}
use Rattle.std.specs.Option.{option_map}
use Rattle.acpi_write.specs.Encoded.{encoded_length}
use Rattle.acpi_write.specs.Rebuilt.{option_list}
use Rattle.acpi_write.specs.Views.{table_value}
use Rattle.acpi_write.proofs.SetParts.PartLengths.{lengths_are}
use Rattle.acpi_write.proofs.placing.lengths_of.Goals as goal
use Rattle.acpi_write.proofs.placing.lengths_of.Goals.{in-Some+in_ok-push-3, in_default}

pub returns : goal.returns
returns c =
    let v = c.args.value.now in
    let first = c.in_ok-push.ensures.items ∙ ap (λ (xs : List ℕ). xs ++ 36 ∷ []) c.new-lengths.ensures.items in
    let all = v.tables.ok in
    let size = c.len.ensures in
    let n : c.len.result ≡ length v.tables.items = omega (arith, size, all) in
    let front : c.push-2.new.self.items ≡ 36 ∷ (36 + 8 * length v.tables.items) ∷ [] =
    c.in_ok-push-2.ensures.items ∙ ap (λ (xs : List ℕ). xs ++ c.xsdt_length.result ∷ []) first
    ∙ ap (λ (k : ℕ). 36 ∷ k ∷ []) (c.xsdt_length.ensures ∙ ap (λ (k : ℕ). 36 + 8 * k) n) in
    let behind : List ℕ = map (λ t. encoded_length (table_value t)) v.tables.items in
    let whole : c.append_lengths.new.lengths.items ≡ c.match-value.lengths.items ++ behind =
    c.in_ok-append_lengths.ensures
    ∙ ap (λ ts. c.match-value.lengths.items ++ map (λ t. encoded_length (table_value t)) ts)
    c.deref.ensures.value in
    elim c.match-value.branch [
      | in-Some+in_ok-push-3 w ↦
          lengths_are v c.append_lengths.new.lengths.items (length w.in-Some.facs.now ∷ [])
          (ap (λ o. map length (option_list (option_map (λ b. b.now) o))) (sym w.in-Some.is))
          (whole ∙ ap (λ (l : List ℕ). l ++ behind)
          (ap (λ l. l.items) w.lengths-is ∙ w.in_ok-push-3.ensures.items
          ∙ ap (λ (xs : List ℕ). xs ++ length w.in-Some.facs.now ∷ []) front))
      | in_default w ↦
          lengths_are v c.append_lengths.new.lengths.items []
          (ap (λ o. map length (option_list (option_map (λ b. b.now) o))) (sym w.in_default.is))
          (whole ∙ ap (λ (l : List ℕ). l ++ behind) (ap (λ l. l.items) w.lengths-is ∙ front))
    ]
