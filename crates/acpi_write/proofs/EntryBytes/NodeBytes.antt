-- The bytes of entries of a PPTT: what they say, and how many a node has.
use Rattle.std.proofs.Common.{◌≡◌, ℕ, zero, suc, ◌+◌, ◌*◌, ◌/◌, ◌%◌, ◌≤◌, ◌<◌, List, [], ◌∷◌, ◌++◌, length, get_or, take, drop, map, flat_map, refl, sym, ap, subst, ◌∙◌, arith, append_assoc, length-append, length-drop}
use Rattle.std.specs.Prelude.{slice_index}
use Rattle.std.specs.List.{range_with_len}
use Rattle.std.proofs.lemmas.List.{drop_all, drop-drop, get_or-drop, take-append-drop, take_at, drop_at, get_or_append_left}
use Rattle.std.proofs.lemmas.List.FromFn.{length-map-range_with_len}
use Rattle.acpi_base.specs.Number.{field, number_bytes}
use Rattle.acpi_base.specs.Layouts.{layout_bytes, HasValues}
use Rattle.acpi_base.specs.Entries.{IsEntry, IsEntryOf}
use Rattle.acpi_base.specs.Pptt.{pptt_entry, Node, CacheValue, cache24, cache28, Cache, Opaque}
use Rattle.acpi_base.proofs.Layouts.Kinds.{byte_field}
use Rattle.acpi_read.specs.Pptts.{node_head_parts, node_head_values, node_value, pptt_bytes}
use Rattle.acpi_read.specs.declared.pptt.node_head.NodeHead.{NodeHead}
use Rattle.acpi_read.proofs.PpttKinds.{node_typed, cache24_typed, cache28_typed, others_opaque}
use Rattle.acpi_write.specs.Spells.{SaysEntry}
use Rattle.acpi_write.proofs.EntryBytes.EntryForms.{is_entry, length-node}

pub cache24_says : (e : List ℕ) (v : CacheValue) → IsEntryOf cache24 e v → SaysEntry pptt_entry e (Cache v)
cache24_says e v is = (is_entry cache24 (omega arith) e v is, sym (cache24_typed e v is))

pub cache28_says : (e : List ℕ) (v : CacheValue) → IsEntryOf cache28 e v → SaysEntry pptt_entry e (Cache v)
cache28_says e v is = (is_entry cache28 (omega arith) e v is, sym (cache28_typed e v is))

pub pptt_kept : (e : List ℕ) → IsEntry e → 2 ≤ slice_index e 0 → pptt_entry e ≡ Opaque e
pptt_kept e is other =
    sym (others_opaque e (λ h. absurd (omega (arith, h, other))) (λ h. absurd (omega (arith, h, other))))

pub ruleset pptt_says = (cache24_says, cache28_says, pptt_kept)

pub node_length : (h : NodeHead) (references : List ℕ)
    → length (pptt_bytes (Node (node_value h references))) ≡ 20 + 4 * h.count
node_length h references =
    length-node (node_value h references) ∙ ap (λ (n : ℕ). 20 + 4 * n)
    (length-map-range_with_len (λ j. field references (4 * j) 4) 0 h.count)

pub few_references : (h : NodeHead) → h.count ≤ 58
few_references h = h.fits

pub ruleset node_sizes = (node_length, few_references)

four : (a b c d : ℕ) (rest : List ℕ) → a < 256 → b < 256 → c < 256 → d < 256
    → number_bytes 4 (field (a ∷ b ∷ c ∷ d ∷ rest) 0 4) ≡ a ∷ b ∷ c ∷ d ∷ []
unfolding number_bytes field
four a b c d rest p q r s =
    let n = a + 256 * (b + 256 * (c + 256 * (d + 256 * 0))) in
    let first : n % 256 ≡ a = omega arith in
    let second : n / 256 % 256 ≡ b = omega arith in
    let third : n / 65536 % 256 ≡ c = omega arith in
    let fourth : n / 16777216 % 256 ≡ d = omega arith in
    λ i. first i ∷ second i ∷ third i ∷ fourth i ∷ []

four_of : (bytes : List ℕ) → 4 ≤ length bytes → ((k : ℕ) → get_or bytes k 0 < 256)
    → number_bytes 4 (field bytes 0 4) ≡ take 4 bytes
four_of [] some low = absurd (omega arith)
four_of (a ∷ []) some low = absurd (omega arith)
four_of (a ∷ b ∷ []) some low = absurd (omega arith)
four_of (a ∷ b ∷ c ∷ []) some low = absurd (omega arith)
four_of (a ∷ b ∷ c ∷ d ∷ rest) some low = four a b c d rest (low 0) (low 1) (low 2) (low 3)

field_dropped : (bytes : List ℕ) (at width : ℕ) → field bytes at width ≡ field (drop at bytes) 0 width
unfolding field
field_dropped bytes at width = refl

references_again : (n j : ℕ) (bytes : List ℕ) → ((k : ℕ) → get_or bytes k 0 < 256) → length bytes ≡ 4 * (j + n)
    → flat_map (λ r. number_bytes 4 r) (map (λ i. field bytes (4 * i) 4) (range_with_len j n)) ≡ drop (4 * j) bytes
references_again zero j bytes low count = sym (drop_all (4 * j) bytes (omega (arith, count)))
references_again (suc n) j bytes low count =
    let left = drop (4 * j) bytes in
    let long : 4 ≤ length left = omega (arith, count, length-drop (4 * j) bytes) in
    let here : number_bytes 4 (field bytes (4 * j) 4) ≡ take 4 left =
    ap (number_bytes 4) (field_dropped bytes (4 * j) 4) ∙ four_of left long
    (λ k. subst (λ (x : ℕ). x < 256) (sym (get_or-drop (4 * j) bytes k 0)) (low (4 * j + k))) in
    let place : 4 * (j + 1) ≡ 4 * j + 4 = omega arith in
    let next : drop (4 * (j + 1)) bytes ≡ drop 4 left = ap (λ (k : ℕ). drop k bytes) place
    ∙ sym (drop-drop 4 (4 * j) bytes) in
    let others = references_again n (j + 1) bytes low (omega (arith, count)) in
    (λ i. here i ++ (others ∙ next) i) ∙ take-append-drop 4 left

node_spelled : (h : NodeHead) (references : List ℕ) → ((k : ℕ) → get_or references k 0 < 256)
    → length references ≡ 4 * h.count
    → pptt_bytes (Node (node_value h references)) ≡ layout_bytes node_head_parts (node_head_values h) ++ references
node_spelled h references low counted =
    let v = node_value h references in
    let count : length v.resources ≡ h.count = length-map-range_with_len (λ j. field references (4 * j) 4) 0 h.count in
    let again = references_again h.count 0 references low (omega (arith, counted)) in
    rw (count, again) refl

pub node_written : (h : NodeHead) (old references new : List ℕ) → ((k : ℕ) → get_or references k 0 < 256)
    → length references ≡ 4 * h.count
    → new ≡ (old ++ layout_bytes node_head_parts (node_head_values h)) ++ references
    → new ≡ old ++ pptt_bytes (Node (node_value h references))
node_written h old references new low counted is =
    is ∙ append_assoc old (layout_bytes node_head_parts (node_head_values h)) references
    ∙ ap (λ (bs : List ℕ). old ++ bs) (sym (node_spelled h references low counted))

pub node_says : (h : NodeHead) (references : List ℕ) → ((k : ℕ) → get_or references k 0 < 256)
    → length references ≡ 4 * h.count
    → HasValues node_head_parts (layout_bytes node_head_parts (node_head_values h)) (node_head_values h)
    → SaysEntry pptt_entry (pptt_bytes (Node (node_value h references))) (Node (node_value h references))
node_says h references low counted has =
    let head = layout_bytes node_head_parts (node_head_values h) in
    let e = head ++ references in
    let twenty : length head ≡ 20 = has.layout.count in
    let type : slice_index e 0 ≡ 0 = get_or_append_left head references 0 0 (omega (arith, twenty))
    ∙ sym (byte_field head 0) ∙ has.layout.fixed.0 in
    let length_byte : field head 1 1 ≡ 20 + 4 * h.count = (let same = has.same in cc) in
    let said : slice_index e 1 ≡ 20 + 4 * h.count = get_or_append_left head references 0 1 (omega (arith, twenty))
    ∙ sym (byte_field head 1) ∙ length_byte in
    let whole = length-append head references in
    let is : IsEntry e = record {
      least = omega (arith, twenty, whole);
      said = omega (arith, said, twenty, whole, counted);
    } in
    let typed = node_typed e head references is type (sym (take_at head references 20 twenty))
    (sym (drop_at head references 20 twenty)) h has in
    subst (λ (bs : List ℕ). SaysEntry pptt_entry bs (Node (node_value h references)))
    (sym (node_spelled h references low counted)) (is, sym typed)

pub ruleset nodes = (node_written, node_says)
