-- A FADT that names another FACS.
use Rattle.std.proofs.Common.{◌≡◌, ℕ, ◌+◌, ◌-◌, ◌^◌, ◌<◌, ◌≤◌, List, ◌++◌, length, take, drop, refl, sym, ap, ◌∙◌, subst, inl, inr, arith, length-drop}
use Rattle.std.specs.Prelude.{◌⊎◌, ◌%◌}
use Rattle.std.proofs.lemmas.Bool.{cases_lt, cases_eq, le-leb, lt-leb, eq-eqb, ne_eqb}
use Rattle.std.proofs.lemmas.List.{drop-drop, take_at, drop_at, length-take-le}
use Rattle.acpi_base.specs.Number.{field, number_bytes}
use Rattle.acpi_base.specs.Header.{head_of}
use Rattle.acpi_base.specs.Fadt.{IsValidFadtTable, IsResetRegister, gas_at, has_flag, wide_address, facs_address}
use Rattle.acpi_base.specs.Listed.{fadt_signature}
use Rattle.acpi_base.proofs.Images.PresentBytes.{field-take}
use Rattle.acpi_base.proofs.Layouts.RoundTrip.{length-number_bytes, number_there}
use Rattle.acpi_write.specs.Encoded.{table_bytes}
use Rattle.acpi_write.specs.FadtBody.{put_over, with_facs}
use Rattle.acpi_write.specs.Laws.{FadtsNameFacs}
use Rattle.acpi_write.proofs.TablesWritten.FadtBodies.{length-put_over, with_facs-wide, with_facs-narrow, length-with_facs}
use Rattle.acpi_write.proofs.TablesWritten.CompleteTables.{complete_table, length_of_parts, fits_head}

-- ---- bytes put over others

pub field_behind : (bytes body : List ℕ) (n offset width : ℕ) → drop n bytes ≡ body
    → field bytes (n + offset) width ≡ field body offset width
unfolding field
field_behind bytes body n offset width e = rw (← e, drop-drop offset n bytes) refl

field-put_below : (bytes : List ℕ) (at : ℕ) (new : List ℕ) (offset width : ℕ) → at ≤ length bytes → offset + width ≤ at
    → field (put_over bytes at new) offset width ≡ field bytes offset width
unfolding put_over
field-put_below bytes at new offset width h l =
    let back = new ++ drop (at + length new) bytes in
    sym (field-take (take at bytes ++ back) at offset width l)
    ∙ ap (λ (b : List ℕ). field b offset width) (take_at (take at bytes) back at (length-take-le at bytes h))
    ∙ field-take bytes at offset width l

drop-put : (bytes : List ℕ) (at : ℕ) (new : List ℕ) → at ≤ length bytes
    → drop at (put_over bytes at new) ≡ new ++ drop (at + length new) bytes
unfolding put_over
drop-put bytes at new h = drop_at (take at bytes) (new ++ drop (at + length new) bytes) at (length-take-le at bytes h)

field-put_above : (bytes : List ℕ) (at : ℕ) (new : List ℕ) (offset width n : ℕ) → at ≤ length bytes → length new ≡ n
    → at + n ≤ offset → field (put_over bytes at new) offset width ≡ field bytes offset width
field-put_above bytes at new offset width n h count past =
    let put = put_over bytes at new in
    let from : at + n + (offset - (at + n)) ≡ offset = omega arith in
    let behind : drop (at + n) put ≡ drop (at + n) bytes =
    ap (λ (k : ℕ). drop k put) (plus at n) ∙ sym (drop-drop n at put) ∙ ap (drop n) (drop-put bytes at new h)
    ∙ drop_at new (drop (at + length new) bytes) n count ∙ ap (λ (k : ℕ). drop (at + k) bytes) count in
    subst (λ (o : ℕ). field put o width ≡ field bytes o width) from
    (field_behind put (drop (at + n) bytes) (at + n) (offset - (at + n)) width behind
    ∙ sym (field_behind bytes (drop (at + n) bytes) (at + n) (offset - (at + n)) width refl))
  where
    plus : (a b : ℕ) → a + b ≡ a + b
    plus a b = refl

field-put_at : (bytes : List ℕ) (at width x : ℕ) → at ≤ length bytes → x < 256 ^ width
    → field (put_over bytes at (number_bytes width x)) at width ≡ x
field-put_at bytes at width x h fits =
    number_there at width x (put_over bytes at (number_bytes width x)) (drop (at + length (number_bytes width x)) bytes)
    (drop-put bytes at (number_bytes width x) h) fits

-- ---- a body with a FACS address

field-with_facs : (body : List ℕ) (facs offset width : ℕ) → 4 ≤ length body → 4 ≤ offset → offset + width ≤ 96
    → field (with_facs body facs) offset width ≡ field body offset width
field-with_facs body facs offset width h past below =
    elim (cases_lt (length body) 104) [
      | inl narrow ↦
          ap (λ (b : List ℕ). field b offset width) (with_facs-narrow body facs narrow)
          ∙ field-put_above body 0 (number_bytes 4 facs) offset width 4 (omega arith) (length-number_bytes 4 facs) past
      | inr wide ↦
          let a = length-put_over body 0 (number_bytes 4 0) (omega (arith, length-number_bytes 4 0)) in
          ap (λ (b : List ℕ). field b offset width) (with_facs-wide body facs wide)
          ∙ field-put_below (put_over body 0 (number_bytes 4 0)) 96 (number_bytes 8 facs) offset width
          (omega (arith, a)) below
          ∙ field-put_above body 0 (number_bytes 4 0) offset width 4 (omega arith) (length-number_bytes 4 0) past
    ]

wide_read : (body : List ℕ) (facs : ℕ) → 104 ≤ length body → facs < 2 ^ 64
    → (field (with_facs body facs) 96 8 ≡ facs) × (field (with_facs body facs) 0 4 ≡ 0)
wide_read body facs wide fits =
    let a = length-put_over body 0 (number_bytes 4 0) (omega (arith, length-number_bytes 4 0)) in (
      ap (λ (b : List ℕ). field b 96 8) (with_facs-wide body facs wide)
          ∙ field-put_at (put_over body 0 (number_bytes 4 0)) 96 8 facs (omega (arith, a)) (omega (arith, fits)),
      ap (λ (b : List ℕ). field b 0 4) (with_facs-wide body facs wide)
          ∙ field-put_below (put_over body 0 (number_bytes 4 0)) 96 (number_bytes 8 facs) 0 4 (omega (arith, a))
          (omega arith)
          ∙ field-put_at body 0 4 0 (omega arith) (omega arith),
    )

narrow_read : (body : List ℕ) (facs : ℕ) → length body < 104 → facs < 2 ^ 32 → field (with_facs body facs) 0 4 ≡ facs
narrow_read body facs narrow fits =
    ap (λ (b : List ℕ). field b 0 4) (with_facs-narrow body facs narrow)
    ∙ field-put_at body 0 4 facs (omega arith) (omega (arith, fits))

-- ---- two FADTs of one length whose fields from 40 to 132 are the same

record AreAlike (one other : List ℕ) : Type 0 where
  count : length one ≡ length other
  fields : (offset width : ℕ) → 40 ≤ offset → offset + width ≤ 132 → field other offset width ≡ field one offset width

alike_flag : (one other : List ℕ) (bit : ℕ) → AreAlike one other → has_flag other bit ≡ has_flag one bit
unfolding has_flag
alike_flag one other bit alike = rw (alike.fields 112 4 (omega arith) (omega arith)) refl

alike_valid : (one other : List ℕ) → AreAlike one other → IsValidFadtTable one → IsValidFadtTable other
alike_valid one other alike valid =
    let count = alike.count in
    let a = alike.fields 116 1 (omega arith) (omega arith) in
    let b = alike.fields 117 1 (omega arith) (omega arith) in
    let c = alike.fields 118 1 (omega arith) (omega arith) in
    let d = alike.fields 119 1 (omega arith) (omega arith) in
    let e = alike.fields 120 8 (omega arith) (omega arith) in
    let gas : gas_at one 116 ≡ gas_at other 116 = λ i. record
    { space = sym a i; bit_width = sym b i; bit_offset = sym c i; access_size = sym d i; address = sym e i } in
    record {
      long = omega (arith, count, valid.long);
      blocks = λ full.
          let lengths = valid.blocks (sym (alike_flag one other 20 alike) ∙ full) in
          record {
            event = subst (λ (x : ℕ). 4 ≤ x) (sym (alike.fields 88 1 (omega arith) (omega arith))) lengths.event;
            control = subst (λ (x : ℕ). 2 ≤ x) (sym (alike.fields 89 1 (omega arith) (omega arith))) lengths.control;
            timer = subst (λ (x : ℕ). (x ≡ 0) ⊎ (x ≡ 4)) (sym (alike.fields 91 1 (omega arith) (omega arith)))
                lengths.timer;
            gpe0 = subst (λ (x : ℕ). x % 2 ≡ 0) (sym (alike.fields 92 1 (omega arith) (omega arith))) lengths.gpe0;
            gpe1 = subst (λ (x : ℕ). x % 2 ≡ 0) (sym (alike.fields 93 1 (omega arith) (omega arith))) lengths.gpe1;
          };
      reset = λ has long. subst IsResetRegister gas
          (valid.reset (sym (alike_flag one other 10 alike) ∙ has) (omega (arith, count, long)));
    }

-- ---- the address that is named

named_wide : (whole : List ℕ) (facs : ℕ) → 140 ≤ length whole → field whole 132 8 ≡ facs → field whole 36 4 ≡ 0
    → facs_address whole ≡ facs
unfolding wide_address
named_wide whole facs long wide narrow =
    elim (cases_eq facs 0) [
      | inl nil ↦ rw (le-leb 140 (length whole) long, eq-eqb (field whole 132 8) 0 (wide ∙ nil)) (narrow ∙ sym nil)
      | inr some ↦ rw (le-leb 140 (length whole) long, ne_eqb (field whole 132 8) 0 (λ e. some (sym wide ∙ e))) wide
    ]

named_narrow : (whole : List ℕ) (facs : ℕ) → length whole < 140 → field whole 36 4 ≡ facs → facs_address whole ≡ facs
unfolding wide_address
named_narrow whole facs short narrow = rw (lt-leb 140 (length whole) short) narrow

pub fadts_name_facs : FadtsNameFacs
fadts_name_facs whole facs is low small valid fits narrow =
    let body = drop 36 whole in
    let behind = length-drop 36 whole in
    let least = valid.long in
    let n = length-with_facs body facs (omega (arith, behind, least)) in
    let table = complete_table fadt_signature (head_of whole) (with_facs body facs) refl (fits_head whole low is.least)
    (omega (arith, n, behind, small, least)) in
    let new = table_bytes fadt_signature (head_of whole) (with_facs body facs) in
    let count = length_of_parts new (with_facs body facs) table.0.least table.1 in
    let alike : AreAlike whole new =
    record {
      count = omega (arith, count, n, behind, least);
      fields = λ offset width past below. (
          let from : 36 + (offset - 36) ≡ offset = omega arith in
          subst (λ (o : ℕ). field new o width ≡ field whole o width) from
          (field_behind new (with_facs body facs) 36 (offset - 36) width table.1
          ∙ field-with_facs body facs (offset - 36) width (omega (arith, behind, least)) (omega arith) (omega arith)
          ∙ sym (field_behind whole body 36 (offset - 36) width refl)));
    } in
    let named : facs_address new ≡ facs =
    elim (cases_lt (length body) 104) [
      | inl short ↦ named_narrow new facs (omega (arith, n, count, short))
          (field_behind new (with_facs body facs) 36 0 4 table.1
          ∙ narrow_read body facs short (narrow (omega (arith, behind, short))))
      | inr wide ↦
          let read = wide_read body facs wide fits in
          named_wide new facs (omega (arith, n, count, wide))
          (field_behind new (with_facs body facs) 36 96 8 table.1 ∙ read.0)
          (field_behind new (with_facs body facs) 36 0 4 table.1 ∙ read.1)
    ] in
    record {
      table = table.0;
      valid = alike_valid whole new alike valid;
      named = named;
      reduced = alike_flag whole new 20 alike;
    }
