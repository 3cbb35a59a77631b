-- The examples of advice on single fields and blocks of the FADT, by computing.
use Rattle.std.proofs.Common.{ℕ, ◌<◌, suc, zero, refl, subst, inl, inr, arith}
use Rattle.std.proofs.lemmas.Bool.{both_ways, cases_lt}
use Rattle.acpi_base.specs.Number.{field}
use Rattle.acpi_base.specs.Fadt.{has_flag, wide_address, block_value}
use Rattle.acpi_lint.specs.Rules.FadtBlocks.{IsBlockPastEnd}
use Rattle.acpi_examples.specs.AdviceFadtFields.{with_byte, three_bytes, ArePortsPastEnd, AreFadtFieldsAdvised}

-- ---- each number below another one

abbrev upto : (ℕ → Type 0) → ℕ → Type 0
upto P zero = Unit {0}
upto P (suc n) = P n × upto P n

each_below : (P : ℕ → Type 0) (n : ℕ) → upto P n → (k : ℕ) → k < n → P k
each_below P zero all k less = absurd (omega (arith, less))
each_below P (suc n) all k less =
    elim (cases_lt k n) [
      | inl before ↦ each_below P n all.1 k before
      | inr same ↦ subst P (omega (arith, less, same)) all.0
    ]

-- ---- ports

ports_past_end : ArePortsPastEnd
unfolding field has_flag wide_address block_value
ports_past_end = record {
  block = inl (
    refl,
    inr (record {
      k = 0;
      from = omega arith;
      block = omega arith;
      place = refl;
      is = (refl, refl, omega arith, omega arith);
    }),
  );
  smi = inl (refl, inl (refl, (refl, refl, omega arith, omega arith)));
  reset = inr (((refl, omega arith), refl), (refl, (refl, refl, omega arith, omega arith)));
  last = λ at other point it.
      let whole = with_byte 48 0xff (with_byte 49 0xff (three_bytes 116 56 0xfc 57 0xff 88 4)) in
      elim it [
        | inl (full, inl (_, past)) ↦ omega (arith, past.3)
        | inl (full, inr on) ↦
            each_below (λ k. ¬ IsBlockPastEnd whole k other point) 8 (
              (λ past. omega (arith, past.2)),
              (
                (λ past. omega (arith, past.2)),
                (
                  (λ past. omega (arith, past.2)),
                  (
                    (λ past. omega (arith, past.2)),
                    (
                      (λ past. omega (arith, past.2)),
                      (
                        (λ past. omega (arith, past.2)),
                        (
                          (λ past. omega (arith, past.2)),
                          ((λ past. omega (arith, past.3)), tt),
                        ),
                      ),
                    ),
                  ),
                ),
              ),
            ) on.k on.block on.is
        | inr reset ↦ both_ways _ refl reset.0.0.0
      ];
  reset_last = λ at other point it.
      elim it [
        | inl (full, _) ↦ both_ways _ full refl
        | inr (_, (_, past)) ↦ omega (arith, past.3)
      ];
  reset_cut = λ at other point it.
      elim it [
        | inl (full, _) ↦ both_ways _ full refl
        | inr (there, _) ↦ omega (arith, there.0.1)
      ];
}

pub fadt_fields_advised : AreFadtFieldsAdvised
fadt_fields_advised = record {
  ports = ports_past_end;
}
