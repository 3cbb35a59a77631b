-- The facts about the tables of every kind, from the facts about each.
use Rattle.std.proofs.Common.{◌≡◌, ℕ, ◌+◌, ◌^◌, ◌<◌, ◌≤◌, List, length, drop, refl, sym, ap, ◌∙◌, true, Some, subst}
use Rattle.std.specs.List.{AllByRecursion}
use Rattle.acpi_base.specs.Header.{HeadValue, head_of}
use Rattle.acpi_base.specs.TableKinds.{signature_of}
use Rattle.acpi_base.specs.declared.table_kind.TableKind.{TableKind}
use Rattle.acpi_base.specs.declared.table_kind.TableKind.TheVariants as kind
use Rattle.acpi_base.proofs.Tables.Kinds.{length-signature_of}
use Rattle.acpi_base.specs.Signature.{has_signature}
use Rattle.acpi_write.specs.Bodies.{kinds, body_bytes, SpellsBody, IsReadableAs, whole_value_in}
use Rattle.acpi_write.specs.Encoded.{FitsHead, encoded_bytes, encoded_length}
use Rattle.acpi_write.specs.Spells.{Spells, OneValueSpelled}
use Rattle.acpi_write.specs.Values.{BodyValue, Madt, Srat, Slit, Pptt, Fadt, TableValue, Known, kind_of, Other}
use Rattle.acpi_write.specs.Views.{head_value, table_value, IsShaped, IsShort, DoPartsSay}
use Rattle.acpi_write.specs.declared.table_value.TableValue as written
use Rattle.acpi_write.specs.declared.table_value.TableValue.TheVariants as table
use Rattle.acpi_write.specs.Laws.{WhatIsReadIsSpelled}
use Rattle.acpi_write.proofs.Tables.Facts.{KindFacts}
use Rattle.acpi_write.proofs.Tables.Fadts as fadts
use Rattle.acpi_write.proofs.Tables.Madts as madts
use Rattle.acpi_write.proofs.Tables.Srats as srats
use Rattle.acpi_write.proofs.Tables.Slits as slits
use Rattle.acpi_write.proofs.Tables.Pptts as pptts
use Rattle.acpi_write.proofs.TablesWritten.CompleteTables.{complete_table, length_of_parts}

pub facts : (kind : TableKind) → KindFacts kind
facts kind.Fadt = fadts.facts
facts kind.Madt = madts.facts
facts kind.Srat = srats.facts
facts kind.Slit = slits.facts
facts kind.Pptt = pptts.facts

pub each_kind : (P : TableKind → Type 0) → AllByRecursion P kinds → (kind : TableKind) → P kind
each_kind P all kind.Fadt = all.0
each_kind P all kind.Madt = all.1.0
each_kind P all kind.Srat = all.1.1.0
each_kind P all kind.Slit = all.1.1.1.0
each_kind P all kind.Pptt = all.1.1.1.1.0

-- ---- what is written for a value of the program

-- the bytes encode the value, and are as many as its length
abbrev pub IsWritten : TableValue → Type 0
IsWritten v = Spells v (encoded_bytes v) × (length (encoded_bytes v) ≡ encoded_length v)

known : (head : HeadValue) (v : BodyValue) → FitsHead head → 36 + length (body_bytes v) < 2 ^ 32
    → ((whole : List ℕ) → 36 ≤ length whole → drop 36 whole ≡ body_bytes v → SpellsBody v whole)
    → IsWritten (Known head v)
known head v fits short body =
    let is = complete_table (signature_of (kind_of v)) head (body_bytes v) (length-signature_of (kind_of v)) fits
    short in
    ((is.0, body _ is.0.least is.1), length_of_parts _ (body_bytes v) is.0.least is.1)

pub is_written : (v : written.TableValue) → IsShaped v → IsShort v → DoPartsSay v → IsWritten (table_value v)
is_written (table.Madt head address flags entries) shaped short say =
    known (head_value head) (Madt address flags _) say.0 short
    (λ whole least body. madts.says address flags entries.items whole least body say.1 say.2 say.3 shaped)
is_written (table.Srat head entries) shaped short say =
    known (head_value head) (Srat _) say.0 short
    (λ whole least body. srats.says entries.items whole least body say.1 shaped)
is_written (table.Slit head count cells) shaped short say =
    known (head_value head) (Slit count cells.now) say.0 short
    (λ whole least body. slits.says count cells.now whole least body say.1 shaped)
is_written (table.Pptt head entries) shaped short say =
    known (head_value head) (Pptt _) say.0 short
    (λ whole least body. pptts.says entries.items whole least body say.1 shaped)
is_written (table.Fadt head body) shaped short say =
    known (head_value head) (Fadt body.items) say short
    (λ whole least there. fadts.says body.items whole least there shaped)
is_written (table.Other bytes) shaped short say = ((shaped, refl), length_of_parts bytes.now _ shaped.least refl)

-- ---- one value

pub one_body : (bytes : List ℕ) (v w : BodyValue) → kind_of v ≡ kind_of w → SpellsBody v bytes → SpellsBody w bytes
    → v ≡ w
one_body bytes (Madt a f vs) (Madt b g ws) same v w = madts.one bytes a b f g vs ws v w
one_body bytes (Srat vs) (Srat ws) same v w = srats.one bytes vs ws v w
one_body bytes (Slit n cells) (Slit m others) same v w = slits.one bytes n m cells others v w
one_body bytes (Pptt vs) (Pptt ws) same v w = pptts.one bytes vs ws v w
one_body bytes (Fadt body) (Fadt other) same v w = ap Fadt (sym v.1 ∙ w.1)
one_body bytes _ _ same v w = absurd (cc)

pub what_is_read : WhatIsReadIsSpelled
what_is_read whole is = record { known = known; other = (is, refl) }
  where
    known : (kind : TableKind) → has_signature whole (signature_of kind) ≡ true → IsReadableAs (Some kind) whole
        → Spells (Known (head_of whole) (whole_value_in kind whole)) whole
    known kind signed readable = (
      record {
        least = is.least;
        signed = ap (λ k. has_signature whole (signature_of k)) ((facts kind).kind_is whole).1 ∙ signed;
        head_is = refl;
        size = is.size;
        zero_sum = is.zero_sum;
      },
      (facts kind).spelled whole is.least readable,
    )

pub spelled : (v : written.TableValue) (bytes : List ℕ) → IsShaped v → IsShort v → DoPartsSay v
    → bytes ≡ encoded_bytes (table_value v) → Spells (table_value v) bytes
spelled v bytes shaped short say is = subst (Spells (table_value v)) (sym is) (is_written v shaped short say).0

pub ruleset spelling = (spelled)

pub one_value : OneValueSpelled
one_value bytes (Known h v) (Known i w) same a b =
    let head = sym a.0.head_is ∙ b.0.head_is in
    let body = one_body bytes v w same a.1 b.1 in
    λ k. Known (head k) (body k)
one_value bytes (Other all) (Other others) same a b = ap Other (sym a.1 ∙ b.1)
one_value bytes _ _ same a b = absurd same
