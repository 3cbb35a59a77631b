-- What holds for each entry of an example, each table or each run, and what for none.
use Rattle.std.specs.Prelude.{◌^◌, ◌==◌, ◌&&◌, All, Bool, Contains, length, nat_le, nat_lt}
use Rattle.std.specs.List.{list_all, AllByRecursion}
use Rattle.std.proofs.Common.{◌≡◌, ℕ, ◌<◌, List, [], ◌∷◌, true, refl}
use Rattle.std.proofs.lemmas.Bool.{and_parts, eqb-true, leb-true, ltb-true}
use Rattle.std.proofs.lemmas.List.Elements.{All-from_recursion, All-contains}
use Rattle.acpi_base.specs.Entries.{PlacedEntry, Stands, StandsWith}
use Rattle.acpi_base.specs.Image.Runs.{Run, end_of, IsComplete}
use Rattle.acpi_base.specs.Number.{field, byte_sum}
use Rattle.acpi_examples.specs.Tables.{IsValidExample}

pub each_of : {X : Type 0} (P : X → Type 0) (xs : List X) → AllByRecursion P xs → (x : X) → Contains xs x → P x
each_of P xs each x listed = All-contains P xs x (All-from_recursion P xs each) listed

pub each_entry : {E : Type 0} (entries : List (PlacedEntry E)) (Q : ℕ → E → Type 0)
    → AllByRecursion (λ s. Q s.offset s.entry) entries → (o : ℕ) (e : E) → Stands entries o e → Q o e
each_entry {E} entries Q each o e stands =
    each_of (λ (s : PlacedEntry E). Q s.offset s.entry) entries each (record { offset = o; entry = e }) stands

pub none_stands : {E : Type 0} (entries : List (PlacedEntry E)) (o : ℕ) (P : ℕ → E → Type 0)
    → AllByRecursion (λ s. ¬ P s.offset s.entry) entries → ¬ StandsWith entries o (P o)
none_stands entries o P none (e, stands, holds) = each_entry entries (λ o e. ¬ P o e) none o e stands holds

pub none_at : {E : Type 0} (entries : List (PlacedEntry E)) (o : ℕ) (P : E → Type 0)
    → AllByRecursion (λ s. ¬ ((s.offset ≡ o) × P s.entry)) entries → ¬ StandsWith entries o P
none_at entries o P none (e, stands, holds) =
    each_entry entries (λ p e. ¬ ((p ≡ o) × P e)) none o e stands (refl, holds)

pub never : {A : Type 0} → ⊥ → A
never h = absurd h

all_below : (bytes : List ℕ) → list_all (λ b. nat_lt b 256) bytes ≡ true → AllByRecursion (λ b. b < 256) bytes
all_below [] is = tt
all_below (b ∷ rest) is =
    let parts = and_parts (nat_lt b 256) (list_all (λ b. nat_lt b 256) rest) is in
    (ltb-true b 256 parts.0, all_below rest parts.1)

-- whether a run is not empty, of bytes, and below the address 2 ^ 64
abbrev pub is_whole : Run → Bool
is_whole r = (nat_lt 0 (length r.bytes) && nat_le (end_of r) (2 ^ 64)) && list_all (λ b. nat_lt b 256) r.bytes

pub all_whole : (runs : List Run) → list_all is_whole runs ≡ true → AllByRecursion IsComplete runs
all_whole [] is = tt
all_whole (r ∷ rest) is =
    let (here, more) = and_parts (is_whole r) (list_all is_whole rest) is in
    let (place, below) = and_parts (nat_lt 0 (length r.bytes) && nat_le (end_of r) (2 ^ 64))
    (list_all (λ b. nat_lt b 256) r.bytes) here in
    let (filled, fits) = and_parts (nat_lt 0 (length r.bytes)) (nat_le (end_of r) (2 ^ 64)) place in (
      record {
        filled = ltb-true 0 (length r.bytes) filled;
        fits = leb-true (end_of r) (2 ^ 64) fits;
        bytes = all_below r.bytes below;
      },
      all_whole rest more,
    )

-- whether the bytes of a table sum to 0 and are as many as its Length says
abbrev pub is_valid : List ℕ → Bool
is_valid bytes = (byte_sum bytes == 0) && (field bytes 4 4 == length bytes)

pub all_valid : (tables : List (List ℕ)) → list_all is_valid tables ≡ true → All IsValidExample tables
all_valid tables are = All-from_recursion IsValidExample tables (of tables are)
  where
    of : (tables : List (List ℕ)) → list_all is_valid tables ≡ true → AllByRecursion IsValidExample tables
    of [] is = tt
    of (bytes ∷ rest) is =
        let (here, more) = and_parts (is_valid bytes) (list_all is_valid rest) is in
        let (sum, size) = and_parts (byte_sum bytes == 0) (field bytes 4 4 == length bytes) here in
        ((eqb-true (byte_sum bytes) 0 sum, eqb-true (field bytes 4 4) (length bytes) size), of rest more)
