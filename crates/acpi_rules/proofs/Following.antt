-- Where the structures of a walk are, and where it stops.
use Rattle.std.proofs.Common.{◌≡◌, ◌≢◌, ◌∙◌, ℕ, zero, suc, ◌+◌, ◌-◌, ◌≤◌, Bool, true, false, List, [], ◌∷◌, length, drop, Option, Some, None, refl, ap, inl, inr, arith, length-drop}
use Rattle.std.specs.Prelude.{◌⊎◌, MatchOption, nat_lt, ◌==◌}
use Rattle.std.proofs.lemmas.Bool.Decides.{nat_tests}
use Rattle.std.proofs.lemmas.Bool.{cases_lt}
use Rattle.std.proofs.lemmas.List.{drop-drop, drop_all}
use Rattle.std.proofs.lemmas.List.Sums.{sum_by-cons}
use Rattle.acpi_rules.specs.Series.{first_bytes, first_structure, is_counted, most_of, start_of}
use Rattle.acpi_rules.specs.Walks.{Placed, end_of_placed, structures_from, cut_from, cut_here, walk_at}
use Rattle.acpi_rules.specs.Laws.{Follow, StructuresFollow, StructuresFew, IsStop, IsComplete, CutStops}
use Rattle.acpi_rules.specs.declared.series.Extent.{Extent}
use Rattle.acpi_rules.specs.declared.series.Extent.TheVariants.{ToEnd, Counted, Product}
use Rattle.acpi_rules.specs.declared.series.Shape.{Shape}
use Rattle.acpi_rules.specs.declared.series.Series.{Series}
use Rattle.acpi_rules.specs.declared.structures.Cut.{Cut}
use Rattle.acpi_rules.proofs.Steps.{begins}

pub cases_Option : {X : Type 0} (o : Option X) → ((x : X) × (o ≡ Some x)) ⊎ (o ≡ None)
cases_Option (Some x) = inl (x, refl)
cases_Option None = inr refl

pub cases_Bool : (b : Bool) → (b ≡ true) ⊎ (b ≡ false)
cases_Bool true = inl refl
cases_Bool false = inr refl

-- nothing fits where no bytes are left
pub none_fits : (s : Shape) → first_structure s [] ≡ None
unfolding first_bytes
none_fits s = grind (arith, nat_tests)

pub none_left : (s : Shape) (n at : ℕ) → structures_from s n at [] ≡ []
unfolding structures_from
none_left s zero at = refl
none_left s (suc n) at = rw (none_fits s) refl

-- ---- the structures follow one another

follow_from : (s : Shape) (inside : Placed) (n at : ℕ) (left : List ℕ) → inside.offset ≤ at
    → at + length left ≡ end_of_placed inside
    → left ≡ drop (at - inside.offset) inside.entry
    → Follow inside at (structures_from s n at left)
unfolding structures_from
follow_from s inside zero at left from end is = tt
follow_from s inside (suc n) at left from end is =
    elim (cases_Option (first_structure s left)) [
      | inr none ↦ rw none tt
      | inl (e, some) ↦
          let b = begins s left e some in
          let long = b.long in
          let fits = b.fits in
          let next : drop (length e) left ≡ drop (at + length e - inside.offset) inside.entry =
          ap (drop (length e)) is ∙ drop-drop (length e) (at - inside.offset) inside.entry
          ∙ ap (λ k. drop k inside.entry) (omega arith) in
          let rest = follow_from s inside n (at + length e) (drop (length e) left) (omega arith)
          (omega (arith, length-drop (length e) left)) next in
          let count : at - inside.offset + length e - (at - inside.offset) ≡ length e = omega arith in
          rw some (
            record {
              here = refl;
              long = long;
              from = from;
              within = omega arith;
              run = rw (count, ← is) b.run;
            },
            rest,
          )
    ]

-- from a start on
follow_at : (s : Series) (inside : Placed) (start : ℕ)
    → Follow inside (inside.offset + start) (walk_at s inside start).structures
follow_at s inside start =
    elim (cases_lt (length inside.entry) start) [
      | inl past ↦
          let none : drop start inside.entry ≡ [] = drop_all start inside.entry (omega (arith, past)) in
          rw (none, none_left s.shape (most_of s.extent inside.entry) (inside.offset + start)) tt
      | inr within ↦
          let at : inside.offset + start - inside.offset ≡ start = omega arith in
          follow_from s.shape inside (most_of s.extent inside.entry) (inside.offset + start) (drop start inside.entry)
          (omega arith) (omega (arith, within, length-drop start inside.entry)) (rw at refl)
    ]

pub structures_follow : StructuresFollow
structures_follow s inside =
    elim (cases_Option (start_of s.start inside.entry)) [
      | inr none ↦ rw none refl
      | inl (start, some) ↦ rw some (follow_at s inside start)
    ]

few_from : (inside : Placed) (at : ℕ) (ws : List Placed) → inside.offset ≤ at → Follow inside at ws
    → length ws ≤ end_of_placed inside - at
few_from inside at [] from follow = omega arith
few_from inside at (w ∷ ws) from (part, rest) =
    let long = part.long in
    let fits = part.within in
    let less = few_from inside (at + length w.entry) ws (omega (arith, from)) rest in
    omega (arith, less, long, fits)

pub structures_few : StructuresFew
structures_few s inside =
    elim (cases_Option (start_of s.start inside.entry)) [
      | inr none ↦ rw none (omega arith)
      | inl (start, some) ↦
          let few = few_from inside (inside.offset + start) (walk_at s inside start).structures (omega arith)
          (follow_at s inside start) in
          rw some (omega (arith, few))
    ]

-- ---- where a walk stops

-- where no further structure fits
stops_here : (s : Shape) (counted : Bool) (n end at : ℕ) (left : List ℕ) → first_structure s left ≡ None
    → MatchOption (cut_here s counted n end at left) (IsComplete counted n end at [])
    (IsStop s counted n end at left [])
stops_here s true zero end at left none = refl
stops_here s true (suc n) end at left none =
    let here : at - at ≡ 0 = omega arith in
    let missing : nat_lt 0 (suc n) ≡ true = grind (arith, nat_tests) in
    rw missing (
    record {
      behind = omega arith;
      fewer = λ _. omega arith;
      unfilled = λ no. absurd (cc);
      none = rw here none;
      said = rw here refl;
      enclosed = refl;
    })
stops_here s false n end at left none =
    let here : at - at ≡ 0 = omega arith in
    elim (cases_Bool (at == end)) [
      | inl same ↦ (let filled : at ≡ end = grind (arith, nat_tests, same) in rw same (omega (arith, filled)))
      | inr other ↦
          let unfilled : at ≢ end = λ is.
          (let same : at == end ≡ true = grind (arith, nat_tests, is) in absurd (cc)) in
          rw other (
          record {
            behind = omega arith;
            fewer = λ no. absurd (cc);
            unfilled = λ _. unfilled;
            none = rw here none;
            said = rw here refl;
            enclosed = refl;
          })
    ]

match_map : {X : Type 0} {P R : Type 0} {Q S : X → Type 0} (o : Option X) → (P → R) → ((x : X) → Q x → S x)
    → MatchOption o P Q → MatchOption o R S
match_map None f g is = f is
match_map (Some x) f g is = g x is

goes_to : (s : Shape) (counted : Bool) (n end at : ℕ) (left e : List ℕ) (ws : List Placed) (c : Cut)
    → length e ≤ length left
    → IsStop s counted n end (at + length e) (drop (length e) left) ws c
    → IsStop s counted (suc n) end at left (record { offset = at; entry = e } ∷ ws) c
goes_to s counted n end at left e ws c fits stop =
    let behind = stop.behind in
    let sum = sum_by-cons (λ (w : Placed). length w.entry) (record { offset = at; entry = e }) ws in
    let there : length e + (c.at - (at + length e)) ≡ c.at - at = omega arith in
    let rest : drop (c.at - (at + length e)) (drop (length e) left) ≡ drop (c.at - at) left =
    drop-drop (c.at - (at + length e)) (length e) left ∙ ap (λ k. drop k left) there in
    record {
      behind = omega (arith, sum);
      fewer = λ said. let less = stop.fewer said in omega (arith, less);
      unfilled = stop.unfilled;
      none = rw (← rest) stop.none;
      said = rw (← rest) stop.said;
      enclosed = stop.enclosed;
    }

-- behind a structure
goes_on : (s : Shape) (counted : Bool) (n end at : ℕ) (left e : List ℕ) (ws : List Placed) (c : Option Cut)
    → length e ≤ length left
    → MatchOption c (IsComplete counted n end (at + length e) ws)
    (IsStop s counted n end (at + length e) (drop (length e) left) ws)
    → MatchOption c (IsComplete counted (suc n) end at (record { offset = at; entry = e } ∷ ws))
    (IsStop s counted (suc n) end at left (record { offset = at; entry = e } ∷ ws))
goes_on s true n end at left e ws c fits is =
    match_map c (λ all. grind arith) (λ x stop. goes_to s true n end at left e ws x fits stop) is
goes_on s false n end at left e ws c fits is =
    let sum = sum_by-cons (λ (w : Placed). length w.entry) (record { offset = at; entry = e }) ws in
    match_map c (λ all. omega (arith, all, sum)) (λ x stop. goes_to s false n end at left e ws x fits stop) is

no_bytes : (left : List ℕ) → length left ≤ 0 → left ≡ []
no_bytes [] few = refl
no_bytes (b ∷ left) few = absurd (omega (arith, few))

-- where all the structures that were said are there, or no bytes are left
stops_last : (s : Shape) (counted : Bool) (end at : ℕ) (left : List ℕ) → (counted ≡ false → length left ≤ 0)
    → MatchOption (cut_here s counted zero end at left) (IsComplete counted zero end at [])
    (IsStop s counted zero end at left [])
stops_last s true end at left enough = refl
stops_last s false end at left enough =
    let none : left ≡ [] = no_bytes left (enough refl) in
    stops_here s false zero end at left (rw none (none_fits s))

pub cut_stops_from : (s : Shape) (counted : Bool) (n end at : ℕ) (left : List ℕ) → (counted ≡ false → length left ≤ n)
    → MatchOption (cut_from s counted n end at left) (IsComplete counted n end at (structures_from s n at left))
    (IsStop s counted n end at left (structures_from s n at left))
unfolding structures_from cut_from
cut_stops_from s counted zero end at left enough = stops_last s counted end at left enough
cut_stops_from s counted (suc n) end at left enough =
    elim (cases_Option (first_structure s left)) [
      | inr none ↦ rw none (stops_here s counted (suc n) end at left none)
      | inl (e, some) ↦
          let b = begins s left e some in
          let long = b.long in
          let fits = b.fits in
          rw some (goes_on s counted n end at left e
          (structures_from s n (at + length e) (drop (length e) left))
          (cut_from s counted n end (at + length e) (drop (length e) left)) fits
          (cut_stops_from s counted n end (at + length e) (drop (length e) left)
          (λ uncounted. let few = enough uncounted in omega (arith, few, length-drop (length e) left))))
    ]

enough : (x : Extent) (bytes : List ℕ) → is_counted x ≡ false → most_of x bytes ≡ length bytes
unfolding most_of
enough ToEnd bytes is = refl
enough (Counted count) bytes is = absurd (cc)
enough (Product rows columns) bytes is = absurd (cc)

pub cut_stops : CutStops
cut_stops s inside =
    elim (cases_Option (start_of s.start inside.entry)) [
      | inr none ↦ rw none refl
      | inl (start, some) ↦
          rw some (cut_stops_from s.shape (is_counted s.extent) (most_of s.extent inside.entry) (end_of_placed inside)
          (inside.offset + start) (drop start inside.entry)
          (λ uncounted.
          let all = enough s.extent inside.entry uncounted in
          omega (arith, all, length-drop start inside.entry)))
    ]
