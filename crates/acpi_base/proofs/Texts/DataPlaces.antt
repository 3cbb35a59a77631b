-- The address of each byte of a text's data, found line by line.
use Rattle.std.proofs.Common.{◌≡◌, ◌⊎◌, inl, inr, ℕ, zero, suc, ◌+◌, ◌-◌, ◌<◌, List, [], ◌∷◌, ◌++◌, length, refl, sym, ap, subst, arith, if◌then◌else◌, length-append}
use Rattle.std.proofs.lemmas.Bool.{cases_lt, lt-ltb, le-ltb}
use Rattle.std.specs.Prelude.{Option, None, Some, nat_lt, ◌↔◌}
use Rattle.std.specs.Option.{option_map}
use Rattle.std.specs.List.{Contains}
use Rattle.acpi_base.specs.Text.ImageText.{Line, Blank, Address, Data, Bad}
use Rattle.acpi_base.specs.Text.TextMeaning.{data_of, all_data, IsDataByteAt}
use Rattle.acpi_base.proofs.Images.DataImages.{first_then, first_here, first_later, first_cases}

-- the address of byte n of the lines' data, if it has one; `next` is the next address before them
abbrev pub place_of : Option ℕ → List Line → ℕ → Option ℕ
place_of next [] n = None
place_of next (Blank ∷ rest) n = place_of next rest n
place_of next (Address address ∷ rest) n = place_of (Some address) rest n
place_of next (Data bytes ∷ rest) n =
    first_then next (length bytes) (place_of (option_map (λ a. a + length bytes) next) rest) n
place_of next (Bad ∷ rest) n = place_of next rest n

-- ---- from the parts of a text to the place

place_behind : (next : Option ℕ) (before : List Line) (address : ℕ) (more : List Line) (k : ℕ)
    → place_of next (before ++ Address address ∷ more) (length (all_data before) + k) ≡ place_of (Some address) more k
place_behind next [] address more k = let q : 0 + k ≡ k = omega arith in rw q refl
place_behind next (Address other ∷ before) address more k = place_behind (Some other) before address more k
place_behind next (Data bytes ∷ before) address more k =
    grind (
      arith,
      length-append,
      first_later,
      place_behind (option_map (λ a. a + length bytes) next) before address more
          k,
    )
place_behind next (line ∷ before) address more k = place_behind next before address more k

abbrev NoAddress : List Line → Type 0
NoAddress lines = (other : ℕ) → ¬ Contains lines (Address other)

no_address_rest : (line : Line) (lines : List Line) → NoAddress (line ∷ lines) → NoAddress lines
no_address_rest line lines none other c = none other (suc c.0, omega (arith, c.1), c.2)

place_inside : (address : ℕ) (block back : List Line) (k : ℕ) → NoAddress block → k < length (all_data block)
    → place_of (Some address) (block ++ back) k ≡ Some (address + k)
place_inside address [] back k none h = absurd (omega arith)
place_inside address (Address other ∷ block) back k none h = absurd (none other (0, omega arith, refl))
place_inside address (Data bytes ∷ block) back k none h =
    let rest = place_inside (address + length bytes) block back (k - length bytes)
    (no_address_rest (Data bytes) block none) in
    grind (
      arith,
      cases_lt k (length bytes),
      length-append,
      first_here,
      first_later (Some address) (length bytes) (place_of (Some (address + length bytes)) (block ++ back))
          (k - length bytes),
      rest,
    )
place_inside address (line ∷ block) back k none h =
    place_inside address block back k (no_address_rest line block none) h

place_from_stands : (lines : List Line) (n a : ℕ) → IsDataByteAt lines n a → place_of None lines n ≡ Some a
place_from_stands lines n a s = grind (arith, place_behind, place_inside)

-- ---- and back

-- the lines with the next address given before them
abbrev said_next : Option ℕ → List Line → List Line
said_next None lines = lines
said_next (Some address) lines = Address address ∷ lines

block_more : (line : Line) (block : List Line) → ((other : ℕ) → line ≡ Address other → ⊥) → NoAddress block
    → NoAddress (line ∷ block)
block_more line block here rest other (zero, h, e) = here other e
block_more line block here rest other (suc k, h, e) = rest other (k, omega arith, e)

stands_at : (lines before block after : List Line) (n a address k : ℕ)
    → lines ≡ before ++ Address address ∷ (block ++ after) → NoAddress block → k < length (all_data block)
    → n ≡ length (all_data before) + k → a ≡ address + k → IsDataByteAt lines n a
stands_at lines before block after n a address k split none within byte place = grind (arith)

line_before : (line : Line) (lines : List Line) (n k a : ℕ) → n ≡ length (data_of line) + k → IsDataByteAt lines k a
    → IsDataByteAt (line ∷ lines) n a
line_before line lines n k a q s =
    let byte : n ≡ length (all_data (line ∷ s.before)) + s.k =
    grind (arith, length-append (data_of line) (all_data s.before), s.byte) in
    stands_at _ (line ∷ s.before) s.block s.after n a s.address s.k (ap (λ x. line ∷ x) s.split) s.no_other s.within
    byte s.place

-- one more line directly after the first address line
line_behind : (line : Line) (address later : ℕ) (lines : List Line) (n k a : ℕ)
    → ((other : ℕ) → line ≡ Address other → ⊥) → n ≡ length (data_of line) + k → later ≡ address + length (data_of line)
    → IsDataByteAt (Address later ∷ lines) k a → IsDataByteAt (Address address ∷ line ∷ lines) n a
line_behind line address later lines n k a other q at s = by_before s.before s.split s.byte
  where
    by_before : (before : List Line) → Address later ∷ lines ≡ before ++ Address s.address ∷ (s.block ++ s.after)
        → k ≡ length (all_data before) + s.k → IsDataByteAt (Address address ∷ line ∷ lines) n a
    by_before [] split byte =
        let same : lines ≡ s.block ++ s.after = cc in
        let start : later ≡ s.address = cc in
        let within : length (data_of line) + s.k < length (all_data (line ∷ s.block)) =
        (let h = s.within in omega (arith, length-append (data_of line) (all_data s.block))) in
        stands_at _ [] (line ∷ s.block) s.after n a address (length (data_of line) + s.k)
        (ap (λ x. Address address ∷ line ∷ x) same) (block_more line s.block other s.no_other) within (omega arith)
        (let h = s.place in omega arith)
    by_before (first ∷ before) split byte =
        let same : lines ≡ before ++ Address s.address ∷ (s.block ++ s.after) = cc in
        let none : Address later ≡ first = cc in
        let rest : k ≡ length (all_data before) + s.k = rw (sym none) at byte in
        let more : n ≡ length (all_data (Address address ∷ line ∷ before)) + s.k =
        omega (arith, length-append (data_of line) (all_data before)) in
        stands_at _ (Address address ∷ line ∷ before) s.block s.after n a s.address s.k
        (ap (λ x. Address address ∷ line ∷ x) same) s.no_other s.within more s.place

stands_more : (line : Line) (next : Option ℕ) (lines : List Line) (n k a : ℕ) → ((other : ℕ) → line ≡ Address other → ⊥)
    → n ≡ length (data_of line) + k
    → IsDataByteAt (said_next (option_map (λ x. x + length (data_of line)) next) lines) k a
    → IsDataByteAt (said_next next (line ∷ lines)) n a
stands_more line None lines n k a other q s = line_before line lines n k a q s
stands_more line (Some address) lines n k a other q s =
    line_behind line address (address + length (data_of line)) lines n k a other q refl s

no_step : (next : Option ℕ) → next ≡ option_map (λ x. x + 0) next
no_step None = refl
no_step (Some a) = ap Some (omega arith)

first_stands : (bytes : List ℕ) (next : Option ℕ) (rest : List Line) (n a : ℕ) → n < length bytes
    → option_map (λ x. x + n) next ≡ Some a → IsDataByteAt (said_next next (Data bytes ∷ rest)) n a
first_stands bytes None rest n a within e = absurd (cc)
first_stands bytes (Some address) rest n a within e =
    let same : address + n ≡ a = cc in
    let inside : n < length (all_data (Data bytes ∷ [])) = omega (arith, length-append bytes []) in
    stands_at _ [] (Data bytes ∷ []) rest n a address n refl
    (block_more (Data bytes) [] (λ other f. cc) (λ other c. absurd (omega (arith, c.1)))) inside (omega arith)
    (sym same)

stands_from_place : (next : Option ℕ) (lines : List Line) (n a : ℕ) → place_of next lines n ≡ Some a
    → IsDataByteAt (said_next next lines) n a
stands_from_place next [] n a e = absurd (cc)
stands_from_place next (Blank ∷ rest) n a e =
    stands_more Blank next rest n n a (λ other f. cc) (omega arith)
    (subst (λ x. IsDataByteAt (said_next x rest) n a) (no_step next) (stands_from_place next rest n a e))
stands_from_place None (Address address ∷ rest) n a e = stands_from_place (Some address) rest n a e
stands_from_place (Some other) (Address address ∷ rest) n a e =
    line_before (Address other) (Address address ∷ rest) n n a (omega arith)
    (stands_from_place (Some address) rest n a e)
stands_from_place next (Data bytes ∷ rest) n a e =
    let later = option_map (λ x. x + length bytes) next in
    elim (first_cases next (length bytes) (place_of later rest) n a e) [
      | inl h ↦ first_stands bytes next rest n a h.0 h.1
      | inr h ↦ stands_more (Data bytes) next rest n h.0 a (λ other f. cc) h.1 (stands_from_place later rest h.0 a h.2)
    ]
stands_from_place next (Bad ∷ rest) n a e =
    stands_more Bad next rest n n a (λ other f. cc) (omega arith)
    (subst (λ x. IsDataByteAt (said_next x rest) n a) (no_step next) (stands_from_place next rest n a e))

pub stands_is_place : (lines : List Line) (n a : ℕ) → IsDataByteAt lines n a ↔ (place_of None lines n ≡ Some a)
stands_is_place lines n a = (place_from_stands lines n a, stands_from_place None lines n a)
