-- The structures of a set, as they are collected: of those that begin at one address the first.
use Rattle.std.proofs.Common.{◌≡◌, ◌≢◌, ℕ, zero, suc, ◌+◌, ◌<◌, ◌≤◌, List, [], ◌∷◌, length, get_or, map, ◌++◌, Bool, true, false, Option, Some, None, refl, sym, ap, subst, ◌∙◌, inl, inr, arith}
use Rattle.std.specs.Prelude.{◌⊎◌, ◌↔◌, ◌==◌, if◌then◌else◌, Contains}
use Rattle.std.proofs.lemmas.Bool.{both_ways, cases_lt}
use Rattle.std.proofs.lemmas.Bool.Decides.{Decides-eqb}
use Rattle.std.proofs.lemmas.List.{append-nil, get_or_default}
use Rattle.std.proofs.lemmas.List.Elements.{Contains-append_left, Contains-get_or, Contains-push, Contains-push_cases}
use Rattle.acpi_base.specs.Fadt.{dsdt_address}
use Rattle.acpi_base.specs.Memory.{Memory, bytes_at}
use Rattle.acpi_base.specs.Policy.{new_policy}
use Rattle.acpi_base.specs.Root.{IsSlot}
use Rattle.acpi_base.specs.Signature.{has_signature}
use Rattle.acpi_base.proofs.Elements.{element_of_map, no_element}
use Rattle.acpi_base.proofs.Root.Named.{one_root, one_root_table}
use Rattle.acpi_check.proofs.EntryPasses.Kept.{map_has}
use Rattle.acpi_read.specs.Roots.{RootValue, IsCompleteRoot}
use Rattle.acpi_lint.specs.CompleteTables.{AreCompleteTables, IsLong}
use Rattle.acpi_lint.specs.Numbered.{FindsRange, begins_at, first_only, range_at}
use Rattle.acpi_lint.specs.Rules.Structures.{IsRsdpRange, IsRootRange, IsFacsRange, IsDsdtRange, IsTableRange, OfNamingFadt, IsStructure, IsFirstStructure}
use Rattle.acpi_lint.specs.Rules.Slots.{dsdt_signature}
use Rattle.acpi_lint.specs.Slots.{AreSlots, listed_address}
use Rattle.acpi_lint.specs.declared.complete_tables.CompleteTables.{CompleteTables}
use Rattle.acpi_lint.specs.declared.listed_slots.Slot.{Slot}
use Rattle.acpi_rules.specs.declared.numbered.Numbered.{Numbered}
use Rattle.acpi_lint.proofs.OfTables.{fadt_lifts}
use Rattle.acpi_rules.proofs.ComputedLists.{decides_any}
use Rattle.acpi_rules.proofs.RepeatedNumbers.{IsPassed, passed_next, passed_still, same_numbered}

-- ---- collected by their kinds

-- these are the first structures of the kinds below `end`
pub record AreFirstBelow (m : Memory) (p end : ℕ) (given : List Numbered) : Type 0 where
  pub listed : (g : Numbered) → Contains given g → (is : IsFirstStructure m p g) × (is.o < end)
  pub all : (g : Numbered) → (is : IsFirstStructure m p g) → is.o < end → Contains given g

pub none_below : (m : Memory) (p : ℕ) → AreFirstBelow m p 0 []
none_below m p =
    record { listed = λ g here. absurd (no_element g here); all = λ g is below. absurd (omega arith) }

begins : (given : List Numbered) (s : ℕ) → begins_at given s ≡ true
    → (x : Numbered) × Contains given x × (x.number ≡ s)
begins given s is = (decides_any (λ x. x.number == s) (λ x. x.number ≡ s) (λ x. Decides-eqb x.number s) given).0 is

begun : (given : List Numbered) (s : ℕ) (x : Numbered) → Contains given x → x.number ≡ s → begins_at given s ≡ true
begun given s x here is =
    (decides_any (λ x. x.number == s) (λ x. x.number ≡ s) (λ x. Decides-eqb x.number s) given).1 (x, here, is)

-- where none of these begins, no structure of these kinds does
none_begins : (m : Memory) (p end s : ℕ) (given : List Numbered) → AreFirstBelow m p end given
    → begins_at given s ≡ false → (k c : ℕ) → k < end → ¬ IsStructure m p k s c
none_begins m p end s given are none k c below = go (suc k) k c (omega arith) below
  where
    go : (bound : ℕ) (k c : ℕ) → k < bound → k < end → ¬ IsStructure m p k s c
    go zero k c less below here = omega arith
    go (suc bound) k c less below here =
        both_ways (begins_at given s) none
        (begun given s (range_at s c)
        (are.all (range_at s c) (record {
          named = refl;
          o = k;
          here = here;
          first = λ j d other. elim (cases_lt j k) [
            | inl before ↦ absurd (go bound j d (omega arith) (omega arith) other)
            | inr upto ↦ upto
          ];
        })
        below)
        refl)

-- what was found of the next kind
pub next_kind : {m : Memory} {p end : ℕ} {after : List Numbered} (given : List Numbered) (found : Option Numbered)
    → after ≡ given ++ first_only given found → AreFirstBelow m p end given → FindsRange (IsStructure m p end) found
    → AreFirstBelow m p (end + 1) after
next_kind {m} {p} {end} given None is are none =
    rw (is, append-nil given) (record {
      listed = λ g here. (let (first, below) = are.listed g here in (first, omega arith));
      all = λ g first below. elim (cases_lt first.o end) [
        | inl early ↦ are.all g first early
        | inr late ↦
            let same : first.o ≡ end = omega arith in
            absurd (none g.number g.value (subst (λ (o : ℕ). IsStructure m p o g.number g.value) same first.here))
      ];
    })
next_kind {m} {p} {end} given (Some g) is are (named, here, only) = rw is (by (begins_at given g.number) refl)
  where
    last : (x : Numbered) (first : IsFirstStructure m p x) → first.o < end + 1 → end ≤ first.o → x ≡ g
    last x first below late =
        let same : first.o ≡ end = omega arith in
        let (number, value) =
        only x.number x.value (subst (λ (o : ℕ). IsStructure m p o x.number x.value) same first.here) in
        same_numbered x g number (first.named ∙ number ∙ sym named) value

    by : (b : Bool) → begins_at given g.number ≡ b
        → AreFirstBelow m p (end + 1) (given ++ (if b then [] else g ∷ []))
    by true some =
        rw (append-nil given) (record {
          listed = λ x here. (let (first, below) = are.listed x here in (first, omega arith));
          all = λ x first below. elim (cases_lt first.o end) [
            | inl early ↦ are.all x first early
            | inr late ↦
                let (y, there, at) = begins given g.number some in
                let (other, less) = are.listed y there in
                let start = ap (λ (n : Numbered). n.number) (last x first below late) in
                let upto = first.first other.o y.value
                (subst (λ (s : ℕ). IsStructure m p other.o s y.value) (at ∙ sym start) other.here) in
                absurd (omega (arith, upto, less, late))
          ];
        })
    by false none =
        record {
          listed = λ x listed. elim (Contains-push_cases given g x listed) [
            | inl early ↦ (let (first, below) = are.listed x early in (first, omega arith))
            | inr same ↦ rw (← same) (
              record {
                named = named;
                o = end;
                here = here;
                first = λ k c other. elim (cases_lt k end) [
                  | inl before ↦ absurd (none_begins m p end g.number given are none k c before other)
                  | inr upto ↦ upto
                ];
              },
              omega arith,
            )
          ];
          all = λ x first below. elim (cases_lt first.o end) [
            | inl early ↦ Contains-append_left given (g ∷ []) x (are.all x first early)
            | inr late ↦ rw (last x first below late) (Contains-push given g)
          ];
        }

pub all_below : {m : Memory} {p end : ℕ} (given : List Numbered) → AreFirstBelow m p end given
    → ((o s n : ℕ) → IsStructure m p o s n → o < end) → (g : Numbered) → Contains given g ↔ IsFirstStructure m p g
all_below given are within g = (
  λ listed. (are.listed g listed).0,
  λ first. are.all g first (within first.o g.number g.value first.here),
)

-- ---- one structure

-- what there is at most one of
range_found : (s n : ℕ) (Is : ℕ → ℕ → Type 0) (found : Numbered) → found ≡ range_at s n → Is s n
    → ((t c : ℕ) → Is t c → (t ≡ s) × (c ≡ n)) → FindsRange Is (Some found)
range_found s n Is found same here only = rw same (refl, here, only)

-- what is found for one relation is found for another one that says the same
found_as : {A B : ℕ → ℕ → Type 0} (found : Option Numbered) → ((s n : ℕ) → A s n → B s n)
    → ((s n : ℕ) → B s n → A s n) → FindsRange A found → FindsRange B found
found_as None to from none = λ s n is. none s n (from s n is)
found_as (Some g) to from (name, here, only) =
    (name, to g.number g.value here, λ s n is. only s n (from s n is))

-- the table that a FADT names, if it is signed
pub dsdt_signed : (m : Memory) (fadt : List ℕ) (address : ℕ) (header : List ℕ) (found : Option Numbered)
    → address ≡ dsdt_address fadt → address ≢ 0 → bytes_at m address 36 ≡ Some header
    → has_signature header dsdt_signature ≡ true
    → FindsRange (λ s n. (s ≡ address) × IsTableRange m s n) found → FindsRange (IsDsdtRange m fadt) found
dsdt_signed m fadt address header found named some present signed =
    found_as found
    (λ s n (is, here). (
      λ zero. some (named ∙ zero),
      is ∙ named,
      record { header = header; header_present = rw is present; signed = signed },
      here,
    ))
    (λ s n (_, is, _, here). (is ∙ sym named, here))

-- ---- each of them among all

pub rsdp_range : (m : Memory) (p : ℕ) (found : Option Numbered) → FindsRange (IsRsdpRange m p) found
    → FindsRange (IsStructure m p 0) found
rsdp_range m p found =
    found_as found (λ s n is. inl (refl, is))
    (λ s n is. elim is [
      | inl (_, here) ↦ here
      | inr (inl (off, _)) ↦ absurd (omega (arith, off))
      | inr (inr (inl (off, _))) ↦ absurd (omega (arith, off))
      | inr (inr (inr (inl (off, _)))) ↦ absurd (omega (arith, off))
      | inr (inr (inr (inr (off, _, _)))) ↦ absurd (omega (arith, off))
    ])

root_range : (m : Memory) (p : ℕ) (found : Option Numbered) → FindsRange (IsRootRange m p) found
    → FindsRange (IsStructure m p 1) found
root_range m p found =
    found_as found (λ s n is. inr (inl (refl, is)))
    (λ s n is. elim is [
      | inl (off, _) ↦ absurd (omega (arith, off))
      | inr (inl (_, here)) ↦ here
      | inr (inr (inl (off, _))) ↦ absurd (omega (arith, off))
      | inr (inr (inr (inl (off, _)))) ↦ absurd (omega (arith, off))
      | inr (inr (inr (inr (off, _, _)))) ↦ absurd (omega (arith, off))
    ])

facs_range : (m : Memory) (p : ℕ) (found : Option Numbered)
    → FindsRange (λ s n. OfNamingFadt m p (λ fadt. IsFacsRange m fadt s n)) found
    → FindsRange (IsStructure m p 2) found
facs_range m p found =
    found_as found (λ s n is. inr (inr (inl (refl, is))))
    (λ s n is. elim is [
      | inl (off, _) ↦ absurd (omega (arith, off))
      | inr (inl (off, _)) ↦ absurd (omega (arith, off))
      | inr (inr (inl (_, here))) ↦ here
      | inr (inr (inr (inl (off, _)))) ↦ absurd (omega (arith, off))
      | inr (inr (inr (inr (off, _, _)))) ↦ absurd (omega (arith, off))
    ])

dsdt_range : (m : Memory) (p : ℕ) (found : Option Numbered)
    → FindsRange (λ s n. OfNamingFadt m p (λ fadt. IsDsdtRange m fadt s n)) found
    → FindsRange (IsStructure m p 3) found
dsdt_range m p found =
    found_as found (λ s n is. inr (inr (inr (inl (refl, is)))))
    (λ s n is. elim is [
      | inl (off, _) ↦ absurd (omega (arith, off))
      | inr (inl (off, _)) ↦ absurd (omega (arith, off))
      | inr (inr (inl (off, _))) ↦ absurd (omega (arith, off))
      | inr (inr (inr (inl (_, here)))) ↦ here
      | inr (inr (inr (inr (off, _, _)))) ↦ absurd (omega (arith, off))
    ])

-- ---- the root table

pub root_found : {m : Memory} {p : ℕ} {root : RootValue} (s n : ℕ) (found : Numbered) → IsCompleteRoot m p root
    → s ≡ root.address → n ≡ length root.bytes → found ≡ range_at s n
    → FindsRange (IsStructure m p 1) (Some found)
root_found {m} {p} {root} s n found is begin count same =
    root_range m p (Some found)
    (range_found s n (IsRootRange m p) found same
    (rw begin (root.width, root.bytes, is.named, is.table, count)) only)
  where
    only : (t c : ℕ) → IsRootRange m p t c → (t ≡ s) × (c ≡ n)
    only t c (d, whole, named, table, size) = (
      (one_root m p t d root.address root.width named is.named).0 ∙ sym begin,
      size ∙ ap (λ (bytes : List ℕ). length bytes) (one_root_table whole root.bytes named is.named table is.table)
          ∙ sym count,
    )

-- without a root table there is only the RSDP
pub rootless : {m : Memory} {p : ℕ} → ((root : RootValue) → ¬ IsCompleteRoot m p root) → (o s n : ℕ)
    → IsStructure m p o s n → o < 1
rootless none o s n (inl (is, _)) = omega (arith, is)
rootless none o s n (inr (inl (_, (d, whole, named, table, _)))) =
    absurd (none (record { address = s; width = d; bytes = whole }) (record { named = named; table = table }))
rootless none o s n (inr (inr (inl (_, (fadt, listed, _))))) =
    let first = listed.first in
    absurd (none (record { address = first.r; width = first.d; bytes = first.whole })
    (record { named = first.root; table = first.table }))
rootless none o s n (inr (inr (inr (inl (_, (fadt, listed, _)))))) =
    let first = listed.first in
    absurd (none (record { address = first.r; width = first.d; bytes = first.whole })
    (record { named = first.root; table = first.table }))
rootless none o s n (inr (inr (inr (inr (_, (k, slot), _))))) =
    absurd (none (record { address = slot.r; width = slot.d; bytes = slot.whole })
    (record { named = slot.root; table = slot.table }))

-- ---- what the FADT names

-- of the FADT that is viewed
pub facs_found : {m : Memory} {p : ℕ} {tables : CompleteTables} {view : Option (List ℕ)} {fadt : List ℕ}
    (found : Option Numbered) → AreCompleteTables m p tables → IsLong 116 tables.fadt view → view ≡ Some fadt
    → FindsRange (IsFacsRange m fadt) found → FindsRange (IsStructure m p 2) found
facs_found {m} {p} {tables} {view} {fadt} found are long is finds =
    let lifts = rw is at (fadt_lifts m (new_policy p 0) view are long) in
    facs_range m p found
    (found_as found (λ s n here. (lifts (λ bytes. IsFacsRange m bytes s n)).1 here)
    (λ s n here. (lifts (λ bytes. IsFacsRange m bytes s n)).0 here) finds)

pub dsdt_found : {m : Memory} {p : ℕ} {tables : CompleteTables} {view : Option (List ℕ)} {fadt : List ℕ}
    (found : Option Numbered) → AreCompleteTables m p tables → IsLong 116 tables.fadt view → view ≡ Some fadt
    → FindsRange (IsDsdtRange m fadt) found → FindsRange (IsStructure m p 3) found
dsdt_found {m} {p} {tables} {view} {fadt} found are long is finds =
    let lifts = rw is at (fadt_lifts m (new_policy p 0) view are long) in
    dsdt_range m p found
    (found_as found (λ s n here. (lifts (λ bytes. IsDsdtRange m bytes s n)).1 here)
    (λ s n here. (lifts (λ bytes. IsDsdtRange m bytes s n)).0 here) finds)

-- without a FADT it names nothing
pub none_named : {m : Memory} {p : ℕ} {tables : CompleteTables} {view : Option (List ℕ)}
    → AreCompleteTables m p tables → IsLong 116 tables.fadt view → view ≡ None → (given : List Numbered)
    → AreFirstBelow m p 2 given → AreFirstBelow m p 4 given
none_named {m} {p} {tables} {view} are long none given before =
    record {
      listed = λ g here. (let (first, below) = before.listed g here in (first, omega arith));
      all = λ g first below. elim (cases_lt first.o 2) [
        | inl early ↦ before.all g first early
        | inr late ↦ absurd (no first.o g.number g.value late below first.here)
      ];
    }
  where
    nothing : (P : List ℕ → Type 0) → ¬ OfNamingFadt m p P
    nothing = rw none at (fadt_lifts m (new_policy p 0) view are long)

    no : (o s n : ℕ) → 2 ≤ o → o < 4 → ¬ IsStructure m p o s n
    no o s n from below (inl (is, _)) = omega (arith, is, from)
    no o s n from below (inr (inl (is, _))) = omega (arith, is, from)
    no o s n from below (inr (inr (inl (_, here)))) = nothing (λ fadt. IsFacsRange m fadt s n) here
    no o s n from below (inr (inr (inr (inl (_, here))))) = nothing (λ fadt. IsDsdtRange m fadt s n) here
    no o s n from below (inr (inr (inr (inr (is, _, _))))) = omega (arith, is, below)

-- ---- the tables that slots list

-- one of the first i slots lists this address, at which none of these begins
abbrev pub IsPassedAddress : List Slot → List Numbered → ℕ → ℕ → Type 0
IsPassedAddress slots given i a =
    ((s : Slot) × IsPassed slots i s × (listed_address s ≡ a)) × (begins_at given a ≡ false)

pub some_slot_lists : {m : Memory} {p : ℕ} (slots : List Slot) (a : ℕ) → AreSlots m (IsSlot m p) slots
    → Contains (map listed_address slots) a → (k : ℕ) × IsSlot m p k a
some_slot_lists {m} {p} slots a are here =
    let (s, listed, is) = element_of_map listed_address slots a here in
    (s.number, subst (IsSlot m p s.number) is (are.listed s listed).0)

-- what is of no other kind is a table that a slot lists
listed_table : {m : Memory} {p o s n : ℕ} → IsStructure m p o s n → 4 ≤ o
    → (o ≡ 4) × ((k : ℕ) × IsSlot m p k s) × IsTableRange m s n
listed_table (inl (is, _)) least = absurd (omega (arith, is, least))
listed_table (inr (inl (is, _))) least = absurd (omega (arith, is, least))
listed_table (inr (inr (inl (is, _)))) least = absurd (omega (arith, is, least))
listed_table (inr (inr (inr (inl (is, _))))) least = absurd (omega (arith, is, least))
listed_table (inr (inr (inr (inr is)))) least = is

-- the address at the index is passed
address_passed : (slots : List Slot) (given : List Numbered) (i : ℕ) (s : Slot) (before after : List ℕ)
    → i < length slots → get_or slots i s ≡ s
    → ((a : ℕ) → Contains before a ↔ IsPassedAddress slots given i a)
    → ((begins_at given (listed_address s) ≡ false) × (after ≡ before ++ listed_address s ∷ []))
    ⊎ ((begins_at given (listed_address s) ≡ true) × (after ≡ before))
    → (a : ℕ) → Contains after a ↔ IsPassedAddress slots given (i + 1) a
address_passed slots given i s before after within here are next a = (there next, back next)
  where
    still : IsPassedAddress slots given i a → IsPassedAddress slots given (i + 1) a
    still ((x, passed, is), none) = ((x, passed_still slots i x passed, is), none)

    there : ((begins_at given (listed_address s) ≡ false) × (after ≡ before ++ listed_address s ∷ []))
        ⊎ ((begins_at given (listed_address s) ≡ true) × (after ≡ before))
        → Contains after a → IsPassedAddress slots given (i + 1) a
    there (inl (none, is)) listed =
        elim (Contains-push_cases before (listed_address s) a (rw is at listed)) [
          | inl early ↦ still ((are a).0 early)
          | inr same ↦
              rw (← same) ((s, (i, omega arith, here), refl), none)
        ]
    there (inr (some, is)) listed = still ((are a).0 (rw is at listed))

    back : ((begins_at given (listed_address s) ≡ false) × (after ≡ before ++ listed_address s ∷ []))
        ⊎ ((begins_at given (listed_address s) ≡ true) × (after ≡ before))
        → IsPassedAddress slots given (i + 1) a → Contains after a
    back (inl (none, is)) ((x, passed, at), fresh) =
        rw is
        (elim (passed_next slots i s x within here passed) [
          | inl early ↦ Contains-append_left before (listed_address s ∷ []) a ((are a).1 ((x, early, at), fresh))
          | inr same ↦
              rw (sym at ∙ ap listed_address same) (Contains-push before (listed_address s))
        ])
    back (inr (some, is)) ((x, passed, at), fresh) =
        rw is
        (elim (passed_next slots i s x within here passed) [
          | inl early ↦ (are a).1 ((x, early, at), fresh)
          | inr same ↦
              absurd (both_ways (begins_at given (listed_address s))
              (subst (λ (n : ℕ). begins_at given n ≡ false) (sym at ∙ ap listed_address same) fresh) some)
        ])

-- the same for the slot at the index, by whether one of these begins at its address
pub slot_passed : (d : Slot) {b : Bool} (slots : List Slot) (given : List Numbered) (i : ℕ) (before after : List ℕ)
    → b ≡ begins_at given (listed_address (get_or slots i d)) → i < length slots
    → ((a : ℕ) → Contains before a ↔ IsPassedAddress slots given i a)
    → ((b ≡ false) × (after ≡ before ++ listed_address (get_or slots i d) ∷ [])) ⊎ ((b ≡ true) × (after ≡ before))
    → (a : ℕ) → Contains after a ↔ IsPassedAddress slots given (i + 1) a
slot_passed d {b} slots given i before after tells within are next =
    address_passed slots given i (get_or slots i d) before after within
    (get_or_default slots i (get_or slots i d) d within) are
    (elim next [
      | inl (none, is) ↦ inl (sym tells ∙ none, is)
      | inr (some, is) ↦ inr (sym tells ∙ some, is)
    ])

-- these are addresses that slots list, all at which no structure of another kind begins
pub record AreFurther (m : Memory) (p : ℕ) (addresses : List ℕ) : Type 0 where
  pub lists : (a : ℕ) → Contains addresses a → (k : ℕ) × IsSlot m p k a
  pub fresh : (a : ℕ) → Contains addresses a → (k c : ℕ) → k < 4 → ¬ IsStructure m p k a c
  pub all : (g : Numbered) → (is : IsFirstStructure m p g) → 4 ≤ is.o → Contains addresses g.number

pub are_further : {m : Memory} {p : ℕ} (slots : List Slot) (given : List Numbered) (addresses : List ℕ)
    → AreSlots m (IsSlot m p) slots → AreFirstBelow m p 4 given
    → ((a : ℕ) → Contains addresses a ↔ (Contains (map listed_address slots) a × (begins_at given a ≡ false)))
    → AreFurther m p addresses
are_further {m} {p} slots given addresses are before same =
    record {
      lists = λ a here. some_slot_lists slots a are ((same a).0 here).0;
      fresh = λ a here. none_begins m p 4 a given before ((same a).0 here).1;
      all = λ g is late.
          let (kind, (k, lists), table) = listed_table is.here late in
          let (x, listed, _, address) = are.all k g.number lists in
          (same g.number).1 (
            subst (Contains (map listed_address slots)) address (map_has listed_address slots x listed),
            fresh_at g is late (begins_at given g.number) refl,
          );
    }
  where
    fresh_at : (g : Numbered) (is : IsFirstStructure m p g) → 4 ≤ is.o → (b : Bool) → begins_at given g.number ≡ b
        → b ≡ false
    fresh_at g is late false none = refl
    fresh_at g is late true some =
        let (y, there, at) = begins given g.number some in
        let (other, less) = before.listed y there in
        let upto = is.first other.o y.value (subst (λ (s : ℕ). IsStructure m p other.o s y.value) at other.here) in
        absurd (omega (arith, upto, less, late))

-- these are the first structures of the kinds below 4, and the tables at the first i addresses
pub record AreStructuresBefore (m : Memory) (p : ℕ) (addresses : List ℕ) (i : ℕ) (given : List Numbered) : Type 0 where
  pub further : AreFurther m p addresses
  pub listed : (g : Numbered) → Contains given g → IsFirstStructure m p g
  pub early : (g : Numbered) → (is : IsFirstStructure m p g) → is.o < 4 → Contains given g
  pub tables : (g : Numbered) → IsFirstStructure m p g → (j : ℕ) → j < i → get_or addresses j 0 ≡ g.number
      → Contains given g

pub no_tables_yet : {m : Memory} {p : ℕ} (addresses : List ℕ) (given : List Numbered) → AreFirstBelow m p 4 given
    → AreFurther m p addresses → AreStructuresBefore m p addresses 0 given
no_tables_yet addresses given are further =
    record {
      further = further;
      listed = λ g here. (are.listed g here).0;
      early = are.all;
      tables = λ g is j before. absurd (omega (arith, before));
    }

-- the first structure at an address at which none of another kind begins is a table
table_at : (m : Memory) (p a : ℕ) (g : Numbered) → ((k c : ℕ) → k < 4 → ¬ IsStructure m p k a c)
    → IsFirstStructure m p g → a ≡ g.number → IsTableRange m a g.value
table_at m p a g fresh is at =
    elim (cases_lt is.o 4) [
      | inl below ↦
          absurd (fresh is.o g.value below (subst (λ (s : ℕ). IsStructure m p is.o s g.value) (sym at) is.here))
      | inr least ↦
          let (_, _, table) = listed_table is.here least in
          subst (λ (s : ℕ). IsTableRange m s g.value) (sym at) table
    ]

-- no table is at the next address
pub no_table : {m : Memory} {p : ℕ} {given : List Numbered} (addresses : List ℕ) (i : ℕ) → i < length addresses
    → AreStructuresBefore m p addresses i given
    → FindsRange (λ s n. (s ≡ get_or addresses i 0) × IsTableRange m s n) None
    → AreStructuresBefore m p addresses (i + 1) given
no_table {m} {p} {given} addresses i within before none =
    record {
      further = before.further;
      listed = before.listed;
      early = before.early;
      tables = λ g is j below at. elim (cases_lt j i) [
        | inl early ↦ before.tables g is j early at
        | inr late ↦
            let same : i ≡ j = omega (arith, late, below) in
            let here : get_or addresses i 0 ≡ g.number = ap (λ (k : ℕ). get_or addresses k 0) same ∙ at in
            absurd (none (get_or addresses i 0) g.value (
              refl,
              table_at m p (get_or addresses i 0) g
                  (before.further.fresh (get_or addresses i 0) (Contains-get_or addresses i 0 within)) is here,
            ))
      ];
    }

-- the table at the next address
pub table_passed : {m : Memory} {p : ℕ} {given : List Numbered} (addresses : List ℕ) (i : ℕ) (g : Numbered)
    → i < length addresses → AreStructuresBefore m p addresses i given
    → FindsRange (λ s n. (s ≡ get_or addresses i 0) × IsTableRange m s n) (Some g)
    → AreStructuresBefore m p addresses (i + 1) (given ++ g ∷ [])
table_passed {m} {p} {given} addresses i g within before (named, (start, table), only) =
    record {
      further = before.further;
      listed = λ x here. elim (Contains-push_cases given g x here) [
        | inl early ↦ before.listed x early
        | inr same ↦ rw (← same) (record {
          named = named;
          o = 4;
          here = inr (inr (inr (inr (refl, rw start (before.further.lists a inside), table))));
          first = λ k c other. elim (cases_lt k 4) [
            | inl below ↦
                absurd (fresh k c below (subst (λ (s : ℕ). IsStructure m p k s c) start other))
            | inr least ↦ least
          ];
        })
      ];
      early = λ x is below. Contains-append_left given (g ∷ []) x (before.early x is below);
      tables = λ x is j below at. elim (cases_lt j i) [
        | inl early ↦ Contains-append_left given (g ∷ []) x (before.tables x is j early at)
        | inr late ↦
            let same : i ≡ j = omega (arith, late, below) in
            let here : a ≡ x.number = ap (λ (k : ℕ). get_or addresses k 0) same ∙ at in
            let (number, value) = only a x.value (refl, table_at m p a x fresh is here) in
            rw (same_numbered x g (sym here ∙ number) (is.named ∙ sym here ∙ number ∙ sym named) value)
            (Contains-push given g)
      ];
    }
  where
    a : ℕ
    a = get_or addresses i 0

    inside : Contains addresses a
    inside = Contains-get_or addresses i 0 within

    fresh : (k c : ℕ) → k < 4 → ¬ IsStructure m p k a c
    fresh = before.further.fresh a inside

pub all_passed : {m : Memory} {p : ℕ} (addresses : List ℕ) (i : ℕ) (given : List Numbered) → length addresses ≤ i
    → AreStructuresBefore m p addresses i given → (g : Numbered) → Contains given g ↔ IsFirstStructure m p g
all_passed {m} {p} addresses i given done before g = (before.listed g, there)
  where
    there : IsFirstStructure m p g → Contains given g
    there is =
        elim (cases_lt is.o 4) [
          | inl below ↦ before.early g is below
          | inr least ↦
              let (j, within, at) = before.further.all g is least in
              before.tables g is j (omega (arith, within, done)) (get_or_default addresses j 0 g.number within ∙ at)
        ]
