-- A pass over the entries of a table that give values to keys: it keeps the first value of each key, and stops at the
-- first entry that gives its key another value.
use Rattle.std.proofs.Common.{◌≡◌, ℕ, zero, suc, ◌<◌, ◌≤◌, List, [], ◌∷◌, replicate, Option, Some, None, refl, sym, ◌∙◌, ap, subst, inl, inr, arith}
use Rattle.std.specs.Prelude.{◌⊎◌, ◌≢◌, slice_set}
use Rattle.std.specs.List.{slice_get}
use Rattle.std.proofs.lemmas.List.{get_or-replicate, get_or-set_same, length-set, length-replicate}
use Rattle.std.proofs.lemmas.Option.{none-some, same_Some, slice_get_within, slice_get-get_or, get_or_from_slice_get}
use Rattle.std.proofs.Math.Nat.{eq-or-lt_of_le}
use Rattle.acpi_base.specs.Entries.{PlacedEntry, Stands, StandsWith}
use Rattle.acpi_base.proofs.Elements.{first_element, later_element}
use Rattle.acpi_base.proofs.Faults.Deciding.{same}
use Rattle.acpi_base.specs.Faults.{NotAfter}
use Rattle.acpi_base.specs.declared.code.Code.{Code}
use Rattle.acpi_check.specs.FirstSeen.{IsGiven, HasFirst, HasNone, PassesGiven, IsOther, IsFirstOther, FindsOther}
use Rattle.acpi_check.specs.declared.first_seen.FirstSeen.{FirstSeen}
use Rattle.acpi_check.specs.declared.first_seen.Given.{Given}
use Rattle.acpi_check.specs.declared.first_seen.OtherValue.{OtherValue}
use Rattle.acpi_check.proofs.EntryPasses.Kept.{AreRising}
use Rattle.acpi_check.proofs.EntryPasses.Passes.{HasPassed, none_passed, one_more, before_or_behind, left_behind, next_stands, all_passed}

-- ---- the first values that are kept

one_first : (firsts : List (Option FirstSeen)) (k : ℕ) (f g : FirstSeen) → HasFirst firsts k f → HasFirst firsts k g
    → f ≡ g
one_first firsts k f g one other = same_Some f g (same_Some (Some f) (Some g) (sym one ∙ other))

no_first : (firsts : List (Option FirstSeen)) (k : ℕ) (f : FirstSeen) → HasNone firsts k → ¬ HasFirst firsts k f
no_first firsts k f none one = none-some f (same_Some None (Some f) (sym none ∙ one))

none_kept : (n k : ℕ) (f : FirstSeen) → ¬ HasFirst (replicate n None) k f
none_kept n k f one =
    grind (
      arith,
      none-some,
      slice_get_within,
      length-replicate,
      get_or_from_slice_get (replicate n None) k (Some f) None one,
      get_or-replicate,
    )

kept_now : (firsts : List (Option FirstSeen)) (k : ℕ) (f : FirstSeen) → HasNone firsts k
    → HasFirst (slice_set firsts k (Some f)) k f
kept_now firsts k f none =
    grind (
      arith,
      slice_get_within firsts k None none,
      length-set,
      slice_get-get_or (slice_set firsts k (Some f)) k None,
      get_or-set_same firsts k (Some f) None,
    )

set_other : {X : Type 0} (xs : List X) (i j : ℕ) (y : X) → j ≢ i → slice_get (slice_set xs i y) j ≡ slice_get xs j
set_other [] i j y differ = refl
set_other (x ∷ xs) zero zero y differ = absurd (differ refl)
set_other (x ∷ xs) zero (suc j) y differ = refl
set_other (x ∷ xs) (suc i) zero y differ = refl
set_other (x ∷ xs) (suc i) (suc j) y differ = set_other xs i j y (λ same. differ (ap suc same))

kept_still : (firsts : List (Option FirstSeen)) (k l : ℕ) (f g : FirstSeen) → HasNone firsts k → HasFirst firsts l g
    → HasFirst (slice_set firsts k (Some f)) l g
kept_still firsts k l f g none one =
    set_other firsts k l (Some f) (λ same. no_first firsts k g none (subst (λ n. HasFirst firsts n g) same one)) ∙ one

kept_before : (firsts : List (Option FirstSeen)) (k l : ℕ) (f g : FirstSeen) → HasNone firsts k
    → HasFirst (slice_set firsts k (Some f)) l g → ((l ≡ k) × (g ≡ f)) ⊎ HasFirst firsts l g
kept_before firsts k l f g none one =
    elim (same l k) [
      | inl is ↦ inl (
        is,
        one_first (slice_set firsts k (Some f)) k g f
            (subst (λ n. HasFirst (slice_set firsts k (Some f)) n g) is one) (kept_now firsts k f none),
      )
      | inr differ ↦ inr (sym (set_other firsts k l (Some f) differ) ∙ one)
    ]

-- an entry gives one key a value, at most
abbrev pub GivesOne : {E : Type 0} → (ℕ → ℕ → E → Type 0) → Type 0
GivesOne {E} Gives = (e : E) (i j d h : ℕ) → Gives i d e → Gives j h e → (i ≡ j) × (d ≡ h)

pub in_order : (c : Code) (at other point p o i : ℕ) → (at < p) ⊎ ((at ≡ p) × (other ≤ o) × (point ≡ i))
    → NotAfter (record { code = c; at = at; other = other; point = point })
    (record { code = c; at = p; other = o; point = i })
in_order c at other point p o i (inl behind) = inl behind
in_order c at other point p o i (inr (same, most, key)) =
    inr (same, inr (refl, elim (eq-or-lt_of_le most) [ inl one ↦ inr (one, omega arith) | inr less ↦ inl less ]))

-- ---- the pass

-- the entry at o, which was passed, gives its key the value that the first one gives, which is there or before
abbrev pub Agrees : {E : Type 0} → (ℕ → ℕ → E → Type 0) → List (Option FirstSeen) → ℕ → E → Type 0
Agrees Gives firsts o e =
    (k d : ℕ) → Gives k d e → (f : FirstSeen) × HasFirst firsts k f × (f.value ≡ d) × (f.offset ≤ o)

-- the pass has these entries left, and of each key the first value is kept of the entries before them
pub record IsAt {E : Type 0} (Gives : ℕ → ℕ → E → Type 0) (entries left : List (PlacedEntry E))
    (firsts : List (Option FirstSeen)) : Type 0 where
  pub pass : HasPassed entries left (Agrees Gives firsts)
  pub first : (k : ℕ) (f : FirstSeen) → HasFirst firsts k f → StandsWith entries f.offset (Gives k f.value)
  pub before : (k p : ℕ) (f : FirstSeen) (e : E) → HasFirst firsts k f → Stands left p e → f.offset < p

pub at_first : {E : Type 0} (Gives : ℕ → ℕ → E → Type 0) (low n : ℕ) {entries : List (PlacedEntry E)}
    → AreRising low entries → IsAt Gives entries entries (replicate n None)
at_first Gives low n rises =
    record {
      pass = none_passed low (Agrees Gives (replicate n None)) rises;
      first = λ k f kept. absurd (none_kept n k f kept);
      before = λ k p f e kept stands. absurd (none_kept n k f kept);
    }

-- the first values come before the next entry
first_before : {E : Type 0} {Gives : ℕ → ℕ → E → Type 0} {entries : List (PlacedEntry E)} {s : PlacedEntry E}
    {left : List (PlacedEntry E)} {firsts : List (Option FirstSeen)}
    → IsAt Gives entries (s ∷ left) firsts → (k : ℕ) (f : FirstSeen) → HasFirst firsts k f → f.offset < s.offset
first_before {s = s} {left = left} here k f kept = here.before k s.offset f s.entry kept (first_element s left)

-- past an entry that changes nothing
same_firsts : {E : Type 0} {Gives : ℕ → ℕ → E → Type 0} {entries : List (PlacedEntry E)} {s : PlacedEntry E}
    {left : List (PlacedEntry E)} {firsts : List (Option FirstSeen)}
    → IsAt Gives entries (s ∷ left) firsts → Agrees Gives firsts s.offset s.entry → IsAt Gives entries left firsts
same_firsts {s = s} {left = left} here agrees =
    record {
      pass = one_more here.pass agrees (λ o e before holds. holds);
      first = here.first;
      before = λ k p f e kept stands. here.before k p f e kept (later_element s _ left stands);
    }

-- past the first value of a key
new_first : {E : Type 0} {Gives : ℕ → ℕ → E → Type 0} {entries : List (PlacedEntry E)} {s : PlacedEntry E}
    {left : List (PlacedEntry E)} (firsts : List (Option FirstSeen)) → GivesOne Gives
    → IsAt Gives entries (s ∷ left) firsts
    → (k d : ℕ) → Gives k d s.entry → HasNone firsts k
    → IsAt Gives entries left (slice_set firsts k (Some (record { offset = s.offset; value = d })))
new_first {E} {Gives} {entries} {s} {left} firsts one here k d mine none =
    record {
      pass = one_more here.pass
          (λ l h gives.
          let (key, value) = one s.entry k l d h mine gives in (
            f,
            subst (λ (n : ℕ). HasFirst (slice_set firsts k (Some f)) n f) key (kept_now firsts k f none),
            value,
            omega arith,
          ))
          (λ o e before holds l h gives.
          let (g, kept, value, least) = holds l h gives in (g, kept_still firsts k l f g none kept, value, least));
      first = λ l g kept.
          elim (kept_before firsts k l f g none kept) [
            | inr earlier ↦ here.first l g earlier
            | inl (here_too, is_first) ↦ rw (here_too, is_first) (s.entry, next_stands here.pass, mine)
          ];
      before = λ l p g e kept stands.
          elim (kept_before firsts k l f g none kept) [
            | inl (here_too, is_first) ↦
                omega (arith, ap (λ (x : FirstSeen). x.offset) is_first, left_behind here.pass p e stands)
            | inr earlier ↦ here.before l p g e earlier (later_element s _ left stands)
          ];
    }
  where
    f : FirstSeen
    f = record { offset = s.offset; value = d }

-- past an entry that gives no key a value, or one with which the first one agrees
pub at_next : {E : Type 0} {Gives : ℕ → ℕ → E → Type 0} {entries : List (PlacedEntry E)} {s : PlacedEntry E}
    {left : List (PlacedEntry E)} (firsts now : List (Option FirstSeen)) → GivesOne Gives
    → IsAt Gives entries (s ∷ left) firsts
    → (given : Option Given) → IsGiven Gives s.entry given → PassesGiven firsts now s.offset given None
    → IsAt Gives entries left now
at_next {E} {Gives} {entries} {s} {left} firsts now one here None none same =
    subst (IsAt Gives entries left) (sym same) (same_firsts here (λ k d gives. absurd (none k d gives)))
at_next {E} {Gives} {entries} {s} {left} firsts now one here (Some given) mine (inl new) =
    subst (IsAt Gives entries left) (sym new.kept) (new_first firsts one here given.key given.value mine new.none)
at_next {E} {Gives} {entries} {s} {left} firsts now one here (Some given) mine (inr like) =
    subst (IsAt Gives entries left) (sym like.kept) (same_firsts here (λ k d gives.
    let (key, value) = one s.entry given.key k given.value d mine gives in (
      like.first,
      subst (λ (n : ℕ). HasFirst firsts n like.first) key like.listed,
      like.same ∙ value,
      omega (arith, first_before here given.key like.first like.listed),
    )))

-- ---- where it stops

one_value : {E : Type 0} (Gives : ℕ → ℕ → E → Type 0) (firsts : List (Option FirstSeen)) → (o p k d h : ℕ) (e b : E)
    → Agrees Gives firsts o e → Agrees Gives firsts p b → Gives k d e → Gives k h b → d ≡ h
one_value Gives firsts o p k d h e b one other gives also =
    let (f, kept, is, _) = one k d gives in
    let (g, kept_too, is_too, _) = other k h also in
    sym is ∙ ap (λ (x : FirstSeen). x.value) (one_first firsts k f g kept kept_too) ∙ is_too

-- the pass stops at the first entry that gives its key another value
pub stops : {E : Type 0} {Gives : ℕ → ℕ → E → Type 0} {entries : List (PlacedEntry E)} {s : PlacedEntry E}
    {left : List (PlacedEntry E)} (firsts now : List (Option FirstSeen)) → GivesOne Gives
    → IsAt Gives entries (s ∷ left) firsts
    → (given : Option Given) → IsGiven Gives s.entry given → (found : OtherValue)
    → PassesGiven firsts now s.offset given (Some found) → IsFirstOther Gives entries found
stops firsts now one here None none found wrong = absurd wrong
stops {E} {Gives} {entries} {s} {left} firsts now one here (Some given) mine found unlike =
    rw unlike.is (record {
      other = (
        given.value,
        f.value,
        (s.entry, next_stands here.pass, mine),
        here.first given.key f unlike.listed,
        first_before here given.key f unlike.listed,
        λ is. unlike.differ (sym is),
      );
      first = after;
    })
  where
    f : FirstSeen
    f = unlike.first

    after : (p o k : ℕ) → IsOther Gives entries p o k
        → (s.offset < p) ⊎ ((s.offset ≡ p) × (f.offset ≤ o) × (given.key ≡ k))
    after p o k (d, h, (e, stands, gives), (b, also, gives_too), before, differ) =
        elim (before_or_behind here.pass o b also) [
          | inr (inl (same_place, _)) ↦
              elim (before_or_behind here.pass p e stands) [
                | inr (inr behind) ↦ inl behind
                | inr (inl (too, _)) ↦ absurd (omega arith)
                | inl (earlier, _) ↦ absurd (omega arith)
              ]
          | inr (inr later) ↦
              elim (before_or_behind here.pass p e stands) [
                | inr (inr behind) ↦ inl behind
                | inr (inl (too, _)) ↦ absurd (omega arith)
                | inl (earlier, _) ↦ absurd (omega arith)
              ]
          | inl (_, agrees) ↦
              elim (before_or_behind here.pass p e stands) [
                | inr (inr behind) ↦ inl behind
                | inl (_, agrees_too) ↦ absurd
                    (differ (one_value Gives firsts p o k d h e b agrees_too agrees gives gives_too))
                | inr (inl (same_place, entry)) ↦
                    let (key, _) = one s.entry given.key k given.value d mine (subst (Gives k d) entry gives) in
                    let (g, kept, _, least) = agrees k h gives_too in
                    let is_first = one_first firsts k f g (subst (λ (n : ℕ). HasFirst firsts n f) key unlike.listed)
                    kept in
                    inr (sym same_place, omega (arith, ap (λ (x : FirstSeen). x.offset) is_first), key)
              ]
        ]

pub ends : {E : Type 0} {Gives : ℕ → ℕ → E → Type 0} {entries : List (PlacedEntry E)} (firsts : List (Option FirstSeen))
    → IsAt Gives entries [] firsts → FindsOther Gives entries None
ends {Gives = Gives} firsts here o p k d h (e, stands, gives) (b, also, gives_too) =
    one_value Gives firsts o p k d h e b (all_passed here.pass o e stands) (all_passed here.pass p b also) gives
    gives_too
