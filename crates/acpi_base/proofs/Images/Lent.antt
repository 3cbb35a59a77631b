-- What an image has that borrows some of its bytes.
use Rattle.std.proofs.Common.{◌≡◌, ◌⊎◌, inl, inr, ℕ, zero, suc, ◌+◌, ◌-◌, ◌^◌, ◌<◌, ◌≤◌, List, [], ◌∷◌, ◌++◌, length, get_or, cond, Option, Some, None, IsSome, is_some, refl, sym, ap, subst, ◌∙◌, arith, add-zero}
use Rattle.std.specs.List.{AllByRecursion}
use Rattle.std.specs.Option.{option_map, option_or}
use Rattle.std.specs.Prelude.{IfSome, min, nat_lt, Result, Ok, Err, OnErr}
use Rattle.std.specs.FinMap.{empty, get-empty}
use Rattle.std.specs.Ordering.{nat_cmp}
use Rattle.std.proofs.lemmas.Bool.Decides.{nat_tests}
use Rattle.std.proofs.lemmas.Bool.{cases_lt}
use Rattle.acpi_base.specs.Memory.{Memory, byte_of, with_bytes, run_of, cons_both, IsImage}
use Rattle.acpi_base.specs.Image.Lent.{AreApart, AreLent, AreParts, AreRunsApart, lower, memory_of_parts, runs_of_parts}
use Rattle.acpi_base.specs.Image.Runs.{Run, run_at, byte_in, end_of, lookup, memory_of, IsComplete}
use Rattle.acpi_base.specs.Image.Segments.{IsGap, IsRest, IsValid, runs_of, memory_in}
use Rattle.acpi_base.specs.Number.{byte_sum}
use Rattle.acpi_base.specs.declared.image.parts.Parts.{Parts}
use Rattle.acpi_base.specs.declared.image.segments.Segments.{Segments}
use Rattle.acpi_base.proofs.Images.ByteRuns.{run_of-agree, run_of-each}
use Rattle.acpi_base.proofs.Images.Holders.{all_push}
use Rattle.acpi_base.proofs.Images.LentRuns.{none_from}
use Rattle.acpi_base.proofs.Images.RunBytes.{present_none, present_at, present_inside, byte_of_memory_of, byte_of-with_bytes}
use Rattle.acpi_base.proofs.Images.RunMemory.{first_present_in, fits_unless, image_of, no_bytes, no_refusal, same_memory}
use Rattle.acpi_base.proofs.Images.Searches.{nothing_present}

-- what one or the other has
abbrev pub either : (ℕ → Option ℕ) → (ℕ → Option ℕ) → ℕ → Option ℕ
either f g x = option_or (f x) (g x)

pub lookup-append : (rs qs : List Run) (x : ℕ) → lookup (rs ++ qs) x ≡ either (lookup rs) (lookup qs) x
lookup-append [] qs x = refl
lookup-append (r ∷ rs) qs x = grind (arith, lookup-append rs qs x)

-- ---- a run of bytes is in one of them

run_in_first : (f g : ℕ → Option ℕ) (a n : ℕ) → AreApart f g → IsSome (f a) → run_of (either f g) a n ≡ run_of f a n
unfolding run_of cons_both
run_in_first f g a zero apart some = refl
run_in_first f g a (suc zero) apart some = grind arith
run_in_first f g a (suc (suc n)) apart some =
    grind (arith, apart.after a, run_in_first f g (a + 1) (suc n) apart)

run_in_second : (f g : ℕ → Option ℕ) (a n : ℕ) → AreApart f g → IsSome (g a) → run_of (either f g) a n ≡ run_of g a n
unfolding run_of cons_both
run_in_second f g a zero apart some = refl
run_in_second f g a (suc zero) apart some = grind (arith, apart.here a)
run_in_second f g a (suc (suc n)) apart some =
    grind (arith, apart.here a, apart.before a, run_in_second f g (a + 1) (suc n) apart)

run_in_one : (f g : ℕ → Option ℕ) (a n : ℕ) → AreApart f g
    → run_of (either f g) a n ≡ option_or (run_of g a n) (run_of f a n)
unfolding run_of cons_both
run_in_one f g a zero apart = refl
run_in_one f g a (suc n) apart =
    grind (arith, apart.here a, run_in_first f g a (suc n) apart, run_in_second f g a (suc n) apart)

pub run_in_parts : (p : Parts) (a n : ℕ) → AreParts p
    → run_of (lookup (runs_of_parts p)) a n
    ≡ option_or (run_of (lookup (runs_of p.own)) a n) (run_of (lookup p.lent.items) a n)
run_in_parts p a n parts =
    run_of-agree _ (either (lookup p.lent.items) (lookup (runs_of p.own))) a n
    (λ k l. lookup-append p.lent.items (runs_of p.own) (a + k))
    ∙ run_in_one (lookup p.lent.items) (lookup (runs_of p.own)) a n parts.apart

pub sum_in_parts : (p : Parts) (a n : ℕ) (own lent : Option ℕ) → AreParts p
    → own ≡ option_map byte_sum (run_of (lookup (runs_of p.own)) a n)
    → lent ≡ option_map byte_sum (run_of (lookup p.lent.items) a n)
    → option_or own lent ≡ option_map byte_sum (run_of (lookup (runs_of_parts p)) a n)
sum_in_parts p a n own lent parts u v =
    rw (u, v, run_in_parts p a n parts)
    (of_both (run_of (lookup (runs_of p.own)) a n) (run_of (lookup p.lent.items) a n))
  where
    of_both : (o q : Option (List ℕ))
        → option_or (option_map byte_sum o) (option_map byte_sum q) ≡ option_map byte_sum (option_or o q)
    of_both None q = refl
    of_both (Some bs) q = refl

-- ---- the bytes from an address on

-- each of the bytes is present
each_some : (rs : List Run) (a : ℕ) (bytes : List ℕ) → IsRest rs a bytes → (k : ℕ) → k < length bytes
    → IsSome (lookup rs (a + k))
each_some rs a bytes rest k l = ap is_some (run_of-each (lookup rs) a (length bytes) bytes rest.present k l)

-- so are those of the second where it has any
pub own_rest : (p : Parts) (a : ℕ) (bytes : List ℕ) → AreParts p → IsRest (runs_of p.own) a bytes → 0 < length bytes
    → IsRest (runs_of_parts p) a bytes
own_rest p a bytes parts rest some = record {
  present = run_of-agree _ (lookup (runs_of p.own)) a (length bytes) (λ k l.
      lookup-append p.lent.items (runs_of p.own) (a + k)
      ∙ ap (λ o. option_or o (lookup (runs_of p.own) (a + k))) (lent_none k l))
      ∙ rest.present;
  none_behind =
      let last : a + (length bytes - 1) + 1 ≡ a + length bytes = omega arith in
      let none = ap (lookup p.lent.items) (sym last)
      ∙ parts.apart.before (a + (length bytes - 1)) (each_some _ a bytes rest (length bytes - 1) (omega arith)) in
      lookup-append p.lent.items (runs_of p.own) (a + length bytes)
      ∙ ap (λ o. option_or o (lookup (runs_of p.own) (a + length bytes))) none
      ∙ rest.none_behind;
}
  where
    lent_none : (k : ℕ) → k < length bytes → lookup p.lent.items (a + k) ≡ None
    lent_none k l =
        let here = each_some (runs_of p.own) a bytes rest k l in
        grind (arith, here, parts.apart.here (a + k))

-- or else those of the first
pub lent_rest : (p : Parts) (a : ℕ) (bytes : List ℕ) → AreParts p → lookup (runs_of p.own) a ≡ None
    → IsRest p.lent.items a bytes → IsRest (runs_of_parts p) a bytes
lent_rest p a bytes parts none rest = record {
  present = run_of-agree _ (lookup p.lent.items) a (length bytes) (λ k l.
      lookup-append p.lent.items (runs_of p.own) (a + k)
      ∙ either_first _ _ (each_some p.lent.items a bytes rest k l))
      ∙ rest.present;
  none_behind = lookup-append p.lent.items (runs_of p.own) (a + length bytes)
      ∙ ap (λ o. option_or o (lookup (runs_of p.own) (a + length bytes))) rest.none_behind
      ∙ own_none (length bytes) refl;
}
  where
    either_first : (o q : Option ℕ) → IsSome o → option_or o q ≡ o
    either_first None q some = absurd (cc)
    either_first (Some b) q some = refl

    own_none : (n : ℕ) → n ≡ length bytes → lookup (runs_of p.own) (a + n) ≡ None
    own_none zero is = ap (lookup (runs_of p.own)) (add-zero a) ∙ none
    own_none (suc n) is =
        let last : a + n + 1 ≡ a + suc n = omega arith in
        ap (lookup (runs_of p.own)) (sym last)
        ∙ parts.apart.after (a + n) (each_some p.lent.items a bytes rest n (omega arith))

-- ---- all bytes come before an address

pub none_behind : (p : Parts) (a x : ℕ) → AllByRecursion (λ r. end_of r < a) p.lent.items
    → (a ≤ x + 1 → lookup (runs_of p.own) x ≡ None) → a ≤ x → lookup (runs_of_parts p) x ≡ None
none_behind p a x lent own from =
    lookup-append p.lent.items (runs_of p.own) x
    ∙ rw (none_from p.lent.items a x lent (omega arith)) (own (omega arith))

-- ---- the first address with a byte

abbrev pub IsFirstOrNone : (ℕ → Option ℕ) → ℕ → Option ℕ → Type 0
IsFirstOrNone f a found =
    (found ≡ None → (x : ℕ) → a ≤ x → f x ≡ None)
    × IfSome found (λ b. (a ≤ b) × IsSome (f b) × ((x : ℕ) → a ≤ x → x < b → f x ≡ None))

first_in_either : (f g h : ℕ → Option ℕ) (a : ℕ) (p q : Option ℕ) → ((x : ℕ) → h x ≡ either f g x)
    → IsFirstOrNone g a p → IsFirstOrNone f a q → IsFirstOrNone h a (lower p q)
first_in_either f g h a None None is u v = (λ e x l. grind (arith, is x, u.0 refl x l, v.0 refl x l), tt)
first_in_either f g h a None (Some c) is u v = (
  λ e. absurd (cc),
  (v.1.0, grind (arith, is c, v.1.1), λ x l m. grind (arith, is x, u.0 refl x l, v.1.2 x l m)),
)
first_in_either f g h a (Some b) None is u v = (
  λ e. absurd (cc),
  (u.1.0, grind (arith, is b, u.1.1, v.0 refl b u.1.0), λ x l m. grind (arith, is x, u.1.2 x l m, v.0 refl x l)),
)
first_in_either f g h a (Some b) (Some c) is u v = (
  λ e. absurd (cc),
  elim (cases_lt b c) [
    | inl m ↦
        let least : min b c ≡ b = omega arith in
        rw least (
          u.1.0,
          grind (arith, is b, u.1.1, v.1.2 b u.1.0 m),
          λ x l o.
              grind (arith, is x, u.1.2 x l o, v.1.2 x l (omega arith)),
        )
    | inr m ↦
        let least : min b c ≡ c = omega arith in
        rw least (
          v.1.0,
          grind (arith, is c, v.1.1),
          λ x l o.
              grind (arith, is x, u.1.2 x l (omega arith), v.1.2 x l o),
        )
  ],
)

pub first_in_parts : (p : Parts) (a : ℕ) (own lent : Option ℕ) → IsFirstOrNone (lookup (runs_of p.own)) a own
    → IsFirstOrNone (lookup p.lent.items) a lent → IsFirstOrNone (lookup (runs_of_parts p)) a (lower own lent)
first_in_parts p a own lent u v =
    first_in_either (lookup p.lent.items) (lookup (runs_of p.own)) (lookup (runs_of_parts p)) a own lent
    (lookup-append p.lent.items (runs_of p.own)) u v

-- ---- the memory

pub byte_of_parts : (p : Parts) (x : ℕ)
    → byte_of (memory_of_parts p) x ≡ either (lookup p.lent.items) (lookup (runs_of p.own)) x
byte_of_parts p x = byte_of_memory_of (runs_of_parts p) x ∙ lookup-append p.lent.items (runs_of p.own) x

pub image_of_parts : (p : Parts) → AreParts p → IsImage (memory_of_parts p)
image_of_parts p parts =
    let lent = image_of p.lent.items parts.lent.complete in
    let own = parts.own.image in
    record {
      addresses = λ a b e. grind (
        arith,
        byte_of_parts p a,
        own.addresses a b,
        lent.addresses a b,
        byte_of_memory_of p.lent.items a,
        byte_of_memory_of (runs_of p.own) a,
      );
      bytes = λ a b e. grind (
        arith,
        byte_of_parts p a,
        own.bytes a b,
        lent.bytes a b,
        byte_of_memory_of p.lent.items a,
        byte_of_memory_of (runs_of p.own) a,
      );
    }

-- what segments have in which a run was put
own_with : (s t : Segments) (r : Run) (x : ℕ) → memory_in t ≡ with_bytes (memory_in s) r.base r.bytes
    → lookup (runs_of t) x ≡ option_or (byte_in r x) (lookup (runs_of s) x)
own_with s t r x is =
    sym (byte_of_memory_of (runs_of t) x) ∙ ap (λ m. byte_of m x) is ∙ byte_of-with_bytes (memory_in s) r.base r.bytes x
    ∙ ap (option_or (byte_in r x)) (byte_of_memory_of (runs_of s) x)

own_same : (s t : Segments) (x : ℕ) → memory_in t ≡ memory_in s → lookup (runs_of t) x ≡ lookup (runs_of s) x
own_same s t x is =
    sym (byte_of_memory_of (runs_of t) x) ∙ ap (λ m. byte_of m x) is ∙ byte_of_memory_of (runs_of s) x

pub same_apart : (f : ℕ → Option ℕ) (s t : Segments) → AreApart f (lookup (runs_of s)) → memory_in t ≡ memory_in s
    → AreApart f (lookup (runs_of t))
same_apart f s t apart is = record {
  here = λ x some. own_same s t x is ∙ apart.here x some;
  after = λ x some. own_same s t (x + 1) is ∙ apart.after x some;
  before = λ x some. apart.before x (ap is_some (sym (own_same s t x is)) ∙ some);
}

pub same_parts : (rs : List Run) (s t : Segments) → memory_in t ≡ memory_in s
    → memory_of (rs ++ runs_of t) ≡ memory_of (rs ++ runs_of s)
same_parts rs s t is = same_memory _ _ (λ x.
    byte_of_memory_of (rs ++ runs_of t) x ∙ lookup-append rs (runs_of t) x
    ∙ ap (option_or (lookup rs x)) (own_same s t x is)
    ∙ sym (byte_of_memory_of (rs ++ runs_of s) x ∙ lookup-append rs (runs_of s) x))

pub on_any_err : {T E P : Type 0} (r : Result T E) → P → OnErr r P
on_any_err (Ok x) h = tt
on_any_err (Err e) h = h

-- what is free in all runs is free in some of them
pub own_gap : (p q : Parts) (x : ℕ) → memory_of_parts q ≡ memory_of_parts p → lookup (runs_of_parts p) x ≡ None
    → lookup (runs_of q.own) x ≡ None
own_gap p q x is none =
    second_none (lookup q.lent.items x) (lookup (runs_of q.own) x)
    (sym (byte_of_parts q x) ∙ ap (λ m. byte_of m x) is ∙ byte_of_memory_of (runs_of_parts p) x ∙ none)
  where
    second_none : (o k : Option ℕ) → option_or o k ≡ None → k ≡ None
    second_none None k e = e
    second_none (Some b) k e = absurd (cc)

-- the same segments and runs
pub same_valid : (p q : Parts) → q.own ≡ p.own → q.lent.items ≡ p.lent.items → AreParts p → AreParts q
same_valid p q own lent valid = record {
  own = subst IsValid (sym own) valid.own;
  lent = subst AreLent (sym lent) valid.lent;
  apart = subst (λ (s : Segments). AreApart (lookup q.lent.items) (lookup (runs_of s))) (sym own)
      (subst (λ (rs : List Run). AreApart (lookup rs) (lookup (runs_of p.own))) (sym lent) valid.apart);
}

pub same_lists : (p q : Parts) → q.own ≡ p.own → q.lent.items ≡ p.lent.items → memory_of_parts q ≡ memory_of_parts p
same_lists p q own lent =
    ap (λ (s : Segments). memory_of (q.lent.items ++ runs_of s)) own
    ∙ ap (λ (rs : List Run). memory_of (rs ++ runs_of p.own)) lent

-- ---- a run comes after those that are lent

module _ (rs : List Run) (r : Run) (below : AllByRecursion (λ q. end_of q < r.base) rs) where
  -- where the run or the address before it is, they have nothing
  not_there : (x : ℕ) → IsSome (byte_in r x) → (lookup rs x ≡ None) × (lookup rs (x + 1) ≡ None)
  not_there x some =
      let inside = present_inside r x some in
      let from = inside.0 in
      (none_from rs r.base x below (omega arith), none_from rs r.base (x + 1) below (omega arith))

  not_in : (x : ℕ) → IsSome (lookup rs x) → (byte_in r x ≡ None) × (byte_in r (x + 1) ≡ None)
  not_in x some = elim (cases_lt (x + 1) r.base) [
    | inl low ↦ (present_none r x (inl (omega arith)), present_none r (x + 1) (inl low))
    | inr high ↦ absurd (let none = none_from rs r.base x below high in grind (arith, none, some))
  ]

  -- either may be asked first
  turned : (o : Option ℕ) (x : ℕ)
      → option_or (lookup rs x) (option_or (byte_in r x) o) ≡ option_or (byte_in r x) (option_or (lookup rs x) o)
  turned o x = go (lookup rs x) (λ some. (not_in x some).0)
    where
      go : (l : Option ℕ) → (IsSome l → byte_in r x ≡ None)
          → option_or l (option_or (byte_in r x) o) ≡ option_or (byte_in r x) (option_or l o)
      go None h = refl
      go (Some b) h = rw (h refl) refl

  split : (o q : Option ℕ) → IsSome (option_or o q) → IsSome o ⊎ IsSome q
  split None q some = inr some
  split (Some b) q some = inl refl

  neither : (o q : Option ℕ) → o ≡ None → q ≡ None → option_or o q ≡ None
  neither o q one other = rw (one, other) refl

  -- ---- its bytes are copied

  pub put_apart : (s t : Segments) → AreApart (lookup rs) (lookup (runs_of s))
      → memory_in t ≡ with_bytes (memory_in s) r.base r.bytes → AreApart (lookup rs) (lookup (runs_of t))
  put_apart s t apart is = record {
    here = λ x some. own_with s t r x is ∙ neither _ _ (not_in x some).0 (apart.here x some);
    after = λ x some. own_with s t r (x + 1) is ∙ neither _ _ (not_in x some).1 (apart.after x some);
    before = λ x some.
        elim (split (byte_in r x) (lookup (runs_of s) x) (ap is_some (sym (own_with s t r x is)) ∙ some)) [
          | inl new ↦ (not_there x new).1
          | inr old ↦ apart.before x old
        ];
  }

  pub put_memory : (s t : Segments) → memory_in t ≡ with_bytes (memory_in s) r.base r.bytes
      → memory_of (rs ++ runs_of t) ≡ with_bytes (memory_of (rs ++ runs_of s)) r.base r.bytes
  put_memory s t is = same_memory _ _ (λ x.
      byte_of_memory_of (rs ++ runs_of t) x ∙ lookup-append rs (runs_of t) x
      ∙ ap (option_or (lookup rs x)) (own_with s t r x is)
      ∙ turned (lookup (runs_of s) x) x
      ∙ ap (option_or (byte_in r x)) (sym (byte_of_memory_of (rs ++ runs_of s) x ∙ lookup-append rs (runs_of s) x))
      ∙ sym (byte_of-with_bytes (memory_of (rs ++ runs_of s)) r.base r.bytes x))

  -- ---- it is lent

  lookup_last : (x : ℕ) → lookup (rs ++ r ∷ []) x ≡ option_or (lookup rs x) (byte_in r x)
  lookup_last x = lookup-append rs (r ∷ []) x ∙ ap (option_or (lookup rs x)) (alone (byte_in r x))
    where
      alone : (o : Option ℕ) → option_or o None ≡ o
      alone None = refl
      alone (Some b) = refl

  pub lend_lent : AreLent rs → IsComplete r → AreLent (rs ++ r ∷ [])
  lend_lent lent complete = record {
    complete = all_push IsComplete rs r lent.complete complete;
    apart = pushed rs lent.apart below;
  }
    where
      pushed : (qs : List Run) → AreRunsApart qs → AllByRecursion (λ q. end_of q < r.base) qs
          → AreRunsApart (qs ++ r ∷ [])
      pushed [] apart low = (tt, tt)
      pushed (q ∷ qs) apart low = (all_push _ qs r apart.0 low.0, pushed qs apart.1 low.1)

  pub lend_apart : (f : ℕ → Option ℕ) → AreApart (lookup rs) f → ((x : ℕ) → r.base ≤ x + 1 → f x ≡ None)
      → AreApart (lookup (rs ++ r ∷ [])) f
  lend_apart f apart none = record {
    here = λ x some. elim (split (lookup rs x) (byte_in r x) (ap is_some (sym (lookup_last x)) ∙ some)) [
      | inl old ↦ apart.here x old
      | inr new ↦ (let from = (present_inside r x new).0 in none x (omega arith))
    ];
    after = λ x some. elim (split (lookup rs x) (byte_in r x) (ap is_some (sym (lookup_last x)) ∙ some)) [
      | inl old ↦ apart.after x old
      | inr new ↦ (let from = (present_inside r x new).0 in none (x + 1) (omega arith))
    ];
    before = λ x some. lookup_last (x + 1) ∙ neither _ _ (apart.before x some) (elim (cases_lt (x + 1) r.base) [
      | inl low ↦ present_none r (x + 1) (inl low)
      | inr high ↦ absurd (let never = none x high in grind (arith, never, some))
    ]);
  }

  pub lend_memory : (qs : List Run)
      → memory_of ((rs ++ r ∷ []) ++ qs) ≡ with_bytes (memory_of (rs ++ qs)) r.base r.bytes
  lend_memory qs = same_memory _ _ (λ x.
      byte_of_memory_of ((rs ++ r ∷ []) ++ qs) x ∙ lookup-append (rs ++ r ∷ []) qs x
      ∙ ap (λ o. option_or o (lookup qs x)) (lookup_last x)
      ∙ three (lookup rs x) (byte_in r x) (lookup qs x)
      ∙ turned (lookup qs x) x
      ∙ ap (option_or (byte_in r x)) (sym (byte_of_memory_of (rs ++ qs) x ∙ lookup-append rs qs x))
      ∙ sym (byte_of-with_bytes (memory_of (rs ++ qs)) r.base r.bytes x))
    where
      three : (o q k : Option ℕ) → option_or (option_or o q) k ≡ option_or o (option_or q k)
      three None q k = refl
      three (Some b) q k = refl

pub complete_run : (a : ℕ) (bs : List ℕ) → 0 < length bs → a + length bs ≤ 2 ^ 64 → ((k : ℕ) → get_or bs k 0 < 256)
    → IsComplete (run_at a bs)
complete_run a bs some fits bytes = record { filled = some; fits = fits; bytes = each bs bytes }
  where
    each : (cs : List ℕ) → ((k : ℕ) → get_or cs k 0 < 256) → AllByRecursion (λ b. b < 256) cs
    each [] h = tt
    each (c ∷ cs) h = (h 0, each cs (λ k. h (suc k)))

-- ---- all bytes are copied

-- the segments have what the runs have before the address
abbrev pub IsCopiedTo : List Run → Segments → ℕ → Type 0
IsCopiedTo rs s from = (x : ℕ) → lookup (runs_of s) x ≡ cond (nat_lt x from) (lookup rs x) None

pub copied_none : (rs : List Run) (s : Segments) → memory_in s ≡ empty → IsCopiedTo rs s 0
copied_none rs s is = λ x.
    let none = sym (byte_of_memory_of (runs_of s) x) ∙ ap (λ m. byte_of m x) is ∙ get-empty nat_cmp x in
    grind (arith, nat_tests, none)

pub copied_more : (rs : List Run) (s t : Segments) (from a : ℕ) (bytes : List ℕ) → IsCopiedTo rs s from → from ≤ a
    → IsGap rs from a → IsRest rs a bytes → memory_in t ≡ with_bytes (memory_in s) a bytes
    → IsCopiedTo rs t (a + length bytes)
copied_more rs s t from a bytes so_far low gap rest is = λ x.
    own_with s t (run_at a bytes) x is ∙ elim (cases_lt x from) [
      | inl before ↦ grind (arith, nat_tests, so_far x, present_none (run_at a bytes) x)
      | inr later ↦ elim (cases_lt x a) [
        | inl free ↦ grind (arith, nat_tests, so_far x, present_none (run_at a bytes) x, gap x later free)
        | inr there ↦ elim (cases_lt x (a + length bytes)) [
          | inl within ↦
              let place : a + (x - a) ≡ x = omega arith in
              let byte = ap (lookup rs) (sym place)
              ∙ run_of-each (lookup rs) a (length bytes) bytes rest.present (x - a) (omega arith) in
              grind (arith, nat_tests, present_at (run_at a bytes) x, byte)
          | inr past ↦ grind (arith, nat_tests, so_far x, present_none (run_at a bytes) x)
        ]
      ]
    ]

pub copied_all : (rs : List Run) (s : Segments) (from : ℕ) → IsCopiedTo rs s from
    → ((x : ℕ) → from ≤ x → lookup rs x ≡ None) → memory_in s ≡ memory_of rs
copied_all rs s from so_far none = same_memory _ _ (λ x.
    byte_of_memory_of (runs_of s) x ∙ so_far x ∙ elim (cases_lt x from) [
      | inl before ↦ grind (arith, nat_tests, byte_of_memory_of rs x)
      | inr later ↦ grind (arith, nat_tests, none x later, byte_of_memory_of rs x)
    ])

pub none_past : (rs : List Run) (x : ℕ) → IsImage (memory_of rs) → 2 ^ 64 ≤ x → lookup rs x ≡ None
none_past rs x image past = go (lookup rs x) refl
  where
    go : (o : Option ℕ) → lookup rs x ≡ o → lookup rs x ≡ None
    go None is = is
    go (Some b) is = absurd (let low = image.addresses x b (byte_of_memory_of rs x ∙ is) in omega arith)

pub rest_fits : (rs : List Run) (a : ℕ) (bytes : List ℕ) → IsImage (memory_of rs) → IsRest rs a bytes
    → 0 < length bytes → a + length bytes ≤ 2 ^ 64
rest_fits rs a bytes image rest some = elim (cases_lt (2 ^ 64) (a + length bytes)) [
  | inl past ↦
      absurd (
      let last = each_some rs a bytes rest (length bytes - 1) (omega arith) in
      let none = none_past rs (a + (length bytes - 1)) image (omega arith) in
      grind (arith, last, none)
      )
  | inr low ↦ low
]

-- for adding bytes to an image
pub ruleset adding = (first_present_in, image_of_parts, fits_unless, nothing_present, nat_tests, no_refusal, no_bytes)
