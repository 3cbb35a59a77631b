-- The two root tables that an RSDP names, and the signatures that they list.
use Rattle.std.proofs.Common.{◌≡◌, ◌≢◌, ℕ, ◌+◌, List, [], ◌∷◌, ◌++◌, ◌<◌, length, get_or, take, Option, Some, None, true, refl, sym, ap, subst, ◌∙◌, inr, zero-add}
use Rattle.std.specs.Prelude.{MatchOption, ◌==◌, if◌then◌else◌}
use Rattle.std.specs.List.{filter_map, cons_option, sum_by}
use Rattle.std.specs.List.Sorted.{IsPermutation}
use Rattle.std.proofs.lemmas.List.{append-nil, take_more}
use Rattle.std.proofs.lemmas.List.Elements.{filter_map-append}
use Rattle.std.proofs.lemmas.List.Sorted.{sum_by-IsPermutation}
use Rattle.std.proofs.lemmas.List.Sums.{sum_by-cons}
use Rattle.acpi_base.specs.Memory.{Memory, bytes_at}
use Rattle.acpi_base.specs.Number.{field}
use Rattle.acpi_base.specs.Signature.{has_signature, rsdt_signature}
use Rattle.acpi_base.specs.Root.{IsRootTable}
use Rattle.acpi_base.specs.Tables.{IsTable}
use Rattle.acpi_base.proofs.Frames.{one_frame}
use Rattle.acpi_base.proofs.Options.{same_value}
use Rattle.acpi_base.proofs.Root.Named.{one_root_table}
use Rattle.acpi_lint.specs.Differences.{FindsDifference}
use Rattle.acpi_rules.specs.Places.{FindsLeast}
use Rattle.acpi_lint.specs.Rules.RootAdvice.{listed_signatures, times_in, IsXsdt, IsNamedRsdt, IsRsdtDiffers}
use Rattle.acpi_lint.specs.Slots.{IsRootOf}

-- ---- which tables they are

pub no_xsdt : {m : Memory} {p : ℕ} → IsRootOf m p None → (bytes : List ℕ) → ¬ IsXsdt m p bytes
no_xsdt none bytes is =
    none (record { address = is.r; width = 8; bytes = bytes }) (record { named = is.root; table = is.table })

one_xsdt : {m : Memory} {p : ℕ} (one other : List ℕ) → IsXsdt m p one → IsXsdt m p other → one ≡ other
one_xsdt one other is also = one_root_table one other is.root also.root is.table also.table

one_rsdt : {m : Memory} {p : ℕ} (one other : List ℕ) → IsNamedRsdt m p one → IsNamedRsdt m p other → one ≡ other
one_rsdt {m} one other is also =
    let same = same_value is.rsdp also.rsdp is.present also.present in
    let moved : IsRootTable m (field also.rsdp 16 4) 4 one =
    subst (λ (b : List ℕ). IsRootTable m (field b 16 4) 4 one) same is.table in
    one_frame moved.table also.table.table

pub rsdt_there : (m : Memory) (p : ℕ) (rsdp header : List ℕ) (a : ℕ) (found : Option (List ℕ))
    → bytes_at m p 36 ≡ Some rsdp → a ≡ field rsdp 16 4 → a ≢ 0 → bytes_at m a 36 ≡ Some header
    → has_signature header rsdt_signature ≡ true
    → MatchOption found ((head bytes : List ℕ) → ¬ IsTable m a head bytes)
    (λ bytes. (head : List ℕ) × IsTable m a head bytes)
    → MatchOption found ((bytes : List ℕ) → ¬ IsNamedRsdt m p bytes) (IsNamedRsdt m p)
rsdt_there m p rsdp header a None present is some there signed none = λ bytes named.
    let same : field named.rsdp 16 4 ≡ a =
    ap (λ (b : List ℕ). field b 16 4) (same_value named.rsdp rsdp named.present present) ∙ sym is in
    none named.table.header bytes
    (subst (λ (x : ℕ). IsTable m x named.table.header bytes) same named.table.table)
rsdt_there m p rsdp header a (Some bytes) present is some there signed (head, table) =
    record {
      rsdp = rsdp;
      present = present;
      named = λ zero. some (is ∙ zero);
      table =
          subst (λ (x : ℕ). IsRootTable m x 4 bytes) is
          (record {
            header = head;
            table = table;
            signed = rw (same_value head header table.header_present there) signed;
          });
    }

-- ---- the signatures at one address more

next : (h : ℕ → Option ℕ) (xs : List ℕ) (i : ℕ) → i < length xs
    → filter_map h (take (i + 1) xs) ≡ filter_map h (take i xs) ++ cons_option (h (get_or xs i 0)) []
next h xs i within =
    ap (filter_map h) (take_more xs i 0 within) ∙ filter_map-append h (take i xs) (get_or xs i 0 ∷ [])

pub one_more : (h : ℕ → Option ℕ) (xs : List ℕ) (i v : ℕ) (found : List ℕ) → i < length xs
    → found ≡ filter_map h (take i xs) → h (get_or xs i 0) ≡ Some v
    → found ++ v ∷ [] ≡ filter_map h (take (i + 1) xs)
one_more h xs i v found within before is = rw (next h xs i within, is, before) refl

pub no_more : (h : ℕ → Option ℕ) (xs : List ℕ) (i : ℕ) (found : List ℕ) → i < length xs
    → found ≡ filter_map h (take i xs) → h (get_or xs i 0) ≡ None → found ≡ filter_map h (take (i + 1) xs)
no_more h xs i found within before is = rw (next h xs i within, is, before) (sym (append-nil _))

-- ---- in which order they are does not matter

-- how often a number is among the values that there are: once or never
abbrev one_of : Option ℕ → ℕ → ℕ
one_of None n = 0
one_of (Some k) n = if k == n then 1 else 0

with_first : (o : Option ℕ) (rest : List ℕ) (n : ℕ) → times_in (cons_option o rest) n ≡ one_of o n + times_in rest n
with_first None rest n = sym (zero-add (times_in rest n))
with_first (Some k) rest n = sum_by-cons (λ j. if j == n then 1 else 0) k rest

times_of : (h : ℕ → Option ℕ) (xs : List ℕ) (n : ℕ) → times_in (filter_map h xs) n ≡ sum_by (λ x. one_of (h x) n) xs
times_of h [] n = refl
times_of h (x ∷ xs) n =
    with_first (h x) (filter_map h xs) n ∙ ap (λ t. one_of (h x) n + t) (times_of h xs n)
    ∙ sym (sum_by-cons (λ y. one_of (h y) n) x xs)

same_times : (h : ℕ → Option ℕ) (xs ys : List ℕ) → IsPermutation xs ys → (n : ℕ)
    → times_in (filter_map h ys) n ≡ times_in (filter_map h xs) n
same_times h xs ys moved n =
    times_of h ys n ∙ sum_by-IsPermutation (λ y. one_of (h y) n) xs ys moved ∙ sym (times_of h xs n)

-- what differs between the slots in another order is what differs between them
pub difference_of : (h : ℕ → Option ℕ) (ours theirs one two : List ℕ) (r : Option ℕ) → IsPermutation ours one
    → IsPermutation theirs two → FindsDifference (filter_map h one) (filter_map h two) r
    → FindsDifference (filter_map h ours) (filter_map h theirs) r
difference_of h ours theirs one two None moved also same =
    λ n. sym (same_times h ours one moved n) ∙ same n ∙ same_times h theirs two also n
difference_of h ours theirs one two (Some n) moved also (differ, least) = (
  λ same. differ (same_times h ours one moved n ∙ same ∙ sym (same_times h theirs two also n)),
  λ k differs.
      least k (λ same. differs (sym (same_times h ours one moved k) ∙ same ∙ same_times h theirs two also k)),
)

pub same_slots : (h : ℕ → Option ℕ) (ours theirs one two : List ℕ) → IsPermutation ours one
    → IsPermutation theirs two → one ≡ two → FindsDifference (filter_map h ours) (filter_map h theirs) None
same_slots h ours theirs one two moved also same =
    difference_of h ours theirs one two None moved also
    (λ n. ap (λ (xs : List ℕ). times_in (filter_map h xs) n) same)

-- ---- what differs

pub no_difference : {m : Memory} {p : ℕ} (xsdt rsdt : List ℕ) → IsXsdt m p xsdt → IsNamedRsdt m p rsdt
    → FindsDifference (listed_signatures m xsdt 8) (listed_signatures m rsdt 4) None
    → FindsLeast (IsRsdtDiffers m p) None
no_difference xsdt rsdt is named same = λ at other point (place, unused, (others, also, wide, narrow, differ)).
    let one = one_xsdt others xsdt wide is in
    let two = one_rsdt also rsdt narrow named in
    (rw (one, two) at differ) (same point)

pub first_differs : {m : Memory} {p : ℕ} (xsdt rsdt : List ℕ) (n : ℕ) → IsXsdt m p xsdt → IsNamedRsdt m p rsdt
    → FindsDifference (listed_signatures m xsdt 8) (listed_signatures m rsdt 4) (Some n)
    → FindsLeast (IsRsdtDiffers m p) (Some (record { at = 16; other = 0; point = n }))
first_differs {m} {p} xsdt rsdt n is named (differ, least) =
    record {
      here = (refl, refl, (xsdt, rsdt, is, named, differ));
      least = λ at other point (place, unused, (others, also, wide, narrow, differs)).
          let one = one_xsdt others xsdt wide is in
          let two = one_rsdt also rsdt narrow named in
          let low = least point (rw (one, two) at differs) in
          inr (sym place, inr (sym unused, low));
    }
