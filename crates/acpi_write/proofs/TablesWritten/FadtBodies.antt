-- The FACS address in a FADT's body: the appended parts are the body with the address.
use Rattle.std.proofs.Common.{◌≡◌, ℕ, ◌+◌, ◌-◌, ◌<◌, ◌≤◌, inl, inr, List, [], ◌++◌, append_assoc, length, take, drop, refl, sym, ap, ◌∙◌, arith, length-append, length-drop}
use Rattle.std.proofs.lemmas.Bool.{cases_lt, le-leb, lt-leb}
use Rattle.std.proofs.lemmas.List.{drop-drop, take_at, drop_at, take_rest, length-take-le}
use Rattle.acpi_base.specs.Number.{number_bytes}
use Rattle.acpi_base.proofs.Layouts.RoundTrip.{length-number_bytes}
use Rattle.acpi_write.specs.FadtBody.{put_over, with_facs}

pub length-put_over : (bytes : List ℕ) (offset : ℕ) (new : List ℕ) → offset + length new ≤ length bytes
    → length (put_over bytes offset new) ≡ length bytes
unfolding put_over
length-put_over bytes offset new h =
    let a = length-append (take offset bytes) (new ++ drop (offset + length new) bytes) in
    let b = length-append new (drop (offset + length new) bytes) in
    let c = length-drop (offset + length new) bytes in
    let d = length-take-le offset bytes (omega arith) in
    omega (arith, a, b, c, d)

pub with_facs-wide : (body : List ℕ) (facs : ℕ) → 104 ≤ length body
    → with_facs body facs ≡ put_over (put_over body 0 (number_bytes 4 0)) 96 (number_bytes 8 facs)
unfolding with_facs
with_facs-wide body facs h = rw (le-leb 104 (length body) h) refl

pub with_facs-narrow : (body : List ℕ) (facs : ℕ) → length body < 104
    → with_facs body facs ≡ put_over body 0 (number_bytes 4 facs)
unfolding with_facs
with_facs-narrow body facs h = rw (lt-leb 104 (length body) h) refl

pub length-with_facs : (body : List ℕ) (facs : ℕ) → 4 ≤ length body → length (with_facs body facs) ≡ length body
length-with_facs body facs h =
    let four = length-number_bytes 4 0 in
    let narrow_four = length-number_bytes 4 facs in
    let eight = length-number_bytes 8 facs in
    elim (cases_lt (length body) 104) [
      | inl narrow ↦ ap length (with_facs-narrow body facs narrow)
          ∙ length-put_over body 0 (number_bytes 4 facs) (omega (arith, narrow_four))
      | inr wide ↦
          let a = length-put_over body 0 (number_bytes 4 0) (omega (arith, four)) in
          ap length (with_facs-wide body facs wide) ∙ length-put_over (put_over body 0 (number_bytes 4 0)) 96
          (number_bytes 8 facs) (omega (arith, a, eight)) ∙ a
    ]

wide_parts : (body : List ℕ) (facs : ℕ) → 104 ≤ length body
    → with_facs body facs ≡ number_bytes 4 0 ++ (take 92 (drop 4 body) ++ (number_bytes 8 facs ++ drop 104 body))
unfolding put_over number_bytes
wide_parts body facs h =
    with_facs-wide body facs h ∙ ap
    (λ (back : List ℕ). number_bytes 4 0 ++ (take 92 (drop 4 body) ++ (number_bytes 8 facs ++ back)))
    (drop-drop 100 4 body)

narrow_parts : (body : List ℕ) (facs : ℕ) → length body < 104 → with_facs body facs ≡ number_bytes 4 facs ++ drop 4 body
unfolding put_over number_bytes
narrow_parts body facs h = with_facs-narrow body facs h

-- the parts, as they are appended
pub wide_appended : (body : List ℕ) (facs : ℕ) (x0 x1 x2 x3 x4 zeros wide : List ℕ) → 104 ≤ length body
    → zeros ≡ number_bytes 4 0 → wide ≡ number_bytes 8 facs
    → x0 ≡ [] → x1 ≡ x0 ++ zeros → x2 ≡ x1 ++ take 92 (drop 4 body) → x3 ≡ x2 ++ wide
    → x4 ≡ x3 ++ take (length body - 104) (drop 104 body) → x4 ≡ with_facs body facs
wide_appended body facs x0 x1 x2 x3 x4 zeros wide long z w e0 e1 e2 e3 e4 =
    let whole : x4 ≡ ((zeros ++ take 92 (drop 4 body)) ++ wide) ++ drop 104 body =
    e4 ∙ (λ i. (e3 ∙ ap (λ (l : List ℕ). l ++ wide)
    (e2 ∙ ap (λ (l : List ℕ). l ++ take 92 (drop 4 body)) (e1 ∙ ap (λ (l : List ℕ). l ++ zeros) e0))) i ++ take_rest
    body 104 i) in
    whole
    ∙ append_assoc (zeros ++ take 92 (drop 4 body)) wide (drop 104 body)
    ∙ append_assoc zeros (take 92 (drop 4 body)) (wide ++ drop 104 body)
    ∙ (λ i. z i ++ (take 92 (drop 4 body) ++ (w i ++ drop 104 body)))
    ∙ sym (wide_parts body facs long)

pub narrow_appended : (body : List ℕ) (facs : ℕ) (x0 x1 x2 narrow : List ℕ) → length body < 104
    → narrow ≡ number_bytes 4 facs → x0 ≡ [] → x1 ≡ x0 ++ narrow → x2 ≡ x1 ++ take (length body - 4) (drop 4 body)
    → x2 ≡ with_facs body facs
narrow_appended body facs x0 x1 x2 narrow short n e0 e1 e2 =
    e2 ∙ (λ i. (e1 ∙ ap (λ (l : List ℕ). l ++ narrow) e0) i ++ take_rest body 4 i)
    ∙ ap (λ (l : List ℕ). l ++ drop 4 body) n ∙ sym (narrow_parts body facs short)

pub with_facs-with_facs : (body : List ℕ) (one other : ℕ) → 4 ≤ length body
    → with_facs (with_facs body one) other ≡ with_facs body other
with_facs-with_facs body one other h =
    let n = length-with_facs body one h in
    let inner = with_facs body one in
    elim (cases_lt (length body) 104) [
      | inl narrow ↦
          let behind : drop 4 inner ≡ drop 4 body = ap (drop 4) (narrow_parts body one narrow)
          ∙ drop_at (number_bytes 4 one) (drop 4 body) 4 (length-number_bytes 4 one) in
          narrow_parts inner other (omega (arith, n, narrow))
          ∙ ap (λ (back : List ℕ). number_bytes 4 other ++ back) behind ∙ sym (narrow_parts body other narrow)
      | inr wide ↦
          let middle = take 92 (drop 4 body) in
          let back = drop 104 body in
          let count : length middle ≡ 92 = length-take-le 92 (drop 4 body) (omega (arith, length-drop 4 body, wide)) in
          let behind : drop 4 inner ≡ middle ++ (number_bytes 8 one ++ back) =
          ap (drop 4) (wide_parts body one wide) ∙ drop_at (number_bytes 4 0) (middle ++ (number_bytes 8 one ++ back)) 4
          (length-number_bytes 4 0) in
          let same_middle : take 92 (drop 4 inner) ≡ middle =
          ap (take 92) behind ∙ take_at middle (number_bytes 8 one ++ back) 92 count in
          let past_middle : drop 96 inner ≡ number_bytes 8 one ++ back =
          sym (drop-drop 92 4 inner) ∙ ap (drop 92) behind ∙ drop_at middle (number_bytes 8 one ++ back) 92 count in
          let same_back : drop 104 inner ≡ back = sym (drop-drop 8 96 inner) ∙ ap (drop 8) past_middle
          ∙ drop_at (number_bytes 8 one) back 8 (length-number_bytes 8 one) in
          wide_parts inner other (omega (arith, n, wide))
          ∙ (λ i. number_bytes 4 0 ++ (same_middle i ++ (number_bytes 8 other ++ same_back i)))
          ∙ sym (wide_parts body other wide)
    ]
