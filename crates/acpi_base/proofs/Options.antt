-- What an option has, or that it has nothing.
use Rattle.std.proofs.Common.{◌≡◌, ℕ, Option, Some, None, refl, sym, ◌∙◌, inl, inr}
use Rattle.std.specs.Prelude.{◌⊎◌, ◌↔◌, IsSome}
use Rattle.std.proofs.lemmas.Option.{none-some, same_Some}

pub cases_Option : {X : Type 0} (o : Option X) → ((x : X) × (o ≡ Some x)) ⊎ (o ≡ None)
cases_Option (Some x) = inl (x, refl)
cases_Option None = inr refl

pub none_and_some : {X : Type 0} {o : Option X} {x : X} → o ≡ None → o ≡ Some x → ⊥
none_and_some {x = x} none some = none-some x (sym none ∙ some)

pub same_value : {X : Type 0} {o : Option X} (x y : X) → o ≡ Some x → o ≡ Some y → x ≡ y
same_value x y e f = same_Some x y (sym e ∙ f)

pub a_value : (o : Option ℕ) → IsSome o → (a : ℕ) × (o ≡ Some a)
a_value None h = absurd (cc)
a_value (Some a) h = (a, refl)

pub same_options : (o p : Option ℕ) → ((b : ℕ) → (o ≡ Some b) ↔ (p ≡ Some b)) → o ≡ p
same_options None None h = refl
same_options None (Some b) h = (h b).1 refl
same_options (Some b) p h = sym ((h b).0 refl)
