-- Commutative rings.
use Rattle.std.specs.Prelude.{◌≡◌}

-- numbers with 0, 1, sums, products and negations, for which these laws hold
pub record Ring (A : Type 0) : Type 0 where
  pub null : A
  pub unit : A
  pub add : A → A → A
  pub mul : A → A → A
  pub neg : A → A
  pub add_assoc : (a b c : A) → add (add a b) c ≡ add a (add b c)
  pub add_comm : (a b : A) → add a b ≡ add b a
  pub null-add : (a : A) → add null a ≡ a
  pub add-neg : (a : A) → add a (neg a) ≡ null
  pub mul_assoc : (a b c : A) → mul (mul a b) c ≡ mul a (mul b c)
  pub mul_comm : (a b : A) → mul a b ≡ mul b a
  pub unit-mul : (a : A) → mul unit a ≡ a
  pub mul-add : (a b c : A) → mul a (add b c) ≡ add (mul a b) (mul a c)
