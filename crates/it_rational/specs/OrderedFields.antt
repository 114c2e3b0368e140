-- Ordered fields. The rational numbers are one: `field_ℚ` of proofs/Field, defined there with the proofs of its laws.
use Rattle.std.specs.Prelude.{◌≡◌, ◌≢◌, ◌⊎◌, Bool, true, false}
use Rattle.it_number.specs.Rings.{Ring}

-- the structure of an ordered field on a ring: a test of being at least 0, and inverses, for which these laws hold
pub record Order {A : Type 0} (R : Ring A) : Type 0 where
  -- whether an element is at least 0
  pub is_least : A → Bool
  -- 1 / a
  pub inv : A → A
  pub add-least : (a b : A) → is_least a ≡ true → is_least b ≡ true → is_least (R.add a b) ≡ true
  pub mul-least : (a b : A) → is_least a ≡ true → is_least b ≡ true → is_least (R.mul a b) ≡ true
  pub total : (a : A) → (is_least a ≡ true) ⊎ (is_least (R.neg a) ≡ true)
  pub strict : (a : A) → is_least a ≡ true → is_least (R.neg a) ≡ true → a ≡ R.null
  pub apart : R.unit ≢ R.null
  pub mul-inv : (a : A) → a ≢ R.null → R.mul a (inv a) ≡ R.unit

-- a commutative ring with such an order
pub record OrderedField (A : Type 0) : Type 0 where
  pub ring : Ring A
  pub order : Order ring

module _ {A : Type 0} (F : OrderedField A) where
  -- a is at least 0
  abbrev pub IsAtLeastZero : A → Type 0
  IsAtLeastZero a = F.order.is_least a ≡ true

  -- a is below 0
  abbrev pub IsBelowZero : A → Type 0
  IsBelowZero a = F.order.is_least a ≡ false

  -- a is above 0: its negation is below 0
  abbrev pub IsAboveZero : A → Type 0
  IsAboveZero a = F.order.is_least (F.ring.neg a) ≡ false
