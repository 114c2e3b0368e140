-- The points that rays span, with a further ray at the end.
use Rattle.std.proofs.Common.{◌≡◌, ℕ, zero, suc, ◌*◌, ◌≤◌, ℤ, pos, ◌+ℤ◌, ◌*ℤ◌, List, [], ◌∷◌, ◌++◌, ap, arith}
use Rattle.std.proofs.lemmas.Int.{ints}
use Rattle.it_number.proofs.Integers.{zring, mul_assoc}
use Rattle.it_space.specs.Rows.{point_of}
use Rattle.std.specs.Prelude.{Contains}
use Rattle.it_hull.specs.Hulls.{IsSpanned}

pub some_product : (a b : ℕ) → 1 ≤ a → 1 ≤ b → 1 ≤ a * b
some_product (suc a) (suc b) h k = omega arith
some_product zero b h k = absurd (omega arith)
some_product (suc a) zero h k = absurd (omega arith)

-- f x is w p and y, and g y is u r and z: then g f x is u r and what is left
first_apart : (f g w u : ℕ) (x p y r z : ℤ) → pos f *ℤ x ≡ pos w *ℤ p +ℤ y → pos g *ℤ y ≡ pos u *ℤ r +ℤ z
    → pos (g * f) *ℤ x ≡ pos u *ℤ r +ℤ (pos (g * w) *ℤ p +ℤ z)
first_apart f g w u x p y r z a b =
    let e : pos g *ℤ (pos f *ℤ x) ≡ pos g *ℤ (pos w *ℤ p +ℤ y) = ap (λ t. pos g *ℤ t) a in
    let m : pos (g * f) *ℤ x ≡ pos g *ℤ (pos f *ℤ x) = mul_assoc (pos g) (pos f) x in
    let n : pos (g * w) *ℤ p ≡ pos g *ℤ (pos w *ℤ p) = mul_assoc (pos g) (pos w) p in
    omega (arith, zring, e, m, n, b)

-- a point spanned but for a multiple of one ray more
pub spanned_more : (kept : List ℕ) (rays : List (List ℤ)) (ray : List ℤ) (x : ℕ → ℤ) (f w : ℕ) (y : ℕ → ℤ) → 1 ≤ f
    → ((c : ℕ) → Contains kept c → pos f *ℤ x c ≡ pos w *ℤ point_of ray c +ℤ y c) → IsSpanned kept rays y → IsSpanned kept (rays ++ ray ∷ []) x
spanned_more kept [] ray x f w y some sum s = (f, w, y, some, sum, s)
spanned_more kept (r ∷ rays) ray x f w y some sum (g, u, z, more, rest, s) = (
  g * f,
  u,
  (λ c. pos (g * w) *ℤ point_of ray c +ℤ z c),
  some_product g f more some,
  (λ c m. first_apart f g w u (x c) (point_of ray c) (y c) (point_of r c) (z c) (sum c m) (rest c m)),
  spanned_more kept rays ray (λ c. pos (g * w) *ℤ point_of ray c +ℤ z c) 1 (g * w) z (omega arith) (λ c m. omega (arith, ints)) s,
)

-- and back
pub record MoreParts (kept : List ℕ) (rays : List (List ℤ)) (ray : List ℤ) (x : ℕ → ℤ) : Type 0 where
  pub factor : ℕ
  pub weight : ℕ
  pub rest : ℕ → ℤ
  pub some : 1 ≤ factor
  pub sum : (c : ℕ) → Contains kept c → pos factor *ℤ x c ≡ pos weight *ℤ point_of ray c +ℤ rest c
  pub spanned : IsSpanned kept rays rest

last_apart : (f g w u : ℕ) (x p y r z : ℤ) → pos f *ℤ x ≡ pos u *ℤ r +ℤ y → pos g *ℤ y ≡ pos w *ℤ p +ℤ z
    → pos (g * f) *ℤ x ≡ pos w *ℤ p +ℤ (pos (g * u) *ℤ r +ℤ z)
last_apart f g w u x p y r z a b = first_apart f g u w x r y p z a b

pub spanned_parts : (kept : List ℕ) (rays : List (List ℤ)) (ray : List ℤ) (x : ℕ → ℤ) → IsSpanned kept (rays ++ ray ∷ []) x → MoreParts kept rays ray x
spanned_parts kept [] ray x (f, w, y, some, sum, s) = record { factor = f; weight = w; rest = y; some = some; sum = sum; spanned = s }
spanned_parts kept (r ∷ rays) ray x (f, u, y, some, sum, s) =
    let p = spanned_parts kept rays ray y s in record {
      factor = p.factor * f;
      weight = p.weight;
      rest = λ c. pos (p.factor * u) *ℤ point_of r c +ℤ p.rest c;
      some = some_product p.factor f p.some some;
      sum = λ c m. last_apart f p.factor p.weight u (x c) (point_of ray c) (y c) (point_of r c) (p.rest c) (sum c m) (p.sum c m);
      spanned = (1, p.factor * u, p.rest, omega arith, (λ c m. omega (arith, ints)), p.spanned);
    }
