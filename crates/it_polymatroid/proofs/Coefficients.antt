-- Rows and weights that have the same coefficients have the same value.
use Rattle.std.proofs.Common.{◌≡◌, ℕ, ◌+◌, ◌<◌, ◌≤◌, ℤ, pos, ◌+ℤ◌, ◌*ℤ◌, List, [], ◌∷◌, Bool, true, false, cond, nat_eq, refl, sym, ap, ap₂, ◌∙◌, arith}
use Rattle.std.proofs.lemmas.Int.{ints}
use Rattle.it_space.specs.Rows.{Terms, coefficient, value, one_at}
use Rattle.it_polymatroid.specs.Certificates.{dot, combination}
use Rattle.it_polymatroid.proofs.Forms.{dot-add, dot-one, dot-scale, dot-zero, dot-same, dot_from_one}

dot_single : (n : ℕ) (w : ℕ × ℤ) (f : ℕ → ℤ) → w.0 < n → dot n (λ c. cond (nat_eq w.0 c) w.1 (pos 0)) f ≡ w.1 *ℤ f w.0
dot_single n w f h =
    dot-same n (λ c. cond (nat_eq w.0 c) w.1 (pos 0)) (λ c. w.1 *ℤ one_at c w.0) f (λ c l. by_test (nat_eq w.0 c))
    ∙ dot-scale n w.1 (λ c. one_at c w.0) f ∙ ap (λ y. w.1 *ℤ y) (dot-one n w.0 f h)
  where
    by_test : (b : Bool) → cond b w.1 (pos 0) ≡ w.1 *ℤ cond b (pos 1) (pos 0)
    by_test true = omega (arith, ints)
    by_test false = omega (arith, ints)

-- a number above all coordinates
coordinate_bound : Terms → ℕ
coordinate_bound [] = 0
coordinate_bound (w ∷ ws) = w.0 + 1 + coordinate_bound ws

value_dot : (n : ℕ) (ws : Terms) (f : ℕ → ℤ) → coordinate_bound ws ≤ n → value ws f ≡ dot n (coefficient ws) f
unfolding coordinate_bound
value_dot n [] f a = sym (dot-zero n f)
value_dot n (w ∷ ws) f a = ap₂ (λ x y. x +ℤ y) (sym (dot_single n w f (omega arith))) (value_dot n ws f (omega arith))
    ∙ sym (dot-add n (λ c. cond (nat_eq w.0 c) w.1 (pos 0)) (coefficient ws) f)

-- from coordinate 1 on, where the value at 0 is 0
pub value_told : (xs ys : Terms) (p : ℕ → ℤ) → p 0 ≡ pos 0 → ((c : ℕ) → 0 < c → coefficient xs c ≡ coefficient ys c) → value xs p ≡ value ys p
value_told xs ys p z e =
    let n : ℕ = coordinate_bound xs + coordinate_bound ys in
    value_dot n xs p (omega arith) ∙ dot_from_one n (coefficient xs) (coefficient ys) p z (λ c h l. e c h) ∙ sym (value_dot n ys p (omega arith))

pub value_same : (xs ys : Terms) (p : ℕ → ℤ) → ((c : ℕ) → coefficient xs c ≡ coefficient ys c) → value xs p ≡ value ys p
value_same xs ys p e =
    let n : ℕ = coordinate_bound xs + coordinate_bound ys in
    value_dot n xs p (omega arith) ∙ dot-same n (coefficient xs) (coefficient ys) p (λ c l. e c) ∙ sym (value_dot n ys p (omega arith))

-- a sum over weights is the value of the row that they are
weighted-value : (ws : List (ℕ × ℤ)) (f : ℕ → ℤ) → combination ws f ≡ value ws f
weighted-value [] f = refl
weighted-value (w ∷ ws) f = ap (λ y. w.1 *ℤ f w.0 +ℤ y) (weighted-value ws f)

pub weighted_same : (xs ys : List (ℕ × ℤ)) (f : ℕ → ℤ) → ((i : ℕ) → coefficient xs i ≡ coefficient ys i) → combination xs f ≡ combination ys f
weighted_same xs ys f e = weighted-value xs f ∙ value_same xs ys f e ∙ sym (weighted-value ys f)
