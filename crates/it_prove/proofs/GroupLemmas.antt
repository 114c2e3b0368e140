-- Sums over columns are sums over generators.
use Rattle.std.proofs.Common.{◌≡◌, ℕ, zero, suc, ◌+◌, ◌<◌, ◌≤◌, ℤ, pos, negsuc, neg_ℤ, ◌+ℤ◌, ◌-ℤ◌, ◌*ℤ◌, ◌≤ℤ◌, List, [], ◌∷◌, ◌++◌, length, get_or, false, cond, eqb, eq-eqb, ne_eqb, refl, sym, ap, ap₂, ◌∙◌, arith}
use Rattle.std.proofs.lemmas.Int.{ints}
use Rattle.it_number.proofs.Integers.{zring}
use Rattle.it_problems.specs.declared.problems.Kind.{Kind}
use Rattle.it_problems.specs.declared.problems.Kind.TheVariants.{Inequality, Equation}
use Rattle.it_space.specs.Rows.{Terms, coefficient, value, single_term}
use Rattle.it_space.proofs.TermLemmas.{coefficient-negated_terms, value-single_term}
use Rattle.it_polymatroid.specs.Certificates.{IsAllowed}
use Rattle.std.specs.List.{AllByRecursion as Every}
use Rattle.std.proofs.Math.IntN.{+ℤ_idr}
use Rattle.it_space.proofs.EveryLemmas.{every-append}
use Rattle.it_elemental.specs.Generators.{Generator, generator_at, forms_of, is_equation}
use Rattle.it_check.specs.Verdicts.{column}
use Rattle.it_closure.specs.Sizes.{column_count}
use Rattle.it_columns.specs.Columns.{columns_by, columns, numbers_from}
use Rattle.it_prove.proofs.GeneratorWeights.{weight_by, weights_from}

-- ---- the sum over columns from number j on of f of the number times the coefficient at a coordinate

same_index : (i : ℕ) → i ≡ i + zero
same_index i = omega arith

next_index : (i k : ℕ) → i + 1 + k ≡ i + suc k
next_index i k = omega arith

module _ (c : ℕ) where
  abbrev total : ℕ → List Terms → (ℕ → ℤ) → ℤ
  total j [] f = pos 0
  total j (r ∷ rs) f = f j *ℤ coefficient r c +ℤ total (j + 1) rs f

  total-null : (j : ℕ) (cols : List Terms) → total j cols (λ k. pos 0) ≡ pos 0
  total-null j [] = refl
  total-null j (r ∷ rs) = omega (arith, ints, total-null (j + 1) rs)

  total-add : (j : ℕ) (cols : List Terms) (f g : ℕ → ℤ) → total j cols (λ k. f k +ℤ g k) ≡ total j cols f +ℤ total j cols g
  total-add j [] f g = refl
  total-add j (r ∷ rs) f g = omega (arith, zring, total-add (j + 1) rs f g)

  total-past : (i j : ℕ) (x : ℤ) (cols : List Terms) → i < j → total j cols (λ k. cond (eqb i k) x (pos 0)) ≡ pos 0
  total-past i j x [] h = refl
  total-past i j x (r ∷ rs) h = ap₂ (λ b y. cond b x (pos 0) *ℤ coefficient r c +ℤ y) (ne_eqb i j (λ e. omega arith))
      (total-past i (j + 1) x rs (omega arith)) ∙ omega (arith, ints)

  total-one : (i j k : ℕ) (x : ℤ) (cols : List Terms) → i < length cols → k ≡ j + i
      → total j cols (λ n. cond (eqb k n) x (pos 0)) ≡ x *ℤ coefficient (get_or cols i []) c
  total-one i j k x [] h e = absurd (omega arith)
  total-one zero j k x (r ∷ rs) h e =
      ap₂ (λ b y. cond b x (pos 0) *ℤ coefficient r c +ℤ y) (eq-eqb k j (omega arith)) (total-past k (j + 1) x rs (omega arith)) ∙ +ℤ_idr (x *ℤ coefficient r c)
  total-one (suc i) j k x (r ∷ rs) h e =
      ap₂ (λ b y. cond b x (pos 0) *ℤ coefficient r c +ℤ y) (ne_eqb k j (λ q. omega arith))
      (total-one i (j + 1) k x rs (omega arith) (omega arith)) ∙ zero_term (coefficient r c) (x *ℤ coefficient (get_or rs i []) c)
    where
      zero_term : (z y : ℤ) → pos 0 *ℤ z +ℤ y ≡ y
      zero_term z y = omega (arith, ints)

  -- a sum over weights is one over all columns
  pub value_total : (cols : List Terms) (ts : Terms) → Every (λ t. t.0 < length cols) ts
      → value ts (λ j. coefficient (get_or cols j []) c) ≡ total 0 cols (coefficient ts)
  value_total cols [] e = sym (total-null 0 cols)
  value_total cols (t ∷ ts) e =
      ap₂ (λ x y. x +ℤ y) (sym (total-one t.0 0 t.0 t.1 cols e.0 (omega arith))) (value_total cols ts e.1)
      ∙ sym (total-add 0 cols (λ k. cond (eqb t.0 k) t.1 (pos 0)) (coefficient ts))

  -- the columns of one generator
  one_generator : (k : Kind) (r : Terms) (j : ℕ) (cols : List Terms) (f : ℕ → ℤ)
      → total j (columns_by k r ++ cols) f ≡ weight_by k f j *ℤ coefficient r c +ℤ total (j + column_count k) cols f
  one_generator Inequality r j cols f = refl
  one_generator Equation r j cols f =
      ap₂ (λ x y. f j *ℤ coefficient r c +ℤ (f (j + 1) *ℤ x +ℤ y)) (coefficient-negated_terms c r) (ap (λ m. total m cols f) plus_two)
      ∙ weight_difference (f j) (f (j + 1)) (coefficient r c) (total (j + 2) cols f)
    where
      plus_two : j + 1 + 1 ≡ j + 2
      plus_two = omega arith

      weight_difference : (x y z s : ℤ) → x *ℤ z +ℤ (y *ℤ neg_ℤ z +ℤ s) ≡ (x -ℤ y) *ℤ z +ℤ s
      weight_difference x y z s = omega (arith, zring)

  -- the sum over the columns is that over the generators with their weights
  pub total_by_generators : (all gs : List Generator) (i j : ℕ) (f : ℕ → ℤ) → ((k : ℕ) → k < length gs → generator_at all (i + k) ≡ generator_at gs k)
      → total j (columns gs) f ≡ value (weights_from i j gs f) (column all c)
  unfolding columns numbers_from
  total_by_generators all [] i j f h = refl
  total_by_generators all (g ∷ gs) i j f h =
      let here : generator_at all i ≡ g = ap (generator_at all) (same_index i) ∙ h zero (omega arith) in
      one_generator g.kind g.row j (columns gs) f
      ∙ ap₂ (λ x y. weight_by g.kind f j *ℤ x +ℤ y) (sym (ap (λ (g : Generator). coefficient g.row c) here))
      (total_by_generators all gs (i + 1) (j + column_count g.kind) f (λ k l. ap (generator_at all) (next_index i k)
      ∙ h (suc k) (omega arith)))
      ∙ sym (value-single_term i (weight_by g.kind f j) (weights_from (i + 1) (j + column_count g.kind) gs f) (column all c))

-- ---- the weights in the certificate are allowed

every-single_term : (P : ℕ × ℤ → Type 0) (i : ℕ) (x : ℤ) → P (i, x) → Every P (single_term i x)
every-single_term P i (pos zero) h = tt
every-single_term P i (pos (suc n)) h = (h, tt)
every-single_term P i (negsuc n) h = (h, tt)

least_weight : (k : Kind) (f : ℕ → ℤ) (j : ℕ) → ((n : ℕ) → pos 0 ≤ℤ f n) → is_equation k ≡ false → pos 0 ≤ℤ weight_by k f j
least_weight Inequality f j h e = h j
least_weight Equation f j h e = absurd (cc)

pub weights_allowed : (all gs : List Generator) (i j : ℕ) (f : ℕ → ℤ) → ((n : ℕ) → pos 0 ≤ℤ f n) → i + length gs ≤ length all
    → ((k : ℕ) → k < length gs → generator_at all (i + k) ≡ generator_at gs k)
    → Every (IsAllowed (forms_of all)) (weights_from i j gs f)
unfolding numbers_from
weights_allowed all [] i j f p b h = tt
weights_allowed all (g ∷ gs) i j f p b h =
    let here : generator_at all i ≡ g = ap (generator_at all) (same_index i) ∙ h zero (omega arith) in
    every-append (IsAllowed (forms_of all)) (single_term i (weight_by g.kind f j)) (weights_from (i + 1) (j + column_count g.kind) gs f)
    (every-single_term (IsAllowed (forms_of all)) i (weight_by g.kind f j)
    (omega arith, λ e. least_weight g.kind f j p (sym (ap (λ (g : Generator). is_equation g.kind) here) ∙ e)))
    (weights_allowed all gs (i + 1) (j + column_count g.kind) f p (omega arith) (λ k l. ap (generator_at all) (next_index i k) ∙ h (suc k) (omega arith)))
