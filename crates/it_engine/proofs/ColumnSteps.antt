-- A column while the terms of its generator are put into it.
use Rattle.std.proofs.Common.{◌≡◌, ◌≢◌, ◌⊎◌, inl, inr, ℕ, zero, suc, ◌+◌, ◌<◌, ◌≤◌, ◌++◌, Bool, true, false, cond, eqb, ℤ, pos, ◌+ℤ◌, neg_ℤ, List, [], ◌∷◌, All, drop, length, slice_index_or, refl, sym, ap, subst, ◌∙◌, arith}
use Rattle.std.proofs.lemmas.Bool.{cases_eq, cases_lt, eq-eqb, ne_eqb}
use Rattle.std.proofs.lemmas.Int.{ints}
use Rattle.std.proofs.lemmas.List.{drop_all}
use Rattle.std.proofs.lemmas.List.Elements.{All-append}
use Rattle.std.proofs.Math.Seq.{drop-cons}
use Rattle.it_number.proofs.Ring.{ring, mul-null, v, plus, times, nil}
use Rattle.it_rational.specs.Rational.{Rational, integer}
use Rattle.it_rational.specs.Rational as Q
use Rattle.it_rational.proofs.RationalLaws.{ring_ℚ}
use Rattle.it_space.specs.Rows.{Terms, coefficient}
use Rattle.it_tableau.specs.FieldOperations.{sum_to}
use Rattle.it_tableau.specs.Problems.{IsAscending}
use Rattle.it_tableau.proofs.Sums.{sum_add, sum_null, sum_one, sum_same}
use Rattle.it_run.specs.RowValues.{rational_value}
use Rattle.it_engine.specs.Loading.{keeps_sign, signed, signed_coefficient, IsReadColumn, IsTermPut}
use Rattle.it_engine.proofs.StartNumbers.{plus_integers}

value_more : (terms : Terms) (k : ℕ) (z : ℤ) (g : ℕ → Rational) → rational_value (terms ++ (k, z) ∷ []) g
    ≡ Q.plus (Q.times (g k) (integer z)) (rational_value terms g)
value_more [] k z g = ring ring_ℚ (integer z ∷ g k ∷ []) (plus (times (v 0) (v 1)) nil) (plus (times (v 1) (v 0)) nil) refl
value_more (t ∷ ts) k z g = ap (Q.plus (Q.times (integer t.1) (g t.0))) (value_more ts k z g)
    ∙ ring ring_ℚ (Q.times (integer t.1) (g t.0) ∷ Q.times (g k) (integer z) ∷ rational_value ts g ∷ []) (plus (v 0) (plus (v 1) (v 2)))
    (plus (v 1) (plus (v 0) (v 2))) refl

All-one : (m k : ℕ) (z : ℤ) → k < m → All (λ (t : ℕ × ℤ). t.0 < m) ((k, z) ∷ [])
All-one m k z h zero d l = h
All-one m k z h (suc i) d l = absurd (omega arith)

signed_sum : (kept : Bool) (x y : ℤ) → cond kept (x +ℤ y) (neg_ℤ (x +ℤ y)) ≡ cond kept x (neg_ℤ x) +ℤ cond kept y (neg_ℤ y)
signed_sum true x y = refl
signed_sum false x y = omega (arith, ints)

signed_null : (kept : Bool) → cond kept (pos 0) (neg_ℤ (pos 0)) ≡ pos 0
signed_null true = refl
signed_null false = refl

module _ (cs : List ℕ) (target : Terms) (g : ℕ → Rational) where
  -- the entries of a generator's column, weighed by g
  abbrev entries_sum : Terms → Rational
  entries_sum ts = sum_to ring_ℚ (length cs) (λ k. Q.times (g k) (integer (signed_coefficient cs target ts k)))

  -- what one term adds to them
  abbrev term_sum : ℕ × ℤ → Rational
  term_sum t = sum_to ring_ℚ (length cs) (λ k. cond (eqb t.0 (slice_index_or cs k 0)) (Q.times (g k) (integer (signed cs target k t.1))) ring_ℚ.null)

  first_term : (t : ℕ × ℤ) (ts : Terms) → entries_sum (t ∷ ts) ≡ Q.plus (term_sum t) (entries_sum ts)
  first_term t ts = sum_same ring_ℚ (length cs) (λ k. Q.times (g k) (integer (signed_coefficient cs target (t ∷ ts) k)))
      (λ k. Q.plus (cond (eqb t.0 (slice_index_or cs k 0)) (Q.times (g k) (integer (signed cs target k t.1))) ring_ℚ.null)
      (Q.times (g k) (integer (signed_coefficient cs target ts k))))
      (λ k l. by_test k (eqb t.0 (slice_index_or cs k 0)))
      ∙ sum_add ring_ℚ (length cs) (λ k. cond (eqb t.0 (slice_index_or cs k 0)) (Q.times (g k) (integer (signed cs target k t.1))) ring_ℚ.null)
      (λ k. Q.times (g k) (integer (signed_coefficient cs target ts k)))
    where
      by_test : (k : ℕ) (b : Bool) → Q.times (g k) (integer (signed cs target k (cond b t.1 (pos 0) +ℤ coefficient ts (slice_index_or cs k 0))))
          ≡ Q.plus (cond b (Q.times (g k) (integer (signed cs target k t.1))) ring_ℚ.null) (Q.times (g k) (integer (signed_coefficient cs target ts k)))
      by_test k true = ap (λ z. Q.times (g k) (integer z)) (signed_sum (keeps_sign cs target k) t.1 (coefficient ts (slice_index_or cs k 0)))
          ∙ ap (Q.times (g k)) (sym (plus_integers (signed cs target k t.1) (signed_coefficient cs target ts k)))
          ∙ ring ring_ℚ (g k ∷ integer (signed cs target k t.1) ∷ integer (signed_coefficient cs target ts k) ∷ [])
          (times (v 0) (plus (v 1) (v 2))) (plus (times (v 0) (v 1)) (times (v 0) (v 2))) refl
      by_test k false = ap (λ z. Q.times (g k) (integer (signed cs target k z))) (null_added (coefficient ts (slice_index_or cs k 0)))
          ∙ sym (ring_ℚ.null-add (Q.times (g k) (integer (signed_coefficient cs target ts k))))
        where
          null_added : (z : ℤ) → pos 0 +ℤ z ≡ z
          null_added z = omega (arith, ints)

  -- a term of the row k
  term_in_row : IsAscending cs → (t : ℕ × ℤ) (k : ℕ) → k < length cs → slice_index_or cs k 0 ≡ t.0
      → term_sum t ≡ Q.times (g k) (integer (signed cs target k t.1))
  term_in_row up t k h e = sum_same ring_ℚ (length cs) (λ i. cond (eqb t.0 (slice_index_or cs i 0))
      (Q.times (g i) (integer (signed cs target i t.1))) ring_ℚ.null)
      (λ i. cond (eqb i k) (Q.times (g i) (integer (signed cs target i t.1))) ring_ℚ.null)
      (λ i l. ap (λ b. cond b (Q.times (g i) (integer (signed cs target i t.1))) ring_ℚ.null) (one_row i l (cases_eq i k)))
      ∙ sum_one ring_ℚ (length cs) (λ i. Q.times (g i) (integer (signed cs target i t.1))) k h
    where
      apart : (i : ℕ) → i < length cs → (i < k) ⊎ (k ≤ i) → i ≢ k → t.0 ≢ slice_index_or cs i 0
      apart i l (inl s) d f = let u = up i k s h in omega (arith, u, e, f)
      apart i l (inr s) d f = let u = up k i (omega (arith, s, d)) l in omega (arith, u, e, f)

      one_row : (i : ℕ) → i < length cs → (i ≡ k) ⊎ (i ≡ k → ⊥) → eqb t.0 (slice_index_or cs i 0) ≡ eqb i k
      one_row i l (inl s) = eq-eqb t.0 (slice_index_or cs i 0) (sym e ∙ ap (λ r. slice_index_or cs r 0) (sym s)) ∙ sym (eq-eqb i k s)
      one_row i l (inr d) = ne_eqb t.0 (slice_index_or cs i 0) (apart i l (cases_lt i k) d) ∙ sym (ne_eqb i k d)

  -- a term of no row
  term_in_none : (t : ℕ × ℤ) → ((k : ℕ) → k < length cs → slice_index_or cs k 0 ≢ t.0) → term_sum t ≡ ring_ℚ.null
  term_in_none t none = sum_same ring_ℚ (length cs) (λ i. cond (eqb t.0 (slice_index_or cs i 0))
      (Q.times (g i) (integer (signed cs target i t.1))) ring_ℚ.null) (λ i. ring_ℚ.null)
      (λ i l. ap (λ b. cond b (Q.times (g i) (integer (signed cs target i t.1))) ring_ℚ.null) (ne_eqb t.0 (slice_index_or cs i 0) (λ f. none i l (sym f))))
      ∙ sum_null ring_ℚ (length cs)

  no_terms : entries_sum [] ≡ ring_ℚ.null
  no_terms = sum_same ring_ℚ (length cs) (λ k. Q.times (g k) (integer (signed_coefficient cs target [] k))) (λ k. ring_ℚ.null)
      (λ k l. ap (λ z. Q.times (g k) (integer z)) (signed_null (keeps_sign cs target k)) ∙ mul-null ring_ℚ (g k)) ∙ sum_null ring_ℚ (length cs)

-- the first i terms of a generator are put into its column
pub record IsColumnUnderWay (cs : List ℕ) (target generator : Terms) (i : ℕ) (column : Terms) : Type 0 where
  pub value_is : (g : ℕ → Rational) → Q.plus (rational_value column g) (sum_to ring_ℚ (length cs)
      (λ k. Q.times (g k) (integer (signed_coefficient cs target (drop i generator) k))))
      ≡ sum_to ring_ℚ (length cs) (λ k. Q.times (g k) (integer (signed_coefficient cs target generator k)))
  pub within : All (λ t. t.0 < length cs) column

module _ (cs : List ℕ) (target generator : Terms) where
  pub column_first : IsColumnUnderWay cs target generator 0 []
  column_first = record {
    value_is = λ g. ring_ℚ.null-add (entries_sum cs target g generator);
    within = λ i d l. absurd (omega arith);
  }

  pub column_more : (i : ℕ) (old new : Terms) → IsAscending cs → i < length generator
      → IsTermPut cs target (slice_index_or generator i (0, pos 0)).0 (slice_index_or generator i (0, pos 0)).1 old new
      → IsColumnUnderWay cs target generator i old → IsColumnUnderWay cs target generator (i + 1) new
  column_more i old new up h put w = subst (λ (k : ℕ). IsColumnUnderWay cs target generator k new) (one_more i) (by_row put)
    where
      one_more : (k : ℕ) → suc k ≡ k + 1
      one_more k = omega arith

      term : ℕ × ℤ
      term = slice_index_or generator i (0, pos 0)

      rest : Terms
      rest = drop (suc i) generator

      next : (g : ℕ → Rational) → entries_sum cs target g (drop i generator) ≡ Q.plus (term_sum cs target g term) (entries_sum cs target g rest)
      next g = ap (entries_sum cs target g) (drop-cons generator i (0, pos 0) h) ∙ first_term cs target g term rest

      by_row : IsTermPut cs target term.0 term.1 old new → IsColumnUnderWay cs target generator (suc i) new
      by_row (inl (k, l, e, is)) = record {
        value_is = λ g. ap (λ ts. Q.plus (rational_value ts g) (entries_sum cs target g rest)) is
            ∙ ap (λ x. Q.plus x (entries_sum cs target g rest)) (value_more old k (signed cs target k term.1) g
            ∙ ap (λ x. Q.plus x (rational_value old g)) (sym (term_in_row cs target g up term k l e)))
            ∙ ring ring_ℚ (term_sum cs target g term ∷ rational_value old g ∷ entries_sum cs target g rest ∷ [])
            (plus (plus (v 0) (v 1)) (v 2)) (plus (v 1) (plus (v 0) (v 2))) refl
            ∙ ap (Q.plus (rational_value old g)) (sym (next g)) ∙ w.value_is g;
        within = subst (All (λ t. t.0 < length cs)) (sym is) (All-append (λ (t : ℕ × ℤ). t.0 < length cs) old
            ((k, signed cs target k term.1) ∷ []) w.within (All-one (length cs) k (signed cs target k term.1) l));
      }
      by_row (inr (none, is)) = record {
        value_is = λ g. ap (λ ts. Q.plus (rational_value ts g) (entries_sum cs target g rest)) is
            ∙ ap (Q.plus (rational_value old g)) (sym (next g ∙ ap (λ x. Q.plus x (entries_sum cs target g rest))
            (term_in_none cs target g term none) ∙ ring_ℚ.null-add (entries_sum cs target g rest)))
            ∙ w.value_is g;
        within = subst (All (λ t. t.0 < length cs)) (sym is) w.within;
      }

  pub column_whole : (i : ℕ) (column : Terms) → length generator ≤ i → IsColumnUnderWay cs target generator i column
      → IsReadColumn (length cs) (signed_coefficient cs target generator) column
  column_whole i column over w = record {
    value_is = λ g. sym (w.value_is g)
        ∙ ap (λ ts. Q.plus (rational_value column g) (entries_sum cs target g ts)) (drop_all i generator over)
        ∙ ap (Q.plus (rational_value column g)) (no_terms cs target g)
        ∙ ring ring_ℚ (rational_value column g ∷ []) (plus (v 0) nil) (v 0) refl;
    within = w.within;
  }
