-- Terms by ascending column.
use Rattle.std.proofs.Common.{◌≡◌, ◌≢◌, ◌⊎◌, inl, inr, Bool, true, false, ℕ, suc, ◌+◌, ◌<◌, ◌≤◌, ◌++◌, cond, eqb, pos, [], ◌∷◌, refl, sym, ap, ap₂, ◌∙◌, arith}
use Rattle.std.proofs.lemmas.Bool.{cases_eq, eq-eqb, ne_eqb}
use Rattle.it_rational.specs.Rational.{Rational, integer}
use Rattle.it_fraction.specs.Fits.{IsNarrow}
use Rattle.it_fraction.proofs.ZeroLemmas.{zero_narrow}
use Rattle.it_tableau.specs.SparseRows.{RowTerms, entry_in, Climbs}

pub climbs_upto : (from to : ℕ) (out : RowTerms) → Climbs from to out → from ≤ to
climbs_upto from to [] h = h
climbs_upto from to (t ∷ ts) h = let u = climbs_upto (suc t.0) to ts h.3 in omega (arith, u, h.0)

-- past its columns a row has no number
pub climbs_none : (from to : ℕ) (out : RowTerms) (k : ℕ) → Climbs from to out → to ≤ k → entry_in out k ≡ integer (pos 0)
climbs_none from to [] k h l = refl
climbs_none from to (t ∷ ts) k h l = ap (λ b. cond b t.1 (entry_in ts k))
    (ne_eqb t.0 k (λ e. let u = climbs_upto (suc t.0) to ts h.3 in omega (arith, u, e, l))) ∙ climbs_none (suc t.0) to ts k h.3 l

-- more columns
pub climbs_weaker : (from to new : ℕ) (out : RowTerms) → to ≤ new → Climbs from to out → Climbs from new out
climbs_weaker from to new [] l h = omega (arith, l, h)
climbs_weaker from to new (t ∷ ts) l h = (h.0, h.1, h.2, climbs_weaker (suc t.0) to new ts l h.3)

-- one term more
pub climbs_more : (from c : ℕ) (out : RowTerms) (v : Rational) → v ≢ integer (pos 0) → IsNarrow v → Climbs from c out → Climbs from (c + 1) (out ++ (c, v) ∷ [])
climbs_more from c [] v n w h = (h, n, w, omega arith)
climbs_more from c (t ∷ ts) v n w h = (h.0, h.1, h.2, climbs_more (suc t.0) c ts v n w h.3)

-- the number of a row with one term more
pub number_more : (from c : ℕ) (out : RowTerms) (x : Rational) (k : ℕ) → Climbs from c out → entry_in (out ++ (c, x) ∷ []) k ≡ cond (eqb c k) x (entry_in out k)
number_more from c [] x k h = refl
number_more from c (t ∷ ts) x k h = by_cases (cases_eq t.0 k) (number_more (suc t.0) c ts x k h.3) (climbs_upto (suc t.0) c ts h.3)
  where
    by_cases : (t.0 ≡ k) ⊎ (t.0 ≡ k → ⊥) → entry_in (ts ++ (c, x) ∷ []) k ≡ cond (eqb c k) x (entry_in ts k) → suc t.0 ≤ c
        → cond (eqb t.0 k) t.1 (entry_in (ts ++ (c, x) ∷ []) k) ≡ cond (eqb c k) x (cond (eqb t.0 k) t.1 (entry_in ts k))
    by_cases (inl b) ih l = ap (λ b. cond b t.1 (entry_in (ts ++ (c, x) ∷ []) k)) (eq-eqb t.0 k b)
        ∙ sym (ap₂ (λ b d. cond b x (cond d t.1 (entry_in ts k))) (ne_eqb c k (λ z. omega (arith, b, l, z))) (eq-eqb t.0 k b))
    by_cases (inr b) ih l = ap (λ b. cond b t.1 (entry_in (ts ++ (c, x) ∷ []) k)) (ne_eqb t.0 k b) ∙ ih
        ∙ ap (λ d. cond (eqb c k) x (cond d t.1 (entry_in ts k))) (sym (ne_eqb t.0 k b))

-- below its first column a row has no number
pub climbs_below : (from to : ℕ) (ts : RowTerms) (k : ℕ) → Climbs from to ts → k < from → entry_in ts k ≡ integer (pos 0)
climbs_below from to [] k a l = refl
climbs_below from to (t ∷ ts) k a l = ap (λ b. cond b t.1 (entry_in ts k)) (ne_eqb t.0 k (λ e. let h = a.0 in omega (arith, h, e, l)))
    ∙ climbs_below (suc t.0) to ts k a.3 (let h = a.0 in omega (arith, h, l))

-- each number is within the limit
pub climbs_narrow : (from to : ℕ) (ts : RowTerms) (k : ℕ) → Climbs from to ts → IsNarrow (entry_in ts k)
climbs_narrow from to [] k a = zero_narrow
climbs_narrow from to (t ∷ ts) k a = by_test (eqb t.0 k) (climbs_narrow (suc t.0) to ts k a.3)
  where
    by_test : (b : Bool) → IsNarrow (entry_in ts k) → IsNarrow (cond b t.1 (entry_in ts k))
    by_test true n = a.2
    by_test false n = n
