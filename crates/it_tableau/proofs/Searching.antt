-- The search for a column among terms.
use Rattle.std.proofs.Common.{◌≡◌, ◌≢◌, ◌⊎◌, inl, inr, ℕ, zero, suc, ◌<◌, ◌≤◌, pos, refl, ap, ◌∙◌, arith, [], ◌∷◌, cond, length, get_or, Less, Greater}
use Rattle.std.proofs.lemmas.Bool.{cases_lt, eq-eqb, ne_eqb}
use Rattle.std.specs.List.Sorted.{IsNonDecreasingBy, IsPartitionPoint}
use Rattle.std.specs.Ordering.{ordering_index, nat_cmp}
use Rattle.it_rational.specs.Rational.{Rational, integer}
use Rattle.it_tableau.specs.SparseRows.{RowTerms, entry_in, Climbs}
use Rattle.it_space.proofs.CanonicalRows.{rank_rises, ordered_apart}

-- what comes later has a greater column, or is the same term
climbs_far : (from to : ℕ) (ts : RowTerms) (i j : ℕ) (d : ℕ × Rational) → Climbs from to ts → i ≤ j → j < length ts
    → (from ≤ (get_or ts i d).0) × ((get_or ts i d).0 ≤ (get_or ts j d).0)
climbs_far from to [] i j d a h l = absurd (omega arith)
climbs_far from to (t ∷ ts) zero zero d a h l = (a.0, omega arith)
climbs_far from to (t ∷ ts) zero (suc j) d a h l = let r = (climbs_far (suc t.0) to ts j j d a.3 (omega arith) (omega arith)).0 in (a.0, omega (arith, r))
climbs_far from to (t ∷ ts) (suc i) zero d a h l = absurd (omega arith)
climbs_far from to (t ∷ ts) (suc i) (suc j) d a h l = let r = climbs_far (suc t.0) to ts i j d a.3 (omega arith) (omega arith) in (omega (arith, a.0, r.0), r.1)

-- the number in the column of term i is that term's
pub entry_of_term : (from to : ℕ) (ts : RowTerms) (i : ℕ) (d : ℕ × Rational) → Climbs from to ts → i < length ts
    → entry_in ts (get_or ts i d).0 ≡ (get_or ts i d).1
entry_of_term from to [] i d a h = absurd (omega arith)
entry_of_term from to (t ∷ ts) zero d a h = ap (λ b. cond b t.1 (entry_in ts t.0)) (eq-eqb t.0 t.0 refl)
entry_of_term from to (t ∷ ts) (suc i) d a h =
    let later : i < length ts = omega arith in
    let beyond = (climbs_far (suc t.0) to ts i i d a.3 (omega arith) later).0 in
    ap (λ b. cond b t.1 (entry_in ts (get_or ts i d).0)) (ne_eqb t.0 (get_or ts i d).0 (λ e. omega (arith, beyond, e)))
    ∙ entry_of_term (suc t.0) to ts i d a.3 later

entry_without_term : (ts : RowTerms) (c : ℕ) → ((i : ℕ) (d : ℕ × Rational) → i < length ts → (get_or ts i d).0 ≢ c) → entry_in ts c ≡ integer (pos 0)
entry_without_term [] c h = refl
entry_without_term (t ∷ ts) c h = ap (λ b. cond b t.1 (entry_in ts c)) (ne_eqb t.0 c (h 0 t (omega arith)))
    ∙ entry_without_term ts c (λ i d l. h (suc i) d (omega arith))

-- the order of the terms by their columns, as a binary search asks for it
pub ranks_rise : (to : ℕ) (ts : RowTerms) (c : ℕ) → Climbs 0 to ts → IsNonDecreasingBy (λ (t : ℕ × Rational). ordering_index (nat_cmp t.0 c)) ts
ranks_rise to ts c a = λ i j d h l. rank_rises (get_or ts i d).0 (get_or ts j d).0 c (climbs_far 0 to ts i j d a h l).1

-- where each term lies before or after a column, its number is 0
pub entry_where_search_fails : (ts : RowTerms) (c i : ℕ)
    → IsPartitionPoint (λ (t : ℕ × Rational). nat_cmp t.0 c ≡ Less) (λ (t : ℕ × Rational). nat_cmp t.0 c ≡ Greater) ts i
    → entry_in ts c ≡ integer (pos 0)
entry_where_search_fails ts c i p = entry_without_term ts c (λ k d l. by_cases k d l (cases_lt k i))
  where
    by_cases : (k : ℕ) (d : ℕ × Rational) → k < length ts → (k < i) ⊎ (i ≤ k) → (get_or ts k d).0 ≢ c
    by_cases k d l (inl h) = ordered_apart (get_or ts k d).0 c (inl (p.0 k d (omega arith) h))
    by_cases k d l (inr h) = ordered_apart (get_or ts k d).0 c (inr (p.1 k d h l))
