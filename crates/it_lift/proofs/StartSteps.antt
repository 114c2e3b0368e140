-- Lists of weights by number, and the list of all weights.
use Rattle.std.proofs.Common.{◌≡◌, ℕ, zero, suc, ◌+◌, ◌<◌, ◌≤◌, ℤ, pos, negsuc, ◌+ℤ◌, List, [], ◌∷◌, ◌++◌, length, take, get_or, set, Bool, true, false, cond, nat_eq, refl, sym, ap, subst, ◌∙◌, arith, eq-eqb, ne_eqb, All, lit<}
use Rattle.it_number.specs.Limit.{IsWithin}
use Rattle.it_number.proofs.SignLemmas.{plus_none}
use Rattle.std.specs.List.{AllByRecursion as Every}
use Rattle.it_space.proofs.EveryLemmas.{every_of}
use Rattle.std.proofs.lemmas.Int.{ints}
use Rattle.std.proofs.lemmas.Bool.{eqb-true, true≢false}
use Rattle.std.proofs.lemmas.List.{take_more, get_or-set_other}
use Rattle.std.proofs.lemmas.Grind.{get_or-set_at}
use Rattle.std.proofs.Math.IntN.{+ℤ_idl}
use Rattle.it_space.specs.Rows.{coefficient, single_term}
use Rattle.it_space.specs.Sums.{number_at, terms_from}
use Rattle.it_lift.specs.LiftedCertificates.{WeightsAscend}
use Rattle.it_space.proofs.TermLemmas.{coefficient-append}

order_at : (from : ℕ) (ws : List (ℕ × ℤ)) (k : ℕ) (d : ℕ × ℤ) → WeightsAscend from ws → k < length ws → from ≤ (get_or ws k d).0
order_at from [] k d o h = absurd (omega arith)
order_at from (w ∷ ws) zero d o h = o.0
order_at from (w ∷ ws) (suc k) d o h = omega (arith, o.0, order_at (w.0 + 1) ws k d o.1 (omega arith))

-- the earlier ones have other numbers
no_earlier_weight : (from : ℕ) (ws : List (ℕ × ℤ)) (k : ℕ) (d : ℕ × ℤ) → WeightsAscend from ws → k < length ws
    → coefficient (take k ws) (get_or ws k d).0 ≡ pos 0
no_earlier_weight from [] k d o h = absurd (omega arith)
no_earlier_weight from (w ∷ ws) zero d o h = refl
no_earlier_weight from (w ∷ ws) (suc k) d o h =
    let later : w.0 + 1 ≤ (get_or ws k d).0 = order_at (w.0 + 1) ws k d o.1 (omega arith) in
    ap (λ b. cond b w.1 (pos 0) +ℤ coefficient (take k ws) (get_or ws k d).0) (ne_eqb w.0 (get_or ws k d).0 (λ e. omega arith))
    ∙ ap (λ y. pos 0 +ℤ y) (no_earlier_weight (w.0 + 1) ws k d o.1 (omega arith)) ∙ omega (arith, ints)

pub start-more : (ws : List (ℕ × ℤ)) (k : ℕ) (d : ℕ × ℤ) (xs : List ℤ) → WeightsAscend 0 ws → k < length ws → (get_or ws k d).0 < length xs
    → ((i : ℕ) → number_at xs i ≡ coefficient (take k ws) i)
    → (i : ℕ) → number_at (set xs (get_or ws k d).0 (get_or ws k d).1) i ≡ coefficient (take (k + 1) ws) i
start-more ws k d xs o h l same i = by_test (nat_eq next_weight.0 i) refl ∙ sym coefficient_with_next
  where
    next_weight : ℕ × ℤ
    next_weight = get_or ws k d

    coefficient_with_next : coefficient (take (k + 1) ws) i ≡ coefficient (take k ws) i +ℤ (cond (nat_eq next_weight.0 i) next_weight.1 (pos 0) +ℤ pos 0)
    coefficient_with_next = ap (λ xs. coefficient xs i) (take_more ws k d h) ∙ coefficient-append (take k ws) (next_weight ∷ []) i

    weight_is_put : (a b : ℤ) → a ≡ pos 0 → b ≡ a +ℤ (b +ℤ pos 0)
    weight_is_put a b e = rw e (omega (arith, ints))

    weight_stays : (a : ℤ) → a ≡ a +ℤ (pos 0 +ℤ pos 0)
    weight_stays a = omega (arith, ints)

    by_test : (b : Bool) → nat_eq next_weight.0 i ≡ b → number_at (set xs next_weight.0 next_weight.1) i ≡ coefficient (take k ws) i
        +ℤ (cond (nat_eq next_weight.0 i) next_weight.1 (pos 0) +ℤ pos 0)
    by_test true e =
        let s : i ≡ next_weight.0 = sym (eqb-true next_weight.0 i e) in
        get_or-set_at xs next_weight.0 i next_weight.1 (pos 0) s l
        ∙ weight_is_put (coefficient (take k ws) i) next_weight.1 (ap (coefficient (take k ws)) s ∙ no_earlier_weight 0 ws k d o h)
        ∙ ap (λ b. coefficient (take k ws) i +ℤ (cond b next_weight.1 (pos 0) +ℤ pos 0)) (sym e)
    by_test false e =
        get_or-set_other xs next_weight.0 i next_weight.1 (pos 0) (λ q. true≢false (sym (eq-eqb next_weight.0 i (sym q)) ∙ e)) ∙ same i
        ∙ weight_stays (coefficient (take k ws) i)
        ∙ ap (λ b. coefficient (take k ws) i +ℤ (cond b next_weight.1 (pos 0) +ℤ pos 0)) (sym e)

-- the numbers other than 0 are in order
weights_ascend-single_term : (i : ℕ) (x : ℤ) (ws : List (ℕ × ℤ)) → WeightsAscend (i + 1) ws → WeightsAscend i (single_term i x ++ ws)
weights_ascend-single_term i (pos zero) ws o = ascend_from_lower ws o
  where
    ascend_from_lower : (ws : List (ℕ × ℤ)) → WeightsAscend (i + 1) ws → WeightsAscend i ws
    ascend_from_lower [] o = tt
    ascend_from_lower (w ∷ ws) o = (omega (arith, o.0), o.1)
weights_ascend-single_term i (pos (suc x)) ws o = (omega arith, o)
weights_ascend-single_term i (negsuc x) ws o = (omega arith, o)

pub weights_order : (first : ℕ) (xs : List ℤ) → WeightsAscend first (terms_from first xs)
weights_order first [] = tt
weights_order first (x ∷ xs) = weights_ascend-single_term first x (terms_from (first + 1) xs) (weights_order (first + 1) xs)

-- the weights of a list in order are its numbers or 0
pub parts_within : (ws : List (ℕ × ℤ)) → WeightsAscend 0 ws → All (λ p. IsWithin p.1) ws → (i : ℕ) → IsWithin (coefficient ws i)
parts_within ws o a i = by_list 0 ws o (every_of (λ p. IsWithin p.1) ws a)
  where
    none_above : (from : ℕ) (ws : List (ℕ × ℤ)) → WeightsAscend from ws → i < from → coefficient ws i ≡ pos 0
    none_above from [] o h = refl
    none_above from (w ∷ ws) o h = ap (λ b. cond b w.1 (pos 0) +ℤ coefficient ws i) (ne_eqb w.0 i (λ e. omega (arith, o.0)))
        ∙ ap (λ y. pos 0 +ℤ y) (none_above (w.0 + 1) ws o.1 (omega (arith, o.0)))

    by_list : (from : ℕ) (ws : List (ℕ × ℤ)) → WeightsAscend from ws → Every (λ p. IsWithin p.1) ws → IsWithin (coefficient ws i)
    by_list from [] o v = lit< tt
    by_list from (w ∷ ws) o v = by_test (nat_eq w.0 i) refl (by_list (w.0 + 1) ws o.1 v.1)
      where
        by_test : (b : Bool) → nat_eq w.0 i ≡ b → IsWithin (coefficient ws i) → IsWithin (cond b w.1 (pos 0) +ℤ coefficient ws i)
        by_test true e ih = subst IsWithin (sym (plus_none w.1 (coefficient ws i) (none_above (w.0 + 1) ws o.1 (omega (arith, eqb-true w.0 i e))))) v.0
        by_test false e ih = subst IsWithin (sym (+ℤ_idl (coefficient ws i))) ih
