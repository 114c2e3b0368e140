-- Weights added one after the other.
use Rattle.std.proofs.Common.{◌≡◌, ℕ, ◌+◌, ◌<◌, ℤ, ◌+ℤ◌, List, [], ◌∷◌, ◌++◌, map, length, take, drop, get_or, Bool, true, false, cond, refl, sym, ap, ap₂, subst, ◌∙◌, arith, All, bit_and, not, neg_ℤ, Result, Ok, Err, OnOk, OnErr}
use Rattle.std.proofs.lemmas.Int.{ints}
use Rattle.std.proofs.lemmas.List.{take_more, take-append-drop, map-append}
use Rattle.it_number.specs.Limit.{IsWithin}
use Rattle.it_space.specs.Rows.{coefficient}
use Rattle.it_polymatroid.specs.Elementals.{Elemental, elementals, elemental_at}
use Rattle.std.specs.List.{AllByRecursion as Every}
use Rattle.it_space.proofs.ListLemmas.{drop_item}
use Rattle.it_space.proofs.EveryLemmas.{every_of}
use Rattle.it_elemental.specs.Expansions.{members, mutual_expansion, conditional_expansion}
use Rattle.it_closure.specs.declared.dependences.Dependence.{Dependence}
use Rattle.it_lift.specs.Lifts.{each_weight, set_difference, signed_value, turn_moves}
use Rattle.it_elemental.proofs.IndexLemmas.{index_back}
use Rattle.it_lift.specs.Fits.{WeightSumsFit}
use Rattle.it_space.specs.Sums.{number_at, plus_at, IsAdded}
use Rattle.it_lift.specs.Sums.{weights_after, for_each, AreWeightsAdded}

pub after-total : (f : ℕ → ℤ) (ms : List (ℕ × ℤ)) (i : ℕ) → weights_after f ms i ≡ f i +ℤ coefficient ms i
after-total f [] i = omega (arith, ints)
after-total f (m ∷ ms) i = after-total (plus_at f m) ms i ∙ omega (arith, ints)

pub after-append : (f : ℕ → ℤ) (xs ys : List (ℕ × ℤ)) → weights_after f (xs ++ ys) ≡ weights_after (weights_after f xs) ys
after-append f [] ys = refl
after-append f (x ∷ xs) ys = after-append (plus_at f x) xs ys

pub fits-append : (f : ℕ → ℤ) (xs ys : List (ℕ × ℤ)) → WeightSumsFit f xs → WeightSumsFit (weights_after f xs) ys → WeightSumsFit f (xs ++ ys)
fits-append f [] ys h k = k
fits-append f (x ∷ xs) ys h k = (h.0, fits-append (plus_at f x) xs ys h.1 k)

pub fits_front : (f : ℕ → ℤ) (xs ys : List (ℕ × ℤ)) → WeightSumsFit f (xs ++ ys) → WeightSumsFit f xs
fits_front f [] ys h = tt
fits_front f (x ∷ xs) ys h = (h.0, fits_front (plus_at f x) xs ys h.1)

pub fits_back : (f : ℕ → ℤ) (xs ys : List (ℕ × ℤ)) → WeightSumsFit f (xs ++ ys) → WeightSumsFit (weights_after f xs) ys
fits_back f [] ys h = h
fits_back f (x ∷ xs) ys h = fits_back (plus_at f x) xs ys h.1

pub added-append : (a b c : List ℤ) (xs ys : List (ℕ × ℤ)) → AreWeightsAdded a b xs → AreWeightsAdded b c ys → AreWeightsAdded a c (xs ++ ys)
added-append a b c xs ys h k = record {
  fits = fits-append (number_at a) xs ys h.fits (subst (λ (f : ℕ → ℤ). WeightSumsFit f ys) h.same k.fits);
  same = k.same ∙ ap (λ (f : ℕ → ℤ). weights_after f ys) h.same ∙ sym (after-append (number_at a) xs ys);
  complete = k.complete ∙ h.complete;
}

-- what doesn't fit afterwards doesn't fit
pub stops-after : (a b : List ℤ) (xs ys : List (ℕ × ℤ)) → AreWeightsAdded a b xs → ¬ (WeightSumsFit (number_at b) ys)
    → ¬ (WeightSumsFit (number_at a) (xs ++ ys))
stops-after a b xs ys h n w = n (subst (λ (f : ℕ → ℤ). WeightSumsFit f ys) (sym h.same) (fits_back (number_at a) xs ys w))

pub stops-before : (f : ℕ → ℤ) (xs ys : List (ℕ × ℤ)) → ¬ (WeightSumsFit f xs) → ¬ (WeightSumsFit f (xs ++ ys))
stops-before f xs ys n w = n (fits_front f xs ys w)

-- one amount
pub added_one : {X E : Type 0} (r : Result X E) (old new : List ℤ) (i : ℕ) (x y : ℤ) → y ≡ x → OnOk r (IsAdded old new i y)
    → OnOk r (AreWeightsAdded old new ((i, x) ∷ []))
added_one (Ok v) old new i x y e a = rw (← e) (record { fits = (a.fits, tt); same = a.same; complete = a.complete })
added_one (Err v) old new i x y e a = tt

pub one_stops : {X E : Type 0} (r : Result X E) (old : List ℤ) (i : ℕ) (x y : ℤ) → y ≡ x → OnErr r (¬ IsWithin (number_at old i +ℤ y))
    → OnErr r (¬ WeightSumsFit (number_at old) ((i, x) ∷ []))
one_stops (Ok v) old i x y e a = tt
one_stops (Err v) old i x y e a = λ w. a (rw e w.0)

split_each : (x : ℤ) (is : List ℕ) (k i : ℕ) → k < length is → i ≡ get_or is k i
    → for_each x is ≡ for_each x (take k is) ++ (i, x) ∷ for_each x (drop (k + 1) is)
split_each x is k i h e = ap (for_each x) (sym (take-append-drop k is) ∙ ap (λ r. take k is ++ r) (drop_item is k i h e))
    ∙ map-append (λ i. (i, x)) (take k is) (i ∷ drop (k + 1) is)

pub each-more : (x : ℤ) (is : List ℕ) (k i : ℕ) (a b c : List ℤ) → k < length is → i ≡ get_or is k i
    → AreWeightsAdded a b (for_each x (take k is)) → AreWeightsAdded b c ((i, x) ∷ []) → AreWeightsAdded a c (for_each x (take (k + 1) is))
each-more x is k i a b c h e u v = subst (AreWeightsAdded a c) (sym
    (ap (for_each x) (take_more is k i h ∙ ap (λ y. take k is ++ y ∷ []) (sym e)) ∙ map-append (λ i. (i, x)) (take k is) (i ∷ [])))
    (added-append a b c (for_each x (take k is)) ((i, x) ∷ []) u v)

pub each-stops : (x : ℤ) (is : List ℕ) (k i : ℕ) (a b : List ℤ) → k < length is → i ≡ get_or is k i
    → AreWeightsAdded a b (for_each x (take k is)) → ¬ (WeightSumsFit (number_at b) ((i, x) ∷ []))
    → ¬ (WeightSumsFit (number_at a) (for_each x is))
each-stops x is k i a b h e u n = subst (λ (ms : List (ℕ × ℤ)). ¬ (WeightSumsFit (number_at a) ms)) (sym (split_each x is k i h e))
    (stops-after a b (for_each x (take k is)) ((i, x) ∷ for_each x (drop (k + 1) is)) u (λ w. n (w.0, tt)))

-- the numbers of some inequalities
pub weights_by_number : (n : ℕ) (x : ℤ) (is : List ℕ) (es : List Elemental) → All (λ i. i < length (elementals n)) is
    → map (elemental_at n) is ≡ es → for_each x is ≡ each_weight n x es
weights_by_number n x is es a e = by_list is (every_of (λ i. i < length (elementals n)) is a) ∙ ap (each_weight n x) e
  where
    by_list : (is : List ℕ) → Every (λ i. i < length (elementals n)) is → for_each x is ≡ each_weight n x (map (elemental_at n) is)
    by_list [] v = refl
    by_list (i ∷ is) v = ap₂ (λ (k : ℕ) (ms : List (ℕ × ℤ)). let p : ℕ × ℤ = (k, x) in p ∷ ms) (sym (index_back n i v.0)) (by_list is v.1)

-- the members of one set that aren't in another, as the code finds them
pub less_found : (s t r : ℕ) → r + bit_and t s ≡ s → r ≡ set_difference s t
less_found s t r e = omega arith

-- the three parts of a step of the way
pub turn_parts : (n : ℕ) (x : ℤ) (a : ℕ) (d : Dependence) (u v w z : ℕ) → u ≡ set_difference d.to a → v ≡ set_difference a d.to
    → w ≡ bit_and a d.to → z ≡ set_difference w d.from
    → (each_weight n x (mutual_expansion (members n u) (members n v) w) ++ each_weight n x (conditional_expansion n (members n z) d.from))
    ++ (d.generator, signed_value (not d.negated) x) ∷ [] ≡ turn_moves n x (a, d)
turn_parts n x a d u v w z eu ev ew ez = rw (ez, ew, eu, ev) (ap
    (λ y. (each_weight n x (mutual_expansion (members n (set_difference d.to a)) (members n (set_difference a d.to)) (bit_and a d.to))
    ++ each_weight n x (conditional_expansion n (members n (set_difference (bit_and a d.to) d.from)) d.from)) ++ (d.generator, y) ∷ []) (by_test d.negated))
  where
    by_test : (b : Bool) → signed_value (not b) x ≡ cond b x (neg_ℤ x)
    by_test true = refl
    by_test false = refl

-- where a first, a second or a third part doesn't fit
pub first_stops : (a : List ℤ) (xs ys zs ms : List (ℕ × ℤ)) → (xs ++ ys) ++ zs ≡ ms → ¬ (WeightSumsFit (number_at a) xs) → ¬ (WeightSumsFit (number_at a) ms)
first_stops a xs ys zs ms e n = subst (λ (m : List (ℕ × ℤ)). ¬ (WeightSumsFit (number_at a) m)) e
    (stops-before (number_at a) (xs ++ ys) zs (stops-before (number_at a) xs ys n))

pub second_stops : (a b : List ℤ) (xs ys zs ms : List (ℕ × ℤ)) → (xs ++ ys) ++ zs ≡ ms → AreWeightsAdded a b xs
    → ¬ (WeightSumsFit (number_at b) ys) → ¬ (WeightSumsFit (number_at a) ms)
second_stops a b xs ys zs ms e h n = subst (λ (m : List (ℕ × ℤ)). ¬ (WeightSumsFit (number_at a) m)) e
    (stops-before (number_at a) (xs ++ ys) zs (stops-after a b xs ys h n))

pub third_stops : (a b c : List ℤ) (xs ys zs ms : List (ℕ × ℤ)) → (xs ++ ys) ++ zs ≡ ms → AreWeightsAdded a b xs → AreWeightsAdded b c ys
    → ¬ (WeightSumsFit (number_at c) zs) → ¬ (WeightSumsFit (number_at a) ms)
third_stops a b c xs ys zs ms e h k n = subst (λ (m : List (ℕ × ℤ)). ¬ (WeightSumsFit (number_at a) m)) e
    (stops-after a c (xs ++ ys) zs (added-append a b c xs ys h k) n)

pub all_added : (a b c d : List ℤ) (xs ys zs ms : List (ℕ × ℤ)) → (xs ++ ys) ++ zs ≡ ms → AreWeightsAdded a b xs → AreWeightsAdded b c ys
    → AreWeightsAdded c d zs → AreWeightsAdded a d ms
all_added a b c d xs ys zs ms e h k l = subst (AreWeightsAdded a d) e (added-append a c d (xs ++ ys) zs (added-append a b c xs ys h k) l)
