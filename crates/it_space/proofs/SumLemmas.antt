-- Sums by place: the effect of one addition, and the terms of the nonzero numbers.
use Rattle.std.proofs.Common.{◌≡◌, ℕ, zero, suc, ◌+◌, ◌<◌, ◌≤◌, ℤ, pos, negsuc, ◌+ℤ◌, List, [], ◌∷◌, ◌++◌, length, drop, set, length-set, replicate, Bool, true, false, cond, nat_eq, refl, sym, ap, ap₂, ◌∙◌, arith, eq-eqb, ne_eqb, All}
use Rattle.std.proofs.lemmas.Int.{ints}
use Rattle.std.proofs.lemmas.Bool.{eqb-true, true≢false}
use Rattle.std.proofs.lemmas.Grind.{get_or-set_at}
use Rattle.std.proofs.lemmas.List.{get_or-set_other}
use Rattle.std.proofs.lemmas.List.Elements.{All-cons, All-head, All-tail, All-set}
use Rattle.std.proofs.Math.IntN.{+ℤ_idr}
use Rattle.it_number.specs.Limit.{IsWithin}
use Rattle.it_space.specs.Rows.{Terms, coefficient, Ascends, IsOver, single_term}
use Rattle.it_space.specs.Sums.{number_at, plus_at, IsAdded, terms_from}
use Rattle.it_space.proofs.TermLemmas.{coefficient-append, coefficient-single_term, ascends-single_term}

-- two maps with the same numbers
pub same_functions : (f g : ℕ → ℤ) → ((x : ℕ) → f x ≡ g x) → f ≡ g
same_functions f g h = λ i x. h x i

pub at-zeros : (k c : ℕ) → number_at (replicate k (pos 0)) c ≡ pos 0
at-zeros zero c = refl
at-zeros (suc k) zero = refl
at-zeros (suc k) (suc c) = at-zeros k c

-- one number set
pub added-set : (xs : List ℤ) (i : ℕ) (x y : ℤ) → i < length xs → y ≡ number_at xs i +ℤ x → IsWithin (number_at xs i +ℤ x) → IsAdded xs (set xs i y) i x
added-set xs i x y h e w = record {
  fits = w;
  same = same_functions (number_at (set xs i y)) (plus_at (number_at xs) (i, x)) (λ k. by_test k (nat_eq i k) refl);
  complete = length-set xs i y;
  within = λ a. All-set IsWithin xs i y (rw e w) a;
}
  where
    by_test : (k : ℕ) (b : Bool) → nat_eq i k ≡ b → number_at (set xs i y) k ≡ number_at xs k +ℤ cond b x (pos 0)
    by_test k true f = let s : k ≡ i = sym (eqb-true i k f) in get_or-set_at xs i k y (pos 0) s h ∙ e ∙ ap (λ m. number_at xs m +ℤ x) (sym s)
    by_test k false f = get_or-set_other xs i k y (pos 0) (λ q. true≢false (sym (eq-eqb i k (sym q)) ∙ f)) ∙ sym (+ℤ_idr (number_at xs k))

below_none : (first : ℕ) (xs : List ℤ) (c : ℕ) → c < first → coefficient (terms_from first xs) c ≡ pos 0
below_none first [] c h = refl
below_none first (x ∷ xs) c h = coefficient-append (single_term first x) (terms_from (first + 1) xs) c
    ∙ ap₂ (λ a b. a +ℤ b) (coefficient-single_term first x c ∙ ap (λ b. cond b x (pos 0)) (ne_eqb first c (λ e. omega arith)))
    (below_none (first + 1) xs c (omega arith))

pub terms_at : (first : ℕ) (xs : List ℤ) (i : ℕ) → coefficient (terms_from first xs) (first + i) ≡ number_at xs i
terms_at first [] i = refl
terms_at first (x ∷ xs) zero =
    let e : first + 0 ≡ first = omega arith in
    ap (coefficient (terms_from first (x ∷ xs))) e ∙ coefficient-append (single_term first x) (terms_from (first + 1) xs) first
    ∙ ap₂ (λ a b. a +ℤ b) (coefficient-single_term first x first ∙ ap (λ b. cond b x (pos 0)) (eq-eqb first first refl))
    (below_none (first + 1) xs first (omega arith)) ∙ omega (arith, ints)
terms_at first (x ∷ xs) (suc i) =
    let e : first + suc i ≡ first + 1 + i = omega arith in
    ap (coefficient (terms_from first (x ∷ xs))) e ∙ coefficient-append (single_term first x) (terms_from (first + 1) xs) (first + 1 + i)
    ∙ ap₂ (λ a b. a +ℤ b) (coefficient-single_term first x (first + 1 + i)
    ∙ ap (λ b. cond b x (pos 0)) (ne_eqb first (first + 1 + i) (λ e. omega arith))) (terms_at (first + 1) xs i) ∙ omega (arith, ints)

-- from place 0, and from place 1
pub terms_from_zero : (xs : List ℤ) (c : ℕ) → coefficient (terms_from 0 xs) c ≡ number_at xs c
terms_from_zero xs c = let e : c ≡ 0 + c = omega arith in ap (coefficient (terms_from 0 xs)) e ∙ terms_at 0 xs c

pub terms_from_one : (xs : List ℤ) (c : ℕ) → 0 < c → coefficient (terms_from 1 (drop 1 xs)) c ≡ number_at xs c
terms_from_one xs zero h = absurd (omega arith)
terms_from_one xs (suc c) h = let e : suc c ≡ 1 + c = omega arith in ap (coefficient (terms_from 1 (drop 1 xs))) e
    ∙ terms_at 1 (drop 1 xs) c ∙ number_after_first xs
  where
    number_after_first : (xs : List ℤ) → number_at (drop 1 xs) c ≡ number_at xs (suc c)
    number_after_first [] = refl
    number_after_first (x ∷ xs) = refl

pub terms_ascend : (first : ℕ) (xs : List ℤ) → All IsWithin xs → Ascends first (terms_from first xs)
terms_ascend first [] v = tt
terms_ascend first (x ∷ xs) v = ascends-single_term first first x (terms_from (first + 1) xs) (omega arith) (All-head IsWithin x xs v)
    (terms_ascend (first + 1) xs (All-tail IsWithin x xs v))

-- and their places are those of the list
pub terms_up_to : (size first : ℕ) (xs : List ℤ) → 1 ≤ first → first + length xs ≤ size + 1 → IsOver size (terms_from first xs)
terms_up_to size first [] h k = λ i d l. absurd (omega arith)
terms_up_to size first (x ∷ xs) h k = first_and_rest x (terms_up_to size (first + 1) xs (omega arith) (omega arith))
  where
    first_and_rest : (y : ℤ) → IsOver size (terms_from (first + 1) xs) → IsOver size (single_term first y ++ terms_from (first + 1) xs)
    first_and_rest (pos zero) a = a
    first_and_rest (pos (suc y)) a = All-cons (λ t. (1 ≤ t.0) × (t.0 ≤ size)) (first, pos (suc y)) (terms_from (first + 1) xs) (h, omega arith) a
    first_and_rest (negsuc y) a = All-cons (λ t. (1 ≤ t.0) × (t.0 ≤ size)) (first, negsuc y) (terms_from (first + 1) xs) (h, omega arith) a

-- the row of the numbers from place 1 on
ascends_from_zero : (ts : Terms) → Ascends 1 ts → Ascends 0 ts
ascends_from_zero [] a = tt
ascends_from_zero (t ∷ ts) a = (omega (arith, a.0), a.1, a.2, a.3)

rest_within : (xs : List ℤ) → All IsWithin xs → All IsWithin (drop 1 xs)
rest_within [] v = v
rest_within (x ∷ xs) v = All-tail IsWithin x xs v

pub row_ascends : (xs : List ℤ) → All IsWithin xs → Ascends 0 (terms_from 1 (drop 1 xs))
row_ascends xs v = ascends_from_zero (terms_from 1 (drop 1 xs)) (terms_ascend 1 (drop 1 xs) (rest_within xs v))

pub row_up_to : (xs : List ℤ) (size : ℕ) → length xs ≡ size + 1 → IsOver size (terms_from 1 (drop 1 xs))
row_up_to xs size e = terms_up_to size 1 (drop 1 xs) (omega arith) (omega (arith, rest_length xs e))
  where
    rest_length : (xs : List ℤ) → length xs ≡ size + 1 → length (drop 1 xs) ≡ size
    rest_length [] e = absurd (omega arith)
    rest_length (x ∷ xs) e = omega arith
