-- Sums of coefficients: what one addition changes, and additions after each other.
use Rattle.std.proofs.Common.{◌≡◌, ℕ, zero, suc, ◌+◌, ◌*◌, ◌<◌, ◌≤◌, ◌^◌, ℤ, pos, neg_ℤ, ◌+ℤ◌, ◌-ℤ◌, ◌*ℤ◌, unsigned_abs, refl, sym, ap, ap₂, subst, ◌∙◌, arith, List, [], ◌∷◌, length, get_or, set, replicate, length-set}
use Rattle.std.proofs.lemmas.Int.{ints}
use Rattle.it_number.proofs.Integers.{zring}
use Rattle.it_polymatroid.specs.Certificates.{Form}
use Rattle.it_space.specs.Sums.{number_at, IsAdded}
use Rattle.it_space.proofs.SumLemmas.{added-set}
use Rattle.it_demand.specs.Coefficients.{dense_form_from, dense_form, mass, IsFormAdded}

-- no coefficient is above the sum of the absolute values
pub get-mass : (xs : List ℤ) (i : ℕ) → unsigned_abs (get_or xs i (pos 0)) ≤ mass xs
get-mass [] i = omega arith
get-mass (x ∷ xs) zero = omega arith
get-mass (x ∷ xs) (suc i) = omega (arith, get-mass xs i)

-- one coefficient more by y
set-mass : (xs : List ℤ) (i : ℕ) (y : ℤ) → mass (set xs i (get_or xs i (pos 0) +ℤ y)) ≤ mass xs + unsigned_abs y
set-mass [] i y = omega arith
set-mass (x ∷ xs) zero y = omega (arith, ints)
set-mass (x ∷ xs) (suc i) y = omega (arith, set-mass xs i y)

set-total : (first : ℕ) (xs : List ℤ) (i : ℕ) (y : ℤ) (p : ℕ → ℤ) → i < length xs
    → dense_form_from first (set xs i (get_or xs i (pos 0) +ℤ y)) p ≡ dense_form_from first xs p +ℤ y *ℤ p (first + i)
set-total first [] i y p h = absurd (omega arith)
set-total first (x ∷ xs) zero y p h =
    let e : first ≡ first + 0 = omega arith in
    let step : (x +ℤ y) *ℤ p first +ℤ dense_form_from (first + 1) xs p ≡ (x *ℤ p first +ℤ dense_form_from (first + 1) xs p)
    +ℤ y *ℤ p first = omega (arith, zring) in
    step ∙ ap (λ n. (x *ℤ p first +ℤ dense_form_from (first + 1) xs p) +ℤ y *ℤ p n) e
set-total first (x ∷ xs) (suc i) y p h =
    let e : first + 1 + i ≡ first + suc i = omega arith in
    let ih : dense_form_from (first + 1) (set xs i (get_or xs i (pos 0) +ℤ y)) p ≡ dense_form_from (first + 1) xs p +ℤ y *ℤ p (first + suc i) =
    set-total (first + 1) xs i y p (omega arith) ∙ ap (λ n. dense_form_from (first + 1) xs p +ℤ y *ℤ p n) e in
    omega (arith, zring, ih)

with_set : (xs : List ℤ) (i : ℕ) (y : ℤ) → i < length xs → IsFormAdded xs (set xs i (get_or xs i (pos 0) +ℤ y)) (unsigned_abs y) (λ p. y *ℤ p i)
with_set xs i y h = record {
  complete = length-set xs i (get_or xs i (pos 0) +ℤ y);
  small = set-mass xs i y;
  sum = λ p. set-total 0 xs i y p h ∙ ap (λ n. dense_form xs p +ℤ y *ℤ p n) (omega arith);
}

-- two lists of the same length with the same number at each place
same_lists : (xs ys : List ℤ) → length ys ≡ length xs → ((k : ℕ) → number_at ys k ≡ number_at xs k) → ys ≡ xs
same_lists [] [] e h = refl
same_lists [] (y ∷ ys) e h = absurd (omega (arith, e))
same_lists (x ∷ xs) [] e h = absurd (omega (arith, e))
same_lists (x ∷ xs) (y ∷ ys) e h = ap₂ (λ z zs. z ∷ zs) (h 0) (same_lists xs ys (omega (arith, e)) (λ k. h (suc k)))

-- an amount added at its place
pub form_added : (xs ys : List ℤ) (i : ℕ) (y : ℤ) → i < length xs → IsAdded xs ys i y → IsFormAdded xs ys (unsigned_abs y) (λ p. y *ℤ p i)
form_added xs ys i y h a =
    let there : IsAdded xs (set xs i (number_at xs i +ℤ y)) i y = added-set xs i y (number_at xs i +ℤ y) h refl a.fits in
    let e : ys ≡ set xs i (number_at xs i +ℤ y) = same_lists (set xs i (number_at xs i +ℤ y)) ys (a.complete ∙ sym there.complete)
    (λ k. ap (λ (f : ℕ → ℤ). f k) a.same ∙ sym (ap (λ (f : ℕ → ℤ). f k) there.same)) in
    subst (λ (zs : List ℤ). IsFormAdded xs zs (unsigned_abs y) (λ p. y *ℤ p i)) (sym e) (with_set xs i y h)

-- the sum stays within 128 bits
pub room-fits : (xs : List ℤ) (i : ℕ) (y : ℤ) → mass xs + unsigned_abs y < 2 ^ 127 → unsigned_abs (get_or xs i (pos 0) +ℤ y) < 2 ^ 127
room-fits xs i y h = omega (arith, ints, get-mass xs i)

-- coefficients that are all 0
pub zeros-mass : (n : ℕ) → mass (replicate n (pos 0)) ≡ 0
zeros-mass zero = refl
zeros-mass (suc n) = omega (arith, zeros-mass n)

pub zeros-total : (first n : ℕ) (p : ℕ → ℤ) → dense_form_from first (replicate n (pos 0)) p ≡ pos 0
zeros-total first zero p = refl
zeros-total first (suc n) p = omega (arith, ints, zeros-total (first + 1) n p)

-- one addition after another
pub added-trans : (xs ys zs : List ℤ) (m n : ℕ) (f g : Form) → IsFormAdded xs ys m f → IsFormAdded ys zs n g → IsFormAdded xs zs (m + n) (λ p. f p +ℤ g p)
added-trans xs ys zs m n f g a b = record {
  complete = b.complete ∙ a.complete;
  small = omega (arith, a.small, b.small);
  sum = λ p. omega (arith, ints, a.sum p, b.sum p);
}

-- a form with the same values, and a greater bound
pub added-same : (xs ys : List ℤ) (m n : ℕ) (f g : Form) → m ≤ n → ((p : ℕ → ℤ) → f p ≡ g p) → IsFormAdded xs ys m f → IsFormAdded xs ys n g
added-same xs ys m n f g h same a = record {
  complete = a.complete;
  small = omega (arith, a.small);
  sum = λ p. a.sum p ∙ ap (λ z. dense_form xs p +ℤ z) (same p);
}

-- a subtracted value
pub added_negated : (xs ys : List ℤ) (t : ℤ) (a : ℕ) → IsFormAdded xs ys (unsigned_abs (neg_ℤ t)) (λ p. neg_ℤ t *ℤ p a)
    → IsFormAdded xs ys (unsigned_abs t) (λ p. neg_ℤ t *ℤ p a)
added_negated xs ys t a f = added-same xs ys (unsigned_abs (neg_ℤ t)) (unsigned_abs t) (λ p. neg_ℤ t *ℤ p a) (λ p. neg_ℤ t *ℤ p a)
    (omega (arith, ints)) (λ p. refl) f

times_difference : (t x y : ℤ) → t *ℤ x +ℤ neg_ℤ t *ℤ y ≡ t *ℤ (x -ℤ y)
times_difference t x y = omega (arith, zring)

-- H(A|B), where s is A and B
pub added_entropy : (xs ys zs : List ℤ) (t : ℤ) (s given : ℕ) → IsFormAdded xs ys (unsigned_abs t) (λ p. t *ℤ p s)
    → IsFormAdded ys zs (unsigned_abs t) (λ p. neg_ℤ t *ℤ p given)
    → IsFormAdded xs zs (2 * unsigned_abs t) (λ p. t *ℤ (p s -ℤ p given))
added_entropy xs ys zs t s given a b = added-same xs zs (unsigned_abs t + unsigned_abs t) (2 * unsigned_abs t)
    (λ p. t *ℤ p s +ℤ neg_ℤ t *ℤ p given) (λ p. t *ℤ (p s -ℤ p given))
    (omega arith) (λ p. times_difference t (p s) (p given)) (added-trans xs ys zs (unsigned_abs t) (unsigned_abs t) (λ p. t *ℤ p s)
    (λ p. neg_ℤ t *ℤ p given) a b)

-- I(A;B|C), where a is A and C, b is B and C, and s all three
pub added_mutual : (vs ws xs ys zs : List ℤ) (t : ℤ) (a b s given : ℕ)
    → IsFormAdded vs ws (unsigned_abs t) (λ p. t *ℤ p a) → IsFormAdded ws xs (unsigned_abs t) (λ p. t *ℤ p b)
    → IsFormAdded xs ys (unsigned_abs t) (λ p. neg_ℤ t *ℤ p s) → IsFormAdded ys zs (unsigned_abs t) (λ p. neg_ℤ t *ℤ p given)
    → IsFormAdded vs zs (4 * unsigned_abs t) (λ p. t *ℤ ((p a +ℤ p b) -ℤ (p s +ℤ p given)))
added_mutual vs ws xs ys zs t a b s given f g h k =
    let m : ℕ = unsigned_abs t in
    added-same vs zs (m + m + m + m) (4 * m) (λ p. ((t *ℤ p a +ℤ t *ℤ p b) +ℤ neg_ℤ t *ℤ p s) +ℤ neg_ℤ t *ℤ p given)
    (λ p. t *ℤ ((p a +ℤ p b) -ℤ (p s +ℤ p given)))
    (omega arith) (λ p. times_mutual t (p a) (p b) (p s) (p given))
    (added-trans vs ys zs (m + m + m) m (λ p. (t *ℤ p a +ℤ t *ℤ p b) +ℤ neg_ℤ t *ℤ p s) (λ p. neg_ℤ t *ℤ p given)
    (added-trans vs xs ys (m + m) m (λ p. t *ℤ p a +ℤ t *ℤ p b) (λ p. neg_ℤ t *ℤ p s) (added-trans vs ws xs m m (λ p. t *ℤ p a) (λ p. t *ℤ p b) f g) h) k)
  where
    times_mutual : (t x y z w : ℤ) → ((t *ℤ x +ℤ t *ℤ y) +ℤ neg_ℤ t *ℤ z) +ℤ neg_ℤ t *ℤ w ≡ t *ℤ ((x +ℤ y) -ℤ (z +ℤ w))
    times_mutual t x y z w = omega (arith, zring)
