-- The closure, as an intersection, is the least closed set that contains the set.
use Rattle.std.proofs.Common.{◌≡◌, ℕ, zero, suc, ◌+◌, ◌-◌, ◌^◌, ◌<◌, ◌≤◌, ◌⊎◌, inl, inr, List, [], ◌∷◌, Bool, true, false, ◌&&◌, not, cond, bit_and, refl, sym, ap, ap₂, subst, ◌∙◌, arith, All, eq-eqb}
use Rattle.std.specs.List.{filter, AllByRecursion as Every}
use Rattle.std.proofs.lemmas.Bool.{eqb-true, false≢true}
use Rattle.std.proofs.lemmas.Nat.{pow_pos}
use Rattle.it_space.specs.Sets.{IsInside}
use Rattle.it_polymatroid.specs.Elementals.{span}
use Rattle.it_space.proofs.EveryLemmas.{every_of, all_of, every-filter, every-same, every_all}
use Rattle.it_space.proofs.BoolLemmas.{both_true}
use Rattle.it_closure.specs.declared.dependences.Dependence.{Dependence}
use Rattle.it_closure.specs.Closures.{IsClosed, is_inside, is_open, is_closed, meet_all, closure, IsClosureOf}
use Rattle.it_closure.proofs.Insides.{inside-refl, inside-trans, inside-antisym, inside_all, inside_le}
use Rattle.it_polymatroid.proofs.Images.{inside_meet, meet_left, meet_right}
use Rattle.it_polymatroid.proofs.Spans.{same_or_more}

-- a set keeps a dependence
abbrev pub Keeps : ℕ → Dependence → Type 0
Keeps a d = IsInside d.from a → IsInside d.to a

-- the tests decide
pub inside_from_test : (s t : ℕ) → is_inside s t ≡ true → IsInside s t
inside_from_test s t e = eqb-true (bit_and s t) s e

pub not_tested : (s t : ℕ) → is_inside s t ≡ false → ¬ (IsInside s t)
not_tested s t e i = false≢true (sym e ∙ eq-eqb (bit_and s t) s i)

pub test-true : (s t : ℕ) → IsInside s t → is_inside s t ≡ true
test-true s t i = eq-eqb (bit_and s t) s i

keeps_by : (a : ℕ) (d : Dependence) → is_open d a ≡ false → Keeps a d
keeps_by a d e i = by_test (is_inside d.to a) refl
  where
    by_test : (b : Bool) → is_inside d.to a ≡ b → IsInside d.to a
    by_test true f = inside_from_test d.to a f
    by_test false f = absurd (false≢true (sym e ∙ ap₂ (λ x y. x && not y) (test-true d.from a i) f))

by_keeps : (a : ℕ) (d : Dependence) → Keeps a d → is_open d a ≡ false
by_keeps a d k = by_test (is_inside d.from a) refl
  where
    by_test : (b : Bool) → is_inside d.from a ≡ b → is_open d a ≡ false
    by_test true f = ap₂ (λ x y. x && not y) f (test-true d.to a (k (inside_from_test d.from a f)))
    by_test false f = ap (λ x. x && not (is_inside d.to a)) f

pub open_from_test : (a : ℕ) (d : Dependence) → is_open d a ≡ true → IsInside d.from a × (¬ (IsInside d.to a))
open_from_test a d e = by_test (is_inside d.from a) (is_inside d.to a) refl refl
  where
    by_test : (b c : Bool) → is_inside d.from a ≡ b → is_inside d.to a ≡ c → IsInside d.from a × (¬ (IsInside d.to a))
    by_test true false f g = (inside_from_test d.from a f, not_tested d.to a g)
    by_test true true f g = absurd (false≢true (sym (ap₂ (λ x y. x && not y) f g) ∙ e))
    by_test false c f g = absurd (false≢true (sym (ap (λ x. x && not (is_inside d.to a)) f) ∙ e))

pub closed_of : (ds : List Dependence) (a : ℕ) → Every (λ d. is_open d a ≡ false) ds → IsClosed ds a
closed_of ds a e = all_of (Keeps a) ds (every-same (λ d. is_open d a ≡ false) (Keeps a) ds (λ d f. keeps_by a d f) e)

pub closed_by : (ds : List Dependence) (a : ℕ) → is_closed ds a ≡ true → Every (Keeps a) ds
closed_by [] a e = tt
closed_by (d ∷ ds) a e = by_test (is_open d a) refl (λ f. closed_by ds a f)
  where
    by_test : (b : Bool) → is_open d a ≡ b → (is_closed ds a ≡ true → Every (Keeps a) ds) → Every (Keeps a) (d ∷ ds)
    by_test true f ih = absurd (false≢true (sym (ap (λ x. not x && is_closed ds a) f) ∙ e))
    by_test false f ih = (keeps_by a d f, ih (sym (ap (λ x. not x && is_closed ds a) f) ∙ e))

pub by_closed : (ds : List Dependence) (a : ℕ) → Every (Keeps a) ds → is_closed ds a ≡ true
by_closed [] a k = refl
by_closed (d ∷ ds) a k = ap₂ (λ x y. not x && y) (by_keeps a d k.0) (by_closed ds a k.1)

-- meets
meet_has : (s w : ℕ) (bs : List ℕ) → IsInside s w → Every (λ a. IsInside s a) bs → IsInside s (meet_all w bs)
meet_has s w [] h e = h
meet_has s w (a ∷ bs) h e = inside_meet s a (meet_all w bs) e.0 (meet_has s w bs h e.1)

keeps_meet : (a b : ℕ) (d : Dependence) → Keeps a d → Keeps b d → Keeps (bit_and a b) d
keeps_meet a b d k l i = inside_meet d.to a b (k (inside-trans d.from (bit_and a b) a i (meet_left a b)))
    (l (inside-trans d.from (bit_and a b) b i (meet_right a b)))

meet_keeps : (w : ℕ) (d : Dependence) (bs : List ℕ) → Keeps w d → Every (λ a. Keeps a d) bs → Keeps (meet_all w bs) d
meet_keeps w d [] h e = h
meet_keeps w d (a ∷ bs) h e = keeps_meet a (meet_all w bs) d e.0 (meet_keeps w d bs h e.1)

meet_in_whole : (w : ℕ) (bs : List ℕ) → IsInside (meet_all w bs) w
meet_in_whole w [] = inside-refl w
meet_in_whole w (a ∷ bs) = inside-trans (bit_and a (meet_all w bs)) (meet_all w bs) w (meet_right a (meet_all w bs)) (meet_in_whole w bs)

-- a meet is inside each set of the list
meet_in : (w : ℕ) (p : ℕ → Bool) (from count a : ℕ) → from ≤ a → a < from + count → p a ≡ true → IsInside (meet_all w (filter p (span from count))) a
meet_in w p from zero a h k e = absurd (omega arith)
meet_in w p from (suc count) a h k e = by_test (p from) refl (same_or_more from a h) (λ l. meet_in w p (from + 1) count a l (omega arith) e)
  where
    rest : ℕ
    rest = meet_all w (filter p (span (from + 1) count))

    by_test : (b : Bool) → p from ≡ b → (from ≡ a) ⊎ (from + 1 ≤ a) → (from + 1 ≤ a → IsInside rest a)
        → IsInside (meet_all w (cond (p from) (from ∷ filter p (span (from + 1) count)) (filter p (span (from + 1) count)))) a
    by_test true f (inl s) ih = subst (λ (b : Bool). IsInside (meet_all w
        (cond b (from ∷ filter p (span (from + 1) count)) (filter p (span (from + 1) count)))) a) (sym f)
        (subst (IsInside (bit_and from rest)) s (meet_left from rest))
    by_test true f (inr l) ih = subst (λ (b : Bool). IsInside (meet_all w
        (cond b (from ∷ filter p (span (from + 1) count)) (filter p (span (from + 1) count)))) a) (sym f)
        (inside-trans (bit_and from rest) rest a (meet_right from rest) (ih l))
    by_test false f (inl s) ih = absurd (false≢true (sym f ∙ ap p s ∙ e))
    by_test false f (inr l) ih = subst (λ (b : Bool). IsInside (meet_all w
        (cond b (from ∷ filter p (span (from + 1) count)) (filter p (span (from + 1) count)))) a) (sym f) (ih l)

-- what holds of each closed set that contains s
of_closed : (n : ℕ) (ds : List Dependence) (s : ℕ) (P : ℕ → Type 0) → ((a : ℕ) → IsInside s a → Every (Keeps a) ds → P a)
    → Every P (filter (λ a. is_inside s a && is_closed ds a) (span 0 (2 ^ n)))
of_closed n ds s P f = every-filter P (λ a. is_inside s a && is_closed ds a) (span 0 (2 ^ n))
    (every_all (λ a. (is_inside s a && is_closed ds a) ≡ true → P a) (span 0 (2 ^ n)) (λ a e.
    let b = both_true (is_inside s a) (is_closed ds a) e in f a (inside_from_test s a b.0) (closed_by ds a b.1)))

-- one of the dependences that a set keeps
each_kept : (ds : List Dependence) (w : ℕ) (bs : List ℕ) → Every (λ d. Keeps w d) ds → Every (λ a. Every (Keeps a) ds) bs → Every (Keeps (meet_all w bs)) ds
each_kept [] w bs k e = tt
each_kept (d ∷ ds) w bs k e = (meet_keeps w d bs k.0 (firsts bs e), each_kept ds w bs k.1 (rest_is_kept bs e))
  where
    firsts : (bs : List ℕ) → Every (λ a. Every (Keeps a) (d ∷ ds)) bs → Every (λ a. Keeps a d) bs
    firsts [] e = tt
    firsts (a ∷ bs) e = (e.0.0, firsts bs e.1)

    rest_is_kept : (bs : List ℕ) → Every (λ a. Every (Keeps a) (d ∷ ds)) bs → Every (λ a. Every (Keeps a) ds) bs
    rest_is_kept [] e = tt
    rest_is_kept (a ∷ bs) e = (e.0.1, rest_is_kept bs e.1)

all_kept : (n : ℕ) (ds : List Dependence) → Every (λ d. d.to < 2 ^ n) ds → Every (λ d. Keeps (2 ^ n - 1) d) ds
all_kept n [] e = tt
all_kept n (d ∷ ds) e = (λ i. inside_all n d.to e.0, all_kept n ds e.1)

pub closure_is : (n : ℕ) (ds : List Dependence) (s : ℕ) → All (λ d. d.to < 2 ^ n) ds → s < 2 ^ n → IsClosureOf n ds s (closure n ds s)
unfolding closure
closure_is n ds s b h =
    let sets : List ℕ = filter (λ a. is_inside s a && is_closed ds a) (span 0 (2 ^ n)) in
    record {
      below = omega (arith, pow_pos n, inside_le (meet_all (2 ^ n - 1) sets) (2 ^ n - 1) (meet_in_whole (2 ^ n - 1) sets));
      holds = meet_has s (2 ^ n - 1) sets (inside_all n s h) (of_closed n ds s (λ a. IsInside s a) (λ a i k. i));
      closed = all_of (Keeps (meet_all (2 ^ n - 1) sets)) ds (each_kept ds (2 ^ n - 1) sets
          (all_kept n ds (every_of (λ d. d.to < 2 ^ n) ds b)) (of_closed n ds s (λ a. Every (Keeps a) ds) (λ a i k. k)));
      least = λ a l i k. meet_in (2 ^ n - 1) (λ a. is_inside s a && is_closed ds a) 0 (2 ^ n) a (omega arith) (omega arith)
          (ap₂ (λ x y. x && y) (test-true s a i) (by_closed ds a (every_of (Keeps a) ds k)));
    }

-- there is one closure
pub closure_told : (n : ℕ) (ds : List Dependence) (s a b : ℕ) → IsClosureOf n ds s a → IsClosureOf n ds s b → a ≡ b
closure_told n ds s a b x y = inside-antisym a b (x.least b y.below y.holds y.closed) (y.least a x.below x.holds x.closed)
