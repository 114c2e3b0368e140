-- A term put where it belongs.
use Rattle.std.proofs.Common.{◌≡◌, ◌≢◌, ℕ, zero, suc, ◌+◌, ◌≤◌, ◌<◌, ℤ, pos, negsuc, ◌+ℤ◌, ◌*ℤ◌, [], ◌∷◌, ◌++◌, take, drop, length, Less, Greater, get_or, Bool, true, false, nat_eq, nat_lt, if◌then◌else◌, refl, sym, ap, subst, ◌∙◌, arith}
use Rattle.std.specs.List.{AllByRecursion as Every}
use Rattle.std.specs.List.{insert}
use Rattle.std.specs.List.Sorted.{IsPartitionPoint}
use Rattle.std.specs.Ordering.{nat_cmp}
use Rattle.std.proofs.lemmas.Bool.Decides.{nat_tests}
use Rattle.std.proofs.lemmas.List.{append-nil, take-append-drop}
use Rattle.std.proofs.lemmas.Bool.{eqb-true, eqb-false, ltb-true, ltb-false}
use Rattle.it_number.specs.Limit.{IsWithin}
use Rattle.it_space.specs.Cancelling.{with_term}
use Rattle.it_space.specs.Rows.{Terms, Ascends, IsCanonical, IsOver, coefficient, one_at, single_term}
use Rattle.it_space.proofs.CanonicalRows.{coefficient_at_term, head_is, other_is}
use Rattle.it_space.proofs.EveryLemmas.{all_of, every_of}
use Rattle.it_space.proofs.TermLemmas.{ascends-single_term, value-one_at, value-with_term}
use Rattle.it_hull.specs.Places.{IsPlaceFor}

-- ---- where it belongs

-- terms at higher coordinates alone, or at lower ones first
before_higher : (at : ℕ) (x : ℤ) (ts : Terms) → ((k : ℕ) (d : ℕ × ℤ) → k < length ts → at < (get_or ts k d).0) → with_term at x ts ≡ single_term at x ++ ts
before_higher at x [] h = sym (append-nil (single_term at x))
before_higher at x (t ∷ ts) h = by_test (nat_lt at t.0) refl
  where
    by_test : (b : Bool) → nat_lt at t.0 ≡ b → (if b then single_term at x ++ t ∷ ts else if nat_eq at t.0
        then single_term at (x +ℤ t.1) ++ ts else t ∷ with_term at x ts) ≡ single_term at x ++ t ∷ ts
    by_test true e = refl
    by_test false e = let k : t.0 ≤ at = ltb-false at t.0 e in let f = h 0 t (omega arith) in absurd (omega (arith, k, f))

after_lower : (at : ℕ) (x : ℤ) (t : ℕ × ℤ) (ts : Terms) → t.0 < at → with_term at x (t ∷ ts) ≡ t ∷ with_term at x ts
after_lower at x t ts l = by_tests (nat_lt at t.0) (nat_eq at t.0) refl refl
  where
    by_tests : (a b : Bool) → nat_lt at t.0 ≡ a → nat_eq at t.0 ≡ b → (if a then single_term at x ++ t ∷ ts else if b
        then single_term at (x +ℤ t.1) ++ ts else t ∷ with_term at x ts) ≡ t ∷ with_term at x ts
    by_tests true b e f = let k : at < t.0 = ltb-true at t.0 e in absurd (omega (arith, k, l))
    by_tests false true e f = let k : at ≡ t.0 = eqb-true at t.0 f in absurd (omega (arith, k, l))
    by_tests false false e f = refl

term_at : (at : ℕ) (x : ℤ) (ts : Terms) (i : ℕ) → i ≤ length ts → ((k : ℕ) (d : ℕ × ℤ) → k < i → (get_or ts k d).0 < at)
    → ((k : ℕ) (d : ℕ × ℤ) → i ≤ k → k < length ts → at < (get_or ts k d).0) → with_term at x ts ≡ take i ts ++ (single_term at x ++ drop i ts)
term_at at x ts zero l lower higher = before_higher at x ts (λ k d b. higher k d (omega arith) b)
term_at at x [] (suc i) l lower higher = absurd (omega arith)
term_at at x (t ∷ ts) (suc i) l lower higher = after_lower at x t ts (lower 0 t (omega arith))
    ∙ ap (λ rest. t ∷ rest) (term_at at x ts i (omega arith) (λ k d b. lower (suc k) d (omega arith)) (λ k d a b. higher (suc k) d (omega arith) (omega arith)))

term_at_place : (at : ℕ) (x : ℤ) (ts : Terms) (i : ℕ) → IsPlaceFor at ts i → with_term at x ts ≡ take i ts ++ (single_term at x ++ drop i ts)
term_at_place at x ts i p = term_at at x ts i p.within (λ k d b. p.lower k d (omega arith) b) p.higher

pub inserted : (at : ℕ) (x : ℤ) (ts : Terms) (i : ℕ) → x ≢ pos 0 → IsPlaceFor at ts i → insert ts i (at, x) ≡ with_term at x ts
inserted at x ts i some p = sym (term_at_place at x ts i p ∙ ap (λ (xs : Terms). take i ts ++ (xs ++ drop i ts)) (single_some x some))
  where
    single_some : (x : ℤ) → x ≢ pos 0 → single_term at x ≡ (at, x) ∷ []
    single_some (pos zero) n = absurd (n refl)
    single_some (pos (suc k)) n = refl
    single_some (negsuc k) n = refl

pub none_put : (at : ℕ) (ts : Terms) (i : ℕ) → IsPlaceFor at ts i → ts ≡ with_term at (pos 0) ts
none_put at ts i p = sym (take-append-drop i ts) ∙ sym (term_at_place at (pos 0) ts i p)

-- the place that a binary search finds
pub place_found : (at : ℕ) (ts : Terms) (i : ℕ) → i ≤ length ts
    → IsPartitionPoint (λ (t : ℕ × ℤ). nat_cmp t.0 at ≡ Less) (λ (t : ℕ × ℤ). nat_cmp t.0 at ≡ Greater) ts i → IsPlaceFor at ts i
place_found at ts i l p = record {
  within = l;
  lower = λ k d a b. is_less (get_or ts k d).0 (p.0 k d a b);
  higher = λ k d a b. is_greater
      (get_or ts k d).0 (p.1 k d a b);
}
  where
    is_less : (x : ℕ) → nat_cmp x at ≡ Less → x < at
    is_less x e = grind (arith, nat_tests)

    is_greater : (x : ℕ) → nat_cmp x at ≡ Greater → at < x
    is_greater x e = grind (arith, nat_tests)

-- the term that it finds isn't lacking
pub found_is_some : (at : ℕ) (ts : Terms) (i : ℕ) (d : ℕ × ℤ) → IsCanonical ts → coefficient ts at ≡ pos 0 → i < length ts → (get_or ts i d).0 ≡ at → ⊥
found_is_some at ts i d a z l e = nonzero 0 ts i a l (sym (coefficient_at_term 0 ts i d a l) ∙ ap (coefficient ts) e ∙ z)
  where
    nonzero : (from : ℕ) (ts : Terms) (i : ℕ) → Ascends from ts → i < length ts → (get_or ts i d).1 ≢ pos 0
    nonzero from [] i a l = absurd (omega arith)
    nonzero from (t ∷ ts) zero a l = a.1
    nonzero from (t ∷ ts) (suc i) a l = nonzero (t.0 + 1) ts i a.3 (omega arith)

-- ---- what the row is

pub canonical-with_term : (from at : ℕ) (x : ℤ) (ts : Terms) → from ≤ at → IsWithin x → Ascends from ts → coefficient ts at ≡ pos 0
    → Ascends from (with_term at x ts)
canonical-with_term from at x [] l w a z = subst (λ (xs : Terms). Ascends from xs)
    (sym (before_higher at x [] (λ k d l. absurd (omega arith)))) (ascends-single_term from at x [] l w tt)
canonical-with_term from at x (t ∷ ts) l w a z = by_tests (nat_lt at t.0) (nat_eq at t.0) refl refl (canonical-with_term (t.0 + 1) at x ts)
  where
    by_tests : (b d : Bool) → nat_lt at t.0 ≡ b → nat_eq at t.0 ≡ d → (t.0 + 1 ≤ at → IsWithin x → Ascends (t.0 + 1) ts
        → coefficient ts at ≡ pos 0 → Ascends (t.0 + 1) (with_term at x ts))
        → Ascends from (if b then single_term at x ++ t ∷ ts else if d then single_term at (x +ℤ t.1) ++ ts else t ∷ with_term at x ts)
    by_tests true d e f ih = let k : at < t.0 = ltb-true at t.0 e in ascends-single_term from at x (t ∷ ts) l w (omega (arith, k), a.1, a.2, a.3)
    by_tests false true e f ih = let k : at ≡ t.0 = eqb-true at t.0 f in absurd (a.1 (sym (head_is from t ts a) ∙ ap (coefficient (t ∷ ts)) (sym k) ∙ z))
    by_tests false false e f ih =
        let k : t.0 ≤ at = ltb-false at t.0 e in
        let n : at ≢ t.0 = eqb-false at t.0 f in (a.0, a.1, a.2, ih (omega (arith, k, n)) w a.3 (sym (other_is t ts at (λ m. n (sym m))) ∙ z))

pub coefficient-with_term : (at : ℕ) (x : ℤ) (ts : Terms) (c : ℕ) → coefficient (with_term at x ts) c ≡ x *ℤ one_at c at +ℤ coefficient ts c
coefficient-with_term at x ts c = sym (value-one_at (with_term at x ts) c) ∙ value-with_term at x ts (one_at c)
    ∙ ap (λ z. x *ℤ one_at c at +ℤ z) (value-one_at ts c)

abbrev Within : ℕ → ℕ × ℤ → Type 0
Within size t = (1 ≤ t.0) × (t.0 ≤ size)

single_over : (size at : ℕ) (x : ℤ) (ts : Terms) → 1 ≤ at → at ≤ size → Every (Within size) ts → Every (Within size) (single_term at x ++ ts)
single_over size at (pos zero) ts some few e = e
single_over size at (pos (suc n)) ts some few e = ((some, few), e)
single_over size at (negsuc n) ts some few e = ((some, few), e)

with_term_over : (size at : ℕ) (x : ℤ) (ts : Terms) → 1 ≤ at → at ≤ size → Every (Within size) ts → Every (Within size) (with_term at x ts)
with_term_over size at x [] some few e = subst (λ (xs : Terms). Every (Within size) xs)
    (sym (before_higher at x [] (λ k d l. absurd (omega arith)))) (single_over size at x [] some few tt)
with_term_over size at x (t ∷ ts) some few e = by_tests (nat_lt at t.0) (nat_eq at t.0) (with_term_over size at x ts some few e.1)
  where
    by_tests : (b d : Bool) → Every (Within size) (with_term at x ts)
        → Every (Within size) (if b then single_term at x ++ t ∷ ts else if d then single_term at (x +ℤ t.1) ++ ts
        else t ∷ with_term at x ts)
    by_tests true d ih = single_over size at x (t ∷ ts) some few e
    by_tests false true ih = single_over size at (x +ℤ t.1) ts some few e.1
    by_tests false false ih = (e.0, ih)

pub over-with_term : (size at : ℕ) (x : ℤ) (ts : Terms) → 1 ≤ at → at ≤ size → IsOver size ts → IsOver size (with_term at x ts)
over-with_term size at x ts some few o = all_of (Within size) (with_term at x ts) (with_term_over size at x ts some few (every_of (Within size) ts o))
