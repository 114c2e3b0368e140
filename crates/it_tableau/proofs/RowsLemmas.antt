-- Lists of rows of which one is written.
use Rattle.std.proofs.Common.{◌≡◌, ℕ, ◌+◌, ◌<◌, sym, subst, ◌∙◌, ◌⊎◌, inl, inr, arith, Result, Ok, Err}
use Rattle.std.specs.Result.{IfErr, IsErrAnd, OnErr}
use Rattle.std.proofs.lemmas.Bool.{cases_eq}

pub fits_more : (i : ℕ) (Q : ℕ → Type 0) → ((k : ℕ) → k < i → Q k) → Q i → (k : ℕ) → k < i + 1 → Q k
fits_more i Q h here k l = by_cases (cases_eq k i)
  where
    by_cases : (k ≡ i) ⊎ (k ≡ i → ⊥) → Q k
    by_cases (inl e) = subst Q (sym e) here
    by_cases (inr d) = h k (omega arith)

pub on_err : {X E : Type 0} (r : Result X E) (P : Type 0) → P → OnErr r P
on_err (Ok x) P p = tt
on_err (Err e) P p = p

-- an error that is handed on
pub fault_is_handed_on : {X F : Type 0} (r : Result X F) (x w : F) (Q : Type 0) → IsErrAnd r (λ y. y ≡ x) → (x ≡ w → Q) → IfErr r (λ f. f ≡ w → Q)
fault_is_handed_on (Ok v) x w Q e h = tt
fault_is_handed_on (Err y) x w Q e h = λ g. h (sym e ∙ g)
