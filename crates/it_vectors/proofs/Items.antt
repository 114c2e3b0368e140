-- Items of lists.
use Rattle.std.proofs.Common.{◌≡◌, ◌⊎◌, inl, inr, ℕ, ℤ, pos, ◌+◌, ◌<◌, ◌≤◌, List, length, slice_index_or, slice_set, subst, sym, ◌∙◌, arith}
use Rattle.std.proofs.lemmas.List.{get_or_default, get_or-set_same, get_or-set_other}
use Rattle.std.proofs.lemmas.Bool.{cases_eq}
use Rattle.it_space.specs.Sums.{number_at}

-- what an index reads is the item by any default
pub item_by_default : {X : Type 0} (xs : List X) (i : ℕ) (x d : X) → i < length xs → x ≡ slice_index_or xs i x → x ≡ slice_index_or xs i d
item_by_default xs i x d h e = e ∙ get_or_default xs i x d h

-- a list of numbers of which the next one is written
pub set_done : (now : List ℤ) (k : ℕ) (x : ℤ) (P : ℕ → ℤ → Type 0) → k < length now → ((j : ℕ) → j < k → P j (number_at now j)) → P k x
    → (j : ℕ) → j < k + 1 → P j (number_at (slice_set now k x) j)
set_done now k x P h done e j l = by_cases (cases_eq j k)
  where
    by_cases : (j ≡ k) ⊎ (j ≡ k → ⊥) → P j (number_at (slice_set now k x) j)
    by_cases (inl q) = subst (λ (i : ℕ). P i (number_at (slice_set now k x) i)) (sym q) (subst (P k) (sym (get_or-set_same now k x (pos 0) h)) e)
    by_cases (inr d) = subst (P j) (sym (get_or-set_other now k j x (pos 0) d)) (done j (omega arith))

pub set_rest : (now old : List ℤ) (k : ℕ) (x : ℤ) → ((j : ℕ) → k ≤ j → number_at now j ≡ number_at old j) → (j : ℕ) → k + 1 ≤ j
    → number_at (slice_set now k x) j ≡ number_at old j
set_rest now old k x rest j l = get_or-set_other now k j x (pos 0) (λ e. omega arith) ∙ rest j (omega arith)

-- what holds of the numbers below k and of k holds of those below the next
pub below_more : (P : ℕ → Type 0) (k : ℕ) → ((j : ℕ) → j < k → P j) → P k → (j : ℕ) → j < k + 1 → P j
below_more P k done here j l = by_cases (cases_eq j k)
  where
    by_cases : (j ≡ k) ⊎ (j ≡ k → ⊥) → P j
    by_cases (inl e) = subst P (sym e) here
    by_cases (inr d) = done j (omega (arith, l, d))
