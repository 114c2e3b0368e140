-- The worked example: h(X) - h(X,Z) under Y of X and Z of Y.
use Rattle.std.proofs.Common.{◌≡◌, ℕ, ℤ, pos, negsuc, List, [], ◌∷◌, false, cond, nat_eq, refl}
use Rattle.it_closure.specs.declared.dependences.Dependence.{Dependence}
use Rattle.it_closure.specs.Closures.{closure, way}
use Rattle.it_elemental.specs.Indexes.{elemental_index}
use Rattle.it_lift.specs.Lifts.{moves}

givens : List Dependence
givens = record { from = 1; to = 3; generator = 9; negated = false } ∷ record { from = 2; to = 6; generator = 10; negated = false } ∷ []

numbers : ℕ → ℤ
numbers s = cond (nat_eq s 1) (pos 1) (cond (nat_eq s 5) (negsuc 0) (pos 0))

closes : closure 3 givens 1 ≡ 7
unfolding closure givens
closes = refl

example_moves : moves 3 givens numbers ≡ (9, negsuc 0) ∷ (6, pos 1) ∷ (10, negsuc 0) ∷ (1, pos 1) ∷ []
unfolding closure way elemental_index givens numbers
example_moves = refl

-- H(X) = 0: e({X}) is 1
null : List Dependence
null = record { from = 0; to = 1; generator = 1; negated = false } ∷ []

null_numbers : ℕ → ℤ
null_numbers s = cond (nat_eq s 1) (pos 1) (pos 0)

null_moved : moves 1 null null_numbers ≡ (0, pos 1) ∷ []
unfolding closure way elemental_index null null_numbers
null_moved = refl
