-- The relation that an entropy or an information is 0, of terms that no fraction counts, says that it is 0.
use Rattle.std.proofs.Common.{◌≡◌, ℕ, ◌↔◌, ℤ, pos, sym, ap, ◌∙◌, subst, arith}
use Rattle.std.proofs.lemmas.Int.{ints}
use Rattle.it_number.specs.Gcd.{lcm}
use Rattle.it_syntax.specs.declared.types.Atom.{Atom}
use Rattle.it_syntax.specs.Meaning.{atom_at, common_denominator, side_at}
use Rattle.it_syntax.specs.Givens.{IsTrueAt}
use Rattle.it_syntax.proofs.MultipleLemmas.{lcm_one}
use Rattle.it_sharing.specs.Sharings.{vanishing_relation, vanishing}

pub multiple_is_one : (a : Atom) → common_denominator (vanishing_relation a) ≡ 1
multiple_is_one a = ap (λ (m : ℕ). lcm m 1) (lcm_one 1) ∙ lcm_one 1

by_multiple : (n : ℕ) (h : ℕ → ℤ) (a : Atom) (m : ℕ) → m ≡ 1 → (side_at n h m (vanishing_relation a).left
    ≡ side_at n h m (vanishing_relation a).right) ↔ (atom_at n h a ≡ pos 0)
by_multiple n h a m e = subst (λ (k : ℕ). (side_at n h k (vanishing_relation a).left ≡ side_at n h k (vanishing_relation a).right) ↔
    (atom_at n h a ≡ pos 0)) (sym e)
    (λ e. omega (arith, ints, e), λ e. omega (arith, ints, e))

pub vanishes : (n : ℕ) (h : ℕ → ℤ) (a : Atom) → IsTrueAt n h (vanishing a) ↔ (atom_at n h a ≡ pos 0)
vanishes n h a = by_multiple n h a (common_denominator (vanishing_relation a)) (multiple_is_one a)
