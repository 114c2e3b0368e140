use Rattle.std.proofs.Common.{◌≡◌, ◌+◌, ◌<◌, ◌^◌, ℕ, subst, arith}
use Rattle.std.proofs.lemmas.Nat.{or_lt, pow_pos}
use Rattle.it_space.specs.declared.spaces.Space.{Space}
use Rattle.it_space.specs.Spaces.{size_of}
use Rattle.it_syntax.specs.declared.types.Atom.{Atom}
use Rattle.it_syntax.specs.declared.types.Atom.TheVariants.{Entropy, Mutual}
use Rattle.it_syntax.specs.Meaning.{IsAtomOf}
use Rattle.it_demand.proofs.coefficients.Coefficients.add_atom.Goals as goal

-- the sets of the space's variables have coefficients
below_size : (space : Space) (size s : ℕ) → size ≡ size_of space + 1 → s < 2 ^ space.variables → s < size
below_size space size s e h = omega (arith, pow_pos space.variables)

-- the sets of an atom
sets_of : (n m : ℕ) (atom a : Atom) → atom ≡ a → IsAtomOf n m atom → IsAtomOf n m a
sets_of n m atom a e h = subst (λ (x : Atom). IsAtomOf n m x) e h

pub add_entropy-requires-clause-of : goal.add_entropy-requires-clause-of
add_entropy-requires-clause-of c =
    let n : ℕ = c.args.space.variables in
    let s = sets_of n c.args.space.rates c.args.atom (Entropy c.in-Entropy.of c.in-Entropy.given) c.in-Entropy.is c.requires.atom in
    below_size c.args.space _ _ c.requires.complete (or_lt n _ _ s.0 s.1)

pub add_mutual-requires-clause-left : goal.add_mutual-requires-clause-left
add_mutual-requires-clause-left c =
    let n : ℕ = c.args.space.variables in
    let s = sets_of n c.args.space.rates c.args.atom (Mutual c.in-Mutual.left c.in-Mutual.right c.in-Mutual.given) c.in-Mutual.is c.requires.atom in
    below_size c.args.space _ _ c.requires.complete (or_lt n _ _ s.0 s.2)

pub add_mutual-requires-clause-right : goal.add_mutual-requires-clause-right
add_mutual-requires-clause-right c =
    let n : ℕ = c.args.space.variables in
    let s = sets_of n c.args.space.rates c.args.atom (Mutual c.in-Mutual.left c.in-Mutual.right c.in-Mutual.given) c.in-Mutual.is c.requires.atom in
    below_size c.args.space _ _ c.requires.complete (or_lt n _ _ s.1 s.2)

pub add_mutual-requires-clause-both : goal.add_mutual-requires-clause-both
add_mutual-requires-clause-both c =
    let n : ℕ = c.args.space.variables in
    let s = sets_of n c.args.space.rates c.args.atom (Mutual c.in-Mutual.left c.in-Mutual.right c.in-Mutual.given) c.in-Mutual.is c.requires.atom in
    below_size c.args.space _ _ c.requires.complete (or_lt n _ _ (or_lt n _ _ s.0 s.1) s.2)
