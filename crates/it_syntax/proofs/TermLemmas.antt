-- How terms and constraints are read: by what stands in front, and after a number by whether it is 0.
use Rattle.std.proofs.Common.{◌≡◌, ℕ, zero, suc, Bool, List, ◌∷◌, refl}
use Rattle.it_forms.specs.Letters.{Letter, Number}
use Rattle.it_forms.specs.FormReading.{read}
use Rattle.it_syntax.specs.LineForms.{over_or, atom, term}
use Rattle.it_syntax.specs.ReaderSteps.{counted_by}
use Rattle.it_syntax.specs.NamesViews.{NamesView}
use Rattle.it_syntax.specs.Scopes.{Scope, env_of, scope_of}
use Rattle.it_forms.proofs.ButLemmas.{none_stands, read_but}
use Rattle.it_syntax.proofs.Loops.{taken_after, other_after}

pub read_at_number : (m : ℕ) (s : Scope) (minus : Bool) (n : ℕ) (ls : List Letter)
    → read (term m s minus) (Number n ∷ ls) ≡ read (over_or m s minus n (counted_by n s)) ls
unfolding read term
read_at_number m s minus zero ls = refl
read_at_number m s minus (suc n) ls = refl

-- a number other than 0 has an atom
pub counted_some : (n : ℕ) (s : Scope) → ¬ (n ≡ 0) → counted_by n s ≡ atom s
counted_some zero s h = absurd (h refl)
counted_some (suc n) s h = refl

pub scope_variables : (v : NamesView) (rates : Bool) → (scope_of v rates).variables ≡ env_of v
unfolding scope_of
scope_variables v rates = refl

-- by the word in front of an atom
pub ruleset atom_lemmas = (scope_variables, taken_after, other_after)

-- by the word in front of a constraint
pub ruleset given_lemmas = (scope_variables, taken_after, other_after, none_stands, read_but)
