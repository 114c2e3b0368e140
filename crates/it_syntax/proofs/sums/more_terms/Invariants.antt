use Rattle.std.proofs.Common.{◌≡◌, ◌≤◌, ℕ, [], ◌∷◌, length}
use Rattle.it_forms.specs.FormReading.{read}
use Rattle.it_number.specs.Gcd.{lcm}
use Rattle.it_syntax.specs.Gives.{letters_left}
use Rattle.it_syntax.specs.LineForms as forms
use Rattle.it_syntax.specs.Meaning.{multiple_from}
use Rattle.it_syntax.specs.ReaderSteps.{known_scope}
use Rattle.it_syntax.proofs.sums.more_terms.Given as goal

-- for each m with which the first term's denominator has the multiple `multiple`: reading on from here gives what the whole reading
-- gives, and the terms so far have the multiple `so_far` with m
abbrev pub invariant-loop-negative : goal.invariant-loop-negative
invariant-loop-negative l = (1 ≤ l.so_far) × ((m : ℕ) → l.fn.multiple ≡ lcm m l.fn.first.denominator →
    (read (forms.more_terms l.fn.most m (known_scope l.known) l.found.items) (letters_left l.rest)
    ≡ read (forms.more_terms l.fn.most m (known_scope l.known) (l.fn.first ∷ [])) (letters_left l.initial.rest))
    × (l.so_far ≡ multiple_from m l.found.items))

abbrev pub decreases-loop-negative : goal.decreases-loop-negative
decreases-loop-negative l = length (letters_left l.rest)
