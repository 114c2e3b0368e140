-- What is found of factors as a line of JSON, without the line's end.
use Rattle.std.specs.Prelude.{ℕ, ℤ, List, [], ◌∷◌, codes, decimal}
use Rattle.serde_json.specs.Data.{Data, Members, string, array, item, no_items, member, no_members}
use Rattle.it_ratio.specs.declared.types.BestCause.{BestCause}
use Rattle.it_ratio.specs.declared.types.BestCause.TheVariants.{Pivots, Width, Scale, Size}
use Rattle.it_ratio.specs.BestViews.{BestView, Least, Never, Unbounded, Undecided}
use Rattle.it_certificate.specs.Values.{count_value, integer_value, list_value, proof_value}

-- a factor: its numerator and its denominator
unfoldable pub ratio_value : ℤ → ℤ → Data
ratio_value num den = array (item (integer_value num) (item (integer_value den) no_items))

-- the word of a cause
abbrev pub factor_cause_word : BestCause → List ℕ
factor_cause_word (Pivots steps phase) = codes "pivots"
factor_cause_word (Width step phase) = codes "width"
factor_cause_word Scale = codes "scale"
factor_cause_word Size = codes "size"

-- the steps or the step of a cause, 0 where it has none
abbrev pub steps_of : BestCause → ℕ
steps_of (Pivots steps phase) = steps
steps_of (Width step phase) = step
steps_of Scale = 0
steps_of Size = 0

-- the phase of a cause, 0 where it has none
abbrev pub phase_of : BestCause → ℕ
phase_of (Pivots steps phase) = phase
phase_of (Width step phase) = phase
phase_of Scale = 0
phase_of Size = 0

-- the members of what is found, without what it is about; the keys in alphabetical order
unfoldable pub best_members : BestView → Members
best_members (Least num den proof values) =
    member (codes "answer") (string (codes "best"))
    (member (codes "factor") (ratio_value num den)
    (member (codes "point") (list_value integer_value values)
    (member (codes "proofs") (list_value proof_value (proof ∷ [])) no_members)))
best_members (Never values) =
    member (codes "answer") (string (codes "none"))
    (member (codes "point") (list_value integer_value values) no_members)
best_members (Unbounded num den proof below) =
    member (codes "answer") (string (codes "unbounded"))
    (member (codes "factor") (ratio_value num den)
    (member (codes "proofs") (list_value proof_value (proof ∷ below ∷ [])) no_members))
best_members (Undecided cause) =
    member (codes "answer") (string (codes "undecided"))
    (member (codes "at") (string (decimal (steps_of cause)))
    (member (codes "cause") (string (factor_cause_word cause))
    (member (codes "phase") (count_value (phase_of cause)) no_members)))
