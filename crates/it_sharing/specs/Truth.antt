-- What it means that an answer to what a sharing file asks is true, by the meaning of the file. Nothing here speaks of certificates or of
-- runs.
use Rattle.std.specs.Prelude.{ℕ, ℤ, pos, ◌-ℤ◌, ◌*ℤ◌, ◌≤ℤ◌, length}
use Rattle.it_space.specs.Answers.{AnswerView}
use Rattle.it_space.specs.Answers.AnswerView.{Yes, No, Undecided}
use Rattle.it_space.specs.Rows.{point_of}
use Rattle.it_syntax.specs.Meaning.{Holds}
use Rattle.it_canon.specs.Sides.{left_form, right_form}
use Rattle.it_sharing.specs.Sharings.{SharingView}
use Rattle.it_sharing.specs.PerfectSharing.{SharesPerfectly}

-- the relation of the file holds at h
abbrev pub HoldsAt : SharingView → (ℕ → ℤ) → Type 0
HoldsAt x h = Holds (length x.names.variables) h x.relation

-- the factor num / den holds: num times the left side is at least den times the right one wherever the secret is shared perfectly
abbrev pub HoldsWherePerfect : SharingView → ℤ → ℤ → Type 0
HoldsWherePerfect x num den = (h : ℕ → ℤ) → SharesPerfectly x h
    → pos 0 ≤ℤ (num *ℤ left_form (length x.names.variables) x.relation h -ℤ den *ℤ right_form (length x.names.variables) x.relation h)

-- A yes is true where the relation holds wherever the secret is shared perfectly, a no where it is at its values and the relation fails
-- there. What is undecided says nothing.
abbrev pub IsTrueOfSharing : SharingView → AnswerView → Type 0
IsTrueOfSharing x (Yes ws) = (h : ℕ → ℤ) → SharesPerfectly x h → HoldsAt x h
IsTrueOfSharing x (No is_back values) = SharesPerfectly x (point_of values) × ¬ (HoldsAt x (point_of values))
IsTrueOfSharing x (Undecided cause) = Unit {0}
IsTrueOfSharing x answer = ⊥
