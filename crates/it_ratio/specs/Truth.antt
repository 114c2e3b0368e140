-- The truth of answers about the factors of a relation, by the meaning of the question's text. Nothing here is about certificates or
-- runs.
use Rattle.std.specs.Prelude.{ℕ, ℤ, pos, ◌-ℤ◌, ◌*ℤ◌, ◌≤ℤ◌, Option, Some, None}
use Rattle.it_polymatroid.specs.Certificates.{Form}
use Rattle.it_syntax.specs.Meaning.{RelationView}
use Rattle.it_syntax.specs.declared.types.Sign.{Sign}
use Rattle.it_syntax.specs.declared.types.Sign.TheVariants.{AtLeast}
use Rattle.it_question.specs.Questions.{BodyView, VerbView, Prove}
use Rattle.it_canon.specs.TrueLines.{AreTrueTogether, variable_count}
use Rattle.it_canon.specs.Sides.{left_form, right_form}
use Rattle.it_ratio.specs.BestViews.{BestView, Least, Never, Unbounded, Undecided}

-- ---- of factors

-- An answer is true of the fractions that are factors, by `IsSuch`: `Least` gives one, and no other is smaller; with `Never` there is
-- none; with `Unbounded` the given number and all smaller ones are factors. `Undecided` says nothing.
abbrev pub IsTrueBest : (ℤ → ℤ → Type 0) → BestView → Type 0
IsTrueBest IsSuch (Least num den proof values) = (pos 1 ≤ℤ den) × IsSuch num den × ((a b : ℤ) → pos 1 ≤ℤ b → IsSuch a b → (num *ℤ b) ≤ℤ (a *ℤ den))
IsTrueBest IsSuch (Never values) = (a b : ℤ) → pos 1 ≤ℤ b → ¬ (IsSuch a b)
IsTrueBest IsSuch (Unbounded num den proof below) = (pos 1 ≤ℤ den) × ((a b : ℤ) → pos 1 ≤ℤ b → (a *ℤ den) ≤ℤ (num *ℤ b) → IsSuch a b)
IsTrueBest IsSuch (Undecided cause) = Unit {0}

-- ---- of a question

-- a relation with the sign `>=`
abbrev pub at_least : Sign → RelationView → Option RelationView
at_least AtLeast r = Some r
at_least sign r = None

-- the relation whose factors a question asks for: that of `prove E >= F`
abbrev pub asked_by : VerbView → Option RelationView
asked_by (Prove r) = at_least r.sign r
asked_by verb = None

-- num times the left side of a relation less den times the right one
abbrev pub factor_form : BodyView → RelationView → ℤ → ℤ → Form
factor_form q r num den p = num *ℤ left_form (variable_count q) r p -ℤ den *ℤ right_form (variable_count q) r p

-- the factor num / den holds: num times the left side is at least den times the right one wherever the question's lines are true
abbrev pub HoldsFor : BodyView → RelationView → ℤ → ℤ → Type 0
HoldsFor q r num den = (p : ℕ → ℤ) → AreTrueTogether q p → pos 0 ≤ℤ factor_form q r num den p
