-- The rates that a question eliminates, and the question under all its lines.
use Rattle.std.specs.Prelude.{ℕ, List, [], Option, Some, None}
use Rattle.it_syntax.specs.Meaning.{RelationView}
use Rattle.it_syntax.specs.declared.types.Sign.TheVariants.{AtLeast}
use Rattle.it_question.specs.Questions.{BodyView, VerbView, Prove, Eliminate}
use Rattle.it_demand.specs.QuestionSpaces.{space_of}
use Rattle.it_hull.specs.KeptRates.{kept_coordinates}

-- the rates that a question asks to eliminate
abbrev pub eliminated_by : VerbView → Option (List ℕ)
eliminated_by (Eliminate rates) = Some rates
eliminated_by verb = None

-- the rates that a question asks to eliminate, none where it asks for something else
abbrev pub gone_rates : VerbView → List ℕ
gone_rates (Eliminate rates) = rates
gone_rates verb = []

-- the coordinates of the rates that stay
abbrev pub kept_rates : BodyView → List ℕ → List ℕ
kept_rates q gone = kept_coordinates (space_of q.names) gone

-- a relation that says nothing: 0 >= 0
abbrev pub nothing : RelationView
nothing = record { left = []; sign = AtLeast; right = [] }

-- the question with all its lines given, `row` lines too: as one that asks to prove what says nothing
abbrev pub under_all_lines : BodyView → BodyView
under_all_lines q = record { names = q.names; lines = q.lines; verb = Prove nothing }
