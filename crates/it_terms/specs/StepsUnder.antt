-- The steps of a proof where functions hold: a piece is a term or a constraint by the name of its line, and the first one has a step too.
use Rattle.std.specs.Prelude.{◌≡◌, ℕ, ℤ, ◌+ℤ◌, List, [], ◌∷◌, ◌++◌, length, map, All, if◌then◌else◌, ◌==◌, codes}
use Rattle.it_problems.specs.declared.problems.Origin.{Origin}
use Rattle.it_polymatroid.specs.Certificates.{Generators, IsAllowed, combination}
use Rattle.it_closure.specs.declared.dependences.Dependence.{Dependence}
use Rattle.it_syntax.specs.declared.types.Sign.TheVariants.{Equal}
use Rattle.it_syntax.specs.declared.types.Term.{Term}
use Rattle.it_syntax.specs.Meaning.{RelationView, common_denominator}
use Rattle.it_syntax.specs.NamesViews.{NamesView}
use Rattle.it_question.specs.Questions.{BodyView}
use Rattle.it_question.specs.ProblemLines.{problem_names}
use Rattle.it_canon.specs.QuestionDemands.{question_demands, question_origins}
use Rattle.it_terms.specs.declared.pieces.Piece.{Piece}
use Rattle.it_terms.specs.declared.pieces.Piece.TheVariants.{Summand, Named}
use Rattle.it_terms.specs.Tells.{IsRelationText}
use Rattle.it_terms.specs.Proofs.{constraints_of, side_form}
use Rattle.it_terms.specs.FunctionProofs.{AreSameUnder, IsNamedText, IsSaid, named_weights, sides_text}
use Rattle.it_terms.specs.ProofSteps.{AreSteps}

-- the terms of a piece
abbrev pub piece_terms : Piece → List Term
piece_terms (Summand t) = t ∷ []
piece_terms (Named w) = []

-- the constraints of a piece, with their weights
abbrev pub piece_weights : Piece → List (ℕ × ℤ)
piece_weights (Summand t) = []
piece_weights (Named w) = w ∷ []

-- a side as it is read without names: `0` where nothing else stands there
abbrev pub or_zero : List ℕ → List ℕ
or_zero side = if length side == 0 then codes "0" else side

-- under these names the text is the relation `s` with the weights `named` of constraints behind its left side, by the names of
-- their lines
pub record IsStepText (v : NamesView) (origins : List Origin) (named : List (ℕ × ℤ)) (text : List ℕ) (s : RelationView) : Type 0 where
  pub left : List ℕ
  pub right : List ℕ
  pub is : IsRelationText v (sides_text (or_zero left) right) s
  pub text_is : text ≡ sides_text (left ++ named_weights origins (length left == 0) named) right

-- The equation of n variables, without denominators, is true with these weights of constraints on its left of each map with one value at
-- sets of one closure under functions that these lines say.
pub record IsEquationUnder (n : ℕ) (lines : List ℕ) (s : RelationView) (named : List (ℕ × ℤ)) (g : Generators) : Type 0 where
  pub equality : s.sign ≡ Equal
  pub whole : common_denominator s ≡ 1
  pub allowed : All (IsAllowed g) named
  pub functions : List Dependence
  pub said : All (IsSaid n g lines) functions
  pub same : AreSameUnder n functions (λ p. side_form n s s.left p +ℤ combination named (λ i. g.form i p)) (side_form n s s.right)

-- under these names the text is the step of a piece where the functions hold that these lines say
pub record IsPieceStep (v : NamesView) (origins : List Origin) (g : Generators) (lines : List ℕ) (piece : Piece) (text : List ℕ) (s : RelationView) : Type 0 where
  pub is : IsStepText v origins (piece_weights piece) text s
  pub holds : IsEquationUnder (length v.variables) lines s (piece_weights piece) g

-- under these names the texts are such steps of pieces
abbrev pub ArePieceSteps : NamesView → List Origin → Generators → List ℕ → List Term → List Piece → List Term → List (List ℕ) → Type 0
ArePieceSteps v origins g lines sum pieces total texts = AreSteps piece_terms (IsPieceStep v origins g lines) sum pieces total texts

-- the pieces of a right side: the terms of its text, none where nothing stands there, and then constraints with these weights
abbrev pub right_pieces : List ℕ → List Term → List (ℕ × ℤ) → List Piece
right_pieces right terms named = map Summand (if length right == 0 then [] else terms) ++ map Named named

-- the sum before the first piece: none, or `0` where no terms stand on the right side
abbrev pub first_sum : List ℕ → List Term → List Term
first_sum right terms = if length right == 0 then terms else []

-- under these names the proof is an equation with the weights `named` of constraints by name, and the texts are its steps, from
-- the first piece on its right side to its left side, where the functions hold that these lines say
pub record TellsPieceSteps (v : NamesView) (origins : List Origin) (g : Generators) (lines : List ℕ) (named : List (ℕ × ℤ)) (proof : List ℕ) (texts : List (List ℕ)) : Type 0 where
  pub relation : RelationView
  pub is : IsNamedText v origins named proof relation
  pub tells : ArePieceSteps v origins g lines (first_sum is.right relation.right) (right_pieces is.right relation.right named) relation.left texts

-- the texts are the steps of a proof from the lines of a question, under the names of its problem
abbrev pub TellsStepsUnder : BodyView → List ℕ → List (ℕ × ℤ) → List ℕ → List (List ℕ) → Type 0
TellsStepsUnder q lines named proof texts = TellsPieceSteps (problem_names q) (question_origins q) (constraints_of (question_demands q)) lines named proof texts
