-- Steps of a proof where functions hold, piece by piece.
use Rattle.std.proofs.Common.{◌≡◌, ◌≤◌, ℕ, ℤ, pos, false, ◌+ℤ◌, ◌-ℤ◌, ◌==◌, List, [], ◌∷◌, ◌++◌, length, map, All, sym, ap, ◌∙◌, subst, subst₂, arith}
use Rattle.std.proofs.lemmas.Int.{ints}
use Rattle.std.proofs.lemmas.List.Elements.{All-weaker}
use Rattle.it_space.specs.declared.spaces.Space.{Space}
use Rattle.it_problems.specs.declared.problems.Constraint.{Constraint}
use Rattle.it_problems.specs.declared.problems.Origin.{Origin}
use Rattle.it_problems.specs.Problems.{ProblemView}
use Rattle.it_space.specs.Rows.{Terms, value}
use Rattle.it_polymatroid.specs.Certificates.{Generators, IsAllowed, combination}
use Rattle.it_elemental.specs.Generators.{forms_of, of_constraint}
use Rattle.it_closure.specs.declared.dependences.Dependence.{Dependence}
use Rattle.it_closure.specs.Collapse.{spread_out}
use Rattle.it_closure.proofs.Places.{place-zero}
use Rattle.it_syntax.specs.declared.types.Sign.TheVariants.{Equal}
use Rattle.it_syntax.specs.declared.types.Term.{Term}
use Rattle.it_syntax.specs.Givens.{IsRelationOf}
use Rattle.it_syntax.specs.Meaning.{RelationView, common_denominator}
use Rattle.it_syntax.specs.NamesViews.{NamesView}
use Rattle.it_demand.specs.Origins.{AreStated}
use Rattle.it_print.specs.Lines.{origins_of}
use Rattle.it_question.specs.Questions.{BodyView}
use Rattle.it_question.specs.ProblemLines.{problem_names}
use Rattle.it_canon.specs.QuestionDemands.{question_demands, question_origins}
use Rattle.it_canon.specs.TrueLines.{variable_count}
use Rattle.it_terms.specs.declared.pieces.Piece.{Piece}
use Rattle.it_terms.specs.Tells.{IsRelationText}
use Rattle.it_terms.specs.Proofs.{constraints_of, side_form}
use Rattle.it_terms.specs.Sums.{AreReadUnder, IsExcess, constraint_value}
use Rattle.it_terms.specs.FunctionProofs.{AreSameUnder, IsSaid, named_sides_text, named_weights, sides_text}
use Rattle.it_terms.specs.StepsUnder.{ArePieceSteps, IsEquationUnder, IsPieceStep, TellsPieceSteps, TellsStepsUnder, first_sum, or_zero, piece_terms, piece_weights, right_pieces}
use Rattle.it_terms.proofs.SameProofs.{AreSameConstraints, allowed_in_same, placed_origins, said_by_same, same_combination, stated_are_same}
use Rattle.it_terms.proofs.StepLemmas.{step_of, steps_weaker}

-- an equation whose excess is 0 under functions is true where they hold
pub equation_by_excess : (s : Space) (lines : List ℕ) (r : RelationView) (named : List (ℕ × ℤ)) (cs : List Constraint)
    (ds : List Dependence) (row : Terms) → r.sign ≡ Equal → common_denominator r ≡ 1
    → All (IsAllowed (forms_of (map of_constraint cs))) named → All (IsSaid s.variables (forms_of (map of_constraint cs)) lines) ds
    → IsExcess s r false cs named row → AreSameUnder s.variables ds (value row) (λ p. pos 0)
    → IsEquationUnder s.variables lines r named (forms_of (map of_constraint cs))
equation_by_excess s lines r named cs ds row equal one allowed said is none = record {
  equality = equal;
  whole = one;
  allowed = allowed;
  functions = ds;
  said = said;
  same = λ p z.
      let q = spread_out s.variables ds p in
      nothing_more (side_form s.variables r r.left q) (side_form s.variables r r.right q) (combination named (constraint_value cs q)) (value row q)
      (is.same q (ap p (place-zero s.variables ds) ∙ z)) (none p z);
}
  where
    nothing_more : (left right rest row : ℤ) → row ≡ (left -ℤ right) +ℤ rest → row ≡ pos 0 → left +ℤ rest ≡ right
    nothing_more left right rest row e f = omega (arith, ints, e, f)

-- a problem of names with the functions that lines of it say
pub read_under : (v : NamesView) (problem : ProblemView) (lines : List ℕ) (s : Space) (ds : List Dependence) → 1 ≤ length v.variables
    → problem.space ≡ record { variables = length v.variables; rates = length v.rates } → s ≡ problem.space
    → All (IsSaid problem.space.variables (forms_of (map of_constraint problem.constraints)) lines) ds → AreReadUnder v problem lines s ds
read_under v problem lines s ds some names space said = record { some = some; names = names; space = space; said = said }

-- a relation of names is one of the space of their problem
pub relation_read_under : (v : NamesView) (problem : ProblemView) (lines : List ℕ) (s : Space) (ds : List Dependence) (r : RelationView)
    → AreReadUnder v problem lines s ds → IsRelationOf (length v.variables) (length v.rates) r
    → IsRelationOf problem.space.variables problem.space.rates r
relation_read_under v problem lines s ds r read h = subst (λ (z : Space). IsRelationOf z.variables z.rates r) (sym read.names) h

-- sides that are an equation where functions hold, with a sum and a piece on the left, are the step of the piece
pub step_of_piece : (v : NamesView) (cs : List Constraint) (s : Space) (lines : List ℕ) (sum : List Term) (piece : Piece)
    (left right text : List ℕ) (after : List Term) (named : List (ℕ × ℤ)) (r : RelationView)
    → s ≡ record { variables = length v.variables; rates = length v.rates } → IsRelationText v (sides_text (or_zero left) right) r
    → r.left ≡ sum ++ piece_terms piece → named ≡ piece_weights piece
    → IsEquationUnder s.variables lines r named (forms_of (map of_constraint cs))
    → text ≡ sides_text (left ++ named_weights (origins_of cs) (length left == 0) named) right → after ≡ r.right
    → ArePieceSteps v (origins_of cs) (forms_of (map of_constraint cs)) lines sum (piece ∷ []) after (text ∷ [])
step_of_piece v cs s lines sum piece left right text after named r space is begins weights holds text_is rest =
    subst (λ (ts : List Term). ArePieceSteps v (origins_of cs) (forms_of (map of_constraint cs)) lines sum (piece ∷ []) ts (text ∷ [])) (sym rest)
    (step_of piece_terms (IsPieceStep v (origins_of cs) (forms_of (map of_constraint cs)) lines) sum piece text r (record {
      is = record {
        left = left;
        right = right;
        is = is;
        text_is = text_is ∙ ap (λ (ws : List (ℕ × ℤ)). sides_text (left ++ named_weights (origins_of cs) (length left == 0) ws) right) weights;
      };
      holds = subst₂ (λ (z : Space) (ws : List (ℕ × ℤ)). IsEquationUnder z.variables lines r ws (forms_of (map of_constraint cs))) space weights holds;
    }) begins)

-- steps of the pieces of a proof's right side are its steps
pub steps_of_proof : (v : NamesView) (origins : List Origin) (g : Generators) (lines : List ℕ) (named : List (ℕ × ℤ))
    (proof left right : List ℕ) (r : RelationView) (pieces : List Piece) (first total : List Term) (texts : List (List ℕ))
    → IsRelationText v (sides_text left right) r → proof ≡ named_sides_text origins named left right
    → pieces ≡ right_pieces right r.right named → first ≡ first_sum right r.right → total ≡ r.left
    → ArePieceSteps v origins g lines first pieces total texts → TellsPieceSteps v origins g lines named proof texts
steps_of_proof v origins g lines named proof left right r pieces first total texts is text_is pieces_are first_is total_is tells = record {
  relation = r;
  is = record { left = left; right = right; is = is; text_is = text_is };
  tells = subst (λ (ts : List Term). ArePieceSteps v origins g lines (first_sum right r.right) (right_pieces right r.right named) ts texts) total_is
      (subst₂ (λ (sum : List Term) (ps : List Piece). ArePieceSteps v origins g lines sum ps total texts) first_is pieces_are tells);
}

-- ---- from the lines of a question

equation_of_same : (n : ℕ) (lines : List ℕ) (r : RelationView) (named : List (ℕ × ℤ)) (g k : Generators) → AreSameConstraints g k
    → IsEquationUnder n lines r named g → IsEquationUnder n lines r named k
equation_of_same n lines r named g k s u = record {
  equality = u.equality;
  whole = u.whole;
  allowed = allowed_in_same g k named s u.allowed;
  functions = u.functions;
  said = All-weaker (IsSaid n g lines) (IsSaid n k lines) (λ d t. said_by_same n g k lines d s t) u.functions u.said;
  same = λ p z.
      let q = spread_out n u.functions p in
      sym (ap (λ (x : ℤ). side_form n r r.left q +ℤ x) (same_combination g k s named u.allowed q (ap p (place-zero n u.functions) ∙ z))) ∙ u.same p z;
}

-- a step from a problem's constraints is one from the question's lines
piece_step_by_lines : (q : BodyView) (lines : List ℕ) (s : Space) (cs : List Constraint) (piece : Piece) (text : List ℕ) (r : RelationView)
    → AreStated s (question_origins q) (question_demands q) cs
    → IsPieceStep (problem_names q) (origins_of cs) (forms_of (map of_constraint cs)) lines piece text r
    → IsPieceStep (problem_names q) (question_origins q) (constraints_of (question_demands q)) lines piece text r
piece_step_by_lines q lines s cs piece text r are t = record {
  is = record {
    left = t.is.left;
    right = t.is.right;
    is = t.is.is;
    text_is = t.is.text_is ∙ ap (λ (os : List Origin). sides_text (t.is.left
        ++ named_weights os (length t.is.left == 0) (piece_weights piece)) t.is.right) (placed_origins (question_origins q) cs are.placed);
  };
  holds = equation_of_same (variable_count q) lines r (piece_weights piece) (forms_of (map of_constraint cs))
      (constraints_of (question_demands q)) (stated_are_same s (question_demands q) cs are.stated) t.holds;
}

-- steps from a problem's constraints are steps from the question's lines
pub steps_by_lines : (q : BodyView) (lines : List ℕ) (named : List (ℕ × ℤ)) (proof : List ℕ) (s : Space) (cs : List Constraint)
    (texts : List (List ℕ)) → AreStated s (question_origins q) (question_demands q) cs
    → TellsPieceSteps (problem_names q) (origins_of cs) (forms_of (map of_constraint cs)) lines named proof texts → TellsStepsUnder q lines named proof texts
steps_by_lines q lines named proof s cs texts are t = record {
  relation = t.relation;
  is = record {
    left = t.is.left;
    right = t.is.right;
    is = t.is.is;
    text_is = t.is.text_is ∙ ap (λ (os : List Origin). named_sides_text os named t.is.left t.is.right) (placed_origins (question_origins q) cs are.placed);
  };
  tells = steps_weaker piece_terms (IsPieceStep (problem_names q) (origins_of cs) (forms_of (map of_constraint cs)) lines)
      (IsPieceStep (problem_names q) (question_origins q) (constraints_of (question_demands q)) lines)
      (λ (p : Piece) (line : List ℕ) (r : RelationView) h. piece_step_by_lines q lines s cs p line r are h)
      (first_sum t.is.right t.relation.right) (right_pieces t.is.right t.relation.right named) t.relation.left texts t.tells;
}
