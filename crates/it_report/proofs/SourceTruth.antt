-- What a valid line says of a question with copies, and of a sharing file.
use Rattle.std.proofs.Common.{◌≡◌, ℕ, ◌<◌, ℤ, pos, neg_ℤ, ◌≤ℤ◌, ◌++◌, length, get_or, map, Bool, List, [], ◌∷◌, refl, subst, arith}
use Rattle.std.proofs.lemmas.Int.{ints}
use Rattle.std.proofs.lemmas.List.{length-map}
use Rattle.std.proofs.lemmas.List.Elements.{All-head}
use Rattle.it_space.specs.Answers.{AnswerView}
use Rattle.it_space.specs.Answers.AnswerView.{Yes, No, Undecided, Region, Contained, Open}
use Rattle.it_space.specs.Rows.{point_of}
use Rattle.it_polymatroid.specs.Polymatroid.{IsPolymatroid}
use Rattle.it_syntax.specs.Meaning.{RelationView, Holds, common_denominator, side_at}
use Rattle.it_question.specs.declared.sizes.FileLimits.{FileLimits}
use Rattle.it_question.specs.Limits.{IsQuestion}
use Rattle.it_question.specs.Questions.{BodyView, QuestionView, VerbView, Prove}
use Rattle.it_question.specs.ProblemLines.{lines_under, names_under}
use Rattle.it_canon.specs.QuestionDemands.{terms_in}
use Rattle.it_canon.specs.TrueLines.{AreTrueAt}
use Rattle.it_demand.specs.Canonical.{form_of}
use Rattle.it_demand.specs.Targets.{targets}
use Rattle.it_demand.proofs.MetLemmas.{targets_met}
use Rattle.it_copy.specs.Extensions.{extended}
use Rattle.it_copy.proofs.PointLemmas.{yes_by_copies}
use Rattle.it_copy.proofs.WithinLemmas.{copied_questions_are_within}
use Rattle.it_sharing.specs.Sharings.{SharingView, IsSharing, made_question}
use Rattle.it_sharing.specs.Truth.{IsTrueOfSharing}
use Rattle.it_sharing.proofs.Perfection.{made_question_is_of_perfect_sharing}
use Rattle.it_sharing.proofs.WithinLemmas.{sharing_is_within}
use Rattle.it_certificate.specs.AnswerShapes.{HasQuestionShape, HasVerbShape}
use Rattle.it_certificate.specs.Sources.{Copies, Sharing}
use Rattle.it_report.specs.RowVerdicts.{place_named}
use Rattle.it_report.specs.Meaning.{IsClaimTrue, IsClaimTrueBy, ValidIsTrueByCopies, ValidIsTrueOfSharing}
use Rattle.it_report.proofs.JudgingLemmas.{target_is_there}
use Rattle.it_report.proofs.TruthLemmas.{fits_question, source_read, valid_is_true}

-- ---- copies

-- of a question about a relation, what holds wherever its problem's lines are true holds wherever its own are
pub own_lines : (e : BodyView) (r : RelationView) (verb : VerbView) → verb ≡ Prove r
    → ((p : ℕ → ℤ) → IsPolymatroid (length (names_under e.names verb).variables) p
    × AreTrueAt (length (names_under e.names verb).variables) p (lines_under e.lines verb)
    → Holds (length (names_under e.names verb).variables) p r)
    → (p : ℕ → ℤ) → IsPolymatroid (length e.names.variables) p × AreTrueAt (length e.names.variables) p e.lines → Holds (length e.names.variables) p r
own_lines e r verb is h = subst (λ (v : VerbView). (p : ℕ → ℤ) → IsPolymatroid (length (names_under e.names v).variables) p
    × AreTrueAt (length (names_under e.names v).variables) p (lines_under e.lines v) → Holds (length (names_under e.names v).variables) p r)
    is h

pub valid_is_true_by_copies : ValidIsTrueByCopies
valid_is_true_by_copies limits line names q copies r ws valid reads about =
    let source = source_read limits line (Copies q copies) (Yes ws) reads in
    let claim = valid_is_true limits line names (Copies q copies) (Yes ws) valid reads in
    let within = All-head (λ (q : QuestionView). IsQuestion q.body) q []
    (copied_questions_are_within limits (source.head ++ source.text) copies (q ∷ []) source.asks.reads) in
    yes_by_copies limits q.body (extended q.body copies) copies r within about source.asks.extension
    (λ image polymatroid lines. own_lines (extended q.body copies) r q.body.verb about
    (subst (λ (v : VerbView). IsClaimTrueBy (extended q.body copies) v (Yes ws)) about claim) image (polymatroid, lines))

-- ---- a sharing file

-- a relation doesn't hold where one of its targets is below 0
fails_at : (n : ℕ) (r : RelationView) (h : ℕ → ℤ) (i : ℕ) → i < length (targets n r) → get_or (targets n r) i (λ p. pos 0) h ≤ℤ neg_ℤ (pos 1) → Holds n h r → ⊥
fails_at n r h i there below holds =
    let all = (targets_met r.sign (side_at n h (common_denominator r) r.left) (side_at n h (common_denominator r) r.right) (form_of n r) h refl).1 holds in
    let least = all i (λ p. pos 0) there in
    omega (arith, ints, least, below)

-- the target that a no names is there
place_there : (x : SharingView) (back : Bool) (values : List ℤ) → HasQuestionShape (made_question x).body (No back values)
    → place_named back < length (targets (length x.names.variables) x.relation)
unfolding made_question
place_there x back values fits =
    let fs = targets (length x.names.variables) x.relation in
    let as_many = length-map fs (terms_in (made_question x).body) in
    let there = target_is_there (made_question x).body x.relation refl back values (length x.names.variables)
    (map (terms_in (made_question x).body) fs) as_many fits in
    omega (arith, as_many, there)

module _ (x : SharingView) (within : IsSharing x) where
  true_of_sharing : (a : AnswerView) → HasQuestionShape (made_question x).body a → HasVerbShape x.names (Prove x.relation) a
      → IsClaimTrueBy (made_question x).body (Prove x.relation) a → IsTrueOfSharing x a
  unfolding made_question
  true_of_sharing (Yes ws) shape fits claim = λ h perfect. claim h ((made_question_is_of_perfect_sharing x h within).1 perfect)
  true_of_sharing (No back values) shape fits claim = (
    (made_question_is_of_perfect_sharing x (point_of values) within).0 claim.0,
    fails_at (length x.names.variables) x.relation (point_of values) (place_named back) (place_there x back values shape) claim.1,
  )
  true_of_sharing (Undecided cause) shape fits claim = tt
  true_of_sharing (Region rows) shape fits claim = absurd fits
  true_of_sharing (Contained parts ws) shape fits claim = absurd fits
  true_of_sharing (Open tried) shape fits claim = absurd fits

made_shape : (x : SharingView) (a : AnswerView) → HasQuestionShape (made_question x).body a → HasVerbShape x.names (Prove x.relation) a
unfolding HasQuestionShape made_question
made_shape x a fits = fits

made_claim : (x : SharingView) (a : AnswerView) → IsClaimTrue (made_question x).body a → IsClaimTrueBy (made_question x).body (Prove x.relation) a
unfolding made_question
made_claim x a claim = claim

pub valid_is_true_of_sharing : ValidIsTrueOfSharing
valid_is_true_of_sharing limits line names x a valid reads =
    let source = source_read limits line (Sharing x) a reads in
    let shape = fits_question limits line (Sharing x) a reads in
    true_of_sharing x (sharing_is_within limits source.text x source.makes.reads).0 a shape (made_shape x a shape)
    (made_claim x a (valid_is_true limits line names (Sharing x) a valid reads))
