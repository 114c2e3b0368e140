-- What is right of the rows of a relation's sides is right by the meaning of the text.
use Rattle.std.proofs.Common.{◌≡◌, ◌+◌, ℕ, ℤ, pos, neg_ℤ, ◌-ℤ◌, ◌*ℤ◌, ◌≤ℤ◌, List, [], length, All, Option, Some, None, refl, sym, ap, ap₂, subst, ◌∙◌, arith}
use Rattle.it_problems.specs.declared.problems.Kind.TheVariants.{Inequality}
use Rattle.it_space.specs.declared.spaces.Space.{Space}
use Rattle.it_space.specs.Answers.{CertificateView}
use Rattle.it_problems.specs.Problems.{ProblemView}
use Rattle.it_space.specs.Rows.{Terms, IsOver, point_of, value}
use Rattle.it_space.specs.Spaces.{size_of}
use Rattle.it_space.proofs.EveryLemmas.{all_of}
use Rattle.it_polymatroid.specs.Certificates.{Form, IsCertificate, IsLinear, combination}
use Rattle.it_polymatroid.specs.Polymatroid.{IsPolymatroid}
use Rattle.it_polymatroid.proofs.Certified.{adds_up_everywhere}
use Rattle.it_polymatroid.proofs.Forms.{value_linear}
use Rattle.it_elemental.specs.Generators.{generators, generators_of, generator_at, forms_of}
use Rattle.it_elemental.proofs.GeneratorLemmas.{rows_of_space}
use Rattle.it_syntax.specs.Meaning.{RelationView}
use Rattle.it_question.specs.Questions.{BodyView, VerbView, Prove}
use Rattle.it_question.specs.ProblemLines.{problem_lines, problem_names}
use Rattle.it_demand.specs.Canonical.{IsRowOf}
use Rattle.it_demand.specs.QuestionSpaces.{space_of}
use Rattle.it_canon.specs.TrueLines.{AreTrueAt, variable_count}
use Rattle.it_canon.specs.QuestionDemands.{IsProblemOf, question_demands, terms_in}
use Rattle.it_prove.specs.Reach.{effort_under}
use Rattle.it_canon.specs.Sides.{left_form, right_form}
use Rattle.it_canon.proofs.ProblemLemmas.{question_met}
use Rattle.it_answer.specs.Forms.{Certifies, CertifiesForm, all_demands}
use Rattle.it_answer.proofs.FormLemmas.{by_forms, generators_speak}
use Rattle.it_prove.specs.declared.types.Effort.{Effort}
use Rattle.it_ratio.specs.BestViews.{BestView, Least, Never, Unbounded, Undecided}
use Rattle.it_best.specs.Factors.{IsRightBest, IsFactor, IsPoint, ground_of}
use Rattle.it_best.proofs.CertificateLemmas.{linear-factor, linear-neg}
use Rattle.it_factor.specs.Replies.{ReplyView, Found, Other}
use Rattle.it_factor.specs.RightReplies.{FindsFactor, IsDueReply, IsRightFactor, IsRightReply, question_ground}
use Rattle.it_factor.specs.RowReplies.{IsFoundByRows, IsReplyByRows}
use Rattle.it_ratio.specs.Truth.{asked_by, at_least}
use Rattle.it_demand.specs.RowsOfForms.{terms_of_form}
use Rattle.it_demand.proofs.FormRows.{row_is_terms_of_form}
use Rattle.it_canon.proofs.PosesLemmas.{one_problem}

module _ (q : BodyView) (p : ProblemView) (posed : IsProblemOf q p) where
  in_question_space : (P : Space → Type 0) → P p.space → P (space_of (problem_names q))
  in_question_space P x = subst P posed.space x

  -- a certificate of a linear form adds up at every map
  adds_up_at : (f : Form) (w : CertificateView) → IsLinear (size_of p.space + 1) f → IsCertificate (size_of p.space + 1) (generators_of p) f w
      → (x : ℕ → ℤ) → x 0 ≡ pos 0 → w.scale *ℤ f x ≡ combination w.weights (λ i. (forms_of (generators p)).form i x)
  adds_up_at f w linear c x e =
      let size = size_of p.space in
      let gs = generators p in
      let rows : All (λ g. IsOver size g.row) gs = all_of (λ g. IsOver size g.row) gs
      (rows_of_space p.space.variables size p.constraints (omega arith) posed.limits.rows) in
      adds_up_everywhere (size + 1) (forms_of gs) f w (λ i l. value_linear size (generator_at gs i).row
      (rows i (record { kind = Inequality; row = [] }) l)) linear c x e

  certificate_by_text : (f g : Form) (w : CertificateView) → ((x : ℕ → ℤ) → x 0 ≡ pos 0 → f x ≡ g x) → IsLinear (size_of p.space + 1) f
      → IsCertificate (size_of p.space + 1) (generators_of p) f w → CertifiesForm q g w
  certificate_by_text f g w same linear c = in_question_space (λ s. Certifies (all_demands s.variables (question_demands q)) g w)
      (by_forms (all_demands p.space.variables (question_demands q)) (generators p)
      (generators_speak p.space (question_demands q) p.constraints posed.constraints.stated) (size_of p.space + 1) f g same w c
      (adds_up_at f w linear c))

  point_by_text : (values : List ℤ) → IsPoint (ground_of p) values → IsPoint (question_ground q) values
  point_by_text values i = record {
    complete = in_question_space (λ s. length values ≡ size_of s) i.complete;
    holds = (
      in_question_space (λ s. IsPolymatroid s.variables (point_of values)) i.holds.0,
      in_question_space (λ s. AreTrueAt s.variables (point_of values) (problem_lines q))
          ((question_met q p.space p.constraints posed.space posed.constraints (point_of values) refl).0 i.holds.1),
    );
  }

  module _ (left right : Form) (l r : Terms) (left_is : IsRowOf p.space left l) (right_is : IsRowOf p.space right r) where
    factor_by_text : (num den : ℤ) (w : CertificateView) → IsFactor (ground_of p) (value l) (value r) num den w
        → IsFactor (question_ground q) left right num den w
    factor_by_text num den w f = record {
      from_one = f.from_one;
      lowest = f.lowest;
      certified = certificate_by_text (λ p. num *ℤ value l p -ℤ den *ℤ value r p) (λ p. num *ℤ left p -ℤ den *ℤ right p) w
          (λ x e. ap₂ (λ y z. num *ℤ y -ℤ den *ℤ z) (left_is.same x e) (right_is.same x e))
          (linear-factor (size_of p.space) l r num den left_is.coordinates right_is.coordinates) f.certified;
    }

    best_by_text : (best : BestView) → IsRightBest (ground_of p) (value l) (value r) best → IsRightBest (question_ground q) left right best
    best_by_text (Least num den w values) i = record {
      factor = factor_by_text num den w i.factor;
      point = point_by_text values i.point;
      some = subst (λ (x : ℤ). pos 1 ≤ℤ x) (left_is.same (point_of values) refl) i.some;
      equal = ap (λ x. den *ℤ x) (sym (right_is.same (point_of values) refl)) ∙ i.equal ∙ ap (λ x. num *ℤ x) (left_is.same (point_of values) refl);
    }
    best_by_text (Never values) i = record {
      point = point_by_text values i.point;
      zero = sym (left_is.same (point_of values) refl) ∙ i.zero;
      above = subst (λ (x : ℤ). pos 1 ≤ℤ x) (right_is.same (point_of values) refl) i.above;
    }
    best_by_text (Unbounded num den w below) i = (
      factor_by_text num den w i.0,
      certificate_by_text (λ x. neg_ℤ (value l x)) (λ x. neg_ℤ (left x)) below (λ x e. ap neg_ℤ (left_is.same x e))
          (linear-neg (size_of p.space) l left_is.coordinates) i.1,
    )
    best_by_text (Undecided cause) i = tt

  -- a row of the problem's space is the terms of its form
  row_is : (form : ℕ → Form) (t : Terms) → IsRowOf p.space (form p.space.variables) t → t ≡ terms_in q (form (variable_count q))
  row_is form t is = row_is_terms_of_form p.space (form p.space.variables) t is ∙ ap (λ (s : Space). terms_of_form (size_of s) (form s.variables)) posed.space

  -- what is found by rows is right by the text, and due
  pub right_factor : (effort : Effort) (r : RelationView) (best : BestView) → IsFoundByRows p effort r best → IsRightFactor effort q r best
  right_factor effort r best f =
      let variables : p.space.variables ≡ variable_count q = ap (λ (s : Space). s.variables) posed.space in
      let left_is : IsRowOf p.space (left_form (variable_count q) r) f.left = subst (λ n. IsRowOf p.space (left_form n r) f.left) variables f.left_is in
      let right_is : IsRowOf p.space (right_form (variable_count q) r) f.right = subst
      (λ n. IsRowOf p.space (right_form n r) f.right) variables f.right_is in record {
        shows = best_by_text (left_form (variable_count q) r) (right_form (variable_count q) r) f.left f.right left_is right_is best f.right_of_rows;
        due = subst (λ (x : ProblemView). FindsFactor x (terms_in q (left_form (variable_count q) r))
            (terms_in q (right_form (variable_count q) r)) effort best) (one_problem q p posed)
            (subst (λ (t : Terms). FindsFactor p (terms_in q (left_form (variable_count q) r)) t effort best) (row_is (λ n. right_form n r) f.right f.right_is)
            (subst (λ (t : Terms). FindsFactor p t f.right effort best) (row_is (λ n. left_form n r) f.left f.left_is) f.ends));
      }

  right_by_asked : (effort : Effort) (asked : Option RelationView) (reply : ReplyView) → asked_by q.verb ≡ asked
      → IsReplyByRows p effort asked reply → IsDueReply effort q reply
  right_by_asked effort (Some r) (Found best) is f = (r, is, right_factor effort r best f)
  right_by_asked effort (Some r) Other is f = absurd f
  right_by_asked effort None (Found best) is f = absurd f
  right_by_asked effort None Other is f = is

  -- the reply by rows is right
  pub right_reply : (effort : Effort) (r : RelationView) (reply : ReplyView) → q.verb ≡ Prove r
      → IsReplyByRows p effort (at_least r.sign r) reply → IsDueReply effort q reply
  right_reply effort r reply verb f = right_by_asked effort (at_least r.sign r) reply (ap asked_by verb) f

-- a question that asks for no factor has the other reply
pub other_is_right : (effort : Effort) (q : BodyView) (verb : VerbView) → q.verb ≡ verb → asked_by verb ≡ None → IsDueReply effort q Other
other_is_right effort q verb is none = ap asked_by is ∙ none

-- a reply that is due with the effort under the code's problem is right
pub right_under : (effort own : Effort) (q : BodyView) (p : ProblemView) → IsProblemOf q p → own ≡ effort_under p effort → (reply : ReplyView)
    → IsDueReply own q reply → IsRightReply effort q reply
right_under effort own q p posed is reply x =
    subst (λ (e : Effort). IsDueReply e q reply) (is ∙ ap (λ (r : ProblemView). effort_under r effort) (one_problem q p posed)) x
