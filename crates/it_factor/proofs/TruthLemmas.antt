-- What shows what it says of the factors is true of them.
use Rattle.std.proofs.Common.{ℤ, neg_ℤ, ◌*ℤ◌, ◌-ℤ◌}
use Rattle.it_space.specs.Answers.{CertificateView}
use Rattle.it_space.specs.Rows.{point_of}
use Rattle.it_polymatroid.specs.Certificates.{Form}
use Rattle.it_question.specs.Questions.{BodyView}
use Rattle.it_canon.specs.TrueLines.{variable_count}
use Rattle.it_canon.specs.Sides.{left_form, right_form}
use Rattle.it_answer.proofs.TruthLemmas.{form_at_least_zero}
use Rattle.it_ratio.specs.BestViews.{Least, Never, Unbounded, Undecided}
use Rattle.it_best.specs.Factors.{HoldsFactor, IsFactor}
use Rattle.it_ratio.proofs.Orders.{all_smaller, no_smaller, none_at_zero}
use Rattle.it_factor.specs.RightReplies.{WhatIsShownIsTrue, question_ground}

-- a certified factor holds
certified_holds : (q : BodyView) (left right : Form) (num den : ℤ) (w : CertificateView) → IsFactor (question_ground q) left right num den w
    → HoldsFactor (question_ground q) left right num den
certified_holds q left right num den w f p together = form_at_least_zero q p together (λ p. num *ℤ left p -ℤ den *ℤ right p) w f.certified

pub what_is_shown_is_true : WhatIsShownIsTrue
what_is_shown_is_true q r (Least num den proof values) s =
    let left = left_form (variable_count q) r in
    let right = right_form (variable_count q) r in (
      s.factor.from_one,
      certified_holds q left right num den proof s.factor,
      λ a b one holds. no_smaller num den a b (left (point_of values)) (right (point_of values)) s.some s.factor.from_one s.equal
          (holds (point_of values) s.point.holds),
    )
what_is_shown_is_true q r (Never values) s =
    let left = left_form (variable_count q) r in
    let right = right_form (variable_count q) r in
    λ a b one holds. none_at_zero a b (left (point_of values)) (right (point_of values)) s.zero s.above one (holds (point_of values) s.point.holds)
what_is_shown_is_true q r (Unbounded num den proof below) s =
    let left = left_form (variable_count q) r in
    let right = right_form (variable_count q) r in (
      s.0.from_one,
      λ a b one smaller p together. all_smaller num den a b (left p) (right p) s.0.from_one one smaller
          (certified_holds q left right num den proof s.0 p together)
          (form_at_least_zero q p together (λ x. neg_ℤ (left x)) below s.1),
    )
what_is_shown_is_true q r (Undecided cause) s = tt
