-- What quick runs find of factors, and on the way to them; no public clause cites it.
use Rattle.std.specs.Prelude.{◌≡◌, ℤ, pos, neg_ℤ, ◌*ℤ◌, ◌≤ℤ◌, List}
use Rattle.it_rational.specs.Rational.{Rational}
use Rattle.it_space.specs.declared.answers.Certificate.{Certificate}
use Rattle.it_space.specs.Answers.{CertificateView, certificate_view}
use Rattle.it_problems.specs.Problems.{ProblemView}
use Rattle.it_space.specs.Rows.{Terms, point_of, value}
use Rattle.it_ratio.specs.BestViews.{BestView, Least, Unbounded, best_view}
use Rattle.it_best.specs.Factors.{IsPoint, IsRightBest, ground_of}
use Rattle.it_factor.specs.declared.quick.Reason.{Reason}
use Rattle.it_factor.specs.declared.quick.Reason.TheVariants as reasons
use Rattle.it_factor.specs.declared.quick.Step.{Step}
use Rattle.it_factor.specs.declared.quick.Step.TheVariants as steps
use Rattle.it_factor.specs.declared.quick.Trial.{Trial}
use Rattle.it_prove.specs.declared.types.Runs.{Runs}
use Rattle.it_factor.specs.RightReplies.{IsKnown, QuickFinds}

-- the answer of a trial whose number x has the certificate w
abbrev pub answer_by : Rational → Reason → CertificateView → BestView
answer_by x (reasons.Tight point) w = Least x.num (pos x.den) w point
answer_by x (reasons.Below below) w = Unbounded x.num (pos x.den) w (certificate_view below)

abbrev pub answer_view : Trial → CertificateView → BestView
answer_view trial w = answer_by trial.factor trial.reason w

module _ (q : ProblemView) (left : Terms) where
  -- the certificate is one for the left side being at most 0
  abbrev pub IsAtMostZero : Certificate → Type 0
  IsAtMostZero c = (ground_of q).Certifies (λ p. neg_ℤ (value left p)) (certificate_view c)

module _ (q : ProblemView) (left right : Terms) where
  -- a factor x would hold with equality at the point, where the left side is above 0
  pub record IsTight (x : Rational) (values : List ℤ) : Type 0 where
    pub point : IsPoint (ground_of q) values
    pub some : pos 1 ≤ℤ value left (point_of values)
    pub equal : pos x.den *ℤ value right (point_of values) ≡ x.num *ℤ value left (point_of values)

  -- the reason holds for the factor x
  abbrev pub IsReason : Rational → Reason → Type 0
  IsReason x (reasons.Tight point) = IsTight x point
  IsReason x (reasons.Below below) = IsAtMostZero q left below

  abbrev pub IsTrial : Trial → Type 0
  IsTrial trial = IsReason trial.factor trial.reason

  -- an answer is right, and by it all factors are known
  abbrev pub IsQuickBest : BestView → Type 0
  IsQuickBest best = IsRightBest (ground_of q) (value left) (value right) best × IsKnown best

  -- an answer is right, and comes without the defined runs
  abbrev pub IsQuickEnd : Runs → BestView → Type 0
  IsQuickEnd runs best = IsRightBest (ground_of q) (value left) (value right) best × QuickFinds runs best

  -- the outcome of a run is right
  abbrev pub IsStep : Step → Type 0
  IsStep (steps.Found best) = IsQuickBest (best_view best)
  IsStep (steps.Next trial) = IsTrial trial
  IsStep steps.Open = Unit {0}
