-- What shows what it says of bounds is true.
use Rattle.std.proofs.Common.{ℕ, ℤ, pos, ◌≤ℤ◌, List, [], ◌∷◌, map}
use Rattle.std.specs.List.{AllByRecursion as Every}
use Rattle.it_space.specs.declared.answers.Mark.{Mark}
use Rattle.it_space.specs.Answers.{CertificateView}
use Rattle.it_problems.specs.Problems.{ProblemView}
use Rattle.it_space.specs.Rows.{Terms, value}
use Rattle.it_space.proofs.EveryLemmas.{all_of}
use Rattle.it_question.specs.Questions.{BodyView}
use Rattle.it_canon.specs.QuestionDemands.{IsProblemOf, problem_of}
use Rattle.it_canon.proofs.ExistenceLemmas.{each_question, question_poses}
use Rattle.it_hull.specs.Theorems.{MeetsProblem}
use Rattle.it_rates.specs.Asked.{under_all_lines}
use Rattle.it_rates.specs.Bounds.{AreExactBounds}
use Rattle.it_rates.proofs.AskedLemmas.{all_lines_question, meets_true}
use Rattle.it_rates.proofs.BoundLemmas.{hull_is_exact}
use Rattle.it_answer.specs.Forms.{CertifyAll}
use Rattle.it_answer.specs.Truth.{region_rows}
use Rattle.it_answer.proofs.TruthLemmas.{form_at_least_zero}
use Rattle.it_bounds.specs.Replies.{ReplyView, Bounded, Undecided, Size, Other}
use Rattle.it_bounds.specs.RightReplies.{ShowsBounds, ShowsReply, WhatIsShownIsTrue}
use Rattle.it_bounds.specs.Truth.{IsTrueReply}

module _ (q : BodyView) (p : ProblemView) (posed : IsProblemOf (under_all_lines q) p) where
  -- a certified row holds wherever the lines are true
  rows_hold : (rows : List Terms) (ws : List CertificateView) → CertifyAll (under_all_lines q) (map value rows) ws
      → Every (λ row. (x : ℕ → ℤ) → MeetsProblem p x → pos 0 ≤ℤ value row x) rows
  rows_hold [] ws c = tt
  rows_hold (row ∷ rows) [] c = absurd c
  rows_hold (row ∷ rows) (w ∷ ws) c = (λ x m. form_at_least_zero (under_all_lines q) x (meets_true q p posed x m) (value row) w c.0, rows_hold rows ws c.1)

  exact_bounds : (gone : List ℕ) (rows : List (Mark × Terms)) (ws : List CertificateView) (rays : List (List ℤ))
      → ShowsBounds q gone rows ws rays → AreExactBounds q gone (region_rows rows) rays
  exact_bounds gone rows ws rays s = hull_is_exact q p gone (region_rows rows) rays posed s.hull
      (all_of (λ (row : Terms). (x : ℕ → ℤ) → MeetsProblem p x → pos 0 ≤ℤ value row x) (region_rows rows)
      (rows_hold (region_rows rows) ws s.certified)) s.attained

  true_reply : (reply : ReplyView) → ShowsReply q reply → IsTrueReply q reply
  true_reply (Bounded rows ws rays) (gone, asked, s) = (gone, asked, exact_bounds gone rows ws rays s, s.needed)
  true_reply (Undecided cause) s = tt
  true_reply Size s = tt
  true_reply Other s = s

pub what_is_shown_is_true : WhatIsShownIsTrue
what_is_shown_is_true = each_question (λ q. (reply : ReplyView) → ShowsReply q.body reply → IsTrueReply q.body reply)
    (λ q k small. true_reply q.body (problem_of (under_all_lines q.body))
    (question_poses (under_all_lines q.body) (all_lines_question q.body k) (small.0, (tt, tt))))
