-- Right replies in modes `copy`, `best` and `sharing` are true.
use Rattle.std.proofs.Common.{◌≡◌, ℤ, ◌↔◌, true, List, [], ◌∷◌, None, Some, refl, sym, ap, subst, ◌∙◌}
use Rattle.it_prove.specs.declared.types.Effort.{Effort}
use Rattle.it_space.specs.Answers.{AnswerView}
use Rattle.it_space.specs.Answers.AnswerView.{Yes, No, Undecided, Region, Contained, Open}
use Rattle.it_space.specs.Rows.{point_of}
use Rattle.it_space.proofs.OptionLemmas.{none_is_not_some, some_same}
use Rattle.it_syntax.specs.Meaning.{RelationView}
use Rattle.it_question.specs.declared.sizes.FileLimits.{FileLimits}
use Rattle.it_question.specs.Limits.{IsQuestion}
use Rattle.it_question.specs.Questions.{BodyView, VerbView, Prove, Eliminate, Contain}
use Rattle.it_copy.specs.CopyLines.{CopyView}
use Rattle.it_copy.specs.Extensions.{IsExtension, IsProof}
use Rattle.it_copy.specs.Points.{YesByCopies}
use Rattle.it_sharing.specs.PerfectSharing.{MadeQuestionIsOfPerfectSharing}
use Rattle.it_sharing.specs.Sharings.{SharingView, IsSharing, IsBoundWhereBest, made_question}
use Rattle.it_sharing.specs.Truth.{HoldsWherePerfect, IsTrueOfSharing}
use Rattle.it_answer.specs.Shows as answers
use Rattle.it_answer.specs.Truth.{IsTrueAnswer, IsTrueBy}
use Rattle.it_factor.specs.Replies.{ReplyView, Found, Other}
use Rattle.it_factor.specs.RightReplies as factors
use Rattle.it_factor.specs.RightReplies.{IsRightReply}
use Rattle.it_ratio.specs.Truth.{HoldsFor, IsTrueBest, asked_by, at_least}
use Rattle.it_factor.specs.Truth.{IsTrueReply}
use Rattle.it_ratio.proofs.SameFactors.{true_of_same}
use Rattle.it_report.proofs.SourceTruth.{own_lines}
use Rattle.it_cli.specs.BestReplies.{BestReply, IsAskedWith, IsRightBestReply}
use Rattle.it_cli.specs.Copies.{CopyQuestion, CopyReply, IsRightCopy, Misfit, Extended}
use Rattle.it_cli.specs.SharingReplies.{IsRightSharing, SharingReply, Many, Answered, Factored}
use Rattle.it_cli.specs.Truth.{HoldsWithCopies, IsTrueBestReply, IsTrueCopy, IsTrueReplyWith, IsTrueSharing, IsTrueWithCopies}
use Rattle.it_cli.proofs.CopyFactors.{asked_is_proof, same_with_copies}

-- ---- of a question with copies

module _ (shown_is_true : answers.WhatIsShownIsTrue) (by_copies : YesByCopies) where
  true_with_copies : (limits : FileLimits) (q e : BodyView) (cs : List CopyView) (verb : VerbView) (a : AnswerView) → IsQuestion q → q.verb ≡ verb
      → IsExtension limits q cs e → IsTrueAnswer e a → IsTrueWithCopies q e verb a
  true_with_copies limits q e cs (Prove r) (Yes ws) within verb extension t =
      let same : e.verb ≡ Prove r = subst (λ (x : BodyView). x.verb ≡ Prove r) (sym extension.is) verb in
      by_copies limits q e cs r within verb extension (λ image polymatroid lines. own_lines e r e.verb same
      (subst (λ (v : VerbView). IsTrueBy e v (Yes ws)) same t) image (polymatroid, lines))
  true_with_copies limits q e cs (Prove r) (No is_back values) within verb extension t = t
  true_with_copies limits q e cs (Prove r) (Undecided cause) within verb extension t = t
  true_with_copies limits q e cs (Prove r) (Region rows) within verb extension t = t
  true_with_copies limits q e cs (Prove r) (Contained parts ws) within verb extension t = t
  true_with_copies limits q e cs (Prove r) (Open tried) within verb extension t = t
  true_with_copies limits q e cs (Eliminate rates) a within verb extension t = absurd (subst IsProof verb extension.made.proof)
  true_with_copies limits q e cs (Contain first second tries) a within verb extension t = absurd (subst IsProof verb extension.made.proof)

  pub right_copy_is_true : (limits : FileLimits) (effort : Effort) (x : CopyQuestion) (reply : CopyReply) → IsQuestion x.question.body
      → IsRightCopy limits effort x reply → IsTrueCopy limits x reply
  right_copy_is_true limits effort x (Misfit fault) within right = right
  right_copy_is_true limits effort x (Extended e a) within right =
      (right.0, true_with_copies limits x.question.body e x.copies x.question.body.verb a within refl right.0 (shown_is_true e a right.1.shows))

-- ---- of a question in mode `best`

module _ (shown_is_true : factors.WhatIsShownIsTrue) where
  pub right_reply_is_true : (effort : Effort) (q : BodyView) (reply : ReplyView) → IsRightReply effort q reply → IsTrueReply q reply
  right_reply_is_true effort q (Found best) right = (right.0, right.1, shown_is_true q right.0 best right.2.shows)
  right_reply_is_true effort q Other right = right

  -- with copies, by what is true of the question with them
  true_reply_with : (limits : FileLimits) (q e : BodyView) (c : CopyView) (cs : List CopyView) (reply : ReplyView) → IsQuestion q
      → IsExtension limits q (c ∷ cs) e
      → IsTrueReply e reply → IsTrueReplyWith q (c ∷ cs) e reply
  true_reply_with limits q e c cs (Found best) within extension t =
      let verb : e.verb ≡ q.verb = ap (λ (x : BodyView). x.verb) extension.is in
      let asked : asked_by q.verb ≡ Some t.0 = ap asked_by (sym verb) ∙ t.1 in
      let proof = asked_is_proof q.verb t.0 asked in
      (t.0, asked, true_of_same (HoldsFor e t.0) (HoldsWithCopies q e t.0) best (same_with_copies q e t.0 within proof (verb ∙ proof)) t.2)
  true_reply_with limits q e c cs Other within extension t = ap asked_by (sym (ap (λ (x : BodyView). x.verb) extension.is)) ∙ t

  true_reply : (limits : FileLimits) (effort : Effort) (q e : BodyView) (cs : List CopyView) (reply : ReplyView) → IsQuestion q → IsAskedWith limits q cs e
      → IsRightReply effort e reply → IsTrueReplyWith q cs e reply
  true_reply limits effort q e [] reply within same right = right_reply_is_true effort q reply
      (subst (λ (x : BodyView). IsRightReply effort x reply) same right)
  true_reply limits effort q e (c ∷ cs) reply within extension right = true_reply_with limits q e c cs reply within extension
      (right_reply_is_true effort e reply right)

  pub right_best_is_true : (limits : FileLimits) (effort : Effort) (x : CopyQuestion) (reply : BestReply) → IsQuestion x.question.body
      → IsRightBestReply limits effort x reply → IsTrueBestReply limits x reply
  right_best_is_true limits effort x (Misfit fault) within right = right
  right_best_is_true limits effort x (Extended e reply) within right =
      (right.0, true_reply limits effort x.question.body e x.copies reply within right.0 right.1)

-- ---- of a sharing file

module _ (is_perfect : MadeQuestionIsOfPerfectSharing) (x : SharingView) (within : IsSharing x) where
  true_of_sharing : (a : AnswerView) → IsTrueAnswer (made_question x).body a → IsTrueOfSharing x a
  unfolding made_question
  true_of_sharing (Yes ws) t = λ h perfect. t h ((is_perfect x h within).1 perfect)
  true_of_sharing (No is_back values) t = ((is_perfect x (point_of values) within).0 t.0, t.1)
  true_of_sharing (Undecided cause) t = tt
  true_of_sharing (Region rows) t = absurd t
  true_of_sharing (Contained parts ws) t = absurd t
  true_of_sharing (Open tried) t = absurd t

  -- a factor holds for the made question exactly where it holds wherever the secret is shared perfectly
  same_factors : (num den : ℤ) → HoldsFor (made_question x).body x.relation num den ↔ HoldsWherePerfect x num den
  unfolding made_question
  same_factors num den = (
    (λ holds h perfect. holds h ((is_perfect x h within).1 perfect)),
    (λ holds h lines. holds h ((is_perfect x h within).0 lines)),
  )

  module _ (bound : IsBoundWhereBest x) (asked : x.best ≡ true) where
    -- the made question asks for the factors of the file's relation
    asks_for : asked_by (made_question x).body.verb ≡ Some x.relation
    unfolding made_question
    asks_for = ap (λ sign. at_least sign x.relation) (bound asked)

    true_factors : (reply : ReplyView) → IsTrueReply (made_question x).body reply → IsTrueSharing x (Factored reply)
    true_factors (Found best) t =
        let same : t.0 ≡ x.relation = some_same t.0 x.relation (sym t.1 ∙ asks_for) in
        true_of_same (HoldsFor (made_question x).body x.relation) (HoldsWherePerfect x) best same_factors
        (subst (λ (r : RelationView). IsTrueBest (HoldsFor (made_question x).body r) best) same t.2)
    true_factors Other t = absurd (none_is_not_some x.relation (sym t ∙ asks_for))

pub right_sharing_is_true : answers.WhatIsShownIsTrue → factors.WhatIsShownIsTrue → MadeQuestionIsOfPerfectSharing
    → (effort : Effort) (x : SharingView) (reply : SharingReply) → IsSharing x × IsBoundWhereBest x
    → IsRightSharing effort x reply → IsTrueSharing x reply
right_sharing_is_true shown_is_true shown_factors is_perfect effort x Many within right = right
right_sharing_is_true shown_is_true shown_factors is_perfect effort x (Answered a) within right = true_of_sharing is_perfect x within.0 a
    (shown_is_true (made_question x).body a right.2.shows)
right_sharing_is_true shown_is_true shown_factors is_perfect effort x (Factored reply) within right =
    true_factors is_perfect x within.0 within.1 right.1 reply (right_reply_is_true shown_factors effort (made_question x).body reply right.2)
