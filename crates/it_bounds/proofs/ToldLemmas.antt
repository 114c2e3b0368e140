-- A reply that can be printed can be told in a report, and one report is told.
use Rattle.std.proofs.Common.{◌≡◌, ℕ, ◌^◌, ◌≤◌, ℤ, List, [], ◌∷◌, length, Bool, true, false, Option, Some, None, option_map, sym, ap, ap₂, subst, ◌∙◌, All}
use Rattle.it_space.specs.Answers.{CertificateView}
use Rattle.it_space.specs.declared.answers.Mark.{Mark}
use Rattle.it_space.specs.Rows.{Terms}
use Rattle.it_space.specs.Spaces.{size_of}
use Rattle.it_syntax.specs.NamesViews.{NamesView}
use Rattle.it_eliminate.specs.Elimination.{EliminatedView, Region, Rows, Wide}
use Rattle.it_question.specs.QuestionLimits.{usual}
use Rattle.it_question.specs.TableSizes.{HasSmallTable}
use Rattle.it_prove.specs.declared.types.Effort.{Effort}
use Rattle.it_prove.specs.declared.types.Runs.TheVariants.{Defined}
use Rattle.it_redundant.specs.Reduction.{NeedView, kept_rows}
use Rattle.it_hull.specs.Constants.{constants}
use Rattle.it_hull.specs.Hulls.{first_rows}
use Rattle.it_hull.proofs.RayLemmas.{one_ray_end}
use Rattle.it_redundant.proofs.ReductionLemmas.{one_reduction}
use Rattle.it_outer.specs.declared.types.Limits.{Limits}
use Rattle.it_spans.specs.declared.types.Frame.{Frame}
use Rattle.it_spans.specs.Spans.{StepView}
use Rattle.it_question.specs.Limits.{IsQuestion}
use Rattle.it_question.specs.Questions.{BodyView, VerbView, Eliminate}
use Rattle.it_question.specs.ProblemLines.{names_under}
use Rattle.it_demand.specs.QuestionSpaces.{space_of}
use Rattle.it_rates.specs.Asked.{eliminated_by, gone_rates, kept_rates, under_all_lines}
use Rattle.it_rates.specs.Frames.{hull_frame}
use Rattle.it_rates.proofs.AskedLemmas.{eliminated_rates}
use Rattle.it_bounds.specs.declared.types.Reply.{Reply}
use Rattle.it_bounds.specs.declared.types.Reply.TheVariants as replies
use Rattle.it_bounds.specs.HullSteps.{AreMade, GoesOnWith, IsMade, MadeStep, numbered_drops}
use Rattle.it_bounds.specs.Lines.{IsPrintable}
use Rattle.it_bounds.specs.Replies.{ReplyView, Bounded, Undecided, Size, Other}
use Rattle.it_bounds.specs.Reports.{AreToldSteps, IsToldReply, OneRightTold, ToldReply}
use Rattle.it_bounds.specs.RightReplies.{IsDue, limits_for}
use Rattle.it_bounds.proofs.UniqueLemmas.{one_right_reply, own_defined}

-- of a question that asks to eliminate rates
pub told_reply : (q : BodyView) (m : ℕ) (gone : List ℕ) → IsQuestion q → q.verb ≡ Eliminate gone → (reply : Reply) → IsPrintable q m reply → IsToldReply q reply
told_reply q m gone k asked (replies.Bounded rows proofs rays) p = (
  subst (λ (verb : VerbView). 1 ≤ length (gone_rates verb)) (sym asked) (eliminated_rates q gone k asked).some,
  subst (λ (v : NamesView). All (λ (ray : List ℤ). length ray ≡ size_of (space_of v)) rays.items) (ap (names_under q.names) asked) p.3,
)
told_reply q m gone k asked (replies.Undecided cause) p = p
told_reply q m gone k asked replies.Size p = tt
told_reply q m gone k asked replies.Other p = tt

-- ---- one report

module _ (f : Frame) (effort : Effort) (defined : effort.runs ≡ Defined) where
  one_made_step : (ray : List ℤ) (left : EliminatedView) (a b : Option MadeStep) → IsMade f.space effort ray left a → IsMade f.space effort ray left b → a ≡ b
  one_made_step ray (Region rows) a b (kept, dropped, red, is) (others, gone, more, so) =
      let same = one_reduction (constants f.space) effort [] rows kept others dropped gone defined red more in
      is ∙ ap₂ (λ (ks : List (Terms × NeedView)) (ds : List (Terms × CertificateView)). made_of rows ks ds) same.0 same.1 ∙ sym so
    where
      made_of : List Terms → List (Terms × NeedView) → List (Terms × CertificateView) → Option MadeStep
      made_of rows ks ds = Some (record { step = record { ray = ray; drops = numbered_drops 0 rows ds }; rows = kept_rows ks })
  one_made_step ray (Rows rate) a b e d = e ∙ sym d
  one_made_step ray (Wide rate) a b e d = e ∙ sym d

  one_going : (later : List Terms → Option (List StepView) → Type 0) → ((rows : List Terms) (x y : Option (List StepView)) → later rows x
      → later rows y → x ≡ y)
      → (made : Option MadeStep) (a b : Option (List StepView)) → GoesOnWith later made a → GoesOnWith later made b → a ≡ b
  one_going later one None a b e d = e ∙ sym d
  one_going later one (Some made) a b (x, l, e) (y, m, d) = e ∙ ap (λ rest. option_map (λ more. made.step ∷ more) rest) (one made.rows x y l m) ∙ sym d

  one_making : (rows : List Terms) (rays : List (List ℤ)) (a b : Option (List StepView)) → AreMade f effort rows rays a → AreMade f effort rows rays b → a ≡ b
  one_making rows [] a b e d = e ∙ sym d
  one_making rows (ray ∷ rays) a b (left, made, ends, is, goes) (other, more, stops, so, on) =
      let same : other ≡ left = one_ray_end (2 ^ f.space.variables) f.rows ray f.spare rows other left stops ends in
      let one : more ≡ made = one_made_step ray left more made (subst (λ (x : EliminatedView). IsMade f.space effort ray x more) same so) is in
      one_going (λ next rest. AreMade f effort next rays rest) (λ next x y l m. one_making next rays x y l m) made a b goes
      (subst (λ (x : Option MadeStep). GoesOnWith (λ next rest. AreMade f effort next rays rest) x b) one on)

-- a question that has bounds has a small table
small_where_bounded : (limits : Limits) (q : BodyView) (asked : Option (List ℕ)) (rows : List (Mark × Terms)) (proofs : List CertificateView)
    (rays : List (List ℤ)) → IsDue usual limits q asked (Bounded rows proofs rays) → HasSmallTable (under_all_lines q)
small_where_bounded limits q (Some gone) rows proofs rays d = d.0
small_where_bounded limits q None rows proofs rays d = absurd d

one_steps : (report : Bool) (limits : Limits) (q : BodyView) (reply : ReplyView) (a b : Option (List StepView))
    → (HasSmallTable (under_all_lines q) → (limits_for q limits).effort.runs ≡ Defined) → IsDue usual (limits_for q limits) q (eliminated_by q.verb) reply
    → AreToldSteps report limits q reply a → AreToldSteps report limits q reply b → a ≡ b
one_steps true limits q (Bounded rows proofs rays) a b defined due e d =
    one_making (hull_frame limits.rows q) (limits_for q limits).effort
    (defined (small_where_bounded (limits_for q limits) q (eliminated_by q.verb) rows proofs rays due))
    (first_rows (kept_rates q (gone_rates q.verb))) rays a b e d
one_steps true limits q (Undecided cause) a b defined due e d = e ∙ sym d
one_steps true limits q Size a b defined due e d = e ∙ sym d
one_steps true limits q Other a b defined due e d = e ∙ sym d
one_steps false limits q reply a b defined due e d = e ∙ sym d

abbrev told_of : ReplyView → Option (List StepView) → ToldReply
told_of reply steps = record { reply = reply; steps = steps }

pub one_right_told : OneRightTold
one_right_told report limits q a b defined few h k =
    let same : b.reply ≡ a.reply = one_right_reply limits q b.reply a.reply defined few k.reply h.reply in
    ap₂ told_of (sym same) (one_steps report limits q a.reply a.steps b.steps (own_defined limits q defined few) h.reply.due h.steps
    (subst (λ (r : ReplyView). AreToldSteps report limits q r b.steps) same k.steps))
