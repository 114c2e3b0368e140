-- What is right of a problem's rows is right by the meaning of the text.
use Rattle.std.proofs.Common.{◌≡◌, ◌+◌, ◌<◌, ◌≤◌, ℕ, ℤ, List, [], ◌∷◌, length, map, All, Bool, true, false, Option, Some, None, refl, sym, ap, subst, ◌∙◌}
use Rattle.std.specs.Bool.{OnFalse}
use Rattle.std.specs.List.{AllZip, AllByRecursion as Every}
use Rattle.std.proofs.lemmas.List.Elements.{All-weaker}
use Rattle.it_space.specs.declared.answers.Mark.{Mark}
use Rattle.it_space.specs.declared.spaces.Space.{Space}
use Rattle.it_space.specs.Answers.{CertificateView}
use Rattle.it_problems.specs.Problems.{ProblemView}
use Rattle.it_space.specs.Rows.{Terms, IsOver, point_of, value}
use Rattle.it_space.specs.Spaces.{size_of}
use Rattle.it_space.proofs.EveryLemmas.{every_of}
use Rattle.it_elemental.specs.Generators.{generators}
use Rattle.it_check.specs.Meaning.{CertifiesRow}
use Rattle.it_question.specs.Limits.{IsQuestion}
use Rattle.it_question.specs.TableSizes.{HasTableWithin}
use Rattle.it_question.specs.declared.sizes.FileLimits.{FileLimits}
use Rattle.it_question.specs.Questions.{BodyView, VerbView, Eliminate}
use Rattle.it_canon.specs.QuestionDemands.{IsProblemOf, question_demands}
use Rattle.it_canon.proofs.PosesLemmas.{one_problem}
use Rattle.it_canon.proofs.SmallProblems.{small_by_problem, small_problem}
use Rattle.it_hull.specs.Hulls.{IsHull}
use Rattle.it_hull.specs.KeptRates.{kept_coordinates}
use Rattle.it_outer.specs.declared.types.Limits.{Limits}
use Rattle.it_outer.specs.Bounds.{IsRay}
use Rattle.it_outer.specs.Outer.{CauseView, OuterView, Run, limits_under, search_without}
use Rattle.it_outer.specs.Outer as outers
use Rattle.it_outer.specs.Search.{SearchEnds}
use Rattle.it_answer.specs.Forms.{Certifies, CertifiesForm, CertifyAll, all_demands}
use Rattle.it_answer.specs.Truth.{region_rows}
use Rattle.it_answer.proofs.FormLemmas.{by_forms, generators_speak, rows_add_up}
use Rattle.it_bounds.specs.Replies.{ReplyView, Bounded, Undecided, Size, Other}
use Rattle.it_bounds.specs.RightReplies.{Ends, IsDue, IsDueReply, IsRightReply, MarksEnd, ShowsBounds, ShowsReply}
use Rattle.it_bounds.specs.RowReplies.{AreMarkedBounds, IsReplyByRows, IsTableWithin}
use Rattle.it_rates.specs.Asked.{eliminated_by, under_all_lines}
use Rattle.it_rates.specs.Bounds.{IsTrueRay}
use Rattle.it_rates.proofs.AskedLemmas.{at_question, eliminated_rates, meets_true}
use Rattle.it_bounds.proofs.SearchLemmas.{bounds_over}

-- what holds unless b does, weakened
on_false_weaker : (b : Bool) {A B : Type 0} → (A → B) → OnFalse b A → OnFalse b B
on_false_weaker true f x = tt
on_false_weaker false f x = f x

module _ (q : BodyView) (p : ProblemView) (posed : IsProblemOf (under_all_lines q) p) where
  -- ---- the evidence

  certified_by_text : (row : Terms) (w : CertificateView) → IsOver (size_of p.space) row → CertifiesRow p row w
      → CertifiesForm (under_all_lines q) (value row) w
  certified_by_text row w over c = at_question q p posed (λ s. Certifies (all_demands s.variables (question_demands (under_all_lines q))) (value row) w)
      (by_forms (all_demands p.space.variables (question_demands (under_all_lines q))) (generators p)
      (generators_speak p.space (question_demands (under_all_lines q)) p.constraints posed.constraints.stated)
      (size_of p.space + 1) (value row) (value row) (λ x e. refl) w c (rows_add_up p row w posed.limits over c))

  all_by_text : (rows : List Terms) (ws : List CertificateView) → Every (IsOver (size_of p.space)) rows → AllZip (CertifiesRow p) rows ws
      → CertifyAll (under_all_lines q) (map value rows) ws
  all_by_text [] [] u z = tt
  all_by_text [] (w ∷ ws) u z = absurd z
  all_by_text (row ∷ rows) [] u z = absurd z
  all_by_text (row ∷ rows) (w ∷ ws) u z = (certified_by_text row w u.0 z.0, all_by_text rows ws u.1 z.1)

  ray_by_text : (values : List ℤ) → IsRay p values → IsTrueRay q values
  ray_by_text values r = record {
    complete = at_question q p posed (λ s. length values ≡ size_of s) r.complete;
    lines_true = meets_true q p
        posed (point_of values) r.met;
  }

  module _ (file : FileLimits) (limits : Limits) (gone : List ℕ) where
    pub shows_bounds : (rows : List (Mark × Terms)) (ws : List CertificateView) (rays : List (List ℤ))
        → All (IsOver (size_of p.space)) (region_rows rows) → AreMarkedBounds file limits p gone rows ws rays → ShowsBounds q gone rows ws rays
    shows_bounds rows ws rays over b = record {
      certified = all_by_text (region_rows rows) ws (every_of (IsOver (size_of p.space)) (region_rows rows) over) b.bounds.certified;
      attained = All-weaker (IsRay p) (IsTrueRay q) (λ values r. ray_by_text values r) rays b.bounds.attained;
      hull = at_question q p posed (λ s. IsHull (kept_coordinates s gone) (region_rows rows) rays) b.bounds.hull;
      needed = b.needed;
    }

    ends_by_text : (end : OuterView) → SearchEnds (search_without p gone limits) end → Ends limits q gone end
    ends_by_text end e = subst (λ (r : ProblemView). SearchEnds (search_without r gone limits) end) (one_problem (under_all_lines q) p posed) e

    module _ (k : IsQuestion q) (few_rows : limits.rows ≤ 65535) (asked : q.verb ≡ Eliminate gone) where
      pub rates_within : All (λ r. r < p.space.rates) gone
      rates_within = subst (λ (s : Space). All (λ r. r < s.rates) gone) (sym posed.space) (eliminated_rates q gone k asked).within

      rows_over : (rows : List Terms) (ws : List CertificateView) (rays : List (List ℤ))
          → SearchEnds (search_without p gone limits) (outers.Bounds rows ws rays) → All (IsOver (size_of p.space)) rows
      rows_over rows ws rays e = (bounds_over p gone limits posed.limits rates_within (eliminated_rates q gone k asked).some few_rows rows ws rays e).0

      asks : eliminated_by q.verb ≡ Some gone
      asks = ap eliminated_by asked

      -- the table isn't too large, by the text where it isn't by the code, and by the code where it isn't by the text
      within_by_text : IsTableWithin file p → HasTableWithin file (under_all_lines q)
      within_by_text = on_false_weaker file.large_tables (small_by_problem (under_all_lines q) p posed)

      within_by_code : HasTableWithin file (under_all_lines q) → IsTableWithin file p
      within_by_code = on_false_weaker file.large_tables (λ h. small_problem (under_all_lines q) h p posed)

      due_by_text : (reply : ReplyView) → IsReplyByRows file limits p gone reply → IsDue file limits q (Some gone) reply
      due_by_text (Bounded rows ws rays) b = (
        within_by_text b.within,
        ends_by_text
            (outers.Bounds (region_rows rows) ws rays) b.ends,
        at_question q p posed (λ s. MarksEnd s limits.effort rows) b.marks,
      )
      due_by_text (Undecided cause) u = (within_by_text u.0, ends_by_text (outers.Undecided cause) u.1)
      due_by_text Size large = λ h. large (within_by_code h)
      due_by_text Other x = absurd x

      shows_by_text : (reply : ReplyView) → IsReplyByRows file limits p gone reply → ShowsReply q reply
      shows_by_text (Bounded rows ws rays) b = (gone, asks, shows_bounds rows ws rays (rows_over (region_rows rows) ws rays b.ends) b)
      shows_by_text (Undecided cause) u = tt
      shows_by_text Size large = tt
      shows_by_text Other x = absurd x

      pub right_bound : (reply : ReplyView) → IsReplyByRows file limits p gone reply → IsDueReply file limits q reply
      right_bound reply r = record {
        shows = shows_by_text reply r;
        due = subst (λ (a : Option (List ℕ)). IsDue file limits q a reply) (sym asks)
            (due_by_text reply r);
      }

-- a question that asks to eliminate no rates has the other reply
pub other_is_right : (file : FileLimits) (limits : Limits) (q : BodyView) (verb : VerbView) → q.verb ≡ verb → eliminated_by verb ≡ None → IsDueReply file limits q Other
other_is_right file limits q verb is none = let asks : eliminated_by q.verb ≡ None = ap eliminated_by is ∙ none in record {
  shows = asks;
  due = subst (λ (a : Option (List ℕ)). IsDue file limits q a Other) (sym asks) tt;
}

-- a reply that is due with the limits under the code's problem is right
pub right_under : (file : FileLimits) (limits own : Limits) (q : BodyView) (p : ProblemView) → IsProblemOf (under_all_lines q) p → own ≡ limits_under p limits
    → (reply : ReplyView) → IsDueReply file own q reply → IsRightReply file limits q reply
right_under file limits own q p posed is reply x = subst (λ (l : Limits). IsDueReply file l q reply)
    (is ∙ ap (λ (r : ProblemView). limits_under r limits) (one_problem (under_all_lines q) p posed)) x
