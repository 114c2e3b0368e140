-- A question has one right reply.
use Rattle.std.proofs.Common.{◌≡◌, ℕ, ◌≤◌, ℤ, List, [], ◌∷◌, length, Option, Some, None, true, refl, sym, ap, subst, ◌∙◌}
use Rattle.it_space.specs.declared.answers.Cause.TheVariants.{Pivots}
use Rattle.it_space.specs.declared.answers.Mark.{Mark}
use Rattle.it_space.specs.declared.spaces.Space.{Space}
use Rattle.it_space.specs.Answers.{CertificateView}
use Rattle.it_space.specs.Rows.{Terms}
use Rattle.it_question.specs.Questions.{BodyView}
use Rattle.it_canon.specs.QuestionDemands.{problem_of}
use Rattle.it_closure.specs.Sizes.{most_variables_in_reach}
use Rattle.it_question.specs.QuestionLimits.{usual}
use Rattle.it_question.specs.TableSizes.{HasSmallTable}
use Rattle.it_prove.specs.Reach.{is_in_reach}
use Rattle.it_prove.specs.declared.types.Effort.{Effort}
use Rattle.it_prove.specs.declared.types.Runs.TheVariants.{Defined}
use Rattle.it_prove.proofs.ReachLemmas.{defined_in_reach, small_is_in_reach, unbound_in_reach}
use Rattle.it_redundant.specs.Reduction.{NeedView, Reduces}
use Rattle.it_redundant.proofs.ReductionLemmas.{one_reduction}
use Rattle.it_outer.specs.declared.types.Limits.{Limits}
use Rattle.it_hull.specs.Constants.{constants}
use Rattle.it_outer.specs.Outer.{CauseView, OuterView, Run, search_without}
use Rattle.it_outer.specs.Outer as outers
use Rattle.it_outer.proofs.EndLemmas.{one_search_end}
use Rattle.it_answer.specs.Truth.{region_rows}
use Rattle.it_bounds.specs.Replies.{ReplyView, Bounded, Undecided, Size, Other}
use Rattle.it_bounds.specs.RightReplies.{Ends, IsDue, MarkedAfter, MarksEnd, NeverOutOfSteps, OneRightReply, limits_for}
use Rattle.it_rates.specs.Asked.{eliminated_by, under_all_lines}
use Rattle.it_bounds.proofs.MarkLemmas.{same_unsettled}
use Rattle.it_bounds.proofs.SearchLemmas.{search_never_out_of_steps}

-- marks of the same rows are the same
one_marking : (s : Space) (effort : Effort) (xs ys : List (Mark × Terms)) → effort.runs ≡ Defined → region_rows xs ≡ region_rows ys
    → MarksEnd s effort xs → MarksEnd s effort ys → xs ≡ ys
one_marking s effort xs ys defined same (kept, dropped, red, after) (others, gone, more, other_after) =
    let one = one_reduction (constants s) effort [] (region_rows xs) kept others dropped gone defined red
    (subst (λ (rs : List Terms). Reduces (constants s) effort [] rs others gone) (sym same) more) in
    by_dropped dropped after (subst (λ (ds : List (Terms × CertificateView)). MarkedAfter ys kept ds) (sym one.1)
    (subst (λ (ks : List (Terms × NeedView)). MarkedAfter ys ks gone) (sym one.0) other_after))
  where
    by_dropped : (ds : List (Terms × CertificateView)) → MarkedAfter xs kept ds → MarkedAfter ys kept ds → xs ≡ ys
    by_dropped [] a b = a ∙ sym b
    by_dropped (d ∷ ds) a b = same_unsettled xs ys same a b

module _ (limits : Limits) (q : BodyView) (gone : List ℕ) (defined : HasSmallTable (under_all_lines q) → limits.effort.runs ≡ Defined) where
  one_end : HasSmallTable (under_all_lines q) → (x y : OuterView) → Ends limits q gone x → Ends limits q gone y → x ≡ y
  one_end small x y e f = one_search_end (search_without (problem_of (under_all_lines q)) gone limits) x y (defined small) e f

  -- what bounds are of the same end
  same_rows : (rows others : List Terms) (ws vs : List CertificateView) (ps qs : List (List ℤ))
      → outers.Bounds rows ws ps ≡ outers.Bounds others vs qs → (rows ≡ others) × (ws ≡ vs) × (ps ≡ qs)
  same_rows rows others ws vs ps qs e = ((let k : rows ≡ others = cc in k), (let k : ws ≡ vs = cc in k), (let k : ps ≡ qs = cc in k))

  not_undecided : (rows : List Terms) (ws : List CertificateView) (ps : List (List ℤ)) (cause : CauseView)
      → outers.Bounds rows ws ps ≡ outers.Undecided cause → ⊥
  not_undecided rows ws ps cause e = cc

  same_cause : (x y : CauseView) → outers.Undecided x ≡ outers.Undecided y → x ≡ y
  same_cause x y e = cc

  one_bound : (a b : ReplyView) → IsDue usual limits q (Some gone) a → IsDue usual limits q (Some gone) b → a ≡ b
  one_bound (Bounded xs ws ps) (Bounded ys vs qs) (small, e, m) (other_small, f, n) =
      let same = same_rows (region_rows xs) (region_rows ys) ws vs ps qs (one_end small _ _ e f) in
      let marked : xs ≡ ys = one_marking _ limits.effort xs ys (defined small) same.0 m n in
      subst (λ (z : List (Mark × Terms)). Bounded xs ws ps ≡ Bounded z vs qs) marked
      (subst (λ (z : List CertificateView). Bounded xs ws ps ≡ Bounded xs z qs) same.1
      (ap (λ (z : List (List ℤ)). Bounded xs ws z) same.2))
  one_bound (Bounded xs ws ps) (Undecided cause) (small, e, m) (other_small, f) = absurd (not_undecided (region_rows xs) ws ps cause (one_end small _ _ e f))
  one_bound (Bounded xs ws ps) Size (small, e, m) large = absurd (large small)
  one_bound (Bounded xs ws ps) Other a b = absurd b
  one_bound (Undecided cause) (Bounded ys vs qs) (small, e) (other_small, f, n) = absurd (not_undecided (region_rows ys) vs qs cause (one_end small _ _ f e))
  one_bound (Undecided cause) (Undecided other) (small, e) (other_small, f) =
      ap (λ (z : CauseView). Undecided z) (same_cause cause other (one_end small _ _ e f))
  one_bound (Undecided cause) Size (small, e) large = absurd (large small)
  one_bound (Undecided cause) Other a b = absurd b
  one_bound Size (Bounded ys vs qs) large (small, f, n) = absurd (large small)
  one_bound Size (Undecided other) large (small, f) = absurd (large small)
  one_bound Size Size a b = refl
  one_bound Size Other a b = absurd b
  one_bound Other b a c = absurd a

none_asked : (limits : Limits) (q : BodyView) (a : ReplyView) → IsDue usual limits q None a → a ≡ Other
none_asked limits q (Bounded xs ws ps) d = absurd d
none_asked limits q (Undecided cause) d = absurd d
none_asked limits q Size d = absurd d
none_asked limits q Other d = refl

one_due : (limits : Limits) (q : BodyView) (asked : Option (List ℕ)) (a b : ReplyView)
    → (HasSmallTable (under_all_lines q) → limits.effort.runs ≡ Defined)
    → IsDue usual limits q asked a → IsDue usual limits q asked b → a ≡ b
one_due limits q (Some gone) a b defined d e = one_bound limits q gone defined a b d e
one_due limits q None a b defined d e = none_asked limits q a d ∙ sym (none_asked limits q b e)

-- the defined run is in reach where a search is made about so few variables
in_reach : (q : BodyView) → length q.names.variables ≤ most_variables_in_reach → HasSmallTable (under_all_lines q)
    → is_in_reach (problem_of (under_all_lines q)) ≡ true
in_reach q few small = small_is_in_reach (problem_of (under_all_lines q)) few small

pub own_defined : (limits : Limits) (q : BodyView) → limits.effort.runs ≡ Defined → length q.names.variables ≤ most_variables_in_reach
    → HasSmallTable (under_all_lines q) → (limits_for q limits).effort.runs ≡ Defined
own_defined limits q defined few small = defined_in_reach (problem_of (under_all_lines q)) limits.effort (in_reach q few small) defined

pub one_right_reply : OneRightReply
one_right_reply limits q a b defined few h k =
    one_due (limits_for q limits) q (eliminated_by q.verb) a b (own_defined limits q defined few) h.due k.due

pub never_out_of_steps : NeverOutOfSteps
never_out_of_steps limits q row k unbound few h = by_asked (eliminated_by q.verb) h.due
  where
    by_asked : (asked : Option (List ℕ)) → IsDue usual (limits_for q limits) q asked (Undecided (Run row (Pivots k))) → ⊥
    by_asked (Some gone) d = search_never_out_of_steps (search_without (problem_of (under_all_lines q)) gone (limits_for q limits)) row k
        (unbound_in_reach (problem_of (under_all_lines q)) limits.effort (in_reach q few d.0) unbound) d.1
    by_asked None d = d
