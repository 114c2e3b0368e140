-- A question has one right reply: the runs about the terms of its sides end in one way.
use Rattle.std.proofs.Common.{◌≡◌, ◌≢◌, inl, inr, ℕ, Some, None, refl, ap, sym, subst, ◌∙◌}
use Rattle.it_syntax.specs.Meaning.{RelationView}
use Rattle.it_question.specs.Questions.{BodyView}
use Rattle.it_canon.specs.QuestionDemands.{problem_of, terms_in}
use Rattle.it_canon.specs.TrueLines.{variable_count}
use Rattle.it_canon.specs.Sides.{left_form, right_form}
use Rattle.it_prove.specs.ProofViews.{IsUnbound}
use Rattle.it_prove.specs.Reach.{effort_under}
use Rattle.it_prove.specs.declared.types.Effort.{Effort}
use Rattle.it_prove.specs.declared.types.Runs.{Runs}
use Rattle.it_prove.specs.declared.types.Runs.TheVariants.{Defined, QuickFirst, QuickAlone}
use Rattle.it_prove.proofs.ReachLemmas.{defined_in_reach, unbound_in_reach}
use Rattle.it_ratio.specs.declared.types.BestCause.{BestCause}
use Rattle.it_ratio.specs.declared.types.BestCause.TheVariants.{Pivots}
use Rattle.it_ratio.specs.BestViews.{BestView, Undecided}
use Rattle.it_best.specs.Ends.{EndsWith}
use Rattle.it_best.proofs.EndLemmas.{best_never_out_of_steps, one_best}
use Rattle.it_factor.specs.Replies.{ReplyView, Found, Other}
use Rattle.it_factor.specs.RightReplies.{IsDueFactor, IsDueReply, NeverOutOfSteps, OneRightReply, QuickFinds}

-- where the defined runs alone are made, nothing comes beside what they find
none_beside : (runs : Runs) (best : BestView) → runs ≡ Defined → QuickFinds runs best → ⊥
none_beside runs best defined f = subst (λ (r : Runs). QuickFinds r best) defined f

one_due : (effort : Effort) (q : BodyView) (r : RelationView) (x y : BestView) → effort.runs ≡ Defined → IsDueFactor effort q r x
    → IsDueFactor effort q r y → x ≡ y
one_due effort q r x y defined (inl a) (inl b) = one_best (problem_of q) (terms_in q (left_form (variable_count q) r))
    (terms_in q (right_form (variable_count q) r)) effort.pivots x y a b
one_due effort q r x y defined (inl a) (inr b) = absurd (none_beside effort.runs y defined b)
one_due effort q r x y defined (inr a) b = absurd (none_beside effort.runs x defined a)

one_reply : (effort : Effort) (q : BodyView) (a b : ReplyView) → effort.runs ≡ Defined → IsDueReply effort q a → IsDueReply effort q b → a ≡ b
one_reply effort q (Found x) (Found y) defined h k =
    let e : Some h.0 ≡ Some k.0 = sym h.1 ∙ k.1 in
    let same : h.0 ≡ k.0 = cc in
    ap Found (one_due effort q k.0 x y defined (subst (λ r. IsDueFactor effort q r x) same h.2.due) k.2.due)
one_reply effort q (Found x) Other defined h k = let e : Some h.0 ≡ None = sym h.1 ∙ k in absurd (cc)
one_reply effort q Other (Found y) defined h k = let e : Some k.0 ≡ None = sym k.1 ∙ h in absurd (cc)
one_reply effort q Other Other defined h k = refl

pub one_right_reply : OneRightReply
one_right_reply effort q a b defined reach h k =
    one_reply (effort_under (problem_of q) effort) q a b (defined_in_reach (problem_of q) effort reach defined) h k

-- where the defined runs are made, no factor stays undecided beside what they find
none_open : (runs : Runs) (cause : BestCause) → runs ≢ QuickAlone → QuickFinds runs (Undecided cause) → ⊥
none_open Defined cause made f = f
none_open QuickFirst cause made f = f
none_open QuickAlone cause made f = made refl

due_within_budget : (effort : Effort) (q : BodyView) (r : RelationView) (k phase : ℕ) → IsUnbound effort
    → IsDueFactor effort q r (Undecided (Pivots k phase)) → ⊥
due_within_budget effort q r k phase unbound (inl e) = best_never_out_of_steps (problem_of q) (terms_in q (left_form (variable_count q) r))
    (terms_in q (right_form (variable_count q) r)) k phase
    (subst (λ b. EndsWith (problem_of q) (terms_in q (left_form (variable_count q) r)) (terms_in q (right_form (variable_count q) r)) b
    (Undecided (Pivots k phase))) unbound.0 e)
due_within_budget effort q r k phase unbound (inr f) = none_open effort.runs (Pivots k phase) unbound.1 f

pub never_out_of_steps : NeverOutOfSteps
never_out_of_steps effort q k phase unbound reach h =
    due_within_budget (effort_under (problem_of q) effort) q h.0 k phase (unbound_in_reach (problem_of q) effort reach unbound) h.2.due
