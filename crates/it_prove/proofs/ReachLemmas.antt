-- Efforts where the defined run is in reach.
use Rattle.std.proofs.Common.{◌≡◌, ◌≤◌, Bool, true, false, if◌then◌else◌, ◌&&◌, le-leb, refl, sym, ap, ap₂, subst, ◌∙◌}
use Rattle.it_problems.specs.Problems.{ProblemView}
use Rattle.it_closure.specs.Sizes.{most_entries, most_variables_in_reach, table_size}
use Rattle.it_prove.specs.Reach.{effort_under, is_in_reach}
use Rattle.it_prove.specs.ProofViews.{IsUnbound}
use Rattle.it_prove.specs.declared.types.Effort.{Effort}
use Rattle.it_prove.specs.declared.types.Runs.TheVariants.{Defined, QuickAlone}

pub small_is_in_reach : (q : ProblemView) → q.space.variables ≤ most_variables_in_reach → table_size q ≤ most_entries → is_in_reach q ≡ true
unfolding is_in_reach
small_is_in_reach q few small = ap₂ (λ a b. a && b) (le-leb _ _ few) (le-leb _ _ small)

pub same_in_reach : (q : ProblemView) (effort : Effort) → is_in_reach q ≡ true → effort_under q effort ≡ effort
unfolding effort_under
same_in_reach q effort e = ap (λ (b : Bool). if b then effort else record { runs = QuickAlone; pivots = effort.pivots }) e

pub defined_in_reach : (q : ProblemView) (effort : Effort) → is_in_reach q ≡ true → effort.runs ≡ Defined → (effort_under q effort).runs ≡ Defined
defined_in_reach q effort e defined = ap (λ (x : Effort). x.runs) (same_in_reach q effort e) ∙ defined

pub unbound_in_reach : (q : ProblemView) (effort : Effort) → is_in_reach q ≡ true → IsUnbound effort → IsUnbound (effort_under q effort)
unbound_in_reach q effort e unbound = subst (λ (x : Effort). IsUnbound x) (sym (same_in_reach q effort e)) unbound

-- the budget of steps stays
pub same_pivots : (q : ProblemView) (effort : Effort) → (effort_under q effort).pivots ≡ effort.pivots
unfolding effort_under
same_pivots q effort = by_test (is_in_reach q)
  where
    by_test : (b : Bool) → (if b then effort else record { runs = QuickAlone; pivots = effort.pivots }).pivots ≡ effort.pivots
    by_test true = refl
    by_test false = refl
