-- The cause of an elimination names one of the rates that are eliminated.
use Rattle.std.proofs.Common.{◌≡◌, ℕ, inl, inr, List, [], ◌∷◌, refl, sym, subst}
use Rattle.it_prove.specs.declared.types.Effort.{Effort}
use Rattle.it_space.specs.Answers.{CertificateView}
use Rattle.it_problems.specs.Problems.{ProblemView}
use Rattle.it_space.specs.Rows.{Terms}
use Rattle.it_eliminate.specs.Elimination.{EliminatedView, EliminationEnds}
use Rattle.it_eliminate.proofs.MemberLemmas.{Member}
use Rattle.it_eliminate.specs.Elimination as elimination
use Rattle.it_redundant.specs.Reduction.{NeedView, kept_rows}
use Rattle.it_redundant.specs.ReducedElimination.{ProjectedView, Region, Rows, Wide, ReducedEnds}

-- the step of a rate ends with a list, or names this rate
abbrev IsStepOf : ℕ → EliminatedView → Type 0
IsStepOf r (elimination.Region rows) = Unit {0}
IsStepOf r (elimination.Rows rate) = rate ≡ r
IsStepOf r (elimination.Wide rate) = rate ≡ r

step_of_rate : (base most : ℕ) (rows : List Terms) (r : ℕ) (step : EliminatedView) → EliminationEnds base most rows (r ∷ []) step → IsStepOf r step
step_of_rate base most rows r step (inl e) = subst (IsStepOf r) (sym e.1) refl
step_of_rate base most rows r step (inr (inl e)) = subst (IsStepOf r) (sym e.2) refl
step_of_rate base most rows r step (inr (inr e)) = subst (IsStepOf r) (sym e.2) tt

-- an end is a region, or names one of these rates
abbrev pub IsEndOf : List ℕ → ProjectedView → Type 0
IsEndOf rates (Region kept dropped) = Unit {0}
IsEndOf rates (Rows rate) = Member rate rates
IsEndOf rates (Wide rate) = Member rate rates

end_of_more : (r : ℕ) (rates : List ℕ) (end : ProjectedView) → IsEndOf rates end → IsEndOf (r ∷ rates) end
end_of_more r rates (Region kept dropped) h = tt
end_of_more r rates (Rows rate) h = inr h
end_of_more r rates (Wide rate) h = inr h

module _ (givens : ProblemView) (effort : Effort) (most : ℕ) where
  pub end_of_rates : (rows : List Terms) (last : List (Terms × NeedView)) (gone : List (Terms × CertificateView)) (rates : List ℕ)
      (end : ProjectedView) → ReducedEnds givens effort most rows last gone rates end → IsEndOf rates end
  end_of_rates rows last gone [] end is = subst (IsEndOf []) (sym is) tt
  end_of_rates rows last gone (r ∷ rates) end (elimination.Region next, e, g) = end_of_more r rates end (end_of_rates (kept_rows g.0) g.0 g.1 rates end g.3)
  end_of_rates rows last gone (r ∷ rates) end (elimination.Rows rate, e, is) = subst (IsEndOf (r ∷ rates)) (sym is)
      (inl (step_of_rate _ most _ r (elimination.Rows rate) e))
  end_of_rates rows last gone (r ∷ rates) end (elimination.Wide rate, e, is) = subst (IsEndOf (r ∷ rates)) (sym is)
      (inl (step_of_rate _ most _ r (elimination.Wide rate) e))
