-- Parts of a search. No public clause cites this module: it serves the proofs of the search.
use Rattle.std.specs.Prelude.{◌≡◌, ℕ, List, [], ◌++◌, map, get_or, length, Option, Some, None, All}
use Rattle.std.specs.List.{flat_map}
use Rattle.it_space.specs.declared.answers.Certificate.{Certificate}
use Rattle.it_space.specs.Answers.{certificate_view}
use Rattle.it_problems.specs.Problems.{ProblemView}
use Rattle.it_space.specs.Rows.{Terms}
use Rattle.it_prove.specs.ClosedProblems.{IsClosedProblem}
use Rattle.it_prove.specs.ProofViews.{ProofView, Yes, EndsWith, AreProofsOf}
use Rattle.it_prove.specs.declared.types.Effort.{Effort}
use Rattle.it_region.specs.declared.types.Candidate.{Candidate}
use Rattle.it_contain.specs.declared.outcomes.Outcomes.{Outcomes}
use Rattle.it_contain.specs.declared.search.Goal as searches
use Rattle.it_contain.specs.declared.types.Contained.{Contained}
use Rattle.it_contain.specs.declared.types.Contained.TheVariants.{Found, Open}
use Rattle.it_contain.specs.declared.types.Shape.{Shape}
use Rattle.it_contain.specs.Proposals.{Plan, plan_after}
use Rattle.it_contain.specs.Search.{Goal, Proofs, proof_views, IsNoProof, IsProof, IsUnproved, LeavesSome, SearchEnds, pair_goal}

-- the list that each box sets at a beginning, in order
abbrev pub lists_of : Shape → List Plan → List (List Candidate)
lists_of shape plans = map (λ p. p shape []) plans

-- the lists one after the other
abbrev pub joined_lists : List (List Candidate) → List Candidate
joined_lists lists = flat_map (λ xs. xs) lists

-- the certificate with which the run about t ends, or none where it ends without one
abbrev pub ProvesOne : ProblemView → Effort → Terms → Option Certificate → Type 0
ProvesOne q effort t None = (o : ProofView) × EndsWith q t effort o × IsNoProof o
ProvesOne q effort t (Some c) = EndsWith q t effort (Yes (certificate_view c))

-- each kept row stands with the certificate with which its run ended, or with none where it ended without one; and what is made once
-- of a problem is made of this problem
unfoldable pub AreOutcomes : ProblemView → Effort → Outcomes → Type 0
AreOutcomes q effort o = All (λ e. ProvesOne q effort e.0.items e.1) o.by_row.entries × IsClosedProblem q o.closed

-- with o as the outcome of t kept too, outcomes stay outcomes, whatever their problem and effort
abbrev pub IsKept : Terms → Option Certificate → Outcomes → Outcomes → Type 0
IsKept t o old new = (q : ProblemView) (effort : Effort) → AreOutcomes q effort old → ProvesOne q effort t o → AreOutcomes q effort new

-- the certificates with which the runs about all targets end, or none where one of them ends without one
abbrev pub ProvesAll : ProblemView → Effort → List Terms → Option Proofs → Type 0
ProvesAll q effort ts None = LeavesSome (λ t o. EndsWith q t effort o) ts
ProvesAll q effort ts (Some proofs) = AreProofsOf q effort ts (proof_views proofs)

-- certificates that prove the candidate, or none where it is unproved
abbrev pub Judges : Goal → Candidate → Option Proofs → Type 0
Judges goal c None = IsUnproved goal c
Judges goal c (Some proofs) = IsProof goal c proofs

-- where the candidate isn't proved, the candidates still to come stay as they are
abbrev pub KeepsPending : Option Proofs → List (List Candidate) → List (List Candidate) → Type 0
KeepsPending None lists lists_after = lists_after ≡ lists
KeepsPending (Some proofs) lists lists_after = Unit {0}

-- the plans after the candidate was tried: the boxes learn of it, if it is proved
abbrev pub plans_after_try : Candidate → Option Proofs → List Plan → List Plan
plans_after_try c None plans = plans
plans_after_try c (Some proofs) plans = map (plan_after c) plans

-- the end of a search by the candidates of a list alone
abbrev pub ListEnds : searches.Goal → ℕ → List Candidate → List Plan → Contained → List Plan → Type 0
ListEnds goal tries list plans end plans_after = SearchEnds (pair_goal goal.pair.now goal.effort) tries list plans end plans_after

-- the end of a search by the candidates of box number i, where the boxes have these lists to propose
abbrev pub BoxEnds : searches.Goal → ℕ → List (List Candidate) → ℕ → List Plan → Contained → List Plan → Type 0
BoxEnds goal tries lists i plans end plans_after = ListEnds goal tries (get_or lists i []) plans end plans_after

-- a search has tried the first `tried` candidates of the list in vain, and `rest` is left
pub record IsPast (goal : Goal) (whole rest : List Candidate) (tried : ℕ) : Type 0 where
  pub passed : List Candidate
  pub parts : whole ≡ passed ++ rest
  pub unproved : All (IsUnproved goal) passed
  pub count : length passed ≡ tried

-- where nothing is found, the lists still to come later stay as they are
abbrev pub KeepsLater : Contained → List (List Candidate) → List (List Candidate) → Type 0
KeepsLater (Found c proofs) later later_after = Unit {0}
KeepsLater (Open tried) later later_after = later_after ≡ later
