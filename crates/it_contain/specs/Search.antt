-- The ends of a search over boxes.
use Rattle.std.specs.Prelude.{◌≡◌, ℕ, ◌<◌, List, [], ◌∷◌, ◌++◌, map, take, length, min, Vec, All, Contains}
use Rattle.std.specs.Global.{Global}
use Rattle.std.specs.List.{AllZip, flat_map}
use Rattle.it_space.specs.declared.answers.Certificate.{Certificate}
use Rattle.it_space.specs.Answers.{CertificateView, certificate_view}
use Rattle.it_space.specs.Rows.{Terms}
use Rattle.it_space.specs.Spaces.{size_of}
use Rattle.it_demand.specs.RowsOfForms.{terms_of_form}
use Rattle.it_prove.specs.ProofViews.{ProofView, Yes, No, Undecided, EndsWith}
use Rattle.it_prove.specs.declared.types.Effort.{Effort}
use Rattle.it_region.specs.declared.types.Candidate.{Candidate}
use Rattle.it_contain.specs.declared.types.Contained.{Contained}
use Rattle.it_contain.specs.declared.types.Contained.TheVariants.{Found, Open}
use Rattle.it_region.specs.declared.types.Pair.{Pair}
use Rattle.it_contain.specs.declared.types.Shape.{Shape}
use Rattle.it_region.specs.Pairs.{FitsPair, pair_obligations}
use Rattle.it_contain.specs.Proposals.{Plan, plan_after}
use Rattle.it_contain.specs.Shapes.{shape_of}

-- what is looked for: which candidates fit, the targets that each is to prove, and the outcomes that a target may have
pub record Goal : Type 1 where
  pub fits : Candidate → Type 0
  pub targets : Candidate → List Terms
  pub ends : Terms → ProofView → Type 0

-- for a pair: the targets are the candidate's obligations under the problem of the first region, decided with an effort
abbrev pub pair_goal : Pair → Effort → Goal
pair_goal p effort = record {
  fits = FitsPair p;
  targets = λ c. map (terms_of_form (size_of p.first.space)) (pair_obligations p c);
  ends = λ t o. EndsWith p.first t effort o;
}

-- the candidate fits, and its targets end with these certificates, in order
pub record IsProofOf (goal : Goal) (c : Candidate) (ws : List CertificateView) : Type 0 where
  pub fits : goal.fits c
  pub proofs : AllZip (λ t w. goal.ends t (Yes w)) (goal.targets c) ws

-- an outcome other than a proof
abbrev pub IsNoProof : ProofView → Type 0
IsNoProof (Yes w) = ⊥
IsNoProof (No values) = Unit {0}
IsNoProof (Undecided cause) = Unit {0}

-- some target among `ts` has an outcome other than a proof
abbrev pub LeavesSome : (Terms → ProofView → Type 0) → List Terms → Type 0
LeavesSome ends ts = (t : Terms) × (o : ProofView) × Contains ts t × ends t o × IsNoProof o

-- the certificates of a candidate's obligations, in order
abbrev pub Proofs : Type 0
Proofs = Vec Certificate Global

-- what contracts see of certificates
abbrev pub proof_views : Proofs → List CertificateView
proof_views proofs = map certificate_view proofs.items

-- these certificates prove the candidate
unfoldable pub IsProof : Goal → Candidate → Proofs → Type 0
IsProof goal c proofs = IsProofOf goal c (proof_views proofs)

-- some certificates prove the candidate
unfoldable pub IsProved : Goal → Candidate → Type 0
IsProved goal c = (ws : List CertificateView) × IsProofOf goal c ws

-- the candidate doesn't fit, or it leaves a target unproved
abbrev pub IsUnproved : Goal → Candidate → Type 0
IsUnproved goal c = goal.fits c → LeavesSome goal.ends (goal.targets c)

-- c is the first proved candidate among the first `tries` of the plan
pub record IsFirstProved (goal : Goal) (tries : ℕ) (plan : List Candidate) (c : Candidate) : Type 0 where
  pub before : List Candidate
  pub after : List Candidate
  pub parts : plan ≡ before ++ c ∷ after
  pub within : length before < tries
  pub unproved : All (IsUnproved goal) before
  pub proved : IsProved goal c

-- none of the first `tries` of the plan is proved
pub record IsOpen (goal : Goal) (tries : ℕ) (plan : List Candidate) (tried : ℕ) : Type 0 where
  pub unproved : All (IsUnproved goal) (take tries plan)
  pub tried_is : tried ≡ min tries (length plan)

-- the candidates of a search: those of a list, and then those that each box sets at a beginning, in order
unfoldable pub plan_of : List Candidate → List Plan → Shape → List Candidate
plan_of first plans shape = first ++ flat_map (λ plan. plan shape []) plans

-- The end of a search over boxes with these plans: what it found, and the plans that they have then.
abbrev pub SearchEnds : Goal → ℕ → List Candidate → List Plan → Contained → List Plan → Type 0
SearchEnds goal tries plan plans (Found c proofs) plans_after = IsFirstProved goal tries plan c × IsProof goal c proofs × (plans_after ≡ map (plan_after c) plans)
SearchEnds goal tries plan plans (Open tried) plans_after = IsOpen goal tries plan tried × (plans_after ≡ plans)

-- The end of a search about a pair: its candidates are those of the list `first`, and then those that the boxes set for the pair's shape.
abbrev pub PairEnds : Pair → Effort → ℕ → List Candidate → List Plan → Contained → List Plan → Type 0
PairEnds p effort tries first plans end plans_after = SearchEnds (pair_goal p effort) tries (plan_of first plans (shape_of p)) plans end plans_after
