-- Pairs of regions, and the candidates that fit them.
use Rattle.std.specs.Prelude.{◌≡◌, ℕ, ◌+◌, ◌<◌, ◌≤◌, ◌^◌, ℤ, List, take, length, All}
use Rattle.it_problems.specs.Problems.{IsProblem}
use Rattle.it_space.specs.Rows.{IsOver, row_mass}
use Rattle.it_space.specs.Spaces.{IsSpace, size_of}
use Rattle.it_polymatroid.specs.Certificates.{Form}
use Rattle.it_question.specs.OwnLines.{RegionView}
use Rattle.it_question.specs.Questions.{VerbView, Contain, BodyView}
use Rattle.it_demand.specs.Origins.{AreStated}
use Rattle.it_canon.specs.QuestionDemands.{question_demands, question_origins}
use Rattle.it_question.specs.LineOrigins.{origins_from}
use Rattle.it_question.specs.QuestionLimits.{most_names}
use Rattle.it_question.specs.LineDemands.{line_demands}
use Rattle.it_problems.specs.declared.problems.Origin.{Origin}
use Rattle.it_demand.specs.QuestionSpaces.{space_of}
use Rattle.it_region.specs.declared.types.Pair.{Pair}
use Rattle.it_region.specs.declared.types.Candidate.{Candidate}
use Rattle.it_region.specs.Pulling.{substituted_sets, pulled_coordinate}
use Rattle.it_region.specs.Obligations.{constraint_obligations}

-- the pairs that calls take
pub record IsPair (p : Pair) : Type 0 where
  pub problem : IsProblem p.first
  pub few : p.first.space.variables ≤ most_names
  pub space : IsSpace p.space
  pub rows : All (λ c. IsOver (size_of p.space) c.row) p.own.items
  pub small : All (λ c. row_mass c.row < 2 ^ 127) p.own.items
  pub few_parts : p.parts ≤ 4
  pub variables : p.common + p.parts ≡ p.space.variables
  pub common_first : p.common ≤ p.first.space.variables
  pub rates : p.space.rates ≡ p.first.space.rates

-- the origins of what the second region's own lines demand, which are counted after the question's own
abbrev pub own_origins : BodyView → RegionView → List Origin
own_origins q b = origins_from (length b.names.variables) (1 + length q.lines.givens) (1 + length q.lines.rows) b.lines

-- the pair of a question's regions
pub record IsPairOf (q : BodyView) (a b : RegionView) (p : Pair) : Type 0 where
  pub first_space : p.first.space ≡ space_of a.names
  pub first : AreStated p.first.space (question_origins q) (question_demands q) p.first.constraints
  pub second_space : p.space ≡ space_of b.names
  pub own : AreStated p.space (own_origins q b) (line_demands (length b.names.variables) b.lines) p.own.items
  pub common : p.common ≡ length q.names.variables
  pub parts : p.parts ≡ b.auxiliaries

-- the pair is that of a verb's two regions, where the verb is `contain`
abbrev pub PairsBy : BodyView → VerbView → Pair → Type 0
PairsBy q (Contain a b tries) p = IsPairOf q a b p
PairsBy q verb p = ⊥

-- the pair is that of a question's regions
abbrev pub Pairs : BodyView → Pair → Type 0
Pairs q p = PairsBy q q.verb p

-- the verb is `contain`
abbrev pub IsContainment : VerbView → Type 0
IsContainment (Contain a b tries) = Unit {0}
IsContainment verb = ⊥

-- the candidate has a set of the first region's variables for each part
pub record FitsPair (p : Pair) (c : Candidate) : Type 0 where
  pub complete : length c.parts ≡ 4
  pub count : c.count ≡ p.parts
  pub within : All (λ s. s < 2 ^ p.first.space.variables) (take c.count c.parts)

-- the coordinate of the first region that one of the second stands for, by what its variables stand for
abbrev pub pair_coordinate : Pair → List ℕ → ℕ → ℕ
pair_coordinate p sets c = pulled_coordinate p.first.space.variables p.space.variables sets c

-- what each variable of the second region stands for
abbrev pub candidate_sets : Pair → Candidate → List ℕ
candidate_sets p c = substituted_sets p.common (take c.count c.parts)

-- the coordinate of the first region that one of the second stands for, by a candidate
abbrev pub candidate_coordinate : Pair → Candidate → ℕ → ℕ
candidate_coordinate p c = pair_coordinate p (candidate_sets p c)

-- a map pulled back by a candidate
abbrev pub candidate_map : Pair → Candidate → (ℕ → ℤ) → ℕ → ℤ
candidate_map p c m x = m (candidate_coordinate p c x)

-- the obligations of a candidate, by the rows of the pair
abbrev pub pair_obligations : Pair → Candidate → List Form
pair_obligations p c = constraint_obligations (candidate_coordinate p c) p.own.items
