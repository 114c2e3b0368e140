-- What certificates of a question are built from, by the meaning of its text: the elemental inequalities, then what its lines
-- demand; and certificates over these.
use Rattle.std.specs.Prelude.{◌≡◌, ℕ, ◌<◌, ℤ, pos, ◌*ℤ◌, ◌≤ℤ◌, List, ◌++◌, length, map, slice_index_or, All}
use Rattle.std.specs.List.{AllZip}
use Rattle.it_problems.specs.declared.problems.Kind.TheVariants.{Inequality}
use Rattle.it_space.specs.Answers.{CertificateView}
use Rattle.it_polymatroid.specs.Certificates.{Form, combination}
use Rattle.it_polymatroid.specs.Elementals.{Elemental, elementals, elemental_value}
use Rattle.it_question.specs.Questions.{BodyView}
use Rattle.it_demand.specs.Demands.{Demand}
use Rattle.it_canon.specs.QuestionDemands.{question_demands}
use Rattle.it_canon.specs.TrueLines.{variable_count}

-- an elemental inequality of n variables as a demand
abbrev pub demand_of_elemental : ℕ → Elemental → Demand
demand_of_elemental n e = record { kind = Inequality; form = λ p. elemental_value n p e }

-- the elemental inequalities of n variables as demands, then what the lines demand
unfoldable pub all_demands : ℕ → List Demand → List Demand
all_demands n ds = map (demand_of_elemental n) (elementals n) ++ ds

-- demand number i of `ds`, counted from 0
abbrev pub demand_at : List Demand → ℕ → Demand
demand_at ds i = slice_index_or ds i (record { kind = Inequality; form = λ p. pos 0 })

-- a weight that may stand in a certificate: of a demand that is there, and at least 0 where that is an inequality
abbrev pub IsAllowedWeight : List Demand → ℕ × ℤ → Type 0
IsAllowedWeight ds w = (w.0 < length ds) × ((demand_at ds w.0).kind ≡ Inequality → pos 0 ≤ℤ w.1)

-- A certificate of a form (Farkas 1902): weights by which the demands add up to a positive multiple of it, at every map that is 0 at
-- the empty set.
pub record Certifies (ds : List Demand) (target : Form) (w : CertificateView) : Type 0 where
  pub scale_from_one : pos 1 ≤ℤ w.scale
  pub allowed : All (IsAllowedWeight ds) w.weights
  pub adds_up : (p : ℕ → ℤ) → p 0 ≡ pos 0 → w.scale *ℤ target p ≡ combination w.weights (λ i. (demand_at ds i).form p)

-- the elemental inequalities and the question's lines add up to the target by these weights
abbrev pub CertifiesForm : BodyView → Form → CertificateView → Type 0
CertifiesForm q f w = Certifies (all_demands (variable_count q) (question_demands q)) f w

-- one certificate of each target, in order
abbrev pub CertifyAll : BodyView → List Form → List CertificateView → Type 0
CertifyAll q fs ws = AllZip (CertifiesForm q) fs ws
