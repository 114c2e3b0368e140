-- The input and the result of a lift.
use Rattle.std.specs.Prelude.{◌≡◌, ◌≢◌, ℕ, ◌<◌, ◌+◌, ℤ, pos, true, ◌-ℤ◌, ◌*ℤ◌, ◌≤◌, List, [], ◌∷◌, All}
use Rattle.it_number.specs.Limit.{IsWithin}
use Rattle.it_problems.specs.Problems.{ProblemView}
use Rattle.it_space.specs.Answers.{CertificateView}
use Rattle.it_space.specs.Rows.{Terms, coefficient, value}
use Rattle.it_space.specs.Spaces.{size_of}
use Rattle.it_polymatroid.specs.Certificates.{IsAllowed, combination}
use Rattle.it_closure.specs.DependencesViews.{DependencesView, AreOfSpace}
use Rattle.it_lift.specs.Fits.{AreNumbered, LiftFits}
use Rattle.it_elemental.specs.Generators.{generators_of}
use Rattle.it_lift.specs.Lifts.{signed_value, lifted_weights, AddsUpOverClosed}

-- the dependences are equations of the problem, in order
pub record AreDependencesOf (q : ProblemView) (d : DependencesView) : Type 0 where
  pub shape : AreOfSpace d
  pub space : d.space ≡ q.space
  pub numbered : AreNumbered d.space.variables d.list
  pub placed : All (λ x. x.generator < (generators_of q).count) d.list
  pub kinds : All (λ x. (generators_of q).is_equation x.generator ≡ true) d.list
  pub equations : All (λ x. (h : ℕ → ℤ) → h 0 ≡ pos 0 → (generators_of q).form x.generator h ≡ signed_value x.negated (h x.to -ℤ h x.from)) d.list

-- the weights' numbers ascend, from at least `from` on
abbrev pub WeightsAscend : ℕ → List (ℕ × ℤ) → Type 0
WeightsAscend from [] = Unit {0}
WeightsAscend from (w ∷ ws) = (from ≤ w.0) × WeightsAscend (w.0 + 1) ws

-- a certificate over closed sets: ascending weights that are allowed in a certificate, and that add up over closed sets
pub record IsCertificateOverClosed (q : ProblemView) (d : DependencesView) (target : Terms) (w : CertificateView) : Type 0 where
  pub order : WeightsAscend 0 w.weights
  pub allowed : All (IsAllowed (generators_of q)) w.weights
  pub within : All (λ p. IsWithin p.1) w.weights
  pub sums : AddsUpOverClosed (size_of q.space + 1) d.space.variables d.list (value target) (generators_of q) w

-- new has the scale of old and its weights with all amounts added, in ascending order, and adds up at every map
pub record IsLiftOf (q : ProblemView) (d : DependencesView) (target : Terms) (old new : CertificateView) : Type 0 where
  pub scale : new.scale ≡ old.scale
  pub order : WeightsAscend 0 new.weights
  pub allowed : All (IsAllowed (generators_of q)) new.weights
  pub weights : (i : ℕ) → coefficient new.weights i ≡ coefficient (lifted_weights d.space.variables d.list (value target) (generators_of q) old) i
  pub adds_up : (h : ℕ → ℤ) → h 0 ≡ pos 0 → new.scale *ℤ value target h ≡ combination new.weights (λ i. (generators_of q).form i h)

-- all numbers of the lift are within the limit
abbrev pub FitsLift : ProblemView → DependencesView → Terms → CertificateView → Type 0
FitsLift q d target w = LiftFits d.space.variables d.list (value target) (generators_of q) w

-- there are dependences, and a number of the lift passes the limit
abbrev pub IsLiftWide : ProblemView → DependencesView → Terms → CertificateView → Type 0
IsLiftWide q d target w = (d.list ≢ []) × (¬ (FitsLift q d target w))
