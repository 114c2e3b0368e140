-- The numbers of a lift that must be within the limit.
use Rattle.std.specs.Prelude.{ℕ, ◌+◌, ◌^◌, ◌<◌, ◌≤◌, ℤ, pos, ◌+ℤ◌, ◌-ℤ◌, ◌*ℤ◌, List, [], ◌∷◌, length, ◌↔◌}
use Rattle.it_number.specs.Limit.{IsWithin}
use Rattle.it_space.specs.Answers.{CertificateView}
use Rattle.it_space.specs.Rows.{coefficient, one_at}
use Rattle.it_space.specs.Sums.{plus_at}
use Rattle.it_polymatroid.specs.Certificates.{Form, Generators}
use Rattle.it_polymatroid.specs.Elementals.{elementals}
use Rattle.it_closure.specs.declared.dependences.Dependence.{Dependence}
use Rattle.it_lift.specs.Lifts.{excess, null_sets, moves, lifted_weights}
use Rattle.it_closure.specs.Collapse.{AreDependences}

-- each product and each partial result is within the limit, as the products are subtracted one after the other
abbrev pub FallFits : ℤ → List (ℕ × ℤ) → (ℕ → ℤ) → Type 0
FallFits sum [] f = Unit {0}
FallFits sum (w ∷ ws) f = IsWithin (w.1 *ℤ f w.0) × IsWithin (sum -ℤ w.1 *ℤ f w.0) × FallFits (sum -ℤ w.1 *ℤ f w.0) ws f

-- the numbers that the excess at a nonempty set is formed from are within the limit
abbrev pub ExcessFits : CertificateView → Form → Generators → ℕ → Type 0
ExcessFits w target g s = IsWithin (w.scale *ℤ target (one_at s)) × FallFits (w.scale *ℤ target (one_at s)) w.weights (λ i. g.form i (one_at s))

-- each partial sum over some sets, starting with an earlier sum, is within the limit
abbrev pub PartialSumsFit : ℤ → (ℕ → ℤ) → List ℕ → Type 0
PartialSumsFit sum e [] = Unit {0}
PartialSumsFit sum e (s ∷ ss) = IsWithin (sum +ℤ e s) × PartialSumsFit (sum +ℤ e s) e ss

-- the numbers that are formed before any weight changes are within the limit
pub record EmptyFits (n : ℕ) (ds : List Dependence) (target : Form) (g : Generators) (w : CertificateView) : Type 0 where
  pub excesses : (s : ℕ) → 0 < s → s < 2 ^ n → ExcessFits w target g s
  pub empty : PartialSumsFit (pos 0) (excess w target g) (null_sets n ds)

-- all numbers of a lift are within the limit
pub record LiftFits (n : ℕ) (ds : List Dependence) (target : Form) (g : Generators) (w : CertificateView) : Type 0 where
  pub before : EmptyFits n ds target g w
  pub weights : (i : ℕ) → IsWithin (coefficient (lifted_weights n ds target g w) i)

-- each weight is within the limit while amounts are added, one after the other
abbrev pub WeightSumsFit : (ℕ → ℤ) → List (ℕ × ℤ) → Type 0
WeightSumsFit f [] = Unit {0}
WeightSumsFit f (m ∷ ms) = IsWithin (f m.0 +ℤ m.1) × WeightSumsFit (plus_at f m) ms

-- the generators ascend, from at least `from` on
abbrev pub GeneratorsAscend : ℕ → List Dependence → Type 0
GeneratorsAscend from [] = Unit {0}
GeneratorsAscend from (d ∷ ds) = (from ≤ d.generator) × GeneratorsAscend (d.generator + 1) ds

-- the equations of the dependences come after the elemental inequalities, in order
abbrev pub AreNumbered : ℕ → List Dependence → Type 0
AreNumbered n ds = GeneratorsAscend (length (elementals n)) ds

-- All amounts of one weight have one sign, so its partial sums are within the limit exactly where their end is.
abbrev pub WeightSumsFitAsEnd : Type 0
WeightSumsFitAsEnd = (n : ℕ) (ds : List Dependence) (target : Form) (g : Generators) (w : CertificateView) → AreDependences n ds → AreNumbered n ds → ((i : ℕ) → IsWithin (coefficient w.weights i))
    → WeightSumsFit (coefficient w.weights) (moves n ds (excess w target g)) ↔ ((i : ℕ) → IsWithin (coefficient (lifted_weights n ds target g w) i))
