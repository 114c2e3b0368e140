-- The verdict on a certificate and on a counterexample: the first fault, in a fixed order.
use Rattle.std.specs.Prelude.{ℕ, zero, suc, ◌+◌, ℤ, pos, List, [], ◌∷◌, length, Bool, not, ◌&&◌, nat_lt, int_lt, Option, Some, None, if◌then◌else◌}
use Rattle.std.specs.Option.{option_or}
use Rattle.std.specs.Ordering.{int_eq}
use Rattle.it_problems.specs.declared.problems.Kind.{Kind}
use Rattle.it_problems.specs.declared.problems.Kind.TheVariants.{Inequality, Equation}
use Rattle.it_space.specs.Answers.{CertificateView}
use Rattle.it_space.specs.Rows.{Terms, coefficient}
use Rattle.it_elemental.specs.Generators.{Generator, generator_at, is_equation}
use Rattle.it_check.specs.Sums.{product_within, sum_within}
use Rattle.it_check.specs.declared.verdicts.Verdict.{Verdict}
use Rattle.it_check.specs.declared.verdicts.Verdict.TheVariants.{Valid, BadScale, UnknownGenerator, NegativeWeight, Width, Mismatch, BrokenElemental, UnmetConstraint, NotViolated}

-- the fault, or `Valid` if there is none
abbrev pub valid_unless : Option Verdict → Verdict
valid_unless (Some v) = v
valid_unless None = Valid

-- ---- certificates

-- the fault of the scale: it is below 1
abbrev pub of_scale : ℤ → Option Verdict
of_scale scale = if int_lt scale (pos 1) then Some (BadScale scale) else None

-- the fault of a weight: no generator has its number, or it is negative for an inequality
abbrev pub of_weight : List Generator → ℕ × ℤ → Option Verdict
of_weight gs w =
    if nat_lt w.0 (length gs) then (if int_lt w.1 (pos 0) && not (is_equation (generator_at gs w.0).kind) then Some (NegativeWeight w.0) else None)
    else Some (UnknownGenerator w.0)

-- the first fault of a weight
unfoldable pub of_weights : List Generator → List (ℕ × ℤ) → Option Verdict
of_weights gs [] = None
of_weights gs (w ∷ ws) = option_or (of_weight gs w) (of_weights gs ws)

-- the generators' coefficients at a coordinate
abbrev pub column : List Generator → ℕ → ℕ → ℤ
column gs c i = coefficient (generator_at gs i).row c

-- the fault of the two sides at coordinate c: one of them is wide, or they differ
abbrev pub of_numbers : ℕ → Option ℤ → Option ℤ → Option Verdict
of_numbers c None right = Some (Width c)
of_numbers c (Some left) None = Some (Width c)
of_numbers c (Some left) (Some right) = if int_eq left right then None else Some (Mismatch c left right)

-- the fault at coordinate c: on the left is the scale times the target's coefficient, on the right the sum of weights times coefficients
abbrev pub of_coordinate : List Generator → Terms → CertificateView → ℕ → Option Verdict
of_coordinate gs target w c = of_numbers c (product_within w.scale (coefficient target c)) (sum_within (pos 0) w.weights (column gs c))

-- the first fault at left coordinates from coordinate c on
unfoldable pub of_coordinates : List Generator → Terms → CertificateView → ℕ → ℕ → Option Verdict
of_coordinates gs target w c zero = None
of_coordinates gs target w c (suc left) = option_or (of_coordinate gs target w c) (of_coordinates gs target w (c + 1) left)

-- the verdict on a certificate: by the scale, then each weight in order, then each coordinate
unfoldable pub yes_verdict : List Generator → ℕ → Terms → CertificateView → Verdict
yes_verdict gs size target w = valid_unless (option_or (of_scale w.scale) (option_or (of_weights gs w.weights) (of_coordinates gs target w 1 size)))

-- ---- points that meet a problem, and counterexamples

-- whether a value violates an inequality or an equation
abbrev pub violates : Kind → ℤ → Bool
violates Inequality x = int_lt x (pos 0)
violates Equation x = not (int_eq x (pos 0))

-- the verdict that generator i with value x is violated; the first `count` generators are the elemental inequalities
abbrev pub violation : ℕ → ℕ → ℤ → Verdict
violation count i x = if nat_lt i count then BrokenElemental i x else UnmetConstraint i x

-- the fault at generator i: its value is wide, or violates its kind
abbrev pub of_value : ℕ → ℕ → Kind → Option ℤ → Option Verdict
of_value count i kind None = Some (Width i)
of_value count i kind (Some x) = if violates kind x then Some (violation count i x) else None

-- the first fault of a point at generators from number i on
unfoldable pub of_generators : ℕ → ℕ → List Generator → (ℕ → ℤ) → Option Verdict
of_generators count i [] p = None
of_generators count i (g ∷ gs) p = option_or (of_value count i g.kind (sum_within (pos 0) g.row p)) (of_generators count (i + 1) gs p)

-- the verdict on a point that should meet a problem: by each generator in order
unfoldable pub met_verdict : ℕ → List Generator → (ℕ → ℤ) → Verdict
met_verdict count gs p = valid_unless (of_generators count 0 gs p)

-- the fault at the target: its value is wide, or above -1
abbrev pub of_target : ℕ → Option ℤ → Option Verdict
of_target place None = Some (Width place)
of_target place (Some x) = if int_lt x (pos 0) then None else Some (NotViolated x)

-- the verdict on a counterexample: by each generator in order, then the target
unfoldable pub no_verdict : ℕ → List Generator → Terms → (ℕ → ℤ) → Verdict
no_verdict count gs target p = valid_unless (option_or (of_generators count 0 gs p) (of_target (length gs) (sum_within (pos 0) target p)))
