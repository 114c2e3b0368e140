-- From weights that add up over closed sets to weights that add up over all sets.
use Rattle.std.specs.Prelude.{◌≡◌, ℕ, zero, suc, ◌-◌, ◌^◌, ◌<◌, ◌≤◌, ℤ, pos, negsuc, neg_ℤ, ◌+ℤ◌, ◌-ℤ◌, ◌*ℤ◌, List, [], ◌∷◌, ◌++◌, length, map, filter, flat_map, Bool, nat_eq, bit_and, if◌then◌else◌, All}
use Rattle.it_space.specs.Answers.{CertificateView}
use Rattle.it_polymatroid.specs.Certificates.{Form, Generators, IsLinear, combination}
use Rattle.it_space.specs.Rows.{one_at}
use Rattle.it_polymatroid.specs.Elementals.{Elemental, elementals, elemental_at, elemental_value, span}
use Rattle.it_elemental.specs.Expansions.{members, mutual_expansion, conditional_expansion}
use Rattle.it_closure.specs.declared.dependences.Dependence.{Dependence}
use Rattle.it_closure.specs.Closures.{closure, way}
use Rattle.it_closure.specs.Collapse.{AreDependences, spread_out}
use Rattle.it_elemental.specs.Indexes.{elemental_index}

-- The excess at a set: the scale times the target's coefficient, less the weights times the generators' coefficients.
abbrev pub excess : CertificateView → Form → Generators → ℕ → ℤ
excess w target g s = w.scale *ℤ target (one_at s) -ℤ combination w.weights (λ i. g.form i (one_at s))

-- the nonempty sets that have the closure of the empty set
abbrev pub null_sets : ℕ → List Dependence → List ℕ
null_sets n ds = filter (λ s. nat_eq (closure n ds s) (closure n ds 0)) (span 1 (2 ^ n - 1))

-- the sum of a map over some sets
abbrev pub sum_over : (ℕ → ℤ) → List ℕ → ℤ
sum_over e [] = pos 0
sum_over e (s ∷ ss) = e s +ℤ sum_over e ss

-- the amounts e at nonempty sets, and at the empty set the negated sum of those at the sets with its closure
abbrev pub with_empty : ℕ → List Dependence → (ℕ → ℤ) → ℕ → ℤ
with_empty n ds e zero = neg_ℤ (sum_over e (null_sets n ds))
with_empty n ds e (suc s) = e (suc s)

-- the members of s that aren't in t
abbrev pub set_difference : ℕ → ℕ → ℕ
set_difference s t = s - bit_and t s

-- the amount x for the weight of each of some elemental inequalities
abbrev pub each_weight : ℕ → ℤ → List Elemental → List (ℕ × ℤ)
each_weight n x es = map (λ e. (elemental_index n e, x)) es

-- From a set A to its union with T, for a dependence of T on P in A: x times
-- `h(A) - h(A u T) = I(T-A;A-T|A^T) + H((A^T)-P|P) - (h(T) - h(P))`.
abbrev pub turn_moves : ℕ → ℤ → ℕ × Dependence → List (ℕ × ℤ)
turn_moves n x t =
    each_weight n x (mutual_expansion (members n (set_difference t.1.to t.0)) (members n (set_difference t.0 t.1.to)) (bit_and t.0 t.1.to))
    ++ each_weight n x (conditional_expansion n (members n (set_difference (bit_and t.0 t.1.to) t.1.from)) t.1.from)
    ++ (t.1.generator, if t.1.negated then x else neg_ℤ x) ∷ []

-- from a set to its closure: x times `h(S) - h(close S)`, where x is below 0 by `H(close S - S|S)`
abbrev pub moves_at : ℕ → List Dependence → ℕ → ℤ → List (ℕ × ℤ)
moves_at n ds s (negsuc k) = each_weight n (pos (suc k)) (conditional_expansion n (members n (set_difference (closure n ds s) s)) s)
moves_at n ds s (pos zero) = []
moves_at n ds s (pos (suc k)) = flat_map (turn_moves n (pos (suc k))) (way n ds s)

-- the amounts that are added to the weights for one set
abbrev pub moves_of : ℕ → List Dependence → (ℕ → ℤ) → ℕ → List (ℕ × ℤ)
moves_of n ds e s = moves_at n ds s (with_empty n ds e s)

-- all amounts that are added to the weights, by the sets' numbers
abbrev pub moves : ℕ → List Dependence → (ℕ → ℤ) → List (ℕ × ℤ)
moves n ds e = flat_map (moves_of n ds e) (span 0 (2 ^ n))

-- the weights over all sets: those over closed sets with all amounts added
abbrev pub lifted_weights : ℕ → List Dependence → Form → Generators → CertificateView → List (ℕ × ℤ)
lifted_weights n ds target g w = w.weights ++ moves n ds (excess w target g)

-- a value, or its negation
abbrev pub signed_value : Bool → ℤ → ℤ
signed_value negated x = if negated then neg_ℤ x else x

-- the generators are the elemental inequalities, then constraints, among them the equations of the dependences
pub record HaveDependences (n : ℕ) (ds : List Dependence) (g : Generators) : Type 0 where
  pub elemental : (i : ℕ) → i < length (elementals n) → (h : ℕ → ℤ) → h 0 ≡ pos 0 → g.form i h ≡ elemental_value n h (elemental_at n i)
  pub equation : All (λ d. (h : ℕ → ℤ) → h 0 ≡ pos 0 → g.form d.generator h ≡ signed_value d.negated (h d.to -ℤ h d.from)) ds

-- the weights add up over closed sets, at each coordinate
abbrev pub AddsUpOverClosed : ℕ → ℕ → List Dependence → Form → Generators → CertificateView → Type 0
AddsUpOverClosed size n ds target g w = (c : ℕ) → 0 < c → c < size
    → w.scale *ℤ target (spread_out n ds (one_at c)) ≡ combination w.weights (λ i. g.form i (spread_out n ds (one_at c)))

-- The lifted weights add up at every map.
abbrev pub LiftAddsUp : Type 0
LiftAddsUp = (size n : ℕ) (ds : List Dependence) (target : Form) (g : Generators) (w : CertificateView) → 2 ^ n ≤ size → AreDependences n ds → HaveDependences n ds g
    → IsLinear size target → ((i : ℕ) → i < g.count → IsLinear size (g.form i)) → All (λ p. p.0 < g.count) w.weights → AddsUpOverClosed size n ds target g w
    → (h : ℕ → ℤ) → h 0 ≡ pos 0 → w.scale *ℤ target h ≡ combination (lifted_weights n ds target g w) (λ i. g.form i h)
