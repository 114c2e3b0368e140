-- The forms of a question's lines are values of few terms with small coefficients, so that they have their canonical rows.
use Rattle.std.proofs.Common.{◌≡◌, ℕ, ◌+◌, ◌-◌, ◌*◌, ◌/◌, ◌<◌, ◌≤◌, ◌^◌, bit_or, ℤ, pos, neg_ℤ, ◌+ℤ◌, ◌-ℤ◌, ◌*ℤ◌, unsigned_abs, Bool, true, false, cond, List, [], ◌∷◌, map, length, refl, arith}
use Rattle.std.specs.List.{AllByRecursion as Every, flat_map}
use Rattle.std.proofs.Math.Nat.{div-le_self, mul-le-mul_left}
use Rattle.std.proofs.lemmas.Int.{ints}
use Rattle.std.proofs.lemmas.Nat.{or_lt, pow_pos}
use Rattle.it_number.proofs.Integers.{zring}
use Rattle.it_space.specs.Bounds.{most_mass}
use Rattle.it_space.proofs.EveryLemmas.{every_of, every-append}
use Rattle.it_polymatroid.specs.Certificates.{Form}
use Rattle.it_syntax.specs.declared.types.Atom.{Atom}
use Rattle.it_syntax.specs.declared.types.Atom.TheVariants.{Nothing, Entropy, Mutual, Rate}
use Rattle.it_syntax.specs.declared.types.Sign.{Sign}
use Rattle.it_syntax.specs.declared.types.Sign.TheVariants.{AtLeast, AtMost, Equal}
use Rattle.it_syntax.specs.declared.types.Term.{Term}
use Rattle.it_syntax.specs.Givens.{GivenView, Relation, Markov, Independent, Function, IsRelationOf, IsGivenOf, AreSetsOf, links, links_from, sum_of_conditionals, union_of}
use Rattle.it_syntax.specs.Meaning.{RelationView, IsAtomOf, common_denominator, multiplicity, atom_at, side_at, difference_at}
use Rattle.it_question.specs.OwnLines.{OwnLinesView}
use Rattle.it_question.proofs.NumberLemmas.{HasSmallNumbers, GivenHasSmallNumbers, LinesHaveSmallNumbers}
use Rattle.it_demand.specs.Canonical.{form_of, signed_difference}
use Rattle.it_demand.specs.Demands.{Demand, demand_of, demands, equations, independence_form, kind_of}
use Rattle.it_question.specs.LineDemands.{line_demands}
use Rattle.it_demand.specs.Targets.{negation, targets, inequalities_of}
use Rattle.it_demand.proofs.ChainLemmas.{union_below}
use Rattle.it_demand.proofs.LimitLemmas.{more_rates}
use Rattle.it_canon.specs.Sides.{left_form, right_form}
use Rattle.it_canon.proofs.SmallForms.{IsFormUpTo, form_zero, form-add, form-negation, form_same}

-- ---- one atom

module _ (n m : ℕ) where
  abbrev last_coordinate : ℕ
  last_coordinate = 2 ^ n - 1 + m

  set_within : (s : ℕ) → s < 2 ^ n → s ≤ last_coordinate
  set_within s h = omega (arith, h)

  -- x times the value of an atom
  atom_up_to : (x : ℤ) (a : Atom) → IsAtomOf n m a → IsFormUpTo last_coordinate (4 * unsigned_abs x) (λ p. x *ℤ atom_at n p a)
  atom_up_to x Nothing h = record { terms = []; same = λ p. times_zero x; coordinates = tt; small = omega arith }
    where
      times_zero : (x : ℤ) → pos 0 ≡ x *ℤ pos 0
      times_zero x = omega (arith, ints)
  atom_up_to x (Entropy of given) h = record {
    terms = (bit_or of given, x) ∷ (given, neg_ℤ x) ∷ [];
    same = λ p. entropy_times x (p (bit_or of given)) (p given);
    coordinates = (set_within (bit_or of given) (or_lt n of given h.0 h.1), (set_within given h.1, tt));
    small = room x;
  }
    where
      entropy_times : (x y z : ℤ) → x *ℤ y +ℤ (neg_ℤ x *ℤ z +ℤ pos 0) ≡ x *ℤ (y -ℤ z)
      entropy_times x y z = omega (arith, zring)

      room : (x : ℤ) → unsigned_abs x + (unsigned_abs (neg_ℤ x) + 0) ≤ 4 * unsigned_abs x
      room x = omega (arith, ints)
  atom_up_to x (Mutual left right given) h = record {
    terms = (bit_or left given, x) ∷ (bit_or right given, x) ∷ (bit_or (bit_or left right) given, neg_ℤ x) ∷ (given, neg_ℤ x) ∷ [];
    same = λ p. mutual_times x (p (bit_or left given)) (p (bit_or right given)) (p (bit_or (bit_or left right) given)) (p given);
    coordinates = (
      set_within (bit_or left given) (or_lt n left given h.0 h.2),
      (
        set_within (bit_or right given) (or_lt n right given h.1 h.2),
        (set_within (bit_or (bit_or left right) given) (or_lt n (bit_or left right) given (or_lt n left right h.0 h.1) h.2), (set_within given h.2, tt)),
      ),
    );
    small = room x;
  }
    where
      mutual_times : (x a b c d : ℤ) → x *ℤ a +ℤ (x *ℤ b +ℤ (neg_ℤ x *ℤ c +ℤ (neg_ℤ x *ℤ d +ℤ pos 0))) ≡ x *ℤ ((a +ℤ b) -ℤ (c +ℤ d))
      mutual_times x a b c d = omega (arith, zring)

      room : (x : ℤ) → unsigned_abs x + (unsigned_abs x + (unsigned_abs (neg_ℤ x) + (unsigned_abs (neg_ℤ x) + 0))) ≤ 4 * unsigned_abs x
      room x = omega (arith, ints)
  atom_up_to x (Rate r) h = record {
    terms = (2 ^ n + r, x) ∷ [];
    same = λ p. rate_times x (p (2 ^ n + r));
    coordinates = (omega (arith, h, pow_pos n), tt);
    small = omega arith;
  }
    where
      rate_times : (x y : ℤ) → x *ℤ y +ℤ pos 0 ≡ x *ℤ y
      rate_times x y = omega (arith, zring)

  -- the value of an atom
  once_up_to : (a : Atom) → IsAtomOf n m a → IsFormUpTo last_coordinate 4 (λ p. atom_at n p a)
  once_up_to a h = form_same last_coordinate (4 * unsigned_abs (pos 1)) 4 (λ p. pos 1 *ℤ atom_at n p a) (λ p. atom_at n p a)
      (omega (arith, ints)) (λ p. times_one (atom_at n p a)) (atom_up_to (pos 1) a h)
    where
      times_one : (y : ℤ) → pos 1 *ℤ y ≡ y
      times_one y = omega (arith, ints)

  -- ---- relations

  signed-small : (b : Bool) (k : ℕ) → k < 2 ^ 96 → 4 * unsigned_abs (cond b (neg_ℤ (pos k)) (pos k)) ≤ 2 ^ 98
  signed-small true k h = omega (arith, ints, h)
  signed-small false k h = omega (arith, ints, h)

  times-small : (k m d : ℕ) → k < 2 ^ 64 → m ≤ 2 ^ 32 → k * (m / d) < 2 ^ 96
  times-small k m d h l =
      let parts : m / d ≤ 2 ^ 32 = omega (arith, div-le_self m d, l) in
      omega (arith, mul-le-mul_left k parts, h)

  side_up_to : (k : ℕ) → k ≤ 2 ^ 32 → (ts : List Term) → Every (λ (t : Term). IsAtomOf n m t.atom) ts
      → Every (λ (t : Term). t.number < 2 ^ 64) ts → IsFormUpTo last_coordinate (length ts * 2 ^ 98) (λ p. side_at n p k ts)
  side_up_to k l [] a b = form_same last_coordinate 0 (0 * 2 ^ 98) (λ p. pos 0) (λ p. pos 0) (omega arith) (λ p. refl) (form_zero last_coordinate)
  side_up_to k l (t ∷ ts) a b =
      let times : ℕ = multiplicity k t in
      let x : ℤ = cond t.negative (neg_ℤ (pos times)) (pos times) in
      form_same last_coordinate (4 * unsigned_abs x + length ts * 2 ^ 98) (length (t ∷ ts) * 2 ^ 98)
      (λ p. x *ℤ atom_at n p t.atom +ℤ side_at n p k ts) (λ p. side_at n p k (t ∷ ts))
      (omega (arith, signed-small t.negative times (times-small t.number k t.denominator b.0 l))) (λ p. refl)
      (form-add last_coordinate (4 * unsigned_abs x) (length ts * 2 ^ 98) (λ p. x *ℤ atom_at n p t.atom) (λ p. side_at n p k ts)
      (atom_up_to x t.atom a.0) (side_up_to k l ts a.1 b.1))

  plus_negation : (x y : ℤ) → x +ℤ neg_ℤ y ≡ x -ℤ y
  plus_negation x y = omega (arith, ints)

  difference_up_to : (r : RelationView) → IsRelationOf n m r → HasSmallNumbers r → IsFormUpTo last_coordinate most_mass (λ p. difference_at n p r)
  difference_up_to r h k =
      let both = common_denominator r in
      form_same last_coordinate (length r.left * 2 ^ 98 + length r.right * 2 ^ 98) most_mass
      (λ p. side_at n p both r.left +ℤ neg_ℤ (side_at n p both r.right)) (λ p. difference_at n p r) (omega (arith, h.few))
      (λ p. plus_negation (side_at n p both r.left) (side_at n p both r.right))
      (form-add last_coordinate (length r.left * 2 ^ 98) (length r.right * 2 ^ 98) (λ p. side_at n p both r.left) (negation (λ p. side_at n p both r.right))
      (side_up_to both h.small_multiple r.left (every_of (λ (t : Term). IsAtomOf n m t.atom) r.left h.left) k.0)
      (form-negation last_coordinate (length r.right * 2 ^ 98) (λ p. side_at n p both r.right)
      (side_up_to both h.small_multiple r.right (every_of (λ (t : Term). IsAtomOf n m t.atom) r.right h.right) k.1)))

  -- each side alone
  pub sides_up_to : (r : RelationView) → IsRelationOf n m r → HasSmallNumbers r
      → IsFormUpTo last_coordinate most_mass (left_form n r) × IsFormUpTo last_coordinate most_mass (right_form n r)
  sides_up_to r h k =
      let both = common_denominator r in (
        form_same last_coordinate (length r.left * 2 ^ 98) most_mass (left_form n r) (left_form n r) (omega (arith, h.few)) (λ p. refl)
            (side_up_to both h.small_multiple r.left (every_of (λ (t : Term). IsAtomOf n m t.atom) r.left h.left) k.0),
        form_same last_coordinate (length r.right * 2 ^ 98) most_mass (right_form n r) (right_form n r) (omega (arith, h.few)) (λ p. refl)
            (side_up_to both h.small_multiple r.right (every_of (λ (t : Term). IsAtomOf n m t.atom) r.right h.right) k.1),
      )

  relation_up_to : (r : RelationView) → IsRelationOf n m r → HasSmallNumbers r → IsFormUpTo last_coordinate most_mass (form_of n r)
  relation_up_to r h k = by_sign r.sign (difference_up_to r h k)
    where
      by_sign : (sign : Sign) → IsFormUpTo last_coordinate most_mass (λ p. difference_at n p r)
          → IsFormUpTo last_coordinate most_mass (λ p. signed_difference sign (difference_at n p r))
      by_sign AtLeast x = x
      by_sign AtMost x = form-negation last_coordinate most_mass (λ p. difference_at n p r) x
      by_sign Equal x = x

  -- and so of its targets
  pub targets_up_to : (r : RelationView) → IsRelationOf n m r → HasSmallNumbers r → Every (IsFormUpTo last_coordinate most_mass) (targets n r)
  targets_up_to r h k = by_sign r.sign (form_of n r) (relation_up_to r h k)
    where
      by_sign : (sign : Sign) (f : Form) → IsFormUpTo last_coordinate most_mass f
          → Every (IsFormUpTo last_coordinate most_mass) (inequalities_of (kind_of sign) f)
      by_sign AtLeast f x = (x, tt)
      by_sign AtMost f x = (x, tt)
      by_sign Equal f x = (x, (form-negation last_coordinate most_mass f x, tt))

  -- ---- givens

  abbrev pub AreDemandsUpTo : List Demand → Type 0
  AreDemandsUpTo ds = Every (λ (d : Demand). IsFormUpTo last_coordinate most_mass d.form) ds

  links_up_to : (past : ℕ) (sets : List ℕ) → past < 2 ^ n → Every (λ (s : ℕ). s < 2 ^ n) sets → AreDemandsUpTo (equations n (links_from past sets))
  links_up_to past [] h a = tt
  links_up_to past (here ∷ []) h a = tt
  links_up_to past (here ∷ next ∷ sets) h a = (
    form_same last_coordinate 4 most_mass (λ p. atom_at n p (Mutual past next here)) (λ p. atom_at n p (Mutual past next here))
        (omega arith) (λ p. refl) (once_up_to (Mutual past next here) (h, a.1.0, a.0)),
    links_up_to (bit_or past here) (next ∷ sets) (or_lt n past here h a.0) a.1,
  )

  chain_up_to : (sets : List ℕ) → Every (λ (s : ℕ). s < 2 ^ n) sets → AreDemandsUpTo (equations n (links sets))
  chain_up_to [] a = tt
  chain_up_to (first ∷ sets) a = links_up_to first sets a.0 a.1

  sum_up_to : (members : List ℕ) (given : ℕ) → given < 2 ^ n → Every (λ (s : ℕ). s < 2 ^ n) members
      → IsFormUpTo last_coordinate (length members * 4) (λ p. sum_of_conditionals n p members given)
  sum_up_to [] given h a = form_same last_coordinate 0 (0 * 4) (λ p. pos 0) (λ p. pos 0) (omega arith) (λ p. refl) (form_zero last_coordinate)
  sum_up_to (x ∷ xs) given h a = form_same last_coordinate (4 + length xs * 4) (length (x ∷ xs) * 4)
      (λ p. atom_at n p (Entropy x given) +ℤ sum_of_conditionals n p xs given) (λ p. sum_of_conditionals n p (x ∷ xs) given) (omega arith)
      (λ p. refl)
      (form-add last_coordinate 4 (length xs * 4) (λ p. atom_at n p (Entropy x given)) (λ p. sum_of_conditionals n p xs given)
      (once_up_to (Entropy x given) (a.0, h)) (sum_up_to xs given h a.1))

  independence_up_to : (members : List ℕ) (given : ℕ) → AreSetsOf n 2 16 members → given < 2 ^ n
      → IsFormUpTo last_coordinate most_mass (independence_form n members given)
  independence_up_to members given h k =
      let all = every_of (λ (s : ℕ). s < 2 ^ n) members h.within in
      let joint : Atom = Entropy (union_of members) given in
      form_same last_coordinate (length members * 4 + 4) most_mass (λ p. sum_of_conditionals n p members given +ℤ neg_ℤ (atom_at n p joint))
      (independence_form n members given) (omega (arith, h.few)) (λ p. plus_negation (sum_of_conditionals n p members given)
      (atom_at n p joint))
      (form-add last_coordinate (length members * 4) 4 (λ p. sum_of_conditionals n p members given) (negation (λ p. atom_at n p joint))
      (sum_up_to members given k all)
      (form-negation last_coordinate 4 (λ p. atom_at n p joint) (once_up_to joint (union_below n members h.within, k))))

  given_up_to : (g : GivenView) → IsGivenOf n g → GivenHasSmallNumbers g → AreDemandsUpTo (demands n g)
  given_up_to (Relation r) h k = (relation_up_to r (more_rates n m r h) k, tt)
  given_up_to (Markov sets) h k = chain_up_to sets (every_of (λ (s : ℕ). s < 2 ^ n) sets h.within)
  given_up_to (Independent members given) h k = (independence_up_to members given h.0 h.1, tt)
  given_up_to (Function value argument) h k = (
    form_same last_coordinate 4 most_mass (λ p. atom_at n p (Entropy value argument))
        (λ p. atom_at n p (Entropy value argument)) (omega arith) (λ p. refl) (once_up_to (Entropy value argument) h),
    tt,
  )

  -- ---- lines

  pub given_lines_up_to : (gs : List GivenView) → Every (IsGivenOf n) gs → Every GivenHasSmallNumbers gs → AreDemandsUpTo (flat_map (demands n) gs)
  given_lines_up_to [] h k = tt
  given_lines_up_to (g ∷ gs) h k = every-append (λ (d : Demand). IsFormUpTo last_coordinate most_mass d.form) (demands n g)
      (flat_map (demands n) gs) (given_up_to g h.0 k.0) (given_lines_up_to gs h.1 k.1)

  pub row_lines_up_to : (rs : List RelationView) → Every (IsRelationOf n m) rs → Every HasSmallNumbers rs → AreDemandsUpTo (map (demand_of n) rs)
  row_lines_up_to [] h k = tt
  row_lines_up_to (r ∷ rs) h k = (relation_up_to r h.0 k.0, row_lines_up_to rs h.1 k.1)

  pub lines_up_to : (own : OwnLinesView) → Every (IsGivenOf n) own.givens → Every (IsRelationOf n m) own.rows → LinesHaveSmallNumbers own
      → AreDemandsUpTo (line_demands n own)
  lines_up_to own givens rows small = every-append (λ (d : Demand). IsFormUpTo last_coordinate most_mass d.form)
      (flat_map (demands n) own.givens) (map (demand_of n) own.rows)
      (given_lines_up_to own.givens givens small.0) (row_lines_up_to own.rows rows small.1)
