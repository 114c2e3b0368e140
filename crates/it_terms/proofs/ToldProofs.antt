-- A told proof proves.
use Rattle.std.proofs.Common.{◌≡◌, ℕ, ◌<◌, ◌^◌, ℤ, pos, neg_ℤ, ◌+ℤ◌, ◌*ℤ◌, ◌≤ℤ◌, Bool, true, false, if◌then◌else◌, bit_or, bit_and, List, [], ◌∷◌, ◌++◌, length, map, refl, sym, ap, ◌∙◌, subst, arith}
use Rattle.std.specs.Prelude.{All, flat_map}
use Rattle.std.proofs.lemmas.Int.{ints}
use Rattle.std.proofs.lemmas.List.Elements.{All-head, All-tail, All-append, All-get_or}
use Rattle.std.proofs.lemmas.Nat.{or_lt, and_le_l}
use Rattle.std.proofs.lemmas.Nat.Bits.{same_from_bits, bit_at_or, bit_at_and}
use Rattle.it_number.proofs.SignLemmas.{sum_least, product_least, least_by_multiple}
use Rattle.it_space.specs.Sets.{IsInside}
use Rattle.it_polymatroid.specs.Polymatroid.{IsPolymatroid}
use Rattle.it_polymatroid.specs.Certificates.{Form, Generators, IsAllowed, combination}
use Rattle.it_problems.specs.declared.problems.Kind.{Kind}
use Rattle.it_problems.specs.declared.problems.Kind.TheVariants.{Inequality, Equation}
use Rattle.it_problems.specs.Problems.{Meets}
use Rattle.it_syntax.specs.declared.types.Atom.{Atom}
use Rattle.it_syntax.specs.declared.types.Atom.TheVariants.{Nothing, Entropy, Mutual, Rate}
use Rattle.it_syntax.specs.declared.types.Term.{Term}
use Rattle.it_syntax.specs.Meaning.{atom_at, term_at, side_at, multiplicity, common_denominator}
use Rattle.it_syntax.specs.NamesViews.{NamesView}
use Rattle.it_elemental.specs.Generators.{is_equation}
use Rattle.it_demand.specs.Demands.{Demand, demand_of, demands, equation}
use Rattle.it_demand.proofs.MetLemmas.{IsSatisfied, givens_satisfied, rows_satisfied}
use Rattle.it_question.specs.OwnLines.{OwnLinesView}
use Rattle.it_question.specs.LineDemands.{line_demands}
use Rattle.it_question.specs.ProblemLines.{problem_names, problem_lines}
use Rattle.it_canon.specs.TrueLines.{AreTrueAt, variable_count}
use Rattle.it_canon.specs.QuestionDemands.{question_demands}
use Rattle.it_terms.specs.Proofs.{IsShannon, IsPlusShannon, TellsProof, ToldProves, constraints_of, demand_at}

pub weighted_least : (g : Generators) (v : ℕ → ℤ) → ((i : ℕ) → i < g.count → pos 0 ≤ℤ v i) → ((i : ℕ) → i < g.count → g.is_equation i ≡ true → v i ≡ pos 0)
    → (ws : List (ℕ × ℤ)) → All (IsAllowed g) ws → pos 0 ≤ℤ combination ws v
weighted_least g v least zeros [] a = omega (arith, ints)
weighted_least g v least zeros (w ∷ ws) a =
    let here : IsAllowed g w = All-head (IsAllowed g) w ws a in
    let rest : pos 0 ≤ℤ combination ws v = weighted_least g v least zeros ws (All-tail (IsAllowed g) w ws a) in
    sum_least (w.1 *ℤ v w.0) (combination ws v) (term w.1 (v w.0) (g.is_equation w.0) here.1 (least w.0 here.0) (zeros w.0 here.0)) rest
  where
    term : (x y : ℤ) (b : Bool) → (b ≡ false → pos 0 ≤ℤ x) → pos 0 ≤ℤ y → (b ≡ true → y ≡ pos 0) → pos 0 ≤ℤ (x *ℤ y)
    term x y true h k e = subst (λ (z : ℤ). pos 0 ≤ℤ (x *ℤ z)) (sym (e refl)) (omega (arith, ints))
    term x y false h k e = product_least x y (h refl) k

inside_right : (s t : ℕ) → IsInside t (bit_or s t)
inside_right s t = same_from_bits _ _ (λ i. let p = bit_at_and t (bit_or s t) i in let q = bit_at_or s t i in omega (arith, p, q))

inside_both : (a b c : ℕ) → IsInside c (bit_and (bit_or a c) (bit_or b c))
inside_both a b c = same_from_bits _ _ (λ i.
    let p = bit_at_and c (bit_and (bit_or a c) (bit_or b c)) i in
    let q = bit_at_and (bit_or a c) (bit_or b c) i in
    let r = bit_at_or a c i in let s = bit_at_or b c i in omega (arith, p, q, r, s))

both_or : (a b c : ℕ) → bit_or (bit_or a c) (bit_or b c) ≡ bit_or (bit_or a b) c
both_or a b c = same_from_bits _ _ (λ i.
    let p = bit_at_or (bit_or a c) (bit_or b c) i in let q = bit_at_or a c i in let r = bit_at_or b c i in
    let s = bit_at_or (bit_or a b) c i in let t = bit_at_or a b i in omega (arith, p, q, r, s, t))

meet_below : (n a b : ℕ) → a < 2 ^ n → bit_and a b < 2 ^ n
meet_below n a b h = let l = and_le_l a b in omega (arith, l, h)

-- an entropy or a mutual information of sets isn't negative at a polymatroid
atom_least : (n : ℕ) (p : ℕ → ℤ) (a : Atom) → IsPolymatroid n p → IsShannon n a → pos 0 ≤ℤ atom_at n p a
atom_least n p Nothing h s = omega (arith, ints)
atom_least n p (Rate r) h s = absurd s
atom_least n p (Entropy of given) h s = let r = h.rises given (bit_or of given) (or_lt n of given s.0 s.1) (inside_right of given) in omega (arith, ints, r)
atom_least n p (Mutual left right given) h s =
    let a = bit_or left given in let b = bit_or right given in
    let x = or_lt n left given s.0 s.2 in
    let m = h.submodular a b x (or_lt n right given s.1 s.2) in
    let low = h.rises given (bit_and a b) (meet_below n a b x) (inside_both left right given) in
    let u = ap p (both_or left right given) in omega (arith, ints, m, low, u)

pub terms_least : (n m : ℕ) (p : ℕ → ℤ) (ts : List Term) → IsPolymatroid n p → All (IsPlusShannon n) ts → pos 0 ≤ℤ side_at n p m ts
terms_least n m p [] h s = omega (arith, ints)
terms_least n m p (t ∷ ts) h s =
    let here : IsPlusShannon n t = All-head (IsPlusShannon n) t ts s in
    sum_least (term_at n p m t) (side_at n p m ts)
    (subst (λ (b : Bool). pos 0 ≤ℤ ((if b then neg_ℤ (pos (multiplicity m t)) else pos (multiplicity m t)) *ℤ atom_at n p t.atom)) (sym here.0)
    (product_least (pos (multiplicity m t)) (atom_at n p t.atom) (omega (arith, ints)) (atom_least n p t.atom h here.1)))
    (terms_least n m p ts h (All-tail (IsPlusShannon n) t ts s))

pub side-append : (n m : ℕ) (p : ℕ → ℤ) (xs ys : List Term) → side_at n p m (xs ++ ys) ≡ side_at n p m xs +ℤ side_at n p m ys
side-append n m p [] ys = let z = side_at n p m ys in omega (arith, ints)
side-append n m p (x ∷ xs) ys = let ih = side-append n m p xs ys in omega (arith, ints, ih)

-- the target of a told proof is at least 0 at each polymatroid that meets the constraints
proof_least : (v : NamesView) (target : Form) (g : Generators) (text : List ℕ) → TellsProof v target g text
    → (p : ℕ → ℤ) → IsPolymatroid (length v.variables) p
    → ((i : ℕ) → i < g.count → pos 0 ≤ℤ g.form i p) → ((i : ℕ) → i < g.count → g.is_equation i ≡ true → g.form i p ≡ pos 0) → pos 0 ≤ℤ target p
proof_least v target g text t p h least zeros =
    let n = length v.variables in
    let m = common_denominator t.relation in
    let s = t.proves in
    let a : pos 0 ≤ℤ side_at n p m s.shannon = terms_least n m p s.shannon h s.plus in
    let b : pos 0 ≤ℤ side_at n p m s.rest = subst (λ (x : ℤ). pos 0 ≤ℤ x) (sym (s.constraints_are p h.empty))
    (weighted_least g (λ i. g.form i p) least zeros s.weights s.allowed) in
    let c : s.scale *ℤ target p ≡ side_at n p m s.shannon +ℤ side_at n p m s.rest =
    sym (s.target_is p h.empty) ∙ t.is.identity p h.empty ∙ ap (λ (ts : List Term). side_at n p m ts) s.right ∙ side-append n m p s.shannon s.rest in
    least_by_multiple s.scale (target p) (let o = s.scale_from_one in omega (arith, ints, o))
    (subst (λ (x : ℤ). pos 0 ≤ℤ x) (sym c) (sum_least (side_at n p m s.shannon) (side_at n p m s.rest) a b))

-- what true lines demand is met
pub lines_satisfied : (n : ℕ) (own : OwnLinesView) (p : ℕ → ℤ) → AreTrueAt n p own → All (IsSatisfied p) (line_demands n own)
lines_satisfied n own p t = All-append (IsSatisfied p) (flat_map (demands n) own.givens) (map (demand_of n) own.rows)
    ((givens_satisfied n own.givens p).1 t.givens) ((rows_satisfied n own.rows p).1 t.rows)

-- one of them, by its number
pub demand_satisfied : (p : ℕ → ℤ) (ds : List Demand) (i : ℕ) → i < length ds → All (IsSatisfied p) ds → IsSatisfied p (demand_at ds i)
demand_satisfied p ds i within all = All-get_or (IsSatisfied p) ds i (equation (λ p. pos 0)) within all

pub met_least : (k : Kind) (x : ℤ) → Meets k x → pos 0 ≤ℤ x
met_least Inequality x h = h
met_least Equation x h = omega (arith, ints, h)

pub met_zero : (k : Kind) (x : ℤ) → is_equation k ≡ true → Meets k x → x ≡ pos 0
met_zero Inequality x e h = cc
met_zero Equation x e h = h

pub told_proves : ToldProves
told_proves q target text t p h =
    let ds : List Demand = question_demands q in
    let all = lines_satisfied (variable_count q) (problem_lines q) p h.1 in
    proof_least (problem_names q) target (constraints_of ds) text t p h.0
    (λ i within. met_least (demand_at ds i).kind ((demand_at ds i).form p) (demand_satisfied p ds i within all))
    (λ i within e. met_zero (demand_at ds i).kind ((demand_at ds i).form p) e (demand_satisfied p ds i within all))
