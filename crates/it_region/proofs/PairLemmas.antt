-- The pair of a question's regions keeps the limits.
use Rattle.std.proofs.Common.{◌≡◌, ℕ, ◌+◌, ◌<◌, ◌^◌, List, length, length-append, sym, ap, subst, subst₂, ◌∙◌, arith, All, take, Result, Ok, Err, IfOk, ◌↔◌, true, nat_lt, rules}
use Rattle.std.specs.List.{list_all}
use Rattle.std.proofs.lemmas.List.Elements.{All-weaker}
use Rattle.std.proofs.lemmas.List.Sums.{AllPass-from_list_all, list_all-from_AllPass}
use Rattle.it_space.specs.declared.spaces.Space.{Space}
use Rattle.it_problems.specs.declared.problems.Constraint.{Constraint}
use Rattle.it_problems.specs.Problems.{IsProblem}
use Rattle.it_space.specs.Rows.{Terms, IsOver, row_mass}
use Rattle.it_space.specs.Spaces.{size_of}
use Rattle.it_question.specs.Limits.{IsQuestion, IsVerbOver, IsRegionOf}
use Rattle.it_question.specs.OwnLines.{RegionView}
use Rattle.it_question.specs.Questions.{VerbView, Prove, Eliminate, Contain, BodyView}
use Rattle.it_space.specs.Bounds.{IsSmall}
use Rattle.it_demand.specs.Demands.{Demand}
use Rattle.it_demand.specs.Origins.{States, AreStated}
use Rattle.it_demand.specs.QuestionSpaces.{space_of}
use Rattle.it_demand.proofs.ZipLemmas.{zip-right}
use Rattle.it_region.specs.declared.types.Pair.{Pair}
use Rattle.it_question.specs.LineDemands.{line_demands}
use Rattle.it_question.specs.ProblemLines.{names_under}
use Rattle.it_question.specs.LineOrigins.{origins_from}
use Rattle.it_canon.specs.QuestionDemands.{IsProblemOf}
use Rattle.it_problems.specs.declared.problems.Origin.{Origin}
use Rattle.it_region.specs.Pairs.{IsPair, IsPairOf, PairsBy, Pairs, FitsPair, candidate_sets, own_origins}
use Rattle.it_region.specs.PairSteps.{AreSetsFor}
use Rattle.it_region.specs.declared.types.Candidate.{Candidate}
use Rattle.it_region.proofs.PullingLemmas.{sets_within, length-sets}
use Rattle.std.proofs.lemmas.List.{length-take-le}

-- a row from a question file has room to be added up in one place
small_mass : (ts : Terms) → IsSmall ts → row_mass ts < 2 ^ 127
small_mass ts k = omega (arith, k)

pub stated_small : (s : Space) (places : List Origin) (ds : List Demand) (cs : List Constraint) → AreStated s places ds cs
    → All (λ c. row_mass c.row < 2 ^ 127) cs
stated_small s places ds cs a = zip-right (States s) (λ c. row_mass c.row < 2 ^ 127) (λ d c t. small_mass c.row t.row.small) ds cs a.stated

pub stated_rows : (s : Space) (places : List Origin) (ds : List Demand) (cs : List Constraint) → AreStated s places ds cs
    → All (λ c. IsOver (size_of s) c.row) cs
stated_rows s places ds cs a = zip-right (States s) (λ c. IsOver (size_of s) c.row) (λ d c t. t.row.coordinates) ds cs a.stated

pub region_wider : (q : BodyView) (r : RegionView) → IsRegionOf q.names r → length r.names.variables ≡ length q.names.variables + r.auxiliaries
region_wider q r k = omega (arith, ap length k.variables, length-append q.names.variables k.own, k.counted)

pair_limits : (q : BodyView) (a b : RegionView) (p : Pair) → IsQuestion q → IsRegionOf q.names a → IsRegionOf q.names b → IsProblem p.first
    → IsPairOf q a b p → IsPair p
pair_limits q a b p k l r problem o =
    let front : p.first.space ≡ space_of a.names = o.first_space in
    let n : p.first.space.variables ≡ length a.names.variables = ap (λ (s : Space). s.variables) front in
    let m : p.space.variables ≡ length b.names.variables = ap (λ (s : Space). s.variables) o.second_space in
    let wide = region_wider q b r in
    record {
      problem = problem;
      few = omega (arith, n, l.few_variables);
      space = record {
        some = omega (arith, m, wide, k.some);
        few = omega (arith, m, r.few_variables);
        few_rates = omega (arith, ap (λ (s : Space). s.rates) o.second_space, ap length r.rates, k.few_rates);
      };
      rows = stated_rows p.space (own_origins q b) (line_demands (length b.names.variables) b.lines) p.own.items o.own;
      small = stated_small p.space (own_origins q b) (line_demands (length b.names.variables) b.lines) p.own.items o.own;
      few_parts = omega (arith, o.parts, r.counted, r.few);
      variables = omega (arith, o.common, o.parts, m, wide);
      common_first = omega (arith, o.common, n, region_wider q a l);
      rates = ap (λ (s : Space). s.rates) o.second_space ∙ ap length r.rates ∙ sym (ap length l.rates) ∙ sym (ap (λ (s : Space). s.rates) front);
    }

limits_by : (q : BodyView) (m : VerbView) (p : Pair) → IsQuestion q → IsVerbOver q.names m → IsProblem p.first → PairsBy q m p → IsPair p
limits_by q (Prove r) p k a problem o = absurd o
limits_by q (Eliminate rates) p k a problem o = absurd o
limits_by q (Contain a b tries) p k l problem o = pair_limits q a b p k l.0 l.1 problem o

pub limits_of : {E : Type 0} (q : BodyView) (r : Result Pair E) → IsQuestion q → IfOk r (Pairs q) → IfOk r (λ p. IsProblem p.first) → IfOk r IsPair
limits_of q (Err e) k a b = tt
limits_of q (Ok p) k a b = limits_by q q.verb p k k.verb b a

-- what the variables stand for
pub sets_for : (p : Pair) (c : Candidate) (sets : List ℕ) → sets ≡ candidate_sets p c → IsPair p → FitsPair p c → AreSetsFor p sets
sets_for p c sets e k f = record {
  complete = ap length e ∙ length-sets p.common (take c.count c.parts)
      ∙ ap (λ n. p.common + n) (length-take-le c.count c.parts (omega (arith, f.complete, f.count, k.few_parts)) ∙ f.count) ∙ k.variables;
  within = subst (All (λ s. s < 2 ^ p.first.space.variables)) (sym e) (sets_within p.first.space.variables p.common
      (take c.count c.parts) k.common_first f.within);
}

-- ---- parts

pub all_below : (k : ℕ) (xs : List ℕ) → list_all (λ s. nat_lt s k) xs ≡ true ↔ All (λ s. s < k) xs
all_below k xs = (
  λ e. All-weaker (λ s. nat_lt s k ≡ true) (λ s. s < k) (λ s e. search (rules, e)) xs (AllPass-from_list_all (λ s. nat_lt s k) xs e),
  λ a. list_all-from_AllPass (λ s. nat_lt s k) xs (All-weaker (λ s. s < k) (λ s. nat_lt s k ≡ true) (λ s l. search (rules, l)) xs a),
)

-- the pair of a verb's two regions
pub pair_of_verb : (q : BodyView) (first second : RegionView) (tries : List (List ℕ)) (p : Pair) → q.verb ≡ Contain first second tries
    → Pairs q p → IsPairOf q first second p
pair_of_verb q first second tries p is h = subst (λ (m : VerbView). PairsBy q m p) is h

-- what problem and second region's own constraints make a pair of a question's regions
pub pair_by : (q : BodyView) (a b : RegionView) (tries : List (List ℕ)) (p : Pair) (given row : ℕ) → q.verb ≡ Contain a b tries
    → IsProblemOf q p.first → p.space ≡ space_of b.names
    → given ≡ 1 + length q.lines.givens → row ≡ 1 + length q.lines.rows
    → AreStated p.space (origins_from p.space.variables given row b.lines) (line_demands p.space.variables b.lines) p.own.items
    → p.common ≡ length q.names.variables → p.parts ≡ b.auxiliaries → Pairs q p
pair_by q a b tries p given row is posed second e f own common parts = subst (λ (v : VerbView). PairsBy q v p) (sym is) (record {
  first_space = posed.space ∙ ap (λ (v : VerbView). space_of (names_under q.names v)) is;
  first = posed.constraints;
  second_space = second;
  own = subst₂ (λ (g r : ℕ). AreStated p.space (origins_from (length b.names.variables) g r b.lines)
      (line_demands (length b.names.variables) b.lines) p.own.items) e f
      (subst (λ (n : ℕ). AreStated p.space (origins_from n given row b.lines) (line_demands n b.lines) p.own.items)
      (ap (λ (s : Space). s.variables) second) own);
  common = common;
  parts = parts;
})
