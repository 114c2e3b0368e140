-- Rows that are told where functions hold.
use Rattle.std.proofs.Common.{◌≡◌, ◌≢◌, ◌↔◌, ℕ, zero, suc, ◌+◌, ◌<◌, ℤ, pos, ◌≤ℤ◌, true, List, [], ◌∷◌, ◌++◌, length, map, get_or, All, Option, None, Some, IfSome, sym, ap, ◌∙◌, subst, arith}
use Rattle.std.proofs.Math.Path.{fun_ext}
use Rattle.std.proofs.lemmas.List.{get_or_append_left, length-map}
use Rattle.std.proofs.lemmas.List.Elements.{All-cons, All-contains, All-head, All-nil, All-tail, All-weaker}
use Rattle.std.specs.List.{AllZip}
use Rattle.it_space.specs.declared.spaces.Space.{Space}
use Rattle.it_problems.specs.declared.problems.Constraint.{Constraint}
use Rattle.it_problems.specs.declared.problems.Kind.TheVariants.{Equation}
use Rattle.it_problems.specs.declared.problems.Origin.{Origin}
use Rattle.it_space.specs.Rows.{AreLowestTermsOf, HaveOneSign, Terms, value}
use Rattle.it_polymatroid.specs.Polymatroid.{IsPolymatroid}
use Rattle.it_polymatroid.specs.Certificates.{Generators}
use Rattle.it_elemental.specs.Generators.{Generator, forms_of, of_constraint, is_equation}
use Rattle.it_closure.specs.declared.dependences.Dependence.{Dependence}
use Rattle.it_closure.specs.Collapse.{IsCollapseOf, spread_out}
use Rattle.it_closure.proofs.Places.{is_spread_out, place-zero}
use Rattle.it_syntax.specs.declared.types.Sign.TheVariants.{Equal}
use Rattle.it_syntax.specs.Meaning.{Holds, RelationView, common_denominator, side_at}
use Rattle.it_syntax.specs.NamesViews.{NamesView}
use Rattle.it_demand.specs.Canonical.{IsRowOf, form_of}
use Rattle.it_demand.specs.Demands.{Demand, demand_of, equation}
use Rattle.it_demand.specs.Origins.{AreStated, ComesFrom, given_origins, row_origins}
use Rattle.it_demand.proofs.LimitLemmas.{given_origins-length}
use Rattle.it_demand.proofs.MetLemmas.{givens_satisfied}
use Rattle.it_question.specs.Questions.{BodyView}
use Rattle.it_question.specs.ProblemLines.{problem_lines, problem_names}
use Rattle.it_canon.specs.TrueLines.{variable_count}
use Rattle.it_canon.specs.QuestionDemands.{question_demands, question_origins}
use Rattle.it_terms.specs.FunctionProofs.{IsSaid}
use Rattle.it_terms.specs.Proofs.{constraints_of, demand_at}
use Rattle.it_terms.specs.RowsUnder.{AreZeroAt, IsPrintedRow, PrintedRowsSay, SaysRowUnder, given_demands}
use Rattle.it_terms.specs.Signs.{AreGivenEquations, AreLeastSpreadOut, HasSignUnder, IsGiven, IsGivenEquation, IsPrintedRowFrom, SaysSpreadOut, TellsRowBy}
use Rattle.it_terms.specs.Tells.{IsRelationText}
use Rattle.it_terms.proofs.JudgedTexts.{compares_by_difference}
use Rattle.it_terms.proofs.SaidLemmas.{constraint_at}
use Rattle.it_terms.proofs.SameProofs.{AreSameConstraints, stated_are_same}
use Rattle.it_terms.proofs.ToldProofs.{demand_satisfied, met_zero}
use Rattle.it_terms.proofs.UnderLemmas.{said_are_dependences}

-- ---- over closed sets

-- a row's closed row in lowest terms has its sign
pub low_sign : (n : ℕ) (ds : List Dependence) (row closed low : Terms) → IsCollapseOf n ds row closed → AreLowestTermsOf closed low → HasSignUnder n ds row low
low_sign n ds row closed low c a p z = subst (λ (x : ℤ). HaveOneSign x (value low p)) (c p z) (a.signs p)

pub same_closed : (n : ℕ) (ds : List Dependence) (row other low other_low : Terms) → HasSignUnder n ds row low
    → HasSignUnder n ds other other_low → low ≡ other_low → AreLeastSpreadOut n ds row other
same_closed n ds row other low other_low a b e p z = (
  λ h. (b p z).positive.1 (subst (λ (t : Terms). pos 0 ≤ℤ value t p) e ((a p z).positive.0 h)),
  λ h. (a p z).positive.1 (subst (λ (t : Terms). pos 0 ≤ℤ value t p) (sym e) ((b p z).positive.0 h)),
)

-- an inequality whose row has the sign of another one at each map that is spread out says what that one says there
pub spread_says : (s : Space) (ds : List Dependence) (r : RelationView) (row own : Terms) → r.sign ≢ Equal
    → IsRowOf s (form_of s.variables r) own → AreLeastSpreadOut s.variables ds own row → SaysSpreadOut s.variables ds r row
spread_says s ds r row own h is a p z =
    let n : ℕ = s.variables in
    let m : ℕ = common_denominator r in
    let q : ℕ → ℤ = spread_out n ds p in
    let empty : q 0 ≡ pos 0 = ap p (place-zero n ds) ∙ z in
    let c = compares_by_difference r.sign (side_at n q m r.left) (side_at n q m r.right) h in (
      λ holds. (a p z).0 (subst (λ (x : ℤ). pos 0 ≤ℤ x) (sym (is.same q empty)) (c.0 holds)),
      λ least. c.1 (subst (λ (x : ℤ). pos 0 ≤ℤ x) (is.same q empty) ((a p z).1 least)),
    )

-- ---- at polymatroids

-- a polymatroid at which lines are 0 has one value at sets of one closure under the functions that they say
spread_out_same : (n : ℕ) (g : Generators) (lines : List ℕ) (ds : List Dependence) (p : ℕ → ℤ) → All (IsSaid n g lines) ds
    → IsPolymatroid n p → AreZeroAt g lines p → spread_out n ds p ≡ p
spread_out_same n g lines ds p said k zeros = fun_ext (λ c. is_spread_out n ds p (said_are_dependences n g lines ds said) k met c)
  where
    met : All (λ d. p d.to ≡ p d.from) ds
    met = All-weaker (IsSaid n g lines) (λ d. p d.to
        ≡ p d.from) (λ d t. t.says p k.empty (All-contains (λ l. g.form l p ≡ pos 0) lines t.line zeros t.among)) ds said

pub said_by_functions : (v : NamesView) (s : Space) (g : Generators) (lines : List ℕ) (ds : List Dependence) (r : RelationView) (row : Terms) (text : List ℕ)
    → s ≡ record { variables = length v.variables; rates = length v.rates } → IsRelationText v text r → All (IsSaid s.variables g lines) ds
    → SaysSpreadOut s.variables ds r row
    → TellsRowBy v g lines row text
said_by_functions v s g lines ds r row text space is said says = record {
  relation = r;
  is = is;
  same = subst (λ (z : Space). SaysRowUnder z.variables g lines r row) space
      (λ p k zeros. subst (λ (q : ℕ → ℤ). Holds s.variables q r ↔ (pos 0 ≤ℤ value row q))
      (spread_out_same s.variables g lines ds p said k zeros) (says p k.empty));
}

-- ---- the lines of a question

pub printed_from : (v : NamesView) (row : Terms) (cs : List Constraint) (lines text : List ℕ) → AreGivenEquations cs lines
    → TellsRowBy v (forms_of (map of_constraint cs)) lines row text
    → IsPrintedRowFrom v row cs lines text
printed_from v row cs lines text given tells = record { given = given; tells = tells }

-- no constraint of a `row` line is one of a `given` line
row_is_not_given : (line : ℕ) (rs : List RelationView) (cs : List Constraint) (l : ℕ) (c : Constraint)
    → AllZip ComesFrom (row_origins line rs) cs → l < length cs → c ≡ get_or cs l c → IsGiven c.origin → ⊥
row_is_not_given line [] [] l c a h e g = absurd (omega arith)
row_is_not_given line [] (x ∷ cs) l c a h e g = absurd a
row_is_not_given line (r ∷ rs) [] l c a h e g = absurd a
row_is_not_given line (r ∷ rs) (x ∷ cs) zero c a h e g = subst IsGiven (ap (λ (d : Constraint). d.origin) e ∙ a.0) g
row_is_not_given line (r ∷ rs) (x ∷ cs) (suc l) c a h e g = row_is_not_given (line + 1) rs cs l c a.1 (omega arith) e g

-- constraints of `given` lines come first
given_comes_first : (places : List Origin) (line : ℕ) (rs : List RelationView) (cs : List Constraint) (l : ℕ) (c : Constraint)
    → AllZip ComesFrom (places ++ row_origins line rs) cs → l < length cs → c ≡ get_or cs l c → IsGiven c.origin
    → l < length places
given_comes_first [] line rs cs l c a h e g = absurd (row_is_not_given line rs cs l c a h e g)
given_comes_first (x ∷ places) line rs [] l c a h e g = absurd a
given_comes_first (x ∷ places) line rs (d ∷ cs) zero c a h e g = omega arith
given_comes_first (x ∷ places) line rs (d ∷ cs) (suc l) c a h e g = let more = given_comes_first places line rs cs l c a.1 (omega arith) e g
    in omega (arith, more)

-- a `given` equation among a problem's constraints is the demand of its number among those of the `given` lines
record IsGivenDemand (q : BodyView) (cs : List Constraint) (l : ℕ) : Type 0 where
  pub there : l < length (given_demands q)
  pub equation : is_equation (demand_at (given_demands q) l).kind ≡ true
  pub form : (p : ℕ → ℤ) → p 0 ≡ pos 0 → (forms_of (map of_constraint cs)).form l p ≡ (demand_at (given_demands q) l).form p

given_is_demand : (q : BodyView) (s : Space) (cs : List Constraint) (l : ℕ) (c : Constraint)
    → AreStated s (question_origins q) (question_demands q) cs → l < length cs → c ≡ get_or cs l c → IsGiven c.origin → c.kind ≡ Equation
    → IsGivenDemand q cs l
given_is_demand q s cs l c are h e given equal = record {
  there = within;
  equation = ap (λ (d : Demand). is_equation d.kind) (sym first_part) ∙ sym (same.kinds l in_all)
      ∙ ap (λ (k : Generator). is_equation k.kind) (constraint_at cs l c h ∙ ap of_constraint (sym e)) ∙ ap is_equation equal;
  form = λ p z. same.forms l in_all p z ∙ ap (λ (d : Demand). d.form p) first_part;
}
  where
    n : ℕ
    n = variable_count q

    within : l < length (given_demands q)
    within = subst (λ (m : ℕ). l < m) (given_origins-length n 1 (problem_lines q).givens)
        (given_comes_first (given_origins n 1 (problem_lines q).givens) 1 (problem_lines q).rows cs l c are.placed h e given)

    first_part : demand_at (question_demands q) l ≡ demand_at (given_demands q) l
    first_part = get_or_append_left (given_demands q) (map (demand_of n) (problem_lines q).rows) (equation (λ p. pos 0)) l within

    same : AreSameConstraints (forms_of (map of_constraint cs)) (constraints_of (question_demands q))
    same = stated_are_same s (question_demands q) cs are.stated

    in_all : l < length (map of_constraint cs)
    in_all = subst (λ (m : ℕ). l < m) (sym (length-map cs of_constraint)) h

each_is_demand : (q : BodyView) (s : Space) (cs : List Constraint) (lines : List ℕ)
    → AreStated s (question_origins q) (question_demands q) cs → AreGivenEquations cs lines → All (IsGivenDemand q cs) lines
each_is_demand q s cs lines are given =
    All-weaker (IsGivenEquation cs) (IsGivenDemand q cs) (λ l t. given_is_demand q s cs l t.1.0 are t.0 t.1.1.0 t.1.1.1.0 t.1.1.1.1) lines given

all_by_both : (P Q R : ℕ → Type 0) → ((l : ℕ) → P l → Q l → R l) → (ls : List ℕ) → All P ls → All Q ls → All R ls
all_by_both P Q R f [] a b = All-nil R
all_by_both P Q R f (l ∷ ls) a b = All-cons R l ls (f l (All-head P l ls a) (All-head Q l ls b))
    (all_by_both P Q R f ls (All-tail P l ls a) (All-tail Q l ls b))

printed_by_question : (q : BodyView) (row : Terms) (s : Space) (cs : List Constraint) (lines text : List ℕ)
    → AreStated s (question_origins q) (question_demands q) cs
    → IsPrintedRowFrom (problem_names q) row cs lines text → IsPrintedRow q row lines text
printed_by_question q row s cs lines text are t =
    let each : All (IsGivenDemand q cs) lines = each_is_demand q s cs lines are t.given in
    let g : Generators = constraints_of (given_demands q) in record {
      relation = t.tells.relation;
      is = t.tells.is;
      equations = All-weaker (IsGivenDemand q cs) (λ l. (l < g.count) × (g.is_equation l ≡ true)) (λ l d. (d.there, d.equation)) lines each;
      same = λ p k zeros. t.tells.same p k (both_zero p k.empty each zeros);
    }
  where
    both_zero : (p : ℕ → ℤ) → p 0 ≡ pos 0 → All (IsGivenDemand q cs) lines → AreZeroAt (constraints_of (given_demands q)) lines p
        → AreZeroAt (forms_of (map of_constraint cs)) lines p
    both_zero p z each zeros = all_by_both (IsGivenDemand q cs) (λ l. (demand_at (given_demands q) l).form p ≡ pos 0)
        (λ l. (forms_of (map of_constraint cs)).form l p ≡ pos 0) (λ l d e. d.form p z ∙ e) lines each zeros

-- what is told from a problem's constraints is told from the question's lines
pub row_printed_by_lines : {X : Type 0} (lines text : X → List ℕ) (q : BodyView) (row : Terms) (s : Space) (cs : List Constraint)
    (o : Option X) → AreStated s (question_origins q) (question_demands q) cs
    → IfSome o (λ x. IsPrintedRowFrom (problem_names q) row cs (lines x) (text x)) → IfSome o (λ x. IsPrintedRow q row (lines x) (text x))
row_printed_by_lines lines text q row s cs None are h = tt
row_printed_by_lines lines text q row s cs (Some x) are h = printed_by_question q row s cs (lines x) (text x) are h

-- ---- the law

pub printed_rows_say : PrintedRowsSay
printed_rows_say q row lines text t p k givens =
    let ds : List Demand = given_demands q in
    let all = (givens_satisfied (variable_count q) (problem_lines q).givens p).1 givens in
    t.same p k (All-weaker (λ l. (l < length ds) × (is_equation (demand_at ds l).kind ≡ true)) (λ l. (demand_at ds l).form p ≡ pos 0)
    (λ l e. met_zero (demand_at ds l).kind ((demand_at ds l).form p) e.1 (demand_satisfied p ds l e.0 all)) lines t.equations)
