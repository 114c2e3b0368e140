-- From the ends of the phases' runs to the answer, step by step as the code goes.
use Rattle.std.proofs.Common.{◌≡◌, ℕ, suc, ◌+◌, ◌^◌, ◌<◌, ◌≤◌, ℤ, pos, ◌*ℤ◌, ◌≤ℤ◌, List, [], ◌∷◌, ◌++◌, length, map, Option, Result, Ok, Err, refl, sym, ap, ap₂, subst, subst₂, ◌∙◌, arith, take, drop, slice_index_or}
use Rattle.std.specs.Result.{IfErr, IfOk, IsErrAnd, OnOk}
use Rattle.it_space.specs.Rows.{ValueFits}
use Rattle.it_check.specs.Meaning.{PointFits}
use Rattle.std.proofs.lemmas.List.{length-map, length-append}
use Rattle.it_number.specs.Limit.{IsWithin}
use Rattle.it_rational.specs.Rational.{Rational, integer}
use Rattle.it_problems.specs.declared.problems.Kind.{Kind}
use Rattle.it_problems.specs.declared.problems.Kind.TheVariants.{Inequality, Equation}
use Rattle.it_problems.specs.Problems.{ProblemView, IsProblem}
use Rattle.it_space.specs.Rows.{Terms, IsOver, point_of, value}
use Rattle.it_space.specs.Spaces.{size_of}
use Rattle.it_polymatroid.specs.Elementals.{span}
use Rattle.it_polymatroid.proofs.Spans.{length-span}
use Rattle.it_run.specs.Readings.{AreWeights}
use Rattle.it_run.specs.Runs.{RunEndView}
use Rattle.it_run.specs.Answers.{end_of_answer}
use Rattle.it_run.specs.declared.answering.Solved.{Solved}
use Rattle.it_elemental.specs.Generators.{Generator, generators}
use Rattle.it_columns.specs.Columns.{columns}
use Rattle.it_columns.specs.Scaling.{NumbersFit, scaled_point}
use Rattle.it_columns.proofs.ColumnLemmas.{few_columns}
use Rattle.it_ratio.specs.declared.types.Best.{Best}
use Rattle.it_best.specs.declared.unknowns.Unknown.{Unknown}
use Rattle.it_ratio.specs.BestViews.{BestView, best_view}
use Rattle.it_best.specs.Ends.{EndsWith, LeastPointFits, PhaseEnds, SidesFit, first, third}
use Rattle.it_best.specs.PhaseSteps.{End, FirstEnds, FollowsFirst, FollowsPhases, FollowsSecond, FollowsThird, HasSecondPoint, IsEndPoint, PhaseSums}
use Rattle.it_best.specs.PhaseSteps.{SecondEnds, Settles, SidesView, first_unknowns}
use Rattle.it_best.specs.declared.finding.Stop.{Stop}
use Rattle.it_best.specs.declared.finding.Stop.TheVariants.{Answer, Memory}
use Rattle.it_run.specs.Runs.RunEndView.{Weights, Point}
use Rattle.it_best.specs.Factors.{IsRightBest, IsFactor, IsPoint, ground_of}
use Rattle.it_best.specs.Numbers.{column_weight, numbers, weights_certificate}
use Rattle.it_best.specs.Phases.{counterweight, coordinate_unknown, first_phase, right_equation, slack_by, slacks, third_phase, third_target, unknown_view, unknown_views}
use Rattle.it_best.proofs.AnswerLemmas.{third_meets, left_some}
use Rattle.it_best.proofs.EndLemmas.{best_is_right}
use Rattle.it_best.proofs.NumberLemmas.{length-numbers_from}
use Rattle.it_best.proofs.PhaseLemmas as phases
use Rattle.it_best.proofs.SystemSteps.{few_equations}
use Rattle.it_tableau.specs.Operations.{rationals}

-- ---- how many unknowns and columns there are

slacks_few : (e : ℕ) (gs : List Generator) → length (slacks e gs) ≤ length gs
unfolding slacks
slacks_few e [] = omega arith
slacks_few e (g ∷ gs) = by_kind g.kind (slacks_few (e + 1) gs)
  where
    by_kind : (k : Kind) → length (slacks (e + 1) gs) ≤ length gs → length (slack_by e k ++ slacks (e + 1) gs) ≤ suc (length gs)
    by_kind Inequality h = omega (arith, h)
    by_kind Equation h = omega (arith, h)

third_length : (n size : ℕ) (gs : List Generator) (left right : Terms)
    → length (third_phase n size gs left right) ≡ 1 + (length gs + (size + length (slacks (size + 1) gs)))
unfolding third_phase
third_length n size gs left right = ap suc (length-append (map counterweight gs)
    (map (coordinate_unknown n size gs left right) (span 1 size) ++ slacks (size + 1) gs)
    ∙ ap₂ (λ a b. a + b) (length-map gs counterweight) (length-append (map (coordinate_unknown n size gs left right) (span 1 size)) (slacks (size + 1) gs)
    ∙ ap (λ a. a + length (slacks (size + 1) gs)) (length-map (span 1 size) (coordinate_unknown n size gs left right)
    ∙ length-span 1 size))) ∙ as_sum (length gs + (size + length (slacks (size + 1) gs)))
  where
    as_sum : (a : ℕ) → suc a ≡ 1 + a
    as_sum a = omega arith

first_length : (gs : List Generator) (left : Terms) → length (first_phase gs left) ≡ 1 + length gs
unfolding first_phase
first_length gs left = ap suc (length-map gs counterweight) ∙ as_sum (length gs)
  where
    as_sum : (a : ℕ) → suc a ≡ 1 + a
    as_sum a = omega arith

weights_below : (n m from : ℕ) (ws : List (ℕ × Rational)) → n ≤ m → AreWeights rationals n from ws → AreWeights rationals m from ws
weights_below n m from [] h a = tt
weights_below n m from (w ∷ ws) h a = (a.0, below w.0 a.1, a.2, weights_below n m (suc w.0) ws h a.3)
  where
    below : (x : ℕ) → x < n → x < m
    below x l = omega (arith, l, h)

module _ (q : ProblemView) (left right : Terms) (k : IsProblem q) where
  abbrev gs : List Generator
  gs = generators q

  abbrev size : ℕ
  size = size_of q.space

  pub third_few : length (third q left right) < 2 ^ 23
  third_few = omega (arith, third_length q.space.variables size gs left right, slacks_few (size + 1) gs, few_equations q k)

  pub first_few : length (first q left right) < 2 ^ 23
  first_few = omega (arith, first_length gs left, few_equations q k)

  pub gs_few : length gs < 2 ^ 23
  gs_few = omega (arith, few_equations q k)

-- as the code has them
pub ordered_of : (m : ℕ) (us : List Generator) (target : Terms) (ws : List (ℕ × Rational)) → length us < 2 ^ 23 → PhaseSums m us target ws
    → AreWeights rationals (2 ^ 63) 0 ws
ordered_of m us target ws h s = weights_below (length (columns us)) (2 ^ 63) 0 ws (omega (arith, h, few_columns us)) s.ordered

pub unknowns_few : (unknowns : List Unknown) (us : List Generator) → unknown_views unknowns ≡ us → length us < 2 ^ 23 → length unknowns < 2 ^ 32
unknowns_few unknowns us e h = omega (arith, h, ap length e, length-map unknowns unknown_view)

numbers_length : (us : List Generator) (ws : List (ℕ × Rational)) → length (numbers us ws) ≡ length us
numbers_length us ws = length-numbers_from us 0 (column_weight ws)

-- ---- the third phase's numbers

module _ (q : ProblemView) (left right : Terms) (k : IsProblem q) (l : IsOver (size_of q.space) left) (r : IsOver (size_of q.space) right)
    (ws : List (ℕ × Rational))
    (s : PhaseSums (right_equation (size_of q.space) (generators q)) (third q left right) (third_target (size_of q.space) (generators q) right) ws) where
  abbrev ns : List Rational
  ns = numbers (third q left right) ws

  pub third_long : (xs : List Rational) → xs ≡ ns → length (generators q) + size_of q.space < length xs
  third_long xs e = omega (
    arith,
    ap length e,
    numbers_length (third q left right) ws,
    third_length q.space.variables (size_of q.space)
        (generators q) left right,
  )

  pub third_factor_is : (x : Rational) (xs : List Rational) → x ≡ slice_index_or ns 0 (integer (pos 0))
      → xs ≡ take (length (generators q)) (drop 1 ns)
      → IsFactor (ground_of q) (value left) (value right) x.num (pos x.den) (weights_certificate (pos x.den) xs)
  third_factor_is x xs e f = subst₂ (λ (x : Rational) (xs : List Rational). IsFactor (ground_of q) (value left) (value right) x.num
      (pos x.den) (weights_certificate (pos x.den) xs))
      (sym (e ∙ phases.factor_is q left right k l r ws)) (sym (f ∙ phases.weights_are q left right k l r ws))
      (phases.third_factor_right q left right k l r ws s)

  pub third_values_length : (vs : List Rational) → vs ≡ take (size_of q.space) (drop (length (generators q)) (drop 1 ns)) → length vs ≡ size_of q.space
  third_values_length vs e = ap length (e ∙ phases.values_are q left right k l r ws) ∙ phases.hs_length q left right k l r ws

  pub third_point_meets : (vs : List Rational) → vs ≡ take (size_of q.space) (drop (length (generators q)) (drop 1 ns))
      → IsPoint (ground_of q) (scaled_point vs)
  third_point_meets vs e = subst (λ (vs : List Rational). IsPoint (ground_of q) (scaled_point vs))
      (sym (e ∙ phases.values_are q left right k l r ws)) (third_meets q left right k l r ws s)

  pub third_left_some : (vs : List Rational) → vs ≡ take (size_of q.space) (drop (length (generators q)) (drop 1 ns))
      → pos 1 ≤ℤ value left (point_of (scaled_point vs))
  third_left_some vs e = subst (λ (vs : List Rational). pos 1 ≤ℤ value left (point_of (scaled_point vs)))
      (sym (e ∙ phases.values_are q left right k l r ws)) (left_some q left right k l r ws s)

-- ---- the first phase's

module _ (q : ProblemView) (left right : Terms) (ws : List (ℕ × Rational)) (s : PhaseSums (size_of q.space) (first q left right) right ws) where
  abbrev first_ns : List Rational
  first_ns = numbers (first q left right) ws

  pub first_long : (xs : List Rational) → xs ≡ first_ns → length (generators q) < length xs
  first_long xs e = omega (arith, ap length e, numbers_length (first q left right) ws, first_length (generators q) left)

  pub first_factor_is : (x : Rational) (xs : List Rational) → x ≡ slice_index_or first_ns 0 (integer (pos 0))
      → xs ≡ take (length (generators q)) (drop 1 first_ns)
      → IsFactor (ground_of q) (value left) (value right) x.num (pos x.den) (weights_certificate (pos x.den) xs)
  first_factor_is x xs e f = subst₂ (λ (x : Rational) (xs : List Rational). IsFactor (ground_of q) (value left) (value right) x.num
      (pos x.den) (weights_certificate (pos x.den) xs)) (sym e) (sym f) (phases.first_right q left right ws s)

pub gs_numbers_few : (q : ProblemView) (k : IsProblem q) (ws : List (ℕ × Rational)) (xs : List Rational) → xs ≡ numbers (generators q) ws → length xs < 2 ^ 32
gs_numbers_few q k ws xs e = omega (arith, ap length e, numbers_length (generators q) ws, few_equations q k)

-- ---- the ends of the phases

-- the run of the code's rows is that of the phase
pub ends_so : (m n : ℕ) (us vs : List Generator) (target row : Terms) (budget : Option ℕ)
    (e : RunEndView (List (ℕ × Rational)) (List Rational)) → m ≡ n → us ≡ vs → target ≡ row → PhaseEnds m us target budget e
    → PhaseEnds n vs row budget e
ends_so m n us vs target row budget e a b d p = subst (λ k. PhaseEnds k vs row budget e) a
    (subst₂ (λ (ws : List Generator) (ts : Terms). PhaseEnds m ws ts budget e) b d p)

-- the answer by the end of a phase's run is one by some end
pub by_end : {E : Type 0} (m n : ℕ) (us vs : List Generator) (target : Terms) (budget : Option ℕ) (solved : Solved) (o : Result Best E)
    (Follows : RunEndView (List (ℕ × Rational)) (List Rational) → BestView → Type 0) → m ≡ n → us ≡ vs
    → PhaseEnds m us target budget (end_of_answer solved) → IfOk o (λ b. Follows (end_of_answer solved) (best_view b))
    → IfOk o (λ b. (e : RunEndView (List (ℕ × Rational)) (List Rational)) × PhaseEnds n vs target budget e × Follows e (best_view b))
by_end m n us vs target budget solved (Err e) Follows a b p f = tt
by_end m n us vs target budget solved (Ok o) Follows a b p f = (
  end_of_answer solved,
  ends_so m n us vs target target budget
      (end_of_answer solved) a b refl p,
  f,
)

pub right_result : {E : Type 0} (q : ProblemView) (left right : Terms) (budget : Option ℕ) (r : Result Best E) → IsProblem q
    → IsOver (size_of q.space) left → IsOver (size_of q.space) right
    → IfOk r (λ b. EndsWith q left right budget (best_view b)) → IfOk r (λ b. IsRightBest (ground_of q) (value left) (value right) (best_view b))
right_result q left right budget (Err e) k l r h = tt
right_result q left right budget (Ok b) k l r h = best_is_right q left right budget (best_view b) k l r h

-- ---- from one phase to the next

-- the answer by the end of the first phase, which settles it
pub first_settles : {T : Type 0} (s : SidesView) (budget : Option ℕ) (us : List Generator) (e : End) (r : Result T Stop) (stop : Stop)
    → us ≡ first_unknowns s → FirstEnds s us budget e → IsErrAnd r (λ x. x ≡ stop) → Settles (λ b. (budget : Option ℕ) → FollowsFirst s budget e b) stop
    → IfErr r (Settles (FollowsPhases s budget))
first_settles s budget us e (Ok x) stop a p same f = tt
first_settles s budget us e (Err x) stop a p same f = subst (Settles (FollowsPhases s budget)) (sym same) (by_stop stop f)
  where
    by_stop : (stop : Stop) → Settles (λ b. (budget : Option ℕ) → FollowsFirst s budget e b) stop → Settles (FollowsPhases s budget) stop
    by_stop Memory f = tt
    by_stop (Answer b) f = (e, subst (λ vs. FirstEnds s vs budget e) a p, f budget)

-- the answer by the third phase, after weights of the first and a point of the second
pub third_settles : (s : SidesView) (budget : Option ℕ) (us : List Generator) (e : End) (ws : List (ℕ × Rational)) (b : BestView) → us ≡ first_unknowns s
    → FirstEnds s us budget e → e ≡ Weights ws → HasSecondPoint s budget → FollowsThird s budget b → FollowsPhases s budget b
third_settles s budget us e ws b a p w point f = (Weights ws, subst₂ (λ vs x. FirstEnds s vs budget x) a w p, (Point point.0, point.1, f))

-- the second phase ends with a point
pub second_passes : {E : Type 0} (s : SidesView) (budget : Option ℕ) (us : List Generator) (e : End) (r : Result (Unit {0}) E) → us ≡ generators s.problem
    → SecondEnds s us budget e → OnOk r (IsEndPoint e) → OnOk r (HasSecondPoint s budget)
second_passes s budget us e (Err x) a p f = tt
second_passes s budget us e (Ok x) a p f = (f.0, subst₂ (λ vs y. SecondEnds s vs budget y) a f.1 p)

-- the second phase settles the answer
pub second_settles : {T : Type 0} (s : SidesView) (budget : Option ℕ) (us : List Generator) (e : End) (ws : List (ℕ × Rational)) (r : Result T Stop)
    → us ≡ generators s.problem → SecondEnds s us budget e → IfErr r (Settles (λ b. (budget : Option ℕ) → FollowsSecond s budget ws e b))
    → IfErr r (Settles (FollowsFirst s budget (Weights ws)))
second_settles s budget us e ws (Ok x) a p f = tt
second_settles s budget us e ws (Err Memory) a p f = tt
second_settles s budget us e ws (Err (Answer b)) a p f = (e, subst (λ vs. SecondEnds s vs budget e) a p, f budget)

-- ---- the point of the least factor

pub least_fits : (q : ProblemView) (left right : Terms) (x : Rational) (qs : List Rational) (point : List ℤ) (above below : ℤ)
    → point ≡ scaled_point qs → NumbersFit qs → PointFits q left point → ValueFits left (point_of point) × ValueFits right (point_of point)
    → ◌≡◌ {A = ℤ × ℤ} (above, below) (value left (point_of point), value right (point_of point))
    → IsWithin (x.num *ℤ above) × IsWithin (pos x.den *ℤ below) → LeastPointFits q left right x qs
least_fits q left right x qs point above below e f p v same w =
    let a : above ≡ value left (point_of point) = ap (λ (t : ℤ × ℤ). t.0) same in
    let b : below ≡ value right (point_of point) = ap (λ (t : ℤ × ℤ). t.1) same in record {
      scaled = f;
      values = subst (SidesFit q left right) e (record { each = p.each; left_value = v.0; right_value = v.1 });
      left_times = subst (λ (vs : List ℤ). IsWithin (x.num *ℤ value left (point_of vs))) e (subst (λ (z : ℤ). IsWithin (x.num *ℤ z)) a w.0);
      right_times = subst (λ (vs : List ℤ). IsWithin (pos x.den *ℤ value right (point_of vs))) e (subst (λ (z : ℤ). IsWithin (pos x.den *ℤ z)) b w.1);
    }

pub least_products : (q : ProblemView) (left right : Terms) (x : Rational) (qs : List Rational) (point : List ℤ) (above below : ℤ)
    → point ≡ scaled_point qs → ◌≡◌ {A = ℤ × ℤ} (above, below) (value left (point_of point), value right (point_of point))
    → LeastPointFits q left right x qs → IsWithin (x.num *ℤ above) × IsWithin (pos x.den *ℤ below)
least_products q left right x qs point above below e same f =
    let a : above ≡ value left (point_of point) = ap (λ (t : ℤ × ℤ). t.0) same in
    let b : below ≡ value right (point_of point) = ap (λ (t : ℤ × ℤ). t.1) same in (
      subst (λ (z : ℤ). IsWithin (x.num *ℤ z)) (sym a) (subst (λ (vs : List ℤ). IsWithin (x.num *ℤ value left (point_of vs))) (sym e) f.left_times),
      subst (λ (z : ℤ). IsWithin (pos x.den *ℤ z)) (sym b) (subst (λ (vs : List ℤ). IsWithin (pos x.den *ℤ value right (point_of vs))) (sym e) f.right_times),
    )
