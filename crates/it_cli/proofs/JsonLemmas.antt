-- A right answer fits its question, so that what is written of it reads back as it.
use Rattle.std.proofs.Common.{◌≡◌, ◌≢◌, ◌⊎◌, inl, inr, ℕ, zero, suc, ◌+◌, ◌<◌, ◌≤◌, ◌^◌, min, ℤ, List, [], ◌∷◌, map, filter, length, All, Bool, true, false, Option, Some, None, IfSome, refl, sym, ap, subst, ◌∙◌, arith, lit≤, cond, get_or}
use Rattle.std.proofs.lemmas.List.{length-append, length-map}
use Rattle.std.proofs.lemmas.List.Elements.{All-nil, All-cons, All-head, All-tail}
use Rattle.it_number.specs.Limit.{IsWithin}
use Rattle.it_rational.specs.Rational.{Rational}
use Rattle.it_space.specs.declared.answers.Cause.{Cause}
use Rattle.it_space.specs.declared.spaces.Space.{Space}
use Rattle.it_space.specs.Answers.{AnswerView, CertificateView, IfRate, is_nonzero_weight}
use Rattle.it_space.specs.Answers.AnswerView.{Yes, No, Undecided, Region, Contained, Open}
use Rattle.it_problems.specs.Problems.{ProblemView, IsProblem}
use Rattle.it_space.specs.Rows.{Terms, Ascends, IsCanonical, coefficient}
use Rattle.it_space.specs.Spaces.{most_variables, size_of}
use Rattle.it_polymatroid.specs.Certificates.{Form}
use Rattle.it_polymatroid.specs.Elementals.{elementals, span}
use Rattle.it_elemental.specs.Places.{most_elementals}
use Rattle.it_elemental.proofs.GeneratorLemmas.{few_elementals}
use Rattle.it_closure.specs.Reading.{dependences_of}
use Rattle.it_run.specs.Runs.{RunEndView, EndsAs, EndsBy, clip_number}
use Rattle.it_run.specs.Runs.RunEndView.{Weights, Point, Pivots, Width}
use Rattle.it_simplex.specs.Answers.{Solves}
use Rattle.it_prove.specs.Closed.{closed_places, spread_point}
use Rattle.it_closure.specs.Collapse.{spread_out}
use Rattle.it_columns.specs.Scaling.{NumbersFit, scale_of, scaled_point}
use Rattle.it_prove.specs.ProofViews.{Follows, RunEnds, EndsWith, AreProofsOf}
use Rattle.it_prove.proofs.ProofLemmas.{quick_cause, quick_no, quick_yes, scaled_within}
use Rattle.it_prove.proofs.PointLemmas.{places_rise, point_spread, spread_within}
use Rattle.it_syntax.specs.declared.types.Sign.{Sign}
use Rattle.it_syntax.specs.declared.types.Sign.TheVariants.{AtLeast, AtMost, Equal}
use Rattle.it_syntax.specs.Meaning.{RelationView}
use Rattle.it_syntax.specs.NamesViews.{NamesView}
use Rattle.it_question.specs.Questions.{BodyView, Prove}
use Rattle.it_demand.specs.Canonical.{form_of}
use Rattle.it_demand.specs.Demands.{Demand, kind_of}
use Rattle.it_demand.specs.Origins.{States}
use Rattle.std.specs.List.{AllZip, zip}
use Rattle.it_demand.specs.Targets.{targets, inequalities_of}
use Rattle.it_canon.specs.TrueLines.{variable_count}
use Rattle.it_canon.specs.QuestionDemands.{question_demands, problem_of, terms_in, IsProblemOf}
use Rattle.it_demand.specs.QuestionSpaces.{space_of}
use Rattle.it_demand.specs.SystemForms.{system_forms}
use Rattle.it_question.specs.ProblemLines.{problem_names, names_under}
use Rattle.it_demand.proofs.ZipLemmas.{zip-length}
use Rattle.it_eliminate.proofs.MemberLemmas.{Member}
use Rattle.it_redundant.specs.ReducedElimination.{ProjectedView}
use Rattle.it_answer.specs.declared.types.Budgets.{Budgets}
use Rattle.it_answer.specs.Forms.{all_demands, demand_of_elemental, CertifyAll, IsAllowedWeight}
use Rattle.it_answer.specs.Shows.{ShowsBy, Refutes}
use Rattle.it_answer.specs.DueEliminations.{answer_of_end, IsDueElimination}
use Rattle.it_answer.specs.DueRelations.{PointIsDue, CauseIsDue, IsDueRelation}
use Rattle.it_answer.proofs.UniqueLemmas.{undecided_same}
use Rattle.it_certificate.specs.AnswerShapes.{IsNumberedAmount, IsNumbered, IsFoundIn, IsCauseFor, HasVerbShape}
use Rattle.it_certificate.specs.Numerals.{step_of}
use Rattle.it_certificate.specs.Values.{IsAsciiRate, IsWritable}
use Rattle.it_certificate.proofs.RowLemmas.{nonzero_passes}
use Rattle.it_certificate.specs.Laws.{without_zeros}
use Rattle.it_report.proofs.CountLemmas.{targets_counted}
use Rattle.it_cli.proofs.LineLemmas.{point_size}
use Rattle.it_cli.proofs.RateLemmas.{IsEndOf, end_of_rates}
use Rattle.it_elemental.specs.Generators.{is_equation}
use Rattle.it_space.specs.declared.answers.Cause.TheVariants as causes
use Rattle.it_prove.specs.ProofViews as proof_views
use Rattle.it_prove.specs.declared.types.Effort.{Effort}
use Rattle.it_redundant.specs.ReducedElimination as projections

-- ---- the ends of one target

pub yes_same : (v w : CertificateView) → proof_views.Yes v ≡ proof_views.Yes w → v ≡ w
yes_same v w e = cc

pub no_same : (u v : List ℤ) → proof_views.No u ≡ proof_views.No v → u ≡ v
no_same u v e = cc

-- a proof's scale is within the limit, and its weights ascend
pub record IsScaled (w : CertificateView) : Type 0 where
  pub scale : IsWithin w.scale
  pub canonical : IsCanonical w.weights

module _ (q : ProblemView) (target : Terms) where
  scaled_by_end : (w : CertificateView) (e : RunEndView (List (ℕ × Rational)) (List Rational)) → Follows q target e (proof_views.Yes w) → IsScaled w
  scaled_by_end w (Weights ws) (inl h) =
      subst IsScaled (yes_same h.0 w (sym h.3)) (record { scale = subst IsWithin (sym h.1.scale) h.2.0.numbers.scale; canonical = h.1.canonical })
  scaled_by_end w (Weights ws) (inr h) = let e = h.1 in absurd (cc)
  scaled_by_end w (Point qs) (inl h) = let e = h.1 in absurd (cc)
  scaled_by_end w (Point qs) (inr h) = let e = h.1 in absurd (cc)
  scaled_by_end w (Pivots k) e = absurd (cc)
  scaled_by_end w (Width k) e = absurd (cc)

  -- the values of a point are within the limit
  spread_fits : (qs : List Rational) → IsProblem q → NumbersFit qs → All IsWithin (spread_point q qs)
  spread_fits qs limits fit =
      let cs = closed_places q in
      let vs = scaled_point qs in
      let values = map (spread_out q.space.variables (dependences_of q) (coefficient (zip cs vs))) (span 1 (size_of q.space)) in
      subst (All IsWithin) (point_spread q q.space (dependences_of q) cs vs qs (zip cs vs) values refl refl refl refl refl refl)
      (spread_within q.space.variables (dependences_of q) (size_of q.space) cs vs (zip cs vs) values refl refl
      (places_rise q cs limits refl) (scaled_within (scale_of qs) qs vs refl fit.numbers))

  values_by_end : IsProblem q → (values : List ℤ) (e : RunEndView (List (ℕ × Rational)) (List Rational))
      → Follows q target e (proof_views.No values) → All IsWithin values
  values_by_end limits values (Weights ws) (inl h) = let e = h.3 in absurd (cc)
  values_by_end limits values (Weights ws) (inr h) = let e = h.1 in absurd (cc)
  values_by_end limits values (Point qs) (inl h) = subst (All IsWithin) (no_same (spread_point q qs) values (sym h.1)) (spread_fits qs limits h.0.0)
  values_by_end limits values (Point qs) (inr h) = let e = h.1 in absurd (cc)
  values_by_end limits values (Pivots k) e = absurd (cc)
  values_by_end limits values (Width k) e = absurd (cc)

-- ---- numbers of steps that are told

-- the greatest number of a step that is told
abbrev last_step : ℕ
last_step = 4294967295

-- a budget that is used up is at most this, and the number of a step that doesn't fit is told
abbrev IsUpToStep : {W P : Type 0} → ℕ → RunEndView W P → Type 0
IsUpToStep most (Weights ws) = Unit {0}
IsUpToStep most (Point qs) = Unit {0}
IsUpToStep most (Pivots j) = j ≤ most
IsUpToStep most (Width j) = j ≤ last_step

up_to_more : {W P : Type 0} (few most : ℕ) (e : RunEndView W P) → few ≤ most → IsUpToStep few e → IsUpToStep most e
up_to_more few most (Weights ws) l h = tt
up_to_more few most (Point qs) l h = tt
up_to_more few most (Pivots j) l h = omega (arith, l, h)
up_to_more few most (Width j) l h = h

-- without a budget none is used up
unbound_up_to : {W P : Type 0} (budget : ℕ) (e : RunEndView W P) → ((k : ℕ) → e ≢ Pivots k) → IsUpToStep budget e → IsUpToStep last_step e
unbound_up_to budget (Weights ws) w h = tt
unbound_up_to budget (Point qs) w h = tt
unbound_up_to budget (Pivots j) w h = absurd (w j refl)
unbound_up_to budget (Width j) w h = h

module _ {S W P : Type 0} (IsDone IsStuck Fits : S → Type 0) (next : S → S) (weights : S → W) (point : S → P) where
  by_step : (left k : ℕ) (s : S) (e : RunEndView W P) → (EndsAs IsDone IsStuck Fits next weights point left (suc k) (next s) e → IsUpToStep (suc k + left) e)
      → (¬ (Fits s) × (e ≡ Width (clip_number (suc k)))) ⊎ (Fits s × EndsAs IsDone IsStuck Fits next weights point left (suc k) (next s) e)
      → IsUpToStep (k + suc left) e
  by_step left k s e more (inl g) = subst (IsUpToStep (k + suc left)) (sym g.1) (let l : min (suc k) 4294967295 ≤ last_step = omega arith in l)
  by_step left k s e more (inr g) = let same : suc k + left ≡ k + suc left = omega arith in subst (λ n. IsUpToStep n e) same (more g.1)

  in_budget : (left k : ℕ) (s : S) (e : RunEndView W P) → EndsAs IsDone IsStuck Fits next weights point left k s e → IsUpToStep (k + left) e
  in_budget zero k s e (inl h) = subst (IsUpToStep (k + 0)) (sym h.1) tt
  in_budget zero k s e (inr (inl h)) = subst (IsUpToStep (k + 0)) (sym h.2) tt
  in_budget zero k s e (inr (inr h)) = subst (IsUpToStep (k + 0)) (sym h.2) (let l : k ≤ k + 0 = omega arith in l)
  in_budget (suc left) k s e (inl h) = subst (IsUpToStep (k + suc left)) (sym h.1) tt
  in_budget (suc left) k s e (inr (inl h)) = subst (IsUpToStep (k + suc left)) (sym h.2) tt
  in_budget (suc left) k s e (inr (inr h)) = by_step left k s e (in_budget left (suc k) (next s) e) h.2

  -- with a budget of 32 bits, or without one
  ends_told : (budget : Option ℕ) (s : S) (e : RunEndView W P) → IfSome budget (λ n. n < 2 ^ 32)
      → EndsBy IsDone IsStuck Fits next weights point budget s e → IsUpToStep last_step e
  ends_told (Some most) s e few h = up_to_more (0 + most) last_step e (omega (arith, few)) (in_budget most 0 s e h)
  ends_told None s e few h = unbound_up_to (0 + h.0) e h.2 (in_budget h.0 0 s e h.1)

start_up_to : {W P : Type 0} (e : RunEndView W P) → e ≡ Width 0 → IsUpToStep last_step e
start_up_to e is = subst (IsUpToStep last_step) (sym is) (let l : 0 ≤ last_step = omega arith in l)

solve_end_up_to : (coordinates : List ℕ) (columns : List Terms) (target : Terms) (budget : Option ℕ)
    (e : RunEndView (List (ℕ × Rational)) (List Rational)) → IfSome budget (λ n. n < 2 ^ 32) → Solves coordinates columns target budget e
    → IsUpToStep last_step e
solve_end_up_to coordinates columns target budget e few (inl h) = start_up_to e h.1
solve_end_up_to coordinates columns target budget e few (inr h) = ends_told _ _ _ _ _ _ budget _ e few h.1

run_end_up_to : (q : ProblemView) (target : Terms) (budget : Option ℕ) (e : RunEndView (List (ℕ × Rational)) (List Rational))
    → IfSome budget (λ n. n < 2 ^ 32) → RunEnds q target budget e → IsUpToStep last_step e
run_end_up_to q target budget e few (inl h) = start_up_to e h.1
run_end_up_to q target budget e few (inr h) = solve_end_up_to _ _ _ budget e few h.1

cause_by_end : (v : NamesView) (q : ProblemView) (target : Terms) (c : Cause) (e : RunEndView (List (ℕ × Rational)) (List Rational)) → IsUpToStep last_step e
    → Follows q target e (proof_views.Undecided c) → IsCauseFor v c
cause_by_end v q target c (Weights ws) b (inl h) = let e = h.3 in absurd (cc)
cause_by_end v q target c (Weights ws) b (inr h) = subst (IsCauseFor v) (undecided_same causes.Scale c (sym h.1)) tt
cause_by_end v q target c (Point qs) b (inl h) = let e = h.1 in absurd (cc)
cause_by_end v q target c (Point qs) b (inr h) = subst (IsCauseFor v) (undecided_same causes.Scale c (sym h.1)) tt
cause_by_end v q target c (Pivots k) b e = subst (IsCauseFor v) (undecided_same (causes.Pivots k) c (sym e)) (let l : k < 2 ^ 32 = omega (arith, b) in l)
cause_by_end v q target c (Width k) b e = subst (IsCauseFor v) (undecided_same (causes.Width k) c (sym e)) (let l : k < 2 ^ 32 = omega (arith, b) in l)

-- ---- certificates

pairs_below : (ds : List Demand) → length ds ≤ 2 ^ 32 → (from : ℕ) (ts : Terms) → Ascends from ts → All (IsAllowedWeight ds) ts → All IsNumberedAmount ts
pairs_below ds few from [] a all = All-nil IsNumberedAmount
pairs_below ds few from (t ∷ ts) a all =
    let h = All-head (IsAllowedWeight ds) t ts all in
    let l : t.0 < 2 ^ 32 = let below = h.0 in omega (arith, below, few) in
    All-cons IsNumberedAmount t ts (l, a.2) (pairs_below ds few (t.0 + 1) ts a.3 (All-tail (IsAllowedWeight ds) t ts all))

-- a proof of a target has such a shape, whichever run it comes from
scaled_proof : (p : ProblemView) (effort : Effort) (t : Terms) (w : CertificateView) → EndsWith p t effort (proof_views.Yes w) → IsScaled w
scaled_proof p effort t w (inl e) = scaled_by_end p t w e.end e.follows
scaled_proof p effort t w (inr e) = let settled = quick_yes effort.runs p t w e in record { scale = settled.2; canonical = settled.1 }

-- proofs of targets and of obligations have such a shape
pub proofs_scaled : (p : ProblemView) (effort : Effort) (ts : List Terms) (ws : List CertificateView) → AreProofsOf p effort ts ws → All IsScaled ws
proofs_scaled p effort [] [] d = All-nil IsScaled
proofs_scaled p effort [] (w ∷ ws) d = absurd d
proofs_scaled p effort (t ∷ ts) [] d = absurd d
proofs_scaled p effort (t ∷ ts) (w ∷ ws) d = All-cons IsScaled w ws (scaled_proof p effort t w d.0) (proofs_scaled p effort ts ws d.1)

module _ (q : BodyView) (p : ProblemView) (space : p.space ≡ space_of (problem_names q)) (limits : IsProblem p)
    (stated : AllZip (States p.space) (question_demands q) p.constraints) where
  demands_counted : length (question_demands q) ≤ 2 ^ 20
  demands_counted =
      let same = zip-length (States p.space) (question_demands q) p.constraints stated in
      omega (arith, same, limits.few)

  few_variables : variable_count q ≤ most_variables
  few_variables = subst (λ (s : Space). s.variables ≤ most_variables) space limits.space.few

  few_generators : length (all_demands (variable_count q) (question_demands q)) ≤ 2 ^ 32
  unfolding all_demands
  few_generators =
      let n = variable_count q in
      let es = map (demand_of_elemental (variable_count q)) (elementals (variable_count q)) in
      let sum = length-append es (question_demands q) in
      let first = length-map (elementals (variable_count q)) (demand_of_elemental (variable_count q)) in
      let e : most_elementals + 2 ^ 20 ≤ 2 ^ 32 = lit≤ tt in
      omega (arith, sum, first, few_elementals (variable_count q) few_variables, demands_counted, e)

  -- certificates by the text, of such a shape, are numbered
  pub all_numbered : (fs : List Form) (ws : List CertificateView) → CertifyAll q fs ws → All IsScaled ws → All IsNumbered ws
  all_numbered fs [] c d = All-nil IsNumbered
  all_numbered [] (w ∷ ws) c d = absurd c
  all_numbered (f ∷ fs) (w ∷ ws) c d =
      let s = All-head IsScaled w ws d in
      All-cons IsNumbered w ws (record {
        scale = s.scale;
        weights = pairs_below
            (all_demands (variable_count q) (question_demands q)) few_generators 0 w.weights s.canonical c.0.allowed;
      })
      (all_numbered fs ws c.1 (All-tail IsScaled w ws d))

  pub all_counted : (fs : List Form) (ws : List CertificateView) → CertifyAll q fs ws → length ws ≡ length fs
  all_counted [] [] c = refl
  all_counted [] (w ∷ ws) c = absurd c
  all_counted (f ∷ fs) [] c = absurd c
  all_counted (f ∷ fs) (w ∷ ws) c = ap suc (all_counted fs ws c.1)

module _ (q : BodyView) (posed : IsProblemOf q (problem_of q)) where
  -- ---- points

  values_of_no : (effort : Effort) (t : Terms) (values : List ℤ) → EndsWith (problem_of q) t effort (proof_views.No values) → All IsWithin values
  values_of_no effort t values (inl e) = values_by_end (problem_of q) t posed.limits values e.end e.follows
  values_of_no effort t values (inr e) = (quick_no effort.runs (problem_of q) t values e).1

  values_due : (effort : Effort) (ts : List Terms) (back : Bool) (values : List ℤ) → PointIsDue (problem_of q) effort ts back values → All IsWithin values
  values_due effort [] back values d = absurd d
  values_due effort (t ∷ ts) false values d = values_of_no effort t values d
  values_due effort (t ∷ []) true values d = absurd d
  values_due effort (t ∷ u ∷ ts) true values d = values_of_no effort u values d.1

  second_only : (s : Sign) (f : Form) (back : Bool) (values : List ℤ) → Refutes q (inequalities_of (kind_of s) f) back values → back ≡ true
      → is_equation (kind_of s) ≡ true
  second_only AtLeast f true values c e = absurd c
  second_only AtMost f true values c e = absurd c
  second_only Equal f back values c e = refl
  second_only AtLeast f false values c e = absurd (cc)
  second_only AtMost f false values c e = absurd (cc)

  -- ---- causes

  cause_of_target : (effort : Effort) → IfSome effort.pivots (λ n. n < 2 ^ 32) → (t : Terms) (c : Cause)
      → EndsWith (problem_of q) t effort (proof_views.Undecided c) → IsCauseFor q.names c
  cause_of_target effort few t c (inl e) = cause_by_end q.names (problem_of q) t c e.end
      (run_end_up_to (problem_of q) t effort.pivots e.end few e.run) e.follows
  cause_of_target effort few t c (inr e) =
      subst (IsCauseFor q.names) (sym (quick_cause effort.runs (problem_of q) t c e)) (let l : 0 < 2 ^ 32 = omega arith in l)

  cause_due : (effort : Effort) → IfSome effort.pivots (λ n. n < 2 ^ 32) → (ts : List Terms) (c : Cause)
      → CauseIsDue (problem_of q) effort ts c → IsCauseFor q.names c
  cause_due effort few [] c d = absurd d
  cause_due effort few (t ∷ ts) c (inl e) = cause_of_target effort few t c e
  cause_due effort few (t ∷ ts) c (inr d) = cause_due effort few ts c d.1

-- ---- causes that name no rate

abbrev NamesNone : Cause → Type 0
NamesNone c = IfRate (λ r. ⊥) c

end_names_none : (q : ProblemView) (target : Terms) (c : Cause) (e : RunEndView (List (ℕ × Rational)) (List Rational))
    → Follows q target e (proof_views.Undecided c) → NamesNone c
end_names_none q target c (Weights ws) (inl h) = let e = h.3 in absurd (cc)
end_names_none q target c (Weights ws) (inr h) = subst NamesNone (undecided_same causes.Scale c (sym h.1)) tt
end_names_none q target c (Point qs) (inl h) = let e = h.1 in absurd (cc)
end_names_none q target c (Point qs) (inr h) = subst NamesNone (undecided_same causes.Scale c (sym h.1)) tt
end_names_none q target c (Pivots k) e = subst NamesNone (undecided_same (causes.Pivots k) c (sym e)) tt
end_names_none q target c (Width k) e = subst NamesNone (undecided_same (causes.Width k) c (sym e)) tt

target_names_none : (p : ProblemView) (effort : Effort) (t : Terms) (c : Cause) → EndsWith p t effort (proof_views.Undecided c) → NamesNone c
target_names_none p effort t c (inl e) = end_names_none p t c e.end e.follows
target_names_none p effort t c (inr e) = subst NamesNone (sym (quick_cause effort.runs p t c e)) tt

due_names_none : (p : ProblemView) (effort : Effort) (ts : List Terms) (c : Cause) → CauseIsDue p effort ts c → NamesNone c
due_names_none p effort [] c d = absurd d
due_names_none p effort (t ∷ ts) c (inl e) = target_names_none p effort t c e
due_names_none p effort (t ∷ ts) c (inr d) = due_names_none p effort ts c d.1

none_is_any : (P : ℕ → Type 0) (c : Cause) → NamesNone c → IfRate P c
none_is_any P (causes.Pivots steps) h = tt
none_is_any P (causes.Width step) h = tt
none_is_any P causes.Scale h = tt
none_is_any P (causes.Rows r) h = absurd h
none_is_any P (causes.WideRate r) h = absurd h

-- the answer that is due of a relation can be written with any names
pub due_is_writable : (effort : Effort) (q : BodyView) (r : RelationView) (v : NamesView) (a : AnswerView) → IsDueRelation effort q r a → IsWritable v a
due_is_writable effort q r v (Yes ws) due = tt
due_is_writable effort q r v (No back values) due = tt
due_is_writable effort q r v (Undecided cause) due = none_is_any (IsAsciiRate v) cause
    (due_names_none (problem_of q) effort (map (terms_in q) (targets (variable_count q) r)) cause due)
due_is_writable effort q r v (Region rows) due = tt
due_is_writable effort q r v (Contained parts proofs) due = tt
due_is_writable effort q r v (Open tried) due = tt

-- a right answer to `prove` fits its question
pub right_prove_fits : (effort : Effort) (q : BodyView) (r : RelationView) (a : AnswerView) → IfSome effort.pivots (λ n. n < 2 ^ 32)
    → IsProblemOf q (problem_of q) → q.verb ≡ Prove r → ShowsBy q (Prove r) a → IsDueRelation effort q r a
    → HasVerbShape q.names (Prove r) a
right_prove_fits effort q r (Yes ws) few posed verb shown due = (
  all_counted q (problem_of q) posed.space posed.limits posed.constraints.stated (targets (variable_count q) r) ws shown
      ∙ targets_counted (variable_count q) (length q.names.variables) r,
  all_numbered q (problem_of q) posed.space posed.limits posed.constraints.stated (targets (variable_count q) r) ws shown
      (proofs_scaled (problem_of q) effort (map (terms_in q) (targets (variable_count q) r)) ws due),
)
right_prove_fits effort q r (No back values) few posed verb shown due =
    let own : space_of (problem_names q) ≡ space_of q.names = ap (λ (v : _). space_of (names_under q.names v)) verb in (
      point_size q (targets (variable_count q) r) back values shown ∙ ap size_of own,
      values_due q posed effort (map (terms_in q) (targets (variable_count q) r)) back values due,
      second_only q posed r.sign (form_of (variable_count q) r) back values shown,
    )
right_prove_fits effort q r (Undecided cause) few posed verb shown due = cause_due q posed effort few
    (map (terms_in q) (targets (variable_count q) r)) cause due
right_prove_fits effort q r (Region rows) few posed verb shown due = absurd shown
right_prove_fits effort q r (Contained parts proofs) few posed verb shown due = absurd shown
right_prove_fits effort q r (Open tried) few posed verb shown due = absurd shown

-- ---- eliminations that end with a cause

answer_cause_same : (c d : Cause) → Undecided c ≡ Undecided d → c ≡ d
answer_cause_same c d e = cc

-- A cause of an elimination fits, where each listed rate is found by its name, and the name is no number.
pub eliminated_cause_fits : (budgets : Budgets) (q : BodyView) (rates : List ℕ) (cause : Cause)
    → ((r : ℕ) → Member r rates → IsFoundIn q.names r × (step_of (get_or q.names.rates r []) ≡ None))
    → IsDueElimination budgets q rates (Undecided cause) → IsCauseFor q.names cause
eliminated_cause_fits budgets q rates cause named due =
    by_end due.end (end_of_rates (problem_of q) budgets.effort budgets.rows
    (map (terms_in q) (system_forms (variable_count q) q.lines.rows)) [] [] rates due.end due.ends) due.is
  where
    by_end : (end : ProjectedView) → IsEndOf rates end → Undecided cause ≡ answer_of_end end → IsCauseFor q.names cause
    by_end (projections.Region kept dropped) h is = absurd (cc)
    by_end (projections.Rows r) h is = subst (IsCauseFor q.names) (sym (answer_cause_same cause (causes.Rows r) is)) (named r h).0
    by_end (projections.Wide r) h is = subst (IsCauseFor q.names) (sym (answer_cause_same cause (causes.WideRate r) is)) (named r h)

-- ---- weights other than 0

weights_are_some : (from : ℕ) (ts : Terms) → Ascends from ts → filter is_nonzero_weight ts ≡ ts
weights_are_some from [] a = refl
weights_are_some from (t ∷ ts) a = ap (λ b. cond b (t ∷ filter is_nonzero_weight ts) (filter is_nonzero_weight ts)) (nonzero_passes t.1 a.1)
    ∙ ap (λ zs. t ∷ zs) (weights_are_some (t.0 + 1) ts a.3)

-- A certificate whose weights ascend is written whole.
pub all_weights_written : (ws : List CertificateView) → All (λ w. IsCanonical w.weights) ws → map without_zeros ws ≡ ws
all_weights_written [] all = refl
all_weights_written (w ∷ ws) all =
    ap (λ ps. record { scale = w.scale; weights = ps } ∷ map without_zeros ws)
    (weights_are_some 0 w.weights (All-head (λ (w : CertificateView). IsCanonical w.weights) w ws all))
    ∙ ap (λ vs. w ∷ vs) (all_weights_written ws (All-tail (λ (w : CertificateView). IsCanonical w.weights) w ws all))
