-- What is proved of the rows of a pair is proved of the text; from what a search ends with to the answer.
use Rattle.std.proofs.Common.{◌≡◌, ℕ, ◌<◌, ◌^◌, ℤ, pos, ◌≤ℤ◌, List, [], ◌∷◌, length, map, All, refl, sym, ap, ap₂, subst, ◌∙◌}
use Rattle.std.proofs.lemmas.List.Elements.{All-nil, All-cons}
use Rattle.it_space.specs.declared.spaces.Space.{Space}
use Rattle.it_space.specs.Answers.{AnswerView, CertificateView}
use Rattle.it_problems.specs.Problems.{ProblemView, AreMet}
use Rattle.it_space.specs.Rows.{Terms, value}
use Rattle.it_space.specs.Spaces.{size_of}
use Rattle.it_polymatroid.specs.Certificates.{Form}
use Rattle.it_polymatroid.specs.Polymatroid.{IsPolymatroid}
use Rattle.it_question.specs.Limits.{IsQuestion}
use Rattle.it_question.specs.OwnLines.{OwnLinesView, RegionView}
use Rattle.it_question.specs.Questions.{BodyView, Contain}
use Rattle.it_canon.specs.QuestionDemands.{problem_of, terms_in}
use Rattle.it_canon.specs.TrueLines.{AreTrueAt}
use Rattle.it_canon.proofs.PosesLemmas.{one_problem}
use Rattle.it_demand.specs.RowsOfForms.{terms_of_form}
use Rattle.it_demand.specs.QuestionSpaces.{space_of}
use Rattle.it_demand.specs.SystemForms.{AreAtLeastZero}
use Rattle.it_question.specs.ProblemLines.{problem_names, names_under, problem_lines, lines_under}
use Rattle.it_canon.proofs.ProblemLemmas.{question_met}
use Rattle.it_check.proofs.Truth.{yes_is_true}
use Rattle.it_prove.specs.ProofViews.{Yes, EndsWith, AreProofsOf}
use Rattle.it_prove.proofs.RightLemmas.{ends_are_right}
use Rattle.it_prove.specs.declared.types.Effort.{Effort}
use Rattle.it_region.specs.declared.types.Candidate.{Candidate}
use Rattle.it_region.specs.declared.types.Pair.{Pair}
use Rattle.it_region.specs.Obligations.{ArePulledRows, obligations}
use Rattle.it_region.specs.Pairs.{FitsPair, IsPair, IsPairOf, IsContainment, pair_obligations}
use Rattle.it_region.specs.Regions.{IsIn}
use Rattle.it_region.proofs.ExistenceLemmas.{pair_rows_there}
use Rattle.it_region.proofs.RegionLemmas.{obligations_contain}
use Rattle.it_region.proofs.RowLemmas.{rows_same}
use Rattle.it_region.proofs.TextLemmas.{candidate_parts, text_rows, text_terms, parts_are}
use Rattle.it_contain.specs.declared.types.Contained.{Contained}
use Rattle.it_contain.specs.declared.types.Shape.{Shape}
use Rattle.it_contain.specs.declared.types.Contained.TheVariants.{Found, Open}
use Rattle.it_contain.specs.Proposals.{Plan, plan_after_all}
use Rattle.it_contain.specs.Shapes.{shape_of}
use Rattle.it_contain.specs.Search.{SearchEnds, IsProof, IsProofOf, IsUnproved, LeavesSome, Proofs, pair_goal, plan_of, proof_views}
use Rattle.it_contain.proofs.OneEndLemmas.{first_by_other, open_by_other}
use Rattle.it_contain.proofs.PlanLemmas.{after_none}
use Rattle.it_answer.specs.declared.types.Budgets.{Budgets}
use Rattle.it_answer.specs.Forms.{CertifyAll}
use Rattle.it_answer.specs.Shows.{ShowsBy, ShowsContained}
use Rattle.it_answer.specs.DueContainments.{tried_of, FitsRegions, containment_goal, IsDueContainment}
use Rattle.it_answer.specs.RightAnswers.{IsDueAnswer}
use Rattle.it_answer.specs.SearchAnswers.{answer_of_search, found_of}
use Rattle.it_answer.proofs.AnswerLemmas.{right_by_verb, show_certificate}

module _ (q : BodyView) (a b : RegionView) (tries : List (List ℕ)) (p : Pair) (k : IsQuestion q) (is : q.verb ≡ Contain a b tries)
    (l : IsPair p) (o : IsPairOf q a b p) where
  first_is : p.first.space ≡ space_of (problem_names q)
  first_is = o.first_space ∙ sym (ap (λ m. space_of (names_under q.names m)) is)

  n_is : p.first.space.variables ≡ length a.names.variables
  n_is = ap (λ (s : Space). s.variables) o.first_space

  problem_is : p.first ≡ problem_of q
  problem_is = one_problem q p.first (record { space = first_is; limits = l.problem; constraints = o.first })

  -- ---- what proves a candidate, by the pair and by the text

  terms_are : (c : Candidate) → map (terms_of_form (size_of p.first.space)) (pair_obligations p c) ≡ map (terms_in q) (obligations q a b (candidate_parts c))
  terms_are c = text_terms q a b p o (size_of p.first.space) c ∙ ap (λ (s : Space). map (terms_of_form (size_of s))
      (obligations q a b (candidate_parts c))) first_is

  fits_text : (c : Candidate) → FitsPair p c → FitsRegions a b c
  fits_text c f = record { places = f.complete; count = f.count ∙ o.parts; within = subst (λ (n : ℕ). All (λ s. s < 2 ^ n) (candidate_parts c)) n_is f.within }

  fits_pair : (c : Candidate) → FitsRegions a b c → FitsPair p c
  fits_pair c f = record {
    complete = f.places;
    count = f.count
        ∙ sym o.parts;
    within = subst (λ (n : ℕ). All (λ s. s < 2 ^ n) (candidate_parts c)) (sym n_is) f.within;
  }

  by_text : (effort : Effort) (c : Candidate) (ws : List CertificateView) → IsProofOf (pair_goal p effort) c ws → IsProofOf (containment_goal q a b effort) c ws
  by_text effort c ws g = record {
    fits = fits_text c g.fits;
    proofs = subst (λ (x : ProblemView). AreProofsOf x effort (map (terms_in q) (obligations q a b (candidate_parts c))) ws) problem_is
        (subst (λ (ts : List Terms). AreProofsOf p.first effort ts ws) (terms_are c) g.proofs);
  }

  unproved_text : (effort : Effort) (c : Candidate) → IsUnproved (pair_goal p effort) c → IsUnproved (containment_goal q a b effort) c
  unproved_text effort c n f = subst (λ (x : ProblemView). LeavesSome (λ t o. EndsWith x t effort o)
      (map (terms_in q) (obligations q a b (candidate_parts c)))) problem_is
      (subst (λ (ts : List Terms). LeavesSome (λ t o. EndsWith p.first t effort o) ts) (terms_are c) (n (fits_pair c f)))

  shape_is : shape_of p ≡ record { variables = length a.names.variables; parts = b.auxiliaries }
  shape_is = ap₂ (λ n m. let s : Shape = record { variables = n; parts = m } in s) n_is o.parts

  -- ---- certificates by forms

  all_certified : (effort : Effort) (fs : List Form) (ts : List Terms) (ws : List CertificateView) → ArePulledRows p.first.space fs ts
      → AreProofsOf p.first effort ts ws → CertifyAll q fs ws
  all_certified effort [] [] [] r c = tt
  all_certified effort [] [] (w ∷ ws) r c = absurd c
  all_certified effort [] (t ∷ ts) ws r c = absurd r
  all_certified effort (f ∷ fs) [] ws r c = absurd r
  all_certified effort (f ∷ fs) (t ∷ ts) [] r c = absurd c
  all_certified effort (f ∷ fs) (t ∷ ts) (w ∷ ws) r c = (
    show_certificate q p.first first_is o.first l.problem f t w r.0.coordinates r.0.same
        (ends_are_right p.first t effort (Yes w) l.problem r.0.coordinates c.0).0,
    all_certified effort fs ts ws r.1 c.1,
  )

  -- ---- and so the obligations hold

  module _ (h : ℕ → ℤ) (inside : IsIn q.lines a h) where
    constraints_met : AreMet h p.first.constraints
    constraints_met =
        let lines : AreTrueAt (length a.names.variables) h (problem_lines q) = subst
        (λ (own : OwnLinesView). AreTrueAt (length a.names.variables) h own) (sym (ap (lines_under q.lines) is)) inside.lines_hold in
        (question_met q p.first.space p.first.constraints first_is o.first h inside.polymatroid.empty).1
        (subst (λ (n : ℕ). AreTrueAt n h (problem_lines q)) (sym n_is) lines)

    rows_hold : (effort : Effort) (fs : List Form) (ts : List Terms) (ws : List CertificateView) → ArePulledRows p.first.space fs ts
        → AreProofsOf p.first effort ts ws → AreAtLeastZero h ts
    rows_hold effort [] [] ws r c = All-nil (λ (row : Terms). pos 0 ≤ℤ value row h)
    rows_hold effort [] (t ∷ ts) ws r c = absurd r
    rows_hold effort (f ∷ fs) [] ws r c = absurd r
    rows_hold effort (f ∷ fs) (t ∷ ts) [] r c = absurd c
    rows_hold effort (f ∷ fs) (t ∷ ts) (w ∷ ws) r c = All-cons (λ (row : Terms). pos 0 ≤ℤ value row h) t ts
        (yes_is_true p.first t w l.problem r.0.coordinates (ends_are_right p.first t effort (Yes w) l.problem r.0.coordinates c.0).0 h
        (subst (λ (n : ℕ). IsPolymatroid n h) (sym n_is) inside.polymatroid) constraints_met) (rows_hold effort fs ts ws r.1 c.1)

  proofs_show_containment : (effort : Effort) (c : Candidate) (ws : List CertificateView) → IsProofOf (pair_goal p effort) c ws
      → ShowsContained q a b (candidate_parts c) ws
  proofs_show_containment effort c ws g =
      let fs : List Form = obligations q a b (candidate_parts c) in
      let ts : List Terms = map (terms_of_form (size_of p.first.space)) (pair_obligations p c) in
      let rows = text_rows q a b p o c ts (pair_rows_there p c l g.fits) in
      let parts = parts_are q a b p o c l g.fits in
      record {
        are_parts = parts;
        certified = all_certified effort fs ts ws rows g.proofs;
        lies = obligations_contain q a b tries (candidate_parts c) k is parts
            (λ h inside. (rows_same p.first.space fs ts h inside.polymatroid.empty rows).0
            (rows_hold h inside effort fs ts ws rows g.proofs));
      }

  -- ---- the answer

  proof_by : (effort : Effort) (c : Candidate) (w : Proofs) → IsProof (pair_goal p effort) c w → IsProofOf (pair_goal p effort) c (proof_views w)
  unfolding IsProof
  proof_by effort c w g = g

  module _ (budgets : Budgets) (plans plans_after : List Plan) where
    -- the candidates of the question
    abbrev plan : List Candidate
    plan = plan_of (tried_of b tries) plans (record { variables = length a.names.variables; parts = b.auxiliaries })

    right_search : (end : Contained) → SearchEnds (pair_goal p budgets.effort) budgets.tries plan plans end plans_after
        → ShowsBy q (Contain a b tries) (answer_of_search end)
        × IsDueContainment budgets plans q a b tries (record { answer = answer_of_search end; found = found_of end })
    right_search (Found c w) e =
        let proofs = proof_by budgets.effort c w e.1 in (
          proofs_show_containment budgets.effort c (proof_views w) proofs,
          record {
            candidate = c;
            found_is = refl;
            first = first_by_other (pair_goal p budgets.effort) (containment_goal q a b budgets.effort) (by_text budgets.effort)
                (unproved_text budgets.effort) budgets.tries plan c e.0;
            parts_are = refl;
            proofs = by_text budgets.effort c (proof_views w) proofs;
          },
        )
    right_search (Open t) e = (
      tt,
      (
        open_by_other (pair_goal p budgets.effort) (containment_goal q a b budgets.effort)
            (by_text budgets.effort) (unproved_text budgets.effort) budgets.tries plan t e.0,
        refl,
      ),
    )

    learned_search : (end : Contained) → SearchEnds (pair_goal p budgets.effort) budgets.tries plan plans end plans_after
        → plans_after ≡ map (plan_after_all (found_of end)) plans
    learned_search (Found c w) e = e.2
    learned_search (Open t) e = e.1 ∙ sym (after_none plans)

    pub question_is_answered : (end : Contained) (first : List Candidate) (answer : AnswerView) → first ≡ tried_of b tries → answer ≡ answer_of_search end
        → SearchEnds (pair_goal p budgets.effort) budgets.tries (plan_of first plans (shape_of p)) plans end plans_after
        → IsDueAnswer budgets plans q (record { answer = answer; found = found_of end }) × (plans_after ≡ map (plan_after_all (found_of end)) plans)
    question_is_answered end first answer first_are answer_is e =
        let ends : SearchEnds (pair_goal p budgets.effort) budgets.tries plan plans end plans_after =
        subst (λ (cs : List Candidate). SearchEnds (pair_goal p budgets.effort) budgets.tries cs plans end plans_after)
        (ap₂ (λ cs s. plan_of cs plans s) first_are shape_is) e in
        let right = right_search end ends in (
          subst (λ (x : AnswerView). IsDueAnswer budgets plans q (record { answer = x; found = found_of end })) (sym answer_is)
              (right_by_verb budgets plans q (Contain a b tries) (record { answer = answer_of_search end; found = found_of end }) is right.0 right.1),
          learned_search end ends,
        )

pub is_containment : (q : BodyView) (a b : RegionView) (tries : List (List ℕ)) → q.verb ≡ Contain a b tries → IsContainment q.verb
is_containment q a b tries is = subst IsContainment (sym is) tt
