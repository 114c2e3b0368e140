-- A question of a file poses a problem, and one about a relation the rows of its targets.
use Rattle.std.proofs.Common.{◌≡◌, ℕ, List, [], ◌∷◌, map, length, length-append, flat_map, All, refl, sym, ap, subst, arith}
use Rattle.std.specs.List.{AllByRecursion as Every}
use Rattle.it_space.specs.declared.spaces.Space.{Space}
use Rattle.it_problems.specs.declared.problems.Constraint.{Constraint}
use Rattle.it_problems.specs.declared.problems.Origin.{Origin}
use Rattle.it_problems.specs.Problems.{ProblemView}
use Rattle.it_space.specs.Rows.{Terms}
use Rattle.it_space.specs.Bounds.{most_mass}
use Rattle.it_space.specs.Spaces.{size_of}
use Rattle.it_space.proofs.EveryLemmas.{every_of, all_of, every-append}
use Rattle.it_polymatroid.specs.Certificates.{Form}
use Rattle.it_syntax.specs.Givens.{IsRelationOf, IsGivenOf}
use Rattle.it_syntax.specs.Meaning.{RelationView}
use Rattle.it_syntax.specs.NamesViews.{NamesView}
use Rattle.it_question.specs.declared.sizes.FileLimits.{FileLimits}
use Rattle.it_question.specs.Files.{IsFileWithin}
use Rattle.it_question.specs.Limits.{IsVerbOver, IsQuestion}
use Rattle.it_question.specs.OwnLines.{OwnLinesView}
use Rattle.it_question.specs.Questions.{VerbView, Prove, Eliminate, Contain, BodyView, QuestionView}
use Rattle.it_question.proofs.FileReadings.{file_limits}
use Rattle.it_question.proofs.NumberLemmas.{HasSmallNumbers, GivenHasSmallNumbers, VerbHasSmallNumbers, QuestionHasSmallNumbers, file_has_small_numbers}
use Rattle.it_demand.specs.Demands.{Demand, demand_of, demands}
use Rattle.it_demand.specs.Origins.{AreStated, given_origins, row_origins}
use Rattle.it_demand.proofs.LimitLemmas.{given_origins-length, row_origins-length}
use Rattle.it_demand.specs.SystemForms.{AreRowsOf, system_forms}
use Rattle.it_demand.specs.QuestionSpaces.{space_of}
use Rattle.it_question.specs.LineDemands.{line_demands}
use Rattle.it_question.specs.ProblemLines.{givens_alone, lines_with, problem_names, problem_lines, names_under, lines_under}
use Rattle.it_question.specs.LineOrigins.{line_origins}
use Rattle.it_canon.specs.TrueLines.{variable_count}
use Rattle.it_canon.specs.QuestionDemands.{question_demands, question_origins, problem_of, terms_in, IsProblemOf}
use Rattle.it_demand.specs.Targets.{targets}
use Rattle.it_demand.specs.Canonical.{IsRowOf}
use Rattle.it_demand.proofs.FormRows.{row_is_terms_of_form, rows_are_terms_of_forms}
use Rattle.it_canon.specs.Sides.{left_form, right_form}
use Rattle.it_canon.specs.Theorems.{QuestionHasProblem, RelationHasRows}
use Rattle.it_canon.proofs.DemandForms.{AreDemandsUpTo, lines_up_to, sides_up_to, targets_up_to}
use Rattle.it_canon.proofs.PosesLemmas.{one_problem}
use Rattle.it_canon.proofs.ProblemLemmas.{question_problem}
use Rattle.it_canon.proofs.QuestionLemmas.{shared_givens, shared_rows}
use Rattle.it_canon.proofs.SmallForms.{IsFormUpTo, row_there}

-- there is an origin for each demand
origins_length : (n : ℕ) (own : OwnLinesView) → length (line_origins n own) ≡ length (line_demands n own)
origins_length n own = omega (
  arith,
  length-append (given_origins n 1 own.givens) (row_origins 1 own.rows),
  length-append (flat_map (demands n) own.givens) (map (demand_of n) own.rows),
  given_origins-length n 1 own.givens,
  row_origins-length n 1 own.rows,
)

-- ---- constraints and rows

module _ (s : Space) where
  constraints_there : (places : List Origin) (ds : List Demand) → length places ≡ length ds
      → Every (λ (d : Demand). IsFormUpTo (size_of s) most_mass d.form) ds → (cs : List Constraint) × AreStated s places ds cs
  constraints_there [] [] e h = ([], record { placed = tt; stated = tt })
  constraints_there [] (d ∷ ds) e h = absurd (omega (arith, e))
  constraints_there (place ∷ places) [] e h = absurd (omega (arith, e))
  constraints_there (place ∷ places) (d ∷ ds) e h =
      let one = row_there s d.form h.0 in
      let rest = constraints_there places ds (omega (arith, e)) h.1 in
      let c : Constraint = record { row = one.0; kind = d.kind; origin = place } in
      (c ∷ rest.0, record { placed = (refl, rest.1.placed); stated = (record { row = one.1; kind = refl }, rest.1.stated) })

  pub rows_there : (fs : List Form) → Every (IsFormUpTo (size_of s) most_mass) fs → (ts : List Terms) × AreRowsOf s fs ts
  rows_there [] h = ([], tt)
  rows_there (f ∷ fs) h =
      let one = row_there s f h.0 in
      let rest = rows_there fs h.1 in
      (one.0 ∷ rest.0, (one.1, rest.1))

-- ---- the problem of a question

module _ (q : BodyView) (k : IsQuestion q) (small : QuestionHasSmallNumbers q) where
  abbrev own_space : Space
  own_space = space_of (problem_names q)

  problem_up_to : AreDemandsUpTo own_space.variables own_space.rates (question_demands q)
  problem_up_to = by_verb q.verb k.verb small.1 (shared_givens q own_space k refl) (shared_rows q own_space k refl)
    where
      by_verb : (verb : VerbView) → IsVerbOver q.names verb → VerbHasSmallNumbers verb
          → All (IsGivenOf (length (names_under q.names verb).variables)) q.lines.givens
          → All (IsRelationOf (length (names_under q.names verb).variables) (length (names_under q.names verb).rates)) q.lines.rows
          → AreDemandsUpTo (length (names_under q.names verb).variables) (length (names_under q.names verb).rates)
          (line_demands (length (names_under q.names verb).variables) (lines_under q.lines verb))
      by_verb (Prove r) over counts givens rows = lines_up_to _ _ q.lines (every_of _ q.lines.givens givens) (every_of _ q.lines.rows rows) small.0
      by_verb (Eliminate rates) over counts givens rows = lines_up_to _ _ (givens_alone q.lines) (every_of _ q.lines.givens givens) tt (small.0.0, tt)
      by_verb (Contain first second tries) over counts givens rows =
          let n = length first.names.variables in
          let m = length first.names.rates in
          lines_up_to n m (lines_with q.lines first)
          (every-append (IsGivenOf n) q.lines.givens first.lines.givens (every_of (IsGivenOf n) q.lines.givens givens)
          (every_of (IsGivenOf n) first.lines.givens over.0.lines.givens))
          (every-append (IsRelationOf n m) q.lines.rows first.lines.rows (every_of (IsRelationOf n m) q.lines.rows rows)
          (every_of (IsRelationOf n m) first.lines.rows over.0.lines.rows)) (
            every-append GivenHasSmallNumbers q.lines.givens first.lines.givens small.0.0 counts.0.0,
            every-append HasSmallNumbers
                q.lines.rows first.lines.rows small.0.1 counts.0.1,
          )

  pub question_poses : IsProblemOf q (problem_of q)
  question_poses =
      let cs = constraints_there own_space (question_origins q) (question_demands q)
      (origins_length (variable_count q) (problem_lines q)) problem_up_to in
      let p : ProblemView = record { space = own_space; constraints = cs.0 } in
      let is : IsProblemOf q p = record { space = refl; limits = question_problem q p k refl cs.1; constraints = cs.1 } in
      subst (IsProblemOf q) (one_problem q p is) is

  -- the rows of its relation's targets
  pub relation_rows : (r : RelationView) → q.verb ≡ Prove r
      → AreRowsOf own_space (targets (variable_count q) r) (map (terms_in q) (targets (variable_count q) r))
  relation_rows r about =
      let own : IsRelationOf (length q.names.variables) (length q.names.rates) r = subst (IsVerbOver q.names) about k.verb in
      let over : IsRelationOf own_space.variables own_space.rates r = subst
      (λ (v : NamesView). IsRelationOf (length v.variables) (length v.rates) r) (sym (ap (names_under q.names) about)) own in
      let rows = rows_there own_space (targets (variable_count q) r)
      (targets_up_to own_space.variables own_space.rates r over (subst VerbHasSmallNumbers about small.1)) in
      subst (AreRowsOf own_space (targets (variable_count q) r)) (rows_are_terms_of_forms own_space (targets (variable_count q) r) rows.0 rows.1) rows.1

  -- the rows of its relation's sides
  pub side_rows : (r : RelationView) → q.verb ≡ Prove r
      → IsRowOf own_space (left_form (variable_count q) r) (terms_in q (left_form (variable_count q) r))
      × IsRowOf own_space (right_form (variable_count q) r) (terms_in q (right_form (variable_count q) r))
  side_rows r about =
      let own : IsRelationOf (length q.names.variables) (length q.names.rates) r = subst (IsVerbOver q.names) about k.verb in
      let over : IsRelationOf own_space.variables own_space.rates r = subst
      (λ (v : NamesView). IsRelationOf (length v.variables) (length v.rates) r) (sym (ap (names_under q.names) about)) own in
      let up = sides_up_to own_space.variables own_space.rates r over (subst VerbHasSmallNumbers about small.1) in
      (row_of_form (left_form (variable_count q) r) up.0, row_of_form (right_form (variable_count q) r) up.1)
    where
      row_of_form : (f : Form) → IsFormUpTo (size_of own_space) most_mass f → IsRowOf own_space f (terms_in q f)
      row_of_form f up = let row = row_there own_space f up in subst (IsRowOf own_space f) (row_is_terms_of_form own_space f row.0 row.1) row.1

  -- the rows of its `row` lines
  system_up_to : (rs : List RelationView) → Every (IsRelationOf own_space.variables own_space.rates) rs → Every HasSmallNumbers rs
      → Every (IsFormUpTo (size_of own_space) most_mass) (system_forms own_space.variables rs)
  system_up_to [] h e = tt
  system_up_to (r ∷ rs) h e = every-append (IsFormUpTo (size_of own_space) most_mass) (targets own_space.variables r) (system_forms own_space.variables rs)
      (targets_up_to own_space.variables own_space.rates r h.0 e.0) (system_up_to rs h.1 e.1)

  pub system_rows : AreRowsOf own_space (system_forms (variable_count q) q.lines.rows) (map (terms_in q) (system_forms (variable_count q) q.lines.rows))
  system_rows =
      let fs = system_forms (variable_count q) q.lines.rows in
      let rows = rows_there own_space fs (system_up_to q.lines.rows
      (every_of (IsRelationOf own_space.variables own_space.rates) q.lines.rows (shared_rows q own_space k refl)) small.0.1) in
      subst (AreRowsOf own_space fs) (rows_are_terms_of_forms own_space fs rows.0 rows.1) rows.1

-- ---- the questions of a file

-- what follows from the limits and from small numbers
pub each_question : (P : QuestionView → Type 0) → ((q : QuestionView) → IsQuestion q.body → QuestionHasSmallNumbers q.body → P q)
    → (limits : FileLimits) (bytes : List ℕ) (qs : List QuestionView) → IsFileWithin limits bytes qs → All P qs
each_question P f limits bytes qs file = all_of P qs (every_from_both qs (every_of (λ (q : QuestionView). IsQuestion q.body) qs
    (file_limits limits bytes qs file)) (file_has_small_numbers limits bytes qs file))
  where
    every_from_both : (qs : List QuestionView) → Every (λ (q : QuestionView). IsQuestion q.body) qs
        → Every (λ (q : QuestionView). QuestionHasSmallNumbers q.body) qs → Every P qs
    every_from_both [] h k = tt
    every_from_both (q ∷ qs) h k = (f q h.0 k.0, every_from_both qs h.1 k.1)

pub file_has_problems : QuestionHasProblem
file_has_problems = each_question (λ q. IsProblemOf q.body (problem_of q.body)) (λ q k small. question_poses q.body k small)

pub file_has_rows : RelationHasRows
file_has_rows = each_question (λ q. (r : RelationView) → q.body.verb ≡ Prove r
    → AreRowsOf (space_of (problem_names q.body)) (targets (variable_count q.body) r)
    (map (terms_in q.body) (targets (variable_count q.body) r)))
    (λ q k small. relation_rows q.body k small)
