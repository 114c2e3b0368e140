use Rattle.std.proofs.Common.{◌≡◌, ◌∙◌, ◌<◌, ◌↔◌, ℕ, ℤ, pos, All, sym, subst}
use Rattle.it_space.specs.declared.spaces.Space.{Space}
use Rattle.it_space.specs.Answers.{answer_view}
use Rattle.it_syntax.specs.Meaning.{Holds}
use Rattle.it_demand.specs.SystemForms.{AreAtLeastZero}
use Rattle.it_redundant.specs.ReducedElimination.{projected_view}
use Rattle.it_canon.proofs.PosesLemmas.{one_problem}
use Rattle.it_answer.proofs.GivenLemmas.{space_of_names, met_where_true, few_constraints, constraints_of_sets, rates_of_question}
use Rattle.it_answer.proofs.AnswerLemmas.{left_of_rows, nothing_found}
use Rattle.it_answer.proofs.RegionLemmas.{region_is_due, region_shows, system_rows_are}
use Rattle.it_answer.proofs.regions.region.Goals as goal

pub project-requires-clause-rates : goal.project-requires-clause-rates
project-requires-clause-rates c =
    subst (λ (s : Space). All (λ r. r < s.rates) c.args.rates.now) (sym c.in_ok-system.ensures.space)
    (rates_of_question c.args.question.now.body c.args.rates.now c.requires.eliminates c.facts.ensures).within

pub project-requires-clause-some : goal.project-requires-clause-some
project-requires-clause-some c = (rates_of_question c.args.question.now.body c.args.rates.now c.requires.eliminates c.facts.ensures).some

pub project-requires-clause-system : goal.project-requires-clause-system
project-requires-clause-system c = record {
  system = c.in_ok-system.ensures.limits;
  givens = c.requires.givens.limits;
  space = c.in_ok-system.ensures.space ∙ sym (space_of_names c.args.question.now.body c.args.rates.now c.args.givens.now
      c.requires.eliminates c.requires.givens);
  few_givens = few_constraints c.args.question.now.body c.args.rates.now c.args.givens.now c.requires.eliminates
      c.requires.givens c.facts.ensures;
}

pub project-requires-clause-sets : goal.project-requires-clause-sets
project-requires-clause-sets c =
    constraints_of_sets c.args.question.now.body c.args.rates.now c.args.givens.now c.requires.eliminates c.requires.givens c.facts.ensures

pub returns : goal.returns
returns c =
    let q = c.args.question.now.body in
    let rates = c.args.rates.now in
    let givens = c.args.givens.now in
    let rows = c.in_ok-system.system.rows.items in
    let end = projected_view c.in_ok-end.end in
    let same = space_of_names q rates givens c.requires.eliminates c.requires.givens in
    let of_system = c.in_ok-system.ensures.space ∙ sym same in
    let met = met_where_true q rates givens c.requires.eliminates c.requires.givens in
    let rows_met = subst (λ (s : Space). (p : ℕ → ℤ) → p 0 ≡ pos 0 → AreAtLeastZero p rows ↔ All (Holds s.variables p) q.lines.rows)
    of_system c.in_ok-system.ensures.met in
    let shown = region_shows q rates givens rows same met rows_met end (answer_view c.in_ok-answer.answer) c.in_ok-end.ensures.region c.in_ok-answer.ensures in
    let due =
    region_is_due c.args.budgets q rates givens rows end (answer_view c.in_ok-answer.answer) (one_problem q givens c.requires.givens)
    (system_rows_are q c.in_ok-system.system.space rows (of_system ∙ c.requires.givens.space) c.in_ok-system.ensures.rows)
    c.in_ok-end.ensures.ends c.in_ok-answer.ensures in
    λ plans. nothing_found c.args.budgets plans c.args.question.now c.in_ok-answer.answer
    (left_of_rows c.args.budgets plans q rates (answer_view c.in_ok-answer.answer) c.requires.eliminates shown due)
