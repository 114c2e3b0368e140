use Rattle.std.proofs.Common.{map, rules, subst}
use Rattle.it_space.specs.declared.spaces.Space.{Space}
use Rattle.it_space.specs.Answers.{certificate_view}
use Rattle.it_region.specs.AnswerForms.{answer_forms}
use Rattle.it_region.specs.Obligations.{ArePulledRows}
use Rattle.it_report.proofs.JudgingLemmas.{candidate_fits, contained_is_about_regions, few_parts, obligation_rows_are, pair_problem}
use Rattle.it_tell.specs.Steps.{contained_by}
use Rattle.it_tell.proofs.containments.obligation_rows.Goals as goal

pub pair-requires : goal.pair-requires
pair-requires c = record {
  contains = contained_is_about_regions c.args.asked.now.question.now.body c.args.asked.now.parts.now
      (map certificate_view c.args.proofs.now) c.requires.fits;
}

pub candidate-requires : goal.candidate-requires
candidate-requires c =
    few_parts c.args.asked.now.question.now.body c.in_ok-pair.pair c.args.asked.now.parts.now
    (map certificate_view c.args.proofs.now) c.in_ok-pair.ensures.limits c.in_ok-pair.ensures.pair c.requires.fits

pub obligations-requires-clause-fits : goal.obligations-requires-clause-fits
obligations-requires-clause-fits c =
    candidate_fits c.args.asked.now.question.now.body c.in_ok-pair.pair c.args.asked.now.parts.now
    (map certificate_view c.args.proofs.now) c.in_ok-pair.ensures.limits c.in_ok-pair.ensures.pair c.requires.fits
    c.candidate.result (search rules) c.candidate.ensures.count c.candidate.ensures.parts

pub returns : goal.returns
returns c =
    let q = c.args.asked.now.question.now.body in
    let parts = c.args.asked.now.parts.now in
    let ws = map certificate_view c.args.proofs.now in
    let pair = c.in_ok-pair.pair in
    subst (λ (s : Space). ArePulledRows s (answer_forms q (contained_by parts c.args.proofs.now)) c.in_ok-rows.rows.items)
    (pair_problem q pair parts ws c.in_ok-pair.ensures.limits c.in_ok-pair.ensures.pair c.requires.fits).space
    (obligation_rows_are q pair parts ws c.in_ok-pair.ensures.limits c.in_ok-pair.ensures.pair c.requires.fits c.candidate.result
    c.in_ok-rows.rows.items c.candidate.ensures.parts c.in_ok-rows.ensures.rows)
