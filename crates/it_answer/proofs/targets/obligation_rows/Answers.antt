use Rattle.std.proofs.Common.{rules}
use Rattle.it_region.proofs.TextLemmas.{parts_fit}
use Rattle.it_region.proofs.PairLemmas.{pair_of_verb}
use Rattle.it_answer.proofs.ContainmentLemmas.{is_containment}
use Rattle.it_answer.proofs.TargetLemmas.{obligation_rows}
use Rattle.it_answer.proofs.targets.obligation_rows.Goals as goal

pub pair-requires : goal.pair-requires
pair-requires c = record {
  contains = is_containment c.args.question.now.body c.args.first.now
      c.args.second.now c.args.tries.now c.requires.contains;
}

pub obligations-requires-clause-fits : goal.obligations-requires-clause-fits
obligations-requires-clause-fits c =
    let q = c.args.question.now.body in
    let a = c.args.first.now in
    let b = c.args.second.now in
    let p = c.in_ok-pair.pair in
    parts_fit q a b p (pair_of_verb q a b c.args.tries.now p c.requires.contains c.in_ok-pair.ensures.pair) c.candidate-candidate.result
    c.args.parts.now (search rules) c.candidate-candidate.ensures.count c.candidate-candidate.ensures.parts c.requires.parts

pub returns : goal.returns
returns c =
    let q = c.args.question.now.body in
    let a = c.args.first.now in
    let b = c.args.second.now in
    let p = c.in_ok-pair.pair in
    obligation_rows q a b c.args.tries.now c.requires.contains p (pair_of_verb q a b c.args.tries.now p c.requires.contains
    c.in_ok-pair.ensures.pair) c.candidate-candidate.result c.args.parts.now c.in_ok-rows.rows.items c.candidate-candidate.ensures.parts
    c.in_ok-rows.ensures.rows
