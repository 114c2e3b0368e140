use Rattle.it_syntax.specs.Meaning.{relation_view}
use Rattle.it_answer.proofs.TargetLemmas.{relation_rows}
use Rattle.it_answer.proofs.targets.relation_rows.Goals as goal

pub returns : goal.returns
returns c = relation_rows c.args.question.now.body (relation_view c.args.relation.now) c.space.result c.target_rows.result
    c.requires.proves c.space.ensures.counts c.target_rows.ensures
