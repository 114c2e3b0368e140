use Rattle.std.proofs.Common.{arith}
use Rattle.std.proofs.lemmas.Bool.{OnTrue_at}
use Rattle.it_terms.proofs.SignLemmas.{together_more}
use Rattle.it_terms.proofs.line_telling.are_all_least_together.Goals as goal

pub loop-i-preserved : goal.loop-i-preserved
loop-i-preserved c =
    let row = c.index-rows-i in
    let other = c.index-others-i in
    together_more c.args.rows.now c.args.others.now c.loop-i.i row.result other.result (omega arith) (omega arith) row.is other.is
    (OnTrue_at c.if-not-together.false c.in_ok-together.ensures) c.loop-i.invariant
