use Rattle.it_engine.proofs.ShortenedRows.{all_shortened_twice}
use Rattle.it_engine.proofs.bringing.shorten_moved.Goals as goal

pub loop-k-preserved : goal.loop-k-preserved
loop-k-preserved c = record {
  shortened = all_shortened_twice c.args.rows.now c.loop-k.rows c.shorten_row.new.rows
      c.loop-k.invariant.shortened c.shorten_row.ensures;
}
