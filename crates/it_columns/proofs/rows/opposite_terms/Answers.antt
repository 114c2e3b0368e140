use Rattle.std.proofs.Common.{pos}
use Rattle.it_space.proofs.CanonicalRows.{coefficient_within}
use Rattle.it_columns.proofs.rows.opposite_terms.Goals as goal

pub opposite_term-requires : goal.opposite_term-requires
opposite_term-requires c = coefficient_within 0 c.args.terms.now c.loop-term.term-index (0, pos 0) c.requires c.loop-term-test.true
