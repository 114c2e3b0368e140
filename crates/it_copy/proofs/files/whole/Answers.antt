use Rattle.it_question.specs.Cursors.{letters_left}
use Rattle.it_copy.proofs.CopyFileLemmas.{bodies_keep_limits}
use Rattle.it_copy.proofs.files.whole.Goals as goal

pub returns-clause-limits : goal.returns-clause-limits
returns-clause-limits c = bodies_keep_limits c.args.limits c.in_ok-bodies.bodies.items _ (letters_left c.bodies.new.cursor) c.in_ok-bodies.ensures
