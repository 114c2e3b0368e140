use Rattle.it_question.proofs.NewNameLemmas.{new_of}
use Rattle.it_question.proofs.names.declare.Goals as goal

pub add_variable-added-requires-clause-new : goal.add_variable-added-requires-clause-new
add_variable-added-requires-clause-new c = new_of c.args.names.now c.args.word.now c.requires.new

pub add_rate-added-requires-clause-new : goal.add_rate-added-requires-clause-new
add_rate-added-requires-clause-new c = new_of c.args.names.now c.args.word.now c.requires.new
