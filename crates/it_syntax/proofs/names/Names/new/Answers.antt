use Rattle.it_syntax.proofs.NameLemmas.{no_names}
use Rattle.it_syntax.proofs.names.Names.new.Goals as goal

pub invariant_of-result : goal.invariant_of-result
invariant_of-result c = rw (c.new.ensures.empty, c.new-2.ensures.empty) no_names
