use Rattle.it_redundant.proofs.NumberedLemmas.{row_removed}
use Rattle.it_redundant.proofs.others.remove_row.Goals as goal

pub returns-clause-rest : goal.returns-clause-rest
returns-clause-rest c = λ before row rows place_is old. row_removed before c.args.place place_is c.args.constraints.now.items c.remove-constraint.new.self.items
    c.number_from.new.constraints.items c.args.line row rows old c.remove-constraint.ensures.items c.number_from.ensures
