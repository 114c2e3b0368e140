use Rattle.it_redundant.proofs.NumberedLemmas.{row_inserted}
use Rattle.it_redundant.proofs.others.insert_row.Goals as goal

pub returns-clause-put : goal.returns-clause-put
returns-clause-put c = λ before rows place_is old. row_inserted before c.args.place place_is c.args.constraints.now.items
    c.insert.new.self.items c.number_from.new.constraints.items c.args.line rows c.args.constraint c.requires.kind old
    c.in_ok-insert.ensures.items c.number_from.ensures
