use Rattle.std.proofs.Common.{arith}
use Rattle.it_space.specs.Spaces.{size_of}
use Rattle.it_closure.proofs.SumRows.{row_of_sums}
use Rattle.it_closure.proofs.dependences.Dependences.collapse.Goals as goal

pub terms-requires : goal.terms-requires
terms-requires c = omega (arith, c.in_ok-sums.ensures.few)

pub new-requires : goal.new-requires
new-requires c = (row_of_sums c.args.self.now.space.variables c.args.self.now.list c.args.row.now c.in_ok-terms.field-0.items
    (size_of c.args.self.now.space) c.in_ok-sums.sums c.in_ok-terms.ensures c.in_ok-sums.ensures.placed).canonical

pub returns-clause-row : goal.returns-clause-row
returns-clause-row c = rw c.new.ensures (row_of_sums c.args.self.now.space.variables c.args.self.now.list c.args.row.now
    c.in_ok-terms.field-0.items (size_of c.args.self.now.space) c.in_ok-sums.sums c.in_ok-terms.ensures
    c.in_ok-sums.ensures.placed).collapse

pub returns-clause-coefficients : goal.returns-clause-coefficients
returns-clause-coefficients c = rw c.new.ensures (row_of_sums c.args.self.now.space.variables c.args.self.now.list c.args.row.now
    c.in_ok-terms.field-0.items (size_of c.args.self.now.space) c.in_ok-sums.sums c.in_ok-terms.ensures
    c.in_ok-sums.ensures.placed).coefficients

pub returns-clause-coordinates : goal.returns-clause-coordinates
returns-clause-coordinates c = rw c.new.ensures (row_of_sums c.args.self.now.space.variables c.args.self.now.list c.args.row.now
    c.in_ok-terms.field-0.items (size_of c.args.self.now.space) c.in_ok-sums.sums c.in_ok-terms.ensures
    c.in_ok-sums.ensures.placed).coordinates
