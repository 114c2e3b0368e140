use Rattle.std.proofs.Common.{ap, sym, subst, ◌∙◌, arith}
use Rattle.it_closure.specs.Coordinates.{closed_coordinates}
use Rattle.it_closure.specs.Reading.{dependences_of}
use Rattle.it_elemental.specs.Generators.{generators}
use Rattle.it_prove.specs.ClosedProblems.{AreColumns}
use Rattle.it_prove.proofs.ColumnSteps.{columns_start}
use Rattle.it_prove.proofs.closed.without_columns.Goals as goal

pub returns-clause-closed : goal.returns-clause-closed
returns-clause-closed c =
    let q = c.args.problem.now in
    record {
      space = c.in_ok-dependences.ensures.space;
      list = c.in_ok-dependences.ensures.list;
      coordinates = c.in_ok-coordinates.ensures ∙ rw c.space.ensures.value
          (ap (closed_coordinates q.space.variables q.space.rates) c.in_ok-dependences.ensures.list);
      few = omega arith;
      columns = subst (AreColumns q.space.variables (dependences_of q) (generators q) 0) (sym c.new.ensures.items)
          (columns_start q.space.variables (dependences_of q) (generators q));
    }
