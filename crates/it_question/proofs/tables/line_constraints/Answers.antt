use Rattle.std.proofs.Common.{List, map, flat_map, subst}
use Rattle.it_syntax.specs.Givens.{GivenView}
use Rattle.it_syntax.specs.Meaning.{RelationView}
use Rattle.it_demand.specs.Demands.{demand_of, demands}
use Rattle.it_demand.specs.Origins.{AreStated, given_origins, row_origins}
use Rattle.it_demand.proofs.GeneratorLemmas.{stated-append}
use Rattle.it_question.proofs.tables.line_constraints.Goals as goal

pub returns : goal.returns
returns c =
    let n = c.args.space.variables in
    let own = c.args.lines.now in
    stated-append c.args.space (given_origins n 1 own.givens) (row_origins 1 own.rows) (flat_map (demands n) own.givens)
    (map (demand_of n) own.rows) c.in_ok-constraints.constraints.items c.in_ok-others.others.items c.append.new.self.items
    (subst (λ (gs : List GivenView). AreStated c.args.space (given_origins n 1 gs) (flat_map (demands n) gs)
    c.in_ok-constraints.constraints.items) c.givens.ensures.value c.in_ok-constraints.ensures)
    (subst (λ (rs : List RelationView). AreStated c.args.space (row_origins 1 rs) (map (demand_of n) rs)
    c.in_ok-others.others.items) c.rows.ensures.value c.in_ok-others.ensures)
    c.in_ok-append.ensures.items
