use Rattle.std.proofs.Common.{List, map, flat_map, ap, ◌∙◌, subst}
use Rattle.it_syntax.specs.Givens.{GivenView}
use Rattle.it_syntax.specs.Meaning.{RelationView}
use Rattle.it_demand.specs.Demands.{demand_of, demands}
use Rattle.it_demand.specs.Origins.{AreStated, given_origins, row_origins}
use Rattle.it_demand.proofs.GeneratorLemmas.{stated-append}
use Rattle.it_question.specs.OwnLines.{OwnLinesView}
use Rattle.it_canon.proofs.problems.region_lines.Goals as goal

pub returns : goal.returns
returns c =
    let n = c.args.space.variables in
    let first_given = c.args.first_given in
    let first_row = c.args.first_row in
    let own = c.args.region.now.lines in
    stated-append c.args.space (given_origins n first_given own.givens) (row_origins first_row own.rows)
    (flat_map (demands n) own.givens) (map (demand_of n) own.rows) c.in_ok-constraints.constraints.items
    c.in_ok-rows.rows.items c.append.new.self.items
    (subst (λ (gs : List GivenView). AreStated c.args.space (given_origins n first_given gs) (flat_map (demands n) gs)
    c.in_ok-constraints.constraints.items) (c.givens.ensures.value ∙ ap (λ (l : OwnLinesView). l.givens) c.lines-own.ensures)
    c.in_ok-constraints.ensures)
    (subst (λ (rs : List RelationView). AreStated c.args.space (row_origins first_row rs) (map (demand_of n) rs)
    c.in_ok-rows.rows.items) (c.rows.ensures.value ∙ ap (λ (l : OwnLinesView). l.rows) c.lines-own.ensures) c.in_ok-rows.ensures)
    c.in_ok-append.ensures.items
