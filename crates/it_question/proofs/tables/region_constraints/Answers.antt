use Rattle.std.proofs.Common.{ℕ, ◌+◌, ◌∙◌, List, length, map, flat_map, ap, subst, arith}
use Rattle.it_syntax.specs.Givens.{GivenView}
use Rattle.it_syntax.specs.Meaning.{RelationView}
use Rattle.it_demand.specs.Demands.{demand_of, demands}
use Rattle.it_demand.specs.Origins.{AreStated, given_origins, row_origins}
use Rattle.it_question.specs.OwnLines.{OwnLinesView}
use Rattle.it_question.proofs.StatedLines.{region_stated}
use Rattle.it_question.proofs.tables.region_constraints.Goals as goal

pub returns : goal.returns
returns c =
    let n : ℕ = c.args.space.variables in
    let shared = c.args.lines.now in
    let own = c.args.region.now.lines in
    let own_givens = c.givens.ensures.value ∙ ap (λ (l : OwnLinesView). l.givens) c.lines-own.ensures in
    let own_rows = c.rows.ensures.value ∙ ap (λ (l : OwnLinesView). l.rows) c.lines-own.ensures in
    region_stated c.args.space n (1 + length c.givens-givens.result.now) (1 + length c.rows-rows.result.now) shared.givens own.givens shared.rows own.rows
    c.in_ok-constraints.constraints.items c.in_ok-own_givens.own_givens.items c.in_ok-shared_rows.shared_rows.items c.in_ok-own_rows.own_rows.items
    c.append.new.self.items c.append-2.new.self.items c.append-3.new.self.items
    (omega (arith, c.givens-givens.ensures.count)) (omega (arith, c.rows-rows.ensures.count))
    (subst (λ (gs : List GivenView). AreStated c.args.space (given_origins n 1 gs) (flat_map (demands n) gs)
    c.in_ok-constraints.constraints.items) c.givens-givens.ensures.value c.in_ok-constraints.ensures)
    (subst (λ (gs : List GivenView). AreStated c.args.space (given_origins n (1 + length c.givens-givens.result.now) gs) (flat_map (demands n) gs)
    c.in_ok-own_givens.own_givens.items) own_givens c.in_ok-own_givens.ensures)
    (subst (λ (rs : List RelationView). AreStated c.args.space (row_origins 1 rs) (map (demand_of n) rs)
    c.in_ok-shared_rows.shared_rows.items) c.rows-rows.ensures.value c.in_ok-shared_rows.ensures)
    (subst (λ (rs : List RelationView). AreStated c.args.space (row_origins (1 + length c.rows-rows.result.now) rs) (map (demand_of n) rs)
    c.in_ok-own_rows.own_rows.items) own_rows c.in_ok-own_rows.ensures)
    c.in_ok-append.ensures.items c.in_ok-append-2.ensures.items c.in_ok-append-3.ensures.items
