use Rattle.std.proofs.Common.{◌++◌, ap, sym, subst, arith, length, length-append}
use Rattle.std.specs.Prelude.{All}
use Rattle.it_space.specs.declared.spaces.Space.{Space}
use Rattle.it_space.specs.Spaces.{IsSpace}
use Rattle.it_syntax.specs.Givens.{IsGivenOf, IsRelationOf}
use Rattle.it_question.specs.ProblemLines.{lines_with}
use Rattle.std.proofs.lemmas.List.Elements.{All-append}
use Rattle.it_question.proofs.TableLemmas.{region_space, region_givens, region_rows, few_variables, lines_problem, space_flag}
use Rattle.it_question.proofs.tables.containment_is_large.Goals as goal

pub region_constraints-requires-clause-givens : goal.region_constraints-requires-clause-givens
region_constraints-requires-clause-givens c = subst (λ (s : Space). All (IsGivenOf s.variables) c.args.lines.now.givens)
    (sym c.space-space.ensures.counts)
    (region_givens c.args.names.now c.args.first.now c.args.lines.now.givens c.requires.region c.requires.lines.givens)

pub region_constraints-requires-clause-rows : goal.region_constraints-requires-clause-rows
region_constraints-requires-clause-rows c = subst (λ (s : Space). All (IsRelationOf s.variables s.rates)
    c.args.lines.now.rows) (sym c.space-space.ensures.counts)
    (region_rows c.args.names.now c.args.first.now c.args.lines.now.rows c.requires.region c.requires.lines.rows)

pub is_large-requires : goal.is_large-requires
is_large-requires c =
    let own = c.args.lines.now in
    let first = c.args.first.now in
    let same = sym c.space-space.ensures.counts in
    let space = subst IsSpace same (region_space c.args.names.now first c.requires.space c.requires.region) in
    let givens = subst (λ (s : Space). All (IsGivenOf s.variables) (own.givens ++ first.lines.givens)) same
    (All-append (IsGivenOf (length first.names.variables)) own.givens first.lines.givens
    (region_givens c.args.names.now first own.givens c.requires.region c.requires.lines.givens) c.requires.region.lines.givens) in
    lines_problem c.space-space.result (lines_with own first) c.in_ok-constraints.constraints.items space givens
    (omega (arith, length-append own.givens first.lines.givens, c.requires.lines.few_givens, c.requires.region.lines.few_givens))
    (omega (arith, length-append own.rows first.lines.rows, c.requires.lines.few_rows, c.requires.region.lines.few_rows))
    c.in_ok-constraints.ensures

pub returns-clause-large : goal.returns-clause-large
returns-clause-large c = space_flag c.space-space.result c.args.first.now.names
    (lines_with c.args.lines.now c.args.first.now) c.in_ok-constraints.constraints.items c.in_ok-large.large
    c.space-space.ensures.counts c.in_ok-constraints.ensures c.in_ok-large.ensures.large

pub returns-then-space-le-MOST_SMALL-clause-large : goal.returns-then-space-le-MOST_SMALL-clause-large
returns-then-space-le-MOST_SMALL-clause-large c =
    let own = c.args.lines.now in
    let first = c.args.first.now in
    let space = region_space c.args.names.now first c.requires.space c.requires.region in
    let givens = region_givens c.args.names.now first own.givens c.requires.region c.requires.lines.givens in
    few_variables first.names (lines_with own first)
    (omega (arith, ap (λ (s : Space). s.variables) c.space-space.ensures.counts, c.if-space-le-MOST_SMALL.true)) space.few_rates
    (All-append (IsGivenOf (length first.names.variables)) own.givens first.lines.givens givens c.requires.region.lines.givens)
    (omega (
      arith,
      length-append own.givens first.lines.givens,
      c.requires.few_givens,
    ))
    (omega (
      arith,
      length-append own.rows first.lines.rows,
      c.requires.few_rows,
    ))
