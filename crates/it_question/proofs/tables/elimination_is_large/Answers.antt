use Rattle.std.proofs.Common.{ap, map, sym, subst, arith}
use Rattle.std.specs.Prelude.{All}
use Rattle.it_space.specs.declared.spaces.Space.{Space}
use Rattle.it_space.specs.Spaces.{IsSpace}
use Rattle.it_syntax.specs.Givens.{IsGivenOf, given_view}
use Rattle.it_question.specs.ProblemLines.{givens_alone}
use Rattle.it_question.proofs.TableLemmas.{few_variables, givens_stated, lines_problem, space_flag}
use Rattle.it_question.proofs.tables.elimination_is_large.Goals as goal

pub is_large-requires : goal.is_large-requires
is_large-requires c =
    let own = givens_alone c.args.lines.now in
    let same = sym c.space-space.ensures.counts in
    lines_problem c.space-space.result own c.in_ok-constraints.constraints.items (subst IsSpace same c.requires.space)
    (subst (λ (s : Space). All (IsGivenOf s.variables) own.givens) same c.requires.lines.givens)
    (omega (arith, c.requires.lines.few_givens)) (omega arith) (givens_stated c.space-space.result (map given_view c.givens.result.now)
    c.args.lines.now.givens c.in_ok-constraints.constraints.items c.givens.ensures.value c.in_ok-constraints.ensures)

pub returns-clause-large : goal.returns-clause-large
returns-clause-large c = space_flag c.space-space.result c.args.names.now
    (givens_alone c.args.lines.now) c.in_ok-constraints.constraints.items c.in_ok-large.large c.space-space.ensures.counts
    (givens_stated c.space-space.result (map given_view c.givens.result.now) c.args.lines.now.givens c.in_ok-constraints.constraints.items
    c.givens.ensures.value c.in_ok-constraints.ensures) c.in_ok-large.ensures.large

pub returns-then-space-le-MOST_SMALL-clause-large : goal.returns-then-space-le-MOST_SMALL-clause-large
returns-then-space-le-MOST_SMALL-clause-large c =
    few_variables c.args.names.now (givens_alone c.args.lines.now)
    (omega (arith, ap (λ (s : Space). s.variables) c.space-space.ensures.counts, c.if-space-le-MOST_SMALL.true))
    c.requires.space.few_rates c.requires.lines.givens c.requires.lines.few_givens (omega arith)
