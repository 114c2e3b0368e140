use Rattle.std.proofs.Common.{rules, ◌≡◌, length, refl}
use Rattle.it_bounds.proofs.MarkLemmas.{marked_where_none, marked_where_some, system_under}
use Rattle.it_bounds.proofs.marks.with_marks.Goals as goal

pub reduce-requires-clause-system : goal.reduce-requires-clause-system
reduce-requires-clause-system c = system_under c.args.space c.in_ok-constants.constants c.args.rows.now _ c.requires.space
    c.in_ok-constants.ensures refl c.in_ok-own.ensures c.requires.rows

pub returns-then-is_empty : goal.returns-then-is_empty
returns-then-is_empty c =
    let none : length c.in_ok-reduced.reduced.dropped.items ≡ 0 = search rules in
    marked_where_none c.args.space c.args.effort c.in_ok-constants.constants c.args.rows.now c.in_ok-own.own.items c.in_ok-reduced.reduced
    c.in_ok-constants.ensures c.in_ok-own.ensures
    c.in_ok-reduced.ensures.reduces c.in_ok-reduced.ensures.needed none c.in_ok-marked.marked.items c.in_ok-marked.ensures

pub returns : goal.returns
returns c =
    let some : length c.in_ok-reduced.reduced.dropped.items ≡ 0 → ⊥ = search rules in
    marked_where_some c.args.space c.args.effort c.in_ok-constants.constants c.args.rows.now c.in_ok-own.own.items c.in_ok-reduced.reduced
    c.in_ok-constants.ensures c.in_ok-own.ensures
    c.in_ok-reduced.ensures.reduces some c.in_ok-marked-2.marked.items c.in_ok-marked-2.ensures
