use Rattle.std.proofs.Common.{ℕ, [], pos, length, slice_index_or, ap, subst, ◌∙◌, ◌<◌, arith}
use Rattle.it_rational.specs.Rational.{Rational}
use Rattle.it_space.specs.Rows.{Terms}
use Rattle.it_tableau.specs.Gathering.{IsEntryPut}
use Rattle.it_tableau.specs.StartRows.{start_number}
use Rattle.it_tableau.proofs.GatherSteps.{column_put, no_entry, term_put}
use Rattle.it_tableau.proofs.gathering.put_column.Goals as goal

pub loop-i-preserved : goal.loop-i-preserved
loop-i-preserved c =
    let f : ℕ → Rational = λ k. start_number c.args.coordinates.now c.args.columns.now c.args.target.now k c.args.j in
    let terms : Terms = slice_index_or c.args.columns.now c.args.j [] in
    let inside = subst (λ (ts : Terms). c.loop-i.i < length ts) c.terms_of_column-terms.ensures.value c.loop-i-test.true in
    term_put c.args.coordinates.now f terms c.args.j c.args.lists.now.items c.loop-i.i c.loop-i.lists.items c.loop-i.invariant inside c.put_term.new.lists.items
    (subst (λ (x : ℕ). IsEntryPut c.args.coordinates.now f x c.args.j c.loop-i.lists.items c.put_term.new.lists.items)
    (c.coordinate_at.ensures ∙ ap (λ (ts : Terms). (slice_index_or ts c.loop-i.i (0, pos 0)).0) c.terms_of_column-terms.ensures.value) c.in_ok-put_term.ensures)

pub returns : goal.returns
returns c =
    let f : ℕ → Rational = λ k. start_number c.args.coordinates.now c.args.columns.now c.args.target.now k c.args.j in
    let terms : Terms = slice_index_or c.args.columns.now c.args.j [] in
    let e = ap (λ (ts : Terms). length ts) c.terms_of_column-terms.ensures.value in
    column_put c.args.coordinates.now f terms c.args.j c.args.lists.now.items c.loop-i.i c.loop-i.lists.items c.loop-i.invariant
    (omega (arith, c.loop-i-test.false, e))
    (λ k l z. no_entry c.args.coordinates.now c.args.columns.now c.args.target.now c.args.j k c.requires.column z)
