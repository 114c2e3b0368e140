use Rattle.std.proofs.Common.{ℕ, ◌+◌, ◌<◌, ◌≤◌, All, List, arith, drop, length, map, subst, sym}
use Rattle.std.proofs.lemmas.List.{drop_all}
use Rattle.std.proofs.lemmas.List.Elements.{All-drop, All-take}
use Rattle.it_space.specs.declared.answers.Certificate.{Certificate}
use Rattle.it_problems.specs.declared.problems.Constraint.{Constraint}
use Rattle.it_space.specs.Answers.{certificate_view}
use Rattle.it_space.specs.Rows.{IsOver}
use Rattle.it_space.specs.Spaces.{size_of}
use Rattle.it_polymatroid.specs.Elementals.{elementals}
use Rattle.it_canon.specs.TrueLines.{variable_count}
use Rattle.it_tell.specs.Steps.{AppendsEachOwnLine, HasObligations}
use Rattle.it_tell.proofs.OwnLineLemmas.{lines_after, no_line, obligations_go_on}
use Rattle.it_tell.proofs.containments.write_own_lines.Goals as goal

pub split_at-requires : goal.split_at-requires
split_at-requires c =
    let i = c.loop-constraint.constraint-index in
    subst (λ (k : ℕ). k ≤ length c.loop-constraint.rows_left.now) (sym c.obliged-count.ensures)
    (obligations_go_on c.args.own.now i c.constraint-item.result (length c.loop-constraint.rows_left.now)
    (omega arith) c.constraint-item.is c.loop-constraint.invariant.all).0

pub split_at-requires-in-loop-constraint : goal.split_at-requires-in-loop-constraint
split_at-requires-in-loop-constraint c =
    let i = c.loop-constraint.constraint-index in
    let next = obligations_go_on c.args.own.now i c.constraint-item.result (length c.loop-constraint.rows_left.now)
    (omega arith) c.constraint-item.is c.loop-constraint.invariant.all in
    let within : c.obliged-count.result ≤ length c.loop-constraint.rows_left.now = subst
    (λ (k : ℕ). k ≤ length c.loop-constraint.rows_left.now) (sym c.obliged-count.ensures) next.0 in
    omega (arith, within, c.loop-constraint.invariant.as_many)

pub write_own_line-requires-clause-there : goal.write_own_line-requires-clause-there
write_own_line-requires-clause-there c =
    let q = c.args.asked.now.question.now.body in
    rw c.split_at-in-loop-constraint.ensures.front
    (All-take (λ (w : Certificate). All (λ x. x.0 < length (elementals (variable_count q)) + length c.args.asked.now.constraints.now)
    w.weights.items) c.obliged-count.result c.loop-constraint.proofs_left.now c.loop-constraint.invariant.there)

pub write_own_line-requires-clause-over : goal.write_own_line-requires-clause-over
write_own_line-requires-clause-over c = rw c.split_at.ensures.front (All-take
    (IsOver (size_of c.args.free.now.space)) c.obliged-count.result c.loop-constraint.rows_left.now c.loop-constraint.invariant.over)

pub loop-constraint-preserved : goal.loop-constraint-preserved
loop-constraint-preserved c =
    let q = c.args.asked.now.question.now.body in
    let asked = c.args.asked.now in
    let own = c.args.own.now in
    let i = c.loop-constraint.constraint-index in
    let constraint : Constraint = c.constraint-item.result in
    let count = c.obliged-count.result in
    let rows = c.split_at.ensures in
    let proofs = c.split_at-in-loop-constraint.ensures in
    let next = obligations_go_on own i constraint (length c.loop-constraint.rows_left.now) (omega arith) c.constraint-item.is c.loop-constraint.invariant.all in
    record {
      goes_on = λ new h. c.loop-constraint.invariant.goes_on new (lines_after q asked.options asked.parts.now own i constraint
          c.loop-constraint.rows_left.now c.split_at.result.0.now c.split_at.result.1.now c.loop-constraint.proofs_left.now
          c.split_at-in-loop-constraint.result.0.now
          c.split_at-in-loop-constraint.result.1.now count c.loop-constraint.out.items c.write_own_line.new.out.items new
          (omega arith) c.constraint-item.is c.obliged-count.ensures rows.front rows.back proofs.front proofs.back
          c.in_ok-write_own_line.ensures h);
      there = rw c.split_at-in-loop-constraint.ensures.back
          (All-drop (λ (w : Certificate). All (λ x. x.0 < length (elementals (variable_count q)) + length asked.constraints.now)
          w.weights.items) count c.loop-constraint.proofs_left.now c.loop-constraint.invariant.there);
      over = rw c.split_at.ensures.back (All-drop (IsOver (size_of c.args.free.now.space)) count c.loop-constraint.rows_left.now
          c.loop-constraint.invariant.over);
      as_many = omega (arith, rows.back_len, proofs.back_len, c.loop-constraint.invariant.as_many);
      all = subst (HasObligations (drop (i + 1) own)) (omega (arith, rows.back_len, c.obliged-count.ensures)) next.1;
    }

pub returns : goal.returns
returns c =
    let q = c.args.asked.now.question.now.body in
    let asked = c.args.asked.now in
    c.loop-constraint.invariant.goes_on c.loop-constraint.out.items
    (subst (λ (cs : List Constraint). AppendsEachOwnLine q asked.options asked.parts.now cs c.loop-constraint.rows_left.now
    (map certificate_view c.loop-constraint.proofs_left.now) c.loop-constraint.out.items c.loop-constraint.out.items)
    (sym (drop_all c.loop-constraint.constraint-index c.args.own.now (omega arith)))
    (no_line q asked.options asked.parts.now c.loop-constraint.rows_left.now
    (map certificate_view c.loop-constraint.proofs_left.now) c.loop-constraint.out.items))
