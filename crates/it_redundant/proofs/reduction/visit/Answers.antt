use Rattle.std.proofs.Common.{List, length, map, ◌++◌, ◌∙◌, rules, ap, sym, ◌+◌, arith}
use Rattle.std.proofs.lemmas.List.{length-map}
use Rattle.it_problems.specs.declared.problems.Constraint.{Constraint}
use Rattle.it_problems.specs.Problems.{ProblemView}
use Rattle.it_space.specs.Rows.{Terms}
use Rattle.it_prove.specs.ProofViews.{proof_view}
use Rattle.it_eliminate.specs.RowLines.{with_rows}
use Rattle.it_redundant.proofs.VisitLemmas.{limits_again, lines_within, own_constraint, put_back, room_for_row, row_goes, row_stays, row_within, taken_out, visit_closed, visit_ends, visit_limits}
use Rattle.it_redundant.proofs.reduction.visit.Goals as goal

pub remove_row-constraint-requires-clause-place : goal.remove_row-constraint-requires-clause-place
remove_row-constraint-requires-clause-place c = row_within c.args.reduction.now.givens.now c.args.reduced.now.kept.items (c.len-line.result + 1)
    (length c.constraints.result.now + c.len.result) (search rules) (search rules)
    (record { space = c.problem.inside.space; constraints = c.problem.inside.constraints.items }) c.args.rest.now.next.now c.args.rest.now.after.now
    (c.problem.view_is ∙ c.requires.problem)

pub remove_row-constraint-requires-clause-few : goal.remove_row-constraint-requires-clause-few
remove_row-constraint-requires-clause-few c = lines_within c.args.reduction.now.givens.now c.args.reduced.now.kept.items (c.len-line.result + 1)
    (length c.constraints.result.now + c.len.result) (search rules) (search rules)
    (record { space = c.problem.inside.space; constraints = c.problem.inside.constraints.items }) c.args.rest.now.next.now c.args.rest.now.after.now
    (c.problem.view_is ∙ c.requires.problem) c.requires.few

pub invariant_of-problem : goal.invariant_of-problem
invariant_of-problem c = visit_limits c.args.reduction.now.givens.now _ c.args.reduced.now.kept.items c.args.rest.now.after.now
    (taken_out c.args.reduction.now.givens.now c.args.reduced.now.kept.items (c.len-line.result + 1) (length c.constraints.result.now + c.len.result)
    (search rules) (search rules)
    (record { space = c.problem.inside.space; constraints = c.problem.inside.constraints.items }) c.args.rest.now.next.now c.args.rest.now.after.now
    c.remove_row-constraint.new.constraints.items (c.problem.view_is ∙ c.requires.problem) c.remove_row-constraint.ensures.rest)
    c.facts.ensures c.requires.few_givens (let few = c.requires.few in omega (arith, few)) c.requires.kept c.requires.after

pub invariant_of-problem-in_err-proof : goal.invariant_of-problem-in_err-proof
invariant_of-problem-in_err-proof c = visit_limits c.args.reduction.now.givens.now _ c.args.reduced.now.kept.items c.args.rest.now.after.now
    (taken_out c.args.reduction.now.givens.now c.args.reduced.now.kept.items (c.len-line.result + 1) (length c.constraints.result.now + c.len.result)
    (search rules) (search rules)
    (record { space = c.problem.inside.space; constraints = c.problem.inside.constraints.items }) c.args.rest.now.next.now c.args.rest.now.after.now
    c.remove_row-constraint.new.constraints.items (c.problem.view_is ∙ c.requires.problem) c.remove_row-constraint.ensures.rest)
    c.facts.ensures c.requires.few_givens (let few = c.requires.few in omega (arith, few)) c.requires.kept c.requires.after

pub invariant_of-problem-in_err-put : goal.invariant_of-problem-in_err-put
invariant_of-problem-in_err-put c = visit_limits c.args.reduction.now.givens.now _ c.args.reduced.now.kept.items c.args.rest.now.after.now
    (taken_out c.args.reduction.now.givens.now c.args.reduced.now.kept.items (c.len-line.result + 1) (length c.constraints.result.now + c.len.result)
    (search rules) (search rules)
    (record { space = c.problem.inside.space; constraints = c.problem.inside.constraints.items }) c.args.rest.now.next.now c.args.rest.now.after.now
    c.remove_row-constraint.new.constraints.items (c.problem.view_is ∙ c.requires.problem) c.remove_row-constraint.ensures.rest)
    c.facts.ensures c.requires.few_givens (let few = c.requires.few in omega (arith, few)) c.requires.kept c.requires.after

pub invariant_of-problem-else-len-line : goal.invariant_of-problem-else-len-line
invariant_of-problem-else-len-line c = visit_limits c.args.reduction.now.givens.now _ c.args.reduced.now.kept.items c.args.rest.now.after.now
    (taken_out c.args.reduction.now.givens.now c.args.reduced.now.kept.items (c.len-line.result + 1) (length c.constraints.result.now + c.len.result)
    (search rules) (search rules)
    (record { space = c.problem.inside.space; constraints = c.problem.inside.constraints.items }) c.args.rest.now.next.now c.args.rest.now.after.now
    c.remove_row-constraint.new.constraints.items (c.problem.view_is ∙ c.requires.problem) c.remove_row-constraint.ensures.rest)
    c.facts.ensures c.requires.few_givens (let few = c.requires.few in omega (arith, few)) c.requires.kept c.requires.after

pub invariant_of-problem-in_err-insert_row : goal.invariant_of-problem-in_err-insert_row
invariant_of-problem-in_err-insert_row c = visit_limits c.args.reduction.now.givens.now _ c.args.reduced.now.kept.items c.args.rest.now.after.now
    (ap (λ (cs : List Constraint). let p : ProblemView = record { space = c.problem.inside.space; constraints = cs } in p) c.in_err-insert_row.ensures.stays
    ∙ taken_out c.args.reduction.now.givens.now c.args.reduced.now.kept.items (c.len-line.result + 1) (length c.constraints.result.now + c.len.result)
    (search rules) (search rules)
    (record { space = c.problem.inside.space; constraints = c.problem.inside.constraints.items }) c.args.rest.now.next.now c.args.rest.now.after.now
    c.remove_row-constraint.new.constraints.items (c.problem.view_is ∙ c.requires.problem) c.remove_row-constraint.ensures.rest)
    c.facts.ensures c.requires.few_givens (let few = c.requires.few in omega (arith, few)) c.requires.kept c.requires.after

pub invariant_of-problem-in-Continue-branch-3 : goal.invariant_of-problem-in-Continue-branch-3
invariant_of-problem-in-Continue-branch-3 c =
    limits_again c.args.reduction.now.givens.now _ (map (λ k. k.0) c.args.reduced.now.kept.items) c.args.rest.now.next.now c.args.rest.now.after.now
    (put_back c.args.reduction.now.givens.now c.args.reduced.now.kept.items (c.len-line.result + 1) (length c.constraints.result.now + c.len.result)
    (search rules) (search rules)
    record { space = c.problem.inside.space; constraints = c.remove_row-constraint.new.constraints.items } c.args.rest.now.next.now c.args.rest.now.after.now
    c.remove_row-constraint.result c.insert_row.new.constraints.items
    (own_constraint c.args.reduction.now.givens.now c.args.reduced.now.kept.items (c.len-line.result + 1)
    (length c.constraints.result.now + c.len.result) (search rules) (search rules)
    (record { space = c.problem.inside.space; constraints = c.problem.inside.constraints.items }) c.args.rest.now.next.now c.args.rest.now.after.now
    c.remove_row-constraint.result (c.problem.view_is ∙ c.requires.problem) c.remove_row-constraint.ensures.row)
    (taken_out c.args.reduction.now.givens.now c.args.reduced.now.kept.items (c.len-line.result + 1) (length c.constraints.result.now + c.len.result)
    (search rules) (search rules)
    (record { space = c.problem.inside.space; constraints = c.problem.inside.constraints.items }) c.args.rest.now.next.now c.args.rest.now.after.now
    c.remove_row-constraint.new.constraints.items (c.problem.view_is ∙ c.requires.problem) c.remove_row-constraint.ensures.rest)
    c.in_ok-insert_row.ensures.put)
    c.facts.ensures c.requires.few_givens (omega (arith, c.requires.few, length-map c.args.reduced.now.kept.items (λ k. k.0)))
    c.requires.kept c.requires.next c.requires.after

pub prove-requires-clause-closed : goal.prove-requires-clause-closed
prove-requires-clause-closed c = visit_closed c.args.reduction.now.givens.now _ c.args.reduced.now.kept.items c.args.rest.now.after.now
    (taken_out c.args.reduction.now.givens.now c.args.reduced.now.kept.items (c.len-line.result + 1) (length c.constraints.result.now + c.len.result)
    (search rules) (search rules)
    (record { space = c.problem.inside.space; constraints = c.problem.inside.constraints.items }) c.args.rest.now.next.now c.args.rest.now.after.now
    c.remove_row-constraint.new.constraints.items (c.problem.view_is ∙ c.requires.problem) c.remove_row-constraint.ensures.rest)
    c.args.closed.now c.requires.closed

pub insert_row-requires-clause-place : goal.insert_row-requires-clause-place
insert_row-requires-clause-place c = (room_for_row c.args.reduction.now.givens.now c.args.reduced.now.kept.items (c.len-line.result + 1)
    (length c.constraints.result.now + c.len.result) (search rules) (search rules)
    record { space = c.problem.inside.space; constraints = c.remove_row-constraint.new.constraints.items } c.args.rest.now.next.now c.args.rest.now.after.now
    (taken_out c.args.reduction.now.givens.now c.args.reduced.now.kept.items (c.len-line.result + 1) (length c.constraints.result.now + c.len.result)
    (search rules) (search rules)
    (record { space = c.problem.inside.space; constraints = c.problem.inside.constraints.items }) c.args.rest.now.next.now c.args.rest.now.after.now
    c.remove_row-constraint.new.constraints.items (c.problem.view_is ∙ c.requires.problem) c.remove_row-constraint.ensures.rest)).0

pub insert_row-requires-clause-few : goal.insert_row-requires-clause-few
insert_row-requires-clause-few c = (room_for_row c.args.reduction.now.givens.now c.args.reduced.now.kept.items (c.len-line.result + 1)
    (length c.constraints.result.now + c.len.result) (search rules) (search rules)
    record { space = c.problem.inside.space; constraints = c.remove_row-constraint.new.constraints.items } c.args.rest.now.next.now c.args.rest.now.after.now
    (taken_out c.args.reduction.now.givens.now c.args.reduced.now.kept.items (c.len-line.result + 1) (length c.constraints.result.now + c.len.result)
    (search rules) (search rules)
    (record { space = c.problem.inside.space; constraints = c.problem.inside.constraints.items }) c.args.rest.now.next.now c.args.rest.now.after.now
    c.remove_row-constraint.new.constraints.items (c.problem.view_is ∙ c.requires.problem) c.remove_row-constraint.ensures.rest)).1 c.requires.few

pub insert_row-requires-clause-kind : goal.insert_row-requires-clause-kind
insert_row-requires-clause-kind c = ap (λ (d : Constraint). d.kind)
    (own_constraint c.args.reduction.now.givens.now c.args.reduced.now.kept.items (c.len-line.result + 1)
    (length c.constraints.result.now + c.len.result) (search rules) (search rules)
    (record { space = c.problem.inside.space; constraints = c.problem.inside.constraints.items }) c.args.rest.now.next.now c.args.rest.now.after.now
    c.remove_row-constraint.result (c.problem.view_is ∙ c.requires.problem) c.remove_row-constraint.ensures.row)

pub returns-in_ok-insert_row-clause-visited : goal.returns-in_ok-insert_row-clause-visited
returns-in_ok-insert_row-clause-visited c = record {
  outcome = proof_view c.in_ok-proof.proof;
  ends = visit_ends c.args.reduction.now.givens.now record { space = c.problem.inside.space; constraints = c.remove_row-constraint.new.constraints.items }
      c.args.reduced.now.kept.items c.args.rest.now.after.now
      (taken_out c.args.reduction.now.givens.now c.args.reduced.now.kept.items (c.len-line.result + 1) (length c.constraints.result.now + c.len.result)
      (search rules) (search rules)
      (record { space = c.problem.inside.space; constraints = c.problem.inside.constraints.items }) c.args.rest.now.next.now c.args.rest.now.after.now
      c.remove_row-constraint.new.constraints.items (c.problem.view_is ∙ c.requires.problem) c.remove_row-constraint.ensures.rest)
      c.args.reduction.now.effort c.args.rest.now.next.now (proof_view c.in_ok-proof.proof) c.in_ok-proof.ensures.ends;
  kept = c.in_ok-put.ensures.kept;
  dropped = c.in_ok-put.ensures.dropped;
}

pub returns-in_ok-insert_row-clause-closed : goal.returns-in_ok-insert_row-clause-closed
returns-in_ok-insert_row-clause-closed c = c.in_ok-proof.ensures.stays c.args.reduction.now.givens.now c.requires.closed

pub returns-in_ok-insert_row-clause-problem : goal.returns-in_ok-insert_row-clause-problem
returns-in_ok-insert_row-clause-problem c =
    put_back c.args.reduction.now.givens.now c.args.reduced.now.kept.items (c.len-line.result + 1) (length c.constraints.result.now + c.len.result)
    (search rules) (search rules)
    record { space = c.problem.inside.space; constraints = c.remove_row-constraint.new.constraints.items } c.args.rest.now.next.now c.args.rest.now.after.now
    c.remove_row-constraint.result c.insert_row.new.constraints.items
    (own_constraint c.args.reduction.now.givens.now c.args.reduced.now.kept.items (c.len-line.result + 1)
    (length c.constraints.result.now + c.len.result) (search rules) (search rules)
    (record { space = c.problem.inside.space; constraints = c.problem.inside.constraints.items }) c.args.rest.now.next.now c.args.rest.now.after.now
    c.remove_row-constraint.result (c.problem.view_is ∙ c.requires.problem) c.remove_row-constraint.ensures.row)
    (taken_out c.args.reduction.now.givens.now c.args.reduced.now.kept.items (c.len-line.result + 1) (length c.constraints.result.now + c.len.result)
    (search rules) (search rules)
    (record { space = c.problem.inside.space; constraints = c.problem.inside.constraints.items }) c.args.rest.now.next.now c.args.rest.now.after.now
    c.remove_row-constraint.new.constraints.items (c.problem.view_is ∙ c.requires.problem) c.remove_row-constraint.ensures.rest)
    c.in_ok-insert_row.ensures.put
    ∙ ap (λ (rows : List Terms). with_rows c.args.reduction.now.givens.now (rows ++ c.args.rest.now.after.now))
    (sym (row_stays c.args.reduced.now.kept.items c.put.new.reduced.kept.items c.args.rest.now.next.now
    (proof_view c.in_ok-proof.proof) c.in_ok-put.ensures.kept (search rules)))

pub returns-else-len-line-clause-visited : goal.returns-else-len-line-clause-visited
returns-else-len-line-clause-visited c = record {
  outcome = proof_view c.in_ok-proof.proof;
  ends = visit_ends c.args.reduction.now.givens.now record { space = c.problem.inside.space; constraints = c.remove_row-constraint.new.constraints.items }
      c.args.reduced.now.kept.items c.args.rest.now.after.now
      (taken_out c.args.reduction.now.givens.now c.args.reduced.now.kept.items (c.len-line.result + 1) (length c.constraints.result.now + c.len.result)
      (search rules) (search rules)
      (record { space = c.problem.inside.space; constraints = c.problem.inside.constraints.items }) c.args.rest.now.next.now c.args.rest.now.after.now
      c.remove_row-constraint.new.constraints.items (c.problem.view_is ∙ c.requires.problem) c.remove_row-constraint.ensures.rest)
      c.args.reduction.now.effort c.args.rest.now.next.now (proof_view c.in_ok-proof.proof) c.in_ok-proof.ensures.ends;
  kept = c.in_ok-put.ensures.kept;
  dropped = c.in_ok-put.ensures.dropped;
}

pub returns-else-len-line-clause-closed : goal.returns-else-len-line-clause-closed
returns-else-len-line-clause-closed c = c.in_ok-proof.ensures.stays c.args.reduction.now.givens.now c.requires.closed

pub returns-else-len-line-clause-problem : goal.returns-else-len-line-clause-problem
returns-else-len-line-clause-problem c =
    (taken_out c.args.reduction.now.givens.now c.args.reduced.now.kept.items (c.len-line.result + 1) (length c.constraints.result.now + c.len.result)
    (search rules) (search rules)
    (record { space = c.problem.inside.space; constraints = c.problem.inside.constraints.items }) c.args.rest.now.next.now c.args.rest.now.after.now
    c.remove_row-constraint.new.constraints.items (c.problem.view_is ∙ c.requires.problem) c.remove_row-constraint.ensures.rest)
    ∙ ap (λ (rows : List Terms). with_rows c.args.reduction.now.givens.now (rows ++ c.args.rest.now.after.now))
    (sym (row_goes c.args.reduced.now.kept.items c.put.new.reduced.kept.items c.args.rest.now.next.now
    (proof_view c.in_ok-proof.proof) c.in_ok-put.ensures.kept (search rules)))
