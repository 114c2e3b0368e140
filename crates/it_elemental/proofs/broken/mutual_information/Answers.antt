use Rattle.std.proofs.Common.{rules, ◌+◌, ◌^◌, ◌∙◌, ap, arith, FitsSigned, to_z-of_z}
use Rattle.it_polymatroid.specs.Tables.{value_at}
use Rattle.it_polymatroid.proofs.Instances.{still_lacks, with_lt}
use Rattle.it_elemental.proofs.FitLemmas.{table_mutual_value}
use Rattle.it_elemental.proofs.broken.mutual_information.Goals as goal
use mir.Syntax.{w128}

pub with_variable-requires-clause-new : goal.with_variable-requires-clause-new
with_variable-requires-clause-new c = let s = c.requires.shape
    in rw c.with_variable-with_left.ensures (still_lacks c.args.given c.args.left c.args.right s.0 s.3 s.4)

pub at-both-requires : goal.at-both-requires
at-both-requires c =
    let s = c.requires.shape in
    let n = c.args.table.now.variables in
    rw (c.with_variable.ensures, c.with_variable-with_left.ensures) (with_lt n (c.args.given + 2 ^ c.args.left) c.args.right s.1
    (with_lt n c.args.given c.args.left (omega arith) s.2 s.3) (still_lacks c.args.given c.args.left c.args.right s.0 s.3 s.4))

pub at-requires-2 : goal.at-requires-2
at-requires-2 c = let s = c.requires.shape in rw c.with_variable-with_left.ensures
    (with_lt c.args.table.now.variables c.args.given c.args.left (omega arith) s.2 s.3)

pub at-requires-3 : goal.at-requires-3
at-requires-3 c = let s = c.requires.shape in rw c.with_variable-2.ensures (with_lt c.args.table.now.variables c.args.given c.args.right s.1 s.2 s.4)

pub returns : goal.returns
returns c =
    let first : FitsSigned w128 c.at.result = search rules in
    let second : FitsSigned w128 c.at-2.result = search rules in
    let third : FitsSigned w128 c.at-3.result = search rules in
    let fourth : FitsSigned w128 c.at-both.result = search rules in
    let value = simp to_z-of_z at c.alternating_sum.ensures in
    let h = value_at c.args.table.now in
    table_mutual_value c.args.table.now c.args.table.now.variables c.args.left c.args.right c.args.given c.alternating_sum.result
    c.at.result c.at-2.result c.at-3.result c.at-both.result c.at.ensures.table
    c.at.ensures.value (c.at-2.ensures.value ∙ ap h c.with_variable-with_left.ensures) (c.at-3.ensures.value ∙ ap h c.with_variable-2.ensures)
    (c.at-both.ensures.value ∙ ap h (c.with_variable.ensures ∙ ap (λ s. s + 2 ^ c.args.right) c.with_variable-with_left.ensures)) value
