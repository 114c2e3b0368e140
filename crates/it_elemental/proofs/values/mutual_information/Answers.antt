use Rattle.std.proofs.Common.{rules, ◌+◌, ◌<◌, ◌^◌, ◌∙◌, ap, arith, FitsSigned, to_z-of_z}
use Rattle.it_space.specs.Rows.{point_of}
use Rattle.it_polymatroid.proofs.Instances.{still_lacks, with_lt}
use Rattle.it_elemental.proofs.ValueLemmas.{mutual_value}
use Rattle.it_elemental.proofs.values.mutual_information.Goals as goal
use mir.Syntax.{w128}

pub with_variable-both-requires-clause-new : goal.with_variable-both-requires-clause-new
with_variable-both-requires-clause-new c = let s = c.requires.shape
    in rw c.with_variable-with_left.ensures (still_lacks c.args.given c.args.left c.args.right s.0 s.3 s.4)

pub at_set-requires-2 : goal.at_set-requires-2
at_set-requires-2 c =
    let s = c.requires.shape in
    let below : c.args.given + 2 ^ c.args.left < 2 ^ c.args.n = with_lt c.args.n c.args.given c.args.left (omega arith) s.2 s.3 in
    omega (arith, c.with_variable-with_left.ensures)

pub at_set-requires-3 : goal.at_set-requires-3
at_set-requires-3 c =
    let s = c.requires.shape in
    let below : c.args.given + 2 ^ c.args.right < 2 ^ c.args.n = with_lt c.args.n c.args.given c.args.right s.1 s.2 s.4 in
    omega (arith, c.with_variable-with_right.ensures)

pub at_set-requires-4 : goal.at_set-requires-4
at_set-requires-4 c =
    let s = c.requires.shape in
    let left : c.args.given + 2 ^ c.args.left < 2 ^ c.args.n = with_lt c.args.n c.args.given c.args.left (omega arith) s.2 s.3 in
    let below : c.args.given + 2 ^ c.args.left + 2 ^ c.args.right < 2 ^ c.args.n = with_lt c.args.n (c.args.given + 2 ^ c.args.left)
    c.args.right s.1 left (still_lacks c.args.given c.args.left c.args.right s.0 s.3 s.4) in
    omega (arith, c.with_variable-both.ensures, c.with_variable-with_left.ensures)

pub returns : goal.returns
returns c =
    let first : FitsSigned w128 c.at_set.result = search rules in
    let second : FitsSigned w128 c.at_set-2.result = search rules in
    let third : FitsSigned w128 c.at_set-3.result = search rules in
    let fourth : FitsSigned w128 c.at_set-4.result = search rules in
    let value = simp to_z-of_z at c.alternating_sum.ensures in
    let h = point_of c.args.point.now in
    mutual_value c.args.point.now c.args.n c.args.left c.args.right c.args.given c.alternating_sum.result c.at_set.result c.at_set-2.result
    c.at_set-3.result c.at_set-4.result c.at_set.ensures.within
    c.at_set.ensures.value (c.at_set-2.ensures.value ∙ ap h c.with_variable-with_left.ensures)
    (c.at_set-3.ensures.value ∙ ap h c.with_variable-with_right.ensures)
    (c.at_set-4.ensures.value ∙ ap h (c.with_variable-both.ensures ∙ ap (λ s. s + 2 ^ c.args.right) c.with_variable-with_left.ensures)) value
