use Rattle.std.proofs.Common.{◌≡◌, ◌++◌, ◌+◌, ◌∙◌, ℕ, List, [], ap, arith, get_or, length-drop}
use Rattle.std.proofs.lemmas.List.{get_or_default}
use Rattle.it_print.specs.Lines.{part_for}
use Rattle.it_tell.proofs.OwnLineLemmas.{sets_more}
use Rattle.it_tell.proofs.containments.write_choices.Goals as goal

pub loop-i-preserved : goal.loop-i-preserved
loop-i-preserved c =
    let variables = c.args.names.now.variables in
    let names = c.args.second.now.variables in
    let sets : List ℕ = c.args.sets.now in
    let i = c.loop-i.i in
    let set = c.index-sets-i.result in
    let mid = c.extend_from_slice.new.self.items in
    let set_is : set ≡ get_or sets i 0 = c.index-sets-i.is ∙ get_or_default sets i set 0 (omega arith) in
    sets_more variables names sets c.args.from i c.loop-i.out.items mid c.write_choice.new.out.items _
    (omega (arith, length-drop c.args.from names)) (omega arith)
    (c.in_ok-extend_from_slice.ensures.items ∙ ap (λ (t : List ℕ). c.loop-i.out.items ++ t) c.before_choice.ensures)
    (c.in_ok-write_choice.ensures ∙ ap (λ (s : ℕ). mid ++ part_for variables (get_or names (c.args.from + i) []) s) set_is) c.loop-i.invariant
