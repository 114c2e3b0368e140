use Rattle.std.proofs.Common.{map}
use Rattle.it_cli.proofs.CountLemmas.{IsCounting}
use Rattle.it_cli.proofs.benching.counts_of.Given as goal

abbrev pub invariant-loop-question : goal.invariant-loop-question
invariant-loop-question g l = IsCounting l.budgets (map (λ b. (goal.Proposer-dyn g (b.vtable, b.value)).plan b.value) l.initial.boxes.items)
    l.questions l.question-index l.counts
    (map (λ b. (goal.Proposer-dyn g (b.vtable, b.value)).plan b.value) l.boxes.items)
