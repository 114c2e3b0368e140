use Rattle.std.proofs.Common.{◌≡◌, ◌≤◌, ◌++◌, ◌-◌}
use Rattle.it_gen.specs.GeneratedFiles.{generated_file}
use Rattle.it_gen.proofs.files.write_questions.Given as goal

abbrev pub invariant-loop : goal.invariant-loop
invariant-loop l = (l.counter ≤ l.count) × (l.out.items ++ generated_file l.draws.state (l.count - l.counter)
    ≡ l.initial.out.items ++ generated_file l.seed l.count)
