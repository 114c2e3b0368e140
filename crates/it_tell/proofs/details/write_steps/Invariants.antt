use Rattle.std.proofs.Common.{◌≡◌, ◌++◌, map, drop}
use Rattle.std.specs.List.{flat_map}
use Rattle.it_tell.specs.Tellings.{step_line}
use Rattle.it_tell.proofs.details.write_steps.Given as goal

abbrev pub invariant-loop-step : goal.invariant-loop-step
invariant-loop-step l = l.out.items ++ flat_map step_line (map (λ s. s.items) (drop l.step-index l.steps))
    ≡ l.initial.out.items ++ flat_map step_line (map (λ s. s.items) l.steps)
