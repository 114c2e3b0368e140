use Rattle.std.proofs.Common.{map, take}
use Rattle.it_elemental.specs.Generators.{forms_of, of_constraint}
use Rattle.it_print.specs.Lines.{origins_of}
use Rattle.it_terms.specs.StepsUnder.{ArePieceSteps}
use Rattle.it_terms.proofs.steps_under.piece_steps.Given as goal

abbrev pub invariant-loop-i : goal.invariant-loop-i
invariant-loop-i l =
    ArePieceSteps l.under.names.now (origins_of l.under.problem.now.constraints)
    (forms_of (map of_constraint l.under.problem.now.constraints)) l.under.lines.now l.first (take l.i l.pieces) l.sum.items
    (map (λ line. line.items) l.lines.items)
