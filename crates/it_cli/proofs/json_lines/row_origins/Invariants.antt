use Rattle.std.proofs.Common.{map, take}
use Rattle.std.specs.List.{AllZip}
use Rattle.it_space.specs.Answers.{certificate_view}
use Rattle.it_cli.specs.ToldOrigins.{IsToldOrigin}
use Rattle.it_answer.specs.Truth.{region_rows}
use Rattle.it_cli.proofs.json_lines.row_origins.Given as goal

abbrev pub invariant-loop-row : goal.invariant-loop-row
invariant-loop-row l = AllZip (IsToldOrigin l.problem) (region_rows (take l.row-index l.rows)) (map certificate_view l.origins.items)
