-- The number of forms that lines say to be at least 0.
use Rattle.std.specs.Prelude.{ℕ, length, sum_by}
use Rattle.it_question.specs.OwnLines.{RegionView}
use Rattle.it_demand.specs.Targets.{inequalities_of}
use Rattle.it_question.specs.LineDemands.{line_demands}

-- the number of forms that a region's own lines say to be at least 0
unfoldable pub obligation_count : RegionView → ℕ
obligation_count r = sum_by (λ d. length (inequalities_of d.kind d.form)) (line_demands (length r.names.variables) r.lines)
