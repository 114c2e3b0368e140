-- Constraints are met where the lines that they state are true.
use Rattle.std.proofs.Common.{◌≡◌, ◌↔◌, ℕ, ℤ, pos, List, flat_map, map}
use Rattle.std.proofs.lemmas.List.Elements.{All-append}
use Rattle.it_space.specs.declared.spaces.Space.{Space}
use Rattle.it_problems.specs.declared.problems.Constraint.{Constraint}
use Rattle.it_problems.specs.declared.problems.Origin.{Origin}
use Rattle.it_problems.specs.Problems.{AreMet}
use Rattle.it_question.specs.OwnLines.{OwnLinesView}
use Rattle.it_demand.specs.Demands.{demand_of, demands}
use Rattle.it_demand.specs.Origins.{AreStated}
use Rattle.it_question.specs.LineDemands.{line_demands}
use Rattle.it_canon.specs.TrueLines.{AreTrueAt}
use Rattle.it_demand.proofs.ZipLemmas.{All-parts}
use Rattle.it_demand.proofs.MetLemmas.{IsSatisfied, stated_met, givens_satisfied, rows_satisfied}

pub lines_met : (s : Space) (places : List Origin) (own : OwnLinesView) (cs : List Constraint)
    → AreStated s places (line_demands s.variables own) cs → (p : ℕ → ℤ) → p 0 ≡ pos 0 → AreMet p cs ↔ AreTrueAt s.variables p own
lines_met s places own cs h p z =
    let n : ℕ = s.variables in
    let all = stated_met s places (line_demands n own) cs p z h in
    let givens = givens_satisfied n own.givens p in
    let rows = rows_satisfied n own.rows p in (
      λ m. let each = All-parts (IsSatisfied p) (flat_map (demands n) own.givens) (map (demand_of n) own.rows) (all.0 m)
          in record { givens = givens.0 each.0; rows = rows.0 each.1 },
      λ t. all.1 (All-append (IsSatisfied p) (flat_map (demands n) own.givens) (map (demand_of n) own.rows) (givens.1 t.givens) (rows.1 t.rows)),
    )
