-- Constraints of lines, put together.
use Rattle.std.proofs.Common.{◌≡◌, ℕ, ◌+◌, ap, ◌∙◌, refl, List, ◌++◌, length, map, append_assoc}
use Rattle.std.specs.List.{flat_map}
use Rattle.it_space.specs.declared.spaces.Space.{Space}
use Rattle.it_problems.specs.declared.problems.Constraint.{Constraint}
use Rattle.it_syntax.specs.Meaning.{RelationView}
use Rattle.it_syntax.specs.Givens.{GivenView}
use Rattle.it_demand.specs.Demands.{demand_of, demands}
use Rattle.it_demand.specs.Origins.{AreStated, given_origins, row_origins}
use Rattle.it_demand.proofs.GeneratorLemmas.{givens-append, rows-append, stated-append}
use Rattle.it_question.specs.LineOrigins.{line_origins}
use Rattle.it_question.specs.LineDemands.{line_demands}

-- givens and more givens, then rows and more rows
pub region_stated : (s : Space) (n given row : ℕ) (gs more_gs : List GivenView) (rs more_rs : List RelationView)
    (a b c d ab abc all : List Constraint) → given ≡ 1 + length gs → row ≡ 1 + length rs
    → AreStated s (given_origins n 1 gs) (flat_map (demands n) gs) a → AreStated s (given_origins n given more_gs) (flat_map (demands n) more_gs) b
    → AreStated s (row_origins 1 rs) (map (demand_of n) rs) c → AreStated s (row_origins row more_rs) (map (demand_of n) more_rs) d
    → ab ≡ a ++ b → abc ≡ ab ++ c → all ≡ abc ++ d
    → AreStated s (line_origins n (record { givens = gs ++ more_gs; rows = rs ++ more_rs }))
    (line_demands n (record { givens = gs ++ more_gs; rows = rs ++ more_rs })) all
region_stated s n given row gs more_gs rs more_rs a b c d ab abc all g r sa sb sc sd e f h =
    stated-append s (given_origins n 1 (gs ++ more_gs)) (row_origins 1 (rs ++ more_rs)) (flat_map (demands n) (gs ++ more_gs))
    (map (demand_of n) (rs ++ more_rs)) ab (c ++ d) all
    (givens-append s n given gs more_gs a b ab g sa sb e) (rows-append s n row rs more_rs c d (c ++ d) r sc sd refl)
    (h ∙ ap (λ (x : List Constraint). x ++ d) f ∙ append_assoc ab c d)
