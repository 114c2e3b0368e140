use Rattle.std.proofs.Common.{rules, ℤ, pos, List, [], ◌∷◌, OnOk, OnErr, FitsSigned, to_z-of_z, subst}
use Rattle.it_space.specs.Sums.{number_at}
use Rattle.it_lift.specs.Fits.{WeightSumsFit}
use Rattle.it_lift.specs.Lifts.{signed_value}
use Rattle.it_lift.specs.Sums.{AreWeightsAdded}
use Rattle.it_lift.proofs.SumSteps.{added_one, one_stops}
use Rattle.it_lift.proofs.sums.WeightSums.add.Goals as goal
use mir.Syntax.{w128}

pub returns-clause-added : goal.returns-clause-added
returns-clause-added c =
    let f : FitsSigned w128 c.signed_amount.result = search rules in
    let added = simp to_z-of_z at c.add.ensures.added in
    subst (λ (old : List ℤ). OnOk c.add.result (AreWeightsAdded old c.add.new.self
    ((c.args.index, signed_value c.args.taken (pos c.args.amount)) ∷ []))) c.self.view_is
    (added_one c.add.result c.self.inside.sums c.add.new.self c.args.index
    (signed_value c.args.taken (pos c.args.amount)) c.signed_amount.result c.signed_amount.ensures added)

pub returns-clause-wide : goal.returns-clause-wide
returns-clause-wide c =
    let f : FitsSigned w128 c.signed_amount.result = search rules in
    let wide = simp to_z-of_z at c.add.ensures.wide in
    subst (λ (old : List ℤ). OnErr c.add.result (¬ WeightSumsFit (number_at old)
    ((c.args.index, signed_value c.args.taken (pos c.args.amount)) ∷ []))) c.self.view_is
    (one_stops c.add.result c.self.inside.sums c.args.index (signed_value c.args.taken (pos c.args.amount)) c.signed_amount.result c.signed_amount.ensures wide)
