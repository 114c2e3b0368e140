use Rattle.std.proofs.Common.{◌≡◌, [], length, sym, subst, ◌∙◌}
use Rattle.std.proofs.lemmas.Bool.{eqb-true}
use Rattle.std.proofs.lemmas.List.{nil_from_length}
use Rattle.it_space.specs.Answers.{certificate_view}
use Rattle.it_lift.specs.LiftedCertificates.{IsLiftOf}
use Rattle.it_lift.proofs.Unmoved.{is_own_lift}
use Rattle.it_lift.proofs.lifting.lift.Goals as goal

pub returns-then-is_empty-clause-lifted : goal.returns-then-is_empty-clause-lifted
returns-then-is_empty-clause-lifted c =
    let x : c.args.dependences.now.list ≡ [] = sym c.list.ensures
    ∙ nil_from_length c.list.result.now (eqb-true (length c.list.result.now) 0 (sym c.is_empty.ensures ∙ c.if-is_empty.true)) in
    subst (IsLiftOf c.args.problem.now c.args.dependences.now c.args.target.now (certificate_view c.args.collapsed.now)) (sym c.in_ok-copy.ensures)
    (is_own_lift c.args.problem.now c.args.dependences.now c.args.target.now
    (certificate_view c.args.collapsed.now) c.facts.ensures c.requires.dependences c.requires.target c.requires.sums x)
