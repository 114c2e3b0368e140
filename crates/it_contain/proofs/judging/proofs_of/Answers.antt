use Rattle.std.proofs.Common.{rules, Option, subst}
use Rattle.it_space.specs.declared.answers.Certificate.{Certificate}
use Rattle.it_contain.specs.SearchSteps.{ProvesOne}
use Rattle.it_contain.specs.Search.{proof_views}
use Rattle.it_contain.proofs.ProofLemmas.{none_at, proofs_end, under_way_more}
use Rattle.it_contain.proofs.judging.proofs_of.Goals as goal

pub returns-in-None-clause-proves : goal.returns-in-None-clause-proves
returns-in-None-clause-proves c =
    none_at c.args.problem.now c.args.effort c.args.targets.now c.loop-target.target-index c.target-item.result c.loop-target-test.true c.target-item.is
    (subst (λ (o : Option Certificate). ProvesOne c.args.problem.now c.args.effort c.target-item.result o) c.in-None.is c.in_ok-proof.ensures.proves)

pub returns-clause-proves : goal.returns-clause-proves
returns-clause-proves c = proofs_end c.args.problem.now c.args.effort c.args.targets.now
    (proof_views c.loop-target.proofs) c.loop-target.target-index c.loop-target-test.false c.loop-target.invariant.under_way

pub loop-target-preserved : goal.loop-target-preserved
loop-target-preserved c = record {
  under_way = under_way_more c.args.problem.now c.args.effort c.args.targets.now c.loop-target.proofs.items c.push.new.self.items
      c.in-Some.proof c.loop-target.target-index c.target-item.result c.loop-target-test.true c.target-item.is
      (subst (λ (o : Option Certificate). ProvesOne c.args.problem.now c.args.effort c.target-item.result o) c.in-Some.is
      c.in_ok-proof.ensures.proves) c.in_ok-push-in-Some.ensures.items c.loop-target.invariant.under_way;
  outcomes = search rules;
}
