use Rattle.std.proofs.Common.{ℕ, ap, subst, ◌∙◌}
use Rattle.it_space.proofs.SpaceLemmas.{few_sets}
use Rattle.it_closure.specs.Closures.{closure}
use Rattle.it_closure.specs.DependencesViews.{AreOfSpace}
use Rattle.it_closure.proofs.ClosingLoop.{closure_among, of_space}
use Rattle.it_closure.proofs.dependences.Dependences.close.Goals as goal

pub returns-clause-own : goal.returns-clause-own
returns-clause-own c h =
    let n : ℕ = c.args.self.now.space.variables in
    let a : AreOfSpace c.args.self.now = subst AreOfSpace c.self.view_is c.self.invariant in
    c.closure.ensures ∙ ap (λ ds. closure 16 ds c.args.set) (c.as_slice.ensures.value ∙ ap (λ d. d.list) c.self.view_is)
    ∙ closure_among n 16 c.args.self.now.list c.args.set (few_sets n a.space.few) (of_space c.args.self.now a).below h
