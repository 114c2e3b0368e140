use Rattle.std.proofs.Common.{List, All, arith, subst}
use Rattle.std.proofs.lemmas.List.{take_all}
use Rattle.std.proofs.lemmas.List.Elements.{All-more}
use Rattle.it_syntax.specs.declared.types.Term.{Term}
use Rattle.it_terms.specs.Proofs.{IsPlusShannon}
use Rattle.it_terms.proofs.proof_judging.are_plus.Goals as goal

pub loop-term-preserved : goal.loop-term-preserved
loop-term-preserved c =
    let n = c.args.space.variables in
    All-more (IsPlusShannon n) c.args.terms.now c.loop-term.term-index c.term-item.result (omega arith) c.loop-term.invariant
    (subst (IsPlusShannon n) c.term-item.is c.if-not-is_plus.ensures)

pub returns : goal.returns
returns c = subst (λ (ts : List Term). All (IsPlusShannon c.args.space.variables) ts)
    (take_all c.loop-term.term-index c.args.terms.now (omega arith)) c.loop-term.invariant
