use Rattle.std.proofs.Common.{◌≡◌, false, true, refl, sym, ◌∙◌, ap}
use Rattle.it_space.specs.Answers.{certificate_view}
use Rattle.it_report.specs.RowVerdicts.{proof_verdict, is_valid}
use Rattle.it_report.proofs.VerdictLemmas.{proofs_found, proofs_more, proofs_short, proofs_done}
use Rattle.it_report.proofs.rows.proofs_verdict.Goals as goal

pub returns-then-i-proofs-clause-verdict : goal.returns-then-i-proofs-clause-verdict
returns-then-i-proofs-clause-verdict c = proofs_short c.args.problem.now c.args.rows.now c.args.proofs.now c.loop-i.i c.loop-i.invariant.rest c.if-i-proofs.true

pub returns-clause-verdict : goal.returns-clause-verdict
returns-clause-verdict c = proofs_done c.args.problem.now c.args.rows.now c.args.proofs.now c.loop-i.i c.loop-i.invariant.rest c.loop-i-test.false

pub returns-then-not-is_valid-clause-verdict : goal.returns-then-not-is_valid-clause-verdict
returns-then-not-is_valid-clause-verdict c =
    let p = c.args.problem.now in
    let e : is_valid (proof_verdict p c.index-rows-i.result (certificate_view c.index-proofs-i.result)) ≡ false
    = ap is_valid (sym c.proof_verdict-verdict.ensures.verdict) ∙ sym c.is_valid.ensures ∙ c.if-not-is_valid.true in
    c.proof_verdict-verdict.ensures.verdict
    ∙ proofs_found p c.args.rows.now c.args.proofs.now c.loop-i.i c.index-rows-i.result c.index-proofs-i.result c.index-rows-i.is
    c.index-proofs-i.is c.loop-i-test.true c.if-i-proofs.false e c.loop-i.invariant.rest

pub loop-i-preserved : goal.loop-i-preserved
loop-i-preserved c =
    let p = c.args.problem.now in
    let e : is_valid (proof_verdict p c.index-rows-i.result (certificate_view c.index-proofs-i.result)) ≡ true
    = ap is_valid (sym c.proof_verdict-verdict.ensures.verdict) ∙ sym c.is_valid.ensures ∙ c.if-not-is_valid.false in
    record {
      end = refl;
      rest = proofs_more p c.args.rows.now c.args.proofs.now c.loop-i.i c.index-rows-i.result c.index-proofs-i.result c.index-rows-i.is
          c.index-proofs-i.is c.loop-i-test.true c.if-i-proofs.false e c.loop-i.invariant.rest;
    }
