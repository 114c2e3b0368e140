use Rattle.std.proofs.Common.{arith}
use Rattle.it_print.specs.PosedQuestions.{names_of, posed_origins}
use Rattle.it_print.specs.ProofLines.{generator_rows}
use Rattle.it_print.proofs.ProofLemmas.{proof_step, proofs_done}
use Rattle.it_print.proofs.proof_lines.write_proof_lines.Goals as goal

pub loop-i-preserved : goal.loop-i-preserved
loop-i-preserved c = (
  c.loop-i.invariant.0,
  proof_step c.args.posed.now.number (names_of c.args.posed.now) (posed_origins c.args.posed.now)
      (generator_rows (names_of c.args.posed.now) c.args.posed.now.constraints.now) c.args.proofs.now c.args.targets.now c.loop-i.i c.index-proofs-i.result
      c.index-targets-i.result
      c.loop-i.out.items c.write_certificate_lines.new.out.items _ (omega (arith, c.loop-i-test.true, c.loop-i.invariant.0))
      (omega (arith, c.loop-i-test.true, c.loop-i.invariant.0)) c.index-proofs-i.is c.index-targets-i.is
      c.in_ok-write_certificate_lines.ensures c.loop-i.invariant.1,
)

pub returns : goal.returns
returns c = proofs_done c.args.posed.now.number (names_of c.args.posed.now) (posed_origins c.args.posed.now)
    (generator_rows (names_of c.args.posed.now) c.args.posed.now.constraints.now) c.args.proofs.now c.args.targets.now c.loop-i.i c.loop-i.out.items _
    (omega (arith, c.loop-i-test.false, c.loop-i.invariant.0)) c.loop-i.invariant.1
