use Rattle.std.proofs.Common.{inr}
use Rattle.it_tell.specs.Tellings.{AreProofTexts}
use Rattle.it_tell.proofs.details.plain_texts.Goals as goal

pub returns : goal.returns
unfolding AreProofTexts
returns c = inr (c.in_ok-proof.ensures, rw c.as_slice.ensures.value at c.in_ok-steps.ensures)
