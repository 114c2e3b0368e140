use Rattle.it_syntax.proofs.GivenLemmas.{given_is_one, given_fault_is_one, given_or_fault}
use Rattle.it_syntax.proofs.laws.given_is_one.Goals as goal

pub returns : goal.returns
returns c = record { one = given_is_one; fault = given_fault_is_one; either = given_or_fault }
