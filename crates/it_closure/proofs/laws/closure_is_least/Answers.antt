use Rattle.it_closure.proofs.Meets.{closure_is}
use Rattle.it_closure.proofs.laws.closure_is_least.Goals as goal

pub returns : goal.returns
returns c = closure_is
