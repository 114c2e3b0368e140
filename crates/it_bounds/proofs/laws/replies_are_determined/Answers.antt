use Rattle.it_bounds.proofs.UniqueLemmas.{never_out_of_steps, one_right_reply}
use Rattle.it_bounds.proofs.ToldLemmas.{one_right_told}
use Rattle.it_bounds.proofs.laws.replies_are_determined.Goals as goal

pub returns-clause-one : goal.returns-clause-one
returns-clause-one c = one_right_reply

pub returns-clause-steps : goal.returns-clause-steps
returns-clause-steps c = never_out_of_steps

pub returns-clause-told : goal.returns-clause-told
returns-clause-told c = one_right_told
