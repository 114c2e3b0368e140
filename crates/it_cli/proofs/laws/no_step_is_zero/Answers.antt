use Rattle.it_cli.proofs.laws.no_step_is_zero.Goals as goal

pub returns : goal.returns
returns c = c.no_step_is_zero.ensures
