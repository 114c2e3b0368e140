use Rattle.it_best.proofs.judging.never_point.Goals as goal

pub check_point-requires-clause-row : goal.check_point-requires-clause-row
check_point-requires-clause-row c = rw c.right.ensures c.facts.ensures.right

pub check_point-requires-clause-above : goal.check_point-requires-clause-above
check_point-requires-clause-above c = rw (c.right.ensures, c.in_ok-point.ensures.value) c.requires.never.above
