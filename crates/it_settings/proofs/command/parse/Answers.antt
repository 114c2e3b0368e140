use Rattle.it_settings.proofs.AppLemmas.{fits, has_rows, has_none}
use Rattle.it_settings.proofs.command.parse.Goals as goal

pub returns-clause-fits : goal.returns-clause-fits
returns-clause-fits c = fits _ _ _ c.in_ok-command.ensures c.try_get_matches_from.ensures.kinds

pub returns-clause-rows : goal.returns-clause-rows
returns-clause-rows c = has_rows _ _ _ c.in_ok-command.ensures c.try_get_matches_from.ensures.matches

pub returns-clause-none : goal.returns-clause-none
returns-clause-none c = has_none _ _ _ c.in_ok-command.ensures c.try_get_matches_from.ensures.kinds
