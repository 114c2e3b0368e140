use Rattle.it_spans.proofs.VerdictLemmas.{valid_hull}
use Rattle.it_spans.proofs.laws.valid_hull.Goals as goal

pub returns : goal.returns
returns c = valid_hull
