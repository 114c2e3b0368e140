use Rattle.it_lift.proofs.ReadOf.{reading_gives_dependences}
use Rattle.it_lift.proofs.laws.reading_gives_dependences.Goals as goal

pub returns : goal.returns
returns c = reading_gives_dependences
