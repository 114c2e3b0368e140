use Rattle.std.proofs.Common.{}
use Rattle.std.proofs.lemmas.Bool.{OnFalse_at}
use Rattle.it_question.proofs.asking.verb.Goals as goal

pub containment-requires-clause-names : goal.containment-requires-clause-names
containment-requires-clause-names c = record {
  some = c.requires.space.some;
  few = OnFalse_at c.if-is_too_wide.false c.is_too_wide.ensures.few;
  few_rates = c.requires.space.few_rates;
}
