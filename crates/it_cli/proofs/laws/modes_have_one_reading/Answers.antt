use Rattle.it_cli.proofs.OutputLemmas as proof
use Rattle.it_cli.proofs.laws.modes_have_one_reading.Goals as goal

pub returns : goal.returns
returns c = proof.modes_have_one_reading c.file_is_one.ensures.one c.file_is_one.ensures.fault c.file_is_one.ensures.either (record {
  file = c.heads_are_one.ensures.one;
  fault = c.heads_are_one.ensures.fault;
  apart = c.heads_are_one.ensures.either;
  extension = c.copies_are_determined.ensures.extension;
  misfit = c.copies_are_determined.ensures.misfit;
  either = c.copies_are_determined.ensures.either;
}) (record {
  file = c.sharing_is_one.ensures.one;
  fault = c.sharing_is_one.ensures.fault;
  apart = c.sharing_is_one.ensures.either;
})
