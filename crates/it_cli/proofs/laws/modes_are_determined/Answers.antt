use Rattle.it_cli.proofs.OutputLemmas as proof
use Rattle.it_cli.proofs.laws.modes_are_determined.Goals as goal

pub returns : goal.returns
returns c = proof.modes_are_determined c.modes_have_one_reading.ensures c.answers_are_determined.ensures.one c.file_is_one.ensures.one
    c.verdict_is_one.ensures (record {
      file = c.heads_are_one.ensures.one;
      fault = c.heads_are_one.ensures.fault;
      apart = c.heads_are_one.ensures.either;
      extension = c.copies_are_determined.ensures.extension;
      misfit = c.copies_are_determined.ensures.misfit;
      either = c.copies_are_determined.ensures.either;
    }) c.replies_are_determined.ensures.one c.replies_are_determined-2.ensures.told
    c.questions_are_in_reach.ensures.file c.questions_are_in_reach.ensures.copies c.questions_are_in_reach.ensures.sharing
