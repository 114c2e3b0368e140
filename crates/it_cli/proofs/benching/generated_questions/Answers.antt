use Rattle.std.proofs.Common.{◌∙◌}
use Rattle.it_cli.proofs.CountLemmas.{generated_has_no_fault}
use Rattle.it_cli.proofs.benching.generated_questions.Goals as goal

pub unreachable-requires : goal.unreachable-requires
unreachable-requires c = generated_has_no_fault c.generated_is_file.ensures c.file_is_one.ensures.either c.args.seed c.args.count _ _ _ _
    c.requires.few (c.as_slice.ensures.value ∙ c.in_ok-bytes.ensures) (rw c.in-Err-Fault.field-0-is at c.in-Err-Fault.ensures.fault)
