use Rattle.std.proofs.Common.{subst, map}
use Rattle.it_question.specs.Files.{IsFileWithin, FileFaultWithin}
use Rattle.it_certificate.proofs.QuestionLemmas.{none_only, fault_only, fault_here}
use Rattle.it_certificate.proofs.questions.question_of.Goals as goal

pub returns-in-None-clause-reading : goal.returns-in-None-clause-reading
returns-in-None-clause-reading c = none_only c.args.limits c.args.text.now c.in-Ok.all.items
    (subst (λ t. IsFileWithin c.args.limits t c.in-Ok.all.items) c.as_bytes-bytes.ensures.value c.in-Ok.ensures.read) c.in-None.ensures.one

pub returns-in-Err-Fault-clause-reading : goal.returns-in-Err-Fault-clause-reading
returns-in-Err-Fault-clause-reading c = fault_only c.args.limits c.args.text.now c.in-Err-Fault.field-0-0 c.in-Err-Fault.field-0-1
    c.in-Err-Fault.field-0-2 (subst (λ t. FileFaultWithin c.args.limits t c.in-Err-Fault.field-0-0 c.in-Err-Fault.field-0-1 c.in-Err-Fault.field-0-2)
    c.as_bytes-bytes.ensures.value (fault_here c.args.limits _ _ _ _ _ c.in-Err-Fault.field-0-is c.in-Err-Fault.ensures.fault))
