use Rattle.it_certificate.proofs.SourceLemmas.{made_fault}
use Rattle.it_certificate.proofs.sources.made_of.Goals as goal

pub returns-in-Err-Fault-clause-reading : goal.returns-in-Err-Fault-clause-reading
returns-in-Err-Fault-clause-reading c = made_fault c.args.limits c.args.bytes.now _ c.in-Err-Fault.field-0-0 c.in-Err-Fault.field-0-1
    c.in-Err-Fault.field-0-2 c.in-Err-Fault.field-0-is c.in-Err-Fault.ensures.fault
