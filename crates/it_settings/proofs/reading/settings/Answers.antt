use Rattle.std.proofs.Common.{◌∙◌, sym}
use Rattle.clap.specs.Words.{found_of}
use Rattle.it_settings.proofs.ReadingLemmas.{has_reading, has_no_reading}
use Rattle.it_settings.proofs.reading.settings.Goals as goal

pub returns-in-Some-clause-reads : goal.returns-in-Some-clause-reads
returns-in-Some-clause-reads c = has_reading _ (found_of c.in-Ok.matches) c.in-Ok.ensures.fits c.in-Ok.ensures.rows ∙ sym c.in-Some.ensures.reads

pub returns-in-Ok-clause-reads : goal.returns-in-Ok-clause-reads
returns-in-Ok-clause-reads c = has_reading _ (found_of c.in-Ok.matches) c.in-Ok.ensures.fits c.in-Ok.ensures.rows ∙ sym c.in-None.ensures.reads

pub returns-clause-reads : goal.returns-clause-reads
returns-clause-reads c = has_no_reading _ _ c.fault.result c.in-Err.ensures.none c.fault.ensures
