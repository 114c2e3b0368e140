use Rattle.it_gen.proofs.FileTexts.{generated_is_file}
use Rattle.it_gen.proofs.laws.generated_is_file.Goals as goal

pub returns : goal.returns
returns c = generated_is_file
