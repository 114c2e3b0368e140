use Rattle.it_copy.proofs.CopyFileLemmas.{copy_file_has_one}
use Rattle.it_copy.proofs.laws.heads_have_one.Goals as goal

pub returns : goal.returns
returns c = copy_file_has_one
