use Rattle.std.proofs.lemmas.Option.{IfSome_then}
use Rattle.it_space.specs.Rows.{value}
use Rattle.it_tell.proofs.details.printed_texts.Goals as goal

pub returns : goal.returns
returns c = IfSome_then c.in_ok-texts.texts c.in_ok-texts.ensures (λ t h. h (value c.args.proven.now.row.now) (rw c.in-Some.is at c.in_ok-proof.ensures))
