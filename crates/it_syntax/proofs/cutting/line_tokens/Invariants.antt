use Rattle.std.proofs.Common.{◌≡◌, ◌+◌, length}
use Rattle.it_syntax.proofs.MisspellingLemmas.{GoesOn}
use Rattle.it_syntax.proofs.cutting.line_tokens.Given as goal

abbrev pub invariant-loop-body : goal.invariant-loop-body
invariant-loop-body l = GoesOn l.line l.tokens.items l.at l.rest × (l.at + length l.rest ≡ length l.line)

abbrev pub decreases-loop-body : goal.decreases-loop-body
decreases-loop-body l = length l.rest
