-- Rows over the coordinates of names.
use Rattle.std.proofs.Common.{length, arith}
use Rattle.std.proofs.lemmas.Nat.{pow_pos}
use Rattle.it_space.specs.Rows.{Terms, IsOver}
use Rattle.it_space.specs.Spaces.{size_of}
use Rattle.it_syntax.specs.NamesViews.{NamesView}
use Rattle.it_demand.specs.QuestionSpaces.{space_of}
use Rattle.it_print.specs.Lines.{IsRowOver}

pub row_over : (v : NamesView) (terms : Terms) → IsOver (size_of (space_of v)) terms → IsRowOver v terms
row_over v terms up = λ i d l. let t = up i d l in omega (arith, t.1, pow_pos (length v.variables))
