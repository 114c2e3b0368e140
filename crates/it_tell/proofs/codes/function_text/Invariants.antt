use Rattle.std.proofs.Common.{◌≡◌, ◌+◌, ◌++◌, drop, codes}
use Rattle.it_print.specs.Lines.{joined_texts}
use Rattle.it_print.proofs.LineLemmas.{or_zero_unless}
use Rattle.it_tell.specs.CodeTexts.{function_text, symbol_texts}
use Rattle.it_tell.proofs.codes.function_text.Given as goal

abbrev pub invariant-loop-i : goal.invariant-loop-i
invariant-loop-i l = l.out.items ++ joined_texts (codes " + ") l.some (or_zero_unless l.some (symbol_texts (l.i + 1) (drop l.i l.coefficients))) ≡ function_text l.coefficients
