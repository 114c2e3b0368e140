use Rattle.std.proofs.Common.{◌≡◌, ◌++◌, drop, codes, false, map}
use Rattle.it_codes.specs.Codes.{functions_of}
use Rattle.it_print.specs.Lines.{joined_texts}
use Rattle.it_tell.specs.CodeTexts.{variable_texts}
use Rattle.it_tell.proofs.codes.variables_text.Given as goal

abbrev pub invariant-loop-i : goal.invariant-loop-i
invariant-loop-i l = l.out.items ++ joined_texts (codes ", ") l.some (variable_texts l.names.variables l.i (map functions_of (drop l.i l.variables)))
    ≡ joined_texts (codes ", ") false (variable_texts l.names.variables 0 (map functions_of l.variables))
