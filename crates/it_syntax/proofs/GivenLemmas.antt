-- The lines that are constraints, by their form: each has one reading or one first fault.
use Rattle.std.proofs.Common.{false, refl}
use Rattle.it_forms.proofs.FormLanguage.{one_meaning, says_or_fault}
use Rattle.it_forms.proofs.Outlines.{Has, a_line, has_to_end}
use Rattle.it_syntax.specs.Lines.{letters_from}
use Rattle.it_syntax.specs.NamesViews.{NamesView}
use Rattle.it_syntax.specs.GivenLines.{given_line, GivenIsOne, GivenFaultIsOne, GivenOrFault}
use Rattle.it_syntax.specs.Scopes.{scope_of}
use Rattle.it_syntax.proofs.LineLemmas.{fault_at_one}
use Rattle.it_syntax.proofs.LineOutlines.{a_given, given_has}

pub given_line_has : (v : NamesView) → Has (given_line v) (a_line a_given)
given_line_has v = has_to_end _ _ (given_has (scope_of v false)) refl

pub given_is_one : GivenIsOne
given_is_one v line ts from = one_meaning (given_line v) _ (given_line_has v) (letters_from line ts from)

pub given_fault_is_one : GivenFaultIsOne
given_fault_is_one v = fault_at_one (given_line v)

pub given_or_fault : GivenOrFault
given_or_fault v line ts from a c y h f = says_or_fault (given_line v) (letters_from line ts from) y c (letters_from line ts f.at) h f.first
