-- The lines that are relations, by their form: each has one reading or one first fault.
use Rattle.std.proofs.Common.{Bool, [], refl}
use Rattle.it_forms.proofs.FormLanguage.{one_meaning, says_or_fault}
use Rattle.it_forms.proofs.Outlines.{Has, a_line, has_to_end}
use Rattle.it_syntax.specs.Lines.{letters_from}
use Rattle.it_syntax.specs.NamesViews.{NamesView}
use Rattle.it_syntax.specs.RelationLines.{relation_line, RelationIsOne, RelationFaultIsOne, RelationOrFault}
use Rattle.it_syntax.specs.Scopes.{scope_of}
use Rattle.it_syntax.proofs.LineLemmas.{fault_at_one}
use Rattle.it_syntax.proofs.LineOutlines.{a_relation, relation_has}

pub relation_line_has : (v : NamesView) (rates : Bool) → Has (relation_line v rates) (a_line (a_relation []))
relation_line_has v rates = has_to_end _ _ (relation_has (scope_of v rates)) refl

pub relation_line_is_one : RelationIsOne
relation_line_is_one v rates line ts from = one_meaning (relation_line v rates) _ (relation_line_has v rates) (letters_from line ts from)

pub relation_fault_is_one : RelationFaultIsOne
relation_fault_is_one v rates = fault_at_one (relation_line v rates)

pub relation_or_fault : RelationOrFault
relation_or_fault v rates line ts from a c y h f = says_or_fault (relation_line v rates) (letters_from line ts from) y c (letters_from line ts f.at) h f.first
