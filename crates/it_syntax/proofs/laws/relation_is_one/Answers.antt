use Rattle.it_syntax.proofs.RelationLemmas.{relation_line_is_one, relation_fault_is_one, relation_or_fault}
use Rattle.it_syntax.proofs.laws.relation_is_one.Goals as goal

pub returns : goal.returns
returns c = record { one = relation_line_is_one; fault = relation_fault_is_one; either = relation_or_fault }
