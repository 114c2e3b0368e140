use Rattle.std.proofs.Common.{◌≡◌, map, take}
use Rattle.it_syntax.specs.Meaning.{relation_view}
use Rattle.it_syntax.proofs.copies.relations.Given as goal

abbrev pub invariant-loop-relation : goal.invariant-loop-relation
invariant-loop-relation l = map relation_view l.copies.items ≡ map relation_view (take l.relation-index l.relations)
