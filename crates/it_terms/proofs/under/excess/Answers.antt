use Rattle.std.proofs.Common.{◌+◌, ◌+ℤ◌, ◌∙◌, ap, length, pos, subst, sym}
use Rattle.std.proofs.lemmas.List.{length-replicate}
use Rattle.it_space.specs.Rows.{Terms, value}
use Rattle.it_polymatroid.specs.Certificates.{combination}
use Rattle.it_syntax.specs.Meaning.{relation_view}
use Rattle.it_terms.specs.Sums.{IsExcess, IsPlus, constraint_value}
use Rattle.it_terms.proofs.SumLemmas.{places_few}
use Rattle.it_terms.proofs.UnderLemmas.{row_of_all}
use Rattle.it_terms.proofs.under.excess.Goals as goal

pub terms-requires-in-Ok : goal.terms-requires-in-Ok
terms-requires-in-Ok c = places_few c.args.space c.add_both.new.sums (c.size.result + 1) c.requires.space (ap (λ n. n + 1) c.size.ensures)
    (c.in-Ok.ensures.complete ∙ ap length c.in_ok-sums.ensures)

pub new-requires : goal.new-requires
new-requires c =
    let places = c.size.result + 1 in
    let cs = c.args.constraints.now in
    let ws = c.args.weights.now in
    (row_of_all c.args.space (relation_view c.args.relation.now) c.args.negated cs ws c.in_ok-difference.difference
    c.in_ok-terms-in-Ok.field-0.items places c.in_ok-sums.sums c.add_both.new.sums
    (ap (λ n. n + 1) c.size.ensures) c.in_ok-difference.ensures c.in_ok-sums.ensures
    (subst (λ (t : Terms). IsPlus c.in_ok-sums.sums c.add_both.new.sums (λ p. value t p +ℤ combination ws (constraint_value cs p)))
    c.terms.ensures.value c.in-Ok.ensures)
    (ap length c.in_ok-sums.ensures ∙ length-replicate places (pos 0)) c.in_ok-terms-in-Ok.ensures).canonical

pub returns-in-Ok : goal.returns-in-Ok
returns-in-Ok c =
    let places = c.size.result + 1 in
    let cs = c.args.constraints.now in
    let ws = c.args.weights.now in
    subst (IsExcess c.args.space (relation_view c.args.relation.now) c.args.negated cs ws) (sym c.new.ensures)
    (row_of_all c.args.space (relation_view c.args.relation.now) c.args.negated cs ws c.in_ok-difference.difference
    c.in_ok-terms-in-Ok.field-0.items places c.in_ok-sums.sums c.add_both.new.sums
    (ap (λ n. n + 1) c.size.ensures) c.in_ok-difference.ensures c.in_ok-sums.ensures
    (subst (λ (t : Terms). IsPlus c.in_ok-sums.sums c.add_both.new.sums (λ p. value t p +ℤ combination ws (constraint_value cs p)))
    c.terms.ensures.value c.in-Ok.ensures)
    (ap length c.in_ok-sums.ensures ∙ length-replicate places (pos 0)) c.in_ok-terms-in-Ok.ensures).excess
