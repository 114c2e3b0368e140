use Rattle.std.proofs.Common.{rules, ◌≢◌, subst}
use Rattle.std.proofs.lemmas.Bool.{OnTrue_at, OnTrue_from}
use Rattle.it_space.specs.declared.spaces.Space.{Space}
use Rattle.it_syntax.specs.Meaning.{relation_view}
use Rattle.it_syntax.specs.declared.types.Sign.TheVariants.{Equal}
use Rattle.it_demand.specs.Canonical.{IsRowOf, form_of}
use Rattle.it_terms.specs.Signs.{SaysSpreadOut}
use Rattle.it_terms.proofs.RowLemmas.{spread_says}
use Rattle.it_terms.proofs.row_judging.says_under.Goals as goal

pub returns : goal.returns
returns c =
    let s : Space = c.args.functions.now.space in
    let ds = c.args.functions.now.list in
    let r = relation_view c.args.relation.now in
    let differs : c.args.relation.now.sign ≢ Equal = search (rules, c.if-eq.ensures, c.if-eq.false, c.eq.ensures) in
    OnTrue_from c.in_ok-is_same.is_same (SaysSpreadOut s.variables ds r c.args.row.now) (λ e.
    spread_says s ds r c.args.row.now c.in_ok-own.own differs (subst (λ (z : Space). IsRowOf z (form_of z.variables r) c.in_ok-own.own)
    c.space.ensures.value c.in_ok-own.ensures) (OnTrue_at e c.in_ok-is_same.ensures))
