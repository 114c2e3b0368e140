use Rattle.std.proofs.Common.{rules, ◌≢◌, subst}
use Rattle.std.proofs.lemmas.Bool.{OnTrue_at, OnTrue_from}
use Rattle.it_space.specs.Rows.{Terms, AreLowestTermsOf}
use Rattle.it_syntax.specs.Meaning.{relation_view}
use Rattle.it_syntax.specs.declared.types.Sign.TheVariants.{Equal}
use Rattle.it_terms.specs.Tells.{SaysRow}
use Rattle.it_terms.proofs.JudgedTexts.{same_row_says}
use Rattle.it_terms.proofs.judging.says.Goals as goal

pub returns : goal.returns
returns c =
    let low : Terms = c.normal-own.result in
    let wanted : Terms = c.normal-wanted.result in
    let differs : c.args.relation.now.sign ≢ Equal = search (rules, c.if-eq.ensures, c.if-eq.false, c.eq.ensures) in
    OnTrue_from c.is_same.result (SaysRow c.args.space.variables (relation_view c.args.relation.now) c.args.row.now) (λ e.
    same_row_says c.args.space (relation_view c.args.relation.now) c.args.row.now c.in_ok-canon.field-0 low wanted differs
    c.in_ok-canon.ensures c.normal-own.ensures.meaning
    (subst (λ (t : Terms). AreLowestTermsOf t wanted) c.in_ok-copy.ensures c.normal-wanted.ensures.meaning) (OnTrue_at e c.is_same.ensures))
