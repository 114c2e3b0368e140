use Rattle.std.proofs.Common.{List, map, subst}
use Rattle.std.specs.List.{AllZip}
use Rattle.std.proofs.lemmas.Bool.{OnTrue_at, OnTrue_from}
use Rattle.it_space.specs.Rows.{Terms, value}
use Rattle.it_syntax.specs.Meaning.{relation_view}
use Rattle.it_terms.specs.Signs.{AreLeastTogether}
use Rattle.it_terms.specs.Tells.{SaysForms}
use Rattle.it_terms.proofs.SignLemmas.{forms_said}
use Rattle.it_terms.proofs.line_telling.says_rows.Goals as goal

pub returns : goal.returns
returns c =
    let r = relation_view c.args.relation.now in
    let rows : List Terms = c.args.rows.now in
    OnTrue_from c.in_ok-together.together (SaysForms c.args.space.variables r (map value rows)) (λ e.
    forms_said c.args.space r c.in_ok-targets.targets.items rows c.in_ok-targets.ensures
    (subst (λ (own : List Terms). AllZip AreLeastTogether own rows) c.as_slice.ensures.value (OnTrue_at e c.in_ok-together.ensures)))
