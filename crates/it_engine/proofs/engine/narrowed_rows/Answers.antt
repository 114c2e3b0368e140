use Rattle.std.proofs.Common.{rules, ◌≡◌, ◌<◌, ◌++◌, ◌∷◌, [], ◌∙◌, List, Option, ap, sym, subst, length, arith}
use Rattle.std.proofs.lemmas.List.{take_all, take_more}
use Rattle.std.specs.Option.{IfSome}
use Rattle.it_vectors.specs.Sizes.{AreAtMost}
use Rattle.it_whole.specs.WholeRows.{WholeRowView}
use Rattle.it_engine.specs.Tables.{whole_row_at}
use Rattle.it_vectors.proofs.Items.{below_more}
use Rattle.it_engine.proofs.engine.narrowed_rows.Goals as goal

pub loop-k-preserved : goal.loop-k-preserved
loop-k-preserved c =
    let rows = c.args.rows.now in
    let row : c.in-Some.row ≡ whole_row_at rows c.loop-k.k = subst (λ (o : Option WholeRowView). IfSome o
    (λ row. row ≡ whole_row_at rows c.loop-k.k)) c.in-Some.is c.in_ok-row.ensures.row in
    let small : AreAtMost (whole_row_at rows c.loop-k.k).numbers c.args.limit =
    subst (λ (o : Option WholeRowView). IfSome o (λ row. AreAtMost (whole_row_at rows c.loop-k.k).numbers c.args.limit)) c.in-Some.is
    c.in_ok-row.ensures.small in
    let l : c.loop-k.k < length rows = search rules in record {
      same = c.in_ok-push.ensures.items ∙ ap (λ (r : WholeRowView). c.loop-k.narrow.items ++ r ∷ []) row
          ∙ ap (λ (rs : List WholeRowView). rs ++ whole_row_at rows c.loop-k.k ∷ []) c.loop-k.invariant.same
          ∙ sym (take_more rows c.loop-k.k record { numbers = []; denominator = 1 } l);
      small = below_more (λ j. AreAtMost (whole_row_at rows j).numbers c.args.limit) c.loop-k.k c.loop-k.invariant.small small;
    }

pub returns-clause-rows : goal.returns-clause-rows
returns-clause-rows c = c.loop-k.invariant.same ∙ take_all c.loop-k.k c.args.rows.now (omega (arith, c.loop-k-test.false, c.loop-k.auto.k-end))

pub returns-clause-small : goal.returns-clause-small
returns-clause-small c = λ i l. c.loop-k.invariant.small i (omega (arith, l, c.loop-k-test.false, c.loop-k.auto.k-end))
