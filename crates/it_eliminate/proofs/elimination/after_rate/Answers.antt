use Rattle.std.proofs.Common.{rules, ◌≡◌, ◌<◌, ◌≤◌, ◌∙◌, length}
use Rattle.it_eliminate.specs.Elimination.{PairsFit, next_list}
use Rattle.it_eliminate.specs.Gathering.{IsKeptList, rows_of}
use Rattle.it_eliminate.proofs.KeptLemmas.{kept_few, kept_many}
use Rattle.it_eliminate.proofs.EndLemmas.{rate_kept, rate_many, rate_wide}
use Rattle.it_eliminate.proofs.elimination.after_rate.Goals as goal

pub returns-in-Err-Wide-clause-stop : goal.returns-in-Err-Wide-clause-stop
returns-in-Err-Wide-clause-stop c =
    let wide : ¬ (PairsFit c.coordinate.result c.args.rows.items) = search rules in
    rate_wide _ c.args.most c.args.rows.items c.args.rate c.coordinate.result c.coordinate.ensures wide

pub returns-then-len-most-clause-stop : goal.returns-then-len-most-clause-stop
returns-then-len-most-clause-stop c =
    let fits : PairsFit c.coordinate.result c.args.rows.items = search rules in
    let kept : IsKeptList c.args.most (next_list c.coordinate.result c.args.rows.items) (rows_of c.in-Ok.list.keys) = search rules in
    let many : c.args.most < length c.in-Ok.list.keys = search rules in
    rate_many _ c.args.most c.args.rows.items c.args.rate c.coordinate.result c.coordinate.ensures fits (kept_many c.args.most _ c.in-Ok.list.keys kept many)

pub returns-clause-rows : goal.returns-clause-rows
returns-clause-rows c =
    let fits : PairsFit c.coordinate.result c.args.rows.items = search rules in
    let kept : IsKeptList c.args.most (next_list c.coordinate.result c.args.rows.items) (rows_of c.in-Ok.list.keys) = search rules in
    let few : length c.in-Ok.list.keys ≤ c.args.most = search rules in
    let is : c.in_ok-next.next.items ≡ rows_of c.in-Ok.list.keys = search rules in
    let exact = kept_few c.args.most _ c.in-Ok.list.keys kept few in
    rate_kept _ c.args.most c.args.rows.items c.args.rate c.coordinate.result c.coordinate.ensures fits c.in_ok-next.next.items exact.1 (is ∙ exact.0)
