use Rattle.std.proofs.lemmas.Result.{on_ok_weaker}
use Rattle.it_tell.proofs.DetailLemmas.{open_details, point_details, region_details, undecided_details}
use Rattle.it_tell.proofs.details.write_details.Goals as goal

pub returns-in-Yes : goal.returns-in-Yes
returns-in-Yes c = rw c.in-Yes.is (rw c.as_slice.ensures.value at c.write_relation_proofs.ensures)

pub returns-in-No : goal.returns-in-No
returns-in-No c = rw c.in-No.is (on_ok_weaker c.write_point.result (point_details
    c.args.question.now.body c.args.options c.in-No.back c.in-No.point c.args.out.now.items c.write_point.new.out.items)
    c.write_point.ensures)

pub returns-in-Region : goal.returns-in-Region
returns-in-Region c = rw c.in-Region.is (on_ok_weaker c.write_rows.result
    (region_details c.args.question.now.body c.args.options c.in-Region.rows.items c.args.out.now.items
    c.write_rows.new.out.items) (rw c.as_slice-in-Region.ensures.value at c.write_rows.ensures))

pub returns-in-Contained : goal.returns-in-Contained
returns-in-Contained c = rw c.in-Contained.is (rw c.as_slice-in-Contained-2.ensures.value at
    (rw c.as_slice-in-Contained.ensures.value at c.write_contained.ensures))

pub returns-in-Undecided : goal.returns-in-Undecided
returns-in-Undecided c = rw c.in-Undecided.is (undecided_details c.args.question.now.body c.args.options _ c.args.out.now.items)

pub returns-in-Open : goal.returns-in-Open
returns-in-Open c = rw c.in-Open.is (open_details c.args.question.now.body c.args.options _ c.args.out.now.items)
