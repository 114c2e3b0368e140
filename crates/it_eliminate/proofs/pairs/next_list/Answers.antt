use Rattle.std.proofs.Common.{rules, ◌≡◌, ◌∙◌, []}
use Rattle.it_eliminate.specs.Gathering.{rows_of}
use Rattle.it_eliminate.proofs.KeptLemmas.{next_kept, pairs_fit, wide_pair}
use Rattle.it_eliminate.proofs.pairs.next_list.Goals as goal

pub returns-clause-list : goal.returns-clause-list
returns-clause-list c =
    let none : rows_of c.new-list.result.keys ≡ [] = search rules in
    next_kept c.args.most c.args.at c.args.rows.items c.as_slice.result.now (rows_of c.new-list.result.keys) (rows_of c.gather_flats.new.list.keys)
    (rows_of c.gather_ups.new.list.keys) none (c.as_slice.ensures.value ∙ c.in_ok-others.ensures.others) c.in_ok-others.ensures.flats
    c.in_ok-gather_ups.ensures.list

pub returns-clause-fits : goal.returns-clause-fits
returns-clause-fits c = pairs_fit c.args.at c.args.rows.items c.as_slice.result.now (c.as_slice.ensures.value ∙ c.in_ok-others.ensures.others)
    c.in_ok-gather_ups.ensures.fits

pub returns-in_err-gather_ups-clause-wide : goal.returns-in_err-gather_ups-clause-wide
returns-in_err-gather_ups-clause-wide c =
    let stops = wide_pair c.args.at c.args.rows.items c.as_slice.result.now (c.as_slice.ensures.value ∙ c.in_ok-others.ensures.others)
    c.in_err-gather_ups.ensures.wide in
    search (rules, stops)
