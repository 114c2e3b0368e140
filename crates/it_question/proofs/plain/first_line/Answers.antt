use Rattle.it_question.proofs.PlainLemmas.{cut_at_feed, cut_at_end}
use Rattle.it_question.proofs.plain.first_line.Goals as goal

pub returns-in-empty-clause-split : goal.returns-in-empty-clause-split
returns-in-empty-clause-split c = cut_at_end c.args.bytes.now _ _ c.count_before.result c.count_before.ensures c.split_at.ensures.front
    c.split_at.ensures.back c.in-empty.len_below c.requires

pub returns-in-len1-up-clause-split : goal.returns-in-len1-up-clause-split
returns-in-len1-up-clause-split c = cut_at_feed c.args.bytes.now _ _ c.count_before.result c.count_before.ensures c.split_at.ensures.front
    c.split_at.ensures.back c.in-len1-up.len_at_least
