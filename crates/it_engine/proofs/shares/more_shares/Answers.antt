use Rattle.std.proofs.Common.{subst, ℕ}
use Rattle.it_engine.specs.Behind.{AddsShare}
use Rattle.it_engine.proofs.Answers.{if_some_more}
use Rattle.it_engine.proofs.BehindNumbers.{added_shares}
use Rattle.it_engine.proofs.shares.more_shares.Goals as goal

pub returns : goal.returns
returns c = if_some_more c.with_row.result (λ s. AddsShare c.args.shares.multiple c.args.shares.bound c.denominator_at.result c.in_ok-entry.entry
    s.multiple s.bound) _ c.with_row.ensures
    (λ s h. added_shares c.args.norm c.args.block.now.rows.now c.args.block.now.moved.now c.args.q c.args.shares.multiple
    c.args.shares.bound c.most_at.result c.in_ok-entry.entry s.multiple s.bound
    c.requires.moves c.most_at.ensures c.in_ok-entry.ensures.1 c.requires.shares
    (subst (λ (x : ℕ). AddsShare c.args.shares.multiple c.args.shares.bound x c.in_ok-entry.entry s.multiple s.bound) c.denominator_at.ensures h))
