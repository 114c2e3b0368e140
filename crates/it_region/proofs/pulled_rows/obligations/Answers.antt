use Rattle.std.proofs.Common.{◌∙◌, ap, List, ℕ}
use Rattle.it_region.specs.Pairs.{candidate_coordinate, pair_coordinate}
use Rattle.it_region.proofs.PairLemmas.{sets_for}
use Rattle.it_region.proofs.RowLemmas.{met_of, up_to_of}
use Rattle.it_region.proofs.pulled_rows.obligations.Goals as goal

pub rows_of-requires-clause-sets : goal.rows_of-requires-clause-sets
rows_of-requires-clause-sets c = sets_for c.args.pair.now c.args.candidate.now c.as_slice.result.now
    (c.as_slice.ensures.value ∙ c.in_ok-sets.ensures) c.requires.pair c.requires.fits

pub returns-clause-met : goal.returns-clause-met
returns-clause-met c = met_of c.args.pair.now.first.space _ (candidate_coordinate c.args.pair.now c.args.candidate.now)
    c.args.pair.now.own.items c.rows_of.result
    (ap {B = ℕ → ℕ} (λ (sets : List ℕ) (x : ℕ). pair_coordinate c.args.pair.now sets x) (c.as_slice.ensures.value ∙ c.in_ok-sets.ensures)) c.rows_of.ensures

pub returns-clause-limits : goal.returns-clause-limits
returns-clause-limits c = up_to_of c.args.pair.now.first.space _ c.rows_of.result c.rows_of.ensures
