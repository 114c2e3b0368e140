use Rattle.std.proofs.Common.{rules, ◌≡◌, ◌∷◌}
use Rattle.it_eliminate.proofs.KeptLemmas.{leads_more, others_more}
use Rattle.it_eliminate.proofs.pairs.gather_flats.Goals as goal
use Rattle.it_eliminate.specs.Gathering.{flat_of, rows_of}

pub loop-row-preserved : goal.loop-row-preserved
loop-row-preserved c =
    let rest : c.loop-row.row-iterator.rest.items ≡ c.in-Some.row ∷ c.next.new.self.rest.items = search rules in (
      leads_more c.args.most (flat_of c.args.at) c.loop-row.row-iterator.rest.items c.args.rows.items c.in-Some.row c.next.new.self.rest.items
          (rows_of c.args.list.now.keys) (rows_of c.loop-row.list.keys) (rows_of c.gather_flat.new.list.keys) rest
          c.in_ok-gather_flat.ensures.flat c.loop-row.invariant.0,
      others_more c.args.at c.loop-row.row-iterator.rest.items _ c.in-Some.row c.next.new.self.rest.items c.loop-row.others.items
          c.gather_flat.new.others.items rest c.in_ok-gather_flat.ensures.others c.loop-row.invariant.1,
    )
