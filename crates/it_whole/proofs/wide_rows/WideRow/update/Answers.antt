use Rattle.std.proofs.Common.{FitsSigned, to_z-of_z, w64, length}
use Rattle.it_whole.proofs.Usable.{shortened_less, shortened_usable}
use Rattle.it_whole.proofs.wide_rows.WideRow.update.Goals as goal

pub returns-then-is_large : goal.returns-then-is_large
returns-then-is_large c =
    let fe : FitsSigned w64 c.args.entry = c.ranges.entry in
    let fp : FitsSigned w64 c.args.pivot = c.ranges.pivot in
    let less = simp to_z-of_z at c.if-not-reduce.ensures.less in record {
      less = shortened_less (length c.args.own.now.numbers) c.args.limit c.args.self.now c.args.own.now c.reduce.new.self c.shorten.new.self
          c.args.entry c.args.pivot less c.shorten.ensures;
      usable = shortened_usable (length c.args.own.now.numbers) c.args.limit c.reduce.new.self c.shorten.new.self c.shorten.ensures
          c.if-not-reduce.ensures.usable;
      kept = λ e. absurd (c.requires.some e);
    }

pub returns-else-is_large : goal.returns-else-is_large
returns-else-is_large c =
    let fe : FitsSigned w64 c.args.entry = c.ranges.entry in
    let fp : FitsSigned w64 c.args.pivot = c.ranges.pivot in
    let less = simp to_z-of_z at c.if-not-reduce.ensures.less in record {
      less = less;
      usable = c.if-not-reduce.ensures.usable;
      kept = λ e.
          absurd (c.requires.some e);
    }
