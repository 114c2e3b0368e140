use Rattle.std.proofs.Common.{◌≡◌, FitsSigned, to_z-of_z, w64, length, pos}
use Rattle.it_whole.proofs.Usable.{kept_updated}
use Rattle.it_whole.proofs.rows.WholeRow.update.Goals as goal

pub returns-then-is_zero-clause-updated : goal.returns-then-is_zero-clause-updated
returns-then-is_zero-clause-updated c =
    let f : FitsSigned w64 c.args.entry = c.ranges.entry in
    let z : c.args.entry ≡ pos 0 = simp to_z-of_z at c.if-is_zero.ensures.yes in
    kept_updated (length c.args.leaving.now.row.now.numbers) c.args.limit c.args.self.now c.args.leaving.now.row.now c.args.entry
    c.args.leaving.now.entry c.requires.row z
