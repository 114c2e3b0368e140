use Rattle.std.proofs.Common.{◌∙◌, [], arith}
use Rattle.std.proofs.lemmas.List.{get_or_default}
use Rattle.it_engine.proofs.BehindRuns.{put_back}
use Rattle.it_engine.proofs.bringing.bring.Goals as goal

pub returns-clause-brought : goal.returns-clause-brought
returns-clause-brought c = put_back c.args.run.now.columns.now c.args.run.now.limit c.args.rows.now c.args.moves.now.basis.now c.args.moves.now.moved.now
    c.bring_row-done.result c.args.r c.replace-row.new.dest c.replace-row.result c.bring_row-done.new.row
    (omega (arith, c.requires.r, c.requires.height)) c.requires.behind
    (c.replace-row.ensures.value ∙ get_or_default c.args.rows.now c.args.r c.index-rows-r.result record { numbers = []; denominator = 1 }
    (omega (arith, c.requires.r, c.requires.height)))
    c.bring_row-done.ensures.brought c.bring_row-done.ensures.usable
