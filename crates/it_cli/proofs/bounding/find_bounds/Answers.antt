use Rattle.it_cli.proofs.bounding.find_bounds.Goals as goal

pub returns-in-Ok : goal.returns-in-Ok
returns-in-Ok g c = c.reply_all.ensures c.args.bytes.now (rw c.as_slice.ensures.value c.in-Ok.ensures.read)
