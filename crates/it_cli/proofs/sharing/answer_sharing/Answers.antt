use Rattle.std.proofs.Common.{refl}
use Rattle.it_cli.proofs.sharing.answer_sharing.Goals as goal

pub returns-in-Ok : goal.returns-in-Ok
returns-in-Ok g c = c.reply.ensures c.args.bytes.now (record { file = c.in-Ok.sharing; read = c.in-Ok.ensures.read; is = refl })
