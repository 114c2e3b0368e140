use Rattle.std.proofs.Common.{refl}
use Rattle.it_cli.specs.Outputs.{sharing_mode}
use Rattle.it_cli.specs.SharingReplies.{said_by}
use Rattle.it_cli.proofs.EndLemmas.{end_of_item}
use Rattle.it_cli.proofs.sharing.reply.Goals as goal

pub returns-in-Ok : goal.returns-in-Ok
returns-in-Ok g c bytes asked = end_of_item (sharing_mode c.args.request.limits c.args.request.report c.args.request.effort)
    (said_by c.args.bytes.now c.args.sharing.now) c.in-Ok.ensures.reply _ _ _ _ bytes c.in-Ok.text.items
    c.as_slice.result.now c.tell.result asked c.in-Ok.ensures.right c.in-Ok.ensures.is refl c.as_slice.ensures.value c.tell.ensures
