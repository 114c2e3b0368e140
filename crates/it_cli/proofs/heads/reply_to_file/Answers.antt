use Rattle.std.proofs.Common.{map, refl}
use Rattle.it_copy.specs.CopyLines.{copy_view}
use Rattle.it_cli.proofs.heads.reply_to_file.Goals as goal

pub returns-in-Ok : goal.returns-in-Ok
returns-in-Ok g c = (rw (c.as_slice.ensures.value, c.as_slice-in-Ok.ensures.value) at c.reply_all.ensures) c.args.bytes.now
    (record {
      copies = map copy_view c.in-Ok.file.copies.items;
      questions = c.in-Ok.file.questions.items;
      read
          = c.in-Ok.ensures.read;
      are = refl;
    })
