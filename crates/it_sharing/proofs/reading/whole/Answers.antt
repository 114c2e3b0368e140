use Rattle.std.proofs.Common.{◌≡◌, Ok, rules}
use Rattle.it_forms.specs.FormReading.{read}
use Rattle.it_syntax.specs.Meaning.{relation_view}
use Rattle.it_question.specs.Cursors.{letters_left}
use Rattle.it_sharing.specs.SharingForms.{sharing}
use Rattle.it_sharing.proofs.SharingLimits.{sharing_limited}
use Rattle.it_sharing.proofs.reading.whole.Goals as goal

pub invariant_of-result : goal.invariant_of-result
unfolding sharing read
invariant_of-result c =
    let reads : read (sharing c.args.limits) (letters_left c.args.cursor.now) ≡ Ok (
      record {
        names = c.parties.new.names;
        qualified = c.in_ok-qualified.qualified.items;
        best = c.in_ok-best.best;
        relation = relation_view c.in_ok-best.relation;
      },
      letters_left c.file_end.new.cursor,
    ) = search rules in
    (sharing_limited c.args.limits (letters_left c.args.cursor.now) (letters_left c.file_end.new.cursor) _ reads).0
