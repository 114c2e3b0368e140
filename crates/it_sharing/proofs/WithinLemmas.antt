-- What a sharing file says is within the limits.
use Rattle.std.proofs.Common.{◌+◌, ◌≤◌, ℕ, List, [], length, subst}
use Rattle.it_question.specs.Lines.{letters_of_lines}
use Rattle.it_question.specs.QuestionLimits.{usual}
use Rattle.it_question.proofs.WholeFileLemmas.{asked_is_read}
use Rattle.it_sharing.specs.Parties.{most_parties}
use Rattle.it_sharing.specs.Sharings.{SharingView, IsSharing, IsBoundWhereBest}
use Rattle.it_sharing.specs.SharingForms.{sharing}
use Rattle.it_sharing.specs.SharingFiles.{IsSharingFile, SharingIsWithin}
use Rattle.it_sharing.proofs.SharingLimits.{few_are_named, sharing_limited}
use Rattle.it_sharing.proofs.SharingOutlines.{sharing_has}

pub sharing_is_within : SharingIsWithin
sharing_is_within limits bytes x s =
    subst (λ (y : SharingView). IsSharing y × IsBoundWhereBest y) s.says
    (sharing_limited limits (letters_of_lines s.lines) [] s.tree.0 (asked_is_read (sharing limits) _ (sharing_has limits) (λ lines y. y) bytes x s))

-- one of a usual file has few variables
pub usual_sharing_is_few : (bytes : List ℕ) (x : SharingView) → IsSharingFile usual bytes x → length x.names.variables ≤ 1 + most_parties
usual_sharing_is_few bytes x s = subst (λ (y : SharingView). length y.names.variables ≤ 1 + most_parties) s.says
    (few_are_named usual (letters_of_lines s.lines) [] s.tree.0 (asked_is_read (sharing usual) _ (sharing_has usual) (λ lines y. y) bytes x s))
