-- The defined run about the questions of a usual file with a head, and about the one that is made of a usual sharing file, is in reach.
use Rattle.std.proofs.Common.{◌≡◌, ◌+◌, ◌≤◌, ℕ, List, length, get_or, true, refl, sym, subst, arith}
use Rattle.it_question.specs.Limits.{IsQuestion}
use Rattle.it_question.specs.QuestionLimits.{most_lines, most_names, names_within, usual}
use Rattle.it_question.specs.Questions.{BodyView}
use Rattle.it_question.specs.TableSizes.{HasSmallTable}
use Rattle.it_question.proofs.LimitLemmas.{IsRead, few_usual_names, unflagged_is_small, usual_names, within_any}
use Rattle.it_question.proofs.TableLemmas.{few_variables}
use Rattle.it_canon.specs.QuestionDemands.{problem_of}
use Rattle.it_prove.specs.Reach.{is_in_reach}
use Rattle.it_copy.specs.CopyLines.{CopyView}
use Rattle.it_copy.specs.Extensions.{IsExtension, extended}
use Rattle.it_copy.proofs.LimitLemmas.{copies_are_few, extended_is_question}
use Rattle.it_copy.proofs.WithinLemmas.{copied_are_read}
use Rattle.it_sharing.specs.Parties.{most_parties}
use Rattle.it_sharing.specs.Sharings.{SharingView, made_question}
use Rattle.it_sharing.proofs.QuestionLimits.{question_limited}
use Rattle.it_sharing.proofs.WithinLemmas.{sharing_is_within, usual_sharing_is_few}
use Rattle.it_answer.proofs.ReachLemmas.{question_in_reach}
use Rattle.it_cli.specs.Laws.{CopiesAreInReach, SharingIsInReach}

-- ---- files with a head

extension_in_reach : (q e : BodyView) (copies : List CopyView) → IsRead usual q → IsExtension usual q copies e → is_in_reach (problem_of e) ≡ true
extension_in_reach q e copies k x =
    let few : length (extended q copies).lines.givens ≤ most_lines = subst (λ (d : BodyView). length d.lines.givens ≤ most_lines) x.is x.few in
    let named : length (extended q copies).names.variables ≤ names_within usual = copies_are_few usual 1 q.names copies k.limits.few x.made.placed in
    question_in_reach e (subst (λ (d : BodyView). length d.names.variables ≤ most_names) (sym x.is) (omega (arith, named, usual_names)))
    (subst IsQuestion (sym x.is) (extended_is_question usual q copies (within_any usual q k.limits) x.made few)) x.small

pub copies_are_in_reach : CopiesAreInReach
copies_are_in_reach bytes copies qs s = λ i d l.
    let one = copied_are_read usual bytes copies qs s i d l in
    let q = (get_or qs i d).body in
    (question_in_reach q (few_usual_names q one.limits) (within_any usual q one.limits) one.small, λ e x. extension_in_reach q e copies one x)

-- ---- sharing files

-- the made question has at most nine variables
made_is_few : (x : SharingView) → length x.names.variables ≤ 1 + most_parties → length (made_question x).body.names.variables ≤ most_names
unfolding made_question
made_is_few x named = omega (arith, named)

made_is_small : (x : SharingView) → length x.names.variables ≤ 1 + most_parties → IsQuestion (made_question x).body → HasSmallTable (made_question x).body
unfolding made_question
made_is_small x named k = unflagged_is_small (made_question x).body.names (made_question x).body.lines
    (few_variables (made_question x).body.names (made_question x).body.lines (omega (arith, named)) k.few_rates
    k.lines.givens k.lines.few_givens k.lines.few_rows)

pub sharing_is_in_reach : SharingIsInReach
sharing_is_in_reach bytes x file few =
    let k = question_limited x (sharing_is_within usual bytes x file).0 few in
    let named = usual_sharing_is_few bytes x file in
    question_in_reach (made_question x).body (made_is_few x named) k (made_is_small x named k)
