-- A question has one extension by some copies, or one reason against them.
use Rattle.std.proofs.Common.{◌≡◌, ℕ, ◌<◌, ◌≤◌, length, List, Some, refl, sym, ap, subst, ◌∙◌, arith}
use Rattle.it_space.proofs.OptionLemmas.{some_same}
use Rattle.it_question.specs.Questions.{BodyView}
use Rattle.it_question.specs.QuestionLimits.{most_lines}
use Rattle.it_question.specs.TableSizes.{HasTableWithin}
use Rattle.it_question.specs.declared.sizes.FileLimits.{FileLimits}
use Rattle.it_copy.specs.declared.types.CopyFault.TheVariants.{Memory, Verb, Copy, Many, Large}
use Rattle.it_copy.specs.CopyLines.{CopyView}
use Rattle.it_copy.specs.Extensions.{CanBeMade, first_unplaced}
use Rattle.it_copy.specs.Points.{ExtensionOrMisfit, OneExtension, OneMisfit}

pub one_extension : OneExtension
one_extension limits q d e cs a b = a.is ∙ sym b.is

-- a copy that can't be made is none that can
unplaced_or_made : (limits : FileLimits) (q : BodyView) (cs : List CopyView) (k : ℕ) → first_unplaced limits 1 q.names cs ≡ Some k → CanBeMade limits q cs → ⊥
unplaced_or_made limits q cs k unplaced made = let all = made.placed in cc

many_or_few : (n : ℕ) → most_lines < n → n ≤ most_lines → ⊥
many_or_few n many few = omega (arith, many, few)

pub one_misfit : OneMisfit
one_misfit limits q cs Memory g f_told g_told f_is g_is = absurd (f_told refl)
one_misfit limits q cs f Memory f_told g_told f_is g_is = absurd (g_told refl)
one_misfit limits q cs Verb Verb f_told g_told f_is g_is = refl
one_misfit limits q cs Verb (Copy k) f_told g_told f_is g_is = absurd (f_is g_is.0)
one_misfit limits q cs Verb Many f_told g_told f_is g_is = absurd (f_is g_is.0.proof)
one_misfit limits q cs Verb Large f_told g_told f_is g_is = absurd (f_is g_is.0.proof)
one_misfit limits q cs (Copy k) Verb f_told g_told f_is g_is = absurd (g_is f_is.0)
one_misfit limits q cs (Copy k) (Copy l) f_told g_told f_is g_is = ap Copy (some_same k l (sym f_is.1 ∙ g_is.1))
one_misfit limits q cs (Copy k) Many f_told g_told f_is g_is = absurd (unplaced_or_made limits q cs k f_is.1 g_is.0)
one_misfit limits q cs (Copy k) Large f_told g_told f_is g_is = absurd (unplaced_or_made limits q cs k f_is.1 g_is.0)
one_misfit limits q cs Many Verb f_told g_told f_is g_is = absurd (g_is f_is.0.proof)
one_misfit limits q cs Many (Copy k) f_told g_told f_is g_is = absurd (unplaced_or_made limits q cs k g_is.1 f_is.0)
one_misfit limits q cs Many Many f_told g_told f_is g_is = refl
one_misfit limits q cs Many Large f_told g_told f_is g_is = absurd (many_or_few _ f_is.1 g_is.1)
one_misfit limits q cs Large Verb f_told g_told f_is g_is = absurd (g_is f_is.0.proof)
one_misfit limits q cs Large (Copy k) f_told g_told f_is g_is = absurd (unplaced_or_made limits q cs k g_is.1 f_is.0)
one_misfit limits q cs Large Many f_told g_told f_is g_is = absurd (many_or_few _ g_is.1 f_is.1)
one_misfit limits q cs Large Large f_told g_told f_is g_is = refl

pub extension_or_misfit : ExtensionOrMisfit
extension_or_misfit limits q e cs Memory told x f = absurd (told refl)
extension_or_misfit limits q e cs Verb told x f = absurd (f x.made.proof)
extension_or_misfit limits q e cs (Copy k) told x f = absurd (unplaced_or_made limits q cs k f.1 x.made)
extension_or_misfit limits q e cs Many told x f = absurd (many_or_few _ f.1 (subst (λ (y : BodyView). length y.lines.givens ≤ most_lines) x.is x.few))
extension_or_misfit limits q e cs Large told x f = absurd (f.2 (subst (HasTableWithin limits) x.is x.small))
