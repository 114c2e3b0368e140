-- What the contracts of the functions that add copies say of their steps. No public clause cites it.
use Rattle.std.specs.Prelude.{◌≡◌, ◌<◌, ◌≤◌, Bool, true, false, List, length, Some}
use Rattle.it_syntax.specs.NamesViews.{NamesView}
use Rattle.it_question.specs.QuestionLimits.{most_lines}
use Rattle.it_question.specs.Questions.{BodyView}
use Rattle.it_question.specs.declared.sizes.FileLimits.{FileLimits}
use Rattle.it_question.specs.TableSizes.{HasTableWithin}
use Rattle.it_copy.specs.declared.types.CopyFault.{CopyFault}
use Rattle.it_copy.specs.declared.types.CopyFault.TheVariants.{Memory, Verb, Copy, Many, Large}
use Rattle.it_copy.specs.CopyLines.{CopyView}
use Rattle.it_copy.specs.Extensions.{first_unplaced}

-- of an error: memory ran out, or it is the first copy that can't be made
abbrev pub IsUnplaced : FileLimits → NamesView → List CopyView → CopyFault → Type 0
IsUnplaced limits v cs Memory = Unit {0}
IsUnplaced limits v cs Verb = ⊥
IsUnplaced limits v cs (Copy k) = first_unplaced limits 1 v cs ≡ Some k
IsUnplaced limits v cs Many = ⊥
IsUnplaced limits v cs Large = ⊥

-- the table of the question's problem is too large (true), or it isn't (false)
unfoldable pub IsLargeBy : FileLimits → BodyView → Bool → Type 0
IsLargeBy limits q true = HasTableWithin limits q → ⊥
IsLargeBy limits q false = HasTableWithin limits q

-- of an error: memory ran out, or the question's table is too large
abbrev pub IsLarge : FileLimits → BodyView → CopyFault → Type 0
IsLarge limits q Memory = Unit {0}
IsLarge limits q Verb = ⊥
IsLarge limits q (Copy k) = ⊥
IsLarge limits q Many = ⊥
IsLarge limits q Large = IsLargeBy limits q true

-- of an error: memory ran out, or the question has too many constraints, or its table is too large
abbrev pub IsPastLimits : FileLimits → BodyView → CopyFault → Type 0
IsPastLimits limits q Memory = Unit {0}
IsPastLimits limits q Verb = ⊥
IsPastLimits limits q (Copy k) = ⊥
IsPastLimits limits q Many = most_lines < length q.lines.givens
IsPastLimits limits q Large = (length q.lines.givens ≤ most_lines) × IsLargeBy limits q true
