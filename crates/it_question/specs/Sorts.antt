-- The sorts of names in the code, the room for names of each sort, and the names that a question declares.
use Rattle.std.specs.Prelude.{ℕ, ◌<◌, ◌≤◌, length}
use Rattle.it_syntax.specs.NamesViews.{NamesView}
use Rattle.it_question.specs.declared.sorts.NameSort.{NameSort}
use Rattle.it_question.specs.declared.sorts.NameSort.TheVariants as sorts
use Rattle.it_question.specs.NewNames.{NameSortView, Variable, Rate}
use Rattle.it_space.specs.Spaces.{most_rates, most_variables}

-- what contracts see of a sort of names
abbrev pub name_sort_view : NameSort → NameSortView
name_sort_view sorts.Variable = Variable
name_sort_view sorts.Rate = Rate

-- a space may have n names of this sort
abbrev pub IsWithinLimit : NameSort → ℕ → Type 0
IsWithinLimit sorts.Variable n = n ≤ most_variables
IsWithinLimit sorts.Rate n = n ≤ most_rates

-- a space may have one more name of this sort
abbrev pub HasRoom : NameSort → NamesView → Type 0
HasRoom sorts.Variable v = length v.variables < most_variables
HasRoom sorts.Rate v = length v.rates < most_rates

-- the names that a question may declare, where it may have `most` names of variables
pub record AreQuestionNames (most : ℕ) (v : NamesView) : Type 0 where
  pub some : 1 ≤ length v.variables
  pub few : length v.variables ≤ most
  pub few_rates : length v.rates ≤ most_rates
