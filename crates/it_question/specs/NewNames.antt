-- The names that a question declares, and the flags of a name. `Word` flags H or I in the place of a name, `Twice` a new name that is
-- taken and one that was named before, `Name` one that is unknown, `Many` the first letter past a limit.
use Rattle.std.specs.Prelude.{ℕ, Bool, true, false, ◌||◌, List, [], ◌∷◌, ◌++◌, is_some, Option, Some, None, if◌then◌else◌}
use Rattle.it_forms.specs.declared.types.Code.{Code}
use Rattle.it_forms.specs.Words.{limit_flag}
use Rattle.it_syntax.specs.NamesViews.{NamesView, index_of}
use Rattle.it_forms.specs.declared.types.Code.TheVariants as codes

-- what a new name is to be
pub data NameSortView : Type 0 where
  Variable : NameSortView
  Rate : NameSortView

-- the names with w as the next one of this sort
abbrev pub with_name : NameSortView → NamesView → List ℕ → NamesView
with_name Variable v w = record { variables = v.variables ++ w ∷ []; rates = v.rates }
with_name Rate v w = record { variables = v.variables; rates = v.rates ++ w ∷ [] }

-- no variable and no rate
abbrev pub no_names : NamesView
no_names = record { variables = []; rates = [] }

-- whether w is the name of a variable or of a rate
unfoldable pub is_taken : NamesView → List ℕ → Bool
is_taken v w = is_some (index_of v.variables w) || is_some (index_of v.rates w)

-- the flag of a new name: `Word` if it is no name, `Twice` if it is taken, `Many` if n, the number still allowed, is 0
abbrev pub new_flag : Bool → Bool → ℕ → Option Code
new_flag true taken n = Some codes.Word
new_flag false true n = Some codes.Twice
new_flag false false n = limit_flag n

-- the flag of a name, whose number is o: `Word` if it is no name, `Name` if it is unknown, `Twice` if it was named before
abbrev pub once_flag : Bool → (ℕ → Bool) → Option ℕ → Option Code
once_flag true named o = Some codes.Word
once_flag false named None = Some codes.Name
once_flag false named (Some i) = if named i then Some codes.Twice else None
