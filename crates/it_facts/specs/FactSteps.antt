-- What the writer of a fact appends for one variable. No public clause cites this module.
use Rattle.std.specs.Prelude.{ℕ, List, [], ◌∷◌, Bool, if◌then◌else◌, codes}
use Rattle.it_space.specs.Sets.{has_member}
use Rattle.it_syntax.specs.NamesViews.{NamesView}
use Rattle.it_print.specs.Lines.{joined_texts}
use Rattle.it_facts.specs.Points.{variable_name}

-- the name of variable x if it is a member of the set, after `;` if `some`: a name stands before
abbrev pub member_text : NamesView → Bool → ℕ → ℕ → List ℕ
member_text v some set x = joined_texts (codes ";") some (if has_member set x then variable_name v x ∷ [] else [])
