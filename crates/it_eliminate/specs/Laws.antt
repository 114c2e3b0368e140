-- A law of elimination.
use Rattle.std.specs.Prelude.{◌≡◌, ℕ, List}
use Rattle.it_space.specs.Rows.{Terms}
use Rattle.it_eliminate.specs.Elimination.{EliminatedView, EliminationEnds}

-- elimination has one end
abbrev pub OneEnd : Type 0
OneEnd = (base most : ℕ) (rows : List Terms) (rates : List ℕ) (end other : EliminatedView) → EliminationEnds base most rows rates end → EliminationEnds base most rows rates other → end ≡ other
