-- The space of a question's names.
use Rattle.std.specs.Prelude.{length}
use Rattle.it_space.specs.declared.spaces.Space.{Space}
use Rattle.it_syntax.specs.NamesViews.{NamesView}

-- the space with as many variables and rates as there are names
abbrev pub space_of : NamesView → Space
space_of v = record { variables = length v.variables; rates = length v.rates }
