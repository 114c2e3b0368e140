-- The dependences of a problem.
use Rattle.std.specs.Prelude.{◌≢◌, ◌<◌, ◌^◌, List, All}
use Rattle.it_space.specs.declared.spaces.Space.{Space}
use Rattle.it_space.specs.Sets.{IsInside}
use Rattle.it_space.specs.Spaces.{IsSpace}
use Rattle.it_closure.specs.declared.dependences.Dependence.{Dependence}

-- dependences as contracts see them, with the space of their problem
pub record DependencesView : Type 0 where
  pub space : Space
  pub list : List Dependence

-- d says that a set of the space's variables determines a greater one
pub record IsDependenceOf (s : Space) (d : Dependence) : Type 0 where
  pub inside : IsInside d.from d.to
  pub more : d.from ≢ d.to
  pub below : d.to < 2 ^ s.variables

-- all of the list are dependences of the space
pub record AreOfSpace (d : DependencesView) : Type 0 where
  pub space : IsSpace d.space
  pub each : All (IsDependenceOf d.space) d.list
