-- A form has one row, and demands have one list of constraints.
use Rattle.std.specs.Prelude.{◌≡◌, List}
use Rattle.it_space.specs.declared.spaces.Space.{Space}
use Rattle.it_problems.specs.declared.problems.Constraint.{Constraint}
use Rattle.it_space.specs.Rows.{Terms}
use Rattle.it_polymatroid.specs.Certificates.{Form}
use Rattle.it_demand.specs.Canonical.{IsRowOf}
use Rattle.it_problems.specs.declared.problems.Origin.{Origin}
use Rattle.it_demand.specs.Demands.{Demand}
use Rattle.it_demand.specs.Origins.{AreStated}
use Rattle.it_demand.specs.SystemForms.{AreRowsOf}

-- a form has one row
abbrev pub OneRow : Type 0
OneRow = (s : Space) (form : Form) (r t : Terms) → IsRowOf s form r → IsRowOf s form t → r ≡ t

-- forms have one list of rows
abbrev pub OneRowList : Type 0
OneRowList = (s : Space) (forms : List Form) (rs ts : List Terms) → AreRowsOf s forms rs → AreRowsOf s forms ts → rs ≡ ts

-- demands have one list of constraints that states them, with given origins
abbrev pub OneConstraintList : Type 0
OneConstraintList = (s : Space) (places : List Origin) (ds : List Demand) (cs others : List Constraint) → AreStated s places ds cs → AreStated s places ds others → cs ≡ others
