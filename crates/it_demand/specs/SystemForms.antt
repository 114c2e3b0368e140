-- The rows of several forms, and the forms of `row` lines.
use Rattle.std.specs.Prelude.{◌≡◌, ℕ, ℤ, pos, ◌≤ℤ◌, List, All}
use Rattle.std.specs.List.{AllZip, flat_map}
use Rattle.it_space.specs.declared.spaces.Space.{Space}
use Rattle.it_space.specs.Rows.{Terms, value}
use Rattle.it_polymatroid.specs.Certificates.{Form}
use Rattle.it_syntax.specs.Meaning.{RelationView}
use Rattle.it_demand.specs.Canonical.{IsRowOf}
use Rattle.it_demand.specs.Targets.{targets}

-- the targets of a question's `row` lines
abbrev pub system_forms : ℕ → List RelationView → List Form
system_forms n rows = flat_map (targets n) rows

-- one row for each form, in order
abbrev pub AreRowsOf : Space → List Form → List Terms → Type 0
AreRowsOf s forms rows = AllZip (IsRowOf s) forms rows

-- each of the rows is at least 0 at p
abbrev pub AreAtLeastZero : (ℕ → ℤ) → List Terms → Type 0
AreAtLeastZero p rows = All (λ row. pos 0 ≤ℤ value row p) rows

-- P holds at each map that is 0 at the empty set
abbrev pub AtMaps : ((ℕ → ℤ) → Type 0) → Type 0
AtMaps P = (p : ℕ → ℤ) → p 0 ≡ pos 0 → P p
