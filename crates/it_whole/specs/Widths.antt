-- No public clause cites this module: rows in 32 and in 64 bits.
use Rattle.it_whole.specs.WholeRows.{WholeRowView}
use Rattle.it_whole.specs.declared.rows.AnyRow.{AnyRow}
use Rattle.it_whole.specs.declared.rows.AnyRow.TheVariants.{Narrow, Wide}

-- the contracts' view of a row in either width
abbrev pub row_of : AnyRow → WholeRowView
row_of (Narrow row) = row
row_of (Wide row) = row
