use Rattle.std.proofs.Common.{◌≡◌, map, drop}
use Rattle.std.specs.Prelude.{slice_get, flat_map}
use Rattle.it_question.specs.Lines.{line_places}
use Rattle.it_question.specs.Cursors.{line_view}
use Rattle.it_question.proofs.places.place.Given as goal

abbrev pub invariant-loop-line : goal.invariant-loop-line
invariant-loop-line l = slice_get (flat_map line_places (map line_view (drop l.line-index l.lines))) l.rest
    ≡ slice_get (flat_map line_places (map line_view l.lines)) l.fn.at
