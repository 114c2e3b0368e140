use Rattle.std.proofs.Common.{◌≡◌, ap, map, length, ◌∙◌}
use Rattle.std.proofs.lemmas.List.{length-map}
use Rattle.it_space.specs.Spaces.{size_of}
use Rattle.it_columns.specs.Scaling.{scaled_number, scaled_point}
use Rattle.it_prove.proofs.PointLemmas.{places_rise, point_spread, spread_length, spread_within}
use Rattle.it_prove.proofs.ProofLemmas.{scaled_within}
use Rattle.it_prove.proofs.points.whole_point.Goals as goal

pub new-closed-requires : goal.new-closed-requires
new-closed-requires c = record {
  rise = places_rise c.args.problem.now c.args.coordinates.now c.facts.ensures c.requires.coordinates;
  complete = ap length (c.as_slice.ensures.value ∙ c.in_ok-scaled.ensures.value)
      ∙ length-map c.args.point.now (scaled_number c.in_ok-scale.scale) ∙ c.requires.complete;
}

pub new-requires-clause-complete : goal.new-requires-clause-complete
new-requires-clause-complete c = rw (c.in_ok-values.ensures, c.space.ensures.value)
    (spread_length c.args.dependences.now.space.variables c.args.dependences.now.list (size_of c.args.dependences.now.space) c.new-closed.result
    ∙ ap size_of c.requires.space)

pub new-requires-clause-within : goal.new-requires-clause-within
new-requires-clause-within c = spread_within c.args.dependences.now.space.variables c.args.dependences.now.list
    (size_of c.args.dependences.now.space) c.args.coordinates.now c.as_slice.result.now c.new-closed.result c.in_ok-values.values.items
    c.new-closed.ensures c.in_ok-values.ensures (places_rise c.args.problem.now c.args.coordinates.now c.facts.ensures c.requires.coordinates)
    (scaled_within c.in_ok-scale.scale c.args.point.now c.as_slice.result.now
    (c.as_slice.ensures.value ∙ c.in_ok-scaled.ensures.value) c.in_ok-scaled.ensures.fits)

pub returns-clause-value : goal.returns-clause-value
returns-clause-value c =
    let scaled : c.as_slice.result.now ≡ scaled_point c.args.point.now =
    c.as_slice.ensures.value ∙ c.in_ok-scaled.ensures.value ∙ ap (λ l. map (scaled_number l) c.args.point.now) c.in_ok-scale.ensures.value.1 in
    point_spread c.args.problem.now c.args.dependences.now.space c.args.dependences.now.list c.args.coordinates.now c.as_slice.result.now
    c.args.point.now c.new-closed.result c.new.result
    c.requires.space c.requires.list c.requires.coordinates scaled c.new-closed.ensures (c.new.ensures ∙ c.in_ok-values.ensures)
