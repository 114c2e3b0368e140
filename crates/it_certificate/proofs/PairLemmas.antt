-- Lists that are no pairs.
use Rattle.std.proofs.Common.{◌≡◌, ◌<◌, ◌≤◌, List, [], ◌∷◌, length, map, refl, arith, None, sym}
use Rattle.std.proofs.lemmas.List.{length-map}
use Rattle.serde_json.specs.Data.{Data}
use Rattle.serde_json.specs.View.{view, items_of, items_view}
use Rattle.serde_json.specs.declared.value.Value.{Value}
use Rattle.it_certificate.specs.Parts.{two_of}

no_pair : (ds : List Data) → length ds < 2 → two_of (items_of ds) ≡ None
no_pair [] few = refl
no_pair (a ∷ []) few = refl
no_pair (a ∷ b ∷ ds) few = absurd (omega arith)

more_than_pair : (ds : List Data) → 3 ≤ length ds → two_of (items_of ds) ≡ None
more_than_pair [] many = refl
more_than_pair (a ∷ []) many = refl
more_than_pair (a ∷ b ∷ []) many = absurd (omega arith)
more_than_pair (a ∷ b ∷ c ∷ ds) many = refl

pub two_of_fewer : (vs : List Value) → length vs < 2 → None ≡ two_of (items_view vs)
two_of_fewer vs few = sym (no_pair (map view vs) (omega (arith, length-map vs view)))

pub two_of_more : (vs : List Value) → 3 ≤ length vs → None ≡ two_of (items_view vs)
two_of_more vs many = sym (more_than_pair (map view vs) (omega (arith, length-map vs view)))
