-- The row of the sums at places.
use Rattle.std.proofs.Common.{◌≡◌, ℕ, ◌+◌, ◌<◌, ℤ, List, drop, ◌∙◌}
use Rattle.it_space.specs.Rows.{Terms, coefficient, Ascends, IsOver}
use Rattle.it_space.specs.Sums.{terms_from}
use Rattle.it_space.proofs.SumLemmas.{terms_from_one, row_ascends, row_up_to}
use Rattle.it_polymatroid.proofs.Coefficients.{value_told}
use Rattle.it_closure.specs.declared.dependences.Dependence.{Dependence}
use Rattle.it_closure.specs.Collapse.{placed_terms, IsCollapseOf}
use Rattle.it_closure.specs.Placings.{ArePlaced}
use Rattle.it_closure.proofs.Places.{value-placed}

pub record IsRowOfSums (n : ℕ) (ds : List Dependence) (terms : Terms) (size : ℕ) (new : Terms) : Type 0 where
  pub canonical : Ascends 0 new
  pub coefficients : (c : ℕ) → 0 < c → coefficient new c ≡ coefficient (placed_terms n ds terms) c
  pub collapse : IsCollapseOf n ds terms new
  pub coordinates : IsOver size new

pub row_of_sums : (n : ℕ) (ds : List Dependence) (terms new : Terms) (size : ℕ) (values : List ℤ) → new ≡ terms_from 1 (drop 1 values)
    → ArePlaced n ds terms (size + 1) values → IsRowOfSums n ds terms size new
row_of_sums n ds terms new size values e a = rw e (record {
  canonical = row_ascends values a.within;
  coefficients = same_coefficients;
  collapse = λ p z. value_told (terms_from 1 (drop 1 values)) (placed_terms n ds terms) p z same_coefficients ∙ value-placed n ds terms p;
  coordinates = row_up_to values size a.complete;
})
  where
    same_coefficients : (c : ℕ) → 0 < c → coefficient (terms_from 1 (drop 1 values)) c ≡ coefficient (placed_terms n ds terms) c
    same_coefficients c h = terms_from_one values c h ∙ a.sums c h
