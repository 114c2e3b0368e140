-- The terms that a form has over the coordinates of a space.
use Rattle.std.specs.Prelude.{ℕ, map}
use Rattle.it_space.specs.Rows.{Terms, one_at}
use Rattle.it_space.specs.Sums.{terms_from}
use Rattle.it_polymatroid.specs.Certificates.{Form}
use Rattle.it_polymatroid.specs.Elementals.{span}

-- the coefficients of a form at the coordinates from 1 to `size`, each after its coordinate where it isn't 0: a form's coefficient
-- is its value at the map that is 1 at the coordinate and 0 elsewhere
unfoldable pub terms_of_form : ℕ → Form → Terms
terms_of_form size form = terms_from 1 (map (λ c. form (one_at c)) (span 1 size))
