-- When a name is new, and its flag.
use Rattle.std.proofs.Common.{◌≡◌, ℕ, zero, suc, ◌-◌, ◌≤◌, false, List, Option, Some, None, refl, arith}
use Rattle.std.specs.Prelude.{◌||◌, is_some}
use Rattle.it_forms.specs.declared.types.Code.TheVariants.{Many}
use Rattle.it_syntax.specs.NamesViews.{NamesView, IsNew, index_of}
use Rattle.it_question.specs.NewNames.{is_taken, new_flag}

-- a name that isn't taken is new
pub new_of : (v : NamesView) (w : List ℕ) → is_taken v w ≡ false → IsNew v w
unfolding is_taken
new_of v w e = by_options (index_of v.variables w) (index_of v.rates w) e
  where
    by_options : (x y : Option ℕ) → (is_some x || is_some y) ≡ false → (x ≡ None) × (y ≡ None)
    by_options None None h = (refl, refl)
    by_options None (Some j) h = absurd cc
    by_options (Some i) y h = absurd cc

-- ---- the flag of a new name, by how many there may be

pub too_many : (most n : ℕ) → most ≤ n → new_flag false false (most - n) ≡ Some Many
too_many most n h = let e : most - n ≡ 0 = omega (arith, h) in rw e refl

pub some_left : (most n : ℕ) → ¬ (most ≤ n) → new_flag false false (most - n) ≡ None
some_left most n h = by_left (most - n) (omega (arith, h))
  where
    by_left : (m : ℕ) → ¬ (m ≡ 0) → new_flag false false m ≡ None
    by_left zero e = absurd (e refl)
    by_left (suc m) e = refl

pub ruleset flag_lemmas = (too_many, some_left)
