-- Products subtracted one after the other.
use Rattle.std.proofs.Common.{◌≡◌, ◌↔◌, ℕ, ◌+◌, ◌<◌, ℤ, ◌-ℤ◌, ◌*ℤ◌, List, ◌∷◌, drop, get_or, length, Result, Ok, Err, sym, ap, subst, subst₂, ◌∙◌, arith}
use Rattle.std.specs.Result.{OkIff}
use Rattle.std.proofs.lemmas.Int.{ints}
use Rattle.it_number.specs.Limit.{IsWithin}
use Rattle.it_space.proofs.ListLemmas.{drop_item}
use Rattle.it_polymatroid.specs.Certificates.{combination}
use Rattle.it_lift.specs.Fits.{FallFits}

pub record IsFalling (ws : List (ℕ × ℤ)) (f : ℕ → ℤ) (whole : ℤ) (i : ℕ) (left : ℤ) : Type 0 where
  pub fits : FallFits left (drop i ws) f ↔ FallFits whole ws f
  pub total : left -ℤ combination (drop i ws) f ≡ whole -ℤ combination ws f

pub falling-more : (ws : List (ℕ × ℤ)) (f : ℕ → ℤ) (whole : ℤ) (i : ℕ) (left next x : ℤ) (w : ℕ × ℤ) → i < length ws → w ≡ get_or ws i w → x ≡ f w.0
    → (IsWithin (w.1 *ℤ x) × IsWithin (left -ℤ w.1 *ℤ x)) → next ≡ left -ℤ w.1 *ℤ x → IsFalling ws f whole i left → IsFalling ws f whole (i + 1) next
falling-more ws f whole i left next x w h is at v e u =
    let split = drop_item ws i w h is in
    let g : FallFits left (w ∷ drop (i + 1) ws) f ↔ FallFits whole ws f = subst (λ (r : List (ℕ × ℤ)). FallFits left r f ↔ FallFits whole ws f) split u.fits in
    let t : left -ℤ combination (w ∷ drop (i + 1) ws) f
    ≡ whole -ℤ combination ws f = subst (λ (r : List (ℕ × ℤ)). left -ℤ combination r f ≡ whole -ℤ combination ws f) split u.total in
    let e' : next ≡ left -ℤ w.1 *ℤ f w.0 = e ∙ ap (λ y. left -ℤ w.1 *ℤ y) at in
    let v' : IsWithin (w.1 *ℤ f w.0) × IsWithin (left -ℤ w.1 *ℤ f w.0) = subst (λ (y : ℤ). IsWithin (w.1 *ℤ y) × IsWithin (left -ℤ w.1 *ℤ y)) at v in
    record {
      fits = rw e' ((λ k. g.0 (v'.0, v'.1, k)), (λ k. (g.1 k).2));
      total = rw e' (omega (arith, ints, t));
    }

pub falling-stops : (ws : List (ℕ × ℤ)) (f : ℕ → ℤ) (whole : ℤ) (i : ℕ) (left x : ℤ) (w : ℕ × ℤ) → i < length ws → w ≡ get_or ws i w → x ≡ f w.0
    → ¬ (IsWithin (w.1 *ℤ x) × IsWithin (left -ℤ w.1 *ℤ x)) → IsFalling ws f whole i left → ¬ (FallFits whole ws f)
falling-stops ws f whole i left x w h is at wide u all =
    let here : FallFits left (w ∷ drop (i + 1) ws) f = subst (λ (r : List (ℕ × ℤ)). FallFits left r f) (drop_item ws i w h is) (u.fits.1 all) in
    wide (subst (λ (y : ℤ). IsWithin (w.1 *ℤ y) × IsWithin (left -ℤ w.1 *ℤ y)) (sym at) (here.0, here.1))

-- the whole excess, from its first product and the products that are subtracted
pub excess_is : {E : Type 0} (r : Result ℤ E) (x y : ℤ) (us ws : List (ℕ × ℤ)) (f : ℕ → ℤ) → x ≡ y → IsWithin y → us ≡ ws
    → OkIff r (FallFits x us f) (x -ℤ combination us f)
    → OkIff r (IsWithin y × FallFits y ws f) (y -ℤ combination ws f)
excess_is {E = E} r x y us ws f e w s k = by_result r (subst₂ (λ (z : ℤ) (vs : List (ℕ × ℤ)). OkIff r (FallFits z vs f) (z -ℤ combination vs f)) e s k)
  where
    by_result : (r : Result ℤ E) → OkIff r (FallFits y ws f) (y -ℤ combination ws f) → OkIff r (IsWithin y × FallFits y ws f) (y -ℤ combination ws f)
    by_result (Ok z) k = ((w, k.0), k.1)
    by_result (Err z) k = λ b. k b.1
