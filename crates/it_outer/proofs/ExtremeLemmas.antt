-- What holds of all rays holds of the extreme ones in order.
use Rattle.std.proofs.Common.{◌≡◌, ℕ, ℤ, List, [], ◌∷◌, Bool, true, false, if◌then◌else◌, All}
use Rattle.std.specs.Prelude.{filter}
use Rattle.std.specs.List.{AllByRecursion as Every}
use Rattle.it_space.specs.Rows.{Terms}
use Rattle.it_space.proofs.EveryLemmas.{all_of, every_of, every-filter, every-same}
use Rattle.it_outer.specs.Extremes.{direction, extreme_rays, is_extreme, is_greater, ordered_after, put_in_order}

module _ (P : List ℤ → Type 0) (kept : List ℕ) where
  pub every_put : (p : List ℤ) (qs : List (List ℤ)) → P p → Every P qs → Every P (put_in_order kept p qs)
  every_put p [] h a = (h, tt)
  every_put p (q ∷ qs) h a = by_test (is_greater kept (direction kept p) (direction kept q)) (every_put p qs h a.1)
    where
      by_test : (b : Bool) → Every P (put_in_order kept p qs) → Every P (if b then p ∷ q ∷ qs else q ∷ put_in_order kept p qs)
      by_test true ih = (h, a)
      by_test false ih = (a.0, ih)

  pub all_put : (p : List ℤ) (qs : List (List ℤ)) → P p → All P qs → All P (put_in_order kept p qs)
  all_put p qs h a = all_of P (put_in_order kept p qs) (every_put p qs h (every_of P qs a))

  every_ordered : (done ps : List (List ℤ)) → Every P done → Every P ps → Every P (ordered_after kept done ps)
  every_ordered done [] d a = d
  every_ordered done (p ∷ ps) d a = every_ordered (put_in_order kept p done) ps (every_put p done a.0 d) a.1

  pub all_extreme : (rows : List Terms) (rays : List (List ℤ)) → All P rays → All P (extreme_rays kept rows rays)
  all_extreme rows rays a = all_of P (extreme_rays kept rows rays) (every_ordered [] (filter (is_extreme rows rays) rays) tt
      (every-filter P (is_extreme rows rays) rays (every-same P (λ ray. is_extreme rows rays ray ≡ true → P ray) rays (λ ray h t. h) (every_of P rays a))))
