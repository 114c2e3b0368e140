-- Loops over numbers that collect those which pass a test.
use Rattle.std.proofs.Common.{◌≡◌, ℕ, suc, ◌+◌, ◌-◌, ◌<◌, ◌≤◌, Bool, List, [], ◌∷◌, ◌++◌, filter, sym, ap, ◌∙◌, arith, append_assoc, append-nil}
use Rattle.std.specs.List.{range_with_len}
use Rattle.std.proofs.lemmas.List.Elements.{filter-append}

module _ (p : ℕ → Bool) (n total : ℕ) where
  -- one number further
  pub passing_more : (ys zs whole : List ℕ) → n < total → zs ≡ ys ++ filter p (n ∷ []) → ys ++ filter p (range_with_len n (total - n)) ≡ whole
      → zs ++ filter p (range_with_len (n + 1) (total - (n + 1))) ≡ whole
  passing_more ys zs whole h more before =
      let e : total - n ≡ suc (total - (n + 1)) = omega (arith, h) in
      let later = range_with_len (n + 1) (total - (n + 1)) in
      ap (λ (vs : List ℕ). vs ++ filter p later) more ∙ append_assoc ys (filter p (n ∷ [])) (filter p later)
      ∙ ap (λ (vs : List ℕ). ys ++ vs) (sym (filter-append p (n ∷ []) later)) ∙ ap (λ (k : ℕ). ys ++ filter p (range_with_len n k)) (sym e) ∙ before

  -- past the last one
  pub passing_done : (ys whole : List ℕ) → total ≤ n → ys ++ filter p (range_with_len n (total - n)) ≡ whole → ys ≡ whole
  passing_done ys whole h before =
      let e : total - n ≡ 0 = omega (arith, h) in
      sym (append-nil ys) ∙ ap (λ (k : ℕ). ys ++ filter p (range_with_len n k)) (sym e) ∙ before
