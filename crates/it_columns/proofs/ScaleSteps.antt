-- Scales and scaled numbers, step by step as the code forms them.
use Rattle.std.proofs.Common.{◌≡◌, ◌↔◌, ℕ, ◌+◌, ◌<◌, ◌≤◌, ◌^◌, ℤ, pos, List, ◌++◌, map, length, drop, get_or, sym, ap, subst, ◌∙◌, arith}
use Rattle.std.proofs.lemmas.List.{drop_all}
use Rattle.it_number.specs.Gcd.{lcm}
use Rattle.it_number.specs.Limit.{IsWithin}
use Rattle.it_rational.specs.Rational.{Rational}
use Rattle.it_space.proofs.ListLemmas.{drop_item}
use Rattle.it_number.proofs.Divisors.{lcm-pos}
use Rattle.std.specs.List.{AllByRecursion as Every}
use Rattle.it_columns.proofs.Scales.{scale_from, scale_from_one, scale_least}
use Rattle.it_columns.specs.Scaling.{scale_of, scaled_number}

-- the multiple of the first i denominators
pub record IsScale (qs : List Rational) (i scale : ℕ) : Type 0 where
  pub same : scale_from scale (drop i qs) ≡ scale_from 1 qs
  pub some : 0 < scale
  pub within : scale < 2 ^ 127

-- the first i numbers are scaled
pub record AreScaled (l : ℕ) (qs : List Rational) (i : ℕ) (out : List ℤ) : Type 0 where
  pub fits : Every (λ q. IsWithin (scaled_number l q)) (drop i qs) ↔ Every (λ q. IsWithin (scaled_number l q)) qs
  pub same : out ++ map (scaled_number l) (drop i qs) ≡ map (scaled_number l) qs

pub scale_more : (qs : List Rational) (i scale next : ℕ) (q : Rational) → i < length qs → q ≡ get_or qs i q
    → IsWithin (pos (lcm scale q.den)) × (next ≡ lcm scale q.den) → IsScale qs i scale → IsScale qs (i + 1) next
unfolding scale_from
scale_more qs i scale next q h is w s = subst (IsScale qs (i + 1)) (sym w.1) (record {
  same = subst (λ xs. scale_from scale xs ≡ scale_from 1 qs) (drop_item qs i q h is) s.same;
  some = lcm-pos scale q.den s.some q.positive;
  within = w.0;
})

pub scale_done : (qs : List Rational) (i scale : ℕ) → length qs ≤ i → IsScale qs i scale → IsWithin (pos (scale_of qs)) × (scale ≡ scale_of qs)
unfolding scale_from
scale_done qs i scale h s =
    let e : scale ≡ scale_of qs = sym (ap (scale_from scale) (drop_all i qs h)) ∙ s.same ∙ scale_from_one qs in
    (subst (λ (l : ℕ). IsWithin (pos l)) e s.within, e)

-- a multiple on the way that is past the limit takes the scale past it
pub scale_wide : (qs : List Rational) (i scale : ℕ) (q : Rational) → i < length qs → q ≡ get_or qs i q
    → ¬ (IsWithin (pos (lcm scale q.den))) → IsScale qs i scale → ¬ (IsWithin (pos (scale_of qs)))
unfolding scale_from
scale_wide qs i scale q h is n s w =
    let e : scale_from (lcm scale q.den) (drop (i + 1) qs) ≡ scale_of qs = subst (λ xs. scale_from scale xs ≡ scale_from 1 qs)
    (drop_item qs i q h is) s.same ∙ scale_from_one qs in
    let least : lcm scale q.den ≤ scale_from (lcm scale q.den) (drop (i + 1) qs) = scale_least (lcm scale q.den) (drop (i + 1) qs)
    (lcm-pos scale q.den s.some q.positive) in
    n (smaller_within (lcm scale q.den) (scale_of qs) (omega (arith, e, least)) w)
  where
    smaller_within : (m l : ℕ) → m ≤ l → IsWithin (pos l) → IsWithin (pos m)
    smaller_within m l h w = omega (arith, h, w)
