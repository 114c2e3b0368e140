-- The sums at a window of coordinates, term by term and weight by weight.
use Rattle.std.specs.Prelude.{◌≡◌, ℕ, ◌+◌, ◌-◌, ◌<◌, ◌≤◌, min, ℤ, pos, List, [], ◌∷◌, ◌++◌, length, Option, Some, None}
use Rattle.std.proofs.Common.{◌⊎◌, inl, inr, length-set, get_or, get_or-set_same, get_or-set_other, set, take, refl, sym, ap, ◌∙◌, arith}
use Rattle.std.proofs.Math.ListN.{replicate, length-replicate, get_or-replicate}
use Rattle.std.proofs.lemmas.Bool.{cases_lt, cases_order}
use Rattle.std.proofs.lemmas.List.{take_more}
use Rattle.it_space.specs.Rows.{Terms, coefficient}
use Rattle.it_elemental.specs.Generators.{Generator, generator_at}
use Rattle.it_check.specs.NextTerms.{IsTermFrom, IsZeroBetween}
use Rattle.it_check.specs.Windows.{plus_product, plus_some, window_length, AreAdded, AreSums}
use Rattle.it_check.specs.Sums.{sum_within}
use Rattle.it_check.specs.Verdicts.{column}
use Rattle.it_check.proofs.SumLemmas.{plus_nonzero, sum_step}

-- ---- one row

-- the terms at coordinates before `from` are added, and no others
pub record IsAdding (row : Terms) (a : ℤ) (start : ℕ) (old new : List (Option ℤ)) (from : ℕ) : Type 0 where
  pub least : start ≤ from
  pub most : from ≤ start + window_length
  pub long : length new ≡ window_length
  pub done : (k : ℕ) → k < window_length → start + k < from → get_or new k None ≡ plus_some (get_or old k None) a (coefficient row (start + k))
  pub rest : (k : ℕ) → from ≤ start + k → get_or new k None ≡ get_or old k None

module _ (row : Terms) (a : ℤ) (start : ℕ) (old new : List (Option ℤ)) (from : ℕ) (s : IsAdding row a start old new from) where
  -- up to a coordinate where the row has the coefficient 0 from `from` on
  below_next : (b k : ℕ) → IsZeroBetween from b row → start + k < b → k < window_length → (start + k < from) ⊎ (from ≤ start + k)
      → get_or new k None ≡ plus_some (get_or old k None) a (coefficient row (start + k))
  below_next b k z h l (inl p) = s.done k l p
  below_next b k z h l (inr p) = s.rest k p ∙ sym (ap (plus_some (get_or old k None) a) (z (start + k) p h))

  pub adding_ends : (b : ℕ) → IsZeroBetween from b row → start + window_length ≤ b → AreAdded row a start old new
  adding_ends b z h = λ k l. below_next b k z (omega arith) l (cases_lt (start + k) from)

  module _ (t : ℕ × ℤ) (place : ℕ) (v : Option ℤ) (n : IsTermFrom from row t) (is : place ≡ t.0 - start) (low : place < window_length)
      (e : v ≡ plus_product (get_or new place None) a t.1) where
    at_place : get_or (set new place v) place None ≡ plus_some (get_or old place None) a (coefficient row (start + place))
    at_place =
        let at : start + place ≡ t.0 = omega (arith, s.least, n.late) in
        get_or-set_same new place v None (omega (arith, s.long)) ∙ e
        ∙ ap (λ o. plus_product o a t.1) (s.rest place (omega (arith, n.late)))
        ∙ plus_nonzero (get_or old place None) a t.1 n.some
        ∙ ap (plus_some (get_or old place None) a) (sym (ap (coefficient row) at ∙ n.own))

    up_to_place : (k : ℕ) → k < window_length → start + k < t.0 + 1 → (k ≡ place) ⊎ ((k < place) ⊎ (place < k))
        → get_or (set new place v) k None ≡ plus_some (get_or old k None) a (coefficient row (start + k))
    up_to_place k l h (inl q) = ap (λ j. get_or (set new place v) j None) q ∙ at_place
        ∙ sym (ap (λ j. plus_some (get_or old j None) a (coefficient row (start + j))) q)
    up_to_place k l h (inr (inl b)) = get_or-set_other new place k v None (λ q. omega arith)
        ∙ below_next t.0 k n.before (omega (arith, n.late, s.least)) l (cases_lt (start + k) from)
    up_to_place k l h (inr (inr b)) = absurd (omega (arith, n.late, s.least))

    pub adding_more : IsAdding row a start old (set new place v) (t.0 + 1)
    adding_more = record {
      least = omega (arith, s.least, n.late);
      most = omega (arith, s.least, n.late);
      long = length-set new place v ∙ s.long;
      done = λ k l h. up_to_place k l h (cases_order k place);
      rest = λ k h. get_or-set_other new place k v None (λ q. omega (arith, n.late, s.least)) ∙ s.rest k (omega (arith, n.late));
    }

-- ---- all weights

-- before the first weight
pub sums_begin : (gs : List Generator) (target : Terms) (start next : ℕ) → start + window_length ≤ next
    → IsZeroBetween (start + window_length) next target → AreSums gs target [] start (replicate window_length (Some (pos 0))) next
sums_begin gs target start next later zero = record {
  long = length-replicate window_length (Some (pos 0));
  here = λ k l. get_or-replicate window_length k (Some (pos 0)) None l;
  later = later;
  left = zero;
  right = λ c k l. refl;
}

-- one weight further: its generator is added, which has no coefficient past the window before coordinate n
module _ (gs : List Generator) (target weights : Terms) (start : ℕ) (sums new : List (Option ℤ)) (next n i : ℕ) (t d : ℕ × ℤ)
    (s : AreSums gs target (take i weights) start sums next) (h : i < length weights) (is : t ≡ get_or weights i d) where
  sum_at : (c : ℕ) → sum_within (pos 0) (take (i + 1) weights) (column gs c)
      ≡ plus_some (sum_within (pos 0) (take i weights) (column gs c)) t.1 (column gs c t.0)
  sum_at c = ap (λ ts. sum_within (pos 0) ts (column gs c)) (take_more weights i d h ∙ ap (λ u. take i weights ++ u ∷ []) (sym is))
      ∙ sum_step (take i weights) t (column gs c)

  pub sums_more : length new ≡ window_length → AreAdded (generator_at gs t.0).row t.1 start sums new → start + window_length ≤ n
      → IsZeroBetween (start + window_length) n (generator_at gs t.0).row → AreSums gs target (take (i + 1) weights) start new (min next n)
  sums_more long added later zero = record {
    long = long;
    here = λ k l. added k l ∙ ap (λ o. plus_some o t.1 (column gs (start + k) t.0)) (s.here k l) ∙ sym (sum_at (start + k));
    later = omega (arith, s.later);
    left = λ c k l. s.left c k (omega arith);
    right = λ c k l. sum_at c ∙ ap (plus_some (sum_within (pos 0) (take i weights) (column gs c)) t.1) (zero c k (omega arith))
        ∙ s.right c k (omega arith);
  }
