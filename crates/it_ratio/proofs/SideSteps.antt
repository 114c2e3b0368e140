-- The row of both sides, step by step as the code forms it.
use Rattle.std.proofs.Common.{◌≡◌, ℕ, zero, suc, ◌+◌, ◌-◌, ◌<◌, ◌≤◌, ◌⊎◌, inl, inr, ℤ, pos, ◌-ℤ◌, ◌*ℤ◌, List, [], ◌++◌, append_assoc, append-nil, map, not, ◌&&◌, cond, Some, Result, Ok, Err, sym, ap, ap₂, subst, subst₂, ◌∙◌, arith}
use Rattle.std.specs.Bool.{Decides}
use Rattle.std.specs.List.{find}
use Rattle.std.specs.Result.{IsErrAnd, OkIff}
use Rattle.std.proofs.lemmas.Bool.{cases_lt}
use Rattle.std.proofs.lemmas.Bool.Decides.{Decides-and, Decides-not}
use Rattle.std.proofs.lemmas.List.{get_or-map, length-map}
use Rattle.it_number.specs.Limit.{IsWithin}
use Rattle.it_fraction.proofs.Results.{OkIff-same}
use Rattle.it_space.specs.Rows.{Terms, Ascends, IsOver, coefficient, single_term}
use Rattle.it_space.specs.Sums.{terms_from}
use Rattle.it_space.proofs.EveryLemmas.{all_of, every-map}
use Rattle.it_space.proofs.SumLemmas.{terms_ascend, terms_at, terms_up_to}
use Rattle.it_space.proofs.TermLemmas.{ascends_lower}
use Rattle.it_polymatroid.specs.Elementals.{span}
use Rattle.it_polymatroid.proofs.Spans.{every-span, get_or-span, length-span}
use Rattle.it_check.specs.Sums.{is_within}
use Rattle.it_check.proofs.SumLemmas.{decides_within}
use Rattle.it_ratio.specs.declared.sides.RowStop.{RowStop}
use Rattle.it_ratio.specs.declared.sides.RowStop.TheVariants as stops
use Rattle.it_ratio.specs.Sides.{NumberFits, RowForms, SideFits, is_formed, row_unless, side_number, side_row, unformed}

-- a row so far, before coordinate c: with what is left it is the whole row, and no number so far is wide
pub record IsUnderWay (size : ℕ) (num den : ℤ) (left right : Terms) (c : ℕ) (terms : Terms) : Type 0 where
  pub same : terms ++ terms_from c (map (side_number num den left right) (span c (size + 1 - c))) ≡ side_row size num den left right
  pub wide : find (λ d. not (is_formed num den left right d)) (span c (size + 1 - c)) ≡ unformed size num den left right
  pub fits : (d : ℕ) → 1 ≤ d → d < c → NumberFits num den left right d

-- two products that fit, and their difference: a number, as its parts are formed
pub number_ok : {E : Type 0} (r : Result ℤ E) (num den : ℤ) (left right : Terms) (c : ℕ) (above below : ℤ)
    → IsWithin (num *ℤ coefficient left c) → above ≡ num *ℤ coefficient left c
    → IsWithin (den *ℤ coefficient right c) → below ≡ den *ℤ coefficient right c → OkIff r (IsWithin (above -ℤ below)) (above -ℤ below)
    → OkIff r (NumberFits num den left right c) (side_number num den left right c)
number_ok r num den left right c above below f e g d k = OkIff-same r (IsWithin (above -ℤ below)) (NumberFits num den left right c)
    (above -ℤ below) (side_number num den left right c) (
      (λ w. record { left_times = f; right_times = g; difference = subst₂ (λ (m n : ℤ). IsWithin (m -ℤ n)) e d w }),
      λ w. subst₂
          (λ (m n : ℤ). IsWithin (m -ℤ n)) (sym e) (sym d) w.difference,
    )
    (ap₂ (λ m n. m -ℤ n) e d) k

-- over all coordinates
pub row_over : (size : ℕ) (num den : ℤ) (left right : Terms) → IsOver size (side_row size num den left right)
unfolding side_row
row_over size num den left right = terms_up_to size 1 (map (side_number num den left right) (span 1 size)) (omega arith)
    (omega (arith, length-map (span 1 size) (side_number num den left right), length-span 1 size))

-- its coefficients
pub number_at : (size : ℕ) (num den : ℤ) (left right : Terms) (c : ℕ) → 1 ≤ c → c ≤ size
    → coefficient (side_row size num den left right) c ≡ side_number num den left right c
unfolding side_row
number_at size num den left right c h l =
    ap (coefficient (terms_from 1 (map (side_number num den left right) (span 1 size)))) (sym (from_one c h))
    ∙ terms_at 1 (map (side_number num den left right) (span 1 size)) (c - 1)
    ∙ get_or-map (side_number num den left right) (span 1 size) (c - 1) 0 (pos 0) (omega (arith, length-span 1 size))
    ∙ ap (side_number num den left right) (get_or-span 1 size (c - 1) 0 (omega arith) ∙ from_one c h)
  where
    from_one : (c : ℕ) → 1 ≤ c → 1 + (c - 1) ≡ c
    from_one c h = omega arith

module _ (size : ℕ) (num den : ℤ) (left right : Terms) where
  decides_formed : (c : ℕ) → Decides (is_formed num den left right c) (NumberFits num den left right c)
  decides_formed c = (
    λ e. let f = parts.0 e in record { left_times = f.0; right_times = f.1.0; difference = f.1.1 },
    λ f. parts.1
        (f.left_times, (f.right_times, f.difference)),
  )
    where
      parts : Decides (is_formed num den left right c) (IsWithin (num *ℤ coefficient left c)
          × (IsWithin (den *ℤ coefficient right c) × IsWithin (side_number num den left right c)))
      parts = Decides-and (is_within (num *ℤ coefficient left c)) (is_within (den *ℤ coefficient right c)
          && is_within (side_number num den left right c)) (decides_within (num *ℤ coefficient left c))
          (Decides-and (is_within (den *ℤ coefficient right c)) (is_within (side_number num den left right c))
          (decides_within (den *ℤ coefficient right c)) (decides_within (side_number num den left right c)))

  pub row_start : IsUnderWay size num den left right 1 []
  unfolding side_row unformed
  row_start = record {
    same = ap (λ n. terms_from 1 (map (side_number num den left right) (span 1 n))) (less size);
    wide = ap (λ n. find (λ d. not (is_formed num den left right d)) (span 1 n)) (less size);
    fits = λ d h l. absurd (omega arith);
  }
    where
      less : (n : ℕ) → n + 1 - 1 ≡ n
      less n = omega arith

  module _ (c : ℕ) (old : Terms) (h : c ≤ size) (a : IsUnderWay size num den left right c old) where
    abbrev rest : List ℕ
    rest = span (c + 1) (size + 1 - (c + 1))

    one_more : suc (size + 1 - (c + 1)) ≡ size + 1 - c
    one_more = omega arith

    -- the first wide number from c on
    wide_from : cond (not (is_formed num den left right c)) (Some c) (find (λ d. not (is_formed num den left right d)) rest) ≡ unformed size num den left right
    wide_from = ap (λ n. find (λ d. not (is_formed num den left right d)) (span c n)) one_more ∙ a.wide

    pub row_more : (new : Terms) → new ≡ old ++ single_term c (side_number num den left right c) → NumberFits num den left right c
        → IsUnderWay size num den left right (c + 1) new
    row_more new e f = record {
      same = ap (λ ts. ts ++ terms_from (c + 1) (map (side_number num den left right) rest)) e
          ∙ append_assoc old (single_term c (side_number num den left right c)) (terms_from (c + 1) (map (side_number num den left right) rest))
          ∙ ap (λ n. old ++ terms_from c (map (side_number num den left right) (span c n))) one_more
          ∙ a.same;
      wide = ap (λ b. cond (not b) (Some c) (find (λ d. not (is_formed num den left right d)) rest)) (sym ((decides_formed c).1 f)) ∙ wide_from;
      fits = λ d k l. by_order d (cases_lt d c) k l;
    }
      where
        same_number : (d : ℕ) → c ≤ d → d < c + 1 → c ≡ d
        same_number d h l = omega arith

        by_order : (d : ℕ) → (d < c) ⊎ (c ≤ d) → 1 ≤ d → d < c + 1 → NumberFits num den left right d
        by_order d (inl m) k l = a.fits d k m
        by_order d (inr m) k l = subst (NumberFits num den left right) (same_number d m l) f

    wide_here : ¬ (NumberFits num den left right c) → unformed size num den left right ≡ Some c
    wide_here n = sym wide_from ∙ ap (λ b. cond b (Some c) (find (λ d. not (is_formed num den left right d)) rest))
        ((Decides-not (is_formed num den left right c) (decides_formed c)).1 n)

    -- if a number isn't appended, allocation failed or it is the first wide one
    pub row_stops : (r : Result Terms RowStop) (stop : RowStop) → IsErrAnd r (λ e. e ≡ stop)
        → ((k : ℕ) → stop ≡ stops.Wide k → (k ≡ c) × ¬ (NumberFits num den left right c)) → RowForms size num den left right r
    row_stops (Ok row) stop is why = absurd is
    row_stops (Err stops.Memory) stop is why = tt
    row_stops (Err (stops.Wide k)) stop is why =
        let w = why k (sym is) in
        ap (λ o. row_unless o (side_row size num den left right)) (wide_here w.1) ∙ ap Err (sym w.0)

  module _ (c : ℕ) (terms : Terms) (h : size + 1 ≤ c) (a : IsUnderWay size num den left right c terms) where
    none : size + 1 - c ≡ zero
    none = omega arith

    row_is : terms ≡ side_row size num den left right
    row_is = sym (append-nil terms) ∙ ap (λ n. terms ++ terms_from c (map (side_number num den left right) (span c n))) (sym none) ∙ a.same

    pub row_fits : SideFits size num den left right
    row_fits d k l = a.fits d k (omega arith)

    pub row_done : RowForms size num den left right (Ok terms)
    row_done = (
      ap₂ row_unless (sym a.wide ∙ ap (λ n. find (λ d. not (is_formed num den left right d)) (span c n)) none) (sym row_is),
      subst (IsOver size) (sym row_is) (row_over size num den left right),
    )

    canonical : Ascends 0 (side_row size num den left right)
    unfolding side_row
    canonical = ascends_lower 0 1 (terms_from 1 (map (side_number num den left right) (span 1 size))) (omega arith)
        (terms_ascend 1 (map (side_number num den left right) (span 1 size)) (all_of IsWithin (map (side_number num den left right) (span 1 size))
        (every-map IsWithin (side_number num den left right) (span 1 size)
        (every-span (λ d. IsWithin (side_number num den left right d)) 1 size (λ d k l. within_of d (a.fits d k (omega arith)))))))
      where
        within_of : (d : ℕ) → NumberFits num den left right d → IsWithin (side_number num den left right d)
        within_of d f = f.difference

    pub row_canonical : Ascends 0 terms
    row_canonical = subst (Ascends 0) (sym row_is) canonical
