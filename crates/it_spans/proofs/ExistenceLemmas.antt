-- Steps have an end, and rows a verdict by it.
use Rattle.std.proofs.Common.{◌≡◌, ◌≢◌, ◌⊎◌, inl, inr, ℕ, zero, suc, ◌+◌, ◌^◌, ◌<◌, ◌≤◌, ℤ, pos, negsuc, ◌+ℤ◌, ◌*ℤ◌, ◌<ℤ◌, unsigned_abs, List, [], ◌∷◌, map, length, Option, Some, None, Result, Ok, Err, refl, sym, ap, ap₂, subst, ◌∙◌, arith, All}
use Rattle.std.specs.List.{AllByRecursion as Every}
use Rattle.std.proofs.Math.IntN.{*ℤ-zero}
use Rattle.std.proofs.lemmas.Int.{ints}
use Rattle.std.proofs.lemmas.Nat.{pow_pos}
use Rattle.std.proofs.lemmas.Bool.{cases_lt}
use Rattle.std.proofs.lemmas.List.Elements.{All-nil, All-cons, All-head, All-tail}
use Rattle.it_number.specs.Limit.{IsWithin}
use Rattle.it_space.specs.Cancelling.{CancelFits, MixFits, times_down, times_up}
use Rattle.it_space.specs.Rows.{Terms, ValueFits, coefficient, point_of}
use Rattle.it_space.proofs.CanonicalRows.{coefficient_without_term}
use Rattle.it_space.proofs.EveryLemmas.{all_of}
use Rattle.it_eliminate.proofs.MemberLemmas.{Member, contains_of, every_member, member_every, member_of}
use Rattle.it_check.specs.Sums.{sum_within}
use Rattle.it_check.proofs.SumLemmas.{sum_fits, sum_told}
use Rattle.it_eliminate.specs.Elimination.{EliminatedView, PairsFit, Region, Rows, Wide, next_list, ordered_rows}
use Rattle.it_hull.specs.Hulls.{first_rows, rows_with_multiplier}
use Rattle.it_hull.specs.Rays.{RayEnds, ValuesFit}
use Rattle.it_spans.specs.declared.types.Fault.{Fault}
use Rattle.it_spans.specs.declared.types.Frame.{Frame}
use Rattle.it_spans.specs.declared.types.HullVerdict.{HullVerdict}
use Rattle.it_spans.specs.Spans.{StepEnds, StepView, StepsEnd, step_end}
use Rattle.it_spans.specs.Verdicts.{VerdictIs, rows_verdict}

-- ---- whether numbers fit

fits_or_not : (row : Terms) (p : ℕ → ℤ) → ValueFits row p ⊎ ¬ (ValueFits row p)
fits_or_not row p = by_option (sum_within (pos 0) row p) refl
  where
    none_is_some : (x : ℤ) → None ≡ Some x → ⊥
    none_is_some x e = cc

    by_option : (o : Option ℤ) → sum_within (pos 0) row p ≡ o → ValueFits row p ⊎ ¬ (ValueFits row p)
    by_option (Some x) e = inl (sum_told (pos 0) row p x e).0
    by_option None e = inr (λ f. none_is_some _ (sym e ∙ sum_fits (pos 0) row p f))

all_fit_or_not : (p : ℕ → ℤ) (rows : List Terms) → All (λ row. ValueFits row p) rows ⊎ ¬ (All (λ row. ValueFits row p) rows)
all_fit_or_not p [] = inl (All-nil (λ row. ValueFits row p))
all_fit_or_not p (row ∷ rows) = by_both (fits_or_not row p) (all_fit_or_not p rows)
  where
    by_both : ValueFits row p ⊎ ¬ (ValueFits row p) → All (λ row. ValueFits row p) rows ⊎ ¬ (All (λ row. ValueFits row p) rows)
        → All (λ row. ValueFits row p) (row ∷ rows) ⊎ ¬ (All (λ row. ValueFits row p) (row ∷ rows))
    by_both (inl f) (inl fs) = inl (All-cons (λ row. ValueFits row p) row rows f fs)
    by_both (inl f) (inr n) = inr (λ all. n (All-tail (λ row. ValueFits row p) row rows all))
    by_both (inr n) rest = inr (λ all. n (All-head (λ row. ValueFits row p) row rows all))

-- ---- whether pairs of rows do

every_or_not : {X : Type 0} (P : X → Type 0) → ((x : X) → P x ⊎ ¬ (P x)) → (xs : List X) → Every P xs ⊎ ¬ (Every P xs)
every_or_not P decide [] = inl tt
every_or_not P decide (x ∷ xs) = by_both (decide x) (every_or_not P decide xs)
  where
    by_both : P x ⊎ ¬ (P x) → Every P xs ⊎ ¬ (Every P xs) → (P x × Every P xs) ⊎ ¬ (P x × Every P xs)
    by_both (inl p) (inl ps) = inl (p, ps)
    by_both (inl p) (inr n) = inr (λ all. n all.1)
    by_both (inr n) rest = inr (λ all. n all.0)

below_or_not : (a b : ℕ) → (a < b) ⊎ ¬ (a < b)
below_or_not a b = by_order (cases_lt a b)
  where
    by_order : (a < b) ⊎ (b ≤ a) → (a < b) ⊎ ¬ (a < b)
    by_order (inl l) = inl l
    by_order (inr l) = inr (λ h. omega (arith, h, l))

same_or_not : (a b : ℕ) → (a ≡ b) ⊎ (a ≢ b)
same_or_not a b = by_order (cases_lt a b) (cases_lt b a)
  where
    by_order : (a < b) ⊎ (b ≤ a) → (b < a) ⊎ (a ≤ b) → (a ≡ b) ⊎ (a ≢ b)
    by_order (inl l) more = inr (λ e. omega (arith, e, l))
    by_order (inr l) (inl m) = inr (λ e. omega (arith, e, m))
    by_order (inr l) (inr m) = inl (omega (arith, l, m))

within_or_not : (z : ℤ) → IsWithin z ⊎ ¬ (IsWithin z)
within_or_not z = below_or_not (unsigned_abs z) (2 ^ 127)

mix_or_not : (a x b y : ℤ) → MixFits a x b y ⊎ ¬ (MixFits a x b y)
mix_or_not a x b y = by_each (within_or_not (a *ℤ x)) (within_or_not (b *ℤ y)) (within_or_not (a *ℤ x +ℤ b *ℤ y))
  where
    by_each : IsWithin (a *ℤ x) ⊎ ¬ (IsWithin (a *ℤ x)) → IsWithin (b *ℤ y) ⊎ ¬ (IsWithin (b *ℤ y))
        → IsWithin (a *ℤ x +ℤ b *ℤ y) ⊎ ¬ (IsWithin (a *ℤ x +ℤ b *ℤ y)) → MixFits a x b y ⊎ ¬ (MixFits a x b y)
    by_each (inl f) (inl g) (inl h) = inl (record { left = f; right = g; sum = h })
    by_each (inl f) (inl g) (inr n) = inr (λ m. n m.sum)
    by_each (inl f) (inr n) h = inr (λ m. n m.right)
    by_each (inr n) g h = inr (λ m. n m.left)

zero_within : IsWithin (pos 0)
zero_within = pow_pos 127

-- two coefficients that are 0 mix
zero_mix : (a x b y : ℤ) → x ≡ pos 0 → y ≡ pos 0 → MixFits a x b y
zero_mix a x b y e f =
    let left : a *ℤ x ≡ pos 0 = ap (λ z. a *ℤ z) e ∙ *ℤ-zero a in
    let right : b *ℤ y ≡ pos 0 = ap (λ z. b *ℤ z) f ∙ *ℤ-zero b in
    record {
      left = subst IsWithin (sym left) zero_within;
      right = subst IsWithin (sym right) zero_within;
      sum = subst IsWithin (sym (ap₂ (λ u v. u +ℤ v) left right)) zero_within;
    }

-- a coordinate is one of a row's, or the row has no term there
in_or_out : (ts : Terms) (c : ℕ) → Member c (map (λ t. t.0) ts) ⊎ Every (λ t. t.0 ≢ c) ts
in_or_out [] c = inr tt
in_or_out (t ∷ ts) c = by_both (same_or_not t.0 c) (in_or_out ts c)
  where
    by_both : (t.0 ≡ c) ⊎ (t.0 ≢ c) → Member c (map (λ t. t.0) ts) ⊎ Every (λ t. t.0 ≢ c) ts
        → Member c (map (λ t. t.0) (t ∷ ts)) ⊎ Every (λ t. t.0 ≢ c) (t ∷ ts)
    by_both (inl e) rest = inl (inl (sym e))
    by_both (inr n) (inl m) = inl (inr m)
    by_both (inr n) (inr out) = inr (n, out)

no_coefficient : (ts : Terms) (c : ℕ) → Every (λ t. t.0 ≢ c) ts → coefficient ts c ≡ pos 0
no_coefficient ts c out = coefficient_without_term ts c (all_of (λ (t : ℕ × ℤ). t.0 ≢ c) ts out)

module _ (at : ℕ) (up down : Terms) where
  abbrev MixesAt : ℕ → Type 0
  MixesAt c = c ≢ at → MixFits (pos (times_up at up down)) (coefficient up c) (pos (times_down at up down)) (coefficient down c)

  mixes_or_not : (c : ℕ) → MixesAt c ⊎ ¬ (MixesAt c)
  mixes_or_not c = by_both (same_or_not c at) (mix_or_not (pos (times_up at up down)) (coefficient up c) (pos (times_down at up down)) (coefficient down c))
    where
      by_both : (c ≡ at) ⊎ (c ≢ at) → MixFits (pos (times_up at up down)) (coefficient up c) (pos (times_down at up down))
          (coefficient down c) ⊎ ¬ (MixFits (pos (times_up at up down)) (coefficient up c) (pos (times_down at up down))
          (coefficient down c))
          → MixesAt c ⊎ ¬ (MixesAt c)
      by_both (inl e) mix = inl (λ n. absurd (n e))
      by_both (inr n) (inl f) = inl (λ k. f)
      by_both (inr n) (inr m) = inr (λ all. m (all n))

  mixes_everywhere : Every MixesAt (map (λ t. t.0) up) → Every MixesAt (map (λ t. t.0) down) → CancelFits at up down
  mixes_everywhere ups downs c other = by_both (in_or_out up c) (in_or_out down c)
    where
      by_both : Member c (map (λ t. t.0) up) ⊎ Every (λ t. t.0 ≢ c) up → Member c (map (λ t. t.0) down) ⊎ Every (λ t. t.0 ≢ c) down
          → MixFits (pos (times_up at up down)) (coefficient up c) (pos (times_down at up down)) (coefficient down c)
      by_both (inl m) two = every_member MixesAt (map (λ t. t.0) up) c ups m other
      by_both (inr out) (inl m) = every_member MixesAt (map (λ t. t.0) down) c downs m other
      by_both (inr out) (inr none) = zero_mix (pos (times_up at up down)) (coefficient up c) (pos (times_down at up down))
          (coefficient down c) (no_coefficient up c out) (no_coefficient down c none)

  cancels_or_not : CancelFits at up down ⊎ ¬ (CancelFits at up down)
  cancels_or_not = by_both (every_or_not MixesAt mixes_or_not (map (λ t. t.0) up)) (every_or_not MixesAt mixes_or_not (map (λ t. t.0) down))
    where
      at_each : CancelFits at up down → (cs : List ℕ) → Every MixesAt cs
      at_each f [] = tt
      at_each f (c ∷ cs) = (f c, at_each f cs)

      by_both : Every MixesAt (map (λ t. t.0) up) ⊎ ¬ (Every MixesAt (map (λ t. t.0) up))
          → Every MixesAt (map (λ t. t.0) down) ⊎ ¬ (Every MixesAt (map (λ t. t.0) down))
          → CancelFits at up down ⊎ ¬ (CancelFits at up down)
      by_both (inl ups) (inl downs) = inl (mixes_everywhere ups downs)
      by_both (inl ups) (inr n) = inr (λ f. n (at_each f (map (λ t. t.0) down)))
      by_both (inr n) downs = inr (λ f. n (at_each f (map (λ t. t.0) up)))

  abbrev IsPairFit : Type 0
  IsPairFit = pos 0 <ℤ coefficient up at → coefficient down at <ℤ pos 0 → CancelFits at up down

  positive_or_not : (z : ℤ) → (pos 0 <ℤ z) ⊎ ¬ (pos 0 <ℤ z)
  positive_or_not (pos zero) = inr (λ h. omega (arith, ints, h))
  positive_or_not (pos (suc n)) = inl (omega (arith, ints))
  positive_or_not (negsuc n) = inr (λ h. omega (arith, ints, h))

  negative_or_not : (z : ℤ) → (z <ℤ pos 0) ⊎ ¬ (z <ℤ pos 0)
  negative_or_not (pos n) = inr (λ h. omega (arith, ints, h))
  negative_or_not (negsuc n) = inl (omega (arith, ints))

  pair_or_not : IsPairFit ⊎ ¬ IsPairFit
  pair_or_not = by_each (positive_or_not (coefficient up at)) (negative_or_not (coefficient down at)) cancels_or_not
    where
      by_each : (pos 0 <ℤ coefficient up at) ⊎ ¬ (pos 0 <ℤ coefficient up at)
          → (coefficient down at <ℤ pos 0) ⊎ ¬ (coefficient down at <ℤ pos 0) → CancelFits at up down ⊎ ¬ (CancelFits at up down)
          → IsPairFit ⊎ ¬ IsPairFit
      by_each (inl p) (inl n) (inl f) = inl (λ a b. f)
      by_each (inl p) (inl n) (inr m) = inr (λ all. m (all p n))
      by_each (inl p) (inr none) f = inl (λ a b. absurd (none b))
      by_each (inr none) n f = inl (λ a b. absurd (none a))

pairs_fit_or_not : (at : ℕ) (rows : List Terms) → PairsFit at rows ⊎ ¬ (PairsFit at rows)
pairs_fit_or_not at rows = by_all (every_or_not (λ up. Every (IsPairFit at up) rows) (λ up. every_or_not (IsPairFit at up) (pair_or_not at up) rows) rows)
  where
    by_all : Every (λ up. Every (IsPairFit at up) rows) rows ⊎ ¬ (Every (λ up. Every (IsPairFit at up) rows) rows) → PairsFit at rows ⊎ ¬ (PairsFit at rows)
    by_all (inl all) = inl (λ up down u d. every_member (IsPairFit at up) rows down
        (every_member (λ up. Every (IsPairFit at up) rows) rows up all (member_of rows up u)) (member_of rows down d))
    by_all (inr n) = inr (λ f. n (member_every (λ up. Every (IsPairFit at up) rows) rows
        (λ up u. member_every (IsPairFit at up) rows (λ down d. f up down (contains_of rows up u) (contains_of rows down d)))))

-- ---- ends

abbrev RayEndThere : ℕ → ℕ → List ℤ → ℕ → List Terms → Type 0
RayEndThere base most ray rate rows = (end : EliminatedView) × RayEnds base most ray rate rows end

ray_end_there : (base most : ℕ) (ray : List ℤ) (rate : ℕ) (rows : List Terms) → RayEndThere base most ray rate rows
ray_end_there base most ray rate rows = by_values (all_fit_or_not (point_of ray) rows)
  where
    at : ℕ
    at = base + rate

    list : List Terms
    list = ordered_rows (rows_with_multiplier (base + rate) (point_of ray) rows)

    by_count : ValuesFit ray rows → PairsFit at list → (most < length (next_list at list)) ⊎ (length (next_list at list) ≤ most)
        → RayEndThere base most ray rate rows
    by_count f p (inl l) = (Rows rate, inr (f, inr (inl (p, l, refl))))
    by_count f p (inr l) = (Region (next_list at list), inr (f, inr (inr (p, l, refl))))

    by_pairs : ValuesFit ray rows → PairsFit at list ⊎ ¬ (PairsFit at list) → RayEndThere base most ray rate rows
    by_pairs f (inl p) = by_count f p (cases_lt most (length (next_list at list)))
    by_pairs f (inr n) = (Wide rate, inr (f, inl (n, refl)))

    by_values : ValuesFit ray rows ⊎ ¬ (ValuesFit ray rows) → RayEndThere base most ray rate rows
    by_values (inl f) = by_pairs f (pairs_fit_or_not at list)
    by_values (inr n) = (Wide rate, inl (n, refl))

steps_there : (f : Frame) (ray : ℕ) (rows : List Terms) (steps : List StepView) → (end : Result (List Terms) Fault) × StepsEnd f ray rows steps end
steps_there f ray rows [] = (Ok rows, refl)
steps_there f ray rows (s ∷ steps) =
    let left = ray_end_there (2 ^ f.space.variables) f.rows s.ray f.spare rows in
    by_first (step_end f.space ray s.drops left.0) (left.0, left.1, refl) (λ next. steps_there f (ray + 1) next steps)
  where
    by_first : (first : Result (List Terms) Fault) → StepEnds f ray rows s first
        → ((next : List Terms) → (end : Result (List Terms) Fault) × StepsEnd f (ray + 1) next steps end)
        → (end : Result (List Terms) Fault) × StepsEnd f ray rows (s ∷ steps) end
    by_first (Ok next) e later = let rest = later next in (rest.0, (Ok next, e, rest.1))
    by_first (Err fault) e later = (Err fault, (Err fault, e, refl))

pub hull_verdict_there : (f : Frame) (kept : List ℕ) (steps : List StepView) (rows : List Terms) → (verdict : HullVerdict) × VerdictIs f kept steps rows verdict
hull_verdict_there f kept steps rows =
    let end = steps_there f 0 (first_rows kept) steps in
    (rows_verdict rows end.0, record { end = end.0; ends = end.1; verdict_is = refl })
