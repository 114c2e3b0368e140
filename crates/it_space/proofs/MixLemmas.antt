-- Two rows mixed, coordinate by coordinate.
use Rattle.std.proofs.Common.{◌≡◌, ◌≢◌, ◌⊎◌, inl, inr, ◌↔◌, ℕ, zero, suc, ◌+◌, ◌/◌, ◌<◌, ◌≤◌, ℤ, pos, negsuc, neg_ℤ, ◌+ℤ◌, ◌*ℤ◌, ◌<ℤ◌, unsigned_abs, refl, sym, ap, ap₂, subst, subst₂, ◌∙◌, arith, [], ◌∷◌, ◌++◌, Bool, true, false, cond, nat_eq, length, slice_index_or}
use Rattle.std.proofs.lemmas.Int.{ints}
use Rattle.std.proofs.lemmas.Bool.{cases_order, eqb-true, eqb-false}
use Rattle.std.proofs.lemmas.List.{append-nil}
use Rattle.std.proofs.Math.IntN.{*ℤ-zero}
use Rattle.it_number.specs.Limit.{IsWithin}
use Rattle.it_number.specs.Gcd.{gcd}
use Rattle.it_number.proofs.Divisors.{gcd_is, gcd-pos, gcd_some}
use Rattle.it_number.proofs.Integers.{zring}
use Rattle.it_number.proofs.Ring.{ring, v, plus, times as prod}
use Rattle.it_number.proofs.IntegerRing.{ring_ℤ}
use Rattle.it_number.proofs.SignLemmas.{zero_by_multiple, factor_above, plus_none}
use native.Mathlib.Nat.{div-mul_cancel}
use Rattle.it_space.specs.Rows.{Terms, coefficient, Ascends, single_term}
use Rattle.it_space.specs.Cancelling.{common_at, times_up, times_down, CancelFits, cancelled_row, MixFits}
use Rattle.it_space.specs.Mixing.{mix, presence, MixesFit, AreLater, IsFirstCoordinate, IsTermPut, IsMix}
use Rattle.it_space.proofs.TermLemmas.{coefficient-cancelled_row, rises-cancelled_row, coefficient-append, coefficient-single_term, ascends_lower}
use Rattle.it_space.proofs.CanonicalRows.{ascends_rise, none_below, head_is, told_rising}

-- ascending terms from lo on, all below hi
abbrev pub Spans : ℕ → Terms → ℕ → Type 0
Spans lo [] hi = lo ≤ hi
Spans lo (t ∷ ts) hi = (lo ≤ t.0) × (t.1 ≢ pos 0) × IsWithin t.1 × Spans (t.0 + 1) ts hi

pub spans_ascend : (lo : ℕ) (ts : Terms) (hi : ℕ) → Spans lo ts hi → Ascends lo ts
spans_ascend lo [] hi s = tt
spans_ascend lo (t ∷ ts) hi s = (s.0, s.1, s.2, spans_ascend (t.0 + 1) ts hi s.3)

spans_wider : (lo : ℕ) (ts : Terms) (hi to : ℕ) → hi ≤ to → Spans lo ts hi → Spans lo ts to
spans_wider lo [] hi to h s = omega (arith, s)
spans_wider lo (t ∷ ts) hi to h s = (s.0, s.1, s.2, spans_wider (t.0 + 1) ts hi to h s.3)

spans_more : (lo : ℕ) (ts : Terms) (hi c : ℕ) (x : ℤ) → hi ≤ c → x ≢ pos 0 → IsWithin x → Spans lo ts hi → Spans lo (ts ++ (c, x) ∷ []) (c + 1)
spans_more lo [] hi c x h n w s = (omega (arith, s), n, w, omega arith)
spans_more lo (t ∷ ts) hi c x h n w s = (s.0, s.1, s.2, spans_more (t.0 + 1) ts hi c x h n w s.3)

spans-single_term : (lo : ℕ) (ts : Terms) (hi c : ℕ) (x : ℤ) → hi ≤ c → IsWithin x → Spans lo ts hi → Spans lo (ts ++ single_term c x) (c + 1)
spans-single_term lo ts hi c (pos zero) h w s = subst (λ (us : Terms). Spans lo us (c + 1)) (sym (append-nil ts)) (spans_wider lo ts hi (c + 1) (omega arith) s)
spans-single_term lo ts hi c (pos (suc n)) h w s = spans_more lo ts hi c (pos (suc n)) h (λ e. omega (arith, ints, e)) w s
spans-single_term lo ts hi c (negsuc n) h w s = spans_more lo ts hi c (negsuc n) h (λ e. omega (arith, ints, e)) w s

-- ---- the state of the loop

pub record UnderWay (at a : ℕ) (up : Terms) (b : ℕ) (down left right terms : Terms) : Type 0 where
  pub from : ℕ
  pub left_from : Ascends from left
  pub right_from : Ascends from right
  pub spans : Spans 0 terms from
  pub same : (d : ℕ) → d ≢ at → coefficient terms d +ℤ mix a left b right d ≡ mix a up b down d
  pub gone : coefficient terms at ≡ pos 0
  pub fits : MixesFit at a left b right ↔ MixesFit at a up b down

pub left_canonical : {at a : ℕ} {up : Terms} {b : ℕ} {down left right terms : Terms} → UnderWay at a up b down left right terms → Ascends 0 left
left_canonical {left = left} u = ascends_lower 0 u.from left (omega arith) u.left_from

pub right_canonical : {at a : ℕ} {up : Terms} {b : ℕ} {down left right terms : Terms} → UnderWay at a up b down left right terms → Ascends 0 right
right_canonical {right = right} u = ascends_lower 0 u.from right (omega arith) u.right_from

abbrev one_if : Bool → ℕ
one_if b = cond b 1 0

-- the first coordinate is one of those that are still to come
not_before : (from c : ℕ) (left right : Terms) → Ascends from left → Ascends from right → 1 ≤ presence c left + presence c right → from ≤ c
not_before from c left right h k s = by_cases (present_from left h) (present_from right k)
  where
    present_from : (ts : Terms) → Ascends from ts → (presence c ts ≡ 0) ⊎ (from ≤ c)
    present_from [] a = inl refl
    present_from (t ∷ ts) a = by_test (nat_eq t.0 c) refl
      where
        by_test : (b : Bool) → nat_eq t.0 c ≡ b → (one_if b ≡ 0) ⊎ (from ≤ c)
        by_test true e = inr (omega (arith, a.0, eqb-true t.0 c e))
        by_test false e = inl refl

    by_cases : (presence c left ≡ 0) ⊎ (from ≤ c) → (presence c right ≡ 0) ⊎ (from ≤ c) → from ≤ c
    by_cases (inl e) (inl f) = absurd (omega (arith, e, f))
    by_cases (inl e) (inr g) = g
    by_cases (inr g) f = g

equal_or : (c d : ℕ) → (c ≡ d) ⊎ (c ≢ d)
equal_or c d = by_cases (cases_order c d)
  where
    by_cases : (c ≡ d) ⊎ ((c < d) ⊎ (d < c)) → (c ≡ d) ⊎ (c ≢ d)
    by_cases (inl e) = inl e
    by_cases (inr (inl l)) = inr (λ e. omega arith)
    by_cases (inr (inr g)) = inr (λ e. omega arith)

zero_fits : (a b : ℕ) (x y : ℤ) → x ≡ pos 0 → y ≡ pos 0 → MixFits (pos a) x (pos b) y
zero_fits a b x y e f = subst (λ (z : ℤ). MixFits (pos a) z (pos b) y) (sym e) (subst (λ (z : ℤ). MixFits (pos a) (pos 0) (pos b) z) (sym f) record {
  left = subst (λ (z : ℤ). IsWithin z) (sym (*ℤ-zero (pos a))) (omega arith);
  right = subst (λ (z : ℤ). IsWithin z) (sym (*ℤ-zero (pos b))) (omega arith);
  sum = subst (λ (z : ℤ). IsWithin z) (sym (ap₂ (λ x y. x +ℤ y) (*ℤ-zero (pos a)) (*ℤ-zero (pos b)))) (omega arith);
})

module _ (at a b c : ℕ) (up down left right left' right' : Terms) (l : AreLater c left left') (r : AreLater c right right') where
  gone_left : coefficient left' c ≡ pos 0
  gone_left = none_below (c + 1) left' c l.ascends (omega arith)

  gone_right : coefficient right' c ≡ pos 0
  gone_right = none_below (c + 1) right' c r.ascends (omega arith)

  -- what is left fits exactly where what was left did, if the coordinate fits
  fits_more : (c ≢ at → MixFits (pos a) (coefficient left c) (pos b) (coefficient right c)) → MixesFit at a left' b right' ↔ MixesFit at a left b right
  fits_more f = (λ g d n. fits_outside g d n (equal_or d c), λ g d n. fits_inside g d n (equal_or d c))
    where
      fits_outside : MixesFit at a left' b right' → (d : ℕ) → d ≢ at → (d ≡ c) ⊎ (d ≢ c) → MixFits (pos a) (coefficient left d) (pos b) (coefficient right d)
      fits_outside g d n (inl e) = subst (λ (i : ℕ). MixFits (pos a) (coefficient left i) (pos b) (coefficient right i)) (sym e) (f (λ q. n (e ∙ q)))
      fits_outside g d n (inr e) = subst (λ (x : ℤ). MixFits (pos a) x (pos b) (coefficient right d)) (l.same d e)
          (subst (λ (y : ℤ). MixFits (pos a) (coefficient left' d) (pos b) y) (r.same d e) (g d n))

      fits_inside : MixesFit at a left b right → (d : ℕ) → d ≢ at → (d ≡ c) ⊎ (d ≢ c) → MixFits (pos a) (coefficient left' d) (pos b) (coefficient right' d)
      fits_inside g d n (inl e) = subst (λ (i : ℕ). MixFits (pos a) (coefficient left' i) (pos b) (coefficient right' i)) (sym e)
          (zero_fits a b (coefficient left' c) (coefficient right' c) gone_left gone_right)
      fits_inside g d n (inr e) = subst (λ (x : ℤ). MixFits (pos a) x (pos b) (coefficient right' d)) (sym (l.same d e))
          (subst (λ (y : ℤ). MixFits (pos a) (coefficient left d) (pos b) y) (sym (r.same d e)) (g d n))

  pub mix_more : (terms new : Terms) → IsFirstCoordinate left right c → IsTermPut at c a left b right terms new
      → UnderWay at a up b down left right terms → UnderWay at a up b down left' right' new
  mix_more terms new i p u = subst (λ (ts : Terms). UnderWay at a up b down left' right' ts) (sym p.is) (by_test (nat_eq c at) refl)
    where
      place_from : u.from ≤ c
      place_from = not_before u.from c left right u.left_from u.right_from i.some

      same_fits : MixesFit at a left' b right' ↔ MixesFit at a up b down
      same_fits = let m = fits_more p.fits in (λ f. u.fits.0 (m.0 f), λ f. m.1 (u.fits.1 f))

      mixes : (d : ℕ) → d ≢ c → mix a left' b right' d ≡ mix a left b right d
      mixes d n = ap₂ (λ x y. pos a *ℤ x +ℤ pos b *ℤ y) (l.same d n) (r.same d n)

      no_coefficient : mix a left' b right' c ≡ pos 0
      no_coefficient = ap₂ (λ x y. pos a *ℤ x +ℤ pos b *ℤ y) gone_left gone_right ∙ omega (arith, ints)

      by_test : (t : Bool) → nat_eq c at ≡ t → UnderWay at a up b down left' right' (terms ++ cond t [] (single_term c (mix a left b right c)))
      by_test true e = subst (λ (ts : Terms). UnderWay at a up b down left' right' ts) (sym (append-nil terms)) record {
        from = c + 1;
        left_from = l.ascends;
        right_from = r.ascends;
        spans = spans_wider 0 terms u.from (c + 1) (omega (arith, place_from)) u.spans;
        same = λ d n. ap (λ z. coefficient terms d +ℤ z) (mixes d (λ q. n (q ∙ eqb-true c at e))) ∙ u.same d n;
        gone = u.gone;
        fits = same_fits;
      }
      by_test false e =
          let x : ℤ = mix a left b right c in
          let new_is : (d : ℕ) → coefficient (terms ++ single_term c x) d ≡ coefficient terms d +ℤ cond (nat_eq c d) x (pos 0) =
          λ d. coefficient-append terms (single_term c x) d ∙ ap (λ z. coefficient terms d +ℤ z) (coefficient-single_term c x d) in record {
            from = c + 1;
            left_from = l.ascends;
            right_from = r.ascends;
            spans = spans-single_term 0 terms u.from c x place_from (p.fits (eqb-false c at e)).sum u.spans;
            same = λ d n. ap (λ z. z +ℤ mix a left' b right' d) (new_is d) ∙ coefficient_step d n (nat_eq c d) refl;
            gone = new_is at ∙ ap (λ t. coefficient terms at +ℤ cond t x (pos 0)) e ∙ plus_none (coefficient terms at) (pos 0) refl ∙ u.gone;
            fits = same_fits;
          }
        where
          coefficient_step : (d : ℕ) → d ≢ at → (t : Bool) → nat_eq c d ≡ t
              → (coefficient terms d +ℤ cond t (mix a left b right c) (pos 0)) +ℤ mix a left' b right' d ≡ mix a up b down d
          coefficient_step d n true q =
              let s : c ≡ d = eqb-true c d q in
              plus_none (coefficient terms d +ℤ mix a left b right c) (mix a left' b right' d)
              (ap (λ j. mix a left' b right' j) (sym s) ∙ no_coefficient) ∙ ap (λ j. coefficient terms d +ℤ mix a left b right j) s
              ∙ u.same d n
          coefficient_step d n false q = ap₂ (λ x y. x +ℤ y) (plus_none (coefficient terms d) (pos 0) refl)
              (mixes d (λ s. eqb-false c d q (sym s))) ∙ u.same d n

pub mix_done : (at a b : ℕ) (up down left right terms : Terms) → UnderWay at a up b down left right terms → left ≡ [] → right ≡ [] → IsMix at a up b down terms
mix_done at a b up down left right terms u e f = record {
  canonical = spans_ascend 0 terms u.from u.spans;
  same = λ d n. sym (plus_none (coefficient terms d) (mix a left b right d) (nothing_mixed d)) ∙ u.same d n;
  gone = u.gone;
  fits = u.fits.0 (λ d n. zero_fits a b (coefficient left d) (coefficient right d) (ap (λ ts. coefficient ts d) e) (ap (λ ts. coefficient ts d) f));
}
  where
    nothing_mixed : (d : ℕ) → mix a left b right d ≡ pos 0
    nothing_mixed d = ap₂ (λ x y. pos a *ℤ x +ℤ pos b *ℤ y) (ap (λ ts. coefficient ts d) e) (ap (λ ts. coefficient ts d) f) ∙ omega (arith, ints)

-- the first term
pub front_here : (ts : Terms) (c : ℕ) → 1 ≤ length ts → (slice_index_or ts 0 (0, pos 0)).0 ≡ c → Ascends c ts
    → (slice_index_or ts 0 (0, pos 0)).1 ≡ coefficient ts c
front_here [] c h e a = absurd (omega arith)
front_here (t ∷ ts) c h e a = sym (head_is c t ts a) ∙ ap (coefficient (t ∷ ts)) e

pub front_none : (ts : Terms) (c : ℕ) → 1 ≤ length ts → (slice_index_or ts 0 (0, pos 0)).0 ≢ c → Ascends c ts → pos 0 ≡ coefficient ts c
front_none [] c h n a = absurd (omega arith)
front_none (t ∷ ts) c h n a = sym (none_below (c + 1) (t ∷ ts) c (omega (arith, a.0, n), a.1, a.2, a.3) (omega arith))

-- ---- the whole

-- the coefficients of a cancelled row; at the coordinate itself it has none
pub record IsCancelOf (at : ℕ) (up down new : Terms) : Type 0 where
  pub same : (c : ℕ) → coefficient new c ≡ mix (times_up at up down) up (times_down at up down) down c
  pub gone : coefficient new at ≡ pos 0

-- the two factors, times the common divisor, are the coefficients
pub record Factors (at : ℕ) (up down : Terms) : Type 0 where
  pub common : ℕ
  pub some : 0 < common
  pub up_is : pos common *ℤ pos (times_up at up down) ≡ neg_ℤ (coefficient down at)
  pub down_is : pos common *ℤ pos (times_down at up down) ≡ coefficient up at

pub factors : (at : ℕ) (up down : Terms) → pos 0 <ℤ coefficient up at → coefficient down at <ℤ pos 0 → Factors at up down
unfolding times_up times_down
factors at up down h k =
    let a : ℕ = unsigned_abs (coefficient up at) in
    let b : ℕ = unsigned_abs (coefficient down at) in
    let g : ℕ = gcd a b in
    let some : 0 < b = omega (arith, ints) in
    let is = gcd_is a b in record {
      common = g;
      some = gcd-pos a b some;
      up_is = omega (arith, ints, div-mul_cancel g is.1);
      down_is = omega (arith, ints, div-mul_cancel g is.0);
    }

pub multiple_of_sum : (g a x b y : ℤ) → g *ℤ (a *ℤ x +ℤ b *ℤ y) ≡ (g *ℤ a) *ℤ x +ℤ (g *ℤ b) *ℤ y
multiple_of_sum g a x b y = ring ring_ℤ (g ∷ a ∷ x ∷ b ∷ y ∷ []) (prod (v 0) (plus (prod (v 1) (v 2)) (prod (v 3) (v 4))))
    (plus (prod (prod (v 0) (v 1)) (v 2)) (prod (prod (v 0) (v 3)) (v 4))) refl

-- the coordinate is cancelled
pub cancelled_gone : (at : ℕ) (up down : Terms) → pos 0 <ℤ coefficient up at → coefficient down at <ℤ pos 0
    → mix (times_up at up down) up (times_down at up down) down at ≡ pos 0
cancelled_gone at up down h k =
    let f = factors at up down h k in
    products_cancel f.common (pos (times_up at up down)) (coefficient up at) (pos (times_down at up down)) (coefficient down at) f.some f.up_is f.down_is
  where
    products_cancel : (g : ℕ) (a x b y : ℤ) → 0 < g → pos g *ℤ a ≡ neg_ℤ y → pos g *ℤ b ≡ x → a *ℤ x +ℤ b *ℤ y ≡ pos 0
    products_cancel g a x b y s e f = zero_by_multiple g (a *ℤ x +ℤ b *ℤ y) s
        (multiple_of_sum (pos g) a x b y ∙ omega (arith, zring, ap (λ z. z *ℤ x) e, ap (λ z. z *ℤ y) f))

pub common-some : (at : ℕ) (up down : Terms) (k : ℕ) → pos 0 <ℤ coefficient up at → k ≡ common_at at up down → 0 < k
common-some at up down k h e = subst (λ (n : ℕ). 0 < n) (sym e) (gcd_some (unsigned_abs (coefficient up at))
    (unsigned_abs (coefficient down at)) (size_above_zero (coefficient up at) h))
  where
    size_above_zero : (z : ℤ) → pos 0 <ℤ z → 0 < unsigned_abs z
    size_above_zero z h = omega (arith, ints)

pub times_up_is : (at : ℕ) (up down : Terms) (m k : ℕ) → m ≡ unsigned_abs (coefficient down at) → k ≡ common_at at up down → m / k ≡ times_up at up down
unfolding times_up
times_up_is at up down m k e f = ap₂ (λ x y. x / y) e f

pub times_down_is : (at : ℕ) (up down : Terms) (m k : ℕ) → m ≡ unsigned_abs (coefficient up at) → k ≡ common_at at up down → m / k ≡ times_down at up down
unfolding times_down
times_down_is at up down m k e f = ap₂ (λ x y. x / y) e f

module _ (at a b : ℕ) (up down xs ys : Terms) (is_up : a ≡ times_up at up down) (is_down : b ≡ times_down at up down) (up_is : xs ≡ up)
    (down_is : ys ≡ down) where
  pub cancelled_fits : MixesFit at a xs b ys → CancelFits at up down
  cancelled_fits f = subst₂ (λ (m n : ℕ). MixesFit at m up n down) is_up is_down (subst₂ (λ (us vs : Terms). MixesFit at a us b vs) up_is down_is f)

  pub cancel_fitted : CancelFits at up down → MixesFit at a xs b ys
  cancel_fitted f = subst₂ (λ (us vs : Terms). MixesFit at a us b vs) (sym up_is) (sym down_is)
      (subst₂ (λ (m n : ℕ). MixesFit at m up n down) (sym is_up) (sym is_down) f)

  pub not_cancelled : ¬ (MixesFit at a xs b ys) → ¬ (CancelFits at up down)
  not_cancelled n f = n (cancel_fitted f)

  pub cancel_is : (new made : Terms) → made ≡ new → pos 0 <ℤ coefficient up at → coefficient down at <ℤ pos 0 → IsMix at a xs b ys new
      → IsCancelOf at up down made
  cancel_is new made e h k m = subst (λ (ts : Terms). IsCancelOf at up down ts) (sym e) record { same = λ c. by_cases c (equal_or c at); gone = m.gone }
    where
      by_cases : (c : ℕ) → (c ≡ at) ⊎ (c ≢ at) → coefficient new c ≡ mix (times_up at up down) up (times_down at up down) down c
      by_cases c (inl e) = ap (coefficient new) e ∙ m.gone ∙ sym (ap (λ n. mix (times_up at up down) up (times_down at up down) down n) e
          ∙ cancelled_gone at up down h k)
      by_cases c (inr n) = m.same c n ∙ ap₂ (λ us vs. mix a us b vs c) up_is down_is ∙ ap₂ (λ m n. mix m up n down c) is_up is_down

-- the row that was mixed is the cancelled one
pub cancel_told : (at : ℕ) (up down new : Terms) → pos 0 <ℤ coefficient up at → coefficient down at <ℤ pos 0 → Ascends 0 up → Ascends 0 down
    → Ascends 0 new → IsCancelOf at up down new → new ≡ cancelled_row at up down
cancel_told at up down new h k a b c is =
    let f = factors at up down h k in
    told_rising 0 new (cancelled_row at up down) (ascends_rise 0 new c)
    (rises-cancelled_row at up down (factor_above f.common (times_up at up down) (neg_ℤ (coefficient down at)) f.up_is
    (omega (arith, ints))) (factor_above f.common (times_down at up down) (coefficient up at) f.down_is h) a b)
    (λ d. is.same d ∙ sym (coefficient-cancelled_row at up down d))

pub where_fault : {F P Q : Type 0} → (F → P) → (P → Q) → F → Q
where_fault f g x = g (f x)
