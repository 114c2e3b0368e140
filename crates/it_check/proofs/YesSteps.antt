-- The verdict on a certificate, step by step as the code forms it.
use Rattle.std.specs.Prelude.{◌≡◌, ℕ, zero, suc, ◌+◌, ◌-◌, ◌<◌, ◌≤◌, min, ℤ, pos, ◌*ℤ◌, List, [], ◌∷◌, length, All, Bool, true, false, cond, not, ◌&&◌, Option, Some, None, Result, Ok, Err, OkIff}
use Rattle.std.proofs.Common.{◌⊎◌, inl, inr, drop, get_or, ltb, refl, sym, ap, ap₂, ◌∙◌, arith}
use Rattle.std.specs.Option.{option_or}
use Rattle.std.specs.Int.Signed.{lt_z}
use Rattle.std.specs.Bool.{Decides}
use Rattle.std.specs.Ordering.{int_eq}
use Rattle.std.specs.Result.{result_ok}
use Rattle.std.proofs.lemmas.List.{at_drop_more, at_drop_all}
use Rattle.std.proofs.lemmas.Bool.{cases_lt}
use Rattle.std.proofs.lemmas.Bool.Decides.{Decides-ltb, Decides-int_eq}
use Rattle.std.proofs.lemmas.Int.{ints}
use Rattle.it_fraction.specs.declared.fraction.Wide.{Wide}
use Rattle.it_number.specs.Limit.{IsWithin}
use Rattle.it_space.specs.Answers.{CertificateView}
use Rattle.it_space.specs.Rows.{Terms, coefficient}
use Rattle.std.specs.List.{AllByRecursion as Every}
use Rattle.it_space.proofs.EveryLemmas.{all_of}
use Rattle.it_elemental.specs.Generators.{Generator, generator_at, is_equation}
use Rattle.it_check.specs.Windows.{AreSums, window_length}
use Rattle.it_check.specs.Sums.{is_within, product_within, sum_within}
use Rattle.it_check.specs.Verdicts.{column, valid_unless, of_scale, of_weight, of_weights, of_numbers, of_coordinate, of_coordinates, yes_verdict}
use Rattle.it_check.specs.declared.verdicts.Verdict.{Verdict}
use Rattle.it_check.specs.declared.verdicts.Verdict.TheVariants.{UnknownGenerator, NegativeWeight, Width, Mismatch}
use Rattle.it_check.proofs.SumLemmas.{product_is, zero_within}

-- ---- weights

weights-step : (gs : List Generator) (ws : List (ℕ × ℤ)) (i : ℕ) (d : ℕ × ℤ) → i < length ws
    → of_weights gs (drop i ws) ≡ option_or (of_weight gs (get_or ws i d)) (of_weights gs (drop (i + 1) ws))
unfolding of_weights
weights-step gs ws i d h = at_drop_more (of_weights gs) ws i d h

pub weights_found : (gs : List Generator) (ws : List (ℕ × ℤ)) (i : ℕ) (d : ℕ × ℤ) (v : Verdict) → i < length ws
    → Some v ≡ of_weight gs (get_or ws i d) → of_weights gs (drop i ws) ≡ of_weights gs ws
    → Some v ≡ of_weights gs ws
weights_found gs ws i d v h e inv = ap (λ o. option_or o (of_weights gs (drop (i + 1) ws))) e ∙ sym (weights-step gs ws i d h) ∙ inv

pub weights_more : (gs : List Generator) (ws : List (ℕ × ℤ)) (i : ℕ) (d : ℕ × ℤ) → i < length ws → None ≡ of_weight gs (get_or ws i d)
    → of_weights gs (drop i ws) ≡ of_weights gs ws
    → of_weights gs (drop (i + 1) ws) ≡ of_weights gs ws
weights_more gs ws i d h e inv = ap (λ o. option_or o (of_weights gs (drop (i + 1) ws))) e ∙ sym (weights-step gs ws i d h) ∙ inv

pub weights_done : (gs : List Generator) (ws : List (ℕ × ℤ)) (i : ℕ) → length ws ≤ i → of_weights gs (drop i ws) ≡ of_weights gs ws → None ≡ of_weights gs ws
unfolding of_weights
weights_done gs ws i h inv = sym (at_drop_all (of_weights gs) ws i h) ∙ inv

-- where nothing is found, each weight's generator is there
each_generator_known : (gs : List Generator) (ws : List (ℕ × ℤ)) → of_weights gs ws ≡ None → Every (λ (w : ℕ × ℤ). w.0 < length gs) ws
unfolding of_weights
each_generator_known gs [] e = tt
each_generator_known gs (w ∷ ws) e = by_test (ltb w.0 (length gs)) (Decides-ltb w.0 (length gs)) (λ f. each_generator_known gs ws f) e
  where
    second_is_none : (a b : Option Verdict) → option_or a b ≡ None → b ≡ None
    second_is_none (Some v) b e = absurd (cc)
    second_is_none None b e = e

    by_test : (b : Bool) → Decides b (w.0 < length gs) → (of_weights gs ws ≡ None → Every (λ (w : ℕ × ℤ). w.0 < length gs) ws)
        → option_or (cond b (cond (lt_z w.1 (pos 0) && not (is_equation (generator_at gs w.0).kind)) (Some (NegativeWeight w.0)) None)
        (Some (UnknownGenerator w.0))) (of_weights gs ws) ≡ None
        → (w.0 < length gs) × Every (λ (w : ℕ × ℤ). w.0 < length gs) ws
    by_test true d back e = (
      d.0 refl,
      back (second_is_none (cond (lt_z w.1 (pos 0) && not (is_equation (generator_at gs w.0).kind))
          (Some (NegativeWeight w.0)) None) (of_weights gs ws) e),
    )
    by_test false d back e = absurd (cc)

pub all_known : (gs : List Generator) (ws : List (ℕ × ℤ)) → None ≡ of_weights gs ws → All (λ (w : ℕ × ℤ). w.0 < length gs) ws
all_known gs ws e = all_of (λ (w : ℕ × ℤ). w.0 < length gs) ws (each_generator_known gs ws (sym e))

-- ---- coordinates

-- the left side is l, and the right one r
module _ (scale : ℤ) (target : Terms) (c : ℕ) (l : Result ℤ Wide) (r : Option ℤ)
    (left : OkIff l (IsWithin (scale *ℤ coefficient target c)) (scale *ℤ coefficient target c)) where
  numbers_are : of_numbers c (product_within scale (coefficient target c)) r ≡ of_numbers c (result_ok l) r
  numbers_are = ap (λ o. of_numbers c o r) (product_is l scale (coefficient target c) left)

  pub left_wide : (e : Wide) → l ≡ Err e → Some (Width c) ≡ of_numbers c (product_within scale (coefficient target c)) r
  left_wide e is = sym (numbers_are ∙ ap (λ o. of_numbers c (result_ok o) r) is)

  pub right_wide : (x : ℤ) → l ≡ Ok x → r ≡ None → Some (Width c) ≡ of_numbers c (product_within scale (coefficient target c)) r
  right_wide x p q = sym (numbers_are ∙ ap (λ o. of_numbers c (result_ok o) r) p ∙ ap (of_numbers c (Some x)) q)

  module _ (x y : ℤ) (p : l ≡ Ok x) (q : r ≡ Some y) where
    compared : of_numbers c (product_within scale (coefficient target c)) r ≡ cond (int_eq x y) None (Some (Mismatch c x y))
    compared = numbers_are ∙ ap (λ o. of_numbers c (result_ok o) r) p ∙ ap (of_numbers c (Some x)) q

    pub sides_agree : x ≡ y → None ≡ of_numbers c (product_within scale (coefficient target c)) r
    sides_agree e = sym (compared ∙ ap (λ b. cond b None (Some (Mismatch c x y))) ((Decides-int_eq x y).1 e))

    pub sides_differ : (x ≡ y → ⊥) → Some (Mismatch c x y) ≡ of_numbers c (product_within scale (coefficient target c)) r
    sides_differ n = sym (compared ∙ by_test (int_eq x y) (Decides-int_eq x y).0)
      where
        by_test : (b : Bool) → (b ≡ true → x ≡ y) → cond b None (Some (Mismatch c x y)) ≡ Some (Mismatch c x y)
        by_test true d = absurd (n (d refl))
        by_test false d = refl

module _ (gs : List Generator) (target : Terms) (w : CertificateView) where
  coordinates-step : (c end : ℕ) → c < end
      → of_coordinates gs target w c (end - c) ≡ option_or (of_coordinate gs target w c) (of_coordinates gs target w (c + 1) (end - (c + 1)))
  unfolding of_coordinates
  coordinates-step c end h = let e : end - c ≡ suc (end - (c + 1)) = omega arith in ap (of_coordinates gs target w c) e

  -- what is left from coordinate c on, up to `end`
  module _ (end c : ℕ) (whole : Option Verdict) (so_far : of_coordinates gs target w c (end - c) ≡ whole) where
    pub coordinates_found : (v : Verdict) → c < end → Some v ≡ of_coordinate gs target w c → Some v ≡ whole
    coordinates_found v h e = ap (λ o. option_or o (of_coordinates gs target w (c + 1) (end - (c + 1)))) e ∙ sym (coordinates-step c end h) ∙ so_far

    pub coordinates_more : c < end → None ≡ of_coordinate gs target w c → of_coordinates gs target w (c + 1) (end - (c + 1)) ≡ whole
    coordinates_more h e = ap (λ o. option_or o (of_coordinates gs target w (c + 1) (end - (c + 1)))) e ∙ sym (coordinates-step c end h) ∙ so_far

    pub coordinates_done : end ≤ c → None ≡ whole
    unfolding of_coordinates
    coordinates_done h = let e : 0 ≡ end - c = omega arith in ap (of_coordinates gs target w c) e ∙ so_far

  coordinates-append : (c a b : ℕ) → of_coordinates gs target w c (a + b) ≡ option_or (of_coordinates gs target w c a) (of_coordinates gs target w (c + a) b)
  unfolding of_coordinates
  coordinates-append c zero b = ap₂ (of_coordinates gs target w) (omega arith) (omega arith)
  coordinates-append c (suc a) b =
      let e : suc a + b ≡ suc (a + b) = omega arith in
      let f : c + 1 + a ≡ c + suc a = omega arith in
      ap (of_coordinates gs target w c) e
      ∙ ap (option_or (of_coordinate gs target w c)) (coordinates-append (c + 1) a b
      ∙ ap (λ d. option_or (of_coordinates gs target w (c + 1) a) (of_coordinates gs target w d b)) f)
      ∙ regroup (of_coordinate gs target w c) (of_coordinates gs target w (c + 1) a) (of_coordinates gs target w (c + suc a) b)
    where
      regroup : (x y z : Option Verdict) → option_or x (option_or y z) ≡ option_or (option_or x y) z
      regroup (Some v) y z = refl
      regroup None y z = refl

  -- where both sides are 0 there is no fault
  zero_agrees : (c : ℕ) → coefficient target c ≡ pos 0 → sum_within (pos 0) w.weights (column gs c) ≡ Some (pos 0) → of_coordinate gs target w c ≡ None
  zero_agrees c e f =
      let none : w.scale *ℤ coefficient target c ≡ pos 0 = ap (λ x. w.scale *ℤ x) e ∙ omega (arith, ints) in
      ap₂ (of_numbers c) (product_zero (w.scale *ℤ coefficient target c) none) f
    where
      product_zero : (z : ℤ) → z ≡ pos 0 → cond (is_within z) (Some z) None ≡ Some (pos 0)
      product_zero z e = ap (λ y. cond (is_within y) (Some y) None) e ∙ ap (λ b. cond b (Some (pos 0)) None) zero_within

  none_between : (c a : ℕ) → ((d : ℕ) → c ≤ d → d < c + a → of_coordinate gs target w d ≡ None) → of_coordinates gs target w c a ≡ None
  unfolding of_coordinates
  none_between c zero h = refl
  none_between c (suc a) h = ap (λ o. option_or o (of_coordinates gs target w (c + 1) a)) (h c (omega arith) (omega arith))
      ∙ none_between (c + 1) a (λ d k l. h d (omega arith) (omega arith))

  -- what is left from c on is what is left from `next` on, where none is found between
  go_on : (c next end : ℕ) → c ≤ next → next ≤ end → of_coordinates gs target w c (next - c) ≡ None
      → of_coordinates gs target w c (end - c) ≡ of_coordinates gs target w next (end - next)
  go_on c next end h k e =
      let whole : end - c ≡ (next - c) + (end - next) = omega arith in
      let at : c + (next - c) ≡ next = omega arith in
      ap (of_coordinates gs target w c) whole ∙ coordinates-append c (next - c) (end - next)
      ∙ ap (λ o. option_or o (of_coordinates gs target w (c + (next - c)) (end - next))) e ∙ ap (λ d. of_coordinates gs target w d (end - next)) at

  -- and from a coordinate past the end on nothing is left
  up_to_end : (next end : ℕ) → of_coordinates gs target w (min next end) (end - min next end) ≡ of_coordinates gs target w next (end - next)
  unfolding of_coordinates
  up_to_end next end = by_cases (cases_lt next end)
    where
      by_cases : (next < end) ⊎ (end ≤ next) → of_coordinates gs target w (min next end) (end - min next end) ≡ of_coordinates gs target w next (end - next)
      by_cases (inl h) = let e : min next end ≡ next = omega arith in ap (λ n. of_coordinates gs target w n (end - n)) e
      by_cases (inr h) =
          let e : end - min next end ≡ 0 = omega arith in
          let f : end - next ≡ 0 = omega arith in
          ap (of_coordinates gs target w (min next end)) e ∙ sym (ap (of_coordinates gs target w next) f)

  -- the fault at a coordinate of a window, by the sum there
  pub in_window : (start c next : ℕ) (sums : List (Option ℤ)) → AreSums gs target w.weights start sums next → start ≤ c → c < start + window_length
      → of_numbers c (product_within w.scale (coefficient target c)) (get_or sums (c - start) None) ≡ of_coordinate gs target w c
  in_window start c next sums s h l =
      let at : start + (c - start) ≡ c = omega arith in
      ap (of_numbers c (product_within w.scale (coefficient target c)))
      (s.here (c - start) (omega arith) ∙ ap (λ d. sum_within (pos 0) w.weights (column gs d)) at)

  -- a window from coordinate `start` on, where what is left from there on is `whole`
  module _ (start size : ℕ) (whole : Option Verdict) (h : start ≤ size) (so_far : of_coordinates gs target w start (size + 1 - start) ≡ whole) where
    pub window_found : (v : Verdict) → Some v ≡ of_coordinates gs target w start (min window_length (size + 1 - start)) → Some v ≡ whole
    window_found v e =
        let a : ℕ = min window_length (size + 1 - start) in
        let all : size + 1 - start ≡ a + (size + 1 - start - a) = omega arith in
        ap (λ o. option_or o (of_coordinates gs target w (start + a) (size + 1 - start - a))) e
        ∙ sym (ap (of_coordinates gs target w start) all ∙ coordinates-append start a (size + 1 - start - a)) ∙ so_far

    -- none is found in it, and after it both sides are 0 before coordinate `next`
    pub window_passed : (next : ℕ) (sums : List (Option ℤ)) → AreSums gs target w.weights start sums next
        → None ≡ of_coordinates gs target w start (min window_length (size + 1 - start)) → of_coordinates gs target w next (size + 1 - next) ≡ whole
    window_passed next sums s none =
        let end : ℕ = min (start + window_length) (size + 1) in
        let long : end - start ≡ min window_length (size + 1 - start) = omega arith in
        let later : start + window_length ≤ next = s.later in
        sym (go_on start end (size + 1) (omega arith) (omega arith) (ap (of_coordinates gs target w start) long ∙ sym none)
        ∙ go_on end (min next (size + 1)) (size + 1) (omega arith) (omega arith)
        (none_between end (min next (size + 1) - end) (λ d k l. zero_agrees d (s.left d (omega arith) (omega arith)) (s.right d (omega arith) (omega arith))))
        ∙ up_to_end next (size + 1)) ∙ so_far

-- ---- all of it

module _ (gs : List Generator) (size : ℕ) (target : Terms) (w : CertificateView) where
  pub by_scale : (v : Verdict) → Some v ≡ of_scale w.scale → v ≡ yes_verdict gs size target w
  unfolding yes_verdict
  by_scale v e = ap (λ o. valid_unless (option_or o (option_or (of_weights gs w.weights) (of_coordinates gs target w 1 size)))) e

  pub by_weights : (v : Verdict) → None ≡ of_scale w.scale → Some v ≡ of_weights gs w.weights → v ≡ yes_verdict gs size target w
  unfolding yes_verdict
  by_weights v e f = ap (λ o. valid_unless (option_or o (of_coordinates gs target w 1 size))) f
      ∙ ap (λ o. valid_unless (option_or o (option_or (of_weights gs w.weights) (of_coordinates gs target w 1 size)))) e

  pub by_coordinates : (o : Option Verdict) → None ≡ of_scale w.scale → None ≡ of_weights gs w.weights
      → o ≡ of_coordinates gs target w 1 size → valid_unless o ≡ yes_verdict gs size target w
  unfolding yes_verdict
  by_coordinates o e f g = ap valid_unless g ∙ ap (λ o. valid_unless (option_or o (of_coordinates gs target w 1 size))) f
      ∙ ap (λ o. valid_unless (option_or o (option_or (of_weights gs w.weights) (of_coordinates gs target w 1 size)))) e
