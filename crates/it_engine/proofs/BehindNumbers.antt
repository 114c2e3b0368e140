-- Common multiples of denominators, and bounds, of the rows that moved.
use Rattle.std.proofs.Common.{◌≡◌, ◌⊎◌, inl, inr, ℕ, zero, suc, ◌+◌, ◌-◌, ◌*◌, ◌/◌, ◌<◌, ◌≤◌, ◌^◌, ◌++◌, ◌∷◌, Bool, true, false, cond, ℤ, unsigned_abs, List, [], take, length, slice_index_or, Option, Some, None, IfSome, refl, sym, ap, subst, ◌∙◌, arith}
use Rattle.std.proofs.lemmas.Bool.{true≢false, cases_eq}
use Rattle.std.proofs.lemmas.List.{append-nil, take_more, map-append}
use Rattle.std.proofs.lemmas.Nat.{mul-le}
use Rattle.std.proofs.lemmas.Nat.Gcd.{dvd_refl, dvd_trans}
use Rattle.std.proofs.Math.Nat.{div-mul_cancel, div_self, mul-div_assoc, mul-div_cancel_left}
use Rattle.it_number.specs.Gcd.{gcd, lcm}
use Rattle.it_number.proofs.Divisors.{lcm_is, lcm-over, lcm-pos}
use Rattle.it_space.specs.Rows.{Terms}
use Rattle.it_engine.specs.Behind.{AddsShare, AreShares, BoundsMovedShares, BoundsShares, column_less_moved, has_moved, IsCommonMultiple, IsNextMoved, share_of, share_sum, taken_terms, TakesRow}
use Rattle.it_whole.specs.ColumnTerms.{multiple_of_term, multiple_of_terms}
use Rattle.it_space.specs.Sums.{number_at}
use Rattle.it_vectors.specs.Sizes.{AreAtMost}
use Rattle.it_whole.specs.WholeRows.{WholeRowView}
use Rattle.it_engine.specs.Tables.{whole_row_at}
use Prim.Native.Nat.{◌∣◌}

-- what holds of the first rows still holds after more of them, none of which moved
pub past_still : (moved : List Bool) (height : ℕ) (P : ℕ → Type 0) → ((q : ℕ) → has_moved moved q ≡ false → P q → P (q + 1)) → (from to : ℕ)
    → IsNextMoved moved height from to → P from → P to
past_still moved height P step from to n h =
    let d : from + (to - from) ≡ to = omega (arith, n.after) in
    subst P d (so_many (to - from) (λ q l g. n.still q l (omega (arith, g, d))))
  where
    so_many : (k : ℕ) → ((q : ℕ) → from ≤ q → q < from + k → has_moved moved q ≡ false) → P (from + k)
    so_many zero f =
        let e : from ≡ from + 0 = omega arith in
        subst P e h
    so_many (suc k) f =
        let e : from + k + 1 ≡ from + suc k = omega arith in
        subst P e (step (from + k) (f (from + k) (omega arith) (omega arith)) (so_many k (λ q l g. f q l (omega (arith, g)))))

no_multiple : (rows : List WholeRowView) (moved : List Bool) → IsCommonMultiple rows moved 0 1
no_multiple rows moved = record { some = omega arith; low = omega arith; each = λ q l e. absurd (omega (arith, l)) }

moved_multiple : (rows : List WholeRowView) (moved : List Bool) (q multiple new : ℕ) → IsCommonMultiple rows moved q multiple → 0 < new
    → new < 2 ^ 63 → multiple ∣ new → (whole_row_at rows q).denominator ∣ new
    → IsCommonMultiple rows moved (q + 1) new
moved_multiple rows moved q multiple new h some low old own = record { some = some; low = low; each = λ k l e. by_cases k l e (cases_eq k q) }
  where
    by_cases : (k : ℕ) → k < q + 1 → has_moved moved k ≡ true → (k ≡ q) ⊎ (k ≡ q → ⊥) → (whole_row_at rows k).denominator ∣ new
    by_cases k l e (inl f) = subst (λ (x : ℕ). (whole_row_at rows x).denominator ∣ new) (sym f) own
    by_cases k l e (inr d) = dvd_trans (whole_row_at rows k).denominator (h.each k (omega (arith, l, d)) e) old

still_multiple : (rows : List WholeRowView) (moved : List Bool) (q multiple : ℕ) → has_moved moved q ≡ false
    → IsCommonMultiple rows moved q multiple → IsCommonMultiple rows moved (q + 1) multiple
still_multiple rows moved q multiple f h = record { some = h.some; low = h.low; each = λ k l e. by_cases k l e (cases_eq k q) }
  where
    by_cases : (k : ℕ) → k < q + 1 → has_moved moved k ≡ true → (k ≡ q) ⊎ (k ≡ q → ⊥) → (whole_row_at rows k).denominator ∣ multiple
    by_cases k l e (inl g) = absurd (true≢false (sym e ∙ ap (has_moved moved) g ∙ f))
    by_cases k l e (inr d) = h.each k (omega (arith, l, d)) e

-- what the first rows add
no_shares : (norm : ℕ) (rows : List WholeRowView) (moved : ℕ → Bool) (share : ℕ → ℕ) → BoundsShares norm rows moved share 0 0
no_shares norm rows moved share = λ y h. omega arith

still_shares : (norm : ℕ) (rows : List WholeRowView) (moved : ℕ → Bool) (share : ℕ → ℕ) (q bound : ℕ) → moved q ≡ false
    → BoundsShares norm rows moved share q bound → BoundsShares norm rows moved share (q + 1) bound
still_shares norm rows moved share q bound f h = λ y k.
    let e : q + 1 ≡ suc q = omega arith in
    subst (λ (x : ℕ). share_sum moved (λ q. unsigned_abs (y q)) share x ≤ bound) (sym e)
    (subst (λ (d : Bool). cond d (unsigned_abs (y q) * share q) 0 + share_sum moved (λ q. unsigned_abs (y q)) share q ≤ bound) (sym f)
    (let b = h y (λ j l. k j (omega (arith, l))) in omega (arith, b)))

moved_shares : (norm : ℕ) (rows : List WholeRowView) (moved : ℕ → Bool) (share : ℕ → ℕ) (q bound most next : ℕ) → moved q ≡ true
    → AreAtMost (whole_row_at rows q).numbers most
    → next ≡ bound + norm * most * share q → BoundsShares norm rows moved share q bound → BoundsShares norm rows moved share (q + 1) next
moved_shares norm rows moved share q bound most next f m g h = λ y k.
    let e : q + 1 ≡ suc q = omega arith in
    subst (λ (x : ℕ). share_sum moved (λ q. unsigned_abs (y q)) share x ≤ next) (sym e)
    (subst (λ (d : Bool). cond d (unsigned_abs (y q) * share q) 0 + share_sum moved (λ q. unsigned_abs (y q)) share q ≤ next) (sym f)
    (let b = h y (λ j l. k j (omega (arith, l))) in
    let w = mul-le (unsigned_abs (y q)) (share q) (norm * most) (share q) (k q (omega arith) f most m) (omega arith) in omega (arith, b, w, g)))

-- the share in a multiple new of multiple is the share in multiple, times new / multiple
share_grows : (multiple new denominator : ℕ) → denominator ∣ multiple → multiple ∣ new → new / denominator ≡ new / multiple * (multiple / denominator)
share_grows multiple new denominator d e = sym (ap (λ x. x / denominator) (div-mul_cancel multiple e)) ∙ mul-div_assoc denominator (new / multiple) d

sum_grows : (rows : List WholeRowView) (moved : List Bool) (most : ℕ → ℕ) (multiple new k : ℕ) → multiple ∣ new
    → ((q : ℕ) → q < k → has_moved moved q ≡ true → (whole_row_at rows q).denominator ∣ multiple)
    → share_sum (has_moved moved) most (share_of new rows) k ≡ new / multiple * share_sum (has_moved moved) most (share_of multiple rows) k
sum_grows rows moved most multiple new zero e d = nothing (new / multiple)
  where
    nothing : (f : ℕ) → 0 ≡ f * 0
    nothing f = omega arith
sum_grows rows moved most multiple new (suc k) e d =
    ap (λ x. cond (has_moved moved k) (most k * share_of new rows k) 0 + x) (sum_grows rows moved most multiple new k e (λ q l. d q (omega (arith, l))))
    ∙ by_move (has_moved moved k) (λ f. share_grows multiple new (whole_row_at rows k).denominator (d k (omega arith) f) e)
  where
    by_move : (b : Bool) → (b ≡ true → share_of new rows k ≡ new / multiple * share_of multiple rows k)
        → cond b (most k * share_of new rows k) 0 + new / multiple * share_sum (has_moved moved) most (share_of multiple rows) k
        ≡ new / multiple * (cond b (most k * share_of multiple rows k) 0 + share_sum (has_moved moved) most (share_of multiple rows) k)
    by_move false h = same (new / multiple) (share_sum (has_moved moved) most (share_of multiple rows) k)
      where
        same : (f s : ℕ) → 0 + f * s ≡ f * (0 + s)
        same f s = omega arith
    by_move true h =
        ap (λ x. most k * x + new / multiple * share_sum (has_moved moved) most (share_of multiple rows) k) (h refl)
        ∙ in_one (most k) (new / multiple) (share_of multiple rows k) (share_sum (has_moved moved) most (share_of multiple rows) k)
      where
        in_one : (m f x s : ℕ) → m * (f * x) + f * s ≡ f * (m * x + s)
        in_one m f x s = omega arith

-- a bound for a multiple, times a factor, is a bound for the multiple times the factor
wider_shares : (norm : ℕ) (rows : List WholeRowView) (moved : List Bool) (multiple new k bound : ℕ) → multiple ∣ new
    → IsCommonMultiple rows moved k multiple → BoundsMovedShares norm rows moved multiple k bound
    → BoundsMovedShares norm rows moved new k (bound * (new / multiple))
wider_shares norm rows moved multiple new k bound e c h = λ y l.
    subst (λ (x : ℕ). x ≤ bound * (new / multiple)) (sym (sum_grows rows moved (λ q. unsigned_abs (y q)) multiple new k e c.each))
    (times (new / multiple) (share_sum (has_moved moved) (λ q. unsigned_abs (y q)) (share_of multiple rows) k) bound (h y l))
  where
    times : (f s b : ℕ) → s ≤ b → f * s ≤ b * f
    times f s b l = let w = mul-le s f b f l (omega arith) in omega (arith, w)

-- the multiple and the bound, of no row and of a row more
pub first_shares : (norm : ℕ) (rows : List WholeRowView) (moved : List Bool) → AreShares norm rows moved 0 1 0
first_shares norm rows moved = record { common = no_multiple rows moved; bounds = no_shares norm rows (has_moved moved) (share_of 1 rows) }

pub same_shares : (norm : ℕ) (rows : List WholeRowView) (moved : List Bool) (multiple bound q : ℕ) → has_moved moved q ≡ false
    → AreShares norm rows moved q multiple bound → AreShares norm rows moved (q + 1) multiple bound
same_shares norm rows moved multiple bound q f h =
    record {
      common = still_multiple rows moved q multiple f h.common;
      bounds = still_shares norm rows (has_moved moved)
          (share_of multiple rows) q bound f h.bounds;
    }

pub added_shares : (norm : ℕ) (rows : List WholeRowView) (moved : List Bool) (q multiple bound most entry new_multiple new_bound : ℕ)
    → has_moved moved q ≡ true → AreAtMost (whole_row_at rows q).numbers most
    → entry ≡ norm * most → AreShares norm rows moved q multiple bound
    → AddsShare multiple bound (whole_row_at rows q).denominator entry new_multiple new_bound
    → AreShares norm rows moved (q + 1) new_multiple new_bound
added_shares norm rows moved q multiple bound most entry new_multiple new_bound f m g h a = record {
  common = moved_multiple rows moved q multiple new_multiple h.common a.some a.low a.old a.own;
  bounds = moved_shares norm rows (has_moved moved) (share_of new_multiple rows) q (bound * (new_multiple / multiple)) most new_bound f m
      (a.bound_is ∙ ap (λ x. bound * (new_multiple / multiple) + x * share_of new_multiple rows q) g)
      (wider_shares norm rows moved multiple new_multiple q bound a.old h.common h.bounds);
}

-- a denominator that divides the multiple: this stays
pub added_in_place : (multiple bound denominator entry share new_multiple new_bound : ℕ) → 0 < multiple → multiple < 2 ^ 63 → denominator ∣ multiple
    → share ≡ multiple / denominator
    → (new_multiple ≡ multiple) × (new_bound ≡ bound + entry * share) → AddsShare multiple bound denominator entry new_multiple new_bound
added_in_place multiple bound denominator entry share new_multiple new_bound some low d e h =
    subst (λ (x : ℕ). AddsShare multiple bound denominator entry x new_bound) (sym h.0) record {
      some = some;
      low = low;
      old = dvd_refl multiple;
      own = d;
      bound_is = h.1 ∙ ap (λ x. bound + entry * x) e ∙ ap (λ x. x + entry * (multiple / denominator)) (once bound ∙ ap (λ x. bound * x) (sym (div_self some)));
    }
  where
    once : (x : ℕ) → x ≡ x * 1
    once x = omega arith

-- and one that doesn't: the least common multiple
pub added_over_both : (multiple bound denominator entry divisor wider grown new_multiple new_bound : ℕ)
    → 0 < multiple → 0 < denominator → divisor ≡ gcd multiple denominator
    → (wider < 2 ^ 63) × (wider ≡ multiple * (denominator / divisor)) × (grown ≡ bound * (denominator / divisor))
    → (new_multiple ≡ wider) × (new_bound ≡ grown + entry * (wider / denominator))
    → AddsShare multiple bound denominator entry new_multiple new_bound
added_over_both multiple bound denominator entry divisor wider grown new_multiple new_bound some own_some g w h =
    let q : wider ≡ lcm multiple denominator = w.1 ∙ ap (λ x. multiple * (denominator / x)) g ∙ lcm-over multiple denominator in
    let l = lcm_is multiple denominator in
    let f : wider / multiple ≡ denominator / divisor = ap (λ x. x / multiple) w.1 ∙ mul-div_cancel_left (denominator / divisor) some in
    subst (λ (x : ℕ). AddsShare multiple bound denominator entry x new_bound) (sym h.0) record {
      some = subst (λ (x : ℕ). 0 < x) (sym q) (lcm-pos multiple denominator some own_some);
      low = w.0;
      old = subst (λ (x : ℕ). multiple ∣ x) (sym q) l.0;
      own = subst (λ (x : ℕ). denominator ∣ x) (sym q) l.1;
      bound_is = h.1 ∙ ap (λ x. x + entry * (wider / denominator)) (w.2 ∙ ap (λ x. bound * x) (sym f));
    }

pub column_more : (columns : List Terms) (rows : List WholeRowView) (basis : List ℕ) (moved : List Bool) (entries : List ℤ) (multiple c q : ℕ) (now new : Terms)
    → has_moved moved q ≡ true → TakesRow columns rows basis entries multiple q now new
    → now ≡ column_less_moved columns rows basis moved entries multiple c q → new ≡ column_less_moved columns rows basis moved entries multiple c (q + 1)
column_more columns rows basis moved entries multiple c q now new f more h =
    let e : suc q ≡ q + 1 = omega arith in
    subst (λ (x : ℕ). new ≡ column_less_moved columns rows basis moved entries multiple c x) e
    (more ∙ ap (λ (ts : Terms). ts ++ taken_terms (number_at entries q) (share_of multiple rows q) (slice_index_or columns (slice_index_or basis q 0) [])) h
    ∙ ap (λ d. column_less_moved columns rows basis moved entries multiple c q
    ++ cond d (taken_terms (number_at entries q) (share_of multiple rows q) (slice_index_or columns (slice_index_or basis q 0) [])) [])
    (sym f))

pub still_column : (columns : List Terms) (rows : List WholeRowView) (basis : List ℕ) (moved : List Bool) (entries : List ℤ)
    (multiple c : ℕ) (combined : Terms) (q : ℕ) → has_moved moved q ≡ false
    → combined ≡ column_less_moved columns rows basis moved entries multiple c q
    → combined ≡ column_less_moved columns rows basis moved entries multiple c (q + 1)
still_column columns rows basis moved entries multiple c combined q f h =
    let e : suc q ≡ q + 1 = omega arith in
    subst (λ (x : ℕ). combined ≡ column_less_moved columns rows basis moved entries multiple c x) e
    (h ∙ sym (append-nil (column_less_moved columns rows basis moved entries multiple c q))
    ∙ ap (λ d. column_less_moved columns rows basis moved entries multiple c q
    ++ cond d (taken_terms (number_at entries q) (share_of multiple rows q) (slice_index_or columns (slice_index_or basis q 0) [])) [])
    (sym f))

pub multiples_more : (factor : ℤ) (terms : Terms) (i : ℕ) (d : ℕ × ℤ) → i < length terms
    → multiple_of_terms factor (take i terms) ++ multiple_of_term factor (slice_index_or terms i d) ∷ [] ≡ multiple_of_terms factor (take (i + 1) terms)
multiples_more factor terms i d l = sym (ap (multiple_of_terms factor) (take_more terms i d l)
    ∙ map-append (multiple_of_term factor) (take i terms) (slice_index_or terms i d ∷ []))

-- what holds anyway holds where there is a value
pub if_some_anyway : {A : Type 0} {P : Type 0} (o : Option A) → P → IfSome o (λ _. P)
if_some_anyway None p = tt
if_some_anyway (Some x) p = p
