-- Places as the code finds them, and terms put at their places.
use Rattle.std.proofs.Common.{◌≡◌, ◌≢◌, ◌↔◌, ℕ, zero, suc, ◌+◌, ◌*◌, ◌%◌, ◌^◌, ◌<◌, ◌≤◌, ◌⊎◌, inl, inr, ℤ, pos, ◌+ℤ◌, List, [], ◌∷◌, length, drop, get_or, true, false, cond, nat_eq, refl, sym, ap, ap₂, subst, ◌∙◌, arith, eq-eqb, All, lit<, replicate, Result, Ok, Err, OnOk}
use Rattle.std.proofs.lemmas.Int.{ints}
use Rattle.std.proofs.lemmas.Bool.{eqb-true, cases_lt, true≢false}
use Rattle.std.proofs.lemmas.Nat.{pow_pos}
use Rattle.std.proofs.lemmas.List.{length-replicate}
use Rattle.std.proofs.lemmas.List.Elements.{All-replicate}
use Rattle.std.proofs.Math.IntN.{+ℤ_assoc}
use Rattle.it_number.specs.Limit.{IsWithin}
use Rattle.it_space.proofs.ListLemmas.{drop_item}
use Rattle.it_space.specs.declared.spaces.Space.{Space}
use Rattle.it_space.specs.Rows.{Terms, coefficient}
use Rattle.it_closure.specs.declared.dependences.Dependence.{Dependence}
use Rattle.it_closure.specs.Closures.{closure}
use Rattle.it_closure.specs.Collapse.{place, placed_terms, PlaceSumsFit, CollapseFits}
use Rattle.it_closure.specs.Placings.{IsPutAtPlace, ArePlaced}
use Rattle.it_closure.specs.DependencesViews.{DependencesView, AreOfSpace}
use Rattle.it_space.specs.Spaces.{size_of}
use Rattle.it_space.specs.Sums.{number_at, plus_at, IsAdded}
use Rattle.it_space.proofs.SpaceLemmas.{above_shift, below_shift}
use Rattle.it_space.proofs.SumLemmas.{at-zeros}
use Rattle.it_closure.proofs.ClosingLoop.{of_space}
use Rattle.it_closure.proofs.Meets.{closure_is}
use Rattle.it_closure.proofs.Places.{place-rate, place-null, place-set, null_or_not}

-- the closures that the code compares
record Compared (d : DependencesView) (m x y : ℕ) : Type 0 where
  below : m < 2 ^ d.space.variables
  left : x ≡ closure d.space.variables d.list m
  right : y ≡ closure d.space.variables d.list 0

compared_closures : (d : DependencesView) (m : ℕ) (sp : Space) (s x z y : ℕ) → AreOfSpace d → sp ≡ d.space → m < 1 * 2 ^ sp.variables % 4294967296 → s ≡ m
    → (s < 2 ^ d.space.variables → x ≡ closure d.space.variables d.list s) → z ≡ 0
    → (z < 2 ^ d.space.variables → y ≡ closure d.space.variables d.list z) → Compared d m x y
compared_closures d m sp s x z y a e h f g i k =
    let v : sp.variables ≡ d.space.variables = ap (λ s. s.variables) e in
    let l : m < 2 ^ d.space.variables = subst (λ (k : ℕ). m < 2 ^ k) v (below_shift m sp.variables h (omega (arith, v, a.space.few))) in
    let same : s ≡ m = f in
    record {
      below = l;
      left = g (rw same l) ∙ ap (closure d.space.variables d.list) same;
      right = k (rw i (pow_pos d.space.variables)) ∙ ap (closure d.space.variables d.list) i;
    }

pub place_null_found : (d : DependencesView) (m : ℕ) (sp : Space) (s x z y : ℕ) → AreOfSpace d → sp ≡ d.space → m < 1 * 2 ^ sp.variables % 4294967296 → s ≡ m
    → (s < 2 ^ d.space.variables → x ≡ closure d.space.variables d.list s) → z ≡ 0
    → (z < 2 ^ d.space.variables → y ≡ closure d.space.variables d.list z) → nat_eq x y ≡ true
    → 0 ≡ place d.space.variables d.list m
place_null_found d m sp s x z y a e h f g i k t =
    let c : Compared d m x y = compared_closures d m sp s x z y a e h f g i k in
    sym (place-null d.space.variables d.list m c.below (sym c.left ∙ eqb-true x y t ∙ c.right))

pub place_set_found : (d : DependencesView) (m : ℕ) (sp : Space) (s x z y : ℕ) → AreOfSpace d → sp ≡ d.space → m < 1 * 2 ^ sp.variables % 4294967296 → s ≡ m
    → (s < 2 ^ d.space.variables → x ≡ closure d.space.variables d.list s) → z ≡ 0
    → (z < 2 ^ d.space.variables → y ≡ closure d.space.variables d.list z) → nat_eq x y ≡ false
    → x ≡ place d.space.variables d.list m
place_set_found d m sp s x z y a e h f g i k t =
    let c : Compared d m x y = compared_closures d m sp s x z y a e h f g i k in
    c.left ∙ sym (place-set d.space.variables d.list m c.below (λ q. true≢false (sym (eq-eqb x y (c.left ∙ q ∙ sym c.right)) ∙ t)))

pub place_rate_found : (d : DependencesView) (m : ℕ) (sp : Space) → AreOfSpace d → sp ≡ d.space → 1 * 2 ^ sp.variables % 4294967296 ≤ m
    → m ≡ place d.space.variables d.list m
place_rate_found d m sp a e h =
    let v : sp.variables ≡ d.space.variables = ap (λ s. s.variables) e in
    sym (place-rate d.space.variables d.list m (subst (λ (k : ℕ). 2 ^ k ≤ m) v (above_shift m sp.variables h (omega (arith, v, a.space.few)))))

plus_none : (x : ℤ) → x ≡ x +ℤ pos 0
plus_none x = omega (arith, ints)

put_added : (old new : List ℤ) (place : ℕ) (amount : ℤ) → IsAdded old new place amount → IsPutAtPlace old new place amount
put_added old new place amount a = record {
  fits = λ h. a.fits;
  same = λ c h. ap (λ (f : ℕ → ℤ). f c) a.same;
  complete = a.complete;
  within = a.within;
}

pub put_found : {X E : Type 0} (r : Result X E) (old new : List ℤ) (place : ℕ) (amount : ℤ) → OnOk r (IsAdded old new place amount)
    → OnOk r (IsPutAtPlace old new place amount)
put_found (Ok x) old new place amount a = put_added old new place amount a
put_found (Err e) old new place amount a = tt

-- terms put at their places so far
pub record IsPlacing (n : ℕ) (ds : List Dependence) (terms : Terms) (size : ℕ) (values : List ℤ) (i : ℕ) : Type 0 where
  pub complete : length values ≡ size
  pub within : All IsWithin values
  pub sofar : ℕ → ℤ
  pub same : (c : ℕ) → 0 < c → number_at values c ≡ sofar c
  pub fits : PlaceSumsFit sofar (placed_terms n ds (drop i terms)) ↔ PlaceSumsFit (λ c. pos 0) (placed_terms n ds terms)
  pub total : (c : ℕ) → sofar c +ℤ coefficient (placed_terms n ds (drop i terms)) c ≡ coefficient (placed_terms n ds terms) c

pub placing-start : (n : ℕ) (ds : List Dependence) (terms : Terms) (size : ℕ) (values : List ℤ) → values ≡ replicate size (pos 0)
    → IsPlacing n ds terms size values 0
placing-start n ds terms size values e = record {
  complete = ap length e ∙ length-replicate size (pos 0);
  within = rw e (All-replicate IsWithin size (pos 0) (lit< tt));
  sofar = λ c. pos 0;
  same = λ c h. ap (λ xs. number_at xs c) e ∙ at-zeros size c;
  fits = ((λ k. k), (λ k. k));
  total = λ c. omega (arith, ints);
}

pub placing-more : (n : ℕ) (ds : List Dependence) (terms : Terms) (size : ℕ) (values new : List ℤ) (i p : ℕ) (t : ℕ × ℤ) → i < length terms
    → t ≡ get_or terms i t → p ≡ place n ds t.0
    → IsPutAtPlace values new p t.1 → IsPlacing n ds terms size values i → IsPlacing n ds terms size new (i + 1)
placing-more n ds terms size values new i p t h is e put u =
    let split : drop i terms ≡ t ∷ drop (i + 1) terms = drop_item terms i t h is in
    let q : ℕ × ℤ = (place n ds t.0, t.1) in
    let f = subst (λ (r : Terms). PlaceSumsFit u.sofar (placed_terms n ds r) ↔ PlaceSumsFit (λ c. pos 0) (placed_terms n ds terms)) split u.fits in
    let here : 0 < place n ds t.0 → IsWithin (u.sofar (place n ds t.0) +ℤ t.1) =
    (λ k. subst (λ (y : ℤ). IsWithin (y +ℤ t.1)) (u.same (place n ds t.0) k) (subst (λ (m : ℕ). IsWithin (number_at values m +ℤ t.1)) e (put.fits (rw e k)))) in
    record {
      complete = put.complete ∙ u.complete;
      within = put.within u.within;
      sofar = plus_at u.sofar q;
      same = λ c k. put.same c k ∙ ap₂ (λ y m. y +ℤ cond (nat_eq m c) t.1 (pos 0)) (u.same c k) e;
      fits = ((λ k. f.0 (here, k)), (λ k. (f.1 k).1));
      total = λ c. +ℤ_assoc (u.sofar c) (cond (nat_eq (place n ds t.0) c) t.1 (pos 0)) (coefficient (placed_terms n ds (drop (i + 1) terms)) c)
          ∙ subst (λ (r : Terms). u.sofar c +ℤ coefficient (placed_terms n ds r) c ≡ coefficient (placed_terms n ds terms) c) split (u.total c);
    }

pub placing-stops : (n : ℕ) (ds : List Dependence) (terms : Terms) (size : ℕ) (values : List ℤ) (i p : ℕ) (t : ℕ × ℤ) → i < length terms
    → t ≡ get_or terms i t → p ≡ place n ds t.0
    → ¬ (0 < p → IsWithin (number_at values p +ℤ t.1)) → IsPlacing n ds terms size values i → ¬ (CollapseFits n ds terms)
placing-stops n ds terms size values i p t h is e wide u all =
    let f = subst (λ (r : Terms). PlaceSumsFit u.sofar (placed_terms n ds r)) (drop_item terms i t h is) (u.fits.1 all) in
    wide (λ k. subst (λ (m : ℕ). IsWithin (number_at values m +ℤ t.1)) (sym e)
    (subst (λ (y : ℤ). IsWithin (y +ℤ t.1)) (sym (u.same (place n ds t.0) (subst (λ (m : ℕ). 0 < m) e k)))
    (f.0 (subst (λ (m : ℕ). 0 < m) e k))))

pub placing-end : (n : ℕ) (ds : List Dependence) (terms : Terms) (size : ℕ) (values : List ℤ) (i : ℕ) → length terms ≤ i
    → IsPlacing n ds terms size values i → ArePlaced n ds terms size values
placing-end n ds terms size values i h u =
    let none : drop i terms ≡ [] = drop_none terms i h in
    record {
      complete = u.complete;
      within = u.within;
      sums = λ c k. u.same c k ∙ plus_none (u.sofar c) ∙ subst (λ (r : Terms). u.sofar c +ℤ coefficient (placed_terms n ds r) c
          ≡ coefficient (placed_terms n ds terms) c) none (u.total c);
      fits = u.fits.0 (subst (λ (r : Terms). PlaceSumsFit u.sofar (placed_terms n ds r)) (sym none) tt);
    }
  where
    drop_none : (xs : Terms) (i : ℕ) → length xs ≤ i → drop i xs ≡ []
    drop_none [] zero h = refl
    drop_none [] (suc i) h = refl
    drop_none (x ∷ xs) zero h = absurd (omega arith)
    drop_none (x ∷ xs) (suc i) h = drop_none xs i (omega arith)

pub place_in : (d : DependencesView) (c size : ℕ) → AreOfSpace d → 2 ^ d.space.variables ≤ size → c < size → place d.space.variables d.list c < size
place_in d c size a k l = by_case (cases_lt c (2 ^ d.space.variables))
  where
    by_closure : c < 2 ^ d.space.variables → (closure d.space.variables d.list c ≡ closure d.space.variables d.list 0)
        ⊎ (closure d.space.variables d.list c ≢ closure d.space.variables d.list 0) → place d.space.variables d.list c < size
    by_closure m (inl e) = rw (place-null d.space.variables d.list c m e) (omega arith)
    by_closure m (inr e) = rw (place-set d.space.variables d.list c m e) (omega (arith, (closure_is d.space.variables d.list c (of_space d a).below m).below))

    by_case : (c < 2 ^ d.space.variables) ⊎ (2 ^ d.space.variables ≤ c) → place d.space.variables d.list c < size
    by_case (inl m) = by_closure m (null_or_not d.space.variables d.list c)
    by_case (inr m) = rw (place-rate d.space.variables d.list c m) l

pub sets_in : (s : Space) → 2 ^ s.variables ≤ size_of s + 1
sets_in s = omega (arith, pow_pos s.variables)

-- the same with the terms that the code reads
pub went_on : (n : ℕ) (ds : List Dependence) (terms items : Terms) (size : ℕ) (values new : List ℤ) (i p : ℕ) (t : ℕ × ℤ) → items ≡ terms
    → i < length items → t ≡ get_or items i t → p ≡ place n ds t.0
    → IsPutAtPlace values new p t.1 → IsPlacing n ds terms size values i → IsPlacing n ds terms size new (i + 1)
went_on n ds terms items size values new i p t e h is k put u =
    placing-more n ds terms size values new i p t (subst (λ (ts : Terms). i < length ts) e h) (subst (λ (ts : Terms). t ≡ get_or ts i t) e is) k put u

pub collapse_is_wide : (n : ℕ) (ds : List Dependence) (terms items : Terms) (size : ℕ) (values : List ℤ) (i p : ℕ) (t : ℕ × ℤ)
    → items ≡ terms → i < length items → t ≡ get_or items i t → p ≡ place n ds t.0
    → ¬ (0 < p → IsWithin (number_at values p +ℤ t.1)) → IsPlacing n ds terms size values i → ¬ (CollapseFits n ds terms)
collapse_is_wide n ds terms items size values i p t e h is k wide u =
    placing-stops n ds terms size values i p t (subst (λ (ts : Terms). i < length ts) e h) (subst (λ (ts : Terms). t ≡ get_or ts i t) e is) k wide u
