-- The lifted weights add up at every map.
use Rattle.std.proofs.Common.{◌≡◌, ◌≢◌, ◌⊎◌, inl, inr, ℕ, zero, suc, ◌+◌, ◌-◌, ◌^◌, ◌<◌, ◌≤◌, ℤ, pos, neg_ℤ, ◌+ℤ◌, ◌-ℤ◌, ◌*ℤ◌, List, [], ◌∷◌, ◌++◌, Bool, true, false, cond, nat_eq, refl, sym, ap, ap₂, subst, ◌∙◌, arith, All, eq-eqb}
use Rattle.std.specs.List.{filter, flat_map}
use Rattle.std.proofs.lemmas.Int.{ints}
use Rattle.std.proofs.lemmas.Bool.{cases_lt, true≢false}
use Rattle.std.proofs.lemmas.Nat.{pow_pos}
use Rattle.std.proofs.lemmas.List.Elements.{filter-append, All-head, All-tail}
use Rattle.std.proofs.lemmas.List.Concat.{flat_map-append}
use Rattle.std.proofs.Math.IntN.{+ℤ_idr, *ℤ-zero, zero-*ℤ}
use Rattle.it_number.proofs.Integers.{zring}
use Rattle.it_space.specs.Answers.{CertificateView}
use Rattle.it_polymatroid.specs.Certificates.{Form, Generators, dot, IsLinear, combination}
use Rattle.it_space.specs.Rows.{one_at}
use Rattle.it_polymatroid.specs.Elementals.{span}
use Rattle.it_polymatroid.proofs.Forms.{dot_from_one, linear-scale, linear-add, linear_zero, linear_at, linear_same}
use Rattle.it_polymatroid.proofs.Spans.{span-append}
use Rattle.it_closure.specs.declared.dependences.Dependence.{Dependence}
use Rattle.it_closure.specs.Closures.{closure}
use Rattle.it_closure.specs.Collapse.{place, spread_out, AreDependences}
use Rattle.it_closure.proofs.Places.{place-rate, place-null, place-set, place-zero, null_or_not}
use Rattle.it_closure.proofs.Meets.{closure_is}
use Rattle.it_lift.specs.Lifts.{excess, null_sets, sum_over, with_empty, moves_at, moves, AddsUpOverClosed, LiftAddsUp}
use Rattle.it_lift.proofs.MoveLemmas.{weighted-append, AreGeneratorValues, at-value}

-- a sum of weights of linear forms is linear
weighted_linear : (size : ℕ) (g : Generators) → ((i : ℕ) → i < g.count → IsLinear size (g.form i)) → (ws : List (ℕ × ℤ)) → All (λ p. p.0 < g.count) ws
    → IsLinear size (λ h. combination ws (λ i. g.form i h))
weighted_linear size g l [] a = linear_zero size
weighted_linear size g l (w ∷ ws) a =
    linear-add size (λ h. w.1 *ℤ g.form w.0 h) (λ h. combination ws (λ i. g.form i h))
    (linear-scale size w.1 (g.form w.0) (l w.0 (All-head (λ p. p.0 < g.count) w ws a))) (weighted_linear size g l ws (All-tail (λ p. p.0 < g.count) w ws a))

-- the excess at a map
abbrev left_over : CertificateView → Form → Generators → Form
left_over w target g h = w.scale *ℤ target h -ℤ combination w.weights (λ i. g.form i h)

left_over_linear : (size : ℕ) (target : Form) (g : Generators) (w : CertificateView) → IsLinear size target
    → ((i : ℕ) → i < g.count → IsLinear size (g.form i)) → All (λ p. p.0 < g.count) w.weights
    → (h : ℕ → ℤ) → h 0 ≡ pos 0 → left_over w target g h ≡ dot size (excess w target g) h
left_over_linear size target g w l m a h z =
    (Rattle.it_polymatroid.proofs.Forms.linear-sub size (λ h. w.scale *ℤ target h) (λ h. combination w.weights (λ i. g.form i h))
    (linear-scale size w.scale target l) (weighted_linear size g m w.weights a)).sum h z

-- a sum of products with differences
dot-less : (n : ℕ) (f p q : ℕ → ℤ) → dot n f (λ c. p c -ℤ q c) ≡ dot n f p -ℤ dot n f q
dot-less zero f p q = refl
dot-less (suc n) f p q = omega (arith, zring, dot-less n f p q)

-- places from m on at which a map is 0 add nothing
dot_short : (m r : ℕ) (f p : ℕ → ℤ) → ((c : ℕ) → m ≤ c → p c ≡ pos 0) → dot (r + m) f p ≡ dot m f p
dot_short m zero f p h = ap (λ k. dot k f p) (omega arith)
dot_short m (suc r) f p h =
    let e : suc r + m ≡ suc (r + m) = omega arith in
    ap (λ k. dot k f p) e ∙ ap₂ (λ x y. f (r + m) *ℤ x +ℤ y) (h (r + m) (omega arith)) (dot_short m r f p h) ∙ omega (arith, ints)

-- one number more in a span
pub span-last : (a m : ℕ) → span a (suc m) ≡ span a m ++ (a + m) ∷ []
span-last a m = let e : suc m ≡ m + 1 = omega arith in ap (span a) e ∙ span-append a m 1

sum_over-append : (e : ℕ → ℤ) (xs ys : List ℕ) → sum_over e (xs ++ ys) ≡ sum_over e xs +ℤ sum_over e ys
sum_over-append e [] ys = omega (arith, ints)
sum_over-append e (x ∷ xs) ys = omega (arith, ints, sum_over-append e xs ys)

-- the moves of the first sets
moves-value : (n : ℕ) (ds : List Dependence) (h v e : ℕ → ℤ) → AreDependences n ds → AreGeneratorValues n ds h v → (m : ℕ) → m ≤ 2 ^ n
    → combination (flat_map (λ s. moves_at n ds s (e s)) (span 0 m)) v ≡ dot m e (λ s. h s -ℤ h (closure n ds s))
moves-value n ds h v e r w zero l = refl
moves-value n ds h v e r w (suc m) l =
    let z : 0 + m ≡ m = omega arith in
    let last : List (ℕ × ℤ) = moves_at n ds m (e m) in
    ap (λ ss. combination (flat_map (λ s. moves_at n ds s (e s)) ss) v) (span-last 0 m ∙ ap (λ k. span 0 m ++ k ∷ []) z)
    ∙ ap (λ xs. combination xs v) (flat_map-append (λ s. moves_at n ds s (e s)) (span 0 m) (m ∷ []))
    ∙ weighted-append (flat_map (λ s. moves_at n ds s (e s)) (span 0 m)) (last ++ []) v
    ∙ ap₂ (λ x y. x +ℤ y) (moves-value n ds h v e r w m (omega arith)) (weighted-append last [] v
    ∙ ap (λ x. x +ℤ pos 0) (at-value n ds h v m (e m) r w (omega arith)))
    ∙ sum_commutes (dot m e (λ s. h s -ℤ h (closure n ds s))) (e m *ℤ (h m -ℤ h (closure n ds m)))
  where
    sum_commutes : (x y : ℤ) → x +ℤ (y +ℤ pos 0) ≡ y +ℤ x
    sum_commutes x y = omega (arith, ints)

-- the sets with the closure of the empty set below a number
abbrev nulls : ℕ → List Dependence → ℕ → List ℕ
nulls n ds m = filter (λ s. nat_eq (closure n ds s) (closure n ds 0)) (span 1 m)

-- the sum by places, and the sum by closures
sums_even_out : (n : ℕ) (ds : List Dependence) (e h : ℕ → ℤ) → h 0 ≡ pos 0 → (m : ℕ) → suc m ≤ 2 ^ n
    → dot (suc m) e (λ c. h c -ℤ h (place n ds c)) +ℤ sum_over e (null_sets n ds) *ℤ h (closure n ds 0)
    ≡ dot (suc m) (with_empty n ds e) (λ c. h c -ℤ h (closure n ds c)) +ℤ sum_over e (nulls n ds m) *ℤ h (closure n ds 0)
sums_even_out n ds e h z zero l =
    ap (λ y. (e 0 *ℤ (h 0 -ℤ h y) +ℤ pos 0) +ℤ sum_over e (null_sets n ds) *ℤ h (closure n ds 0)) (place-zero n ds)
    ∙ ap (λ y. (e 0 *ℤ (y -ℤ y) +ℤ pos 0) +ℤ sum_over e (null_sets n ds) *ℤ h (closure n ds 0)) z
    ∙ empty_set_sums (e 0) (sum_over e (null_sets n ds)) (h (closure n ds 0))
    ∙ sym (ap (λ y. (neg_ℤ (sum_over e (null_sets n ds)) *ℤ (y -ℤ h (closure n ds 0)) +ℤ pos 0) +ℤ pos 0 *ℤ h (closure n ds 0)) z)
  where
    empty_set_sums : (x s k : ℤ) → (x *ℤ (pos 0 -ℤ pos 0) +ℤ pos 0) +ℤ s *ℤ k ≡ (neg_ℤ s *ℤ (pos 0 -ℤ k) +ℤ pos 0) +ℤ pos 0 *ℤ k
    empty_set_sums x s k = omega (arith, zring, zero-*ℤ k, *ℤ-zero x, *ℤ-zero s)
sums_even_out n ds e h z (suc m) l = by_test (nat_eq (closure n ds (suc m)) (closure n ds 0)) refl (sums_even_out n ds e h z m (omega arith))
  where
    K : ℤ
    K = h (closure n ds 0)

    place_sum : ℤ
    place_sum = dot (suc m) e (λ c. h c -ℤ h (place n ds c))

    closure_sum : ℤ
    closure_sum = dot (suc m) (with_empty n ds e) (λ c. h c -ℤ h (closure n ds c))

    S : ℤ
    S = sum_over e (null_sets n ds)

    nulls_with_next : nulls n ds (suc m) ≡ nulls n ds m ++ filter (λ s. nat_eq (closure n ds s) (closure n ds 0)) (suc m ∷ [])
    nulls_with_next = let s : 1 + m ≡ suc m = omega arith in
        ap (filter (λ s. nat_eq (closure n ds s) (closure n ds 0))) (span-last 1 m ∙ ap (λ k. span 1 m ++ k ∷ []) s)
        ∙ filter-append (λ s. nat_eq (closure n ds s) (closure n ds 0)) (span 1 m) (suc m ∷ [])

    same_terms : (o w s T x y c k t : ℤ) → o +ℤ s *ℤ k ≡ w +ℤ T *ℤ k → t ≡ T → (x *ℤ (y -ℤ c) +ℤ o) +ℤ s *ℤ k ≡ (x *ℤ (y -ℤ c) +ℤ w) +ℤ t *ℤ k
    same_terms o w s T x y c k t ih e = rw e (omega (arith, ints, ih))

    null : (o w s T x y k t : ℤ) → o +ℤ s *ℤ k ≡ w +ℤ T *ℤ k → t ≡ T +ℤ x → (x *ℤ (y -ℤ pos 0) +ℤ o) +ℤ s *ℤ k ≡ (x *ℤ (y -ℤ k) +ℤ w) +ℤ t *ℤ k
    null o w s T x y k t ih e = rw e (omega (arith, zring, ih))

    by_test : (b : Bool) → nat_eq (closure n ds (suc m)) (closure n ds 0) ≡ b → place_sum +ℤ S *ℤ K ≡ closure_sum +ℤ sum_over e (nulls n ds m) *ℤ K
        → (e (suc m) *ℤ (h (suc m) -ℤ h (place n ds (suc m))) +ℤ place_sum) +ℤ S *ℤ K
        ≡ (e (suc m) *ℤ (h (suc m) -ℤ h (closure n ds (suc m))) +ℤ closure_sum) +ℤ sum_over e (nulls n ds (suc m)) *ℤ K
    by_test true f ih =
        let c : closure n ds (suc m) ≡ closure n ds 0 = Rattle.std.proofs.lemmas.Bool.eqb-true (closure n ds (suc m)) (closure n ds 0) f in
        let sums : sum_over e (nulls n ds (suc m)) ≡ sum_over e (nulls n ds m) +ℤ e (suc m) =
        ap (sum_over e) nulls_with_next ∙ sum_over-append e (nulls n ds m) (filter (λ s. nat_eq (closure n ds s) (closure n ds 0)) (suc m ∷ []))
        ∙ ap (λ b. sum_over e (nulls n ds m) +ℤ sum_over e (cond b (suc m ∷ []) [])) f ∙ ap (λ y. sum_over e (nulls n ds m) +ℤ y) (+ℤ_idr (e (suc m))) in
        ap (λ y. (e (suc m) *ℤ (h (suc m) -ℤ y) +ℤ place_sum) +ℤ S *ℤ K) (ap h (place-null n ds (suc m) (omega arith) c) ∙ z)
        ∙ null place_sum closure_sum S (sum_over e (nulls n ds m)) (e (suc m)) (h (suc m)) K (sum_over e (nulls n ds (suc m))) ih sums
        ∙ sym (ap (λ y. (e (suc m) *ℤ (h (suc m) -ℤ y) +ℤ closure_sum) +ℤ sum_over e (nulls n ds (suc m)) *ℤ K) (ap h c))
    by_test false f ih =
        let c : closure n ds (suc m) ≢ closure n ds 0 = (λ q. true≢false (sym (eq-eqb (closure n ds (suc m)) (closure n ds 0) q) ∙ f)) in
        let sums : sum_over e (nulls n ds (suc m)) ≡ sum_over e (nulls n ds m) =
        ap (sum_over e) nulls_with_next ∙ sum_over-append e (nulls n ds m) (filter (λ s. nat_eq (closure n ds s) (closure n ds 0)) (suc m ∷ []))
        ∙ ap (λ b. sum_over e (nulls n ds m) +ℤ sum_over e (cond b (suc m ∷ []) [])) f ∙ +ℤ_idr (sum_over e (nulls n ds m)) in
        ap (λ y. (e (suc m) *ℤ (h (suc m) -ℤ h y) +ℤ place_sum) +ℤ S *ℤ K) (place-set n ds (suc m) (omega arith) c)
        ∙ same_terms place_sum closure_sum S (sum_over e (nulls n ds m)) (e (suc m)) (h (suc m)) (h (closure n ds (suc m))) K
        (sum_over e (nulls n ds (suc m))) ih sums

-- at the end all excesses cancel
all_evened : (n : ℕ) (ds : List Dependence) (e h : ℕ → ℤ) → h 0 ≡ pos 0
    → dot (2 ^ n) e (λ c. h c -ℤ h (place n ds c)) ≡ dot (2 ^ n) (with_empty n ds e) (λ c. h c -ℤ h (closure n ds c))
all_evened n ds e h z =
    let s : suc (2 ^ n - 1) ≡ 2 ^ n = omega (arith, pow_pos n) in
    subst (λ (k : ℕ). dot k e (λ c. h c -ℤ h (place n ds c)) ≡ dot k (with_empty n ds e) (λ c. h c -ℤ h (closure n ds c))) s
    (summand_cancels (dot (suc (2 ^ n - 1)) e (λ c. h c -ℤ h (place n ds c))) (dot (suc (2 ^ n - 1)) (with_empty n ds e) (λ c. h c -ℤ h (closure n ds c)))
    (sum_over e (null_sets n ds) *ℤ h (closure n ds 0)) (sums_even_out n ds e h z (2 ^ n - 1) (omega arith)))
  where
    summand_cancels : (x y s : ℤ) → x +ℤ s ≡ y +ℤ s → x ≡ y
    summand_cancels x y s e = omega (arith, ints, e)

-- a linear form of a map spread out is linear in the map
place_below : (size n : ℕ) (ds : List Dependence) → 2 ^ n ≤ size → AreDependences n ds → (c : ℕ) → c < size → place n ds c < size
place_below size n ds k r c l = by_cases (cases_lt c (2 ^ n))
  where
    set : c < 2 ^ n → (closure n ds c ≡ closure n ds 0) ⊎ (closure n ds c ≢ closure n ds 0) → place n ds c < size
    set m (inl e) = rw (place-null n ds c m e) (omega arith)
    set m (inr e) = rw (place-set n ds c m e) (omega (arith, (closure_is n ds c r.below m).below))

    by_cases : (c < 2 ^ n) ⊎ (2 ^ n ≤ c) → place n ds c < size
    by_cases (inl m) = set m (null_or_not n ds c)
    by_cases (inr m) = rw (place-rate n ds c m) l

linear_spread : (size n : ℕ) (ds : List Dependence) (f : Form) → 2 ^ n ≤ size → AreDependences n ds → IsLinear size f
    → IsLinear size (λ h. f (spread_out n ds h))
linear_spread size n ds f k r l =
    linear_same size (λ h. dot size (λ c. f (one_at c)) (spread_out n ds h)) (λ h. f (spread_out n ds h))
    (λ h z. sym (l.sum (spread_out n ds h) (ap h (place-zero n ds) ∙ z))) (sums size (omega arith))
  where
    sums : (m : ℕ) → m ≤ size → IsLinear size (λ h. dot m (λ c. f (one_at c)) (spread_out n ds h))
    sums zero h = linear_zero size
    sums (suc m) h =
        linear-add size (λ h. f (one_at m) *ℤ h (place n ds m)) (λ h. dot m (λ c. f (one_at c)) (spread_out n ds h))
        (linear-scale size (f (one_at m)) (λ h. h (place n ds m)) (linear_at size (place n ds m)
        (place_below size n ds k r m (omega arith)))) (sums m (omega arith))

no_difference : (x y : ℤ) → x ≡ y → x -ℤ y ≡ pos 0
no_difference x y e = omega (arith, ints, e)

-- over closed sets there is no excess
none_left : (size n : ℕ) (ds : List Dependence) (target : Form) (g : Generators) (w : CertificateView) → 2 ^ n ≤ size → AreDependences n ds
    → IsLinear size target → ((i : ℕ) → i < g.count → IsLinear size (g.form i)) → All (λ p. p.0 < g.count) w.weights → AddsUpOverClosed size n ds target g w
    → (h : ℕ → ℤ) → h 0 ≡ pos 0 → left_over w target g (spread_out n ds h) ≡ pos 0
none_left size n ds target g w k r l m a up h z =
    let A : Form = λ h. w.scale *ℤ target (spread_out n ds h) in
    let B : Form = λ h. combination w.weights (λ i. g.form i (spread_out n ds h)) in
    let la : IsLinear size A = linear-scale size w.scale (λ h. target (spread_out n ds h)) (linear_spread size n ds target k r l) in
    let lb : IsLinear size B = linear_spread size n ds (λ h. combination w.weights (λ i. g.form i h)) k r (weighted_linear size g m w.weights a) in
    no_difference (A h) (B h) (la.sum h z ∙ dot_from_one size (λ c. A (one_at c)) (λ c. B (one_at c)) h z up ∙ sym (lb.sum h z))

pub lift_adds_up : LiftAddsUp
lift_adds_up size n ds target g w k r d l m a up h z =
    let e : ℕ → ℤ = excess w target g in
    let v : ℕ → ℤ = λ i. g.form i h in
    let h' : ℕ → ℤ = spread_out n ds h in
    let z' : h' 0 ≡ pos 0 = ap h (place-zero n ds) ∙ z in
    let here : left_over w target g h ≡ dot size e h = left_over_linear size target g w l m a h z in
    let closed : dot size e h' ≡ pos 0 = sym (left_over_linear size target g w l m a h' z') ∙ none_left size n ds target g w k r l m a up h z in
    let apart : dot size e (λ c. h c -ℤ h (place n ds c)) ≡ dot size e h -ℤ dot size e h' = dot-less size e h h' in
    let size_is : (size - 2 ^ n) + 2 ^ n ≡ size = omega arith in
    let short : dot size e (λ c. h c -ℤ h (place n ds c)) ≡ dot (2 ^ n) e (λ c. h c -ℤ h (place n ds c)) =
    ap (λ s. dot s e (λ c. h c -ℤ h (place n ds c))) (sym size_is) ∙ dot_short (2 ^ n) (size - 2 ^ n) e (λ c. h c -ℤ h (place n ds c))
    (λ c q. no_difference (h c) (h (place n ds c)) (ap h (sym (place-rate n ds c q)))) in
    let elemental_value : combination (moves n ds e) v ≡ dot (2 ^ n) (with_empty n ds e) (λ c. h c -ℤ h (closure n ds c)) =
    moves-value n ds h v (with_empty n ds e) r (record { elemental = λ i q. d.elemental i q h z; equation = λ i x q. d.equation i x q h z })
    (2 ^ n) (omega arith) in
    let even = all_evened n ds e h z in
    let whole = weighted-append w.weights (moves n ds e) v in
    whole_is (w.scale *ℤ target h) (combination w.weights v) (combination (moves n ds e) v) (combination (w.weights ++ moves n ds e) v) (dot size e h)
    here (elemental_value ∙ sym even ∙ sym short ∙ apart ∙ ap (λ y. dot size e h -ℤ y) closed) whole
  where
    whole_is : (x y m s d : ℤ) → x -ℤ y ≡ d → m ≡ d -ℤ pos 0 → s ≡ y +ℤ m → x ≡ s
    whole_is x y m s d a b c = omega (arith, ints, a, b, c)
