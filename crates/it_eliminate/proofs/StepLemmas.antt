-- One rate: the rows after it are at least 0 exactly where the point extends to it.
use Rattle.std.proofs.Common.{◌≡◌, ◌≢◌, inl, ⊎_elim, ◌↔◌, ℕ, ℤ, pos, negsuc, neg_ℤ, ◌+ℤ◌, ◌*ℤ◌, ◌≤ℤ◌, ◌<ℤ◌, refl, sym, ap, subst, ◌∙◌, arith, List, [], ◌∷◌, Bool, true, false, cond, nat_eq, ne_eqb, eq-eqb}
use Rattle.std.specs.Prelude.{filter, map, Contains}
use Rattle.std.specs.Ordering.{int_eq}
use Rattle.std.specs.Int.Signed.{lt_z}
use Rattle.std.proofs.lemmas.Int.{ints}
use Rattle.std.proofs.lemmas.Bool.{eqb-false, eqb-true}
use Rattle.std.proofs.Math.IntN.{*ℤ-zero, zero-*ℤ}
use Rattle.it_number.proofs.Integers.{zring}
use Rattle.it_number.proofs.Ring.{ring, v, plus, times as prod, minus}
use Rattle.it_number.proofs.IntegerRing.{ring_ℤ}
use Rattle.it_number.proofs.SignLemmas.{least_by_multiple, product_least, none_plus}
use Rattle.it_space.specs.Rows.{Terms, coefficient, value}
use Rattle.it_space.specs.Cancelling.{times_up, times_down, cancelled_row}
use Rattle.it_eliminate.proofs.FurthestBounds.{extends}
use Rattle.it_space.proofs.MixLemmas.{factors, cancelled_gone, multiple_of_sum}
use Rattle.it_space.proofs.TermLemmas.{value-cancelled_row, coefficient-cancelled_row}
use Rattle.it_eliminate.proofs.MemberLemmas.{Member, member_of, contains_of, all_member, member_all, member-front, member-back, member_either, member-map, member_mapped, member-filter, member_filtered, member-flat_map, member_flat_mapped}
use Rattle.it_eliminate.proofs.OrderLemmas.{RowHolds, RowLacks, in-ordered_rows, lacks-ordered_rows}
use Rattle.it_eliminate.specs.Elimination.{is_positive_at, is_negative_at, is_zero_at, pairs_of, cancelled_pairs, results, next_list}
use Rattle.it_eliminate.specs.Projections.{IsPointOf, Extends, LacksCoordinate}

-- ---- the tests

pub positive_from_test : (at : ℕ) (row : Terms) → is_positive_at at row ≡ true → pos 0 <ℤ coefficient row at
positive_from_test at row e = number_is_positive (coefficient row at) e
  where
    number_is_positive : (z : ℤ) → lt_z (pos 0) z ≡ true → pos 0 <ℤ z
    number_is_positive z h = grind (arith, ints)

pub test_from_positive : (at : ℕ) (row : Terms) → pos 0 <ℤ coefficient row at → is_positive_at at row ≡ true
test_from_positive at row e = test_is_true (coefficient row at) e
  where
    test_is_true : (z : ℤ) → pos 0 <ℤ z → lt_z (pos 0) z ≡ true
    test_is_true z h = grind (arith, ints)

pub negative_from_test : (at : ℕ) (row : Terms) → is_negative_at at row ≡ true → coefficient row at <ℤ pos 0
negative_from_test at row e = number_is_negative (coefficient row at) e
  where
    number_is_negative : (z : ℤ) → lt_z z (pos 0) ≡ true → z <ℤ pos 0
    number_is_negative z h = grind (arith, ints)

pub test_from_negative : (at : ℕ) (row : Terms) → coefficient row at <ℤ pos 0 → is_negative_at at row ≡ true
test_from_negative at row e = test_is_true (coefficient row at) e
  where
    test_is_true : (z : ℤ) → z <ℤ pos 0 → lt_z z (pos 0) ≡ true
    test_is_true z h = grind (arith, ints)

pub zero_from_test : (at : ℕ) (row : Terms) → is_zero_at at row ≡ true → coefficient row at ≡ pos 0
zero_from_test at row e = number_is_zero (coefficient row at) e
  where
    number_is_zero : (z : ℤ) → int_eq z (pos 0) ≡ true → z ≡ pos 0
    number_is_zero z h = grind (arith, ints)

pub test_from_zero : (at : ℕ) (row : Terms) → coefficient row at ≡ pos 0 → is_zero_at at row ≡ true
test_from_zero at row e = test_is_true (coefficient row at) e
  where
    test_is_true : (z : ℤ) → z ≡ pos 0 → int_eq z (pos 0) ≡ true
    test_is_true z h = grind (arith, ints)

-- ---- the members of the list of results

pub flat_member : (at : ℕ) (rows : List Terms) (row : Terms) → Member row rows → coefficient row at ≡ pos 0 → Member row (results at rows)
unfolding results
flat_member at rows row m e = member-front row (filter (is_zero_at at) rows) (cancelled_pairs at rows)
    (member-filter (is_zero_at at) row rows m (test_from_zero at row e))

pub pair_member : (at : ℕ) (rows : List Terms) (up down : Terms) → Member up rows → Member down rows → pos 0 <ℤ coefficient up at
    → coefficient down at <ℤ pos 0 → Member (cancelled_row at up down) (results at rows)
unfolding results
pair_member at rows up down m n h k = member-back (cancelled_row at up down) (filter (is_zero_at at) rows) (cancelled_pairs at rows)
    (member-flat_map (λ (r : Terms). pairs_of at r rows) up (cancelled_row at up down) (filter (is_positive_at at) rows)
    (member-filter (is_positive_at at) up rows m (test_from_positive at up h))
    (member-map (cancelled_row at up) down (filter (is_negative_at at) rows) (member-filter (is_negative_at at) down rows n (test_from_negative at down k))))

-- what holds of each row without the coordinate and of each cancelled pair holds of each result
pub results_all : (P : Terms → Type 0) (at : ℕ) (rows : List Terms) → ((row : Terms) → Member row rows → coefficient row at ≡ pos 0 → P row)
    → ((up down : Terms) → Member up rows → Member down rows → pos 0 <ℤ coefficient up at → coefficient down at <ℤ pos 0 → P (cancelled_row at up down))
    → (row : Terms) → Member row (results at rows) → P row
unfolding results
results_all P at rows f g row m = ⊎_elim flat_row (λ k. pair
    (member_flat_mapped (λ (r : Terms). pairs_of at r rows) row (filter (is_positive_at at) rows) k))
    (member_either row (filter (is_zero_at at) rows) (cancelled_pairs at rows) m)
  where
    flat_row : Member row (filter (is_zero_at at) rows) → P row
    flat_row k = let r = member_filtered (is_zero_at at) row rows k in f row r.0 (zero_from_test at row r.1)

    pair : ((up : Terms) × Member up (filter (is_positive_at at) rows) × Member row (pairs_of at up rows)) → P row
    pair s =
        let u = member_filtered (is_positive_at at) s.0 rows s.1 in
        let d = member_mapped (cancelled_row at s.0) row (filter (is_negative_at at) rows) s.2 in
        let w = member_filtered (is_negative_at at) d.0 rows d.1 in
        subst (λ (r : Terms). P r) (sym d.2) (g s.0 d.0 u.0 w.0 (positive_from_test at s.0 u.1) (negative_from_test at d.0 w.1))

-- no result has the coordinate
pub results_lack : (at : ℕ) (rows : List Terms) → LacksCoordinate at (results at rows)
results_lack at rows = member_all (RowLacks at) (results at rows) (results_all (λ row. coefficient row at ≡ pos 0) at rows (λ row m e. e)
    (λ up down m n h k. coefficient-cancelled_row at up down at ∙ cancelled_gone at up down h k))

pub next_lacks : (at : ℕ) (rows : List Terms) → LacksCoordinate at (next_list at rows)
next_lacks at rows = lacks-ordered_rows at (results at rows) (results_lack at rows)

-- ---- values with the coordinate apart

-- the point with 0 at a coordinate, and with x there
abbrev pub with_value : ℕ → ℤ → (ℕ → ℤ) → ℕ → ℤ
with_value at x p c = cond (nat_eq c at) x (p c)

pub value_apart : (at : ℕ) (row : Terms) (p : ℕ → ℤ) → value row p ≡ coefficient row at *ℤ p at +ℤ value row (with_value at (pos 0) p)
value_apart at [] p = omega (arith, ints)
value_apart at (t ∷ ts) p = by_test (nat_eq t.0 at) (eqb-true t.0 at) (value_apart at ts p)
  where
    by_test : (b : Bool) → (b ≡ true → t.0 ≡ at) → value ts p ≡ coefficient ts at *ℤ p at +ℤ value ts (with_value at (pos 0) p)
        → t.1 *ℤ p t.0 +ℤ value ts p ≡ (cond b t.1 (pos 0) +ℤ coefficient ts at) *ℤ p at
        +ℤ (t.1 *ℤ cond b (pos 0) (p t.0) +ℤ value ts (with_value at (pos 0) p))
    by_test true f ih = let q : t.1 *ℤ p t.0 ≡ t.1 *ℤ p at = ap (λ n. t.1 *ℤ p n) (f refl) in omega (arith, zring, q, ih, *ℤ-zero t.1)
    by_test false f ih = omega (arith, zring, ih, zero-*ℤ (p at))

-- points that are one, but for a factor and the coordinate
pub value_rest : (at : ℕ) (k : ℤ) (row : Terms) (p q : ℕ → ℤ) → ((c : ℕ) → c ≢ at → q c ≡ k *ℤ p c)
    → value row (with_value at (pos 0) q) ≡ k *ℤ value row (with_value at (pos 0) p)
value_rest at k [] p q f = omega (arith, ints)
value_rest at k (t ∷ ts) p q f = by_test (nat_eq t.0 at) refl (value_rest at k ts p q f)
  where
    multiple_without_term : (x y z : ℤ) → y ≡ k *ℤ z → x *ℤ pos 0 +ℤ y ≡ k *ℤ (x *ℤ pos 0 +ℤ z)
    multiple_without_term x y z e = none_plus (x *ℤ pos 0) y (*ℤ-zero x) ∙ e ∙ ap (λ w. k *ℤ w) (sym (none_plus (x *ℤ pos 0) z (*ℤ-zero x)))

    by_test : (b : Bool) → nat_eq t.0 at ≡ b → value ts (with_value at (pos 0) q) ≡ k *ℤ value ts (with_value at (pos 0) p)
        → t.1 *ℤ cond b (pos 0) (q t.0) +ℤ value ts (with_value at (pos 0) q) ≡ k *ℤ (t.1 *ℤ cond b (pos 0) (p t.0) +ℤ value ts (with_value at (pos 0) p))
    by_test true e ih = multiple_without_term t.1 (value ts (with_value at (pos 0) q)) (value ts (with_value at (pos 0) p)) ih
    by_test false e ih = let g : t.1 *ℤ q t.0 ≡ t.1 *ℤ (k *ℤ p t.0) = ap (λ z. t.1 *ℤ z) (f t.0 (eqb-false t.0 at e)) in omega (arith, zring, g, ih)

-- a row without the coordinate has k times the value
pub value_kept : (at : ℕ) (k : ℤ) (row : Terms) (p q : ℕ → ℤ) → ((c : ℕ) → c ≢ at → q c ≡ k *ℤ p c) → coefficient row at ≡ pos 0
    → value row q ≡ k *ℤ value row p
value_kept at k row p q f e =
    let a = value_apart at row q in
    let b = value_apart at row p in
    let x : coefficient row at *ℤ q at ≡ pos 0 *ℤ q at = ap (λ z. z *ℤ q at) e in
    let y : coefficient row at *ℤ p at ≡ pos 0 *ℤ p at = ap (λ z. z *ℤ p at) e in
    let x' : value row q ≡ value row (with_value at (pos 0) q) = omega (arith, ints, a, x) in
    let y' : value row p ≡ value row (with_value at (pos 0) p) = omega (arith, ints, b, y) in
    x' ∙ value_rest at k row p q f ∙ ap (λ z. k *ℤ z) (sym y')

-- ---- the law of one rate

one_only : (c at : ℕ) → c ≢ at → ¬ (Contains (at ∷ []) c)
one_only c at n m = ⊎_elim (λ e. n e) (λ k. k) (member_of (at ∷ []) c m)

-- where a point extends, every row after the rate is at least 0
pub after_extending : (at : ℕ) (rows : List Terms) (p : ℕ → ℤ) → Extends (at ∷ []) rows p → IsPointOf (results at rows) p
after_extending at rows p x = member_all (RowHolds p) (results at rows) (λ row m. least_by_multiple (pos x.factor) (value row p) (omega (arith, ints, x.some))
    (subst (λ (z : ℤ). pos 0 ≤ℤ z) (value_kept at (pos x.factor) row p x.point (λ c n. x.kept c (one_only c at n)) (coefficient_is_zero row m)) (least row m)))
  where
    coefficient_is_zero : (row : Terms) → Member row (results at rows) → coefficient row at ≡ pos 0
    coefficient_is_zero = results_all (λ row. coefficient row at ≡ pos 0) at rows (λ row m e. e)
        (λ up down m n h k. coefficient-cancelled_row at up down at ∙ cancelled_gone at up down h k)

    sum_least : (a b : ℕ) (x y : ℤ) → pos 0 ≤ℤ x → pos 0 ≤ℤ y → pos 0 ≤ℤ (pos a *ℤ x +ℤ pos b *ℤ y)
    sum_least a b x y h k = let f = product_least (pos a) x (omega (arith, ints)) h
        in let g = product_least (pos b) y (omega (arith, ints)) k in omega (arith, ints, f, g)

    least : (row : Terms) → Member row (results at rows) → pos 0 ≤ℤ value row x.point
    least = results_all (λ row. pos 0 ≤ℤ value row x.point) at rows (λ row m e. all_member (RowHolds x.point) rows row x.meets m)
        (λ up down m n h k. subst (λ (z : ℤ). pos 0 ≤ℤ z) (sym (value-cancelled_row at up down x.point))
        (sum_least (times_up at up down) (times_down at up down) (value up x.point) (value down x.point)
        (all_member (RowHolds x.point) rows up x.meets m) (all_member (RowHolds x.point) rows down x.meets n)))

-- a row as the pair of its coefficient there and the value of its rest
abbrev pub row_parts : ℕ → (ℕ → ℤ) → Terms → ℤ × ℤ
row_parts at p row = (coefficient row at, value row (with_value at (pos 0) p))

-- a cancelled pair, in these pairs
crossed_sum_least : (at : ℕ) (up down : Terms) (p : ℕ → ℤ) → pos 0 <ℤ coefficient up at → coefficient down at <ℤ pos 0
    → pos 0 ≤ℤ value (cancelled_row at up down) p
    → pos 0 ≤ℤ (neg_ℤ (coefficient down at) *ℤ value up (with_value at (pos 0) p) +ℤ coefficient up at *ℤ value down (with_value at (pos 0) p))
crossed_sum_least at up down p h k l =
    let f = factors at up down h k in
    subst (λ (z : ℤ). pos 0 ≤ℤ z) (multiple_of_pair (pos f.common) (pos (times_up at up down)) (pos (times_down at up down))
    (coefficient up at) (coefficient down at) (p at)
    (value up p) (value down p) (value up (with_value at (pos 0) p)) (value down (with_value at (pos 0) p)) f.up_is f.down_is
    (value_apart at up p) (value_apart at down p))
    (product_least (pos f.common) (pos (times_up at up down) *ℤ value up p +ℤ pos (times_down at up down) *ℤ value down p)
    (omega (arith, ints, f.some)) (subst (λ (z : ℤ). pos 0 ≤ℤ z) (value-cancelled_row at up down p) l))
  where
    rate_cancels : (c d e u w : ℤ) → neg_ℤ d *ℤ (c *ℤ e +ℤ u) +ℤ c *ℤ (d *ℤ e +ℤ w) ≡ neg_ℤ d *ℤ u +ℤ c *ℤ w
    rate_cancels c d e u w = ring ring_ℤ (c ∷ d ∷ e ∷ u ∷ w ∷ []) (plus (prod (minus (v 1)) (plus (prod (v 0) (v 2)) (v 3)))
        (prod (v 0) (plus (prod (v 1) (v 2)) (v 4)))) (plus (prod (minus (v 1)) (v 3)) (prod (v 0) (v 4))) refl

    multiple_of_pair : (g a b c d e x y u w : ℤ) → g *ℤ a ≡ neg_ℤ d → g *ℤ b ≡ c → x ≡ c *ℤ e +ℤ u → y ≡ d *ℤ e +ℤ w
        → g *ℤ (a *ℤ x +ℤ b *ℤ y) ≡ neg_ℤ d *ℤ u +ℤ c *ℤ w
    multiple_of_pair g a b c d e x y u w f h i j = multiple_of_sum g a x b y ∙ ap (λ z. z *ℤ x +ℤ (g *ℤ b) *ℤ y) f ∙ ap (λ z. neg_ℤ d *ℤ x +ℤ z *ℤ y) h
        ∙ ap (λ z. neg_ℤ d *ℤ z +ℤ c *ℤ y) i ∙ ap (λ z. neg_ℤ d *ℤ (c *ℤ e +ℤ u) +ℤ c *ℤ z) j ∙ rate_cancels c d e u w

-- where each row after the rate is at least 0, the point extends
pub point_extends : (at : ℕ) (rows : List Terms) (p : ℕ → ℤ) → IsPointOf (results at rows) p → Extends (at ∷ []) rows p
point_extends at rows p h = of_pair (extends (map (row_parts at p) rows) flat_row pair)
  where
    flat_row : (t : ℤ × ℤ) → Member t (map (row_parts at p) rows) → t.0 ≡ pos 0 → pos 0 ≤ℤ t.1
    flat_row t m e =
        let s = member_mapped (row_parts at p) t rows m in
        let none : coefficient s.0 at ≡ pos 0 = ap (λ (x : ℤ × ℤ). x.0) (sym s.2) ∙ e in
        let whole = all_member (RowHolds p) (results at rows) s.0 h (flat_member at rows s.0 s.1 none) in
        let q : coefficient s.0 at *ℤ p at ≡ pos 0 *ℤ p at = ap (λ z. z *ℤ p at) none in
        let r : pos 0 ≤ℤ value s.0 (with_value at (pos 0) p) = omega (arith, ints, whole, q, value_apart at s.0 p) in
        subst (λ (x : ℤ × ℤ). pos 0 ≤ℤ x.1) (sym s.2) r

    pair : (s t : ℤ × ℤ) → Member s (map (row_parts at p) rows) → Member t (map (row_parts at p) rows) → pos 0 <ℤ s.0 → t.0 <ℤ pos 0
        → pos 0 ≤ℤ (neg_ℤ t.0 *ℤ s.1 +ℤ s.0 *ℤ t.1)
    pair s t m n up down =
        let a = member_mapped (row_parts at p) s rows m in
        let b = member_mapped (row_parts at p) t rows n in
        let ua : pos 0 <ℤ coefficient a.0 at = subst (λ (x : ℤ × ℤ). pos 0 <ℤ x.0) a.2 up in
        let db : coefficient b.0 at <ℤ pos 0 = subst (λ (x : ℤ × ℤ). x.0 <ℤ pos 0) b.2 down in
        let whole = all_member (RowHolds p) (results at rows) (cancelled_row at a.0 b.0) h (pair_member at rows a.0 b.0 a.1 b.1 ua db) in
        subst (λ (y : ℤ × ℤ). pos 0 ≤ℤ (neg_ℤ y.0 *ℤ s.1 +ℤ s.0 *ℤ y.1)) (sym b.2)
        (subst (λ (x : ℤ × ℤ). pos 0 ≤ℤ (neg_ℤ (coefficient b.0 at) *ℤ x.1 +ℤ x.0 *ℤ value b.0 (with_value at (pos 0) p))) (sym a.2)
        (crossed_sum_least at a.0 b.0 p ua db whole))

    of_factor : (k x : ℤ) → pos 1 ≤ℤ k → ((t : ℤ × ℤ) → Member t (map (row_parts at p) rows) → pos 0 ≤ℤ (t.0 *ℤ x +ℤ k *ℤ t.1)) → Extends (at ∷ []) rows p
    of_factor (negsuc k) x some f = absurd (omega (arith, ints))
    of_factor (pos k) x some f =
        let q : ℕ → ℤ = with_value at x (λ c. pos k *ℤ p c) in
        let off : (c : ℕ) → c ≢ at → q c ≡ pos k *ℤ p c = λ c n. ap (λ b. cond b x (pos k *ℤ p c)) (ne_eqb c at n) in
        let on : q at ≡ x = ap (λ b. cond b x (pos k *ℤ p at)) (eq-eqb at at refl) in record {
          factor = k;
          some = omega (arith, ints);
          point = q;
          kept = λ c n. off c (λ e. n (contains_of (at ∷ []) c (inl e)));
          meets = member_all (RowHolds q) rows (λ row m.
              let is : value row q ≡ coefficient row at *ℤ x +ℤ pos k *ℤ value row (with_value at (pos 0) p) =
              value_apart at row q ∙ ap (λ z. coefficient row at *ℤ z +ℤ value row (with_value at (pos 0) q)) on
              ∙ ap (λ z. coefficient row at *ℤ x +ℤ z) (value_rest at (pos k) row p q off) in
              subst (λ (z : ℤ). pos 0 ≤ℤ z) (sym is) (f (row_parts at p row) (member-map (row_parts at p) row rows m)));
        }

    of_pair : ((k : ℤ) × (x : ℤ) × (pos 1 ≤ℤ k) × ((t : ℤ × ℤ) → Member t (map (row_parts at p) rows) → pos 0 ≤ℤ (t.0 *ℤ x +ℤ k *ℤ t.1)))
        → Extends (at ∷ []) rows p
    of_pair s = of_factor s.0 s.1 s.2 s.3

pub step_exact : (at : ℕ) (rows : List Terms) (p : ℕ → ℤ) → IsPointOf (next_list at rows) p ↔ Extends (at ∷ []) rows p
step_exact at rows p = let o = in-ordered_rows (results at rows) p in (λ a. point_extends at rows p (o.0 a), λ x. o.1 (after_extending at rows p x))
