-- The amounts that are added to the weights sum, at every map, to the excess.
use Rattle.std.proofs.Common.{◌≡◌, ℕ, zero, suc, ◌+◌, ◌^◌, ◌<◌, ◌≤◌, ℤ, pos, negsuc, neg_ℤ, ◌+ℤ◌, ◌-ℤ◌, ◌*ℤ◌, List, [], ◌∷◌, ◌++◌, map, length, Option, Some, None, Bool, true, false, cond, bit_and, bit_or, refl, sym, ap, ap₂, ◌∙◌, arith, All}
use Rattle.std.specs.List.{flat_map, AllByRecursion as Every}
use Rattle.std.proofs.lemmas.Int.{ints}
use Rattle.std.proofs.lemmas.Nat.{or_lt, and_le_r}
use Rattle.it_number.proofs.Integers.{zring}
use Rattle.it_space.specs.Sets.{IsInside}
use Rattle.it_polymatroid.specs.Certificates.{combination}
use Rattle.it_polymatroid.specs.Elementals.{Elemental, elementals, elemental_at, elemental_value}
use Rattle.it_space.proofs.EveryLemmas.{every_of}
use Rattle.it_elemental.specs.Views.{IsElemental}
use Rattle.it_elemental.specs.Expansions.{members, mutual_expansion, conditional_expansion, sum_of_values}
use Rattle.it_elemental.proofs.Sums.{mutual_total, conditional_total}
use Rattle.it_closure.specs.declared.dependences.Dependence.{Dependence}
use Rattle.it_closure.specs.Closures.{closure, way, first_open, IsClosureOf}
use Rattle.it_closure.specs.Collapse.{AreDependences}
use Rattle.it_closure.proofs.Insides.{inside-trans, inside-refl, inside-antisym, inside_left, or_inside, inside_le, grows}
use Rattle.it_closure.proofs.Meets.{closure_is}
use Rattle.it_closure.proofs.Ways.{IsOpenOf, open_where, closed_where, way-end, way-more, some_open}
use Rattle.it_elemental.specs.Indexes.{elemental_index}
use Rattle.it_lift.specs.Lifts.{set_difference, each_weight, turn_moves, moves_at, signed_value}
use Rattle.it_lift.proofs.Validity.{mutual_valid, conditional_valid, back_listed, numbers_in_list}
use Rattle.it_lift.proofs.Differences.{less_below, less_apart, less_less, less_meet, less_meet_right, less_joined, less_joined_right, less_all, less_inner}
use Rattle.it_polymatroid.proofs.Images.{inside_meet}

pub weighted-append : (xs ys : List (ℕ × ℤ)) (f : ℕ → ℤ) → combination (xs ++ ys) f ≡ combination xs f +ℤ combination ys f
weighted-append [] ys f = omega (arith, ints)
weighted-append (x ∷ xs) ys f = omega (arith, ints, weighted-append xs ys f)

-- the values of the generators at a map
pub record AreGeneratorValues (n : ℕ) (ds : List Dependence) (h v : ℕ → ℤ) : Type 0 where
  pub elemental : (i : ℕ) → i < length (elementals n) → v i ≡ elemental_value n h (elemental_at n i)
  pub equation : All (λ d. v d.generator ≡ signed_value d.negated (h d.to -ℤ h d.from)) ds

-- one weight for each of some inequalities
each-value : (n : ℕ) (ds : List Dependence) (h v : ℕ → ℤ) (x : ℤ) (es : List Elemental) → AreGeneratorValues n ds h v → Every (IsElemental n) es
    → combination (each_weight n x es) v ≡ x *ℤ sum_of_values n h (map (elemental_index n) es)
each-value n ds h v x es w e = by_list es (numbers_in_list n es e)
  where
    by_list : (es : List Elemental) → Every (λ i. i < length (elementals n)) (map (elemental_index n) es)
        → combination (each_weight n x es) v ≡ x *ℤ sum_of_values n h (map (elemental_index n) es)
    by_list [] l = omega (arith, ints)
    by_list (e ∷ es) l = ap₂ (λ a b. x *ℤ a +ℤ b) (w.elemental (elemental_index n e) l.0) (by_list es l.1) ∙ omega (arith, zring)

-- H(t - s|s)
conditional-value : (n : ℕ) (ds : List Dependence) (h v : ℕ → ℤ) (x : ℤ) (s t : ℕ) → AreGeneratorValues n ds h v → s < 2 ^ n → t < 2 ^ n → IsInside s t
    → combination (each_weight n x (conditional_expansion n (members n (set_difference t s)) s)) v ≡ x *ℤ (h t -ℤ h s)
conditional-value n ds h v x s t w hs ht i =
    let es : List Elemental = conditional_expansion n (members n (set_difference t s)) s in
    let valid : Every (IsElemental n) es = conditional_valid n (set_difference t s) s hs (less_apart n t s ht hs) in
    each-value n ds h v x es w valid
    ∙ ap (λ z. x *ℤ z) (conditional_total n h (set_difference t s) s (map (elemental_index n) es) (less_below n t s ht) hs
    (less_apart n t s ht hs) (back_listed n es valid)
    ∙ ap (λ m. h m -ℤ h s) (less_inner n t s ht hs i))

-- I(t - a;a - t|a ^ t)
mutual-value : (n : ℕ) (ds : List Dependence) (h v : ℕ → ℤ) (x : ℤ) (a t : ℕ) → AreGeneratorValues n ds h v → a < 2 ^ n → t < 2 ^ n
    → combination (each_weight n x (mutual_expansion (members n (set_difference t a)) (members n (set_difference a t)) (bit_and a t))) v
    ≡ x *ℤ ((h t +ℤ h a) -ℤ (h (bit_or a t) +ℤ h (bit_and a t)))
mutual-value n ds h v x a t w ha ht =
    let es : List Elemental = mutual_expansion (members n (set_difference t a)) (members n (set_difference a t)) (bit_and a t) in
    let low : bit_and a t < 2 ^ n = omega (arith, and_le_r a t) in
    let valid : Every (IsElemental n) es = mutual_valid n (set_difference t a) (set_difference a t) (bit_and a t) low
    (less_meet_right n t a ht ha) (less_meet n a t ha ht) (less_less n t a ht ha) in
    each-value n ds h v x es w valid
    ∙ ap (λ z. x *ℤ z) (mutual_total n h (set_difference t a) (set_difference a t) (bit_and a t) (map (elemental_index n) es)
    (less_below n t a ht) (less_below n a t ha) (less_less n t a ht ha)
    (less_meet_right n t a ht ha) (less_meet n a t ha ht) (back_listed n es valid)
    ∙ omega (arith, ints, ap h (less_joined_right n t a ht ha), ap h (less_joined n a t ha ht), ap h (less_all n a t ha ht)))

-- one step of the way
turn-value : (n : ℕ) (ds : List Dependence) (h v : ℕ → ℤ) (x : ℤ) (a : ℕ) (d : Dependence) → AreGeneratorValues n ds h v → a < 2 ^ n
    → d.to < 2 ^ n → IsInside d.from a → IsInside d.from d.to
    → v d.generator ≡ signed_value d.negated (h d.to -ℤ h d.from)
    → combination (turn_moves n x (a, d)) v ≡ x *ℤ (h a -ℤ h (bit_or a d.to))
turn-value n ds h v x a d w ha ht i j e =
    let low : bit_and a d.to < 2 ^ n = omega (arith, and_le_r a d.to) in
    let in' : IsInside d.from (bit_and a d.to) = inside_meet d.from a d.to i j in
    let from : d.from < 2 ^ n = omega (arith, inside_le d.from a i) in
    let one = mutual-value n ds h v x a d.to w ha ht in
    let two = conditional-value n ds h v x d.from (bit_and a d.to) w from low in' in
    let xs : List (ℕ × ℤ) = each_weight n x (mutual_expansion (members n (set_difference d.to a)) (members n (set_difference a d.to)) (bit_and a d.to)) in
    let ys : List (ℕ × ℤ) = each_weight n x (conditional_expansion n (members n (set_difference (bit_and a d.to) d.from)) d.from) in
    let zs : List (ℕ × ℤ) = (d.generator, cond d.negated x (neg_ℤ x)) ∷ [] in
    weighted-append (xs ++ ys) zs v
    ∙ ap (λ y. y +ℤ combination zs v) (weighted-append xs ys v)
    ∙ ap₂ (λ y z. (y +ℤ z) +ℤ combination zs v) one two
    ∙ ap (λ y. ((x *ℤ ((h d.to +ℤ h a) -ℤ (h (bit_or a d.to) +ℤ h (bit_and a d.to)))) +ℤ (x *ℤ (h (bit_and a d.to) -ℤ h d.from))) +ℤ y)
    (equation d.negated (v d.generator) e)
    ∙ identity x (h d.to) (h a) (h (bit_or a d.to)) (h (bit_and a d.to)) (h d.from)
  where
    equation : (b : Bool) (y : ℤ) → y ≡ signed_value b (h d.to -ℤ h d.from) → cond b x (neg_ℤ x) *ℤ y +ℤ pos 0 ≡ neg_ℤ x *ℤ (h d.to -ℤ h d.from)
    equation true y e = ap (λ z. x *ℤ z +ℤ pos 0) e ∙ omega (arith, zring)
    equation false y e = ap (λ z. neg_ℤ x *ℤ z +ℤ pos 0) e ∙ omega (arith, zring)

    identity : (x t a u m f : ℤ) → ((x *ℤ ((t +ℤ a) -ℤ (u +ℤ m))) +ℤ (x *ℤ (m -ℤ f))) +ℤ neg_ℤ x *ℤ (t -ℤ f) ≡ x *ℤ (a -ℤ u)
    identity x t a u m f = omega (arith, zring)

-- the closure stays the same on the way
same_closure : (n : ℕ) (ds : List Dependence) (a : ℕ) (d : Dependence) → All (λ d. d.to < 2 ^ n) ds → a < 2 ^ n → IsOpenOf n ds a d
    → closure n ds (bit_or a d.to) ≡ closure n ds a
same_closure n ds a d b l o =
    let i : IsClosureOf n ds a (closure n ds a) = closure_is n ds a b l in
    let j : IsClosureOf n ds (bit_or a d.to) (closure n ds (bit_or a d.to)) = closure_is n ds (bit_or a d.to) b (or_lt n a d.to l o.below) in
    inside-antisym (closure n ds (bit_or a d.to)) (closure n ds a)
    (j.least (closure n ds a) i.below (or_inside a d.to (closure n ds a) i.holds
    (o.kept (closure n ds a) i.closed (inside-trans d.from a (closure n ds a) o.known i.holds))) i.closed)
    (i.least (closure n ds (bit_or a d.to)) j.below (inside-trans a (bit_or a d.to) (closure n ds (bit_or a d.to)) (inside_left a d.to) j.holds) j.closed)

pub own_closure : (n : ℕ) (ds : List Dependence) (a : ℕ) → All (λ d. d.to < 2 ^ n) ds → a < 2 ^ n → first_open ds a ≡ None → closure n ds a ≡ a
own_closure n ds a b l e =
    let i : IsClosureOf n ds a (closure n ds a) = closure_is n ds a b l in
    inside-antisym (closure n ds a) a (i.least a l (inside-refl a) (closed_where ds a e)) i.holds

-- a dependence and the value of its equation
record IsTurnable (h v : ℕ → ℤ) (d : Dependence) : Type 0 where
  inside : IsInside d.from d.to
  value_is : v d.generator ≡ signed_value d.negated (h d.to -ℤ h d.from)

way-value : (n : ℕ) (ds : List Dependence) (h v : ℕ → ℤ) (x : ℤ) → AreDependences n ds → AreGeneratorValues n ds h v → (turns a : ℕ)
    → 2 ^ n ≤ a + turns → a < 2 ^ n
    → combination (flat_map (turn_moves n x) (way n ds a)) v ≡ x *ℤ (h a -ℤ h (closure n ds a))
way-value n ds h v x r w zero a k l = absurd (omega arith)
way-value n ds h v x r w (suc turns) a k l = by_option (first_open ds a) refl (λ c. way-value n ds h v x r w turns c)
  where
    no_difference : (y : ℤ) → pos 0 ≡ x *ℤ (y -ℤ y)
    no_difference y = omega (arith, zring)

    sum : (p q u : ℤ) → x *ℤ (p -ℤ q) +ℤ x *ℤ (q -ℤ u) ≡ x *ℤ (p -ℤ u)
    sum p q u = omega (arith, zring)

    by_option : (o : Option Dependence) → first_open ds a ≡ o
        → ((c : ℕ) → 2 ^ n ≤ c + turns → c < 2 ^ n → combination (flat_map (turn_moves n x) (way n ds c)) v ≡ x *ℤ (h c -ℤ h (closure n ds c)))
        → combination (flat_map (turn_moves n x) (way n ds a)) v ≡ x *ℤ (h a -ℤ h (closure n ds a))
    by_option None e ih = ap (λ ts. combination (flat_map (turn_moves n x) ts) v) (way-end n ds a l e) ∙ no_difference (h a)
        ∙ ap (λ c. x *ℤ (h a -ℤ h c)) (sym (own_closure n ds a r.below l e))
    by_option (Some d) e ih =
        let o : IsOpenOf n ds a d = open_where n ds a d r.below e in
        let more : a < bit_or a d.to = grows a d.to o.new in
        let t : IsTurnable h v d = (some_open (IsTurnable h v) ds a d (every_of (IsTurnable h v) ds
        (λ i d k. record { inside = r.inside i d k; value_is = w.equation i d k })) e).0 in
        let next = ih (bit_or a d.to) (omega arith) (or_lt n a d.to l o.below) in
        ap (λ ts. combination (flat_map (turn_moves n x) ts) v) (way-more n ds a d r.below l e)
        ∙ weighted-append (turn_moves n x (a, d)) (flat_map (turn_moves n x) (way n ds (bit_or a d.to))) v
        ∙ ap₂ (λ y z. y +ℤ z) (turn-value n ds h v x a d w l o.below o.known t.inside t.value_is)
        (next ∙ ap (λ c. x *ℤ (h (bit_or a d.to) -ℤ h c)) (same_closure n ds a d r.below l o))
        ∙ sum (h a) (h (bit_or a d.to)) (h (closure n ds a))

-- one set
pub at-value : (n : ℕ) (ds : List Dependence) (h v : ℕ → ℤ) (s : ℕ) (x : ℤ) → AreDependences n ds → AreGeneratorValues n ds h v → s < 2 ^ n
    → combination (moves_at n ds s x) v ≡ x *ℤ (h s -ℤ h (closure n ds s))
at-value n ds h v s (negsuc k) r w l =
    let i : IsClosureOf n ds s (closure n ds s) = closure_is n ds s r.below l in
    conditional-value n ds h v (pos (suc k)) s (closure n ds s) w l i.below i.holds ∙ turned_difference (h s) (h (closure n ds s))
  where
    turned_difference : (a b : ℤ) → pos (suc k) *ℤ (b -ℤ a) ≡ negsuc k *ℤ (a -ℤ b)
    turned_difference a b = negated_factor (pos (suc k)) (negsuc k) (omega (arith, ints))
      where
        negated_factor : (x y : ℤ) → y ≡ neg_ℤ x → x *ℤ (b -ℤ a) ≡ y *ℤ (a -ℤ b)
        negated_factor x y e = rw e (omega (arith, zring))
at-value n ds h v s (pos zero) r w l = omega (arith, ints)
at-value n ds h v s (pos (suc k)) r w l = way-value n ds h v (pos (suc k)) r w (2 ^ n) s (omega arith) l
