-- Weights that move in one direction stay between their start and their end.
use Rattle.std.proofs.Common.{◌≡◌, ℕ, zero, suc, ◌+◌, ◌^◌, ◌<◌, ◌≤◌, ℤ, pos, negsuc, neg_ℤ, ◌+ℤ◌, ◌≤ℤ◌, List, [], ◌∷◌, ◌++◌, length, Option, Some, None, Bool, true, false, cond, nat_eq, bit_or, bit_and, refl, sym, ap, subst, ◌∙◌, arith, eq-eqb, ne_eqb}
use Rattle.std.specs.List.{flat_map, AllByRecursion as Every}
use Rattle.std.proofs.lemmas.Int.{ints}
use Rattle.std.proofs.lemmas.Bool.{eqb-true}
use Rattle.std.proofs.lemmas.Nat.{or_lt, and_le_r}
use Rattle.std.proofs.Math.IntN.{+ℤ_idr}
use Rattle.it_number.specs.Limit.{IsWithin}
use Rattle.it_space.specs.Rows.{coefficient}
use Rattle.it_space.specs.Sets.{IsInside}
use Rattle.it_space.specs.Sums.{plus_at}
use Rattle.it_polymatroid.specs.Elementals.{Elemental, elementals, span}
use Rattle.it_space.proofs.EveryLemmas.{every_of, every-append, every-map, every-same, every-flat_map}
use Rattle.it_polymatroid.proofs.Spans.{every-span}
use Rattle.it_elemental.specs.Views.{IsElemental}
use Rattle.it_elemental.specs.Expansions.{members, mutual_expansion, conditional_expansion}
use Rattle.it_closure.specs.declared.dependences.Dependence.{Dependence}
use Rattle.it_closure.specs.Closures.{closure, way, first_open, IsClosureOf}
use Rattle.it_closure.specs.Collapse.{AreDependences}
use Rattle.it_closure.proofs.Insides.{inside_le, grows}
use Rattle.it_closure.proofs.Meets.{closure_is}
use Rattle.it_closure.proofs.Ways.{IsOpenOf, open_where, way-end, way-more, some_open}
use Rattle.it_elemental.specs.Indexes.{elemental_index}
use Rattle.it_lift.specs.Lifts.{set_difference, each_weight, turn_moves, moves_at, moves, excess, with_empty}
use Rattle.it_lift.specs.Fits.{WeightSumsFit, GeneratorsAscend, AreNumbered, WeightSumsFitAsEnd}
use Rattle.it_elemental.proofs.IndexLemmas.{at_index}
use Rattle.it_lift.proofs.Validity.{mutual_valid, conditional_valid}
use Rattle.it_lift.proofs.Differences.{less_apart, less_less, less_meet, less_meet_right}
use Rattle.it_space.proofs.TermLemmas.{coefficient-append}
use Rattle.it_polymatroid.proofs.Images.{inside_meet}

-- up or down
abbrev pub Goes : Bool → ℤ → Type 0
Goes true x = pos 0 ≤ℤ x
Goes false x = x ≤ℤ pos 0

middle_sum_within : (b : Bool) (x y z : ℤ) → Goes b y → Goes b z → IsWithin x → IsWithin ((x +ℤ y) +ℤ z) → IsWithin (x +ℤ y)
middle_sum_within true x y z h k w v = omega (arith, ints)
middle_sum_within false x y z h k w v = omega (arith, ints)

goes-sum : (b : Bool) (x y : ℤ) → Goes b x → Goes b y → Goes b (x +ℤ y)
goes-sum true x y h k = omega (arith, ints)
goes-sum false x y h k = omega (arith, ints)

goes-zero : (b : Bool) → Goes b (pos 0)
goes-zero true = omega (arith, ints)
goes-zero false = omega (arith, ints)

-- each number's weights go its way
abbrev pub GoTheirWay : (ℕ → Bool) → List (ℕ × ℤ) → Type 0
GoTheirWay up ms = Every (λ m. Goes (up m.0) m.1) ms

pub goes-total : (up : ℕ → Bool) (ms : List (ℕ × ℤ)) → GoTheirWay up ms → (i : ℕ) → Goes (up i) (coefficient ms i)
goes-total up [] g i = goes-zero (up i)
goes-total up (m ∷ ms) g i = goes-sum (up i) (cond (nat_eq m.0 i) m.1 (pos 0)) (coefficient ms i) (by_test (nat_eq m.0 i) refl) (goes-total up ms g.1 i)
  where
    by_test : (b : Bool) → nat_eq m.0 i ≡ b → Goes (up i) (cond b m.1 (pos 0))
    by_test true e = subst (λ (k : ℕ). Goes (up k) m.1) (eqb-true m.0 i e) g.0
    by_test false e = goes-zero (up i)

-- one more
plus-here : (f : ℕ → ℤ) (m : ℕ × ℤ) → plus_at f m m.0 ≡ f m.0 +ℤ m.1
plus-here f m = ap (λ b. f m.0 +ℤ cond b m.1 (pos 0)) (eq-eqb m.0 m.0 refl)

plus-total : (f : ℕ → ℤ) (m : ℕ × ℤ) (ms : List (ℕ × ℤ)) (i : ℕ) → plus_at f m i +ℤ coefficient ms i ≡ f i +ℤ coefficient (m ∷ ms) i
plus-total f m ms i = omega (arith, ints)

within-more : (f : ℕ → ℤ) (m : ℕ × ℤ) → ((i : ℕ) → IsWithin (f i)) → IsWithin (f m.0 +ℤ m.1) → (i : ℕ) → IsWithin (plus_at f m i)
within-more f m w v i = by_test (nat_eq m.0 i) refl
  where
    by_test : (b : Bool) → nat_eq m.0 i ≡ b → IsWithin (f i +ℤ cond b m.1 (pos 0))
    by_test true e = subst (λ (k : ℕ). IsWithin (f k +ℤ m.1)) (eqb-true m.0 i e) v
    by_test false e = subst IsWithin (sym (+ℤ_idr (f i))) (w i)

pub way_from_end : (up : ℕ → Bool) (f : ℕ → ℤ) (ms : List (ℕ × ℤ)) → GoTheirWay up ms → ((i : ℕ) → IsWithin (f i))
    → ((i : ℕ) → IsWithin (f i +ℤ coefficient ms i)) → WeightSumsFit f ms
way_from_end up f [] g w e = tt
way_from_end up f (m ∷ ms) g w e =
    let total : plus_at f m m.0 +ℤ coefficient ms m.0 ≡ f m.0 +ℤ coefficient (m ∷ ms) m.0 = plus-total f m ms m.0 in
    let end : IsWithin ((f m.0 +ℤ m.1) +ℤ coefficient ms m.0) = subst IsWithin (sym total ∙ ap (λ y. y +ℤ coefficient ms m.0) (plus-here f m)) (e m.0) in
    let here : IsWithin (f m.0 +ℤ m.1) = middle_sum_within (up m.0) (f m.0) m.1 (coefficient ms m.0) g.0 (goes-total up ms g.1 m.0) (w m.0) end in
    (here, way_from_end up (plus_at f m) ms g.1 (within-more f m w here) (λ i. subst IsWithin (sym (plus-total f m ms i)) (e i)))

pub end_from_way : (f : ℕ → ℤ) (ms : List (ℕ × ℤ)) → ((i : ℕ) → IsWithin (f i)) → WeightSumsFit f ms → (i : ℕ) → IsWithin (f i +ℤ coefficient ms i)
end_from_way f [] w v i = let e : f i +ℤ pos 0 ≡ f i = omega (arith, ints) in subst IsWithin (sym e) (w i)
end_from_way f (m ∷ ms) w v i = subst IsWithin (plus-total f m ms i) (end_from_way (plus_at f m) ms (within-more f m w v.0) v.1 i)

-- the way of a number: the equation of a dependence goes down unless it is negated, all others go up
abbrev pub goes_up : List Dependence → ℕ → Bool
goes_up [] i = true
goes_up (d ∷ ds) i = cond (nat_eq d.generator i) d.negated (goes_up ds i)

up_before : (from : ℕ) (ds : List Dependence) (i : ℕ) → GeneratorsAscend from ds → i < from → goes_up ds i ≡ true
up_before from [] i a h = refl
up_before from (d ∷ ds) i a h = ap (λ b. cond b d.negated (goes_up ds i)) (ne_eqb d.generator i (λ e. omega (arith, a.0)))
    ∙ up_before (d.generator + 1) ds i a.1 (omega (arith, a.0))

-- each dependence goes its own way
own_way : (from : ℕ) (ds : List Dependence) → GeneratorsAscend from ds → Every (λ d. goes_up ds d.generator ≡ d.negated) ds
own_way from [] a = tt
own_way from (d ∷ ds) a = (
  ap (λ b. cond b d.negated (goes_up ds d.generator)) (eq-eqb d.generator d.generator refl),
  later_ways_stay (d.generator + 1) ds a.1 (omega arith) (own_way (d.generator + 1) ds a.1),
)
  where
    later_ways_stay : (from : ℕ) (es : List Dependence) → GeneratorsAscend from es → d.generator < from
        → Every (λ e. goes_up ds e.generator ≡ e.negated) es → Every (λ e. goes_up (d ∷ ds) e.generator ≡ e.negated) es
    later_ways_stay from [] a h v = tt
    later_ways_stay from (e ∷ es) a h v = (
      ap (λ b. cond b d.negated (goes_up ds e.generator))
          (ne_eqb d.generator e.generator (λ q. omega (arith, a.0))) ∙ v.0,
      later_ways_stay (e.generator + 1) es a.1 (omega (arith, a.0)) v.1,
    )

-- ---- what holds of each weight that is moved: of weights of inequalities that aren't below 0, and of the dependences' own

record HasMove (P : ℕ × ℤ → Type 0) (d : Dependence) : Type 0 where
  inside : IsInside d.from d.to
  own : (x : ℤ) → pos 0 ≤ℤ x → P (d.generator, cond d.negated x (neg_ℤ x))

module _ (n : ℕ) (P : ℕ × ℤ → Type 0) (low : (i : ℕ) (x : ℤ) → i < length (elementals n) → pos 0 ≤ℤ x → P (i, x)) where
  each-have : (x : ℤ) (es : List Elemental) → pos 0 ≤ℤ x → Every (IsElemental n) es → Every P (each_weight n x es)
  each-have x es p v = every-map P (λ e. (elemental_index n e, x)) es (every-same (IsElemental n) (λ e. P (elemental_index n e, x)) es
      (λ e w. low (elemental_index n e) x (at_index n e w).0 p) v)

  turn-have : (x : ℤ) (a : ℕ) (d : Dependence) → pos 0 ≤ℤ x → a < 2 ^ n → d.to < 2 ^ n → IsInside d.from a → HasMove P d → Every P (turn_moves n x (a, d))
  turn-have x a d p ha ht i m =
      let low' : bit_and a d.to < 2 ^ n = omega (arith, and_le_r a d.to) in
      let in' : IsInside d.from (bit_and a d.to) = inside_meet d.from a d.to i m.inside in
      let from : d.from < 2 ^ n = omega (arith, inside_le d.from a i) in
      let xs : List (ℕ × ℤ) = each_weight n x (mutual_expansion (members n (set_difference d.to a)) (members n (set_difference a d.to)) (bit_and a d.to)) in
      let ys : List (ℕ × ℤ) = each_weight n x (conditional_expansion n (members n (set_difference (bit_and a d.to) d.from)) d.from) in
      every-append P (xs ++ ys) ((d.generator, cond d.negated x (neg_ℤ x)) ∷ [])
      (every-append P xs ys
      (each-have x (mutual_expansion (members n (set_difference d.to a)) (members n (set_difference a d.to)) (bit_and a d.to)) p
      (mutual_valid n (set_difference d.to a) (set_difference a d.to) (bit_and a d.to) low' (less_meet_right n d.to a ht ha)
      (less_meet n a d.to ha ht) (less_less n d.to a ht ha)))
      (each-have x (conditional_expansion n (members n (set_difference (bit_and a d.to) d.from)) d.from) p
      (conditional_valid n (set_difference (bit_and a d.to) d.from) d.from from (less_apart n (bit_and a d.to) d.from low' from))))
      (m.own x p, tt)

  module _ (ds : List Dependence) (r : AreDependences n ds) (w : Every (HasMove P) ds) where
    way-have : (x : ℤ) → pos 0 ≤ℤ x → (turns a : ℕ) → 2 ^ n ≤ a + turns → a < 2 ^ n → Every P (flat_map (turn_moves n x) (way n ds a))
    way-have x p zero a k l = absurd (omega arith)
    way-have x p (suc turns) a k l = by_option (first_open ds a) refl (λ c. way-have x p turns c)
      where
        by_option : (f : Option Dependence) → first_open ds a ≡ f → ((c : ℕ) → 2 ^ n ≤ c + turns → c < 2 ^ n → Every P (flat_map (turn_moves n x) (way n ds c)))
            → Every P (flat_map (turn_moves n x) (way n ds a))
        by_option None e ih = subst (λ (ts : List (ℕ × Dependence)). Every P (flat_map (turn_moves n x) ts)) (sym (way-end n ds a l e)) tt
        by_option (Some d) e ih =
            let q : IsOpenOf n ds a d = open_where n ds a d r.below e in
            let more : a < bit_or a d.to = grows a d.to q.new in
            subst (λ (ts : List (ℕ × Dependence)). Every P (flat_map (turn_moves n x) ts)) (sym (way-more n ds a d r.below l e))
            (every-append P (turn_moves n x (a, d)) (flat_map (turn_moves n x) (way n ds (bit_or a d.to)))
            (turn-have x a d p l q.below q.known (some_open (HasMove P) ds a d w e).0)
            (ih (bit_or a d.to) (omega arith) (or_lt n a d.to l q.below)))

    at-have : (s : ℕ) (x : ℤ) → s < 2 ^ n → Every P (moves_at n ds s x)
    at-have s (negsuc k) l =
        let i : IsClosureOf n ds s (closure n ds s) = closure_is n ds s r.below l in
        each-have (pos (suc k)) (conditional_expansion n (members n (set_difference (closure n ds s) s)) s) (omega (arith, ints))
        (conditional_valid n (set_difference (closure n ds s) s) s l (less_apart n (closure n ds s) s i.below l))
    at-have s (pos zero) l = tt
    at-have s (pos (suc k)) l = way-have (pos (suc k)) (omega (arith, ints)) (2 ^ n) s (omega arith) l

    moves_have : (e : ℕ → ℤ) → Every P (moves n ds e)
    moves_have e = every-flat_map P (λ s. moves_at n ds s (with_empty n ds e s)) (span 0 (2 ^ n))
        (every-span (λ s. Every P (moves_at n ds s (with_empty n ds e s))) 0 (2 ^ n) (λ s a b. at-have s (with_empty n ds e s) (omega arith)))

have_moves : (P : ℕ × ℤ → Type 0) (n : ℕ) (ds : List Dependence) → AreDependences n ds
    → Every (λ d. (x : ℤ) → pos 0 ≤ℤ x → P (d.generator, cond d.negated x (neg_ℤ x))) ds → Every (HasMove P) ds
have_moves P n ds r o = each_has_move ds (every_of (λ d. IsInside d.from d.to) ds r.inside) o
  where
    each_has_move : (es : List Dependence) → Every (λ d. IsInside d.from d.to) es
        → Every (λ d. (x : ℤ) → pos 0 ≤ℤ x → P (d.generator, cond d.negated x (neg_ℤ x))) es → Every (HasMove P) es
    each_has_move [] a b = tt
    each_has_move (e ∷ es) a b = (record { inside = a.0; own = b.0 }, each_has_move es a.1 b.1)

-- each goes its way
pub moves_go : (n : ℕ) (ds : List Dependence) (e : ℕ → ℤ) → AreDependences n ds → AreNumbered n ds → GoTheirWay (goes_up ds) (moves n ds e)
moves_go n ds e r o = moves_have n (λ m. Goes (goes_up ds m.0) m.1) (λ i x l p. subst (λ (b : Bool). Goes b x)
    (sym (up_before (length (elementals n)) ds i o l)) p) ds r
    (have_moves (λ m. Goes (goes_up ds m.0) m.1) n ds r (every-same (λ d. goes_up ds d.generator ≡ d.negated)
    (λ d. (x : ℤ) → pos 0 ≤ℤ x → Goes (goes_up ds d.generator) (cond d.negated x (neg_ℤ x))) ds
    (λ d is x p. subst (λ (b : Bool). Goes b (cond d.negated x (neg_ℤ x))) (sym is) (signed_value_goes d.negated x p))
    (own_way (length (elementals n)) ds o))) e
  where
    signed_value_goes : (b : Bool) (x : ℤ) → pos 0 ≤ℤ x → Goes b (cond b x (neg_ℤ x))
    signed_value_goes true x p = p
    signed_value_goes false x p = omega (arith, ints, p)

-- each is of a generator that is there
pub moves_placed : (n count : ℕ) (ds : List Dependence) (e : ℕ → ℤ) → AreDependences n ds → length (elementals n) ≤ count
    → Every (λ d. d.generator < count) ds → Every (λ m. m.0 < count) (moves n ds e)
moves_placed n count ds e r h o = moves_have n (λ m. m.0 < count) (λ i x l p. omega arith) ds r
    (have_moves (λ m. m.0 < count) n ds r (every-same (λ d. d.generator < count) (λ d. (x : ℤ) → pos 0 ≤ℤ x → d.generator < count) ds (λ d l x p. l) o)) e

pub weight_sums_fit_as_end : WeightSumsFitAsEnd
weight_sums_fit_as_end n ds target g w r o v =
    let ms : List (ℕ × ℤ) = moves n ds (excess w target g) in (
      λ f i. subst IsWithin (sym (coefficient-append w.weights ms i)) (end_from_way (coefficient w.weights) ms v f i),
      λ f. way_from_end (goes_up ds) (coefficient w.weights) ms (moves_go n ds (excess w target g) r o) v
          (λ i. subst IsWithin (coefficient-append w.weights ms i) (f i)),
    )
