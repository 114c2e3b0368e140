-- Values of polymatroids that follow from functions among variables, and from independent ones.
use Rattle.std.proofs.Common.{◌≡◌, ◌≢◌, ◌⊎◌, inl, inr, ℕ, zero, suc, ◌+◌, ◌-◌, ◌*◌, ◌^◌, ◌<◌, ◌≤◌, ℤ, pos, ◌+ℤ◌, ◌≤ℤ◌, Bool, true, false, cond, nat_eq, bit_and, bit_or, refl, sym, ap, ap₂, subst, ◌∙◌, arith, lit<, List, length, get_or, All}
use Rattle.std.proofs.lemmas.Int.{ints}
use Rattle.std.proofs.lemmas.Bool.{cases_lt, eqb-true}
use Rattle.std.proofs.lemmas.Nat.{or_lt, and_comm, and_le_r, pow_below}
use Rattle.std.proofs.lemmas.Nat.Bits.{and_pow, bit_at_and, bit_at_or, bit_at_above, bit_at-lt, bit_at-zero, same_from_bits}
use Rattle.std.specs.Int.{bit_at}
use Rattle.std.specs.Int.Bits.{or_zero_l}
use Rattle.it_space.specs.Rows.{point_of}
use Rattle.it_space.specs.Sets.{has_member, IsInside}
use Rattle.it_space.specs.Spaces.{most_variables}
use Rattle.it_space.proofs.SetLemmas.{bit_without, inside_below}
use Rattle.it_polymatroid.specs.Polymatroid.{IsPolymatroid}
use Rattle.it_polymatroid.proofs.Images.{inside_meet}
use Rattle.it_polymatroid.proofs.Instances.{with_pow}
use Rattle.it_closure.proofs.Insides.{at_most_at, inside_by, inside_left, inside_right}
use Rattle.it_elemental.proofs.Members.{with_other, with_same}
use Rattle.it_facts.specs.Points.{Determine, IsFunction, IsTrueOf, sum_of_members}
use Rattle.it_facts.specs.Settling.{AgreeBelow, Follows, IsFactOf, Settles, TellRate, TellsRate}
use Rattle.it_facts.specs.declared.facts.Fact.{Fact}
use Rattle.it_facts.specs.declared.facts.Fact.TheVariants.{Entropy, Rate, Constant, Equal, Function, Independent}

-- ---- functions

-- what a set has as its function adds nothing to a greater set
pub function_adds_nothing : (n : ℕ) (q : ℕ → ℤ) (a from to : ℕ) → IsPolymatroid n q → a < 2 ^ n → to < 2 ^ n → IsInside from a
    → q (bit_or from to) ≡ q from → q (bit_or a to) ≡ q a
function_adds_nothing n q a from to p l m i e =
    let both : ℕ = bit_or from to in
    let below : both < 2 ^ n = or_lt n from to (inside_below n from a l i) m in
    let all : bit_or a both ≡ bit_or a to = same_from_bits (bit_or a both) (bit_or a to) (λ k.
    let x = bit_at_or a both k in let y = bit_at_or from to k in let z = bit_at_or a to k in let w = at_most_at from a i k in omega arith) in
    let up : q a ≤ℤ q (bit_or a both) = p.rises a (bit_or a both) (or_lt n a both l below) (inside_left a both) in
    let sub : (q (bit_or a both) +ℤ q (bit_and a both)) ≤ℤ (q a +ℤ q both) = p.submodular a both l below in
    let low : q from ≤ℤ q (bit_and a both) = p.rises from (bit_and a both) (omega (arith, and_le_r a both, below))
    (inside_meet from a both i (inside_left from to)) in
    sym (ap q all) ∙ omega (arith, ints, up, sub, low, e)

-- a set that holds a function of others of its members has the value that it has without it
pub without_function : (n : ℕ) (q : ℕ → ℤ) (s from x rest : ℕ) → IsPolymatroid n q → x < n → rest < 2 ^ n → s ≡ bit_or rest (2 ^ x)
    → IsInside from rest → IsFunction q x from → q s ≡ q rest
without_function n q s from x rest p l m e i f = ap q e ∙ function_adds_nothing n q rest from (2 ^ x) p m (pow_below x n l) i f

-- ---- independence

-- a member's own set is no greater number
pub power_of_member : (s i : ℕ) → has_member s i ≡ true → 2 ^ i ≤ s
power_of_member s i e = by_cases (cases_lt s (2 ^ i))
  where
    by_cases : (s < 2 ^ i) ⊎ (2 ^ i ≤ s) → 2 ^ i ≤ s
    by_cases (inl h) = let z : bit_at s i ≡ 0 = bit_at_above s i i h (omega arith) in let o = eqb-true (bit_at s i) 1 e in absurd (omega arith)
    by_cases (inr h) = h

-- sums over sets whose members are the same, of maps that agree at these
pub sum_of_members-same : (n : ℕ) (q p : ℕ → ℤ) (s t : ℕ) → ((i : ℕ) → i < n → bit_at s i ≡ bit_at t i)
    → ((i : ℕ) → i < n → has_member t i ≡ true → q (2 ^ i) ≡ p (2 ^ i)) → sum_of_members n q s ≡ sum_of_members n p t
sum_of_members-same zero q p s t h e = refl
sum_of_members-same (suc n) q p s t h e =
    ap₂ (λ x y. x +ℤ y) (ap (λ b. cond (nat_eq b 1) (q (2 ^ n)) (pos 0)) (h n (omega arith)) ∙ by_test (has_member t n) (e n (omega arith)))
    (sum_of_members-same n q p s t (λ i l. h i (omega arith)) (λ i l. e i (omega arith)))
  where
    by_test : (b : Bool) → (b ≡ true → q (2 ^ n) ≡ p (2 ^ n)) → cond b (q (2 ^ n)) (pos 0) ≡ cond b (p (2 ^ n)) (pos 0)
    by_test true f = f refl
    by_test false f = refl

-- the sum over a set is the sum over a part and over the rest
pub sum_of_members-split : (n : ℕ) (q : ℕ → ℤ) (s rest whole : ℕ) → ((i : ℕ) → bit_at s i + bit_at rest i ≡ bit_at whole i)
    → sum_of_members n q s +ℤ sum_of_members n q rest ≡ sum_of_members n q whole
sum_of_members-split zero q s rest whole h = refl
sum_of_members-split (suc n) q s rest whole h =
    let here = by_bits (bit_at s n) (bit_at rest n) (bit_at whole n) (bit_at-lt whole n) (h n) in
    let ih = sum_of_members-split n q s rest whole h in
    sum_of_four (cond (has_member s n) (q (2 ^ n)) (pos 0)) (sum_of_members n q s) (cond (has_member rest n) (q (2 ^ n)) (pos 0)) (sum_of_members n q rest)
    (cond (has_member whole n) (q (2 ^ n)) (pos 0)) (sum_of_members n q whole) here ih
  where
    by_bits : (a b c : ℕ) → c < 2 → a + b ≡ c → cond (nat_eq a 1) (q (2 ^ n)) (pos 0) +ℤ cond (nat_eq b 1) (q (2 ^ n)) (pos 0)
        ≡ cond (nat_eq c 1) (q (2 ^ n)) (pos 0)
    by_bits zero zero c l e = subst (λ (k : ℕ). pos 0 +ℤ pos 0 ≡ cond (nat_eq k 1) (q (2 ^ n)) (pos 0)) e (omega (arith, ints))
    by_bits zero (suc zero) c l e = subst (λ (k : ℕ). pos 0 +ℤ q (2 ^ n) ≡ cond (nat_eq k 1) (q (2 ^ n)) (pos 0)) e (omega (arith, ints))
    by_bits (suc zero) zero c l e = subst (λ (k : ℕ). q (2 ^ n) +ℤ pos 0 ≡ cond (nat_eq k 1) (q (2 ^ n)) (pos 0)) e (omega (arith, ints))
    by_bits (suc zero) (suc b) c l e = absurd (omega arith)
    by_bits zero (suc (suc b)) c l e = absurd (omega arith)
    by_bits (suc (suc a)) b c l e = absurd (omega arith)

    sum_of_four : (a b c d e f : ℤ) → a +ℤ c ≡ e → b +ℤ d ≡ f → (a +ℤ b) +ℤ (c +ℤ d) ≡ e +ℤ f
    sum_of_four a b c d e f g h = omega (arith, ints, g, h)

-- the value of a union is at most the sum of both
union_at_most : (n : ℕ) (q : ℕ → ℤ) (s t : ℕ) → IsPolymatroid n q → s < 2 ^ n → t < 2 ^ n → q (bit_or s t) ≤ℤ (q s +ℤ q t)
union_at_most n q s t p l m =
    let sub : (q (bit_or s t) +ℤ q (bit_and s t)) ≤ℤ (q s +ℤ q t) = p.submodular s t l m in
    let least : q 0 ≤ℤ q (bit_and s t) = p.rises 0 (bit_and s t) (omega (arith, and_le_r s t, m))
    (same_from_bits (bit_and 0 (bit_and s t)) 0 (λ k. let x = bit_at_and 0 (bit_and s t) k in let z = bit_at-zero k in omega arith)) in
    omega (arith, ints, sub, least, p.empty)

-- the value of a set is at most the sum of its members' values
pub at_most_sum : (n : ℕ) (q : ℕ → ℤ) → IsPolymatroid n q → (k : ℕ) → k ≤ n → (s : ℕ) → s < 2 ^ k → q s ≤ℤ sum_of_members k q s
at_most_sum n q p zero h s l = let e : s ≡ 0 = omega arith in rw e (omega (arith, ints, p.empty))
at_most_sum n q p (suc k) h s l = by_cases (cases_lt s (2 ^ k)) (at_most_sum n q p k (omega arith))
  where
    by_cases : (s < 2 ^ k) ⊎ (2 ^ k ≤ s) → ((t : ℕ) → t < 2 ^ k → q t ≤ℤ sum_of_members k q t) → q s ≤ℤ sum_of_members (suc k) q s
    by_cases (inl m) ih =
        let z : bit_at s k ≡ 0 = bit_at_above s k k m (omega arith) in
        let none : cond (has_member s k) (q (2 ^ k)) (pos 0) ≡ pos 0 = ap (λ b. cond (nat_eq b 1) (q (2 ^ k)) (pos 0)) z in
        omega (arith, ints, ih s m, none)
    by_cases (inr m) ih =
        let t : ℕ = s - 2 ^ k in
        let tl : t < 2 ^ k = omega arith in
        let e : t + 2 ^ k ≡ s = omega arith in
        let z : bit_at t k ≡ 0 = bit_at_above t k k tl (omega arith) in
        let o : bit_at s k ≡ 1 = subst (λ (u : ℕ). bit_at u k ≡ 1) e (with_same t k z) in
        let one : cond (has_member s k) (q (2 ^ k)) (pos 0) ≡ q (2 ^ k) = ap (λ b. cond (nat_eq b 1) (q (2 ^ k)) (pos 0)) o in
        let others : sum_of_members k q s ≡ sum_of_members k q t = sum_of_members-same k q q s t
        (λ i d. subst (λ (u : ℕ). bit_at u i ≡ bit_at t i) e (with_other t k i z (λ f. absurd (omega arith)))) (λ i d f. refl) in
        let up : 2 ^ k < 2 ^ n = pow_below k n (omega arith) in
        let union : q (bit_or t (2 ^ k)) ≤ℤ (q t +ℤ q (2 ^ k)) = union_at_most n q t (2 ^ k) p (omega arith) up in
        let is : q (bit_or t (2 ^ k)) ≡ q s = ap q (with_pow t k z ∙ e) in
        omega (arith, ints, ih t tl, one, others, union, is)

-- parts of a set of independent variables are independent
pub part_independent : (n : ℕ) (q : ℕ → ℤ) (s whole : ℕ) → n ≤ 16 → IsPolymatroid n q → whole < 2 ^ n → IsInside s whole
    → q whole ≡ sum_of_members n q whole → q s ≡ sum_of_members n q s
part_independent n q s whole few p l i e =
    let sl : s < 2 ^ n = inside_below n s whole l i in
    let up : 2 ^ n ≤ 2 ^ 16 = Rattle.std.proofs.Math.Nat.pow-le-pow_right (lit< tt) few in
    let rest : ℕ = bit_and whole (2 ^ 16 - 1 - s) in
    let bits : (k : ℕ) → bit_at rest k ≡ bit_at whole k - bit_at s k = λ k. bit_without whole s k (omega arith) (omega arith) in
    let split : sum_of_members n q s +ℤ sum_of_members n q rest ≡ sum_of_members n q whole = sum_of_members-split n q s rest whole
    (λ k. let b = bits k in let w = at_most_at s whole i k in omega arith) in
    let rl : rest < 2 ^ n = inside_below n rest whole l (inside_by rest whole (λ k. let b = bits k in omega arith)) in
    let union : q (bit_or s rest) ≤ℤ (q s +ℤ q rest) = union_at_most n q s rest p sl rl in
    let all : bit_or s rest ≡ whole = same_from_bits (bit_or s rest) whole
    (λ k. let b = bits k in let w = at_most_at s whole i k in let o = bit_at_or s rest k in let f = bit_at-lt whole k in omega arith) in
    let first : q s ≤ℤ sum_of_members n q s = at_most_sum n q p n (omega arith) s sl in
    let second : q rest ≤ℤ sum_of_members n q rest = at_most_sum n q p n (omega arith) rest rl in
    omega (arith, ints, split, union, ap q all, first, second, e)

-- ---- what facts settle

-- a set with a member and without it
pub without_member : (s x rest : ℕ) → has_member s x ≡ true → ((i : ℕ) → bit_at rest i ≡ bit_at s i - bit_at (2 ^ x) i)
    → rest + bit_and (2 ^ x) s ≡ s → (rest < s) × (s ≡ bit_or rest (2 ^ x)) × IsInside (2 ^ x) s
without_member s x rest m bits e =
    let one = eqb-true (bit_at s x) 1 m in
    let shared : bit_and (2 ^ x) s ≡ 2 ^ x = and_comm (2 ^ x) s ∙ and_pow s x ∙ ap (λ k. k * 2 ^ x) one ∙ omega arith in
    let positive = Rattle.std.proofs.lemmas.Nat.pow_pos x in (
      omega arith,
      same_from_bits s (bit_or rest (2 ^ x)) (λ i. let b = bits i in let o = bit_at_or rest (2 ^ x) i
          in let w = at_most_at (2 ^ x) s shared i in let l = bit_at-lt s i in omega arith),
      shared,
    )

pub function_settles : (n : ℕ) (p : ℕ → ℤ) (s x of rest : ℕ) → x < n → s < 2 ^ n → has_member s x ≡ true
    → ((i : ℕ) → bit_at rest i ≡ bit_at s i - bit_at (2 ^ x) i) → rest + bit_and (2 ^ x) s ≡ s
    → IsInside of rest → p s ≡ p rest → Settles n p s (Function x of)
unfolding Settles
function_settles n p s x of rest h l m bits e i v q k f agree =
    let w = without_member s x rest m bits e in
    without_function n q s of x rest k h (omega (arith, w.0)) (w.1) i f ∙ agree rest w.0 ∙ sym v

-- a constant is a function of no variables
pub constant_settles : (n : ℕ) (p : ℕ → ℤ) (s x : ℕ) → Settles n p s (Function x 0) → Settles n p s (Constant x)
unfolding Settles
constant_settles n p s x h q k f agree = h q k (ap q (or_zero_l (2 ^ x)) ∙ f ∙ sym k.empty) agree

pub equal_settles : (n : ℕ) (p : ℕ → ℤ) (s x y rest exchanged : ℕ) → x < n → y < n → s < 2 ^ n → has_member s x ≡ true
    → ((i : ℕ) → bit_at rest i ≡ bit_at s i - bit_at (2 ^ x) i) → rest + bit_and (2 ^ x) s ≡ s
    → exchanged ≡ bit_or rest (2 ^ y) → exchanged < s → p s ≡ p exchanged → Settles n p s (Equal x y)
unfolding Settles
equal_settles n p s x y rest exchanged h j l m bits e is less v q k f agree =
    let w = without_member s x rest m bits e in
    let own : q (bit_or s (2 ^ y)) ≡ q s = function_adds_nothing n q s (2 ^ x) (2 ^ y) k l (pow_below y n j) (w.2) f.1 in
    let other : q (bit_or exchanged (2 ^ x)) ≡ q exchanged = function_adds_nothing n q exchanged (2 ^ y) (2 ^ x) k (omega arith)
    (pow_below x n h) (subst (IsInside (2 ^ y)) (sym is) (inside_right rest (2 ^ y))) f.0 in
    let both : bit_or s (2 ^ y) ≡ bit_or exchanged (2 ^ x) = same_from_bits (bit_or s (2 ^ y)) (bit_or exchanged (2 ^ x)) (λ i.
    let a = bit_at_or s (2 ^ y) i in let b = bit_at_or exchanged (2 ^ x) i in let c = bit_at_or rest (2 ^ y) i
    in let d = ap (λ t. bit_at t i) is in let g = bit_at_or rest (2 ^ x) i in let t = ap (λ t. bit_at t i) w.1 in omega arith) in
    sym own ∙ ap q both ∙ other ∙ agree exchanged less ∙ sym v

pub independent_settles : (n : ℕ) (p : ℕ → ℤ) (s whole : ℕ) → n ≤ most_variables → whole < 2 ^ n → IsInside s whole → ((i : ℕ) → i < n → s ≢ 2 ^ i)
    → p s ≡ sum_of_members n p s → Settles n p s (Independent whole)
unfolding Settles
independent_settles n p s whole few l i several v q k f agree =
    part_independent n q s whole (omega arith) k l i f
    ∙ sum_of_members-same n q p s s (λ j d. refl) (λ j d m. agree (2 ^ j) (below j d (power_of_member s j m)))
    ∙ sym v
  where
    below : (j : ℕ) → j < n → 2 ^ j ≤ s → 2 ^ j < s
    below j d m = by_cases (cases_lt (2 ^ j) s)
      where
        by_cases : (2 ^ j < s) ⊎ (s ≤ 2 ^ j) → 2 ^ j < s
        by_cases (inl g) = g
        by_cases (inr g) = absurd (several j d (omega arith))

pub entropy_settles : (n : ℕ) (p : ℕ → ℤ) (s : ℕ) (value : ℤ) → p s ≡ value → Settles n p s (Entropy s value)
unfolding Settles
entropy_settles n p s value v q k f agree = f ∙ sym v

-- ---- all facts

-- what a fact among others settles follows
pub follows_by_item : (n : ℕ) (p : ℕ → ℤ) (facts : List Fact) (s i : ℕ) (fact : Fact) → i < length facts → fact ≡ get_or facts i fact
    → Settles n p s fact → Follows n p facts s
unfolding Settles Follows
follows_by_item n p facts s i fact h is settles q k all agree = settles q k (subst (IsTrueOf n q) (sym is) (all i fact h)) agree

pub empty_follows : (n : ℕ) (values : List ℤ) (facts : List Fact) → Follows n (point_of values) facts 0
unfolding Follows
empty_follows n values facts q k all agree = k.empty

pub rate_by_item : (facts : List Fact) (rate i : ℕ) (fact : Fact) → i < length facts → fact ≡ get_or facts i fact → TellsRate rate fact → TellRate facts rate
unfolding TellsRate TellRate
rate_by_item facts rate i fact h is tells n p q a b = tells n p q (subst (IsTrueOf n p) (sym is) (a i fact h)) (subst (IsTrueOf n q) (sym is) (b i fact h))

pub facts_determine : (n rates : ℕ) (p : ℕ → ℤ) (facts : List Fact) → All (IsFactOf n rates p) facts
    → ((s : ℕ) → s < 2 ^ n → Follows n p facts s) → ((r : ℕ) → r < rates → TellRate facts r) → Determine n rates facts p
unfolding Follows TellRate
facts_determine n rates p facts are sets others = record {
  over = λ i d h. (are i d h).over;
  true_of = λ i d h. (are i d h).true_of;
  alone = λ q k all c h. by_cases q k all c h (cases_lt c (2 ^ n));
}
  where
    agree : (q : ℕ → ℤ) → IsPolymatroid n q → All (IsTrueOf n q) facts → (s : ℕ) → s ≤ 2 ^ n → AgreeBelow s q p
    agree q k all zero h c l = absurd (omega arith)
    agree q k all (suc s) h c l = sets c (omega arith) q k all (λ d m. agree q k all s (omega arith) d (omega arith))

    by_cases : (q : ℕ → ℤ) → IsPolymatroid n q → All (IsTrueOf n q) facts → (c : ℕ) → c < 2 ^ n + rates → (c < 2 ^ n) ⊎ (2 ^ n ≤ c) → q c ≡ p c
    by_cases q k all c h (inl l) = agree q k all (2 ^ n) (omega arith) c l
    by_cases q k all c h (inr l) =
        let e : 2 ^ n + (c - 2 ^ n) ≡ c = omega arith in
        subst (λ (d : ℕ). q d ≡ p d) e (others (c - 2 ^ n) (omega arith) n p q (λ i d m. (are i d m).true_of) all)

pub own_rate : (rate : ℕ) (value : ℤ) → TellsRate rate (Rate rate value)
unfolding TellsRate
own_rate rate value n p q a b = b ∙ sym a

-- what holds of the numbers before one and of that one
pub hold_with_next : (P : ℕ → Type 0) (n : ℕ) → ((s : ℕ) → s < n → P s) → P n → (s : ℕ) → s < n + 1 → P s
hold_with_next P n h k s l = by_cases (cases_lt s n)
  where
    by_cases : (s < n) ⊎ (n ≤ s) → P s
    by_cases (inl m) = h s m
    by_cases (inr m) = let e : n ≡ s = omega arith in subst P e k
