-- Expansions have elemental inequalities of the list alone.
use Rattle.std.proofs.Common.{◌≡◌, ◌≢◌, ◌⊎◌, inl, inr, ℕ, zero, suc, ◌+◌, ◌-◌, ◌^◌, ◌<◌, List, [], ◌∷◌, map, Bool, true, false, cond, nat_lt, bit_and, refl, sym, ap, subst, ◌∙◌, arith, length}
use Rattle.std.specs.List.{filter, AllByRecursion as Every}
use Rattle.std.specs.Int.{bit_at}
use Rattle.std.proofs.lemmas.Bool.{cases_order}
use Rattle.it_space.specs.Sets.{has_member}
use Rattle.it_polymatroid.specs.Elementals.{Elemental, Mutual, elementals, elemental_at, span}
use Rattle.it_space.proofs.EveryLemmas.{every-append, every-map, every-same}
use Rattle.it_polymatroid.proofs.Instances.{with_lt}
use Rattle.it_elemental.specs.Views.{IsElemental}
use Rattle.it_elemental.specs.Expansions.{members, mutual_between, variable_expansion, mutual_expansion, conditional_expansion}
use Rattle.it_elemental.proofs.Members.{not_both, member_bit, with_other, with_same, apart-with, apart-comm, apart-less}
use Rattle.it_elemental.proofs.ExpansionLemmas.{IsFilling, filling-start, filling-with, filling-without}
use Rattle.it_elemental.specs.Indexes.{elemental_index}
use Rattle.it_elemental.proofs.IndexLemmas.{at_index}
use Rattle.it_lift.proofs.Differences.{rest_apart}

-- two variables and a set without them, in either order
mutual_is_elemental : (n x y c : ℕ) → x < n → y < n → c < 2 ^ n → bit_at c x ≡ 0 → bit_at c y ≡ 0 → x ≢ y → IsElemental n (mutual_between x y c)
mutual_is_elemental n x y c hx hy hc zx zy d = by_cases (cases_order x y)
  where
    by_cases : (x ≡ y) ⊎ ((x < y) ⊎ (y < x)) → IsElemental n (cond (nat_lt x y) (Mutual x y c) (Mutual y x c))
    by_cases (inl e) = absurd (d e)
    by_cases (inr (inl l)) = let t : nat_lt x y ≡ true = grind (arith, Rattle.std.proofs.lemmas.Bool.Decides.nat_tests) in
        subst (λ (b : Bool). IsElemental n (cond b (Mutual x y c) (Mutual y x c))) (sym t) (l, hy, hc, zx, zy)
    by_cases (inr (inr l)) = let t : nat_lt x y ≡ false = grind (arith, Rattle.std.proofs.lemmas.Bool.Decides.nat_tests) in
        subst (λ (b : Bool). IsElemental n (cond b (Mutual x y c) (Mutual y x c))) (sym t) (l, hx, hc, zy, zx)

member_differs : (b x i : ℕ) → bit_at b x ≡ 0 → bit_at b i ≡ 1 → i ≢ x
member_differs b x i z o e = absurd (zero_is_not_one (bit_at b x) (bit_at b i) z o (ap (bit_at b) e))
  where
    zero_is_not_one : (u v : ℕ) → u ≡ 0 → v ≡ 1 → v ≡ u → ⊥
    zero_is_not_one u v p q r = omega arith

variable_expansion_valid : (n x b count i c : ℕ) → i + count ≡ n → x < n → IsFilling n b i c → bit_at b x ≡ 0 → bit_at c x ≡ 0
    → Every (IsElemental n) (variable_expansion x (filter (has_member b) (span i count)) c)
variable_expansion_valid n x b zero i c e h f bx cx = tt
variable_expansion_valid n x b (suc count) i c e h f bx cx = by_test (has_member b i) refl
    (λ d g z. variable_expansion_valid n x b count (i + 1) d (omega arith) h g bx z)
  where
    rest : List ℕ
    rest = filter (has_member b) (span (i + 1) count)

    by_test : (t : Bool) → has_member b i ≡ t → ((d : ℕ) → IsFilling n b (i + 1) d → bit_at d x ≡ 0 → Every (IsElemental n) (variable_expansion x rest d))
        → Every (IsElemental n) (variable_expansion x (cond (has_member b i) (i ∷ rest) rest) c)
    by_test true m ih =
        let one : bit_at b i ≡ 1 = member_bit b i m in
        let lacks : bit_at c i ≡ 0 = f.without_later i (omega arith) one in
        let diff : i ≢ x = member_differs b x i bx one in
        subst (λ (t : Bool). Every (IsElemental n) (variable_expansion x (cond t (i ∷ rest) rest) c)) (sym m) (
          mutual_is_elemental n x i c h (omega arith) f.below cx lacks (λ q. diff (sym q)),
          ih (c + 2 ^ i)
              (filling-with n b i c (omega arith) one f) (with_other c i x lacks diff ∙ cx),
        )
    by_test false m ih = subst (λ (t : Bool). Every (IsElemental n) (variable_expansion x (cond t (i ∷ rest) rest) c)) (sym m)
        (ih c (filling-without n b i c f) cx)

mutual_valid_from : (n a b count i c : ℕ) → i + count ≡ n → IsFilling n a i c → bit_and b c ≡ 0 → bit_and a b ≡ 0
    → Every (IsElemental n) (mutual_expansion (filter (has_member a) (span i count)) (members n b) c)
mutual_valid_from n a b zero i c e f bc ab = tt
mutual_valid_from n a b (suc count) i c e f bc ab = by_test (has_member a i) refl (λ d g z. mutual_valid_from n a b count (i + 1) d (omega arith) g z ab)
  where
    rest : List ℕ
    rest = filter (has_member a) (span (i + 1) count)

    by_test : (t : Bool) → has_member a i ≡ t → ((d : ℕ) → IsFilling n a (i + 1) d → bit_and b d ≡ 0
        → Every (IsElemental n) (mutual_expansion rest (members n b) d))
        → Every (IsElemental n) (mutual_expansion (cond (has_member a i) (i ∷ rest) rest) (members n b) c)
    by_test true m ih =
        let one : bit_at a i ≡ 1 = member_bit a i m in
        let lacks : bit_at c i ≡ 0 = f.without_later i (omega arith) one in
        let out : bit_at b i ≡ 0 = not_both a b i ab one in
        subst (λ (t : Bool). Every (IsElemental n) (mutual_expansion (cond t (i ∷ rest) rest) (members n b) c)) (sym m)
        (every-append (IsElemental n) (variable_expansion i (members n b) c) (mutual_expansion rest (members n b) (c + 2 ^ i))
        (variable_expansion_valid n i b n 0 c (omega arith) (omega arith) (filling-start n b c f.below bc) out lacks)
        (ih (c + 2 ^ i) (filling-with n a i c (omega arith) one f) (apart-with b c i bc out lacks)))
    by_test false m ih = subst (λ (t : Bool). Every (IsElemental n) (mutual_expansion (cond t (i ∷ rest) rest) (members n b) c)) (sym m)
        (ih c (filling-without n a i c f) bc)

pub mutual_valid : (n a b c : ℕ) → c < 2 ^ n → bit_and a c ≡ 0 → bit_and b c ≡ 0 → bit_and a b ≡ 0
    → Every (IsElemental n) (mutual_expansion (members n a) (members n b) c)
mutual_valid n a b c l ac bc ab = mutual_valid_from n a b n 0 c (omega arith) (filling-start n a c l ac) bc ab

conditional_valid_from : (n a count i c : ℕ) → i + count ≡ n → IsFilling n a i c
    → Every (IsElemental n) (conditional_expansion n (filter (has_member a) (span i count)) c)
conditional_valid_from n a zero i c e f = tt
conditional_valid_from n a (suc count) i c e f = by_test (has_member a i) refl (λ d g. conditional_valid_from n a count (i + 1) d (omega arith) g)
  where
    rest : List ℕ
    rest = filter (has_member a) (span (i + 1) count)

    by_test : (t : Bool) → has_member a i ≡ t → ((d : ℕ) → IsFilling n a (i + 1) d → Every (IsElemental n) (conditional_expansion n rest d))
        → Every (IsElemental n) (conditional_expansion n (cond (has_member a i) (i ∷ rest) rest) c)
    by_test true m ih =
        let one : bit_at a i ≡ 1 = member_bit a i m in
        let lacks : bit_at c i ≡ 0 = f.without_later i (omega arith) one in
        let below : c + 2 ^ i < 2 ^ n = with_lt n c i (omega arith) f.below lacks in
        let o : ℕ = 2 ^ n - 1 - (c + 2 ^ i) in
        let apart : bit_and o (c + 2 ^ i) ≡ 0 = rest_apart n (c + 2 ^ i) below in
        subst (λ (t : Bool). Every (IsElemental n) (conditional_expansion n (cond t (i ∷ rest) rest) c)) (sym m) (
          omega arith,
          every-append (IsElemental n) (variable_expansion i (members n o) c) (conditional_expansion n rest (c + 2 ^ i))
              (variable_expansion_valid n i o n 0 c (omega arith) (omega arith) (filling-start n o c f.below (apart-less o c i lacks apart))
              (not_both (c + 2 ^ i) o i (apart-comm o (c + 2 ^ i) apart) (with_same c i lacks)) lacks)
              (ih (c + 2 ^ i) (filling-with n a i c (omega arith) one f)),
        )
    by_test false m ih = subst (λ (t : Bool). Every (IsElemental n) (conditional_expansion n (cond t (i ∷ rest) rest) c)) (sym m)
        (ih c (filling-without n a i c f))

pub conditional_valid : (n a k : ℕ) → k < 2 ^ n → bit_and a k ≡ 0 → Every (IsElemental n) (conditional_expansion n (members n a) k)
conditional_valid n a k l ak = conditional_valid_from n a n 0 k (omega arith) (filling-start n a k l ak)

-- so they are at their numbers
pub back_listed : (n : ℕ) (es : List Elemental) → Every (IsElemental n) es → map (elemental_at n) (map (elemental_index n) es) ≡ es
back_listed n [] v = refl
back_listed n (e ∷ es) v = Rattle.std.proofs.Common.ap₂ (λ x xs. x ∷ xs) (at_index n e v.0).1 (back_listed n es v.1)

pub numbers_in_list : (n : ℕ) (es : List Elemental) → Every (IsElemental n) es → Every (λ i. i < length (elementals n)) (map (elemental_index n) es)
numbers_in_list n es v = every-map (λ i. i < length (elementals n)) (elemental_index n) es
    (every-same (IsElemental n) (λ e. elemental_index n e < length (elementals n)) es (λ e w. (at_index n e w).0) v)
