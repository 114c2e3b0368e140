-- The way from a set to its closure.
use Rattle.std.proofs.Common.{◌≡◌, ℕ, zero, suc, ◌+◌, ◌^◌, ◌<◌, ◌≤◌, List, [], ◌∷◌, Option, Some, None, Bool, true, false, cond, bit_or, refl, sym, ap, subst, ◌∙◌, arith, All}
use Rattle.std.proofs.lemmas.Nat.{or_lt}
use Rattle.it_space.specs.Sets.{IsInside}
use Rattle.std.specs.List.{AllByRecursion as Every}
use Rattle.it_space.proofs.EveryLemmas.{every_of}
use Rattle.it_space.proofs.OptionLemmas.{none_is_not_some, some_same}
use Rattle.it_closure.specs.declared.dependences.Dependence.{Dependence}
use Rattle.it_closure.specs.Closures.{IsClosed, is_open, closure, IsClosureOf, first_open, way_on, way_for, way}
use Rattle.it_closure.proofs.Insides.{inside-refl, inside-trans, inside-antisym, or_inside, inside_left, grows}
use Rattle.it_closure.proofs.Meets.{Keeps, open_from_test, closed_of, closure_is}

-- no dependence is open
none_open : (ds : List Dependence) (a : ℕ) → first_open ds a ≡ None → Every (λ d. is_open d a ≡ false) ds
none_open [] a e = tt
none_open (d ∷ ds) a e = by_test (is_open d a) refl (λ f. none_open ds a f)
  where
    some_is_not_none : Some d ≡ None → ⊥
    some_is_not_none e = cc

    by_test : (b : Bool) → is_open d a ≡ b → (first_open ds a ≡ None → Every (λ d. is_open d a ≡ false) ds) → Every (λ d. is_open d a ≡ false) (d ∷ ds)
    by_test true f ih = absurd (some_is_not_none (sym (ap (λ x. cond x (Some d) (first_open ds a)) f) ∙ e))
    by_test false f ih = (f, ih (sym (ap (λ x. cond x (Some d) (first_open ds a)) f) ∙ e))

-- the first that is open is one of the list
pub some_open : (P : Dependence → Type 0) (ds : List Dependence) (a : ℕ) (o : Dependence) → Every P ds → first_open ds a ≡ Some o → P o × (is_open o a ≡ true)
some_open P [] a o k e = absurd (none_is_not_some o e)
some_open P (d ∷ ds) a o k e = by_test (is_open d a) refl (λ f. some_open P ds a o k.1 f)
  where
    by_test : (b : Bool) → is_open d a ≡ b → (first_open ds a ≡ Some o → P o × (is_open o a ≡ true)) → P o × (is_open o a ≡ true)
    by_test true f ih = let s : d ≡ o = some_same d o (sym (ap (λ x. cond x (Some d) (first_open ds a)) f) ∙ e)
        in (subst P s k.0, subst (λ (x : Dependence). is_open x a ≡ true) s f)
    by_test false f ih = ih (sym (ap (λ x. cond x (Some d) (first_open ds a)) f) ∙ e)

pub closed_where : (ds : List Dependence) (a : ℕ) → first_open ds a ≡ None → IsClosed ds a
closed_where ds a e = closed_of ds a (none_open ds a e)

-- what an open dependence of the list is
pub record IsOpenOf (n : ℕ) (ds : List Dependence) (a : ℕ) (d : Dependence) : Type 0 where
  pub below : d.to < 2 ^ n
  pub known : IsInside d.from a
  pub new : ¬ (IsInside d.to a)
  pub kept : (c : ℕ) → IsClosed ds c → Keeps c d

pub open_where : (n : ℕ) (ds : List Dependence) (a : ℕ) (o : Dependence) → All (λ d. d.to < 2 ^ n) ds → first_open ds a ≡ Some o → IsOpenOf n ds a o
open_where n ds a o b e =
    let s = some_open (λ d. d.to < 2 ^ n) ds a o (every_of (λ d. d.to < 2 ^ n) ds b) e in
    let w = open_from_test a o s.1 in
    record {
      below = s.0;
      known = w.0;
      new = w.1;
      kept = λ c k. (some_open (Keeps c) ds a o (every_of (Keeps c) ds k) e).0;
    }

-- What holds of a set and still holds when an open dependence adds its variables holds of the closure.
holds_by_turns : (n : ℕ) (ds : List Dependence) (s : ℕ) (P : ℕ → Type 0) (Q : Dependence → Type 0) → All (λ d. d.to < 2 ^ n) ds → All Q ds → s < 2 ^ n
    → ((a : ℕ) (d : Dependence) → a < 2 ^ n → IsInside s a → IsOpenOf n ds a d → Q d → P a → P (bit_or a d.to))
    → (turns a : ℕ) → 2 ^ n ≤ a + turns → a < 2 ^ n → IsInside s a → IsInside a (closure n ds s) → P a → P (closure n ds s)
holds_by_turns n ds s P Q b q l step zero a h k i j p = absurd (omega arith)
holds_by_turns n ds s P Q b q l step (suc turns) a h k i j p = by_option (first_open ds a) refl (λ c. holds_by_turns n ds s P Q b q l step turns c)
  where
    closure_of_set : IsClosureOf n ds s (closure n ds s)
    closure_of_set = closure_is n ds s b l

    by_option : (o : Option Dependence) → first_open ds a ≡ o
        → ((c : ℕ) → 2 ^ n ≤ c + turns → c < 2 ^ n → IsInside s c → IsInside c (closure n ds s) → P c → P (closure n ds s)) → P (closure n ds s)
    by_option None e ih = subst P (inside-antisym a (closure n ds s) j (closure_of_set.least a k i (closed_where ds a e))) p
    by_option (Some d) e ih =
        let o : IsOpenOf n ds a d = open_where n ds a d b e in
        let more : a < bit_or a d.to = grows a d.to o.new in
        ih (bit_or a d.to) (omega arith) (or_lt n a d.to k o.below) (inside-trans s a (bit_or a d.to) i (inside_left a d.to))
        (or_inside a d.to (closure n ds s) j (o.kept (closure n ds s) closure_of_set.closed
        (inside-trans d.from a (closure n ds s) o.known j))) (step a d k i o (some_open Q ds a d (every_of Q ds q) e).0 p)

pub holds_of_closure : (n : ℕ) (ds : List Dependence) (s : ℕ) (P : ℕ → Type 0) (Q : Dependence → Type 0) → All (λ d. d.to < 2 ^ n) ds → All Q ds → s < 2 ^ n
    → ((a : ℕ) (d : Dependence) → a < 2 ^ n → IsInside s a → IsOpenOf n ds a d → Q d → P a → P (bit_or a d.to)) → P s → P (closure n ds s)
holds_of_closure n ds s P Q b q l step p = holds_by_turns n ds s P Q b q l step (2 ^ n) s (omega arith) l (inside-refl s) (closure_is n ds s b l).holds p

-- the way, set by set
enough_turns : (n : ℕ) (ds : List Dependence) → All (λ d. d.to < 2 ^ n) ds → (t u a : ℕ) → a < 2 ^ n → 2 ^ n ≤ a + t → 2 ^ n ≤ a + u
    → way_for t ds a ≡ way_for u ds a
enough_turns n ds b zero u a l h k = absurd (omega arith)
enough_turns n ds b (suc t) zero a l h k = absurd (omega arith)
enough_turns n ds b (suc t) (suc u) a l h k = by_option (first_open ds a) refl (λ c. enough_turns n ds b t u c)
  where
    by_option : (o : Option Dependence) → first_open ds a ≡ o → ((c : ℕ) → c < 2 ^ n → 2 ^ n ≤ c + t → 2 ^ n ≤ c + u → way_for t ds c ≡ way_for u ds c)
        → way_on a (first_open ds a) (λ b. way_for t ds b) ≡ way_on a (first_open ds a) (λ b. way_for u ds b)
    by_option None e ih = rw e refl
    by_option (Some d) e ih =
        let o : IsOpenOf n ds a d = open_where n ds a d b e in
        let more : a < bit_or a d.to = grows a d.to o.new in
        rw e (ap (λ w. (a, d) ∷ w) (ih (bit_or a d.to) (or_lt n a d.to l o.below) (omega arith) (omega arith)))

pub way-end : (n : ℕ) (ds : List Dependence) (a : ℕ) → a < 2 ^ n → first_open ds a ≡ None → way n ds a ≡ []
unfolding way
way-end n ds a l e = for_each (2 ^ n) (omega arith)
  where
    for_each : (t : ℕ) → 0 < t → way_for t ds a ≡ []
    for_each zero h = absurd (omega arith)
    for_each (suc t) h = rw e refl

pub way-more : (n : ℕ) (ds : List Dependence) (a : ℕ) (d : Dependence) → All (λ d. d.to < 2 ^ n) ds → a < 2 ^ n → first_open ds a ≡ Some d
    → way n ds a ≡ (a, d) ∷ way n ds (bit_or a d.to)
unfolding way
way-more n ds a d b l e = for_each (2 ^ n) (omega arith) (omega arith)
  where
    open_dependence : IsOpenOf n ds a d
    open_dependence = open_where n ds a d b e

    for_each : (t : ℕ) → 0 < t → 2 ^ n ≤ a + t → way_for t ds a ≡ (a, d) ∷ way_for (2 ^ n) ds (bit_or a d.to)
    for_each zero h k = absurd (omega arith)
    for_each (suc t) h k = let more : a < bit_or a d.to = grows a d.to open_dependence.new in
        rw e (ap (λ w. (a, d) ∷ w) (enough_turns n ds b t (2 ^ n) (bit_or a d.to) (or_lt n a d.to l open_dependence.below) (omega arith) (omega arith)))
