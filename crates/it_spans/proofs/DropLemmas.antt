-- Dropping rows leaves a hull of the same rays.
use Rattle.std.proofs.Common.{◌≡◌, ◌↔◌, ℕ, suc, ◌+◌, ◌<◌, ◌≤◌, ℤ, pos, ◌≤ℤ◌, List, [], ◌∷◌, ◌++◌, length, take, drop, get_or, Bool, true, false, nat_lt, Option, Some, None, IfNone, is_some, Result, Ok, map, if◌then◌else◌, refl, sym, ap, subst, ◌∙◌, arith, length-append, All}
use Rattle.std.specs.List.{remove}
use Rattle.std.proofs.lemmas.Bool.{ltb-true}
use Rattle.std.proofs.lemmas.List.{take-append-drop, drop_more, length-drop, length-take-le}
use Rattle.std.proofs.lemmas.List.Elements.{All-append, All-cons, All-drop, All-take}
use Rattle.it_space.specs.declared.spaces.Space.{Space}
use Rattle.it_space.proofs.ListLemmas.{drop_item}
use Rattle.it_problems.specs.Problems.{IsProblem}
use Rattle.it_space.specs.Rows.{Terms, IsOver, value}
use Rattle.it_space.specs.Spaces.{IsSpace, size_of}
use Rattle.it_eliminate.specs.Projections.{IsPointOf}
use Rattle.it_eliminate.specs.RowLines.{with_rows}
use Rattle.it_eliminate.proofs.MemberLemmas.{all_back, all_front}
use Rattle.it_eliminate.proofs.OrderLemmas.{RowHolds}
use Rattle.it_eliminate.proofs.RowLemmas.{problem_is_met, problem_limits}
use Rattle.it_check.specs.declared.verdicts.Verdict.{Verdict}
use Rattle.it_check.specs.declared.verdicts.Verdict.TheVariants.{Valid, BadScale, UnknownGenerator, NegativeWeight, Width, Mismatch, BrokenElemental, UnmetConstraint, NotViolated}
use Rattle.it_check.proofs.Truth.{valid_yes_is, yes_is_true}
use Rattle.it_hull.specs.Constants.{constants}
use Rattle.it_hull.specs.Hulls.{IsHull, UsesOnly}
use Rattle.it_hull.specs.Theorems.{AreNoSets, IsZeroAtSets}
use Rattle.it_hull.proofs.ConstantLemmas.{constants_are_problem, constants_speak_of_sets, few_constants}
use Rattle.it_hull.proofs.RateLemmas.{rates_meet, reduced_is_hull}
use Rattle.it_spans.specs.declared.types.Fault.{Fault}
use Rattle.it_spans.specs.declared.types.Fault.TheVariants.{NoRow}
use Rattle.it_spans.specs.declared.types.RowDrop.{RowDrop}
use Rattle.it_spans.specs.Drops.{DropView, after_drops, drop_fault, drop_verdict, drop_view, fault_or, verdict_fault}

-- ---- a list without an item

pub all-remove : {X : Type 0} (P : X → Type 0) (xs : List X) (i : ℕ) → All P xs → All P (remove xs i)
all-remove P xs i a = All-append P (take i xs) (drop (suc i) xs) (All-take P i xs a) (All-drop P (suc i) xs a)

all_with : {X : Type 0} (P : X → Type 0) (xs : List X) (i : ℕ) (d : X) → i < length xs → P (get_or xs i d) → All P (remove xs i) → All P xs
all_with P xs i d l own rest = subst (λ ys. All P ys) parts
    (All-append P (take i xs) (get_or xs i d ∷ drop (i + 1) xs) (all_front P (take i xs) (drop (suc i) xs) rest)
    (All-cons P (get_or xs i d) (drop (i + 1) xs) own (subst (λ n. All P (drop n xs)) (let e : suc i ≡ i + 1 = omega arith in e)
    (all_back P (take i xs) (drop (suc i) xs) rest))))
  where
    parts : take i xs ++ get_or xs i d ∷ drop (i + 1) xs ≡ xs
    parts = ap (λ ys. take i xs ++ ys) (sym (drop_more xs i d l)) ∙ take-append-drop i xs

pub fewer-remove : {X : Type 0} (xs : List X) (i : ℕ) → i < length xs → length (remove xs i) ≤ length xs
fewer-remove xs i l =
    let both : length (remove xs i) ≡ length (take i xs) + length (drop (suc i) xs) = length-append (take i xs) (drop (suc i) xs) in
    let front : length (take i xs) ≡ i = length-take-le i xs (omega (arith, l)) in
    let back = length-drop (suc i) xs in
    omega (arith, both, front, back, l)

-- ---- one drop

module _ (s : Space) (h : IsSpace s) (rows : List Terms) (d : DropView) (over : All (IsOver (size_of s)) rows) (few : length rows ≤ 65535)
    (listed : d.row < length rows) where
  abbrev others : List Terms
  others = remove rows d.row

  abbrev own : Terms
  own = get_or rows d.row []

  -- the problem under which the row is judged
  drop_problem : IsProblem (with_rows (constants s) others)
  drop_problem = problem_limits (constants s) others (constants_are_problem s h) (let k = few_constants s h in omega (arith, k))
      (let k = fewer-remove rows d.row listed in omega (arith, k, few)) (all-remove (IsOver (size_of s)) rows d.row over)

  rows_alike : drop_verdict s rows d ≡ Valid → (x : ℕ → ℤ) → IsZeroAtSets s.variables x → IsPointOf rows x ↔ IsPointOf others x
  rows_alike valid x zero = (λ a. all-remove (RowHolds x) rows d.row a, λ a. all_with (RowHolds x) rows d.row [] listed (own_holds a) a)
    where
      own_holds : IsPointOf others x → pos 0 ≤ℤ value own x
      own_holds a =
          let met = rates_meet (constants s) x (constants_speak_of_sets s) zero in
          let certified = (valid_yes_is (with_rows (constants s) others) own d.proof drop_problem (over d.row [] listed)).0 valid in
          yes_is_true (with_rows (constants s) others) own d.proof drop_problem (over d.row [] listed) certified.0 x met.0
          (problem_is_met x (constants s) others met.1 a)

  pub drop_leaves_hull : (kept : List ℕ) (rays : List (List ℤ)) → AreNoSets s.variables kept → drop_verdict s rows d ≡ Valid
      → IsHull kept rows rays → IsHull kept others rays
  drop_leaves_hull kept rays rates valid hull = reduced_is_hull s.variables kept rows others rays rates
      (all-remove (UsesOnly kept) rows d.row hull.over) (rows_alike valid) hull

-- ---- drops one after the other

is_valid : (ray number : ℕ) (v : Verdict) → verdict_fault ray number v ≡ None → v ≡ Valid
is_valid ray number Valid e = refl
is_valid ray number (BadScale x) e = absurd (cc)
is_valid ray number (UnknownGenerator i) e = absurd (cc)
is_valid ray number (NegativeWeight i) e = absurd (cc)
is_valid ray number (Width c) e = absurd (cc)
is_valid ray number (Mismatch c x y) e = absurd (cc)
is_valid ray number (BrokenElemental i x) e = absurd (cc)
is_valid ray number (UnmetConstraint i x) e = absurd (cc)
is_valid ray number (NotViolated x) e = absurd (cc)

-- a drop without a fault is of a row of the list, and valid
no_fault : (s : Space) (ray number : ℕ) (rows : List Terms) (d : DropView) → drop_fault s ray number rows d ≡ None
    → (d.row < length rows) × (drop_verdict s rows d ≡ Valid)
no_fault s ray number rows d e = by_test (nat_lt d.row (length rows)) refl e
  where
    by_test : (b : Bool) → nat_lt d.row (length rows) ≡ b → (if b then verdict_fault ray number (drop_verdict s rows d) else Some (NoRow ray number)) ≡ None
        → (d.row < length rows) × (drop_verdict s rows d ≡ Valid)
    by_test true l k = (ltb-true d.row (length rows) l, is_valid ray number (drop_verdict s rows d) k)
    by_test false l k = absurd (cc)

abbrev left_by : List Terms → Result (List Terms) Fault
left_by rows = Ok rows

-- what holds of the rows, and still holds when a row is dropped, holds of the rows that drops leave
pub drops_keep : (s : Space) (ray : ℕ) (P : List Terms → Type 0) → ((rows : List Terms) (d : DropView) → P rows → d.row < length rows
    → drop_verdict s rows d ≡ Valid → P (remove rows d.row))
    → (number : ℕ) (rows : List Terms) (ds : List DropView) (left : List Terms) → P rows → after_drops s ray number rows ds ≡ Ok left → P left
drops_keep s ray P goes number rows [] left p e = subst P (same_rows rows left e) p
  where
    same_rows : (xs ys : List Terms) → left_by xs ≡ left_by ys → xs ≡ ys
    same_rows xs ys k = cc
drops_keep s ray P goes number rows (d ∷ ds) left p e = by_fault (drop_fault s ray number rows d) refl e
    (λ l v k. drops_keep s ray P goes (number + 1) (remove rows d.row) ds left (goes rows d p l v) k)
  where
    by_fault : (f : Option Fault) → drop_fault s ray number rows d ≡ f → fault_or f (after_drops s ray (number + 1) (remove rows d.row) ds) ≡ Ok left
        → (d.row < length rows → drop_verdict s rows d ≡ Valid → after_drops s ray (number + 1) (remove rows d.row) ds ≡ Ok left → P left) → P left
    by_fault None none k later = let own = no_fault s ray number rows d none in later own.0 own.1 k
    by_fault (Some fault) some k later = absurd (cc)

-- ---- the loop over the drops

-- rows are left by the first i drops, from the rows begun
pub record AreUnderWay (s : Space) (ray : ℕ) (begun : List Terms) (drops : List RowDrop) (i : ℕ) (rows : List Terms) : Type 0 where
  pub leads : after_drops s ray i rows (map drop_view (drop i drops)) ≡ after_drops s ray 0 begun (map drop_view drops)
  pub over : All (IsOver (size_of s)) rows
  pub few : length rows ≤ 65535

module _ (s : Space) (ray : ℕ) (begun rows : List Terms) (drops : List RowDrop) (i : ℕ) (u : AreUnderWay s ray begun drops i rows) where
  module _ (d : RowDrop) (l : i < length drops) (at : d ≡ get_or drops i d) where
    abbrev later : Result (List Terms) Fault
    later = after_drops s ray (i + 1) (remove rows d.row) (map drop_view (drop (i + 1) drops))

    next_drop : fault_or (drop_fault s ray i rows (drop_view d)) later ≡ after_drops s ray 0 begun (map drop_view drops)
    next_drop = sym (ap (λ (ds : List RowDrop). after_drops s ray i rows (map drop_view ds)) (drop_item drops i d l at)) ∙ u.leads

    pub drop_goes : (f : Option Fault) (left : List Terms) → f ≡ drop_fault s ray i rows (drop_view d) → is_some f ≡ false
        → IfNone f (left ≡ remove rows d.row) → AreUnderWay s ray begun drops (i + 1) left
    drop_goes (Some fault) left e n gone = absurd (cc)
    drop_goes None left e n gone =
        let own = no_fault s ray i rows (drop_view d) (sym e) in
        subst (λ (rs : List Terms). AreUnderWay s ray begun drops (i + 1) rs) (sym gone) (record {
          leads = ap (λ (o : Option Fault). fault_or o later) e ∙ next_drop;
          over = all-remove (IsOver (size_of s)) rows d.row u.over;
          few = (let k = fewer-remove rows d.row own.0 in let few = u.few in omega (arith, k, few));
        })
