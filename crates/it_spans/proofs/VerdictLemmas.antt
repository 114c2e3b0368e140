-- The verdict on rows: where they are those of the hull, and the first place at which they aren't.
use Rattle.std.proofs.Common.{zero, suc, ◌≤◌, ◌≡◌, ℕ, ◌+◌, ◌<◌, List, [], ◌∷◌, length, drop, Bool, true, false, ◌&&◌, eq-eqb, Option, Some, None, Result, Ok, Err, if◌then◌else◌, refl, sym, ap, ap₂, subst, ◌∙◌, arith}
use Rattle.std.proofs.lemmas.Bool.Decides.{Decides-int_eq}
use Rattle.std.proofs.lemmas.List.{drop_all, length-drop}
use Rattle.it_space.specs.Rows.{Terms}
use Rattle.it_eliminate.specs.Elimination.{is_same}
use Rattle.it_eliminate.proofs.OrderLemmas.{same_rows}
use Rattle.it_spans.specs.declared.types.Fault.{Fault}
use Rattle.it_spans.specs.declared.types.Frame.{Frame}
use Rattle.it_spans.specs.declared.types.HullVerdict.TheVariants.{Valid}
use Rattle.it_spans.specs.HullRows.{same_first}
use Rattle.it_spans.specs.Spans.{SpanEnds, StepView, rays_of}
use Rattle.it_spans.specs.Theorems.{AreKept, IsFrame, ValidHull}
use Rattle.it_spans.specs.Verdicts.{VerdictIs, first_difference, place_verdict, rows_verdict}
use Rattle.it_spans.specs.declared.types.HullVerdict.{HullVerdict}
use Rattle.it_hull.specs.Hulls.{IsHull}
use Rattle.it_spans.proofs.SpanLemmas.{spans_are_right}

-- ---- lists without a difference

same_itself : (xs : Terms) → is_same xs xs ≡ true
same_itself [] = refl
same_itself (x ∷ xs) = ap₂ (λ a b. a && b) (ap₂ (λ a b. a && b) (eq-eqb x.0 x.0 refl) ((Decides-int_eq x.1 x.1).1 refl)) (same_itself xs)

no_difference : (place : ℕ) (xs : List Terms) → first_difference place xs xs ≡ None
no_difference place [] = refl
no_difference place (x ∷ xs) = ap (λ b. if b then first_difference (place + 1) xs xs else Some place) (same_itself x) ∙ no_difference (place + 1) xs

same_lists : (place : ℕ) (xs ys : List Terms) → first_difference place xs ys ≡ None → xs ≡ ys
same_lists place [] [] e = refl
same_lists place [] (y ∷ ys) e = absurd (cc)
same_lists place (x ∷ xs) [] e = absurd (cc)
same_lists place (x ∷ xs) (y ∷ ys) e = by_test (is_same x y) refl e (same_lists (place + 1) xs ys)
  where
    by_test : (b : Bool) → is_same x y ≡ b → (if b then first_difference (place + 1) xs ys else Some place) ≡ None
        → (first_difference (place + 1) xs ys ≡ None → xs ≡ ys) → x ∷ xs ≡ y ∷ ys
    by_test true same k rest = ap₂ (λ (z : Terms) (zs : List Terms). z ∷ zs) (same_rows x y same) (rest k)
    by_test false other k rest = absurd (cc)

-- ---- the law

abbrev left_by : List Terms → Result (List Terms) Fault
left_by rows = Ok rows

valid_end : (rows : List Terms) (end : Result (List Terms) Fault) → Valid ≡ rows_verdict rows end → end ≡ Ok rows
valid_end rows (Ok hull) e = by_place (first_difference 0 hull rows) refl e
  where
    by_place : (o : Option ℕ) → first_difference 0 hull rows ≡ o → Valid ≡ place_verdict o → left_by hull ≡ left_by rows
    by_place None none k = ap left_by (same_lists 0 hull rows none)
    by_place (Some place) some k = absurd (cc)
valid_end rows (Err fault) e = absurd (cc)

pub valid_span : (f : Frame) (kept : List ℕ) (steps : List StepView) (rows : List Terms) → VerdictIs f kept steps rows Valid → SpanEnds f kept steps (Ok rows)
valid_span f kept steps rows v = subst (λ (o : Result (List Terms) Fault). SpanEnds f kept steps o) (valid_end rows v.end v.verdict_is) v.ends

pub valid_rows : (f : Frame) (kept : List ℕ) (steps : List StepView) (rows : List Terms) (end : Result (List Terms) Fault)
    (verdict : HullVerdict) → IsFrame f → AreKept f kept → SpanEnds f kept steps end
    → verdict ≡ rows_verdict rows end → verdict ≡ Valid → IsHull kept rows (rays_of steps)
valid_rows f kept steps rows end verdict h k e is valid = spans_are_right f kept steps (Ok rows) h k
    (subst (λ (o : Result (List Terms) Fault). SpanEnds f kept steps o) (valid_end rows end (sym valid ∙ is)) e)

pub valid_hull : ValidHull
valid_hull f kept steps rows = (
  valid_span f kept steps rows,
  λ e. record { end = Ok rows; ends = e; verdict_is = ap place_verdict (sym (no_difference 0 rows)) },
)

-- ---- the loop over the places

-- at lists that begin with one row the rest counts
difference_more : (place : ℕ) (xs ys : List Terms) → same_first xs ys ≡ true
    → first_difference place xs ys ≡ first_difference (place + 1) (drop 1 xs) (drop 1 ys)
difference_more place [] ys e = absurd (cc)
difference_more place (x ∷ xs) [] e = absurd (cc)
difference_more place (x ∷ xs) (y ∷ ys) e = ap (λ b. if b then first_difference (place + 1) xs ys else Some place) e

-- at others this is the place, unless the first is at its end
difference_here : (place : ℕ) (xs ys : List Terms) → same_first xs ys ≡ false → 0 < length xs → first_difference place xs ys ≡ Some place
difference_here place [] ys e some = absurd (omega (arith, some))
difference_here place (x ∷ xs) [] e some = refl
difference_here place (x ∷ xs) (y ∷ ys) e some = ap (λ b. if b then first_difference (place + 1) xs ys else Some place) e

drop_one : (n : ℕ) (xs : List Terms) → drop 1 (drop n xs) ≡ drop (n + 1) xs
drop_one zero xs = refl
drop_one (suc n) [] = sym (drop_all (suc n + 1) [] (omega arith))
drop_one (suc n) (x ∷ xs) = drop_one n xs ∙ ap (λ k. drop k (x ∷ xs)) (let e : suc (n + 1) ≡ suc n + 1 = omega arith in e)

pub difference_goes : (xs ys : List Terms) (place : ℕ) (whole : Option ℕ) → same_first (drop place xs) (drop place ys) ≡ true
    → first_difference place (drop place xs) (drop place ys) ≡ whole
    → first_difference (place + 1) (drop (place + 1) xs) (drop (place + 1) ys) ≡ whole
difference_goes xs ys place whole same e = sym (difference_more place (drop place xs) (drop place ys) same
    ∙ ap₂ (λ (us vs : List Terms). first_difference (place + 1) us vs) (drop_one place xs) (drop_one place ys)) ∙ e

pub difference_found : (xs ys : List Terms) (place : ℕ) (whole : Option ℕ) → place < length xs
    → same_first (drop place xs) (drop place ys) ≡ false → first_difference place (drop place xs) (drop place ys) ≡ whole
    → Some place ≡ whole
difference_found xs ys place whole l other e = sym (difference_here place (drop place xs) (drop place ys) other
    (let n = length-drop place xs in omega (arith, n, l))) ∙ e

-- after the last row of the first list
at_end : (xs ys : List Terms) (place : ℕ) → length xs ≤ place → first_difference place (drop place xs) (drop place ys)
    ≡ first_difference place [] (drop place ys)
at_end xs ys place l = ap (λ (us : List Terms). first_difference place us (drop place ys)) (drop_all place xs l)

pub difference_last : (xs ys : List Terms) (place : ℕ) (whole : Option ℕ) → length xs ≤ place → place ≤ length xs → length xs < length ys
    → first_difference place (drop place xs) (drop place ys) ≡ whole → Some (length xs) ≡ whole
difference_last xs ys place whole l m more e = ap (λ k. Some k) (let same : length xs ≡ place = omega (arith, l, m) in same)
    ∙ sym (by_rest (drop place ys) (let n = length-drop place ys in omega (arith, n, m, more))) ∙ sym (at_end xs ys place l) ∙ e
  where
    by_rest : (zs : List Terms) → 0 < length zs → first_difference place [] zs ≡ Some place
    by_rest [] some = absurd (omega (arith, some))
    by_rest (z ∷ zs) some = refl
