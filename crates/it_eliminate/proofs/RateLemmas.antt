-- All listed rates: no row has one of them, and a point is kept exactly where it extends to them.
use Rattle.std.proofs.Common.{◌≡◌, ◌≢◌, ◌⊎◌, inl, inr, ⊎_elim, ◌↔◌, ℕ, zero, suc, ◌*◌, ◌≤◌, ℤ, pos, ◌+ℤ◌, ◌*ℤ◌, ◌≤ℤ◌, refl, sym, ap, subst, ◌∙◌, arith, List, [], ◌∷◌, Bool, true, false, cond, nat_eq, ne_eqb}
use Rattle.std.specs.Prelude.{Contains}
use Rattle.std.proofs.lemmas.Int.{ints}
use Rattle.std.proofs.lemmas.List.Elements.{All-nil, All-cons, All-head, All-tail}
use Rattle.std.proofs.lemmas.Bool.{eqb-false, eqb-true}
use Rattle.it_number.proofs.Integers.{mul_assoc, sum_of_multiples}
use Rattle.it_number.proofs.SignLemmas.{least_by_multiple}
use Rattle.it_space.specs.Rows.{Terms, coefficient, value}
use Rattle.it_space.specs.Cancelling.{times_up, times_down}
use Rattle.it_space.proofs.TermLemmas.{coefficient-cancelled_row}
use Rattle.it_eliminate.proofs.OrderLemmas.{RowHolds, RowLacks, in-ordered_rows, lacks-ordered_rows}
use Rattle.it_eliminate.proofs.MemberLemmas.{Member, member_of, contains_of, all_member, member_all}
use Rattle.it_eliminate.proofs.StepLemmas.{results_all, next_lacks, step_exact}
use Rattle.it_eliminate.specs.Elimination.{results, next_list, list_after, ordered_rows}
use Rattle.it_eliminate.specs.Projections.{IsPointOf, Extends, LacksCoordinate}

-- ---- eliminated coordinates stay away

mix_none : (a b : ℕ) (x y : ℤ) → x ≡ pos 0 → y ≡ pos 0 → pos a *ℤ x +ℤ pos b *ℤ y ≡ pos 0
mix_none a b x y e f = ap (λ z. pos a *ℤ z +ℤ pos b *ℤ y) e ∙ ap (λ z. pos a *ℤ pos 0 +ℤ pos b *ℤ z) f ∙ omega (arith, ints)

pub next_keeps_lacking : (c at : ℕ) (rows : List Terms) → LacksCoordinate c rows → LacksCoordinate c (next_list at rows)
next_keeps_lacking c at rows a = lacks-ordered_rows c (results at rows)
    (member_all (RowLacks c) (results at rows) (results_all (λ row. coefficient row c ≡ pos 0) at rows
    (λ row m e. all_member (RowLacks c) rows row a m)
    (λ up down m n h k. coefficient-cancelled_row at up down c
    ∙ mix_none (times_up at up down) (times_down at up down) (coefficient up c) (coefficient down c) (all_member (RowLacks c) rows up a m)
    (all_member (RowLacks c) rows down a n))))

pub after_keeps_lacking : (c : ℕ) (ats : List ℕ) (rows : List Terms) → LacksCoordinate c rows → LacksCoordinate c (list_after ats rows)
after_keeps_lacking c [] rows a = a
after_keeps_lacking c (at ∷ ats) rows a = after_keeps_lacking c ats (next_list at rows) (next_keeps_lacking c at rows a)

pub after_lacks : (c : ℕ) (ats : List ℕ) (rows : List Terms) → Member c ats → LacksCoordinate c (list_after ats rows)
after_lacks c [] rows m = absurd m
after_lacks c (at ∷ ats) rows (inl e) = subst (λ (n : ℕ). LacksCoordinate n (list_after ats (next_list at rows))) (sym e)
    (after_keeps_lacking at ats (next_list at rows) (next_lacks at rows))
after_lacks c (at ∷ ats) rows (inr m) = after_lacks c ats (next_list at rows) m

-- ---- points

-- to no coordinate: a multiple of the point itself
none_extended : (rows : List Terms) (p : ℕ → ℤ) → IsPointOf rows p → Extends [] rows p
none_extended rows p a = record { factor = 1; some = omega arith; point = p; kept = λ c n. omega (arith, ints); meets = a }

same_values : (ts : Terms) (p q : ℕ → ℤ) (k : ℕ) → ((c : ℕ) → q c ≡ pos k *ℤ p c) → value ts q ≡ pos k *ℤ value ts p
same_values [] p q k f = omega (arith, ints)
same_values (t ∷ ts) p q k f = sum_of_multiples (pos k) t.1 (p t.0) (q t.0) (value ts p) (value ts q) (f t.0) (same_values ts p q k f)

extended_none : (rows : List Terms) (p : ℕ → ℤ) → Extends [] rows p → IsPointOf rows p
extended_none rows p x = each_row_holds rows x.meets
  where
    each_row_holds : (rows : List Terms) → IsPointOf rows x.point → IsPointOf rows p
    each_row_holds [] a = All-nil (RowHolds p)
    each_row_holds (row ∷ rows) a = All-cons (RowHolds p) row rows
        (least_by_multiple (pos x.factor) (value row p) (omega (arith, ints, x.some))
        (subst (λ (z : ℤ). pos 0 ≤ℤ z) (same_values row p x.point x.factor (λ c. x.kept c (member_of [] c))) (All-head (RowHolds x.point) row rows a)))
        (each_row_holds rows (All-tail (RowHolds x.point) row rows a))

contains_first : (at : ℕ) (ats : List ℕ) (c : ℕ) → Contains (at ∷ []) c → Contains (at ∷ ats) c
contains_first at ats c m = contains_of (at ∷ ats) c (⊎_elim (λ e. inl e) (λ k. absurd k) (member_of (at ∷ []) c m))

contains_later : (at : ℕ) (ats : List ℕ) (c : ℕ) → Contains ats c → Contains (at ∷ ats) c
contains_later at ats c m = contains_of (at ∷ ats) c (inr (member_of ats c m))

-- two extensions, one after the other
join_extensions : (at : ℕ) (ats : List ℕ) (rows : List Terms) (p : ℕ → ℤ) (y : Extends ats [] p) → Extends (at ∷ []) rows y.point → Extends (at ∷ ats) rows p
join_extensions at ats rows p y x = record {
  factor = x.factor * y.factor;
  some = product_is_positive x.factor y.factor x.some y.some;
  point = x.point;
  kept = λ c n. x.kept c (λ m. n (contains_first at ats c m)) ∙ ap (λ z. pos x.factor *ℤ z) (y.kept c (λ m. n (contains_later at ats c m)))
      ∙ multiple_of_multiple x.factor y.factor (p c);
  meets = x.meets;
}
  where
    product_is_positive : (a b : ℕ) → 1 ≤ a → 1 ≤ b → 1 ≤ a * b
    product_is_positive (suc a) (suc b) h k = omega arith
    product_is_positive zero b h k = absurd (omega arith)
    product_is_positive (suc a) zero h k = absurd (omega arith)

    multiple_of_multiple : (a b : ℕ) (z : ℤ) → pos a *ℤ (pos b *ℤ z) ≡ pos (a * b) *ℤ z
    multiple_of_multiple a b z = sym (mul_assoc (pos a) (pos b) z)

-- an extension to all, taken apart: first to the later ones, with the multiple at the first one
record Parts (at : ℕ) (ats : List ℕ) (rows : List Terms) (p : ℕ → ℤ) : Type 0 where
  factor : ℕ
  some : 1 ≤ factor
  point : ℕ → ℤ
  kept : (c : ℕ) → ¬ (Contains ats c) → point c ≡ pos factor *ℤ p c
  first : Extends (at ∷ []) rows point

member_number : (c : ℕ) (ats : List ℕ) → Member c ats ⊎ ¬ (Member c ats)
member_number c [] = inr (λ m. m)
member_number c (a ∷ ats) = by_test (nat_eq c a) refl (member_number c ats)
  where
    by_test : (b : Bool) → nat_eq c a ≡ b → Member c ats ⊎ ¬ (Member c ats) → Member c (a ∷ ats) ⊎ ¬ (Member c (a ∷ ats))
    by_test true e m = inl (inl (eqb-true c a e))
    by_test false e (inl m) = inl (inr m)
    by_test false e (inr n) = inr (λ m. ⊎_elim (λ k. eqb-false c a e k) n m)

split_extension : (at : ℕ) (ats : List ℕ) (rows : List Terms) (p : ℕ → ℤ) → Extends (at ∷ ats) rows p → Parts at ats rows p
split_extension at ats rows p x = by_cases (member_number at ats)
  where
    -- the rate is eliminated again later: the point itself serves
    by_cases : Member at ats ⊎ ¬ (Member at ats) → Parts at ats rows p
    by_cases (inl m) = record {
      factor = x.factor;
      some = x.some;
      point = x.point;
      kept = λ c n. x.kept c (λ k. n (contains_of ats c (⊎_elim (λ e. subst (λ (d : ℕ). Member d ats) (sym e) m) (λ j. j) (member_of (at ∷ ats) c k))));
      first = record { factor = 1; some = omega arith; point = x.point; kept = λ c n. omega (arith, ints); meets = x.meets };
    }
    by_cases (inr away) = record {
      factor = x.factor;
      some = x.some;
      point = later_point;
      kept = λ c n. by_test c n (nat_eq c at) refl;
      first = record {
        factor = 1;
        some = omega arith;
        point = x.point;
        kept = λ c n. points_agree c
            (λ e. n (contains_of (at ∷ []) c (inl e))) ∙ omega (arith, ints);
        meets = x.meets;
      };
    }
      where
        later_point : ℕ → ℤ
        later_point c = cond (nat_eq c at) (pos x.factor *ℤ p c) (x.point c)

        by_test : (c : ℕ) → ¬ (Contains ats c) → (b : Bool) → nat_eq c at ≡ b → cond b (pos x.factor *ℤ p c) (x.point c) ≡ pos x.factor *ℤ p c
        by_test c n true e = refl
        by_test c n false e = x.kept c (λ m. ⊎_elim (λ k. eqb-false c at e k) (λ k. n (contains_of ats c k)) (member_of (at ∷ ats) c m))

        points_agree : (c : ℕ) → c ≢ at → x.point c ≡ later_point c
        points_agree c n = sym (ap (λ b. cond b (pos x.factor *ℤ p c) (x.point c)) (ne_eqb c at n))

pub rates_exact : (ats : List ℕ) (rows : List Terms) (p : ℕ → ℤ) → IsPointOf (list_after ats rows) p ↔ Extends ats rows p
rates_exact [] rows p = (none_extended rows p, extended_none rows p)
rates_exact (at ∷ ats) rows p =
    let later = rates_exact ats (next_list at rows) p in (
      λ a. let y = later.0 a in join_extensions at ats rows p
          (record { factor = y.factor; some = y.some; point = y.point; kept = y.kept; meets = All-nil (RowHolds y.point) })
          ((step_exact at rows y.point).0 y.meets),
      λ x. let s = split_extension at ats rows p x in
          later.1 (record { factor = s.factor; some = s.some; point = s.point; kept = s.kept; meets = (step_exact at rows s.point).1 s.first }),
    )

extends_same : (ats : List ℕ) (xs ys : List Terms) (p : ℕ → ℤ) → ((q : ℕ → ℤ) → IsPointOf xs q → IsPointOf ys q) → Extends ats xs p → Extends ats ys p
extends_same ats xs ys p f x = record { factor = x.factor; some = x.some; point = x.point; kept = x.kept; meets = f x.point x.meets }

-- the region holds exactly the points that extend
pub projection_exact : (ats : List ℕ) (rows : List Terms) (p : ℕ → ℤ) → IsPointOf (list_after ats (ordered_rows rows)) p ↔ Extends ats rows p
projection_exact ats rows p =
    let r = rates_exact ats (ordered_rows rows) p in (
      λ a. extends_same ats (ordered_rows rows) rows p (λ q. (in-ordered_rows rows q).0) (r.0 a),
      λ x. r.1 (extends_same ats rows (ordered_rows rows) p (λ q. (in-ordered_rows rows q).1) x),
    )

pub projection_lacks : (c : ℕ) (ats : List ℕ) (rows : List Terms) → Member c ats → LacksCoordinate c (list_after ats (ordered_rows rows))
projection_lacks c ats rows m = after_lacks c ats (ordered_rows rows) m
