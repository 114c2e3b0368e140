-- The first term of a row at a coordinate from a given one on.
use Rattle.std.specs.Prelude.{◌≡◌, ◌≢◌, ℕ, zero, suc, ◌+◌, ◌<◌, ◌≤◌, ℤ, pos, [], ◌∷◌, ◌++◌, length, Bool, true, false, cond, nat_lt, Option, Some, None}
use Rattle.std.proofs.Common.{◌⊎◌, inl, inr, get_or, refl, sym, ap, ap₂, subst, ◌∙◌, arith}
use Rattle.std.specs.Option.{option_or}
use Rattle.std.specs.List.Sorted.{IsPartitionPoint}
use Rattle.std.proofs.lemmas.Bool.{cases_lt, ltb-true, ltb-false}
use Rattle.std.proofs.lemmas.List.{get_or_default}
use Rattle.it_space.specs.Rows.{Terms, coefficient, Ascends}
use Rattle.it_space.proofs.CanonicalRows.{other_is, head_is, none_below, coefficient_at_term, coefficient_without_term, ascends_far}
use Rattle.it_polymatroid.specs.Elementals.{Elemental}
use Rattle.it_elemental.specs.Rows.{elemental_row, set_term}
use Rattle.it_elemental.specs.Views.{IsElemental}
use Rattle.it_elemental.proofs.RowLemmas.{canonical-row}
use Rattle.it_check.specs.NextTerms.{first_from, IsTermFrom, IsNextTerm}

pub first_from-append : (from : ℕ) (xs ys : Terms) → first_from from (xs ++ ys) ≡ option_or (first_from from xs) (first_from from ys)
first_from-append from [] ys = refl
first_from-append from (x ∷ xs) ys = by_test (nat_lt x.0 from) (first_from-append from xs ys)
  where
    by_test : (b : Bool) → first_from from (xs ++ ys) ≡ option_or (first_from from xs) (first_from from ys)
        → cond b (first_from from (xs ++ ys)) (Some x) ≡ option_or (cond b (first_from from xs) (Some x)) (first_from from ys)
    by_test true ih = ih
    by_test false ih = refl

-- a term before `from` changes nothing
passed : (from : ℕ) (t : ℕ × ℤ) (ts : Terms) (o : Option (ℕ × ℤ)) → t.0 < from → IsNextTerm from ts o → IsNextTerm from (t ∷ ts) o
passed from t ts None h n = λ c k. other_is t ts c (λ e. omega arith) ∙ n c k
passed from t ts (Some u) h n = record {
  late = n.late;
  some = n.some;
  own = other_is t ts u.0 (λ e. omega (arith, n.late)) ∙ n.own;
  before = λ c k l. other_is t ts c (λ e. omega arith) ∙ n.before c k l;
}

-- the first term from a coordinate on of a row whose coordinates ascend
pub first_is_next : (from lo : ℕ) (ts : Terms) → Ascends lo ts → IsNextTerm from ts (first_from from ts)
first_is_next from lo [] a = λ c k. refl
first_is_next from lo (t ∷ ts) a = by_test (nat_lt t.0 from) refl (first_is_next from (t.0 + 1) ts a.3)
  where
    by_test : (b : Bool) → nat_lt t.0 from ≡ b → IsNextTerm from ts (first_from from ts)
        → IsNextTerm from (t ∷ ts) (cond b (first_from from ts) (Some t))
    by_test true e ih = passed from t ts (first_from from ts) (ltb-true t.0 from e) ih
    by_test false e ih = record {
      late = ltb-false t.0 from e;
      some = a.1;
      own = head_is lo t ts a;
      before = λ c k l. none_below t.0 (t ∷ ts) c (omega arith, a.1, a.2, a.3) l;
    }

some_term : (from : ℕ) (ts : Terms) (i : ℕ) (d : ℕ × ℤ) → Ascends from ts → i < length ts → (get_or ts i d).1 ≢ pos 0
some_term from [] i d a h = absurd (omega arith)
some_term from (t ∷ ts) zero d a h = a.1
some_term from (t ∷ ts) (suc i) d a h = some_term (t.0 + 1) ts i d a.3 (omega arith)

-- where the terms before place i are those with a coordinate below `from`
module _ (from : ℕ) (ts : Terms) (i : ℕ) (a : Ascends 0 ts)
    (p : IsPartitionPoint (λ (t : ℕ × ℤ). nat_lt t.0 from ≡ true) (λ (t : ℕ × ℤ). nat_lt t.0 from ≡ false) ts i) where
  pub place_is_next : (d : ℕ × ℤ) → i < length ts → IsTermFrom from ts (get_or ts i d)
  place_is_next d h = record {
    late = ltb-false (get_or ts i d).0 from (p.1 i d (omega arith) h);
    some = some_term 0 ts i d a h;
    own = coefficient_at_term 0 ts i d a h;
    before = λ c k l. coefficient_without_term ts c (λ j e m. apart c j e k l m (cases_lt j i));
  }
    where
      apart : (c j : ℕ) (e : ℕ × ℤ) → from ≤ c → c < (get_or ts i d).0 → j < length ts → (j < i) ⊎ (i ≤ j) → (get_or ts j e).0 ≢ c
      apart c j e k l m (inl b) q = omega (arith, ltb-true (get_or ts j e).0 from (p.0 j e (omega arith) b))
      apart c j e k l m (inr b) q = omega (arith, (ascends_far 0 ts i j e a b m).1, ap (λ (t : ℕ × ℤ). t.0) (get_or_default ts i d e h))

  pub none_is_next : length ts ≤ i → (c : ℕ) → from ≤ c → coefficient ts c ≡ pos 0
  none_is_next h c k = coefficient_without_term ts c (λ j e m q. omega (arith, ltb-true (get_or ts j e).0 from (p.0 j e (omega arith) (omega arith))))

-- ---- elemental inequalities

pub elemental_is_next : (from n : ℕ) (e : Elemental) (o : Option (ℕ × ℤ)) → IsElemental n e → o ≡ first_from from (elemental_row n e)
    → IsNextTerm from (elemental_row n e) o
elemental_is_next from n e o h is = subst (IsNextTerm from (elemental_row n e)) (sym is) (first_is_next from 0 (elemental_row n e) (canonical-row n e h))

pub first_of_more : (from t : ℕ) (xs : Terms) (y : ℤ) (a b : Option (ℕ × ℤ)) → a ≡ first_from from xs → b ≡ first_from from (set_term t y)
    → option_or a b ≡ first_from from (xs ++ set_term t y)
first_of_more from t xs y a b p q = ap₂ option_or p q ∙ sym (first_from-append from xs (set_term t y))
