-- Terms that are put one after the other, and what is still to come of terms that are read.
use Rattle.std.proofs.Common.{◌≡◌, ◌⊎◌, inl, inr, ℕ, suc, ◌+◌, ◌<◌, ◌≤◌, cond, pos, [], ◌∷◌, length, drop, slice_index_or, refl, sym, ap, subst, ◌∙◌, arith}
use Rattle.std.proofs.lemmas.Bool.{cases_eq, cases_lt, eq-eqb, ne_eqb}
use Rattle.std.proofs.lemmas.List.{drop_all}
use Rattle.std.proofs.Math.Seq.{drop-cons}
use Rattle.it_rational.specs.Rational.{Rational, integer}
use Rattle.it_tableau.specs.SparseRows.{RowTerms, entry_in, Climbs}
use Rattle.it_tableau.specs.Merging.{column_at, number_of_term, IsAppended}
use Rattle.it_tableau.proofs.Climbing.{climbs_below, climbs_more, climbs_none, climbs_upto, climbs_weaker, number_more}

-- the terms of the columns below next are put: they have the numbers f, of which F holds
pub record IsBuilt (f : ℕ → Rational) (F : ℕ → Type 0) (next : ℕ) (out : RowTerms) : Type 0 where
  pub entries : (k : ℕ) → k < next → entry_in out k ≡ f k
  pub climbs : Climbs 0 next out
  pub fits : (k : ℕ) → k < next → F k

pub nothing_is_built : (f : ℕ → Rational) (F : ℕ → Type 0) → IsBuilt f F 0 []
nothing_is_built f F = record { entries = λ k l. absurd (omega arith); climbs = omega arith; fits = λ k l. absurd (omega arith) }

-- columns without a number
pub built_skip : (f : ℕ → Rational) (F : ℕ → Type 0) (next c : ℕ) (out : RowTerms) → next ≤ c
    → ((k : ℕ) → next ≤ k → k < c → F k × (f k ≡ integer (pos 0))) → IsBuilt f F next out → IsBuilt f F c out
built_skip f F next c out h none m = record {
  entries = λ k l. entry k l (cases_lt k next);
  climbs = climbs_weaker 0 next c out h m.climbs;
  fits = λ k l. column_fits k l (cases_lt k next);
}
  where
    entry : (k : ℕ) → k < c → (k < next) ⊎ (next ≤ k) → entry_in out k ≡ f k
    entry k l (inl a) = m.entries k a
    entry k l (inr a) = climbs_none 0 next out k m.climbs a ∙ sym (none k a l).1

    column_fits : (k : ℕ) → k < c → (k < next) ⊎ (next ≤ k) → F k
    column_fits k l (inl a) = m.fits k a
    column_fits k l (inr a) = (none k a l).0

-- the next column, whose number is appended unless it is 0
pub built_more : (f : ℕ → Rational) (F : ℕ → Type 0) (c : ℕ) (out new : RowTerms) (v : Rational) → IsAppended out c v new → v ≡ f c → F c
    → IsBuilt f F c out → IsBuilt f F (c + 1) new
built_more f F c out new v a e here m = record {
  entries = λ k l. entry a k l (cases_eq k c);
  climbs = new_climbs a;
  fits = λ k l. column_fits k l (cases_eq k c);
}
  where
    entry : IsAppended out c v new → (k : ℕ) → k < c + 1 → (k ≡ c) ⊎ (k ≡ c → ⊥) → entry_in new k ≡ f k
    entry (inl a) k l (inl x) = ap (λ ts. entry_in ts k) a.1 ∙ climbs_none 0 c out k m.climbs (omega (arith, x)) ∙ sym a.0 ∙ e ∙ ap f (sym x)
    entry (inl a) k l (inr d) = ap (λ ts. entry_in ts k) a.1 ∙ m.entries k (omega arith)
    entry (inr a) k l (inl x) = ap (λ ts. entry_in ts k) a.2 ∙ number_more 0 c out v k m.climbs
        ∙ ap (λ b. cond b v (entry_in out k)) (eq-eqb c k (sym x)) ∙ e ∙ ap f (sym x)
    entry (inr a) k l (inr d) = ap (λ ts. entry_in ts k) a.2 ∙ number_more 0 c out v k m.climbs
        ∙ ap (λ b. cond b v (entry_in out k)) (ne_eqb c k (λ z. d (sym z))) ∙ m.entries k (omega arith)

    new_climbs : IsAppended out c v new → Climbs 0 (c + 1) new
    new_climbs (inl a) = subst (Climbs 0 (c + 1)) (sym a.1) (climbs_weaker 0 c (c + 1) out (omega arith) m.climbs)
    new_climbs (inr a) = subst (Climbs 0 (c + 1)) (sym a.2) (climbs_more 0 c out v a.0 a.1 m.climbs)

    column_fits : (k : ℕ) → k < c + 1 → (k ≡ c) ⊎ (k ≡ c → ⊥) → F k
    column_fits k l (inl x) = subst F (sym x) here
    column_fits k l (inr d) = m.fits k (omega arith)

-- what of the terms is still to come: from column next on they are those from the i-th on
pub record IsRest (width : ℕ) (terms : RowTerms) (i next : ℕ) : Type 0 where
  pub same : (k : ℕ) → next ≤ k → entry_in terms k ≡ entry_in (drop i terms) k
  pub ascends : Climbs next width (drop i terms)

pub rest_is_all : (width : ℕ) (terms : RowTerms) → Climbs 0 width terms → IsRest width terms 0 0
rest_is_all width terms a = record { same = λ k l. refl; ascends = a }

ascends_from : (from new to : ℕ) (ts : RowTerms) → new ≤ to → Climbs from to ts
    → ((k : ℕ) → from ≤ k → k < new → entry_in ts k ≡ integer (pos 0)) → Climbs new to ts
ascends_from from new to [] u a h = u
ascends_from from new to (t ∷ ts) u a h = by_cases (cases_lt t.0 new)
  where
    by_cases : (t.0 < new) ⊎ (new ≤ t.0) → Climbs new to (t ∷ ts)
    by_cases (inl l) = absurd (a.1 (ap (λ b. cond b t.1 (entry_in ts t.0)) (sym (eq-eqb t.0 t.0 refl)) ∙ h t.0 a.0 l))
    by_cases (inr l) = (l, a.1, a.2, a.3)

module _ (width : ℕ) (terms : RowTerms) (i next : ℕ) (r : IsRest width terms i next) where
  pub rest_over : length terms ≤ i → (k : ℕ) → next ≤ k → entry_in terms k ≡ integer (pos 0)
  rest_over h k l = r.same k l ∙ ap (λ ts. entry_in ts k) (drop_all i terms h)

  pub rest_upto : next ≤ width
  rest_upto = climbs_upto next width (drop i terms) r.ascends

  -- where no term stands before c the rest is that from c on
  pub rest_later : (c : ℕ) → next ≤ c → c ≤ width → ((k : ℕ) → next ≤ k → k < c → entry_in terms k ≡ integer (pos 0)) → IsRest width terms i c
  rest_later c l u h = record {
    same = λ k m. r.same k (omega arith);
    ascends = ascends_from next c width (drop i terms) u r.ascends (λ k a b. sym (r.same k a) ∙ h k a b);
  }

  module _ (h : i < length terms) where
    term_then_rest : drop i terms ≡ slice_index_or terms i (0, integer (pos 0)) ∷ drop (suc i) terms
    term_then_rest = drop-cons terms i (0, integer (pos 0)) h

    rest_climbs : Climbs next width (slice_index_or terms i (0, integer (pos 0)) ∷ drop (suc i) terms)
    rest_climbs = subst (Climbs next width) term_then_rest r.ascends

    pub column_from : next ≤ column_at terms i
    column_from = rest_climbs.0

    pub column_within : column_at terms i + 1 ≤ width
    column_within = let u = climbs_upto (suc (column_at terms i)) width (drop (suc i) terms) rest_climbs.3 in omega (arith, u)

    pub before_column : (k : ℕ) → next ≤ k → k < column_at terms i → entry_in terms k ≡ integer (pos 0)
    before_column k a l = r.same k a ∙ ap (λ ts. entry_in ts k) term_then_rest
        ∙ ap (λ b. cond b (number_of_term terms i) (entry_in (drop (suc i) terms) k)) (ne_eqb (column_at terms i) k (λ e. omega (arith, e, l)))
        ∙ climbs_below (suc (column_at terms i)) width (drop (suc i) terms) k rest_climbs.3 (omega (arith, l))

    pub at_column : entry_in terms (column_at terms i) ≡ number_of_term terms i
    at_column = r.same (column_at terms i) rest_climbs.0 ∙ ap (λ ts. entry_in ts (column_at terms i)) term_then_rest
        ∙ ap (λ b. cond b (number_of_term terms i) (entry_in (drop (suc i) terms) (column_at terms i))) (eq-eqb (column_at terms i) (column_at terms i) refl)

    pub rest_next : IsRest width terms (i + 1) (column_at terms i + 1)
    rest_next = let e : suc i ≡ i + 1 = omega arith in let f : suc (column_at terms i) ≡ column_at terms i + 1 = omega arith in
        subst (λ (n : ℕ). IsRest width terms n (column_at terms i + 1)) e (subst (λ (n : ℕ). IsRest width terms (suc i) n) f record {
          same = λ k l. r.same k (let c = rest_climbs.0 in omega (arith, c, l)) ∙ ap (λ ts. entry_in ts k) term_then_rest
              ∙ ap (λ b. cond b (number_of_term terms i) (entry_in (drop (suc i) terms) k)) (ne_eqb (column_at terms i) k (λ e. omega (arith, e, l)));
          ascends = rest_climbs.3;
        })
