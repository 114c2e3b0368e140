-- A further ray: its multiplier is eliminated.
use Rattle.std.proofs.Common.{◌≡◌, ◌≢◌, inl, inr, ⊎_elim, ◌↔◌, ℕ, ◌≤◌, ℤ, pos, negsuc, neg_ℤ, ◌+ℤ◌, ◌-ℤ◌, ◌*ℤ◌, ◌≤ℤ◌, List, [], ◌∷◌, ◌++◌, map, Bool, true, false, cond, nat_eq, ne_eqb, eq-eqb, refl, sym, ap, subst, ◌∙◌, arith, All}
use Rattle.std.specs.Prelude.{Contains}
use Rattle.std.specs.List.{AllByRecursion as Every}
use Rattle.std.proofs.lemmas.Int.{ints}
use Rattle.std.proofs.lemmas.Bool.{eqb-true}
use Rattle.it_number.proofs.Integers.{zring}
use Rattle.it_space.specs.Rows.{Terms, value, point_of}
use Rattle.it_space.proofs.TermLemmas.{value-with_term}
use Rattle.it_space.proofs.EveryLemmas.{all_of, every_of, every-append, every_front, every_back, every-map, every_mapped}
use Rattle.it_eliminate.specs.Projections.{Extends, IsPointOf}
use Rattle.it_eliminate.proofs.MemberLemmas.{Member, contains_of, member_of}
use Rattle.it_hull.specs.Hulls.{IsHull, UsesOnly, first_rows, rows_with_multiplier, with_multiplier}
use Rattle.it_hull.specs.Theorems.{FirstIsHull}
use Rattle.it_hull.proofs.SpanLemmas.{spanned_more, spanned_parts}
use Rattle.it_hull.proofs.ValueLemmas.{value_sum}

abbrev RowHolds : (ℕ → ℤ) → Terms → Type 0
RowHolds p row = pos 0 ≤ℤ value row p

value-with_multiplier : (at : ℕ) (ray : ℕ → ℤ) (row : Terms) (q : ℕ → ℤ) → value (with_multiplier at ray row) q ≡ value row q -ℤ value row ray *ℤ q at
value-with_multiplier at ray row q =
    let a = value-with_term at (neg_ℤ (value row ray)) row q in
    let c : neg_ℤ (value row ray) *ℤ q at ≡ neg_ℤ (value row ray *ℤ q at) = omega (arith, zring) in
    omega (arith, ints, a, c)

-- ---- with the multiplier, and without it

module _ (kept : List ℕ) (at : ℕ) (away : ¬ (Contains kept at)) (ray : ℕ → ℤ) where
  -- rows with the multiplier hold at a point exactly where the rows hold at the point less the multiplier times the ray
  rows_left : (rows : List Terms) (q y : ℕ → ℤ) → Every (UsesOnly kept) rows → ((c : ℕ) → Contains kept c → q c ≡ q at *ℤ ray c +ℤ y c)
      → Every (λ row. RowHolds q (with_multiplier at ray row)) rows ↔ Every (RowHolds y) rows
  rows_left [] q y o e = (λ a. tt, λ a. tt)
  rows_left (row ∷ rows) q y o e =
      let one : value (with_multiplier at ray row) q ≡ value row y =
      (let a = value-with_multiplier at ray row q in let b = value_sum kept (q at) row q ray y o.0 e in let c : q at *ℤ value row ray
      ≡ value row ray *ℤ q at = omega (arith, zring) in omega (arith, ints, a, b, c)) in
      let more = rows_left rows q y o.1 e in (
        λ a. (subst (λ (z : ℤ). pos 0 ≤ℤ z) one a.0, more.0 a.1),
        λ a. (subst (λ (z : ℤ). pos 0 ≤ℤ z) (sym one) a.0, more.1 a.1),
      )

  -- the condition that a point extends to the multiplier
  record Left (rows : List Terms) (x : ℕ → ℤ) : Type 0 where
    factor : ℕ
    weight : ℕ
    rest : ℕ → ℤ
    some : 1 ≤ factor
    sum : (c : ℕ) → Contains kept c → pos factor *ℤ x c ≡ pos weight *ℤ ray c +ℤ rest c
    holds : Every (RowHolds rest) rows

  other : (c : ℕ) → Contains kept c → ¬ (Contains (at ∷ []) c)
  other c m k = ⊎_elim (λ e. away (subst (λ (d : ℕ). Contains kept d) e m)) (λ n. n) (member_of (at ∷ []) c k)

  leaves : (rows : List Terms) (x : ℕ → ℤ) → Every (UsesOnly kept) rows → Extends (at ∷ []) (rows_with_multiplier at ray rows) x → Left rows x
  leaves rows x o e = by_multiplier (e.point at) refl
    where
      all : Every (RowHolds e.point) (rows_with_multiplier at ray rows)
      all = every_of (RowHolds e.point) (rows_with_multiplier at ray rows) e.meets

      front : Every (λ row. RowHolds e.point (with_multiplier at ray row)) rows
      front = every_mapped (RowHolds e.point) (with_multiplier at ray) rows
          (every_front (RowHolds e.point) (map (with_multiplier at ray) rows) (((at, pos 1) ∷ []) ∷ []) all)

      last : pos 0 ≤ℤ e.point at
      last = let b = every_back (RowHolds e.point) (map (with_multiplier at ray) rows) (((at, pos 1) ∷ []) ∷ []) all in omega (arith, ints, b.0)

      by_multiplier : (z : ℤ) → e.point at ≡ z → Left rows x
      by_multiplier (negsuc n) is = absurd (omega (arith, ints, is, last))
      by_multiplier (pos w) is = record {
        factor = e.factor;
        weight = w;
        rest = λ c. pos e.factor *ℤ x c -ℤ pos w *ℤ ray c;
        some = e.some;
        sum = λ c m. omega (arith, ints);
        holds = (rows_left rows e.point (λ c. pos e.factor *ℤ x c -ℤ pos w *ℤ ray c) o
            (λ c m. let k = e.kept c (other c m) in let i : e.point at *ℤ ray c ≡ pos w *ℤ ray c = ap (λ z. z *ℤ ray c) is
            in omega (arith, ints, k, i))).0 front;
      }

  extends : (rows : List Terms) (x : ℕ → ℤ) → Every (UsesOnly kept) rows → Left rows x → Extends (at ∷ []) (rows_with_multiplier at ray rows) x
  extends rows x o l = record {
    factor = l.factor;
    some = l.some;
    point = q;
    kept = λ c n. off c (λ e. n (contains_of (at ∷ []) c (inl e)));
    meets = all_of (RowHolds q) (rows_with_multiplier at ray rows) (every-append (RowHolds q) (map (with_multiplier at ray) rows) (((at, pos 1) ∷ []) ∷ [])
        (every-map (RowHolds q) (with_multiplier at ray) rows
        ((rows_left rows q l.rest o (λ c m. off c (λ e. away (subst (λ (d : ℕ). Contains kept d) e m)) ∙ l.sum c m
        ∙ ap (λ z. z *ℤ ray c +ℤ l.rest c) (sym on))).1 l.holds))
        (omega (arith, ints, on), tt));
  }
    where
      q : ℕ → ℤ
      q c = cond (nat_eq c at) (pos l.weight) (pos l.factor *ℤ x c)

      off : (c : ℕ) → c ≢ at → q c ≡ pos l.factor *ℤ x c
      off c n = ap (λ b. cond b (pos l.weight) (pos l.factor *ℤ x c)) (ne_eqb c at n)

      on : q at ≡ pos l.weight
      on = ap (λ b. cond b (pos l.weight) (pos l.factor *ℤ x at)) (eq-eqb at at refl)

-- ---- the laws

-- rows from which the multiplier of a further ray is eliminated are the hull with this ray
pub eliminated_is_hull : (kept : List ℕ) (rows next : List Terms) (rays : List (List ℤ)) (ray : List ℤ) (at : ℕ) → ¬ (Contains kept at)
    → IsHull kept rows rays → All (UsesOnly kept) next
    → ((x : ℕ → ℤ) → IsPointOf next x ↔ Extends (at ∷ []) (rows_with_multiplier at (point_of ray) rows) x) → IsHull kept next (rays ++ ray ∷ [])
eliminated_is_hull kept rows next rays ray at away h over exact = record {
  over = over;
  exact = λ x. (
    λ a. let l = leaves kept at away (point_of ray) rows x only ((exact x).0 a) in
        spanned_more kept rays ray x l.factor l.weight l.rest l.some l.sum ((h.exact l.rest).0 (all_of (RowHolds l.rest) rows l.holds)),
    λ s. let p = spanned_parts kept rays ray x s in (exact x).1 (extends kept at away (point_of ray) rows x only
        (record {
          factor = p.factor;
          weight = p.weight;
          rest = p.rest;
          some = p.some;
          sum = p.sum;
          holds = every_of (RowHolds p.rest) rows
              ((h.exact p.rest).1 p.spanned);
        })),
  );
}
  where
    only : Every (UsesOnly kept) rows
    only = every_of (UsesOnly kept) rows h.over

single_only : (kept : List ℕ) (at : ℕ) (x : ℤ) → Contains kept at → UsesOnly kept ((at, x) ∷ [])
single_only kept at x m c n = by_test (nat_eq at c) refl
  where
    by_test : (b : Bool) → nat_eq at c ≡ b → cond b x (pos 0) +ℤ pos 0 ≡ pos 0
    by_test true e = absurd (n (subst (λ (d : ℕ). Contains kept d) (eqb-true at c e) m))
    by_test false e = refl

pub first_is_hull : FirstIsHull
first_is_hull kept = record {
  over = all_of (UsesOnly kept) (first_rows kept) (all_over kept (λ c m. contains_of kept c m));
  exact = λ x. (
    λ a c m. all_zero kept x (every_of (RowHolds x) (first_rows kept) a) c (member_of kept c m),
    λ f. all_of (RowHolds x) (first_rows kept) (of_zero kept x (λ c m. f c (contains_of kept c m))),
  );
}
  where
    all_over : (cs : List ℕ) → ((c : ℕ) → Member c cs → Contains kept c) → Every (UsesOnly kept) (first_rows cs)
    all_over [] f = tt
    all_over (c ∷ cs) f = (single_only kept c (pos 1) (f c (inl refl)), (single_only kept c (neg_ℤ (pos 1)) (f c (inl refl)), all_over cs (λ d m. f d (inr m))))

    all_zero : (cs : List ℕ) (x : ℕ → ℤ) → Every (RowHolds x) (first_rows cs) → (c : ℕ) → Member c cs → x c ≡ pos 0
    all_zero [] x a c m = absurd m
    all_zero (d ∷ cs) x a c (inl e) = let z : x d ≡ pos 0 = omega (arith, ints, a.0, a.1.0) in ap x e ∙ z
    all_zero (d ∷ cs) x a c (inr m) = all_zero cs x a.1.1 c m

    of_zero : (cs : List ℕ) (x : ℕ → ℤ) → ((c : ℕ) → Member c cs → x c ≡ pos 0) → Every (RowHolds x) (first_rows cs)
    of_zero [] x f = tt
    of_zero (c ∷ cs) x f = let z = f c (inl refl) in (omega (arith, ints, z), (omega (arith, ints, z), of_zero cs x (λ d m. f d (inr m))))
