-- Points that rays span are attained if the rays are, and rows that hold exactly at these points hold exactly at the attained ones.
use Rattle.std.proofs.Common.{◌≡◌, ℕ, ◌*◌, bit_and, bit_or, ℤ, pos, ◌+ℤ◌, ◌-ℤ◌, ◌*ℤ◌, ◌≤ℤ◌, List, [], ◌∷◌, refl, sym, ap, subst, ◌∙◌, arith}
use Rattle.std.specs.List.{AllByRecursion as Every}
use Rattle.std.proofs.lemmas.Int.{ints}
use Rattle.std.proofs.lemmas.List.Elements.{All-nil, All-cons, All-head, All-tail}
use Rattle.it_number.proofs.Integers.{zring, mul_assoc}
use Rattle.it_number.proofs.IntegerRing.{ring_ℤ}
use Rattle.it_number.proofs.Ring.{ring, v as var, plus, times}
use Rattle.it_number.proofs.SignLemmas.{product_least, sum_least, least_by_multiple}
use Rattle.it_problems.specs.declared.problems.Constraint.{Constraint}
use Rattle.it_problems.specs.declared.problems.Kind.{Kind}
use Rattle.it_problems.specs.declared.problems.Kind.TheVariants.{Inequality, Equation}
use Rattle.it_problems.specs.Problems.{Meets, IsMet, AreMet}
use Rattle.it_space.specs.Rows.{Terms, value, point_of}
use Rattle.it_space.proofs.EveryLemmas.{all_of, every_of}
use Rattle.it_polymatroid.specs.Polymatroid.{IsPolymatroid}
use Rattle.it_hull.specs.Hulls.{IsAttained, IsSpanned, UsesOnly}
use Rattle.it_hull.specs.Theorems.{HullIsProjection, IsCone, MeetsProblem, ProblemsAreCones}
use Rattle.it_hull.proofs.SpanLemmas.{some_product}
use Rattle.it_hull.proofs.ValueLemmas.{value_linear, value_scaled, value_zero}

-- ---- spanned points are attained

ring_sum : (g h w r y : ℤ) → g *ℤ (h *ℤ (w *ℤ r +ℤ y)) ≡ h *ℤ (w *ℤ (g *ℤ r)) +ℤ g *ℤ (h *ℤ y)
ring_sum g h w r y = ring ring_ℤ (g ∷ h ∷ w ∷ r ∷ y ∷ []) (times (var 0) (times (var 1) (plus (times (var 2) (var 3)) (var 4))))
    (plus (times (var 1) (times (var 2) (times (var 0) (var 3)))) (times (var 0) (times (var 1) (var 4)))) refl

-- f x is w r and y, p is g r and q is h y: then g h f x is h w p and g q
sum_of_points : (f w g h : ℕ) (x r y p q : ℤ) → pos f *ℤ x ≡ pos w *ℤ r +ℤ y → p ≡ pos g *ℤ r → q ≡ pos h *ℤ y
    → pos (h * w) *ℤ p +ℤ (pos g *ℤ q +ℤ pos 0) ≡ pos (g * (h * f)) *ℤ x
sum_of_points f w g h x r y p q a b c =
    let weights : pos (h * w) *ℤ p ≡ pos h *ℤ (pos w *ℤ (pos g *ℤ r)) = mul_assoc (pos h) (pos w) p ∙ ap (λ z. pos h *ℤ (pos w *ℤ z)) b in
    let factors : pos (g * (h * f)) *ℤ x ≡ pos g *ℤ (pos h *ℤ (pos w *ℤ r +ℤ y)) =
    mul_assoc (pos g) (pos (h * f)) x ∙ ap (λ z. pos g *ℤ z) (mul_assoc (pos h) (pos f) x) ∙ ap (λ z. pos g *ℤ (pos h *ℤ z)) a in
    let rest : pos g *ℤ q ≡ pos g *ℤ (pos h *ℤ y) = ap (λ z. pos g *ℤ z) c in
    let sum = ring_sum (pos g) (pos h) (pos w) r y in
    omega (arith, ints, weights, factors, rest, sum)

spanned_attained : (Holds : (ℕ → ℤ) → Type 0) (kept : List ℕ) (rays : List (List ℤ)) (x : ℕ → ℤ) → IsCone Holds
    → Every (λ ray. IsAttained kept Holds (point_of ray)) rays
    → IsSpanned kept rays x → IsAttained kept Holds x
spanned_attained Holds kept [] x cone held s = record {
  factor = 1;
  some = omega arith;
  point = λ c. pos 0;
  same = λ c m. let z = s c m
      in omega (arith, ints, z);
  holds = cone.zero;
}
spanned_attained Holds kept (ray ∷ rays) x cone held (f, w, y, some, sum, s) =
    let r = held.0 in
    let a = spanned_attained Holds kept rays y cone held.1 s in record {
      factor = r.factor * (a.factor * f);
      some = some_product r.factor (a.factor * f) r.some (some_product a.factor f a.some some);
      point = λ c. pos (a.factor * w) *ℤ r.point c +ℤ (pos r.factor *ℤ a.point c +ℤ pos 0);
      same = λ c m. sum_of_points f w r.factor a.factor (x c) (point_of ray c) (y c) (r.point c) (a.point c) (sum c m) (r.same c m) (a.same c m);
      holds = cone.more (a.factor * w) r.point (λ c. pos r.factor *ℤ a.point c +ℤ pos 0) r.holds (cone.more r.factor a.point (λ c. pos 0) a.holds cone.zero);
    }

-- ---- rows hold where they hold at a multiple

attained_holds : (Holds : (ℕ → ℤ) → Type 0) (kept : List ℕ) (rows : List Terms) (x : ℕ → ℤ) → Every (UsesOnly kept) rows
    → Every (λ row. (p : ℕ → ℤ) → Holds p → pos 0 ≤ℤ value row p) rows → IsAttained kept Holds x → Every (λ row. pos 0 ≤ℤ value row x) rows
attained_holds Holds kept [] x o h a = tt
attained_holds Holds kept (row ∷ rows) x o h a = (
  least_by_multiple (pos a.factor) (value row x) (let s = a.some in omega (arith, ints, s))
      (subst (λ (z : ℤ). pos 0 ≤ℤ z) (value_scaled kept (pos a.factor) row a.point x o.0 a.same) (h.0 a.point a.holds)),
  attained_holds Holds kept rows x o.1 h.1 a,
)

-- ---- the cone of a problem

meets_more : (kind : Kind) (k : ℕ) (x y z : ℤ) → z ≡ pos k *ℤ x +ℤ y → Meets kind x → Meets kind y → Meets kind z
meets_more Inequality k x y z e h g = subst (λ v. pos 0 ≤ℤ v) (sym e) (sum_least (pos k *ℤ x) y (product_least (pos k) x (omega (arith, ints)) h) g)
meets_more Equation k x y z e h g = let m : pos k *ℤ x ≡ pos k *ℤ pos 0 = ap (λ v. pos k *ℤ v) h in omega (arith, zring, e, m, g)

meets_zero : (kind : Kind) (z : ℤ) → z ≡ pos 0 → Meets kind z
meets_zero Inequality z e = omega (arith, ints, e)
meets_zero Equation z e = e

are_met_zero : (cs : List Constraint) → AreMet (λ c. pos 0) cs
are_met_zero [] = All-nil (IsMet (λ c. pos 0))
are_met_zero (c ∷ cs) = All-cons (IsMet (λ c. pos 0)) c cs (meets_zero c.kind (value c.row (λ c. pos 0)) (value_zero c.row)) (are_met_zero cs)

module _ (k : ℕ) (p q : ℕ → ℤ) where
  abbrev sum : ℕ → ℤ
  sum c = pos k *ℤ p c +ℤ q c

  are_met_more : (cs : List Constraint) → AreMet p cs → AreMet q cs → AreMet sum cs
  are_met_more [] a b = All-nil (IsMet sum)
  are_met_more (c ∷ cs) a b = All-cons (IsMet sum) c cs
      (meets_more c.kind k (value c.row p) (value c.row q) (value c.row sum) (value_linear (pos k) c.row p q) (All-head (IsMet p) c cs a)
      (All-head (IsMet q) c cs b))
      (are_met_more cs (All-tail (IsMet p) c cs a) (All-tail (IsMet q) c cs b))

  in_order : (x y u v : ℤ) → x ≤ℤ y → u ≤ℤ v → (pos k *ℤ x +ℤ u) ≤ℤ (pos k *ℤ y +ℤ v)
  in_order x y u v h g =
      let m : pos 0 ≤ℤ (pos k *ℤ (y -ℤ x)) = product_least (pos k) (y -ℤ x) (omega (arith, ints)) (omega (arith, ints, h)) in
      let d : pos k *ℤ (y -ℤ x) ≡ pos k *ℤ y -ℤ pos k *ℤ x = omega (arith, zring) in
      omega (arith, ints, m, d, g)

  polymatroid_more : (n : ℕ) → IsPolymatroid n p → IsPolymatroid n q → IsPolymatroid n sum
  polymatroid_more n a b = record {
    empty = let x = a.empty in let y = b.empty in let m : pos k *ℤ p 0 ≡ pos k *ℤ pos 0 = ap (λ v. pos k *ℤ v) x in omega (arith, zring, m, y);
    rises = λ s t l i. in_order (p s) (p t) (q s) (q t) (a.rises s t l i) (b.rises s t l i);
    submodular = λ s t l m.
        let h = in_order (p (bit_or s t) +ℤ p (bit_and s t)) (p s +ℤ p t) (q (bit_or s t) +ℤ q (bit_and s t)) (q s +ℤ q t)
        (a.submodular s t l m) (b.submodular s t l m) in
        let u : pos k *ℤ (p (bit_or s t) +ℤ p (bit_and s t)) ≡ pos k *ℤ p (bit_or s t) +ℤ pos k *ℤ p (bit_and s t) = omega (arith, zring) in
        let v : pos k *ℤ (p s +ℤ p t) ≡ pos k *ℤ p s +ℤ pos k *ℤ p t = omega (arith, zring) in
        omega (arith, ints, h, u, v);
  }

pub problems_are_cones : ProblemsAreCones
problems_are_cones q = record {
  zero = (record { empty = refl; rises = λ s t l i. omega (arith, ints); submodular = λ s t l m. omega (arith, ints) }, are_met_zero q.constraints);
  more = λ k x y a b. (polymatroid_more k x y q.space.variables a.0 b.0, are_met_more k x y q.constraints a.1 b.1);
}

-- ---- the law

pub hull_is_projection : HullIsProjection
hull_is_projection q kept rows rays hull valid held x = (
  λ a. spanned_attained (MeetsProblem q) kept rays x (problems_are_cones q)
      (every_of (λ (ray : List ℤ). IsAttained kept (MeetsProblem q) (point_of ray)) rays held) ((hull.exact x).0 a),
  λ a. all_of (λ (row : Terms). pos 0 ≤ℤ value row x) rows (attained_holds (MeetsProblem q) kept rows x (every_of (UsesOnly kept) rows hull.over)
      (every_of (λ (row : Terms). (p : ℕ → ℤ) → MeetsProblem q p → pos 0 ≤ℤ value row p) rows valid) a),
)
