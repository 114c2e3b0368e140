-- The rows of obligations, and loops that make them.
use Rattle.std.proofs.Common.{◌≡◌, ◌↔◌, ℕ, ◌+◌, ◌-◌, ◌<◌, ◌≤◌, ℤ, pos, neg_ℤ, ◌+ℤ◌, ◌*ℤ◌, ◌≤ℤ◌, unsigned_abs, Bool, true, false, List, [], ◌∷◌, length, drop, get_or, refl, sym, ap, subst, ◌∙◌, arith, All, Result, Ok, Err, IfOk, Vec, Global}
use Rattle.std.proofs.lemmas.Int.{ints}
use Rattle.std.proofs.lemmas.List.{drop_all}
use Rattle.std.proofs.lemmas.List.Elements.{All-nil, All-cons, All-head, All-tail, All-append}
use Rattle.it_demand.specs.Targets.{inequalities_of}
use Rattle.it_number.proofs.Integers.{zring}
use Rattle.it_space.proofs.ListLemmas.{drop_item}
use Rattle.it_space.specs.declared.spaces.Space.{Space}
use Rattle.it_problems.specs.declared.problems.Kind.{Kind}
use Rattle.it_problems.specs.declared.problems.Kind.TheVariants.{Inequality, Equation}
use Rattle.it_problems.specs.declared.problems.Constraint.{Constraint}
use Rattle.it_problems.specs.Problems.{Meets, IsMet, AreMet}
use Rattle.it_space.specs.Rows.{Terms, IsCanonical, IsOver, value, row_mass}
use Rattle.it_space.specs.Spaces.{size_of}
use Rattle.it_polymatroid.specs.Certificates.{Form}
use Rattle.it_demand.specs.SystemForms.{AreAtLeastZero}
use Rattle.it_demand.specs.Coefficients.{dense_form, mass, signed_by, IsFormAdded}
use Rattle.it_demand.proofs.ZipLemmas.{All-parts, zip-same, zip-right}
use Rattle.it_region.specs.Obligations.{pulled_form, constraint_obligations, IsPulledRow, ArePulledRows}

-- ---- the terms of one row

-- the row at the pulled-back map, negated if `negated`
abbrev pub signed_form : (ℕ → ℕ) → Bool → Terms → Form
signed_form f negated ts p = signed_by negated (value ts (λ c. p (f c)))

-- the first i terms are added, and the others are still to add
pub record IsUnderWay (f : ℕ → ℕ) (negated : Bool) (whole : Terms) (size : ℕ) (now : List ℤ) (i : ℕ) : Type 0 where
  pub complete : length now ≡ size + 1
  pub small : mass now + row_mass (drop i whole) ≤ row_mass whole
  pub sum : (p : ℕ → ℤ) → dense_form now p +ℤ signed_form f negated (drop i whole) p ≡ signed_form f negated whole p

signed_form-cons : (f : ℕ → ℕ) (negated : Bool) (t : ℕ × ℤ) (ts : Terms) (p : ℕ → ℤ)
    → signed_form f negated (t ∷ ts) p ≡ signed_by negated t.1 *ℤ p (f t.0) +ℤ signed_form f negated ts p
signed_form-cons f true t ts p = negated_sum t.1 (p (f t.0)) (value ts (λ c. p (f c)))
  where
    negated_sum : (x y z : ℤ) → neg_ℤ (x *ℤ y +ℤ z) ≡ neg_ℤ x *ℤ y +ℤ neg_ℤ z
    negated_sum x y z = omega (arith, zring)
signed_form-cons f false t ts p = refl

pub goes_on : (f : ℕ → ℕ) (negated : Bool) (whole : Terms) (size : ℕ) (now new : List ℤ) (i : ℕ) (t : ℕ × ℤ) → i < length whole → t ≡ get_or whole i t
    → IsFormAdded now new (unsigned_abs t.1) (λ p. signed_by negated t.1 *ℤ p (f t.0)) → IsUnderWay f negated whole size now i
    → IsUnderWay f negated whole size new (i + 1)
goes_on f negated whole size now new i t l is a u = record {
  complete = a.complete ∙ u.complete;
  small = omega (arith, a.small, u.small, ap row_mass (drop_item whole i t l is));
  sum = λ p. sum_with_rest (dense_form new p) (dense_form now p) (signed_by negated t.1 *ℤ p (f t.0))
      (signed_form f negated (drop (i + 1) whole) p) (signed_form f negated whole p) (a.sum p)
      (ap (λ x. dense_form now p +ℤ x) (sym (ap (λ (ts : Terms). signed_form f negated ts p) (drop_item whole i t l is)
      ∙ signed_form-cons f negated t (drop (i + 1) whole) p)) ∙ u.sum p);
}
  where
    sum_with_rest : (new now x rest all : ℤ) → new ≡ now +ℤ x → now +ℤ (x +ℤ rest) ≡ all → new +ℤ rest ≡ all
    sum_with_rest new now x rest all e h = omega (arith, ints, e, h)

signed_form-nil : (f : ℕ → ℕ) (negated : Bool) (p : ℕ → ℤ) → signed_form f negated [] p ≡ pos 0
signed_form-nil f true p = refl
signed_form-nil f false p = refl

pub row_at_end : {E : Type 0} (s : Space) (f : ℕ → ℕ) (negated : Bool) (whole : Terms) (now : List ℤ) (i : ℕ) (row : Result Terms E)
    → length whole ≤ i → IsUnderWay f negated whole (size_of s) now i
    → IfOk row (λ r. (p : ℕ → ℤ) → p 0 ≡ pos 0 → value r p ≡ dense_form now p) → IfOk row (IsOver (length now - 1)) → IfOk row IsCanonical
    → IfOk row (IsPulledRow s (signed_form f negated whole))
row_at_end s f negated whole now i (Err e) l u same up can = tt
row_at_end s f negated whole now i (Ok row) l u same up can = record {
  same = λ p z. same p z ∙ omega (arith, ints, u.sum p, ap (λ (ts : Terms). signed_form f negated ts p) (drop_all i whole l) ∙ signed_form-nil f negated p);
  coordinates = let e : length now - 1 ≡ size_of s = omega (arith, u.complete) in subst (λ n. IsOver n row) e up;
  canonical = can;
}

-- ---- the rows of constraints

-- the obligations that the constraints from number i on give, which don't depend on i
abbrev pub obligations_from : (ℕ → ℕ) → ℕ → List Constraint → List Form
obligations_from f i cs = constraint_obligations f cs

abbrev pub IsFormAtLeastZero : (ℕ → ℤ) → Form → Type 0
IsFormAtLeastZero p f = pos 0 ≤ℤ f p

-- each row has the value of its form
pub rows_same : (s : Space) (fs : List Form) (rows : List Terms) (p : ℕ → ℤ) → p 0 ≡ pos 0 → ArePulledRows s fs rows
    → AreAtLeastZero p rows ↔ All (IsFormAtLeastZero p) fs
rows_same s fs rows p z a = zip-same (IsPulledRow s) (IsFormAtLeastZero p) (λ (row : Terms). pos 0 ≤ℤ value row p)
    (λ f row r. (λ h. subst (λ (x : ℤ). pos 0 ≤ℤ x) (r.same p z) h, λ h. subst (λ (x : ℤ). pos 0 ≤ℤ x) (sym (r.same p z)) h)) fs rows a

pub demanded_forms_met : (k : Kind) (form : Form) (p : ℕ → ℤ) → All (IsFormAtLeastZero p) (inequalities_of k form) ↔ Meets k (form p)
demanded_forms_met Inequality form p = (
  λ a. All-head (IsFormAtLeastZero p) form [] a,
  λ h. All-cons (IsFormAtLeastZero p) form [] h
      (All-nil (IsFormAtLeastZero p)),
)
demanded_forms_met Equation form p =
    let down : Form = λ q. neg_ℤ (form q) in (
      λ a. let up = All-head (IsFormAtLeastZero p) form (down ∷ []) a in let low = All-head (IsFormAtLeastZero p) down []
          (All-tail (IsFormAtLeastZero p) form (down ∷ []) a) in omega (arith, ints, up, low),
      λ h. All-cons (IsFormAtLeastZero p) form (down ∷ []) (omega (arith, ints, h))
          (All-cons (IsFormAtLeastZero p) down [] (omega (arith, ints, h)) (All-nil (IsFormAtLeastZero p))),
    )

forms_met : (f : ℕ → ℕ) (p : ℕ → ℤ) (cs : List Constraint) → All (IsFormAtLeastZero p) (constraint_obligations f cs) ↔ AreMet (λ c. p (f c)) cs
forms_met f p [] = (λ a. All-nil (IsMet (λ c. p (f c))), λ a. All-nil (IsFormAtLeastZero p))
forms_met f p (c ∷ cs) =
    let first : List Form = inequalities_of c.kind (pulled_form f (value c.row)) in
    let one = demanded_forms_met c.kind (pulled_form f (value c.row)) p in
    let rest = forms_met f p cs in (
      λ a. let each = All-parts (IsFormAtLeastZero p) first (constraint_obligations f cs) a
          in All-cons (IsMet (λ c. p (f c))) c cs (one.0 each.0) (rest.0 each.1),
      λ h. All-append (IsFormAtLeastZero p) first (constraint_obligations f cs) (one.1 (All-head (IsMet (λ c. p (f c))) c cs h))
          (rest.1 (All-tail (IsMet (λ c. p (f c))) c cs h)),
    )

pub obligations_met : (s : Space) (f : ℕ → ℕ) (cs : List Constraint) (rows : List Terms) → ArePulledRows s (constraint_obligations f cs) rows
    → (p : ℕ → ℤ) → p 0 ≡ pos 0 → AreAtLeastZero p rows ↔ AreMet (λ c. p (f c)) cs
obligations_met s f cs rows a p z =
    let r = rows_same s (constraint_obligations f cs) rows p z a in
    let m = forms_met f p cs in
    (λ h. m.0 (r.0 h), λ h. r.1 (m.1 h))

pub obligations_up_to : (s : Space) (fs : List Form) (rows : List Terms) → ArePulledRows s fs rows → All (IsOver (size_of s)) rows
obligations_up_to s fs rows a = zip-right (IsPulledRow s) (IsOver (size_of s)) (λ f row r. r.coordinates) fs rows a

-- of a result whose rows are a vector's items
pub met_of : {E : Type 0} (s : Space) (g f : ℕ → ℕ) (cs : List Constraint) (r : Result (Vec Terms Global) E) → g ≡ f
    → IfOk r (λ v. ArePulledRows s (constraint_obligations g cs) v.items)
    → IfOk r (λ v. (p : ℕ → ℤ) → p 0 ≡ pos 0 → AreAtLeastZero p v.items ↔ AreMet (λ c. p (f c)) cs)
met_of s g f cs (Err e) is a = tt
met_of s g f cs (Ok v) is a = obligations_met s f cs v.items (subst (λ (h : ℕ → ℕ). ArePulledRows s (constraint_obligations h cs) v.items) is a)

pub up_to_of : {E : Type 0} (s : Space) (fs : List Form) (r : Result (Vec Terms Global) E) → IfOk r (λ v. ArePulledRows s fs v.items)
    → IfOk r (λ v. All (IsOver (size_of s)) v.items)
up_to_of s fs (Err e) a = tt
up_to_of s fs (Ok v) a = obligations_up_to s fs v.items a
