-- Rows and constraints are determined by what they state.
use Rattle.std.proofs.Common.{◌≡◌, ℕ, zero, suc, ◌≤◌, ℤ, pos, [], ◌∷◌, List, refl, sym, ap, ap₂, ◌∙◌, arith}
use Rattle.std.specs.List.{AllZip, zip, AllByRecursion as Every}
use Rattle.it_problems.specs.declared.problems.Kind.{Kind}
use Rattle.it_problems.specs.declared.problems.Origin.{Origin}
use Rattle.it_problems.specs.declared.problems.Constraint.{Constraint}
use Rattle.it_space.specs.Rows.{Terms, IsCanonical, IsOver, coefficient, one_at, value}
use Rattle.it_space.specs.Spaces.{size_of}
use Rattle.it_space.proofs.CanonicalRows.{rows_by_coefficients, other_is}
use Rattle.it_space.proofs.TermLemmas.{value-one_at}
use Rattle.it_space.proofs.EveryLemmas.{every_of}
use Rattle.it_polymatroid.proofs.Forms.{one_at-zero}
use Rattle.it_demand.specs.Canonical.{IsRowOf}
use Rattle.it_demand.specs.Demands.{Demand}
use Rattle.it_demand.specs.Origins.{ComesFrom, States}
use Rattle.it_demand.proofs.ZipLemmas.{zip-both}
use Rattle.it_demand.specs.Theorems.{OneRow, OneRowList, OneConstraintList}

none_at_zero : (size : ℕ) (ts : Terms) → Every (λ (t : ℕ × ℤ). (1 ≤ t.0) × (t.0 ≤ size)) ts → coefficient ts 0 ≡ pos 0
none_at_zero size [] u = refl
none_at_zero size (t ∷ ts) u = other_is t ts 0 (λ e. omega (arith, u.0.0, e)) ∙ none_at_zero size ts u.1

-- two canonical rows over the coordinates with one value at every map that is 0 at the empty set
pub told_by_values : (size : ℕ) (r t : Terms) → IsOver size r → IsOver size t → IsCanonical r → IsCanonical t
    → ((p : ℕ → ℤ) → p 0 ≡ pos 0 → value r p ≡ value t p) → r ≡ t
told_by_values size r t up up_also canonical also_canonical values = rows_by_coefficients 0 r t canonical also_canonical same_coefficients
  where
    zero_at : (x : Terms) → IsOver size x → coefficient x 0 ≡ pos 0
    zero_at x i = none_at_zero size x (every_of (λ (t : ℕ × ℤ). (1 ≤ t.0) × (t.0 ≤ size)) x i)

    same_coefficients : (c : ℕ) → coefficient r c ≡ coefficient t c
    same_coefficients zero = zero_at r up ∙ sym (zero_at t up_also)
    same_coefficients (suc c) = sym (value-one_at r (suc c)) ∙ values (one_at (suc c)) (one_at-zero (suc c) (omega arith)) ∙ value-one_at t (suc c)

pub one_row : OneRow
one_row s form r t a b = told_by_values (size_of s) r t a.coordinates b.coordinates a.canonical b.canonical (λ p z. a.same p z ∙ sym (b.same p z))

-- lists are determined if each item is
pub zip-told : {A B : Type 0} (R : A → B → Type 0) → ((x : A) (y z : B) → R x y → R x z → y ≡ z) → (xs : List A) (ys zs : List B)
    → AllZip R xs ys → AllZip R xs zs → ys ≡ zs
zip-told R f [] [] [] a b = refl
zip-told R f [] [] (z ∷ zs) a b = absurd b
zip-told R f [] (y ∷ ys) zs a b = absurd a
zip-told R f (x ∷ xs) [] zs a b = absurd a
zip-told R f (x ∷ xs) (y ∷ ys) [] a b = absurd b
zip-told R f (x ∷ xs) (y ∷ ys) (z ∷ zs) a b = ap₂ (λ c cs. c ∷ cs) (f x y z a.0 b.0) (zip-told R f xs ys zs a.1 b.1)

pub one_row_list : OneRowList
one_row_list s forms rs ts a b = zip-told (IsRowOf s) (one_row s) forms rs ts a b

-- a constraint is determined by its row, its kind and its origin
abbrev constraint : Terms → Kind → Origin → Constraint
constraint row kind origin = record { row = row; kind = kind; origin = origin }

same_constraint : (r t : Terms) (j k : Kind) (o p : Origin) → r ≡ t → j ≡ k → o ≡ p → constraint r j o ≡ constraint t k p
same_constraint r t j k o p e f g = ap₂ (λ x y. constraint x y o) e f ∙ ap (constraint t k) g

pub one_constraint_list : OneConstraintList
one_constraint_list s places ds cs others a b = zip-told (λ (d : Origin × Demand) (c : Constraint). ComesFrom d.0 c × States s d.1 c)
    (λ d x y h k. same_constraint x.row y.row x.kind y.kind x.origin y.origin (one_row s d.1.form x.row y.row h.1.row k.1.row)
    (h.1.kind ∙ sym k.1.kind) (h.0 ∙ sym k.0)) (zip places ds) cs others
    (zip-both ComesFrom (States s) places ds cs a.placed a.stated) (zip-both ComesFrom (States s) places ds others b.placed b.stated)
