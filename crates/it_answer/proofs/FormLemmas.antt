-- What is shown by rows is shown by the forms that they are rows of.
use Rattle.std.proofs.Common.{◌≡◌, ℕ, zero, suc, ◌+◌, ◌<◌, ℤ, pos, ◌+ℤ◌, ◌*ℤ◌, List, [], ◌∷◌, map, length, get_or, false, All, refl, sym, ap, ap₂, ◌∙◌, arith}
use Rattle.std.proofs.lemmas.List.Elements.{All-weaker}
use Rattle.std.specs.List.{AllZip, AllByRecursion as Every}
use Rattle.it_space.specs.declared.spaces.Space.{Space}
use Rattle.it_problems.specs.declared.problems.Constraint.{Constraint}
use Rattle.it_problems.specs.declared.problems.Kind.{Kind}
use Rattle.it_problems.specs.declared.problems.Kind.TheVariants.{Inequality, Equation}
use Rattle.it_space.specs.Answers.{CertificateView}
use Rattle.it_problems.specs.Problems.{ProblemView, IsProblem}
use Rattle.it_space.specs.Rows.{Terms, IsOver, value, one_at}
use Rattle.it_space.specs.Spaces.{size_of}
use Rattle.it_polymatroid.specs.Certificates.{Form, IsAllowed, IsCertificate, combination}
use Rattle.it_polymatroid.specs.Elementals.{elementals}
use Rattle.it_space.proofs.EveryLemmas.{every_of, all_of}
use Rattle.it_polymatroid.proofs.Certified.{adds_up_everywhere}
use Rattle.it_polymatroid.proofs.Forms.{one_at-zero, value_linear}
use Rattle.it_elemental.proofs.GeneratorLemmas.{rows_of_space}
use Rattle.it_check.specs.Meaning.{CertifiesRow}
use Rattle.it_elemental.proofs.RowLemmas.{value-row}
use Rattle.it_demand.specs.Demands.{Demand}
use Rattle.it_demand.specs.Origins.{States}
use Rattle.it_demand.proofs.ZipLemmas.{zip-append, zip-length}
use Rattle.it_elemental.specs.Generators.{Generator, of_elemental, of_constraint, generator_list, generators, generator_at, forms_of, is_equation}
use Rattle.it_answer.specs.Forms.{demand_of_elemental, all_demands, demand_at, Certifies, IsAllowedWeight}

-- what isn't an equation is an inequality
pub inequality_unless_equation : (k : Kind) → is_equation k ≡ false → k ≡ Inequality
inequality_unless_equation Inequality e = refl
inequality_unless_equation Equation e = absurd (cc)

-- a generator's row has the values of a demand's form
pub record Speaks (d : Demand) (g : Generator) : Type 0 where
  pub kind : g.kind ≡ d.kind
  pub same : (p : ℕ → ℤ) → p 0 ≡ pos 0 → value g.row p ≡ d.form p

zip-maps : {X A B : Type 0} (R : A → B → Type 0) (f : X → A) (g : X → B) (xs : List X) → ((x : X) → R (f x) (g x)) → AllZip R (map f xs) (map g xs)
zip-maps R f g [] h = tt
zip-maps R f g (x ∷ xs) h = (h x, zip-maps R f g xs h)

zip-map : {X Y B : Type 0} (S : X → Y → Type 0) (R : X → B → Type 0) (g : Y → B) → ((x : X) (y : Y) → S x y → R x (g y))
    → (xs : List X) (ys : List Y) → AllZip S xs ys → AllZip R xs (map g ys)
zip-map S R g h [] [] a = tt
zip-map S R g h [] (y ∷ ys) a = absurd a
zip-map S R g h (x ∷ xs) [] a = absurd a
zip-map S R g h (x ∷ xs) (y ∷ ys) a = (h x y a.0, zip-map S R g h xs ys a.1)

zip-at : {A B : Type 0} (R : A → B → Type 0) (xs : List A) (ys : List B) (i : ℕ) (a : A) (b : B) → AllZip R xs ys → i < length ys
    → R (get_or xs i a) (get_or ys i b)
zip-at R [] [] i a b z h = absurd (omega arith)
zip-at R [] (y ∷ ys) i a b z h = absurd z
zip-at R (x ∷ xs) [] i a b z h = absurd z
zip-at R (x ∷ xs) (y ∷ ys) zero a b z h = z.0
zip-at R (x ∷ xs) (y ∷ ys) (suc i) a b z h = zip-at R xs ys i a b z.1 (omega arith)

pub generators_speak : (s : Space) (ds : List Demand) (cs : List Constraint) → AllZip (States s) ds cs
    → AllZip Speaks (all_demands s.variables ds) (generator_list s.variables cs)
unfolding all_demands generator_list
generators_speak s ds cs h = zip-append Speaks (map (demand_of_elemental s.variables) (elementals s.variables)) ds
    (map (of_elemental s.variables) (elementals s.variables)) (map of_constraint cs)
    (zip-maps Speaks (demand_of_elemental s.variables) (of_elemental s.variables) (elementals s.variables)
    (λ e. record { kind = refl; same = λ p z. value-row s.variables e p z }))
    (zip-map (States s) Speaks of_constraint (λ d c t. record { kind = t.kind; same = t.row.same }) ds cs h)

module _ (ds : List Demand) (gs : List Generator) (z : AllZip Speaks ds gs) where
  same_count : length gs ≡ length ds
  same_count = zip-length Speaks ds gs z

  speaks_at : (i : ℕ) → i < length gs → Speaks (demand_at ds i) (generator_at gs i)
  speaks_at i h = zip-at Speaks ds gs i (record { kind = Inequality; form = λ p. pos 0 }) (record { kind = Inequality; row = [] }) z h

  weighted_same : (p : ℕ → ℤ) → p 0 ≡ pos 0 → (ws : List (ℕ × ℤ)) → Every (λ (w : ℕ × ℤ). w.0 < length gs) ws
      → combination ws (λ i. value (generator_at gs i).row p) ≡ combination ws (λ i. (demand_at ds i).form p)
  weighted_same p e [] h = refl
  weighted_same p e (w ∷ ws) h = ap₂ (λ x y. w.1 *ℤ x +ℤ y) ((speaks_at w.0 h.0).same p e) (weighted_same p e ws h.1)

  module _ (size : ℕ) (f g : Form) (same : (p : ℕ → ℤ) → p 0 ≡ pos 0 → f p ≡ g p) (w : CertificateView) where
    pub by_forms : IsCertificate size (forms_of gs) f w → ((p : ℕ → ℤ) → p 0 ≡ pos 0
        → w.scale *ℤ f p ≡ combination w.weights (λ i. (forms_of gs).form i p)) → Certifies ds g w
    by_forms c everywhere = record {
      scale_from_one = c.scale_from_one;
      allowed = All-weaker (IsAllowed (forms_of gs)) (IsAllowedWeight ds)
          (λ x a. (omega (arith, a.0, same_count), λ e. a.1 (ap is_equation ((speaks_at x.0 a.0).kind ∙ e)))) w.weights c.allowed;
      adds_up = λ p e. ap (λ x. w.scale *ℤ x) (sym (same p e)) ∙ everywhere p e
          ∙ weighted_same p e w.weights (every_of (λ (x : ℕ × ℤ). x.0 < length gs) w.weights
          (All-weaker (IsAllowed (forms_of gs)) (λ (x : ℕ × ℤ). x.0 < length gs) (λ x a. a.0) w.weights c.allowed));
    }

    pub by_rows : Certifies ds g w → IsCertificate size (forms_of gs) f w
    by_rows c =
        let listed_here : (x : ℕ × ℤ) → IsAllowedWeight ds x → x.0 < length gs = λ x a. omega (arith, a.0, same_count) in
        record {
          scale_from_one = c.scale_from_one;
          allowed = All-weaker (IsAllowedWeight ds) (IsAllowed (forms_of gs))
              (λ x a. (
                listed_here x a,
                λ e. a.1 (sym (speaks_at x.0 (listed_here x a)).kind
                    ∙ inequality_unless_equation (generator_at gs x.0).kind e),
              )) w.weights c.allowed;
          adds_up = λ k h l. ap (λ x. w.scale *ℤ x) (same (one_at k) (one_at-zero k h)) ∙ c.adds_up (one_at k) (one_at-zero k h)
              ∙ sym (weighted_same (one_at k) (one_at-zero k h) w.weights (every_of (λ (x : ℕ × ℤ). x.0 < length gs) w.weights
              (All-weaker (IsAllowedWeight ds) (λ (x : ℕ × ℤ). x.0 < length gs) listed_here w.weights c.allowed)));
        }

-- rows that add up at each coordinate of a problem's space add up at every map
pub rows_add_up : (q : ProblemView) (target : Terms) (w : CertificateView) → IsProblem q → IsOver (size_of q.space) target → CertifiesRow q target w
    → (p : ℕ → ℤ) → p 0 ≡ pos 0 → w.scale *ℤ value target p ≡ combination w.weights (λ i. (forms_of (generators q)).form i p)
rows_add_up q target w k u c p e =
    let size = size_of q.space in
    let gs = generators q in
    let rows : All (λ g. IsOver size g.row) gs = all_of (λ g. IsOver size g.row) gs (rows_of_space q.space.variables size q.constraints (omega arith) k.rows) in
    adds_up_everywhere (size + 1) (forms_of gs) (value target) w (λ i l. value_linear size (generator_at gs i).row
    (rows i (record { kind = Inequality; row = [] }) l)) (value_linear size target u) c p e
