-- Weak duality: a certificate makes its target at least 0.
use Rattle.std.proofs.Common.{◌≡◌, ℕ, ◌<◌, ℤ, pos, ◌+ℤ◌, ◌*ℤ◌, ◌≤ℤ◌, refl, sym, ap, ap₂, subst, ◌∙◌, arith, List, [], ◌∷◌, Bool, true, false, All}
use Rattle.std.proofs.lemmas.Int.{ints}
use Rattle.std.proofs.lemmas.List.Elements.{All-head, All-tail}
use Rattle.it_number.proofs.SignLemmas.{sum_least, product_least, least_by_multiple}
use Rattle.it_space.specs.Answers.{CertificateView}
use Rattle.it_polymatroid.specs.Certificates.{Form, dot, IsLinear, combination, Generators, IsAllowed, IsCertificate, CertificatesProve}
use Rattle.it_space.specs.Rows.{one_at}
use Rattle.it_polymatroid.proofs.Forms.{dot_from_one, dot-scale, dot-add, linear-scale, linear_zero}

-- a sum of weights that may stand, at values that meet the generators, is at least 0
pub weighted_least : (g : Generators) (v : ℕ → ℤ) → ((i : ℕ) → i < g.count → pos 0 ≤ℤ v i) → ((i : ℕ) → i < g.count → g.is_equation i ≡ true → v i ≡ pos 0)
    → (ws : List (ℕ × ℤ)) → All (IsAllowed g) ws → pos 0 ≤ℤ combination ws v
weighted_least g v least zeros [] a = omega (arith, ints)
weighted_least g v least zeros (w ∷ ws) a =
    let here : IsAllowed g w = All-head (IsAllowed g) w ws a in
    let rest : pos 0 ≤ℤ combination ws v = weighted_least g v least zeros ws (All-tail (IsAllowed g) w ws a) in
    sum_least (w.1 *ℤ v w.0) (combination ws v) (term w.1 (v w.0) (g.is_equation w.0) here.1 (least w.0 here.0) (zeros w.0 here.0)) rest
  where
    term : (x y : ℤ) (b : Bool) → (b ≡ false → pos 0 ≤ℤ x) → pos 0 ≤ℤ y → (b ≡ true → y ≡ pos 0) → pos 0 ≤ℤ (x *ℤ y)
    term x y true h k e = subst (λ (z : ℤ). pos 0 ≤ℤ (x *ℤ z)) (sym (e refl)) (omega (arith, ints))
    term x y false h k e = product_least x y (h refl) k

-- the weights that stand name generators, so their sum is linear
weighted_is : (size : ℕ) (g : Generators) → ((i : ℕ) → i < g.count → IsLinear size (g.form i)) → (ws : List (ℕ × ℤ)) → All (IsAllowed g) ws
    → (p : ℕ → ℤ) → p 0 ≡ pos 0 → combination ws (λ i. g.form i p) ≡ dot size (λ c. combination ws (λ i. g.form i (one_at c))) p
weighted_is size g l [] a p e = (linear_zero size).sum p e
weighted_is size g l (w ∷ ws) a p e =
    ap₂ (λ x y. x +ℤ y) ((linear-scale size w.1 (g.form w.0) (l w.0 (All-head (IsAllowed g) w ws a).0)).sum p e)
    (weighted_is size g l ws (All-tail (IsAllowed g) w ws a) p e)
    ∙ sym (dot-add size (λ c. w.1 *ℤ g.form w.0 (one_at c)) (λ c. combination ws (λ i. g.form i (one_at c))) p)

-- sums that agree at each coordinate agree at every map
pub adds_up_everywhere : (size : ℕ) (g : Generators) (target : Form) (w : CertificateView)
    → ((i : ℕ) → i < g.count → IsLinear size (g.form i)) → IsLinear size target
    → IsCertificate size g target w → (p : ℕ → ℤ) → p 0 ≡ pos 0 → w.scale *ℤ target p ≡ combination w.weights (λ i. g.form i p)
adds_up_everywhere size g target w l m c p e =
    ap (λ x. w.scale *ℤ x) (m.sum p e)
    ∙ sym (dot-scale size w.scale (λ k. target (one_at k)) p)
    ∙ dot_from_one size (λ k. w.scale *ℤ target (one_at k)) (λ k. combination w.weights (λ i. g.form i (one_at k))) p e c.adds_up
    ∙ sym (weighted_is size g l w.weights c.allowed p e)

pub certificates_prove : CertificatesProve
certificates_prove size g target w l m c p e least zeros =
    least_by_multiple w.scale (target p) (omega (arith, ints, c.scale_from_one))
    (subst (λ (x : ℤ). pos 0 ≤ℤ x) (sym (adds_up_everywhere size g target w l m c p e)) (weighted_least g (λ i. g.form i p) least zeros w.weights c.allowed))
