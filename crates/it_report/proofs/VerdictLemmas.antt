-- The coordinate of a verdict is one of the space, and the verdict on certificates one after the other.
use Rattle.std.proofs.Common.{◌≡◌, ℕ, zero, suc, ◌+◌, ◌<◌, ◌≤◌, ℤ, pos, nat_lt, int_lt, not, ◌&&◌, List, [], ◌∷◌, Bool, true, false, Option, Some, None, if◌then◌else◌, drop, map, length, get_or, sym, ap, ◌∙◌, refl, arith}
use Rattle.std.specs.Option.{option_or}
use Rattle.std.specs.Ordering.{int_eq}
use Rattle.std.proofs.lemmas.Bool.{true≢false}
use Rattle.std.proofs.lemmas.List.{at_drop_all}
use Rattle.it_space.proofs.ListLemmas.{drop_item}
use Rattle.it_problems.specs.declared.problems.Kind.{Kind}
use Rattle.it_space.specs.declared.answers.Certificate.{Certificate}
use Rattle.it_space.specs.Answers.{CertificateView, certificate_view}
use Rattle.it_problems.specs.Problems.{ProblemView}
use Rattle.it_space.specs.Rows.{Terms, coefficient}
use Rattle.it_elemental.specs.Generators.{Generator, generator_at, is_equation}
use Rattle.it_check.specs.Sums.{product_within, sum_within}
use Rattle.it_check.specs.Verdicts.{column, valid_unless, of_scale, of_weight, of_weights, of_numbers, of_coordinate, of_coordinates, yes_verdict, violates, violation, of_value, of_generators, of_target, met_verdict, no_verdict}
use Rattle.it_check.specs.declared.verdicts.Verdict.{Verdict}
use Rattle.it_check.specs.declared.verdicts.Verdict.TheVariants.{Valid, BadScale, UnknownGenerator, NegativeWeight, Width, Mismatch, BrokenElemental, UnmetConstraint, NotViolated}
use Rattle.it_spans.specs.declared.types.Step.{Step}
use Rattle.it_spans.specs.Spans.{step_views}
use Rattle.it_report.specs.RowVerdicts.{proof_verdict, proofs_verdict, ray_verdict, rays_verdict, is_valid}
use Rattle.it_report.specs.Steps.{IsVerdictOver}

abbrev IsFindingOver : ℕ → Option Verdict → Type 0
IsFindingOver b None = Unit {0}
IsFindingOver b (Some v) = IsVerdictOver b v

either_over : (b : ℕ) (x y : Option Verdict) → IsFindingOver b x → IsFindingOver b y → IsFindingOver b (option_or x y)
either_over b None y h k = k
either_over b (Some v) y h k = h

chosen_over : (b : ℕ) (c : Bool) (x y : Option Verdict) → IsFindingOver b x → IsFindingOver b y → IsFindingOver b (if c then x else y)
chosen_over b true x y h k = h
chosen_over b false x y h k = k

told_over : (b : ℕ) (x : Option Verdict) → IsFindingOver b x → IsVerdictOver b (valid_unless x)
told_over b None h = tt
told_over b (Some v) h = h

weight_over : (b : ℕ) (gs : List Generator) (w : ℕ × ℤ) → IsFindingOver b (of_weight gs w)
weight_over b gs w =
    let negative = if int_lt w.1 (pos 0) && not (is_equation (generator_at gs w.0).kind) then Some (NegativeWeight w.0) else None in
    chosen_over b (nat_lt w.0 (length gs)) negative (Some (UnknownGenerator w.0))
    (chosen_over b (int_lt w.1 (pos 0) && not (is_equation (generator_at gs w.0).kind)) (Some (NegativeWeight w.0)) None tt tt) tt

weights_over : (b : ℕ) (gs : List Generator) (ws : List (ℕ × ℤ)) → IsFindingOver b (of_weights gs ws)
unfolding of_weights
weights_over b gs [] = tt
weights_over b gs (w ∷ ws) = either_over b (of_weight gs w) (of_weights gs ws) (weight_over b gs w) (weights_over b gs ws)

numbers_over : (b c : ℕ) (left right : Option ℤ) → c < b → IsFindingOver b (of_numbers c left right)
numbers_over b c None right h = tt
numbers_over b c (Some l) None h = tt
numbers_over b c (Some l) (Some r) h = chosen_over b (int_eq l r) None (Some (Mismatch c l r)) tt h

coordinates_over : (b : ℕ) (gs : List Generator) (t : Terms) (w : CertificateView) (c left : ℕ) → c + left ≤ b → IsFindingOver b (of_coordinates gs t w c left)
unfolding of_coordinates
coordinates_over b gs t w c zero h = tt
coordinates_over b gs t w c (suc left) h =
    either_over b (of_coordinate gs t w c) (of_coordinates gs t w (c + 1) left)
    (numbers_over b c (product_within w.scale (coefficient t c)) (sum_within (pos 0) w.weights (column gs c)) (omega arith))
    (coordinates_over b gs t w (c + 1) left (omega arith))

pub yes_over : (gs : List Generator) (size : ℕ) (t : Terms) (w : CertificateView) → IsVerdictOver (size + 1) (yes_verdict gs size t w)
unfolding yes_verdict
yes_over gs size t w =
    told_over (size + 1) _ (either_over (size + 1) (of_scale w.scale) _ (chosen_over (size + 1) (int_lt w.scale (pos 1)) (Some (BadScale w.scale)) None tt tt)
    (either_over (size + 1) (of_weights gs w.weights) (of_coordinates gs t w 1 size) (weights_over (size + 1) gs w.weights)
    (coordinates_over (size + 1) gs t w 1 size (omega arith))))

two_over : (b : ℕ) (c : Bool) (v u : Verdict) → IsVerdictOver b v → IsVerdictOver b u → IsVerdictOver b (if c then v else u)
two_over b true v u h k = h
two_over b false v u h k = k

violation_over : (b count i : ℕ) (x : ℤ) (c : Bool) → IsFindingOver b (if c then Some (violation count i x) else None)
violation_over b count i x true = two_over b (nat_lt i count) (BrokenElemental i x) (UnmetConstraint i x) tt tt
violation_over b count i x false = tt

value_over : (b count i : ℕ) (kind : Kind) (o : Option ℤ) → IsFindingOver b (of_value count i kind o)
value_over b count i kind None = tt
value_over b count i kind (Some x) = violation_over b count i x (violates kind x)

generators_over : (b count i : ℕ) (gs : List Generator) (p : ℕ → ℤ) → IsFindingOver b (of_generators count i gs p)
unfolding of_generators
generators_over b count i [] p = tt
generators_over b count i (g ∷ gs) p = either_over b (of_value count i g.kind (sum_within (pos 0) g.row p))
    (of_generators count (i + 1) gs p) (value_over b count i g.kind _) (generators_over b count (i + 1) gs p)

target_over : (b place : ℕ) (o : Option ℤ) → IsFindingOver b (of_target place o)
target_over b place None = tt
target_over b place (Some x) = chosen_over b (int_lt x (pos 0)) None (Some (NotViolated x)) tt tt

pub no_over : (b count : ℕ) (gs : List Generator) (t : Terms) (p : ℕ → ℤ) → IsVerdictOver b (no_verdict count gs t p)
unfolding no_verdict
no_over b count gs t p = told_over b _ (either_over b (of_generators count 0 gs p) (of_target (length gs) (sum_within (pos 0) t p))
    (generators_over b count 0 gs p) (target_over b (length gs) (sum_within (pos 0) t p)))

pub met_over : (b count : ℕ) (gs : List Generator) (p : ℕ → ℤ) → IsVerdictOver b (met_verdict count gs p)
unfolding met_verdict
met_over b count gs p = told_over b _ (generators_over b count 0 gs p)

-- ---- verdicts with nothing wrong

pub only_valid : (v : Verdict) → is_valid v ≡ true → v ≡ Valid
only_valid Valid e = refl
only_valid (BadScale s) e = absurd (cc)
only_valid (UnknownGenerator i) e = absurd (cc)
only_valid (NegativeWeight i) e = absurd (cc)
only_valid (Width i) e = absurd (cc)
only_valid (Mismatch i x y) e = absurd (cc)
only_valid (BrokenElemental i x) e = absurd (cc)
only_valid (UnmetConstraint i x) e = absurd (cc)
only_valid (NotViolated x) e = absurd (cc)

pub both_valid : (v u : Verdict) → (if is_valid v then u else v) ≡ Valid → (v ≡ Valid) × (u ≡ Valid)
both_valid v u e = by_valid (is_valid v) refl e
  where
    by_valid : (b : Bool) → is_valid v ≡ b → (if b then u else v) ≡ Valid → (v ≡ Valid) × (u ≡ Valid)
    by_valid true is e = (only_valid v is, e)
    by_valid false is e = absurd (true≢false (sym (ap is_valid e) ∙ is))

-- ---- certificates, one after the other

-- the rows and the certificates that are left
abbrev left_verdict : ProblemView → List Terms → List Certificate → ℕ → Verdict
left_verdict p ts cs i = proofs_verdict p (drop i ts) (map certificate_view (drop i cs))

module _ (p : ProblemView) (ts : List Terms) (cs : List Certificate) (i : ℕ) (t : Terms) (c : Certificate) (row : t ≡ get_or ts i t)
    (proof : c ≡ get_or cs i c) where
  abbrev by_valid : Bool → Verdict
  by_valid b = if b then left_verdict p ts cs (i + 1) else proof_verdict p t (certificate_view c)

  verdict_step : i < length ts → i < length cs → left_verdict p ts cs i ≡ by_valid (is_valid (proof_verdict p t (certificate_view c)))
  unfolding proofs_verdict
  verdict_step h k =
      ap (λ x. proofs_verdict p x (map certificate_view (drop i cs))) (drop_item ts i t h row)
      ∙ ap (λ y. proofs_verdict p (t ∷ drop (i + 1) ts) (map certificate_view y)) (drop_item cs i c k proof)

  pub proofs_found : i < length ts → i < length cs → is_valid (proof_verdict p t (certificate_view c)) ≡ false
      → left_verdict p ts cs i ≡ proofs_verdict p ts (map certificate_view cs)
      → proof_verdict p t (certificate_view c) ≡ proofs_verdict p ts (map certificate_view cs)
  proofs_found h k e inv = sym (ap by_valid e) ∙ sym (verdict_step h k) ∙ inv

  pub proofs_more : i < length ts → i < length cs → is_valid (proof_verdict p t (certificate_view c)) ≡ true
      → left_verdict p ts cs i ≡ proofs_verdict p ts (map certificate_view cs)
      → left_verdict p ts cs (i + 1) ≡ proofs_verdict p ts (map certificate_view cs)
  proofs_more h k e inv = sym (ap by_valid e) ∙ sym (verdict_step h k) ∙ inv

no_more : (p : ProblemView) (ts : List Terms) → proofs_verdict p ts [] ≡ Valid
unfolding proofs_verdict
no_more p [] = refl
no_more p (t ∷ ts) = refl

none_left : (p : ProblemView) (ws : List CertificateView) → proofs_verdict p [] ws ≡ Valid
unfolding proofs_verdict
none_left p ws = refl

module _ (p : ProblemView) (ts : List Terms) (cs : List Certificate) (i : ℕ)
    (inv : left_verdict p ts cs i ≡ proofs_verdict p ts (map certificate_view cs)) where
  pub proofs_short : length cs ≤ i → Valid ≡ proofs_verdict p ts (map certificate_view cs)
  proofs_short h = sym (no_more p (drop i ts)) ∙ sym (at_drop_all
      (λ (y : List Certificate). proofs_verdict p (drop i ts) (map certificate_view y)) cs i h) ∙ inv

  pub proofs_done : length ts ≤ i → Valid ≡ proofs_verdict p ts (map certificate_view cs)
  proofs_done h = sym (none_left p (map certificate_view (drop i cs)))
      ∙ sym (at_drop_all (λ (x : List Terms). proofs_verdict p x (map certificate_view (drop i cs))) ts i h) ∙ inv

-- ---- rays, one after the other

abbrev left_rays : ProblemView → List Step → ℕ → Verdict
left_rays p steps i = rays_verdict p (step_views (drop i steps))

module _ (p : ProblemView) (steps : List Step) (i : ℕ) (s : Step) (there : i < length steps) (at : s ≡ get_or steps i s) where
  abbrev by_ray : Bool → Verdict
  by_ray b = if b then left_rays p steps (i + 1) else ray_verdict p s.ray

  ray_step : left_rays p steps i ≡ by_ray (is_valid (ray_verdict p s.ray))
  unfolding rays_verdict
  ray_step = ap (λ xs. rays_verdict p (step_views xs)) (drop_item steps i s there at)

  pub rays_found : is_valid (ray_verdict p s.ray) ≡ false → left_rays p steps i ≡ rays_verdict p (step_views steps)
      → ray_verdict p s.ray ≡ rays_verdict p (step_views steps)
  rays_found e inv = sym (ap by_ray e) ∙ sym ray_step ∙ inv

  pub rays_more : is_valid (ray_verdict p s.ray) ≡ true → left_rays p steps i ≡ rays_verdict p (step_views steps)
      → left_rays p steps (i + 1) ≡ rays_verdict p (step_views steps)
  rays_more e inv = sym (ap by_ray e) ∙ sym ray_step ∙ inv

pub rays_done : (p : ProblemView) (steps : List Step) (i : ℕ) → length steps ≤ i → left_rays p steps i ≡ rays_verdict p (step_views steps)
    → Valid ≡ rays_verdict p (step_views steps)
unfolding rays_verdict
rays_done p steps i h inv = sym (at_drop_all (λ (xs : List Step). rays_verdict p (step_views xs)) steps i h) ∙ inv
