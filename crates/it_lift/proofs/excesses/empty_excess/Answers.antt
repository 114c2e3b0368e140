use Rattle.std.proofs.Common.{rules, ◌≡◌, ◌^◌, ◌<◌, ℕ, List, nat_eq, FitsSigned, to_z, to_z-of_z, sym, ap, ap₂, subst, ◌∙◌}
use Rattle.std.proofs.lemmas.Nat.{pow_pos}
use Rattle.it_space.specs.Answers.{CertificateView, certificate_view}
use Rattle.it_space.specs.Rows.{value}
use Rattle.it_polymatroid.specs.Certificates.{Form, Generators}
use Rattle.it_closure.specs.declared.dependences.Dependence.{Dependence}
use Rattle.it_closure.specs.Closures.{closure}
use Rattle.it_elemental.specs.Generators.{generators_of}
use Rattle.it_lift.specs.Fits.{ExcessFits}
use Rattle.it_lift.specs.Lifts.{excess}
use Rattle.it_lift.proofs.EmptySteps.{evening-more, evening-stops, number_below}
use Rattle.it_lift.proofs.excesses.empty_excess.Goals as goal
use mir.Syntax.{w128}

-- whether a set has the closure of the empty set
same_test : (n : ℕ) (ds : List Dependence) (m s x y z : ℕ) → s ≡ m → (s < 2 ^ n → x ≡ closure n ds s) → m < 2 ^ n → z ≡ 0
    → (z < 2 ^ n → y ≡ closure n ds z) → nat_eq (closure n ds m) (closure n ds 0) ≡ nat_eq x y
same_test n ds m s x y z e f l g h =
    ap₂ nat_eq (sym (f (rw e l) ∙ ap (closure n ds) e)) (sym (h (rw g (pow_pos n)) ∙ ap (closure n ds) g))

pub returns-in_err-total-clause-wide : goal.returns-in_err-total-clause-wide
returns-in_err-total-clause-wide c =
    let n : ℕ = c.args.dependences.now.space.variables in
    let ds : List Dependence = c.args.dependences.now.list in
    let m : ℕ = c.loop-number.number in
    let target : Form = value c.args.target.now in
    let g : Generators = generators_of c.args.problem.now in
    let w : CertificateView = certificate_view c.args.collapsed.now in
    let below : m < 2 ^ n = number_below m c.space.result.variables n c.loop-number-test.true
    (rw c.space.ensures.value c.facts.ensures.space.few) (ap (λ s. s.variables) (c.requires.space ∙ sym c.space.ensures.value)) in
    let left_fits : FitsSigned w128 c.in_ok-left.left = search rules in
    let wide = simp to_z-of_z at c.in_err-total.ensures in
    let test : nat_eq (closure n ds m) (closure n ds 0) ≡ c.eq.result =
    same_test n ds m c.from_number-set.result c.close.result c.close-null.result c.empty.result c.from_number-set.ensures
    c.close.ensures.own below c.empty.ensures c.close-null.ensures.own ∙ sym c.eq.ensures in
    let stops = evening-stops n ds target g w m (to_z w128 c.loop-number.total-bits) c.in_ok-left.left c.eq.result below test
    (c.in_ok-left.ensures.1 ∙ ap (excess w target g) c.from_number-set.ensures) wide c.loop-number.invariant in
    search (rules, stops)

pub loop-number-preserved : goal.loop-number-preserved
loop-number-preserved c =
    let n : ℕ = c.args.dependences.now.space.variables in
    let ds : List Dependence = c.args.dependences.now.list in
    let m : ℕ = c.loop-number.number in
    let target : Form = value c.args.target.now in
    let g : Generators = generators_of c.args.problem.now in
    let w : CertificateView = certificate_view c.args.collapsed.now in
    let below : m < 2 ^ n = number_below m c.space.result.variables n c.loop-number-test.true
    (rw c.space.ensures.value c.facts.ensures.space.few) (ap (λ s. s.variables) (c.requires.space ∙ sym c.space.ensures.value)) in
    let left_fits : FitsSigned w128 c.in_ok-left.left = search rules in
    let sum_fits : FitsSigned w128 c.in_ok-total.total = search rules in
    let step = simp to_z-of_z at c.in_ok-total.ensures in
    let test : nat_eq (closure n ds m) (closure n ds 0) ≡ c.eq.result =
    same_test n ds m c.from_number-set.result c.close.result c.close-null.result c.empty.result c.from_number-set.ensures
    c.close.ensures.own below c.empty.ensures c.close-null.ensures.own ∙ sym c.eq.ensures in
    rw (to_z-of_z sum_fits) (evening-more n ds target g w m (to_z w128 c.loop-number.total-bits) c.in_ok-left.left c.in_ok-total.total c.eq.result below test
    (subst (ExcessFits w target g) c.from_number-set.ensures c.in_ok-left.ensures.0)
    (c.in_ok-left.ensures.1 ∙ ap (excess w target g) c.from_number-set.ensures) step.0 step.1 c.loop-number.invariant)
