-- What is read of factors fits its question.
use Rattle.std.proofs.Common.{◌≡◌, ℕ, ◌<◌, ◌^◌, ℤ, List, [], ◌∷◌, refl, subst, Some, Ok, Err, option_and_then, Bool, true, false, cond, codes}
use Rattle.std.specs.Prelude.{All, is_some, ok_or}
use Rattle.std.proofs.lemmas.List.Elements.{All-head, All-tail}
use Rattle.std.specs.Option.{option_zip}
use Rattle.serde_json.specs.Data.{Data}
use Rattle.serde_json.specs.Find.{get, as_array}
use Rattle.it_space.specs.Answers.{CertificateView}
use Rattle.it_space.specs.Spaces.{size_of}
use Rattle.it_demand.specs.QuestionSpaces.{space_of}
use Rattle.it_question.specs.Questions.{QuestionView}
use Rattle.it_ratio.specs.BestViews.{BestView, Least, Never, Unbounded, Undecided}
use Rattle.it_ratio.specs.Truth.{asked_by}
use Rattle.it_certificate.specs.declared.keys.Key.TheVariants as keys
use Rattle.it_certificate.specs.declared.kinds.FactorKind.{FactorKind}
use Rattle.it_certificate.specs.declared.kinds.FactorKind.TheVariants as kinds
use Rattle.it_certificate.specs.declared.kinds.FactorCause.{FactorCause}
use Rattle.it_certificate.specs.declared.kinds.FactorCause.TheVariants as words
use Rattle.it_certificate.specs.AnswerReading.{and_then}
use Rattle.it_certificate.specs.AnswerShapes.{IsNumbered}
use Rattle.it_certificate.specs.Numerals.{below, step_of}
use Rattle.it_certificate.specs.Parts.{certificate_at, count_at, integer_at, point_at, text_of, two_of}
use Rattle.it_certificate.specs.FactorReading.{best_at, both_of, cause_with, certificates_at, factor_at, factor_cause_of, least_at, never_at, one_of, phase_at, ratio_at, steps_at, unbounded_at, undecided_factor_at, verb_best}
use Rattle.it_certificate.specs.FactorShapes.{AreValues, HasBestShape, HasFactorShape, IsRatio, IsSmallCause}
use Rattle.it_certificate.proofs.FitLemmas.{certificate_numbers, key_ok, list_numbers, ok_same, step_below, then_ok}
use Rattle.it_certificate.proofs.WithinLemmas.{and_then_some, below_limit, integer_at_within, pair_some, point_length, point_within}

-- ---- keys

ratio_fits : (d : Data) (f : ℤ × ℤ) → ratio_at d ≡ Some f → IsRatio f.0 f.1
unfolding ratio_at
ratio_fits d f is =
    let h = and_then_some (option_and_then two_of (as_array d)) (λ p. option_zip (integer_at p.0) (integer_at p.1)) f is in
    let k = pair_some (integer_at h.0.0) (integer_at h.0.1) f h.1.1 in
    record { numerator = integer_at_within h.0.0 f.0 k.0; denominator = integer_at_within h.0.1 f.1 k.1 }

factor_fits : (d : Data) (f : ℤ × ℤ) → factor_at d ≡ Some f → IsRatio f.0 f.1
factor_fits d f is = let h = and_then_some (get (codes "factor") d) ratio_at f is in ratio_fits h.0 f h.1.1

all_numbered : (d : Data) (ws : List CertificateView) → certificates_at d ≡ Some ws → All IsNumbered ws
all_numbered d ws is = list_numbers IsNumbered certificate_at certificate_numbers (get (codes "proofs") d) ws is

one_fits : (ws : List CertificateView) (w : CertificateView) → All IsNumbered ws → one_of ws ≡ Some w → IsNumbered w
one_fits [] w all is = absurd (cc)
one_fits (x ∷ []) w all is = let e : x ≡ w = cc in subst IsNumbered e (All-head IsNumbered x [] all)
one_fits (x ∷ y ∷ ws) w all is = absurd (cc)

both_fit : (ws : List CertificateView) (w : CertificateView × CertificateView) → All IsNumbered ws → both_of ws ≡ Some w → IsNumbered w.0 × IsNumbered w.1
both_fit [] w all is = absurd (cc)
both_fit (x ∷ []) w all is = absurd (cc)
both_fit (x ∷ y ∷ []) w all is =
    let e : (x, y) ≡ w = cc in
    subst (λ (p : CertificateView × CertificateView). IsNumbered p.0 × IsNumbered p.1) e
    (All-head IsNumbered x (y ∷ []) all, All-head IsNumbered y [] (All-tail IsNumbered x (y ∷ []) all))
both_fit (x ∷ y ∷ z ∷ ws) w all is = absurd (cc)

proof_fits : (d : Data) (w : CertificateView) → option_and_then one_of (certificates_at d) ≡ Some w → IsNumbered w
proof_fits d w is = let h = and_then_some (certificates_at d) one_of w is in one_fits h.0 w (all_numbered d h.0 h.1.0) h.1.1

proofs_fit : (d : Data) (w : CertificateView × CertificateView) → option_and_then both_of (certificates_at d) ≡ Some w → IsNumbered w.0 × IsNumbered w.1
proofs_fit d w is = let h = and_then_some (certificates_at d) both_of w is in both_fit h.0 w (all_numbered d h.0 h.1.0) h.1.1

values_fit : (size : ℕ) (d : Data) (values : List ℤ) → point_at size d ≡ Some values → AreValues size values
values_fit size d values is = record { each = point_length size d values is; within = point_within size d values is }

steps_fit : (d : Data) (steps : ℕ) → steps_at d ≡ Some steps → steps < 2 ^ 32
steps_fit d steps is = let h = and_then_some (text_of (get (codes "at") d)) step_of steps is in step_below h.0 steps h.1.1

phase_fits : (d : Data) (phase : ℕ) → phase_at d ≡ Some phase → phase < 2 ^ 8
phase_fits d phase is = let h = and_then_some (option_and_then count_at (get (codes "phase") d)) (below (2 ^ 8)) phase is in below_limit (2 ^ 8) h.0 phase h.1.1

cause_fits : (cause : FactorCause) (steps phase : ℕ) → steps < 2 ^ 32 → phase < 2 ^ 8 → IsSmallCause (cause_with cause steps phase)
cause_fits words.Pivots steps phase h k = (h, k)
cause_fits words.Width steps phase h k = (h, k)
cause_fits words.Scale steps phase h k = tt
cause_fits words.Size steps phase h k = tt

-- ---- what is found

least_fits : (size : ℕ) (d : Data) (best : BestView) → least_at size d ≡ Ok best → HasBestShape size best
unfolding least_at
least_fits size d best is =
    let f = then_ok (ok_or (factor_at d) keys.Factor) (λ factor. and_then (ok_or (option_and_then one_of (certificates_at d)) keys.Proofs)
    (λ proof. and_then (ok_or (point_at size d) keys.Point) (λ values. Ok (Least factor.0 factor.1 proof values)))) best is in
    let w = then_ok (ok_or (option_and_then one_of (certificates_at d)) keys.Proofs)
    (λ proof. and_then (ok_or (point_at size d) keys.Point) (λ values. Ok (Least f.0.0 f.0.1 proof values))) best f.1.1 in
    let v = then_ok (ok_or (point_at size d) keys.Point) (λ values. Ok (Least f.0.0 f.0.1 w.0 values)) best w.1.1 in
    subst (HasBestShape size) {x = Least f.0.0 f.0.1 w.0 v.0} (ok_same (Least f.0.0 f.0.1 w.0 v.0) best v.1.1) (
      factor_fits d f.0 (key_ok keys.Factor (factor_at d) f.0 f.1.0),
      proof_fits d w.0 (key_ok keys.Proofs (option_and_then one_of (certificates_at d)) w.0 w.1.0),
      values_fit size d v.0 (key_ok keys.Point (point_at size d) v.0 v.1.0),
    )

never_fits : (size : ℕ) (d : Data) (best : BestView) → never_at size d ≡ Ok best → HasBestShape size best
unfolding never_at
never_fits size d best is =
    let v = then_ok (ok_or (point_at size d) keys.Point) (λ values. Ok (Never values)) best is in
    subst (HasBestShape size) {x = Never v.0} (ok_same (Never v.0) best v.1.1) (values_fit size d v.0 (key_ok keys.Point (point_at size d) v.0 v.1.0))

unbounded_fits : (size : ℕ) (d : Data) (best : BestView) → unbounded_at d ≡ Ok best → HasBestShape size best
unfolding unbounded_at
unbounded_fits size d best is =
    let f = then_ok (ok_or (factor_at d) keys.Factor) (λ factor. and_then (ok_or (option_and_then both_of (certificates_at d)) keys.Proofs)
    (λ proofs. Ok (Unbounded factor.0 factor.1 proofs.0 proofs.1))) best is in
    let w = then_ok (ok_or (option_and_then both_of (certificates_at d)) keys.Proofs) (λ proofs. Ok (Unbounded f.0.0 f.0.1 proofs.0 proofs.1)) best f.1.1 in
    let both = proofs_fit d w.0 (key_ok keys.Proofs (option_and_then both_of (certificates_at d)) w.0 w.1.0) in
    subst (HasBestShape size) {x = Unbounded f.0.0 f.0.1 w.0.0 w.0.1} (ok_same (Unbounded f.0.0 f.0.1 w.0.0 w.0.1) best w.1.1)
    (factor_fits d f.0 (key_ok keys.Factor (factor_at d) f.0 f.1.0), both.0, both.1)

undecided_fits : (size : ℕ) (d : Data) (best : BestView) → undecided_factor_at d ≡ Ok best → HasBestShape size best
unfolding undecided_factor_at
undecided_fits size d best is =
    let cause = option_and_then factor_cause_of (text_of (get (codes "cause") d)) in
    let c = then_ok (ok_or (option_and_then factor_cause_of (text_of (get (codes "cause") d))) keys.Cause) (λ cause. and_then (ok_or (steps_at d) keys.At) (λ steps. and_then (ok_or (phase_at d) keys.Phase) (λ phase. Ok (Undecided (cause_with cause steps phase))))) best is in
    let s = then_ok (ok_or (steps_at d) keys.At) (λ steps. and_then (ok_or (phase_at d) keys.Phase)
    (λ phase. Ok (Undecided (cause_with c.0 steps phase)))) best c.1.1 in
    let p = then_ok (ok_or (phase_at d) keys.Phase) (λ phase. Ok (Undecided (cause_with c.0 s.0 phase))) best s.1.1 in
    subst (HasBestShape size) {x = Undecided (cause_with c.0 s.0 p.0)} (ok_same (Undecided (cause_with c.0 s.0 p.0)) best p.1.1)
    (cause_fits c.0 s.0 p.0 (steps_fit d s.0 (key_ok keys.At (steps_at d) s.0 s.1.0)) (phase_fits d p.0 (key_ok keys.Phase (phase_at d) p.0 p.1.0)))

by_kind : (size : ℕ) (kind : FactorKind) (d : Data) (best : BestView) → best_at size kind d ≡ Ok best → HasBestShape size best
by_kind size kinds.Least d best is = least_fits size d best is
by_kind size kinds.Never d best is = never_fits size d best is
by_kind size kinds.Unbounded d best is = unbounded_fits size d best is
by_kind size kinds.Undecided d best is = undecided_fits size d best is

pub best_fits : (q : QuestionView) (kind : FactorKind) (d : Data) (best : BestView) → verb_best q.body.names q.body.verb kind d ≡ Ok best
    → HasFactorShape q.body best
best_fits q kind d best is = by_test (is_some (asked_by q.body.verb)) refl is
  where
    by_test : (b : Bool) → is_some (asked_by q.body.verb) ≡ b → cond b (best_at (size_of (space_of q.body.names)) kind d) (Err keys.Answer)
        ≡ Ok best → HasFactorShape q.body best
    by_test true asks e = record { asks = asks; shape = by_kind (size_of (space_of q.body.names)) kind d best e }
    by_test false asks e = absurd (cc)
