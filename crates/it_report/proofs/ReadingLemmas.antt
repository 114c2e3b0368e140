-- What was read of a line, by the word and the kind of its answer; it fits the question that is asked.
use Rattle.std.proofs.Common.{◌≡◌, List, Bool, true, false, Option, Some, None, Result, Ok, if◌then◌else◌, ap, subst, ◌∙◌}
use Rattle.std.specs.Prelude.{ok_or}
use Rattle.serde_json.specs.Data.{Data}
use Rattle.it_space.specs.Answers.{AnswerView, CertificateView}
use Rattle.it_ratio.specs.BestViews.{BestView}
use Rattle.it_certificate.specs.declared.keys.Key.{Key}
use Rattle.it_certificate.specs.declared.keys.Key.TheVariants as keys
use Rattle.it_certificate.specs.declared.kinds.AnswerKind.{AnswerKind}
use Rattle.it_certificate.specs.declared.kinds.AnswerKind.TheVariants.{No, Region}
use Rattle.it_certificate.specs.declared.kinds.FactorKind.{FactorKind}
use Rattle.it_certificate.specs.AnswerReading.{and_then}
use Rattle.it_certificate.specs.AnswerShapes.{HasQuestionShape}
use Rattle.it_certificate.specs.Bounds.{BoundsView, HasBoundsShape}
use Rattle.it_certificate.specs.CodeReading.{HasCodedShape, ReportedCodeView, tells_code}
use Rattle.it_certificate.specs.FactorReading.{factor_kind_at}
use Rattle.it_certificate.specs.FactorShapes.{HasFactorShape}
use Rattle.it_certificate.specs.OriginReading.{HasDerivedShape, answer_origins, tells_origins}
use Rattle.it_certificate.specs.Parts.{answer_kind_at}
use Rattle.it_certificate.specs.Reports.{Answered, Bounded, Coded, Derived, Factored, Misfit, Reading, answer_of, answer_to, best_to, bounded_of, bounds_to, code_to, coded_of, derived_of, reading_by, report_of, tells_misfit, tells_outer}
use Rattle.it_certificate.specs.Sources.{Source, asked, source_key}
use Rattle.it_certificate.proofs.CodeFits.{coded_fits}
use Rattle.it_certificate.proofs.FactorFits.{best_fits}
use Rattle.it_certificate.proofs.OriginFits.{derived_fits}
use Rattle.it_certificate.proofs.FitLemmas.{answer_fits, bounds_fit, key_ok, then_ok}
use Rattle.it_report.proofs.OneLemmas.{as_read, same_read}

-- a reading is made of what the line is about, and then of what it tells of that
record IsFromSource (A : Type 0) (own : Option Source) (told : Source → Result A Key) (make : Source → A → Reading) (reading : Reading) : Type 0 where
  source : Source
  part : A
  is : own ≡ Some source
  reads : told source ≡ Ok part
  makes : make source part ≡ reading

from_source : (A : Type 0) (own : Option Source) (k : Key) (told : Source → Result A Key) (make : Source → A → Reading) (x : Reading)
    → and_then (ok_or own k) (λ s. and_then (told s) (λ a. as_read (make s a))) ≡ as_read x → IsFromSource A own told make x
from_source A own k told make x e =
    let h = then_ok (ok_or own k) (λ s. and_then (told s) (λ a. as_read (make s a))) x e in
    let l = then_ok (told h.0) (λ a. as_read (make h.0 a)) x h.1.1 in
    record { source = h.0; part = l.0; is = key_ok k own h.0 h.1.0; reads = l.1.0; makes = same_read (make h.0 l.0) x l.1.1 }

-- a reading of a no with a code: what the line is about, the no and then the code
record IsFromCoded (own : Option Source) (d : Data) (reading : Reading) : Type 0 where
  source : Source
  answer : AnswerView
  code : ReportedCodeView
  is : own ≡ Some source
  answered : answer_to source No d ≡ Ok answer
  coded : code_to source d ≡ Ok code
  makes : Coded source answer code ≡ reading

from_coded : (own : Option Source) (d : Data) (x : Reading) → coded_of own d ≡ as_read x → IsFromCoded own d x
from_coded own d x e =
    let h = then_ok (ok_or own (source_key d)) (λ s. and_then (answer_to s No d) (λ a. and_then (code_to s d) (λ c. as_read (Coded s a c)))) x e in
    let l = then_ok (answer_to h.0 No d) (λ a. and_then (code_to h.0 d) (λ c. as_read (Coded h.0 a c))) x h.1.1 in
    let m = then_ok (code_to h.0 d) (λ c. as_read (Coded h.0 l.0 c)) x l.1.1 in
    record {
      source = h.0;
      answer = l.0;
      code = m.0;
      is = key_ok (source_key d) own h.0 h.1.0;
      answered = l.1.0;
      coded = m.1.0;
      makes = same_read (Coded h.0 l.0 m.0) x m.1.1;
    }

-- a reading of a region with origins: what the line is about, the region and then its origins
record IsFromDerived (own : Option Source) (d : Data) (reading : Reading) : Type 0 where
  source : Source
  answer : AnswerView
  origins : List CertificateView
  is : own ≡ Some source
  answered : answer_to source Region d ≡ Ok answer
  derived : answer_origins answer d ≡ Ok origins
  makes : Derived source answer origins ≡ reading

from_derived : (own : Option Source) (d : Data) (x : Reading) → derived_of own d ≡ as_read x → IsFromDerived own d x
from_derived own d x e =
    let h = then_ok (ok_or own (source_key d)) (λ s. and_then (answer_to s Region d)
    (λ a. and_then (answer_origins a d) (λ ws. as_read (Derived s a ws)))) x e in
    let l = then_ok (answer_to h.0 Region d) (λ a. and_then (answer_origins a d) (λ ws. as_read (Derived h.0 a ws))) x h.1.1 in
    let m = then_ok (answer_origins l.0 d) (λ ws. as_read (Derived h.0 l.0 ws)) x l.1.1 in
    record {
      source = h.0;
      answer = l.0;
      origins = m.0;
      is = key_ok (source_key d) own h.0 h.1.0;
      answered = l.1.0;
      derived = m.1.0;
      makes = same_read (Derived h.0 l.0 m.0) x m.1.1;
    }

module _ (own : Option Source) (d : Data) (x : Reading) (P : Type 0) (misfit : Misfit ≡ x → P)
    (bounded : IsFromSource BoundsView own (λ s. bounds_to s d) Bounded x → P)
    (factored : (kind : FactorKind) → IsFromSource BestView own (λ s. best_to s kind d) Factored x → P) (coded : IsFromCoded own d x → P)
    (derived : IsFromDerived own d x → P)
    (answered : (kind : AnswerKind) → IsFromSource AnswerView own (λ s. answer_to s kind d) Answered x → P) where
  by_answer : answer_of own d ≡ as_read x → P
  by_answer e =
      let h = then_ok (ok_or (answer_kind_at d) keys.Answer) (λ kind. and_then (ok_or own (source_key d))
      (λ s. and_then (answer_to s kind d) (λ a. as_read (Answered s a)))) x e in
      answered h.0 (from_source AnswerView own (source_key d) (λ s. answer_to s h.0 d) Answered x h.1.1)

  by_origins : (told : Bool) → (if told then derived_of own d else answer_of own d) ≡ as_read x → P
  by_origins true e = derived (from_derived own d x e)
  by_origins false e = by_answer e

  by_code : (told : Bool) → (if told then coded_of own d else if tells_origins d then derived_of own d else answer_of own d) ≡ as_read x → P
  by_code true e = coded (from_coded own d x e)
  by_code false e = by_origins (tells_origins d) e

  by_kind : (kind : Option FactorKind) → reading_by own kind d ≡ as_read x → P
  by_kind (Some kind) e = factored kind (from_source BestView own (source_key d) (λ s. best_to s kind d) Factored x e)
  by_kind None e = by_code (tells_code d) e

  by_outer : (outer : Bool) → (if outer then bounded_of own d else reading_by own (factor_kind_at d) d) ≡ as_read x → P
  by_outer true e = bounded (from_source BoundsView own (source_key d) (λ s. bounds_to s d) Bounded x e)
  by_outer false e = by_kind (factor_kind_at d) e

  by_word : (told : Bool) → (if told then Ok Misfit else if tells_outer d then bounded_of own d else reading_by own (factor_kind_at d) d) ≡ as_read x → P
  by_word true e = misfit (same_read Misfit x e)
  by_word false e = by_outer (tells_outer d) e

  by_reading : report_of own d ≡ as_read x → P
  unfolding report_of
  by_reading e = by_word (tells_misfit d) e

pub answer_is : (own : Option Source) (d : Data) (source : Source) (a : AnswerView) → report_of own d ≡ as_read (Answered source a)
    → (own ≡ Some source) × HasQuestionShape (asked source).body a
answer_is own d source a e = by_reading own d (Answered source a) ((own ≡ Some source) × HasQuestionShape (asked source).body a)
    (λ f. absurd (cc)) (λ h. absurd (cc)) (λ kind h. absurd (cc)) (λ h. absurd (cc)) (λ h. absurd (cc)) of_kind e
  where
    of_kind : (kind : AnswerKind) → IsFromSource AnswerView own (λ s. answer_to s kind d) Answered (Answered source a)
        → (own ≡ Some source) × HasQuestionShape (asked source).body a
    of_kind kind h =
        let s : h.source ≡ source = cc in
        let b : h.part ≡ a = cc in (
          h.is ∙ ap Some s,
          subst (λ t. HasQuestionShape (asked t).body a) s
              (subst (HasQuestionShape (asked h.source).body) b (answer_fits (asked h.source) kind d h.part h.reads)),
        )

pub best_is : (own : Option Source) (d : Data) (source : Source) (b : BestView) → report_of own d ≡ as_read (Factored source b)
    → (own ≡ Some source) × HasFactorShape (asked source).body b
best_is own d source b e = by_reading own d (Factored source b) ((own ≡ Some source) × HasFactorShape (asked source).body b)
    (λ f. absurd (cc)) (λ h. absurd (cc)) of_kind (λ h. absurd (cc)) (λ h. absurd (cc)) (λ kind h. absurd (cc)) e
  where
    of_kind : (kind : FactorKind) → IsFromSource BestView own (λ s. best_to s kind d) Factored (Factored source b)
        → (own ≡ Some source) × HasFactorShape (asked source).body b
    of_kind kind h =
        let s : h.source ≡ source = cc in
        let c : h.part ≡ b = cc in (
          h.is ∙ ap Some s,
          subst (λ t. HasFactorShape (asked t).body b) s (subst (HasFactorShape (asked h.source).body) c
              (best_fits (asked h.source) kind d h.part h.reads)),
        )

pub bounds_are : (own : Option Source) (d : Data) (source : Source) (b : BoundsView) → report_of own d ≡ as_read (Bounded source b)
    → (own ≡ Some source) × HasBoundsShape (asked source).body b
bounds_are own d source b e = by_reading own d (Bounded source b) ((own ≡ Some source) × HasBoundsShape (asked source).body b)
    (λ f. absurd (cc)) of_bounds (λ kind h. absurd (cc)) (λ h. absurd (cc)) (λ h. absurd (cc)) (λ kind h. absurd (cc)) e
  where
    of_bounds : IsFromSource BoundsView own (λ s. bounds_to s d) Bounded (Bounded source b) → (own ≡ Some source) × HasBoundsShape (asked source).body b
    of_bounds h =
        let s : h.source ≡ source = cc in
        let c : h.part ≡ b = cc in (
          h.is ∙ ap Some s,
          subst (λ t. HasBoundsShape (asked t).body b) s (subst (HasBoundsShape (asked h.source).body) c
              (bounds_fit (asked h.source) d h.part h.reads)),
        )

pub coded_is : (own : Option Source) (d : Data) (source : Source) (a : AnswerView) (c : ReportedCodeView) → report_of own d ≡ as_read (Coded source a c)
    → (own ≡ Some source) × HasCodedShape (asked source).body a c
coded_is own d source a c e =
    by_reading own d (Coded source a c) ((own ≡ Some source) × HasCodedShape (asked source).body a c) (λ f. absurd (cc)) (λ h. absurd (cc))
    (λ kind h. absurd (cc)) of_code (λ h. absurd (cc)) (λ kind h. absurd (cc)) e
  where
    of_code : IsFromCoded own d (Coded source a c) → (own ≡ Some source) × HasCodedShape (asked source).body a c
    of_code h =
        let s : h.source ≡ source = cc in
        let b : h.answer ≡ a = cc in
        let f : h.code ≡ c = cc in
        let fits : HasCodedShape (asked h.source).body h.answer h.code = coded_fits (asked h.source) d h.answer h.code h.answered h.coded in (
          h.is ∙ ap Some s,
          subst (λ t. HasCodedShape (asked t).body a c) s
              (subst (λ x. HasCodedShape (asked h.source).body x c) b (subst (HasCodedShape (asked h.source).body h.answer) f fits)),
        )

pub derived_is : (own : Option Source) (d : Data) (source : Source) (a : AnswerView) (ws : List CertificateView)
    → report_of own d ≡ as_read (Derived source a ws)
    → (own ≡ Some source) × HasDerivedShape (asked source).body a ws
derived_is own d source a ws e =
    by_reading own d (Derived source a ws) ((own ≡ Some source) × HasDerivedShape (asked source).body a ws) (λ f. absurd (cc))
    (λ h. absurd (cc)) (λ kind h. absurd (cc)) (λ h. absurd (cc)) of_origins (λ kind h. absurd (cc)) e
  where
    of_origins : IsFromDerived own d (Derived source a ws) → (own ≡ Some source) × HasDerivedShape (asked source).body a ws
    of_origins h =
        let s : h.source ≡ source = cc in
        let b : h.answer ≡ a = cc in
        let f : h.origins ≡ ws = cc in
        let fits : HasDerivedShape (asked h.source).body h.answer h.origins = derived_fits (asked h.source) d h.answer h.origins h.answered h.derived in (
          h.is ∙ ap Some s,
          subst (λ t. HasDerivedShape (asked t).body a ws) s
              (subst (λ x. HasDerivedShape (asked h.source).body x ws) b (subst (HasDerivedShape (asked h.source).body h.answer) f fits)),
        )
