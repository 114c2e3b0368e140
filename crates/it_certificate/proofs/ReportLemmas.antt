-- The reading of a value, step by step.
use Rattle.std.proofs.Common.{◌≡◌, refl, ap, sym, subst, ◌∙◌, List, Vec, map, Bool, true, false, cond, Option, Some, None, Result, Ok, Err}
use Rattle.std.specs.Prelude.{ok_or}
use Rattle.std.specs.Global.{Global}
use Rattle.serde_json.specs.Data.{Data}
use Rattle.it_space.specs.Answers.{AnswerView, CertificateView, answer_view, certificate_view}
use Rattle.it_space.specs.declared.answers.Answer.{Answer}
use Rattle.it_space.specs.declared.answers.Certificate.{Certificate}
use Rattle.it_question.specs.declared.sizes.FileLimits.{FileLimits}
use Rattle.it_question.specs.Questions.{QuestionView}
use Rattle.it_certificate.specs.declared.keys.Refusal.{Refusal}
use Rattle.it_certificate.specs.declared.keys.Refusal.TheVariants as refusals
use Rattle.it_certificate.specs.declared.kinds.AnswerKind.{AnswerKind}
use Rattle.it_certificate.specs.declared.kinds.AnswerKind.TheVariants as kinds
use Rattle.it_certificate.specs.declared.keys.Key.{Key}
use Rattle.it_certificate.specs.declared.keys.Key.TheVariants as keys
use Rattle.it_certificate.specs.declared.keys.ReportFault.{ReportFault}
use Rattle.it_certificate.specs.declared.keys.ReportFault.TheVariants as faults
use Rattle.it_certificate.specs.declared.types.Reported.TheVariants as reported
use Rattle.it_certificate.specs.declared.types.ReportedBounds.{ReportedBounds}
use Rattle.it_certificate.specs.CodeReading.{ReportedCodeView, names_code, tells_code}
use Rattle.it_certificate.specs.OriginReading.{answer_origins, tells_origins}
use Rattle.it_certificate.specs.Parts.{answer_kind_at}
use Rattle.it_ratio.specs.BestViews.{BestView, best_view}
use Rattle.it_ratio.specs.declared.types.Best.{Best}
use Rattle.it_certificate.specs.declared.kinds.FactorKind.{FactorKind}
use Rattle.it_certificate.specs.FactorReading.{factor_kind_at, verb_best}
use Rattle.it_certificate.specs.Reports.{Answered, Coded, Derived, Factored, Misfit, Reading, ReadsAs, answer_of, answer_to, best_to, code_to, coded_of, derived_of, reading_by, report_of, tells_misfit, verb_answer, Bounded, bounded_of, bounds_to, tells_outer}
use Rattle.it_certificate.specs.Bounds.{BoundsView, bounds_view, verb_bounds}
use Rattle.it_certificate.specs.ReportSteps.{GivesAsked, GivesSource, ReadsValue}
use Rattle.it_certificate.specs.Sources.{IsSourceOf, Source, asked, source_key}
use Rattle.it_certificate.specs.Steps.{GivesKeyed, fault_by}
use Rattle.it_certificate.specs.AnswerReading.{and_then}
use Rattle.it_certificate.proofs.SourceLemmas.{source_there}

-- the reading of a line that isn't a misfit, by whether it tells bounds
abbrev reading_of : Option Source → Data → Bool → Result Reading Key
reading_of own d outer = cond outer (bounded_of own d) (reading_by own (factor_kind_at d) d)

module _ (limits : FileLimits) where
  pub told_misfit : (d : Data) → true ≡ tells_misfit d → ReadsValue limits d (Ok reported.Misfit)
  unfolding report_of
  told_misfit d told =
      let own = source_there limits d in
      (Misfit, tt, record { own = own.0; source = own.1; is = ap (λ b. cond b (Ok Misfit) (reading_of own.0 d (tells_outer d))) (sym told) })

  of_no_misfit : (d : Data) → false ≡ tells_misfit d → (o : Option Source) → report_of o d ≡ reading_of o d (tells_outer d)
  unfolding report_of
  of_no_misfit d told o = ap (λ b. cond b (Ok Misfit) (reading_of o d (tells_outer d))) (sym told)

  pub no_question : (d : Data) (refusal : Refusal) (key : Key) (f : ReportFault) → GivesSource limits d (Err refusal) → key ≡ source_key d
      → f ≡ fault_by refusal key → GivesAsked limits d (Err f)
  no_question d refusals.Shape key f none e made = subst (λ g. GivesAsked limits d (Err g)) (sym made) (e, none)
  no_question d refusals.Memory key f none e made = subst (λ g. GivesAsked limits d (Err g)) (sym made) tt

  -- ---- a line that tells an outer bound

  module _ (d : Data) (told : false ≡ tells_misfit d) (outer : true ≡ tells_outer d) where
    of_bounds : (o : Option Source) → report_of o d ≡ bounded_of o d
    of_bounds o = of_no_misfit d told o ∙ ap (reading_of o d) (sym outer)

    pub no_bounds_source : (f : ReportFault) → GivesAsked limits d (Err f) → ReadsValue limits d (Err f)
    no_bounds_source (faults.Shape key) none = subst (λ k. ReadsAs limits d (Err k)) (sym none.0) (record { own = None; source = none.1; is = of_bounds None })
    no_bounds_source faults.NotJson none = none
    no_bounds_source faults.Memory none = tt

    bounds_as : (source : Source) (r : Result BoundsView Key) → IsSourceOf limits d source → bounds_to source d ≡ r
        → ReadsAs limits d (and_then r (λ b. Ok (Bounded source b)))
    bounds_as source r own by = record { own = Some source; source = own; is = of_bounds (Some source) ∙ ap (λ z. and_then z (λ b. Ok (Bounded source b))) by }

    -- the bounds of the question that is asked
    as_bounded : (source : Source) (q : QuestionView) (r : Result BoundsView Key) → asked source ≡ q
        → verb_bounds q.body.names q.body.verb d ≡ r → bounds_to source d ≡ r
    as_bounded source q r e by = ap (λ (z : QuestionView). verb_bounds z.body.names z.body.verb d) e ∙ by

    pub bounds_ok : (q : QuestionView) (b : ReportedBounds) → GivesSource limits d (Ok q)
        → verb_bounds q.body.names q.body.verb d ≡ Ok (bounds_view b)
        → ReadsValue limits d (Ok (reported.Bounded q b))
    bounds_ok q b gives by = (
      Bounded gives.0 (bounds_view b),
      (gives.2, refl),
      bounds_as gives.0 (Ok (bounds_view b)) gives.1
          (as_bounded gives.0 q (Ok (bounds_view b)) gives.2 by),
    )

    pub bounds_err : (q : QuestionView) (f : ReportFault) → GivesSource limits d (Ok q)
        → GivesKeyed bounds_view (Err f) (verb_bounds q.body.names q.body.verb d) → ReadsValue limits d (Err f)
    bounds_err q (faults.Shape key) gives by = bounds_as gives.0 (Err key) gives.1 (as_bounded gives.0 q (Err key) gives.2 by)
    bounds_err q faults.NotJson gives by = by
    bounds_err q faults.Memory gives by = tt

  module _ (d : Data) (told : false ≡ tells_misfit d) (outer : false ≡ tells_outer d) where
    by_kind : (o : Option Source) (kind : Option FactorKind) → kind ≡ factor_kind_at d → report_of o d ≡ reading_by o kind d
    by_kind o kind is = of_no_misfit d told o ∙ ap (reading_of o d) (sym outer) ∙ ap (λ k. reading_by o k d) (sym is)

    by_origins : (o : Option Source) (code origins : Bool) → None ≡ factor_kind_at d → code ≡ tells_code d → origins ≡ tells_origins d
        → report_of o d ≡ cond code (coded_of o d) (cond origins (derived_of o d) (answer_of o d))
    by_origins o code origins other is_code is_origins = by_kind o None other
        ∙ ap (λ b. cond b (coded_of o d) (cond (tells_origins d) (derived_of o d) (answer_of o d))) (sym is_code)
        ∙ ap (λ b. cond code (coded_of o d) (cond b (derived_of o d) (answer_of o d))) (sym is_origins)

    -- ---- a line that is about no factors, and has neither a code nor origins

    module _ (other : None ≡ factor_kind_at d) (no_code : false ≡ tells_code d) (plain : false ≡ tells_origins d) where
      by_answer : (o : Option Source) (kind : Option AnswerKind) → kind ≡ answer_kind_at d
          → report_of o d ≡ and_then (ok_or kind keys.Answer) (λ kind. and_then (ok_or o (source_key d))
          (λ source. and_then (answer_to source kind d) (λ a. Ok (Answered source a))))
      by_answer o kind is = by_origins o false false other no_code plain
          ∙ ap (λ k. and_then (ok_or k keys.Answer) (λ kind. and_then (ok_or o (source_key d))
          (λ source. and_then (answer_to source kind d) (λ a. Ok (Answered source a))))) (sym is)

      pub no_kind : None ≡ answer_kind_at d → ReadsAs limits d (Err keys.Answer)
      no_kind is =
          let own = source_there limits d in
          record { own = own.0; source = own.1; is = by_answer own.0 None is }

      module _ (kind : AnswerKind) (is : Some kind ≡ answer_kind_at d) where
        pub no_source : (f : ReportFault) → GivesAsked limits d (Err f) → ReadsValue limits d (Err f)
        no_source (faults.Shape key) none = subst (λ k. ReadsAs limits d (Err k)) (sym none.0)
            (record { own = None; source = none.1; is = by_answer None (Some kind) is })
        no_source faults.NotJson none = none
        no_source faults.Memory none = tt

        answer_as : (source : Source) (r : Result AnswerView Key) → IsSourceOf limits d source → answer_to source kind d ≡ r
            → ReadsAs limits d (and_then r (λ a. Ok (Answered source a)))
        answer_as source r own by = record {
          own = Some source;
          source = own;
          is = by_answer (Some source) (Some kind) is
              ∙ ap (λ z. and_then z (λ a. Ok (Answered source a))) by;
        }

        -- the answer to the question that is asked
        as_asked : (source : Source) (q : QuestionView) (r : Result AnswerView Key) → asked source ≡ q
            → verb_answer q.body.names q.body.verb kind d ≡ r → answer_to source kind d ≡ r
        as_asked source q r e by = ap (λ (z : QuestionView). verb_answer z.body.names z.body.verb kind d) e ∙ by

        pub answer_ok : (q : QuestionView) (a : Answer) → GivesSource limits d (Ok q)
            → verb_answer q.body.names q.body.verb kind d ≡ Ok (answer_view a)
            → ReadsValue limits d (Ok (reported.Answered q a))
        answer_ok q a gives by = (
          Answered gives.0 (answer_view a),
          (gives.2, refl),
          answer_as gives.0 (Ok (answer_view a)) gives.1
              (as_asked gives.0 q (Ok (answer_view a)) gives.2 by),
        )

        pub answer_err : (q : QuestionView) (f : ReportFault) → GivesSource limits d (Ok q)
            → GivesKeyed answer_view (Err f) (verb_answer q.body.names q.body.verb kind d)
            → ReadsValue limits d (Err f)
        answer_err q (faults.Shape key) gives by = answer_as gives.0 (Err key) gives.1 (as_asked gives.0 q (Err key) gives.2 by)
        answer_err q faults.NotJson gives by = by
        answer_err q faults.Memory gives by = tt

    -- ---- a no with a code

    module _ (other : None ≡ factor_kind_at d) (code : true ≡ tells_code d) where
      of_code : (o : Option Source) → report_of o d ≡ coded_of o d
      of_code o = by_origins o true (tells_origins d) other code refl

      pub no_code_source : (f : ReportFault) → GivesAsked limits d (Err f) → ReadsValue limits d (Err f)
      no_code_source (faults.Shape key) none = subst (λ k. ReadsAs limits d (Err k)) (sym none.0) (record { own = None; source = none.1; is = of_code None })
      no_code_source faults.NotJson none = none
      no_code_source faults.Memory none = tt

      code_as : (source : Source) (r : Result AnswerView Key) (s : Result ReportedCodeView Key) → IsSourceOf limits d source
          → answer_to source kinds.No d ≡ r → code_to source d ≡ s
          → ReadsAs limits d (and_then r (λ a. and_then s (λ c. Ok (Coded source a c))))
      code_as source r s own answered coded = record {
        own = Some source;
        source = own;
        is = of_code (Some source)
            ∙ ap (λ z. and_then z (λ a. and_then (code_to source d) (λ c. Ok (Coded source a c)))) answered
            ∙ ap (λ z. and_then r (λ a. and_then z (λ c. Ok (Coded source a c)))) coded;
      }

      -- the no and the code of the question that is asked
      no_as_asked : (source : Source) (q : QuestionView) (r : Result AnswerView Key) → asked source ≡ q
          → verb_answer q.body.names q.body.verb kinds.No d ≡ r → answer_to source kinds.No d ≡ r
      no_as_asked source q r e by = ap (λ (z : QuestionView). verb_answer z.body.names z.body.verb kinds.No d) e ∙ by

      code_as_asked : (source : Source) (q : QuestionView) (s : Result ReportedCodeView Key) → asked source ≡ q
          → names_code q.body.names d ≡ s → code_to source d ≡ s
      code_as_asked source q s e by = ap (λ (z : QuestionView). names_code z.body.names d) e ∙ by

      module _ (q : QuestionView) (gives : GivesSource limits d (Ok q)) where
        pub no_err : (f : ReportFault) → GivesKeyed answer_view (Err f) (verb_answer q.body.names
            q.body.verb kinds.No d) → ReadsValue limits d (Err f)
        no_err (faults.Shape key) by = code_as gives.0 (Err key) (code_to gives.0 d) gives.1 (no_as_asked gives.0 q (Err key) gives.2 by) refl
        no_err faults.NotJson by = by
        no_err faults.Memory by = tt

        pub code_ok : (a : Answer) (c : ReportedCodeView) → verb_answer q.body.names q.body.verb kinds.No d ≡ Ok (answer_view a)
            → names_code q.body.names d ≡ Ok c → ReadsValue limits d (Ok (reported.Coded q a c))
        code_ok a c answered coded = (
          Coded gives.0 (answer_view a) c,
          (gives.2, refl, refl),
          code_as gives.0 (Ok (answer_view a)) (Ok c) gives.1 (no_as_asked gives.0 q (Ok (answer_view a)) gives.2 answered)
              (code_as_asked gives.0 q (Ok c) gives.2 coded),
        )

        pub code_err : (a : Answer) (f : ReportFault) → verb_answer q.body.names q.body.verb kinds.No d ≡ Ok (answer_view a)
            → GivesKeyed {A = ReportedCodeView} (λ c. c) (Err f) (names_code q.body.names d) → ReadsValue limits d (Err f)
        code_err a (faults.Shape key) answered coded = code_as gives.0 (Ok (answer_view a)) (Err key) gives.1
            (no_as_asked gives.0 q (Ok (answer_view a)) gives.2 answered)
            (code_as_asked gives.0 q (Err key) gives.2 coded)
        code_err a faults.NotJson answered coded = coded
        code_err a faults.Memory answered coded = tt

    -- ---- a region with origins

    module _ (other : None ≡ factor_kind_at d) (no_code : false ≡ tells_code d) (origins : true ≡ tells_origins d) where
      of_origins : (o : Option Source) → report_of o d ≡ derived_of o d
      of_origins o = by_origins o false true other no_code origins

      pub no_origins_source : (f : ReportFault) → GivesAsked limits d (Err f) → ReadsValue limits d (Err f)
      no_origins_source (faults.Shape key) none = subst (λ k. ReadsAs limits d (Err k)) (sym none.0)
          (record { own = None; source = none.1; is = of_origins None })
      no_origins_source faults.NotJson none = none
      no_origins_source faults.Memory none = tt

      -- what is read after the source, by the answer
      abbrev after_region : Source → Result AnswerView Key → Result Reading Key
      after_region source r = and_then r (λ a. and_then (answer_origins a d) (λ ws. Ok (Derived source a ws)))

      region_as : (source : Source) (r : Result AnswerView Key) → IsSourceOf limits d source → answer_to source kinds.Region d ≡ r
          → ReadsAs limits d (after_region source r)
      region_as source r own answered = record { own = Some source; source = own; is = of_origins (Some source) ∙ ap (after_region source) answered }

      -- the region of the question that is asked
      region_as_asked : (source : Source) (q : QuestionView) (r : Result AnswerView Key) → asked source ≡ q
          → verb_answer q.body.names q.body.verb kinds.Region d ≡ r → answer_to source kinds.Region d ≡ r
      region_as_asked source q r e by = ap (λ (z : QuestionView). verb_answer z.body.names z.body.verb kinds.Region d) e ∙ by

      module _ (q : QuestionView) (gives : GivesSource limits d (Ok q)) where
        pub region_err : (f : ReportFault) → GivesKeyed answer_view (Err f)
            (verb_answer q.body.names q.body.verb kinds.Region d) → ReadsValue limits d (Err f)
        region_err (faults.Shape key) by = region_as gives.0 (Err key) gives.1 (region_as_asked gives.0 q (Err key) gives.2 by)
        region_err faults.NotJson by = by
        region_err faults.Memory by = tt

        module _ (a : Answer) (answered : verb_answer q.body.names q.body.verb kinds.Region d ≡ Ok (answer_view a)) where
          -- the reading with what is read of the origins
          origins_as : (s : Result (List CertificateView) Key) → answer_origins (answer_view a) d ≡ s
              → ReadsAs limits d (and_then s (λ ws. Ok (Derived gives.0 (answer_view a) ws)))
          origins_as s by = subst (λ z. ReadsAs limits d (and_then z (λ ws. Ok (Derived gives.0 (answer_view a) ws)))) by
              (region_as gives.0 (Ok (answer_view a)) gives.1 (region_as_asked gives.0 q (Ok (answer_view a)) gives.2 answered))

          pub origins_ok : (ws : Vec Certificate Global) → answer_origins (answer_view a) d ≡ Ok (map certificate_view ws.items)
              → ReadsValue limits d (Ok (reported.Derived q a ws))
          origins_ok ws by = (
            Derived gives.0 (answer_view a) (map certificate_view ws.items),
            (gives.2, refl, refl),
            origins_as
                (Ok (map certificate_view ws.items)) by,
          )

          pub origins_err : (f : ReportFault) → GivesKeyed (λ (v : Vec Certificate Global). map certificate_view v.items) (Err f)
              (answer_origins (answer_view a) d) → ReadsValue limits d (Err f)
          origins_err (faults.Shape key) by = origins_as (Err key) by
          origins_err faults.NotJson by = by
          origins_err faults.Memory by = tt

    -- ---- a line about factors

    module _ (kind : FactorKind) (is : Some kind ≡ factor_kind_at d) where
      pub no_factor_source : (f : ReportFault) → GivesAsked limits d (Err f) → ReadsValue limits d (Err f)
      no_factor_source (faults.Shape key) none = subst (λ k. ReadsAs limits d (Err k)) (sym none.0)
          (record { own = None; source = none.1; is = by_kind None (Some kind) is })
      no_factor_source faults.NotJson none = none
      no_factor_source faults.Memory none = tt

      best_as : (source : Source) (r : Result BestView Key) → IsSourceOf limits d source → best_to source kind d ≡ r
          → ReadsAs limits d (and_then r (λ b. Ok (Factored source b)))
      best_as source r own by = record {
        own = Some source;
        source = own;
        is = by_kind (Some source) (Some kind) is
            ∙ ap (λ z. and_then z (λ b. Ok (Factored source b))) by;
      }

      -- what is found of the factors that the question asks for
      best_as_asked : (source : Source) (q : QuestionView) (r : Result BestView Key) → asked source ≡ q
          → verb_best q.body.names q.body.verb kind d ≡ r → best_to source kind d ≡ r
      best_as_asked source q r e by = ap (λ (z : QuestionView). verb_best z.body.names z.body.verb kind d) e ∙ by

      pub best_ok : (q : QuestionView) (b : Best) → GivesSource limits d (Ok q)
          → verb_best q.body.names q.body.verb kind d ≡ Ok (best_view b)
          → ReadsValue limits d (Ok (reported.Factored q b))
      best_ok q b gives by = (
        Factored gives.0 (best_view b),
        (gives.2, refl),
        best_as gives.0 (Ok (best_view b)) gives.1
            (best_as_asked gives.0 q (Ok (best_view b)) gives.2 by),
      )

      pub best_err : (q : QuestionView) (f : ReportFault) → GivesSource limits d (Ok q)
          → GivesKeyed best_view (Err f) (verb_best q.body.names q.body.verb kind d) → ReadsValue limits d (Err f)
      best_err q (faults.Shape key) gives by = best_as gives.0 (Err key) gives.1 (best_as_asked gives.0 q (Err key) gives.2 by)
      best_err q faults.NotJson gives by = by
      best_err q faults.Memory gives by = tt
