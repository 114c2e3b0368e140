-- What mode `best` writes.
use Rattle.std.proofs.Common.{◌≡◌, ℕ, List, [], ◌∷◌, ◌++◌, length, map, Result, Ok, Err, IfOk, codes, true, false, refl, sym, ap, ap₂, subst, ◌∙◌}
use Rattle.std.specs.Global.{Vec}
use Rattle.std.proofs.lemmas.List.{nil_from_length}
use Rattle.it_prove.specs.declared.types.Effort.{Effort}
use Rattle.it_question.specs.declared.sizes.FileLimits.{FileLimits}
use Rattle.it_question.specs.Questions.{BodyView}
use Rattle.it_copy.specs.declared.types.CopyLine.{CopyLine}
use Rattle.it_copy.specs.CopyLines.{CopyView, copy_view}
use Rattle.it_copy.specs.Extensions.{IsExtension}
use Rattle.it_certificate.specs.Values.{OfCopies, OfQuestion, SourceTexts, report_text}
use Rattle.it_cli.specs.BestReplies.{IsAskedWith, reply_members, texts_with}
use Rattle.it_cli.specs.Copies.{CopyQuestion, Extended, head_text}
use Rattle.it_cli.specs.InnerEnds.{IsFactorReportOf, IsFactorText, IsTextOf}
use Rattle.it_cli.specs.Outputs.{best_mode}

-- ---- with copies, or without any

pub no_copies : (lines : List CopyLine) → length lines ≡ 0 → map copy_view lines ≡ []
no_copies lines e = ap (map copy_view) (nil_from_length lines e)

pub some_copies : (lines : List CopyLine) → (length lines ≡ 0 → ⊥) → map copy_view lines ≡ [] → ⊥
some_copies [] some none = some refl
some_copies (c ∷ lines) some none = cc

pub asked_alone : (limits : FileLimits) (q : BodyView) (cs : List CopyView) → cs ≡ [] → IsAskedWith limits q cs q
asked_alone limits q cs none = subst (λ (ds : List CopyView). IsAskedWith limits q ds q) (sym none) refl

pub asked_with : (limits : FileLimits) (q e : BodyView) (cs : List CopyView) → (cs ≡ [] → ⊥) → IsExtension limits q cs e → IsAskedWith limits q cs e
asked_with limits q e [] some extension = absurd (some refl)
asked_with limits q e (c ∷ cs) some extension = extension

pub text_alone : (text own : List ℕ) (cs : List CopyView) → text ≡ own → cs ≡ [] → OfQuestion text ≡ texts_with cs own
text_alone text own cs same none = ap OfQuestion same ∙ ap (λ (ds : List CopyView). texts_with ds own) (sym none)

pub texts_after_head : (head text own : List ℕ) (cs : List CopyView) → head ≡ head_text cs → text ≡ own → (cs ≡ [] → ⊥) → OfCopies head text ≡ texts_with cs own
texts_after_head head text own [] is same some = absurd (some refl)
texts_after_head head text own (c ∷ cs) is same some = ap₂ OfCopies is same

-- ---- the line of a question that is asked

pub factored_text : {E : Type 0} (limits : FileLimits) (effort : Effort) (x : CopyQuestion) (k : ℕ) (e : BodyView) (r : Result (Vec ℕ) E)
    → IsAskedWith limits x.question.body x.copies e
    → IfOk r (λ t. IsFactorText effort k e t.items) → IfOk r (λ t. IsTextOf (best_mode limits false effort) [] k x t.items)
factored_text limits effort x k e (Ok t) asked told = record { reply = Extended e told.reply; right = (asked, told.right); is = told.is }
factored_text limits effort x k e (Err f) asked told = tt

pub factored_report : {E : Type 0} (limits : FileLimits) (effort : Effort) (x : CopyQuestion) (k : ℕ) (e : BodyView) (texts : SourceTexts)
    (r : Result (Vec ℕ) E)
    → texts ≡ texts_with x.copies x.question.text → IsAskedWith limits x.question.body x.copies e
    → IfOk r (λ t. IsFactorReportOf effort texts e t.items) → IfOk r (λ t. IsTextOf (best_mode limits true effort) [] k x t.items)
factored_report limits effort x k e texts (Ok t) same asked told = record {
  reply = Extended e told.reply;
  right = (asked, told.right);
  is = told.is ∙ ap (λ (s : SourceTexts). report_text s (reply_members told.reply) ++ codes "\n") same;
}
factored_report limits effort x k e texts (Err f) same asked told = tt
