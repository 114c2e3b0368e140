-- What is read of a region's origins fits its question.
use Rattle.std.proofs.Common.{◌≡◌, List, length, subst, Ok, option_map}
use Rattle.std.specs.Prelude.{All}
use Rattle.serde_json.specs.Data.{Data}
use Rattle.it_space.specs.Answers.{AnswerView, CertificateView}
use Rattle.it_space.specs.Answers.AnswerView.{Region}
use Rattle.it_space.specs.Spaces.{size_of}
use Rattle.it_demand.specs.QuestionSpaces.{space_of}
use Rattle.it_syntax.specs.NamesViews.{NamesView}
use Rattle.it_question.specs.Questions.{QuestionView, VerbView, Prove, Eliminate, Contain}
use Rattle.it_certificate.specs.declared.keys.Key.TheVariants as keys
use Rattle.it_certificate.specs.declared.kinds.AnswerKind.TheVariants as kinds
use Rattle.it_certificate.specs.AnswerShapes.{IsNumbered}
use Rattle.it_certificate.specs.OriginReading.{HasDerivedShape, IsRegion, answer_origins, rows_of}
use Rattle.it_certificate.specs.Parts.{origins_at, rows_at}
use Rattle.it_certificate.specs.Reports.{verb_answer}
use Rattle.it_certificate.proofs.FitLemmas.{answer_fits, key_ok, origins_fit}
use Rattle.it_certificate.proofs.WithinLemmas.{map_some}

-- an answer of the kind `region` is a region
answers_region : (v : NamesView) (verb : VerbView) (d : Data) (a : AnswerView) → verb_answer v verb kinds.Region d ≡ Ok a → IsRegion a
answers_region v (Prove r) d a is = absurd (cc)
answers_region v (Eliminate rates) d a is =
    let rows = rows_at (size_of (space_of v)) d in
    let h = map_some rows Region a (key_ok keys.Rows (option_map Region rows) a is) in
    subst IsRegion h.1.1 tt
answers_region v (Contain first second tries) d a is = absurd (cc)

-- each row of the answer has a certificate
each_has_one : (a : AnswerView) (d : Data) (ws : List CertificateView) → answer_origins a d ≡ Ok ws → (length ws ≡ length (rows_of a)) × All IsNumbered ws
unfolding answer_origins
each_has_one a d ws is = origins_fit (length (rows_of a)) d ws (key_ok keys.Origins (origins_at (length (rows_of a)) d) ws is)

pub derived_fits : (q : QuestionView) (d : Data) (a : AnswerView) (ws : List CertificateView)
    → verb_answer q.body.names q.body.verb kinds.Region d ≡ Ok a → answer_origins a d ≡ Ok ws → HasDerivedShape q.body a ws
derived_fits q d a ws answered told =
    let h = each_has_one a d ws told in
    record {
      answered = answer_fits q kinds.Region d a answered;
      region = answers_region q.body.names q.body.verb d a answered;
      each = h.0;
      numbers = h.1;
    }
