-- The rows of a region whose origins are valid are true wherever the question's lines are.
use Rattle.it_question.specs.declared.sizes.FileLimits.{FileLimits}
use Rattle.std.proofs.Common.{◌≡◌, ℕ, ℤ, pos, ◌≤ℤ◌, map, Ok, sym, subst, All}
use Rattle.std.specs.List.{AllByRecursion as Every}
use Rattle.it_space.specs.declared.answers.Mark.{Mark}
use Rattle.it_space.specs.declared.spaces.Space.{Space}
use Rattle.it_space.specs.Answers.AnswerView.{Region}
use Rattle.it_space.specs.Rows.{IsOver, Terms, value}
use Rattle.it_space.specs.Spaces.{size_of}
use Rattle.it_space.proofs.EveryLemmas.{all_of, every_mapped, every_of, every-same}
use Rattle.it_check.specs.declared.verdicts.Verdict.{Verdict}
use Rattle.it_check.specs.declared.verdicts.Verdict.TheVariants.{Valid}
use Rattle.it_syntax.specs.NamesViews.{NamesView}
use Rattle.it_hull.specs.Theorems.{MeetsProblem}
use Rattle.it_canon.specs.QuestionDemands.{problem_of}
use Rattle.it_canon.specs.TrueLines.{AreTrueTogether}
use Rattle.it_canon.proofs.ExistenceLemmas.{question_poses}
use Rattle.it_rates.specs.Asked.{under_all_lines}
use Rattle.it_rates.proofs.AskedLemmas.{all_lines_question, true_meets}
use Rattle.it_certificate.specs.Reports.{Derived, Reading}
use Rattle.it_certificate.specs.Sources.{IsSourceAt, IsSourceOf, asked}
use Rattle.it_certificate.proofs.OneLemmas.{one_reading}
use Rattle.it_certificate.proofs.SourceNumbers.{source_limits, source_numbers}
use Rattle.it_report.specs.Judging.{IsReadingVerdict}
use Rattle.it_report.specs.LineVerdicts.{Judged}
use Rattle.it_report.specs.Meaning.{ValidOriginsAreTrue}
use Rattle.it_report.specs.RowVerdicts.{proofs_verdict}
use Rattle.it_report.proofs.BoundsTruth.{rows_hold}
use Rattle.it_report.proofs.JudgingLemmas.{rows_over}
use Rattle.it_report.proofs.OneLemmas.{same_read}
use Rattle.it_report.proofs.ReadingLemmas.{derived_is}

same_judged : (m n : NamesView) (v w : Verdict) → Judged m v ≡ Judged n w → v ≡ w
same_judged m n v w e = cc

pub valid_origins_are_true : ValidOriginsAreTrue
valid_origins_are_true limits line names source rows ws h reads =
    let q = (asked source).body in
    let same : h.reading ≡ Derived source (Region rows) ws = same_read h.reading (Derived source (Region rows) ws)
    (one_reading limits line (Ok h.reading) (Ok (Derived source (Region rows) ws)) h.reads reads) in
    let told = subst (λ (r : Reading). IsReadingVerdict r (Judged names Valid)) same h.verdict in
    let read = derived_is reads.reads.own reads.value source (Region rows) ws reads.reads.is in
    let own : IsSourceOf limits reads.value source = subst (IsSourceAt limits reads.value) read.0 reads.reads.source in
    let within = source_limits limits reads.value source own in
    let small = source_numbers limits reads.value source own in
    let p = problem_of (under_all_lines q) in
    let posed = question_poses (under_all_lines q) (all_lines_question q within) (small.0, (tt, tt)) in
    let over : All (IsOver (size_of p.space)) (map (λ r. r.1) rows) = subst (λ (s : Space). All (IsOver (size_of s)) (map (λ r. r.1) rows))
    (sym posed.space) (rows_over q (Region rows) read.1.region read.1.answered) in
    let valid : proofs_verdict p (map (λ r. r.1) rows) ws ≡ Valid = sym (same_judged names q.names Valid (proofs_verdict p (map (λ r. r.1) rows) ws) told) in
    let hold : Every (λ (row : Terms). (x : ℕ → ℤ) → MeetsProblem p x → pos 0 ≤ℤ value row x) (map (λ r. r.1) rows)
    = rows_hold p posed.limits (map (λ r. r.1) rows) ws (every_of (IsOver (size_of p.space)) (map (λ r. r.1) rows) over) read.1.each valid in
    all_of (λ (row : Mark × Terms). (x : ℕ → ℤ) → AreTrueTogether (under_all_lines q) x → pos 0 ≤ℤ value row.1 x) rows
    (every-same (λ (row : Mark × Terms). (x : ℕ → ℤ) → MeetsProblem p x → pos 0 ≤ℤ value row.1 x)
    (λ (row : Mark × Terms). (x : ℕ → ℤ) → AreTrueTogether (under_all_lines q) x → pos 0 ≤ℤ value row.1 x) rows
    (λ row holds x t. holds x (true_meets q p posed x t))
    (every_mapped (λ (row : Terms). (x : ℕ → ℤ) → MeetsProblem p x → pos 0 ≤ℤ value row x) (λ r. r.1) rows hold))
