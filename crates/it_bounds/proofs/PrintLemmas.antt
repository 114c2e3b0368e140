-- A reply can be printed: its generators are there, and its rows and rays are of the question's names.
use Rattle.std.proofs.Common.{◌≡◌, ◌+◌, ◌<◌, ◌≤◌, ◌^◌, ◌∙◌, ℕ, suc, ℤ, List, [], ◌∷◌, length, length-append, map, refl, ap, sym, subst, arith, All}
use Rattle.std.specs.List.{AllZip, AllByRecursion as Every}
use Rattle.std.proofs.lemmas.List.{length-map}
use Rattle.std.proofs.lemmas.List.Elements.{All-weaker}
use Rattle.std.proofs.lemmas.Nat.{pow_pos}
use Rattle.it_space.specs.declared.answers.Certificate.{Certificate}
use Rattle.it_space.specs.declared.answers.Mark.{Mark}
use Rattle.it_space.specs.declared.spaces.Space.{Space}
use Rattle.it_space.specs.Answers.{certificate_view}
use Rattle.it_problems.specs.Problems.{ProblemView}
use Rattle.it_space.specs.Rows.{Terms, IsOver}
use Rattle.it_space.specs.Spaces.{size_of}
use Rattle.it_space.proofs.EveryLemmas.{all_of, every_of, every_mapped}
use Rattle.it_polymatroid.specs.Certificates.{IsAllowed}
use Rattle.it_polymatroid.specs.Elementals.{elementals}
use Rattle.it_elemental.specs.Generators.{forms_of, generator_list, generators}
use Rattle.it_check.specs.Meaning.{CertifiesRow}
use Rattle.it_syntax.specs.NamesViews.{NamesView}
use Rattle.it_question.specs.Limits.{IsQuestion}
use Rattle.it_question.specs.declared.sizes.FileLimits.{FileLimits}
use Rattle.it_question.specs.Questions.{BodyView, Eliminate}
use Rattle.it_question.specs.ProblemLines.{problem_names, names_under}
use Rattle.it_demand.specs.QuestionSpaces.{space_of}
use Rattle.it_canon.specs.QuestionDemands.{IsProblemOf}
use Rattle.it_print.specs.Lines.{AreListed, IsRowOver}
use Rattle.it_outer.specs.declared.types.Limits.{Limits}
use Rattle.it_outer.specs.declared.types.OuterCause.{OuterCause}
use Rattle.it_outer.specs.declared.types.OuterCause.TheVariants as causes
use Rattle.it_outer.specs.Bounds.{IsRay}
use Rattle.it_outer.specs.Outer.{Undecided as EndsUndecided, cause_view, search_without}
use Rattle.it_outer.specs.Search.{SearchEnds}
use Rattle.it_answer.specs.Truth.{region_rows}
use Rattle.it_bounds.specs.declared.types.Reply.{Reply}
use Rattle.it_bounds.specs.declared.types.Reply.TheVariants as replies
use Rattle.it_bounds.specs.Lines.{IsCausePrintable, IsPrintable}
use Rattle.it_bounds.specs.Replies.{reply_view}
use Rattle.it_bounds.specs.RowReplies.{IsReplyByRows}
use Rattle.it_rates.specs.Asked.{under_all_lines}
use Rattle.it_rates.proofs.AskedLemmas.{eliminated_rates}
use Rattle.it_bounds.proofs.RightLemmas.{rates_within}
use Rattle.it_bounds.proofs.SearchLemmas.{bounds_over, cause_over}

-- ---- certificates

length-generators : (n : ℕ) (p : ProblemView) → length (generator_list n p.constraints) ≡ length (elementals n) + length p.constraints
unfolding generator_list
length-generators n p = simp (length-append, length-map)

listed_all : (p : ProblemView) (rows : List Terms) (proofs : List Certificate) → AllZip (CertifiesRow p) rows (map certificate_view proofs)
    → Every (λ (c : Certificate). All (λ w. w.0 < length (elementals p.space.variables) + length p.constraints) c.weights.items) proofs
listed_all p rows [] z = tt
listed_all p [] (w ∷ proofs) z = absurd z
listed_all p (row ∷ rows) (w ∷ proofs) z = (
  All-weaker (IsAllowed (forms_of (generators p))) (λ (x : ℕ × ℤ). x.0 < length (elementals p.space.variables) + length p.constraints)
      (λ x a. omega (arith, a.0, length-generators p.space.variables p)) w.weights.items z.0.allowed,
  listed_all p rows proofs z.1,
)

as_many : (p : ProblemView) (rows : List (Mark × Terms)) (proofs : List Certificate)
    → AllZip (CertifiesRow p) (region_rows rows) (map certificate_view proofs) → length rows ≡ length proofs
as_many p [] [] z = refl
as_many p [] (w ∷ proofs) z = absurd z
as_many p (row ∷ rows) [] z = absurd z
as_many p (row ∷ rows) (w ∷ proofs) z = ap suc (as_many p rows proofs z.1)

-- ---- rows

row_of_names : (v : NamesView) (row : Terms) → IsOver (size_of (space_of v)) row → IsRowOver v row
row_of_names v row over = All-weaker (λ (t : ℕ × ℤ). (1 ≤ t.0) × (t.0 ≤ size_of (space_of v)))
    (λ (t : ℕ × ℤ). t.0 < 2 ^ length v.variables + length v.rates) (λ t l. omega (arith, l.1, pow_pos (length v.variables))) row over

rows_of_names : (v : NamesView) (rows : List (Mark × Terms)) → All (IsOver (size_of (space_of v))) (region_rows rows) → All (λ row. IsRowOver v row.1) rows
rows_of_names v rows over = All-weaker (λ (row : Mark × Terms). IsOver (size_of (space_of v)) row.1)
    (λ (row : Mark × Terms). IsRowOver v row.1) (λ row u. row_of_names v row.1 u) rows
    (all_of (λ (row : Mark × Terms). IsOver (size_of (space_of v)) row.1) rows
    (every_mapped (IsOver (size_of (space_of v))) (λ row. row.1) rows (every_of (IsOver (size_of (space_of v)))
    (region_rows rows) over)))

-- ---- replies

module _ (q : BodyView) (p : ProblemView) (posed : IsProblemOf (under_all_lines q) p) (file : FileLimits) (limits : Limits) (gone : List ℕ) (k : IsQuestion q)
    (few_rows : limits.rows ≤ 65535) (asked : q.verb ≡ Eliminate gone) where
  own_names : problem_names q ≡ q.names
  own_names = ap (names_under q.names) asked

  own_space : p.space ≡ space_of (problem_names q)
  own_space = posed.space ∙ ap space_of (sym own_names)

  at_names : (P : Space → Type 0) → P p.space → P (space_of (problem_names q))
  at_names P x = subst P own_space x

  cause_printable : (cause : OuterCause) → SearchEnds (search_without p gone limits) (EndsUndecided (cause_view cause))
      → IsCausePrintable (problem_names q) cause
  cause_printable (causes.Run row cause) e =
      let r = cause_over p gone limits posed.limits (rates_within q p posed file limits gone k few_rows asked)
      (eliminated_rates q gone k asked).some few_rows row cause e in
      (row_of_names (problem_names q) row (at_names (λ s. IsOver (size_of s) row) r.0), r.1)
  cause_printable causes.Rows e = tt
  cause_printable causes.Width e = tt
  cause_printable causes.Rays e = tt

  pub reply_printable : (reply : Reply) → IsReplyByRows file limits p gone (reply_view reply) → IsPrintable q (length p.constraints) reply
  reply_printable (replies.Bounded rows proofs rays) b = (
    as_many p rows.items proofs.items b.bounds.certified,
    rows_of_names (problem_names q) rows.items (at_names (λ s. All (IsOver (size_of s)) (region_rows rows.items))
        (bounds_over p gone limits posed.limits (rates_within q p posed file limits gone k few_rows asked)
        (eliminated_rates q gone k asked).some few_rows (region_rows rows.items) _ _ b.ends).0),
    at_names (λ s. AreListed s.variables (length p.constraints) proofs.items)
        (all_of (λ (c : Certificate). All (λ w. w.0 < length (elementals p.space.variables) + length p.constraints) c.weights.items)
        proofs.items (listed_all p (region_rows rows.items) proofs.items b.bounds.certified)),
    All-weaker (IsRay p) (λ (values : List ℤ). length values ≡ size_of (space_of (problem_names q)))
        (λ values r. r.complete ∙ ap size_of own_space) rays.items b.bounds.attained,
  )
  reply_printable (replies.Undecided cause) u = cause_printable cause u.1
  reply_printable replies.Size large = tt
  reply_printable replies.Other x = absurd x
