-- The lines of mode `outer`.
use Rattle.std.specs.Prelude.{◌≡◌, ℕ, ℤ, List, ◌++◌, All, length, map, flat_map, zip, codes, decimal, false}
use Rattle.std.specs.Fmt.{signed_decimal}
use Rattle.it_space.specs.Answers.{CertificateView, mark_word}
use Rattle.it_space.specs.declared.answers.Cause.{Cause}
use Rattle.it_space.specs.declared.answers.Cause.TheVariants.{Pivots, Width as WideStep, Scale, Rows as RowsOfRate, WideRate}
use Rattle.it_space.specs.declared.answers.Mark.{Mark}
use Rattle.it_problems.specs.declared.problems.Kind.TheVariants.{Inequality}
use Rattle.it_problems.specs.declared.problems.Origin.{Origin}
use Rattle.it_space.specs.Divisors.{lowest_terms}
use Rattle.it_space.specs.Rows.{Terms, point_of}
use Rattle.it_space.specs.Spaces.{size_of}
use Rattle.it_syntax.specs.NamesViews.{NamesView}
use Rattle.it_question.specs.Questions.{BodyView}
use Rattle.it_question.specs.ProblemLines.{problem_names}
use Rattle.it_demand.specs.QuestionSpaces.{space_of}
use Rattle.it_print.specs.Lines.{AreListed, IsRowOver, cause_text, certificate_text, coordinate_text, joined_texts, row_text, values_text}
use Rattle.it_hull.specs.KeptRates.{kept_coordinates}
use Rattle.it_rates.specs.Asked.{gone_rates}
use Rattle.it_outer.specs.declared.types.Limits.{Limits}
use Rattle.it_outer.specs.declared.types.OuterCause.{OuterCause}
use Rattle.it_outer.specs.declared.types.OuterCause.TheVariants as causes
use Rattle.it_outer.specs.Outer.{CauseView, Run, Rows, Width, Rays}
use Rattle.it_bounds.specs.declared.types.Reply.{Reply}
use Rattle.it_bounds.specs.declared.types.Reply.TheVariants as replies
use Rattle.it_bounds.specs.Replies.{ReplyView, Bounded, Undecided, Size, Other}

-- ---- bounds

-- a row with its mark, and its certificate
unfoldable pub proven_row_line : ℕ → NamesView → List Origin → (Mark × Terms) × CertificateView → List ℕ
proven_row_line k v origins proven = decimal k ++ codes " row " ++ mark_word proven.0.0 ++ codes " " ++ row_text v Inequality proven.0.1
    ++ codes " by " ++ certificate_text v.variables origins proven.1 ++ codes "\n"

-- the coordinates of the rates that stay
abbrev pub told_rates : BodyView → List ℕ
told_rates q = kept_coordinates (space_of (problem_names q)) (gone_rates q.verb)

-- a point's values at coordinates, each after its coordinate
abbrev pub values_at : List ℕ → List ℤ → Terms
values_at kept values = map (λ c. (c, point_of values c)) kept

-- a rate with its value
abbrev pub rate_text : NamesView → ℕ × ℤ → List ℕ
rate_text v t = coordinate_text v t.0 ++ codes "=" ++ signed_decimal t.1

-- a point's rates in lowest terms, with a blank between them
unfoldable pub rates_text : NamesView → List ℕ → List ℤ → List ℕ
rates_text v kept values = joined_texts (codes " ") false (map (rate_text v) (lowest_terms (values_at kept values)))

-- the rates of a ray that stay, and all its values
unfoldable pub ray_line : ℕ → NamesView → List ℕ → List ℤ → List ℕ
ray_line k v kept values = decimal k ++ codes " ray " ++ rates_text v kept values ++ codes " at " ++ values_text v values ++ codes "\n"

-- the line with the numbers of rows and of rays, and then their lines
unfoldable pub bounds_lines : ℕ → NamesView → List ℕ → List Origin → List (Mark × Terms) → List CertificateView → List (List ℤ) → List ℕ
bounds_lines k v kept origins rows proofs rays = decimal k ++ codes " outer " ++ decimal (length rows) ++ codes " " ++ decimal (length rays) ++ codes "\n"
    ++ flat_map (proven_row_line k v origins) (zip rows proofs) ++ flat_map (ray_line k v kept) rays

-- ---- replies

-- the cause why the bound is undecided: that of a run, and its row; or what the search ran out of, the rays with the most that it may find
unfoldable pub bounds_cause_text : NamesView → Limits → CauseView → List ℕ
bounds_cause_text v limits (Run row cause) = cause_text v cause ++ codes " in " ++ row_text v Inequality row
bounds_cause_text v limits Rows = codes "rows"
bounds_cause_text v limits Width = codes "width"
bounds_cause_text v limits Rays = codes "rays " ++ decimal limits.rays

-- the lines of a reply to question k, made within these limits
abbrev pub reply_lines : Limits → ℕ → BodyView → List Origin → ReplyView → List ℕ
reply_lines limits k q origins (Bounded rows proofs rays) = bounds_lines k (problem_names q) (told_rates q) origins rows proofs rays
reply_lines limits k q origins (Undecided cause) = decimal k ++ codes " undecided " ++ bounds_cause_text (problem_names q) limits cause ++ codes "\n"
reply_lines limits k q origins Size = decimal k ++ codes " undecided size\n"
reply_lines limits k q origins Other = decimal k ++ codes " other\n"

-- ---- what can be printed

-- a run ends with this cause: no rate is eliminated in it
abbrev pub IsOfRun : Cause → Type 0
IsOfRun (Pivots steps) = Unit {0}
IsOfRun (WideStep step) = Unit {0}
IsOfRun Scale = Unit {0}
IsOfRun (RowsOfRate rate) = ⊥
IsOfRun (WideRate rate) = ⊥

-- the row of a cause is of the names, and the cause is a run's
abbrev pub IsCausePrintable : NamesView → OuterCause → Type 0
IsCausePrintable v (causes.Run row cause) = IsRowOver v row × IsOfRun cause
IsCausePrintable v causes.Rows = Unit {0}
IsCausePrintable v causes.Width = Unit {0}
IsCausePrintable v causes.Rays = Unit {0}

-- points of the names' space
abbrev pub AreOfNames : NamesView → List (List ℤ) → Type 0
AreOfNames v rays = All (λ values. length values ≡ size_of (space_of v)) rays

-- The reply can be printed with m constraints: there are as many certificates as rows, the rows are of the question's names, the
-- generators of each certificate are there, and the rays are of the names' space.
abbrev pub IsPrintable : BodyView → ℕ → Reply → Type 0
IsPrintable q m (replies.Bounded rows proofs rays) = (length rows.items ≡ length proofs.items) × All (λ row. IsRowOver (problem_names q) row.1) rows.items
    × AreListed (length (problem_names q).variables) m proofs.items × AreOfNames (problem_names q) rays.items
IsPrintable q m (replies.Undecided cause) = IsCausePrintable (problem_names q) cause
IsPrintable q m replies.Size = Unit {0}
IsPrintable q m replies.Other = Unit {0}
