-- The lines of mode `best`.
use Rattle.std.specs.Prelude.{ℕ, ◌+◌, ◌<◌, ◌≤◌, ◌^◌, ℤ, List, ◌++◌, All, length, codes, decimal}
use Rattle.std.specs.Fmt.{signed_decimal}
use Rattle.it_space.specs.Answers.{CertificateView}
use Rattle.it_space.specs.declared.answers.Certificate.{Certificate}
use Rattle.it_space.specs.Spaces.{most_coordinates}
use Rattle.it_problems.specs.declared.problems.Origin.{Origin}
use Rattle.it_polymatroid.specs.Elementals.{elementals}
use Rattle.it_syntax.specs.NamesViews.{NamesView}
use Rattle.it_question.specs.Questions.{BodyView}
use Rattle.it_question.specs.ProblemLines.{problem_names}
use Rattle.it_print.specs.Lines.{certificate_text, values_text}
use Rattle.it_ratio.specs.declared.types.Best.{Best}
use Rattle.it_ratio.specs.declared.types.Best.TheVariants as answers
use Rattle.it_ratio.specs.declared.types.BestCause.{BestCause}
use Rattle.it_ratio.specs.declared.types.BestCause.TheVariants as causes
use Rattle.it_ratio.specs.BestViews.{BestView, Least, Never, Unbounded, Undecided}
use Rattle.it_factor.specs.declared.types.Reply.{Reply}
use Rattle.it_factor.specs.declared.types.Reply.TheVariants as replies
use Rattle.it_factor.specs.Replies.{ReplyView, Found, Other}

-- a factor as `P/Q`, and the certificate that it holds
unfoldable pub factor_text : List (List ℕ) → List Origin → ℤ → ℤ → CertificateView → List ℕ
factor_text names origins num den w = signed_decimal num ++ codes "/" ++ signed_decimal den ++ codes " " ++ certificate_text names origins w

-- the cause why the factors are undecided, with its phase
unfoldable pub best_cause_text : BestCause → List ℕ
best_cause_text (causes.Pivots steps phase) = codes "pivots " ++ decimal steps ++ codes " in " ++ decimal phase
best_cause_text (causes.Width step phase) = codes "width " ++ decimal step ++ codes " in " ++ decimal phase
best_cause_text causes.Scale = codes "scale"
best_cause_text causes.Size = codes "size"

-- the line of what was found for question k: the least factor with its certificate, and the values of the point that attains it; the
-- values of the point at which no factor holds; a factor with its certificate, and the certificate that the left side is at most 0
abbrev pub best_line : ℕ → NamesView → List Origin → BestView → List ℕ
best_line k v origins (Least num den w values) =
    decimal k ++ codes " best " ++ factor_text v.variables origins num den w ++ codes " at " ++ values_text v values ++ codes "\n"
best_line k v origins (Never values) = decimal k ++ codes " none " ++ values_text v values ++ codes "\n"
best_line k v origins (Unbounded num den w below) =
    decimal k ++ codes " unbounded " ++ factor_text v.variables origins num den w ++ codes " and " ++ certificate_text v.variables origins below ++ codes "\n"
best_line k v origins (Undecided cause) = decimal k ++ codes " undecided " ++ best_cause_text cause ++ codes "\n"

-- the line of a reply to question k
abbrev pub reply_line : ℕ → BodyView → List Origin → ReplyView → List ℕ
reply_line k q origins (Found best) = best_line k (problem_names q) origins best
reply_line k q origins Other = decimal k ++ codes " other\n"

-- ---- what can be printed

-- the generators of a certificate are there, of n variables and m constraints
abbrev pub IsThere : ℕ → ℕ → Certificate → Type 0
IsThere n m c = All (λ w. w.0 < length (elementals n) + m) c.weights.items

-- the values of a point are of the names' space
abbrev pub AreValuesOf : NamesView → List ℤ → Type 0
AreValuesOf v values = (length values < 2 ^ length v.variables + length v.rates) × (length values ≤ most_coordinates)

-- what was found can be printed with m constraints: its generators are there, and its values are of the names' space
abbrev pub IsBestPrintable : NamesView → ℕ → Best → Type 0
IsBestPrintable v m (answers.Least num den proof point) = IsThere (length v.variables) m proof × AreValuesOf v point
IsBestPrintable v m (answers.Never point) = AreValuesOf v point
IsBestPrintable v m (answers.Unbounded num den proof below) = IsThere (length v.variables) m proof × IsThere (length v.variables) m below
IsBestPrintable v m (answers.Undecided cause) = Unit {0}

-- a reply can be printed with m constraints
abbrev pub IsPrintable : BodyView → ℕ → Reply → Type 0
IsPrintable q m (replies.Found best) = IsBestPrintable (problem_names q) m best
IsPrintable q m replies.Other = Unit {0}
