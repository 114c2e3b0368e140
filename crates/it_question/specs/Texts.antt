-- The text of a question is that of its lines from `vars` to the verb.
use Rattle.std.specs.Prelude.{ℕ, ◌+◌, List, [], ◌∷◌, length, map, take, drop, min}
use Rattle.it_question.specs.Lines.{LineView}
use Rattle.it_question.specs.LineTexts.{text_of_lines}
use Rattle.it_question.specs.OwnLines.{OwnLinesView, RegionView}
use Rattle.it_question.specs.Questions.{VerbView, Prove, Eliminate, Contain, BodyView, QuestionView}

-- the number of `given` and `row` lines
abbrev pub own_line_count : OwnLinesView → ℕ
own_line_count own = length own.givens + length own.rows

-- the number of a region's lines, its `region` line among them
abbrev pub region_line_count : RegionView → ℕ
region_line_count r = 1 + min 1 r.auxiliaries + own_line_count r.lines

-- the number of lines from the verb, or from the first region, to the question's end
abbrev pub verb_line_count : VerbView → ℕ
verb_line_count (Prove r) = 1
verb_line_count (Eliminate rates) = 1
verb_line_count (Contain first second tries) = region_line_count first + region_line_count second + length tries + 1

-- the number of lines of a question, from `vars` to the verb
abbrev pub question_line_count : BodyView → ℕ
question_line_count q = 1 + min 1 (length q.names.rates) + own_line_count q.lines + verb_line_count q.verb

-- the questions with their texts: each takes its own lines, one question after the other
abbrev pub with_texts : List LineView → List BodyView → List QuestionView
with_texts lines [] = []
with_texts lines (q ∷ qs) = record { body = q; text = text_of_lines (map (λ l. l.text) (take (question_line_count q) lines)) } ∷ with_texts (drop (question_line_count q) lines) qs
