-- The text of each question of a file has at most one byte more than the file.
use Rattle.std.proofs.Common.{◌≡◌, inl, inr, ℕ, zero, suc, ◌+◌, ◌≤◌, ◌==◌, Bool, true, false, if◌then◌else◌, List, [], ◌∷◌, take, drop, length, All, Option, Some, None, refl, sym, ap, subst, arith, length-append}
use Rattle.std.proofs.lemmas.List.{length-map}
use Rattle.std.proofs.lemmas.List.Elements.{All-nil, All-cons}
use Rattle.it_syntax.specs.declared.types.Misspelling.{Misspelling}
use Rattle.it_question.specs.declared.sizes.FileLimits.{FileLimits}
use Rattle.it_question.proofs.LetterLemmas.{length_with_ends, split_length}
use Rattle.it_question.specs.Files.{IsFileWithin}
use Rattle.it_question.specs.Lines.{LineView, AreLines, split_lines, without_return, before_comment, without_tab, plain_text}
use Rattle.it_question.specs.LineTexts.{without_leading, unless_blank, without_trailing, text_of_lines}
use Rattle.it_question.specs.Texts.{question_line_count, with_texts}
use Rattle.it_question.proofs.FileLineLemmas.{return_shorter, comment_shorter}
use Rattle.it_question.specs.QuestionForms.{file}
use Rattle.it_question.specs.Questions.{BodyView, QuestionView}
use Rattle.it_question.proofs.LineParts.{AreWhole, lines_sound, texts_of}
use Rattle.it_question.proofs.QuestionParts.{AreAt, questions_at}
use Rattle.it_question.proofs.WholeFileLemmas.{said}

-- ---- lines get no longer

leading_short : (line : List ℕ) → length (without_leading line) ≤ length line
leading_short [] = omega arith
leading_short (b ∷ line) = by_test (b == 32) (leading_short line)
  where
    by_test : (t : Bool) → length (without_leading line) ≤ length line → length (if t then without_leading line else b ∷ line) ≤ suc (length line)
    by_test true h = omega (arith, h)
    by_test false h = omega arith

unless_short : (b : ℕ) (line : List ℕ) → length (unless_blank b line) ≤ suc (length line)
unless_short b [] = by_test (b == 32)
  where
    by_test : (t : Bool) → length (if t then [] else b ∷ []) ≤ 1
    by_test true = omega arith
    by_test false = omega arith
unless_short b (c ∷ line) = omega arith

trailing_short : (line : List ℕ) → length (without_trailing line) ≤ length line
trailing_short [] = omega arith
trailing_short (b ∷ line) = let a = unless_short b (without_trailing line) in let h = trailing_short line in omega (arith, a, h)

trimmed_short : (line : List ℕ) → length (without_trailing (without_leading (plain_text line))) ≤ length line
trimmed_short line =
    let a = trailing_short (without_leading (plain_text line)) in
    let b = leading_short (plain_text line) in
    let c = length-map (before_comment (without_return line)) without_tab in
    let d = comment_shorter (without_return line) in
    let e = return_shorter line in
    omega (arith, a, b, c, d, e)

-- ---- what lines take

-- what a line gives to a text, where it has no misspelling
abbrev given_by : Option Misspelling → ℕ → ℕ
given_by None n = n
given_by (Some m) n = 0

-- what lines give to a text
abbrev given_all : List LineView → ℕ
given_all [] = 0
given_all (l ∷ lines) = given_by l.misspelling (length (without_trailing (without_leading l.text)) + 1) + given_all lines

given_little : (m : Option Misspelling) (n : ℕ) → given_by m n ≤ n
given_little None n = omega arith
given_little (Some m) n = omega arith

lines_short : (n : ℕ) (split : List (List ℕ)) (lines : List LineView) → AreLines n split lines → given_all lines ≤ length_with_ends split
lines_short n [] lines h = subst (λ (ls : List LineView). given_all ls ≤ 0) (sym h) (omega arith)
lines_short n (bytes ∷ more) lines (inl h) = let k = lines_short (n + 1) more lines h.1 in omega (arith, k)
lines_short n (bytes ∷ more) lines (inr h) =
    let l = h.0 in
    let a = given_little l.misspelling (length (without_trailing (without_leading l.text)) + 1) in
    let b = ap (λ (t : List ℕ). length (without_trailing (without_leading t))) h.3.text in
    let c = trimmed_short bytes in
    let k = lines_short (n + 1) more h.1 h.5 in
    subst (λ (ls : List LineView). given_all ls ≤ length bytes + 1 + length_with_ends more) (sym h.2) (omega (arith, a, b, c, k))

whole_text : (lines : List LineView) → AreWhole lines → length (text_of_lines (texts_of lines)) ≡ given_all lines
whole_text [] w = refl
whole_text (l ∷ lines) w =
    let a = ap (λ (m : Option Misspelling). given_by m (length (without_trailing (without_leading l.text)) + 1)) w.0.misspelling in
    let b = length-append (without_trailing (without_leading l.text)) (10 ∷ text_of_lines (texts_of lines)) in
    let k = whole_text lines w.1 in
    omega (arith, a, b, k)

taken_given : (i : ℕ) (lines : List LineView) → given_all (take i lines) + given_all (drop i lines) ≡ given_all lines
taken_given zero lines = omega arith
taken_given (suc i) [] = refl
taken_given (suc i) (l ∷ lines) = let k = taken_given i lines in omega (arith, k)

-- ---- files

-- the text of `q` has at most `most` bytes
abbrev IsShortBy : ℕ → QuestionView → Type 0
IsShortBy most q = length q.text ≤ most

all_short : (limits : FileLimits) (most : ℕ) (lines : List LineView) (qs : List BodyView) → AreAt limits lines qs → given_all lines ≤ most
    → All (IsShortBy most) (with_texts lines qs)
all_short limits most lines [] at h = All-nil (IsShortBy most)
all_short limits most lines (x ∷ xs) at h =
    let i = question_line_count x in
    let q : QuestionView = record { body = x; text = text_of_lines (texts_of (take i lines)) } in
    let sum = taken_given i lines in
    let text = whole_text (take i lines) at.0.whole in
    let short : IsShortBy most q = omega (arith, sum, text, h) in
    All-cons (IsShortBy most) q (with_texts (drop i lines) xs) short (all_short limits most (drop i lines) xs at.1 (omega (arith, sum, h)))

pub texts_are_short : (limits : FileLimits) (bytes : List ℕ) (qs : List QuestionView) → IsFileWithin limits bytes qs
    → All (λ q. length q.text ≤ length bytes + 1) qs
texts_are_short limits bytes qs asked =
    let a = lines_short 1 (split_lines bytes) asked.lines asked.cut in
    let b = split_length bytes in
    let at = questions_at limits asked.lines asked.tree.0 (lines_sound 1 (split_lines bytes) asked.lines asked.cut)
    (said (file limits) with_texts bytes qs asked) in
    subst (All (IsShortBy (length bytes + 1))) asked.says (all_short limits (length bytes + 1) asked.lines asked.tree.0 at (omega (arith, a, b)))
