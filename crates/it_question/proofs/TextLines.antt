-- The text of lines is read as lines of the same letters.
use Rattle.std.proofs.Common.{◌≡◌, ℕ, ◌+◌, List, [], ◌∷◌, ◌++◌, length, take, Option, refl, sym, ap, ◌∙◌, subst, inr, append_assoc}
use Rattle.it_syntax.specs.declared.types.Misspelling.{Misspelling}
use Rattle.it_forms.specs.Letters.{Letter, End}
use Rattle.it_syntax.specs.Spans.{letters_until, last_letter}
use Rattle.it_question.specs.Lines.{LineView, AreLines, split_lines, file_end, end_line, line_letters, letters_of_lines}
use Rattle.it_question.specs.LineTexts.{text_of_lines, without_trailing, without_leading}
use Rattle.it_question.proofs.Blanks.{trimmed_once}
use Rattle.it_question.proofs.PlainLines.{spelled_plain, plain_first}
use Rattle.it_question.proofs.TrimmedLines.{IsWhole, reads_again}
use Rattle.it_question.proofs.LineParts.{AreWhole, texts_of}

-- what the text of these lines is read as, from line number n on
pub record ReadAgain (n : ℕ) (lines : List LineView) : Type 0 where
  pub again : List LineView
  pub cut : AreLines n (split_lines (text_of_lines (texts_of lines))) again
  pub same : letters_of_lines again ≡ letters_of_lines lines ++ file_end ∷ []
  pub text : text_of_lines (texts_of (take (length lines) again)) ≡ text_of_lines (texts_of lines)

whole_letters : (l : LineView) → IsWhole l → line_letters l ≡ letters_until l.text l.tokens End
whole_letters l h = ap (λ (m : Option Misspelling). letters_until l.text l.tokens (last_letter m)) h.misspelling

-- the text of lines is read as lines of the same letters
pub read_again : (n : ℕ) (lines : List LineView) → AreWhole lines → ReadAgain n lines
read_again n [] h = record { again = end_line n ∷ []; cut = refl; same = refl; text = refl }
read_again n (l ∷ lines) h =
    let a = reads_again n l h.0 in
    let more = read_again (n + 1) lines h.1 in
    let plain = spelled_plain 0 (without_trailing (without_leading l.text)) a.line.tokens a.spelled in
    let letters : line_letters a.line ≡ line_letters l = a.letters ∙ sym (whole_letters l h.0) in
    record {
      again = a.line ∷ more.again;
      cut = subst (λ (split : List (List ℕ)). AreLines n split (a.line ∷ more.again))
          (sym (plain_first (without_trailing (without_leading l.text)) (text_of_lines (texts_of lines)) plain))
          (inr (a.line, more.again, refl, a.is, a.filled, more.cut));
      same = ap (λ (q : List Letter). q ++ letters_of_lines more.again) letters ∙ ap (λ (q : List Letter). line_letters l ++ q) more.same
          ∙ sym (append_assoc (line_letters l) (letters_of_lines lines) (file_end ∷ []));
      text = ap (λ (t : List ℕ). without_trailing (without_leading t) ++ 10 ∷ text_of_lines (texts_of (take (length lines) more.again)))
          a.text ∙ ap (λ (t : List ℕ). t ++ 10 ∷ text_of_lines (texts_of (take (length lines) more.again))) (trimmed_once l.text)
          ∙ ap (λ (t : List ℕ). without_trailing (without_leading l.text) ++ 10 ∷ t) more.text;
    }
