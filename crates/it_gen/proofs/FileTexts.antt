-- The file of drawn questions is read as these questions.
use Rattle.std.proofs.Common.{◌≡◌, ℕ, zero, suc, ◌+◌, ◌-◌, ◌≤◌, List, [], ◌∷◌, ◌++◌, length, Option, None, codes, refl, sym, ap, ◌∙◌, subst, inr, append_assoc, append-nil, arith, inl, length-append, ◌<◌}
use Rattle.std.proofs.lemmas.List.Elements.{All-nil, All-cons}
use Rattle.std.specs.Prelude.{All}
use Rattle.it_forms.specs.declared.types.Symbol.TheVariants as symbols
use Rattle.it_syntax.specs.declared.types.Token.{Token}
use Rattle.it_syntax.specs.declared.types.TokenKind.TheVariants as kinds
use Rattle.it_forms.specs.declared.types.Code.{Code}
use Rattle.it_syntax.specs.Givens.{IsGivenOf}
use Rattle.it_forms.proofs.LetterLemmas.{cleaned_append}
use Rattle.it_syntax.specs.Spans.{letters_until}
use Rattle.it_syntax.specs.Spelling.{is_word_byte, Stops, IsText}
use Rattle.it_question.specs.Lines.{LineView, AreLines, IsFilled, split_lines, file_end, end_line, letters_of_lines}
use Rattle.it_question.specs.TableSizes.{size_flag}
use Rattle.it_question.proofs.TableLemmas.{few_variables}
use Rattle.it_question.specs.Texts.{with_texts}
use Rattle.it_question.proofs.PlainLines.{spelled_plain, plain_same, plain_first}
use Rattle.it_gen.specs.Draws.{state_after}
use Rattle.it_gen.specs.GeneratedFiles.{question_text, generated_file, IsProve, GeneratedIsFile}
use Rattle.it_gen.proofs.SpelledLines.{IsSpelled, end_spelled, Writes, Anything, writes_then, writes_space, writes_word, writes_symbol}
use Rattle.it_gen.proofs.Lengths.{generated_short}
use Rattle.it_forms.specs.Forms.{Punctuation, Then, Spells}
use Rattle.it_forms.specs.Letters.{Word, Sym, End, FlaggedLetters, letters, without_flags}
use Rattle.it_forms.specs.Words.{line_end, limit_flag}
use Rattle.it_syntax.specs.MeasureWords.{is_measure}
use Rattle.it_syntax.specs.NamesViews.{NamesView}
use Rattle.it_question.specs.Files.{IsFile}
use Rattle.it_question.specs.NewNames.{Variable, no_names, with_name, is_taken, new_flag}
use Rattle.it_question.specs.QuestionForms.{new_name, more_new, new_names, names_line, own_lines, more_own_lines, verb, question, more_questions, file}
use Rattle.it_question.specs.QuestionLimits.{most_lines, most_names, most_questions, usual}
use Rattle.it_question.specs.OwnLines.{no_lines}
use Rattle.it_question.specs.Questions.{BodyView, Prove}
use Rattle.it_gen.proofs.SpelledForms.{IsLetter, IsWritten, letter_written, then_written, none_written, one_written}
use Rattle.it_gen.proofs.PartTexts.{four_variables, relation_text, relation_written}

-- ---- the lines of a question

keyword : (w : List ℕ) → IsText kinds.Word w → Writes Anything (w ++ 32 ∷ []) (λ k. (Word w, None) ∷ k)
unfolding is_word_byte
keyword w h = writes_then (writes_word w h) writes_space (λ rest d. refl)

new_written : (v : NamesView) (w : List ℕ) → IsText kinds.Word w
    → new_flag (is_measure w) (is_taken v w) (most_names - length v.variables) ≡ None
    → IsWritten (Stops is_word_byte) w (new_name Variable most_names v)
unfolding new_name
new_written v w h e = letter_written (record {
  letter = Word w;
  writes = writes_word w h;
  among = refl;
  says = ap
      (λ (flag : Option Code). (flag, with_name Variable v w)) e;
})

comma : IsLetter Anything (codes ", ") (record { kinds = Punctuation symbols.Comma ∷ []; says = λ l. (None, tt {0}) }) tt
comma = record { letter = Sym symbols.Comma; writes = writes_then (writes_symbol symbols.Comma) writes_space (λ rest d. tt); among = refl; says = refl }

-- variables without rates
abbrev variables_alone : List (List ℕ) → NamesView
variables_alone names = record { variables = names; rates = [] }

-- the names of the variables
declared : IsWritten (Stops is_word_byte) (codes "A, B, C, D") (Then (new_name Variable most_names no_names) (more_new Variable most_names))
unfolding more_new is_word_byte is_taken new_written letter_written
declared =
    let short : 1 ≤ 16 = omega arith in
    then_written (new_written no_names (codes "A") (refl, (refl, tt), short) refl)
    (one_written comma (new_written (variables_alone (codes "A" ∷ [])) (codes "B") (refl, (refl, tt), short) refl)
    (one_written comma (new_written (variables_alone (codes "A" ∷ codes "B" ∷ [])) (codes "C") (refl, (refl, tt), short) refl) (one_written comma (new_written (variables_alone (codes "A" ∷ codes "B" ∷ codes "C" ∷ [])) (codes "D") (refl, (refl, tt), short) refl) (none_written _) (λ rest d. d)) (λ rest d. refl)) (λ rest d. refl)) (λ rest d. refl)

vars_line : List ℕ
vars_line = codes "vars A, B, C, D"

vars_writes : Writes (Stops is_word_byte) vars_line (λ k. (Word (codes "vars"), None) ∷ declared.prefix k)
unfolding vars_line is_word_byte
vars_writes = let short : 4 ≤ 16 = omega arith in writes_then (keyword (codes "vars") (refl, (refl, (refl, (refl, (refl, tt)))), short)) declared.writes (λ rest d. tt)

prove_line : ℕ → List ℕ
prove_line x = codes "prove " ++ relation_text x

prove_writes : (x : ℕ) → Writes Anything (prove_line x) (λ k. (Word (codes "prove"), None) ∷ (relation_written x).prefix k)
unfolding prove_line is_word_byte
prove_writes x = let short : 5 ≤ 16 = omega arith in writes_then (keyword (codes "prove") (refl, (refl, (refl, (refl, (refl, (refl, tt))))), short)) (relation_written x).writes (λ rest d. tt)

-- the letters of a question after `vars`, before k
question_letters : ℕ → FlaggedLetters → FlaggedLetters
question_letters x k = declared.prefix ((End, None) ∷ ((Word (codes "prove"), None) ∷ (relation_written x).prefix ((End, None) ∷ k)))

-- what they say
body : ℕ → BodyView
body x = record { names = four_variables; lines = no_lines; verb = Prove (relation_written x).value }

-- ---- lines

-- these bytes are lines from number n on, and their letters are m
record AreRead (n : ℕ) (bytes : List ℕ) (m : FlaggedLetters) : Type 0 where
  lines : List LineView
  cut : AreLines n (split_lines bytes) lines
  same : m ≡ without_flags (letters_of_lines lines)

line_is_filled : (line : List ℕ) (ts : List Token) (tail k : FlaggedLetters) (w : List ℕ)
    → without_flags (letters_until line ts End) ++ tail ≡ (Word w, None) ∷ k → IsFilled ts None
line_is_filled line [] tail k w e = let clash : End ∷ letters tail ≡ Word w ∷ letters k = ap letters e in absurd cc
line_is_filled line (t ∷ ts) tail k w e = tt

line_read : (n : ℕ) (line more : List ℕ) (w : List ℕ) (k tail : FlaggedLetters) → IsSpelled tail [] line ((Word w, None) ∷ k)
    → AreRead (n + 1) more tail → AreRead n (line ++ 10 ∷ more) ((Word w, None) ∷ k)
line_read n line more w k tail h r =
    let l : LineView = record { number = n; text = line; tokens = h.tokens; misspelling = None } in
    let plain = spelled_plain 0 line h.tokens h.spelled in
    record {
      lines = l ∷ r.lines;
      cut = subst (λ (split : List (List ℕ)). AreLines n split (l ∷ r.lines)) (sym (plain_first line more plain))
          (inr (
            l,
            r.lines,
            refl,
            record { number = refl; text = sym (plain_same line plain); spelled = h.spelled },
            line_is_filled line
                h.tokens tail k w h.same,
            r.cut,
          ));
      same = sym h.same ∙ ap (λ (t : FlaggedLetters). without_flags (letters_until line h.tokens End) ++ t) r.same
          ∙ sym (cleaned_append (letters_until line h.tokens End) (letters_of_lines r.lines));
    }

-- a whole line
line_is_spelled : {C : List ℕ → Type 0} {text : List ℕ} {s : FlaggedLetters → FlaggedLetters} → Writes C text s → C []
    → (tail : FlaggedLetters) → IsSpelled tail [] text (s ((End, None) ∷ tail))
line_is_spelled {C} {text} {s} p c tail = subst (λ (bytes : List ℕ). IsSpelled tail [] bytes (s ((End, None) ∷ tail))) (append-nil text)
    (p.go tail [] [] ((End, None) ∷ tail) c (end_spelled tail text))

question_lines_are : (x : ℕ) (more : List ℕ) → question_text x ++ more ≡ vars_line ++ 10 ∷ (prove_line x ++ 10 ∷ more)
unfolding question_text vars_line prove_line
question_lines_are x more = simp append_assoc

-- four variables without lines have a small table
four_small : size_flag four_variables no_lines ≡ None
four_small = few_variables four_variables no_lines (omega arith) (omega arith) (All-nil (IsGivenOf 4)) (omega arith) (omega arith)

end_says : (k : FlaggedLetters) → Spells line_end tt ((End, None) ∷ k) k
unfolding Spells
end_says k = (End, refl, refl, refl)

names_say : (k : FlaggedLetters) → Spells (new_names Variable most_names no_names) four_variables (declared.prefix ((End, None) ∷ k)) k
unfolding Spells new_names more_new declared new_written letter_written then_written one_written none_written
names_say k = let d = declared.says ((End, None) ∷ k) in (d.0, d.1, d.2, (four_variables, (End, None) ∷ k, d.3, (tt, k, end_says k, (refl, refl))))

question_says : (x : ℕ) (k : FlaggedLetters) → Spells (question usual) (body x) (question_letters x k) k
unfolding Spells question body question_letters names_line more_own_lines verb
question_says x k =
    let r = (relation_written x).prefix ((End, None) ∷ k) in
    let p = (Word (codes "prove"), None) ∷ r in
    let own : Spells (own_lines most_lines most_lines four_variables) no_lines p p = (zero, (refl, refl)) in
    let aim : Spells (verb usual no_lines four_variables) (Prove (relation_written x).value) p k =
    inl (
      tt,
      r,
      (Word (codes "prove"), refl, refl, ap (λ (c : Option Code). (Word (codes "prove"), c) ∷ r) (sym four_small)),
      (
        (relation_written x).value,
        k,
        (
          (relation_written x).value,
          (End, None)
              ∷ k,
          (relation_written x).says ((End, None) ∷ k),
          (tt, k, end_says k, (refl, refl)),
        ),
        (refl, refl),
      ),
    ) in
    (four_variables, p, names_say p, (four_variables, p, inr (refl, refl), (no_lines, p, own, (Prove (relation_written x).value, k, aim, (refl, refl)))))

question_read : (n : ℕ) (x : ℕ) (more : List ℕ) (k : FlaggedLetters) → AreRead (n + 1 + 1) more k → AreRead n (question_text x ++ more) ((Word (codes "vars"), None) ∷ question_letters x k)
unfolding question_letters
question_read n x more k h =
    let r = (relation_written x).prefix ((End, None) ∷ k) in
    subst (λ (bytes : List ℕ). AreRead n bytes ((Word (codes "vars"), None) ∷ question_letters x k)) (sym (question_lines_are x more))
    (line_read n vars_line (prove_line x ++ 10 ∷ more) (codes "vars") _ ((Word (codes "prove"), None) ∷ r) (line_is_spelled vars_writes tt _)
    (line_read (n + 1) (prove_line x) more (codes "prove") r k (line_is_spelled (prove_writes x) tt k) h))

-- ---- the file

bodies : ℕ → ℕ → List BodyView
bodies seed zero = []
bodies seed (suc count) = body seed ∷ bodies (state_after 8 seed) count

file_letters : ℕ → ℕ → FlaggedLetters
file_letters seed zero = (file_end, None) ∷ []
file_letters seed (suc count) = (Word (codes "vars"), None) ∷ question_letters seed (file_letters (state_after 8 seed) count)

file_read : (seed count n : ℕ) → AreRead n (generated_file seed count) (file_letters seed count)
unfolding file_letters
file_read seed zero n = record { lines = end_line n ∷ []; cut = refl; same = refl }
file_read seed (suc count) n = question_read n seed (generated_file (state_after 8 seed) count) (file_letters (state_after 8 seed) count)
    (file_read (state_after 8 seed) count (n + 1 + 1))

not_many : (i : ℕ) → i < most_questions → limit_flag (most_questions - i) ≡ None
not_many i h = by_number (most_questions - i) (omega (arith, h))
  where
    by_number : (n : ℕ) → 0 < n → limit_flag n ≡ None
    by_number zero h = absurd (omega (arith, h))
    by_number (suc n) h = refl

questions_say : (seed count : ℕ) (qs : List BodyView) → length qs + count ≤ most_questions
    → Spells (more_questions usual qs) (qs ++ bodies seed count) (file_letters seed count) ((file_end, None) ∷ [])
unfolding Spells more_questions bodies file_letters
questions_say seed zero qs few = (zero, (sym (append-nil qs), refl))
questions_say seed (suc count) qs few =
    let q = body seed in
    let next = file_letters (state_after 8 seed) count in
    let m = question_letters seed next in
    let w = subst (λ (all : List BodyView). Spells (more_questions usual (qs ++ q ∷ [])) all next ((file_end, None) ∷ []))
    (append_assoc qs (q ∷ []) (bodies (state_after 8 seed) count))
    (questions_say (state_after 8 seed) count (qs ++ q ∷ []) (omega (arith, few, length-append qs (q ∷ [])))) in
    (suc w.0, (tt, m, qs ++ q ∷ [], next, (Word (codes "vars"), refl, refl, ap (λ (c : Option Code). (Word (codes "vars"), c) ∷ m) (sym (not_many (length qs) (omega (arith, few))))), (q, next, question_says seed next, (refl, refl)), w.1))

file_says : (seed count : ℕ) → count ≤ most_questions → Spells (file usual) (bodies seed count) (file_letters seed count) []
unfolding Spells file
file_says seed count few = (
  bodies seed count,
  (file_end, None) ∷ [],
  questions_say seed count [] (omega (arith, few)),
  (tt, [], (file_end, refl, refl, refl), (refl, refl)),
)

question_count : (seed count : ℕ) (lines : List LineView) → length (with_texts lines (bodies seed count)) ≡ count
unfolding bodies
question_count seed zero lines = refl
question_count seed (suc count) lines = ap suc (question_count (state_after 8 seed) count _)

all_prove : (seed count : ℕ) (lines : List LineView) → All IsProve (with_texts lines (bodies seed count))
unfolding bodies body
all_prove seed zero lines = All-nil IsProve
all_prove seed (suc count) lines = All-cons IsProve _ _ tt (all_prove (state_after 8 seed) count _)

pub generated_is_file : GeneratedIsFile
generated_is_file seed count few =
    let r = file_read seed count 1 in
    let qs = with_texts r.lines (bodies seed count) in
    let asked : IsFile (generated_file seed count) qs = record {
      lines = r.lines;
      cut = r.cut;
      tree
          = (bodies seed count, file_letters seed count, file_says seed count few);
      spelled = r.same;
      says = refl;
    } in
    record {
      questions = qs;
      asked = asked;
      counted = question_count seed count r.lines;
      prove = all_prove seed count r.lines;
      short
          = generated_short seed count few;
    }
