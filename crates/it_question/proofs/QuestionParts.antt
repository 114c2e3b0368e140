-- The questions of a file, each in its lines.
use Rattle.std.proofs.Common.{◌≡◌, ℕ, zero, suc, ◌-◌, ◌≤◌, Bool, true, false, List, [], ◌∷◌, ◌++◌, length, take, drop, Option, refl, sym, ap, ◌∙◌, subst, append_assoc, append-nil, length-append, arith}
use Rattle.std.specs.Prelude.{bytes_eq, ◌||◌, codes}
use Rattle.std.proofs.lemmas.Slice.Eq.{bytes_eq-Decides}
use Rattle.it_forms.specs.declared.types.Code.{Code}
use Rattle.it_forms.specs.Letters.{Letter, Word, FlaggedLetters, letters, without_flags}
use Rattle.it_forms.specs.Forms.{Keyword, is_among, AreTurns, Then, Give, Spells}
use Rattle.it_forms.specs.FormTexts.{Says}
use Rattle.it_forms.specs.Words.{flagged_word, limit_flag}
use Rattle.it_forms.proofs.FormLanguage.{prefix_moves}
use Rattle.it_question.specs.Lines.{LineView, letters_of_lines}
use Rattle.it_question.specs.QuestionForms.{question, more_questions, file}
use Rattle.it_question.specs.declared.sizes.FileLimits.{FileLimits}
use Rattle.it_question.specs.QuestionLimits.{most_questions}
use Rattle.it_question.specs.Questions.{BodyView}
use Rattle.it_question.specs.Texts.{question_line_count}
use Rattle.it_question.proofs.CleanLetters.{clean_parts}
use Rattle.it_question.proofs.LineParts.{AreWhole, AreSound, letters_of_first_lines}
use Rattle.it_question.proofs.Puts.{HasLines}
use Rattle.it_question.proofs.QuestionLines.{question_lines}
use Rattle.it_question.proofs.WholeFileLemmas.{the_end}

-- the first of these lines are those of a question: the letters after its word `vars` say it
pub record QuestionAt (limits : FileLimits) (lines : List LineView) (q : BodyView) : Type 0 where
  pub said : List Letter
  pub first : letters_of_lines (take (question_line_count q) lines) ≡ Word (codes "vars") ∷ said
  pub says : Spells (question limits) q (without_flags said ++ the_end) the_end
  pub long : length (take (question_line_count q) lines) ≡ question_line_count q
  pub whole : AreWhole (take (question_line_count q) lines)

-- the lines of these questions, one after the other
abbrev pub AreAt : FileLimits → List LineView → List BodyView → Type 0
AreAt limits lines [] = Unit {0}
AreAt limits lines (q ∷ qs) = QuestionAt limits lines q × AreAt limits (drop (question_line_count q) lines) qs

same_prefix : (a b k : FlaggedLetters) → a ++ k ≡ b ++ k → a ≡ b
same_prefix [] [] k e = refl
same_prefix [] (x ∷ b) k e = let l = ap (λ (t : FlaggedLetters). length t) e in absurd (omega (arith, l, length-append (x ∷ b) k))
same_prefix (x ∷ a) [] k e = let l = ap (λ (t : FlaggedLetters). length t) e in absurd (omega (arith, l, length-append (x ∷ a) k))
same_prefix (x ∷ a) (y ∷ b) k e =
    let first : x ≡ y = cc in
    let tails : a ++ k ≡ b ++ k = cc in
    ap (λ (z : Letter × Option Code). z ∷ a) first ∙ ap (λ (t : FlaggedLetters). y ∷ t) (same_prefix a b k tails)

the_word : (w : List ℕ) (l : Letter) → is_among (Keyword w ∷ []) l ≡ true → l ≡ Word w
the_word w (Word v) e = by_test (bytes_eq v w) ((bytes_eq-Decides v w).0) e
  where
    by_test : (b : Bool) → (b ≡ true → v ≡ w) → (b || false) ≡ true → Word v ≡ Word w
    by_test true h e = ap Word (h refl)
    by_test false h e = absurd cc
the_word w l e = absurd cc

-- a word before lines belongs to the first of them
word_before : (i : ℕ) (w : List ℕ) (ls : List Letter) → 1 ≤ i → HasLines i ls → HasLines i (Word w ∷ ls)
word_before zero w ls le h = absurd (omega (arith, le))
word_before (suc i) w ls le h = h

-- one question, with its word, and the letters after it
record FirstQuestion (limits : FileLimits) (lines : List LineView) (q : BodyView) (n : FlaggedLetters) : Type 0 where
  at : QuestionAt limits lines q
  after : n ≡ without_flags (letters_of_lines (drop (question_line_count q) lines))
  sound : AreSound (drop (question_line_count q) lines)

first_question : (limits : FileLimits) (q : BodyView) (l : Letter) (flag : Option Code) (p n : FlaggedLetters) (lines : List LineView)
    → l ≡ Word (codes "vars") → Spells (question limits) q p n → (l, flag) ∷ p ≡ without_flags (letters_of_lines lines) → AreSound lines
    → FirstQuestion limits lines q n
first_question limits q l flag p n lines word s e sound =
    let i = question_line_count q in
    let lines_of = question_lines limits q p n s in
    let moves = prefix_moves (question limits) q p n s in
    let prefix : moves.prefix ≡ lines_of.prefix = same_prefix moves.prefix lines_of.prefix n (sym moves.is ∙ lines_of.is) in
    let c = clean_parts ((Word (codes "vars"), flag) ∷ lines_of.prefix) n (letters_of_lines lines) (ap (λ (t : FlaggedLetters). (Word (codes "vars"), flag) ∷ t) (sym lines_of.is) ∙ ap (λ (x : Letter). (x, flag) ∷ p) (sym word) ∙ e) in
    let d = letters_of_first_lines i lines (Word (codes "vars") ∷ letters lines_of.prefix) (letters n) (word_before i (codes "vars") (letters lines_of.prefix) (omega arith) lines_of.kind) c.all sound in
    let clean : lines_of.prefix ≡ without_flags (letters lines_of.prefix) = cc in
    record {
      at = record {
        said = letters lines_of.prefix;
        first = d.prefix;
        says = subst (λ (m : FlaggedLetters). Spells (question limits) q (m ++ the_end) the_end) (prefix ∙ clean) (moves.moves the_end);
        long = d.long;
        whole = d.whole;
      };
      after = c.after ∙ ap without_flags (sym d.after);
      sound = d.sound;
    }

-- the questions that turns add
turns_at : (limits : FileLimits) (n : ℕ) (qs ys : List BodyView) (m k : FlaggedLetters) (lines : List LineView)
    → AreTurns (λ (qs : List BodyView). flagged_word (codes "vars") (limit_flag (most_questions - length qs)))
    (λ qs u. Spells (Then (question limits) (λ q. Give (qs ++ q ∷ [])))) n qs ys m k → m ≡ without_flags (letters_of_lines lines) → AreSound lines
    → (new : List BodyView) × (ys ≡ qs ++ new) × AreAt limits lines new
unfolding Spells
turns_at limits zero qs ys m k lines s e sound = ([], sym s.0 ∙ sym (append-nil qs), tt)
turns_at limits (suc n) qs ys m k lines s e sound =
    let one = first_question limits s.5.0 s.4.0 _ s.1 s.5.1 lines (the_word (codes "vars") s.4.0 s.4.1) s.5.2 (sym s.4.3 ∙ e) sound in
    let more = turns_at limits n s.2 ys s.3 k (drop (question_line_count s.5.0) lines) s.6 (sym s.5.3.1 ∙ one.after) one.sound in
    (s.5.0 ∷ more.0, more.1 ∙ ap (λ (t : List BodyView). t ++ more.0) (sym s.5.3.0) ∙ append_assoc qs (s.5.0 ∷ []) more.0, (one.at, more.2))

pub questions_at : (limits : FileLimits) (lines : List LineView) (qs : List BodyView) → AreSound lines → Says (file limits) (letters_of_lines lines) qs
    → AreAt limits lines qs
unfolding file more_questions Spells
questions_at limits lines qs sound s =
    let t = turns_at limits s.2.0 [] s.0 (without_flags (letters_of_lines lines)) s.1 lines s.2.1 refl sound in
    subst (AreAt limits lines) (sym t.1 ∙ s.3.3.0) t.2
