-- A line that is tokens and spaces is ASCII, so the texts and the names of a file's questions are.
use Rattle.std.specs.Prelude.{codes}
use Rattle.std.proofs.Common.{◌≡◌, ℕ, zero, suc, ◌-◌, ◌<◌, ◌==◌, Bool, true, false, cond, List, [], ◌∷◌, ◌++◌, take, drop, All, IsAscii, Option, None, inl, inr, sym, ap, ◌∙◌, subst, arith}
use Rattle.std.specs.Char.{is_ascii_digit}
use Rattle.std.proofs.lemmas.Bool.Decides.{nat_tests}
use Rattle.std.proofs.lemmas.List.Elements.{All-nil, All-cons, All-append}
use Rattle.std.proofs.lemmas.Str.{IsAscii-take, IsAscii-drop, IsAscii-append}
use Rattle.std.proofs.lemmas.Str.Ascii.{IsAscii-nil, IsAscii-cons}
use Rattle.it_syntax.specs.declared.types.Misspelling.{Misspelling}
use Rattle.it_forms.specs.declared.types.Symbol.{Symbol}
use Rattle.it_forms.specs.declared.types.Symbol.TheVariants.{LeftParen, RightParen, Comma, Semicolon, Bar, Plus, Minus, Arrow, AtLeast, AtMost, Equal, Assign, Slash}
use Rattle.it_syntax.specs.declared.types.Token.{Token}
use Rattle.it_syntax.specs.declared.types.TokenKind.{TokenKind}
use Rattle.it_syntax.specs.declared.types.TokenKind.TheVariants as kinds
use Rattle.it_forms.specs.Letters.{Letter, Word, Number, Sym, End, Bad, FlaggedLetters, letters, without_flags}
use Rattle.it_forms.specs.SymbolTexts.{symbol_text}
use Rattle.it_syntax.specs.Misspellings.{SpellsUntil}
use Rattle.it_syntax.specs.NamesViews.{NamesView}
use Rattle.it_syntax.specs.Spans.{letter_of, letters_until, last_letter}
use Rattle.it_syntax.specs.Spelling.{is_word_byte, is_space, AreAll, IsText}
use Rattle.it_syntax.proofs.RunLemmas.{value_digits}
use Rattle.it_question.specs.declared.sizes.FileLimits.{FileLimits}
use Rattle.it_question.specs.AsciiTexts.{IsAsciiQuestion, TextsAreAscii}
use Rattle.it_question.specs.Lines.{LineView, split_lines, file_end, line_letters, letters_of_lines}
use Rattle.it_question.specs.NewNames.{NameSortView, Variable, Rate, with_name, no_names}
use Rattle.it_question.specs.QuestionForms.{new_name, more_new, new_names, names_line, question, file}
use Rattle.it_question.specs.Questions.{BodyView, QuestionView}
use Rattle.it_question.proofs.LineParts.{AreWhole, lines_sound, texts_of}
use Rattle.it_question.proofs.QuestionParts.{AreAt, questions_at}
use Rattle.it_question.proofs.WholeFileLemmas.{the_end, said}
use Rattle.it_forms.specs.Forms.{WordBut, is_among, AreTurns, Form, Take, Then, Give, Spells}
use Rattle.it_forms.specs.Words.{text_of, symbol, word}
use Rattle.it_forms.proofs.FormLanguage.{prefix_moves}
use Rattle.it_forms.proofs.LetterLemmas.{letters_append, letters_cleaned}
use Rattle.it_question.specs.LineTexts.{without_leading, unless_blank, without_trailing, text_of_lines}
use Rattle.it_question.specs.Texts.{question_line_count, with_texts}
use Rattle.it_space.specs.Spaces.{most_rates}
use Rattle.it_question.specs.QuestionLimits.{names_within}

-- ---- bytes of tokens

word_byte_below : (b : ℕ) → is_word_byte b ≡ true → b < 128
unfolding is_word_byte
word_byte_below b h = grind (arith, nat_tests)

digit_below : (b : ℕ) → is_ascii_digit b ≡ true → b < 128
digit_below b h = grind (arith, nat_tests)

space_below : (b : ℕ) → is_space b ≡ true → b < 128
space_below b h = grind (arith, nat_tests)

-- a kind of bytes that are ASCII
all_ascii : (f : ℕ → Bool) → ((b : ℕ) → f b ≡ true → b < 128) → (bytes : List ℕ) → AreAll f bytes → IsAscii bytes
all_ascii f below [] h = IsAscii-nil
all_ascii f below (b ∷ bytes) h = IsAscii-cons b bytes (below b h.0) (all_ascii f below bytes h.1)

one_ascii : (b : ℕ) → b < 128 → IsAscii (b ∷ [])
one_ascii b h = IsAscii-cons b [] h IsAscii-nil

two_ascii : (a b : ℕ) → a < 128 → b < 128 → IsAscii (a ∷ b ∷ [])
two_ascii a b g h = IsAscii-cons a (b ∷ []) g (one_ascii b h)

symbol_ascii : (s : Symbol) → IsAscii (symbol_text s)
symbol_ascii LeftParen = one_ascii 40 (omega arith)
symbol_ascii RightParen = one_ascii 41 (omega arith)
symbol_ascii Comma = one_ascii 44 (omega arith)
symbol_ascii Semicolon = one_ascii 59 (omega arith)
symbol_ascii Bar = one_ascii 124 (omega arith)
symbol_ascii Plus = one_ascii 43 (omega arith)
symbol_ascii Minus = one_ascii 45 (omega arith)
symbol_ascii Arrow = two_ascii 45 62 (omega arith) (omega arith)
symbol_ascii AtLeast = two_ascii 62 61 (omega arith) (omega arith)
symbol_ascii AtMost = two_ascii 60 61 (omega arith) (omega arith)
symbol_ascii Equal = one_ascii 61 (omega arith)
symbol_ascii Assign = two_ascii 58 61 (omega arith) (omega arith)
symbol_ascii Slash = one_ascii 47 (omega arith)

text_ascii : (k : TokenKind) (text : List ℕ) → IsText k text → IsAscii text
text_ascii kinds.Word text h = all_ascii is_word_byte word_byte_below text h.1
text_ascii (kinds.Number n) text h = all_ascii is_ascii_digit digit_below text (value_digits 0 text n h.1)
text_ascii (kinds.Symbol s) text h = subst IsAscii (sym h) (symbol_ascii s)

-- a line of tokens alone
pub spelled_ascii : (at : ℕ) (bytes : List ℕ) (ts : List Token) → SpellsUntil at bytes ts None → IsAscii bytes
spelled_ascii at bytes [] h = all_ascii is_space space_below bytes h
spelled_ascii at bytes (t ∷ ts) h =
    let c = h.1 in
    let token = IsAscii-append c.text h.0 (text_ascii t.kind c.text c.spelled) (spelled_ascii t.end h.0 ts h.2) in
    subst IsAscii (sym c.whole) (IsAscii-append c.gap (c.text ++ h.0) (all_ascii is_space space_below c.gap c.blank) token)

-- ---- the text of lines

after_first : (b : ℕ) (bytes : List ℕ) → IsAscii (b ∷ bytes) → IsAscii bytes
after_first b bytes h = IsAscii-drop (b ∷ bytes) 1 h

leading_ascii : (line : List ℕ) → IsAscii line → IsAscii (without_leading line)
leading_ascii [] h = h
leading_ascii (b ∷ line) h = by_test (b == 32) (leading_ascii line (after_first b line h))
  where
    by_test : (t : Bool) → IsAscii (without_leading line) → IsAscii (cond t (without_leading line) (b ∷ line))
    by_test true g = g
    by_test false g = h

unless_ascii : (b : ℕ) (line : List ℕ) → b < 128 → IsAscii line → IsAscii (unless_blank b line)
unless_ascii b [] l h = by_test (b == 32)
  where
    by_test : (t : Bool) → IsAscii (cond t [] (b ∷ []))
    by_test true = IsAscii-nil
    by_test false = one_ascii b l
unless_ascii b (c ∷ line) l h = IsAscii-cons b (c ∷ line) l h

trailing_ascii : (line : List ℕ) → IsAscii line → IsAscii (without_trailing line)
trailing_ascii [] h = h
trailing_ascii (b ∷ line) h = unless_ascii b (without_trailing line) (h 0) (trailing_ascii line (after_first b line h))

lines_ascii : (lines : List LineView) → AreWhole lines → IsAscii (text_of_lines (texts_of lines))
lines_ascii [] h = IsAscii-nil
lines_ascii (l ∷ lines) h =
    let line = trailing_ascii (without_leading l.text) (leading_ascii l.text (spelled_ascii 0 l.text l.tokens h.0.spelled)) in
    IsAscii-append (without_trailing (without_leading l.text)) (10 ∷ text_of_lines (texts_of lines)) line
    (IsAscii-cons 10 (text_of_lines (texts_of lines)) (omega arith) (lines_ascii lines h.1))

-- ---- the words of lines

-- each word of these letters is ASCII
abbrev AsciiWords : List Letter → Type 0
AsciiWords [] = Unit {0}
AsciiWords (Word w ∷ ls) = IsAscii w × AsciiWords ls
AsciiWords (l ∷ ls) = AsciiWords ls

words_append : (a b : List Letter) → AsciiWords a → AsciiWords b → AsciiWords (a ++ b)
words_append [] b g h = h
words_append (Word w ∷ a) b g h = (g.0, words_append a b g.1 h)
words_append (Number n ∷ a) b g h = words_append a b g h
words_append (Sym s ∷ a) b g h = words_append a b g h
words_append (End ∷ a) b g h = words_append a b g h
words_append (Bad c ∷ a) b g h = words_append a b g h

letter_words : (line : List ℕ) (start end : ℕ) (k : TokenKind) (ls : List Letter) → IsAscii line → AsciiWords ls → AsciiWords (letter_of line start end k ∷ ls)
letter_words line start end kinds.Word ls h g = (IsAscii-take (drop start line) (end - start) (IsAscii-drop line start h), g)
letter_words line start end (kinds.Number n) ls h g = g
letter_words line start end (kinds.Symbol s) ls h g = g

until_words : (line : List ℕ) (ts : List Token) → IsAscii line → AsciiWords (letters_until line ts End)
until_words line [] h = tt
until_words line (t ∷ ts) h = letter_words line t.start t.end t.kind (letters_until line ts End) h (until_words line ts h)

lines_words : (lines : List LineView) → AreWhole lines → AsciiWords (letters_of_lines lines)
lines_words [] h = tt
lines_words (l ∷ lines) h =
    let words = until_words l.text l.tokens (spelled_ascii 0 l.text l.tokens h.0.spelled) in
    let line : AsciiWords (line_letters l) = subst (λ (m : Option Misspelling). AsciiWords (letters_until l.text l.tokens (last_letter m)))
    (sym h.0.misspelling) words in
    words_append (line_letters l) (letters_of_lines lines) line (lines_words lines h.1)

-- ---- the names that are spelled

record AsciiNames (v : NamesView) : Type 0 where
  variables : All IsAscii v.variables
  rates : All IsAscii v.rates

one_name : (w : List ℕ) → IsAscii w → All IsAscii (w ∷ [])
one_name w h = All-cons IsAscii w [] h (All-nil IsAscii)

name_ascii : (sort : NameSortView) (v : NamesView) (w : List ℕ) → AsciiNames v → IsAscii w → AsciiNames (with_name sort v w)
name_ascii Variable v w a h = record { variables = All-append IsAscii v.variables (w ∷ []) a.variables (one_name w h); rates = a.rates }
name_ascii Rate v w a h = record { variables = a.variables; rates = All-append IsAscii v.rates (w ∷ []) a.rates (one_name w h) }

-- the words of what follows a form are ASCII
words_after : {A : Type 0} (f : Form A) (y : A) (m k : FlaggedLetters) → Spells f y m k → AsciiWords (letters m) → AsciiWords (letters k)
words_after f y m k s h = let w = prefix_moves f y m k s
    in words_behind (letters w.prefix) (letters k) (subst AsciiWords (ap letters w.is ∙ letters_append w.prefix k) h)
  where
    words_behind : (a b : List Letter) → AsciiWords (a ++ b) → AsciiWords b
    words_behind [] b h = h
    words_behind (Word w ∷ a) b h = words_behind a b h.1
    words_behind (l ∷ a) b h = words_behind a b h

new_name_ascii : (sort : NameSortView) (most : ℕ) (v y : NamesView) (m k : FlaggedLetters) → Spells (new_name sort most v) y m k
    → AsciiNames v → AsciiWords (letters m) → AsciiNames y
unfolding new_name Spells
new_name_ascii sort most v y m k s a h = subst AsciiNames s.2 (by_letter s.0 s.1 (subst (λ (q : FlaggedLetters). AsciiWords (letters q)) s.3 h))
  where
    by_letter : (l : Letter) → is_among (WordBut [] ∷ []) l ≡ true → AsciiWords (l ∷ letters k) → AsciiNames (with_name sort v (text_of l))
    by_letter (Word w) e h = name_ascii sort v w a h.0
    by_letter l e h = absurd cc

more_names_ascii : (sort : NameSortView) (most : ℕ) (v y : NamesView) (m k : FlaggedLetters) → Spells (more_new sort most v) y m k
    → AsciiNames v → AsciiWords (letters m) → AsciiNames y
unfolding more_new Spells
more_names_ascii sort most v y m k s a h = turns s.0 v m s.1 a h
  where
    turns : (n : ℕ) (v : NamesView) (m : FlaggedLetters)
        → AreTurns (λ (v : NamesView). symbol Comma) (λ v u. Spells (Then (new_name sort most v) (λ more. Give more))) n v y m k
        → AsciiNames v → AsciiWords (letters m) → AsciiNames y
    turns zero v m t a h = subst AsciiNames t.0 a
    turns (suc n) v m t a h =
        let words = words_after (Take (symbol Comma)) t.0 m t.1 t.4 h in
        turns n t.2 t.3 t.6 (subst AsciiNames t.5.3.0 (new_name_ascii sort most v t.5.0 t.1 t.5.1 t.5.2 a words))
        (words_after (Then (new_name sort most v) (λ more. Give more)) t.2 t.1 t.3 t.5 words)

new_names_ascii : (sort : NameSortView) (most : ℕ) (v y : NamesView) (m k : FlaggedLetters) → Spells (new_names sort most v) y m k
    → AsciiNames v → AsciiWords (letters m) → AsciiNames y
unfolding new_names Spells
new_names_ascii sort most v y m k s a h =
    let first = new_name_ascii sort most v s.0 m s.1 s.2 a h in
    subst AsciiNames s.3.3.3.0 (more_names_ascii sort most s.0 s.3.0 s.1 s.3.1 s.3.2 first (words_after (new_name sort most v) s.0 m s.1 s.2 h))

names_line_ascii : (sort : NameSortView) (most : ℕ) (keyword : List ℕ) (v y : NamesView) (m k : FlaggedLetters)
    → Spells (names_line sort most keyword v) y m k → AsciiNames v → AsciiWords (letters m) → AsciiNames y
unfolding names_line Spells
names_line_ascii sort most keyword v y m k (inl s) a h = new_names_ascii sort most v y s.1 k s.3 a (words_after (Take (word keyword)) s.0 m s.1 s.2 h)
names_line_ascii sort most keyword v y m k (inr s) a h = subst AsciiNames s.0 a

no_names_ascii : AsciiNames no_names
no_names_ascii = record { variables = All-nil IsAscii; rates = All-nil IsAscii }

names_ascii : (limits : FileLimits) (q : BodyView) (m k : FlaggedLetters) → Spells (question limits) q m k → AsciiWords (letters m) → AsciiNames q.names
unfolding question Spells
names_ascii limits q m k s h =
    let first = new_names_ascii Variable (names_within limits) no_names s.0 m s.1 s.2 no_names_ascii h in
    subst (λ (x : BodyView). AsciiNames x.names) s.3.3.3.3.0 (names_line_ascii Rate most_rates (codes "rates") s.0 s.3.0 s.1 s.3.1 s.3.2 first
    (words_after (new_names Variable (names_within limits) no_names) s.0 m s.1 s.2 h))

-- ---- files

all_questions : (limits : FileLimits) (lines : List LineView) (qs : List BodyView) → AreAt limits lines qs → All IsAsciiQuestion (with_texts lines qs)
all_questions limits lines [] a = All-nil IsAsciiQuestion
all_questions limits lines (b ∷ qs) a =
    let i = question_line_count b in
    let h = a.0 in
    let words : AsciiWords h.said = (subst AsciiWords h.first (lines_words (take i lines) h.whole)).1 in
    let all : AsciiWords (letters (without_flags h.said ++ the_end)) = subst AsciiWords
    (sym (letters_append (without_flags h.said) the_end ∙ ap (λ (ls : List Letter). ls ++ file_end ∷ []) (letters_cleaned h.said)))
    (words_append h.said (file_end ∷ []) words tt) in
    let names = names_ascii limits b (without_flags h.said ++ the_end) the_end h.says all in
    let q : QuestionView = record { body = b; text = text_of_lines (texts_of (take i lines)) } in
    let first : IsAsciiQuestion q = record { text = lines_ascii (take i lines) h.whole; variables = names.variables; rates = names.rates } in
    All-cons IsAsciiQuestion q (with_texts (drop i lines) qs) first (all_questions limits (drop i lines) qs a.1)

pub texts_are_ascii : TextsAreAscii
texts_are_ascii limits bytes qs asked = subst (All IsAsciiQuestion) asked.says
    (all_questions limits asked.lines asked.tree.0 (questions_at limits asked.lines asked.tree.0 (lines_sound 1 (split_lines bytes) asked.lines asked.cut)
    (said (file limits) with_texts bytes qs asked)))
