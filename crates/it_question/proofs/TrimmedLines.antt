-- A trimmed line has the tokens of the line, in their new places.
use Rattle.std.specs.Prelude.{◌==◌}
use Rattle.std.proofs.Common.{◌≡◌, ℕ, ◌+◌, ◌-◌, Bool, false, List, [], ◌∷◌, ◌++◌, length, take, drop, None, refl, sym, ap, ◌∙◌, subst, length-append, append_assoc, arith}
use Rattle.std.proofs.lemmas.List.{take_at, drop_at}
use Rattle.it_forms.specs.declared.types.Symbol.{Symbol}
use Rattle.it_forms.specs.declared.types.Symbol.TheVariants.{LeftParen, RightParen, Comma, Semicolon, Bar, Plus, Minus, Arrow, AtLeast, AtMost, Equal, Assign, Slash}
use Rattle.it_syntax.specs.declared.types.Token.{Token}
use Rattle.it_syntax.specs.declared.types.TokenKind.{TokenKind}
use Rattle.it_syntax.specs.declared.types.TokenKind.TheVariants as kinds
use Rattle.it_forms.specs.Letters.{Letter, Word, Number, Sym, End}
use Rattle.it_forms.specs.SymbolTexts.{symbol_text}
use Rattle.it_syntax.specs.Misspellings.{SpellsUntil}
use Rattle.it_syntax.specs.Spans.{letter_of, letters_until}
use Rattle.std.specs.Char.{is_ascii_digit}
use Rattle.it_syntax.specs.Spelling.{is_word_byte, is_space, AreAll, Stops, IsText, EndsToken, Cut}
use Rattle.it_syntax.proofs.TokenLemmas.{not_space}
use Rattle.it_syntax.proofs.RunLemmas.{value_digits}
use Rattle.it_question.specs.Lines.{LineView, IsFilled, IsLine, line_letters}
use Rattle.it_question.specs.LineTexts.{without_leading, without_trailing}
use Rattle.it_question.proofs.Blanks.{AreSolid, leading_after, trailing_stops, trailing_blank, solid_kept, some_kept}
use Rattle.it_question.proofs.PlainLines.{spelled_plain, plain_same}

-- ---- the text of a token

all_solid : (f : ℕ → Bool) → f 32 ≡ false → (text : List ℕ) → AreAll f text → AreSolid text
all_solid f n [] h = tt
all_solid f n (b ∷ text) h = (not_space f n b h.0, all_solid f n text h.1)

symbol_solid : (s : Symbol) → AreSolid (symbol_text s)
symbol_solid LeftParen = (refl, tt)
symbol_solid RightParen = (refl, tt)
symbol_solid Comma = (refl, tt)
symbol_solid Semicolon = (refl, tt)
symbol_solid Bar = (refl, tt)
symbol_solid Plus = (refl, tt)
symbol_solid Minus = (refl, tt)
symbol_solid Arrow = (refl, (refl, tt))
symbol_solid AtLeast = (refl, (refl, tt))
symbol_solid AtMost = (refl, (refl, tt))
symbol_solid Equal = (refl, tt)
symbol_solid Assign = (refl, (refl, tt))
symbol_solid Slash = (refl, tt)

text_solid : (k : TokenKind) (text : List ℕ) → IsText k text → AreSolid text
unfolding is_word_byte
text_solid kinds.Word text h = all_solid is_word_byte refl text h.1
text_solid (kinds.Number n) text h = all_solid is_ascii_digit refl text (value_digits 0 text n h.1)
text_solid (kinds.Symbol s) text h = subst AreSolid (sym h) (symbol_solid s)

abbrev HasBytes : List ℕ → Type 0
HasBytes text = (b : ℕ) × (more : List ℕ) × (text ≡ b ∷ more)

symbol_bytes : (s : Symbol) → HasBytes (symbol_text s)
symbol_bytes LeftParen = (40, [], refl)
symbol_bytes RightParen = (41, [], refl)
symbol_bytes Comma = (44, [], refl)
symbol_bytes Semicolon = (59, [], refl)
symbol_bytes Bar = (124, [], refl)
symbol_bytes Plus = (43, [], refl)
symbol_bytes Minus = (45, [], refl)
symbol_bytes Arrow = (45, 62 ∷ [], refl)
symbol_bytes AtLeast = (62, 61 ∷ [], refl)
symbol_bytes AtMost = (60, 61 ∷ [], refl)
symbol_bytes Equal = (61, [], refl)
symbol_bytes Assign = (58, 61 ∷ [], refl)
symbol_bytes Slash = (47, [], refl)

text_bytes : (k : TokenKind) (text : List ℕ) → IsText k text → HasBytes text
text_bytes kinds.Word [] h = absurd h.0
text_bytes kinds.Word (b ∷ text) h = (b, text, refl)
text_bytes (kinds.Number n) [] h = absurd h.0
text_bytes (kinds.Number n) (b ∷ text) h = (b, text, refl)
text_bytes (kinds.Symbol s) text h = subst HasBytes (sym h) (symbol_bytes s)

ends_trimmed : (k : TokenKind) (rest : List ℕ) → EndsToken k rest → EndsToken k (without_trailing rest)
ends_trimmed kinds.Word rest h = trailing_stops is_word_byte rest h
ends_trimmed (kinds.Number n) rest h = trailing_stops is_ascii_digit rest h
ends_trimmed (kinds.Symbol Minus) rest h = trailing_stops (λ b. 62 == b) rest h
ends_trimmed (kinds.Symbol LeftParen) rest h = tt
ends_trimmed (kinds.Symbol RightParen) rest h = tt
ends_trimmed (kinds.Symbol Comma) rest h = tt
ends_trimmed (kinds.Symbol Semicolon) rest h = tt
ends_trimmed (kinds.Symbol Bar) rest h = tt
ends_trimmed (kinds.Symbol Plus) rest h = tt
ends_trimmed (kinds.Symbol Arrow) rest h = tt
ends_trimmed (kinds.Symbol AtLeast) rest h = tt
ends_trimmed (kinds.Symbol AtMost) rest h = tt
ends_trimmed (kinds.Symbol Equal) rest h = tt
ends_trimmed (kinds.Symbol Assign) rest h = tt
ends_trimmed (kinds.Symbol Slash) rest h = tt

-- its letter
letter_by : TokenKind → List ℕ → Letter
letter_by kinds.Word text = Word text
letter_by (kinds.Number n) text = Number n
letter_by (kinds.Symbol s) text = Sym s

letter_is : (k : TokenKind) (line : List ℕ) (start end : ℕ) (text : List ℕ) → take (end - start) (drop start line) ≡ text
    → letter_of line start end k ≡ letter_by k text
unfolding letter_by
letter_is kinds.Word line start end text e = ap Word e
letter_is (kinds.Number n) line start end text e = refl
letter_is (kinds.Symbol s) line start end text e = refl

-- the letter of a token that is cut off what stands after `prefix`
cut_letter : (line prefix : List ℕ) (at : ℕ) (bytes : List ℕ) (t : Token) (rest : List ℕ) → line ≡ prefix ++ bytes → length prefix ≡ at
    → (c : Cut at bytes t rest) → letter_of line t.start t.end t.kind ≡ letter_by t.kind c.text
cut_letter line prefix at bytes t rest e n c =
    let whole : line ≡ (prefix ++ c.gap) ++ (c.text ++ rest) = e ∙ ap (λ (b : List ℕ). prefix ++ b) c.whole
    ∙ sym (append_assoc prefix c.gap (c.text ++ rest)) in
    let start : length (prefix ++ c.gap) ≡ t.start = omega (arith, length-append prefix c.gap, n, c.start) in
    let len : length c.text ≡ t.end - t.start = omega (arith, c.end) in
    letter_is t.kind line t.start t.end c.text
    (ap (λ (b : List ℕ). take (t.end - t.start) (drop t.start b)) whole
    ∙ ap (take (t.end - t.start)) (drop_at (prefix ++ c.gap) (c.text ++ rest) t.start start)
    ∙ take_at c.text rest (t.end - t.start) len)

-- ---- other places

-- tokens that are spelled by other bytes, and have the letters of these
record Moved (at : ℕ) (bytes : List ℕ) (line : List ℕ) (ts : List Token) : Type 0 where
  tokens : List Token
  spelled : SpellsUntil at bytes tokens None
  same : (text prefix : List ℕ) → text ≡ prefix ++ bytes → length prefix ≡ at → letters_until text tokens End ≡ letters_until line ts End
  filled : IsFilled ts None → IsFilled tokens None

cut_trimmed : (at to : ℕ) (bytes : List ℕ) (t : Token) (rest : List ℕ) (c : Cut at bytes t rest)
    → Cut to (without_trailing bytes) (record { kind = t.kind; start = to + length c.gap; end = to + length c.gap + length c.text })
    (without_trailing rest)
cut_trimmed at to bytes t rest c =
    let some = text_bytes t.kind c.text c.spelled in
    let kept : without_trailing (c.text ++ rest) ≡ c.text ++ without_trailing rest = solid_kept c.text rest (text_solid t.kind c.text c.spelled) in
    let first : without_trailing (c.text ++ rest) ≡ some.0 ∷ (some.1 ++ without_trailing rest) = kept
    ∙ ap (λ (b : List ℕ). b ++ without_trailing rest) some.2 in
    record {
      gap = c.gap;
      text = c.text;
      whole = ap without_trailing c.whole ∙ some_kept c.gap (c.text ++ rest) some.0 (some.1 ++ without_trailing rest) first
          ∙ ap (λ (b : List ℕ). c.gap ++ b) kept;
      blank = c.blank;
      spelled = c.spelled;
      ends = ends_trimmed t.kind rest c.ends;
      start = refl;
      end = refl;
    }

move_tokens : (line prefix bytes : List ℕ) (at to : ℕ) (ts : List Token) → line ≡ prefix ++ bytes → length prefix ≡ at
    → SpellsUntil at bytes ts None → Moved to (without_trailing bytes) line ts
unfolding cut_trimmed
move_tokens line prefix bytes at to [] e n h = record {
  tokens = [];
  spelled = subst (AreAll is_space)
      (sym (trailing_blank bytes h)) tt;
  same = λ text prefix whole len. refl;
  filled = λ f. f;
}
move_tokens line prefix bytes at to (t ∷ ts) e n h =
    let rest = h.0 in
    let c = h.1 in
    let start = to + length c.gap in
    let end = start + length c.text in
    let cut = cut_trimmed at to bytes t rest c in
    let whole : (prefix bytes rest : List ℕ) → bytes ≡ c.gap ++ (c.text ++ rest) → prefix ++ bytes ≡ (prefix ++ (c.gap ++ c.text)) ++ rest =
    λ prefix bytes rest e. ap (λ (b : List ℕ). prefix ++ b) (e ∙ sym (append_assoc c.gap c.text rest)) ∙ sym (append_assoc prefix (c.gap ++ c.text) rest) in
    let len : (prefix : List ℕ) → length (prefix ++ (c.gap ++ c.text)) ≡ length prefix + (length c.gap + length c.text) =
    λ prefix. length-append prefix (c.gap ++ c.text) ∙ ap (λ (i : ℕ). length prefix + i) (length-append c.gap c.text) in
    let more : Moved end (without_trailing rest) line ts = move_tokens line (prefix ++ (c.gap ++ c.text)) rest t.end end ts
    (e ∙ whole prefix bytes rest c.whole) (omega (arith, len prefix, n, c.start, c.end)) h.2 in
    record {
      tokens = record { kind = t.kind; start = start; end = end } ∷ more.tokens;
      spelled = (without_trailing rest, cut, more.spelled);
      same = λ text before is long.
          ap (λ (l : Letter). l ∷ letters_until text more.tokens End) (cut_letter text before to (without_trailing bytes)
          (record { kind = t.kind; start = start; end = end }) (without_trailing rest) is long cut
          ∙ sym (cut_letter line prefix at bytes t rest e n c))
          ∙ ap (λ (ls : List Letter). letter_of line t.start t.end t.kind ∷ ls)
          (more.same text (before ++ (c.gap ++ c.text)) (is ∙ whole before (without_trailing bytes) (without_trailing rest) cut.whole)
          (omega (arith, len before, long)));
      filled = λ f. tt;
    }

-- ---- a line

-- it has tokens and no misspelling
pub record IsWhole (l : LineView) : Type 0 where
  pub misspelling : l.misspelling ≡ None
  pub spelled : SpellsUntil 0 l.text l.tokens None
  pub filled : IsFilled l.tokens None

-- the line that a trimmed line is read as
pub record ReadsAgain (n : ℕ) (l : LineView) : Type 0 where
  pub line : LineView
  pub is : IsLine n (without_trailing (without_leading l.text)) line
  pub spelled : SpellsUntil 0 (without_trailing (without_leading l.text)) line.tokens None
  pub filled : IsFilled line.tokens line.misspelling
  pub text : line.text ≡ without_trailing (without_leading l.text)
  pub letters : line_letters line ≡ letters_until l.text l.tokens End

from_first : (text : List ℕ) (ts : List Token) → SpellsUntil 0 text ts None → IsFilled ts None → Moved 0 (without_trailing (without_leading text)) text ts
from_first text [] h f = absurd f
from_first text (t ∷ ts) h f =
    let c = h.1 in
    let some = text_bytes t.kind c.text c.spelled in
    let solid : AreSolid (some.0 ∷ some.1) = subst AreSolid some.2 (text_solid t.kind c.text c.spelled) in
    let stops : Stops is_space (c.text ++ h.0) = subst (λ (b : List ℕ). Stops is_space (b ++ h.0)) (sym some.2) solid.0 in
    let after : without_leading text ≡ c.text ++ h.0 = ap without_leading c.whole ∙ leading_after c.gap (c.text ++ h.0) c.blank stops in
    let cut : Cut (length c.gap) (without_leading text) t h.0 = record {
      gap = [];
      text = c.text;
      whole = after;
      blank = tt;
      spelled
          = c.spelled;
      ends = c.ends;
      start = omega (arith, c.start);
      end = c.end;
    } in
    move_tokens text c.gap (without_leading text) (length c.gap) 0 (t ∷ ts) (c.whole ∙ ap (λ (b : List ℕ). c.gap ++ b) (sym after)) refl (h.0, cut, h.2)

pub reads_again : (n : ℕ) (l : LineView) → IsWhole l → ReadsAgain n l
reads_again n l h =
    let m = from_first l.text l.tokens h.spelled h.filled in
    record {
      line = record { number = n; text = without_trailing (without_leading l.text); tokens = m.tokens; misspelling = None };
      is = record {
        number = refl;
        text = sym (plain_same (without_trailing (without_leading l.text))
            (spelled_plain 0 (without_trailing (without_leading l.text)) m.tokens m.spelled));
        spelled = m.spelled;
      };
      spelled = m.spelled;
      filled = m.filled h.filled;
      text = refl;
      letters = m.same (without_trailing (without_leading l.text)) [] refl refl;
    }
