-- Letters that are n lines are those of the first n lines.
use Rattle.std.proofs.Common.{◌≡◌, ℕ, zero, suc, ◌+◌, List, [], ◌∷◌, ◌++◌, length, map, take, drop, Option, Some, None, refl, sym, ap, ◌∙◌, subst, inl, inr}
use Rattle.it_syntax.specs.declared.types.Misspelling.{Misspelling}
use Rattle.it_syntax.specs.declared.types.Token.{Token}
use Rattle.it_syntax.specs.declared.types.TokenKind.{TokenKind}
use Rattle.it_syntax.specs.declared.types.TokenKind.TheVariants as kinds
use Rattle.it_forms.specs.Letters.{Letter, End, Bad}
use Rattle.it_syntax.specs.Misspellings.{SpellsUntil}
use Rattle.it_syntax.specs.Spans.{letter_of, letters_until, last_letter}
use Rattle.it_question.specs.Lines.{LineView, AreLines, IsFilled, line_letters, letters_of_lines}
use Rattle.it_question.proofs.Puts.{HasLines}
use Rattle.it_question.proofs.TrimmedLines.{IsWhole}

-- the text of each of them
abbrev pub texts_of : List LineView → List (List ℕ)
texts_of lines = map (λ (l : LineView). l.text) lines

-- ---- lines without a misspelling

-- each of them is whole
abbrev pub AreWhole : List LineView → Type 0
AreWhole [] = Unit {0}
AreWhole (l ∷ lines) = IsWhole l × AreWhole lines

-- those that have no misspelling are whole
abbrev pub AreSound : List LineView → Type 0
AreSound [] = Unit {0}
AreSound (l ∷ lines) = (l.misspelling ≡ None → IsWhole l) × AreSound lines

line_sound : (l : LineView) → SpellsUntil 0 l.text l.tokens l.misspelling → IsFilled l.tokens l.misspelling → l.misspelling ≡ None → IsWhole l
line_sound l h f e = record {
  misspelling = e;
  spelled = subst (λ (m : Option Misspelling). SpellsUntil 0 l.text l.tokens m) e h;
  filled = subst (λ (m : Option Misspelling). IsFilled l.tokens m) e f;
}

pub lines_sound : (n : ℕ) (split : List (List ℕ)) (lines : List LineView) → AreLines n split lines → AreSound lines
lines_sound n [] lines h = subst AreSound (sym h) ((λ e. absurd cc), tt)
lines_sound n (bytes ∷ more) lines (inl h) = lines_sound (n + 1) more lines h.1
lines_sound n (bytes ∷ more) lines (inr h) = subst AreSound (sym h.2) (line_sound h.0 h.3.spelled h.4, lines_sound (n + 1) more h.1 h.5)

-- ---- lines that have these letters

-- the letters of a line without a misspelling, and those after them
record LineParted (line : List ℕ) (ts : List Token) (m : Option Misspelling) (more : List Letter) (n : ℕ) (p r : List Letter) : Type 0 where
  after : List Letter
  parts : p ≡ letters_until line ts End ++ after
  more_is : more ≡ after ++ r
  lines : HasLines n after
  whole : m ≡ None

line_view : (k : TokenKind) (line : List ℕ) (start end : ℕ) (n : ℕ) (p : List Letter) → HasLines (suc n) (letter_of line start end k ∷ p) → HasLines (suc n) p
line_view kinds.Word line start end n p h = h
line_view (kinds.Number v) line start end n p h = h
line_view (kinds.Symbol s) line start end n p h = h

line_parted : (line : List ℕ) (ts : List Token) (m : Option Misspelling) (more : List Letter) (n : ℕ) (p r : List Letter)
    → HasLines (suc n) p → letters_until line ts (last_letter m) ++ more ≡ p ++ r → LineParted line ts m more n p r
line_parted line ts m more n [] r h e = absurd h
line_parted line [] None more n (l ∷ p) r h e =
    let same : End ≡ l = cc in
    record {
      after = p;
      parts = ap (λ (x : Letter). x ∷ p) (sym same);
      more_is = cc;
      lines = subst
          (λ (x : Letter). HasLines (suc n) (x ∷ p)) (sym same) h;
      whole = refl;
    }
line_parted line [] (Some k) more n (l ∷ p) r h e =
    let same : Bad k.code ≡ l = cc in
    absurd (subst (λ (x : Letter). HasLines (suc n) (x ∷ p)) (sym same) h)
line_parted line (t ∷ ts) m more n (l ∷ p) r h e =
    let letter = letter_of line t.start t.end t.kind in
    let same : letter ≡ l = cc in
    let tails : letters_until line ts (last_letter m) ++ more ≡ p ++ r = cc in
    let k = line_parted line ts m more n p r (line_view t.kind line t.start t.end n p (subst (λ (x : Letter). HasLines (suc n) (x ∷ p)) (sym same) h)) tails in
    record {
      after = k.after;
      parts = ap (λ (x : Letter). x ∷ p) (sym same)
          ∙ ap (λ (q : List Letter). letter ∷ q) k.parts;
      more_is = k.more_is;
      lines = k.lines;
      whole = k.whole;
    }

-- n lines, and those after them
pub record FirstLines (n : ℕ) (lines : List LineView) (p r : List Letter) : Type 0 where
  pub prefix : letters_of_lines (take n lines) ≡ p
  pub after : letters_of_lines (drop n lines) ≡ r
  pub long : length (take n lines) ≡ n
  pub whole : AreWhole (take n lines)
  pub sound : AreSound (drop n lines)

-- the letters of n lines are those of the first n, which have no misspelling
pub letters_of_first_lines : (n : ℕ) (lines : List LineView) (p r : List Letter) → HasLines n p → letters_of_lines lines ≡ p ++ r
    → AreSound lines → FirstLines n lines p r
letters_of_first_lines zero [] [] r h e s = record { prefix = refl; after = e; long = refl; whole = tt; sound = tt }
letters_of_first_lines zero (l ∷ lines) [] r h e s = record { prefix = refl; after = e; long = refl; whole = tt; sound = s }
letters_of_first_lines zero lines (x ∷ p) r h e s = absurd h
letters_of_first_lines (suc n) [] [] r h e s = absurd h
letters_of_first_lines (suc n) [] (x ∷ p) r h e s = absurd cc
letters_of_first_lines (suc n) (l ∷ lines) p r h e s =
    let k = line_parted l.text l.tokens l.misspelling (letters_of_lines lines) n p r h e in
    let more = letters_of_first_lines n lines k.after r k.lines k.more_is s.1 in
    record {
      prefix = ap (λ (q : List Letter). line_letters l ++ q) more.prefix
          ∙ ap (λ (m : Option Misspelling). letters_until l.text l.tokens (last_letter m) ++ k.after) k.whole ∙ sym k.parts;
      after = more.after;
      long = ap suc more.long;
      whole = (s.0 k.whole, more.whole);
      sound = more.sound;
    }
