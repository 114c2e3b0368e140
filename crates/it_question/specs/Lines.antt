-- The lines of a file, and its letters: the tokens of its lines with each line's end, and then the file's end. A line ends with a
-- line feed; a last piece without one is a line if it has a byte. A carriage return directly before the line feed or the file's
-- end counts for nothing, `#` begins a comment up to the line's end, and a tab is read as a space. A line without tokens is
-- passed over.
use Rattle.std.specs.Prelude.{◌≡◌, ℕ, ◌+◌, ◌==◌, List, [], ◌∷◌, ◌++◌, map, flat_map, Option, Some, None, if◌then◌else◌, ◌⊎◌}
use Rattle.it_syntax.specs.declared.types.Token.{Token}
use Rattle.it_syntax.specs.declared.types.Misspelling.{Misspelling}
use Rattle.it_forms.specs.Letters.{Letter, Bad}
use Rattle.it_syntax.specs.Spans.{letters_until, last_letter}
use Rattle.it_syntax.specs.Misspellings.{SpellsUntil}
use Rattle.it_syntax.specs.Lines.{column_after}
use Rattle.it_forms.specs.declared.types.Code.TheVariants as codes

-- the lines with the byte b put in front of the first one
abbrev pub in_front : ℕ → List (List ℕ) → List (List ℕ)
in_front b [] = (b ∷ []) ∷ []
in_front b (line ∷ lines) = (b ∷ line) ∷ lines

-- the lines of a file, without their line feeds
abbrev pub split_lines : List ℕ → List (List ℕ)
split_lines [] = []
split_lines (b ∷ bytes) = if b == 10 then [] ∷ split_lines bytes else in_front b (split_lines bytes)

-- a line without a carriage return at its end
abbrev pub without_return : List ℕ → List ℕ
without_return [] = []
without_return (b ∷ []) = if b == 13 then [] else b ∷ []
without_return (b ∷ c ∷ bytes) = b ∷ without_return (c ∷ bytes)

-- a line up to its first `#`
abbrev pub before_comment : List ℕ → List ℕ
before_comment [] = []
before_comment (b ∷ bytes) = if b == 35 then [] else b ∷ before_comment bytes

-- b, but a space for a tab
abbrev pub without_tab : ℕ → ℕ
without_tab b = if b == 9 then 32 else b

-- what is read of a line; its bytes keep their places
abbrev pub plain_text : List ℕ → List ℕ
plain_text line = map without_tab (before_comment (without_return line))

-- a line by its number, counted from 1, with its tokens up to the first misspelling, if it has one
pub record LineView : Type 0 where
  pub number : ℕ
  pub text : List ℕ
  pub tokens : List Token
  pub misspelling : Option Misspelling

-- After the last line stands the file's end, as a line of its own: a letter that no rule goes on at.
abbrev pub file_end : Letter
file_end = Bad codes.Unfinished

-- the line after the last one, whose only letter is the file's end
abbrev pub end_line : ℕ → LineView
end_line n = record { number = n; text = []; tokens = []; misspelling = Some (record { column = 1; code = codes.Unfinished }) }

-- a line with these tokens and this misspelling has a token or a misspelling
abbrev pub IsFilled : List Token → Option Misspelling → Type 0
IsFilled [] None = ⊥
IsFilled ts m = Unit {0}

-- l is the line of these bytes, with the number n
pub record IsLine (n : ℕ) (bytes : List ℕ) (l : LineView) : Type 0 where
  pub number : l.number ≡ n
  pub text : l.text ≡ plain_text bytes
  pub spelled : SpellsUntil 0 l.text l.tokens l.misspelling

-- The lines from number n on that have tokens, and the file's end.
abbrev pub AreLines : ℕ → List (List ℕ) → List LineView → Type 0
AreLines n [] lines = lines ≡ end_line n ∷ []
AreLines n (bytes ∷ more) lines =
    (SpellsUntil 0 (plain_text bytes) [] None × AreLines (n + 1) more lines)
    ⊎ ((l : LineView) × (rest : List LineView) × (lines ≡ l ∷ rest) × IsLine n bytes l × IsFilled l.tokens l.misspelling × AreLines (n + 1) more rest)

-- these are the lines of a file that have tokens, and its end
abbrev pub AreLinesOf : List ℕ → List LineView → Type 0
AreLinesOf bytes lines = AreLines 1 (split_lines bytes) lines

-- the letters of a line
abbrev pub line_letters : LineView → List Letter
line_letters l = letters_until l.text l.tokens (last_letter l.misspelling)

-- the letters of lines, one line after the other
abbrev pub letters_of_lines : List LineView → List Letter
letters_of_lines ls = flat_map line_letters ls

-- where each letter stands: its line, and its column counted from 1
abbrev pub line_places : LineView → List (ℕ × ℕ)
line_places l = map (λ (t : Token). (l.number, t.start + 1)) l.tokens ++ ((l.number, column_after l.tokens l.misspelling) ∷ [])
