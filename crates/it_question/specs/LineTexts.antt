-- The text of lines: each without blanks at both ends and with a line feed after it.
use Rattle.std.specs.Prelude.{ℕ, ◌==◌, List, [], ◌∷◌, ◌++◌, if◌then◌else◌}

-- bytes without the spaces in front
abbrev pub without_leading : List ℕ → List ℕ
without_leading [] = []
without_leading (b ∷ bytes) = if b == 32 then without_leading bytes else b ∷ bytes

-- a byte and those after it, or nothing if it is the last one and a space
abbrev pub unless_blank : ℕ → List ℕ → List ℕ
unless_blank b [] = if b == 32 then [] else b ∷ []
unless_blank b (c ∷ bytes) = b ∷ c ∷ bytes

-- bytes without the spaces at their end
abbrev pub without_trailing : List ℕ → List ℕ
without_trailing [] = []
without_trailing (b ∷ bytes) = unless_blank b (without_trailing bytes)

-- the text of lines, each without spaces at both ends and with a line feed after it
abbrev pub text_of_lines : List (List ℕ) → List ℕ
text_of_lines [] = []
text_of_lines (line ∷ lines) = without_trailing (without_leading line) ++ 10 ∷ text_of_lines lines
