-- A linear code as it is told: for each variable its linear functions of the message's symbols m1, m2, and so on.
use Rattle.std.specs.Prelude.{ℕ, ◌+◌, ◌==◌, not, List, [], ◌∷◌, ◌++◌, map, false, if◌then◌else◌, codes, decimal, slice_index_or}
use Rattle.it_codes.specs.Codes.{size}
use Rattle.it_certificate.specs.CodeReading.{ReportedCodeView}
use Rattle.it_print.specs.Lines.{joined_texts, or_zero}

-- symbol `i` with its coefficient, which is left out where it is 1
unfoldable pub symbol_text : ℕ → ℕ → List ℕ
symbol_text i c = (if c == 1 then [] else decimal c ++ codes " ") ++ codes "m" ++ decimal i

-- the texts of symbol `i` and the later ones, of those whose coefficient isn't 0
abbrev pub symbol_texts : ℕ → List ℕ → List (List ℕ)
symbol_texts i [] = []
symbol_texts i (c ∷ cs) = (if not (c == 0) then symbol_text i c ∷ [] else []) ++ symbol_texts (i + 1) cs

-- a function: the sum of its symbols' texts, or `0`
unfoldable pub function_text : List ℕ → List ℕ
function_text cs = joined_texts (codes " + ") false (or_zero (symbol_texts 1 cs))

-- a variable: its name, and its functions
unfoldable pub variable_text : List ℕ → List (List ℕ) → List ℕ
variable_text name functions = name ++ codes " = (" ++ joined_texts (codes ", ") false (map function_text functions) ++ codes ")"

-- the texts of variable `i` and the later ones
abbrev pub variable_texts : List (List ℕ) → ℕ → List (List (List ℕ)) → List (List ℕ)
variable_texts names i [] = []
variable_texts names i (functions ∷ rest) = variable_text (slice_index_or names i []) functions ∷ variable_texts names (i + 1) rest

-- by which factor the point is the code's entropies, nothing where that is 1
abbrev pub times_text : ℕ → List ℕ
times_text times = if times == 1 then [] else codes "; the point is " ++ decimal times ++ codes " times its entropies"

-- the text of a code of the variables with these names
unfoldable pub code_text : List (List ℕ) → ReportedCodeView → List ℕ
code_text names c =
    codes "code over GF(" ++ decimal (size c.code.field) ++ codes "): " ++ joined_texts (codes ", ") false (variable_texts names 0 c.code.variables) ++ times_text c.times
