-- The letters of a line from a token on, and its first fault in a form, with the column.
use Rattle.std.specs.Option.{option_map_or}
use Rattle.std.specs.Prelude.{◌≡◌, ℕ, ◌+◌, ◌-◌, ◌≤◌, List, [], ◌∷◌, length, drop, Option, Some, None, slice_get}
use Rattle.it_syntax.specs.declared.types.Token.{Token}
use Rattle.it_forms.specs.declared.types.Code.{Code}
use Rattle.it_syntax.specs.declared.types.Misspelling.{Misspelling}
use Rattle.it_syntax.specs.declared.types.LineTokens.{LineTokens}
use Rattle.it_syntax.specs.declared.types.SyntaxFault.{SyntaxFault}
use Rattle.it_syntax.specs.declared.types.SyntaxFault.TheVariants.{Memory, Fault}
use Rattle.it_forms.specs.Letters.{Letter}
use Rattle.it_forms.specs.FirstFault.{FirstFault}
use Rattle.it_syntax.specs.Spans.{letters_until, last_letter}
use Rattle.it_forms.specs.Forms.{Form}
use Rattle.it_forms.specs.FormTexts.{spelling}

-- the most bytes of a text of lines: those of a file, and an end for a last line that has none
abbrev pub most_text_bytes : ℕ
most_text_bytes = 1048577

-- the letters of a line from its token number `from` on
abbrev pub letters_from : List ℕ → LineTokens → ℕ → List Letter
letters_from line ts from = letters_until line (drop from ts.tokens.items) (last_letter ts.misspelling)

-- the column of what stands after the tokens: the misspelling's, or the one after the last token
abbrev pub column_after : List Token → Option Misspelling → ℕ
column_after ts None = option_map_or (λ (t : Token). t.end) (slice_get ts (length ts - 1)) 0 + 1
column_after ts (Some m) = m.column

-- the column of the first of these tokens, counted from 1, or where there is none the column `after`
abbrev pub column_of : List Token → ℕ → ℕ
column_of [] after = after
column_of (t ∷ ts) after = t.start + 1

-- the column of token number `at`, or where there is none of what stands after the tokens
abbrev pub column_at : ℕ → List Token → Option Misspelling → ℕ
column_at at ts m = column_of (drop at ts) (column_after ts m)

-- Of a line from its token number `from` on, the first fault in this form is `code`, at this column.
pub record FaultAt {A : Type 0} (f : Form A) (line : List ℕ) (ts : LineTokens) (from : ℕ) (column : ℕ) (code : Code) : Type 0 where
  -- the number of the token that it comes at, or the number of tokens
  pub at : ℕ
  pub within : at ≤ length ts.tokens.items
  pub first : FirstFault (spelling f) (letters_from line ts from) code (letters_from line ts at)
  pub place : column ≡ column_at at ts.tokens.items ts.misspelling

-- of an error: memory ran out, or it is the first fault
abbrev pub IsFirstFault : {A : Type 0} → Form A → List ℕ → LineTokens → ℕ → SyntaxFault → Type 0
IsFirstFault f line ts from Memory = Unit {0}
IsFirstFault f line ts from (Fault column code) = FaultAt f line ts from column code
