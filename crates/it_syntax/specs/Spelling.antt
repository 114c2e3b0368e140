-- The tokens of a line: words, numbers and symbols with spaces between them, each token as long as it can be.
use Rattle.std.specs.Prelude.{◌≡◌, ℕ, ◌+◌, ◌^◌, ◌<◌, ◌≤◌, Bool, true, false, ◌||◌, ◌==◌, List, [], ◌∷◌, ◌++◌, length, Some}
use Rattle.std.specs.List.{AllByRecursion}
use Rattle.std.specs.Char.{is_ascii_alphabetic, is_ascii_digit}
use Rattle.it_number.specs.Decimals.{value_from}
use Rattle.it_forms.specs.declared.types.Symbol.TheVariants.{Minus}
use Rattle.it_syntax.specs.declared.types.TokenKind.{TokenKind}
use Rattle.it_syntax.specs.declared.types.TokenKind.TheVariants as kinds
use Rattle.it_syntax.specs.declared.types.Token.{Token}
use Rattle.it_forms.specs.SymbolTexts.{symbol_text}

-- ---- bytes, by their ASCII codes

-- a letter, a digit or `_`
unfoldable pub is_word_byte : ℕ → Bool
is_word_byte b = is_ascii_alphabetic b || (is_ascii_digit b || b == 95)

-- what may stand between tokens
abbrev pub is_space : ℕ → Bool
is_space b = b == 32

-- f holds of each byte
abbrev pub AreAll : (ℕ → Bool) → List ℕ → Type 0
AreAll f bytes = AllByRecursion (λ b. f b ≡ true) bytes

-- f holds of the first byte, and there is one
abbrev pub StartsWith : (ℕ → Bool) → List ℕ → Type 0
StartsWith f [] = ⊥
StartsWith f (b ∷ bs) = f b ≡ true

-- f doesn't hold of the first byte, or there is none
abbrev pub Stops : (ℕ → Bool) → List ℕ → Type 0
Stops f [] = Unit {0}
Stops f (b ∷ bs) = f b ≡ false

-- ---- tokens

-- The text of a token of this kind: a word has a letter first and at most 16 bytes, a number is below 2 ^ 64.
abbrev pub IsText : TokenKind → List ℕ → Type 0
IsText kinds.Word text = StartsWith is_ascii_alphabetic text × AreAll is_word_byte text × (length text ≤ 16)
IsText (kinds.Number n) text = StartsWith is_ascii_digit text × (value_from 0 text ≡ Some n) × (n < 2 ^ 64)
IsText (kinds.Symbol s) text = text ≡ symbol_text s

-- What follows doesn't go on the token: it is as long as it can be.
abbrev pub EndsToken : TokenKind → List ℕ → Type 0
EndsToken kinds.Word rest = Stops is_word_byte rest
EndsToken (kinds.Number n) rest = Stops is_ascii_digit rest
EndsToken (kinds.Symbol Minus) rest = Stops (λ b. 62 == b) rest
EndsToken (kinds.Symbol s) rest = Unit {0}

-- After spaces, token t is cut off the bytes from column `at` on, and `rest` is after it.
pub record Cut (at : ℕ) (bytes : List ℕ) (t : Token) (rest : List ℕ) : Type 0 where
  pub gap : List ℕ
  pub text : List ℕ
  pub whole : bytes ≡ gap ++ (text ++ rest)
  pub blank : AreAll is_space gap
  pub spelled : IsText t.kind text
  pub ends : EndsToken t.kind rest
  pub start : t.start ≡ at + length gap
  pub end : t.end ≡ t.start + length text
