-- The tokens of a line up to its first misspelling: a byte that begins no token, a word of more than 16 bytes, or a number of more
-- than 2 ^ 64 - 1.
use Rattle.std.specs.Prelude.{◌≡◌, ℕ, ◌+◌, ◌^◌, ◌<◌, ◌≤◌, false, List, [], ◌∷◌, ◌++◌, length, take, Option, Some, None, IsSomeAnd}
use Rattle.it_number.specs.Decimals.{value_from}
use Rattle.it_forms.specs.declared.types.Code.{Code}
use Rattle.it_forms.specs.declared.types.Code.TheVariants as codes
use Rattle.it_syntax.specs.declared.types.Misspelling.{Misspelling}
use Rattle.it_syntax.specs.declared.types.Token.{Token}
use Rattle.it_syntax.specs.declared.types.SyntaxFault.{SyntaxFault}
use Rattle.it_syntax.specs.declared.types.SyntaxFault.TheVariants.{Memory, Fault}
use Rattle.it_syntax.specs.Prefixes.{IsLongestRun, symbol_of}
use Rattle.std.specs.Char.{is_ascii_alphabetic, is_ascii_digit}
use Rattle.it_syntax.specs.Spelling.{is_word_byte, is_space, AreAll, StartsWith, Cut}

-- the first byte begins no token and is no space
abbrev pub BeginsNothing : List ℕ → Type 0
BeginsNothing [] = ⊥
BeginsNothing (b ∷ bs) = (is_ascii_alphabetic b ≡ false) × (is_ascii_digit b ≡ false) × (is_space b ≡ false) × (symbol_of (b ∷ bs) ≡ None)

-- what stands at the front of `body` is wrong by this code
abbrev pub IsWrong : Code → List ℕ → Type 0
IsWrong codes.Byte body = BeginsNothing body
IsWrong codes.Many body = StartsWith is_ascii_alphabetic body × ((n : ℕ) × (IsLongestRun is_word_byte body n × (16 < n)))
IsWrong codes.Number body = StartsWith is_ascii_digit body × ((n : ℕ) × (IsLongestRun is_ascii_digit body n × IsSomeAnd (value_from 0 (take n body)) (λ v. 2 ^ 64 ≤ v)))
IsWrong c body = ⊥

-- After spaces, a misspelling stands in the bytes from column `at` on.
pub record IsMisspellingAt (at : ℕ) (bytes : List ℕ) (m : Misspelling) : Type 0 where
  pub gap : List ℕ
  pub body : List ℕ
  pub whole : bytes ≡ gap ++ body
  pub blank : AreAll is_space gap
  pub wrong : IsWrong m.code body
  pub column : m.column ≡ at + length gap + 1

-- The bytes from column `at` on are these tokens, and then spaces alone or a misspelling.
abbrev pub SpellsUntil : ℕ → List ℕ → List Token → Option Misspelling → Type 0
SpellsUntil at bytes [] None = AreAll is_space bytes
SpellsUntil at bytes [] (Some m) = IsMisspellingAt at bytes m
SpellsUntil at bytes (t ∷ ts) m = (rest : List ℕ) × Cut at bytes t rest × SpellsUntil t.end rest ts m

-- a line is one list of tokens with at most one misspelling
abbrev pub LineTokensAreOne : Type 0
LineTokensAreOne = (line : List ℕ) (ts us : List Token) (m k : Option Misspelling) → SpellsUntil 0 line ts m → SpellsUntil 0 line us k → (ts ≡ us) × (m ≡ k)

-- of an error: memory ran out, or the line's first misspelling is this one
abbrev pub IsMisspelled : List ℕ → SyntaxFault → Type 0
IsMisspelled line Memory = Unit {0}
IsMisspelled line (Fault column code) = (ts : List Token) × SpellsUntil 0 line ts (Some (record { column = column; code = code }))
