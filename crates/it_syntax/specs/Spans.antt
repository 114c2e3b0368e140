-- The letters of a line's tokens, by the bytes that each token takes.
use Rattle.std.proofs.Props.{props}
use Rattle.std.specs.Prelude.{ℕ, ◌-◌, ◌≤◌, List, [], ◌∷◌, length, take, drop, Option, Some, None}
use Rattle.it_syntax.specs.declared.types.Token.{Token}
use Rattle.it_syntax.specs.declared.types.TokenKind.{TokenKind}
use Rattle.it_syntax.specs.declared.types.Misspelling.{Misspelling}
use Rattle.it_forms.specs.Letters.{Letter, Word, Number, Sym, End, Bad}
use Rattle.it_syntax.specs.declared.types.TokenKind.TheVariants as kinds

-- the letter of a token, which takes the bytes from `start` up to `end`
abbrev pub letter_of : List ℕ → ℕ → ℕ → TokenKind → Letter
letter_of line start end kinds.Word = Word (take (end - start) (drop start line))
letter_of line start end (kinds.Number n) = Number n
letter_of line start end (kinds.Symbol s) = Sym s

-- the letters of the tokens, and then `last`
abbrev pub letters_until : List ℕ → List Token → Letter → List Letter
letters_until line [] last = last ∷ []
letters_until line (t ∷ ts) last = letter_of line t.start t.end t.kind ∷ letters_until line ts last

-- what stands after the tokens
abbrev pub last_letter : Option Misspelling → Letter
last_letter None = End
last_letter (Some m) = Bad m.code

-- a token of this kind may have n bytes: a word has 1 to 16
abbrev pub IsLength : TokenKind → ℕ → Type 0
IsLength kinds.Word n = (1 ≤ n) × (n ≤ 16)
IsLength (kinds.Number v) n = Unit {0}
IsLength (kinds.Symbol s) n = Unit {0}

-- `IsLength k n` is a proposition
pub IsLength-prop : (k : TokenKind) (n : ℕ) → IsProp (IsLength k n)
IsLength-prop kinds.Word n = hlevel props
IsLength-prop (kinds.Number v) n = hlevel
IsLength-prop (kinds.Symbol s) n = hlevel

-- each token takes bytes of the line, a word 1 to 16 of them
abbrev pub InLine : List ℕ → List Token → Type 0
InLine line [] = Unit {0}
InLine line (t ∷ ts) = ((t.start ≤ t.end) × (t.end ≤ length line)) × IsLength t.kind (t.end - t.start) × InLine line ts

-- `InLine line ts` is a proposition
pub InLine-prop : (line : List ℕ) (ts : List Token) → IsProp (InLine line ts)
InLine-prop line [] = hlevel
InLine-prop line (t ∷ ts) = hlevel (props, IsLength-prop t.kind (t.end - t.start), InLine-prop line ts)
