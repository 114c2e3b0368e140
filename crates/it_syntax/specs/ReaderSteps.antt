-- What the contracts of the readers' own functions say of their steps. No public clause cites it.
use Rattle.std.specs.Prelude.{◌≡◌, ◌≤◌, ◌<◌, ℕ, zero, suc, ◌-◌, ◌^◌, Bool, List, [], ◌∷◌, length, take, drop, Option, Some, None}
use Rattle.std.specs.Char.{is_ascii_alphabetic, is_ascii_digit}
use Rattle.it_number.specs.Decimals.{value_from}
use Rattle.it_number.specs.Gcd.{lcm}
use Rattle.it_forms.specs.Letters.{Letter, Word, Number, Sym, End, Bad}
use Rattle.it_forms.specs.SymbolTexts.{symbol_text}
use Rattle.it_forms.specs.declared.types.Symbol.TheVariants.{Minus}
use Rattle.it_forms.specs.Forms.{Punctuation, is_of, Terminal, Form, Take, Then}
use Rattle.it_forms.specs.FormReading.{read, after}
use Rattle.it_syntax.specs.Gives.{letters_left, StopsAs}
use Rattle.it_syntax.specs.declared.atoms.TermNames.{TermNames}
use Rattle.it_syntax.specs.declared.rest.Rest.{Rest}
use Rattle.it_syntax.specs.declared.rest.Stop.{Stop}
use Rattle.it_syntax.specs.declared.rest.Piece.{Piece}
use Rattle.it_syntax.specs.declared.rest.Piece.TheVariants as pieces
use Rattle.it_syntax.specs.declared.types.Atom.{Atom}
use Rattle.it_syntax.specs.declared.types.Term.{Term}
use Rattle.it_syntax.specs.declared.types.Token.{Token}
use Rattle.it_syntax.specs.declared.types.TokenKind.{TokenKind}
use Rattle.it_syntax.specs.declared.types.TokenKind.TheVariants as kinds
use Rattle.it_syntax.specs.Prefixes.{IsLongestRun, symbol_of}
use Rattle.it_syntax.specs.LineForms.{signs, denominator, counted, atom, atom_or_nothing, over_or, more_terms}
use Rattle.it_syntax.specs.Scopes.{Scope, scope_of}
use Rattle.it_syntax.specs.Spelling.{is_word_byte, StartsWith}

-- a piece and the letters after it; after the line's end and after a misspelling there are none
abbrev pub with_front : Piece → List Letter → List Letter
with_front (pieces.Word w) ls = Word w.now ∷ ls
with_front (pieces.Number n) ls = Number n ∷ ls
with_front (pieces.Symbol s) ls = Sym s ∷ ls
with_front pieces.End ls = End ∷ []
with_front (pieces.Bad c) ls = Bad c ∷ []

-- a piece that is a word has 1 to 16 bytes
abbrev pub HasLength : Piece → Type 0
HasLength (pieces.Word w) = (1 ≤ length w.now) × (length w.now ≤ 16)
HasLength p = Unit {0}

-- a token of this kind, of n bytes, stands at the front of `body`, as long as it can be
abbrev pub IsTokenPrefix : TokenKind → ℕ → List ℕ → Type 0
IsTokenPrefix kinds.Word n body = StartsWith is_ascii_alphabetic body × IsLongestRun is_word_byte body n × (n ≤ 16)
IsTokenPrefix (kinds.Number v) n body = StartsWith is_ascii_digit body × IsLongestRun is_ascii_digit body n × (value_from 0 (take n body) ≡ Some v) × (v < 2 ^ 64)
IsTokenPrefix (kinds.Symbol s) n body = (symbol_of body ≡ Some s) × (n ≡ length (symbol_text s))

-- the bytes that a token takes
abbrev pub token_text : List ℕ → Token → List ℕ
token_text line t = take (t.end - t.start) (drop t.start line)

-- `+` or `-`, and whether it is `-`
abbrev pub sign : Terminal Bool
sign = record { kinds = signs; says = λ l. (None, is_of (Punctuation Minus) l) }

-- the letter of t was taken if it stands there, else nothing was taken
abbrev pub MayTake : {A : Type 0} → Terminal A → Option A → Rest → Rest → Type 0
MayTake t None before rest = (after t (letters_left before) ≡ None) × (letters_left rest ≡ letters_left before)
MayTake t (Some a) before rest = after t (letters_left before) ≡ Some ((None, a), letters_left rest)

-- f reads nothing: its reading stops at the first letter of `rest`, and the code's reader as it does
abbrev pub StopsAtOnce : {A : Type 0} → Stop → Form A → Rest → Type 0
StopsAtOnce stop f rest = StopsAs stop (letters_left rest) (read f (letters_left rest))

-- what may stand after a number: an atom, or nothing after 0
abbrev pub counted_by : ℕ → Scope → Form Atom
counted_by zero s = atom_or_nothing s
counted_by (suc n) s = atom s

-- the names that a term may have, as the grammar takes them
abbrev pub known_scope : TermNames → Scope
known_scope known = scope_of known.names.now known.rates

-- a denominator d and an atom: n / d times the atom, negative if `minus`
abbrev pub over : ℕ → Scope → Bool → ℕ → Form Term
over m s minus n = Then (Take (denominator m)) (λ d. counted minus n d (atom s))

-- what stands after a number
abbrev pub after_number : ℕ → Scope → Bool → ℕ → Form Term
after_number m s minus n = over_or m s minus n (counted_by n s)

-- further terms of a sum, after its first term t
abbrev pub after_first : ℕ → ℕ → Scope → Term → Form (List Term)
after_first most m s t = more_terms most m s (t ∷ [])

-- P holds of each m with which the denominator of t has the least common multiple `multiple`
abbrev pub EachBefore : ℕ → Term → (ℕ → Type 0) → Type 0
EachBefore multiple t P = (m : ℕ) → multiple ≡ lcm m t.denominator → P m
