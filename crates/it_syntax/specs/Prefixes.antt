-- What stands at the front of a list of bytes.
use Rattle.std.specs.Prelude.{ℕ, ◌≤◌, Bool, ◌==◌, List, [], ◌∷◌, length, take, drop, Option, find}
use Rattle.std.specs.List.{starts_with}
use Rattle.it_forms.specs.declared.types.Symbol.{Symbol}
use Rattle.it_forms.specs.declared.types.Symbol.TheVariants.{LeftParen, RightParen, Comma, Semicolon, Bar, Plus, Minus, Arrow, AtLeast, AtMost, Equal, Assign, Slash}
use Rattle.it_syntax.specs.Spelling.{AreAll, Stops}
use Rattle.it_forms.specs.SymbolTexts.{symbol_text}

-- the first n bytes satisfy f, and the next one doesn't
pub record IsLongestRun (f : ℕ → Bool) (bytes : List ℕ) (n : ℕ) : Type 0 where
  pub within : n ≤ length bytes
  pub all : AreAll f (take n bytes)
  pub stops : Stops f (drop n bytes)

-- the longest symbol at the front of `bytes`
unfoldable pub symbol_of : List ℕ → Option Symbol
symbol_of bytes =
    find (λ s. starts_with ◌==◌ bytes (symbol_text s))
    (Arrow ∷ AtLeast ∷ AtMost ∷ Assign ∷ LeftParen ∷ RightParen ∷ Comma ∷ Semicolon ∷ Bar ∷ Plus ∷ Minus ∷ Equal ∷ Slash ∷ [])
