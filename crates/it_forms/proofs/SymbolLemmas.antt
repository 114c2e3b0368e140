-- Symbols are told apart by their texts, and 0 from other numbers.
use Rattle.std.proofs.Common.{◌≡◌, ℕ, zero, suc, true, false, refl}
use Rattle.std.specs.Prelude.{bytes_eq}
use Rattle.it_forms.specs.declared.types.Symbol.{Symbol}
use Rattle.it_forms.specs.declared.types.Symbol.TheVariants.{LeftParen, RightParen, Comma, Semicolon, Bar, Plus, Minus, Arrow, AtLeast, AtMost, Equal, Assign, Slash}
use Rattle.it_forms.specs.SymbolTexts.{symbol_text}
use Rattle.it_forms.specs.Letters.{Number}
use Rattle.it_forms.specs.Forms.{Zero, is_of}

pub same_symbol : (s : Symbol) → bytes_eq (symbol_text s) (symbol_text s) ≡ true
same_symbol LeftParen = refl
same_symbol RightParen = refl
same_symbol Comma = refl
same_symbol Semicolon = refl
same_symbol Bar = refl
same_symbol Plus = refl
same_symbol Minus = refl
same_symbol Arrow = refl
same_symbol AtLeast = refl
same_symbol AtMost = refl
same_symbol Equal = refl
same_symbol Assign = refl
same_symbol Slash = refl

pub other_symbol : (x s : Symbol) → ¬ (x ≡ s) → bytes_eq (symbol_text x) (symbol_text s) ≡ false
other_symbol LeftParen LeftParen h = absurd (h refl)
other_symbol RightParen RightParen h = absurd (h refl)
other_symbol Comma Comma h = absurd (h refl)
other_symbol Semicolon Semicolon h = absurd (h refl)
other_symbol Bar Bar h = absurd (h refl)
other_symbol Plus Plus h = absurd (h refl)
other_symbol Minus Minus h = absurd (h refl)
other_symbol Arrow Arrow h = absurd (h refl)
other_symbol AtLeast AtLeast h = absurd (h refl)
other_symbol AtMost AtMost h = absurd (h refl)
other_symbol Equal Equal h = absurd (h refl)
other_symbol Assign Assign h = absurd (h refl)
other_symbol Slash Slash h = absurd (h refl)
other_symbol x s h = refl

pub not_zero : (n : ℕ) → ¬ (n ≡ 0) → is_of Zero (Number n) ≡ false
not_zero zero h = absurd (h refl)
not_zero (suc n) h = refl
