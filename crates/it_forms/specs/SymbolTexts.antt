-- How symbols are written.
use Rattle.std.specs.Prelude.{ℕ, List, codes}
use Rattle.it_forms.specs.declared.types.Symbol.{Symbol}
use Rattle.it_forms.specs.declared.types.Symbol.TheVariants.{LeftParen, RightParen, Comma, Semicolon, Bar, Plus, Minus, Arrow, AtLeast, AtMost, Equal, Assign, Slash}

-- how a symbol is written
abbrev pub symbol_text : Symbol → List ℕ
symbol_text LeftParen = codes "("
symbol_text RightParen = codes ")"
symbol_text Comma = codes ","
symbol_text Semicolon = codes ";"
symbol_text Bar = codes "|"
symbol_text Plus = codes "+"
symbol_text Minus = codes "-"
symbol_text Arrow = codes "->"
symbol_text AtLeast = codes ">="
symbol_text AtMost = codes "<="
symbol_text Equal = codes "="
symbol_text Assign = codes ":="
symbol_text Slash = codes "/"
