-- The constraint that a `given` line is from some token on, over names.
use Rattle.std.specs.Prelude.{◌≡◌, ℕ, false, List}
use Rattle.it_forms.specs.declared.types.Code.{Code}
use Rattle.it_forms.specs.Forms.{Form}
use Rattle.it_forms.specs.FormTexts.{Says}
use Rattle.it_forms.specs.Words.{to_end}
use Rattle.it_syntax.specs.declared.types.LineTokens.{LineTokens}
use Rattle.it_syntax.specs.NamesViews.{NamesView}
use Rattle.it_syntax.specs.Givens.{GivenView}
use Rattle.it_syntax.specs.Lines.{letters_from, FaultAt}
use Rattle.it_syntax.specs.LineForms.{given}
use Rattle.it_syntax.specs.Scopes.{scope_of}

-- a constraint over names, without rates, up to the line's end
abbrev pub given_line : NamesView → Form GivenView
given_line v = to_end (given (scope_of v false))

-- from its token number `from` on the line is this constraint
abbrev pub IsGiven : NamesView → List ℕ → LineTokens → ℕ → GivenView → Type 0
IsGiven v line ts from y = Says (given_line v) (letters_from line ts from) y

-- a line is at most one constraint from a token on
abbrev pub GivenIsOne : Type 0
GivenIsOne = (v : NamesView) (line : List ℕ) (ts : LineTokens) (from : ℕ) (y z : GivenView) → IsGiven v line ts from y → IsGiven v line ts from z → y ≡ z

-- a line has at most one first fault from a token on, with its column and its code
abbrev pub GivenFaultIsOne : Type 0
GivenFaultIsOne = (v : NamesView) (line : List ℕ) (ts : LineTokens) (from a b : ℕ) (c d : Code) → FaultAt (given_line v) line ts from a c → FaultAt (given_line v) line ts from b d → (a ≡ b) × (c ≡ d)

-- no line both is a constraint and has a first fault, from a token on
abbrev pub GivenOrFault : Type 0
GivenOrFault = (v : NamesView) (line : List ℕ) (ts : LineTokens) (from a : ℕ) (c : Code) (y : GivenView) → IsGiven v line ts from y → FaultAt (given_line v) line ts from a c → ⊥
