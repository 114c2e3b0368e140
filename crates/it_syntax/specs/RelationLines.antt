-- A line that is a relation from some token on, over names.
use Rattle.std.specs.Prelude.{◌≡◌, ℕ, Bool, List}
use Rattle.it_forms.specs.declared.types.Code.{Code}
use Rattle.it_forms.specs.Forms.{Form}
use Rattle.it_forms.specs.FormTexts.{Says}
use Rattle.it_forms.specs.Words.{to_end}
use Rattle.it_syntax.specs.declared.types.LineTokens.{LineTokens}
use Rattle.it_syntax.specs.NamesViews.{NamesView}
use Rattle.it_syntax.specs.Meaning.{RelationView}
use Rattle.it_syntax.specs.Lines.{letters_from, FaultAt}
use Rattle.it_syntax.specs.LineForms.{relation}
use Rattle.it_syntax.specs.Scopes.{scope_of}

-- a relation over names, with rates or without them, up to the line's end
abbrev pub relation_line : NamesView → Bool → Form RelationView
relation_line v rates = to_end (relation (scope_of v rates))

-- from its token number `from` on the line is this relation
abbrev pub IsRelation : NamesView → Bool → List ℕ → LineTokens → ℕ → RelationView → Type 0
IsRelation v rates line ts from y = Says (relation_line v rates) (letters_from line ts from) y

-- a line is at most one relation from a token on
abbrev pub RelationIsOne : Type 0
RelationIsOne = (v : NamesView) (rates : Bool) (line : List ℕ) (ts : LineTokens) (from : ℕ) (y z : RelationView) → IsRelation v rates line ts from y → IsRelation v rates line ts from z → y ≡ z

-- a line has at most one first fault from a token on, with its column and its code
abbrev pub RelationFaultIsOne : Type 0
RelationFaultIsOne = (v : NamesView) (rates : Bool) (line : List ℕ) (ts : LineTokens) (from a b : ℕ) (c d : Code) → FaultAt (relation_line v rates) line ts from a c → FaultAt (relation_line v rates) line ts from b d → (a ≡ b) × (c ≡ d)

-- no line both is a relation and has a first fault, from a token on
abbrev pub RelationOrFault : Type 0
RelationOrFault = (v : NamesView) (rates : Bool) (line : List ℕ) (ts : LineTokens) (from a : ℕ) (c : Code) (y : RelationView) → IsRelation v rates line ts from y → FaultAt (relation_line v rates) line ts from a c → ⊥
