-- Texts that say what rows and forms say, read by the grammar of question files.
use Rattle.std.specs.Prelude.{◌≡◌, ◌↔◌, ℕ, ℤ, pos, ◌≤ℤ◌, ◌++◌, true, List, length, None, All}
use Rattle.it_space.specs.Rows.{Terms, value}
use Rattle.it_polymatroid.specs.Certificates.{Form}
use Rattle.it_syntax.specs.declared.types.Token.{Token}
use Rattle.it_forms.specs.Letters.{End}
use Rattle.it_forms.specs.FormTexts.{Says}
use Rattle.it_syntax.specs.RelationLines.{relation_line}
use Rattle.it_syntax.specs.Meaning.{RelationView, Holds}
use Rattle.it_syntax.specs.Misspellings.{SpellsUntil}
use Rattle.it_syntax.specs.NamesViews.{NamesView}
use Rattle.it_syntax.specs.Spans.{letters_until}

-- under these names the text is this relation, as what stands after the word of a `row` or `prove` line
pub record IsRelationText (v : NamesView) (text : List ℕ) (r : RelationView) : Type 0 where
  pub tokens : List Token
  pub spelled : SpellsUntil 0 text tokens None
  pub says : Says (relation_line v true) (letters_until text tokens End) r

-- the relation of n variables holds exactly where the row is at least 0, of the maps that are 0 at the empty set
abbrev pub SaysRow : ℕ → RelationView → Terms → Type 0
SaysRow n r row = (p : ℕ → ℤ) → p 0 ≡ pos 0 → Holds n p r ↔ (pos 0 ≤ℤ value row p)

-- under these names the text is a relation that says what the row says
pub record TellsRow (v : NamesView) (row : Terms) (text : List ℕ) : Type 0 where
  pub relation : RelationView
  pub is : IsRelationText v text relation
  pub same : SaysRow (length v.variables) relation row

-- the relation of n variables holds exactly where each of these forms is at least 0, of the maps that are 0 at the empty set
abbrev pub SaysForms : ℕ → RelationView → List Form → Type 0
SaysForms n r forms = (p : ℕ → ℤ) → p 0 ≡ pos 0 → Holds n p r ↔ All (λ f. pos 0 ≤ℤ f p) forms

-- under these names the text is a relation that says these forms to be at least 0
pub record TellsForms (v : NamesView) (forms : List Form) (text : List ℕ) : Type 0 where
  pub relation : RelationView
  pub is : IsRelationText v text relation
  pub same : SaysForms (length v.variables) relation forms

-- after `prefix` the line goes on with this text up to its end, and from there on it is this relation
pub record Follows (v : NamesView) (prefix text : List ℕ) (r : RelationView) : Type 0 where
  pub tokens : List Token
  pub spelled : SpellsUntil (length prefix) text tokens None
  pub says : Says (relation_line v true) (letters_until (prefix ++ text) tokens End) r

-- A text that is a relation is the same one after whatever stands before it in a line, as `row ` or `prove `.
abbrev pub TextsMove : Type 0
TextsMove = (v : NamesView) (prefix text : List ℕ) (r : RelationView) → IsRelationText v text r → Follows v prefix text r
