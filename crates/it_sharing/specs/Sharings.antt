-- What a sharing file says, as contracts compare it, and the question that is made of it.
use Rattle.std.specs.Prelude.{◌≡◌, ℕ, ◌+◌, ◌<◌, ◌≤◌, Bool, true, false, List, [], ◌∷◌, ◌++◌, length, map, All}
use Rattle.it_syntax.specs.declared.types.Atom.{Atom}
use Rattle.it_syntax.specs.declared.types.Atom.TheVariants.{Nothing, Entropy, Mutual}
use Rattle.it_syntax.specs.declared.types.Sign.TheVariants.{AtLeast, Equal}
use Rattle.it_syntax.specs.NamesViews.{NamesView}
use Rattle.it_syntax.specs.Meaning.{RelationView}
use Rattle.it_syntax.specs.Givens.{GivenView, Relation, IsRelationOf}
use Rattle.it_question.specs.Questions.{Prove, QuestionView}
use Rattle.it_space.specs.Spaces.{most_variables}
use Rattle.it_sharing.specs.Parties.{most_qualified}
use Rattle.it_sharing.specs.AccessStructures.{secret, IsPartySet, minimal_sets, maximal_sets}

-- what a sharing file says: the names, the listed sets in order, whether the least factor is asked for, and the relation
pub record SharingView : Type 0 where
  pub names : NamesView
  pub qualified : List ℕ
  pub best : Bool
  pub relation : RelationView

-- within the limits of any file: a party or more beside the secret, no more variables than a space has, no rates, 1 to 64 listed sets,
-- each a nonempty one of parties, and a relation of the variables
pub record IsSharing (x : SharingView) : Type 0 where
  pub some : 2 ≤ length x.names.variables
  pub few : length x.names.variables ≤ most_variables
  pub no_rates : x.names.rates ≡ []
  pub some_listed : 1 ≤ length x.qualified
  pub few_listed : length x.qualified ≤ most_qualified
  pub nonempty : All (λ s. 0 < s) x.qualified
  pub parties : All (IsPartySet (length x.names.variables)) x.qualified
  pub relation : IsRelationOf (length x.names.variables) 0 x.relation

-- the least factor is asked for of a relation with `>=`
abbrev pub IsBoundWhereBest : SharingView → Type 0
IsBoundWhereBest x = x.best ≡ true → x.relation.sign ≡ AtLeast

-- the relation that the atom is 0
abbrev pub vanishing_relation : Atom → RelationView
vanishing_relation atom = record { left = record { negative = false; number = 1; denominator = 1; atom = atom } ∷ []; sign = Equal; right = record { negative = false; number = 0; denominator = 1; atom = Nothing } ∷ [] }

-- the given that the atom is 0
abbrev pub vanishing : Atom → GivenView
vanishing atom = Relation (vanishing_relation atom)

-- `H(s|A) = 0`: the parties of A know the secret
abbrev pub knows : ℕ → GivenView
knows a = vanishing (Entropy secret a)

-- `I(s;B) = 0`: the parties of B know nothing of it
abbrev pub knows_nothing : ℕ → GivenView
knows_nothing b = vanishing (Mutual secret b 0)

-- the parties of each minimal set know the secret, and those of each maximal unqualified set nothing of it
unfoldable pub made_givens : ℕ → List ℕ → List GivenView
made_givens n listed = map knows (minimal_sets listed) ++ map knows_nothing (maximal_sets n listed)

-- the number of minimal qualified sets
abbrev pub minimal_count : SharingView → ℕ
minimal_count x = length (minimal_sets x.qualified)

-- the number of maximal unqualified sets
abbrev pub maximal_count : SharingView → ℕ
maximal_count x = length (maximal_sets (length x.names.variables) x.qualified)

-- the question whether the relation of a sharing file holds under `givens`
abbrev pub question_under : SharingView → List GivenView → QuestionView
question_under x givens = record { body = record { names = x.names; lines = record { givens = givens; rows = [] }; verb = Prove x.relation }; text = [] }

-- the question that is made of a sharing file: whether its relation holds wherever the secret is shared perfectly
unfoldable pub made_question : SharingView → QuestionView
made_question x = question_under x (made_givens (length x.names.variables) x.qualified)
