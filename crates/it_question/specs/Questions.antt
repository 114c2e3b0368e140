-- What a question file asks, as contracts compare it: each vector by the list of its items.
use Rattle.std.specs.Prelude.{ℕ, List}
use Rattle.it_syntax.specs.NamesViews.{NamesView}
use Rattle.it_syntax.specs.Meaning.{RelationView, relation_view}
use Rattle.it_question.specs.OwnLines.{OwnLinesView, RegionView}
use Rattle.it_question.specs.declared.types.Verb.{Verb}
use Rattle.it_question.specs.declared.types.Verb.TheVariants as verbs

-- Each of `tries` gives a set for each auxiliary of the second region.
pub data VerbView : Type 0 where
  Prove : (relation : RelationView) → VerbView
  Eliminate : (rates : List ℕ) → VerbView
  Contain : (first second : RegionView) (tries : List (List ℕ)) → VerbView

-- a question without its text
pub record BodyView : Type 0 where
  pub names : NamesView
  pub lines : OwnLinesView
  pub verb : VerbView

-- a question with its text
pub record QuestionView : Type 0 where
  pub body : BodyView
  pub text : List ℕ

-- what contracts see of a verb
abbrev pub verb_view : Verb → VerbView
verb_view (verbs.Prove r) = Prove (relation_view r)
verb_view (verbs.Eliminate rates) = Eliminate rates.items
verb_view (verbs.Contain first second tries) = Contain first second tries.items
