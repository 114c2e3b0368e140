-- Answers of searches, by which the calls in this crate are proved. No public clause cites this module.
use Rattle.std.specs.Prelude.{List, [], ◌∷◌, take}
use Rattle.it_space.specs.Answers.{AnswerView}
use Rattle.it_space.specs.Answers as answer_views
use Rattle.it_region.specs.declared.types.Candidate.{Candidate}
use Rattle.it_contain.specs.declared.types.Contained.{Contained}
use Rattle.it_contain.specs.declared.types.Contained.TheVariants.{Found, Open}
use Rattle.it_contain.specs.Search.{proof_views}

-- the answer about the end of a search: the parts and the certificates of what was found, or the number of candidates tried
abbrev pub answer_of_search : Contained → AnswerView
answer_of_search (Found c proofs) = answer_views.Contained (take c.count c.parts) (proof_views proofs)
answer_of_search (Open tried) = answer_views.Open tried

-- the candidate that was found, if any
abbrev pub found_of : Contained → List Candidate
found_of (Found c proofs) = c ∷ []
found_of (Open tried) = []
