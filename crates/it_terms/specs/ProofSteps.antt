-- The steps of a proof, as it is read aloud: the sum of the pieces on its right side, one more piece in each step, up to its
-- left side.
use Rattle.std.specs.Prelude.{◌≡◌, ℕ, List, [], ◌∷◌, ◌++◌, take, drop}
use Rattle.it_syntax.specs.declared.types.Term.{Term}
use Rattle.it_syntax.specs.Meaning.{RelationView}
use Rattle.it_syntax.specs.NamesViews.{NamesView}
use Rattle.it_terms.specs.Proofs.{IsEquationText}

-- The lines are the steps of the pieces, in order. Each is a relation: on its left are the sum so far and the piece's terms, on
-- its right is the sum after it. The first sum so far is `sum`, the one after the last step is `total`.
unfoldable pub AreSteps : {P : Type 0} → (P → List Term) → (P → List ℕ → RelationView → Type 0) → List Term → List P → List Term → List (List ℕ) → Type 0
AreSteps terms tells sum [] total [] = sum ≡ total
AreSteps terms tells sum [] total (line ∷ lines) = ⊥
AreSteps terms tells sum (p ∷ ps) total [] = ⊥
AreSteps terms tells sum (p ∷ ps) total (line ∷ lines) = (s : RelationView) × ((s.left ≡ sum ++ terms p) × (tells p line s × AreSteps terms tells s.right ps total lines))

-- under these names the lines are such steps of terms, each an equation that is true of every map that is 0 at the empty set
abbrev pub AreStepTexts : NamesView → List Term → List Term → List Term → List (List ℕ) → Type 0
AreStepTexts v sum terms total lines = AreSteps (λ (t : Term). t ∷ []) (λ (t : Term) (line : List ℕ) (s : RelationView). IsEquationText v line s) sum terms total lines

-- under these names the lines are the steps of an equation, from the first term on its right side to its left side
abbrev pub AreEquationSteps : NamesView → RelationView → List (List ℕ) → Type 0
AreEquationSteps v r lines = AreStepTexts v (take 1 r.right) (drop 1 r.right) r.left lines

-- under these names the proof is an equation, and the lines are its steps
pub record TellsSteps (v : NamesView) (proof : List ℕ) (lines : List (List ℕ)) : Type 0 where
  pub relation : RelationView
  pub is : IsEquationText v proof relation
  pub tells : AreEquationSteps v relation lines
