-- Steps of a proof, one after the other.
use Rattle.std.proofs.Common.{◌≡◌, ℕ, ◌+◌, ◌<◌, List, [], ◌∷◌, ◌++◌, take, length, get_or, refl, sym, ap, subst, ◌∙◌}
use Rattle.std.proofs.lemmas.Grind.{take_at_read}
use Rattle.it_syntax.specs.declared.types.Term.{Term}
use Rattle.it_syntax.specs.Meaning.{RelationView}
use Rattle.it_syntax.specs.NamesViews.{NamesView}
use Rattle.it_terms.specs.Proofs.{IsEquationText}
use Rattle.it_terms.specs.ProofSteps.{AreStepTexts, AreSteps}

module _ {P : Type 0} (terms : P → List Term) (tells : P → List ℕ → RelationView → Type 0) where
  -- a relation with a sum and a piece's terms on its left is a step
  pub step_of : (sum : List Term) (piece : P) (text : List ℕ) (s : RelationView) → tells piece text s → s.left ≡ sum ++ terms piece
      → AreSteps terms tells sum (piece ∷ []) s.right (text ∷ [])
  unfolding AreSteps
  step_of sum piece text s is left = (s, (left, (is, refl)))

  -- steps after others
  pub steps_on : (sum middle total : List Term) (ps us : List P) (ls ks : List (List ℕ)) → AreSteps terms tells sum ps middle ls
      → AreSteps terms tells middle us total ks → AreSteps terms tells sum (ps ++ us) total (ls ++ ks)
  unfolding AreSteps
  steps_on sum middle total [] us [] ks same h = subst (λ (x : List Term). AreSteps terms tells x us total ks) (sym same) h
  steps_on sum middle total [] us (l ∷ ls) ks f h = absurd f
  steps_on sum middle total (p ∷ ps) us [] ks f h = absurd f
  steps_on sum middle total (p ∷ ps) us (l ∷ ls) ks f h = (f.0, (f.1.0, (f.1.1.0, steps_on f.0.right middle total ps us ls ks f.1.1.1 h)))

  -- before the first step
  pub no_step_of : (sum : List Term) → AreSteps terms tells sum [] sum []
  unfolding AreSteps
  no_step_of sum = refl

  -- after one more step
  pub step_more_of : (sum : List Term) (pieces : List P) (now after : List Term) (lines : List (List ℕ)) (i : ℕ) (piece : P) (line : List ℕ)
      → i < length pieces → piece ≡ get_or pieces i piece
      → AreSteps terms tells sum (take i pieces) now lines → AreSteps terms tells now (piece ∷ []) after (line ∷ [])
      → AreSteps terms tells sum (take (i + 1) pieces) after (lines ++ line ∷ [])
  step_more_of sum pieces now after lines i piece line within read h s =
      subst (λ (ps : List P). AreSteps terms tells sum ps after (lines ++ line ∷ []))
      (sym ((take_at_read pieces i piece within).1 ∙ ap (λ (p : P). take i pieces ++ p ∷ []) (sym read)))
      (steps_on sum now after (take i pieces) (piece ∷ []) lines (line ∷ []) h s)

  -- steps remain steps where what is said of each line is replaced by what follows from it
  pub steps_weaker : (other : P → List ℕ → RelationView → Type 0) → ((p : P) (line : List ℕ) (s : RelationView) → tells p line s
      → other p line s) → (sum : List Term) (ps : List P) (total : List Term) (ls : List (List ℕ)) → AreSteps terms tells sum ps total ls
      → AreSteps terms other sum ps total ls
  unfolding AreSteps
  steps_weaker other then sum [] total [] h = h
  steps_weaker other then sum [] total (l ∷ ls) h = absurd h
  steps_weaker other then sum (p ∷ ps) total [] h = absurd h
  steps_weaker other then sum (p ∷ ps) total (l ∷ ls) h = (h.0, (h.1.0, (then p l h.0 h.1.1.0, steps_weaker other then h.0.right ps total ls h.1.1.1)))

-- ---- of terms

-- an equation with a sum and one more term on its left is a step
pub one_step : (v : NamesView) (sum : List Term) (term : Term) (text : List ℕ) (r : RelationView) → IsEquationText v text r
    → r.left ≡ sum ++ term ∷ [] → AreStepTexts v sum (term ∷ []) r.right (text ∷ [])
one_step v sum term text r is left = step_of (λ (t : Term). t ∷ []) (λ (t : Term) (line : List ℕ) (s : RelationView). IsEquationText v line
    s) sum term text r is left

-- before the first step
pub no_step : (v : NamesView) (sum : List Term) → AreStepTexts v sum [] sum []
no_step v sum = no_step_of (λ (t : Term). t ∷ []) (λ (t : Term) (line : List ℕ) (s : RelationView). IsEquationText v line s) sum

-- after one more step
pub one_step_more : (v : NamesView) (sum terms now after : List Term) (lines : List (List ℕ)) (i : ℕ) (term : Term) (line : List ℕ)
    → i < length terms → term ≡ get_or terms i term
    → AreStepTexts v sum (take i terms) now lines → AreStepTexts v now (term ∷ []) after (line ∷ [])
    → AreStepTexts v sum (take (i + 1) terms) after (lines ++ line ∷ [])
one_step_more v sum terms now after lines i term line within read h s =
    step_more_of (λ (t : Term). t ∷ []) (λ (t : Term) (l : List ℕ) (r : RelationView). IsEquationText v l r) sum terms now after lines i
    term line within read h s
