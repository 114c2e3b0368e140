-- Points that extend to copies, and what a yes to an extended question says of them.
use Rattle.std.specs.Prelude.{◌≡◌, ℕ, ℤ, List, length}
use Rattle.it_polymatroid.specs.Polymatroid.{IsPolymatroid}
use Rattle.it_syntax.specs.Meaning.{RelationView, Holds}
use Rattle.it_question.specs.Questions.{BodyView, Prove}
use Rattle.it_question.specs.declared.sizes.FileLimits.{FileLimits}
use Rattle.it_question.specs.Limits.{IsQuestion}
use Rattle.it_canon.specs.TrueLines.{AreTrueAt}
use Rattle.it_canon.specs.Agreement.{AgreeOnCommon}
use Rattle.it_copy.specs.declared.types.CopyFault.{CopyFault}
use Rattle.it_copy.specs.declared.types.CopyFault.TheVariants.{Memory}
use Rattle.it_copy.specs.CopyLines.{CopyView}
use Rattle.it_copy.specs.Extensions.{IsExtension, IsMisfit}

-- Entropies of the question's variables and values of its rates have such copies: some polymatroid on all variables of question e
-- agrees with them on the sets of the declared variables, and with it and the rates all lines of e are true.
pub record HasCopies (q e : BodyView) (p : ℕ → ℤ) : Type 0 where
  pub image : ℕ → ℤ
  pub agree : AgreeOnCommon (length q.names.variables) (length q.names.rates) (length q.names.variables) (length e.names.variables) p image
  pub polymatroid : IsPolymatroid (length e.names.variables) image
  pub lines_hold : AreTrueAt (length e.names.variables) image e.lines

-- Where the relation of an extended question holds at every polymatroid and rates that make that question's lines true, that of the
-- question itself holds wherever there are such copies.
abbrev pub YesByCopies : Type 0
YesByCopies = (limits : FileLimits) (q e : BodyView) (cs : List CopyView) (r : RelationView) → IsQuestion q → q.verb ≡ Prove r
    → IsExtension limits q cs e
    → ((image : ℕ → ℤ) → IsPolymatroid (length e.names.variables) image → AreTrueAt (length e.names.variables) image e.lines → Holds (length e.names.variables) image r)
    → (p : ℕ → ℤ) → HasCopies q e p → Holds (length q.names.variables) p r

-- a question has at most one extension by some copies
abbrev pub OneExtension : Type 0
OneExtension = (limits : FileLimits) (q d e : BodyView) (cs : List CopyView) → IsExtension limits q cs d → IsExtension limits q cs e → d ≡ e

-- a question has at most one reason against copies, apart from memory
abbrev pub OneMisfit : Type 0
OneMisfit = (limits : FileLimits) (q : BodyView) (cs : List CopyView) (f g : CopyFault) → (f ≡ Memory → ⊥) → (g ≡ Memory → ⊥)
    → IsMisfit limits q cs f → IsMisfit limits q cs g → f ≡ g

-- no question has both an extension by some copies and a reason against them, apart from memory
abbrev pub ExtensionOrMisfit : Type 0
ExtensionOrMisfit = (limits : FileLimits) (q e : BodyView) (cs : List CopyView) (f : CopyFault) → (f ≡ Memory → ⊥)
    → IsExtension limits q cs e → IsMisfit limits q cs f → ⊥
