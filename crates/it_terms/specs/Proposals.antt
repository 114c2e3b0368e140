-- No public clause cites this module: what the makers of a proof's text say of it.
use Rattle.std.specs.Prelude.{◌≡◌, ℕ, ℤ, List, [], map, Option, IfSome, Vec}
use Rattle.std.specs.Global.{Global}
use Rattle.it_problems.specs.declared.problems.Constraint.{Constraint}
use Rattle.it_space.specs.Rows.{Terms, value}
use Rattle.it_polymatroid.specs.Certificates.{Form}
use Rattle.it_elemental.specs.Generators.{forms_of, of_constraint}
use Rattle.it_syntax.specs.Meaning.{RelationView}
use Rattle.it_syntax.specs.NamesViews.{NamesView}
use Rattle.it_print.specs.Lines.{origins_of}
use Rattle.it_terms.specs.Proofs.{IsProofOf, TellsProof}
use Rattle.it_terms.specs.FunctionProofs.{TellsProofUnder, by_comment}

-- the relation of n variables is a proof of the target from the constraints
abbrev pub IsProofFrom : ℕ → RelationView → Terms → List Constraint → Type 0
IsProofFrom n r target constraints = IsProofOf n r (value target) (forms_of (map of_constraint constraints))

-- a text, if there is one, tells a proof of the target from the constraints
abbrev pub MayProve : NamesView → Terms → List Constraint → Option (Vec ℕ Global) → Type 0
MayProve names target constraints o = IfSome o (λ text. TellsProof names (value target) (forms_of (map of_constraint constraints)) text.items)

-- `text` and `whole` tell a proof of the target from the constraints where the functions hold that `lines` say, `whole` without
-- naming constraints; `by` is the comment that names these lines
pub record ArePrintedFrom (v : NamesView) (target : Form) (cs : List Constraint) (lines : List ℕ) (named : List (ℕ × ℤ)) (text whole by : List ℕ) : Type 0 where
  pub text_tells : TellsProofUnder v (origins_of cs) lines named target (forms_of (map of_constraint cs)) text
  pub whole_tells : TellsProofUnder v (origins_of cs) lines [] target (forms_of (map of_constraint cs)) whole
  pub by_is : by ≡ by_comment (origins_of cs) lines
