-- What the contract of the head's reader says where it stops. No public clause cites it.
use Rattle.std.specs.Prelude.{◌≡◌, true, List, [], Ok}
use Rattle.it_forms.specs.FormReading.{read}
use Rattle.it_forms.specs.Letters.{Letter}
use Rattle.it_syntax.specs.declared.rest.Stop.{Stop}
use Rattle.it_syntax.specs.Gives.{StopsAs}
use Rattle.it_question.specs.Stops.{IfFault}
use Rattle.it_question.specs.QuestionLimits.{usual}
use Rattle.it_copy.specs.CopyForms.{more_copies, copy_file}
use Rattle.it_copy.specs.CopyLines.{CopyView}
use Rattle.it_copy.specs.Heads.{begins_questions}

-- the letters begin with no head
abbrev pub ReadsNoHead : List Letter → Type 0
ReadsNoHead ls = (cs : List CopyView) (r : List Letter) → read (more_copies []) ls ≡ Ok (cs, r) → begins_questions r ≡ true → ⊥

-- the reading of the whole file stops by the same fault, and the letters begin with no head
pub record StopsInHead (stop : Stop) (rest ls : List Letter) : Type 0 where
  pub stops : StopsAs stop rest (read (copy_file usual) ls)
  pub none : IfFault stop (ReadsNoHead ls)
