-- Texts that read as one question.
use Rattle.std.proofs.Common.{◌≡◌, ℕ, ◌≤◌, List, [], ◌∷◌, map, length, ap, sym, subst, ◌∙◌}
use Rattle.std.proofs.lemmas.List.{length-map}
use Rattle.it_forms.specs.declared.types.Code.{Code}
use Rattle.it_question.specs.declared.sizes.FileLimits.{FileLimits}
use Rattle.it_question.specs.Questions.{QuestionView}
use Rattle.it_question.specs.Files.{IsFileWithin, FileFaultWithin, IsFirstFaultWithin}
use Rattle.it_question.specs.declared.types.FileFault.{FileFault}
use Rattle.it_question.specs.declared.types.FileFault.TheVariants.{Fault}
use Rattle.it_question.proofs.FileLemmas.{file_is_one, file_or_fault}

pub none_only : (limits : FileLimits) (text : List ℕ) (qs : List QuestionView) → IsFileWithin limits text qs → (length qs ≡ 1 → ⊥) → (q : QuestionView)
    → length text ≤ 1048577 → IsFileWithin limits text (q ∷ []) → ⊥
none_only limits text qs file not q fits other =
    let same = ap length (file_is_one limits text qs (q ∷ []) file other) in
    not same

pub fault_only : (limits : FileLimits) (text : List ℕ) (line column : ℕ) (code : Code) → FileFaultWithin limits text line column code → (q : QuestionView)
    → length text ≤ 1048577 → IsFileWithin limits text (q ∷ []) → ⊥
fault_only limits text line column code fault q fits file = file_or_fault limits text (q ∷ []) line column code file fault

pub fault_here : (limits : FileLimits) (text : List ℕ) (line column : ℕ) (code : Code) (f : FileFault) → f ≡ Fault line column code
    → IsFirstFaultWithin limits text f
    → FileFaultWithin limits text line column code
fault_here limits text line column code f is h = subst (IsFirstFaultWithin limits text) is h
