-- A sharing file says one thing or has one first fault.
use Rattle.it_forms.specs.FormTexts.{spelling}
use Rattle.it_question.proofs.WholeFileLemmas.{form_is_one, form_has_one, whole_fault_is_one, whole_or_fault}
use Rattle.it_sharing.specs.SharingForms.{sharing}
use Rattle.it_sharing.specs.SharingFiles.{SharingIsOne, SharingFaultIsOne, SharingOrFault, SharingHasOne}
use Rattle.it_sharing.proofs.SharingLines.{sharing_ends}
use Rattle.it_sharing.proofs.SharingOutlines.{sharing_has}

pub sharing_is_one : SharingIsOne
sharing_is_one limits = form_is_one (sharing limits) _ (sharing_has limits) (λ lines y. y)

pub sharing_fault_is_one : SharingFaultIsOne
sharing_fault_is_one limits = whole_fault_is_one (spelling (sharing limits))

pub sharing_or_fault : SharingOrFault
sharing_or_fault limits = whole_or_fault (spelling (sharing limits)) (λ lines y. y.0)

pub sharing_has_one : SharingHasOne
sharing_has_one limits = form_has_one (sharing limits) _ (sharing_has limits) (sharing_ends limits) (λ lines y. y)
