-- A file of questions has one reading or one first fault.
use Rattle.std.specs.Prelude.{codes, None}
use Rattle.std.proofs.Common.{◌≡◌, zero, suc, true, [], ◌∷◌, ◌++◌, refl, ap, ◌∙◌}
use Rattle.it_forms.specs.Forms.{FileEnd, IsTaken, is_among, Spells}
use Rattle.it_forms.specs.FormTexts.{spelling}
use Rattle.it_forms.specs.Letters.{Letter, Word, Bad, FlaggedLetters}
use Rattle.it_forms.specs.declared.types.Code.TheVariants.{Unfinished}
use Rattle.it_forms.specs.Words.{just}
use Rattle.it_forms.proofs.FormLanguage.{prefix_moves}
use Rattle.it_question.specs.Files.{FileIsOne, FileFaultIsOne, FileOrFault, FileHasOne, QuestionStandsAlone}
use Rattle.it_question.specs.QuestionForms.{question, more_questions, file}
use Rattle.it_question.specs.declared.sizes.FileLimits.{FileLimits}
use Rattle.it_question.specs.Questions.{BodyView}
use Rattle.it_question.specs.Texts.{with_texts}
use Rattle.it_question.proofs.Puts.{puts_at}
use Rattle.it_question.proofs.QuestionLines.{questions_lines}
use Rattle.it_question.proofs.QuestionOutlines.{file_has}
use Rattle.it_question.proofs.WholeFileLemmas.{the_end, EndsFile, form_is_one, form_has_one, whole_fault_is_one, whole_or_fault}

-- the file's end is one letter, without a flag
pub end_is : (u : Unit {0}) (m k : FlaggedLetters) → IsTaken (just (FileEnd ∷ []) tt) u m k → k ≡ [] → m ≡ the_end
end_is u m k s e = s.3 ∙ ap (λ (l : Letter). (l, None) ∷ k) (by_letter s.0 s.1) ∙ ap (λ (t : FlaggedLetters). (Bad Unfinished, None) ∷ t) e
  where
    by_letter : (l : Letter) → is_among (FileEnd ∷ []) l ≡ true → l ≡ Bad Unfinished
    by_letter (Bad Unfinished) h = refl
    by_letter l h = absurd cc

pub file_ends : (limits : FileLimits) → EndsFile (file limits)
unfolding file Spells
file_ends limits qs m s = let lines = questions_lines limits [] s.0 m s.1 s.2 in (lines.lines, puts_at lines.puts (end_is s.3.0 s.1 s.3.1 s.3.2 s.3.3.1))

pub file_is_one : FileIsOne
file_is_one limits = form_is_one (file limits) _ (file_has limits) with_texts

pub file_fault_is_one : FileFaultIsOne
file_fault_is_one limits = whole_fault_is_one (spelling (file limits))

pub file_or_fault : FileOrFault
file_or_fault limits = whole_or_fault (spelling (file limits)) (λ lines x. with_texts lines x.0)

pub file_has_one : FileHasOne
file_has_one limits = form_has_one (file limits) _ (file_has limits) (file_ends limits) with_texts

-- what says a question before the file's end says it alone
pub alone : (limits : FileLimits) (q : BodyView) (m : FlaggedLetters) → Spells (question limits) q (m ++ the_end) the_end
    → Spells (file limits) (q ∷ []) ((Word (codes "vars"), None) ∷ (m ++ the_end)) []
unfolding more_questions file Spells
alone limits q m s =
    let turns : Spells (more_questions limits []) (q ∷ []) ((Word (codes "vars"), None) ∷ (m ++ the_end)) the_end = (
      suc zero,
      (tt, m ++ the_end, q ∷ [], the_end, (Word (codes "vars"), refl, refl, refl), (q, the_end, s, (refl, refl)), (refl, refl)),
    ) in
    (q ∷ [], the_end, turns, (tt, [], (Bad Unfinished, refl, refl, refl), (refl, refl)))

pub question_stands_alone : QuestionStandsAlone
question_stands_alone limits q m k s = let w = prefix_moves (question limits) q m k s in (w.prefix, (w.is, alone limits q w.prefix (w.moves the_end)))
