-- The outlines of the forms of files with a head.
use Rattle.std.proofs.Common.{ℕ, false, List, [], ◌∷◌, refl}
use Rattle.std.specs.Prelude.{codes}
use Rattle.it_forms.specs.declared.types.Symbol.TheVariants.{Comma}
use Rattle.it_forms.specs.Letters.{Word}
use Rattle.it_copy.specs.CopyForms.{member, more_members, over, copy, more_copies, copy_file}
use Rattle.it_syntax.proofs.LineOutlines.{a_name}
use Rattle.it_question.specs.declared.sizes.FileLimits.{FileLimits}
use Rattle.it_question.proofs.QuestionOutlines.{word_has, file_has}
use Rattle.it_copy.specs.CopyLines.{CopyView}
use Rattle.it_forms.specs.Forms.{Keyword, Punctuation, WordBut, Zero, FileEnd}
use Rattle.it_forms.proofs.Outlines.{nothing, one_of, one_then, repeated, Has, has_give, has_take, has_then, has_if, has_while, end_has}

member_has : (n : ℕ) → Has (member n) a_name
unfolding member
member_has n = has_take _ (Word []) refl

over_has : Has over (record { begins = Zero ∷ WordBut [] ∷ []; skips = false; goes = Punctuation Comma ∷ [] })
unfolding over more_members
over_has = has_if _ _ _ _ _ (λ u. has_give _) (has_then _ _ _ _ (member_has _)
    (λ w. has_while _ _ _ _ _ (λ names u. has_then _ _ _ _ (member_has _) (λ w. has_give _) refl) refl) refl) refl

copy_has : Has copy (record { begins = WordBut [] ∷ []; skips = false; goes = Punctuation Comma ∷ [] })
unfolding copy
copy_has =
    has_then _ _ _ _ (member_has _) (λ fresh. has_then _ _ _ _ (word_has (codes "of") refl) (λ u. has_then _ _ _ _ (member_has _) (λ old.
    has_then _ _ _ _ (word_has (codes "over") refl) (λ u. has_then _ _ _ _ over_has (λ set. has_give _) refl) refl) refl) refl) refl

pub copies_has : (cs : List CopyView) → Has (more_copies cs) (repeated (Keyword (codes "copy") ∷ []) (one_then (one_of (WordBut [] ∷ [])) nothing))
unfolding more_copies
copies_has cs = has_while _ _ _ _ _ (λ cs u. has_then _ _ _ _ (has_then _ _ _ _ copy_has
    (λ c. has_then _ _ _ _ end_has (λ u. has_give _) refl) refl) (λ c. has_give _) refl) refl

pub copy_file_has : (limits : FileLimits) → Has (copy_file limits) (one_of (Keyword (codes "copy") ∷ Keyword (codes "vars") ∷ FileEnd ∷ []))
unfolding copy_file
copy_file_has limits = has_then _ _ _ _ (copies_has []) (λ copies. has_then _ _ _ _ (file_has limits) (λ questions. has_give _) refl) refl
