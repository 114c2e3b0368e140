-- The outlines of the forms of sharing files.
use Rattle.std.proofs.Common.{◌≡◌, ℕ, List, [], ◌∷◌, Err, refl}
use Rattle.std.specs.Prelude.{codes}
use Rattle.it_forms.specs.FormReading.{read}
use Rattle.it_forms.specs.Words.{to_end, flagged}
use Rattle.it_syntax.specs.LineForms.{sum, terms, term, atom}
use Rattle.it_forms.specs.declared.types.Symbol.TheVariants.{AtLeast}
use Rattle.it_forms.specs.declared.types.Code.TheVariants as codes
use Rattle.it_forms.specs.Letters.{Bad}
use Rattle.it_syntax.specs.Scopes.{Environment, Scope}
use Rattle.it_question.specs.declared.sizes.FileLimits.{FileLimits}
use Rattle.it_sharing.specs.SharingForms.{more_lists, bound, aim, sharing}
use Rattle.it_syntax.proofs.LineOutlines.{some_names, names_has, a_sum, sum_has, relation_has}
use Rattle.it_question.proofs.QuestionOutlines.{word_has, new_name_has, new_names_has}
use Rattle.it_syntax.specs.NamesViews.{NamesView}
use Rattle.it_forms.specs.Forms.{Keyword, Punctuation}
use Rattle.it_forms.proofs.Outlines.{Outline, nothing, one_of, one_then, repeated, Has, has_give, has_take, has_then, has_if, has_while, has_symbol, a_line, end_has}

lists_has : (env : Environment) (sets : List ℕ) → Has (more_lists env sets) (repeated (Keyword (codes "qualified") ∷ []) (one_then (a_line some_names) nothing))
unfolding more_lists
lists_has env sets = has_while _ _ _ _ _ (λ sets u. has_then _ _ _ _ (has_then _ _ _ _ (names_has env)
    (λ set. has_then _ _ _ _ end_has (λ u. has_give _) refl) refl) (λ set. has_give _) refl) refl

abbrev pub a_bound : Outline
a_bound = one_then (a_sum []) (one_then (one_of (Punctuation AtLeast ∷ [])) (one_then (a_sum []) nothing))

pub bound_has : (s : Scope) → Has (bound s) a_bound
unfolding bound
bound_has s = has_then _ _ _ _ (sum_has _ _ s) (λ left. has_then _ _ _ _ (has_symbol AtLeast)
    (λ u. has_then _ _ _ _ (sum_has _ _ s) (λ right. has_give _) refl) refl) refl

-- no bound stands where nothing is left
pub no_bound : (s : Scope) → read (to_end (bound s)) [] ≡ Err (codes.Word, [])
unfolding read bound sum terms flagged term atom
no_bound s = refl

aim_has : (v : NamesView) → Has (aim v) (one_of (Keyword (codes "prove") ∷ Keyword (codes "best") ∷ []))
unfolding aim
aim_has v =
    has_if _ _ _ _ _ (λ u. has_then _ _ _ _ (has_then _ _ _ _ (relation_has _) (λ x. has_then _ _ _ _ end_has (λ u. has_give _) refl) refl)
    (λ x. has_give _) refl)
    (has_then _ _ _ _ (word_has (codes "best") refl) (λ u. has_then _ _ _ _ (has_then _ _ _ _ (bound_has _) (λ x. has_then _ _ _ _ end_has (λ u. has_give _) refl) refl) (λ x. has_give _) refl) refl) refl

pub sharing_has : (limits : FileLimits) → Has (sharing limits) (one_of (Keyword (codes "secret") ∷ []))
unfolding sharing
sharing_has limits =
    has_then _ _ _ _ (word_has (codes "secret") refl) (λ u. has_then _ _ _ _ (has_then _ _ _ _ (new_name_has _ _ _) (λ secret. has_then _ _ _ _ end_has (λ u. has_give _) refl) refl) (λ secret.
    has_then _ _ _ _ (word_has (codes "parties") refl) (λ u. has_then _ _ _ _ (new_names_has _ _ _) (λ all.
    has_then _ _ _ _ (word_has (codes "qualified") refl) (λ u. has_then _ _ _ _ (has_then _ _ _ _ (names_has _) (λ set. has_then _ _ _ _ end_has (λ u. has_give _) refl) refl) (λ first.
    has_then _ _ _ _ (lists_has _ _) (λ lists. has_then _ _ _ _ (aim_has all)
    (λ asked. has_then _ _ _ _ (has_take _ (Bad codes.Unfinished) refl) (λ u. has_give _) refl) refl) refl) refl) refl) refl) refl)
    refl) refl
