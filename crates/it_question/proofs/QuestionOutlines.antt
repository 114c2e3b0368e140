-- The outlines of the forms of question files.
use Rattle.std.proofs.Common.{◌≡◌, ℕ, Bool, true, false, List, [], ◌∷◌, ◌++◌, Option, refl, ◌||◌}
use Rattle.std.specs.Prelude.{bytes_eq, codes}
use Rattle.it_forms.specs.declared.types.Symbol.TheVariants.{Comma, Assign}
use Rattle.it_forms.specs.declared.types.Code.TheVariants as codes
use Rattle.it_forms.specs.Letters.{Word, End, Bad}
use Rattle.it_syntax.specs.Scopes.{Environment}
use Rattle.it_question.specs.declared.sizes.FileLimits.{FileLimits}
use Rattle.it_question.specs.TrySets.{Sets}
use Rattle.it_question.specs.QuestionForms.{new_name, more_new, new_names, names_line, own_line, own_words, more_own_lines, own_lines, auxiliary, set, part, more_parts, try_line, more_tries, region, containment, once, more_once, distinct, verb, question, more_questions, file}
use Rattle.it_syntax.proofs.LineOutlines.{a_name, names_has, a_relation, relation_has, a_given, given_has}
use Rattle.it_forms.specs.declared.types.Code.{Code}
use Rattle.it_syntax.specs.NamesViews.{NamesView}
use Rattle.it_question.specs.OwnLines.{OwnLinesView}
use Rattle.it_question.specs.Questions.{BodyView}
use Rattle.it_question.specs.NewNames.{NameSortView}
use Rattle.it_forms.specs.Forms.{Keyword, Punctuation, WordBut, Zero, LineEnd, FileEnd, Take}
use Rattle.it_forms.specs.Words.{word, flagged_word}
use Rattle.it_forms.proofs.Outlines.{Outline, nothing, one_of, one_then, repeated, either, Fits, Has, has_give, has_take, has_then, has_if, has_while, has_symbol, has_more, a_line, end_has}
use Rattle.it_forms.proofs.KindLemmas.{among_first, among_second}

left_fits : (i j : Outline) → Fits i (either i j)
left_fits i j = record { begins = among_first i.begins j.begins; skips = λ e. rw e refl; goes = among_first i.goes j.goes }

right_fits : (i j : Outline) → Fits j (either i j)
right_fits i j = record { begins = among_second i.begins j.begins; skips = or_true i.skips j.skips; goes = among_second i.goes j.goes }
  where
    or_true : (a b : Bool) → b ≡ true → (a || b) ≡ true
    or_true true b e = refl
    or_true false b e = e

pub flagged_word_has : (w : List ℕ) (flag : Option Code) → bytes_eq w w ≡ true → Has (Take (flagged_word w flag)) (one_of (Keyword w ∷ []))
flagged_word_has w flag e = has_take _ (Word w) (rw e refl)

pub word_has : (w : List ℕ) → bytes_eq w w ≡ true → Has (Take (word w)) (one_of (Keyword w ∷ []))
word_has w e = has_take _ (Word w) (rw e refl)

pub new_name_has : (sort : NameSortView) (most : ℕ) (v : NamesView) → Has (new_name sort most v) a_name
unfolding new_name
new_name_has sort most v = has_take _ (Word []) refl

pub new_names_has : (sort : NameSortView) (most : ℕ) (v : NamesView) → Has (new_names sort most v) (one_of (WordBut [] ∷ []))
unfolding new_names more_new
new_names_has sort most v =
    has_then _ _ _ _ (new_name_has sort most v) (λ first. has_then _ _ _ _
    (has_while _ _ _ _ _ (λ v u. has_then _ _ _ _ (new_name_has sort most v) (λ more. has_give _) refl) refl)
    (λ all. has_then _ _ _ _ end_has (λ u. has_give _) refl) refl) refl

names_line_has : (sort : NameSortView) (most : ℕ) (keyword : List ℕ) (v : NamesView)
    → Has (names_line sort most keyword v) (record { begins = Keyword keyword ∷ []; skips = true; goes = Keyword keyword ∷ [] })
unfolding names_line
names_line_has sort most keyword v = has_if _ _ _ _ _ (λ u. new_names_has sort most v) (has_give _) refl

own_line_has : (v : NamesView) (own : OwnLinesView) (b : Bool)
    → Has (own_line v own b) (either (one_then (a_line a_given) nothing) (one_then (a_line (a_relation [])) nothing))
unfolding own_line
own_line_has v own true = has_more _ (one_then (a_line a_given) nothing) _
    (has_then _ _ _ _ (has_then _ _ _ _ (given_has _) (λ x. has_then _ _ _ _ end_has (λ u. has_give _) refl) refl) (λ x. has_give _) refl)
    (left_fits (one_then (a_line a_given) nothing) (one_then (a_line (a_relation [])) nothing))
own_line_has v own false = has_more _ (one_then (a_line (a_relation [])) nothing) _
    (has_then _ _ _ _ (has_then _ _ _ _ (relation_has _) (λ x. has_then _ _ _ _ end_has (λ u. has_give _) refl) refl)
    (λ x. has_give _) refl) (right_fits (one_then (a_line a_given) nothing) (one_then (a_line (a_relation [])) nothing))

own_lines_has : (g r : ℕ) (v : NamesView) → Has (own_lines g r v) (record { begins = own_words; skips = true; goes = own_words })
unfolding more_own_lines
own_lines_has g r v = has_while _ _ _ _ _ (λ own b. own_line_has v own b) refl

set_has : (env : Environment) → Has (set env) (record { begins = Zero ∷ WordBut [] ∷ []; skips = false; goes = Punctuation Comma ∷ [] })
unfolding set
set_has env = has_if _ _ _ _ _ (λ u. has_give _) (names_has env) refl

abbrev a_part : Outline
a_part = record { begins = WordBut [] ∷ []; skips = false; goes = Punctuation Comma ∷ [] }

part_has : (aux env : Environment) (sets : Sets) → Has (part aux env sets) a_part
unfolding part auxiliary
part_has aux env sets = has_then _ _ _ _ (has_take _ (Word []) refl) (λ i. has_then _ _ _ _ (has_symbol Assign)
    (λ u. has_then _ _ _ _ (set_has env) (λ s. has_give _) refl) refl) refl

try_line_has : (aux env : Environment) (sets : Sets) → Has (try_line aux env sets) (one_of (WordBut [] ∷ []))
unfolding try_line more_parts
try_line_has aux env sets =
    has_then _ _ _ _ (part_has aux env sets) (λ first. has_then _ _ _ _ (has_while _ _ _ _ _
    (λ sets u. has_then _ _ _ _ (part_has aux env sets) (λ more. has_give _) refl) refl)
    (λ all. has_then _ _ _ _ (has_take _ End refl) (λ u. has_give _) refl) refl) refl

tries_has : (aux env : Environment) (sets : Sets) (ts : List (List ℕ)) → Has (more_tries aux env sets ts) (record { begins = Keyword (codes "try") ∷ []; skips = true; goes = Keyword (codes "try") ∷ [] })
unfolding more_tries
tries_has aux env sets ts = has_while _ _ _ _ _ (λ ts u. has_then _ _ _ _ (try_line_has aux env sets) (λ t. has_give _) refl) refl

abbrev a_region : Outline
a_region = record { begins = LineEnd ∷ []; skips = false; goes = own_words ++ Keyword (codes "aux") ∷ [] }

region_has : (g r : ℕ) (v : NamesView) → Has (region g r v) a_region
unfolding region
region_has g r v = has_then _ _ _ _ end_has (λ u. has_then _ _ _ _ (names_line_has _ _ (codes "aux") v) (λ names. has_then _ _ _ _ (own_lines_has g r names) (λ own. has_give _) refl) refl) refl

containment_has : (own : OwnLinesView) (v : NamesView) → Has (containment own v) (one_of (LineEnd ∷ []))
unfolding containment
containment_has own v =
    has_then _ _ _ _ (region_has _ _ v) (λ first. has_then _ _ _ _ (word_has (codes "region") refl) (λ u. has_then _ _ _ _ (region_has _ _ v) (λ second. has_then _ _ _ _ (tries_has _ _ _ _) (λ ts.
    has_then _ _ _ _ (flagged_word_has (codes "contain") _ refl) (λ u. has_then _ _ _ _ end_has (λ u. has_give _) refl) refl) refl) refl) refl) refl

distinct_has : (env : Environment) → Has (distinct env) (record { begins = WordBut [] ∷ []; skips = false; goes = Punctuation Comma ∷ [] })
unfolding distinct more_once once
distinct_has env = has_then _ _ _ _ (has_take _ (Word []) refl) (λ first. has_while _ _ _ _ _
    (λ seen u. has_then _ _ _ _ (has_take _ (Word []) refl) (λ i. has_give _) refl) refl) refl

verb_has : (limits : FileLimits) (own : OwnLinesView) (v : NamesView)
    → Has (verb limits own v) (one_of (Keyword (codes "prove") ∷ Keyword (codes "eliminate") ∷ Keyword (codes "region") ∷ []))
unfolding verb
verb_has limits own v =
    has_if _ _ _ _ _ (λ u. has_then _ _ _ _ (has_then _ _ _ _ (relation_has _) (λ x. has_then _ _ _ _ end_has (λ u. has_give _) refl) refl)
    (λ x. has_give _) refl)
    (has_if _ _ _ _ _ (λ u. has_then _ _ _ _ (has_then _ _ _ _ (distinct_has _)
    (λ rates. has_then _ _ _ _ end_has (λ u. has_give _) refl) refl) (λ x. has_give _) refl)
    (has_then _ _ _ _ (flagged_word_has (codes "region") _ refl) (λ u. containment_has own v) refl) refl) refl

question_has : (limits : FileLimits) → Has (question limits) (one_of (WordBut [] ∷ []))
unfolding question
question_has limits = has_then _ _ _ _ (new_names_has _ _ _)
    (λ variables. has_then _ _ _ _ (names_line_has _ _ (codes "rates") variables)
    (λ names. has_then _ _ _ _ (own_lines_has _ _ names) (λ own. has_then _ _ _ _ (verb_has limits _ names) (λ aim. has_give _) refl) refl) refl) refl

questions_has : (limits : FileLimits) (qs : List BodyView)
    → Has (more_questions limits qs) (repeated (Keyword (codes "vars") ∷ []) (one_then (one_of (WordBut [] ∷ [])) nothing))
unfolding more_questions
questions_has limits qs = has_while _ _ _ _ _ (λ qs u. has_then _ _ _ _ (question_has limits) (λ q. has_give _) refl) refl

pub file_has : (limits : FileLimits) → Has (file limits) (one_of (Keyword (codes "vars") ∷ FileEnd ∷ []))
unfolding file
file_has limits = has_then _ _ _ _ (questions_has limits []) (λ qs. has_then _ _ _ _ (has_take _ (Bad codes.Unfinished) refl) (λ u. has_give _) refl) refl
