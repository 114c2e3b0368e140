-- The question that a report line asks counts by numbers of 64 bits, whatever the line is about.
use Rattle.std.proofs.Common.{ℕ, ◌+◌, lit<, List, [], ◌∷◌, ◌++◌, length, map, filter, drop, Option, Some, None, subst, ◌-◌, true}
use Rattle.std.specs.List.{AllByRecursion as Every}
use Rattle.std.specs.Option.{option_map_or}
use Rattle.it_space.proofs.EveryLemmas.{every-append}
use Rattle.it_polymatroid.specs.Elementals.{span}
use Rattle.it_closure.specs.Closures.{is_inside}
use Rattle.it_forms.proofs.FormFacts.{always_any, always_said}
use Rattle.it_forms.specs.Forms.{Form, Give, Take, Then}
use Rattle.it_forms.specs.Letters.{Letter}
use Rattle.it_forms.proofs.FormParts.{Always, Fact, always_weaker}
use Rattle.it_syntax.specs.NamesViews.{NamesView}
use Rattle.it_question.specs.declared.sizes.FileLimits.{FileLimits}
use Rattle.it_question.specs.Lines.{split_lines, letters_of_lines}
use Rattle.it_question.specs.QuestionForms.{file}
use Rattle.it_question.specs.Questions.{BodyView, QuestionView}
use Rattle.it_question.proofs.NumberLemmas.{AreSmall, GivenHasSmallNumbers, HasSmallNumbers, QuestionHasSmallNumbers, file_has_small_numbers, file_small, front_small, lines_small, relation_line_small, rest_small, sum_small, texts_apart}
use Rattle.it_question.proofs.WholeFileLemmas.{said}
use Rattle.it_copy.specs.CopyForms.{more_copies, copy_file}
use Rattle.it_copy.specs.CopyLines.{CopyView}
use Rattle.it_copy.specs.Equations.{inside_equation, inside_equations, apart_equation, copy_equations}
use Rattle.it_copy.specs.Extensions.{equations_at, equations_of, extended, named_parts, with_copy}
use Rattle.it_copy.specs.Files.{copies_with_questions, IsCopyFile}
use Rattle.it_copy.proofs.CopyOutlines.{copy_file_has}
use Rattle.std.specs.Prelude.{codes}
use Rattle.it_forms.specs.Words.{file_end, to_end, word}
use Rattle.it_syntax.specs.LineForms.{names, relation, sum}
use Rattle.it_syntax.specs.Meaning.{multiple_from}
use Rattle.it_syntax.specs.Multiples.{most_terms}
use Rattle.it_syntax.specs.Scopes.{Scope, scope_of}
use Rattle.it_sharing.specs.AccessStructures.{minimal_sets, maximal_sets}
use Rattle.it_sharing.specs.Parties.{party_env}
use Rattle.it_sharing.specs.SharingFiles.{IsSharingFile}
use Rattle.it_sharing.specs.SharingForms.{more_lists, bound, aim, secret_name, party_names, sharing}
use Rattle.it_sharing.specs.Sharings.{SharingView, knows, knows_nothing, made_givens, made_question}
use Rattle.it_sharing.proofs.SharingOutlines.{sharing_has}
use Rattle.std.proofs.lemmas.List.Elements.{All-head}
use Rattle.serde_json.specs.Data.{Data}
use Rattle.it_question.specs.Limits.{IsQuestion}
use Rattle.it_question.proofs.FileReadings.{file_limits}
use Rattle.it_copy.proofs.LimitLemmas.{extended_is_question}
use Rattle.it_copy.proofs.WithinLemmas.{copied_questions_are_within}
use Rattle.it_sharing.proofs.QuestionLimits.{question_limited}
use Rattle.it_sharing.proofs.WithinLemmas.{sharing_is_within}
use Rattle.it_certificate.specs.Sources.{IsSourceOf, Source, Text, Copies, Sharing, asked}

-- ---- the questions of a file

copy_file_small : (limits : FileLimits) → Always (copy_file limits) (λ p y. AreSmall p → Every QuestionHasSmallNumbers y.1)
unfolding copy_file Always
copy_file_small limits = always_any (more_copies []) _ (λ p copies. always_weaker (file limits) _ _
    (λ q ys h small. h (front_small q [] (rest_small p (q ++ []) small))) (file_small limits))

pub copied_questions_have_small_numbers : (limits : FileLimits) (bytes : List ℕ) (copies : List CopyView) (qs : List QuestionView)
    → IsCopyFile limits bytes copies qs
    → Every (λ (q : QuestionView). QuestionHasSmallNumbers q.body) qs
copied_questions_have_small_numbers limits bytes copies qs asked =
    let small = lines_small 1 (split_lines bytes) asked.lines asked.cut in
    let all = always_said (copy_file limits) _ (copy_file_has limits) (λ p y. AreSmall p → Every QuestionHasSmallNumbers y.1) (copy_file_small limits)
    (letters_of_lines asked.lines) asked.tree.0 (said (copy_file limits) copies_with_questions bytes (copies, qs) asked) small in
    subst (λ (w : List CopyView × List QuestionView). Every (λ (q : QuestionView). QuestionHasSmallNumbers q.body) w.1) asked.says
    (texts_apart (drop (length asked.tree.0.0) asked.lines) asked.tree.0.1 all)

-- ---- with copies

-- the equations of a copy have the numbers 0 and 1
inside_small : (n a : ℕ) (sets : List ℕ) → Every GivenHasSmallNumbers (map (inside_equation n a) sets)
inside_small n a [] = tt
inside_small n a (s ∷ sets) = (((lit< tt, tt), (lit< tt, tt)), inside_small n a sets)

apart_small : (n over : ℕ) → GivenHasSmallNumbers (apart_equation n over)
apart_small n over = ((lit< tt, tt), (lit< tt, tt))

copy_small : (n a over : ℕ) → Every GivenHasSmallNumbers (copy_equations n a over)
unfolding copy_equations
copy_small n a over = every-append GivenHasSmallNumbers (inside_equations n a over (span 0 (over + 1))) (apart_equation n over ∷ [])
    (inside_small n a (filter (λ s. is_inside s over) (span 0 (over + 1)))) (apart_small n over, tt)

placed_small : (v : NamesView) (o : Option (ℕ × ℕ)) → Every GivenHasSmallNumbers (option_map_or (λ (x : ℕ × ℕ). equations_at v x) o [])
placed_small v None = tt
placed_small v (Some x) = copy_small (length v.variables) x.0 x.1

equations_small : (v : NamesView) (cs : List CopyView) → Every GivenHasSmallNumbers (equations_of v cs)
equations_small v [] = tt
equations_small v (c ∷ cs) = every-append GivenHasSmallNumbers (option_map_or (λ (x : ℕ × ℕ). equations_at v x) (named_parts v c) [])
    (equations_of (with_copy v c) cs) (placed_small v (named_parts v c)) (equations_small (with_copy v c) cs)

pub extended_has_small_numbers : (q : BodyView) (cs : List CopyView) → QuestionHasSmallNumbers q → QuestionHasSmallNumbers (extended q cs)
extended_has_small_numbers q cs small = (
  (
    every-append GivenHasSmallNumbers q.lines.givens (equations_of q.names cs) small.0.0
        (equations_small q.names cs),
    small.0.1,
  ),
  small.1,
)

-- ---- the relation of a file

bound_small : (s : Scope) → Always (bound s) (λ p r. AreSmall p → HasSmallNumbers r)
unfolding bound Always
bound_small s = always_weaker (sum most_terms 1 s) _ _
    (λ p left hl l e u. always_weaker (sum (most_terms - length left) (multiple_from 1 left) s) _ _
    (λ q right hr small. (hl (front_small p _ small), hr (front_small q _ (rest_small (l ∷ []) _ (rest_small p _ small)))))
    (sum_small (most_terms - length left) (multiple_from 1 left) s)) (sum_small most_terms 1 s)

bound_line_small : (v : NamesView) → Always (to_end (bound (scope_of v true))) (λ p r. AreSmall p → HasSmallNumbers r)
unfolding Always
bound_line_small v = always_weaker (bound (scope_of v true)) _ _ (λ p r h l e u small. h (front_small p _ small)) (bound_small (scope_of v true))

aim_small : (v : NamesView) → Always (aim v) (λ p x. AreSmall p → HasSmallNumbers x.1)
unfolding aim Always
aim_small v = (
  λ l e u. always_weaker (to_end (relation (scope_of v true))) (λ p r. AreSmall p → HasSmallNumbers r)
      (λ p r. AreSmall ((l ∷ []) ++ (p ++ [])) → HasSmallNumbers r) (λ p r h small. h
      (front_small p [] (rest_small (l ∷ []) (p ++ []) small))) (relation_line_small v),
  λ l e u. always_weaker (to_end (bound (scope_of v true))) (λ p r. AreSmall p → HasSmallNumbers r)
      (λ p r. AreSmall ((l ∷ []) ++ (p ++ [])) → HasSmallNumbers r) (λ p r h small. h
      (front_small p [] (rest_small (l ∷ []) (p ++ []) small))) (bound_line_small v),
)

-- a fact of a form after another one, whatever that one read
then_any : {A B : Type 0} (f : Form A) (g : A → Form B) (P : Fact B) → ((p : List Letter) (a : A) → Always (g a) (λ q y. P (p ++ q) y)) → Always (Then f g) P
unfolding Always
then_any f g P each = always_any f (λ p a. Always (g a) (λ q y. P (p ++ q) y)) each

-- a fact of a form after another one that always has a fact
then_by : {A B : Type 0} (f : Form A) (g : A → Form B) (F : Fact A) (P : Fact B) → Always f F
    → ((p : List Letter) (a : A) → F p a → Always (g a) (λ q y. P (p ++ q) y)) → Always (Then f g) P
unfolding Always
then_by f g F P h each = always_weaker f F (λ p a. Always (g a) (λ q y. P (p ++ q) y)) each h

give_is : {A : Type 0} (a : A) (P : Fact A) → P [] a → Always (Give a) P
unfolding Always
give_is a P h = h

sharing_small : (limits : FileLimits) → Always (sharing limits) (λ p x. AreSmall p → HasSmallNumbers x.relation)
unfolding sharing
sharing_small limits =
    then_any (Take (word (codes "secret"))) _ _ (λ k u. then_any secret_name _ _ (λ p secret.
    then_any (Take (word (codes "parties"))) _ _ (λ l u. then_any (party_names limits secret) _ _ (λ q all.
    then_any (Take (word (codes "qualified"))) _ _ (λ m u. then_any (to_end (names (party_env all))) _ _ (λ r first.
    then_any (more_lists (party_env all) (first ∷ [])) _ _ (λ s lists. then_by (aim all) _ _ _ (aim_small all) (λ t asked h. then_any file_end _ _ (λ n u.
    give_is _ _ (λ small. h (front_small t _ (rest_small s _ (rest_small r _
    (rest_small m _ (rest_small q _ (rest_small l _ (rest_small p _ (rest_small k _ small))))))))))))))))))

relation_of_file : (limits : FileLimits) (bytes : List ℕ) (x : SharingView) → IsSharingFile limits bytes x → HasSmallNumbers x.relation
relation_of_file limits bytes x asked =
    let small = lines_small 1 (split_lines bytes) asked.lines asked.cut in
    subst (λ (y : SharingView). HasSmallNumbers y.relation) asked.says
    (always_said (sharing limits) _ (sharing_has limits) (λ p y. AreSmall p → HasSmallNumbers y.relation) (sharing_small limits)
    (letters_of_lines asked.lines) asked.tree.0 (said (sharing limits) (λ lines y. y) bytes x asked) small)

-- ---- the question that is made

known_small : (sets : List ℕ) → Every GivenHasSmallNumbers (map knows sets)
known_small [] = tt
known_small (s ∷ sets) = (((lit< tt, tt), (lit< tt, tt)), known_small sets)

hidden_small : (sets : List ℕ) → Every GivenHasSmallNumbers (map knows_nothing sets)
hidden_small [] = tt
hidden_small (s ∷ sets) = (((lit< tt, tt), (lit< tt, tt)), hidden_small sets)

givens_small : (n : ℕ) (listed : List ℕ) → Every GivenHasSmallNumbers (made_givens n listed)
unfolding made_givens
givens_small n listed = every-append GivenHasSmallNumbers (map knows (minimal_sets listed)) (map knows_nothing (maximal_sets n listed))
    (known_small (minimal_sets listed)) (hidden_small (maximal_sets n listed))

pub made_question_has_small_numbers : (limits : FileLimits) (bytes : List ℕ) (x : SharingView) → IsSharingFile limits bytes x
    → QuestionHasSmallNumbers (made_question x).body
unfolding made_question
made_question_has_small_numbers limits bytes x file = ((givens_small (length x.names.variables) x.qualified, tt), relation_of_file limits bytes x file)

-- ---- the question that is asked

first_of : (P : QuestionView → Type 0) (q : QuestionView) → Every P (q ∷ []) → P q
first_of P q h = h.0

pub source_limits : (limits : FileLimits) (d : Data) (source : Source) → IsSourceOf limits d source → IsQuestion (asked source).body
source_limits limits d (Text q) h = All-head (λ (q : QuestionView). IsQuestion q.body) q [] (file_limits limits h.text (q ∷ []) h.reads)
source_limits limits d (Copies q copies) h =
    extended_is_question limits q.body copies (All-head (λ (q : QuestionView). IsQuestion q.body) q []
    (copied_questions_are_within limits (h.head ++ h.text) copies (q ∷ []) h.asks.reads)) h.asks.extension.made h.asks.extension.few
source_limits limits d (Sharing x) h = question_limited x (sharing_is_within limits h.text x h.makes.reads).0 h.makes.few

pub source_numbers : (limits : FileLimits) (d : Data) (source : Source) → IsSourceOf limits d source → QuestionHasSmallNumbers (asked source).body
source_numbers limits d (Text q) h = first_of (λ (q : QuestionView). QuestionHasSmallNumbers q.body) q (file_has_small_numbers limits h.text (q ∷ []) h.reads)
source_numbers limits d (Copies q copies) h =
    extended_has_small_numbers q.body copies (first_of (λ (q : QuestionView). QuestionHasSmallNumbers q.body) q
    (copied_questions_have_small_numbers limits (h.head ++ h.text) copies (q ∷ []) h.asks.reads))
source_numbers limits d (Sharing x) h = made_question_has_small_numbers limits h.text x h.makes.reads
