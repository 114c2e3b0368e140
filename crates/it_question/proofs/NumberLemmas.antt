-- The numbers in the questions of a file are below 2 ^ 64: those of its letters are, and a question has no others.
use Rattle.std.specs.Prelude.{codes}
use Rattle.std.proofs.Common.{◌≡◌, ℕ, ◌+◌, ◌-◌, ◌<◌, ◌^◌, lit<, Bool, true, false, List, [], ◌∷◌, ◌++◌, length, drop, Option, Some, None, inl, inr, sym, subst, refl}
use Rattle.std.specs.List.{AllByRecursion as Every}
use Rattle.it_forms.specs.Forms.{Positive, Keyword, is_of, is_among, Form, Give, Then, Punctuation}
use Rattle.it_forms.specs.Letters.{Letter, Number}
use Rattle.it_forms.specs.Words.{number_of, allowed, limit_flag, to_end}
use Rattle.it_forms.proofs.FormFacts.{always_any, always_said}
use Rattle.it_forms.proofs.FormParts.{Always, always_weaker, loop_keeps}
use Rattle.it_forms.proofs.FlaggedParts.{always_flagged, always_but}
use Rattle.it_forms.specs.declared.types.Symbol.TheVariants.{Minus}
use Rattle.it_syntax.specs.declared.types.Atom.{Atom}
use Rattle.it_syntax.specs.declared.types.Misspelling.{Misspelling}
use Rattle.it_syntax.specs.declared.types.Term.{Term}
use Rattle.it_syntax.specs.declared.types.Token.{Token}
use Rattle.it_syntax.specs.declared.types.TokenKind.{TokenKind}
use Rattle.it_syntax.specs.declared.types.TokenKind.TheVariants as kinds
use Rattle.it_syntax.specs.Givens.{GivenView}
use Rattle.it_syntax.specs.Givens as given_views
use Rattle.it_syntax.specs.LineForms.{names, atom, atom_or_nothing, over_or, term, signs, more_terms, terms, sum, compare, relation, more_members, chain, after_bar, independence, function, given}
use Rattle.it_syntax.specs.Meaning.{RelationView, multiple_from}
use Rattle.it_syntax.specs.Misspellings.{SpellsUntil}
use Rattle.it_syntax.specs.Multiples.{most_terms}
use Rattle.it_syntax.specs.NamesViews.{NamesView, index_of}
use Rattle.it_syntax.specs.Scopes.{Scope, scope_of, env_of}
use Rattle.it_syntax.specs.Spans.{letter_of, letters_until, last_letter}
use Rattle.it_syntax.specs.Spelling.{IsText}
use Rattle.it_question.specs.declared.sizes.FileLimits.{FileLimits}
use Rattle.it_question.specs.Files.{IsFileWithin}
use Rattle.it_question.specs.Lines.{LineView, AreLines, letters_of_lines, split_lines}
use Rattle.it_question.specs.QuestionForms.{own_words, own_keyword, own_line, more_own_lines, own_lines, names_line, new_names, distinct, more_tries, region, containment, verb, question, more_questions, file}
use Rattle.it_question.specs.QuestionLimits.{auxiliaries_left, givens_left, most_lines, most_questions, names_within, rows_left}
use Rattle.it_question.specs.OwnLines.{OwnLinesView, RegionView, no_lines}
use Rattle.it_question.specs.Questions.{VerbView, BodyView, QuestionView}
use Rattle.it_question.specs.Questions as views
use Rattle.it_question.specs.Texts.{question_line_count, with_texts}
use Rattle.it_question.specs.TrySets.{auxiliary_env, unnamed_sets}
use Rattle.it_question.specs.NewNames.{Variable, Rate, no_names}
use Rattle.it_question.proofs.QuestionOutlines.{file_has}
use Rattle.it_question.proofs.WholeFileLemmas.{said}
use Rattle.it_space.specs.Spaces.{most_rates}

-- ---- numbers of 64 bits

-- the terms of a relation count by them
abbrev pub HasSmallNumbers : RelationView → Type 0
HasSmallNumbers r = Every (λ (t : Term). t.number < 2 ^ 64) r.left × Every (λ (t : Term). t.number < 2 ^ 64) r.right

abbrev pub GivenHasSmallNumbers : GivenView → Type 0
GivenHasSmallNumbers (given_views.Relation r) = HasSmallNumbers r
GivenHasSmallNumbers (given_views.Markov sets) = Unit {0}
GivenHasSmallNumbers (given_views.Independent members given) = Unit {0}
GivenHasSmallNumbers (given_views.Function value argument) = Unit {0}

abbrev pub LinesHaveSmallNumbers : OwnLinesView → Type 0
LinesHaveSmallNumbers own = Every GivenHasSmallNumbers own.givens × Every HasSmallNumbers own.rows

abbrev pub VerbHasSmallNumbers : VerbView → Type 0
VerbHasSmallNumbers (views.Prove r) = HasSmallNumbers r
VerbHasSmallNumbers (views.Eliminate rates) = Unit {0}
VerbHasSmallNumbers (views.Contain first second tries) = LinesHaveSmallNumbers first.lines × LinesHaveSmallNumbers second.lines

abbrev pub QuestionHasSmallNumbers : BodyView → Type 0
QuestionHasSmallNumbers q = LinesHaveSmallNumbers q.lines × VerbHasSmallNumbers q.verb

-- the numbers among letters
abbrev pub AreSmall : List Letter → Type 0
AreSmall [] = Unit {0}
AreSmall (Number n ∷ ls) = (n < 2 ^ 64) × AreSmall ls
AreSmall (l ∷ ls) = AreSmall ls

pub front_small : (p q : List Letter) → AreSmall (p ++ q) → AreSmall p
front_small [] q h = tt
front_small (Number n ∷ p) q h = (h.0, front_small p q h.1)
front_small (l ∷ p) q h = front_small p q h

pub rest_small : (p q : List Letter) → AreSmall (p ++ q) → AreSmall q
rest_small [] q h = h
rest_small (Number n ∷ p) q h = rest_small p q h.1
rest_small (l ∷ p) q h = rest_small p q h

every_more : {X : Type 0} (P : X → Type 0) (xs : List X) (x : X) → Every P xs → P x → Every P (xs ++ x ∷ [])
every_more P [] x h k = (k, tt)
every_more P (y ∷ xs) x h k = (h.0, every_more P xs x h.1 k)

-- ---- relations

abbrev pub IsSmall : Term → Type 0
IsSmall t = t.number < 2 ^ 64

number_small : (l : Letter) (q : List Letter) → is_among (Positive ∷ []) l ≡ true → AreSmall (l ∷ q) → number_of l < 2 ^ 64
number_small (Number n) q e h = h.0
number_small l q e h = absurd cc

over_number : (m : ℕ) (s : Scope) (minus : Bool) (n : ℕ) (f : Form Atom) → Always (over_or m s minus n f) (λ p t. t.number ≡ n)
unfolding Always
over_number m s minus n f = (λ l e u l' e' u'. always_any (atom s) _ (λ q a. refl), always_any f _ (λ q a. refl))

term_small : (m : ℕ) (s : Scope) (minus : Bool) → Always (term m s minus) (λ p t. AreSmall p → IsSmall t)
unfolding term Always
term_small m s minus = (
  λ l e u. always_weaker (over_or m s minus 0 (atom_or_nothing s)) (λ p t. t.number ≡ 0) (λ q t. AreSmall ((l ∷ []) ++ q) → IsSmall t)
      (λ q t h small. subst (λ (n : ℕ). n < 2 ^ 64) (sym h) (lit< tt)) (over_number m s minus 0 (atom_or_nothing s)),
  (
    λ l e u. always_weaker (over_or m s minus (number_of l) (atom s)) (λ p t. t.number ≡ number_of l)
        (λ q t. AreSmall ((l ∷ []) ++ q) → IsSmall t) (λ q t h small. subst (λ (n : ℕ). n < 2 ^ 64) (sym h) (number_small l q e small))
        (over_number m s minus (number_of l) (atom s)),
    always_any (atom s) _ (λ q a small. lit< tt),
  ),
)

terms_small : (most m : ℕ) (s : Scope) (minus : Bool) → Always (terms most m s minus) (λ p ts. AreSmall p → Every IsSmall ts)
unfolding terms more_terms Always
terms_small most m s minus =
    always_flagged _ (term m s minus) _ (always_weaker (term m s minus) _ _
    (λ p t h. loop_keeps signs (λ ts l. (None, is_of (Punctuation Minus) l))
    (λ ts minus. Then (allowed (most - length ts) (term (multiple_from m ts) s minus)) (λ t. Give (ts ++ t ∷ [])))
    (λ p ts. AreSmall p → Every IsSmall ts)
    (λ p ts h l e u. always_flagged _ (term (multiple_from m ts) s (is_of (Punctuation Minus) l)) _
    (always_weaker (term (multiple_from m ts) s (is_of (Punctuation Minus) l)) _ _
    (λ q t k small. every_more IsSmall ts t (h (front_small p _ small))
    (k (front_small q _ (rest_small (l ∷ []) _ (rest_small p _ small)))))
    (term_small (multiple_from m ts) s (is_of (Punctuation Minus) l))))
    p (t ∷ []) (λ small. (h small, tt))) (term_small m s minus))

pub sum_small : (most m : ℕ) (s : Scope) → Always (sum most m s) (λ p ts. AreSmall p → Every IsSmall ts)
unfolding sum Always
sum_small most m s = (
  λ l e u. always_weaker (terms most m s false) _ _ (λ q ts h small. h (rest_small (l ∷ []) q small)) (terms_small most m s false),
  (λ l e u. always_weaker (terms most m s true) _ _ (λ q ts h small. h (rest_small (l ∷ []) q small)) (terms_small most m s true), terms_small most m s false),
)

relation_small : (s : Scope) → Always (relation s) (λ p r. AreSmall p → HasSmallNumbers r)
unfolding relation Always
relation_small s = always_weaker (sum most_terms 1 s) _ _
    (λ p left hl. always_any compare _ (λ q sign. always_weaker (sum (most_terms - length left) (multiple_from 1 left) s) _ _
    (λ r right hr small. (hl (front_small p _ small), hr (front_small r _ (rest_small q _ (rest_small p _ small)))))
    (sum_small (most_terms - length left) (multiple_from 1 left) s))) (sum_small most_terms 1 s)

given_small : (s : Scope) → Always (given s) (λ p g. AreSmall p → GivenHasSmallNumbers g)
unfolding given chain independence after_bar function Always
given_small s =
    let env = s.variables in (
      λ l e u. always_any (names env) _ (λ p a l e u. always_any (names env) _
          (λ q b l e u. always_any (names env) _ (λ r c. always_any (more_members _ env _) _ (λ w sets small. tt)))),
      (
        λ l e u. always_any (names env) _ (λ p a l e u. always_any (names env) _
            (λ q b. always_any (more_members _ env _) _ (λ r sets. (λ l e u. always_any (names env) _ (λ w c small. tt), λ small. tt)))),
        (
          λ l e u. always_any (names env) _ (λ p value l e u. always_any (names env) _ (λ q argument small. tt)),
          always_but _ (relation s) _ (always_weaker (relation s) _ _ (λ p r h small. h (front_small p _ small)) (relation_small s)),
        ),
      ),
    )

-- ---- questions

own_line_small : (v : NamesView) (own : OwnLinesView) (b : Bool)
    → Always (own_line v own b) (λ p y. AreSmall p → LinesHaveSmallNumbers own → LinesHaveSmallNumbers y)
unfolding own_line Always
own_line_small v own true = always_weaker (given (scope_of v false)) _ _
    (λ p x h l e u small k. (
      every_more GivenHasSmallNumbers own.givens x k.0
          (h (front_small p ((l ∷ []) ++ []) (front_small (p ++ ((l ∷ []) ++ [])) [] small))),
      k.1,
    )) (given_small (scope_of v false))
own_line_small v own false = always_weaker (relation (scope_of v true)) _ _
    (λ p x h l e u small k. (
      k.0,
      every_more HasSmallNumbers own.rows x k.1
          (h (front_small p ((l ∷ []) ++ []) (front_small (p ++ ((l ∷ []) ++ [])) [] small))),
    )) (relation_small (scope_of v true))

own_lines_small : (g r : ℕ) (v : NamesView) → Always (own_lines g r v) (λ p own. AreSmall p → LinesHaveSmallNumbers own)
unfolding more_own_lines
own_lines_small g r v = loop_keeps own_words (own_keyword g r) (own_line v) (λ p own. AreSmall p → LinesHaveSmallNumbers own)
    (λ p own h l e u. always_weaker (own_line v own (is_of (Keyword (codes "given")) l)) _ _ (λ q y k small. k (rest_small (l ∷ []) _ (rest_small p _ small)) (h (front_small p _ small))) (own_line_small v own (is_of (Keyword (codes "given")) l))) [] no_lines (λ small. (tt, tt))

region_small : (g r : ℕ) (v : NamesView) → Always (region g r v) (λ p x. AreSmall p → LinesHaveSmallNumbers x.lines)
unfolding region Always
region_small g r v = λ l e u. always_any (names_line Variable (length v.variables + auxiliaries_left v) (codes "aux") v) _ (λ p names. always_weaker (own_lines g r names) _ _ (λ q own h small. h (front_small q _ (rest_small p _ (rest_small (l ∷ []) _ small)))) (own_lines_small g r names))

containment_small : (own : OwnLinesView) (v : NamesView) → Always (containment own v) (λ p y. AreSmall p → VerbHasSmallNumbers y)
unfolding containment Always
containment_small own v =
    let g = givens_left most_lines own in
    let r = rows_left most_lines own in
    always_weaker (region g r v) _ _
    (λ p first hf l e u. always_weaker (region (givens_left g first.lines) (rows_left r first.lines) v) _ _
    (λ q second hs. always_any (more_tries (auxiliary_env v second.names) (env_of first.names) (unnamed_sets second.auxiliaries) []) _
    (λ r tries l' e' u' l'' e'' u'' small. (
      hf (front_small p _ small),
      hs
          (front_small q _ (rest_small (l ∷ []) _ (rest_small p _ small))),
    )))
    (region_small (givens_left g first.lines) (rows_left r first.lines) v)) (region_small g r v)

pub relation_line_small : (v : NamesView) → Always (to_end (relation (scope_of v true))) (λ p x. AreSmall p → HasSmallNumbers x)
unfolding Always
relation_line_small v = always_weaker (relation (scope_of v true)) _ _ (λ p x h l e u small. h (front_small p _ small)) (relation_small (scope_of v true))

verb_small : (limits : FileLimits) (own : OwnLinesView) (v : NamesView) → Always (verb limits own v) (λ p y. AreSmall p → VerbHasSmallNumbers y)
unfolding verb Always
verb_small limits own v = (
  λ l e u. always_weaker (to_end (relation (scope_of v true))) (λ p x. AreSmall p → HasSmallNumbers x)
      (λ p x. AreSmall ((l ∷ []) ++ (p ++ [])) → HasSmallNumbers x) (λ p x h small. h
      (front_small p [] (rest_small (l ∷ []) (p ++ []) small))) (relation_line_small v),
  (
    λ l e u. always_any (to_end (distinct (index_of v.rates))) (λ q x. AreSmall ((l ∷ []) ++ (q ++ [])) → Unit {0})
        (λ q x small. tt),
    λ l e u. always_weaker (containment own v) _ _ (λ q y h small. h (rest_small (l ∷ []) q small))
        (containment_small own v),
  ),
)

question_small : (limits : FileLimits) → Always (question limits) (λ p q. AreSmall p → QuestionHasSmallNumbers q)
unfolding question Always
question_small limits = always_any (new_names Variable (names_within limits) no_names) _
    (λ p variables. always_any (names_line Rate most_rates (codes "rates") variables) _
    (λ q names. always_weaker (own_lines most_lines most_lines names) _ _ (λ r own ho. always_weaker (verb limits own names) _ _ (λ w aim ha small.
    let after = rest_small q _ (rest_small p _ small) in (ho (front_small r _ after), ha (front_small w _ (rest_small r _ after))))
    (verb_small limits own names)) (own_lines_small most_lines most_lines names)))

pub file_small : (limits : FileLimits) → Always (file limits) (λ p qs. AreSmall p → Every QuestionHasSmallNumbers qs)
unfolding file more_questions Always
file_small limits = always_weaker (more_questions limits []) _ _ (λ p qs h l e u small. h (front_small p _ small))
    (loop_keeps (Keyword (codes "vars") ∷ []) (λ qs l. (limit_flag (most_questions - length qs), tt {0}))
    (λ qs u. Then (question limits) (λ q. Give (qs ++ q ∷ []))) (λ p qs. AreSmall p → Every QuestionHasSmallNumbers qs)
    (λ p qs h l e u. always_weaker (question limits) _ _ (λ q b k small. every_more QuestionHasSmallNumbers qs b (h (front_small p _ small))
    (k (front_small q _ (rest_small (l ∷ []) _ (rest_small p _ small))))) (question_small limits)) [] [] (λ small. tt))

-- ---- the letters of lines

before_small : (ls more : List Letter) → AreSmall ls → AreSmall more → AreSmall (ls ++ more)
before_small [] more h k = k
before_small (Number n ∷ ls) more h k = (h.0, before_small ls more h.1 k)
before_small (l ∷ ls) more h k = before_small ls more h k

token_small : (line : List ℕ) (start end : ℕ) (kind : TokenKind) (text : List ℕ) (ls : List Letter) → IsText kind text → AreSmall ls
    → AreSmall (letter_of line start end kind ∷ ls)
token_small line start end kinds.Word text ls h k = k
token_small line start end (kinds.Number n) text ls h k = (h.2, k)
token_small line start end (kinds.Symbol s) text ls h k = k

end_small : (m : Option Misspelling) → AreSmall (last_letter m ∷ [])
end_small None = tt
end_small (Some m) = tt

line_small : (line : List ℕ) (at : ℕ) (bytes : List ℕ) (ts : List Token) (m : Option Misspelling) → SpellsUntil at bytes ts m
    → AreSmall (letters_until line ts (last_letter m))
line_small line at bytes [] m h = end_small m
line_small line at bytes (t ∷ ts) m h = token_small line t.start t.end t.kind h.1.text (letters_until line ts (last_letter m)) h.1.spelled
    (line_small line t.end h.0 ts m h.2)

pub lines_small : (n : ℕ) (split : List (List ℕ)) (lines : List LineView) → AreLines n split lines → AreSmall (letters_of_lines lines)
lines_small n [] lines h = subst (λ (ls : List LineView). AreSmall (letters_of_lines ls)) (sym h) tt
lines_small n (bytes ∷ more) lines (inl h) = lines_small (n + 1) more lines h.1
lines_small n (bytes ∷ more) lines (inr h) = subst (λ (ls : List LineView). AreSmall (letters_of_lines ls)) (sym h.2)
    (before_small (letters_until h.0.text h.0.tokens (last_letter h.0.misspelling)) (letters_of_lines h.1)
    (line_small h.0.text 0 h.0.text h.0.tokens h.0.misspelling h.3.spelled) (lines_small (n + 1) more h.1 h.5))

-- ---- files

pub texts_apart : (lines : List LineView) (qs : List BodyView) → Every QuestionHasSmallNumbers qs
    → Every (λ (q : QuestionView). QuestionHasSmallNumbers q.body) (with_texts lines qs)
texts_apart lines [] h = tt
texts_apart lines (q ∷ qs) h = (h.0, texts_apart (drop (question_line_count q) lines) qs h.1)

-- the questions of a file count by numbers of 64 bits
pub file_has_small_numbers : (limits : FileLimits) (bytes : List ℕ) (qs : List QuestionView) → IsFileWithin limits bytes qs
    → Every (λ (q : QuestionView). QuestionHasSmallNumbers q.body) qs
file_has_small_numbers limits bytes qs asked =
    let small = lines_small 1 (split_lines bytes) asked.lines asked.cut in
    let all = always_said (file limits) _ (file_has limits) (λ p qs. AreSmall p → Every QuestionHasSmallNumbers qs) (file_small limits)
    (letters_of_lines asked.lines) asked.tree.0 (said (file limits) with_texts bytes qs asked) small in
    subst (Every (λ (q : QuestionView). QuestionHasSmallNumbers q.body)) asked.says (texts_apart asked.lines asked.tree.0 all)
