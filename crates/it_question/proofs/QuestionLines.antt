-- What the forms of question files put: as many whole lines as are counted of what they say.
use Rattle.std.specs.List.{list_all}
use Rattle.std.specs.Prelude.{codes, is_some, min, if◌then◌else◌, Some}
use Rattle.std.proofs.Common.{◌≡◌, ℕ, zero, suc, ◌+◌, ◌-◌, ◌≤◌, Bool, true, false, List, [], ◌∷◌, ◌++◌, length, None, refl, sym, ap, ◌∙◌, subst, inl, inr, ◌⊎◌, append_assoc, length-append, arith}
use Rattle.std.proofs.Math.Nat.{min-le_left, le-min}
use Rattle.std.proofs.lemmas.List.{append-nil}
use Rattle.it_forms.specs.Letters.{FlaggedLetters}
use Rattle.it_forms.specs.declared.types.Code.TheVariants as codes
use Rattle.it_forms.specs.declared.types.Symbol.TheVariants.{Comma}
use Rattle.it_forms.specs.Forms.{Keyword, Punctuation, Terminal, AreTurns, Then, Give, Spells}
use Rattle.it_forms.specs.Words.{word, flagged_word, limit_flag}
use Rattle.it_forms.proofs.LineEnds.{NoEndAmong, HasNoEnd}
use Rattle.it_syntax.proofs.OneLine.{names_has_no_end, relation_has_no_end, given_has_no_end}
use Rattle.it_syntax.specs.NamesViews.{NamesView, index_of}
use Rattle.it_syntax.specs.Scopes.{Environment, scope_of}
use Rattle.it_syntax.specs.LineForms.{relation, given}
use Rattle.it_question.specs.declared.sizes.FileLimits.{FileLimits}
use Rattle.it_question.specs.NewNames.{NameSortView, Variable, Rate, with_name, no_names}
use Rattle.it_question.specs.QuestionForms.{own_words, own_keyword, new_name, more_new, new_names, names_line, own_line, more_own_lines, once, more_once, distinct, auxiliary, set, part, more_parts, try_line, more_tries, region, region_flag, containment, verb, question, more_questions}
use Rattle.it_question.specs.OwnLines.{OwnLinesView, RegionView}
use Rattle.it_question.specs.Questions.{VerbView, Prove, Eliminate, Contain, BodyView}
use Rattle.it_question.specs.Texts.{own_line_count, region_line_count, verb_line_count, question_line_count}
use Rattle.it_question.specs.TrySets.{Sets}
use Rattle.it_question.specs.ProblemLines.{givens_alone, lines_with}
use Rattle.it_question.specs.TableSizes.{size_flag, table_flag}
use Rattle.it_question.specs.QuestionLimits.{most_questions, most_lines}
use Rattle.it_question.proofs.Puts.{AreTokens, HasLines, Puts, puts_at, no_lines, tokens_then, taken_token, in_line, end_puts, tokens_lines, lines_then, lines_as, line_puts}

-- ---- new names

-- names of one sort after those that there are
abbrev pub with_own : NameSortView → NamesView → List (List ℕ) → NamesView
with_own Variable v own = record { variables = v.variables ++ own; rates = v.rates }
with_own Rate v own = record { variables = v.variables; rates = v.rates ++ own }

-- w has at least `least` more names of this sort than v
pub record IsGrown (sort : NameSortView) (least : ℕ) (v w : NamesView) : Type 0 where
  pub own : List (List ℕ)
  pub is : w ≡ with_own sort v own
  pub some : least ≤ length own

pub not_grown : (sort : NameSortView) (v : NamesView) → IsGrown sort 0 v v
not_grown sort v = record { own = []; is = own_none sort; some = omega arith }
  where
    own_none : (sort : NameSortView) → v ≡ with_own sort v []
    own_none Variable = ap (λ (names : List (List ℕ)). record { variables = names; rates = v.rates }) (sym (append-nil v.variables))
    own_none Rate = ap (λ (names : List (List ℕ)). record { variables = v.variables; rates = names }) (sym (append-nil v.rates))

pub grown_more : (sort : NameSortView) (least : ℕ) (v w : NamesView) (name : List ℕ) → IsGrown sort least v w → IsGrown sort 1 v (with_name sort w name)
grown_more sort least v w name g = record {
  own = g.own ++ name ∷ [];
  is = ap (λ (u : NamesView). with_name sort u name) g.is
      ∙ own_more sort;
  some = omega (arith, length-append g.own (name ∷ []));
}
  where
    own_more : (sort : NameSortView) → with_name sort (with_own sort v g.own) name ≡ with_own sort v (g.own ++ name ∷ [])
    own_more Variable = ap (λ (names : List (List ℕ)). record { variables = names; rates = v.rates }) (append_assoc v.variables g.own (name ∷ []))
    own_more Rate = ap (λ (names : List (List ℕ)). record { variables = v.variables; rates = names }) (append_assoc v.rates g.own (name ∷ []))

pub new_name_has_no_end : (sort : NameSortView) (most : ℕ) (v : NamesView) → HasNoEnd (new_name sort most v)
unfolding HasNoEnd new_name
new_name_has_no_end sort most v = refl

more_new_has_no_end : (sort : NameSortView) (most : ℕ) (v : NamesView) → HasNoEnd (more_new sort most v)
unfolding HasNoEnd more_new
more_new_has_no_end sort most v = (refl, λ v u. (new_name_has_no_end sort most v, λ w. tt))

one_more_name : (sort : NameSortView) (least most : ℕ) (v w y : NamesView) (m k : FlaggedLetters) → IsGrown sort least v w
    → Spells (new_name sort most w) y m k → IsGrown sort 1 v y
unfolding new_name Spells
one_more_name sort least most v w y m k g s = subst (IsGrown sort 1 v) s.2 (grown_more sort least v w _ g)

more_names_grow : (sort : NameSortView) (most : ℕ) (v w y : NamesView) (m k : FlaggedLetters) → IsGrown sort 1 v w
    → Spells (more_new sort most w) y m k → IsGrown sort 1 v y
unfolding more_new Spells
more_names_grow sort most v w y m k g s = turns s.0 w m g s.1
  where
    turns : (n : ℕ) (w : NamesView) (m : FlaggedLetters) → IsGrown sort 1 v w
        → AreTurns (λ (w : NamesView). record { kinds = Punctuation Comma ∷ []; says = λ l. (None, tt {0}) })
        (λ w u. Spells (Then (new_name sort most w) (λ more. Give more))) n w y m k → IsGrown sort 1 v y
    turns zero w m g t = subst (IsGrown sort 1 v) t.0 g
    turns (suc n) w m g t = turns n t.2 t.3 (subst (IsGrown sort 1 v) t.5.3.0 (one_more_name sort 1 most v w t.5.0 t.1 t.5.1 g t.5.2)) t.6

pub new_names_lines : (sort : NameSortView) (most : ℕ) (v y : NamesView) (m k : FlaggedLetters) → Spells (new_names sort most v) y m k
    → Puts (HasLines 1) m k × IsGrown sort 1 v y
unfolding new_names Spells
new_names_lines sort most v y m k s =
    let grown = more_names_grow sort most v s.0 s.3.0 s.1 s.3.1 (one_more_name sort 0 most v v s.0 m s.1 (not_grown sort v) s.2) s.3.2 in
    let tokens = tokens_then (in_line (new_name sort most v) (new_name_has_no_end sort most v) s.0 m s.1 s.2)
    (in_line (more_new sort most s.0) (more_new_has_no_end sort most s.0) s.3.0 s.1 s.3.1 s.3.2) in
    (puts_at (tokens_lines 0 tokens (end_puts _ s.3.3.0 s.3.1 s.3.3.1 refl s.3.3.2)) s.3.3.3.1, subst (IsGrown sort 1 v) s.3.3.3.0 grown)

-- a line with names, or neither
abbrev OneOrNone : ℕ → NameSortView → NamesView → NamesView → Type 0
OneOrNone i sort v y = ((i ≡ 1) × IsGrown sort 1 v y) ⊎ ((i ≡ 0) × (v ≡ y))

names_line_lines : (sort : NameSortView) (most : ℕ) (w : List ℕ) (v y : NamesView) (m k : FlaggedLetters)
    → Spells (names_line sort most w v) y m k → (i : ℕ) × Puts (HasLines i) m k × OneOrNone i sort v y
unfolding names_line Spells
names_line_lines sort most w v y m k (inl s) = let l = new_names_lines sort most v y s.1 k s.3
    in (1, tokens_lines 0 (taken_token (word w) s.0 m s.1 refl s.2) l.0, inl (refl, l.1))
names_line_lines sort most w v y m k (inr s) = (0, no_lines s.1, inr (refl, s.0))

-- ---- lines that make a count grow by as many as they are

pub record Grows {A : Type 0} (count : A → ℕ) (a y : A) (m k : FlaggedLetters) : Type 0 where
  pub lines : ℕ
  pub puts : Puts (HasLines lines) m k
  pub grows : count y ≡ count a + lines

pub turns_grow : {A B : Type 0} (t : A → Terminal B) (Step : A → B → A → FlaggedLetters → FlaggedLetters → Type 0) (count : A → ℕ)
    → ((a : A) → NoEndAmong (t a).kinds)
    → ((a : A) (b : B) (c : A) (m k : FlaggedLetters) → Step a b c m k → (i : ℕ) × Puts (HasLines (suc i)) m k
    × (count c ≡ count a + suc i)) → (n : ℕ) (a y : A) (m k : FlaggedLetters) → AreTurns t Step n a y m k → Grows count a y m k
turns_grow t Step count i h zero a y m k s = record { lines = 0; puts = no_lines s.1; grows = let e = ap count s.0 in omega (arith, e) }
turns_grow t Step count i h (suc n) a y m k s =
    let first = h a s.0 s.2 s.1 s.3 s.5 in
    let more = turns_grow t Step count i h n s.2 y s.3 k s.6 in
    record {
      lines = suc first.0 + more.lines;
      puts = lines_then (suc first.0) more.lines (tokens_lines first.0 (taken_token (t a) s.0 m s.1 (i a) s.4) first.1) more.puts;
      grows = omega (arith, more.grows, first.2);
    }

own_line_lines : (v : NamesView) (own : OwnLinesView) (b : Bool) (y : OwnLinesView) (m k : FlaggedLetters) → Spells (own_line v own b) y m k
    → (i : ℕ) × Puts (HasLines (suc i)) m k × (own_line_count y ≡ own_line_count own + suc i)
unfolding own_line Spells
own_line_lines v own true y m k s = (
  0,
  puts_at (line_puts (given (scope_of v false)) (given_has_no_end _) s.0 m s.1 s.2) s.3.1,
  sym
      (ap own_line_count s.3.0) ∙ omega (arith, length-append own.givens (s.0 ∷ [])),
)
own_line_lines v own false y m k s = (
  0,
  puts_at (line_puts (relation (scope_of v true)) (relation_has_no_end _) s.0 m s.1 s.2) s.3.1,
  sym
      (ap own_line_count s.3.0) ∙ omega (arith, length-append own.rows (s.0 ∷ [])),
)

own_lines_lines : (g r : ℕ) (v : NamesView) (own y : OwnLinesView) (m k : FlaggedLetters) → Spells (more_own_lines g r v own) y m k
    → Grows own_line_count own y m k
unfolding more_own_lines Spells
own_lines_lines g r v own y m k s = turns_grow (λ (own : OwnLinesView). record { kinds = own_words; says = own_keyword g r own })
    (λ own b. Spells (own_line v own b)) own_line_count (λ own. refl) (λ own b c m k t. own_line_lines v own b c m k t) s.0 own y m k s.1

-- ---- `try` lines

part_has_no_end : (aux env : Environment) (sets : Sets) → HasNoEnd (part aux env sets)
unfolding HasNoEnd part auxiliary set
part_has_no_end aux env sets = (refl, λ i. (refl, λ u. ((refl, λ u. tt, names_has_no_end env), λ s. tt)))

parts_has_no_end : (aux env : Environment) (sets : Sets) → HasNoEnd (more_parts aux env sets)
unfolding HasNoEnd more_parts
parts_has_no_end aux env sets = (refl, λ sets u. (part_has_no_end aux env sets, λ more. tt))

try_line_lines : (aux env : Environment) (sets : Sets) (y : List ℕ) (m k : FlaggedLetters) → Spells (try_line aux env sets) y m k → Puts (HasLines 1) m k
unfolding try_line Spells
try_line_lines aux env sets y m k s =
    let tokens = tokens_then (in_line (part aux env sets) (part_has_no_end aux env sets) s.0 m s.1 s.2)
    (in_line (more_parts aux env s.0) (parts_has_no_end aux env s.0) s.3.0 s.1 s.3.1 s.3.2) in
    puts_at (tokens_lines 0 tokens (end_puts _ s.3.3.0 s.3.1 s.3.3.1 refl s.3.3.2)) s.3.3.3.1

tries_lines : (aux env : Environment) (sets : Sets) (ts y : List (List ℕ)) (m k : FlaggedLetters)
    → Spells (more_tries aux env sets ts) y m k → Grows length ts y m k
unfolding more_tries Spells
tries_lines aux env sets ts y m k s = turns_grow (λ (ts : List (List ℕ)). record { kinds = Keyword (codes "try") ∷ []; says = λ l. (if list_all is_some sets then Some codes.Word else limit_flag (most_lines - length ts), tt {0}) }) (λ ts u. Spells (Then (try_line aux env sets) (λ t. Give (ts ++ t ∷ [])))) length (λ ts. refl) (λ ts u c m k t. (0, puts_at (try_line_lines aux env sets t.0 m t.1 t.2) t.3.1, sym (ap length t.3.0) ∙ omega (arith, length-append ts (t.0 ∷ [])))) s.0 ts y m k s.1

-- ---- regions

one_line : (n : ℕ) → 1 ≤ n → min 1 n ≡ 1
one_line n h = let small = min-le_left 1 n in let some : 1 ≤ min 1 n = le-min (omega arith) h in omega (arith, small, some)

-- an `aux` line stands there where the region has auxiliaries
aux_lines : (i : ℕ) (v y : NamesView) → OneOrNone i Variable v y → i ≡ min 1 (length y.variables - length v.variables)
aux_lines i v y (inl h) =
    let e = h.1.some in
    let l = ap (λ (u : NamesView). length u.variables) h.1.is ∙ length-append v.variables h.1.own in
    h.0 ∙ sym (one_line (length y.variables - length v.variables) (omega (arith, e, l)))
aux_lines i v y (inr h) = let e : length y.variables - length v.variables ≡ 0 = let l = ap (λ (u : NamesView). length u.variables) h.1
    in omega (arith, l) in h.0 ∙ sym (ap (min 1) e)

region_lines : (g r : ℕ) (v : NamesView) (y : RegionView) (m k : FlaggedLetters) → Spells (region g r v) y m k → Puts (HasLines (region_line_count y)) m k
unfolding region Spells
region_lines g r v y m k s =
    let names = names_line_lines Variable _ (codes "aux") v s.3.0 s.1 s.3.1 s.3.2 in
    let own = own_lines_lines g r s.3.0 _ s.3.3.0 s.3.1 s.3.3.1 s.3.3.2 in
    let all = lines_then 1 (names.0 + own.lines) (end_puts _ s.0 m s.1 refl s.2) (lines_then names.0 own.lines names.1 own.puts) in
    subst (λ (x : RegionView). Puts (HasLines (region_line_count x)) m k) s.3.3.3.0
    (lines_as (1 + (names.0 + own.lines)) _ (puts_at all s.3.3.3.1) (omega (arith, own.grows, aux_lines names.0 v s.3.0 names.2)))

-- ---- questions

distinct_has_no_end : (env : Environment) → HasNoEnd (distinct env)
unfolding HasNoEnd distinct once more_once
distinct_has_no_end env = (refl, λ first. (refl, λ seen u. (refl, λ i. tt)))

some_lines : {m n k : FlaggedLetters} (i : ℕ) → 1 ≤ i → Puts AreTokens m n → Puts (HasLines i) n k → Puts (HasLines i) m k
some_lines zero le p q = absurd (omega (arith, le))
some_lines (suc i) le p q = tokens_lines i p q

containment_lines : (own : OwnLinesView) (v : NamesView) (y : VerbView) (m k : FlaggedLetters) → Spells (containment own v) y m k
    → Puts (HasLines (verb_line_count y)) m k
unfolding containment Spells
containment_lines own v y m k s =
    let first = region_lines _ _ v s.0 m s.1 s.2 in
    let second = region_lines _ _ v s.3.3.0 s.3.1 s.3.3.1 s.3.3.2 in
    let tries = tries_lines _ _ _ [] s.3.3.3.0 s.3.3.1 s.3.3.3.1 s.3.3.3.2 in
    let contain = tokens_lines 0 (taken_token (flagged_word (codes "contain") (size_flag s.0.names (lines_with own s.0))) s.3.3.3.3.0 s.3.3.3.1 s.3.3.3.3.1 refl s.3.3.3.3.2) (end_puts _ s.3.3.3.3.3.0 s.3.3.3.3.1 s.3.3.3.3.3.1 refl s.3.3.3.3.3.2) in
    let i = region_line_count s.0 in
    let j = region_line_count s.3.3.0 in
    let after = some_lines (j + (tries.lines + 1)) (omega arith) (taken_token (word (codes "region")) s.3.0 s.1 s.3.1 refl s.3.2) (lines_then j (tries.lines + 1) second (lines_then tries.lines 1 tries.puts contain)) in
    subst (λ (x : VerbView). Puts (HasLines (verb_line_count x)) m k) s.3.3.3.3.3.3.0
    (lines_as (i + (j + (tries.lines + 1))) _ (puts_at (lines_then i (j + (tries.lines + 1)) first after) s.3.3.3.3.3.3.1)
    (omega (arith, tries.grows)))

verb_has_lines : (y : VerbView) → 1 ≤ verb_line_count y
verb_has_lines (Prove r) = omega arith
verb_has_lines (Eliminate rates) = omega arith
verb_has_lines (Contain first second tries) = omega arith

verb_lines : (limits : FileLimits) (own : OwnLinesView) (v : NamesView) (y : VerbView) (m k : FlaggedLetters) → Spells (verb limits own v) y m k
    → Puts (HasLines (verb_line_count y)) m k
unfolding verb Spells
verb_lines limits own v y m k (inl s) = subst (λ (x : VerbView). Puts (HasLines (verb_line_count x)) m k) s.3.3.0
    (puts_at (tokens_lines 0 (taken_token (flagged_word (codes "prove") (table_flag limits v own)) s.0 m s.1 refl s.2)
    (line_puts (relation (scope_of v true)) (relation_has_no_end _) s.3.0 s.1 s.3.1 s.3.2)) s.3.3.1)
verb_lines limits own v y m k (inr (inl s)) = subst (λ (x : VerbView). Puts (HasLines (verb_line_count x)) m k) s.3.3.0
    (puts_at (tokens_lines 0 (taken_token (flagged_word (codes "eliminate") (table_flag limits v (givens_alone own))) s.0 m s.1 refl s.2)
    (line_puts (distinct (index_of v.rates)) (distinct_has_no_end _) s.3.0 s.1 s.3.1 s.3.2)) s.3.3.1)
verb_lines limits own v y m k (inr (inr s)) = some_lines (verb_line_count y) (verb_has_lines y)
    (taken_token (flagged_word (codes "region") (region_flag v)) s.0 m s.1 refl s.2) (containment_lines own v y s.1 k s.3)

-- a `rates` line stands there where there are rates
rates_lines : (i : ℕ) (v y : NamesView) → v.rates ≡ [] → OneOrNone i Rate v y → i ≡ min 1 (length y.rates)
rates_lines i v y e (inl h) = h.0 ∙ sym (ap (λ (u : NamesView). min 1 (length u.rates)) h.1.is
    ∙ one_line (length (v.rates ++ h.1.own)) (let some = h.1.some in omega (arith, some, length-append v.rates h.1.own)))
rates_lines i v y e (inr h) = h.0 ∙ sym (ap (λ (u : NamesView). min 1 (length u.rates)) (sym h.1) ∙ ap (λ (xs : List (List ℕ)). min 1 (length xs)) e)

-- A question, after its word `vars`, is as many lines as are counted of it.
pub question_lines : (limits : FileLimits) (q : BodyView) (m k : FlaggedLetters) → Spells (question limits) q m k → Puts (HasLines (question_line_count q)) m k
unfolding question Spells
question_lines limits q m k s =
    let variables = new_names_lines Variable _ no_names s.0 m s.1 s.2 in
    let names = names_line_lines Rate _ (codes "rates") s.0 s.3.0 s.1 s.3.1 s.3.2 in
    let own = own_lines_lines _ _ s.3.0 _ s.3.3.0 s.3.1 s.3.3.1 s.3.3.2 in
    let aim = verb_lines limits s.3.3.0 s.3.0 s.3.3.3.0 s.3.3.1 s.3.3.3.1 s.3.3.3.2 in
    let j = verb_line_count s.3.3.3.0 in
    let all = lines_then 1 (names.0 + (own.lines + j)) variables.0 (lines_then names.0 (own.lines + j) names.1 (lines_then own.lines j own.puts aim)) in
    subst (λ (x : BodyView). Puts (HasLines (question_line_count x)) m k) s.3.3.3.3.0 (lines_as (1 + (names.0 + (own.lines + j))) _ (puts_at all s.3.3.3.3.1)
    (omega (arith, own.grows, rates_lines names.0 s.0 s.3.0 (ap (λ (u : NamesView). u.rates) variables.1.is) names.2)))

-- how many lines questions have
abbrev pub all_lines : List BodyView → ℕ
all_lines [] = 0
all_lines (q ∷ qs) = question_line_count q + all_lines qs

lines_append : (qs : List BodyView) (q : BodyView) → all_lines (qs ++ q ∷ []) ≡ all_lines qs + question_line_count q
lines_append [] q = omega arith
lines_append (p ∷ qs) q = let e = lines_append qs q in omega (arith, e)

pub questions_lines : (limits : FileLimits) (qs ys : List BodyView) (m k : FlaggedLetters) → Spells (more_questions limits qs) ys m k
    → Grows all_lines qs ys m k
unfolding more_questions Spells
questions_lines limits qs ys m k s =
    turns_grow (λ (qs : List BodyView). record { kinds = Keyword (codes "vars") ∷ []; says = λ l. (limit_flag (most_questions - length qs), tt {0}) })
    (λ qs u. Spells (Then (question limits) (λ q. Give (qs ++ q ∷ [])))) all_lines (λ qs. refl)
    (λ qs u c m k t. let q = t.0 in let i = min 1 (length q.names.rates) + own_line_count q.lines + verb_line_count q.verb in (
      i,
      lines_as (question_line_count q) (suc i) (puts_at (question_lines limits q m t.1 t.2) t.3.1) (omega arith),
      sym (ap all_lines t.3.0)
          ∙ lines_append qs q ∙ omega arith,
    ))
    s.0 qs ys m k s.1
