-- The questions that are read keep the limits, and their tables aren't too large.
use Rattle.std.proofs.Common.{◌≡◌, ℕ, zero, suc, ◌+◌, ◌-◌, ◌≤◌, ◌<◌, ◌^◌, Bool, true, false, cond, nat_lt, List, [], ◌∷◌, ◌++◌, length, Option, None, Some, Ok, refl, ap, ◌∙◌, arith, length-append}
use Rattle.std.specs.Bool.{OnFalse}
use Rattle.std.specs.Prelude.{All, ◌||◌, eqb, ◌==◌, bytes_eq, codes, unwrap_or, is_some, if◌then◌else◌}
use Rattle.std.specs.List.{IsDistinct, AllByRecursion, list_any, list_all}
use Rattle.std.proofs.Math.Nat.{min-le_left, min-le_right}
use Rattle.std.proofs.lemmas.Bool.{OnFalse_from}
use Rattle.std.proofs.lemmas.Bool.Decides.{nat_tests}
use Rattle.std.proofs.lemmas.List.{length-map}
use Rattle.std.proofs.lemmas.List.Elements.{All-nil, All-cons, All-head, All-tail, All-append, All-map}
use Rattle.std.proofs.lemmas.List.Quantifiers.{position-Some}
use Rattle.it_closure.specs.Sizes.{most_entries, table_size}
use Rattle.it_demand.specs.QuestionSpaces.{space_of}
use Rattle.it_space.specs.Spaces.{IsSpace, most_rates, most_variables}
use Rattle.it_forms.specs.declared.types.Code.TheVariants as codes
use Rattle.it_forms.specs.declared.types.Symbol.TheVariants.{Comma, Semicolon}
use Rattle.it_forms.specs.Letters.{Letter}
use Rattle.it_forms.specs.Forms.{Keyword, Punctuation, is_of}
use Rattle.it_forms.specs.FormReading.{read}
use Rattle.it_forms.specs.Words.{text_of, limit_flag, to_end}
use Rattle.it_forms.proofs.FormParts.{Always, always_weaker, loop_keeps, each_keeps, line_keeps, value_read}
use Rattle.it_syntax.specs.Givens.{GivenView, IsRelationOf, IsGivenOf}
use Rattle.it_syntax.specs.Meaning.{RelationView}
use Rattle.it_syntax.specs.LineForms.{names, relation, given}
use Rattle.it_syntax.specs.MeasureWords.{is_measure}
use Rattle.it_syntax.specs.NamesViews.{NamesView, index_of}
use Rattle.it_syntax.specs.Scopes.{Environment, env_of, scope_of}
use Rattle.it_syntax.proofs.FormLimits.{Knows, empty_is_set, names_keep, relation_keeps, given_keeps, knows_names, scope_covers, variables_covered}
use Rattle.it_question.specs.declared.sizes.FileLimits.{FileLimits}
use Rattle.it_question.specs.Limits.{AreLinesOver, IsRegionOf, IsTryOf, AreRatesOf, IsVerbOver, IsQuestion, IsQuestionWithin}
use Rattle.it_question.specs.NewNames.{NameSortView, Variable, Rate, with_name, no_names, is_taken, new_flag, once_flag}
use Rattle.it_question.specs.QuestionForms.{count, new_name, more_new, new_names, names_line, own_line, own_words, own_keyword, more_own_lines, own_lines, once, more_once, distinct, auxiliary, set, part, more_parts, try_line, more_tries, region, region_flag, containment, verb, question, more_questions, file}
use Rattle.it_question.specs.QuestionLimits.{auxiliaries_left, givens_left, most_lines, most_names, most_questions, names_within, rows_left, usual}
use Rattle.it_question.specs.OwnLines.{OwnLinesView, RegionView, no_lines}
use Rattle.it_question.specs.Sorts.{AreQuestionNames}
use Rattle.it_question.specs.Questions.{VerbView, Prove, Eliminate, Contain, BodyView}
use Rattle.it_question.specs.ProblemLines.{givens_alone, names_under, lines_under}
use Rattle.it_question.specs.TableSizes.{problem_of_lines, size_flag, table_flag, HasTableWithin}
use Rattle.it_question.specs.TrySets.{Sets, unnamed_sets, with_set, auxiliary_env}
use Rattle.it_question.proofs.QuestionLines.{IsGrown, not_grown, grown_more}

-- ---- names

count_more : (sort : NameSortView) (v : NamesView) (w : List ℕ) → count sort (with_name sort v w) ≡ suc (count sort v)
count_more Variable v w = omega (arith, length-append v.variables (w ∷ []))
count_more Rate v w = omega (arith, length-append v.rates (w ∷ []))

name_allowed : (measure taken : Bool) (n : ℕ) → new_flag measure taken n ≡ None → 1 ≤ n
name_allowed true taken n e = absurd cc
name_allowed false true n e = absurd cc
name_allowed false false zero e = absurd cc
name_allowed false false (suc n) e = omega arith

-- names after those that there are, and no more than may be
record AreNamed (sort : NameSortView) (most : ℕ) (v w : NamesView) : Type 0 where
  grown : IsGrown sort 1 v w
  few : count sort w ≤ most

name_keeps : (sort : NameSortView) (least most : ℕ) (v w : NamesView) → IsGrown sort least v w → Always (new_name sort most w) (λ p y. AreNamed sort most v y)
unfolding new_name Always
name_keeps sort least most v w g l e m =
    let some = name_allowed (is_measure (text_of l)) (is_taken w (text_of l)) (most - count sort w) m in
    record { grown = grown_more sort least v w (text_of l) g; few = omega (arith, some, count_more sort w (text_of l)) }

more_names_keep : (sort : NameSortView) (most : ℕ) (v w : NamesView) → AreNamed sort most v w → Always (more_new sort most w) (λ p y. AreNamed sort most v y)
unfolding more_new
more_names_keep sort most v w h = each_keeps (Punctuation Comma ∷ []) (λ a l. (None, tt {0})) (λ a u. new_name sort most a) (λ v more. more)
    (AreNamed sort most v) (λ a ha l e m. name_keeps sort 1 most v a ha.grown) w h

new_names_keep : (sort : NameSortView) (most : ℕ) (v : NamesView) → Always (new_names sort most v) (λ p y. AreNamed sort most v y)
unfolding new_names Always
new_names_keep sort most v = always_weaker (new_name sort most v) _ _ (λ p a ha. always_weaker (more_new sort most a) _ _
    (λ q b hb l e m. hb) (more_names_keep sort most v a ha)) (name_keeps sort 0 most v v (not_grown sort v))

-- a line with names, or none
record MayBeNamed (sort : NameSortView) (most : ℕ) (v w : NamesView) : Type 0 where
  grown : IsGrown sort 0 v w
  few : count sort v ≤ most → count sort w ≤ most

names_line_keeps : (sort : NameSortView) (most : ℕ) (keyword : List ℕ) (v : NamesView)
    → Always (names_line sort most keyword v) (λ p y. MayBeNamed sort most v y)
unfolding names_line Always
names_line_keeps sort most keyword v = (
  λ l e m. always_weaker (new_names sort most v) _ _ (λ p y h.
      record { grown = record { own = h.grown.own; is = h.grown.is; some = omega arith }; few = λ k. h.few }) (new_names_keep sort most v),
  record { grown = not_grown sort v; few = λ k. k },
)

-- ---- `given` and `row` lines

some_allowed : (n : ℕ) → limit_flag n ≡ None → 1 ≤ n
some_allowed zero e = absurd cc
some_allowed (suc n) e = omega arith

-- at most g `given` lines and r `row` lines, over these names
record AreOwn (g r : ℕ) (v : NamesView) (own : OwnLinesView) : Type 0 where
  few_givens : length own.givens ≤ g
  few_rows : length own.rows ≤ r
  givens : All (IsGivenOf (length v.variables)) own.givens
  rows : All (IsRelationOf (length v.variables) (length v.rates)) own.rows

all_and_one : {X : Type 0} (P : X → Type 0) (xs : List X) (x : X) → All P xs → P x → All P (xs ++ x ∷ [])
all_and_one P xs x h k = All-append P xs (x ∷ []) h (All-cons P x [] k (All-nil P))

own_line_keeps : (g r : ℕ) (v : NamesView) (own : OwnLinesView) (b : Bool) → AreOwn g r v own
    → limit_flag (if b then givens_left g own else rows_left r own) ≡ None → Always (own_line v own b) (λ p y. AreOwn g r v y)
unfolding own_line Always
own_line_keeps g r v own true h m =
    let some = some_allowed (givens_left g own) m in
    let more : (x : GivenView) → IsGivenOf (length v.variables) x
    → AreOwn g r v (record own { givens = own.givens ++ x ∷ [] }) = λ x hx.
    record {
      few_givens = omega (arith, some, length-append own.givens (x ∷ []));
      few_rows = h.few_rows;
      givens = all_and_one
          (IsGivenOf (length v.variables)) own.givens x h.givens hx;
      rows = h.rows;
    } in
    always_weaker (to_end (given (scope_of v false))) (λ p x. IsGivenOf (length v.variables) x)
    (λ p x. AreOwn g r v (record own { givens = own.givens ++ x ∷ [] })) (λ p x hx. more x hx)
    (line_keeps (given (scope_of v false)) (IsGivenOf (length v.variables)) (given_keeps (scope_of v false) (length v.variables) (variables_covered v)))
own_line_keeps g r v own false h m =
    let some = some_allowed (rows_left r own) m in
    let more : (x : RelationView) → IsRelationOf (length v.variables) (length v.rates) x
    → AreOwn g r v (record own { rows = own.rows ++ x ∷ [] }) = λ x hx.
    record {
      few_givens = h.few_givens;
      few_rows = omega (arith, some, length-append own.rows (x ∷ []));
      givens = h.givens;
      rows
          = all_and_one (IsRelationOf (length v.variables) (length v.rates)) own.rows x h.rows hx;
    } in
    always_weaker (to_end (relation (scope_of v true))) (λ p x. IsRelationOf (length v.variables) (length v.rates) x)
    (λ p x. AreOwn g r v (record own { rows = own.rows ++ x ∷ [] })) (λ p x hx. more x hx)
    (line_keeps (relation (scope_of v true)) (IsRelationOf (length v.variables) (length v.rates))
    (relation_keeps (scope_of v true) (length v.variables) (length v.rates) (scope_covers v true)))

own_lines_keep : (g r : ℕ) (v : NamesView) → Always (own_lines g r v) (λ p own. AreOwn g r v own)
unfolding more_own_lines
own_lines_keep g r v =
    loop_keeps own_words (own_keyword g r) (own_line v) (λ p own. AreOwn g r v own) (λ p own h l e m. own_line_keeps g r v own (is_of (Keyword (codes "given")) l) h m) [] no_lines
    (record {
      few_givens = omega arith;
      few_rows = omega arith;
      givens = All-nil (IsGivenOf (length v.variables));
      rows = All-nil
          (IsRelationOf (length v.variables) (length v.rates));
    })

lines_over : (g r : ℕ) (v : NamesView) (own : OwnLinesView) → g ≤ 64 → r ≤ 64 → AreOwn g r v own → AreLinesOver v own
lines_over g r v own few_g few_r h = record {
  few_givens = omega (arith, few_g, h.few_givens);
  few_rows = omega (arith, few_r, h.few_rows);
  givens = h.givens;
  rows = h.rows;
}

-- ---- the rates of an `eliminate` line

-- the names are those of the rates of a vocabulary
knows_rates : (v : NamesView) → Knows (index_of v.rates) (length v.rates)
knows_rates v w i e = (position-Some (bytes_eq w) v.rates i [] e).0

unseen : (m : ℕ) (measure : Bool) (seen : List ℕ) (o : Option ℕ) → ((i : ℕ) → o ≡ Some i → i < m)
    → once_flag measure (λ i. list_any (λ j. j == i) seen) o ≡ None → (unwrap_or o 0 < m)
    × (list_any (λ j. j == unwrap_or o 0) seen ≡ false)
unseen m true seen o k e = absurd cc
unseen m false seen None k e = absurd cc
unseen m false seen (Some i) k e = (k i refl, by_test (list_any (λ j. j == i) seen) e)
  where
    by_test : (b : Bool) → cond b (Some codes.Twice) None ≡ None → b ≡ false
    by_test true e = absurd cc
    by_test false e = refl

once_keeps : (env : Environment) (m : ℕ) → Knows env m → (seen : List ℕ) → Always (once env seen) (λ p i. (i < m) × (list_any (λ j. j == i) seen ≡ false))
unfolding once Always
once_keeps env m k seen l e u = unseen m (is_measure (text_of l)) seen (env (text_of l)) (k (text_of l)) u

both_are_false : (a b : Bool) → (a || b) ≡ false → (a ≡ false) × (b ≡ false)
both_are_false true b e = absurd cc
both_are_false false b e = (refl, e)

distinct_more : (seen : List ℕ) (i : ℕ) → IsDistinct eqb seen → list_any (λ j. j == i) seen ≡ false → IsDistinct eqb (seen ++ i ∷ [])
unfolding IsDistinct
distinct_more [] i d e = (tt, tt)
distinct_more (j ∷ seen) i d e = let b = both_are_false (j == i) (list_any (λ j. j == i) seen) e in (others seen d.0 b.0, distinct_more seen i d.1 b.1)
  where
    others : (xs : List ℕ) → AllByRecursion (λ x. eqb j x ≡ false) xs → eqb j i ≡ false → AllByRecursion (λ x. eqb j x ≡ false) (xs ++ i ∷ [])
    others [] a f = (f, tt)
    others (x ∷ xs) a f = (a.0, others xs a.1 f)

one_distinct : (i : ℕ) → IsDistinct eqb (i ∷ [])
unfolding IsDistinct
one_distinct i = (tt, tt)

distinct_keeps : (env : Environment) (m : ℕ) → Knows env m → Always (distinct env) (λ p rates. AreRatesOf m rates)
unfolding distinct more_once Always
distinct_keeps env m k = always_weaker (once env []) _ _
    (λ p i hi. each_keeps (Punctuation Comma ∷ []) (λ a l. (None, tt {0})) (λ seen u. once env seen) (λ seen i. seen ++ i ∷ []) (AreRatesOf m)
    (λ seen hs l e u. always_weaker (once env seen) _ _ (λ q j hj.
    record {
      some = omega (arith, length-append seen (j ∷ []));
      within = all_and_one
          (λ (r : ℕ). r < m) seen j hs.within hj.0;
      distinct = distinct_more seen j hs.distinct hj.1;
    }) (once_keeps env m k seen)) (i ∷ [])
    (record {
      some = omega arith;
      within = all_and_one (λ (r : ℕ). r < m) [] i
          (All-nil (λ (r : ℕ). r < m)) hi.0;
      distinct = one_distinct i;
    })) (once_keeps env m k [])

-- ---- `try` lines

abbrev IsWithin : ℕ → Option ℕ → Type 0
IsWithin n o = unwrap_or o 0 < 2 ^ n

-- four places, and what is there is a set of n variables
record AreWithin (n : ℕ) (sets : Sets) : Type 0 where
  four : length sets ≡ 4
  within : All (IsWithin n) sets

unnamed_within : (n k : ℕ) → AreWithin n (unnamed_sets k)
unnamed_within n k = by_count k
  where
    none : IsWithin n None
    none = empty_is_set n

    empty : IsWithin n (Some 0)
    empty = empty_is_set n

    of_four : (a b c d : Option ℕ) → IsWithin n a → IsWithin n b → IsWithin n c → IsWithin n d → AreWithin n (a ∷ b ∷ c ∷ d ∷ [])
    of_four a b c d ha hb hc hd = record {
      four = refl;
      within = All-cons (IsWithin n) a (b ∷ c ∷ d ∷ []) ha
          (All-cons (IsWithin n) b (c ∷ d ∷ []) hb (All-cons (IsWithin n) c (d ∷ []) hc
          (All-cons (IsWithin n) d [] hd (All-nil (IsWithin n)))));
    }

    by_count : (k : ℕ) → AreWithin n (unnamed_sets k)
    by_count zero = of_four (Some 0) (Some 0) (Some 0) (Some 0) empty empty empty empty
    by_count (suc zero) = of_four None (Some 0) (Some 0) (Some 0) none empty empty empty
    by_count (suc (suc zero)) = of_four None None (Some 0) (Some 0) none none empty empty
    by_count (suc (suc (suc zero))) = of_four None None None (Some 0) none none none empty
    by_count (suc (suc (suc (suc k)))) = of_four None None None None none none none none

with_set_within : (n : ℕ) (sets : Sets) (i set : ℕ) → set < 2 ^ n → AreWithin n sets → AreWithin n (with_set sets i set)
with_set_within n sets i set small h = record { four = same_length sets i ∙ h.four; within = all_within sets i h.within }
  where
    same_length : (sets : Sets) (i : ℕ) → length (with_set sets i set) ≡ length sets
    same_length [] i = refl
    same_length (s ∷ sets) zero = refl
    same_length (s ∷ sets) (suc i) = ap suc (same_length sets i)

    all_within : (sets : Sets) (i : ℕ) → All (IsWithin n) sets → All (IsWithin n) (with_set sets i set)
    all_within [] i h = All-nil (IsWithin n)
    all_within (s ∷ sets) zero h = All-cons (IsWithin n) (Some set) sets small (All-tail (IsWithin n) s sets h)
    all_within (s ∷ sets) (suc i) h = All-cons (IsWithin n) s (with_set sets i set) (All-head (IsWithin n) s sets h)
        (all_within sets i (All-tail (IsWithin n) s sets h))

part_keeps : (aux env : Environment) (n : ℕ) → Knows env n → (sets : Sets) → AreWithin n sets → Always (part aux env sets) (λ p y. AreWithin n y)
unfolding part auxiliary set Always
part_keeps aux env n k sets h = λ w e m l' e' m'. (
  λ l e m. with_set_within n sets (unwrap_or (aux (text_of w)) 0) 0 (empty_is_set n) h,
  always_weaker (names env) (λ p s. s < 2 ^ n) _ (λ p s hs. with_set_within n sets (unwrap_or (aux (text_of w)) 0) s hs h) (names_keep env n k),
)

try_line_keeps : (aux env : Environment) (n : ℕ) → Knows env n → (sets : Sets) → AreWithin n sets → Always (try_line aux env sets) (λ p t. IsTryOf n t)
unfolding try_line more_parts Always
try_line_keeps aux env n k sets h = always_weaker (part aux env sets) _ _
    (λ p first hf. always_weaker (more_parts aux env first) _ _ (λ q all ha l e m.
    record {
      four = length-map all (λ s. unwrap_or s 0) ∙ ha.four;
      within = All-map (λ (s : ℕ). s < 2 ^ n) (λ s. unwrap_or s 0) all
          ha.within;
    })
    (each_keeps (Punctuation Semicolon ∷ []) (λ a l. (None, tt {0})) (λ sets u. part aux env sets) (λ sets more. more) (AreWithin n)
    (λ sets hs l e m. part_keeps aux env n k sets hs) first hf)) (part_keeps aux env n k sets h)

try_allowed : (whole : Bool) (n : ℕ) → (if whole then Some codes.Word else limit_flag n) ≡ None → 1 ≤ n
try_allowed true n e = absurd cc
try_allowed false n e = some_allowed n e

-- at most 64 lines with sets of n variables
abbrev AreTries : ℕ → List (List ℕ) → Type 0
AreTries n ts = (length ts ≤ 64) × All (IsTryOf n) ts

tries_keep : (aux env : Environment) (n : ℕ) → Knows env n → (auxiliaries : ℕ)
    → Always (more_tries aux env (unnamed_sets auxiliaries) []) (λ p ts. AreTries n ts)
unfolding more_tries
tries_keep aux env n k auxiliaries =
    let sets = unnamed_sets auxiliaries in
    each_keeps (Keyword (codes "try") ∷ []) (λ ts l. (if list_all is_some sets then Some codes.Word else limit_flag (most_lines - length ts), tt {0})) (λ ts u. try_line aux env sets) (λ ts t. ts ++ t ∷ []) (AreTries n)
    (λ ts h l e m. always_weaker (try_line aux env sets) _ _ (λ p t ht. (
      let some = try_allowed (list_all is_some sets) (most_lines - length ts) m
          in omega (arith, some, length-append ts (t ∷ [])),
      all_and_one (IsTryOf n) ts t h.1 ht,
    ))
    (try_line_keeps aux env n k sets (unnamed_within n auxiliaries))) []
    (omega arith, All-nil (IsTryOf n))

-- ---- regions

region_of_own : (v names : NamesView) (own : OwnLinesView) → length v.variables ≤ most_names
    → MayBeNamed Variable (length v.variables + auxiliaries_left v) v names → AreLinesOver names own
    → IsRegionOf v (record { names = names; auxiliaries = length names.variables - length v.variables; lines = own })
region_of_own v names own few h lines =
    let variables : names.variables ≡ v.variables ++ h.grown.own = ap (λ (w : NamesView). w.variables) h.grown.is in
    let total : length names.variables ≡ length v.variables + length h.grown.own = ap (λ (ws : List (List ℕ)). length ws) variables
    ∙ length-append v.variables h.grown.own in
    let most = h.few (omega arith) in
    let left = min-le_left 4 (most_names - length v.variables) in
    let right = min-le_right 4 (most_names - length v.variables) in
    record {
      own = h.grown.own;
      variables = variables;
      rates = ap (λ (w : NamesView). w.rates) h.grown.is;
      counted = omega (arith, total);
      few = omega (arith, most, left, total);
      few_variables = omega (arith, most, right, total, few);
      lines = lines;
    }

-- a region with as many lines as are allowed
pub record IsCounted (g r : ℕ) (v : NamesView) (x : RegionView) : Type 0 where
  pub region : IsRegionOf v x
  pub givens : length x.lines.givens ≤ g
  pub rows : length x.lines.rows ≤ r

region_keeps : (g r : ℕ) (v : NamesView) → g ≤ 64 → r ≤ 64 → length v.variables ≤ most_names → Always (region g r v) (λ p x. IsCounted g r v x)
unfolding region Always
region_keeps g r v few_g few_r few = λ l e m.
    always_weaker (names_line Variable (length v.variables + auxiliaries_left v) (codes "aux") v) _ _
    (λ p names hn. always_weaker (own_lines g r names) _ _ (λ q own ho.
    record {
      region = region_of_own v names own few hn (lines_over g r names own few_g few_r ho);
      givens = ho.few_givens;
      rows
          = ho.few_rows;
    }) (own_lines_keep g r names))
    (names_line_keeps Variable (length v.variables + auxiliaries_left v) (codes "aux") v)

-- ---- what a question wants

-- what isn't more than `most`, by the flag of its test
unflagged_is_few : (most n : ℕ) → cond (nat_lt most n) (Some codes.Large) None ≡ None → n ≤ most
unflagged_is_few most n e = by_test (nat_lt most n) refl e
  where
    by_test : (b : Bool) → nat_lt most n ≡ b → cond b (Some codes.Large) None ≡ None → n ≤ most
    by_test true t k = absurd cc
    by_test false t k = grind (arith, nat_tests)

-- a table that isn't flagged
pub unflagged_is_small : (v : NamesView) (own : OwnLinesView) → size_flag v own ≡ None → table_size (problem_of_lines v own) ≤ most_entries
unfolding size_flag
unflagged_is_small v own e = unflagged_is_few most_entries (table_size (problem_of_lines v own)) e

-- a table that isn't flagged in a file with these limits
unflagged_is_within : (limits : FileLimits) (v : NamesView) (own : OwnLinesView) → table_flag limits v own ≡ None
    → OnFalse limits.large_tables (table_size (problem_of_lines v own) ≤ most_entries)
unflagged_is_within limits v own e = by_test limits.large_tables e
  where
    by_test : (b : Bool) → cond b None (size_flag v own) ≡ None → OnFalse b (table_size (problem_of_lines v own) ≤ most_entries)
    by_test true k = tt
    by_test false k = unflagged_is_small v own k

-- the names of a question whose first `region` isn't flagged
few_for_region : (v : NamesView) → region_flag v ≡ None → length v.variables ≤ most_names
unfolding region_flag
few_for_region v e = unflagged_is_few most_names (length v.variables) e

-- what a question with these lines may want
record IsWanted (limits : FileLimits) (own : OwnLinesView) (v : NamesView) (y : VerbView) : Type 0 where
  over : IsVerbOver v y
  small : OnFalse limits.large_tables (table_size (problem_of_lines (names_under v y) (lines_under own y)) ≤ most_entries)

containment_keeps : (limits : FileLimits) (own : OwnLinesView) (v : NamesView) → length v.variables ≤ most_names
    → Always (containment own v) (λ p y. IsWanted limits own v y)
unfolding containment Always
containment_keeps limits own v few =
    let g = givens_left most_lines own in
    let r = rows_left most_lines own in
    always_weaker (region g r v) _ _
    (λ p first hf l e m. always_weaker (region (givens_left g first.lines) (rows_left r first.lines) v) _ _
    (λ q second hs. always_weaker (more_tries (auxiliary_env v second.names) (env_of first.names) (unnamed_sets second.auxiliaries) []) _ _
    (λ s tries ht l e none l' e' m'. record {
      over = (hf.region, hs.region, ht.0, ht.1);
      small = OnFalse_from limits.large_tables _ (λ u. unflagged_is_small first.names (lines_under own (Contain first second tries)) none);
    })
    (tries_keep (auxiliary_env v second.names) (env_of first.names) (length first.names.variables) (knows_names first.names) second.auxiliaries))
    (region_keeps (givens_left g first.lines) (rows_left r first.lines) v (omega arith) (omega arith) few))
    (region_keeps g r v (omega arith) (omega arith) few)

verb_keeps : (limits : FileLimits) (own : OwnLinesView) (v : NamesView) → Always (verb limits own v) (λ p y. IsWanted limits own v y)
unfolding verb Always
verb_keeps limits own v = (
  λ l e m. always_weaker (to_end (relation (scope_of v true))) (λ p x. IsRelationOf (length v.variables) (length v.rates) x)
      (λ p x. IsWanted limits own v (Prove x)) (λ p x hx. record { over = hx; small = unflagged_is_within limits v own m })
      (line_keeps (relation (scope_of v true)) (IsRelationOf (length v.variables) (length v.rates))
      (relation_keeps (scope_of v true) (length v.variables) (length v.rates) (scope_covers v true))),
  (
    λ l e m. always_weaker (to_end (distinct (index_of v.rates))) (λ p x. AreRatesOf (length v.rates) x)
        (λ p x. IsWanted limits own v (Eliminate x)) (λ p x hx. record { over = hx; small = unflagged_is_within limits v (givens_alone own) m })
        (line_keeps (distinct (index_of v.rates)) (AreRatesOf (length v.rates))
        (distinct_keeps (index_of v.rates) (length v.rates) (knows_rates v))),
    λ l e m. containment_keeps limits own v (few_for_region v m),
  ),
)

-- ---- questions

-- within the limits, with a table that isn't too large
pub record IsRead (allowed : FileLimits) (q : BodyView) : Type 0 where
  pub limits : IsQuestionWithin allowed q
  pub small : HasTableWithin allowed q

-- no file allows more names than a space has
pub within_space : (limits : FileLimits) → names_within limits ≤ most_variables
within_space limits = min-le_right limits.variables most_variables

-- a usual file allows as many names as are usual
pub usual_names : names_within usual ≤ most_names
usual_names = min-le_left most_names most_variables

-- a question of a usual file has few names
pub few_usual_names : (q : BodyView) → IsQuestionWithin usual q → length q.names.variables ≤ most_names
few_usual_names q k = omega (arith, k.few, usual_names)

-- a question of a file with limits is one of any file
pub within_any : (limits : FileLimits) (q : BodyView) → IsQuestionWithin limits q → IsQuestion q
within_any limits q k = record {
  some = k.some;
  few = omega (arith, k.few, within_space limits);
  few_rates = k.few_rates;
  lines = k.lines;
  verb = k.verb;
}

-- variables, and perhaps rates
are_names : (most : ℕ) (variables names : NamesView) → AreNamed Variable most no_names variables → MayBeNamed Rate most_rates variables names
    → AreQuestionNames most names
are_names most variables names hv hn =
    let own : names.variables ≡ variables.variables = ap (λ (w : NamesView). w.variables) hn.grown.is in
    let first : variables.variables ≡ hv.grown.own = ap (λ (w : NamesView). w.variables) hv.grown.is in
    let none : variables.rates ≡ [] = ap (λ (w : NamesView). w.rates) hv.grown.is in
    record {
      some = let n = ap (λ (ws : List (List ℕ)). length ws) (own ∙ first) in omega (arith, n, hv.grown.some);
      few = let n = ap (λ (ws : List (List ℕ)). length ws) own in omega (arith, n, hv.few);
      few_rates = hn.few (let n = ap (λ (ws : List (List ℕ)). length ws) none in omega (arith, n));
    }

question_keeps : (limits : FileLimits) → Always (question limits) (λ p q. IsRead limits q)
unfolding question Always
question_keeps limits = always_weaker (new_names Variable (names_within limits) no_names) _ _
    (λ p variables hv. always_weaker (names_line Rate most_rates (codes "rates") variables) _ _
    (λ q names hn. let n = are_names (names_within limits) variables names hv hn in
    always_weaker (own_lines most_lines most_lines names) _ _
    (λ r own ho. always_weaker (verb limits own names) _ _ (λ s aim ha.
    record {
      limits = record {
        some = n.some;
        few = n.few;
        few_rates = n.few_rates;
        lines = lines_over most_lines most_lines names own
            (omega arith) (omega arith) ho;
        verb = ha.over;
      };
      small = ha.small;
    })
    (verb_keeps limits own names)) (own_lines_keep most_lines most_lines names)) (names_line_keeps Rate most_rates (codes "rates") variables))
    (new_names_keep Variable (names_within limits) no_names)

file_keeps : (limits : FileLimits) → Always (file limits) (λ p qs. All (IsRead limits) qs)
unfolding file more_questions Always
file_keeps limits = always_weaker (more_questions limits []) _ _ (λ p qs h l e m. h)
    (each_keeps (Keyword (codes "vars") ∷ []) (λ qs l. (limit_flag (most_questions - length qs), tt {0})) (λ qs u. question limits) (λ qs q. qs ++ q ∷ [])
    (All (IsRead limits))
    (λ qs h l e m. always_weaker (question limits) _ _ (λ p q hq. all_and_one (IsRead limits) qs q h hq) (question_keeps limits)) [] (All-nil (IsRead limits)))

-- ---- what the readers hand on

pub file_limited : (limits : FileLimits) (ls r : List Letter) (qs : List BodyView) → read (file limits) ls ≡ Ok (qs, r) → All (IsRead limits) qs
file_limited limits ls r qs e = value_read (file limits) (All (IsRead limits)) ls r qs (file_keeps limits) e

pub names_limited : (most : ℕ) (variables names : NamesView) (ls a b r : List Letter) → read (new_names Variable most no_names) ls ≡ Ok (variables, a)
    → read (names_line Rate most_rates (codes "rates") variables) b ≡ Ok (names, r) → AreQuestionNames most names
names_limited most variables names ls a b r e f =
    let hv = value_read (new_names Variable most no_names) (AreNamed Variable most no_names) ls a variables
    (new_names_keep Variable most no_names) e in
    let hn = value_read (names_line Rate most_rates (codes "rates") variables) (MayBeNamed Rate most_rates variables) b r names (names_line_keeps Rate most_rates (codes "rates") variables) f in
    are_names most variables names hv hn

pub declared_space : (most : ℕ) (v : NamesView) → most ≤ most_variables → AreQuestionNames most v → IsSpace (space_of v)
declared_space most v h k = record { some = k.some; few = omega (arith, k.few, h); few_rates = k.few_rates }

pub lines_limited : (v : NamesView) (ls r : List Letter) (own : OwnLinesView) → read (own_lines most_lines most_lines v) ls ≡ Ok (own, r) → AreLinesOver v own
lines_limited v ls r own e = lines_over most_lines most_lines v own (omega arith) (omega arith)
    (value_read (own_lines most_lines most_lines v) (AreOwn most_lines most_lines v) ls r own (own_lines_keep most_lines most_lines v) e)

pub region_limited : (own : OwnLinesView) (v : NamesView) (ls r : List Letter) (x : RegionView) → length v.variables ≤ most_names
    → read (region (givens_left most_lines own) (rows_left most_lines own) v) ls ≡ Ok (x, r)
    → IsCounted (givens_left most_lines own) (rows_left most_lines own) v x
region_limited own v ls r x few e = value_read (region (givens_left most_lines own) (rows_left most_lines own) v)
    (IsCounted (givens_left most_lines own) (rows_left most_lines own) v) ls r x
    (region_keeps (givens_left most_lines own) (rows_left most_lines own) v (omega arith) (omega arith) few) e
