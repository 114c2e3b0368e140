-- The rates of a question that a file asks are found by their names, and none is the text of a number.
use Rattle.std.proofs.Common.{◌≡◌, inl, inr, ℕ, ◌^◌, zero, suc, ◌+◌, ◌-◌, ◌*◌, ◌<◌, ◌≤◌, ◌==◌, ◌&&◌, nat_lt, nat_le, pos, neg_ℤ, Bool, true, false, cond, not, List, [], ◌∷◌, ◌++◌, take, drop, length, get_or, Option, Some, None, option_map, option_and_then, bytes_eq, refl, sym, ap, subst, ◌∙◌, arith, rules, append_assoc, append-nil, length-append}
use Rattle.std.specs.Char.{is_ascii_alphabetic, is_ascii_digit}
use Rattle.std.specs.List.{AllByRecursion as Every, IsDistinct, position_or_len}
use Rattle.std.proofs.lemmas.Bool.{ne_eqb}
use Rattle.std.proofs.lemmas.Bool.Decides.{nat_tests}
use Rattle.std.proofs.lemmas.List.{take_at, drop_at}
use Rattle.std.proofs.lemmas.Slice.Eq.{bytes_eq-Decides}
use Rattle.std.specs.Prelude.{codes}
use Rattle.it_syntax.specs.declared.types.Misspelling.{Misspelling}
use Rattle.it_syntax.specs.declared.types.Token.{Token}
use Rattle.it_syntax.specs.declared.types.TokenKind.{TokenKind}
use Rattle.it_syntax.specs.declared.types.TokenKind.TheVariants as kinds
use Rattle.it_forms.specs.declared.types.Symbol.TheVariants.{Comma}
use Rattle.it_forms.specs.Letters.{Letter, Word, Number, Sym, End, Bad}
use Rattle.it_syntax.specs.MeasureWords.{is_measure}
use Rattle.it_syntax.specs.Misspellings.{SpellsUntil}
use Rattle.it_syntax.specs.NamesViews.{NamesView, index_of, IsNew}
use Rattle.it_syntax.specs.Spans.{letter_of, letters_until, last_letter}
use Rattle.it_syntax.specs.Spelling.{StartsWith, IsText}
use Rattle.it_syntax.proofs.NameLemmas.{nowhere_all, distinct_insert, differs_both_ways}
use Rattle.it_question.specs.declared.sizes.FileLimits.{FileLimits}
use Rattle.it_question.specs.Files.{IsFileWithin}
use Rattle.it_question.specs.Lines.{LineView, AreLines, split_lines, letters_of_lines}
use Rattle.it_question.specs.NewNames.{NameSortView, Variable, Rate, with_name, no_names, is_taken, new_flag}
use Rattle.it_question.specs.LineTexts.{text_of_lines}
use Rattle.it_question.specs.Texts.{question_line_count, with_texts}
use Rattle.it_question.proofs.LineParts.{texts_of}
use Rattle.it_question.proofs.NewNameLemmas.{new_of}
use Rattle.it_certificate.specs.AnswerShapes.{IsFoundIn}
use Rattle.it_number.specs.Decimals.{value_from}
use Rattle.it_certificate.specs.Numerals.{below, magnitude_of, integer_of, count_of_integer, step_of}
use Rattle.it_space.proofs.EveryLemmas.{every-append, every_front, every_back}
use Rattle.it_forms.specs.Forms.{Keyword, Punctuation, Give, Then}
use Rattle.it_forms.specs.Words.{limit_flag}
use Rattle.it_forms.proofs.FormParts.{Fact, OfEach, Always, always_weaker, loop_keeps}
use Rattle.it_question.specs.QuestionForms.{count, new_name, more_new, new_names, names_line, own_lines, verb, question, more_questions, file}
use Rattle.it_question.specs.QuestionLimits.{most_lines, most_questions, names_within}
use Rattle.it_question.specs.Questions.{BodyView, QuestionView}
use Rattle.it_question.proofs.QuestionOutlines.{file_has}
use Rattle.it_question.proofs.WholeFileLemmas.{said}
use Rattle.it_forms.proofs.FormFacts.{always_any, always_said}
use Rattle.it_space.specs.Spaces.{most_rates}

-- ---- words begin with a letter

-- a word begins with an alphabetic byte
abbrev IsLettered : List ℕ → Type 0
IsLettered w = StartsWith is_ascii_alphabetic w

-- a letter that is a word begins with an alphabetic byte
abbrev IsSound : Letter → Type 0
IsSound (Word w) = IsLettered w
IsSound (Number n) = Unit {0}
IsSound (Sym s) = Unit {0}
IsSound End = Unit {0}
IsSound (Bad c) = Unit {0}

last_sound : (m : Option Misspelling) → IsSound (last_letter m)
last_sound None = tt
last_sound (Some m) = tt

token_sound : (k : TokenKind) (line : List ℕ) (start end : ℕ) (text : List ℕ) → take (end - start) (drop start line) ≡ text → IsText k text
    → IsSound (letter_of line start end k)
token_sound kinds.Word line start end text e h = subst IsLettered (sym e) h.0
token_sound (kinds.Number n) line start end text e h = tt
token_sound (kinds.Symbol s) line start end text e h = tt

line_sound : (line prefix : List ℕ) (at : ℕ) (bytes : List ℕ) (ts : List Token) (m : Option Misspelling) → line ≡ prefix ++ bytes
    → length prefix ≡ at → SpellsUntil at bytes ts m
    → Every IsSound (letters_until line ts (last_letter m))
line_sound line prefix at bytes [] m e n h = (last_sound m, tt)
line_sound line prefix at bytes (t ∷ ts) m e n h =
    let c = h.1 in
    let whole : line ≡ (prefix ++ c.gap) ++ (c.text ++ h.0) = e ∙ ap (λ (b : List ℕ). prefix ++ b) c.whole ∙ sym (append_assoc prefix c.gap (c.text ++ h.0)) in
    let start : length (prefix ++ c.gap) ≡ t.start = omega (arith, length-append prefix c.gap, n, c.start) in
    let long : length c.text ≡ t.end - t.start = omega (arith, c.end) in
    let text : take (t.end - t.start) (drop t.start line) ≡ c.text
    = ap (λ (b : List ℕ). take (t.end - t.start) (drop t.start b)) whole
    ∙ ap (take (t.end - t.start)) (drop_at (prefix ++ c.gap) (c.text ++ h.0) t.start start) ∙ take_at c.text h.0 (t.end - t.start) long
    in
    let end : length ((prefix ++ c.gap) ++ c.text) ≡ t.end = omega (arith, length-append (prefix ++ c.gap) c.text, start, c.end) in (
      token_sound t.kind line t.start t.end c.text text c.spelled,
      line_sound line ((prefix ++ c.gap) ++ c.text) t.end h.0 ts m
          (whole ∙ sym (append_assoc (prefix ++ c.gap) c.text h.0)) end h.2,
    )

lines_sound : (n : ℕ) (split : List (List ℕ)) (lines : List LineView) → AreLines n split lines → Every IsSound (letters_of_lines lines)
lines_sound n [] lines h = subst (λ (ls : List LineView). Every IsSound (letters_of_lines ls)) (sym h) (tt, tt)
lines_sound n (bytes ∷ more) lines (inl h) = lines_sound (n + 1) more lines h.1
lines_sound n (bytes ∷ more) lines (inr h) =
    let l = h.0 in
    subst (λ (ls : List LineView). Every IsSound (letters_of_lines ls)) (sym h.2)
    (every-append IsSound (letters_until l.text l.tokens (last_letter l.misspelling)) (letters_of_lines h.1)
    (line_sound l.text [] 0 l.text l.tokens l.misspelling refl refl h.3.spelled) (lines_sound (n + 1) more h.1 h.5))

-- ---- the names that are declared

-- the rates differ, and each begins with a letter
record AreGood (v : NamesView) : Type 0 where
  distinct : IsDistinct bytes_eq v.rates
  lettered : Every IsLettered v.rates

no_names_good : AreGood no_names
unfolding IsDistinct
no_names_good = record { distinct = tt; lettered = tt }

good_name : (sort : NameSortView) (v : NamesView) (w : List ℕ) → AreGood v → IsNew v w → IsLettered w → AreGood (with_name sort v w)
good_name Variable v w g new h = record { distinct = g.distinct; lettered = g.lettered }
good_name Rate v w g new h = record {
  distinct = distinct_insert v.rates [] w (subst (λ (names : List (List ℕ)). IsDistinct bytes_eq names)
      (sym (append-nil v.rates)) g.distinct) (nowhere_all w v.rates new.1) tt;
  lettered = every-append IsLettered v.rates (w ∷ []) g.lettered (h, tt);
}

-- what is to hold of names and of the letters that declare them
abbrev IfSound : Fact NamesView
IfSound p v = Every IsSound p → AreGood v

not_taken : (measure taken : Bool) (n : ℕ) → new_flag measure taken n ≡ None → taken ≡ false
not_taken true taken n e = absurd cc
not_taken false true n e = absurd cc
not_taken false false n e = refl

new_name_keeps : (sort : NameSortView) (most : ℕ) (p : List Letter) (v : NamesView) → IfSound p v → Always (new_name sort most v) (λ q w. IfSound (p ++ q) w)
unfolding Always new_name
new_name_keeps sort most p v s (Word w) e m all =
    good_name sort v w (s (every_front IsSound p (Word w ∷ []) all)) (new_of v w
    (not_taken (is_measure w) (is_taken v w) (most - count sort v) m)) (every_back IsSound p (Word w ∷ []) all).0
new_name_keeps sort most p v s l e m all = absurd cc

more_new_keeps : (sort : NameSortView) (most : ℕ) (p : List Letter) (v : NamesView) → IfSound p v → Always (more_new sort most v) (λ q w. IfSound (p ++ q) w)
unfolding Always more_new
more_new_keeps sort most p v s = loop_keeps (Punctuation Comma ∷ []) (λ v l. (None, tt {0})) (λ v u. Then (new_name sort most v) Give) IfSound turn p v s
  where
    turn : (p : List Letter) (v : NamesView) → IfSound p v → OfEach (record { kinds = Punctuation Comma ∷ []; says = λ l. (None, tt {0}) })
        (λ p0 b. Always (Then (new_name sort most v) Give) (λ q w. IfSound (p ++ (p0 ++ q)) w))
    turn p v s l e m = always_weaker (new_name sort most v) (λ q w. IfSound ((p ++ (l ∷ [])) ++ q) w) (λ q w. IfSound (p ++ ((l ∷ []) ++ (q ++ []))) w)
        (λ q w h all. h (subst (Every IsSound) (sym (append_assoc p (l ∷ []) q))
        (subst (λ (r : List Letter). Every IsSound (p ++ (l ∷ r))) (append-nil q) all)))
        (new_name_keeps sort most (p ++ (l ∷ [])) v (λ all. s (every_front IsSound p (l ∷ []) all)))

new_names_keep : (sort : NameSortView) (most : ℕ) (p : List Letter) (v : NamesView) → IfSound p v → Always (new_names sort most v) (λ q w. IfSound (p ++ q) w)
unfolding Always new_names
new_names_keep sort most p v s =
    always_weaker (new_name sort most v) (λ q w. IfSound (p ++ q) w) _ (λ q w h.
    always_weaker (more_new sort most w) (λ r x. IfSound ((p ++ q) ++ r) x) _
    (λ r x k l e m all. k (every_front IsSound ((p ++ q) ++ r) (l ∷ []) (subst (Every IsSound) (simp append_assoc) all)))
    (more_new_keeps sort most (p ++ q) w h))
    (new_name_keeps sort most p v s)

names_line_keeps : (sort : NameSortView) (most : ℕ) (keyword : List ℕ) (p : List Letter) (v : NamesView) → IfSound p v
    → Always (names_line sort most keyword v) (λ q w. IfSound (p ++ q) w)
unfolding Always names_line
names_line_keeps sort most keyword p v s = (
  λ l e m. always_weaker (new_names sort most v) (λ q w. IfSound ((p ++ (l ∷ [])) ++ q) w) _
      (λ q w h all. h (subst (Every IsSound) (sym (append_assoc p (l ∷ []) q)) all))
      (new_names_keep sort most (p ++ (l ∷ [])) v (λ all. s (every_front IsSound p (l ∷ []) all))),
  λ all. s (every_front IsSound p [] all),
)

question_keeps : (limits : FileLimits) → Always (question limits) (λ p q. IfSound p q.names)
unfolding Always question
question_keeps limits =
    always_weaker (new_names Variable (names_within limits) no_names) (λ p v. IfSound p v) _ (λ p v h.
    always_weaker (names_line Rate most_rates (codes "rates") v) (λ q w. IfSound (p ++ q) w) _ (λ q w k.
    always_any (own_lines most_lines most_lines w) _ (λ r own.
    always_any (verb limits own w) _ (λ t aim all. k (every_front IsSound (p ++ q) (r ++ (t ++ []))
    (subst (Every IsSound) (sym (append_assoc p q (r ++ (t ++ [])))) all)))))
    (names_line_keeps Rate most_rates (codes "rates") p v h))
    (new_names_keep Variable (names_within limits) [] no_names (λ all. no_names_good))

-- the names of questions
abbrev IfSoundAll : Fact (List BodyView)
IfSoundAll p qs = Every IsSound p → Every (λ q. AreGood q.names) qs

more_questions_keep : (limits : FileLimits) (p : List Letter) (qs : List BodyView) → IfSoundAll p qs
    → Always (more_questions limits qs) (λ q rs. IfSoundAll (p ++ q) rs)
unfolding Always more_questions
more_questions_keep limits p qs s = loop_keeps (Keyword (codes "vars") ∷ []) (λ qs l. (limit_flag (most_questions - length qs), tt {0}))
    (λ qs u. Then (question limits) (λ q. Give (qs ++ q ∷ []))) IfSoundAll turn p qs s
  where
    turn : (p : List Letter) (qs : List BodyView) → IfSoundAll p qs
        → OfEach (record { kinds = Keyword (codes "vars") ∷ []; says = λ l. (limit_flag (most_questions - length qs), tt {0}) })
        (λ p0 b. Always (Then (question limits) (λ q. Give (qs ++ q ∷ []))) (λ q rs. IfSoundAll (p ++ (p0 ++ q)) rs))
    turn p qs s l e m = always_weaker (question limits) (λ q b. IfSound q b.names) _ (λ q b h all.
        let parts = every_back IsSound p ((l ∷ []) ++ (q ++ [])) all in
        every-append (λ b. AreGood b.names) qs (b ∷ []) (s (every_front IsSound p ((l ∷ []) ++ (q ++ [])) all))
        (h (every_front IsSound q [] parts.1), tt)) (question_keeps limits)

file_keeps : (limits : FileLimits) → Always (file limits) IfSoundAll
unfolding Always file
file_keeps limits = always_weaker (more_questions limits []) IfSoundAll _ (λ p qs h l e m all. h (every_front IsSound p ((l ∷ []) ++ []) all))
    (more_questions_keep limits [] [] (λ all. tt))

first_good : (q : QuestionView) (lines : List LineView) (bodies : List BodyView) → Every (λ b. AreGood b.names) bodies
    → with_texts lines bodies ≡ q ∷ [] → AreGood q.body.names
first_good q lines [] g e = absurd cc
first_good q lines (b ∷ bodies) g e =
    let p : QuestionView = record { body = b; text = text_of_lines (texts_of (take (question_line_count b) lines)) } in
    let first : p ≡ q = cc in
    subst (λ (y : QuestionView). AreGood y.body.names) first g.0

-- ---- such names are found, and are no numbers

every_at : (P : List ℕ → Type 0) (names : List (List ℕ)) (r : ℕ) → Every P names → r < length names → P (get_or names r [])
every_at P [] r a h = absurd (omega arith)
every_at P (x ∷ names) zero a h = a.0
every_at P (x ∷ names) (suc r) a h = every_at P names r a.1 (omega arith)

place_is : (names : List (List ℕ)) (r : ℕ) → IsDistinct bytes_eq names → r < length names → position_or_len (bytes_eq (get_or names r [])) names ≡ r
unfolding IsDistinct
place_is [] r d h = absurd (omega arith)
place_is (x ∷ names) zero d h = ap (λ b. cond (not b) (1 + position_or_len (bytes_eq x) names) 0) ((bytes_eq-Decides x x).1 refl)
place_is (x ∷ names) (suc r) d h =
    let name = get_or names r [] in
    let other = differs_both_ways x name (every_at (λ y. bytes_eq x y ≡ false) names r d.0 (omega arith)) in
    ap (λ b. cond (not b) (1 + position_or_len (bytes_eq name) names) 0) other ∙ ap (λ i. 1 + i) (place_is names r d.1 (omega arith))
    ∙ (let e : 1 + r ≡ suc r = omega arith in e)

found_at : (names : List (List ℕ)) (r : ℕ) → IsDistinct bytes_eq names → r < length names → index_of names (get_or names r []) ≡ Some r
found_at names r d h =
    let below : nat_lt r (length names) ≡ true = search (rules, h) in
    ap (λ i. cond (nat_lt i (length names)) (Some i) None) (place_is names r d h) ∙ ap (λ b. cond b (Some r) None) below

no_digit : (c : ℕ) → is_ascii_alphabetic c ≡ true → (is_ascii_digit c ≡ false) × ((c == 45) ≡ false)
no_digit c h = let high : 65 ≤ c = grind (arith, nat_tests) in (grind (arith, nat_tests), ne_eqb c 45 (λ e. omega (arith, e, high)))

magnitude_none : (c : ℕ) (cs : List ℕ) → is_ascii_digit c ≡ false → magnitude_of (c ∷ cs) ≡ None
unfolding magnitude_of
magnitude_none c cs e =
    let test = nat_le 1 (length (c ∷ cs)) && nat_le (length (c ∷ cs)) 39 in
    ap (λ b. cond test (option_and_then (below (2 ^ 127)) (cond b (value_from (10 * 0 + (c - 48)) cs) None)) None) e ∙ by_test test
  where
    by_test : (b : Bool) → cond b (option_and_then (below (2 ^ 127)) None) None ≡ None
    by_test true = refl
    by_test false = refl

no_number : (w : List ℕ) → IsLettered w → step_of w ≡ None
unfolding step_of integer_of
no_number [] h = absurd h
no_number (c ∷ cs) h =
    let n = no_digit c h in
    ap (λ b. option_and_then count_of_integer (cond b (option_map (λ n. neg_ℤ (pos n)) (magnitude_of cs)) (option_map pos (magnitude_of (c ∷ cs))))) n.1
    ∙ ap (λ o. option_and_then count_of_integer (option_map pos o)) (magnitude_none c cs n.0)

-- a rate of the question that a text asks
pub rates_found : (limits : FileLimits) (q : QuestionView) (r : ℕ) → IsFileWithin limits q.text (q ∷ []) → r < length q.body.names.rates
    → IsFoundIn q.body.names r × (step_of (get_or q.body.names.rates r []) ≡ None)
rates_found limits q r asked h =
    let ls = letters_of_lines asked.lines in
    let all = always_said (file limits) _ (file_has limits) IfSoundAll (file_keeps limits) ls asked.tree.0 (said (file limits) with_texts q.text (q ∷ []) asked)
    (lines_sound 1 (split_lines q.text) asked.lines asked.cut) in
    let g = first_good q asked.lines asked.tree.0 all asked.says in
    (found_at q.body.names.rates r g.distinct h, no_number (get_or q.body.names.rates r []) (every_at IsLettered q.body.names.rates r g.lettered h))
