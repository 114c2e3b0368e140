-- What is written of an answer reads back.
use Rattle.std.proofs.Common.{◌≡◌, ℕ, ◌+◌, ◌<◌, ◌≤◌, ◌^◌, ◌==◌, ◌&&◌, ℤ, not, unsigned_abs, List, [], ◌∷◌, length, map, filter, refl, ap, ◌∙◌, Option, Some, None, Ok, option_and_then, option_map, Bool, true, false, cond, nat_le, nat_lt, rules, arith, codes, eq-eqb, decimal}
use Rattle.std.specs.Prelude.{All, ok_or, get_or}
use Rattle.std.proofs.lemmas.List.{length-map}
use Rattle.std.proofs.lemmas.List.Elements.{All-head, All-tail, All-filter}
use Rattle.serde_json.specs.Data.{Data}
use Rattle.serde_json.specs.Find.{get}
use Rattle.serde_json.specs.View.{items_of}
use Rattle.it_number.specs.Limit.{IsWithin}
use Rattle.it_space.specs.Rows.{Terms, Ascends, IsCanonical, IsOver}
use Rattle.it_space.specs.Spaces.{size_of}
use Rattle.it_space.specs.Answers.{CertificateView, AnswerView, is_nonzero_weight}
use Rattle.it_space.specs.Answers.AnswerView.{Yes, No, Undecided, Region, Contained, Open}
use Rattle.it_space.specs.declared.answers.Mark.{Mark}
use Rattle.it_space.specs.declared.answers.Mark.TheVariants.{Plain, Needed, Unsettled}
use Rattle.it_space.specs.declared.answers.Cause.{Cause}
use Rattle.it_space.specs.declared.answers.Cause.TheVariants.{Pivots, Width, Scale, Rows, WideRate}
use Rattle.it_syntax.specs.Meaning.{RelationView}
use Rattle.it_syntax.specs.NamesViews.{NamesView, index_of}
use Rattle.it_question.specs.OwnLines.{RegionView}
use Rattle.it_question.specs.Questions.{QuestionView, VerbView, Prove, Eliminate, Contain}
use Rattle.it_demand.specs.QuestionSpaces.{space_of}
use Rattle.it_certificate.specs.declared.keys.Key.TheVariants as keys
use Rattle.it_certificate.specs.declared.kinds.AnswerKind.{AnswerKind}
use Rattle.it_certificate.specs.declared.kinds.AnswerKind.TheVariants as kinds
use Rattle.it_certificate.specs.declared.kinds.CauseKind.{CauseKind}
use Rattle.it_certificate.specs.declared.kinds.CauseKind.TheVariants as causes
use Rattle.it_elemental.specs.Generators.{is_equation}
use Rattle.it_demand.specs.Demands.{kind_of}
use Rattle.it_demand.specs.Targets.{targets}
use Rattle.it_certificate.specs.Values.{integer_value, count_value, pair_value, proof_value, row_value, step_or_rate_word, answer_members, answer_value}
use Rattle.std.specs.Option.{option_or, option_zip}
use Rattle.it_certificate.specs.Parts.{text_of, integer_at, count_at, pair_at, all_of, of_length, certificate_at, answer_kind_at, proofs_at, point_at, back_at, cause_kind_at, cause_of, cause_at, is_row_between, row_of, marked_row_at, rows_at, set_at, parts_at, list_at, unmarked_row_at}
use Rattle.it_certificate.specs.AnswerReading.{and_then, no_at, undecided_at, contained_at}
use Rattle.it_certificate.specs.Obligations.{obligation_count}
use Rattle.it_certificate.specs.CodeReading.{tells_code}
use Rattle.it_certificate.specs.FactorReading.{factor_kind_at}
use Rattle.it_certificate.specs.OriginReading.{tells_origins}
use Rattle.it_certificate.specs.Reports.{Answered, Misfit, answer_of, bounded_of, coded_of, derived_of, reading_by, report_of, tells_misfit, tells_outer, verb_answer}
use Rattle.it_certificate.specs.Sources.{Text}
use Rattle.it_certificate.specs.AnswerShapes.{IsNumberedAmount, IsNumbered, IsRowIn, IsCauseFor, HasContainmentShape, HasVerbShape, HasQuestionShape}
use Rattle.it_certificate.specs.Laws.{without_zeros, written_answer, ReadsBack}
use Rattle.it_certificate.proofs.BackLemmas.{integer_back, count_back, step_back}
use Rattle.it_certificate.proofs.RowLemmas.{nonzero_passes}
use Rattle.it_certificate.specs.Kinds.{mark_of}
use Rattle.it_certificate.specs.Numerals.{below}

-- ---- numbers, terms and certificates

number_back : (z : ℤ) → IsWithin z → integer_at (integer_value z) ≡ Some z
unfolding integer_at
number_back z lt = integer_back z lt

count_read : (n : ℕ) → n < 2 ^ 32 → count_at (count_value n) ≡ Some n
unfolding count_at
count_read n lt = count_back n lt

pair_back : (t : ℕ × ℤ) → IsNumberedAmount t → pair_at (pair_value t) ≡ Some t
unfolding pair_at pair_value
pair_back t p = ap (λ c. option_zip c (integer_at (integer_value t.1))) (count_read t.0 p.0) ∙ ap (λ z. option_zip (Some t.0) z) (number_back t.1 p.1)

all_back : {A B : Type 0} (P : A → Type 0) (f : Data → Option B) (v : A → Data) (g : A → B) → ((a : A) → P a → f (v a) ≡ Some (g a)) → (xs : List A) → All P xs
    → all_of f (items_of (map v xs)) ≡ Some (map g xs)
all_back P f v g each [] all = refl
all_back P f v g each (x ∷ xs) all =
    ap (λ o. option_and_then (λ a. option_map (λ rest. a ∷ rest) (all_of f (items_of (map v xs)))) o) (each x (All-head P x xs all))
    ∙ ap (λ o. option_map (λ rest. g x ∷ rest) o) (all_back P f v g each xs (All-tail P x xs all))

map_same : {A : Type 0} (xs : List A) → map (λ x. x) xs ≡ xs
map_same [] = refl
map_same (x ∷ xs) = ap (λ zs. x ∷ zs) (map_same xs)

pub same_back : {A : Type 0} (P : A → Type 0) (f : Data → Option A) (v : A → Data) → ((a : A) → P a → f (v a) ≡ Some a) → (xs : List A) → All P xs
    → all_of f (items_of (map v xs)) ≡ Some xs
same_back P f v each xs all = all_back P f v (λ x. x) each xs all ∙ ap Some (map_same xs)

certificate_back : (c : CertificateView) → IsNumbered c → certificate_at (proof_value c) ≡ Some (without_zeros c)
unfolding certificate_at proof_value
certificate_back c p =
    ap (λ s. option_map certificate_of (option_zip s (all_of pair_at (items_of (map pair_value (filter is_nonzero_weight c.weights))))))
    (number_back c.scale p.scale)
    ∙ ap (λ ws. option_map certificate_of (option_zip (Some c.scale) ws))
    (same_back IsNumberedAmount pair_at pair_value pair_back (filter is_nonzero_weight c.weights)
    (All-filter is_nonzero_weight IsNumberedAmount c.weights p.weights))
  where
    certificate_of : ℤ × List (ℕ × ℤ) → CertificateView
    certificate_of p = record { scale = p.0; weights = p.1 }

of_length_is : {A : Type 0} (n : ℕ) (xs : List A) → length xs ≡ n → of_length n xs ≡ Some xs
of_length_is n xs is = ap (λ b. cond b (Some xs) None) (eq-eqb (length xs) n is)

pub certificates_back : (n : ℕ) (ws : List CertificateView) → length ws ≡ n → All IsNumbered ws
    → option_and_then (of_length n) (all_of certificate_at (items_of (map proof_value ws))) ≡ Some (map without_zeros ws)
certificates_back n ws is all =
    ap (option_and_then (of_length n)) (all_back IsNumbered certificate_at proof_value without_zeros certificate_back ws all)
    ∙ of_length_is n (map without_zeros ws) (length-map ws without_zeros ∙ is)

-- ---- yes and no

yes_back : (text : List ℕ) (v : NamesView) (r : RelationView) (ws : List CertificateView) → HasVerbShape v (Prove r) (Yes ws)
    → ok_or (option_map Yes (proofs_at (length (targets (length v.variables) r)) (answer_value text v (Yes ws)))) keys.Proofs
    ≡ Ok (Yes (map without_zeros ws))
unfolding proofs_at answer_value answer_members
yes_back text v r ws fits = ap (λ o. ok_or (option_map Yes o) keys.Proofs) (certificates_back (length (targets (length v.variables) r)) ws fits.0 fits.1)

point_back : (text : List ℕ) (v : NamesView) (n : ℕ) (back : Bool) (vs : List ℤ) → length vs ≡ n → All IsWithin vs
    → point_at n (answer_value text v (No back vs)) ≡ Some vs
unfolding point_at answer_value answer_members
point_back text v n back vs is all = ap (option_and_then (of_length n)) (same_back IsWithin integer_at integer_value number_back vs all) ∙ of_length_is n vs is

side_back : (text : List ℕ) (v : NamesView) (equality back : Bool) (vs : List ℤ) → (back ≡ true → equality ≡ true)
    → back_at equality (answer_value text v (No back vs)) ≡ Some back
unfolding back_at answer_value answer_members
side_back text v equality true vs is = ap (λ b. cond b (Some true) None) (is refl)
side_back text v equality false vs is = refl

no_back : (text : List ℕ) (v : NamesView) (r : RelationView) (back : Bool) (vs : List ℤ) → HasVerbShape v (Prove r) (No back vs)
    → no_at (size_of (space_of v)) r.sign (answer_value text v (No back vs)) ≡ Ok (No back vs)
unfolding no_at
no_back text v r back vs fits =
    ap (λ o. and_then (ok_or o keys.Point) (λ values. and_then (ok_or
    (back_at (is_equation (kind_of r.sign)) (answer_value text v (No back vs))) keys.Side) (λ b. Ok (No b values))))
    (point_back text v (size_of (space_of v)) back vs fits.0 fits.1)
    ∙ ap (λ o. and_then (ok_or o keys.Side) (λ b. Ok (No b vs))) (side_back text v (is_equation (kind_of r.sign)) back vs fits.2)

-- ---- undecided

abbrev kind_of_cause : Cause → CauseKind
kind_of_cause (Pivots steps) = causes.Pivots
kind_of_cause (Width step) = causes.Width
kind_of_cause Scale = causes.Scale
kind_of_cause (Rows r) = causes.Rows
kind_of_cause (WideRate r) = causes.Width

kind_back : (text : List ℕ) (v : NamesView) (c : Cause) → cause_kind_at (answer_value text v (Undecided c)) ≡ Some (kind_of_cause c)
unfolding cause_kind_at answer_value answer_members
kind_back text v (Pivots steps) = refl
kind_back text v (Width step) = refl
kind_back text v Scale = refl
kind_back text v (Rows r) = refl
kind_back text v (WideRate r) = refl

step_or_rate_back : (v : NamesView) (c : Cause) → IsCauseFor v c → cause_of v.rates (kind_of_cause c) (step_or_rate_word v c) ≡ Some c
step_or_rate_back v (Pivots steps) fits = ap (option_map Pivots) (step_back steps fits)
step_or_rate_back v (Width step) fits = ap (λ o. option_or (option_map Width o) (option_map WideRate (index_of v.rates (decimal step)))) (step_back step fits)
step_or_rate_back v Scale fits = refl
step_or_rate_back v (Rows r) fits = ap (option_map Rows) fits
step_or_rate_back v (WideRate r) fits = ap (λ o. option_or (option_map Width o)
    (option_map WideRate (index_of v.rates (get_or v.rates r [])))) fits.1 ∙ ap (option_map WideRate) fits.0

cause_back : (text : List ℕ) (v : NamesView) (c : Cause) → IsCauseFor v c → cause_at v.rates (kind_of_cause c) (answer_value text v (Undecided c)) ≡ Some c
unfolding cause_at answer_value answer_members
cause_back text v c fits = step_or_rate_back v c fits

undecided_back : (text : List ℕ) (v : NamesView) (c : Cause) → IsCauseFor v c → undecided_at v.rates (answer_value text v (Undecided c)) ≡ Ok (Undecided c)
unfolding undecided_at
undecided_back text v c fits =
    ap (λ o. and_then (ok_or o keys.Cause) (λ kind. and_then (ok_or (cause_at v.rates kind (answer_value text v (Undecided c))) keys.At)
    (λ cause. Ok (Undecided cause)))) (kind_back text v c)
    ∙ ap (λ o. and_then (ok_or o keys.At) (λ cause. Ok (Undecided cause))) (cause_back text v c fits)

-- ---- regions

true_both : (a b : Bool) → a ≡ true → b ≡ true → (a && b) ≡ true
true_both a b p q = ap (λ c. c && b) p ∙ q

row_test : (from low size : ℕ) (ts : Terms) → (from ≤ low) → Ascends low ts → IsOver size ts → is_row_between from size ts ≡ true
row_test from low size [] le asc up = refl
row_test from low size (t ∷ ts) le asc up =
    let h = All-head (λ t. (1 ≤ t.0) × (t.0 ≤ size)) t ts up in
    let there : nat_le from t.0 ≡ true = let e : from ≤ t.0 = omega (arith, le, asc.0) in search (rules, e) in
    let last : nat_le t.0 size ≡ true = let e = h.1 in search (rules, e) in
    true_both (nat_le from t.0 && (nat_le t.0 size && not (unsigned_abs t.1 == 0))) (is_row_between (t.0 + 1) size ts)
    (true_both (nat_le from t.0) (nat_le t.0 size && not (unsigned_abs t.1 == 0)) there
    (true_both (nat_le t.0 size) (not (unsigned_abs t.1 == 0)) last (nonzero_passes t.1 asc.1)))
    (row_test (t.0 + 1) (t.0 + 1) size ts (omega arith) asc.3 (All-tail (λ t. (1 ≤ t.0) × (t.0 ≤ size)) t ts up))

from_one : (size : ℕ) (ts : Terms) → Ascends 0 ts → IsOver size ts → Ascends 1 ts
from_one size [] asc up = tt
from_one size (t ∷ ts) asc up = ((All-head (λ t. (1 ≤ t.0) × (t.0 ≤ size)) t ts up).0, asc.1, asc.2, asc.3)

row_kept : (size : ℕ) (ts : Terms) → IsCanonical ts → IsOver size ts → row_of size ts ≡ Some ts
row_kept size ts canonical up = ap (λ b. cond b (Some ts) None) (row_test 1 1 size ts (omega arith) (from_one size ts canonical up) up)

mark_back : (m : Mark) (ts : Terms) → option_and_then mark_of (text_of (get (codes "mark") (row_value (m, ts)))) ≡ Some m
unfolding row_value
mark_back Plain ts = refl
mark_back Needed ts = refl
mark_back Unsettled ts = refl

terms_back : (r : Mark × Terms) → All IsNumberedAmount r.1 → list_at pair_at (get (codes "row") (row_value r)) ≡ Some r.1
unfolding row_value
terms_back r all = same_back IsNumberedAmount pair_at pair_value pair_back r.1 all

pub row_back : (size : ℕ) (r : Mark × Terms) → IsRowIn size r → marked_row_at size (row_value r) ≡ Some r
unfolding marked_row_at unmarked_row_at
row_back size r fits =
    ap (λ o. option_zip o (option_and_then (row_of size) (list_at pair_at (get (codes "row") (row_value r))))) (mark_back r.0 r.1)
    ∙ ap (λ o. option_zip (Some r.0) (option_and_then (row_of size) o)) (terms_back r fits.terms)
    ∙ ap (λ o. option_zip (Some r.0) o) (row_kept size r.1 fits.canonical fits.coordinates)

region_back : (text : List ℕ) (v : NamesView) (rows : List (Mark × Terms)) (size : ℕ) → All (IsRowIn size) rows
    → ok_or (option_map Region (rows_at size (answer_value text v (Region rows)))) keys.Rows ≡ Ok (Region rows)
unfolding rows_at answer_value answer_members
region_back text v rows size all = ap (λ o. ok_or (option_map Region o) keys.Rows)
    (same_back (IsRowIn size) (marked_row_at size) row_value (row_back size) rows all)

-- ---- containments

set_back : (n s : ℕ) → (s < 2 ^ 32) × (s < 2 ^ n) → set_at n (count_value s) ≡ Some s
unfolding set_at
set_back n s h = ap (option_and_then (below (2 ^ n))) (count_read s h.0)
    ∙ (let lt = h.1 in let e : nat_lt s (2 ^ n) ≡ true = search (rules, lt) in ap (λ b. cond b (Some s) None) e)

contained_back : (text : List ℕ) (v : NamesView) (first second : RegionView) (parts : List ℕ) (ws : List CertificateView)
    → HasContainmentShape first second parts ws
    → contained_at second.auxiliaries (length first.names.variables) (obligation_count second) (answer_value text v (Contained parts ws))
    ≡ Ok (Contained parts (map without_zeros ws))
unfolding contained_at parts_at proofs_at answer_value answer_members
contained_back text v first second parts ws fits =
    let n = length first.names.variables in
    ap (λ o. and_then (ok_or o keys.Parts) (λ ss. and_then (ok_or
    (option_and_then (of_length (obligation_count second)) (all_of certificate_at (items_of (map proof_value ws)))) keys.Proofs)
    (λ ps. Ok (Contained ss ps))))
    (ap (option_and_then (of_length second.auxiliaries)) (same_back (λ s. (s < 2 ^ 32) × (s < 2 ^ length first.names.variables))
    (set_at (length first.names.variables)) count_value (set_back (length first.names.variables)) parts fits.sets)
    ∙ of_length_is second.auxiliaries parts fits.each)
    ∙ ap (λ o. and_then (ok_or o keys.Proofs) (λ ps. Ok (Contained parts ps))) (certificates_back (obligation_count second) ws fits.obligations fits.numbers)

open_back : (text : List ℕ) (v : NamesView) (tried : ℕ) → tried < 2 ^ 32 → ok_or (option_map Open (option_and_then count_at (get (codes "tried") (answer_value text v (Open tried))))) keys.Tried ≡ Ok (Open tried)
unfolding answer_value answer_members
open_back text v tried lt = ap (λ o. ok_or (option_map Open o) keys.Tried) (count_read tried lt)

-- ---- reports

abbrev kind_of_answer : AnswerView → AnswerKind
kind_of_answer (Yes proofs) = kinds.Yes
kind_of_answer (No back values) = kinds.No
kind_of_answer (Undecided cause) = kinds.Undecided
kind_of_answer (Region rows) = kinds.Region
kind_of_answer (Contained parts proofs) = kinds.Contained
kind_of_answer (Open tried) = kinds.Open

answer_kind_back : (text : List ℕ) (v : NamesView) (a : AnswerView) → answer_kind_at (answer_value text v a) ≡ Some (kind_of_answer a)
unfolding answer_kind_at answer_value answer_members
answer_kind_back text v (Yes proofs) = refl
answer_kind_back text v (No back values) = refl
answer_kind_back text v (Undecided cause) = refl
answer_kind_back text v (Region rows) = refl
answer_kind_back text v (Contained parts proofs) = refl
answer_kind_back text v (Open tried) = refl

text_back : (text : List ℕ) (v : NamesView) (a : AnswerView) → text_of (get (codes "question") (answer_value text v a)) ≡ Some text
unfolding answer_value answer_members
text_back text v (Yes proofs) = refl
text_back text v (No back values) = refl
text_back text v (Undecided cause) = refl
text_back text v (Region rows) = refl
text_back text v (Contained parts proofs) = refl
text_back text v (Open tried) = refl

prove_back : (text : List ℕ) (v : NamesView) (r : RelationView) (a : AnswerView) → HasVerbShape v (Prove r) a
    → verb_answer v (Prove r) (kind_of_answer a) (answer_value text v a) ≡ Ok (written_answer a)
prove_back text v r (Yes proofs) fits = yes_back text v r proofs fits
prove_back text v r (No back values) fits = no_back text v r back values fits
prove_back text v r (Undecided cause) fits = undecided_back text v cause fits
prove_back text v r (Region rows) fits = absurd fits
prove_back text v r (Contained parts proofs) fits = absurd fits
prove_back text v r (Open tried) fits = absurd fits

eliminate_back : (text : List ℕ) (v : NamesView) (rates : List ℕ) (a : AnswerView) → HasVerbShape v (Eliminate rates) a
    → verb_answer v (Eliminate rates) (kind_of_answer a) (answer_value text v a) ≡ Ok (written_answer a)
eliminate_back text v rates (Yes proofs) fits = absurd fits
eliminate_back text v rates (No back values) fits = absurd fits
eliminate_back text v rates (Undecided cause) fits = undecided_back text v cause fits
eliminate_back text v rates (Region rows) fits = region_back text v rows (size_of (space_of v)) fits
eliminate_back text v rates (Contained parts proofs) fits = absurd fits
eliminate_back text v rates (Open tried) fits = absurd fits

contain_back : (text : List ℕ) (v : NamesView) (first second : RegionView) (tries : List (List ℕ)) (a : AnswerView)
    → HasVerbShape v (Contain first second tries) a → verb_answer v (Contain first second tries) (kind_of_answer a) (answer_value text v a)
    ≡ Ok (written_answer a)
contain_back text v first second tries (Yes proofs) fits = absurd fits
contain_back text v first second tries (No back values) fits = absurd fits
contain_back text v first second tries (Undecided cause) fits = absurd fits
contain_back text v first second tries (Region rows) fits = absurd fits
contain_back text v first second tries (Contained parts proofs) fits = contained_back text v first second parts proofs fits
contain_back text v first second tries (Open tried) fits = open_back text v tried fits

verb_back : (text : List ℕ) (v : NamesView) (verb : VerbView) (a : AnswerView) → HasVerbShape v verb a
    → verb_answer v verb (kind_of_answer a) (answer_value text v a) ≡ Ok (written_answer a)
verb_back text v (Prove r) a fits = prove_back text v r a fits
verb_back text v (Eliminate rates) a fits = eliminate_back text v rates a fits
verb_back text v (Contain first second tries) a fits = contain_back text v first second tries a fits

answer_back : (q : QuestionView) (a : AnswerView) → HasQuestionShape q.body a
    → verb_answer q.body.names q.body.verb (kind_of_answer a) (answer_value q.text q.body.names a) ≡ Ok (written_answer a)
unfolding HasQuestionShape
answer_back q a fits = verb_back q.text q.body.names q.body.verb a fits

no_misfit : (text : List ℕ) (v : NamesView) (a : AnswerView) → tells_misfit (answer_value text v a) ≡ false
unfolding tells_misfit answer_value answer_members
no_misfit text v (Yes proofs) = refl
no_misfit text v (No back values) = refl
no_misfit text v (Undecided cause) = refl
no_misfit text v (Region rows) = refl
no_misfit text v (Contained parts proofs) = refl
no_misfit text v (Open tried) = refl

-- the word of an answer is none about factors, and its value has no phase
no_factor : (text : List ℕ) (v : NamesView) (a : AnswerView) → factor_kind_at (answer_value text v a) ≡ None
unfolding factor_kind_at answer_value answer_members
no_factor text v (Yes proofs) = refl
no_factor text v (No back values) = refl
no_factor text v (Undecided cause) = refl
no_factor text v (Region rows) = refl
no_factor text v (Contained parts proofs) = refl
no_factor text v (Open tried) = refl

no_bounds : (text : List ℕ) (v : NamesView) (a : AnswerView) → tells_outer (answer_value text v a) ≡ false
unfolding tells_outer answer_value answer_members
no_bounds text v (Yes proofs) = refl
no_bounds text v (No back values) = refl
no_bounds text v (Undecided cause) = refl
no_bounds text v (Region rows) = refl
no_bounds text v (Contained parts proofs) = refl
no_bounds text v (Open tried) = refl

-- an answer's value has no code
no_code : (text : List ℕ) (v : NamesView) (a : AnswerView) → tells_code (answer_value text v a) ≡ false
unfolding tells_code answer_value answer_members
no_code text v (Yes proofs) = refl
no_code text v (No back values) = refl
no_code text v (Undecided cause) = refl
no_code text v (Region rows) = refl
no_code text v (Contained parts proofs) = refl
no_code text v (Open tried) = refl

-- an answer's value has no origins
no_origins : (text : List ℕ) (v : NamesView) (a : AnswerView) → tells_origins (answer_value text v a) ≡ false
unfolding tells_origins answer_value answer_members
no_origins text v (Yes proofs) = refl
no_origins text v (No back values) = refl
no_origins text v (Undecided cause) = refl
no_origins text v (Region rows) = refl
no_origins text v (Contained parts proofs) = refl
no_origins text v (Open tried) = refl

-- the object has a key alone that an answer doesn't write
other_key : (text : List ℕ) (v : NamesView) (a : AnswerView) → (get (codes "sharing") (answer_value text v a) ≡ None) × (get (codes "copies") (answer_value text v a) ≡ None)
unfolding answer_value answer_members
other_key text v (Yes proofs) = (refl, refl)
other_key text v (No back values) = (refl, refl)
other_key text v (Undecided cause) = (refl, refl)
other_key text v (Region rows) = (refl, refl)
other_key text v (Contained parts proofs) = (refl, refl)
other_key text v (Open tried) = (refl, refl)

pub reads_back : ReadsBack
unfolding report_of
reads_back limits q a short file fits =
    let d = answer_value q.text q.body.names a in
    let others = other_key q.text q.body.names a in
    record {
      own = Some (Text q);
      source = record { no_sharing = others.0; no_copies = others.1; text = q.text; there = text_back q.text q.body.names a; short = short; reads = file };
      is = ap (λ b. cond b (Ok Misfit) (cond (tells_outer d) (bounded_of (Some (Text q)) d)
          (reading_by (Some (Text q)) (factor_kind_at d) d))) (no_misfit q.text q.body.names a)
          ∙ ap (λ b. cond b (bounded_of (Some (Text q)) d) (reading_by (Some (Text q)) (factor_kind_at d) d)) (no_bounds q.text q.body.names a)
          ∙ ap (λ k. reading_by (Some (Text q)) k d) (no_factor q.text q.body.names a)
          ∙ ap (λ b. cond b (coded_of (Some (Text q)) d) (cond (tells_origins d) (derived_of (Some (Text q)) d)
          (answer_of (Some (Text q)) d))) (no_code q.text q.body.names a)
          ∙ ap (λ b. cond b (derived_of (Some (Text q)) d) (answer_of (Some (Text q)) d)) (no_origins q.text q.body.names a)
          ∙ ap (λ k. and_then (ok_or k keys.Answer) (λ kind. and_then (verb_answer q.body.names q.body.verb kind d)
          (λ b. Ok (Answered (Text q) b)))) (answer_kind_back q.text q.body.names a)
          ∙ ap (λ r. and_then r (λ b. Ok (Answered (Text q) b))) (answer_back q a fits);
    }
