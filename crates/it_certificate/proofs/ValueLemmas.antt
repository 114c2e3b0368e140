-- An answer's value has no float and is not deep.
use Rattle.std.proofs.Common.{◌≡◌, ℕ, ◌≤◌, ◌<◌, lit<, ℤ, List, [], ◌∷◌, map, filter, refl, ap, ◌∙◌, arith, rules, Bool, true, false, cond, nat_lt, ◌||◌, ◌⊎◌, inl, inr, Result, Ok, Err, IfOk, Some, subst, sym, codes, Ordering, Less, Equal, Greater}
use Rattle.std.specs.Prelude.{IsAscii}
use Rattle.std.proofs.lemmas.Bool.{cases_lt}
use Rattle.std.proofs.lemmas.Str.Ascii.{IsAscii-nil, IsAscii-cons}
use Rattle.std.specs.Cmp.Lexicographic.{slice_cmp}
use Rattle.std.specs.Ordering.{nat_cmp, match_ordering}
use Rattle.serde_json.specs.Data.{Data, Members, depth, items_depth, member, no_members, object, put, string}
use Rattle.serde_json.specs.View.{items_of}
use Rattle.serde_json.specs.Read.{read}
use Rattle.serde_json.specs.Written.{has_float, items_have_float, members_have_float, compact_text}
use Rattle.it_space.specs.Rows.{Terms}
use Rattle.it_space.specs.Answers.{CertificateView, AnswerView, is_nonzero_weight}
use Rattle.it_space.specs.Answers.AnswerView.{Yes, No, Undecided, Region, Contained, Open}
use Rattle.it_space.specs.declared.answers.Mark.{Mark}
use Rattle.it_syntax.specs.NamesViews.{NamesView}
use Rattle.it_ratio.specs.BestViews.{BestView, Least, Never, Unbounded, BestView as bests}
use Rattle.it_certificate.specs.FactorValues.{best_members, ratio_value}
use Rattle.it_certificate.specs.Values.{SourceTexts, OfQuestion, OfCopies, OfSharing, ascii_byte, ascii_string, integer_value, count_value, pair_value, proof_value, row_value, answer_members, answer_value, answer_text, derived_members, derived_text, derived_value, list_value, report_text, with_source, bounds_members, drop_value, step_value, unmarked_row_value}
use Rattle.it_spans.specs.Drops.{DropView}
use Rattle.it_spans.specs.Spans.{StepView}
use Rattle.it_certificate.specs.Bounds.{BoundsView}

items_no_float : {A : Type 0} (f : A → Data) → ((a : A) → has_float (f a) ≡ false) → (xs : List A) → items_have_float (items_of (map f xs)) ≡ false
items_no_float f none [] = refl
items_no_float f none (x ∷ xs) = ap (λ b. b || items_have_float (items_of (map f xs))) (none x) ∙ items_no_float f none xs

pair_no_float : (w : ℕ × ℤ) → has_float (pair_value w) ≡ false
unfolding pair_value
pair_no_float w = refl

or_none : (a b : Bool) → a ≡ false → b ≡ false → (a || b) ≡ false
or_none a b p q = ap (λ c. c || b) p ∙ q

proof_no_float : (c : CertificateView) → has_float (proof_value c) ≡ false
unfolding proof_value
proof_no_float c = or_none _ false (items_no_float pair_value pair_no_float (filter is_nonzero_weight c.weights)) refl

row_no_float : (r : Mark × Terms) → has_float (row_value r) ≡ false
unfolding row_value
row_no_float r = or_none _ false (items_no_float pair_value pair_no_float r.1) refl

unmarked_no_float : (r : Terms) → has_float (unmarked_row_value r) ≡ false
unfolding unmarked_row_value
unmarked_no_float r = or_none _ false (items_no_float pair_value pair_no_float r) refl

drop_no_float : (d : DropView) → has_float (drop_value d) ≡ false
unfolding drop_value
drop_no_float d = or_none _ false (items_no_float pair_value pair_no_float (filter is_nonzero_weight d.proof.weights)) refl

step_no_float : (s : StepView) → has_float (step_value s) ≡ false
unfolding step_value
step_no_float s = or_none _ _ (items_no_float drop_value drop_no_float s.drops) (or_none _ false (items_no_float integer_value (λ z. refl) s.ray) refl)

pub bounds_no_float : (b : BoundsView) → members_have_float (bounds_members b) ≡ false
unfolding bounds_members
bounds_no_float b = or_none _ _ (items_no_float proof_value proof_no_float b.proofs)
    (or_none _ _ (items_no_float step_value step_no_float b.steps) (or_none _ false (items_no_float unmarked_row_value unmarked_no_float b.rows) refl))

pub answer_no_float : (v : NamesView) (a : AnswerView) → members_have_float (answer_members v a) ≡ false
unfolding answer_members
answer_no_float v (Yes proofs) = or_none _ false (items_no_float proof_value proof_no_float proofs) refl
answer_no_float v (No back values) = or_none _ false (items_no_float integer_value (λ z. refl) values) refl
answer_no_float v (Undecided cause) = refl
answer_no_float v (Region rows) = or_none _ false (items_no_float row_value row_no_float rows) refl
answer_no_float v (Contained parts proofs) = or_none _ _ (items_no_float count_value (λ n. refl) parts)
    (or_none _ false (items_no_float proof_value proof_no_float proofs) refl)
answer_no_float v (Open tried) = refl

pub best_no_float : (best : BestView) → members_have_float (best_members best) ≡ false
unfolding best_members ratio_value
best_no_float (Least num den proof values) = or_none _ _ (items_no_float integer_value (λ z. refl) values)
    (or_none _ false (items_no_float proof_value proof_no_float (proof ∷ [])) refl)
best_no_float (Never values) = or_none _ false (items_no_float integer_value (λ z. refl) values) refl
best_no_float (Unbounded num den proof below) = or_none _ false (items_no_float proof_value proof_no_float (proof ∷ below ∷ [])) refl
best_no_float (bests.Undecided cause) = refl

-- what is put among members is no float
first_none : (a b : Bool) → (a || b) ≡ false → a ≡ false
first_none false b e = refl
first_none true b e = e

rest_none : (a b : Bool) → (a || b) ≡ false → b ≡ false
rest_none false b e = e
rest_none true b e = let f : true ≡ false = e in absurd cc

put_no_float : (key : List ℕ) (d : Data) (ms : Members) → has_float d ≡ false → members_have_float ms ≡ false → members_have_float (put key d ms) ≡ false
put_no_float key d no_members own none = or_none (has_float d) false own refl
put_no_float key d (member l e ms) own none = by_order (slice_cmp nat_cmp key l)
    (put_no_float key d ms own (rest_none (has_float e) (members_have_float ms) none))
  where
    by_order : (o : Ordering) → members_have_float (put key d ms) ≡ false
        → members_have_float (match_ordering o (member key d (member l e ms)) (member l d ms) (member l e (put key d ms))) ≡ false
    by_order Less rest = or_none (has_float d) (members_have_float (member l e ms)) own none
    by_order Equal rest = or_none (has_float d) (members_have_float ms) own (rest_none (has_float e) (members_have_float ms) none)
    by_order Greater rest = or_none (has_float e) (members_have_float (put key d ms)) (first_none (has_float e) (members_have_float ms) none) rest

text_no_float : (key text : List ℕ) (ms : Members) → members_have_float ms ≡ false → members_have_float (put key (string text) ms) ≡ false
text_no_float key text ms none = put_no_float key (string text) ms refl none

no_float : (text : List ℕ) (v : NamesView) (a : AnswerView) → has_float (answer_value text v a) ≡ false
unfolding answer_value
no_float text v a = text_no_float (codes "question") text (answer_members v a) (answer_no_float v a)

derived_no_float : (text : List ℕ) (v : NamesView) (rows : List (Mark × Terms)) (ws : List CertificateView) → has_float (derived_value text v rows ws) ≡ false
unfolding derived_value
derived_no_float text v rows ws = text_no_float (codes "question") text (derived_members v rows ws)
    (put_no_float (codes "origins") (list_value proof_value ws) (answer_members v (Region rows)) (items_no_float proof_value proof_no_float ws) (answer_no_float v (Region rows)))

source_no_float : (source : SourceTexts) (ms : Members) → members_have_float ms ≡ false → has_float (object (with_source source ms)) ≡ false
source_no_float (OfQuestion text) ms none = text_no_float (codes "question") (map ascii_byte text) ms none
source_no_float (OfCopies head text) ms none =
    let with_head = put (codes "copies") (ascii_string head) ms in
    text_no_float (codes "question") (map ascii_byte text) with_head (text_no_float (codes "copies") (map ascii_byte head) ms none)
source_no_float (OfSharing text) ms none = text_no_float (codes "sharing") (map ascii_byte text) ms none

items_shallow : {A : Type 0} (f : A → Data) (k : ℕ) → ((a : A) → depth (f a) ≤ k) → (xs : List A) → items_depth (items_of (map f xs)) ≤ k
items_shallow f k low [] = omega arith
items_shallow f k low (x ∷ xs) = let a = low x in let b = items_shallow f k low xs in omega (arith, a, b)

pair_shallow : (w : ℕ × ℤ) → depth (pair_value w) ≤ 1
unfolding pair_value
pair_shallow w = omega arith

proof_shallow : (c : CertificateView) → depth (proof_value c) ≤ 3
unfolding proof_value
proof_shallow c = let e = items_shallow pair_value 1 pair_shallow (filter is_nonzero_weight c.weights) in omega (arith, e)

row_shallow : (r : Mark × Terms) → depth (row_value r) ≤ 3
unfolding row_value
row_shallow r = let e = items_shallow pair_value 1 pair_shallow r.1 in omega (arith, e)

pub answer_shallow : (text : List ℕ) (v : NamesView) (a : AnswerView) → depth (answer_value text v a) ≤ 127
unfolding answer_value answer_members
answer_shallow text v (Yes proofs) = let e = items_shallow proof_value 3 proof_shallow proofs in omega (arith, e)
answer_shallow text v (No back values) = let e = items_shallow integer_value 0 (λ z. omega arith) values in omega (arith, e)
answer_shallow text v (Undecided cause) = omega arith
answer_shallow text v (Region rows) = let e = items_shallow row_value 3 row_shallow rows in omega (arith, e)
answer_shallow text v (Contained parts proofs) =
    let e = items_shallow count_value 0 (λ n. omega arith) parts in
    let f = items_shallow proof_value 3 proof_shallow proofs in omega (arith, e, f)
answer_shallow text v (Open tried) = omega arith

derived_shallow : (text : List ℕ) (v : NamesView) (rows : List (Mark × Terms)) (ws : List CertificateView) → depth (derived_value text v rows ws) ≤ 127
unfolding derived_value answer_members
derived_shallow text v rows ws =
    let e = items_shallow proof_value 3 proof_shallow ws in
    let f = items_shallow row_value 3 row_shallow rows in omega (arith, e, f)

pub line_is : (source : SourceTexts) (ms : Members) (d : Data) (text : List ℕ) → members_have_float ms ≡ false
    → d ≡ object (with_source source ms) → (has_float d ≡ false → text ≡ compact_text d) → text ≡ report_text source ms
unfolding report_text
line_is source ms d text none is h = h (ap has_float is ∙ source_no_float source ms none) ∙ ap compact_text is

pub text_is : {E : Type 0} {S : Type 0} (bytes : S → List ℕ) (text : List ℕ) (v : NamesView) (a : AnswerView) (d : Data) (out : Result S E)
    → d ≡ answer_value text v a
    → IfOk out (λ s. has_float d ≡ false → bytes s ≡ compact_text d) → IfOk out (λ s. bytes s ≡ answer_text text v a)
unfolding answer_text
text_is bytes text v a d (Ok s) is h = h (ap has_float is ∙ no_float text v a) ∙ ap compact_text is
text_is bytes text v a d (Err e) is h = tt

pub back_is : {E : Type 0} {S : Type 0} (bytes : S → List ℕ) (text : List ℕ) (v : NamesView) (a : AnswerView) (d : Data) (out : Result S E)
    → d ≡ answer_value text v a
    → IfOk out (λ s. depth d ≤ 127 → read (bytes s) ≡ Some d) → IfOk out (λ s. read (bytes s) ≡ Some (answer_value text v a))
back_is bytes text v a d (Ok s) is h = h (subst (λ (e : Data). depth e ≤ 127) (sym is) (answer_shallow text v a)) ∙ ap Some is
back_is bytes text v a d (Err e) is h = tt

pub derived_text_is : {E : Type 0} {S : Type 0} (bytes : S → List ℕ) (text : List ℕ) (v : NamesView) (rows : List (Mark × Terms))
    (ws : List CertificateView) (d : Data) (out : Result S E) → d ≡ derived_value text v rows ws
    → IfOk out (λ s. has_float d ≡ false → bytes s ≡ compact_text d) → IfOk out (λ s. bytes s ≡ derived_text text v rows ws)
unfolding derived_text
derived_text_is bytes text v rows ws d (Ok s) is h = h (ap has_float is ∙ derived_no_float text v rows ws) ∙ ap compact_text is
derived_text_is bytes text v rows ws d (Err e) is h = tt

pub derived_back_is : {E : Type 0} {S : Type 0} (bytes : S → List ℕ) (text : List ℕ) (v : NamesView) (rows : List (Mark × Terms))
    (ws : List CertificateView) (d : Data) (out : Result S E) → d ≡ derived_value text v rows ws
    → IfOk out (λ s. depth d ≤ 127 → read (bytes s) ≡ Some d) → IfOk out (λ s. read (bytes s) ≡ Some (derived_value text v rows ws))
derived_back_is bytes text v rows ws d (Ok s) is h = h (subst (λ (e : Data). depth e ≤ 127) (sym is) (derived_shallow text v rows ws)) ∙ ap Some is
derived_back_is bytes text v rows ws d (Err e) is h = tt

-- ---- bytes in ASCII

byte_below : (b : ℕ) → ascii_byte b < 128
byte_below b = by_cases (cases_lt b 128)
  where
    by_cases : (b < 128) ⊎ (128 ≤ b) → ascii_byte b < 128
    by_cases (inl lt) = let e : nat_lt b 128 ≡ true = search (rules, lt) in subst (λ (t : Bool). cond t b 63 < 128) (sym e) lt
    by_cases (inr le) = let e : nat_lt b 128 ≡ false = search (rules, le) in subst (λ (t : Bool). cond t b 63 < 128) (sym e) (lit< tt)

bytes_below : (bytes : List ℕ) → IsAscii (map ascii_byte bytes)
bytes_below [] = IsAscii-nil
bytes_below (b ∷ bytes) = IsAscii-cons (ascii_byte b) (map ascii_byte bytes) (byte_below b) (bytes_below bytes)

pub are_ascii : (bytes out : List ℕ) → out ≡ map ascii_byte bytes → IsAscii out
are_ascii bytes out is = subst IsAscii (sym is) (bytes_below bytes)
