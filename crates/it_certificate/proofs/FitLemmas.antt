-- What is read of an answer fits its question.
use Rattle.std.proofs.Common.{◌≡◌, ℕ, ◌+◌, ◌<◌, ◌≤◌, ◌^◌, ◌==◌, ◌&&◌, ℤ, pos, negsuc, not, unsigned_abs, List, [], ◌∷◌, length, refl, ap, sym, subst, ◌∙◌, Option, Some, None, Result, Ok, Err, option_and_then, option_map, Bool, true, false, cond, nat_le, nat_lt, rules, arith, codes}
use Rattle.std.specs.Prelude.{All, ok_or, bytes_eq, get_or}
use Rattle.std.specs.List.{position_or_len}
use Rattle.std.proofs.lemmas.List.Sums.{passes_at_first}
use Rattle.std.proofs.lemmas.Slice.Eq.{bytes_eq-Decides}
use Rattle.std.proofs.lemmas.List.Elements.{All-nil, All-cons, All-head, All-tail}
use Rattle.serde_json.specs.Data.{Data}
use Rattle.serde_json.specs.Find.{get, as_array, as_number, as_u64}
use Rattle.it_number.specs.Limit.{IsWithin}
use Rattle.it_space.specs.Rows.{Terms, IsOver}
use Rattle.it_space.specs.Spaces.{size_of}
use Rattle.it_space.specs.Answers.{CertificateView, AnswerView}
use Rattle.it_space.specs.Answers.AnswerView.{Yes, No, Undecided, Region, Contained, Open}
use Rattle.it_space.specs.declared.answers.Mark.{Mark}
use Rattle.it_space.specs.declared.answers.Cause.{Cause}
use Rattle.it_space.specs.declared.answers.Cause.TheVariants.{Pivots, Width, Scale, Rows, WideRate}
use Rattle.it_space.proofs.BoolLemmas.{both_true}
use Rattle.it_syntax.specs.Meaning.{RelationView}
use Rattle.it_syntax.specs.NamesViews.{NamesView, index_of}
use Rattle.it_question.specs.OwnLines.{RegionView}
use Rattle.it_question.specs.Questions.{QuestionView, VerbView, Prove, Eliminate, Contain}
use Rattle.it_demand.specs.QuestionSpaces.{space_of}
use Rattle.it_certificate.specs.declared.keys.Key.{Key}
use Rattle.it_certificate.specs.declared.keys.Key.TheVariants as keys
use Rattle.it_certificate.specs.declared.kinds.AnswerKind.{AnswerKind}
use Rattle.it_certificate.specs.declared.kinds.AnswerKind.TheVariants as kinds
use Rattle.it_certificate.specs.declared.kinds.CauseKind.{CauseKind}
use Rattle.it_certificate.specs.declared.kinds.CauseKind.TheVariants as causes
use Rattle.it_elemental.specs.Generators.{is_equation}
use Rattle.it_demand.specs.Demands.{kind_of}
use Rattle.it_demand.specs.Targets.{targets}
use Rattle.it_certificate.specs.Numerals.{below, count_of_integer, step_of, integer_of}
use Rattle.it_certificate.specs.Kinds.{back_of, mark_of}
use Rattle.std.specs.Option.{option_or, option_zip}
use Rattle.it_certificate.specs.Parts.{text_of, integer_at, count_at, two_of, pair_at, all_of, list_at, of_length, certificate_at, origins_at, proofs_at, point_at, back_at, cause_kind_at, cause_of, cause_at, is_row_between, row_of, marked_row_at, rows_at, set_at, parts_at, unmarked_row_at}
use Rattle.it_certificate.specs.AnswerReading.{and_then, no_at, undecided_at, contained_at}
use Rattle.it_certificate.specs.Obligations.{obligation_count}
use Rattle.it_spans.specs.Spans.{StepView}
use Rattle.it_rates.specs.Asked.{eliminated_by}
use Rattle.it_certificate.specs.Bounds.{BoundsView, HasBoundsShape, bounds_at, drop_at, step_at, steps_at, unmarked_rows_at, verb_bounds}
use Rattle.it_certificate.specs.Reports.{verb_answer}
use Rattle.it_certificate.specs.AnswerShapes.{IsNumberedAmount, IsNumbered, IsRowIn, IsFoundIn, IsCauseFor, HasVerbShape, HasQuestionShape}
use Rattle.it_certificate.proofs.WithinLemmas.{below_limit, and_then_some, map_some, cond_some, pair_some, all_of_holds, integer_at_within, point_within, point_length}
use Rattle.it_certificate.proofs.RowLemmas.{row_is_canonical}

pub key_ok : {A : Type 0} (k : Key) (o : Option A) (a : A) → ok_or o k ≡ Ok a → o ≡ Some a
key_ok k None a is = absurd (cc)
key_ok k (Some b) a is = let e : b ≡ a = cc in ap Some e

pub then_ok : {A B : Type 0} (r : Result A Key) (f : A → Result B Key) (b : B) → and_then r f ≡ Ok b → (a : A) × ((r ≡ Ok a) × (f a ≡ Ok b))
then_ok (Err k) f b is = absurd (cc)
then_ok (Ok a) f b is = (a, (refl, is))

abbrev ok_of : {A : Type 0} → A → Result A Key
ok_of a = Ok a

pub ok_same : {A : Type 0} (a b : A) → ok_of a ≡ ok_of b → a ≡ b
ok_same a b is = cc

-- ---- numbers and terms

count_at_below : (d : Data) (n : ℕ) → count_at d ≡ Some n → n < 2 ^ 32
unfolding count_at
count_at_below d n is = let h = and_then_some (option_and_then as_u64 (as_number d)) (below (2 ^ 32)) n is in below_limit (2 ^ 32) h.0 n h.1.1

pair_numbers : (d : Data) (t : ℕ × ℤ) → pair_at d ≡ Some t → IsNumberedAmount t
unfolding pair_at
pair_numbers d t is =
    let h = and_then_some (option_and_then two_of (as_array d)) (λ p. option_zip (count_at p.0) (integer_at p.1)) t is in
    let k = pair_some (count_at h.0.0) (integer_at h.0.1) t h.1.1 in
    (count_at_below h.0.0 t.0 k.0, integer_at_within h.0.1 t.1 k.1)

pub list_numbers : {A : Type 0} (P : A → Type 0) (f : Data → Option A) → ((d : Data) (a : A) → f d ≡ Some a → P a)
    → (o : Option Data) (xs : List A) → list_at f o ≡ Some xs → All P xs
list_numbers P f each o xs is = let h = and_then_some (option_and_then as_array o) (all_of f) xs is in all_of_holds P f each h.0 xs h.1.1

counted_numbers : {A : Type 0} (P : A → Type 0) (f : Data → Option A) → ((d : Data) (a : A) → f d ≡ Some a → P a) → (n : ℕ) (o : Option Data) (xs : List A)
    → option_and_then (of_length n) (list_at f o) ≡ Some xs → (length xs ≡ n) × All P xs
counted_numbers P f each n o xs is =
    let h = and_then_some (list_at f o) (of_length n) xs is in
    let m = cond_some (length h.0 == n) (Some h.0) xs h.1.1 in
    let e : h.0 ≡ xs = let s = m.1 in cc in
    let l : length h.0 ≡ n = let t = m.0 in search (rules, t) in
    (sym (ap length e) ∙ l, subst (λ zs. All P zs) e (list_numbers P f each o h.0 h.1.0))

pub certificate_numbers : (d : Data) (c : CertificateView) → certificate_at d ≡ Some c → IsNumbered c
unfolding certificate_at
certificate_numbers d c is =
    let scale = option_and_then integer_at (get (codes "scale") d) in
    let weights = list_at pair_at (get (codes "weights") d) in
    let h = map_some (option_zip scale weights) (λ p. record { scale = p.0; weights = p.1 }) c is in
    let k = pair_some scale weights h.0 h.1.0 in
    let s = and_then_some (get (codes "scale") d) integer_at h.0.0 k.0 in
    subst IsNumbered h.1.1 (record { scale = integer_at_within s.0 h.0.0 s.1.1; weights = list_numbers IsNumberedAmount pair_at pair_numbers (get (codes "weights") d) h.0.1 k.1 })

proofs_fit : (n : ℕ) (d : Data) (ps : List CertificateView) → proofs_at n d ≡ Some ps → (length ps ≡ n) × All IsNumbered ps
unfolding proofs_at
proofs_fit n d ps is = counted_numbers IsNumbered certificate_at certificate_numbers n (get (codes "proofs") d) ps is

pub origins_fit : (n : ℕ) (d : Data) (ps : List CertificateView) → origins_at n d ≡ Some ps → (length ps ≡ n) × All IsNumbered ps
unfolding origins_at
origins_fit n d ps is = counted_numbers IsNumbered certificate_at certificate_numbers n (get (codes "origins") d) ps is

-- ---- yes, no

yes_fits : (v : NamesView) (r : RelationView) (d : Data) (a : AnswerView)
    → ok_or (option_map Yes (proofs_at (length (targets (length v.variables) r)) d)) keys.Proofs ≡ Ok a → HasVerbShape v (Prove r) a
yes_fits v r d a is =
    let h = map_some (proofs_at (length (targets (length v.variables) r)) d) Yes a
    (key_ok keys.Proofs (option_map Yes (proofs_at (length (targets (length v.variables) r)) d)) a is) in
    subst (HasVerbShape v (Prove r)) h.1.1 (proofs_fit (length (targets (length v.variables) r)) d h.0 h.1.0)

back_only : (equality back : Bool) (text : List ℕ) → back_of equality text ≡ Some back → back ≡ true → equality ≡ true
back_only true back text is at = refl
back_only false back text is at = absurd (by_test (bytes_eq text (codes "forward")) (bytes_eq text (codes "back")) (is ∙ ap Some at))
  where
    by_test : (s t : Bool) → cond s (Some false) (cond t None None) ≡ Some true → ⊥
    by_test true t e = cc
    by_test false true e = cc
    by_test false false e = cc

back_fits : (equality back : Bool) (d : Data) → back_at equality d ≡ Some back → back ≡ true → equality ≡ true
unfolding back_at
back_fits equality back d is at = let h = and_then_some (text_of (get (codes "side") d)) (back_of equality) back is in back_only equality back h.0 h.1.1 at

no_fits : (v : NamesView) (r : RelationView) (d : Data) (a : AnswerView) → no_at (size_of (space_of v)) r.sign d ≡ Ok a → HasVerbShape v (Prove r) a
unfolding no_at
no_fits v r d a is =
    let size = size_of (space_of v) in
    let h = then_ok (ok_or (point_at (size_of (space_of v)) d) keys.Point)
    (λ values. and_then (ok_or (back_at (is_equation (kind_of r.sign)) d) keys.Side) (λ back. Ok (No back values))) a is in
    let k = then_ok (ok_or (back_at (is_equation (kind_of r.sign)) d) keys.Side) (λ back. Ok (No back h.0)) a h.1.1 in
    let p = key_ok keys.Point (point_at (size_of (space_of v)) d) h.0 h.1.0 in
    let b = key_ok keys.Side (back_at (is_equation (kind_of r.sign)) d) k.0 k.1.0 in
    subst (HasVerbShape v (Prove r)) (ok_same (No k.0 h.0) a k.1.1) (
      point_length (size_of (space_of v)) d h.0 p,
      point_within
          (size_of (space_of v)) d h.0 p,
      back_fits (is_equation (kind_of r.sign)) k.0 d b,
    )

-- ---- undecided

integer_below : (z : ℤ) (n : ℕ) → count_of_integer z ≡ Some n → n < 2 ^ 32
integer_below (pos m) n is = below_limit (2 ^ 32) m n is
integer_below (negsuc m) n is = absurd (cc)

pub step_below : (text : List ℕ) (n : ℕ) → step_of text ≡ Some n → n < 2 ^ 32
unfolding step_of
step_below text n is = let h = and_then_some (integer_of text) count_of_integer n is in integer_below h.0 n h.1.1

-- a name that is found is the name at its place
found_in : (v : NamesView) (text : List ℕ) (r : ℕ) → index_of v.rates text ≡ Some r → get_or v.rates r [] ≡ text
found_in v text r is =
    let h = cond_some (nat_lt (position_or_len (bytes_eq text) v.rates) (length v.rates)) (Some (position_or_len (bytes_eq text) v.rates)) r is in
    let e : position_or_len (bytes_eq text) v.rates ≡ r = let s = h.1 in cc in
    let lt : position_or_len (bytes_eq text) v.rates < length v.rates = let t = h.0 in search (rules, t) in
    subst (λ i. get_or v.rates i [] ≡ text) e (sym ((bytes_eq-Decides text (get_or v.rates (position_or_len (bytes_eq text) v.rates) [])).0
    (passes_at_first (bytes_eq text) v.rates [] lt)))

found_rate : (v : NamesView) (text : List ℕ) (r : ℕ) → index_of v.rates text ≡ Some r → IsFoundIn v r
found_rate v text r is = ap (index_of v.rates) (found_in v text r is) ∙ is

width_fits : (v : NamesView) (text : List ℕ) (c : Cause) (o : Option ℕ) → step_of text ≡ o
    → option_or (option_map Width o) (option_map WideRate (index_of v.rates text)) ≡ Some c → IsCauseFor v c
width_fits v text c (Some n) at is = subst (IsCauseFor v) (let e : Width n ≡ c = cc in e) (step_below text n at)
width_fits v text c None at is =
    let h = map_some (index_of v.rates text) WideRate c is in
    subst (IsCauseFor v) h.1.1 (found_rate v text h.0 h.1.0, ap step_of (found_in v text h.0 h.1.0) ∙ at)

place_fits : (v : NamesView) (kind : CauseKind) (text : List ℕ) (c : Cause) → cause_of v.rates kind text ≡ Some c → IsCauseFor v c
place_fits v causes.Pivots text c is = let h = map_some (step_of text) Pivots c is in subst (IsCauseFor v) h.1.1 (step_below text h.0 h.1.0)
place_fits v causes.Width text c is = width_fits v text c (step_of text) refl is
place_fits v causes.Scale text c is = let h = cond_some (bytes_eq text (codes "0")) (Some Scale) c is in subst (IsCauseFor v) (let s = h.1 in let e : Scale ≡ c = cc in e) tt
place_fits v causes.Rows text c is = let h = map_some (index_of v.rates text) Rows c is in subst (IsCauseFor v) h.1.1 (found_rate v text h.0 h.1.0)

cause_fits : (v : NamesView) (kind : CauseKind) (d : Data) (c : Cause) → cause_at v.rates kind d ≡ Some c → IsCauseFor v c
unfolding cause_at
cause_fits v kind d c is = let h = and_then_some (text_of (get (codes "at") d)) (cause_of v.rates kind) c is in place_fits v kind h.0 c h.1.1

undecided_fits : (v : NamesView) (d : Data) (a : AnswerView) → undecided_at v.rates d ≡ Ok a → (c : Cause) × ((Undecided c ≡ a) × IsCauseFor v c)
unfolding undecided_at
undecided_fits v d a is =
    let h = then_ok (ok_or (cause_kind_at d) keys.Cause) (λ kind. and_then (ok_or (cause_at v.rates kind d) keys.At) (λ cause. Ok (Undecided cause))) a is in
    let k = then_ok (ok_or (cause_at v.rates h.0 d) keys.At) (λ cause. Ok (Undecided cause)) a h.1.1 in
    (k.0, (ok_same (Undecided k.0) a k.1.1, cause_fits v h.0 d k.0 (key_ok keys.At (cause_at v.rates h.0 d) k.0 k.1.0)))

-- ---- regions

up_to : (from size : ℕ) (ts : Terms) → 1 ≤ from → is_row_between from size ts ≡ true → IsOver size ts
up_to from size [] low is = All-nil (λ t. (1 ≤ t.0) × (t.0 ≤ size))
up_to from size (t ∷ ts) low is =
    let h = both_true (nat_le from t.0 && (nat_le t.0 size && not (unsigned_abs t.1 == 0))) (is_row_between (t.0 + 1) size ts) is in
    let k = both_true (nat_le from t.0) (nat_le t.0 size && not (unsigned_abs t.1 == 0)) h.0 in
    let m = both_true (nat_le t.0 size) (not (unsigned_abs t.1 == 0)) k.1 in
    let there : from ≤ t.0 = let e = k.0 in search (rules, e) in
    let last : t.0 ≤ size = let e = m.0 in search (rules, e) in
    All-cons (λ t. (1 ≤ t.0) × (t.0 ≤ size)) t ts (omega (arith, there, low), last) (up_to (t.0 + 1) size ts (omega arith) h.1)

all_second : (ts : Terms) → All IsNumberedAmount ts → All (λ t. IsWithin t.1) ts
all_second [] all = All-nil (λ t. IsWithin t.1)
all_second (t ∷ ts) all = All-cons (λ t. IsWithin t.1) t ts (All-head IsNumberedAmount t ts all).1 (all_second ts (All-tail IsNumberedAmount t ts all))

terms_numbers : (d : Data) (ts : Terms) → list_at pair_at (get (codes "row") d) ≡ Some ts → All IsNumberedAmount ts
terms_numbers d ts is = list_numbers IsNumberedAmount pair_at pair_numbers (get (codes "row") d) ts is

unmarked_row_is : (size : ℕ) (d : Data) (ts : Terms) → unmarked_row_at size d ≡ Some ts → All IsNumberedAmount ts × (is_row_between 1 size ts ≡ true)
unfolding unmarked_row_at
unmarked_row_is size d ts is =
    let k = and_then_some (list_at pair_at (get (codes "row") d)) (row_of size) ts is in
    let m = cond_some (is_row_between 1 size k.0) (Some k.0) ts k.1.1 in
    let e : k.0 ≡ ts = let s = m.1 in cc in
    (subst (λ xs. All IsNumberedAmount xs) e (terms_numbers d k.0 k.1.0), subst (λ xs. is_row_between 1 size xs ≡ true) e m.0)

row_fits : (size : ℕ) (d : Data) (r : Mark × Terms) → marked_row_at size d ≡ Some r → IsRowIn size r
unfolding marked_row_at
row_fits size d r is =
    let h = pair_some (option_and_then mark_of (text_of (get (codes "mark") d))) (unmarked_row_at size d) r is in
    let k = unmarked_row_is size d r.1 h.1 in
    record { terms = k.0; canonical = row_is_canonical size r.1 k.1 (all_second r.1 k.0); coordinates = up_to 1 size r.1 (omega arith) k.1 }

region_fits : (v : NamesView) (rates : List ℕ) (d : Data) (a : AnswerView)
    → ok_or (option_map Region (rows_at (size_of (space_of v)) d)) keys.Rows ≡ Ok a → HasVerbShape v (Eliminate rates) a
unfolding rows_at
region_fits v rates d a is =
    let rows = list_at (marked_row_at (size_of (space_of v))) (get (codes "rows") d) in
    let h = map_some rows Region a (key_ok keys.Rows (option_map Region rows) a is) in
    subst (HasVerbShape v (Eliminate rates)) h.1.1
    (list_numbers (IsRowIn (size_of (space_of v))) (marked_row_at (size_of (space_of v))) (row_fits (size_of (space_of v))) (get (codes "rows") d) h.0 h.1.0)

-- ---- outer bounds

unmarked_row_fits : (size : ℕ) (d : Data) (r : Terms) → unmarked_row_at size d ≡ Some r → IsOver size r
unmarked_row_fits size d r is = up_to 1 size r (omega arith) (unmarked_row_is size d r is).1

step_fits : (size : ℕ) (d : Data) (s : StepView) → step_at size d ≡ Some s → length s.ray ≡ size
unfolding step_at
step_fits size d s is =
    let drops = list_at drop_at (get (codes "drops") d) in
    let h = map_some (option_zip (point_at size d) drops) (λ p. record { ray = p.0; drops = p.1 }) s is in
    let k = pair_some (point_at size d) drops h.0 h.1.0 in
    subst (λ (z : StepView). length z.ray ≡ size) h.1.1 (point_length size d h.0.0 k.0)

rows_fit : (size : ℕ) (d : Data) (rows : List Terms) → unmarked_rows_at size d ≡ Some rows → All (IsOver size) rows
unfolding unmarked_rows_at
rows_fit size d rows is = list_numbers (IsOver size) (unmarked_row_at size) (unmarked_row_fits size) (get (codes "rows") d) rows is

steps_fit : (size : ℕ) (d : Data) (steps : List StepView) → steps_at size d ≡ Some steps → All (λ s. length s.ray ≡ size) steps
unfolding steps_at
steps_fit size d steps is = list_numbers (λ s. length s.ray ≡ size) (step_at size) (step_fits size) (get (codes "rays") d) steps is

-- rows, a certificate of each and rays
abbrev AreSized : ℕ → BoundsView → Type 0
AreSized size b = All (IsOver size) b.rows × (length b.proofs ≡ length b.rows) × All (λ s. length s.ray ≡ size) b.steps

abbrev bounds_made : List Terms → List CertificateView → List StepView → BoundsView
bounds_made rows proofs steps = record { rows = rows; proofs = proofs; steps = steps }

bounds_sized : (size : ℕ) (d : Data) (b : BoundsView) → bounds_at size d ≡ Ok b → AreSized size b
unfolding bounds_at
bounds_sized size d b is =
    let h = then_ok (ok_or (unmarked_rows_at size d) keys.Rows) (λ rows. and_then (ok_or (proofs_at (length rows) d) keys.Proofs)
    (λ proofs. and_then (ok_or (steps_at size d) keys.Rays) (λ steps. Ok (bounds_made rows proofs steps)))) b is in
    let k = then_ok (ok_or (proofs_at (length h.0) d) keys.Proofs) (λ proofs. and_then (ok_or (steps_at size d) keys.Rays)
    (λ steps. Ok (bounds_made h.0 proofs steps))) b h.1.1 in
    let m = then_ok (ok_or (steps_at size d) keys.Rays) (λ steps. Ok (bounds_made h.0 k.0 steps)) b k.1.1 in
    subst (AreSized size) {x = bounds_made h.0 k.0 m.0} (ok_same (bounds_made h.0 k.0 m.0) b m.1.1) (
      rows_fit size d h.0 (key_ok keys.Rows (unmarked_rows_at size d) h.0 h.1.0),
      (proofs_fit (length h.0) d k.0 (key_ok keys.Proofs (proofs_at (length h.0) d) k.0 k.1.0)).0,
      steps_fit size d m.0 (key_ok keys.Rays (steps_at size d) m.0 m.1.0),
    )

pub bounds_fit : (q : QuestionView) (d : Data) (b : BoundsView) → verb_bounds q.body.names q.body.verb d ≡ Ok b → HasBoundsShape q.body b
bounds_fit q d b is = by_verb q.body.verb refl is
  where
    by_verb : (verb : VerbView) → q.body.verb ≡ verb → verb_bounds q.body.names verb d ≡ Ok b → HasBoundsShape q.body b
    by_verb (Prove r) e f = absurd (cc)
    by_verb (Eliminate rates) e f =
        let h = bounds_sized (size_of (space_of q.body.names)) d b f in
        record { gone = rates; asked = ap eliminated_by e; rows = h.0; proofs = h.1; rays = h.2 }
    by_verb (Contain first second tries) e f = absurd (cc)

-- ---- containments

abbrev IsSetIn : ℕ → ℕ → Type 0
IsSetIn n s = (s < 2 ^ 32) × (s < 2 ^ n)

set_fits : (n : ℕ) (d : Data) (s : ℕ) → set_at n d ≡ Some s → IsSetIn n s
unfolding set_at
set_fits n d s is =
    let h = and_then_some (count_at d) (below (2 ^ n)) s is in
    let m = cond_some (nat_lt h.0 (2 ^ n)) (Some h.0) s h.1.1 in
    let e : h.0 ≡ s = let t = m.1 in cc in
    (subst (λ k. k < 2 ^ 32) e (count_at_below d h.0 h.1.0), below_limit (2 ^ n) h.0 s h.1.1)

parts_fit : (count n : ℕ) (d : Data) (ss : List ℕ) → parts_at count n d ≡ Some ss → (length ss ≡ count) × All (IsSetIn n) ss
unfolding parts_at
parts_fit count n d ss is = counted_numbers (IsSetIn n) (set_at n) (set_fits n) count (get (codes "parts") d) ss is

contained_fits : (v : NamesView) (first second : RegionView) (tries : List (List ℕ)) (d : Data) (a : AnswerView)
    → contained_at second.auxiliaries (length first.names.variables) (obligation_count second) d ≡ Ok a
    → HasVerbShape v (Contain first second tries) a
unfolding contained_at
contained_fits v first second tries d a is =
    let h = then_ok (ok_or (parts_at second.auxiliaries (length first.names.variables) d) keys.Parts)
    (λ parts. and_then (ok_or (proofs_at (obligation_count second) d) keys.Proofs) (λ proofs. Ok (Contained parts proofs))) a is in
    let k = then_ok (ok_or (proofs_at (obligation_count second) d) keys.Proofs) (λ proofs. Ok (Contained h.0 proofs)) a h.1.1 in
    let p = parts_fit second.auxiliaries (length first.names.variables) d h.0
    (key_ok keys.Parts (parts_at second.auxiliaries (length first.names.variables) d) h.0 h.1.0) in
    let w = proofs_fit (obligation_count second) d k.0 (key_ok keys.Proofs (proofs_at (obligation_count second) d) k.0 k.1.0) in
    subst (HasVerbShape v (Contain first second tries)) (ok_same (Contained h.0 k.0) a k.1.1)
    (record { each = p.0; sets = p.1; obligations = w.0; numbers = w.1 })

open_fits : (v : NamesView) (first second : RegionView) (tries : List (List ℕ)) (d : Data) (a : AnswerView) → ok_or (option_map Open (option_and_then count_at (get (codes "tried") d))) keys.Tried ≡ Ok a → HasVerbShape v (Contain first second tries) a
open_fits v first second tries d a is =
    let tried = option_and_then count_at (get (codes "tried") d) in
    let h = map_some tried Open a (key_ok keys.Tried (option_map Open tried) a is) in
    let k = and_then_some (get (codes "tried") d) count_at h.0 h.1.0 in
    subst (HasVerbShape v (Contain first second tries)) h.1.1 (count_at_below k.0 h.0 k.1.1)

-- ---- by the verb

prove_fits : (v : NamesView) (r : RelationView) (kind : AnswerKind) (d : Data) (a : AnswerView) → verb_answer v (Prove r) kind d ≡ Ok a
    → HasVerbShape v (Prove r) a
prove_fits v r kinds.Yes d a is = yes_fits v r d a is
prove_fits v r kinds.No d a is = no_fits v r d a is
prove_fits v r kinds.Undecided d a is = let h = undecided_fits v d a is in subst (HasVerbShape v (Prove r)) h.1.0 h.1.1
prove_fits v r kinds.Region d a is = absurd (cc)
prove_fits v r kinds.Contained d a is = absurd (cc)
prove_fits v r kinds.Open d a is = absurd (cc)

eliminate_fits : (v : NamesView) (rates : List ℕ) (kind : AnswerKind) (d : Data) (a : AnswerView)
    → verb_answer v (Eliminate rates) kind d ≡ Ok a → HasVerbShape v (Eliminate rates) a
eliminate_fits v rates kinds.Yes d a is = absurd (cc)
eliminate_fits v rates kinds.No d a is = absurd (cc)
eliminate_fits v rates kinds.Undecided d a is = let h = undecided_fits v d a is in subst (HasVerbShape v (Eliminate rates)) h.1.0 h.1.1
eliminate_fits v rates kinds.Region d a is = region_fits v rates d a is
eliminate_fits v rates kinds.Contained d a is = absurd (cc)
eliminate_fits v rates kinds.Open d a is = absurd (cc)

contain_fits : (v : NamesView) (first second : RegionView) (tries : List (List ℕ)) (kind : AnswerKind) (d : Data) (a : AnswerView)
    → verb_answer v (Contain first second tries) kind d ≡ Ok a → HasVerbShape v (Contain first second tries) a
contain_fits v first second tries kinds.Yes d a is = absurd (cc)
contain_fits v first second tries kinds.No d a is = absurd (cc)
contain_fits v first second tries kinds.Undecided d a is = absurd (cc)
contain_fits v first second tries kinds.Region d a is = absurd (cc)
contain_fits v first second tries kinds.Contained d a is = contained_fits v first second tries d a is
contain_fits v first second tries kinds.Open d a is = open_fits v first second tries d a is

pub answer_fits : (q : QuestionView) (kind : AnswerKind) (d : Data) (a : AnswerView) → verb_answer q.body.names q.body.verb kind d ≡ Ok a
    → HasQuestionShape q.body a
unfolding HasQuestionShape
answer_fits q kind d a is = by_verb q.body.verb is
  where
    by_verb : (verb : VerbView) → verb_answer q.body.names verb kind d ≡ Ok a → HasVerbShape q.body.names verb a
    by_verb (Prove r) e = prove_fits q.body.names r kind d a e
    by_verb (Eliminate rates) e = eliminate_fits q.body.names rates kind d a e
    by_verb (Contain first second tries) e = contain_fits q.body.names first second tries kind d a e
