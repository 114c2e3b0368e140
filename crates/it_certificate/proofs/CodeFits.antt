-- What is read of a code fits its question.
use Rattle.std.proofs.Common.{◌≡◌, ℕ, lit<, ◌+◌, ◌<◌, ◌≤◌, ◌^◌, ◌==◌, List, length, ap, sym, subst, ◌∙◌, Some, Ok, option_and_then, option_map, nat_le, rules, arith, codes}
use Rattle.std.specs.Prelude.{ok_or}
use Rattle.std.proofs.Math.Nat.{pow-le-pow_right}
use Rattle.std.proofs.Math.Pow.{pow_mono}
use Rattle.serde_json.specs.Data.{Data}
use Rattle.serde_json.specs.Find.{get}
use Rattle.it_codes.specs.Codes.{IsCode, most_messages, size}
use Rattle.it_codes.specs.declared.codes.Field.{Field}
use Rattle.it_codes.specs.declared.codes.Field.TheVariants.{Two, Three}
use Rattle.it_space.specs.Answers.{AnswerView}
use Rattle.it_space.specs.Answers.AnswerView.{No}
use Rattle.it_space.specs.Spaces.{most_variables, size_of}
use Rattle.it_elemental.specs.Generators.{is_equation}
use Rattle.it_demand.specs.Demands.{kind_of}
use Rattle.it_demand.specs.QuestionSpaces.{space_of}
use Rattle.it_syntax.specs.Meaning.{RelationView}
use Rattle.it_syntax.specs.NamesViews.{NamesView}
use Rattle.it_question.specs.Questions.{QuestionView, VerbView, Prove, Eliminate, Contain}
use Rattle.it_certificate.specs.declared.keys.Key.TheVariants as keys
use Rattle.it_certificate.specs.declared.kinds.AnswerKind.TheVariants as kinds
use Rattle.it_certificate.specs.AnswerReading.{and_then, no_at}
use Rattle.it_certificate.specs.CodeReading.{HasCodeShape, HasCodedShape, IsNo, ReportedCodeView, code_in, field_at, most_symbols, names_code, some_of, symbols_at, times_at, variable_at, variables_at}
use Rattle.it_certificate.specs.Numerals.{below}
use Rattle.it_certificate.specs.Parts.{back_at, count_at, list_at, of_length, point_at}
use Rattle.it_certificate.specs.Reports.{verb_answer}
use Rattle.it_certificate.proofs.FitLemmas.{answer_fits, key_ok, ok_same, then_ok}
use Rattle.it_certificate.proofs.WithinLemmas.{and_then_some, below_limit, cond_some, map_some}

-- ---- keys

few_messages : (field : Field) (k : ℕ) → k < most_symbols field + 1 → size field ^ k ≤ most_messages
few_messages Two k lt = let le : k ≤ 12 = omega (arith, lt) in pow_mono {i = k} {j = 12} le
few_messages Three k lt =
    let le : k ≤ 7 = omega (arith, lt) in
    let positive : 0 < 3 = lit< tt in
    let power : 3 ^ k ≤ 3 ^ 7 = pow-le-pow_right positive le in
    omega (arith, power)

symbols_fit : (field : Field) (d : Data) (k : ℕ) → symbols_at field d ≡ Some k → size field ^ k ≤ most_messages
symbols_fit field d k is =
    let h = and_then_some (option_and_then count_at (get (codes "symbols") d)) (below (most_symbols field + 1)) k is in
    few_messages field k (below_limit (most_symbols field + 1) h.0 k h.1.1)

some_is : (n times : ℕ) → some_of n ≡ Some times → 1 ≤ times
some_is n times is =
    let h = cond_some (nat_le 1 n) (Some n) times is in
    let e : n ≡ times = let s = h.1 in cc in
    let le : 1 ≤ n = let t = h.0 in search (rules, t) in
    subst (λ m. 1 ≤ m) e le

times_fit : (d : Data) (times : ℕ) → times_at d ≡ Some times → 1 ≤ times
times_fit d times is = let h = and_then_some (option_and_then count_at (get (codes "times") d)) some_of times is in some_is h.0 times h.1.1

variables_fit : (q k n : ℕ) (d : Data) (vs : List (List (List ℕ))) → variables_at q k n d ≡ Some vs → length vs ≡ n
unfolding variables_at
variables_fit q k n d vs is =
    let h = and_then_some (list_at (variable_at q k) (get (codes "functions") d)) (of_length n) vs is in
    let m = cond_some (length h.0 == n) (Some h.0) vs h.1.1 in
    let e : h.0 ≡ vs = let s = m.1 in cc in
    let f : length h.0 ≡ n = let t = m.0 in search (rules, t) in
    sym (ap length e) ∙ f

-- ---- a code

-- a code that is read of a question's variables is one that calls take
pub code_is : (n : ℕ) (d : Data) (field : Field) (k : ℕ) (vs : List (List (List ℕ))) → 1 ≤ n → n ≤ most_variables → symbols_at field d ≡ Some k
    → variables_at (size field) k n d ≡ Some vs → IsCode (record { field = field; symbols = k; variables = vs })
code_is n d field k vs some few symbols variables =
    let same : length vs ≡ n = variables_fit (size field) k n d vs variables in
    record {
      some = omega (arith, some, same);
      few = omega (arith, few, same);
      messages = symbols_fit field d k symbols;
    }

abbrev code_made : Field → ℕ → List (List (List ℕ)) → ℕ → ReportedCodeView
code_made field symbols variables times = record { code = record { field = field; symbols = symbols; variables = variables }; times = times }

code_fits : (n : ℕ) (d : Data) (c : ReportedCodeView) → code_in n d ≡ Some c → HasCodeShape n c
unfolding code_in
code_fits n d c is =
    let f = and_then_some (field_at d) (λ field. option_and_then (λ symbols. option_and_then
    (λ variables. option_map (λ times. code_made field symbols variables times) (times_at d)) (variables_at (size field) symbols n d))
    (symbols_at field d)) c is in
    let k = and_then_some (symbols_at f.0 d) (λ symbols. option_and_then
    (λ variables. option_map (λ times. code_made f.0 symbols variables times) (times_at d)) (variables_at (size f.0) symbols n d)) c
    f.1.1 in
    let v = and_then_some (variables_at (size f.0) k.0 n d) (λ variables. option_map (λ times. code_made f.0 k.0 variables times) (times_at d)) c k.1.1 in
    let t = map_some (times_at d) (λ times. code_made f.0 k.0 v.0 times) c v.1.1 in
    subst (HasCodeShape n) {x = code_made f.0 k.0 v.0 t.0} t.1.1 (record {
      variables = variables_fit (size f.0) k.0 n d v.0 v.1.0;
      messages = symbols_fit f.0 d k.0 k.1.0;
      times = times_fit d t.0 t.1.0;
    })

pub names_fit : (v : NamesView) (d : Data) (c : ReportedCodeView) → names_code v d ≡ Ok c → HasCodeShape (length v.variables) c
unfolding names_code
names_fit v d c is =
    let h = and_then_some (get (codes "code") d) (code_in (length v.variables)) c (key_ok keys.Code (option_and_then (code_in (length v.variables)) (get (codes "code") d)) c is) in
    code_fits (length v.variables) h.0 c h.1.1

-- ---- the answer is a no

no_is : (v : NamesView) (r : RelationView) (d : Data) (a : AnswerView) → no_at (size_of (space_of v)) r.sign d ≡ Ok a → IsNo a
unfolding no_at
no_is v r d a is =
    let h = then_ok (ok_or (point_at (size_of (space_of v)) d) keys.Point)
    (λ values. and_then (ok_or (back_at (is_equation (kind_of r.sign)) d) keys.Side) (λ back. Ok (No back values))) a is in
    let k = then_ok (ok_or (back_at (is_equation (kind_of r.sign)) d) keys.Side) (λ back. Ok (No back h.0)) a h.1.1 in
    subst IsNo (ok_same (No k.0 h.0) a k.1.1) tt

answers_no : (v : NamesView) (verb : VerbView) (d : Data) (a : AnswerView) → verb_answer v verb kinds.No d ≡ Ok a → IsNo a
answers_no v (Prove r) d a is = no_is v r d a is
answers_no v (Eliminate rates) d a is = absurd (cc)
answers_no v (Contain first second tries) d a is = absurd (cc)

pub coded_fits : (q : QuestionView) (d : Data) (a : AnswerView) (c : ReportedCodeView)
    → verb_answer q.body.names q.body.verb kinds.No d ≡ Ok a → names_code q.body.names d ≡ Ok c → HasCodedShape q.body a c
coded_fits q d a c answered coded = record {
  answered = answer_fits q kinds.No d a answered;
  no = answers_no q.body.names q.body.verb d a answered;
  code = names_fit q.body.names d c coded;
}
