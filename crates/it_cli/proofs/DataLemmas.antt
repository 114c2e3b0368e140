-- The text of a JSON value without floats is UTF-8 and reads as that value; and an answer that fits its question has such a value.
use Rattle.std.proofs.Common.{◌≡◌, ℕ, suc, max, ◌<◌, ◌≤◌, ◌^◌, ℤ, pos, negsuc, List, [], ◌∷◌, ◌++◌, map, filter, codes, decimal, Bool, true, false, Some, Result, Ok, option_map, option_and_then, All, IsUtf8, refl, sym, ap, ap₂, subst, ◌∙◌, arith, lit≤, append-nil, if◌then◌else◌}
use Rattle.std.proofs.lemmas.Fmt.{IsAscii-decimal_wide}
use Rattle.std.proofs.lemmas.List.Elements.{All-head, All-tail, All-filter}
use Rattle.std.proofs.lemmas.Str.{IsUtf8-append, IsUtf8-nil, IsUtf8-from_ascii}
use Rattle.std.proofs.lemmas.Str.Ascii.{IsAscii-cons}
use Rattle.json.specs.Json as json
use Rattle.json.specs.Lex.{tokens}
use Rattle.json.specs.Print.{IsNumber, quoted}
use Rattle.json.specs.Tree as tree
use Rattle.json.specs.Tree.{json_tokens, HasNumbers, ItemsHaveNumbers, MembersHaveNumbers}
use Rattle.json.proofs.Printed.Decimals.{IsNumber-decimal}
use Rattle.json.proofs.Printed.Tokens.{tokens-print}
use Rattle.json.proofs.Printed.Trees.{value-json_tokens, ArePrintable-json_tokens}
use Rattle.json.proofs.Printed.Utf8.{IsUtf8-are_ascii, IsUtf8-quoted, IsUtf8-boolean}
use Rattle.serde_json.specs.Data.{Num, unsigned, negative, float, Data, null, boolean, number, string, array, object, Items, no_items, item, Members, no_members, member, put, depth, items_depth, members_depth}
use Rattle.serde_json.specs.Read.{read, max_depth, number_of, of_json, of_items, of_members}
use Rattle.serde_json.specs.View.{items_of}
use Rattle.serde_json.specs.Written.{number_text, outline, items_outline, members_outline, comma_if, compact_text, items_text, members_text}
use Rattle.serde_json.proofs.Numbers.{number_of-decimal}
use Rattle.serde_json.proofs.Texts.{print-outline}
use Rattle.it_number.specs.Limit.{IsWithin}
use Rattle.it_space.specs.Rows.{Terms}
use Rattle.it_space.specs.Answers.{AnswerView, CertificateView, is_nonzero_weight, mark_word}
use Rattle.it_space.specs.Answers.AnswerView.{Yes, No, Undecided, Region, Contained, Open}
use Rattle.it_space.specs.declared.answers.Cause.{Cause}
use Rattle.it_space.specs.declared.answers.Cause.TheVariants as causes
use Rattle.it_space.specs.declared.answers.Mark.{Mark}
use Rattle.it_space.specs.declared.answers.Mark.TheVariants.{Plain, Needed, Unsettled}
use Rattle.it_syntax.specs.NamesViews.{NamesView}
use Rattle.it_certificate.specs.AnswerShapes.{IsNumberedAmount, IsNumbered}
use Rattle.it_certificate.specs.Values.{integer_value, count_value, pair_value, proof_value, row_value, cause_word, step_or_rate_word, answer_members, answer_value, answer_text, derived_text, derived_value}
use Rattle.it_certificate.proofs.ValueLemmas.{answer_shallow, derived_back_is}

-- ---- values without floats

-- a number of at most 64 bits
abbrev pub IsPlainNumber : Num → Type 0
IsPlainNumber (unsigned n) = n < 2 ^ 64
IsPlainNumber (negative z) = ⊥
IsPlainNumber (float x) = ⊥

-- the members, each put in where its key belongs
abbrev put_all : Members → Members → Members
put_all no_members found = found
put_all (member k d ms) found = put_all ms (put k d found)

-- whole numbers below 2 ^ 64, texts in UTF-8, and members in the order of their keys
abbrev mutual
  pub IsPlain : Data → Type 0
  IsPlain null = Unit {0}
  IsPlain (boolean b) = Unit {0}
  IsPlain (number n) = IsPlainNumber n
  IsPlain (string s) = IsUtf8 s
  IsPlain (array ds) = ItemsArePlain ds
  IsPlain (object ms) = MembersArePlain ms × (put_all ms no_members ≡ ms)

  pub ItemsArePlain : Items → Type 0
  ItemsArePlain no_items = Unit {0}
  ItemsArePlain (item d ds) = IsPlain d × ItemsArePlain ds

  pub MembersArePlain : Members → Type 0
  MembersArePlain no_members = Unit {0}
  MembersArePlain (member k d ms) = IsUtf8 k × (IsPlain d × MembersArePlain ms)

number_is : (n : Num) → IsPlainNumber n → IsNumber (number_text n)
number_is (unsigned n) h = IsNumber-decimal n h
number_is (negative z) h = absurd h
number_is (float x) h = absurd h

mutual
  has_numbers : (d : Data) → IsPlain d → HasNumbers (outline d)
  has_numbers null h = tt
  has_numbers (boolean b) h = tt
  has_numbers (number n) h = number_is n h
  has_numbers (string s) h = tt
  has_numbers (array ds) h = items_numbers ds h
  has_numbers (object ms) h = members_numbers ms h.0

  items_numbers : (ds : Items) → ItemsArePlain ds → ItemsHaveNumbers (items_outline ds)
  items_numbers no_items h = tt
  items_numbers (item d ds) h = (has_numbers d h.0, items_numbers ds h.1)

  members_numbers : (ms : Members) → MembersArePlain ms → MembersHaveNumbers (members_outline ms)
  members_numbers no_members h = tt
  members_numbers (member k d ms) h = (has_numbers d h.1.0, members_numbers ms h.1.1)

mutual
  same_depth : (d : Data) → tree.depth (outline d) ≡ depth d
  same_depth null = refl
  same_depth (boolean b) = refl
  same_depth (number n) = refl
  same_depth (string s) = refl
  same_depth (array ds) = ap suc (same_items_depth ds)
  same_depth (object ms) = ap suc (same_members_depth ms)

  same_items_depth : (ds : Items) → tree.items_depth (items_outline ds) ≡ items_depth ds
  same_items_depth no_items = refl
  same_items_depth (item d ds) = ap₂ max (same_depth d) (same_items_depth ds)

  same_members_depth : (ms : Members) → tree.members_depth (members_outline ms) ≡ members_depth ms
  same_members_depth no_members = refl
  same_members_depth (member k d ms) = ap₂ max (same_depth d) (same_members_depth ms)

number_back : (n : Num) → IsPlainNumber n → number_of (number_text n) ≡ Some n
number_back (unsigned n) h = number_of-decimal n h
number_back (negative z) h = absurd h
number_back (float x) h = absurd h

mutual
  data_back : (d : Data) → IsPlain d → of_json (outline d) ≡ Some d
  data_back null h = refl
  data_back (boolean b) h = refl
  data_back (number n) h = ap (option_map number) (number_back n h)
  data_back (string s) h = refl
  data_back (array ds) h = ap (option_map array) (items_back ds h)
  data_back (object ms) h = ap (option_map object) (members_back ms no_members h.0 ∙ ap Some h.1)

  items_back : (ds : Items) → ItemsArePlain ds → of_items (items_outline ds) ≡ Some ds
  items_back no_items h = refl
  items_back (item d ds) h = ap (option_and_then (λ x. option_map (item x) (of_items (items_outline ds)))) (data_back d h.0)
      ∙ ap (option_map (item d)) (items_back ds h.1)

  members_back : (ms found : Members) → MembersArePlain ms → of_members (members_outline ms) found ≡ Some (put_all ms found)
  members_back no_members found h = refl
  members_back (member k d ms) found h = ap (option_and_then (λ x. of_members (members_outline ms) (put k x found))) (data_back d h.1.0)
      ∙ members_back ms (put k d found) h.1.1

number_utf8 : (n : Num) → IsPlainNumber n → IsUtf8 (number_text n)
number_utf8 (unsigned n) h = let e : 2 ^ 64 ≤ 10 ^ 64 = lit≤ tt in IsUtf8-from_ascii (decimal n) (IsAscii-decimal_wide n (omega (arith, h, e)))
number_utf8 (negative z) h = absurd h
number_utf8 (float x) h = absurd h

comma_utf8 : (later : Bool) → IsUtf8 (comma_if later)
comma_utf8 true = IsUtf8-are_ascii (44 ∷ []) refl
comma_utf8 false = IsUtf8-nil

mutual
  text_utf8 : (d : Data) → IsPlain d → IsUtf8 (compact_text d)
  text_utf8 null h = IsUtf8-are_ascii (compact_text null) refl
  text_utf8 (boolean b) h = IsUtf8-boolean b
  text_utf8 (number n) h = number_utf8 n h
  text_utf8 (string s) h = IsUtf8-quoted s h
  text_utf8 (array ds) h = IsUtf8-append (91 ∷ []) (items_text false ds) (IsUtf8-are_ascii (91 ∷ []) refl) (items_utf8 false ds h)
  text_utf8 (object ms) h = IsUtf8-append (123 ∷ []) (members_text false ms) (IsUtf8-are_ascii (123 ∷ []) refl) (members_utf8 false ms h.0)

  items_utf8 : (later : Bool) (ds : Items) → ItemsArePlain ds → IsUtf8 (items_text later ds)
  items_utf8 later no_items h = IsUtf8-are_ascii (93 ∷ []) refl
  items_utf8 later (item d ds) h =
      IsUtf8-append (comma_if later) (compact_text d ++ items_text true ds) (comma_utf8 later)
      (IsUtf8-append (compact_text d) (items_text true ds) (text_utf8 d h.0) (items_utf8 true ds h.1))

  members_utf8 : (later : Bool) (ms : Members) → MembersArePlain ms → IsUtf8 (members_text later ms)
  members_utf8 later no_members h = IsUtf8-are_ascii (125 ∷ []) refl
  members_utf8 later (member k d ms) h =
      let rest = compact_text d ++ members_text true ms in
      IsUtf8-append (comma_if later) (quoted k ++ 58 ∷ rest) (comma_utf8 later)
      (IsUtf8-append (quoted k) (58 ∷ rest) (IsUtf8-quoted k h.0)
      (IsUtf8-append (58 ∷ []) rest (IsUtf8-are_ascii (58 ∷ []) refl) (IsUtf8-append (compact_text d) (members_text true ms)
      (text_utf8 d h.1.0) (members_utf8 true ms h.1.1))))

-- the text of such a value, if it isn't deep
read_text : (d : Data) → IsPlain d → depth d ≤ 127 → read (compact_text d) ≡ Some d
read_text d h shallow =
    let j = outline d in
    let parsed : json.value max_depth (tokens (compact_text d)) ≡ Some (j, [])
    = ap (λ t. json.value max_depth (tokens t)) (sym (print-outline d))
    ∙ ap (json.value max_depth) (tokens-print (json_tokens j) (ArePrintable-json_tokens j (has_numbers d h)) ∙ sym (append-nil (json_tokens j)))
    ∙ value-json_tokens j max_depth [] (subst (λ k. k ≤ 127) (sym (same_depth d)) shallow) in
    ap (λ o. option_and_then of_json (option_and_then (λ p. json.if_last p.0 p.1) o)) parsed ∙ data_back d h

-- ---- the values of answers

items_plain : {A : Type 0} (f : A → Data) (P : A → Type 0) → ((a : A) → P a → IsPlain (f a)) → (xs : List A) → All P xs → ItemsArePlain (items_of (map f xs))
items_plain f P each [] h = tt
items_plain f P each (x ∷ xs) h = (each x (All-head P x xs h), items_plain f P each xs (All-tail P x xs h))

below_wide : (n : ℕ) → n < 2 ^ 127 → n < 10 ^ 64
below_wide n h = let e : 2 ^ 127 ≤ 10 ^ 64 = lit≤ tt in omega (arith, e)

integer_plain : (z : ℤ) → IsWithin z → IsPlain (integer_value z)
integer_plain (pos n) h = IsUtf8-from_ascii (decimal n) (IsAscii-decimal_wide n (below_wide n h))
integer_plain (negsuc n) h = IsUtf8-from_ascii (45 ∷ decimal (suc n)) (IsAscii-cons 45 (decimal (suc n)) (omega arith)
    (IsAscii-decimal_wide (suc n) (below_wide (suc n) h)))

count_plain : (n : ℕ) → n < 2 ^ 32 → IsPlain (count_value n)
count_plain n h = let e : 2 ^ 32 ≤ 2 ^ 64 = lit≤ tt in omega (arith, h, e)

pair_plain : (p : ℕ × ℤ) → IsNumberedAmount p → IsPlain (pair_value p)
unfolding pair_value
pair_plain p h = (count_plain p.0 h.0, (integer_plain p.1 h.1, tt))

proof_plain : (c : CertificateView) → IsNumbered c → IsPlain (proof_value c)
unfolding proof_value
proof_plain c h = (
  (
    IsUtf8-are_ascii (codes "scale") refl,
    (
      integer_plain c.scale h.scale,
      (
        IsUtf8-are_ascii (codes "weights") refl,
        (
          items_plain pair_value IsNumberedAmount pair_plain (filter is_nonzero_weight c.weights)
              (All-filter is_nonzero_weight IsNumberedAmount c.weights h.weights),
          tt,
        ),
      ),
    ),
  ),
  refl,
)

mark_utf8 : (m : Mark) → IsUtf8 (mark_word m)
mark_utf8 Plain = IsUtf8-are_ascii (codes "plain") refl
mark_utf8 Needed = IsUtf8-are_ascii (codes "needed") refl
mark_utf8 Unsettled = IsUtf8-are_ascii (codes "unsettled") refl

row_plain : (r : Mark × Terms) → All IsNumberedAmount r.1 → IsPlain (row_value r)
unfolding row_value
row_plain r h = ((IsUtf8-are_ascii (codes "mark") refl, (mark_utf8 r.0, (IsUtf8-are_ascii (codes "row") refl, (items_plain pair_value IsNumberedAmount pair_plain r.1 h, tt)))), refl)

cause_utf8 : (c : Cause) → IsUtf8 (cause_word c)
cause_utf8 (causes.Pivots k) = IsUtf8-are_ascii (codes "pivots") refl
cause_utf8 (causes.Width k) = IsUtf8-are_ascii (codes "width") refl
cause_utf8 causes.Scale = IsUtf8-are_ascii (codes "scale") refl
cause_utf8 (causes.Rows r) = IsUtf8-are_ascii (codes "rows") refl
cause_utf8 (causes.WideRate r) = IsUtf8-are_ascii (codes "width") refl

side_utf8 : (back : Bool) → IsUtf8 (if back then codes "back" else codes "forward")
side_utf8 true = IsUtf8-are_ascii (codes "back") refl
side_utf8 false = IsUtf8-are_ascii (codes "forward") refl

answer_utf8 : IsUtf8 (codes "answer")
answer_utf8 = IsUtf8-are_ascii (codes "answer") refl

question_utf8 : IsUtf8 (codes "question")
question_utf8 = IsUtf8-are_ascii (codes "question") refl

module _ (text : List ℕ) (v : NamesView) (ok : IsUtf8 text) where
  pub yes_plain : (ws : List CertificateView) → All IsNumbered ws → IsPlain (answer_value text v (Yes ws))
  unfolding answer_value answer_members
  yes_plain ws h = ((answer_utf8, (IsUtf8-are_ascii (codes "yes") refl, (IsUtf8-are_ascii (codes "proofs") refl, (items_plain proof_value IsNumbered proof_plain ws h, (question_utf8, (ok, tt)))))), refl)

  pub no_plain : (back : Bool) (values : List ℤ) → All IsWithin values → IsPlain (answer_value text v (No back values))
  unfolding answer_value answer_members
  no_plain back values h = (
    (
      answer_utf8,
      (
        IsUtf8-are_ascii (codes "no") refl,
        (
          IsUtf8-are_ascii (codes "point") refl,
          (
            items_plain integer_value IsWithin integer_plain values h,
            (
              question_utf8,
              (
                ok,
                (IsUtf8-are_ascii (codes "side") refl, (side_utf8 back, tt)),
              ),
            ),
          ),
        ),
      ),
    ),
    refl,
  )

  pub undecided_plain : (c : Cause) → IsUtf8 (step_or_rate_word v c) → IsPlain (answer_value text v (Undecided c))
  unfolding answer_value answer_members
  undecided_plain c h = ((answer_utf8, (IsUtf8-are_ascii (codes "undecided") refl, (IsUtf8-are_ascii (codes "at") refl, (h, (IsUtf8-are_ascii (codes "cause") refl, (cause_utf8 c, (question_utf8, (ok, tt)))))))), refl)

  pub region_plain : (rows : List (Mark × Terms)) → All (λ r. All IsNumberedAmount r.1) rows → IsPlain (answer_value text v (Region rows))
  unfolding answer_value answer_members
  region_plain rows h = ((answer_utf8, (IsUtf8-are_ascii (codes "region") refl, (question_utf8, (ok, (IsUtf8-are_ascii (codes "rows") refl, (items_plain row_value (λ r. All IsNumberedAmount r.1) row_plain rows h, tt)))))), refl)

  pub derived_plain : (rows : List (Mark × Terms)) (ws : List CertificateView) → All (λ r. All IsNumberedAmount r.1) rows
      → All IsNumbered ws → IsPlain (derived_value text v rows ws)
  unfolding derived_value answer_members
  derived_plain rows ws h k = (
    (
      answer_utf8,
      (
        IsUtf8-are_ascii (codes "region") refl,
        (
          IsUtf8-are_ascii (codes "origins") refl,
          (
            items_plain proof_value IsNumbered proof_plain ws k,
            (
              question_utf8,
              (
                ok,
                (IsUtf8-are_ascii (codes "rows") refl, (items_plain row_value (λ r. All IsNumberedAmount r.1) row_plain rows h, tt)),
              ),
            ),
          ),
        ),
      ),
    ),
    refl,
  )

  pub contained_plain : (parts : List ℕ) (proofs : List CertificateView) → All (λ s. s < 2 ^ 32) parts → All IsNumbered proofs
      → IsPlain (answer_value text v (Contained parts proofs))
  unfolding answer_value answer_members
  contained_plain parts proofs h k = (
    (
      answer_utf8,
      (
        IsUtf8-are_ascii (codes "contained") refl,
        (
          IsUtf8-are_ascii (codes "parts") refl,
          (
            items_plain count_value (λ s. s < 2 ^ 32) count_plain parts h,
            (
              IsUtf8-are_ascii (codes "proofs") refl,
              (items_plain proof_value IsNumbered proof_plain proofs k, (question_utf8, (ok, tt))),
            ),
          ),
        ),
      ),
    ),
    refl,
  )

  pub open_plain : (tried : ℕ) → tried < 2 ^ 32 → IsPlain (answer_value text v (Open tried))
  unfolding answer_value answer_members
  open_plain tried h = ((answer_utf8, (IsUtf8-are_ascii (codes "open") refl, (question_utf8, (ok, (IsUtf8-are_ascii (codes "tried") refl, (count_plain tried h, tt)))))), refl)

-- the line of an answer
pub answer_text_utf8 : (text : List ℕ) (v : NamesView) (a : AnswerView) → IsPlain (answer_value text v a) → IsUtf8 (answer_text text v a)
unfolding answer_text
answer_text_utf8 text v a h = text_utf8 (answer_value text v a) h

pub answer_text_back : (text : List ℕ) (v : NamesView) (a : AnswerView) → IsPlain (answer_value text v a)
    → read (answer_text text v a) ≡ Some (answer_value text v a)
unfolding answer_text
answer_text_back text v a h = read_text (answer_value text v a) h (answer_shallow text v a)

-- the line of a region with certificates of its rows
pub derived_text_utf8 : (text : List ℕ) (v : NamesView) (rows : List (Mark × Terms)) (ws : List CertificateView)
    → IsPlain (derived_value text v rows ws) → IsUtf8 (derived_text text v rows ws)
unfolding derived_text
derived_text_utf8 text v rows ws h = text_utf8 (derived_value text v rows ws) h

pub derived_text_back : (text : List ℕ) (v : NamesView) (rows : List (Mark × Terms)) (ws : List CertificateView)
    → IsPlain (derived_value text v rows ws) → read (derived_text text v rows ws) ≡ Some (derived_value text v rows ws)
unfolding derived_text
derived_text_back text v rows ws h =
    let d = derived_value text v rows ws in
    let out : Result Data Data = Ok d in
    derived_back_is compact_text text v rows ws d out refl (λ shallow. read_text d h shallow)
