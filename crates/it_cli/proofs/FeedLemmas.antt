-- The text of a JSON value has no line feed, so that each line of a report is one answer's.
use Rattle.std.proofs.Common.{◌≡◌, inl, inr, ℕ, zero, suc, ◌<◌, ◌==◌, ◌&&◌, Bool, true, false, not, if◌then◌else◌, List, [], ◌∷◌, ◌++◌, decimal, refl, sym, ap, subst, ◌∙◌, arith, rules}
use Rattle.std.specs.List.{AllByRecursion as Every}
use Rattle.std.specs.Str.Parse.{AllDigits}
use Rattle.std.proofs.lemmas.Bool.{and_parts, cases_eq, cases_lt, ne_eqb}
use Rattle.std.proofs.lemmas.Fmt.{decimal_is_IsNumeral}
use Rattle.std.proofs.lemmas.Str.Parse.{digit_from_value}
use Rattle.json.specs.Print.{escape_byte, escape, quoted}
use Rattle.json.proofs.Printed.Strings.{escape_byte_plain}
use Rattle.serde_json.specs.Data.{Num, unsigned, negative, float, Data, null, boolean, number, string, array, object, Items, no_items, item, Members, no_members, member}
use Rattle.serde_json.specs.Written.{number_text, comma_if, compact_text, items_text, members_text}
use Rattle.it_space.specs.declared.answers.Mark.{Mark}
use Rattle.it_space.specs.Answers.{AnswerView, CertificateView}
use Rattle.it_space.specs.Rows.{Terms}
use Rattle.it_space.proofs.EveryLemmas.{every-append}
use Rattle.it_syntax.specs.NamesViews.{NamesView}
use Rattle.it_question.specs.Lines.{in_front, split_lines}
use Rattle.it_certificate.specs.Values.{answer_value, answer_text, derived_text, derived_value}
use Rattle.it_cli.proofs.DataLemmas.{IsPlainNumber, IsPlain, ItemsArePlain, MembersArePlain}

-- a byte is no line feed
abbrev pub IsNoFeed : ℕ → Type 0
IsNoFeed b = (b == 10) ≡ false

-- ---- lines

-- a line with its end in front of others
pub split_one : (line rest : List ℕ) → Every IsNoFeed line → split_lines ((line ++ 10 ∷ []) ++ rest) ≡ line ∷ split_lines rest
split_one [] rest h = refl
split_one (b ∷ line) rest h =
    let others = split_lines ((line ++ 10 ∷ []) ++ rest) in
    ap (λ t. if t then [] ∷ others else in_front b others) h.0 ∙ ap (in_front b) (split_one line rest h.1)

-- ---- texts

-- whether none of some bytes is a line feed
abbrev are_clear : List ℕ → Bool
are_clear [] = true
are_clear (x ∷ xs) = not (x == 10) && are_clear xs

false_from_not : (b : Bool) → not b ≡ true → b ≡ false
false_from_not true e = absurd cc
false_from_not false e = refl

every_clear : (xs : List ℕ) → are_clear xs ≡ true → Every IsNoFeed xs
every_clear [] e = tt
every_clear (x ∷ xs) e = let p = and_parts (not (x == 10)) (are_clear xs) e in (false_from_not (x == 10) p.0, every_clear xs p.1)

-- the escapes of the bytes below n
abbrev clear_below : ℕ → Bool
clear_below zero = true
clear_below (suc n) = are_clear (escape_byte n) && clear_below n

all_below : clear_below 93 ≡ true
unfolding escape_byte
all_below = refl

clear_at : (n : ℕ) → clear_below n ≡ true → (x : ℕ) → x < n → are_clear (escape_byte x) ≡ true
clear_at zero e x h = absurd (omega arith)
clear_at (suc n) e x h =
    let p = and_parts (are_clear (escape_byte n)) (clear_below n) e in
    elim (cases_eq x n) [ inl same ↦ subst (λ y. are_clear (escape_byte y) ≡ true) (sym same) p.0 | inr other ↦ clear_at n p.1 x (omega arith) ]

escape_one : (x : ℕ) → Every IsNoFeed (escape_byte x)
escape_one x = elim (cases_lt x 93) [
  | inl small ↦ every_clear (escape_byte x) (clear_at 93 all_below x small)
  | inr big ↦ subst (Every IsNoFeed) (sym (escape_byte_plain x (λ e. omega arith) (λ e. omega arith) (omega arith))) (ne_eqb x 10 (λ e. omega arith), tt)
]

escape_clear : (s : List ℕ) → Every IsNoFeed (escape s)
escape_clear [] = tt
escape_clear (x ∷ s) = every-append IsNoFeed (escape_byte x) (escape s) (escape_one x) (escape_clear s)

quoted_clear : (s : List ℕ) → Every IsNoFeed (quoted s)
quoted_clear s = (refl, every-append IsNoFeed (escape s) (34 ∷ []) (escape_clear s) (refl, tt))

digits_clear : (ds : List ℕ) → AllDigits 10 ds → Every IsNoFeed ds
digits_clear [] all = tt
digits_clear (d ∷ ds) all = let range = digit_from_value d all.0 in let is : (d == 10) ≡ false = search (rules, range) in (is, digits_clear ds all.1)

number_clear : (n : Num) → IsPlainNumber n → Every IsNoFeed (number_text n)
number_clear (unsigned n) h = digits_clear (decimal n) (decimal_is_IsNumeral n h).0.1
number_clear (negative z) h = absurd h
number_clear (float x) h = absurd h

comma_clear : (later : Bool) → Every IsNoFeed (comma_if later)
comma_clear true = (refl, tt)
comma_clear false = tt

boolean_clear : (b : Bool) → Every IsNoFeed (compact_text (boolean b))
boolean_clear true = every_clear (compact_text (boolean true)) refl
boolean_clear false = every_clear (compact_text (boolean false)) refl

mutual
  data_clear : (d : Data) → IsPlain d → Every IsNoFeed (compact_text d)
  data_clear null h = every_clear (compact_text null) refl
  data_clear (boolean b) h = boolean_clear b
  data_clear (number n) h = number_clear n h
  data_clear (string s) h = quoted_clear s
  data_clear (array ds) h = (refl, items_clear false ds h)
  data_clear (object ms) h = (refl, members_clear false ms h.0)

  items_clear : (later : Bool) (ds : Items) → ItemsArePlain ds → Every IsNoFeed (items_text later ds)
  items_clear later no_items h = (refl, tt)
  items_clear later (item d ds) h = every-append IsNoFeed (comma_if later) (compact_text d ++ items_text true ds) (comma_clear later)
      (every-append IsNoFeed (compact_text d) (items_text true ds) (data_clear d h.0) (items_clear true ds h.1))

  members_clear : (later : Bool) (ms : Members) → MembersArePlain ms → Every IsNoFeed (members_text later ms)
  members_clear later no_members h = (refl, tt)
  members_clear later (member k d ms) h =
      let rest = compact_text d ++ members_text true ms in
      every-append IsNoFeed (comma_if later) (quoted k ++ 58 ∷ rest) (comma_clear later)
      (every-append IsNoFeed (quoted k) (58 ∷ rest) (quoted_clear k) (
        refl,
        every-append IsNoFeed (compact_text d) (members_text true ms)
            (data_clear d h.1.0) (members_clear true ms h.1.1),
      ))

-- the line of an answer
pub answer_text_clear : (text : List ℕ) (v : NamesView) (a : AnswerView) → IsPlain (answer_value text v a) → Every IsNoFeed (answer_text text v a)
unfolding answer_text
answer_text_clear text v a h = data_clear (answer_value text v a) h

-- that of a region with certificates of its rows
pub derived_text_clear : (text : List ℕ) (v : NamesView) (rows : List (Mark × Terms)) (ws : List CertificateView)
    → IsPlain (derived_value text v rows ws) → Every IsNoFeed (derived_text text v rows ws)
unfolding derived_text
derived_text_clear text v rows ws h = data_clear (derived_value text v rows ws) h
