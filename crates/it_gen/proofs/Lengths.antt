-- How long a file of drawn questions is at most.
use Rattle.std.proofs.Common.{◌≡◌, ℕ, zero, suc, ◌+◌, ◌-◌, ◌*◌, ◌^◌, ◌<◌, ◌≤◌, ◌==◌, Bool, true, false, if◌then◌else◌, cond, List, [], ◌∷◌, ◌++◌, length, codes, ap, length-append, arith}
use Rattle.std.specs.Prelude.{decimal}
use Rattle.std.proofs.lemmas.Fmt.{decimal_digit}
use Rattle.it_space.specs.Sets.{has_member}
use Rattle.it_polymatroid.specs.Elementals.{Elemental, Conditional, Mutual, elemental_at}
use Rattle.it_print.specs.Lines.{members_from, joined_texts, set_text, given_set_text, elemental_text}
use Rattle.it_gen.specs.Draws.{state_after, draw}
use Rattle.it_gen.specs.GeneratedFiles.{four_names, generated_term_text, bound_text, question_text, generated_file}
use Rattle.it_gen.proofs.PartTexts.{drawn_below}

-- the names of members, each with a comma
commas : List (List ℕ) → ℕ
commas [] = 0
commas (w ∷ ws) = 1 + length w + commas ws

joined_short : (some : Bool) (ws : List (List ℕ)) → length (joined_texts (codes ",") some ws) ≤ commas ws
unfolding commas
joined_short some [] = omega arith
joined_short true (w ∷ ws) = omega (arith, length-append w (joined_texts (codes ",") true ws), joined_short true ws)
joined_short false (w ∷ ws) = omega (arith, length-append w (joined_texts (codes ",") true ws), joined_short true ws)

members_fewer : (i : ℕ) (names : List (List ℕ)) (set : ℕ) → commas (members_from i names set) ≤ commas names
unfolding commas
members_fewer i [] set = omega arith
members_fewer i (w ∷ ws) set = by_test (has_member set i) (members_fewer (i + 1) ws set)
  where
    by_test : (b : Bool) → commas (members_from (i + 1) ws set) ≤ commas ws
        → commas ((if b then w ∷ [] else []) ++ members_from (i + 1) ws set) ≤ 1 + length w + commas ws
    by_test true h = omega (arith, h)
    by_test false h = omega (arith, h)

set_short : (s : ℕ) → length (set_text four_names s) ≤ 8
unfolding set_text commas
set_short s = omega (arith, joined_short false (members_from 0 four_names s), members_fewer 0 four_names s)

given_short : (s : ℕ) → length (given_set_text four_names s) ≤ 9
given_short s = by_test (s == 0)
  where
    by_test : (b : Bool) → length (cond b [] (codes "|" ++ set_text four_names s)) ≤ 9
    by_test true = omega arith
    by_test false = omega (arith, set_short s)

elemental_short : (e : Elemental) → length (elemental_text four_names e) ≤ 29
unfolding elemental_text
elemental_short (Conditional i) =
    let a = set_text four_names (2 ^ i) in
    let c = given_set_text four_names (2 ^ 4 - 1 - 2 ^ i) in
    omega (arith, length-append (codes "H(" ++ a ++ c) (codes ")"), length-append (codes "H(" ++ a) c, set_short (2 ^ i), given_short (2 ^ 4 - 1 - 2 ^ i))
elemental_short (Mutual i j k) =
    let a = set_text four_names (2 ^ i) in
    let b = set_text four_names (2 ^ j) in
    let c = given_set_text four_names k in
    omega (
      arith,
      length-append (codes "I(" ++ a ++ codes ";" ++ b ++ c) (codes ")"),
      length-append (codes "I(" ++ a ++ codes ";" ++ b) c,
      length-append (codes "I(" ++ a ++ codes ";") b,
      length-append (codes "I(" ++ a) (codes ";"),
      set_short (2 ^ i),
      set_short (2 ^ j),
      given_short k,
    )

digit_short : (c : ℕ) → c < 10 → length (decimal c) ≡ 1
digit_short c h = ap length (decimal_digit c h)

term_short : (x : ℕ) → length (generated_term_text x) ≤ 31
unfolding generated_term_text
term_short x =
    let c = decimal (1 + draw 1 4 x) in
    let e = elemental_text four_names (elemental_at 4 (draw 2 28 x)) in
    omega (arith, length-append (c ++ codes " ") e, length-append c (codes " "), digit_short (1 + draw 1 4 x) (omega (arith, drawn_below 1 4 x (omega arith))), elemental_short (elemental_at 4 (draw 2 28 x)))

bound_short : (x : ℕ) → length (bound_text x) ≤ 13
unfolding bound_text
bound_short x =
    let c = decimal (draw 1 3 x) in
    let s = set_text four_names (1 + draw 2 15 x) in
    omega (arith, length-append (c ++ codes " H(" ++ s) (codes ")"), length-append (c ++ codes " H(") s, length-append c (codes " H("), digit_short (draw 1 3 x) (omega (arith, drawn_below 1 3 x (omega arith))), set_short (1 + draw 2 15 x))

question_short : (x : ℕ) → length (question_text x) ≤ 139
unfolding question_text
question_short x =
    let a = generated_term_text x in
    let b = generated_term_text (state_after 2 x) in
    let c = generated_term_text (state_after 4 x) in
    let d = bound_text (state_after 6 x) in
    let start = codes "vars A, B, C, D\nprove " in
    omega (
      arith,
      length-append (start ++ a ++ codes " + " ++ b ++ codes " + " ++ c ++ codes " >= " ++ d) (codes "\n"),
      length-append (start ++ a ++ codes " + " ++ b ++ codes " + " ++ c ++ codes " >= ") d,
      length-append (start ++ a ++ codes " + " ++ b ++ codes " + " ++ c) (codes " >= "),
      length-append (start ++ a ++ codes " + " ++ b ++ codes " + ") c,
      length-append (start ++ a ++ codes " + " ++ b) (codes " + "),
      length-append (start ++ a ++ codes " + ") b,
      length-append (start ++ a) (codes " + "),
      length-append start a,
      term_short x,
      term_short (state_after 2 x),
      term_short (state_after 4 x),
      bound_short (state_after 6 x),
    )

questions_short : (seed count : ℕ) → length (generated_file seed count) ≤ 139 * count
questions_short seed zero = omega arith
questions_short seed (suc count) = omega (
  arith,
  length-append (question_text seed)
      (generated_file (state_after 8 seed) count),
  question_short seed,
  questions_short (state_after 8 seed) count,
)

pub generated_short : (seed count : ℕ) → count ≤ 1000 → length (generated_file seed count) ≤ 1048576
generated_short seed count few = omega (arith, questions_short seed count, few)
