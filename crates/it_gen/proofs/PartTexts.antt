-- The parts of a drawn question are written in their forms.
use Rattle.std.proofs.Common.{◌≡◌, ℕ, zero, suc, ◌+◌, ◌-◌, ◌/◌, ◌^◌, ◌<◌, ◌≤◌, ◌==◌, Bool, true, false, cond, List, [], ◌∷◌, ◌++◌, length, Option, None, codes, refl, sym, ap, subst, arith, append_assoc, append-nil, if◌then◌else◌}
use Rattle.std.specs.Prelude.{nat_eq, decimal, bit_or, unwrap_or, Some}
use Rattle.std.specs.Int.{bit_at}
use Rattle.std.proofs.lemmas.Nat.Bits.{bit_at-lt}
use Rattle.std.proofs.Math.Dec.{lit<}
use Rattle.std.proofs.lemmas.Fmt.{decimal_digit}
use Rattle.std.proofs.Math.Pow.{pow_mono}
use Rattle.std.proofs.lemmas.Nat.{pow_below, mod_below}
use Rattle.it_space.specs.Sets.{has_member}
use Rattle.it_polymatroid.specs.Elementals.{Elemental, Conditional, Mutual, elementals, elemental_at}
use Rattle.it_elemental.specs.Views.{IsElemental}
use Rattle.it_elemental.proofs.PlaceLemmas.{is_elemental}
use Rattle.it_forms.specs.declared.types.Code.{Code}
use Rattle.it_forms.specs.Forms.{Form, Give, Take, If, is_of, Punctuation}
use Rattle.it_forms.specs.Letters.{Word, Number, Sym}
use Rattle.it_forms.specs.Words.{symbol, word, any_word, flagged, missing_flag}
use Rattle.it_forms.specs.declared.types.Symbol.TheVariants.{Minus}
use Rattle.it_syntax.specs.declared.types.Atom.{Atom}
use Rattle.it_syntax.specs.declared.types.Sign.TheVariants.{AtLeast}
use Rattle.it_syntax.specs.declared.types.Atom.TheVariants.{Nothing}
use Rattle.it_syntax.specs.LineForms.{variable, more_names, names, given_set, entropy, mutual_information, measure_or, rate, atom, atom_or_nothing, term, signs, more_terms, terms, sum, compare, relation}
use Rattle.it_syntax.specs.Meaning.{multiple_from}
use Rattle.it_syntax.specs.Multiples.{most_terms}
use Rattle.it_syntax.specs.NamesViews.{NamesView}
use Rattle.it_syntax.specs.Scopes.{Environment, Scope, env_of, scope_of}
use Rattle.it_syntax.specs.Spelling.{is_word_byte, Stops, IsText}
use Rattle.it_syntax.specs.MeasureWords.{is_measure}
use Rattle.it_print.specs.Lines.{joined_texts, members_from, set_text, elemental_text}
use Rattle.it_gen.specs.Draws.{state_after, draw}
use Rattle.it_gen.specs.GeneratedFiles.{four_names, generated_term_text, bound_text}
use Rattle.it_gen.proofs.SpelledLines.{Writes, Anything, writes_then, writes_space, writes_word, writes_number, writes_symbol}
use Rattle.it_gen.proofs.SpelledForms.{IsLetter, IsWritten, same_text, letter_written, then_written, last_written, first_written, other_written, none_written, one_written, give_written}
use Rattle.it_forms.specs.declared.types.Code.TheVariants as codes
use Rattle.it_forms.specs.declared.types.Symbol.TheVariants as symbols
use Rattle.it_syntax.specs.declared.types.TokenKind.TheVariants as kinds

-- ---- names

abbrev pub four_variables : NamesView
four_variables = record { variables = four_names; rates = [] }

abbrev pub env : Environment
env = env_of four_variables

-- a word that is one of the names
abbrev IsKnown : List ℕ → Type 0
IsKnown w = IsText kinds.Word w × ((if is_measure w then Some codes.Word else missing_flag codes.Name (env w)) ≡ None)

abbrev AreKnown : List (List ℕ) → Type 0
AreKnown [] = Unit {0}
AreKnown (w ∷ ws) = IsKnown w × AreKnown ws

names_known : AreKnown four_names
unfolding env_of is_word_byte
names_known =
    let short : 1 ≤ 16 = omega arith in
    (((refl, (refl, tt), short), refl), (((refl, (refl, tt), short), refl), (((refl, (refl, tt), short), refl), (((refl, (refl, tt), short), refl), tt))))

members_known : (i : ℕ) (names : List (List ℕ)) (set : ℕ) → AreKnown names → AreKnown (members_from i names set)
members_known i [] set h = tt
members_known i (w ∷ ws) set h = by_test (has_member set i) (members_known (i + 1) ws set h.1)
  where
    by_test : (b : Bool) → AreKnown (members_from (i + 1) ws set) → AreKnown ((if b then w ∷ [] else []) ++ members_from (i + 1) ws set)
    by_test true more = (h.0, more)
    by_test false more = more

name_letter : (w : List ℕ) → IsKnown w → IsLetter (Stops is_word_byte) w
    (any_word (λ w. (if is_measure w then Some codes.Word else missing_flag codes.Name (env w), unwrap_or (env w) 0))) (unwrap_or (env w) 0)
name_letter w h = record { letter = Word w; writes = writes_word w h.0; among = refl; says = ap (λ (flag : Option Code). (flag, unwrap_or (env w) 0)) h.1 }

variable_written : (w : List ℕ) → IsKnown w → IsWritten (Stops is_word_byte) w (variable env)
unfolding variable
variable_written w h = letter_written (name_letter w h)

-- what follows a name is a comma, or follows the last name
after_name : (ws : List (List ℕ)) (rest : List ℕ) → Stops is_word_byte rest → Stops is_word_byte (joined_texts (codes ",") true ws ++ rest)
unfolding is_word_byte
after_name [] rest h = h
after_name (w ∷ ws) rest h = refl

more_written : (ws : List (List ℕ)) (set : ℕ) → AreKnown ws → IsWritten (Stops is_word_byte) (joined_texts (codes ",") true ws) (more_names env set)
unfolding more_names
more_written [] set h = none_written set
more_written (w ∷ ws) set h =
    let name = variable_written w h.0 in
    one_written (record { letter = Sym symbols.Comma; writes = writes_symbol symbols.Comma; among = refl; says = refl }) name
    (more_written ws (bit_or set (2 ^ name.value)) h.1) (after_name ws)

names_written : (w : List ℕ) (ws : List (List ℕ)) → AreKnown (w ∷ ws) → IsWritten (Stops is_word_byte) (joined_texts (codes ",") false (w ∷ ws)) (names env)
unfolding names
names_written w ws h = let name = variable_written w h.0 in then_written name (more_written ws (2 ^ name.value) h.1) (after_name ws)

-- ---- sets

-- one that isn't empty, of four variables
abbrev IsSome : ℕ → Type 0
IsSome s = (1 ≤ s) × (s < 16)

abbrev HasFirst : List (List ℕ) → Type 0
HasFirst ws = (first : List ℕ) × (more : List (List ℕ)) × (ws ≡ first ∷ more)

no_bit : (s i : ℕ) → has_member s i ≡ false → bit_at s i ≡ 0
no_bit s i e = by_bit (bit_at s i) (bit_at-lt s i) e
  where
    by_bit : (n : ℕ) → n < 2 → nat_eq n 1 ≡ false → n ≡ 0
    by_bit zero h e = refl
    by_bit (suc zero) h e = absurd cc
    by_bit (suc (suc n)) h e = absurd (omega (arith, h))

has_first : (s : ℕ) → IsSome s → HasFirst (members_from 0 four_names s)
has_first s h = by_test (has_member s 0) (has_member s 1) (has_member s 2) (has_member s 3) refl refl refl refl
  where
    not_all_absent : bit_at s 0 ≡ 0 → bit_at s 1 ≡ 0 → bit_at s 2 ≡ 0 → bit_at s 3 ≡ 0 → ⊥
    not_all_absent a b c d = omega (arith, a, b, c, d, h.0, h.1)

    by_test : (a b c d : Bool) → has_member s 0 ≡ a → has_member s 1 ≡ b → has_member s 2 ≡ c → has_member s 3 ≡ d
        → HasFirst ((if a then codes "A" ∷ [] else []) ++ ((if b then codes "B" ∷ [] else []) ++ ((if c then codes "C" ∷ [] else []) ++ ((if d then codes "D" ∷ [] else []) ++ []))))
    by_test true b c d e f g i = (codes "A", (if b then codes "B" ∷ [] else []) ++ ((if c then codes "C" ∷ [] else []) ++ ((if d then codes "D" ∷ [] else []) ++ [])), refl)
    by_test false true c d e f g i = (codes "B", (if c then codes "C" ∷ [] else []) ++ ((if d then codes "D" ∷ [] else []) ++ []), refl)
    by_test false false true d e f g i = (codes "C", (if d then codes "D" ∷ [] else []) ++ [], refl)
    by_test false false false true e f g i = (codes "D", [], refl)
    by_test false false false false e f g i = absurd (not_all_absent (no_bit s 0 e) (no_bit s 1 f) (no_bit s 2 g) (no_bit s 3 i))

set_written : (s : ℕ) → IsSome s → IsWritten (Stops is_word_byte) (set_text four_names s) (names env)
unfolding set_text
set_written s h = by_list (members_from 0 four_names s) (has_first s h) (members_known 0 four_names s names_known)
  where
    by_list : (ws : List (List ℕ)) → HasFirst ws → AreKnown ws → IsWritten (Stops is_word_byte) (joined_texts (codes ",") false ws) (names env)
    by_list [] f k = absurd (elim_none f.0 f.1 f.2)
      where
        elim_none : (first : List ℕ) (more : List (List ℕ)) → [] ≡ first ∷ more → ⊥
        elim_none first more e = absurd cc
    by_list (w ∷ ws) f k = names_written w ws k

-- ---- elemental inequalities

right_paren : IsLetter Anything (codes ")") (symbol symbols.RightParen) tt
right_paren = record { letter = Sym symbols.RightParen; writes = writes_symbol symbols.RightParen; among = refl; says = refl }

left_paren : IsLetter Anything (codes "(") (symbol symbols.LeftParen) tt
left_paren = record { letter = Sym symbols.LeftParen; writes = writes_symbol symbols.LeftParen; among = refl; says = refl }

semicolon : IsLetter Anything (codes ";") (symbol symbols.Semicolon) tt
semicolon = record { letter = Sym symbols.Semicolon; writes = writes_symbol symbols.Semicolon; among = refl; says = refl }

bar : IsLetter Anything (codes "|") (symbol symbols.Bar) tt
bar = record { letter = Sym symbols.Bar; writes = writes_symbol symbols.Bar; among = refl; says = refl }

entropy_letter : IsLetter (Stops is_word_byte) (codes "H") (word (codes "H")) tt
unfolding is_word_byte
entropy_letter = let short : 1 ≤ 16 = omega arith in record { letter = Word (codes "H"); writes = writes_word (codes "H") (refl, (refl, tt), short); among = refl; says = refl }

mutual_letter : IsLetter (Stops is_word_byte) (codes "I") (word (codes "I")) tt
unfolding is_word_byte
mutual_letter = let short : 1 ≤ 16 = omega arith in record { letter = Word (codes "I"); writes = writes_word (codes "I") (refl, (refl, tt), short); among = refl; says = refl }

some_of : (c : ℕ) → c < 16 → (c == 0) ≡ false → IsSome c
some_of zero l e = absurd cc
some_of (suc c) l e = (omega arith, l)

-- what is given, after a bar, or nothing
abbrev given_or_nothing : Bool → ℕ → List ℕ
given_or_nothing z c = cond z [] (codes "|" ++ set_text four_names c)

given_written : (c : ℕ) → c < 16 → (z : Bool) → (c == 0) ≡ z → IsWritten Anything (given_or_nothing z c ++ codes ")") (given_set env)
unfolding given_set is_word_byte
given_written c l true e = other_written (last_written (letter_written right_paren))
given_written c l false e = first_written bar (then_written (set_written c (some_of c l e)) (last_written (letter_written right_paren))
    (λ rest d. refl)) (λ rest d. tt)

-- a set ends where what is given begins
set_ends : (z : Bool) (c : ℕ) (rest : List ℕ) → Stops is_word_byte (given_or_nothing z c ++ codes ")" ++ rest)
unfolding is_word_byte
set_ends true c rest = refl
set_ends false c rest = refl

entropy_written : (a c : ℕ) → IsSome a → c < 16 → (z : Bool) → (c == 0) ≡ z → (other : Form Atom) → IsWritten Anything (codes "H(" ++ (set_text four_names a ++ (given_or_nothing z c ++ codes ")"))) (measure_or env other)
unfolding entropy is_word_byte
entropy_written a c h l z e other =
    first_written entropy_letter (then_written (letter_written left_paren)
    (then_written (set_written a h) (last_written (given_written c l z e)) (λ rest d. set_ends z c rest)) (λ rest d. tt))
    (λ rest d. refl)

mutual_written : (a b c : ℕ) → IsSome a → IsSome b → c < 16 → (z : Bool) → (c == 0) ≡ z → (other : Form Atom)
    → IsWritten Anything (codes "I(" ++ (set_text four_names a ++ (codes ";" ++ (set_text four_names b ++ (given_or_nothing z c ++ codes ")"))))) (measure_or env other)
unfolding mutual_information is_word_byte
mutual_written a b c h g l z e other =
    other_written
    (first_written mutual_letter (then_written (letter_written left_paren)
    (then_written (set_written a h) (then_written (letter_written semicolon)
    (then_written (set_written b g) (last_written (given_written c l z e)) (λ rest d. set_ends z c rest)) (λ rest d. tt))
    (λ rest d. refl)) (λ rest d. tt)) (λ rest d. refl))

power_some : (i : ℕ) → i < 4 → IsSome (2 ^ i)
power_some i h = (pow_mono {i = 0} {j = i} (omega arith), pow_below i 4 h)

elemental_written : (e : Elemental) → IsElemental 4 e → (other : Form Atom) → IsWritten Anything (elemental_text four_names e) (measure_or env other)
unfolding elemental_text
elemental_written (Conditional i) h other = let c = 2 ^ 4 - 1 - 2 ^ i
    in same_text (simp append_assoc) (entropy_written (2 ^ i) c (power_some i h) (omega arith) (c == 0) refl other)
elemental_written (Mutual i j k) h other = same_text (simp append_assoc)
    (mutual_written (2 ^ i) (2 ^ j) k (power_some i (omega (arith, h.0, h.1))) (power_some j h.1) h.2 (k == 0) refl other)

-- ---- terms

digit_text : (c : ℕ) → c < 5 → IsText (kinds.Number c) (decimal c)
digit_text c h = subst (IsText (kinds.Number c)) (sym (decimal_digit c (omega (arith, h)))) (by_digit c h)
  where
    by_digit : (c : ℕ) → c < 5 → IsText (kinds.Number c) ((48 + c) ∷ [])
    by_digit zero h = (refl, refl, lit< tt)
    by_digit (suc zero) h = (refl, refl, lit< tt)
    by_digit (suc (suc zero)) h = (refl, refl, lit< tt)
    by_digit (suc (suc (suc zero))) h = (refl, refl, lit< tt)
    by_digit (suc (suc (suc (suc zero)))) h = (refl, refl, lit< tt)
    by_digit (suc (suc (suc (suc (suc c))))) h = absurd (omega (arith, h))

abbrev pub scope : Scope
scope = scope_of four_variables true

digit_writes : (c : ℕ) → c < 5 → Writes Anything (decimal c ++ codes " ") (λ k. (Number c, None) ∷ k)
digit_writes c h = writes_then (writes_number c (decimal c) (digit_text c h)) writes_space (λ rest d. refl)

-- a digit, a space and an atom
counted_written : (m c : ℕ) → c < 5 → (text : List ℕ) → ((other : Form Atom) → IsWritten Anything text (measure_or env other)) → IsWritten Anything (decimal c ++ codes " " ++ text) (flagged None (term m scope false))
unfolding flagged term atom atom_or_nothing scope_of
counted_written m zero h text p = first_written (record { letter = Number 0; writes = digit_writes 0 h; among = refl; says = refl })
    (other_written (last_written (p (If (rate scope.rates) Give (Give Nothing))))) (λ rest d. tt)
counted_written m (suc c) h text p = other_written (first_written
    (record { letter = Number (suc c); writes = digit_writes (suc c) h; among = refl; says = refl })
    (other_written (last_written (p (Take (rate scope.rates))))) (λ rest d. tt))

-- a drawn number is below its bound
pub drawn_below : (n m x : ℕ) → 0 < m → draw n m x < m
drawn_below n m x h = mod_below (state_after n x / 65536) m h

pub drawn_listed : (x : ℕ) → draw 2 28 x < length (elementals 4)
drawn_listed x = drawn_below 2 28 x (omega arith)

-- a drawn term
term_written : (m x : ℕ) → IsWritten Anything (generated_term_text x) (flagged None (term m scope false))
unfolding generated_term_text
term_written m x =
    let e = elemental_at 4 (draw 2 28 x) in
    counted_written m (1 + draw 1 4 x) (omega (arith, drawn_below 1 4 x (omega arith))) (elemental_text four_names e)
    (elemental_written e (is_elemental 4 (draw 2 28 x) (drawn_listed x)))

-- the drawn bound
bound_written : (m x : ℕ) → IsWritten Anything (bound_text x) (flagged None (term m scope false))
unfolding bound_text
bound_written m x =
    let s = 1 + draw 2 15 x in
    let some : IsSome s = (omega arith, omega (arith, drawn_below 2 15 x (omega arith))) in
    same_text (simp append_assoc) (counted_written m (draw 1 3 x) (omega (arith, drawn_below 1 3 x (omega arith))) (codes "H(" ++ (set_text four_names s ++ (given_or_nothing true 0 ++ codes ")"))) (entropy_written s 0 some (omega arith) true refl))

-- ---- the relation

plus : IsLetter Anything (codes " + ") (record { kinds = signs; says = λ l. (None, is_of (Punctuation Minus) l) }) false
plus = record {
  letter = Sym symbols.Plus;
  writes = writes_then writes_space
      (writes_then (writes_symbol symbols.Plus) writes_space (λ rest d. tt)) (λ rest d. tt);
  among = refl;
  says = refl;
}

-- three terms with plus signs between them
three_text : ℕ → List ℕ
three_text x = generated_term_text x ++ codes " + " ++ generated_term_text (state_after 2 x) ++ codes " + " ++ generated_term_text (state_after 4 x)

three_written : (x : ℕ) → IsWritten Anything (three_text x) (sum most_terms 1 scope)
unfolding three_text sum terms more_terms
three_written x =
    same_text (simp (append_assoc, append-nil))
    (other_written (other_written (then_written (term_written 1 x)
    (one_written plus (term_written _ (state_after 2 x)) (one_written plus (term_written _ (state_after 4 x)) (none_written _)
    (λ rest d. d)) (λ rest d. tt)) (λ rest d. tt))))

three_long : (x : ℕ) → length (three_written x).value ≡ 3
unfolding three_written same_text other_written then_written one_written none_written
three_long x = refl

at_least_written : IsWritten Anything (codes " >= ") compare
unfolding compare
at_least_written = same_text refl (first_written
    (record {
      letter = Sym symbols.AtLeast;
      writes = writes_then writes_space
          (writes_then (writes_symbol symbols.AtLeast) writes_space (λ rest d. tt)) (λ rest d. tt);
      among = refl;
      says = refl;
    })
    (give_written AtLeast) (λ rest d. tt))

-- a sum of the drawn bound alone
one_term_written : (n m x : ℕ) → IsWritten Anything (bound_text x) (sum (suc n) m scope)
unfolding sum terms more_terms
one_term_written n m x = same_text (append-nil (bound_text x)) (other_written (other_written (then_written (bound_written m x) (none_written _) (λ rest d. d))))

abbrev pub relation_text : ℕ → List ℕ
relation_text x = generated_term_text x ++ codes " + " ++ generated_term_text (state_after 2 x) ++ codes " + " ++ generated_term_text (state_after 4 x) ++ codes " >= " ++ bound_text (state_after 6 x)

pub relation_written : (x : ℕ) → IsWritten Anything (relation_text x) (relation scope)
unfolding relation three_text
relation_written x =
    let m = multiple_from 1 (three_written x).value in
    let right : IsWritten Anything (bound_text (state_after 6 x)) (sum (most_terms - length (three_written x).value) m scope) =
    subst (λ (n : ℕ). IsWritten Anything (bound_text (state_after 6 x)) (sum (most_terms - n) m scope)) (sym (three_long x))
    (one_term_written 252 m (state_after 6 x)) in
    same_text (simp append_assoc) (then_written (three_written x) (then_written at_least_written (last_written right) (λ rest d. tt)) (λ rest d. tt))
