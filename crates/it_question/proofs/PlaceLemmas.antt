-- The letters of lines and their places, one line after the other.
use Rattle.std.proofs.Common.{◌≡◌, ℕ, zero, suc, ◌+◌, ◌-◌, ◌<◌, ◌≤◌, List, [], ◌∷◌, ◌++◌, length, map, drop, Option, Some, refl, sym, ap, ◌∙◌, arith, length-append}
use Rattle.std.specs.Prelude.{slice_get, slice_index_or, flat_map}
use Rattle.std.proofs.lemmas.List.{length-map}
use Rattle.it_syntax.specs.declared.types.Token.{Token}
use Rattle.it_syntax.specs.declared.types.Misspelling.{Misspelling}
use Rattle.it_syntax.specs.declared.rest.Rest.{Rest}
use Rattle.it_syntax.specs.Gives as gives
use Rattle.it_syntax.specs.Spans.{last_letter}
use Rattle.it_syntax.specs.Lines.{column_of, column_after}
use Rattle.it_syntax.proofs.LineLemmas.{until_length}
use Rattle.it_question.specs.declared.cursor.Line.{Line}
use Rattle.it_question.specs.declared.cursor.Cursor.{Cursor}
use Rattle.it_question.specs.Cursors.{line_view, letters_left, left_of}
use Rattle.it_question.specs.Lines.{LineView, line_letters, letters_of_lines, line_places}

pub line_letters_length : (l : LineView) → length (line_letters l) ≡ suc (length l.tokens)
line_letters_length l = until_length l.text l.tokens (last_letter l.misspelling)

pub letters_length : (l : LineView) (ls : List LineView) → length (letters_of_lines (l ∷ ls)) ≡ suc (length l.tokens) + length (letters_of_lines ls)
letters_length l ls = length-append (line_letters l) (letters_of_lines ls) ∙ ap (λ (n : ℕ). n + length (letters_of_lines ls)) (line_letters_length l)

-- what stands from one line on, by that line
from_line : (lines : List Line) (i : ℕ) (d : Line) → i < length lines → map line_view (drop i lines) ≡ line_view (slice_index_or lines i d)
    ∷ map line_view (drop (i + 1) lines)
from_line [] i d lt = absurd (omega arith)
from_line (l ∷ lines) zero d lt = refl
from_line (l ∷ lines) (suc i) d lt = let e : suc i + 1 ≡ suc (i + 1) = omega arith in rw e (from_line lines i d (omega arith))

-- one line more
pub count_step : (lines : List Line) (i : ℕ) (l : Line) → i < length lines → l ≡ slice_index_or lines i l
    → length (letters_of_lines (map line_view (drop i lines))) ≡ suc (length l.tokens.tokens.items)
    + length (letters_of_lines (map line_view (drop (i + 1) lines)))
count_step lines i l lt e =
    ap (λ (ls : List LineView). length (letters_of_lines ls)) (from_line lines i l lt)
    ∙ letters_length (line_view (slice_index_or lines i l)) (map line_view (drop (i + 1) lines))
    ∙ ap (λ (x : Line). suc (length x.tokens.tokens.items) + length (letters_of_lines (map line_view (drop (i + 1) lines)))) (sym e)

-- a place in the first of two lists, and in the second
get_front : {X : Type 0} (xs ys : List X) (n : ℕ) → n < length xs → slice_get (xs ++ ys) n ≡ slice_get xs n
get_front [] ys n lt = absurd (omega arith)
get_front (x ∷ xs) ys zero lt = refl
get_front (x ∷ xs) ys (suc n) lt = get_front xs ys n (omega arith)

get_back : {X : Type 0} (xs ys : List X) (n : ℕ) → length xs ≤ n → slice_get (xs ++ ys) n ≡ slice_get ys (n - length xs)
get_back [] ys n le = let e : n - 0 ≡ n = omega arith in rw e refl
get_back (x ∷ xs) ys zero le = absurd (omega arith)
get_back (x ∷ xs) ys (suc n) le = let e : suc n - suc (length xs) ≡ n - length xs = omega arith in get_back xs ys n (omega arith) ∙ ap (slice_get ys) (sym e)

pub line_places_length : (l : LineView) → length (line_places l) ≡ suc (length l.tokens)
line_places_length l = length-append {A = ℕ × ℕ} (map (λ (t : Token). (l.number, t.start + 1)) l.tokens) _
    ∙ omega (arith, length-map {B = ℕ × ℕ} l.tokens (λ (t : Token). (l.number, t.start + 1)))

pub place_here : (lines : List Line) (i n : ℕ) (l : Line) → i < length lines → l ≡ slice_index_or lines i l → n ≤ length l.tokens.tokens.items
    → slice_get (flat_map line_places (map line_view (drop i lines))) n ≡ slice_get (line_places (line_view l)) n
place_here lines i n l lt e le =
    ap (λ (ls : List LineView). slice_get (flat_map line_places ls) n) (from_line lines i l lt)
    ∙ ap (λ (x : Line). slice_get (line_places (line_view x) ++ flat_map line_places (map line_view (drop (i + 1) lines))) n) (sym e)
    ∙ get_front (line_places (line_view l)) (flat_map line_places (map line_view (drop (i + 1) lines))) n (omega (arith, line_places_length (line_view l), le))

pub place_after : (lines : List Line) (i n k : ℕ) (l : Line) → i < length lines → l ≡ slice_index_or lines i l → k ≡ length l.tokens.tokens.items → k < n
    → slice_get (flat_map line_places (map line_view (drop i lines))) n ≡ slice_get (flat_map line_places (map line_view (drop (i + 1) lines))) (n - (k + 1))
place_after lines i n k l lt e same le =
    ap (λ (ls : List LineView). slice_get (flat_map line_places ls) n) (from_line lines i l lt)
    ∙ ap (λ (x : Line). slice_get (line_places (line_view x) ++ flat_map line_places (map line_view (drop (i + 1) lines))) n) (sym e)
    ∙ get_back (line_places (line_view l)) (flat_map line_places (map line_view (drop (i + 1) lines))) n
    (omega (arith, line_places_length (line_view l), same, le))
    ∙ ap (slice_get (flat_map line_places (map line_view (drop (i + 1) lines))))
    (less_is n (length l.tokens.tokens.items) k (length (line_places (line_view l))) (line_places_length (line_view l)) same)
  where
    less_is : (n a k b : ℕ) → b ≡ suc a → k ≡ a → n - b ≡ n - (k + 1)
    less_is n a k b h g = omega (arith, h, g)

-- the place of a letter of a line, by its column
pub place_is : (l : LineView) (n : ℕ) → n ≤ length l.tokens → slice_get (line_places l) n
    ≡ Some (l.number, column_of (drop n l.tokens) (column_after l.tokens l.misspelling))
place_is l n le = by_list l.tokens n le
  where
    by_list : (ts : List Token) (n : ℕ) → n ≤ length ts
        → slice_get {X = ℕ × ℕ} (map (λ (t : Token). (l.number, t.start + 1)) ts ++ ((l.number, column_after l.tokens l.misspelling) ∷ []))
        n ≡ Some (l.number, column_of (drop n ts) (column_after l.tokens l.misspelling))
    by_list [] zero le = refl
    by_list [] (suc n) le = absurd (omega arith)
    by_list (t ∷ ts) zero le = refl
    by_list (t ∷ ts) (suc n) le = by_list ts n (omega arith)

-- what is left of a line, and after it
pub left_length : (c : Cursor) (rest : Rest) → c.rest ≡ Some rest → length (letters_left c) ≡ length rest.tokens.now + 1
    + length (letters_of_lines (map line_view c.after.now))
unfolding letters_left
left_length c rest e =
    ap (λ (r : Option Rest). length (left_of r c.after.now)) e ∙ length-append (gives.letters_left rest) (letters_of_lines (map line_view c.after.now))
    ∙ omega (arith, until_length rest.line.now rest.tokens.now (last_letter rest.misspelling))

pub column_is : (ts us : List Token) (m : Option Misspelling) (n at : ℕ) → us ≡ ts → n ≡ length ts → at ≤ length ts
    → column_of (drop (length us - (n - at)) us) (column_after us m) ≡ column_of (drop at ts) (column_after ts m)
column_is ts us m n at same h le =
    let e : length ts - (n - at) ≡ at = omega (arith, h, le) in
    ap (λ (xs : List Token). column_of (drop (length xs - (n - at)) xs) (column_after xs m)) same ∙ ap (λ (i : ℕ). column_of (drop i ts) (column_after ts m)) e
