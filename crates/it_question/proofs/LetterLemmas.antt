-- The letters of a file's lines, and their places.
use Rattle.std.specs.Prelude.{flat_map}
use Rattle.std.proofs.Common.{◌≡◌, ℕ, suc, ◌+◌, ◌≤◌, ◌==◌, Bool, true, false, cond, List, [], ◌∷◌, ◌++◌, length, Option, Some, None, refl, sym, ap, ◌∙◌, subst, inl, inr, length-append, append_assoc, arith}
use Rattle.it_forms.specs.declared.types.Code.{Code}
use Rattle.it_forms.specs.declared.types.Code.TheVariants as codes
use Rattle.it_syntax.specs.declared.types.Misspelling.{Misspelling}
use Rattle.it_syntax.specs.declared.types.Token.{Token}
use Rattle.it_syntax.specs.declared.types.TokenKind.{TokenKind}
use Rattle.it_syntax.specs.declared.types.TokenKind.TheVariants as kinds
use Rattle.it_forms.specs.Letters.{Letter, End, Bad}
use Rattle.it_syntax.specs.Misspellings.{IsWrong, SpellsUntil}
use Rattle.it_syntax.specs.Spans.{letter_of, letters_until, last_letter}
use Rattle.it_syntax.proofs.TokenLemmas.{shape_of, shape_some}
use Rattle.it_question.specs.Lines.{LineView, AreLines, AreLinesOf, IsLine, in_front, split_lines, file_end, line_letters, letters_of_lines, line_places}
use Rattle.it_question.proofs.FileLineLemmas.{plain_shorter}
use Rattle.it_question.proofs.PlaceLemmas.{line_letters_length, letters_length, line_places_length}

-- ---- how many there are

-- each letter has a place
pub places_length : (lines : List LineView) → length (flat_map line_places lines) ≡ length (letters_of_lines lines)
places_length [] = refl
places_length (l ∷ lines) = length-append (line_places l) (flat_map line_places lines)
    ∙ omega (arith, line_places_length l, places_length lines) ∙ sym (letters_length l lines)

-- each token takes a byte
tokens_fewer : (at : ℕ) (bytes : List ℕ) (ts : List Token) (m : Option Misspelling) → SpellsUntil at bytes ts m → length ts ≤ length bytes
tokens_fewer at bytes [] m h = omega arith
tokens_fewer at bytes (t ∷ ts) m h =
    let c = h.1 in
    let total : length bytes ≡ length c.gap + (length c.text + length h.0) = ap length c.whole ∙ length-append c.gap (c.text ++ h.0)
    ∙ ap (λ (n : ℕ). length c.gap + n) (length-append c.text h.0) in
    omega (arith, total, shape_some t.kind (length c.text) (c.text ++ h.0) (shape_of t.kind c.text h.0 c.spelled c.ends), tokens_fewer t.end h.0 ts m h.2)

line_bound : (n : ℕ) (bytes : List ℕ) (l : LineView) → IsLine n bytes l → length (line_letters l) ≤ length bytes + 1
line_bound n bytes l h =
    let shorter : length l.text ≤ length bytes = subst (λ (t : List ℕ). length t ≤ length bytes) (sym h.text) (plain_shorter bytes) in
    omega (arith, line_letters_length l, tokens_fewer 0 l.text l.tokens l.misspelling h.spelled, shorter)

-- the bytes of lines, and one more for each
abbrev pub length_with_ends : List (List ℕ) → ℕ
length_with_ends [] = 0
length_with_ends (line ∷ lines) = length line + 1 + length_with_ends lines

lines_bound : (n : ℕ) (split : List (List ℕ)) (lines : List LineView) → AreLines n split lines → length (letters_of_lines lines) ≤ length_with_ends split + 1
lines_bound n [] lines h = subst (λ (ls : List LineView). length (letters_of_lines ls) ≤ 1) (sym h) (omega arith)
lines_bound n (bytes ∷ more) lines (inl h) = omega (arith, lines_bound (n + 1) more lines h.1)
lines_bound n (bytes ∷ more) lines (inr h) = subst (λ (ls : List LineView). length (letters_of_lines ls)
    ≤ length bytes + 1 + length_with_ends more + 1) (sym h.2)
    (omega (arith, length-append (line_letters h.0) (letters_of_lines h.1), line_bound n bytes h.0 h.3, lines_bound (n + 1) more h.1 h.5))

prefix_length : (b : ℕ) (n : ℕ) (split : List (List ℕ)) → length_with_ends split ≤ n + 1 → length_with_ends (in_front b split) ≤ n + 2
prefix_length b n [] h = omega arith
prefix_length b n (line ∷ split) h = omega (arith, h)

pub split_length : (bytes : List ℕ) → length_with_ends (split_lines bytes) ≤ length bytes + 1
split_length [] = omega arith
split_length (b ∷ bytes) = by_test (b == 10) (split_length bytes)
  where
    by_test : (t : Bool) → length_with_ends (split_lines bytes) ≤ length bytes + 1
        → length_with_ends (cond t ([] ∷ split_lines bytes) (in_front b (split_lines bytes))) ≤ suc (length bytes) + 1
    by_test true h = omega (arith, h)
    by_test false h = omega (arith, prefix_length b (length bytes) (split_lines bytes) h)

-- A file has at most two letters more than bytes.
pub letters_bound : (bytes : List ℕ) (lines : List LineView) → AreLinesOf bytes lines → length (letters_of_lines lines) ≤ length bytes + 2
letters_bound bytes lines h = omega (arith, lines_bound 1 (split_lines bytes) lines h, split_length bytes)

-- ---- the file's end

-- nothing stands after the file's end
abbrev pub EndsOnce : List Letter → Type 0
EndsOnce ls = (prefix after : List Letter) → ls ≡ prefix ++ file_end ∷ after → after ≡ []

pub once_more : (l : Letter) (ls : List Letter) → (l ≡ file_end → ⊥) → EndsOnce ls → EndsOnce (l ∷ ls)
once_more l ls other h [] after e = absurd (other cc)
once_more l ls other h (x ∷ prefix) after e = h prefix after cc

pub once_alone : EndsOnce (file_end ∷ [])
once_alone [] after e = cc
once_alone (x ∷ []) after e = absurd cc
once_alone (x ∷ y ∷ prefix) after e = absurd cc

letter_other : (line : List ℕ) (start end : ℕ) (k : TokenKind) → letter_of line start end k ≡ file_end → ⊥
letter_other line start end kinds.Word e = absurd cc
letter_other line start end (kinds.Number n) e = absurd cc
letter_other line start end (kinds.Symbol s) e = absurd cc

wrong_other : (c : Code) (body : List ℕ) → IsWrong c body → Bad c ≡ file_end → ⊥
wrong_other c body w e = let same : c ≡ codes.Unfinished = cc in subst (λ (d : Code). IsWrong d body) same w

until_once : (line : List ℕ) (at : ℕ) (bytes : List ℕ) (ts : List Token) (m : Option Misspelling) (ls : List Letter)
    → SpellsUntil at bytes ts m → EndsOnce ls → EndsOnce (letters_until line ts (last_letter m) ++ ls)
until_once line at bytes [] None ls h o = once_more End ls (λ e. absurd cc) o
until_once line at bytes [] (Some m) ls h o = once_more (Bad m.code) ls (wrong_other m.code h.body h.wrong) o
until_once line at bytes (t ∷ ts) m ls h o = once_more (letter_of line t.start t.end t.kind) (letters_until line ts (last_letter m) ++ ls)
    (letter_other line t.start t.end t.kind) (until_once line t.end h.0 ts m ls h.2 o)

-- the letters of a file end with its end
pub lines_end : (n : ℕ) (split : List (List ℕ)) (lines : List LineView) → AreLines n split lines
    → (prefix : List Letter) × (letters_of_lines lines ≡ prefix ++ file_end ∷ [])
lines_end n [] lines h = ([], ap letters_of_lines h)
lines_end n (bytes ∷ more) lines (inl h) = lines_end (n + 1) more lines h.1
lines_end n (bytes ∷ more) lines (inr h) =
    let k = lines_end (n + 1) more h.1 h.5 in (
      line_letters h.0 ++ k.0,
      ap letters_of_lines h.2 ∙ ap (λ (t : List Letter). line_letters h.0 ++ t) k.1
          ∙ sym (append_assoc (line_letters h.0) k.0 (file_end ∷ [])),
    )

-- they have it last, and nowhere else
pub lines_once : (n : ℕ) (split : List (List ℕ)) (lines : List LineView) → AreLines n split lines → EndsOnce (letters_of_lines lines)
lines_once n [] lines h = subst (λ (ls : List LineView). EndsOnce (letters_of_lines ls)) (sym h) once_alone
lines_once n (bytes ∷ more) lines (inl h) = lines_once (n + 1) more lines h.1
lines_once n (bytes ∷ more) lines (inr h) = subst (λ (ls : List LineView). EndsOnce (letters_of_lines ls)) (sym h.2)
    (until_once h.0.text 0 h.0.text h.0.tokens h.0.misspelling (letters_of_lines h.1) h.3.spelled (lines_once (n + 1) more h.1 h.5))
