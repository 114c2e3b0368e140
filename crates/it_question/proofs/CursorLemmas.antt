-- The letters that are left at a cursor, by what is left of its line, and the code at the first of them.
use Rattle.std.proofs.Common.{◌≡◌, List, [], ◌∷◌, ◌++◌, map, Option, Some, None, refl, ap}
use Rattle.it_syntax.specs.declared.rest.Rest.{Rest}
use Rattle.it_syntax.specs.declared.types.Token.{Token}
use Rattle.it_forms.specs.Letters.{Letter, Word, Number, Sym, End, Bad}
use Rattle.it_forms.specs.FirstFault.{own_code}
use Rattle.it_syntax.specs.Spans.{letter_of, letters_until, last_letter}
use Rattle.it_syntax.specs.Gives as gives
use Rattle.it_question.specs.declared.cursor.Cursor.{Cursor}
use Rattle.it_question.specs.Cursors.{line_view, left_of, letters_left}
use Rattle.it_question.specs.Lines.{letters_of_lines}

-- the letters of the lines after the cursor's
abbrev pub later_letters : Cursor → List Letter
later_letters c = letters_of_lines (map line_view c.after.now)

pub left_none : (c : Cursor) → c.rest ≡ None → letters_left c ≡ []
unfolding letters_left
left_none c e = ap (λ (o : Option Rest). left_of o c.after.now) e

pub left_some : (c : Cursor) (r : Rest) → c.rest ≡ Some r → letters_left c ≡ gives.letters_left r ++ later_letters c
unfolding letters_left
left_some c r e = ap (λ (o : Option Rest). left_of o c.after.now) e

-- the code at the front of some letters is that of the first
own_code-first : (l : Letter) (xs ys : List Letter) → own_code (l ∷ xs) ≡ own_code (l ∷ ys)
own_code-first (Word w) xs ys = refl
own_code-first (Number n) xs ys = refl
own_code-first (Sym s) xs ys = refl
own_code-first End xs ys = refl
own_code-first (Bad c) xs ys = refl

-- and so what stands after a line doesn't change the code at its front
pub own_code-line : (r : Rest) (more : List Letter) → own_code (gives.letters_left r ++ more) ≡ own_code (gives.letters_left r)
own_code-line r more = by_tokens r.tokens.now
  where
    end_letter : Letter
    end_letter = last_letter r.misspelling

    by_tokens : (ts : List Token) → own_code (letters_until r.line.now ts end_letter ++ more) ≡ own_code (letters_until r.line.now ts end_letter)
    by_tokens [] = own_code-first end_letter more []
    by_tokens (t ∷ ts) = own_code-first (letter_of r.line.now t.start t.end t.kind) (letters_until r.line.now ts end_letter ++ more)
        (letters_until r.line.now ts end_letter)
