-- The letters that are left of a file. No public clause cites it.
use Rattle.std.specs.Prelude.{List, [], ◌∷◌, ◌++◌, map, Option, Some, None, Result}
use Rattle.it_syntax.specs.declared.rest.Rest.{Rest}
use Rattle.it_syntax.specs.declared.rest.Piece.{Piece}
use Rattle.it_syntax.specs.declared.rest.Piece.TheVariants as pieces
use Rattle.it_syntax.specs.declared.rest.Stop.{Stop}
use Rattle.it_forms.specs.Letters.{Letter, Word, Number, Sym, End, Bad}
use Rattle.it_forms.specs.Forms.{Form}
use Rattle.it_forms.specs.FormReading.{read}
use Rattle.it_syntax.specs.Gives as gives
use Rattle.it_question.specs.declared.cursor.Cursor.{Cursor}
use Rattle.it_question.specs.declared.cursor.Line.{Line}
use Rattle.it_question.specs.Lines.{LineView, letters_of_lines}

-- what contracts see of a line
abbrev pub line_view : Line → LineView
line_view l = record { number = l.number; text = l.text.items; tokens = l.tokens.tokens.items; misspelling = l.tokens.misspelling }

-- the letters that are left of a line, and those of the lines after it; none where nothing is left
abbrev pub left_of : Option Rest → List Line → List Letter
left_of None after = []
left_of (Some rest) after = gives.letters_left rest ++ letters_of_lines (map line_view after)

-- the letters that are left at a cursor
unfoldable pub letters_left : Cursor → List Letter
letters_left c = left_of c.rest c.after.now

-- from the cursor `before` on the code gave what f reads, its value seen by `view`, and left the cursor `rest`
abbrev pub ParsesBy : {X Y : Type 0} → (X → Y) → Result X Stop → Form Y → Cursor → Cursor → Type 0
ParsesBy view result f before rest = gives.GivesBy view result (letters_left rest) (read f (letters_left before))

-- from the cursor `before` on the code gave what f reads, and left the cursor `rest`
abbrev pub Parses : {X : Type 0} → Result X Stop → Form X → Cursor → Cursor → Type 0
Parses result f before rest = ParsesBy (λ x. x) result f before rest

-- a piece and the letters after it; after a line's end stands the next line
abbrev pub with_letter : Piece → List Letter → List Letter
with_letter (pieces.Word w) ls = Word w.now ∷ ls
with_letter (pieces.Number n) ls = Number n ∷ ls
with_letter (pieces.Symbol s) ls = Sym s ∷ ls
with_letter pieces.End ls = End ∷ ls
with_letter (pieces.Bad c) ls = Bad c ∷ ls
