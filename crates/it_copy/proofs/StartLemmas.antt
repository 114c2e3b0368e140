-- Reading began at the first of the lines.
use Rattle.std.proofs.Common.{◌≡◌, refl, List, map, sym, ap, ◌∙◌, subst}
use Rattle.it_forms.specs.Forms.{Form}
use Rattle.it_forms.specs.FormReading as forms
use Rattle.it_forms.specs.Letters.{Letter}
use Rattle.it_forms.specs.Reads.{Reads}
use Rattle.it_syntax.specs.declared.rest.Stop.{Stop}
use Rattle.it_syntax.specs.Gives.{StopsAs}
use Rattle.it_question.specs.declared.cursor.Line.{Line}
use Rattle.it_question.specs.Cursors.{line_view}
use Rattle.it_question.specs.Lines.{LineView, letters_of_lines}

-- what is read from the first of the lines on is read of their letters
pub items_are_read : {A : Type 0} (f : Form A) (items lines : List Line) (start : List Letter) (read : Reads A)
    → start ≡ letters_of_lines (map line_view lines) → lines ≡ items → forms.read f start ≡ read
    → forms.read f (letters_of_lines (map line_view items)) ≡ read
items_are_read f items lines start read h e r = sym (ap (forms.read f) (h ∙ ap (λ (ls : List Line). letters_of_lines (map line_view ls)) e)) ∙ r

-- and so for a fault
pub begun_stop : {A : Type 0} (f : Form A) (items lines : List Line) (start : List Letter) (stop : Stop) (rest : List Letter)
    → start ≡ letters_of_lines (map line_view lines) → lines ≡ items → StopsAs stop rest (forms.read f start)
    → StopsAs stop rest (forms.read f (letters_of_lines (map line_view items)))
begun_stop f items lines start stop rest h e s = subst (StopsAs stop rest) (sym (items_are_read f items lines start (forms.read f start) h e refl)) s

-- what holds of lines holds of equal lines
pub same_lines : (P : List LineView → Type 0) (items lines : List Line) → lines ≡ items → P (map line_view items) → P (map line_view lines)
same_lines P items lines e h = subst (λ (ls : List Line). P (map line_view ls)) (sym e) h
