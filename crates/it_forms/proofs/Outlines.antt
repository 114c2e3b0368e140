-- Which letters a form begins with, goes on at, and whether it may be nothing; and forms of which each letter tells what
-- goes on.
use Rattle.std.proofs.Common.{◌≡◌, Bool, true, false, ◌&&◌, ◌||◌, List, [], ◌∷◌, ◌++◌, Option, refl}
use Rattle.std.specs.Prelude.{bytes_eq, not}
use Rattle.std.specs.List.{list_any}
use Rattle.it_forms.specs.declared.types.Code.{Code}
use Rattle.it_forms.specs.SymbolTexts.{symbol_text}
use Rattle.it_forms.specs.Letters.{Letter, Sym, End}
use Rattle.it_forms.specs.Forms.{Kind, Keyword, Punctuation, WordBut, Zero, Positive, LineEnd, FileEnd, is_among, Terminal, Form, Give, Take, Then, If, While}
use Rattle.it_forms.specs.Words.{symbol, flagged, line_end, to_end}
use Rattle.it_forms.specs.declared.types.Symbol.{Symbol}
use Rattle.std.proofs.lemmas.Slice.Eq.{bytes_eq-Decides}

-- whether no letter is of both kinds
abbrev pub are_apart : Kind → Kind → Bool
are_apart (Keyword t) (Keyword u) = not (bytes_eq t u)
are_apart (Keyword t) (WordBut us) = list_any (bytes_eq t) us
are_apart (WordBut us) (Keyword t) = list_any (bytes_eq t) us
are_apart (WordBut ts) (WordBut us) = false
are_apart (Punctuation s) (Punctuation u) = not (bytes_eq (symbol_text s) (symbol_text u))
are_apart Zero Zero = false
are_apart Positive Positive = false
are_apart LineEnd LineEnd = false
are_apart FileEnd FileEnd = false
are_apart k l = true

abbrev pub is_apart : Kind → List Kind → Bool
is_apart k [] = true
is_apart k (l ∷ ls) = are_apart k l && is_apart k ls

abbrev pub all_apart : List Kind → List Kind → Bool
all_apart [] ls = true
all_apart (k ∷ ks) ls = is_apart k ls && all_apart ks ls

-- the letters that a form begins with, whether it may be nothing, and the letters that it goes on at
pub record Outline : Type 0 where
  pub begins : List Kind
  pub skips : Bool
  pub goes : List Kind

abbrev pub kinds_if : Bool → List Kind → List Kind
kinds_if true ks = ks
kinds_if false ks = []

-- nothing, and a token
abbrev pub nothing : Outline
nothing = record { begins = []; skips = true; goes = [] }

abbrev pub one_of : List Kind → Outline
one_of ks = record { begins = ks; skips = false; goes = [] }

abbrev pub one_then : Outline → Outline → Outline
one_then i j = record { begins = i.begins ++ kinds_if i.skips j.begins; skips = i.skips && j.skips; goes = j.goes ++ kinds_if j.skips i.goes }

abbrev pub one_or : List Kind → Outline → Outline → Outline
one_or ks i j = record { begins = ks ++ j.begins; skips = j.skips; goes = i.goes ++ (j.goes ++ kinds_if j.skips ks) }

abbrev pub repeated : List Kind → Outline → Outline
repeated ks i = record { begins = ks; skips = true; goes = ks ++ i.goes }

-- an outline may say more than another
pub record Fits (i o : Outline) : Type 0 where
  pub begins : (l : Letter) → is_among i.begins l ≡ true → is_among o.begins l ≡ true
  pub skips : i.skips ≡ true → o.skips ≡ true
  pub goes : (l : Letter) → is_among i.goes l ≡ true → is_among o.goes l ≡ true

-- one of two
abbrev pub either : Outline → Outline → Outline
either i j = record { begins = i.begins ++ j.begins; skips = i.skips || j.skips; goes = i.goes ++ j.goes }

pub fits_same : (o : Outline) → Fits o o
fits_same o = record { begins = λ l e. e; skips = λ e. e; goes = λ l e. e }

pub fits_trans : (i j o : Outline) → Fits i j → Fits j o → Fits i o
fits_trans i j o h e = record { begins = λ l b. e.begins l (h.begins l b); skips = λ b. e.skips (h.skips b); goes = λ l b. e.goes l (h.goes l b) }

-- This is its outline, or more, and the next letter tells what goes on.
unfoldable pub Has : {A : Type 0} → Form A → Outline → Type 0
Has (Give a) o = Fits nothing o
Has (Take t) o = (l : Letter) × (is_among t.kinds l ≡ true) × Fits (one_of t.kinds) o
Has (Then {A} f g) o = (i : Outline) × (j : Outline) × Has f i × ((a : A) → Has (g a) j) × (all_apart i.goes j.begins ≡ true) × Fits (one_then i j) o
Has (If {A} t g h) o = (i : Outline) × (j : Outline) × ((a : A) → Has (g a) i) × Has h j × (all_apart t.kinds j.begins ≡ true) × Fits (one_or t.kinds i j) o
Has (While {A} {B} ks says step a) o = (i : Outline) × ((c : A) (b : B) → Has (step c b) i) × (all_apart i.goes ks ≡ true) × Fits (repeated ks i) o

pub has_more : {A : Type 0} (f : Form A) (i o : Outline) → Has f i → Fits i o → Has f o
unfolding Has
has_more (Give a) i o h e = fits_trans nothing i o h e
has_more (Take t) i o h e = (h.0, h.1, fits_trans (one_of t.kinds) i o h.2 e)
has_more (Then f g) i o h e = (h.0, h.1, h.2, h.3, h.4, fits_trans (one_then h.0 h.1) i o h.5 e)
has_more (If t g other) i o h e = (h.0, h.1, h.2, h.3, h.4, fits_trans (one_or t.kinds h.0 h.1) i o h.5 e)
has_more (While ks says step a) i o h e = (h.0, h.1, h.2, fits_trans (repeated ks h.0) i o h.3 e)

-- A table's proof, form by form.
pub has_give : {A : Type 0} (a : A) → Has (Give a) nothing
unfolding Has
has_give a = fits_same nothing

pub has_take : {A : Type 0} (t : Terminal A) (l : Letter) → is_among t.kinds l ≡ true → Has (Take t) (one_of t.kinds)
unfolding Has
has_take t l e = (l, e, fits_same (one_of t.kinds))

pub has_then : {A B : Type 0} (f : Form A) (g : A → Form B) (i j : Outline) → Has f i → ((a : A) → Has (g a) j)
    → all_apart i.goes j.begins ≡ true → Has (Then f g) (one_then i j)
unfolding Has
has_then f g i j h e p = (i, j, h, e, p, fits_same (one_then i j))

pub has_if : {A B : Type 0} (t : Terminal A) (g : A → Form B) (h : Form B) (i j : Outline) → ((a : A) → Has (g a) i) → Has h j
    → all_apart t.kinds j.begins ≡ true → Has (If t g h) (one_or t.kinds i j)
unfolding Has
has_if t g h i j e f p = (i, j, e, f, p, fits_same (one_or t.kinds i j))

pub has_while : {A B : Type 0} (ks : List Kind) (says : A → Letter → Option Code × B) (step : A → B → Form A) (a : A) (i : Outline)
    → ((c : A) (b : B) → Has (step c b) i) → all_apart i.goes ks ≡ true → Has (While ks says step a) (repeated ks i)
unfolding Has
has_while ks says step a i e p = (i, e, p, fits_same (repeated ks i))

-- a symbol or a word
pub has_symbol : (s : Symbol) → Has (Take (symbol s)) (one_of (Punctuation s ∷ []))
unfolding Has
has_symbol s = (Sym s, rw ((bytes_eq-Decides (symbol_text s) (symbol_text s)).1 refl) refl, fits_same (one_of (Punctuation s ∷ [])))

-- the flag of the first letter changes no outline
pub has_flagged : {A : Type 0} (m : Option Code) (f : Form A) (o : Outline) → Has f o → Has (flagged m f) o
unfolding Has flagged
has_flagged m (Give a) o h = h
has_flagged m (Take t) o h = h
has_flagged m (Then f g) o h = (h.0, h.1, has_flagged m f h.0 h.2, h.3, h.4, h.5)
has_flagged m (If t g other) o h = (h.0, h.1, h.2, has_flagged m other h.1 h.3, h.4, h.5)
has_flagged m (While ks says step a) o h = h

-- ---- up to the line's end

pub end_has : Has line_end (one_of (LineEnd ∷ []))
end_has = has_take _ End refl

-- what ends with its line
abbrev pub a_line : Outline → Outline
a_line i = one_then i (one_then (one_of (LineEnd ∷ [])) nothing)

pub has_to_end : {A : Type 0} (f : Form A) (o : Outline) → Has f o → all_apart o.goes (LineEnd ∷ []) ≡ true → Has (to_end f) (a_line o)
has_to_end f o h e = has_then _ _ _ _ h (λ x. has_then _ _ _ _ end_has (λ u. has_give _) refl) e
