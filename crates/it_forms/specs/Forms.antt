-- Forms: how a text is written, letter by letter, and what it says. A grammar is a table of forms. A form is a parser of one
-- letter's lookahead in the sense of LL(1) grammars (Lewis and Stearns 1968, "Syntax-Directed Transduction"), and its value
-- may decide what comes next.
use Rattle.std.specs.Prelude.{◌≡◌, ◌⊎◌, ℕ, zero, suc, Bool, true, false, not, List, ◌∷◌, Option, bytes_eq}
use Rattle.std.specs.List.{list_any}
use Rattle.it_forms.specs.declared.types.Symbol.{Symbol}
use Rattle.it_forms.specs.declared.types.Code.{Code}
use Rattle.it_forms.specs.declared.types.Code.TheVariants as codes
use Rattle.it_forms.specs.SymbolTexts.{symbol_text}
use Rattle.it_forms.specs.Letters.{Letter, Word, Number, Sym, End, Bad, FlaggedLetters}

-- ---- letters

-- a kind of letters: one word, one symbol, any word but some, the number 0, any other number, the line's end, the file's end
pub data Kind : Type 0 where
  Keyword : (text : List ℕ) → Kind
  Punctuation : (symbol : Symbol) → Kind
  WordBut : (texts : List (List ℕ)) → Kind
  Zero : Kind
  Positive : Kind
  LineEnd : Kind
  FileEnd : Kind

-- whether a letter is of this kind
abbrev pub is_of : Kind → Letter → Bool
is_of (Keyword t) (Word w) = bytes_eq w t
is_of (Punctuation s) (Sym x) = bytes_eq (symbol_text x) (symbol_text s)
is_of (WordBut ts) (Word w) = not (list_any (bytes_eq w) ts)
is_of Zero (Number zero) = true
is_of Positive (Number (suc n)) = true
is_of LineEnd End = true
is_of FileEnd (Bad codes.Unfinished) = true
is_of k l = false

-- whether a letter is of one of these kinds
abbrev pub is_among : List Kind → Letter → Bool
is_among ks l = list_any (λ k. is_of k l) ks

-- A terminal of the grammar: letters of some kinds. `says` gives the flag that a letter has where it stands, if any, and the value
-- that it says.
pub record Terminal (A : Type 0) : Type 0 where
  pub kinds : List Kind
  pub says : Letter → Option Code × A

-- ---- forms

-- a form of texts, each of which says an A
pub data Form : Type 0 → Type 1 where
  -- nothing is written
  Give : {A : Type 0} → A → Form A
  -- a terminal
  Take : {A : Type 0} → Terminal A → Form A
  -- one form, and then another, which may depend on what was said
  Then : {A B : Type 0} → Form A → (A → Form B) → Form B
  -- a terminal and the first form, or else the second
  If : {A B : Type 0} → Terminal A → (A → Form B) → Form B → Form B
  -- any number of times a terminal of these kinds and a form, each of which may depend on what was said
  While : {A B : Type 0} → List Kind → (A → Letter → Option Code × B) → (A → B → Form A) → A → Form A

-- m is a letter of the terminal, which says a, and then k
abbrev pub IsTaken : {A : Type 0} → Terminal A → A → FlaggedLetters → FlaggedLetters → Type 0
IsTaken t a m k = (l : Letter) × (is_among t.kinds l ≡ true) × ((t.says l).1 ≡ a) × (m ≡ (l, (t.says l).0) ∷ k)

-- m is n turns from a to y, and then k
abbrev pub AreTurns : {A B : Type 0} → (A → Terminal B) → (A → B → A → FlaggedLetters → FlaggedLetters → Type 0) → ℕ → A → A → FlaggedLetters → FlaggedLetters → Type 0
AreTurns t Step zero a y m k = (a ≡ y) × (m ≡ k)
AreTurns {A} {B} t Step (suc n) a y m k = (b : B) × (p : FlaggedLetters) × (c : A) × (q : FlaggedLetters) × IsTaken (t a) b m p × Step a b c p q × AreTurns t Step n c y q k

-- m is written in this form, which says y, and then k
unfoldable pub Spells : {A : Type 0} → Form A → A → FlaggedLetters → FlaggedLetters → Type 0
Spells (Give a) y m k = (a ≡ y) × (m ≡ k)
Spells (Take t) y m k = IsTaken t y m k
Spells (Then {A} f g) y m k = (a : A) × (n : FlaggedLetters) × Spells f a m n × Spells (g a) y n k
Spells (If {A} t g h) y m k = ((a : A) × (n : FlaggedLetters) × IsTaken t a m n × Spells (g a) y n k) ⊎ Spells h y m k
Spells (While ks says step a) y m k = (n : ℕ) × AreTurns (λ a. record { kinds = ks; says = says a }) (λ a b. Spells (step a b)) n a y m k
