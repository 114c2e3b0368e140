-- The words in which tables of forms are written.
use Rattle.std.specs.Option.{option_or}
use Rattle.std.specs.Prelude.{ℕ, zero, suc, List, [], ◌∷◌, ◌++◌, Option, Some, None, map}
use Rattle.it_forms.specs.declared.types.Symbol.{Symbol}
use Rattle.it_forms.specs.declared.types.Code.{Code}
use Rattle.it_forms.specs.declared.types.Code.TheVariants as codes
use Rattle.it_forms.specs.Letters.{Letter, Word, Number}
use Rattle.it_forms.specs.Forms.{Kind, Keyword, Punctuation, WordBut, Zero, Positive, LineEnd, FileEnd, Terminal, Form, Give, Take, Then, If, While}

-- one form after the other
infixl 10 ◌>>=◌ ◌>>◌
abbrev pub ◌>>=◌ : {A B : Type 0} → Form A → (A → Form B) → Form B
f >>= g = Then f g

-- one form after the other, without the value of the first one
abbrev pub ◌>>◌ : {A B : Type 0} → Form A → Form B → Form B
f >> g = Then f (λ a. g)

-- letters of these kinds, which are never flagged
abbrev pub just : {A : Type 0} → List Kind → A → Terminal A
just ks a = record { kinds = ks; says = λ l. (None, a) }

-- a symbol
abbrev pub symbol : Symbol → Terminal (Unit {0})
symbol s = just (Punctuation s ∷ []) tt

-- a word
abbrev pub word : List ℕ → Terminal (Unit {0})
word w = just (Keyword w ∷ []) tt

-- a word, flagged by `flag`
abbrev pub flagged_word : List ℕ → Option Code → Terminal (Unit {0})
flagged_word w flag = record { kinds = Keyword w ∷ []; says = λ l. (flag, tt) }

-- the text of a word
abbrev pub text_of : Letter → List ℕ
text_of (Word w) = w
text_of l = []

-- the value of a number
abbrev pub number_of : Letter → ℕ
number_of (Number n) = n
number_of l = 0

-- a word other than these; `judge` gives its flag and its value
abbrev pub word_but : {A : Type 0} → List (List ℕ) → (List ℕ → Option Code × A) → Terminal A
word_but ts judge = record { kinds = WordBut ts ∷ []; says = λ l. judge (text_of l) }

-- any word
abbrev pub any_word : {A : Type 0} → (List ℕ → Option Code × A) → Terminal A
any_word judge = word_but [] judge

-- the number 0
abbrev pub zero_alone : Terminal (Unit {0})
zero_alone = just (Zero ∷ []) tt

-- a number other than 0
abbrev pub positive : Terminal ℕ
positive = record { kinds = Positive ∷ []; says = λ l. (None, number_of l) }

-- a number; `judge` gives its flag
abbrev pub number : (ℕ → Option Code) → Terminal ℕ
number judge = record { kinds = Zero ∷ Positive ∷ []; says = λ l. (judge (number_of l), number_of l) }

-- the line's end
abbrev pub line_end : Form (Unit {0})
line_end = Take (just (LineEnd ∷ []) tt)

-- the file's end
abbrev pub file_end : Form (Unit {0})
file_end = Take (just (FileEnd ∷ []) tt)

-- a form, up to the line's end
abbrev pub to_end : {A : Type 0} → Form A → Form A
to_end f = do
  x ← f
  line_end
  Give x

-- any number of times a letter of these kinds and a form; `put` puts the form's value to those before
abbrev pub each : {A B C : Type 0} → List Kind → (A → Letter → Option Code × B) → (A → B → Form C) → (A → C → A) → A → Form A
each ks says item put a = While ks says (λ a b. Then (item a b) (λ c. Give (put a c))) a

-- any number of times a symbol and a form
abbrev pub each_after : {A C : Type 0} → Symbol → (A → Form C) → (A → C → A) → A → Form A
each_after s item put a = each (Punctuation s ∷ []) (λ a l. (None, tt {0})) (λ a u. item a) put a

-- any number of times a word, which may be flagged, and a form
abbrev pub each_flagged : {A C : Type 0} → List ℕ → (A → Option Code) → (A → Form C) → (A → C → A) → A → Form A
each_flagged w flag item put a = each (Keyword w ∷ []) (λ a l. (flag a, tt {0})) (λ a u. item a) put a

-- the terminal, flagged by o where it has no other flag
abbrev pub flagged_terminal : {A : Type 0} → Option Code → Terminal A → Terminal A
flagged_terminal o t = record { kinds = t.kinds; says = λ l. (option_or (t.says l).0 o, (t.says l).1) }

-- the form, its first letter flagged by o where it has no other flag
unfoldable pub flagged : {A : Type 0} → Option Code → Form A → Form A
flagged o (Give a) = Give a
flagged o (Take t) = Take (flagged_terminal o t)
flagged o (Then f g) = Then (flagged o f) g
flagged o (If t g h) = If (flagged_terminal o t) g (flagged o h)
flagged o (While ks says step a) = While ks says step a

-- the flag of a letter of which n more are allowed: `Many` if n is 0
abbrev pub limit_flag : ℕ → Option Code
limit_flag zero = Some codes.Many
limit_flag (suc n) = None

-- the flag c, where there is no value
abbrev pub missing_flag : {A : Type 0} → Code → Option A → Option Code
missing_flag c None = Some c
missing_flag c (Some x) = None

-- the form, where n more are allowed: flagged by `Many` if n is 0
abbrev pub allowed : {A : Type 0} → ℕ → Form A → Form A
allowed n f = flagged (limit_flag n) f

-- the kind without these words
abbrev pub without : List (List ℕ) → Kind → Kind
without ts (WordBut us) = WordBut (ts ++ us)
without ts k = k

-- the terminal without these words
abbrev pub terminal_but : {A : Type 0} → List (List ℕ) → Terminal A → Terminal A
terminal_but ts t = record { kinds = map (without ts) t.kinds; says = t.says }

-- the form, with none of these words in front
unfoldable pub but : {A : Type 0} → List (List ℕ) → Form A → Form A
but ts (Give a) = Give a
but ts (Take t) = Take (terminal_but ts t)
but ts (Then f g) = Then (but ts f) g
but ts (If t g h) = If (terminal_but ts t) g (but ts h)
but ts (While ks says step a) = While ks says step a
