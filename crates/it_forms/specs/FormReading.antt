-- Reading a form from left to right: at each place the next letter decides. No public clause cites this module: the laws tie
-- it to what forms spell.
use Rattle.std.specs.Prelude.{ℕ, zero, suc, if◌then◌else◌, List, [], ◌∷◌, length, Option, Some, None, Ok, Err}
use Rattle.it_forms.specs.declared.types.Code.{Code}
use Rattle.it_forms.specs.Letters.{Letter}
use Rattle.it_forms.specs.Reads.{Reads, ◌>>=◌, no_rule}
use Rattle.it_forms.specs.Forms.{Terminal, is_among, Form, Give, Take, Then, If, While}

-- the reading after a letter, which is the fault c if the letter is flagged by c
abbrev pub if_unflagged : {A B : Type 0} → Option Code × A → Letter → List Letter → (A → Reads B) → Reads B
if_unflagged (None, a) l ls f = f a
if_unflagged (Some c, a) l ls f = Err (c, l ∷ ls)

-- the reading where t stands: f after its letter if it does, else `other`
abbrev pub if_taken : {A B : Type 0} → Terminal A → List Letter → (A → List Letter → Reads B) → Reads B → Reads B
if_taken t [] f other = other
if_taken t (l ∷ ls) f other = if is_among t.kinds l then if_unflagged (t.says l) l ls (λ a. f a ls) else other

-- the reading of turns, at most n of them
abbrev pub read_turns : {A B : Type 0} → (A → Terminal B) → (A → B → List Letter → Reads A) → ℕ → A → List Letter → Reads A
read_turns t step zero a ls = Ok (a, ls)
read_turns t step (suc n) a ls = if_taken (t a) ls (λ b rest. step a b rest >>= λ x. read_turns t step n x.0 x.1) (Ok (a, ls))

-- what a form reads of letters, with the letters left, or the fault
unfoldable pub read : {A : Type 0} → Form A → List Letter → Reads A
read (Give a) ls = Ok (a, ls)
read (Take t) ls = if_taken t ls (λ a rest. Ok (a, rest)) (no_rule ls)
read (Then f g) ls = read f ls >>= λ x. read (g x.0) x.1
read (If t g h) ls = if_taken t ls (λ a rest. read (g a) rest) (read h ls)
read (While ks says step a) ls = read_turns (λ a. record { kinds = ks; says = says a }) (λ a b. read (step a b)) (length ls) a ls

-- what t says of the first letter, if it is one of its kinds, and the letters after it
abbrev pub after : {A : Type 0} → Terminal A → List Letter → Option ((Option Code × A) × List Letter)
after t [] = None
after t (l ∷ ls) = if is_among t.kinds l then Some (t.says l, ls) else None
