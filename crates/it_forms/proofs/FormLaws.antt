-- The two laws of forms: what is written in a form is read, up to its first flag; and what a reading tells of the letters
-- that it looked at.
use Rattle.std.proofs.Common.{◌≡◌, ℕ, zero, suc, ◌≤◌, Bool, true, false, cond, List, [], ◌∷◌, length, Option, Some, None, Ok, Err, refl, arith}
use Rattle.it_forms.specs.declared.types.Code.{Code}
use Rattle.it_forms.specs.Letters.{Letter}
use Rattle.it_forms.specs.Reads.{Reads, ◌>>=◌, no_rule}
use Rattle.it_forms.specs.Forms.{Terminal, is_among, Form, Give, Take, Then, If, While}
use Rattle.it_forms.specs.FormReading.{if_unflagged, if_taken, read_turns, read}
use Rattle.it_forms.proofs.FormTraces.{Reader}

-- ---- nothing that is read gets longer

abbrev pub NoLonger : {A : Type 0} → List Letter → Reads A → Type 0
NoLonger ls (Ok x) = length x.1 ≤ length ls
NoLonger ls (Err e) = Unit {0}

bind_no_longer : {A B : Type 0} (ls : List Letter) (r : Reads A) (g : A → Reader B) → NoLonger ls r
    → ((a : A) (s : List Letter) → NoLonger s (g a s)) → NoLonger ls (r >>= λ x. g x.0 x.1)
bind_no_longer {A} {B} ls (Ok x) g h next = by_result (g x.0 x.1) (next x.0 x.1)
  where
    by_result : (r : Reads B) → NoLonger x.1 r → NoLonger ls r
    by_result (Ok y) n = omega (arith, n, h)
    by_result (Err e) n = tt
bind_no_longer ls (Err e) g h next = tt

taken_no_longer : {A B : Type 0} (t : Terminal A) (ls : List Letter) (g : A → Reader B) (other : Reads B)
    → ((a : A) (s : List Letter) → NoLonger s (g a s)) → NoLonger ls other → NoLonger ls (if_taken t ls g other)
taken_no_longer t [] g other next h = h
taken_no_longer {A} {B} t (l ∷ ls) g other next h = by_test (is_among t.kinds l) (t.says l)
  where
    by_result : (r : Reads B) → NoLonger ls r → NoLonger (l ∷ ls) r
    by_result (Ok y) n = omega (arith, n)
    by_result (Err e) n = tt

    by_flag : (p : Option Code × A) → NoLonger (l ∷ ls) (if_unflagged p l ls (λ a. g a ls))
    by_flag (None, a) = by_result (g a ls) (next a ls)
    by_flag (Some c, a) = tt

    by_test : (b : Bool) (p : Option Code × A) → NoLonger (l ∷ ls) (cond b (if_unflagged p l ls (λ a. g a ls)) other)
    by_test true p = by_flag p
    by_test false p = h

turns_no_longer : {A B : Type 0} (t : A → Terminal B) (step : A → B → Reader A)
    → ((a : A) (b : B) (s : List Letter) → NoLonger s (step a b s)) → (n : ℕ) (a : A) (ls : List Letter)
    → NoLonger ls (read_turns t step n a ls)
turns_no_longer t step h zero a ls = omega arith
turns_no_longer t step h (suc n) a ls = taken_no_longer (t a) ls (λ b rest. step a b rest >>= λ x. read_turns t step n x.0 x.1) (Ok (a, ls))
    (λ b s. bind_no_longer s (step a b s) (read_turns t step n) (h a b s) (turns_no_longer t step h n)) (omega arith)

pub rest_no_longer : {A : Type 0} (f : Form A) (ls : List Letter) → NoLonger ls (read f ls)
unfolding read
rest_no_longer (Give a) ls = omega arith
rest_no_longer (Take t) ls = taken_no_longer t ls (λ a rest. Ok (a, rest)) (no_rule ls) (λ a s. omega arith) tt
rest_no_longer (Then f g) ls = bind_no_longer ls (read f ls) (λ a. read (g a)) (rest_no_longer f ls) (λ a. rest_no_longer (g a))
rest_no_longer (If t g h) ls = taken_no_longer t ls (λ a. read (g a)) (read h ls) (λ a. rest_no_longer (g a)) (rest_no_longer h ls)
rest_no_longer (While ks says step a) ls = turns_no_longer (λ a. record { kinds = ks; says = says a }) (λ a b. read (step a b))
    (λ a b. rest_no_longer (step a b)) (length ls) a ls

-- ---- turns don't depend on how many are allowed, if there are enough

enough_then : {A B : Type 0} (t : A → Terminal B) (step : A → B → Reader A) (n m : ℕ) (ls : List Letter) → length ls ≤ n → length ls ≤ m
    → ((a : A) (s : List Letter) → length s ≤ n → length s ≤ m → read_turns t step n a s ≡ read_turns t step m a s)
    → (r : Reads A) → NoLonger ls r → (r >>= λ x. read_turns t step n x.0 x.1) ≡ (r >>= λ x. read_turns t step m x.0 x.1)
enough_then t step n m ls hn hm same (Ok x) h = same x.0 x.1 (omega (arith, hn, h)) (omega (arith, hm, h))
enough_then t step n m ls hn hm same (Err e) h = refl

turn_same : {A B : Type 0} (t : A → Terminal B) (step : A → B → Reader A) → ((a : A) (b : B) (s : List Letter) → NoLonger s (step a b s))
    → (n m : ℕ) (a : A) (l : Letter) (ls : List Letter) → length ls ≤ n → length ls ≤ m
    → ((a : A) (s : List Letter) → length s ≤ n → length s ≤ m → read_turns t step n a s ≡ read_turns t step m a s)
    → read_turns t step (suc n) a (l ∷ ls) ≡ read_turns t step (suc m) a (l ∷ ls)
turn_same {A} {B} t step h n m a l ls ln lm same = by_test (is_among (t a).kinds l) ((t a).says l)
  where
    by_flag : (p : Option Code × B) → if_unflagged p l ls (λ b. step a b ls >>= λ x. read_turns t step n x.0 x.1)
        ≡ if_unflagged p l ls (λ b. step a b ls >>= λ x. read_turns t step m x.0 x.1)
    by_flag (None, b) = enough_then t step n m ls ln lm same (step a b ls) (h a b ls)
    by_flag (Some c, b) = refl

    by_test : (b : Bool) (p : Option Code × B) → cond b (if_unflagged p l ls (λ b. step a b ls >>= λ x. read_turns t step n x.0 x.1))
        (Ok (a, l ∷ ls)) ≡ cond b (if_unflagged p l ls (λ b. step a b ls >>= λ x. read_turns t step m x.0 x.1)) (Ok (a, l ∷ ls))
    by_test true p = by_flag p
    by_test false p = refl

pub enough_turns : {A B : Type 0} (t : A → Terminal B) (step : A → B → Reader A)
    → ((a : A) (b : B) (s : List Letter) → NoLonger s (step a b s)) → (n m : ℕ) (a : A) (ls : List Letter) → length ls ≤ n → length ls ≤ m
    → read_turns t step n a ls ≡ read_turns t step m a ls
enough_turns t step h zero zero a ls hn hm = refl
enough_turns t step h zero (suc m) a [] hn hm = refl
enough_turns t step h zero (suc m) a (l ∷ ls) hn hm = absurd (omega (arith, hn))
enough_turns t step h (suc n) zero a [] hn hm = refl
enough_turns t step h (suc n) zero a (l ∷ ls) hn hm = absurd (omega (arith, hm))
enough_turns t step h (suc n) (suc m) a [] hn hm = refl
enough_turns {A} {B} t step h (suc n) (suc m) a (l ∷ ls) hn hm = turn_same t step h n m a l ls (omega (arith, hn)) (omega (arith, hm))
    (enough_turns t step h n m)

-- one turn of a loop
pub while_turn : {A B : Type 0} (ks : List _) (says : A → Letter → Option Code × B) (step : A → B → Form A) (a : A) (ls : List Letter)
    → read (While ks says step a) ls ≡ if_taken (record { kinds = ks; says = says a }) ls
    (λ b rest. read (step a b) rest >>= λ x. read (While ks says step x.0) x.1) (Ok (a, ls))
unfolding read
while_turn ks says step a [] = refl
while_turn {A} {B} ks says step a (l ∷ ls) = by_test (is_among ks l) (says a l)
  where
    t : A → Terminal B
    t a = record { kinds = ks; says = says a }

    f : A → B → Reader A
    f a b = read (step a b)

    by_step : (r : Reads A) → NoLonger ls r → (r >>= λ x. read_turns (λ a. record { kinds = ks; says = says a }) (λ a b. read (step a b))
        (length ls) x.0 x.1) ≡ (r >>= λ x. read (While ks says step x.0) x.1)
    by_step (Ok x) h = enough_turns (λ a. record { kinds = ks; says = says a }) (λ a b. read (step a b)) (λ a b. rest_no_longer (step a b))
        (length ls) (length x.1) x.0 x.1 h (omega arith)
    by_step (Err e) h = refl

    by_flag : (p : Option Code × B) → if_unflagged p l ls (λ b. read (step a b) ls >>= λ x. read_turns
        (λ a. record { kinds = ks; says = says a }) (λ a b. read (step a b)) (length ls) x.0 x.1)
        ≡ if_unflagged p l ls (λ b. read (step a b) ls >>= λ x. read (While ks says step x.0) x.1)
    by_flag (None, b) = by_step (read (step a b) ls) (rest_no_longer (step a b) ls)
    by_flag (Some c, b) = refl

    by_test : (b : Bool) (p : Option Code × B) → cond b (if_unflagged p l ls
        (λ b. read (step a b) ls >>= λ x. read_turns (λ a. record { kinds = ks; says = says a }) (λ a b. read (step a b))
        (length ls) x.0 x.1)) (Ok (a, l ∷ ls)) ≡ cond b (if_unflagged p l ls
        (λ b. read (step a b) ls >>= λ x. read (While ks says step x.0) x.1)) (Ok (a, l ∷ ls))
    by_test true p = by_flag p
    by_test false p = refl
