-- What always holds of what is read in a form and of the letters that say it.
use Rattle.std.proofs.Common.{◌≡◌, ℕ, zero, suc, Bool, true, false, cond, List, [], ◌∷◌, ◌++◌, length, Option, Some, None, Ok, Err, refl, sym, ap, ◌∙◌, subst, append_assoc}
use Rattle.it_forms.specs.declared.types.Code.{Code}
use Rattle.it_forms.specs.Letters.{Letter}
use Rattle.it_forms.specs.Reads.{Reads, ◌>>=◌, no_rule}
use Rattle.it_forms.specs.Forms.{Kind, Terminal, is_among, Form, Give, Take, Then, If, While}
use Rattle.it_forms.specs.FormReading.{if_unflagged, if_taken, read_turns, read}
use Rattle.it_forms.specs.Words.{each, to_end}
use Rattle.it_forms.proofs.FormTraces.{Reader}

-- a fact of letters and of what they say
abbrev pub Fact : Type 0 → Type 1
Fact A = List Letter → A → Type 0

-- the letters before r say y, and the fact holds of them
pub record Tells {A : Type 0} (P : Fact A) (ls : List Letter) (y : A) (r : List Letter) : Type 0 where
  pub prefix : List Letter
  pub parts : ls ≡ prefix ++ r
  pub holds : P prefix y

abbrev pub IfRead : {A : Type 0} → Fact A → List Letter → Reads A → Type 0
IfRead P ls (Ok x) = Tells P ls x.0 x.1
IfRead P ls (Err e) = Unit {0}

abbrev pub OfEach : {A : Type 0} → Terminal A → Fact A → Type 0
OfEach t P = (l : Letter) → is_among t.kinds l ≡ true → (t.says l).0 ≡ None → P (l ∷ []) (t.says l).1

abbrev pub Turns : {A B : Type 0} → (A → Terminal B) → (A → B → Fact A → Type 0) → ℕ → A → Fact A → Type 0
Turns t Step zero a P = P [] a
Turns t Step (suc n) a P = P [] a × OfEach (t a) (λ p b. Step a b (λ q c. Turns t Step n c (λ r y. P (p ++ (q ++ r)) y)))

unfoldable pub Always : {A : Type 0} → Form A → Fact A → Type 0
Always (Give a) P = P [] a
Always (Take t) P = OfEach t P
Always (Then f g) P = Always f (λ p a. Always (g a) (λ q y. P (p ++ q) y))
Always (If t g h) P = OfEach t (λ p a. Always (g a) (λ q y. P (p ++ q) y)) × Always h P
Always (While ks says step a) P = (n : ℕ) → Turns (λ c. record { kinds = ks; says = says c }) (λ c b Q. Always (step c b) Q) n a P

append_nil : {X : Type 0} (xs : List X) → xs ++ [] ≡ xs
append_nil [] = refl
append_nil (x ∷ xs) = ap (λ (t : List _). x ∷ t) (append_nil xs)

read_then : {A B : Type 0} (P : Fact A) (Q : Fact B) (ls : List Letter) (r : Reads A) (g : A → Reader B) → IfRead P ls r
    → ((p : List Letter) (a : A) (s : List Letter) → P p a → IfRead (λ q y. Q (p ++ q) y) s (g a s)) → IfRead Q ls (r >>= λ x. g x.0 x.1)
read_then {A} {B} P Q ls (Ok x) g h e = by_result (g x.0 x.1) (e h.prefix x.0 x.1 h.holds)
  where
    by_result : (r : Reads B) → IfRead (λ q y. Q (h.prefix ++ q) y) x.1 r → IfRead Q ls r
    by_result (Ok y) k = record {
      prefix = h.prefix ++ k.prefix;
      parts = h.parts ∙ ap (λ (t : List Letter). h.prefix ++ t) k.parts
          ∙ sym (append_assoc h.prefix k.prefix y.1);
      holds = k.holds;
    }
    by_result (Err f) k = tt
read_then P Q ls (Err f) g h e = tt

read_taken : {A B : Type 0} (t : Terminal A) (P : Fact A) (Q : Fact B) (ls : List Letter) (g : A → Reader B) (other : Reads B) → OfEach t P
    → ((p : List Letter) (a : A) (s : List Letter) → P p a → IfRead (λ q y. Q (p ++ q) y) s (g a s)) → IfRead Q ls other
    → IfRead Q ls (if_taken t ls g other)
read_taken t P Q [] g other h e o = o
read_taken {A} {B} t P Q (l ∷ ls) g other h e o = by_test (is_among t.kinds l) (t.says l) (h l)
  where
    by_result : (r : Reads B) → IfRead (λ q y. Q (l ∷ q) y) ls r → IfRead Q (l ∷ ls) r
    by_result (Ok y) k = record { prefix = l ∷ k.prefix; parts = ap (λ (t : List Letter). l ∷ t) k.parts; holds = k.holds }
    by_result (Err f) k = tt

    by_test : (b : Bool) (p : Option Code × A) → (b ≡ true → p.0 ≡ None → P (l ∷ []) p.1) → IfRead Q (l ∷ ls) (cond b (if_unflagged p l ls (λ a. g a ls)) other)
    by_test true (None, a) h = by_result (g a ls) (e (l ∷ []) a ls (h refl refl))
    by_test true (Some c, a) h = tt
    by_test false p h = o

read_each : {A B : Type 0} (t : A → Terminal B) (step : A → B → Reader A) (Step : A → B → Fact A → Type 0)
    → ((a : A) (b : B) (Q : Fact A) (s : List Letter) → Step a b Q → IfRead Q s (step a b s))
    → (n : ℕ) (a : A) (P : Fact A) (ls : List Letter) → Turns t Step n a P → IfRead P ls (read_turns t step n a ls)
read_each t step Step h zero a P ls e = record { prefix = []; parts = refl; holds = e }
read_each t step Step h (suc n) a P ls e =
    read_taken (t a) (λ p b. Step a b (λ q c. Turns t Step n c (λ r y. P (p ++ (q ++ r)) y))) P ls
    (λ b rest. step a b rest >>= λ x. read_turns t step n x.0 x.1) (Ok (a, ls)) e.1
    (λ p b s k. read_then (λ q c. Turns t Step n c (λ r y. P (p ++ (q ++ r)) y)) (λ q y. P (p ++ q) y) s (step a b s) (read_turns t step n)
    (h a b (λ q c. Turns t Step n c (λ r y. P (p ++ (q ++ r)) y)) s k)
    (λ q c r w. read_each t step Step h n c (λ r y. P (p ++ (q ++ r)) y) r w))
    (record { prefix = []; parts = refl; holds = e.0 })

-- what always holds holds of what is read
pub always_read : {A : Type 0} (f : Form A) (P : Fact A) (ls : List Letter) → Always f P → IfRead P ls (read f ls)
unfolding Always read
always_read (Give a) P ls h = record { prefix = []; parts = refl; holds = h }
always_read (Take t) P ls h = read_taken t P P ls (λ a rest. Ok (a, rest)) (no_rule ls) h
    (λ p a s e. record { prefix = []; parts = refl; holds = subst (λ (q : List Letter). P q a) (sym (append_nil p)) e }) tt
always_read (Then f g) P ls h = read_then (λ p a. Always (g a) (λ q y. P (p ++ q) y)) P ls (read f ls) (λ a. read (g a))
    (always_read f (λ p a. Always (g a) (λ q y. P (p ++ q) y)) ls h) (λ p a s e. always_read (g a) (λ q y. P (p ++ q) y) s e)
always_read (If t g other) P ls h = read_taken t (λ p a. Always (g a) (λ q y. P (p ++ q) y)) P ls (λ a. read (g a)) (read other ls) h.0
    (λ p a s e. always_read (g a) (λ q y. P (p ++ q) y) s e) (always_read other P ls h.1)
always_read (While ks says step a) P ls h = read_each (λ c. record { kinds = ks; says = says c }) (λ c b. read (step c b))
    (λ c b Q. Always (step c b) Q) (λ c b Q s e. always_read (step c b) Q s e) (length ls) a P ls (h (length ls))

-- what follows from it holds too
turns_weaker : {A B : Type 0} (t : A → Terminal B) (Step : A → B → Fact A → Type 0)
    → ((a : A) (b : B) (P Q : Fact A) → ((q : List Letter) (c : A) → P q c → Q q c) → Step a b P → Step a b Q)
    → (n : ℕ) (a : A) (P Q : Fact A) → ((q : List Letter) (c : A) → P q c → Q q c) → Turns t Step n a P → Turns t Step n a Q
turns_weaker t Step w zero a P Q i h = i [] a h
turns_weaker t Step w (suc n) a P Q i h = (
  i [] a h.0,
  λ l e m. w a ((t a).says l).1
      (λ q c. Turns t Step n c (λ r y. P ((l ∷ []) ++ (q ++ r)) y)) (λ q c. Turns t Step n c (λ r y. Q ((l ∷ []) ++ (q ++ r)) y))
      (λ q c k. turns_weaker t Step w n c (λ r y. P ((l ∷ []) ++ (q ++ r)) y) (λ r y. Q ((l ∷ []) ++ (q ++ r)) y)
      (λ r y. i ((l ∷ []) ++ (q ++ r)) y) k) (h.1 l e m),
)

pub always_weaker : {A : Type 0} (f : Form A) (P Q : Fact A) → ((q : List Letter) (a : A) → P q a → Q q a) → Always f P → Always f Q
unfolding Always
always_weaker (Give a) P Q i h = i [] a h
always_weaker (Take t) P Q i h = λ l e m. i (l ∷ []) (t.says l).1 (h l e m)
always_weaker (Then f g) P Q i h = always_weaker f (λ p a. Always (g a) (λ q y. P (p ++ q) y)) (λ p a. Always (g a) (λ q y. Q (p ++ q) y))
    (λ p a k. always_weaker (g a) (λ q y. P (p ++ q) y) (λ q y. Q (p ++ q) y) (λ q y. i (p ++ q) y) k) h
always_weaker (If t g other) P Q i h = (
  λ l e m. always_weaker (g (t.says l).1) (λ q y. P ((l ∷ []) ++ q) y) (λ q y. Q ((l ∷ []) ++ q) y)
      (λ q y. i ((l ∷ []) ++ q) y) (h.0 l e m),
  always_weaker other P Q i h.1,
)
always_weaker (While ks says step a) P Q i h = λ n. turns_weaker (λ c. record { kinds = ks; says = says c }) (λ c b Q. Always (step c b) Q)
    (λ c b P Q i k. always_weaker (step c b) P Q i k) n a P Q i (h n)

-- what each turn keeps holds after all of them; `p` are the letters before the loop
pub loop_keeps : {A B : Type 0} (ks : List Kind) (says : A → Letter → Option Code × B) (step : A → B → Form A) (P : Fact A)
    → ((p : List Letter) (a : A) → P p a → OfEach (record { kinds = ks; says = says a })
    (λ l b. Always (step a b) (λ q c. P (p ++ (l ++ q)) c))) → (p : List Letter) (a : A) → P p a
    → Always (While ks says step a) (λ q y. P (p ++ q) y)
unfolding Always
loop_keeps {A} {B} ks says step P h p a s n = turns n p a s
  where
    t : A → Terminal B
    t c = record { kinds = ks; says = says c }

    turns : (n : ℕ) (p : List Letter) (a : A) → P p a → Turns (λ c. record { kinds = ks; says = says c }) (λ c b Q. Always (step c b) Q) n a
        (λ q y. P (p ++ q) y)
    turns zero p a s = subst (λ (q : List Letter). P q a) (sym (append_nil p)) s
    turns (suc n) p a s = (
      subst (λ (q : List Letter). P q a) (sym (append_nil p)) s,
      λ l e m. always_weaker (step a (says a l).1) (λ q c. P (p ++ ((l ∷ []) ++ q)) c)
          (λ q c. Turns (λ c. record { kinds = ks; says = says c }) (λ c b Q. Always (step c b) Q) n c
          (λ r y. P (p ++ ((l ∷ []) ++ (q ++ r))) y))
          (λ q c k. turns_weaker (λ c. record { kinds = ks; says = says c }) (λ c b Q. Always (step c b) Q)
          (λ c b P Q i w. always_weaker (step c b) P Q i w) n c (λ r y. P ((p ++ ((l ∷ []) ++ q)) ++ r) y)
          (λ r y. P (p ++ ((l ∷ []) ++ (q ++ r))) y)
          (λ r y w. subst (λ (x : List Letter). P x y) (append_assoc p ((l ∷ []) ++ q) r) w) (turns n (p ++ ((l ∷ []) ++ q)) c k)) (h p a s l e m),
    )

-- ---- facts of the values alone

-- of each that is put to others
pub each_keeps : {A B C : Type 0} (ks : List Kind) (says : A → Letter → Option Code × B) (item : A → B → Form C) (put : A → C → A) (P : A → Type 0)
    → ((a : A) → P a → OfEach (record { kinds = ks; says = says a }) (λ p b. Always (item a b) (λ q c. P (put a c)))) → (a : A) → P a
    → Always (each ks says item put a) (λ p y. P y)
unfolding Always
each_keeps ks says item put P h a s = loop_keeps ks says (λ a b. Then (item a b) (λ c. Give (put a c))) (λ p y. P y) (λ p a k. h a k) [] a s

-- up to the line's end
pub line_keeps : {A : Type 0} (f : Form A) (P : A → Type 0) → Always f (λ p y. P y) → Always (to_end f) (λ p y. P y)
unfolding Always
line_keeps f P h = always_weaker f _ _ (λ p y e l k m. e) h

-- what always holds of the value holds of the one that is read
pub value_read : {A : Type 0} (f : Form A) (P : A → Type 0) (ls r : List Letter) (y : A) → Always f (λ p y. P y) → read f ls ≡ Ok (y, r) → P y
value_read f P ls r y h e = (subst (IfRead (λ p y. P y) ls) e (always_read f (λ p y. P y) ls h)).holds
