-- What is written in a form is read, up to its first flag.
use Rattle.std.proofs.Common.{◌≡◌, ℕ, zero, suc, Bool, true, false, List, [], ◌∷◌, ◌++◌, Option, Some, None, Ok, refl, sym, ◌∙◌, subst, inl, inr, ◌⊎◌}
use Rattle.it_forms.specs.declared.types.Code.{Code}
use Rattle.it_forms.specs.Letters.{Letter, FlaggedLetters, letters}
use Rattle.it_forms.specs.Reads.{Reads, ◌>>=◌, no_rule}
use Rattle.it_forms.proofs.FlaggedReadings.{Answers, answers_ok, answers_cons, answers_bind}
use Rattle.it_forms.specs.Forms.{Kind, Terminal, is_among, IsTaken, AreTurns, Form, Give, Take, Then, If, While, Spells}
use Rattle.it_forms.specs.FormReading.{if_unflagged, if_taken, read}
use Rattle.it_forms.proofs.FormTraces.{Reader, taken_is, other_is}
use Rattle.it_forms.proofs.FormLaws.{while_turn}
use Rattle.it_forms.proofs.Outlines.{Outline, kinds_if, nothing, one_of, one_then, one_or, repeated, all_apart, Fits, Has}
use Rattle.it_forms.proofs.KindLemmas.{IsAt, IsFree, free_of, free_both, at_first, at_second}

-- m begins as an outline says, or is k
abbrev Begins : Outline → FlaggedLetters → FlaggedLetters → Type 0
Begins o m k = IsAt o.begins m ⊎ ((o.skips ≡ true) × (m ≡ k))

taken_at : {A : Type 0} (t : Terminal A) (a : A) (m k : FlaggedLetters) → IsTaken t a m k → IsAt t.kinds m
taken_at t a m k s = subst (λ (n : FlaggedLetters). IsAt t.kinds n) (sym s.3) s.1

begins_then : (i j : Outline) (m n k : FlaggedLetters) → Begins i m n → Begins j n k → Begins (one_then i j) m k
begins_then i j m n k (inl e) h = inl (at_first i.begins _ m e)
begins_then i j m n k (inr e) (inl h) = inl (at_second i.begins (kinds_if i.skips j.begins) m
    (subst (λ (b : Bool). IsAt (kinds_if b j.begins) m) (sym e.0) (subst (IsAt j.begins) (sym e.1) h)))
begins_then i j m n k (inr e) (inr h) = inr (rw (e.0, h.0) refl, e.1 ∙ h.1)

at_as : (ks ls : List Kind) (m : FlaggedLetters) → ((l : Letter) → is_among ks l ≡ true → is_among ls l ≡ true) → IsAt ks m → IsAt ls m
at_as ks ls [] h e = e
at_as ks ls (x ∷ m) h e = h x.0 e

begins_as : (i o : Outline) (m k : FlaggedLetters) → Fits i o → Begins i m k → Begins o m k
begins_as i o m k e (inl b) = inl (at_as i.begins o.begins m e.begins b)
begins_as i o m k e (inr b) = inr (e.skips b.0, b.1)

begins_or : (ks : List Kind) (i j : Outline) (m k : FlaggedLetters) → Begins j m k → Begins (one_or ks i j) m k
begins_or ks i j m k (inl e) = inl (at_second ks j.begins m e)
begins_or ks i j m k (inr e) = inr e

-- what a form begins with
form_begins : {A : Type 0} (f : Form A) (o : Outline) → Has f o → (y : A) (m k : FlaggedLetters) → Spells f y m k → Begins o m k
unfolding Spells Has
form_begins (Give a) o h y m k s = begins_as nothing o m k h (inr (refl, s.1))
form_begins (Take t) o h y m k s = begins_as (one_of t.kinds) o m k h.2 (inl (taken_at t y m k s))
form_begins (Then f g) o h y m k s = begins_as (one_then h.0 h.1) o m k h.5
    (begins_then h.0 h.1 m s.1 k (form_begins f h.0 h.2 s.0 m s.1 s.2) (form_begins (g s.0) h.1 (h.3 s.0) y s.1 k s.3))
form_begins (If t g other) o h y m k (inl s) = begins_as (one_or t.kinds h.0 h.1) o m k h.5 (inl (at_first t.kinds h.1.begins m (taken_at t s.0 m s.1 s.2)))
form_begins (If t g other) o h y m k (inr s) = begins_as (one_or t.kinds h.0 h.1) o m k h.5 (begins_or t.kinds h.0 h.1 m k (form_begins other h.1 h.3 y m k s))
form_begins (While ks says step a) o h y m k (zero, s) = begins_as (repeated ks h.0) o m k h.3 (inr (refl, s.1))
form_begins (While ks says step a) o h y m k (suc n, s) = begins_as (repeated ks h.0) o m k h.3
    (inl (taken_at (record { kinds = ks; says = says a }) s.0 m s.1 s.4))

-- ---- a token, and what is read after it

terminal_answers : {A B : Type 0} (t : Terminal A) (l : Letter) (n k : FlaggedLetters) (g : A → Reader B) (other : Reads B) (y : B)
    → is_among t.kinds l ≡ true → Answers (g (t.says l).1 (letters n)) n y k
    → Answers (if_taken t (l ∷ letters n) g other) ((l, (t.says l).0) ∷ n) y k
terminal_answers {A} {B} t l n k g other y e h =
    subst (λ (r : Reads B). Answers r ((l, (t.says l).0) ∷ n) y k) (sym (taken_is t l (t.says l) e refl g (letters n) other)) (by_flag (t.says l) h)
  where
    by_flag : (p : Option Code × A) → Answers (g p.1 (letters n)) n y k → Answers (if_unflagged p l (letters n) (λ a. g a (letters n))) ((l, p.0) ∷ n) y k
    by_flag (None, a) h = answers_cons l (g a (letters n)) n y k h
    by_flag (Some c, a) h = inr ((c, l ∷ letters n), (refl, record { prefix = []; letter = l; rest = n; is = refl; left = refl }))

taken_answers : {A B : Type 0} (t : Terminal A) (a : A) (m n k : FlaggedLetters) (g : A → Reader B) (other : Reads B) (y : B)
    → IsTaken t a m n → Answers (g a (letters n)) n y k → Answers (if_taken t (letters m) g other) m y k
taken_answers {A} {B} t a m n k g other y s h =
    subst (λ (q : FlaggedLetters). Answers (if_taken t (letters q) g other) q y k) (sym s.3)
    (terminal_answers t s.0 n k g other y s.1 (subst (λ (b : A). Answers (g b (letters n)) n y k) (sym s.2) h))

-- where the token doesn't stand
free_answers : {A B : Type 0} (t : Terminal A) (m k : FlaggedLetters) (g : A → Reader B) (other : Reads B) (y : B) → IsFree t.kinds m
    → Answers other m y k → Answers (if_taken t (letters m) g other) m y k
free_answers t [] k g other y e h = h
free_answers t (x ∷ m) k g other y e h = subst (λ (r : Reads _). Answers r (x ∷ m) y k) (sym (other_is t x.0 e g (letters m) other)) h

free_second : (i j : Outline) (m k : FlaggedLetters) (js : List Kind) → Begins j m k → all_apart i.goes j.begins ≡ true
    → IsFree (js ++ kinds_if j.skips i.goes) k → IsFree i.goes m
free_second i j m k js (inl e) p f = free_of i.goes j.begins m p e
free_second i j m k js (inr e) p f = subst (IsFree i.goes) (sym e.1) (subst (λ (b : Bool). IsFree (kinds_if b i.goes) k) e.0
    (free_both js (kinds_if j.skips i.goes) k f).1)

-- the token of an alternative doesn't stand where the other one does
free_other : (ks : List Kind) (j : Outline) (m k : FlaggedLetters) → Begins j m k → all_apart ks j.begins ≡ true → IsFree (kinds_if j.skips ks) k → IsFree ks m
free_other ks j m k (inl e) p f = free_of ks j.begins m p e
free_other ks j m k (inr e) p f = subst (IsFree ks) (sym e.1) (subst (λ (b : Bool). IsFree (kinds_if b ks) k) e.0 f)

-- ---- turns

free_turns : {A B : Type 0} (ks is : List Kind) (t : A → Terminal B) (step : A → B → A → FlaggedLetters → FlaggedLetters → Type 0)
    → ((a : A) → (t a).kinds ≡ ks) → (n : ℕ) (a y : A) (m k : FlaggedLetters) → AreTurns t step n a y m k → all_apart is ks ≡ true
    → IsFree is k → IsFree is m
free_turns ks is t step same zero a y m k s p f = subst (IsFree is) (sym s.1) f
free_turns ks is t step same (suc n) a y m k s p f = free_of is ks m p (subst (λ (k : List Kind). IsAt k m) (same a) (taken_at (t a) s.0 m s.1 s.4))

turns_answer : {A B : Type 0} (ks : List Kind) (says : A → Letter → Option Code × B) (step : A → B → Form A) → (is : List Kind) → all_apart is ks ≡ true
    → ((a : A) (b : B) (c : A) (p q : FlaggedLetters) → Spells (step a b) c p q → IsFree is q → Answers (read (step a b) (letters p)) p c q)
    → (n : ℕ) (a y : A) (m k : FlaggedLetters) → AreTurns (λ a. record { kinds = ks; says = says a }) (λ a b. Spells (step a b)) n a y m k
    → IsFree ks k → IsFree is k → Answers (read (While ks says step a) (letters m)) m y k
turns_answer {A} ks says step is p h zero a y m k s f fi =
    subst (λ (r : Reads A). Answers r m y k) (sym (while_turn ks says step a (letters m)))
    (free_answers (record { kinds = ks; says = says a }) m k (λ b rest. read (step a b) rest >>= λ x. read (While ks says step x.0) x.1)
    (Ok (a, letters m)) y (subst (IsFree ks) (sym s.1) f)
    (subst (λ (b : A). Answers (Ok (a, letters m)) m b k) s.0 (subst (λ (q : FlaggedLetters). Answers (Ok (a, letters m)) m a q) s.1 (answers_ok a m))))
turns_answer {A} ks says step is p h (suc n) a y m k s f fi =
    let q = s.3 in
    subst (λ (r : Reads A). Answers r m y k) (sym (while_turn ks says step a (letters m)))
    (taken_answers (record { kinds = ks; says = says a }) s.0 m s.1 k (λ b rest. read (step a b) rest >>= λ x. read
    (While ks says step x.0) x.1) (Ok (a, letters m)) y s.4
    (answers_bind (read (step a s.0) (letters s.1)) (λ x. read (While ks says step x.0) x.1) s.1 q k s.2 y
    (h a s.0 s.2 s.1 q s.5 (free_turns ks is (λ a. record { kinds = ks; says = says a }) (λ a b. Spells (step a b)) (λ a. refl) n s.2 y q k s.6 p fi))
    (turns_answer ks says step is p h n s.2 y q k s.6 f fi)))

not_among : (a b : Bool) → (a ≡ true → b ≡ true) → b ≡ false → a ≡ false
not_among true b h e = let p = h refl in absurd cc
not_among false b h e = refl

free_as : (i o : Outline) (k : FlaggedLetters) → Fits i o → IsFree o.goes k → IsFree i.goes k
free_as i o [] e f = f
free_as i o (x ∷ k) e f = not_among (is_among i.goes x.0) (is_among o.goes x.0) (e.goes x.0) f

-- the first law: what is written is read
pub written_is_read : {A : Type 0} (f : Form A) (o : Outline) → Has f o → (y : A) (m k : FlaggedLetters) → Spells f y m k → IsFree o.goes k
    → Answers (read f (letters m)) m y k
unfolding read Spells Has
written_is_read {A} (Give a) o h y m k s e = subst (λ (b : A). Answers (Ok (a, letters m)) m b k) s.0
    (subst (λ (q : FlaggedLetters). Answers (Ok (a, letters m)) m a q) s.1 (answers_ok a m))
written_is_read (Take t) o h y m k s e = taken_answers t y m k k (λ a rest. Ok (a, rest)) (no_rule (letters m)) y s (answers_ok y k)
written_is_read (Then f g) o h y m k s e =
    let i = h.0 in
    let j = h.1 in
    let p = free_as (one_then i j) o k h.5 e in
    answers_bind (read f (letters m)) (λ x. read (g x.0) x.1) m s.1 k s.0 y
    (written_is_read f i h.2 s.0 m s.1 s.2 (free_second i j s.1 k j.goes (form_begins (g s.0) j (h.3 s.0) y s.1 k s.3) h.4 p))
    (written_is_read (g s.0) j (h.3 s.0) y s.1 k s.3 (free_both j.goes (kinds_if j.skips i.goes) k p).0)
written_is_read (If t g other) o h y m k (inl s) e =
    taken_answers t s.0 m s.1 k (λ a. read (g a)) (read other (letters m)) y s.2
    (written_is_read (g s.0) h.0 (h.2 s.0) y s.1 k s.3 (free_both h.0.goes (h.1.goes ++ kinds_if h.1.skips t.kinds) k
    (free_as (one_or t.kinds h.0 h.1) o k h.5 e)).0)
written_is_read (If t g other) o h y m k (inr s) e =
    let j = h.1 in
    let f = free_both j.goes (kinds_if j.skips t.kinds) k (free_both h.0.goes (j.goes ++ kinds_if j.skips t.kinds) k
    (free_as (one_or t.kinds h.0 j) o k h.5 e)).1 in
    free_answers t m k (λ a. read (g a)) (read other (letters m)) y (free_other t.kinds j m k (form_begins other j h.3 y m k s) h.4 f.1)
    (written_is_read other j h.3 y m k s f.0)
written_is_read (While ks says step a) o h y m k s e =
    let i = h.0 in
    let f = free_both ks i.goes k (free_as (repeated ks i) o k h.3 e) in
    turns_answer ks says step i.goes h.2 (λ c b d p q t free. written_is_read (step c b) i (h.1 c b) d p q t free) s.0 a y m k s.1 f.0 f.1
