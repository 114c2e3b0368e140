-- What a reading of a form tells of the letters that it looked at.
use Rattle.std.proofs.Common.{◌≡◌, ℕ, zero, suc, ◌≤◌, List, [], ◌∷◌, length, Option, Ok, refl, ◌∙◌, subst, inl, inr, arith}
use Rattle.it_forms.specs.declared.types.Code.{Code}
use Rattle.it_forms.specs.Letters.{Letter, FlaggedLetters}
use Rattle.it_forms.specs.Reads.{◌>>=◌, no_rule}
use Rattle.it_forms.specs.Forms.{Kind, IsTaken, Form, Give, Take, Then, If, While, Spells}
use Rattle.it_forms.specs.FormReading.{read}
use Rattle.it_forms.proofs.FormTraces.{Language, Reader, By, Completes, by_then, by_branch, by_nothing, by_no_rule}
use Rattle.it_forms.proofs.FormLaws.{NoLonger, rest_no_longer, while_turn}
use Rattle.it_forms.proofs.Outlines.{Outline, Has}

-- something is written in each form
pub form_completes : {A : Type 0} (f : Form A) (o : Outline) → Has f o → Completes (Spells f)
unfolding Spells Has
form_completes (Give a) o h = (a, λ k. (k, (refl, refl)))
form_completes (Take t) o h = ((t.says h.0).1, λ k. ((h.0, (t.says h.0).0) ∷ k, (h.0, h.1, refl, refl)))
form_completes (Then f g) o h = then_completes f g (form_completes f h.0 h.2) (λ a. form_completes (g a) h.1 (h.3 a))
  where
    then_completes : {A B : Type 0} (f : Form A) (g : A → Form B) → Completes (Spells f) → ((a : A) → Completes (Spells (g a))) → Completes (Spells (Then f g))
    then_completes f g c d = let a = c.0 in ((d a).0, λ k. let n = (d a).1 k in let m = c.1 n.0 in (m.0, (a, n.0, m.1, n.1)))
form_completes (If t g other) o h = let c = form_completes other h.1 h.3 in (c.0, λ k. let m = c.1 k in (m.0, inr m.1))
form_completes (While ks says step a) o h = (a, λ k. (k, (zero, (refl, refl))))

-- a turn, and those after it
one_more_turn : {A B : Type 0} (ks : List Kind) (says : A → Letter → Option Code × B) (step : A → B → Form A) (a : A) (b : B) (c y : A)
    (m p q k : FlaggedLetters) → IsTaken (record { kinds = ks; says = says a }) b m p → Spells (step a b) c p q
    → Spells (While ks says step c) y q k → Spells (While ks says step a) y m k
unfolding Spells
one_more_turn ks says step a b c y m p q k t s w = (suc w.0, (b, p, c, q, t, s, w.1))

abbrev After : {A B : Type 0} → List Kind → (A → Letter → Option Code × B) → (A → B → Form A) → A → B → Language A
After {A} ks says step a b y m k = (c : A) × (q : FlaggedLetters) × Spells (step a b) c m q × Spells (While ks says step c) y q k

after_completes : {A B : Type 0} (ks : List Kind) (says : A → Letter → Option Code × B) (step : A → B → Form A) (a : A) (b : B)
    → Completes (Spells (step a b)) → Completes (After ks says step a b)
unfolding Spells
after_completes ks says step a b c = (c.0, λ k. let m = c.1 k in (m.0, (c.0, k, m.1, (zero, (refl, refl)))))

abbrev WhileBy : {A B : Type 0} → List Kind → (A → Letter → Option Code × B) → (A → B → Form A) → A → List Letter → Type 0
WhileBy ks says step a ls = By (read (While ks says step a)) (Spells (While ks says step a)) ls (read (While ks says step a) ls)

turn_by : {A B : Type 0} (ks : List Kind) (says : A → Letter → Option Code × B) (step : A → B → Form A)
    → ((a : A) (b : B) → Completes (Spells (step a b))) → ((a : A) (b : B) (ls : List Letter)
    → By (read (step a b)) (Spells (step a b)) ls (read (step a b) ls))
    → (a : A) (ls : List Letter) → ((l : Letter) (rest : List Letter) → ls ≡ l ∷ rest → (c : A) (r : List Letter) → length r ≤ length rest
    → WhileBy ks says step c r) → WhileBy ks says step a ls
unfolding Spells
turn_by {A} {B} ks says step some_step step_by a ls next =
    by_branch (record { kinds = ks; says = says a }) after (λ s. Ok (a, s)) (read (While ks says step a)) (After ks says step a) nothing
    (Spells (While ks says step a))
    (record {
      is = while_turn ks says step a;
      taken = λ b y m n k t w. one_more_turn ks says step a b w.0 y m n w.1 k t w.2 w.3;
      else = λ y m k e. (zero, e);
      completes = λ b. after_completes ks says step a b (some_step a b);
    })
    ls (λ l rest e b. by_then (read (step a b)) (λ c. read (While ks says step c)) (after b) (Spells (step a b))
    (λ c. Spells (While ks says step c)) (After ks says step a b)
    (record { is = λ ls. refl; says = λ c y m n k s w. (c, n, s, w); completes = λ c. (c, λ k. (k, (zero, (refl, refl)))) })
    rest (step_by a b rest) (λ c r same. next l rest e c r (subst (NoLonger rest) same (rest_no_longer (step a b) rest))))
    (by_nothing (λ s. Ok (a, s)) nothing a ls (λ s. refl) (λ k. (refl, refl)))
  where
    after : B → Reader A
    after b s = read (step a b) s >>= λ x. read (While ks says step x.0) x.1

    nothing : Language A
    nothing y m k = (a ≡ y) × (m ≡ k)

while_by : {A B : Type 0} (ks : List Kind) (says : A → Letter → Option Code × B) (step : A → B → Form A)
    → ((a : A) (b : B) → Completes (Spells (step a b))) → ((a : A) (b : B) (ls : List Letter)
    → By (read (step a b)) (Spells (step a b)) ls (read (step a b) ls))
    → (n : ℕ) (a : A) (ls : List Letter) → length ls ≤ n → WhileBy ks says step a ls
while_by ks says step some_step step_by zero a [] few = turn_by ks says step some_step step_by a [] (λ l rest e. absurd cc)
while_by ks says step some_step step_by zero a (l ∷ ls) few = absurd (omega (arith, few))
while_by ks says step some_step step_by (suc n) a ls few = turn_by ks says step some_step step_by a ls
    (λ l rest e c r h. while_by ks says step some_step step_by n c r (let f : length (l ∷ rest)
    ≤ suc n = subst (λ (t : List Letter). length t ≤ suc n) e few in omega (arith, f, h)))

-- the second law: what a reading tells
pub reading_tells : {A : Type 0} (f : Form A) (o : Outline) → Has f o → (ls : List Letter) → By (read f) (Spells f) ls (read f ls)
unfolding read Spells Has
reading_tells (Give a) o h ls = by_nothing (read (Give a)) (Spells (Give a)) a ls (λ s. refl) (λ k. (refl, refl))
reading_tells (Take t) o h ls =
    by_branch t (λ a s. Ok (a, s)) no_rule (read (Take t)) (λ a y m k. (a ≡ y) × (m ≡ k)) (IsTaken t) (Spells (Take t))
    (record {
      is = λ ls. refl;
      taken = λ a y m n k t e. (t.0, t.1, t.2 ∙ e.0, rw (← e.1) t.3);
      else = λ y m k t. t;
      completes = λ a. (a, λ k. (k, (refl, refl)));
    })
    ls (λ l rest e a. by_nothing (λ s. Ok (a, s)) (λ y m k. (a ≡ y) × (m ≡ k)) a rest (λ s. refl) (λ k. (refl, refl)))
    (by_no_rule (IsTaken t) ls (form_completes (Take t) o h))
reading_tells (Then f g) o h ls =
    by_then (read f) (λ a. read (g a)) (read (Then f g)) (Spells f) (λ a. Spells (g a)) (Spells (Then f g))
    (record { is = λ ls. refl; says = λ a y m n k s t. (a, n, s, t); completes = λ a. form_completes (g a) h.1 (h.3 a) })
    ls (reading_tells f h.0 h.2 ls) (λ a r e. reading_tells (g a) h.1 (h.3 a) r)
reading_tells (If t g other) o h ls =
    by_branch t (λ a. read (g a)) (read other) (read (If t g other)) (λ a. Spells (g a)) (Spells other) (Spells (If t g other))
    (record { is = λ ls. refl; taken = λ a y m n k s w. inl (a, n, s, w); else = λ y m k s. inr s; completes = λ a. form_completes (g a) h.0 (h.2 a) })
    ls (λ l rest e a. reading_tells (g a) h.0 (h.2 a) rest) (reading_tells other h.1 h.3 ls)
reading_tells (While ks says step a) o h ls = while_by ks says step (λ c b. form_completes (step c b) h.0 (h.1 c b))
    (λ c b. reading_tells (step c b) h.0 (h.1 c b)) (length ls) a ls (omega arith)
