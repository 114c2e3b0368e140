-- What always holds of what letters say.
use Rattle.std.proofs.Common.{ℕ, zero, suc, List, [], ◌∷◌, ◌++◌, ◌∙◌, sym, subst, append-nil}
use Rattle.it_forms.specs.Letters.{Letter}
use Rattle.it_forms.specs.Forms.{Terminal, Form, Give, Take, Then, If, While}
use Rattle.it_forms.specs.FormTexts.{Says}
use Rattle.it_forms.proofs.FormFaults.{said_is_read}
use Rattle.it_forms.proofs.FormParts.{Fact, Tells, IfRead, Turns, Always, always_read}
use Rattle.it_forms.proofs.Outlines.{Outline, Has}

turns_any : {A B : Type 0} (t : A → Terminal B) (Step : A → B → Fact A → Type 0)
    → ((a : A) (b : B) (P : Fact A) → ((q : List Letter) (c : A) → P q c) → Step a b P) → (n : ℕ) (a : A) (P : Fact A)
    → ((q : List Letter) (c : A) → P q c) → Turns t Step n a P
turns_any t Step s zero a P h = h [] a
turns_any t Step s (suc n) a P h = (
  h [] a,
  λ l e m. s a ((t a).says l).1 (λ q c. Turns t Step n c (λ r y. P ((l ∷ []) ++ (q ++ r)) y))
      (λ q c. turns_any t Step s n c (λ r y. P ((l ∷ []) ++ (q ++ r)) y) (λ r y. h ((l ∷ []) ++ (q ++ r)) y)),
)

-- what holds of everything always holds
pub always_any : {A : Type 0} (f : Form A) (P : Fact A) → ((q : List Letter) (y : A) → P q y) → Always f P
unfolding Always
always_any (Give a) P h = h [] a
always_any (Take t) P h = λ l e m. h (l ∷ []) (t.says l).1
always_any (Then f g) P h = always_any f (λ p a. Always (g a) (λ q y. P (p ++ q) y)) (λ p a. always_any (g a) (λ q y. P (p ++ q) y) (λ q y. h (p ++ q) y))
always_any (If t g other) P h = (λ l e m. always_any (g (t.says l).1) (λ q y. P ((l ∷ []) ++ q) y) (λ q y. h ((l ∷ []) ++ q) y), always_any other P h)
always_any (While ks says step a) P h = λ n. turns_any (λ c. record { kinds = ks; says = says c }) (λ c b Q. Always (step c b) Q)
    (λ c b P k. always_any (step c b) P k) n a P h

-- what always holds holds of what letters say
pub always_said : {A : Type 0} (f : Form A) (o : Outline) → Has f o → (P : Fact A) → Always f P → (ls : List Letter) (y : A) → Says f ls y → P ls y
always_said {A} f o h P a ls y s =
    let t : Tells P ls y [] = subst (IfRead P ls) (said_is_read f o h ls y s) (always_read f P ls a) in
    subst (λ (p : List Letter). P p y) (sym (t.parts ∙ append-nil t.prefix)) t.holds
