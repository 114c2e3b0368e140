-- Where more is allowed nothing is flagged.
use Rattle.std.proofs.Common.{◌≡◌, ℕ, zero, suc, List, Option, Some, None, refl, ap, ◌∙◌}
use Rattle.std.specs.Option.{option_or}
use Rattle.it_forms.specs.declared.types.Code.{Code}
use Rattle.it_forms.specs.Letters.{Letter}
use Rattle.it_forms.specs.Forms.{Terminal, Form, Give, Take, Then, If, While}
use Rattle.it_forms.specs.FormReading.{read}
use Rattle.it_forms.specs.Words.{flagged_terminal, flagged, allowed}

or_none : (m : Option Code) → option_or m None ≡ m
or_none None = refl
or_none (Some c) = refl

terminal_same : {A : Type 0} (t : Terminal A) → flagged_terminal None t ≡ t
terminal_same {A} t = ap (λ (says : Letter → Option Code × A). record { kinds = t.kinds; says = says }) (λ i l. (or_none (t.says l).0 i, (t.says l).1))

pub unflagged_same : {A : Type 0} (f : Form A) → flagged None f ≡ f
unfolding flagged
unflagged_same (Give a) = refl
unflagged_same (Take t) = ap (λ (u : Terminal _). Take u) (terminal_same t)
unflagged_same (Then f g) = ap (λ (h : Form _). Then h g) (unflagged_same f)
unflagged_same (If t g h) = ap (λ (u : Terminal _). If u g (flagged None h)) (terminal_same t) ∙ ap (λ (o : Form _). If t g o) (unflagged_same h)
unflagged_same (While ks says step a) = refl

pub read_allowed : {A : Type 0} (n : ℕ) (f : Form A) (ls : List Letter) → ¬ (n ≡ 0) → read (allowed n f) ls ≡ read f ls
read_allowed zero f ls h = absurd (h refl)
read_allowed (suc n) f ls h = ap (λ (g : Form _). read g ls) (unflagged_same f)
