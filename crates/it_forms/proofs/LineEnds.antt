-- Forms that end neither a line nor the file.
use Rattle.std.specs.Prelude.{map}
use Rattle.std.proofs.Common.{◌≡◌, ℕ, Bool, true, ◌&&◌, List, [], ◌∷◌, Option, refl, ap, ◌∙◌}
use Rattle.it_forms.specs.declared.types.Code.{Code}
use Rattle.it_forms.specs.Forms.{Kind, WordBut, LineEnd, FileEnd, Form, Give, Take, Then, If, While}
use Rattle.it_forms.specs.Words.{without, flagged, but}
use Rattle.it_forms.proofs.Outlines.{are_apart, is_apart, all_apart}

-- none of these kinds is that of a line's end or of the file's
abbrev pub NoEndAmong : List Kind → Type 0
NoEndAmong ks = all_apart (LineEnd ∷ FileEnd ∷ []) ks ≡ true

-- no terminal of the form ends a line or the file
unfoldable pub HasNoEnd : {A : Type 0} → Form A → Type 0
HasNoEnd (Give a) = Unit {0}
HasNoEnd (Take t) = NoEndAmong t.kinds
HasNoEnd (Then {A} f g) = HasNoEnd f × ((a : A) → HasNoEnd (g a))
HasNoEnd (If {A} t g h) = NoEndAmong t.kinds × ((a : A) → HasNoEnd (g a)) × HasNoEnd h
HasNoEnd (While {A} {B} ks says step a) = NoEndAmong ks × ((c : A) (b : B) → HasNoEnd (step c b))

-- the flag of the first letter changes nothing of it
pub no_end_flagged : {A : Type 0} (o : Option Code) (f : Form A) → HasNoEnd f → HasNoEnd (flagged o f)
unfolding HasNoEnd flagged
no_end_flagged o (Give a) h = h
no_end_flagged o (Take t) h = h
no_end_flagged o (Then f g) h = (no_end_flagged o f h.0, h.1)
no_end_flagged o (If t g other) h = (h.0, h.1, no_end_flagged o other h.2)
no_end_flagged o (While ks says step a) h = h

-- nor do words that may not stand in front
line_end_apart : (ts : List (List ℕ)) (ks : List Kind) → is_apart LineEnd (map (without ts) ks) ≡ is_apart LineEnd ks
line_end_apart ts [] = refl
line_end_apart ts (k ∷ ks) = ap (λ (b : Bool). b && is_apart LineEnd (map (without ts) ks)) (by_kind k)
    ∙ ap (λ (b : Bool). are_apart LineEnd k && b) (line_end_apart ts ks)
  where
    by_kind : (k : Kind) → are_apart LineEnd (without ts k) ≡ are_apart LineEnd k
    by_kind (WordBut us) = refl
    by_kind k = refl

file_end_apart : (ts : List (List ℕ)) (ks : List Kind) → is_apart FileEnd (map (without ts) ks) ≡ is_apart FileEnd ks
file_end_apart ts [] = refl
file_end_apart ts (k ∷ ks) = ap (λ (b : Bool). b && is_apart FileEnd (map (without ts) ks)) (by_kind k)
    ∙ ap (λ (b : Bool). are_apart FileEnd k && b) (file_end_apart ts ks)
  where
    by_kind : (k : Kind) → are_apart FileEnd (without ts k) ≡ are_apart FileEnd k
    by_kind (WordBut us) = refl
    by_kind k = refl

no_end_without : (ts : List (List ℕ)) (ks : List Kind) → NoEndAmong ks → NoEndAmong (map (without ts) ks)
no_end_without ts ks h = ap (λ (b : Bool). b && (is_apart FileEnd (map (without ts) ks) && true)) (line_end_apart ts ks)
    ∙ ap (λ (b : Bool). is_apart LineEnd ks && (b && true)) (file_end_apart ts ks) ∙ h

pub no_end_but : {A : Type 0} (ts : List (List ℕ)) (f : Form A) → HasNoEnd f → HasNoEnd (but ts f)
unfolding HasNoEnd but
no_end_but ts (Give a) h = h
no_end_but ts (Take t) h = no_end_without ts t.kinds h
no_end_but ts (Then f g) h = (no_end_but ts f h.0, h.1)
no_end_but ts (If t g other) h = (no_end_without ts t.kinds h.0, h.1, no_end_but ts other h.2)
no_end_but ts (While ks says step a) h = h
