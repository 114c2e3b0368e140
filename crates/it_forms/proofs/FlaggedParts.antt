-- What always holds of what is read in a form holds where the first letter is flagged, or may not be some words; and what is
-- allowed no more isn't read.
use Rattle.std.specs.Option.{option_or}
use Rattle.std.proofs.Common.{◌≡◌, ℕ, zero, suc, Bool, true, false, ◌||◌, List, [], ◌∷◌, ◌++◌, Option, Some, None, refl}
use Rattle.std.specs.Prelude.{bytes_eq, not, map}
use Rattle.std.specs.List.{list_any}
use Rattle.it_forms.specs.declared.types.Code.{Code}
use Rattle.it_forms.specs.declared.types.Code.TheVariants as codes
use Rattle.it_forms.specs.Letters.{Letter, Word}
use Rattle.it_forms.specs.Forms.{Kind, WordBut, is_of, is_among, Form, Give, Take, Then, If, While}
use Rattle.it_forms.specs.Words.{flagged, allowed, without, but}
use Rattle.it_forms.proofs.FormParts.{Fact, Always}

-- ---- flags

unflagged_before : (o m : Option Code) → option_or m o ≡ None → m ≡ None
unflagged_before o None e = refl
unflagged_before o (Some d) e = absurd cc

pub always_flagged : {A : Type 0} (o : Option Code) (f : Form A) (P : Fact A) → Always f P → Always (flagged o f) P
unfolding Always flagged
always_flagged o (Give a) P h = h
always_flagged o (Take t) P h = λ l e m. h l e (unflagged_before o (t.says l).0 m)
always_flagged o (Then f g) P h = always_flagged o f (λ p a. Always (g a) (λ q y. P (p ++ q) y)) h
always_flagged o (If t g other) P h = (λ l e m. h.0 l e (unflagged_before o (t.says l).0 m), always_flagged o other P h.1)
always_flagged o (While ks says step a) P h = h

-- a form that begins with a terminal
unfoldable pub Takes : {A : Type 0} → Form A → Type 0
Takes (Give a) = ⊥
Takes (Take t) = Unit {0}
Takes (Then f g) = Takes f
Takes (If t g other) = Takes other
Takes (While ks says step a) = ⊥

surely_flagged : (c : Code) (m : Option Code) → option_or m (Some c) ≡ None → ⊥
surely_flagged c None e = absurd cc
surely_flagged c (Some d) e = absurd cc

nothing_read : {A : Type 0} (c : Code) (f : Form A) (P : Fact A) → Takes f → Always (flagged (Some c) f) P
unfolding Always flagged Takes
nothing_read c (Give a) P h = absurd h
nothing_read c (Take t) P h = λ l e m. absurd (surely_flagged c (t.says l).0 m)
nothing_read c (Then f g) P h = nothing_read c f (λ p a. Always (g a) (λ q y. P (p ++ q) y)) h
nothing_read c (If t g other) P h = (λ l e m. absurd (surely_flagged c (t.says l).0 m), nothing_read c other P h)
nothing_read c (While ks says step a) P h = absurd h

pub always_allowed : {A : Type 0} (n : ℕ) (f : Form A) (P : Fact A) → Takes f → (¬ (n ≡ 0) → Always f P) → Always (allowed n f) P
always_allowed zero f P t h = nothing_read codes.Many f P t
always_allowed (suc n) f P t h = always_flagged None f P (h (λ e. absurd cc))

-- ---- fewer words

any_before : (f : List ℕ → Bool) (ts us : List (List ℕ)) → not (list_any f (ts ++ us)) ≡ true → not (list_any f us) ≡ true
any_before f [] us e = e
any_before f (t ∷ ts) us e = by_test (f t) e (any_before f ts us)
  where
    by_test : (b : Bool) → not (b || list_any f (ts ++ us)) ≡ true → (not (list_any f (ts ++ us)) ≡ true → not (list_any f us) ≡ true)
        → not (list_any f us) ≡ true
    by_test true e h = absurd cc
    by_test false e h = h e

of_wider_kind : (ts : List (List ℕ)) (k : Kind) (l : Letter) → is_of (without ts k) l ≡ true → is_of k l ≡ true
of_wider_kind ts (WordBut us) (Word w) e = any_before (bytes_eq w) ts us e
of_wider_kind ts (WordBut us) l e = absurd cc
of_wider_kind ts k l e = e

among_wider_kinds : (ts : List (List ℕ)) (ks : List Kind) (l : Letter) → is_among (map (without ts) ks) l ≡ true → is_among ks l ≡ true
among_wider_kinds ts [] l e = e
among_wider_kinds ts (k ∷ ks) l e = by_tests (is_of (without ts k) l) (is_of k l) e (of_wider_kind ts k l) (among_wider_kinds ts ks l)
  where
    by_tests : (a b : Bool) → (a || is_among (map (without ts) ks) l) ≡ true → (a ≡ true → b ≡ true)
        → (is_among (map (without ts) ks) l ≡ true → is_among ks l ≡ true) → (b || is_among ks l) ≡ true
    by_tests a true e h more = refl
    by_tests true false e h more = let x = h refl in absurd cc
    by_tests false false e h more = more e

pub always_but : {A : Type 0} (ts : List (List ℕ)) (f : Form A) (P : Fact A) → Always f P → Always (but ts f) P
unfolding Always but
always_but ts (Give a) P h = h
always_but ts (Take t) P h = λ l e m. h l (among_wider_kinds ts t.kinds l e) m
always_but ts (Then f g) P h = always_but ts f (λ p a. Always (g a) (λ q y. P (p ++ q) y)) h
always_but ts (If t g other) P h = (λ l e m. h.0 l (among_wider_kinds ts t.kinds l e) m, always_but ts other P h.1)
always_but ts (While ks says step a) P h = h
