-- Where none of some words stands, a form without them in front reads as the form.
use Rattle.std.proofs.Common.{◌≡◌, Bool, true, false, cond, ◌||◌, List, [], ◌∷◌, ◌++◌, ℕ, Option, Some, None, refl, ap, ◌∙◌}
use Rattle.std.specs.Prelude.{bytes_eq, not, map}
use Rattle.std.specs.List.{list_any}
use Rattle.it_forms.specs.declared.types.Code.{Code}
use Rattle.it_forms.specs.Reads.{Reads, ◌>>=◌}
use Rattle.it_forms.specs.Letters.{Letter, Word, Number, Sym, End, Bad}
use Rattle.it_forms.specs.Forms.{Kind, WordBut, is_of, is_among, Terminal, Form, Give, Take, Then, If, While}
use Rattle.it_forms.specs.FormReading.{if_unflagged, if_taken, read, after}
use Rattle.it_forms.specs.Words.{word, without, terminal_but, but}
use Rattle.it_forms.proofs.FormTraces.{Reader}

abbrev pub NoneStands : List (List ℕ) → List Letter → Type 0
NoneStands ts (Word w ∷ ls) = list_any (bytes_eq w) ts ≡ false
NoneStands ts ls = Unit {0}

any_append : (f : List ℕ → Bool) (ts us : List (List ℕ)) → list_any f ts ≡ false → list_any f (ts ++ us) ≡ list_any f us
any_append f [] us e = refl
any_append f (t ∷ ts) us e = by_test (f t) e (any_append f ts us)
  where
    by_test : (b : Bool) → (b || list_any f ts) ≡ false → (list_any f ts ≡ false → list_any f (ts ++ us) ≡ list_any f us)
        → (b || list_any f (ts ++ us)) ≡ list_any f us
    by_test true e h = absurd cc
    by_test false e h = h e

same_kind : (ts : List (List ℕ)) (k : Kind) (l : Letter) (ls : List Letter) → NoneStands ts (l ∷ ls) → is_of (without ts k) l ≡ is_of k l
same_kind ts (WordBut us) (Word w) ls e = ap not (any_append (bytes_eq w) ts us e)
same_kind ts (WordBut us) (Number n) ls e = refl
same_kind ts (WordBut us) (Sym x) ls e = refl
same_kind ts (WordBut us) End ls e = refl
same_kind ts (WordBut us) (Bad c) ls e = refl
same_kind ts k l ls e = refl

same_kinds : (ts : List (List ℕ)) (ks : List Kind) (l : Letter) (ls : List Letter) → NoneStands ts (l ∷ ls) → is_among (map (without ts) ks) l ≡ is_among ks l
same_kinds ts [] l ls e = refl
same_kinds ts (k ∷ ks) l ls e = ap (λ (b : Bool). b || is_among (map (without ts) ks) l) (same_kind ts k l ls e)
    ∙ ap (λ (b : Bool). is_of k l || b) (same_kinds ts ks l ls e)

same_terminal : {A B : Type 0} (ts : List (List ℕ)) (t : Terminal A) (ls : List Letter) (g : A → Reader B) (other same : Reads B)
    → NoneStands ts ls → other ≡ same → if_taken (terminal_but ts t) ls g other ≡ if_taken t ls g same
same_terminal ts t [] g other same h e = e
same_terminal ts t (l ∷ ls) g other same h e = ap (λ (b : Bool). cond b (if_unflagged (t.says l) l ls (λ a. g a ls)) other)
    (same_kinds ts t.kinds l ls h) ∙ ap (λ (r : Reads _). cond (is_among t.kinds l) (if_unflagged (t.says l) l ls (λ a. g a ls)) r) e

pub read_but : {A : Type 0} (ts : List (List ℕ)) (f : Form A) (ls : List Letter) → NoneStands ts ls → read (but ts f) ls ≡ read f ls
unfolding but read
read_but ts (Give a) ls h = refl
read_but ts (Take t) ls h = same_terminal ts t ls _ _ _ h refl
read_but ts (Then f g) ls h = ap (λ (r : Reads _). r >>= λ x. read (g x.0) x.1) (read_but ts f ls h)
read_but ts (If t g other) ls h = same_terminal ts t ls _ _ _ h (read_but ts other ls h)
read_but ts (While ks says step a) ls h = refl

-- ---- where three words were looked for

no_word : (t w : List ℕ) (ls : List Letter) → after (word t) (Word w ∷ ls) ≡ None → bytes_eq w t ≡ false
no_word t w ls e = by_test (bytes_eq w t) e
  where
    by_test : (b : Bool) → cond {A = Option ((Option Code × Unit {0}) × List Letter)} (b || false) (Some ((None, tt), ls)) None ≡ None → b ≡ false
    by_test true e = absurd cc
    by_test false e = refl

pub none_stands : (t u v : List ℕ) (ls : List Letter) → after (word t) ls ≡ None → after (word u) ls ≡ None → after (word v) ls ≡ None
    → NoneStands (t ∷ u ∷ v ∷ []) ls
none_stands t u v (Word w ∷ ls) a b c = rw (no_word t w ls a, no_word u w ls b, no_word v w ls c) refl
none_stands t u v [] a b c = tt
none_stands t u v (Number n ∷ ls) a b c = tt
none_stands t u v (Sym x ∷ ls) a b c = tt
none_stands t u v (End ∷ ls) a b c = tt
none_stands t u v (Bad d ∷ ls) a b c = tt
