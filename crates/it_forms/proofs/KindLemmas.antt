-- Kinds that are apart share no letter.
use Rattle.std.proofs.Common.{◌≡◌, ℕ, zero, suc, Bool, true, false, ◌&&◌, ◌||◌, List, [], ◌∷◌, ◌++◌, refl, sym, ap, ◌∙◌, subst}
use Rattle.std.specs.Prelude.{bytes_eq, not}
use Rattle.std.specs.List.{list_any}
use Rattle.std.proofs.lemmas.Slice.Eq.{bytes_eq-Decides}
use Rattle.it_forms.specs.declared.types.Code.TheVariants as codes
use Rattle.it_forms.specs.SymbolTexts.{symbol_text}
use Rattle.it_forms.specs.Letters.{Letter, Word, Number, Sym, End, Bad, FlaggedLetters}
use Rattle.it_forms.specs.Forms.{Kind, Keyword, Punctuation, WordBut, Zero, Positive, LineEnd, FileEnd, is_of, is_among}
use Rattle.it_forms.proofs.Outlines.{are_apart, is_apart, all_apart}

texts_differ : (t u w : List ℕ) → not (bytes_eq t u) ≡ true → bytes_eq w t ≡ true → bytes_eq w u ≡ true → ⊥
texts_differ t u w p e h =
    let a = (bytes_eq-Decides w t).0 e in
    let b = (bytes_eq-Decides w u).0 h in
    let same = (bytes_eq-Decides t u).1 (sym a ∙ b) in
    let q : not true ≡ true = subst (λ (x : Bool). not x ≡ true) same p in absurd cc

word_left_out : (t w : List ℕ) (us : List (List ℕ)) → list_any (bytes_eq t) us ≡ true → bytes_eq w t ≡ true → not (list_any (bytes_eq w) us) ≡ true → ⊥
word_left_out t w us p e h =
    let a : w ≡ t = (bytes_eq-Decides w t).0 e in
    let q : not (list_any (bytes_eq t) us) ≡ true = subst (λ (x : List ℕ). not (list_any (bytes_eq x) us) ≡ true) a h in
    let r : not true ≡ true = subst (λ (x : Bool). not x ≡ true) p q in absurd cc

word_apart : (k l : Kind) (w : List ℕ) → are_apart k l ≡ true → is_of k (Word w) ≡ true → is_of l (Word w) ≡ true → ⊥
word_apart (Keyword t) (Keyword u) w p e h = texts_differ t u w p e h
word_apart (Keyword t) (WordBut us) w p e h = word_left_out t w us p e h
word_apart (WordBut us) (Keyword t) w p e h = word_left_out t w us p h e
word_apart (WordBut us) (WordBut ts) w p e h = absurd cc
word_apart k l w p e h = absurd cc

kinds_apart : (k l : Kind) (x : Letter) → are_apart k l ≡ true → is_of k x ≡ true → is_of l x ≡ true → ⊥
kinds_apart (Keyword t) l (Word w) p e h = word_apart (Keyword t) l w p e h
kinds_apart (Keyword t) l x p e h = absurd cc
kinds_apart (WordBut ts) l (Word w) p e h = word_apart (WordBut ts) l w p e h
kinds_apart (WordBut ts) l x p e h = absurd cc
kinds_apart (Punctuation s) (Punctuation u) (Sym x) p e h = texts_differ (symbol_text s) (symbol_text u) (symbol_text x) p e h
kinds_apart (Punctuation s) l (Sym x) p e h = absurd cc
kinds_apart (Punctuation s) l x p e h = absurd cc
kinds_apart Zero Zero x p e h = absurd cc
kinds_apart Zero Positive (Number zero) p e h = absurd cc
kinds_apart Zero Positive (Number (suc n)) p e h = absurd cc
kinds_apart Zero l (Number n) p e h = absurd cc
kinds_apart Zero l x p e h = absurd cc
kinds_apart Positive Positive x p e h = absurd cc
kinds_apart Positive Zero (Number zero) p e h = absurd cc
kinds_apart Positive Zero (Number (suc n)) p e h = absurd cc
kinds_apart Positive l (Number n) p e h = absurd cc
kinds_apart Positive l x p e h = absurd cc
kinds_apart LineEnd LineEnd x p e h = absurd cc
kinds_apart LineEnd l End p e h = absurd cc
kinds_apart LineEnd l x p e h = absurd cc
kinds_apart FileEnd FileEnd x p e h = absurd cc
kinds_apart FileEnd l (Bad codes.Unfinished) p e h = absurd cc
kinds_apart FileEnd l x p e h = absurd cc

-- ---- lists of kinds

and_both : (a b : Bool) → a && b ≡ true → (a ≡ true) × (b ≡ true)
and_both true b e = (refl, e)
and_both false b e = absurd cc

pub not_among : (k : Kind) (ls : List Kind) (x : Letter) → is_apart k ls ≡ true → is_of k x ≡ true → is_among ls x ≡ false
not_among k [] x p e = refl
not_among k (l ∷ ls) x p e = let q = and_both _ _ p in by_test (is_of l x) (kinds_apart k l x q.0 e) (not_among k ls x q.1 e)
  where
    by_test : (b : Bool) → (b ≡ true → ⊥) → is_among ls x ≡ false → (b || is_among ls x) ≡ false
    by_test true h m = absurd (h refl)
    by_test false h m = m

-- a letter of the second kinds isn't of the first
pub apart_among : (ks ls : List Kind) (x : Letter) → all_apart ks ls ≡ true → is_among ls x ≡ true → is_among ks x ≡ false
apart_among [] ls x p e = refl
apart_among (k ∷ ks) ls x p e = let q = and_both _ _ p in by_test (is_of k x) (not_among k ls x q.0) (apart_among ks ls x q.1 e)
  where
    by_test : (b : Bool) → (b ≡ true → is_among ls x ≡ false) → is_among ks x ≡ false → (b || is_among ks x) ≡ false
    by_test true h m = let a = h refl in absurd cc
    by_test false h m = m

-- the first letter is of one of these kinds
abbrev pub IsAt : List Kind → FlaggedLetters → Type 0
IsAt ks [] = ⊥
IsAt ks (x ∷ m) = is_among ks x.0 ≡ true

-- the first letter, if there is one, is of none of these kinds
abbrev pub IsFree : List Kind → FlaggedLetters → Type 0
IsFree ks [] = Unit {0}
IsFree ks (x ∷ m) = is_among ks x.0 ≡ false

pub free_of : (ks ls : List Kind) (m : FlaggedLetters) → all_apart ks ls ≡ true → IsAt ls m → IsFree ks m
free_of ks ls [] p e = absurd e
free_of ks ls (x ∷ m) p e = apart_among ks ls x.0 p e

among_append : (ks ls : List Kind) (x : Letter) → is_among (ks ++ ls) x ≡ (is_among ks x || is_among ls x)
among_append [] ls x = refl
among_append (k ∷ ks) ls x = by_test (is_of k x) (among_append ks ls x)
  where
    by_test : (b : Bool) → is_among (ks ++ ls) x ≡ (is_among ks x || is_among ls x) → (b || is_among (ks ++ ls) x) ≡ ((b || is_among ks x) || is_among ls x)
    by_test true e = refl
    by_test false e = e

or_false : (a b : Bool) → (a || b) ≡ false → (a ≡ false) × (b ≡ false)
or_false true b e = absurd cc
or_false false b e = (refl, e)

pub free_both : (ks ls : List Kind) (m : FlaggedLetters) → IsFree (ks ++ ls) m → IsFree ks m × IsFree ls m
free_both ks ls [] e = (tt, tt)
free_both ks ls (x ∷ m) e = or_false (is_among ks x.0) (is_among ls x.0) (sym (among_append ks ls x.0) ∙ e)

pub among_first : (ks ls : List Kind) (x : Letter) → is_among ks x ≡ true → is_among (ks ++ ls) x ≡ true
among_first ks ls x e = among_append ks ls x ∙ ap (λ (b : Bool). b || is_among ls x) e

pub among_second : (ks ls : List Kind) (x : Letter) → is_among ls x ≡ true → is_among (ks ++ ls) x ≡ true
among_second ks ls x e = among_append ks ls x ∙ by_test (is_among ks x) (is_among ls x) e
  where
    by_test : (a b : Bool) → b ≡ true → (a || b) ≡ true
    by_test true b e = refl
    by_test false b e = e

pub at_first : (ks ls : List Kind) (m : FlaggedLetters) → IsAt ks m → IsAt (ks ++ ls) m
at_first ks ls [] e = absurd e
at_first ks ls (x ∷ m) e = among_first ks ls x.0 e

pub at_second : (ks ls : List Kind) (m : FlaggedLetters) → IsAt ls m → IsAt (ks ++ ls) m
at_second ks ls [] e = absurd e
at_second ks ls (x ∷ m) e = among_second ks ls x.0 e
