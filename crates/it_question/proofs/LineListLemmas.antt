-- The bytes of a file have one list of lines.
use Rattle.std.proofs.Common.{◌≡◌, ℕ, ◌+◌, List, [], ◌∷◌, Option, Some, None, refl, sym, ap, ◌∙◌, subst, inl, inr}
use Rattle.it_syntax.specs.declared.types.Misspelling.{Misspelling}
use Rattle.it_syntax.specs.declared.types.Token.{Token}
use Rattle.it_syntax.specs.Misspellings.{SpellsUntil}
use Rattle.it_syntax.proofs.MisspellingLemmas.{line_tokens_are_one}
use Rattle.it_question.specs.Lines.{LineView, AreLines, IsLine, IsFilled, plain_text, end_line}
use Rattle.it_question.proofs.TokensExist.{tokens_there}

-- ---- there is not more than one

line_made : ℕ → List ℕ → List Token → Option Misspelling → LineView
line_made n text ts m = record { number = n; text = text; tokens = ts; misspelling = m }

blank_or_filled : (n : ℕ) (bytes : List ℕ) (l : LineView) → SpellsUntil 0 (plain_text bytes) [] None → IsLine n bytes l → IsFilled l.tokens l.misspelling → ⊥
blank_or_filled n bytes l blank h filled =
    let one = line_tokens_are_one (plain_text bytes) l.tokens [] l.misspelling None
    (subst (λ (t : List ℕ). SpellsUntil 0 t l.tokens l.misspelling) h.text h.spelled) blank in
    subst (λ (m : Option Misspelling). IsFilled [] m) one.1 (subst (λ (ts : List Token). IsFilled ts l.misspelling) one.0 filled)

line_is_one : (n : ℕ) (bytes : List ℕ) (l k : LineView) → IsLine n bytes l → IsLine n bytes k → l ≡ k
unfolding line_made
line_is_one n bytes l k h g =
    let text : l.text ≡ k.text = h.text ∙ sym g.text in
    let one = line_tokens_are_one k.text l.tokens k.tokens l.misspelling k.misspelling
    (subst (λ (t : List ℕ). SpellsUntil 0 t l.tokens l.misspelling) text h.spelled) g.spelled in
    ap (λ (i : ℕ). line_made i l.text l.tokens l.misspelling) (h.number ∙ sym g.number) ∙ ap (λ (t : List ℕ). line_made k.number t l.tokens l.misspelling) text
    ∙ ap (λ (ts : List Token). line_made k.number k.text ts l.misspelling) one.0 ∙ ap (λ (m : Option Misspelling). line_made k.number k.text k.tokens m) one.1

pub lines_are_one : (n : ℕ) (split : List (List ℕ)) (lines more : List LineView) → AreLines n split lines → AreLines n split more → lines ≡ more
lines_are_one n [] lines more h g = h ∙ sym g
lines_are_one n (bytes ∷ split) lines more (inl h) (inl g) = lines_are_one (n + 1) split lines more h.1 g.1
lines_are_one n (bytes ∷ split) lines more (inl h) (inr g) = absurd (blank_or_filled n bytes g.0 h.0 g.3 g.4)
lines_are_one n (bytes ∷ split) lines more (inr h) (inl g) = absurd (blank_or_filled n bytes h.0 g.0 h.3 h.4)
lines_are_one n (bytes ∷ split) lines more (inr h) (inr g) =
    h.2 ∙ ap (λ (l : LineView). l ∷ h.1) (line_is_one n bytes h.0 g.0 h.3 g.3)
    ∙ ap (λ (ls : List LineView). g.0 ∷ ls) (lines_are_one (n + 1) split h.1 g.1 h.5 g.5) ∙ sym g.2

-- ---- there is one

abbrev LinesFrom : ℕ → List (List ℕ) → Type 0
LinesFrom n split = (lines : List LineView) × AreLines n split lines

line_there : (n : ℕ) (bytes : List ℕ) (more : List (List ℕ)) (ts : List Token) (m : Option Misspelling)
    → SpellsUntil 0 (plain_text bytes) ts m → LinesFrom (n + 1) more → LinesFrom n (bytes ∷ more)
line_there n bytes more [] None h rest = (rest.0, inl (h, rest.1))
line_there n bytes more [] (Some m) h rest =
    let l : LineView = record { number = n; text = plain_text bytes; tokens = []; misspelling = Some m } in
    (l ∷ rest.0, inr (l, rest.0, refl, record { number = refl; text = refl; spelled = h }, tt, rest.1))
line_there n bytes more (t ∷ ts) m h rest =
    let l : LineView = record { number = n; text = plain_text bytes; tokens = t ∷ ts; misspelling = m } in
    (l ∷ rest.0, inr (l, rest.0, refl, record { number = refl; text = refl; spelled = h }, tt, rest.1))

-- each list of bytes has its lines
pub lines_there : (n : ℕ) (split : List (List ℕ)) → (lines : List LineView) × AreLines n split lines
lines_there n [] = (end_line n ∷ [], refl)
lines_there n (bytes ∷ more) = let x = tokens_there (plain_text bytes) in line_there n bytes more x.0 x.1 x.2 (lines_there (n + 1) more)
