-- Blanks at the ends of a line.
use Rattle.std.proofs.Common.{◌≡◌, ℕ, ◌==◌, Bool, true, false, cond, List, [], ◌∷◌, ◌++◌, sym, ap, ◌∙◌, arith}
use Rattle.std.proofs.lemmas.Bool.Decides.{nat_tests}
use Rattle.it_question.specs.LineTexts.{unless_blank, without_trailing}

after_blank : (line : List ℕ) (b : ℕ) → (b == 32) ≡ true → without_trailing (line ++ b ∷ []) ≡ without_trailing line
after_blank [] b e = ap (λ (t : Bool). cond t [] (b ∷ [])) e
after_blank (c ∷ line) b e = ap (unless_blank c) (after_blank line b e)

ends_without_blank : (line : List ℕ) (b : ℕ) → (b == 32) ≡ false → without_trailing (line ++ b ∷ []) ≡ line ++ b ∷ []
ends_without_blank [] b e = ap (λ (t : Bool). cond t [] (b ∷ [])) e
ends_without_blank (c ∷ []) b e = ap (unless_blank c) (ends_without_blank [] b e)
ends_without_blank (c ∷ d ∷ line) b e = ap (unless_blank c) (ends_without_blank (d ∷ line) b e)

is_blank : (b : ℕ) → b ≡ 32 → (b == 32) ≡ true
is_blank b e = ap (λ (x : ℕ). x == 32) e

no_blank : (b : ℕ) → (b ≡ 32 → ⊥) → (b == 32) ≡ false
no_blank b h = grind (arith, nat_tests)

-- a last byte that is a space, and one that is none
pub last_blank : (line prefix : List ℕ) (b : ℕ) → line ≡ prefix ++ b ∷ [] → b ≡ 32 → without_trailing prefix ≡ without_trailing line
last_blank line prefix b h e = sym (after_blank prefix b (is_blank b e)) ∙ ap without_trailing (sym h)

pub last_kept : (line prefix : List ℕ) (b : ℕ) → line ≡ prefix ++ b ∷ [] → (b ≡ 32 → ⊥) → line ≡ without_trailing line
last_kept line prefix b h e = h ∙ sym (ends_without_blank prefix b (no_blank b e)) ∙ ap without_trailing (sym h)
