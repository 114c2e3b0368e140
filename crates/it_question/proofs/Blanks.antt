-- Blanks at the ends of a line: what is trimmed has none, and nothing else is taken from what is spelled.
use Rattle.std.proofs.Common.{◌≡◌, ℕ, ◌==◌, Bool, true, false, cond, List, [], ◌∷◌, ◌++◌, refl, sym, ap, ◌∙◌}
use Rattle.it_syntax.specs.Spelling.{AreAll, Stops, is_space}
use Rattle.it_question.specs.LineTexts.{without_leading, unless_blank, without_trailing}

-- ---- in front

pub leading_kept : (line : List ℕ) → Stops is_space line → without_leading line ≡ line
leading_kept [] s = refl
leading_kept (b ∷ line) s = ap (λ (t : Bool). cond t (without_leading line) (b ∷ line)) s

pub leading_after : (gap line : List ℕ) → AreAll is_space gap → Stops is_space line → without_leading (gap ++ line) ≡ line
leading_after [] line h s = leading_kept line s
leading_after (b ∷ gap) line h s = ap (λ (t : Bool). cond t (without_leading (gap ++ line)) (b ∷ (gap ++ line))) h.0 ∙ leading_after gap line h.1 s

leading_stops : (line : List ℕ) → Stops is_space (without_leading line)
leading_stops [] = tt
leading_stops (b ∷ line) = by_test (b == 32) refl (leading_stops line)
  where
    by_test : (t : Bool) → (b == 32) ≡ t → Stops is_space (without_leading line) → Stops is_space (cond t (without_leading line) (b ∷ line))
    by_test true e h = h
    by_test false e h = e

-- ---- at the end

blank_tail : (b : ℕ) (f : ℕ → Bool) (line : List ℕ) → f b ≡ false → Stops f (unless_blank b line)
blank_tail b f [] e = by_test (b == 32)
  where
    by_test : (t : Bool) → Stops f (cond t [] (b ∷ []))
    by_test true = tt
    by_test false = e
blank_tail b f (c ∷ line) e = e

-- what stops before a line stops before what is left of it
pub trailing_stops : (f : ℕ → Bool) (line : List ℕ) → Stops f line → Stops f (without_trailing line)
trailing_stops f [] s = tt
trailing_stops f (b ∷ line) s = blank_tail b f (without_trailing line) s

pub trailing_blank : (line : List ℕ) → AreAll is_space line → without_trailing line ≡ []
trailing_blank [] h = refl
trailing_blank (b ∷ line) h = ap (unless_blank b) (trailing_blank line h.1) ∙ ap (λ (t : Bool). cond t [] (b ∷ [])) h.0

-- bytes that are no spaces
abbrev pub AreSolid : List ℕ → Type 0
AreSolid [] = Unit {0}
AreSolid (b ∷ line) = (is_space b ≡ false) × AreSolid line

pub solid_kept : (text rest : List ℕ) → AreSolid text → without_trailing (text ++ rest) ≡ text ++ without_trailing rest
solid_kept [] rest h = refl
solid_kept (b ∷ text) rest h = ap (unless_blank b) (solid_kept text rest h.1) ∙ by_list (text ++ without_trailing rest)
  where
    by_list : (line : List ℕ) → unless_blank b line ≡ b ∷ line
    by_list [] = ap (λ (t : Bool). cond t [] (b ∷ [])) h.0
    by_list (c ∷ line) = refl

pub some_kept : (gap line : List ℕ) (c : ℕ) (more : List ℕ) → without_trailing line ≡ c ∷ more → without_trailing (gap ++ line) ≡ gap ++ without_trailing line
some_kept [] line c more e = refl
some_kept (b ∷ gap) line c more e = ap (unless_blank b) (some_kept gap line c more e) ∙ ap (λ (t : List ℕ). unless_blank b (gap ++ t)) e
    ∙ by_list gap ∙ ap (λ (t : List ℕ). b ∷ (gap ++ t)) (sym e)
  where
    by_list : (gap : List ℕ) → unless_blank b (gap ++ c ∷ more) ≡ b ∷ (gap ++ c ∷ more)
    by_list [] = refl
    by_list (d ∷ gap) = refl

trailing_once : (line : List ℕ) → without_trailing (without_trailing line) ≡ without_trailing line
trailing_once [] = refl
trailing_once (b ∷ line) = by_list (without_trailing line) (trailing_once line)
  where
    by_test : (t : Bool) → (b == 32) ≡ t → without_trailing (cond t [] (b ∷ [])) ≡ cond t [] (b ∷ [])
    by_test true e = refl
    by_test false e = ap (λ (t : Bool). cond t [] (b ∷ [])) e

    by_list : (rest : List ℕ) → without_trailing rest ≡ rest → without_trailing (unless_blank b rest) ≡ unless_blank b rest
    by_list [] e = by_test (b == 32) refl
    by_list (c ∷ rest) e = ap (unless_blank b) e

-- what is trimmed stays so
pub trimmed_once : (line : List ℕ) → without_trailing (without_leading (without_trailing (without_leading line))) ≡ without_trailing (without_leading line)
trimmed_once line = ap without_trailing (leading_kept (without_trailing (without_leading line))
    (trailing_stops is_space (without_leading line) (leading_stops line))) ∙ trailing_once (without_leading line)
