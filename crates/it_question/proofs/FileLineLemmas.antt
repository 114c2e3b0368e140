-- The lines of a file, one after the other.
use Rattle.std.proofs.Common.{◌≡◌, ℕ, suc, ◌+◌, ◌≤◌, ◌==◌, Bool, true, false, cond, List, [], ◌∷◌, ◌++◌, length, refl, sym, ap, ◌∙◌, subst, inl, inr, append_assoc, arith}
use Rattle.std.proofs.lemmas.List.{length-map}
use Rattle.it_question.specs.Lines.{LineView, AreLines, without_return, before_comment, without_tab, plain_text}
use Rattle.it_question.specs.ReaderSteps.{IsLineAdded}

pub return_shorter : (line : List ℕ) → length (without_return line) ≤ length line
return_shorter [] = omega arith
return_shorter (b ∷ []) = by_test (b == 13)
  where
    by_test : (t : Bool) → length (cond t [] (b ∷ [])) ≤ 1
    by_test true = omega arith
    by_test false = omega arith
return_shorter (b ∷ c ∷ line) = omega (arith, return_shorter (c ∷ line))

pub comment_shorter : (line : List ℕ) → length (before_comment line) ≤ length line
comment_shorter [] = omega arith
comment_shorter (b ∷ line) = by_test (b == 35) (comment_shorter line)
  where
    by_test : (t : Bool) → length (before_comment line) ≤ length line → length (cond t [] (b ∷ before_comment line)) ≤ suc (length line)
    by_test true h = omega arith
    by_test false h = omega (arith, h)

-- what is read of a line is no longer
pub plain_shorter : (line : List ℕ) → length (plain_text line) ≤ length line
plain_shorter line = omega (arith, length-map (before_comment (without_return line)) without_tab, comment_shorter (without_return line), return_shorter line)

-- lines so far, and each reading of the lines after them
abbrev pub GoOn : ℕ → List (List ℕ) → List (List ℕ) → List LineView → Type 0
GoOn n whole more old = (rest : List LineView) → AreLines n more rest → AreLines 1 whole (old ++ rest)

pub goes_on : (n : ℕ) (whole more : List (List ℕ)) (bytes : List ℕ) (old new : List LineView) → GoOn n whole (bytes ∷ more) old
    → IsLineAdded n bytes old new → GoOn (n + 1) whole more new
goes_on n whole more bytes old new h (inl a) rest r = subst (λ (t : List LineView). AreLines 1 whole (t ++ rest)) (sym a.1) (h rest (inl (a.0, r)))
goes_on n whole more bytes old new h (inr a) rest r =
    let e : new ++ rest ≡ old ++ a.0 ∷ rest = ap (λ (t : List LineView). t ++ rest) a.1 ∙ append_assoc old (a.0 ∷ []) rest in
    subst (AreLines 1 whole) (sym e) (h (a.0 ∷ rest) (inr (a.0, rest, refl, a.2, a.3, r)))
