-- Lines whose texts are moved out, one after the other.
use Rattle.std.proofs.Common.{◌≡◌, ℕ, ◌+◌, ◌-◌, ◌<◌, suc, List, [], ◌∷◌, ◌++◌, map, take, drop, sym, ap, ◌∙◌, arith, append_assoc}
use Rattle.std.proofs.lemmas.List.{map-append}
use Rattle.std.specs.Global.{Vec}
use Rattle.it_question.specs.declared.cursor.Line.{Line}
use Rattle.it_question.specs.Cursors.{line_view}
use Rattle.it_question.proofs.LineParts.{texts_of}

-- of the texts of the first n of these lines the first i are moved out, and the rest of the lines is left
pub record AreMoved (n i : ℕ) (lines rest : List Line) (moved : List (List ℕ)) : Type 0 where
  pub texts : moved ++ texts_of (take (n - i) (map line_view rest)) ≡ texts_of (take n (map line_view lines))
  pub after : drop (n - i) rest ≡ drop n lines

pub one_moved : (n i : ℕ) (lines rest left : List Line) (x : Line) (old new : List (Vec ℕ)) (text : Vec ℕ)
    → AreMoved n i lines rest (map (λ v. v.items) old) → i < n → rest ≡ x ∷ left → text.items ≡ x.text.items → new ≡ old ++ text ∷ []
    → AreMoved n (i + 1) lines left (map (λ v. v.items) new)
one_moved n i lines rest left x old new text h less e is pushed =
    let k = n - (i + 1) in
    let count : suc k ≡ n - i = omega (arith, less) in
    let moved = map (λ (v : Vec ℕ). v.items) old in
    record {
      texts = ap (λ (vs : List (Vec ℕ)). map (λ (v : Vec ℕ). v.items) vs ++ texts_of (take k (map line_view left))) pushed
          ∙ ap (λ (ts : List (List ℕ)). ts ++ texts_of (take k (map line_view left))) (map-append (λ (v : Vec ℕ). v.items) old (text ∷ []))
          ∙ append_assoc moved (text.items ∷ []) (texts_of (take k (map line_view left)))
          ∙ ap (λ (t : List ℕ). moved ++ t ∷ texts_of (take k (map line_view left))) is
          ∙ ap (λ (ls : List Line). moved ++ texts_of (take (suc k) (map line_view ls))) (sym e)
          ∙ ap (λ (j : ℕ). moved ++ texts_of (take j (map line_view rest))) count ∙ h.texts;
      after = ap (λ (ls : List Line). drop (suc k) ls) (sym e) ∙ ap (λ (j : ℕ). drop j rest) count ∙ h.after;
    }
