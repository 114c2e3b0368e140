-- How many lines a question has.
use Rattle.std.specs.Prelude.{min}
use Rattle.std.proofs.Common.{◌≡◌, ℕ, ◌+◌, ◌≤◌, List, [], ◌∷◌, ◌++◌, length, map, take, drop, All, sym, ap, ap₂, ◌∙◌, subst, arith, append_assoc}
use Rattle.std.proofs.lemmas.List.Elements.{All-head, All-tail}
use Rattle.std.proofs.lemmas.List.{length-map, map-append, drop-map}
use Rattle.it_syntax.specs.Meaning.{relation_view}
use Rattle.it_syntax.specs.Givens.{given_view}
use Rattle.it_question.specs.OwnLines.{RegionView}
use Rattle.it_question.specs.Questions.{BodyView, QuestionView}
use Rattle.it_question.specs.declared.bodies.Body.{Body}
use Rattle.it_question.specs.declared.cursor.Line.{Line}
use Rattle.it_question.specs.Bodies.{body_view}
use Rattle.it_question.specs.Cursors.{line_view}
use Rattle.it_question.specs.Lines.{LineView}
use Rattle.it_question.specs.ReaderSteps.{FewLines}
use Rattle.it_question.specs.LineTexts.{text_of_lines}
use Rattle.it_question.specs.Texts.{region_line_count, question_line_count, with_texts}
use Rattle.it_question.proofs.LineParts.{texts_of}

abbrev question_with : BodyView → List ℕ → QuestionView
question_with p text = record { body = p; text = text }

pub few_givens : (r : RegionView) → FewLines r.lines → length r.lines.givens ≤ 64
few_givens r h = h.0

pub few_rows : (r : RegionView) → FewLines r.lines → length r.lines.rows ≤ 64
few_rows r h = h.1

pub region_lines_are : (r : RegionView) → region_line_count r ≡ 1 + min 1 r.auxiliaries + (length r.lines.givens + length r.lines.rows)
region_lines_are r = omega arith

-- ---- questions with their texts, one after the other

pub next_is : {X : Type 0} (P : X → Type 0) (xs ys : List X) (x : X) → All P xs → xs ≡ x ∷ ys → P x
next_is P xs ys x h e = All-head P x ys (subst (All P) e h)

pub others_are : {X : Type 0} (P : X → Type 0) (xs ys : List X) (x : X) → All P xs → xs ≡ x ∷ ys → All P ys
others_are P xs ys x h e = All-tail P x ys (subst (All P) e h)

pub texts_step : (old new : List QuestionView) (q : QuestionView) (rest after : List Line) (texts : List (List ℕ)) (xs ys : List Body) (x : Body)
    (n : ℕ) (whole : List QuestionView)
    → old ++ with_texts (map line_view rest) (map body_view xs) ≡ whole → xs ≡ x ∷ ys → new ≡ old ++ q ∷ []
    → n ≡ question_line_count (body_view x) → texts ≡ texts_of (take n (map line_view rest)) → after ≡ drop n rest
    → q ≡ question_with (body_view x) (text_of_lines texts) → new ++ with_texts (map line_view after) (map body_view ys) ≡ whole
texts_step old new q rest after texts xs ys x n whole h e pushed count own left is =
    let m = question_line_count (body_view x) in
    let lines = map line_view rest in
    let head : q ≡ question_with (body_view x) (text_of_lines (texts_of (take m lines))) = is
    ∙ ap (λ (ts : List (List ℕ)). question_with (body_view x) (text_of_lines ts)) (own ∙ ap (λ (k : ℕ). texts_of (take k lines)) count)
    in
    let after_lines : map line_view after ≡ drop m lines = ap (map line_view) (left ∙ ap (λ (k : ℕ). drop k rest) count) ∙ sym (drop-map line_view m rest) in
    ap (λ (qs : List QuestionView). qs ++ with_texts (map line_view after) (map body_view ys)) pushed
    ∙ append_assoc old (q ∷ []) (with_texts (map line_view after) (map body_view ys))
    ∙ ap₂ (λ (a : QuestionView) (ls : List LineView). old ++ a ∷ with_texts ls (map body_view ys)) head after_lines
    ∙ ap (λ (bs : List Body). old ++ with_texts lines (map body_view bs)) (sym e) ∙ h
