-- What a form reads of a line's letters it reads of them with the letters of further lines after them.
use Rattle.std.specs.Prelude.{slice_get}
use Rattle.std.proofs.Common.{◌≡◌, ℕ, Bool, List, [], ◌∷◌, ◌++◌, Ok, Err, refl, ap, ◌∙◌, subst, append_assoc}
use Rattle.it_forms.specs.declared.types.Code.TheVariants as codes
use Rattle.it_forms.specs.Letters.{Letter, Word, Number, Sym, End, Bad}
use Rattle.it_forms.specs.Reads.{Reads, ◌>>=◌}
use Rattle.it_forms.specs.Forms.{Form, Spells}
use Rattle.it_forms.specs.FormReading.{read}
use Rattle.it_forms.specs.Words.{line_end, to_end, flagged, but}
use Rattle.it_forms.proofs.FormFound.{reading_tells}
use Rattle.it_forms.proofs.FormTraces.{Went, Stuck, By}
use Rattle.it_forms.proofs.Outlines.{Outline, Has}
use Rattle.it_syntax.specs.declared.types.Token.{Token}
use Rattle.it_syntax.specs.declared.rest.Stop.{Stop}
use Rattle.it_syntax.specs.declared.rest.Stop.TheVariants as stops
use Rattle.it_syntax.specs.Gives.{StopsAs}
use Rattle.it_syntax.specs.LineForms.{variable, names, atom, term, terms, sum, relation, given}
use Rattle.it_syntax.specs.NamesViews.{NamesView}
use Rattle.it_syntax.specs.GivenLines.{given_line}
use Rattle.it_syntax.specs.RelationLines.{relation_line}
use Rattle.it_syntax.specs.Scopes.{Environment}
use Rattle.it_syntax.specs.Spans.{letters_until}

abbrev pub HasLetters : List Letter → Type 0
HasLetters [] = ⊥
HasLetters (l ∷ ls) = Unit {0}

-- a line has letters left, up to its end
pub line_has : (line : List ℕ) (ts : List Token) (last : Letter) → HasLetters (letters_until line ts last)
line_has line [] last = tt
line_has line (t ∷ ts) last = tt

head_same : (r more : List Letter) → HasLetters r → slice_get (r ++ more) 0 ≡ slice_get r 0
head_same [] more h = absurd h
head_same (l ∷ r) more h = refl

append_to_rest : (prefix r more : List Letter) (ls : List Letter) → ls ≡ prefix ++ r → ls ++ more ≡ prefix ++ (r ++ more)
append_to_rest prefix r more ls e = ap (λ (t : List Letter). t ++ more) e ∙ append_assoc prefix r more

module _ {A : Type 0} (f : Form A) (o : Outline) (h : Has f o) where
  -- a value
  pub part_ok : (ls r more : List Letter) (x : A) → read f ls ≡ Ok (x, r) → HasLetters r → read f (ls ++ more) ≡ Ok (x, r ++ more)
  part_ok ls r more x e some =
      let w : Went (read f) (Spells f) ls x r = subst (λ (t : Reads A). By (read f) (Spells f) ls t) e (reading_tells f o h ls) in
      ap (read f) (append_to_rest w.prefix r more ls w.parts) ∙ w.stays (r ++ more) (head_same r more some)

  -- a fault
  pub part_stops : (e : Stop) (ls r more : List Letter) → StopsAs e r (read f ls) → HasLetters r → StopsAs e (r ++ more) (read f (ls ++ more))
  part_stops stops.Memory ls r more e some = tt
  part_stops (stops.Fault c) ls r more e some =
      let w : Stuck (read f) (Spells f) ls c r = subst (λ (t : Reads A). By (read f) (Spells f) ls t) e (reading_tells f o h ls) in
      ap (read f) (append_to_rest w.prefix r more ls w.parts) ∙ w.stays (r ++ more) (head_same r more some)

-- ---- up to the line's end

left_after : {A : Type 0} → Reads A → List Letter
left_after (Ok x) = x.1
left_after (Err e) = e.1

value_or : {A : Type 0} → A → Reads A → A
value_or d (Ok x) = x.0
value_or d (Err e) = d

abbrev then_end : {A : Type 0} → Reads A → Reads A
then_end t = t >>= λ y. read line_end y.1 >>= λ e. Ok (y.0, e.1)

at_end : {A : Type 0} (r : List Letter) (y x : A) → then_end (Ok (y, r)) ≡ Ok (x, []) → (r ≡ End ∷ []) × (y ≡ x)
unfolding read left_after value_or
at_end [] y x h = absurd cc
at_end (Word w ∷ ls) y x h = absurd cc
at_end (Number n ∷ ls) y x h = absurd cc
at_end (Sym s ∷ ls) y x h = absurd cc
at_end (Bad c ∷ ls) y x h = absurd cc
at_end {A} (End ∷ ls) y x h = (ap (λ (t : List Letter). End ∷ t) (ap left_after h), ap (value_or y) h)

-- a value, and then the line's end
pub whole_ok : {A : Type 0} (f : Form A) (o : Outline) → Has f o → (ls more : List Letter) (x : A) → read (to_end f) ls ≡ Ok (x, [])
    → read (to_end f) (ls ++ more) ≡ Ok (x, more)
unfolding read
whole_ok {A} f o h ls more x e = by_result (read f ls) refl e
  where
    by_result : (t : Reads A) → read f ls ≡ t → then_end t ≡ Ok (x, []) → then_end (read f (ls ++ more)) ≡ Ok (x, more)
    by_result (Err g) is k = absurd cc
    by_result (Ok y) is k =
        let ends = at_end y.1 y.0 x k in
        let here : read f ls ≡ Ok (x, End ∷ []) = is ∙ ap (λ (p : A × List Letter). Ok p)
        (ap (λ (r : List Letter). (y.0, r)) ends.0 ∙ ap (λ (z : A). (z, End ∷ [])) ends.1) in
        ap (λ (t : Reads A). then_end t) (part_ok f o h ls (End ∷ []) more x here tt)

-- ---- where nothing is left

pub no_relation : (v : NamesView) (rates : Bool) → read (relation_line v rates) [] ≡ Err (codes.Word, [])
unfolding read relation sum terms flagged term atom
no_relation v rates = refl

pub no_given : (v : NamesView) → read (given_line v) [] ≡ Err (codes.Word, [])
unfolding read given but relation sum terms flagged term atom
no_given v = refl

pub no_list : (env : Environment) → read (names env) [] ≡ Err (codes.Word, [])
unfolding read names variable
no_list env = refl
