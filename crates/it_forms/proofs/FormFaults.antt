-- A form's reading gives what is written, or the first fault.
use Rattle.std.specs.Prelude.{slice_get}
use Rattle.std.proofs.Common.{◌≡◌, List, [], ◌∷◌, ◌++◌, Ok, Err, refl, sym, ap, ◌∙◌, subst, inl, inr, ◌⊎◌}
use Rattle.it_forms.specs.declared.types.Code.{Code}
use Rattle.it_forms.specs.Letters.{Letter, FlaggedLetters, letters, without_flags}
use Rattle.it_forms.specs.FirstFault.{own_code, FlaggedAt}
use Rattle.it_forms.specs.Reads.{Reads}
use Rattle.it_forms.proofs.FirstFaults.{Why, err_is, flag_place}
use Rattle.it_forms.proofs.FlaggedReadings.{Answers}
use Rattle.it_forms.proofs.LetterLemmas.{letters_after, letters_cleaned, clean_is_clean}
use Rattle.it_forms.specs.Forms.{Form, Spells}
use Rattle.it_forms.specs.FormReading.{read}
use Rattle.it_forms.specs.FormTexts.{Says, Written, IsFirstFault}
use Rattle.it_forms.proofs.FormTraces.{Went, Stuck, By}
use Rattle.it_forms.proofs.Outlines.{Outline, Has}
use Rattle.it_forms.proofs.FormFound.{reading_tells}
use Rattle.it_forms.proofs.FormWritten.{written_is_read}

each_flagged : {A : Type 0} (f : Form A) (o : Outline) → Has f o → (prefix : List Letter) (c : Code) (q : List Letter)
    → read f (prefix ++ q) ≡ Err (c, q) → (x : Written f) → letters x.1 ≡ prefix ++ q → FlaggedAt x.1 prefix c
each_flagged {A} f o s prefix c q e x h = by_answer (written_is_read f o s x.0 x.1 [] x.2 tt)
  where
    here : read f (letters x.1) ≡ Err (c, q)
    here = ap (read f) h ∙ e

    by_answer : Answers (read f (letters x.1)) x.1 x.0 [] → FlaggedAt x.1 prefix c
    by_answer (inl a) = let t = here in let u = a.0 in absurd cc
    by_answer (inr b) = flag_place x.1 b.0 prefix q c b.1.1 (err_is {A = A} b.0 (c, q) (sym b.1.0 ∙ here)) h

why_code : {A : Type 0} (f : Form A) (x : Written f) (q : FlaggedLetters) (c : Code) (prefix r : List Letter) → x.1 ≡ without_flags prefix ++ q → Why q c r
    → (own_code r ≡ c) ⊎ ((x : Written f) × (q : List Letter) × ((slice_get q 0 ≡ slice_get r 0) × (letters x.1 ≡ prefix ++ q)))
why_code f x q c prefix r h (inl o) = inl o
why_code f x q c prefix r h (inr w) = inr (
  x,
  letters q,
  (
    ap (λ (ls : List Letter). slice_get ls 0) (ap letters w.2.0)
        ∙ sym w.2.1,
    ap letters h ∙ letters_after prefix q,
  ),
)

-- where the reading stops is the first fault
pub first_fault : {A : Type 0} (f : Form A) (o : Outline) → Has f o → (ls : List Letter) (c : Code) (r : List Letter)
    → read f ls ≡ Err (c, r) → IsFirstFault f ls c r
first_fault {A} f o s ls c r e =
    let w : Stuck (read f) (Spells f) ls c r = subst (λ (t : Reads A). By (read f) (Spells f) ls t) e (reading_tells f o s ls) in
    let q = w.spells [] in
    record {
      prefix = w.prefix;
      parts = w.parts;
      tree = (w.value, without_flags w.prefix ++ q.0, q.1);
      more = q.0;
      viable = refl;
      each = λ x t same h. each_flagged f o s w.prefix c t (w.stays t same) x h;
      code = why_code f (w.value, without_flags w.prefix ++ q.0, q.1) q.0 c w.prefix r refl q.2;
    }

append_none : {X : Type 0} (xs : List X) → xs ++ [] ≡ xs
append_none [] = refl
append_none (x ∷ xs) = ap (λ (t : List _). x ∷ t) (append_none xs)

-- what is read is written
pub read_is_said : {A : Type 0} (f : Form A) (o : Outline) → Has f o → (ls : List Letter) (y : A) → read f ls ≡ Ok (y, []) → Says f ls y
read_is_said {A} f o s ls y e =
    let w : Went (read f) (Spells f) ls y [] = subst (λ (t : Reads A). By (read f) (Spells f) ls t) e (reading_tells f o s ls) in
    subst (λ (m : FlaggedLetters). Spells f y m []) (append_none (without_flags w.prefix) ∙ ap without_flags (sym (append_none w.prefix))
    ∙ ap without_flags (sym w.parts)) (w.spells [])

-- what is written is read
pub said_is_read : {A : Type 0} (f : Form A) (o : Outline) → Has f o → (ls : List Letter) (y : A) → Says f ls y → read f ls ≡ Ok (y, [])
said_is_read {A} f o s ls y e = by_answer (written_is_read f o s y (without_flags ls) [] e tt)
  where
    by_answer : Answers (read f (letters (without_flags ls))) (without_flags ls) y [] → read f ls ≡ Ok (y, [])
    by_answer (inl a) = sym (ap (read f) (letters_cleaned ls)) ∙ a.0
    by_answer (inr b) = absurd (clean_is_clean ls b.1.1.prefix b.0.0 (b.1.1.letter, b.1.1.rest, b.1.1.is))
