-- A file says one thing in a form or has one first fault, if the next letter decides what goes on, and if whole lines and the file's end
-- are written; how the file's letters are read tells which.
use Rattle.std.specs.Prelude.{None, flat_map}
use Rattle.std.proofs.Common.{◌≡◌, ℕ, zero, suc, ◌-◌, ◌<◌, ◌≤◌, ◌^◌, List, [], ◌∷◌, ◌++◌, length, get_or, Some, Ok, Err, refl, sym, ap, ◌∙◌, subst, inl, inr, ◌⊎◌, append_assoc, length-append, arith}
use Rattle.std.proofs.lemmas.List.{append-nil}
use Rattle.std.proofs.lemmas.Option.{slice_get-get_or}
use Rattle.it_forms.specs.declared.types.Code.{Code}
use Rattle.it_forms.specs.Letters.{Letter, End, Bad, FlaggedLetters, letters, without_flags}
use Rattle.it_forms.specs.FirstFault.{FirstFault, FlaggedAt}
use Rattle.it_forms.specs.Forms.{Form, Spells}
use Rattle.it_forms.specs.FormReading.{read}
use Rattle.it_forms.specs.FormTexts.{Says, IsFirstFault}
use Rattle.it_forms.specs.Reads.{Reads}
use Rattle.it_forms.proofs.FirstFaults.{one_fault}
use Rattle.it_forms.proofs.FormFaults.{first_fault, read_is_said, said_is_read}
use Rattle.it_forms.proofs.FormFound.{reading_tells}
use Rattle.it_forms.proofs.FormLanguage.{one_meaning}
use Rattle.it_forms.proofs.FormTraces.{Went, By}
use Rattle.it_forms.proofs.LetterLemmas.{letters_append, letters_after, clean_is_clean, letters_cleaned}
use Rattle.it_forms.proofs.Outlines.{Outline, Has}
use Rattle.it_syntax.specs.declared.rest.Stop.{Stop}
use Rattle.it_syntax.specs.declared.rest.Stop.TheVariants as stops
use Rattle.it_syntax.specs.Gives.{StopsAs}
use Rattle.it_question.specs.declared.types.FileFault.{FileFault}
use Rattle.it_question.specs.declared.types.FileFault.TheVariants.{Memory, Fault}
use Rattle.it_question.specs.Lines.{LineView, AreLinesOf, split_lines, file_end, letters_of_lines, line_places}
use Rattle.it_question.specs.Stops.{IsLeft, IfFault, IsStopAt}
use Rattle.it_question.specs.WholeFiles.{SaysWhole, place_of, WholeFaultAt}
use Rattle.it_question.specs.WholeForms.{SaysInForm, FormFaultAt, IsFirstFormFault}
use Rattle.it_question.proofs.LetterLemmas.{EndsOnce, once_more, once_alone, lines_once, lines_end, letters_bound, places_length}
use Rattle.it_question.proofs.LineListLemmas.{lines_are_one, lines_there}
use Rattle.it_question.proofs.Puts.{HasLines, Puts}

-- ---- what is written in the form is whole lines and the file's end

-- the file's end, as the last letter
abbrev pub the_end : FlaggedLetters
the_end = (file_end, None) ∷ []

abbrev pub EndsFile : {A : Type 0} → Form A → Type 0
EndsFile {A} f = (y : A) (m : FlaggedLetters) → Spells f y m [] → (n : ℕ) × Puts (HasLines n) m the_end

lines_then_end : (n : ℕ) (ls : List Letter) → HasLines n ls → EndsOnce (ls ++ file_end ∷ [])
lines_then_end zero [] h = once_alone
lines_then_end zero (l ∷ ls) h = absurd h
lines_then_end (suc n) [] h = absurd h
lines_then_end (suc n) (End ∷ ls) h = once_more End (ls ++ file_end ∷ []) (λ e. absurd cc) (lines_then_end n ls h)
lines_then_end (suc n) (Bad c ∷ ls) h = absurd h
lines_then_end (suc n) (l ∷ ls) h = once_more l (ls ++ file_end ∷ []) (λ e. absurd cc) (lines_then_end (suc n) ls h)

no_letters : (m : FlaggedLetters) → letters m ≡ [] → m ≡ []
no_letters [] e = refl
no_letters (x ∷ m) e = absurd cc

-- ---- what a file says, by the letters of its lines

-- what the file says its letters say
pub said : {A Y : Type 0} (f : Form A) (value : List LineView → A → Y) (bytes : List ℕ) (y : Y) (s : SaysInForm f value bytes y)
    → Says f (letters_of_lines s.lines) s.tree.0
said f value bytes y s = subst (λ (m : FlaggedLetters). Spells f s.tree.0 m []) s.spelled s.tree.2

-- and the other way
pub says_file : {A Y : Type 0} (f : Form A) (value : List LineView → A → Y) (bytes : List ℕ) (lines : List LineView) (a : A)
    → AreLinesOf bytes lines → Says f (letters_of_lines lines) a → SaysInForm f value bytes (value lines a)
says_file f value bytes lines a cut s = record { lines = lines; cut = cut; tree = (a, without_flags (letters_of_lines lines), s); spelled = refl; says = refl }

-- ---- the next letter tells what goes on

module _ {A : Type 0} (f : Form A) (o : Outline) (h : Has f o) where
  -- what the file says is read
  pub asked_is_read : {Y : Type 0} (value : List LineView → A → Y) (bytes : List ℕ) (y : Y) (s : SaysInForm f value bytes y)
      → read f (letters_of_lines s.lines) ≡ Ok (s.tree.0, [])
  asked_is_read value bytes y s = said_is_read f o h (letters_of_lines s.lines) s.tree.0 (said f value bytes y s)

  -- a file says one thing
  pub form_is_one : {Y : Type 0} (value : List LineView → A → Y) (bytes : List ℕ) (x y : Y) → SaysInForm f value bytes x → SaysInForm f value bytes y → x ≡ y
  form_is_one value bytes x y s t =
      let lines : s.lines ≡ t.lines = lines_are_one 1 (split_lines bytes) s.lines t.lines s.cut t.cut in
      let first : Says f (letters_of_lines t.lines) s.tree.0 = subst (λ (ls : List LineView). Says f (letters_of_lines ls) s.tree.0) lines
      (said f value bytes x s) in
      let same : s.tree.0 ≡ t.tree.0 = one_meaning f o h (letters_of_lines t.lines) s.tree.0 t.tree.0 first (said f value bytes y t) in
      sym s.says ∙ ap (λ (ls : List LineView). value ls s.tree.0) lines ∙ ap (value t.lines) same ∙ t.says

module _ {A : Type 0} (f : Form A) (o : Outline) (h : Has f o) (ends : EndsFile f) where
  -- nothing is left of the letters of a file that is read
  nothing_left : (bytes : List ℕ) (lines : List LineView) (y : A) (r : List Letter) → AreLinesOf bytes lines
      → read f (letters_of_lines lines) ≡ Ok (y, r) → r ≡ []
  nothing_left bytes lines y r cut e =
      let ls = letters_of_lines lines in
      let w : Went (read f) (Spells f) ls y r = subst (λ (t : Reads A). By (read f) (Spells f) ls t) e (reading_tells f o h ls) in
      let p = (ends y (without_flags w.prefix ++ []) (w.spells [])).1 in
      let prefix : w.prefix ≡ letters p.prefix ++ file_end ∷ [] = sym (append-nil w.prefix) ∙ sym (letters_after w.prefix [])
      ∙ ap letters p.is ∙ letters_append p.prefix the_end in
      lines_once 1 (split_lines bytes) lines cut (letters p.prefix) r (w.parts ∙ ap (λ (t : List Letter). t ++ r) prefix
      ∙ append_assoc (letters p.prefix) (file_end ∷ []) r)

  -- a fault leaves letters
  letters_left : (bytes : List ℕ) (lines : List LineView) (c : Code) → AreLinesOf bytes lines → read f (letters_of_lines lines) ≡ Err (c, []) → ⊥
  letters_left bytes lines c cut e =
      let ls = letters_of_lines lines in
      let w : IsFirstFault f ls c [] = first_fault f o h ls c [] e in
      let end = lines_end 1 (split_lines bytes) lines cut in
      let q = ends w.tree.0 w.tree.1 w.tree.2 in
      let prefix : w.prefix ≡ end.0 ++ file_end ∷ [] = sym (append-nil w.prefix) ∙ sym w.parts ∙ end.1 in
      let spelled : letters q.1.prefix ++ file_end ∷ [] ≡ end.0 ++ file_end ∷ letters w.more =
      sym (letters_append q.1.prefix the_end) ∙ ap letters (sym q.1.is ∙ w.viable) ∙ letters_after w.prefix w.more
      ∙ ap (λ (t : List Letter). t ++ letters w.more) prefix ∙ append_assoc end.0 (file_end ∷ []) (letters w.more) in
      let none : w.more ≡ [] = no_letters w.more (lines_then_end q.0 (letters q.1.prefix) q.1.kind end.0 (letters w.more) spelled) in
      let whole : w.tree.1 ≡ without_flags ls = w.viable ∙ ap (λ (m : FlaggedLetters). without_flags w.prefix ++ m) none
      ∙ append-nil (without_flags w.prefix) ∙ ap without_flags (sym (append-nil w.prefix) ∙ sym w.parts) in
      let read : read f ls ≡ Ok (w.tree.0, []) = said_is_read f o h ls w.tree.0 (subst (λ (m : FlaggedLetters). Spells f w.tree.0 m []) whole w.tree.2) in
      absurd cc

  -- ---- what the code hands on at a fault

  pub some_left : (bytes : List ℕ) (lines : List LineView) (stop : Stop) (r : List Letter) → AreLinesOf bytes lines
      → StopsAs stop r (read f (letters_of_lines lines)) → IfFault stop (IsLeft lines r)
  some_left bytes lines stops.Memory r cut e = tt
  some_left bytes lines (stops.Fault c) [] cut e = absurd (letters_left bytes lines c cut e)
  some_left bytes lines (stops.Fault c) (l ∷ r) cut e =
      let w = first_fault f o h (letters_of_lines lines) c (l ∷ r) e in
      record {
        within = omega (arith, ap length w.parts, length-append w.prefix (l ∷ r));
        some
            = omega (arith, places_length lines, ap length w.parts, length-append w.prefix (l ∷ r));
      }

  pub first_form_fault : (bytes : List ℕ) (lines : List LineView) (stop : Stop) (r : List Letter) (fault : FileFault)
      → AreLinesOf bytes lines → StopsAs stop r (read f (letters_of_lines lines)) → IsStopAt (place_of lines r) stop fault
      → IsFirstFormFault f bytes fault
  first_form_fault bytes lines stops.Memory r fault cut e at = subst (IsFirstFormFault f bytes) (sym at) tt
  first_form_fault bytes lines (stops.Fault c) r Memory cut e at = absurd at
  first_form_fault bytes lines (stops.Fault c) r (Fault line column code) cut e at =
      record {
        lines = lines;
        cut = cut;
        left = r;
        first = subst (λ (d : Code). IsFirstFault f (letters_of_lines lines) d r) (sym at.0)
            (first_fault f o h (letters_of_lines lines) c r e);
        place = at.1;
      }

  fault_there : (bytes : List ℕ) (lines : List LineView) (c : Code) (r : List Letter) → AreLinesOf bytes lines
      → read f (letters_of_lines lines) ≡ Err (c, r) → (line : ℕ) × (column : ℕ) × (d : Code) × FormFaultAt f bytes line column d
  fault_there bytes lines c [] cut e = absurd (letters_left bytes lines c cut e)
  fault_there bytes lines c (l ∷ r) cut e =
      let w = first_fault f o h (letters_of_lines lines) c (l ∷ r) e in
      let i = length (letters_of_lines lines) - length (l ∷ r) in
      let within : i < length (flat_map line_places lines) = omega (arith, places_length lines, ap length w.parts, length-append w.prefix (l ∷ r)) in
      let place : ℕ × ℕ = get_or (flat_map line_places lines) i (0, 0) in
      (place.0, place.1, c, record { lines = lines; cut = cut; left = l ∷ r; first = w; place = slice_get-get_or (flat_map line_places lines) i (0, 0) within })

  -- ---- one reading, and one of the two; `value` tells what is made of what the form says in these lines

  -- what is read is what the file says
  pub read_says : {Y : Type 0} (value : List LineView → A → Y) (bytes : List ℕ) (lines : List LineView) (y : A) (r : List Letter)
      → AreLinesOf bytes lines → read f (letters_of_lines lines) ≡ Ok (y, r) → SaysInForm f value bytes (value lines y)
  read_says value bytes lines y r cut e =
      let whole : read f (letters_of_lines lines) ≡ Ok (y, []) = e ∙ ap (λ (s : List Letter). Ok (y, s)) (nothing_left bytes lines y r cut e) in
      says_file f value bytes lines y cut (read_is_said f o h (letters_of_lines lines) y whole)

  pub form_has_one : {Y : Type 0} (value : List LineView → A → Y) (bytes : List ℕ)
      → ((y : Y) × SaysInForm f value bytes y) ⊎ ((line : ℕ) × (column : ℕ) × (c : Code) × FormFaultAt f bytes line column c)
  form_has_one {Y} value bytes = by_result (lines_there 1 (split_lines bytes)) (read f (letters_of_lines (lines_there 1 (split_lines bytes)).0)) refl
    where
      by_result : (cut : (lines : List LineView) × AreLinesOf bytes lines) (r : Reads A) → read f (letters_of_lines cut.0) ≡ r
          → ((y : Y) × SaysInForm f value bytes y) ⊎ ((line : ℕ) × (column : ℕ) × (c : Code) × FormFaultAt f bytes line column c)
      by_result cut (Ok x) e = inl (value cut.0 x.0, read_says value bytes cut.0 x.0 x.1 cut.1 e)
      by_result cut (Err x) e = inr (fault_there bytes cut.0 x.0 x.1 cut.1 e)

-- ---- one fault, and not both: how the trees are spelled is enough

pub whole_fault_is_one : {X : Type 0} (spell : X → FlaggedLetters) (bytes : List ℕ) (line column row place : ℕ) (c d : Code)
    → WholeFaultAt spell bytes line column c → WholeFaultAt spell bytes row place d → (line ≡ row) × (column ≡ place) × (c ≡ d)
whole_fault_is_one spell bytes line column row place c d f g =
    let lines : f.lines ≡ g.lines = lines_are_one 1 (split_lines bytes) f.lines g.lines f.cut g.cut in
    let first : FirstFault spell (letters_of_lines g.lines) c f.left = subst
    (λ (ls : List LineView). FirstFault spell (letters_of_lines ls) c f.left) lines f.first in
    let one = one_fault spell (letters_of_lines g.lines) c d f.left g.left first g.first in
    let places : Some (line, column) ≡ Some (row, place) = sym f.place ∙ ap (λ (ls : List LineView). place_of ls f.left) lines
    ∙ ap (place_of g.lines) one.1 ∙ g.place in
    let pair : (line, column) ≡ (row, place) = cc in
    (ap (λ (p : ℕ × ℕ). p.0) pair, ap (λ (p : ℕ × ℕ). p.1) pair, one.0)

pub whole_or_fault : {X Y : Type 0} (spell : X → FlaggedLetters) (value : List LineView → X → Y) (bytes : List ℕ) (y : Y) (line column : ℕ)
    (c : Code) → SaysWhole spell value bytes y → WholeFaultAt spell bytes line column c → ⊥
whole_or_fault spell value bytes y line column c f g =
    let lines : f.lines ≡ g.lines = lines_are_one 1 (split_lines bytes) f.lines g.lines f.cut g.cut in
    let ls = letters_of_lines g.lines in
    let spelled : spell f.tree ≡ without_flags ls = f.spelled ∙ ap (λ (ls : List LineView). without_flags (letters_of_lines ls)) lines in
    clean_is_clean ls g.first.prefix c (subst (λ (m : FlaggedLetters). FlaggedAt m g.first.prefix c) spelled
    (g.first.each f.tree g.left refl (ap letters spelled ∙ letters_cleaned ls ∙ g.first.parts)))

-- ---- a file of at most 1,048,577 bytes has few letters

pub few_letters : (bytes : List ℕ) (lines : List LineView) → AreLinesOf bytes lines → length bytes ≤ 1048577 → length (letters_of_lines lines) ≤ 2 ^ 32
few_letters bytes lines cut few = omega (arith, letters_bound bytes lines cut, few)
