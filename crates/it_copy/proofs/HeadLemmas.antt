-- The head of a file, as it is read.
use Rattle.std.proofs.Common.{◌≡◌, ℕ, zero, suc, ◌+◌, ◌-◌, ◌<◌, ◌≤◌, ◌==◌, Bool, true, false, ◌||◌, cond, List, [], ◌∷◌, ◌++◌, length, drop, Some, None, Ok, Err, refl, sym, ap, ◌∙◌, subst, inl, inr, arith}
use Rattle.std.proofs.lemmas.List.{append-nil, drop-drop, drop_all}
use Rattle.std.specs.Prelude.{codes}
use Rattle.it_forms.specs.FirstFault.{own_code}
use Rattle.it_forms.specs.Forms.{Keyword, FileEnd, Give, Then, Spells}
use Rattle.it_forms.specs.FormReading.{read}
use Rattle.it_forms.specs.Letters.{Letter, letters, without_flags}
use Rattle.it_forms.specs.Reads.{Reads, ◌>>=◌, no_rule}
use Rattle.it_forms.specs.Words.{just, file_end, limit_flag}
use Rattle.it_forms.proofs.FormFound.{reading_tells}
use Rattle.it_forms.proofs.FormTraces.{Went, By, other_is}
use Rattle.it_forms.proofs.FormWritten.{written_is_read}
use Rattle.it_forms.proofs.KindLemmas.{IsFree, apart_among}
use Rattle.it_forms.proofs.LetterLemmas.{letters_append, letters_after, letters_cleaned, cleaned_append, clean_is_clean}
use Rattle.it_forms.proofs.FlaggedReadings.{Answers}
use Rattle.it_syntax.specs.declared.rest.Stop.{Stop}
use Rattle.it_syntax.specs.declared.rest.Stop.TheVariants as stops
use Rattle.it_syntax.specs.Gives.{StopsAs}
use Rattle.it_question.specs.declared.types.FileFault.{FileFault}
use Rattle.it_question.specs.declared.types.FileFault.TheVariants.{Memory, Fault}
use Rattle.it_question.specs.Lines.{LineView, AreLines, AreLinesOf, in_front, split_lines, letters_of_lines}
use Rattle.it_question.specs.QuestionForms.{question, more_questions, file}
use Rattle.it_question.specs.QuestionLimits.{most_questions, usual}
use Rattle.it_question.specs.Questions.{BodyView}
use Rattle.it_question.specs.Stops.{IsStopAt}
use Rattle.it_question.specs.WholeFiles.{place_of}
use Rattle.it_question.proofs.LineListLemmas.{lines_are_one}
use Rattle.it_question.proofs.LineParts.{letters_of_first_lines, lines_sound}
use Rattle.it_question.proofs.Puts.{HasLines}
use Rattle.it_question.proofs.WholeFileLemmas.{first_form_fault}
use Rattle.it_question.proofs.WordLoops.{word_ends}
use Rattle.it_copy.specs.CopyForms.{more_copies, copy_file}
use Rattle.it_copy.specs.CopyLines.{CopyView}
use Rattle.it_copy.specs.Heads.{begins_questions, lines_before, IsHead, HasNoHead, IsFirstHeadFault}
use Rattle.it_copy.specs.HeadSteps.{ReadsNoHead, StopsInHead}
use Rattle.it_copy.proofs.CopyOutlines.{copies_has, copy_file_has}
use Rattle.it_copy.proofs.CopyFileLemmas.{copies_lines, copy_file_ends}

-- ---- the lines before a line

in_front_few : (b : ℕ) (lines : List (List ℕ)) → length (in_front b lines) ≤ length lines + 1
in_front_few b [] = omega arith
in_front_few b (line ∷ lines) = omega arith

-- a file has no more lines than bytes
few_lines : (bytes : List ℕ) → length (split_lines bytes) ≤ length bytes
few_lines [] = omega arith
few_lines (b ∷ bytes) = by_test (b == 10) (few_lines bytes)
  where
    by_test : (t : Bool) → length (split_lines bytes) ≤ length bytes
        → length (cond t ([] ∷ split_lines bytes) (in_front b (split_lines bytes))) ≤ suc (length bytes)
    by_test true h = omega (arith, h)
    by_test false h = omega (arith, in_front_few b (split_lines bytes), h)

few_before : (n : ℕ) (split : List (List ℕ)) (lines : List LineView) (k : ℕ) → 1 ≤ n → AreLines n split lines
    → lines_before (drop k lines) + 1 ≤ n + length split
few_before n [] lines zero one h = subst (λ (ls : List LineView). lines_before ls + 1 ≤ n + 0) (sym h) (omega (arith, one))
few_before n [] lines (suc zero) one h = subst (λ (ls : List LineView). lines_before (drop 1 ls) + 1 ≤ n + 0) (sym h) (omega (arith, one))
few_before n [] lines (suc (suc k)) one h = subst (λ (ls : List LineView). lines_before (drop (suc (suc k)) ls) + 1 ≤ n + 0) (sym h) (omega (arith, one))
few_before n (bytes ∷ more) lines k one (inl h) = let e = few_before (n + 1) more lines k (omega arith) h.1 in omega (arith, e)
few_before n (bytes ∷ more) lines zero one (inr h) = subst (λ (ls : List LineView). lines_before ls + 1 ≤ n + suc (length more)) (sym h.2)
    (omega (arith, h.3.number, one))
few_before n (bytes ∷ more) lines (suc k) one (inr h) =
    subst (λ (ls : List LineView). lines_before (drop (suc k) ls) + 1 ≤ n + suc (length more)) (sym h.2)
    (let e = few_before (n + 1) more h.1 k (omega arith) h.5 in omega (arith, e))

-- at most as many as there are bytes
pub few_lines_before : (bytes : List ℕ) (lines : List LineView) (k : ℕ) → AreLinesOf bytes lines → lines_before (drop k lines) ≤ length bytes
few_lines_before bytes lines k cut = omega (arith, few_before 1 (split_lines bytes) lines k (omega arith) cut, few_lines bytes)

-- ---- the byte after some lines

-- these bytes are left after the first n lines
pub record AreLeft (bytes rest : List ℕ) (n : ℕ) : Type 0 where
  pub left : drop n (split_lines bytes) ≡ split_lines rest
  pub back : rest ≡ drop (length bytes - length rest) bytes
  pub short : length rest ≤ length bytes

pub all_are_left : (bytes : List ℕ) → AreLeft bytes bytes 0
all_are_left bytes = record {
  left = refl;
  back = let e : length bytes - length bytes ≡ 0 = omega arith
      in ap (λ (n : ℕ). drop n bytes) (sym e);
  short = omega arith;
}

-- after one line more
pub left_after_line : (bytes rest line after : List ℕ) (n : ℕ) → AreLeft bytes rest n → split_lines rest ≡ line ∷ split_lines after
    → length after < length rest → after ≡ drop (length rest - length after) rest → AreLeft bytes after (n + 1)
left_after_line bytes rest line after n h split shorter back =
    let sums : (length bytes - length rest) + (length rest - length after) ≡ length bytes - length after = omega (arith, h.short, shorter) in record {
      left = sym (drop-drop 1 n (split_lines bytes)) ∙ ap (drop 1) (h.left ∙ split);
      back = back ∙ ap (drop (length rest - length after)) h.back ∙ drop-drop (length rest - length after) (length bytes - length rest)
          bytes ∙ ap (λ (k : ℕ). drop k bytes) sums;
      short = omega (arith, h.short, shorter);
    }

none_after : {X : Type 0} (n k : ℕ) (xs : List X) → drop n xs ≡ [] → n ≤ k → drop k xs ≡ []
none_after n k xs e le = drop_all k xs (omega (arith, long n xs e, le))
  where
    long : {X : Type 0} (n : ℕ) (xs : List X) → drop n xs ≡ [] → length xs ≤ n
    long n [] e = omega arith
    long zero (x ∷ xs) e = absurd cc
    long (suc n) (x ∷ xs) e = omega (arith, long n xs e)

-- where nothing is left
pub none_left : (bytes rest : List ℕ) (n skipped : ℕ) → AreLeft bytes rest n → n ≤ skipped → rest ≡ []
    → split_lines (drop (length bytes) bytes) ≡ drop skipped (split_lines bytes)
none_left bytes rest n skipped h le none =
    ap split_lines (drop_all (length bytes) bytes (omega arith)) ∙ sym (none_after n skipped (split_lines bytes) (h.left ∙ ap split_lines none) le)

-- ---- a head that is read

-- the letters up to the first question are those of a line for each copy
pub head_read : (bytes : List ℕ) (lines : List LineView) (copies : List CopyView) (r : List Letter) (from skipped : ℕ)
    → AreLinesOf bytes lines → read (more_copies []) (letters_of_lines lines) ≡ Ok (copies, r) → begins_questions r ≡ true
    → skipped ≡ lines_before (drop (length copies) lines) → from ≤ length bytes
    → split_lines (drop from bytes) ≡ drop skipped (split_lines bytes) → IsHead bytes copies from skipped
head_read bytes lines copies r from skipped cut e begins counted within after =
    let ls = letters_of_lines lines in
    let w : Went (read (more_copies [])) (Spells (more_copies [])) ls copies r = subst
    (λ (t : Reads (List CopyView)). By (read (more_copies [])) (Spells (more_copies [])) ls t) e
    (reading_tells (more_copies []) _ (copies_has []) ls) in
    let g = copies_lines [] copies (without_flags w.prefix ++ []) [] (w.spells []) in
    let prefix : letters g.puts.prefix ≡ w.prefix =
    sym (append-nil (letters g.puts.prefix)) ∙ sym (letters_append g.puts.prefix []) ∙ sym (ap letters g.puts.is)
    ∙ letters_after w.prefix [] ∙ append-nil w.prefix in
    let count : g.lines ≡ length copies = omega (arith, g.grows) in
    let long : HasLines (length copies) w.prefix = subst (λ (n : ℕ). HasLines n w.prefix) count (subst (HasLines g.lines) prefix g.puts.kind) in
    let first = letters_of_first_lines (length copies) lines w.prefix r long w.parts (lines_sound 1 (split_lines bytes) lines cut) in
    record {
      lines = lines;
      cut = cut;
      rest = drop (length copies) lines;
      rest_is = refl;
      spells = subst (λ (s : List Letter). Spells (more_copies []) copies (without_flags ls) (without_flags s)) (sym first.after)
          (subst (λ m. Spells (more_copies []) copies m (without_flags r)) (sym (ap without_flags w.parts ∙ cleaned_append w.prefix r))
          (w.spells (without_flags r)));
      begins = ap begins_questions first.after ∙ begins;
      counted = counted;
      within = within;
      after = after;
    }

free_of_copies : (r : List Letter) → begins_questions r ≡ true → IsFree (Keyword (codes "copy") ∷ []) (without_flags r)
free_of_copies [] e = tt
free_of_copies (l ∷ r) e = apart_among (Keyword (codes "copy") ∷ []) (Keyword (codes "vars") ∷ FileEnd ∷ []) l refl e

-- a head that is written is read
written_head_is_read : (cs : List CopyView) (ls r : List Letter) → Spells (more_copies []) cs (without_flags ls) (without_flags r)
    → begins_questions r ≡ true → read (more_copies []) ls ≡ Ok (cs, r)
written_head_is_read cs ls r s begins = by_answer (written_is_read (more_copies []) _ (copies_has []) cs (without_flags ls)
    (without_flags r) s (free_of_copies r begins))
  where
    by_answer : Answers (read (more_copies []) (letters (without_flags ls))) (without_flags ls) cs (without_flags r) → read (more_copies []) ls ≡ Ok (cs, r)
    by_answer (inl a) = sym (ap (read (more_copies [])) (letters_cleaned ls)) ∙ a.0 ∙ ap (λ (s : List Letter). Ok (cs, s)) (letters_cleaned r)
    by_answer (inr b) = absurd (clean_is_clean ls b.1.1.prefix b.0.0 (b.1.1.letter, b.1.1.rest, b.1.1.is))

no_head : (bytes : List ℕ) (lines : List LineView) → AreLinesOf bytes lines → ReadsNoHead (letters_of_lines lines) → HasNoHead bytes
no_head bytes lines cut none copies from skipped h =
    let same : h.lines ≡ lines = lines_are_one 1 (split_lines bytes) h.lines lines h.cut cut in
    none copies (letters_of_lines h.rest) (subst (λ (ls : List LineView). read (more_copies []) (letters_of_lines ls)
    ≡ Ok (copies, letters_of_lines h.rest)) same (written_head_is_read copies (letters_of_lines h.lines)
    (letters_of_lines h.rest) h.spells h.begins)) h.begins

-- ---- where reading stops

both_false : (a b : Bool) → (a || (b || false)) ≡ false → ((a || false) ≡ false) × ((b || false) ≡ false)
both_false true b e = absurd cc
both_false false b e = (refl, e)

-- no question file begins with another letter
no_file : (ls : List Letter) → begins_questions ls ≡ false → read (file usual) ls ≡ Err (own_code ls, ls)
unfolding read file more_questions
no_file [] e = refl
no_file (l ∷ ls) e =
    let other = both_false _ _ e in
    let question : read (more_questions usual []) (l ∷ ls) ≡ Ok ([], l ∷ ls) = word_ends (codes "vars") (λ qs. limit_flag (most_questions - length qs))
    (λ qs. question usual) (λ qs q. qs ++ q ∷ []) [] (l ∷ ls) _ refl (ap (λ (b : Bool). cond b (Some ((None, tt), ls)) None) other.0) in
    let end : read file_end (l ∷ ls) ≡ Err (own_code (l ∷ ls), l ∷ ls) = other_is (just (FileEnd ∷ []) tt) l other.1
    (λ a rest. Ok (a, rest)) ls (no_rule (l ∷ ls)) in
    ap (λ (t : Reads (List BodyView)). t >>= λ x. read (Then file_end (λ u. Give x.0)) x.1) question
    ∙ ap (λ (t : Reads (Unit {0})). t >>= λ x. read (Give []) x.1) end

-- where the copies stop the file stops
pub stops_at_copies : (stop : Stop) (rest ls : List Letter) → StopsAs stop rest (read (more_copies []) ls) → StopsInHead stop rest ls
unfolding read copy_file
stops_at_copies stops.Memory rest ls e = record { stops = tt; none = tt }
stops_at_copies (stops.Fault c) rest ls e = record {
  stops = ap (λ (t : Reads (List CopyView)). t >>= λ x. read (Then (file usual) (λ questions. Give (x.0, questions))) x.1) e;
  none = λ cs r h begins. let both : Ok (cs, r) ≡ Err (c, rest) = sym h ∙ e in absurd cc;
}

-- and where no questions begin after them
pub stops_after_copies : (cs : List CopyView) (rest ls : List Letter) → read (more_copies []) ls ≡ Ok (cs, rest)
    → begins_questions rest ≡ false → StopsInHead (stops.Fault (own_code rest)) rest ls
unfolding read copy_file
stops_after_copies cs rest ls e other = record {
  stops = ap (λ (t : Reads (List CopyView)). t >>= λ x. read (Then (file usual) (λ questions. Give (x.0, questions))) x.1) e
      ∙ ap (λ (t : Reads (List BodyView)). t >>= λ x. read (Give (cs, x.0)) x.1) (no_file rest other);
  none = λ ds r h begins. let both : Ok (ds, r) ≡ Ok (cs, rest) = sym h ∙ e in let pairs : (ds, r) ≡ (cs, rest) = cc in let same : r
      ≡ rest = ap (λ (p : List CopyView × List Letter). p.1) pairs in let never : true
      ≡ false = sym begins ∙ ap begins_questions same ∙ other in absurd cc;
}

-- the fault of a head
pub head_fault : (bytes : List ℕ) (lines : List LineView) (stop : Stop) (r : List Letter) (fault : FileFault) → AreLinesOf bytes lines
    → StopsInHead stop r (letters_of_lines lines) → IsStopAt (place_of lines r) stop fault → IsFirstHeadFault bytes fault
head_fault bytes lines stops.Memory r fault cut h at = subst (IsFirstHeadFault bytes) (sym at) tt
head_fault bytes lines (stops.Fault c) r Memory cut h at = absurd at
head_fault bytes lines (stops.Fault c) r (Fault line column code) cut h at = (
  no_head bytes lines cut h.none,
  first_form_fault (copy_file usual) _ (copy_file_has usual) (copy_file_ends usual) bytes lines (stops.Fault c) r
      (Fault line column code) cut h.stops at,
)
