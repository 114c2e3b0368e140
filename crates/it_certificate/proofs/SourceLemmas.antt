-- What a report line is about: it is one thing or nothing.
use Rattle.std.proofs.Common.{◌≡◌, ℕ, ◌+◌, ◌≤◌, ◌<◌, List, [], ◌∷◌, ◌++◌, length, map, get_or, refl, ap, ap₂, sym, subst, ◌∙◌, arith, is_some, Bool, true, false, Option, Some, None, Result, Ok, Err, ◌⊎◌, inl, inr, codes}
use Rattle.std.specs.Bool.{OnFalse}
use Rattle.std.proofs.lemmas.Bool.{cases_lt}
use Rattle.std.proofs.lemmas.List.{length-map}
use Rattle.serde_json.specs.Data.{Data}
use Rattle.serde_json.specs.Find.{get}
use Rattle.it_space.proofs.OptionLemmas.{some_same}
use Rattle.it_forms.specs.declared.types.Code.{Code}
use Rattle.it_closure.specs.Sizes.{most_entries, table_size}
use Rattle.it_question.specs.declared.sizes.FileLimits.{FileLimits}
use Rattle.it_question.specs.Files.{IsFileWithin, FileFaultWithin}
use Rattle.it_question.specs.ProblemLines.{problem_names, problem_lines}
use Rattle.it_question.specs.QuestionLimits.{most_lines}
use Rattle.it_question.specs.Questions.{BodyView, QuestionView, VerbView, Prove, Eliminate, Contain}
use Rattle.it_question.specs.declared.types.FileFault.{FileFault}
use Rattle.it_question.specs.declared.types.FileFault.TheVariants.{Fault}
use Rattle.it_question.specs.TableSizes.{problem_of_lines, HasSmallTable, HasTableWithin}
use Rattle.it_question.proofs.FileLemmas.{file_is_one, file_or_fault, file_has_one}
use Rattle.it_copy.specs.CopyLines.{CopyView}
use Rattle.it_copy.specs.Extensions.{IsExtension, IsMisfit, IsProof, extended, first_unplaced}
use Rattle.it_copy.specs.Files.{IsCopyFile, CopyFileFaultAt, IsFirstCopyFault}
use Rattle.it_copy.specs.declared.types.CopyFault.{CopyFault}
use Rattle.it_copy.specs.declared.types.CopyFault.TheVariants as copy_faults
use Rattle.it_copy.proofs.MisfitLemmas.{extension_or_misfit}
use Rattle.it_copy.proofs.CopyFileLemmas.{copy_file_is_one, copy_file_or_fault, copy_file_has_one}
use Rattle.it_sharing.specs.SharingFiles.{IsSharingFile, SharingFaultAt, IsFirstSharingFault}
use Rattle.it_sharing.specs.Sharings.{SharingView, maximal_count, minimal_count}
use Rattle.it_sharing.proofs.SharingFileLemmas.{sharing_is_one, sharing_or_fault, sharing_has_one}
use Rattle.it_certificate.specs.declared.keys.Refusal.{Refusal}
use Rattle.it_certificate.specs.declared.keys.Refusal.TheVariants as refusals
use Rattle.it_certificate.specs.Parts.{text_of}
use Rattle.it_certificate.specs.ReportSteps.{GivesOnly, GivesCopied, GivesExtended, GivesMade, GivesMadeFrom, GivesSource, refusal_by}
use Rattle.it_certificate.specs.Sources.{AsksOnly, IsMakeable, IsQuestionText, IsSharingText, IsSourceAt, IsSourceOf, IsTextWithCopies, Source, Text, Copies, Sharing}

-- ---- members

-- what has a text is there
some_text : (o : Option Data) (text : List ℕ) → text_of o ≡ Some text → is_some o ≡ true
some_text None text e = let f : None ≡ Some text = e in absurd cc
some_text (Some v) text e = refl

none_there : (o : Option Data) → o ≡ None → is_some o ≡ false
none_there o e = ap is_some e

there_or_not : (o : Option Data) → is_some o ≡ true → is_some o ≡ false → ⊥
there_or_not o there none = let e : true ≡ false = sym there ∙ none in cc

not_there : (o : Option Data) → is_some o ≡ false → o ≡ None
not_there None e = refl
not_there (Some v) e = let f : true ≡ false = e in absurd cc

no_text : (o : Option Data) (text : List ℕ) → None ≡ text_of o → text_of o ≡ Some text → ⊥
no_text o text none some = let e : None ≡ Some text = none ∙ some in cc

first_question : (a b : QuestionView) → a ∷ [] ≡ b ∷ [] → a ≡ b
first_question a b e = cc

-- ---- nothing

module _ (limits : FileLimits) where
  nothing_is : (d : Data) → ((q : QuestionView) → IsQuestionText limits d q → ⊥)
      → ((q : QuestionView) (copies : List CopyView) → IsTextWithCopies limits d q copies → ⊥) → ((x : SharingView) → IsSharingText limits d x → ⊥)
      → IsSourceAt limits d None
  nothing_is d t c s (Text q) h = t q h
  nothing_is d t c s (Copies q copies) h = c q copies h
  nothing_is d t c s (Sharing x) h = s x h

  -- an object with a sharing file
  module _ (d : Data) (there : is_some (get (codes "sharing") d) ≡ true) where
    unless_shared : ((x : SharingView) → IsSharingText limits d x → ⊥) → IsSourceAt limits d None
    unless_shared s = nothing_is d (λ q h. there_or_not (get (codes "sharing") d) there (none_there (get (codes "sharing") d) h.no_sharing))
        (λ q copies h. there_or_not (get (codes "sharing") d) there (none_there (get (codes "sharing") d) h.no_sharing)) s

    pub no_sharing_given : None ≡ text_of (get (codes "sharing") d) → GivesSource limits d (Err refusals.Shape)
    no_sharing_given none = unless_shared (λ x h. no_text (get (codes "sharing") d) h.text none h.there)

    module _ (text : List ℕ) (is : Some text ≡ text_of (get (codes "sharing") d)) where
      made_here : (x : SharingView) → IsMakeable limits text x → IsSourceOf limits d (Sharing x)
      made_here x h = record { text = text; there = sym is; makes = h }

      here_made : (x : SharingView) → IsSharingText limits d x → IsMakeable limits text x
      here_made x h = subst (λ (t : List ℕ). IsMakeable limits t x) (some_same h.text text (sym h.there ∙ sym is)) h.makes

      none_made : ((x : SharingView) → IsMakeable limits text x → ⊥) → IsSourceAt limits d None
      none_made none = unless_shared (λ x h. none x (here_made x h))

      by_made : (r : Result QuestionView Refusal) → GivesMade limits text r → GivesSource limits d r
      by_made (Ok q) gives = (Sharing gives.0, made_here gives.0 gives.1, gives.2)
      by_made (Err refusals.Shape) gives = none_made gives
      by_made (Err refusals.Memory) gives = tt

      pub sharing_given : (bytes : List ℕ) (r : Result QuestionView Refusal) → bytes ≡ text → GivesMade limits bytes r → GivesSource limits d r
      sharing_given bytes r e gives = by_made r (subst (λ (b : List ℕ). GivesMade limits b r) e gives)

  -- an object without a sharing file and with a head
  module _ (d : Data) (no_sharing : is_some (get (codes "sharing") d) ≡ false) (there : is_some (get (codes "copies") d) ≡ true) where
    unless_copied : ((q : QuestionView) (copies : List CopyView) → IsTextWithCopies limits d q copies → ⊥) → IsSourceAt limits d None
    unless_copied c = nothing_is d (λ q h. there_or_not (get (codes "copies") d) there (none_there (get (codes "copies") d) h.no_copies)) c
        (λ x h. there_or_not (get (codes "sharing") d) (some_text (get (codes "sharing") d) h.text h.there) no_sharing)

    pub no_head_given : None ≡ text_of (get (codes "copies") d) → GivesSource limits d (Err refusals.Shape)
    no_head_given none = unless_copied (λ q copies h. no_text (get (codes "copies") d) h.head none h.head_there)

    pub no_question_given : None ≡ text_of (get (codes "question") d) → GivesSource limits d (Err refusals.Shape)
    no_question_given none = unless_copied (λ q copies h. no_text (get (codes "question") d) h.text none h.text_there)

    module _ (head text : List ℕ) (head_is : Some head ≡ text_of (get (codes "copies") d)) (text_is : Some text ≡ text_of (get (codes "question") d)) where
      asks_here : (q : QuestionView) (copies : List CopyView) → AsksOnly limits (head ++ text) q copies → IsSourceOf limits d (Copies q copies)
      asks_here q copies h = record {
        no_sharing = not_there (get (codes "sharing") d) no_sharing;
        head = head;
        text = text;
        head_there = sym head_is;
        text_there = sym text_is;
        asks = h;
      }

      here_asks : (q : QuestionView) (copies : List CopyView) → IsTextWithCopies limits d q copies → AsksOnly limits (head ++ text) q copies
      here_asks q copies h =
          subst (λ (t : List ℕ). AsksOnly limits t q copies) (ap₂ (λ (a b : List ℕ). a ++ b) (some_same h.head head (sym h.head_there ∙ sym head_is))
          (some_same h.text text (sym h.text_there ∙ sym text_is))) h.asks

      none_asked : ((q : QuestionView) (copies : List CopyView) → AsksOnly limits (head ++ text) q copies → ⊥) → IsSourceAt limits d None
      none_asked none = unless_copied (λ q copies h. none q copies (here_asks q copies h))

      pub copies_given : (bytes : List ℕ) (r : Result QuestionView Refusal) → bytes ≡ head ++ text → GivesCopied limits bytes r → GivesSource limits d r
      copies_given bytes r e gives = by_result r (subst (λ (b : List ℕ). GivesCopied limits b r) e gives)
        where
          by_result : (r : Result QuestionView Refusal) → GivesCopied limits (head ++ text) r → GivesSource limits d r
          by_result (Ok q) gives = (Copies gives.0 gives.1, asks_here gives.0 gives.1 gives.2, gives.3)
          by_result (Err refusals.Shape) gives = none_asked gives
          by_result (Err refusals.Memory) gives = tt

  -- an object with neither
  module _ (d : Data) (no_sharing : is_some (get (codes "sharing") d) ≡ false) (no_copies : is_some (get (codes "copies") d) ≡ false) where
    unless_text : ((q : QuestionView) → IsQuestionText limits d q → ⊥) → IsSourceAt limits d None
    unless_text t = nothing_is d t (λ q copies h. there_or_not (get (codes "copies") d) (some_text (get (codes "copies") d) h.head h.head_there) no_copies)
        (λ x h. there_or_not (get (codes "sharing") d) (some_text (get (codes "sharing") d) h.text h.there) no_sharing)

    pub no_text_given : None ≡ text_of (get (codes "question") d) → GivesSource limits d (Err refusals.Shape)
    no_text_given none = unless_text (λ q h. no_text (get (codes "question") d) h.text none h.there)

    module _ (text : List ℕ) (is : Some text ≡ text_of (get (codes "question") d)) where
      text_here : (q : QuestionView) → length text ≤ 1048577 → IsFileWithin limits text (q ∷ []) → IsSourceOf limits d (Text q)
      text_here q short file = record {
        no_sharing = not_there (get (codes "sharing") d) no_sharing;
        no_copies = not_there (get (codes "copies") d) no_copies;
        text = text;
        there = sym is;
        short = short;
        reads = file;
      }

      none_in_text : ((q : QuestionView) → length text ≤ 1048577 → IsFileWithin limits text (q ∷ []) → ⊥) → IsSourceAt limits d None
      none_in_text none = unless_text (λ q h.
          let e : h.text ≡ text = some_same h.text text (sym h.there ∙ sym is) in
          none q (subst (λ (t : List ℕ). length t ≤ 1048577) e h.short) (subst (λ (t : List ℕ). IsFileWithin limits t (q ∷ [])) e h.reads))

      pub text_given : (r : Result QuestionView Refusal) → GivesOnly limits text r → GivesSource limits d r
      text_given (Ok q) gives = (Text q, text_here q gives.0 gives.1, refl)
      text_given (Err refusals.Shape) gives = none_in_text gives
      text_given (Err refusals.Memory) gives = tt

  -- ---- each object is about something or nothing

  abbrev SourceThere : Data → Type 0
  SourceThere d = (o : Option Source) × IsSourceAt limits d o

  -- a table is within the limits or it isn't
  within_or_not : (e : BodyView) → HasTableWithin limits e ⊎ (HasTableWithin limits e → ⊥)
  within_or_not e = by_test limits.large_tables (cases_lt most_entries (table_size (problem_of_lines (problem_names e) (problem_lines e))))
    where
      by_test : (b : Bool) → (most_entries < table_size (problem_of_lines (problem_names e) (problem_lines e))) ⊎ HasSmallTable e
          → OnFalse b (HasSmallTable e) ⊎ (OnFalse b (HasSmallTable e) → ⊥)
      by_test true size = inl tt
      by_test false (inl large) = inr (λ small. omega (arith, large, small))
      by_test false (inr small) = inl small

  -- a question can have copies or it can't
  by_size : (q : BodyView) (copies : List CopyView) → IsProof q.verb → first_unplaced limits 1 q.names copies ≡ None
      → (length (extended q copies).lines.givens ≤ most_lines)
      → HasTableWithin limits (extended q copies) ⊎ (HasTableWithin limits (extended q copies) → ⊥)
      → IsExtension limits q copies (extended q copies) ⊎ (IsExtension limits q copies (extended q copies) → ⊥)
  by_size q copies proof placed few (inl small) = inl (record { made = record { proof = proof; placed = placed }; few = few; small = small; is = refl })
  by_size q copies proof placed few (inr large) = inr (λ x. large x.small)

  extension_or_not : (q : BodyView) (copies : List CopyView) → IsExtension limits q copies (extended q copies)
      ⊎ (IsExtension limits q copies (extended q copies) → ⊥)
  extension_or_not q copies = by_verb q.verb refl
    where
      by_count : IsProof q.verb → first_unplaced limits 1 q.names copies ≡ None → (most_lines < length (extended q copies).lines.givens)
          ⊎ (length (extended q copies).lines.givens ≤ most_lines)
          → IsExtension limits q copies (extended q copies) ⊎ (IsExtension limits q copies (extended q copies) → ⊥)
      by_count proof placed (inl many) = inr (λ x. let few = x.few in omega (arith, many, few))
      by_count proof placed (inr few) = by_size q copies proof placed few (within_or_not (extended q copies))

      by_place : IsProof q.verb → (o : Option ℕ) → first_unplaced limits 1 q.names copies ≡ o
          → IsExtension limits q copies (extended q copies) ⊎ (IsExtension limits q copies (extended q copies) → ⊥)
      by_place proof None placed = by_count proof placed (cases_lt most_lines (length (extended q copies).lines.givens))
      by_place proof (Some k) unplaced = inr (λ x. let placed = x.made.placed in let e : Some k ≡ None = sym unplaced ∙ placed in cc)

      by_verb : (verb : VerbView) → q.verb ≡ verb → IsExtension limits q copies (extended q copies) ⊎ (IsExtension limits q copies (extended q copies) → ⊥)
      by_verb (Prove r) about = by_place (subst IsProof (sym about) tt) (first_unplaced limits 1 q.names copies) refl
      by_verb (Eliminate rates) about = inr (λ x. subst IsProof about x.made.proof)
      by_verb (Contain first second tries) about = inr (λ x. subst IsProof about x.made.proof)

  -- bytes are a sharing file that makes a question, or they aren't
  by_sharing : (bytes : List ℕ) → length bytes ≤ 1048576 → ((x : SharingView) × IsSharingFile limits bytes x)
      ⊎ ((line : ℕ) × (column : ℕ) × (c : Code) × SharingFaultAt limits bytes line column c)
      → ((x : SharingView) × IsMakeable limits bytes x) ⊎ ((x : SharingView) → IsMakeable limits bytes x → ⊥)
  by_sharing bytes short (inl h) = by_count (cases_lt most_lines (minimal_count h.0 + maximal_count h.0))
    where
      by_count : (most_lines < minimal_count h.0 + maximal_count h.0) ⊎ (minimal_count h.0 + maximal_count h.0 ≤ most_lines)
          → ((x : SharingView) × IsMakeable limits bytes x) ⊎ ((x : SharingView) → IsMakeable limits bytes x → ⊥)
      by_count (inl many) = inr (λ x m.
          let few = subst (λ (y : SharingView). minimal_count y + maximal_count y ≤ most_lines) (sharing_is_one limits bytes x h.0 m.reads h.1) m.few in
          omega (arith, many, few))
      by_count (inr few) = inl (h.0, record { short = short; reads = h.1; few = few })
  by_sharing bytes short (inr h) = inr (λ x m. sharing_or_fault limits bytes x h.0 h.1 h.2 m.reads h.3)

  -- bytes ask for copies in one question, or they don't
  by_copies : (bytes : List ℕ) → length bytes ≤ 1048577 → ((copies : List CopyView) × (qs : List QuestionView) × IsCopyFile limits bytes copies qs)
      ⊎ ((line : ℕ) × (column : ℕ) × (c : Code) × CopyFileFaultAt limits bytes line column c)
      → ((q : QuestionView) × (copies : List CopyView) × AsksOnly limits bytes q copies)
      ⊎ ((q : QuestionView) (copies : List CopyView) → AsksOnly limits bytes q copies → ⊥)
  by_copies bytes short (inl h) = by_questions h.1 refl
    where
      other : (q : QuestionView) (copies : List CopyView) → AsksOnly limits bytes q copies → (copies ≡ h.0) × (q ∷ [] ≡ h.1)
      other q copies a = copy_file_is_one limits bytes copies h.0 (q ∷ []) h.1 a.reads h.2

      by_extension : (q : QuestionView) → h.1 ≡ q ∷ [] → IsExtension limits q.body h.0 (extended q.body h.0)
          ⊎ (IsExtension limits q.body h.0 (extended q.body h.0) → ⊥)
          → ((q : QuestionView) × (copies : List CopyView) × AsksOnly limits bytes q copies)
          ⊎ ((q : QuestionView) (copies : List CopyView) → AsksOnly limits bytes q copies → ⊥)
      by_extension q e (inl x) = inl (q, h.0, record { short = short; reads = subst (IsCopyFile limits bytes h.0) e h.2; extension = x })
      by_extension q e (inr none) = inr (λ p copies a.
          let same = other p copies a in
          let first : p ≡ q = first_question p q (same.1 ∙ e) in
          none (subst (λ (z : QuestionView). IsExtension limits z.body h.0 (extended z.body h.0)) first
          (subst (λ (cs : List CopyView). IsExtension limits p.body cs (extended p.body cs)) same.0 a.extension)))

      by_questions : (qs : List QuestionView) → h.1 ≡ qs → ((q : QuestionView) × (copies : List CopyView) × AsksOnly limits bytes q copies)
          ⊎ ((q : QuestionView) (copies : List CopyView) → AsksOnly limits bytes q copies → ⊥)
      by_questions [] e = inr (λ q copies a. let same : q ∷ [] ≡ [] = (other q copies a).1 ∙ e in cc)
      by_questions (q ∷ []) e = by_extension q e (extension_or_not q.body h.0)
      by_questions (q ∷ r ∷ qs) e = inr (λ p copies a. let same : p ∷ [] ≡ q ∷ r ∷ qs = (other p copies a).1 ∙ e in cc)
  by_copies bytes short (inr h) = inr (λ q copies a. copy_file_or_fault limits bytes copies (q ∷ []) h.0 h.1 h.2 a.reads h.3)

  -- a text reads as one question, or it doesn't
  by_file : (text : List ℕ) → length text ≤ 1048577 → ((qs : List QuestionView) × IsFileWithin limits text qs)
      ⊎ ((line : ℕ) × (column : ℕ) × (c : Code) × FileFaultWithin limits text line column c)
      → ((q : QuestionView) × IsFileWithin limits text (q ∷ [])) ⊎ ((q : QuestionView) → length text ≤ 1048577 → IsFileWithin limits text (q ∷ []) → ⊥)
  by_file text short (inl h) = by_questions h.0 h.1
    where
      by_questions : (qs : List QuestionView) → IsFileWithin limits text qs → ((q : QuestionView) × IsFileWithin limits text (q ∷ []))
          ⊎ ((q : QuestionView) → length text ≤ 1048577 → IsFileWithin limits text (q ∷ []) → ⊥)
      by_questions [] file = inr (λ q le one. let e = ap length (file_is_one limits text [] (q ∷ []) file one) in omega (arith, e))
      by_questions (q ∷ []) file = inl (q, file)
      by_questions (q ∷ r ∷ qs) file = inr (λ p le one. let e = ap length (file_is_one limits text (q ∷ r ∷ qs) (p ∷ []) file one) in omega (arith, e))
  by_file text short (inr h) = inr (λ q le one. file_or_fault limits text (q ∷ []) h.0 h.1 h.2 one h.3)

  sharing_there : (d : Data) → is_some (get (codes "sharing") d) ≡ true → (o : Option (List ℕ)) → text_of (get (codes "sharing") d) ≡ o → SourceThere d
  sharing_there d there None e = (None, no_sharing_given d there (sym e))
  sharing_there d there (Some text) e = by_length (cases_lt 1048576 (length text))
    where
      by_reading : ((x : SharingView) × IsMakeable limits text x) ⊎ ((x : SharingView) → IsMakeable limits text x → ⊥) → SourceThere d
      by_reading (inl h) = (Some (Sharing h.0), made_here d there text (sym e) h.0 h.1)
      by_reading (inr none) = (None, none_made d there text (sym e) none)

      by_length : (1048576 < length text) ⊎ (length text ≤ 1048576) → SourceThere d
      by_length (inl long) = (None, none_made d there text (sym e) (λ x h. let short = h.short in omega (arith, short, long)))
      by_length (inr short) = by_reading (by_sharing text short (sharing_has_one limits text))

  copies_there : (d : Data) → is_some (get (codes "sharing") d) ≡ false → is_some (get (codes "copies") d) ≡ true → (o p : Option (List ℕ))
      → text_of (get (codes "copies") d) ≡ o → text_of (get (codes "question") d) ≡ p → SourceThere d
  copies_there d no_sharing there None p e f = (None, no_head_given d no_sharing there (sym e))
  copies_there d no_sharing there (Some head) None e f = (None, no_question_given d no_sharing there (sym f))
  copies_there d no_sharing there (Some head) (Some text) e f = by_length (cases_lt 1048577 (length (head ++ text)))
    where
      by_reading : ((q : QuestionView) × (copies : List CopyView) × AsksOnly limits (head ++ text) q copies)
          ⊎ ((q : QuestionView) (copies : List CopyView) → AsksOnly limits (head ++ text) q copies → ⊥) → SourceThere d
      by_reading (inl h) = (Some (Copies h.0 h.1), asks_here d no_sharing there head text (sym e) (sym f) h.0 h.1 h.2)
      by_reading (inr none) = (None, none_asked d no_sharing there head text (sym e) (sym f) none)

      by_length : (1048577 < length (head ++ text)) ⊎ (length (head ++ text) ≤ 1048577) → SourceThere d
      by_length (inl long) = (None, none_asked d no_sharing there head text (sym e) (sym f) (λ q copies h. let short = h.short in omega (arith, short, long)))
      by_length (inr short) = by_reading (by_copies (head ++ text) short (copy_file_has_one limits (head ++ text)))

  text_there : (d : Data) → is_some (get (codes "sharing") d) ≡ false → is_some (get (codes "copies") d) ≡ false → (o : Option (List ℕ))
      → text_of (get (codes "question") d) ≡ o → SourceThere d
  text_there d no_sharing no_copies None e = (None, no_text_given d no_sharing no_copies (sym e))
  text_there d no_sharing no_copies (Some text) e = by_length (cases_lt 1048577 (length text))
    where
      by_reading : length text ≤ 1048577 → ((q : QuestionView) × IsFileWithin limits text (q ∷ []))
          ⊎ ((q : QuestionView) → length text ≤ 1048577 → IsFileWithin limits text (q ∷ []) → ⊥) → SourceThere d
      by_reading short (inl h) = (Some (Text h.0), text_here d no_sharing no_copies text (sym e) h.0 short h.1)
      by_reading short (inr none) = (None, none_in_text d no_sharing no_copies text (sym e) none)

      by_length : (1048577 < length text) ⊎ (length text ≤ 1048577) → SourceThere d
      by_length (inl long) = (None, none_in_text d no_sharing no_copies text (sym e) (λ q le one. omega (arith, le, long)))
      by_length (inr short) = by_reading short (by_file text short (file_has_one limits text))

  pub source_there : (d : Data) → (o : Option Source) × IsSourceAt limits d o
  source_there d = by_sharing_key (is_some (get (codes "sharing") d)) refl
    where
      by_copies_key : is_some (get (codes "sharing") d) ≡ false → (b : Bool) → is_some (get (codes "copies") d) ≡ b → SourceThere d
      by_copies_key no_sharing true there = copies_there d no_sharing there (text_of (get (codes "copies") d)) (text_of (get (codes "question") d)) refl refl
      by_copies_key no_sharing false no_copies = text_there d no_sharing no_copies (text_of (get (codes "question") d)) refl

      by_sharing_key : (b : Bool) → is_some (get (codes "sharing") d) ≡ b → SourceThere d
      by_sharing_key true there = sharing_there d there (text_of (get (codes "sharing") d)) refl
      by_sharing_key false no_sharing = by_copies_key no_sharing (is_some (get (codes "copies") d)) refl

  -- ---- and about one thing at most

  text_or_none : (o : Option Data) (text : List ℕ) → o ≡ None → text_of o ≡ Some text → ⊥
  text_or_none o text none some = there_or_not o (some_text o text some) (none_there o none)

  one_text : (o : Option Data) (a b : List ℕ) → text_of o ≡ Some a → text_of o ≡ Some b → b ≡ a
  one_text o a b e f = some_same b a (sym f ∙ e)

  pub one_source : (d : Data) (a b : Source) → IsSourceOf limits d a → IsSourceOf limits d b → a ≡ b
  one_source d (Text p) (Text q) h k =
      ap Text (first_question p q (file_is_one limits h.text (p ∷ []) (q ∷ []) h.reads
      (subst (λ (t : List ℕ). IsFileWithin limits t (q ∷ [])) (one_text (get (codes "question") d) h.text k.text h.there k.there) k.reads)))
  one_source d (Text p) (Copies q copies) h k = absurd (text_or_none (get (codes "copies") d) k.head h.no_copies k.head_there)
  one_source d (Text p) (Sharing x) h k = absurd (text_or_none (get (codes "sharing") d) k.text h.no_sharing k.there)
  one_source d (Copies p copies) (Text q) h k = absurd (text_or_none (get (codes "copies") d) h.head k.no_copies h.head_there)
  one_source d (Copies p copies) (Copies q others) h k =
      let e : k.head ++ k.text ≡ h.head ++ h.text = ap₂ (λ (a b : List ℕ). a ++ b)
      (one_text (get (codes "copies") d) h.head k.head h.head_there k.head_there)
      (one_text (get (codes "question") d) h.text k.text h.text_there k.text_there) in
      let same = copy_file_is_one limits (h.head ++ h.text) copies others (p ∷ []) (q ∷ []) h.asks.reads
      (subst (λ (t : List ℕ). IsCopyFile limits t others (q ∷ [])) e k.asks.reads) in
      ap₂ Copies (first_question p q same.1) same.0
  one_source d (Copies p copies) (Sharing x) h k = absurd (text_or_none (get (codes "sharing") d) k.text h.no_sharing k.there)
  one_source d (Sharing x) (Text q) h k = absurd (text_or_none (get (codes "sharing") d) h.text k.no_sharing h.there)
  one_source d (Sharing x) (Copies q copies) h k = absurd (text_or_none (get (codes "sharing") d) h.text k.no_sharing h.there)
  one_source d (Sharing x) (Sharing y) h k = ap Sharing (sharing_is_one limits h.text x y h.makes.reads
      (subst (λ (t : List ℕ). IsSharingFile limits t y) (one_text (get (codes "sharing") d) h.text k.text h.there k.there) k.makes.reads))

  -- ---- what the readers gave

  pub made_long : (bytes : List ℕ) → 1048576 < length bytes → GivesMade limits bytes (Err refusals.Shape)
  made_long bytes long = λ x h. let short = h.short in omega (arith, short, long)

  pub made_by_file : (bytes : List ℕ) (x : SharingView) (r : Result QuestionView Refusal) → length bytes ≤ 1048576 → IsSharingFile limits bytes x
      → GivesMadeFrom x r → GivesMade limits bytes r
  made_by_file bytes x (Ok q) short file gives = (x, record { short = short; reads = file; few = gives.0 }, gives.1)
  made_by_file bytes x (Err refusals.Shape) short file many = λ y h.
      let few = subst (λ (z : SharingView). minimal_count z + maximal_count z ≤ most_lines) (sharing_is_one limits bytes y x h.reads file) h.few in
      omega (arith, many, few)
  made_by_file bytes x (Err refusals.Memory) short file gives = tt

  pub made_fault : (bytes : List ℕ) (f : FileFault) (line column : ℕ) (code : Code) → f ≡ Fault line column code → IsFirstSharingFault limits bytes f
      → GivesMade limits bytes (Err refusals.Shape)
  made_fault bytes f line column code e at =
      let here : SharingFaultAt limits bytes line column code = subst (IsFirstSharingFault limits bytes) e at in
      λ x h. sharing_or_fault limits bytes x line column code h.reads here

  pub copied_long : (bytes : List ℕ) → 1048577 < length bytes → GivesCopied limits bytes (Err refusals.Shape)
  copied_long bytes long = λ q copies h. let short = h.short in omega (arith, short, long)

  pub copied_by_file : (bytes : List ℕ) (copies : List CopyView) (qs : List QuestionView) (r : Result QuestionView Refusal)
      → length bytes ≤ 1048577 → IsCopyFile limits bytes copies qs → GivesExtended limits copies qs r → GivesCopied limits bytes r
  copied_by_file bytes copies qs (Ok e) short file gives =
      (gives.0, copies, record { short = short; reads = subst (IsCopyFile limits bytes copies) gives.1 file; extension = gives.2 }, gives.3)
  copied_by_file bytes copies qs (Err refusals.Shape) short file none = λ q others h.
      let same = copy_file_is_one limits bytes others copies (q ∷ []) qs h.reads file in
      none q (sym same.1) (subst (λ (cs : List CopyView). IsExtension limits q.body cs (extended q.body cs)) same.0 h.extension)
  copied_by_file bytes copies qs (Err refusals.Memory) short file gives = tt

  pub copied_fault : (bytes : List ℕ) (f : FileFault) (line column : ℕ) (code : Code) → f ≡ Fault line column code → IsFirstCopyFault limits bytes f
      → GivesCopied limits bytes (Err refusals.Shape)
  copied_fault bytes f line column code e at =
      let here : CopyFileFaultAt limits bytes line column code = subst (IsFirstCopyFault limits bytes) e at in
      λ q copies h. copy_file_or_fault limits bytes copies (q ∷ []) line column code h.reads here

  -- the only question of a list
  only_one : (qs : List QuestionView) (r : QuestionView) → length qs ≡ 1 → r ≡ get_or qs 0 r → qs ≡ r ∷ []
  only_one [] r one is = absurd (omega (arith, one))
  only_one (q ∷ []) r one is = ap (λ (x : QuestionView). x ∷ []) (sym is)
  only_one (q ∷ p ∷ qs) r one is = absurd (omega (arith, one))

  module _ (copies : List CopyView) (qs : List QuestionView) where
    pub not_one : (length qs ≡ 1 → ⊥) → GivesExtended limits copies qs (Err refusals.Shape)
    not_one other = λ q e x. other (ap length e)

    pub extended_only : (q e : QuestionView) → length qs ≡ 1 → q ≡ get_or qs 0 q → IsExtension limits q.body copies e.body
        → e.text ≡ [] → GivesExtended limits copies qs (Ok e)
    extended_only q e one is x text = (
      q,
      only_one qs q one is,
      subst (IsExtension limits q.body copies) x.is x,
      ap₂
          (λ (body : BodyView) (text : List ℕ). record { body = body; text = text }) (sym x.is) (sym text),
    )

    none_only : (q : QuestionView) (f : CopyFault) → length qs ≡ 1 → q ≡ get_or qs 0 q → (f ≡ copy_faults.Memory → ⊥)
        → IsMisfit limits q.body copies f → GivesExtended limits copies qs (Err refusals.Shape)
    none_only q f one is told misfit = λ p e x.
        let same : p ≡ q = first_question p q (sym e ∙ only_one qs q one is) in
        extension_or_misfit limits q.body (extended q.body copies) copies f told
        (subst (λ (z : QuestionView). IsExtension limits z.body copies (extended z.body copies)) same x) misfit

    by_fault : (q : QuestionView) (f : CopyFault) → length qs ≡ 1 → q ≡ get_or qs 0 q → IsMisfit limits q.body copies f
        → GivesExtended limits copies qs (Err (refusal_by f))
    by_fault q copy_faults.Memory one is misfit = tt
    by_fault q copy_faults.Verb one is misfit = none_only q copy_faults.Verb one is (λ e. cc) misfit
    by_fault q (copy_faults.Copy k) one is misfit = none_only q (copy_faults.Copy k) one is (λ e. cc) misfit
    by_fault q copy_faults.Many one is misfit = none_only q copy_faults.Many one is (λ e. cc) misfit
    by_fault q copy_faults.Large one is misfit = none_only q copy_faults.Large one is (λ e. cc) misfit

    pub misfit_only : (q : QuestionView) (f : CopyFault) (r : Refusal) → length qs ≡ 1 → q ≡ get_or qs 0 q → r ≡ refusal_by f
        → IsMisfit limits q.body copies f → GivesExtended limits copies qs (Err r)
    misfit_only q f r one is e misfit = subst (λ (s : Refusal). GivesExtended limits copies qs (Err s)) (sym e) (by_fault q f one is misfit)
