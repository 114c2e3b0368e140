-- What follows for the status of a call.
use Rattle.std.proofs.Common.{◌≡◌, ℕ, ◌≤◌, ◌<◌, inl, inr, List, [], ◌∷◌, ◌++◌, length, ◌⊎◌, Option, Some, None, refl, sym, ap, subst, ◌∙◌, arith, append-nil}
use Rattle.it_settings.specs.Settings.{settings_of}
use Rattle.it_settings.specs.declared.types.Run.{Run}
use Rattle.it_space.proofs.OptionLemmas.{some_same}
use Rattle.it_outside.specs.Causes.{next_count}
use Rattle.it_outside.specs.Traffic.{Gains, Gave, GaveMore}
use Rattle.it_outside.proofs.LawLemmas.{end_comes_last, more_was_there}
use Rattle.it_settings.specs.declared.types.Settings.{Settings}
use Rattle.it_settings.specs.declared.types.Settings.TheVariants.{Check, Bench}
use Rattle.it_forms.specs.declared.types.Code.{Code}
use Rattle.it_contain.specs.Proposals.{Plan}
use Rattle.it_answer.specs.declared.types.Budgets.{Budgets}
use Rattle.it_cli.specs.Counts.{IsBenchLine}
use Rattle.it_cli.specs.Right.{budgets_of, limits_of_names}
use Rattle.it_cli.specs.Modes.{Replies, WholeOutput}
use Rattle.it_cli.specs.Outputs.{IsOutput, bench_mode, check_mode, mode_of, most_bytes}
use Rattle.it_cli.specs.Refusals.{fault_line}
use Rattle.it_cli.specs.Ends.{Call, Ends, Wrote, IsUntouched, IsTaken, IsInput, HasLimit, IsTooLong, IsUnread, IsDueInPart, HasWritten}
use Rattle.it_cli.specs.Laws.{BenchReadsNothing, CountsAreWritten, FaultIsDue, Headline, IsComplete, IsThere, LongIsDue, ModesHaveOneReading, SureEnds, UsageIsDue, VerdictsAreWritten}
use Rattle.it_cli.specs.declared.status.Status.{Status}
use Rattle.it_cli.specs.declared.status.Status.TheVariants.{Done, Invalid, Usage, Refused, ReadFault, WriteFault, Memory}

-- ---- the words have one reading, and the source gave what was left

has_one_or_none : (r : Call) (settings : Settings) → settings_of r.words ≡ Some settings → settings_of r.words ≡ None → ⊥
has_one_or_none r settings reading none = cc

one_reading : (r : Call) (a b : Settings) → settings_of r.words ≡ Some a → settings_of r.words ≡ Some b → a ≡ b
one_reading r a b first second = some_same a b (sym first ∙ second)

one_limit : (r : Call) (settings : Settings) (most limit : ℕ) → settings_of r.words ≡ Some settings → most_bytes settings ≡ Some most
    → HasLimit r limit → limit ≡ most
one_limit r settings most limit reading is h = some_same limit most (sym h.limit ∙ ap most_bytes (one_reading r h.settings settings h.reading reading) ∙ is)

-- what was given is what was left
same_bytes : (r : Call) (bytes given : List ℕ) → r.left ≡ Some bytes → Gave r.left r.left_after given → given ≡ bytes
same_bytes r bytes given e g = end_comes_last bytes given r.left_after (subst (λ (o : Option (List ℕ)). Gave o r.left_after given) e g)

-- a call that read the input with this reading read all of it
input_is_given : (r : Call) (settings s : Settings) (most : ℕ) (bytes given : List ℕ) → settings_of r.words ≡ Some settings
    → most_bytes settings ≡ Some most → r.left ≡ Some bytes → IsInput r s given
    → (given ≡ bytes) × (length bytes ≤ most)
input_is_given r settings s most bytes given reading is e input =
    let taken : IsTaken r (Some most) given = subst (λ (o : Option ℕ). IsTaken r o given)
    (ap most_bytes (one_reading r s settings input.reading reading) ∙ is) input.taken in
    let same = same_bytes r bytes given e taken.0 in
    (same, subst (λ (b : List ℕ). length b ≤ most) same taken.1)

too_long_for : (r : Call) (settings : Settings) (most : ℕ) (bytes : List ℕ) → settings_of r.words ≡ Some settings
    → most_bytes settings ≡ Some most → r.left ≡ Some bytes → IsTooLong r → most < length bytes
too_long_for r settings most bytes reading is e t =
    subst (λ (n : ℕ). n < length bytes) (one_limit r settings most t.most reading is t.limit)
    (more_was_there bytes r.left_after t.most (subst (λ (o : Option (List ℕ)). GaveMore o r.left_after t.most) e t.more))

-- ---- a mode without an input

unread_input : (r : Call) (settings s : Settings) (bytes : List ℕ) → settings_of r.words ≡ Some settings → most_bytes settings ≡ None
    → IsInput r s bytes → IsUntouched r
unread_input r settings s bytes reading none input =
    let taken : IsTaken r None bytes = subst (λ (o : Option ℕ). IsTaken r o bytes)
    (ap most_bytes (one_reading r s settings input.reading reading) ∙ none) input.taken in
    taken.0

no_limit : (r : Call) (settings : Settings) (most : ℕ) → settings_of r.words ≡ Some settings → most_bytes settings ≡ None → HasLimit r most → ⊥
no_limit r settings most reading none h = some_not_none (sym h.limit ∙ ap most_bytes (one_reading r h.settings settings h.reading reading) ∙ none)
  where
    some_not_none : Some most ≡ None → ⊥
    some_not_none e = cc

-- ---- the usage line

untouched_in_part : (r : Call) → settings_of r.words ≡ None → IsDueInPart r → IsUntouched r
untouched_in_part r none (inl (no_reading, untouched, prefix)) = untouched
untouched_in_part r none (inr (inl (t, prefix))) = absurd (has_one_or_none r t.limit.settings t.limit.reading none)
untouched_in_part r none (inr (inr (inl (u, prefix)))) = absurd (has_one_or_none r u.settings u.input.reading none)
untouched_in_part r none (inr (inr (inr part))) = absurd (has_one_or_none r part.settings part.input.reading none)

pub usage_is_due : UsageIsDue
usage_is_due r Done (faultless, ends) none = absurd (has_one_or_none r ends.settings ends.input.reading none)
usage_is_due r Invalid (faultless, ends) none = absurd (has_one_or_none r ends.settings ends.input.reading none)
usage_is_due r Usage (faultless, no_reading, untouched, wrote) none = (untouched, inl refl)
usage_is_due r Refused (faultless, inl (t, wrote)) none = absurd (has_one_or_none r t.limit.settings t.limit.reading none)
usage_is_due r Refused (faultless, inr (u, wrote)) none = absurd (has_one_or_none r u.settings u.input.reading none)
usage_is_due r ReadFault (failed, (most, limit), wrote) none = absurd (has_one_or_none r limit.settings limit.reading none)
usage_is_due r WriteFault (failed, part) none = (untouched_in_part r none part, inr (inl refl))
usage_is_due r Memory (faultless, inl (no_reading, untouched, wrote)) none = (untouched, inr (inr refl))
usage_is_due r Memory (faultless, inr (inl begun)) none = absurd (has_one_or_none r begun.settings begun.reading none)
usage_is_due r Memory (faultless, inr (inr first)) none = absurd (has_one_or_none r first.settings first.input.reading none)

-- ---- an input of too many bytes

long_given : (r : Call) (settings : Settings) (most : ℕ) (bytes : List ℕ) → settings_of r.words ≡ Some settings
    → most_bytes settings ≡ Some most → r.left ≡ Some bytes → most < length bytes
    → (s : Settings) (given : List ℕ) → IsInput r s given → ⊥
long_given r settings most bytes reading is e h s given input = let g = input_is_given r settings s most bytes given reading is e input in omega (arith, g.1)

pub long_is_due : LongIsDue
long_is_due r Done settings most bytes (faultless, ends) reading is e h = absurd
    (long_given r settings most bytes reading is e h ends.settings ends.bytes ends.input)
long_is_due r Invalid settings most bytes (faultless, ends) reading is e h = absurd
    (long_given r settings most bytes reading is e h ends.settings ends.bytes ends.input)
long_is_due r Usage settings most bytes (faultless, none, untouched, wrote) reading is e h = absurd (has_one_or_none r settings reading none)
long_is_due r Refused settings most bytes (faultless, inl (t, wrote)) reading is e h = inl (refl, wrote)
long_is_due r Refused settings most bytes (faultless, inr (u, wrote)) reading is e h = absurd
    (long_given r settings most bytes reading is e h u.settings u.bytes u.input)
long_is_due r ReadFault settings most bytes ends reading is e h = inr (inl refl)
long_is_due r WriteFault settings most bytes ends reading is e h = inr (inr (inl refl))
long_is_due r Memory settings most bytes ends reading is e h = inr (inr (inr refl))

-- ---- an input with a fault

-- what was given for this reading is what is there
there_is_given : (r : Call) (settings s : Settings) (most : Option ℕ) (bytes given : List ℕ) → settings_of r.words ≡ Some settings
    → most_bytes settings ≡ most → IsThere r most bytes → IsInput r s given → given ≡ bytes
there_is_given r settings s (Some most) bytes given reading is (e, fits) input = (input_is_given r settings s most bytes given reading is e input).0
there_is_given r settings s None bytes given reading is none input =
    let taken : IsTaken r None given = subst (λ (o : Option ℕ). IsTaken r o given)
    (ap most_bytes (one_reading r s settings input.reading reading) ∙ is) input.taken in
    taken.1 ∙ sym none

-- no limit is passed by what is there
there_is_short : (r : Call) (settings : Settings) (most : Option ℕ) (bytes : List ℕ) → settings_of r.words ≡ Some settings
    → most_bytes settings ≡ most → IsThere r most bytes → IsTooLong r → ⊥
there_is_short r settings (Some most) bytes reading is (e, fits) t = omega (arith, too_long_for r settings most bytes reading is e t)
there_is_short r settings None bytes reading is none t = no_limit r settings t.most reading is t.limit

-- the output of the mode that the words ask for
output_of : (r : Call) (s : Status) (settings : Settings) (h : HasWritten r (λ mode bytes out. WholeOutput mode bytes out s))
    → settings_of r.words ≡ Some settings → IsOutput r.plans settings h.bytes h.out s
output_of r s settings h reading = subst (λ (x : Settings). IsOutput r.plans x h.bytes h.out s)
    (one_reading r h.settings settings h.input.reading reading) h.output

-- the fault in the mode that the words ask for
fault_of : (r : Call) (settings : Settings) (u : IsUnread r) → settings_of r.words ≡ Some settings
    → (mode_of r.plans settings).FaultAt u.bytes u.line u.column u.code
fault_of r settings u reading = subst (λ (x : Settings). (mode_of r.plans x).FaultAt u.bytes u.line u.column u.code)
    (one_reading r u.settings settings u.input.reading reading) u.fault

-- the fault of what is there
fault_there : (r : Call) (settings : Settings) (bytes : List ℕ) (u : IsUnread r) → settings_of r.words ≡ Some settings
    → IsThere r (most_bytes settings) bytes → (mode_of r.plans settings).FaultAt bytes u.line u.column u.code
fault_there r settings bytes u reading there =
    subst (λ (b : List ℕ). (mode_of r.plans settings).FaultAt b u.line u.column u.code)
    (there_is_given r settings u.settings (most_bytes settings) bytes u.bytes reading refl there u.input)
    (fault_of r settings u reading)

module _ (reading_is_one : ModesHaveOneReading) where
  no_output : (r : Call) (s : Status) (settings : Settings) (bytes : List ℕ) (line column : ℕ) (code : Code)
      → settings_of r.words ≡ Some settings → IsThere r (most_bytes settings) bytes
      → (mode_of r.plans settings).FaultAt bytes line column code
      → HasWritten r (λ mode bytes out. WholeOutput mode bytes out s) → ⊥
  no_output r s settings bytes line column code reading there fault h =
      let output = output_of r s settings h reading in
      (reading_is_one r.plans settings).apart h.bytes output.items line column code output.asked
      (subst (λ (b : List ℕ). (mode_of r.plans settings).FaultAt b line column code)
      (sym (there_is_given r settings h.settings (most_bytes settings) bytes h.bytes reading refl there h.input)) fault)

  told_fault_is : (r : Call) (settings : Settings) (bytes : List ℕ) (line column : ℕ) (code : Code) (u : IsUnread r)
      → (mode_of r.plans settings).FaultAt bytes u.line u.column u.code
      → (mode_of r.plans settings).FaultAt bytes line column code → Wrote r (fault_line u.line u.column u.code) → Wrote r (fault_line line column code)
  told_fault_is r settings bytes line column code u at fault w =
      let same : (u.line ≡ line) × (u.column ≡ column) × (u.code ≡ code) = (reading_is_one r.plans settings).one_fault bytes u.line u.column
      line column u.code code at fault in
      subst (λ (c : Code). Wrote r (fault_line line column c)) same.2 (subst (λ (n : ℕ). Wrote r (fault_line line n u.code)) same.1
      (subst (λ (n : ℕ). Wrote r (fault_line n u.column u.code)) same.0 w))

  pub fault_is_due : FaultIsDue
  fault_is_due r Done settings bytes line column code (faultless, ends) reading there fault = absurd
      (no_output r Done settings bytes line column code reading there fault ends)
  fault_is_due r Invalid settings bytes line column code (faultless, ends) reading there fault = absurd
      (no_output r Invalid settings bytes line column code reading there fault ends)
  fault_is_due r Usage settings bytes line column code (faultless, none, untouched, wrote) reading there fault = absurd
      (has_one_or_none r settings reading none)
  fault_is_due r Refused settings bytes line column code (faultless, inl (t, w)) reading there fault = absurd
      (there_is_short r settings (most_bytes settings) bytes reading refl there t)
  fault_is_due r Refused settings bytes line column code (faultless, inr (u, w)) reading there fault = inl
      (refl, told_fault_is r settings bytes line column code u (fault_there r settings bytes u reading there) fault w)
  fault_is_due r ReadFault settings bytes line column code ends reading there fault = inr (inl refl)
  fault_is_due r WriteFault settings bytes line column code ends reading there fault = inr (inr (inl refl))
  fault_is_due r Memory settings bytes line column code ends reading there fault = inr (inr (inr refl))

  -- ---- completeness

  pub is_complete : IsComplete
  is_complete r Done settings bytes items (faultless, ends) reading there asked no_fault no_write_fault = inl ends
  is_complete r Invalid settings bytes items (faultless, ends) reading there asked no_fault no_write_fault = inl ends
  is_complete r Usage settings bytes items (faultless, none, untouched, wrote) reading there asked no_fault no_write_fault = absurd
      (has_one_or_none r settings reading none)
  is_complete r Refused settings bytes items (faultless, inl (t, w)) reading there asked no_fault no_write_fault = absurd
      (there_is_short r settings (most_bytes settings) bytes reading refl there t)
  is_complete r Refused settings bytes items (faultless, inr (u, w)) reading there asked no_fault no_write_fault =
      absurd ((reading_is_one r.plans settings).apart bytes items u.line u.column u.code asked (fault_there r settings bytes u reading there))
  is_complete r ReadFault settings bytes items (failed, limit, w) reading there asked no_fault no_write_fault = absurd (no_fault failed)
  is_complete r WriteFault settings bytes items (failed, cut) reading there asked no_fault no_write_fault = absurd (no_write_fault failed)
  is_complete r Memory settings bytes items ends reading there asked no_fault no_write_fault = inr refl

-- ---- mode bench

unread_in_part : (r : Call) (seed count : ℕ) (run : Run) (pivots : Option ℕ) (rows tries : ℕ)
    → settings_of r.words ≡ Some (Bench seed count run pivots rows tries) → IsDueInPart r → IsUntouched r
unread_in_part r seed count run pivots rows tries reading (inl (none, untouched, prefix)) = untouched
unread_in_part r seed count run pivots rows tries reading (inr (inl (t, prefix))) = absurd
    (no_limit r (Bench seed count run pivots rows tries) t.most reading refl t.limit)
unread_in_part r seed count run pivots rows tries reading (inr (inr (inl (u, prefix)))) = absurd (fault_of r (Bench seed count run pivots rows tries) u reading)
unread_in_part r seed count run pivots rows tries reading (inr (inr (inr part))) = unread_input r
    (Bench seed count run pivots rows tries) part.settings part.bytes reading refl part.input

never_invalid : (r : Call) (seed count : ℕ) (run : Run) (pivots : Option ℕ) (rows tries : ℕ)
    → settings_of r.words ≡ Some (Bench seed count run pivots rows tries)
    → HasWritten r (λ mode bytes out. WholeOutput mode bytes out Invalid) → ⊥
never_invalid r seed count run pivots rows tries reading h =
    invalid_not_done (output_of r Invalid (Bench seed count run pivots rows tries) h reading).is
  where
    invalid_not_done : Invalid ≡ Done → ⊥
    invalid_not_done e = cc

pub bench_reads_nothing : BenchReadsNothing
bench_reads_nothing r Done seed count run pivots rows tries (faultless, ends) reading
    = (unread_input r (Bench seed count run pivots rows tries) ends.settings ends.bytes reading refl ends.input, inl refl)
bench_reads_nothing r Invalid seed count run pivots rows tries (faultless, ends) reading = absurd
    (never_invalid r seed count run pivots rows tries reading ends)
bench_reads_nothing r Usage seed count run pivots rows tries (faultless, none, untouched, wrote) reading = absurd
    (has_one_or_none r (Bench seed count run pivots rows tries) reading none)
bench_reads_nothing r Refused seed count run pivots rows tries (faultless, inl (t, wrote)) reading = absurd
    (no_limit r (Bench seed count run pivots rows tries) t.most reading refl t.limit)
bench_reads_nothing r Refused seed count run pivots rows tries (faultless, inr (u, wrote)) reading = absurd
    (fault_of r (Bench seed count run pivots rows tries) u reading)
bench_reads_nothing r ReadFault seed count run pivots rows tries (failed, (most, limit), wrote) reading = absurd
    (no_limit r (Bench seed count run pivots rows tries) most reading refl limit)
bench_reads_nothing r WriteFault seed count run pivots rows tries (failed, part) reading
    = (unread_in_part r seed count run pivots rows tries reading part, inr (inl refl))
bench_reads_nothing r Memory seed count run pivots rows tries (faultless, inl (none, untouched, wrote)) reading = (untouched, inr (inr refl))
bench_reads_nothing r Memory seed count run pivots rows tries (faultless, inr (inl begun)) reading =
    (begun.unread (ap most_bytes (one_reading r begun.settings (Bench seed count run pivots rows tries) begun.reading reading)), inr (inr refl))
bench_reads_nothing r Memory seed count run pivots rows tries (faultless, inr (inr first)) reading =
    (unread_input r (Bench seed count run pivots rows tries) first.settings first.bytes reading refl first.input, inr (inr refl))

-- ---- no fault without a cause

never_next : (before now : ℕ) → now ≡ 0 → now ≡ next_count before → ⊥
never_next before now zero next = omega (arith, zero, next)

pub sure_ends : SureEnds
sure_ends r ReadFault ends none none_written = ((λ is. never_next r.read_faults r.read_faults_after none ends.0.0), λ is. cc)
sure_ends r WriteFault ends none none_written = ((λ is. cc), λ is. never_next r.write_faults r.write_faults_after none_written ends.0.1)
sure_ends r Done ends none none_written = ((λ is. cc), λ is. cc)
sure_ends r Invalid ends none none_written = ((λ is. cc), λ is. cc)
sure_ends r Usage ends none none_written = ((λ is. cc), λ is. cc)
sure_ends r Refused ends none none_written = ((λ is. cc), λ is. cc)
sure_ends r Memory ends none none_written = ((λ is. cc), λ is. cc)

-- ---- what a call that is done has written

-- what a sink that tells its bytes took
gain_is_told : (before now : Option (List ℕ)) (old new out : List ℕ) → before ≡ Some old → now ≡ Some new → Gains before now out → new ≡ old ++ out
gain_is_told before now old new out b n g = subst (λ (o : Option (List ℕ)). Gains (Some old) o out) n (subst (λ (o : Option (List ℕ)). Gains o now out) b g)

-- the output for what the source had left
output_is_read : (r : Call) (s : Status) (settings : Settings) (most : ℕ) (bytes old new : List ℕ)
    → HasWritten r (λ mode bytes out. WholeOutput mode bytes out s) → settings_of r.words ≡ Some settings → most_bytes settings ≡ Some most
    → r.left ≡ Some bytes → r.taken ≡ Some old → r.taken_after ≡ Some new → (out : List ℕ) × IsOutput r.plans settings bytes out s × (new ≡ old ++ out)
output_is_read r s settings most bytes old new h reading is e taken taken_after = (
  h.out,
  subst (λ (b : List ℕ). IsOutput r.plans settings b h.out s) (input_is_given r settings h.settings most bytes h.bytes reading is e
      h.input).0 (output_of r s settings h reading),
  gain_is_told r.taken r.taken_after old new h.out taken taken_after h.wrote,
)

-- a call that is done, with a status that says so, has its output
has_output : (r : Call) (s : Status) → Ends r s → (s ≡ Done) ⊎ (s ≡ Invalid) → HasWritten r (λ mode bytes out. WholeOutput mode bytes out s)
has_output r Done (faultless, ends) is = ends
has_output r Invalid (faultless, ends) is = ends
has_output r Usage ends (inl is) = cc
has_output r Usage ends (inr is) = cc
has_output r Refused ends (inl is) = cc
has_output r Refused ends (inr is) = cc
has_output r ReadFault ends (inl is) = cc
has_output r ReadFault ends (inr is) = cc
has_output r WriteFault ends (inl is) = cc
has_output r WriteFault ends (inr is) = cc
has_output r Memory ends (inl is) = cc
has_output r Memory ends (inr is) = cc

pub headline : Headline
headline r s settings most bytes old new ends is reading limit e taken taken_after = output_is_read r s settings most bytes old new
    (has_output r s ends is) reading limit e taken taken_after

pub verdicts_are_written : VerdictsAreWritten
verdicts_are_written r s names bytes old new ends is reading e taken taken_after =
    let h = headline r s (Check names) 67108864 bytes old new ends is reading refl e taken taken_after in
    (h.1.replies, h.0, subst (λ (lines : List (List ℕ)). Replies (check_mode (limits_of_names names)) lines h.1.replies h.0) h.1.asked h.1.written, h.2, h.1.is)

-- the whole output of mode `bench` is its line
by_one_item : (budgets : Budgets) (plans : List Plan) (seed count : ℕ) (items : List (Unit {0})) (lines : List (List ℕ)) (out : List ℕ)
    → items ≡ tt ∷ [] → Replies (bench_mode budgets plans seed count) items lines out → IsBenchLine budgets plans seed count out
by_one_item budgets plans seed count items lines out is written =
    let one = subst (λ (xs : List (Unit {0})). Replies (bench_mode budgets plans seed count) xs lines out) is written in
    subst (IsBenchLine budgets plans seed count) (sym (one.4 ∙ ap (λ rest. one.0 ++ rest) one.3.1 ∙ append-nil one.0)) one.2

line_of_output : (budgets : Budgets) (plans : List Plan) (seed count : ℕ) (bytes out : List ℕ) (s : Status)
    → WholeOutput (bench_mode budgets plans seed count) bytes out s → IsBenchLine budgets plans seed count out
line_of_output budgets plans seed count bytes out s o = by_one_item budgets plans seed count o.items o.replies out o.asked o.written

pub counts_are_written : CountsAreWritten
counts_are_written r seed count run pivots rows tries old new (faultless, h) reading taken taken_after = (
  h.out,
  line_of_output (budgets_of run pivots rows tries) r.plans seed count h.bytes h.out Done (output_of r Done (Bench seed count run pivots rows tries) h reading),
  gain_is_told r.taken r.taken_after old new h.out taken taken_after h.wrote,
  unread_input r (Bench seed count run pivots rows tries) h.settings h.bytes reading refl h.input,
)
