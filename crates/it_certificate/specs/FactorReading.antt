-- What a report line says of factors: the words of its kinds, its keys, each as far as its shape goes, and the first key at
-- fault.
use Rattle.std.specs.Prelude.{ℕ, ◌^◌, ℤ, List, [], ◌∷◌, Bool, if◌then◌else◌, codes, Option, Some, None, option_and_then, is_some, Result, Ok, Err, ok_or, bytes_eq}
use Rattle.std.specs.Map.{lookup}
use Rattle.std.specs.Option.{option_zip}
use Rattle.serde_json.specs.Data.{Data}
use Rattle.serde_json.specs.Find.{get, as_array}
use Rattle.it_space.specs.Answers.{CertificateView}
use Rattle.it_space.specs.Spaces.{size_of}
use Rattle.it_syntax.specs.NamesViews.{NamesView}
use Rattle.it_demand.specs.QuestionSpaces.{space_of}
use Rattle.it_question.specs.Questions.{VerbView}
use Rattle.it_ratio.specs.declared.types.BestCause.{BestCause}
use Rattle.it_ratio.specs.declared.types.BestCause.TheVariants as causes
use Rattle.it_ratio.specs.BestViews.{BestView, Least, Never, Unbounded, Undecided}
use Rattle.it_ratio.specs.Truth.{asked_by}
use Rattle.it_certificate.specs.declared.keys.Key.{Key}
use Rattle.it_certificate.specs.declared.keys.Key.TheVariants as keys
use Rattle.it_certificate.specs.declared.kinds.FactorKind.{FactorKind}
use Rattle.it_certificate.specs.declared.kinds.FactorKind.TheVariants as kinds
use Rattle.it_certificate.specs.declared.kinds.FactorCause.{FactorCause}
use Rattle.it_certificate.specs.declared.kinds.FactorCause.TheVariants as words
use Rattle.it_certificate.specs.AnswerReading.{and_then}
use Rattle.it_certificate.specs.Numerals.{below, step_of}
use Rattle.it_certificate.specs.Parts.{certificate_at, count_at, integer_at, list_at, point_at, text_of, two_of}

-- ---- words

-- the kind of a word; `undecided` is about factors where a phase is given
abbrev pub factor_kind_of : Bool → List ℕ → Option FactorKind
factor_kind_of phased text =
    if bytes_eq text (codes "best") then Some kinds.Least else
    if bytes_eq text (codes "none") then Some kinds.Never else
    if bytes_eq text (codes "unbounded") then Some kinds.Unbounded else
    if bytes_eq text (codes "undecided") then (if phased then Some kinds.Undecided else None) else None

-- the kind of what a line says of factors, None where it is about something else
unfoldable pub factor_kind_at : Data → Option FactorKind
factor_kind_at d = option_and_then (factor_kind_of (is_some (get (codes "phase") d))) (text_of (get (codes "answer") d))

-- the cause of a word
abbrev pub factor_cause_of : List ℕ → Option FactorCause
factor_cause_of text = lookup (bytes_eq text)
    ((codes "pivots", words.Pivots) ∷ (codes "width", words.Width) ∷ (codes "scale", words.Scale) ∷ (codes "size", words.Size) ∷ [])

-- ---- keys

-- two decimal texts: a numerator and a denominator
unfoldable pub ratio_at : Data → Option (ℤ × ℤ)
ratio_at d = option_and_then (λ p. option_zip (integer_at p.0) (integer_at p.1)) (option_and_then two_of (as_array d))

-- the factor
abbrev pub factor_at : Data → Option (ℤ × ℤ)
factor_at d = option_and_then ratio_at (get (codes "factor") d)

-- the certificate of a list of one
abbrev pub one_of : List CertificateView → Option CertificateView
one_of (proof ∷ []) = Some proof
one_of proofs = None

-- the certificates of a list of two
abbrev pub both_of : List CertificateView → Option (CertificateView × CertificateView)
both_of (proof ∷ below ∷ []) = Some (proof, below)
both_of proofs = None

-- the certificates
abbrev pub certificates_at : Data → Option (List CertificateView)
certificates_at d = list_at certificate_at (get (codes "proofs") d)

-- the steps or the step, as decimal text
abbrev pub steps_at : Data → Option ℕ
steps_at d = option_and_then step_of (text_of (get (codes "at") d))

-- the phase, below 256
abbrev pub phase_at : Data → Option ℕ
phase_at d = option_and_then (below (2 ^ 8)) (option_and_then count_at (get (codes "phase") d))

-- a cause with its steps and its phase, where it has them
abbrev pub cause_with : FactorCause → ℕ → ℕ → BestCause
cause_with words.Pivots steps phase = causes.Pivots steps phase
cause_with words.Width step phase = causes.Width step phase
cause_with words.Scale steps phase = causes.Scale
cause_with words.Size steps phase = causes.Size

-- ---- what is found

-- the least factor: the factor, one certificate and a value for each of `size` coordinates
unfoldable pub least_at : ℕ → Data → Result BestView Key
least_at size d =
    and_then (ok_or (factor_at d) keys.Factor) (λ factor.
    and_then (ok_or (option_and_then one_of (certificates_at d)) keys.Proofs) (λ proof.
    and_then (ok_or (point_at size d) keys.Point) (λ values. Ok (Least factor.0 factor.1 proof values))))

-- no factor: a value for each of `size` coordinates
unfoldable pub never_at : ℕ → Data → Result BestView Key
never_at size d = and_then (ok_or (point_at size d) keys.Point) (λ values. Ok (Never values))

-- no least factor: a factor and two certificates
unfoldable pub unbounded_at : Data → Result BestView Key
unbounded_at d =
    and_then (ok_or (factor_at d) keys.Factor) (λ factor.
    and_then (ok_or (option_and_then both_of (certificates_at d)) keys.Proofs) (λ proofs. Ok (Unbounded factor.0 factor.1 proofs.0 proofs.1)))

-- undecided: the cause, the steps and the phase
unfoldable pub undecided_factor_at : Data → Result BestView Key
undecided_factor_at d =
    and_then (ok_or (option_and_then factor_cause_of (text_of (get (codes "cause") d))) keys.Cause) (λ cause.
    and_then (ok_or (steps_at d) keys.At) (λ steps.
    and_then (ok_or (phase_at d) keys.Phase) (λ phase. Ok (Undecided (cause_with cause steps phase)))))

-- what is found of this kind
abbrev pub best_at : ℕ → FactorKind → Data → Result BestView Key
best_at size kinds.Least d = least_at size d
best_at size kinds.Never d = never_at size d
best_at size kinds.Unbounded d = unbounded_at d
best_at size kinds.Undecided d = undecided_factor_at d

-- what is found of this kind for a question with these names and this verb, which has to ask about a relation with `>=`
abbrev pub verb_best : NamesView → VerbView → FactorKind → Data → Result BestView Key
verb_best v verb kind d = if is_some (asked_by verb) then best_at (size_of (space_of v)) kind d else Err keys.Answer
