-- The members of a report's object, each as far as its shape goes.
use Rattle.std.specs.Prelude.{ℕ, ◌+◌, ◌^◌, ◌==◌, ◌&&◌, not, unsigned_abs, ℤ, List, [], ◌∷◌, length, Bool, true, if◌then◌else◌, codes, Option, Some, None, option_map, option_and_then, nat_le, bytes_eq}
use Rattle.std.specs.Option.{option_or, option_zip}
use Rattle.serde_json.specs.Data.{Data, Items, no_items, item}
use Rattle.serde_json.specs.Find.{get, as_str, as_array, as_number, as_u64}
use Rattle.it_space.specs.Rows.{Terms}
use Rattle.it_space.specs.Answers.{CertificateView}
use Rattle.it_space.specs.declared.answers.Cause.{Cause}
use Rattle.it_space.specs.declared.answers.Cause.TheVariants.{Pivots, Width, Scale, Rows, WideRate}
use Rattle.it_space.specs.declared.answers.Mark.{Mark}
use Rattle.it_syntax.specs.NamesViews.{index_of}
use Rattle.it_certificate.specs.declared.kinds.AnswerKind.{AnswerKind}
use Rattle.it_certificate.specs.declared.kinds.CauseKind.{CauseKind}
use Rattle.it_certificate.specs.declared.kinds.CauseKind.TheVariants as causes
use Rattle.it_certificate.specs.Numerals.{integer_of, below, step_of}
use Rattle.it_certificate.specs.Kinds.{answer_kind_of, cause_kind_of, mark_of, back_of}

-- a member as text
abbrev pub text_of : Option Data → Option (List ℕ)
text_of d = option_and_then as_str d

-- an integer as decimal text
unfoldable pub integer_at : Data → Option ℤ
integer_at d = option_and_then integer_of (as_str d)

-- an integer from 0 to 4294967295, written with digits alone
unfoldable pub count_at : Data → Option ℕ
count_at d = option_and_then (below (2 ^ 32)) (option_and_then as_u64 (as_number d))

-- the items of a pair
abbrev pub two_of : Items → Option (Data × Data)
two_of (item a (item b no_items)) = Some (a, b)
two_of ds = None

-- a term or a weight: a pair of a number and a decimal text
unfoldable pub pair_at : Data → Option (ℕ × ℤ)
pair_at d = option_and_then (λ p. option_zip (count_at p.0) (integer_at p.1)) (option_and_then two_of (as_array d))

-- `f` of each item, where each has one
abbrev pub all_of : {A : Type 0} → (Data → Option A) → Items → Option (List A)
all_of f no_items = Some []
all_of f (item d ds) = option_and_then (λ a. option_map (λ rest. a ∷ rest) (all_of f ds)) (f d)

-- `f` of each item of a member that is an array
abbrev pub list_at : {A : Type 0} → (Data → Option A) → Option Data → Option (List A)
list_at f d = option_and_then (all_of f) (option_and_then as_array d)

-- a list of n items
abbrev pub of_length : {A : Type 0} → ℕ → List A → Option (List A)
of_length n xs = if length xs == n then Some xs else None

-- a certificate: a scale and weights
unfoldable pub certificate_at : Data → Option CertificateView
certificate_at d = option_map (λ p. record { scale = p.0; weights = p.1 })
    (option_zip (option_and_then integer_at (get (codes "scale") d)) (list_at pair_at (get (codes "weights") d)))

-- the kind of the answer
unfoldable pub answer_kind_at : Data → Option AnswerKind
answer_kind_at d = option_and_then answer_kind_of (text_of (get (codes "answer") d))

-- the certificates of a member, `n` of them
abbrev pub certificates_of : ℕ → Option Data → Option (List CertificateView)
certificates_of n d = option_and_then (of_length n) (list_at certificate_at d)

-- the certificates that prove an answer, `n` of them
unfoldable pub proofs_at : ℕ → Data → Option (List CertificateView)
proofs_at n d = certificates_of n (get (codes "proofs") d)

-- the certificates that say from which lines rows come, `n` of them
unfoldable pub origins_at : ℕ → Data → Option (List CertificateView)
origins_at n d = certificates_of n (get (codes "origins") d)

-- the values of a point, `n` of them
unfoldable pub point_at : ℕ → Data → Option (List ℤ)
point_at n d = option_and_then (of_length n) (list_at integer_at (get (codes "point") d))

-- the side, of an equality or not
unfoldable pub back_at : Bool → Data → Option Bool
back_at equality d = option_and_then (back_of equality) (text_of (get (codes "side") d))

-- the kind of the cause
unfoldable pub cause_kind_at : Data → Option CauseKind
cause_kind_at d = option_and_then cause_kind_of (text_of (get (codes "cause") d))

-- a cause of this kind at `place`: a budget, a step, or a rate, which is one of these names; what is too wide is so at a step
-- or else at a rate
abbrev pub cause_of : List (List ℕ) → CauseKind → List ℕ → Option Cause
cause_of rates causes.Pivots place = option_map Pivots (step_of place)
cause_of rates causes.Width place = option_or (option_map Width (step_of place)) (option_map WideRate (index_of rates place))
cause_of rates causes.Scale place = if bytes_eq place (codes "0") then Some Scale else None
cause_of rates causes.Rows place = option_map Rows (index_of rates place)

-- the cause of this kind
unfoldable pub cause_at : List (List ℕ) → CauseKind → Data → Option Cause
cause_at rates kind d = option_and_then (cause_of rates kind) (text_of (get (codes "at") d))

-- whether the coordinates ascend from at least `from` to at most `size`, and no coefficient is 0
abbrev pub is_row_between : ℕ → ℕ → Terms → Bool
is_row_between from size [] = true
is_row_between from size (t ∷ ts) = (nat_le from t.0 && (nat_le t.0 size && not (unsigned_abs t.1 == 0))) && is_row_between (t.0 + 1) size ts

-- the terms, if they are those of a row over `size` coordinates
abbrev pub row_of : ℕ → Terms → Option Terms
row_of size ts = if is_row_between 1 size ts then Some ts else None

-- the terms of a row; a mark beside them counts for nothing
unfoldable pub unmarked_row_at : ℕ → Data → Option Terms
unmarked_row_at size d = option_and_then (row_of size) (list_at pair_at (get (codes "row") d))

-- a row's mark and its terms
unfoldable pub marked_row_at : ℕ → Data → Option (Mark × Terms)
marked_row_at size d = option_zip (option_and_then mark_of (text_of (get (codes "mark") d))) (unmarked_row_at size d)

-- the rows of a region
unfoldable pub rows_at : ℕ → Data → Option (List (Mark × Terms))
rows_at size d = list_at (marked_row_at size) (get (codes "rows") d)

-- a set of n variables, by its number
unfoldable pub set_at : ℕ → Data → Option ℕ
set_at n d = option_and_then (below (2 ^ n)) (count_at d)

-- `count` sets of `n` variables
unfoldable pub parts_at : ℕ → ℕ → Data → Option (List ℕ)
parts_at count n d = option_and_then (of_length count) (list_at (set_at n) (get (codes "parts") d))
