-- The answer of a report by its kind, or the first key that is missing or of another shape: one key after the other.
use Rattle.std.specs.Prelude.{ℕ, List, Result, Ok, Err, ok_or}
use Rattle.serde_json.specs.Data.{Data}
use Rattle.it_space.specs.Answers.{AnswerView}
use Rattle.it_space.specs.Answers.AnswerView.{No, Undecided, Contained}
use Rattle.it_syntax.specs.declared.types.Sign.{Sign}
use Rattle.it_elemental.specs.Generators.{is_equation}
use Rattle.it_demand.specs.Demands.{kind_of}
use Rattle.it_certificate.specs.declared.keys.Key.{Key}
use Rattle.it_certificate.specs.declared.keys.Key.TheVariants as keys
use Rattle.it_certificate.specs.Parts.{proofs_at, point_at, back_at, cause_kind_at, cause_at, parts_at}

-- `f` of what was read, or the key at fault
abbrev pub and_then : {A B : Type 0} → Result A Key → (A → Result B Key) → Result B Key
and_then (Ok a) f = f a
and_then (Err k) f = Err k

-- a no: a value for each of `size` coordinates, and a side
unfoldable pub no_at : ℕ → Sign → Data → Result AnswerView Key
no_at size sign d =
    and_then (ok_or (point_at size d) keys.Point) (λ values.
    and_then (ok_or (back_at (is_equation (kind_of sign)) d) keys.Side) (λ back. Ok (No back values)))

-- an undecided: its cause, and the step, budget or rate of the cause
unfoldable pub undecided_at : List (List ℕ) → Data → Result AnswerView Key
undecided_at rates d =
    and_then (ok_or (cause_kind_at d) keys.Cause) (λ kind.
    and_then (ok_or (cause_at rates kind d) keys.At) (λ cause. Ok (Undecided cause)))

-- a containment: `auxiliaries` sets of `variables` variables, and `obligations` certificates
unfoldable pub contained_at : ℕ → ℕ → ℕ → Data → Result AnswerView Key
contained_at auxiliaries variables obligations d =
    and_then (ok_or (parts_at auxiliaries variables d) keys.Parts) (λ parts.
    and_then (ok_or (proofs_at obligations d) keys.Proofs) (λ proofs. Ok (Contained parts proofs)))
