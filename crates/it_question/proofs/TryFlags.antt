-- The flag of the word `try`, by the number of auxiliaries and the number of lines that were read.
use Rattle.std.specs.Prelude.{is_some, if◌then◌else◌}
use Rattle.std.specs.List.{list_all}
use Rattle.std.proofs.Common.{◌≡◌, ℕ, zero, suc, ◌-◌, ◌≤◌, Bool, false, List, length, Option, Some, None, refl, ap, ◌∙◌, arith}
use Rattle.it_forms.specs.declared.types.Code.{Code}
use Rattle.it_forms.specs.declared.types.Code.TheVariants.{Word, Many}
use Rattle.it_forms.specs.Words.{limit_flag}
use Rattle.it_question.specs.QuestionLimits.{most_lines}
use Rattle.it_question.specs.TrySets.{unnamed_sets}
use Rattle.it_syntax.proofs.Loops.{no_limit}

-- the flag where these lines were read
abbrev pub flag_of_try : ℕ → List (List ℕ) → Option Code
flag_of_try auxiliaries ts = if list_all is_some (unnamed_sets auxiliaries) then Some Word else limit_flag (most_lines - length ts)

pub no_auxiliary : (auxiliaries : ℕ) (ts : List (List ℕ)) → auxiliaries ≡ 0 → flag_of_try auxiliaries ts ≡ Some Word
no_auxiliary zero ts e = refl
no_auxiliary (suc n) ts e = absurd (omega (arith, e))

some_auxiliary : (n : ℕ) → ¬ (n ≡ 0) → list_all is_some (unnamed_sets n) ≡ false
some_auxiliary zero h = absurd (h refl)
some_auxiliary (suc zero) h = refl
some_auxiliary (suc (suc zero)) h = refl
some_auxiliary (suc (suc (suc zero))) h = refl
some_auxiliary (suc (suc (suc (suc n)))) h = refl

pub no_more_tries : (auxiliaries : ℕ) (ts : List (List ℕ)) → ¬ (auxiliaries ≡ 0) → 64 ≤ length ts → flag_of_try auxiliaries ts ≡ Some Many
no_more_tries auxiliaries ts h le = let e : most_lines - length ts ≡ 0 = omega (arith, le) in rw (some_auxiliary auxiliaries h, e) refl

pub try_allowed : (auxiliaries : ℕ) (ts : List (List ℕ)) → ¬ (auxiliaries ≡ 0) → ¬ (64 ≤ length ts) → flag_of_try auxiliaries ts ≡ None
try_allowed auxiliaries ts h le = ap (λ (b : Bool). if b then Some Word else limit_flag (most_lines - length ts))
    (some_auxiliary auxiliaries h) ∙ no_limit (most_lines - length ts) (λ e. le (omega (arith, e)))
