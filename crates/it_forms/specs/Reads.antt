-- The results of reading letters from left to right: a value and the letters left, or a fault. No public clause cites this module.
use Rattle.std.specs.Prelude.{List, Result, Ok, Err}
use Rattle.it_forms.specs.declared.types.Code.{Code}
use Rattle.it_forms.specs.Letters.{Letter}
use Rattle.it_forms.specs.FirstFault.{own_code}

-- a fault: its code, and the letters left at it
abbrev pub Fault : Type 0
Fault = Code × List Letter

-- a value and the letters left after it, or a fault
abbrev pub Reads : Type 0 → Type 0
Reads A = Result (A × List Letter) Fault

-- what is read next by `f`, unless there was a fault
infixl 10 ◌>>=◌
abbrev pub ◌>>=◌ : {A B : Type 0} → Result A Fault → (A → Result B Fault) → Result B Fault
(Ok x) >>= f = f x
(Err e) >>= f = Err e

-- the fault where no rule goes on with the next letter
abbrev pub no_rule : {A : Type 0} → List Letter → Result A Fault
no_rule ls = Err (own_code ls, ls)
