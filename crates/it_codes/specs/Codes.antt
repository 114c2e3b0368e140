-- Linear codes: variables that are linear functions of a uniform message over a finite field, and their entropies
-- (R. W. Yeung, "Information Theory and Network Coding", 2008).
use Rattle.std.specs.Prelude.{◌≡◌, ℕ, ◌+◌, ◌*◌, ◌/◌, ◌%◌, ◌^◌, ◌≤◌, ◌<◌, Bool, cond, nat_eq, bit_and, pos, ℤ, List, [], ◌∷◌, map, length, Option, Some, None}
use Rattle.std.specs.List.{list_all, count_by, range_with_len}
use Rattle.it_space.specs.Rows.{point_of}
use Rattle.it_codes.specs.declared.codes.Field.{Field}
use Rattle.it_codes.specs.declared.codes.Field.TheVariants.{Two, Three}
use Rattle.it_codes.specs.declared.codes.Variable.{Variable}
use Rattle.it_space.specs.Spaces.{most_variables}

-- a linear code as contracts see it: its field, the number of a message's symbols, and of each variable its functions' coefficients
pub record CodeView : Type 0 where
  pub field : Field
  pub symbols : ℕ
  pub variables : List (List (List ℕ))

-- a variable's functions
abbrev pub functions_of : Variable → List (List ℕ)
functions_of v = map (λ f. f.items) v.functions.items

-- the number of elements of a field: they are the remainders modulo this number
abbrev pub size : Field → ℕ
size Two = 2
size Three = 3

-- the value of a linear function at a message, up to multiples of q: the sum of each coefficient times its symbol. The message is
-- a number whose digits to base q, from the lowest, are its symbols.
abbrev pub value_at : ℕ → List ℕ → ℕ → ℕ
value_at q [] message = 0
value_at q (c ∷ cs) message = c * (message % q) + value_at q cs (message / q)

-- whether a linear function is 0 at a message
abbrev pub is_zero_at : ℕ → ℕ → List ℕ → Bool
is_zero_at q message function = nat_eq (value_at q function message % q) 0

-- whether all of functions are 0 at a message
abbrev pub vanishes : ℕ → ℕ → List (List ℕ) → Bool
vanishes q message functions = list_all (is_zero_at q message) functions

-- the set of the variables that are 0 at a message
abbrev pub zero_set : ℕ → ℕ → List (List (List ℕ)) → ℕ
zero_set q message [] = 0
zero_set q message (v ∷ vs) = cond (vanishes q message v) 1 0 + 2 * zero_set q message vs

-- the sets of the variables that are 0 at each message of k symbols
abbrev pub zero_sets : ℕ → ℕ → List (List (List ℕ)) → List ℕ
zero_sets q k variables = map (λ message. zero_set q message variables) (range_with_len 0 (q ^ k))

-- the sets of a code's variables that are 0 at each message
abbrev pub code_sets : CodeView → List ℕ
code_sets code = zero_sets (size code.field) code.symbols code.variables

-- the number of sets that contain s
abbrev pub count_around : ℕ → List ℕ → ℕ
count_around s sets = count_by (λ t. nat_eq (bit_and s t) s) sets

-- the number of messages at which all functions of the variables in s are 0
abbrev pub kernel_size : CodeView → ℕ → ℕ
kernel_size code s = count_around s (code_sets code)

-- h is the entropy of a set of variables, in units of log q: together they take q ^ h values, each at as many messages as 0
abbrev pub IsEntropy : CodeView → ℕ → ℕ → Type 0
IsEntropy code s h = kernel_size code s * size code.field ^ h ≡ size code.field ^ code.symbols

-- the number of variables
abbrev pub variables_of : CodeView → ℕ
variables_of code = length code.variables

-- the value of s at the point is times times its entropy
abbrev pub HasEntropy : CodeView → ℕ → List ℤ → ℕ → Type 0
HasEntropy code times values s = (h : ℕ) × (point_of values s ≡ pos (times * h)) × IsEntropy code s h

-- the value of each nonempty set is times times its entropy
abbrev pub AreEntropies : CodeView → ℕ → List ℤ → Type 0
AreEntropies code times values = (s : ℕ) → 1 ≤ s → s < 2 ^ variables_of code → HasEntropy code times values s

-- s is the first nonempty set whose value isn't times times its entropy
pub record IsFirstOther (code : CodeView) (times : ℕ) (values : List ℤ) (s : ℕ) : Type 0 where
  pub from_one : 1 ≤ s
  pub within : s < 2 ^ variables_of code
  pub before : (t : ℕ) → 1 ≤ t → t < s → HasEntropy code times values t
  pub other : ¬ HasEntropy code times values s

-- the first set whose value isn't times times its entropy; None where all values are
abbrev pub FirstOtherIs : CodeView → ℕ → List ℤ → Option ℕ → Type 0
FirstOtherIs code times values (Some s) = IsFirstOther code times values s
FirstOtherIs code times values None = AreEntropies code times values

-- some nonempty set of variables has no whole number as its entropy
abbrev pub LackEntropy : CodeView → Type 0
LackEntropy code = (s : ℕ) × (1 ≤ s) × (s < 2 ^ variables_of code) × ((h : ℕ) → ¬ IsEntropy code s h)

-- the most messages of a code that functions accept
abbrev pub most_messages : ℕ
most_messages = 4096

-- the codes that functions accept: of at least one variable, and no more than a space has, with at most most_messages messages
pub record IsCode (code : CodeView) : Type 0 where
  pub some : 1 ≤ variables_of code
  pub few : variables_of code ≤ most_variables
  pub messages : size code.field ^ code.symbols ≤ most_messages
