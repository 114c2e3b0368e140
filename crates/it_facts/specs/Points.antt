-- Facts that determine a point: values of its sets and rates, variables that are constant or functions of others, and sets of
-- independent ones. The other values follow by the axioms of polymatroids (R. W. Yeung, "A Framework for Linear Information
-- Inequalities", 1997).
use Rattle.std.specs.Prelude.{◌≡◌, ℕ, zero, suc, ◌+◌, ◌^◌, ◌<◌, ℤ, pos, ◌+ℤ◌, List, [], ◌++◌, length, map, slice_index_or, cond, false, bit_or, All, codes}
use Rattle.std.specs.Fmt.{signed_decimal}
use Rattle.it_space.specs.Rows.{point_of}
use Rattle.it_space.specs.Sets.{has_member}
use Rattle.it_polymatroid.specs.Polymatroid.{IsPolymatroid}
use Rattle.it_syntax.specs.NamesViews.{NamesView}
use Rattle.it_print.specs.Lines.{joined_texts, members_from, set_text}
use Rattle.it_facts.specs.declared.facts.Fact.{Fact}
use Rattle.it_facts.specs.declared.facts.Fact.TheVariants.{Entropy, Rate, Constant, Equal, Function, Independent}

-- the sum of the entropies of those of the first n variables that are members of the set
abbrev pub sum_of_members : ℕ → (ℕ → ℤ) → ℕ → ℤ
sum_of_members zero p set = pos 0
sum_of_members (suc i) p set = cond (has_member set i) (p (2 ^ i)) (pos 0) +ℤ sum_of_members i p set

-- H(x|set) = 0: variable x is a function of the set
abbrev pub IsFunction : (ℕ → ℤ) → ℕ → ℕ → Type 0
IsFunction p x set = p (bit_or set (2 ^ x)) ≡ p set

-- the set is a nonempty set of n variables
abbrev pub IsSomeSet : ℕ → ℕ → Type 0
IsSomeSet n set = (0 < set) × (set < 2 ^ n)

-- the fact is about variables among n and rates among `rates`, and about no empty set
abbrev pub IsFactOver : ℕ → ℕ → Fact → Type 0
IsFactOver n rates (Entropy set value) = IsSomeSet n set
IsFactOver n rates (Rate rate value) = rate < rates
IsFactOver n rates (Constant x) = x < n
IsFactOver n rates (Equal x y) = (x < n) × (y < n)
IsFactOver n rates (Function x set) = (x < n) × IsSomeSet n set
IsFactOver n rates (Independent set) = IsSomeSet n set

-- the fact is true of a map, whose values at rates stand after those at sets of the n variables
abbrev pub IsTrueOf : ℕ → (ℕ → ℤ) → Fact → Type 0
IsTrueOf n p (Entropy set value) = p set ≡ value
IsTrueOf n p (Rate rate value) = p (2 ^ n + rate) ≡ value
IsTrueOf n p (Constant x) = p (2 ^ x) ≡ pos 0
IsTrueOf n p (Equal x y) = IsFunction p x (2 ^ y) × IsFunction p y (2 ^ x)
IsTrueOf n p (Function x set) = IsFunction p x set
IsTrueOf n p (Independent set) = p set ≡ sum_of_members n p set

-- The facts are true of p, and of no other polymatroid with rates.
pub record Determine (n rates : ℕ) (facts : List Fact) (p : ℕ → ℤ) : Type 0 where
  pub over : All (IsFactOver n rates) facts
  pub true_of : All (IsTrueOf n p) facts
  pub alone : (q : ℕ → ℤ) → IsPolymatroid n q → All (IsTrueOf n q) facts → (c : ℕ) → c < 2 ^ n + rates → q c ≡ p c

-- the name of a variable
abbrev pub variable_name : NamesView → ℕ → List ℕ
variable_name v x = slice_index_or v.variables x []

-- a fact: `H(X,Y) = 2`, `R = 1`, `X constant`, `Y = X`, `func Z of X,Y`, `indep X;Y;Z`
unfoldable pub fact_text : NamesView → Fact → List ℕ
fact_text v (Entropy set value) = codes "H(" ++ set_text v.variables set ++ codes ") = " ++ signed_decimal value
fact_text v (Rate rate value) = slice_index_or v.rates rate [] ++ codes " = " ++ signed_decimal value
fact_text v (Constant x) = variable_name v x ++ codes " constant"
fact_text v (Equal x y) = variable_name v x ++ codes " = " ++ variable_name v y
fact_text v (Function x set) = codes "func " ++ variable_name v x ++ codes " of " ++ set_text v.variables set
fact_text v (Independent set) = codes "indep " ++ joined_texts (codes ";") false (members_from 0 v.variables set)

-- the facts in order, with `, ` between them
unfoldable pub facts_text : NamesView → List Fact → List ℕ
facts_text v facts = joined_texts (codes ", ") false (map (fact_text v) facts)

-- under these names the text has facts that determine the point with these values, which is 0 past them
pub record TellsPoint (v : NamesView) (values : List ℤ) (text : List ℕ) : Type 0 where
  pub facts : List Fact
  pub determine : Determine (length v.variables) (length v.rates) facts (point_of values)
  pub text_is : text ≡ facts_text v facts
