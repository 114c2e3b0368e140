-- The outlines of the forms of the grammar: at each place the next letter tells what goes on.
use Rattle.std.specs.Prelude.{codes}
use Rattle.std.proofs.Common.{◌≡◌, ℕ, Bool, true, false, List, [], ◌∷◌, ◌++◌, Option, refl, sym, ap, subst}
use Rattle.it_forms.specs.declared.types.Symbol.{Symbol}
use Rattle.it_syntax.specs.declared.types.Term.{Term}
use Rattle.it_forms.specs.Letters.{Word, Number}
use Rattle.it_syntax.specs.Scopes.{Environment, Scope}
use Rattle.it_syntax.specs.LineForms.{signs, counted, denominator, over_or, variable, more_names, names, given_set, entropy, mutual_information, atom, atom_or_nothing, term, more_terms, terms, sum, compare, relation, more_members, chain, after_bar, independence, function, given}
use Rattle.it_forms.specs.declared.types.Symbol.TheVariants.{LeftParen, RightParen, Comma, Semicolon, Bar, Plus, Minus, Slash, Arrow, AtLeast, AtMost, Equal}
use Rattle.it_forms.specs.declared.types.Code.{Code}
use Rattle.it_forms.specs.Forms.{Kind, WordBut, Punctuation, Keyword, Zero, Positive, Form, Give, Take, Then, If, While}
use Rattle.it_forms.specs.Words.{flagged_terminal, flagged, terminal_but, but}
use Rattle.it_forms.proofs.Outlines.{Outline, all_apart, nothing, one_of, one_then, one_or, repeated, Has, has_give, has_take, has_then, has_if, has_while, has_symbol, has_flagged}

abbrev pub a_name : Outline
a_name = one_of (WordBut [] ∷ [])

pub variable_has : (env : Environment) → Has (variable env) a_name
unfolding variable
variable_has env = has_take _ (Word []) refl

pub more_names_has : (env : Environment) (set : ℕ) → Has (more_names env set) (repeated (Punctuation Comma ∷ []) a_name)
unfolding more_names
more_names_has env set = has_while _ _ _ _ _ (λ set u. has_then _ _ _ _ (variable_has env) (λ i. has_give _) refl) refl

abbrev pub some_names : Outline
some_names = one_then a_name (repeated (Punctuation Comma ∷ []) a_name)

pub names_has : (env : Environment) → Has (names env) some_names
unfolding names
names_has env = has_then _ _ _ _ (variable_has env) (λ i. more_names_has env _) refl

given_set_has : (env : Environment) → Has (given_set env) (one_of (Punctuation Bar ∷ Punctuation RightParen ∷ []))
unfolding given_set
given_set_has env = has_if _ _ _ _ _ (λ u. has_then _ _ _ _ (names_has env)
    (λ c. has_then _ _ _ _ (has_symbol RightParen) (λ u. has_give _) refl) refl)
    (has_then _ _ _ _ (has_symbol RightParen) (λ u. has_give _) refl) refl

entropy_has : (env : Environment) → Has (entropy env) (one_of (Punctuation LeftParen ∷ []))
unfolding entropy
entropy_has env = has_then _ _ _ _ (has_symbol LeftParen) (λ u. has_then _ _ _ _ (names_has env)
    (λ a. has_then _ _ _ _ (given_set_has env) (λ c. has_give _) refl) refl) refl

mutual_information_has : (env : Environment) → Has (mutual_information env) (one_of (Punctuation LeftParen ∷ []))
unfolding mutual_information
mutual_information_has env = has_then _ _ _ _ (has_symbol LeftParen) (λ u. has_then _ _ _ _ (names_has env)
    (λ a. has_then _ _ _ _ (has_symbol Semicolon) (λ u. has_then _ _ _ _ (names_has env)
    (λ b. has_then _ _ _ _ (given_set_has env) (λ c. has_give _) refl) refl) refl) refl) refl

abbrev measures : List Kind
measures = Keyword (codes "H") ∷ Keyword (codes "I") ∷ []

abbrev rates_but : List (List ℕ) → Kind
rates_but ts = WordBut (ts ++ codes "H" ∷ codes "I" ∷ [])

-- an atom in front of which some words don't stand
abbrev an_atom : List (List ℕ) → Outline
an_atom ts = one_of (measures ++ rates_but ts ∷ [])

pub atom_has : (s : Scope) → Has (atom s) (an_atom [])
unfolding atom
atom_has s = has_if _ _ _ _ _ (λ u. entropy_has s.variables) (has_if _ _ _ _ _ (λ u. mutual_information_has s.variables) (has_take _ (Word []) refl) refl) refl

abbrev maybe_atom : Outline
maybe_atom = record { begins = measures ++ rates_but [] ∷ []; skips = true; goes = rates_but [] ∷ Keyword (codes "I") ∷ Keyword (codes "H") ∷ [] }

pub atom_or_nothing_has : (s : Scope) → Has (atom_or_nothing s) maybe_atom
unfolding atom_or_nothing
atom_or_nothing_has s = has_if _ _ _ _ _ (λ u. entropy_has s.variables)
    (has_if _ _ _ _ _ (λ u. mutual_information_has s.variables) (has_if _ _ _ _ _ (λ a. has_give a) (has_give _) refl) refl) refl

abbrev pub a_term : List (List ℕ) → Outline
a_term ts = record { begins = Zero ∷ Positive ∷ measures ++ rates_but ts ∷ []; skips = false; goes = rates_but [] ∷ Keyword (codes "I") ∷ Keyword (codes "H") ∷ Punctuation Slash ∷ [] }

abbrev over_a_number : Outline
over_a_number = one_then (one_of (Zero ∷ Positive ∷ [])) (one_then (an_atom []) nothing)

denominator_has : (m : ℕ) (s : Scope) (minus : Bool) (n : ℕ) → Has (Then (Take (denominator m)) (λ d. counted minus n d (atom s))) over_a_number
denominator_has m s minus n = has_then _ _ _ _ (has_take _ (Number 1) refl) (λ d. has_then _ _ _ _ (atom_has s) (λ a. has_give _) refl) refl

-- after a number: a denominator and an atom, or else the atom of the number
over_atom : (m : ℕ) (s : Scope) (minus : Bool) (n : ℕ)
    → Has (over_or m s minus n (atom s)) (one_or (Punctuation Slash ∷ []) over_a_number (one_then (an_atom []) nothing))
over_atom m s minus n = has_if _ _ _ _ _ (λ u. denominator_has m s minus n) (has_then _ _ _ _ (atom_has s) (λ a. has_give _) refl) refl

over_zero : (m : ℕ) (s : Scope) (minus : Bool) → Has (over_or m s minus 0 (atom_or_nothing s))
    (one_or (Punctuation Slash ∷ []) over_a_number (one_then maybe_atom nothing))
over_zero m s minus = has_if _ _ _ _ _ (λ u. denominator_has m s minus 0) (has_then _ _ _ _ (atom_or_nothing_has s) (λ a. has_give _) refl) refl

term_has : (m : ℕ) (s : Scope) (minus : Bool) → Has (term m s minus) (a_term [])
unfolding term
term_has m s minus = has_if _ _ _ _ _ (λ u. over_zero m s minus) (has_if _ _ _ _ _ (λ n. over_atom m s minus n)
    (has_then _ _ _ _ (atom_has s) (λ a. has_give _) refl) refl) refl

abbrev further_terms : Outline
further_terms = repeated signs (one_then (a_term []) nothing)

more_terms_has : (most m : ℕ) (s : Scope) (ts : List Term) → Has (more_terms most m s ts) further_terms
unfolding more_terms
more_terms_has most m s ts = has_while _ _ _ _ _ (λ ts minus. has_then _ _ _ _ (has_flagged _ _ _ (term_has _ s minus)) (λ t. has_give _) refl) refl

abbrev some_terms : List (List ℕ) → Outline
some_terms ts = one_then (a_term ts) further_terms

terms_has : (most m : ℕ) (s : Scope) (minus : Bool) → Has (terms most m s minus) (some_terms [])
unfolding terms
terms_has most m s minus = has_then _ _ _ _ (has_flagged _ _ _ (term_has m s minus)) (λ t. more_terms_has most m s _) refl

abbrev pub a_sum : List (List ℕ) → Outline
a_sum ts = one_or (Punctuation Plus ∷ []) (some_terms []) (one_or (Punctuation Minus ∷ []) (some_terms []) (some_terms ts))

pub sum_has : (most m : ℕ) (s : Scope) → Has (sum most m s) (a_sum [])
unfolding sum
sum_has most m s = has_if _ _ _ _ _ (λ u. terms_has most m s false) (has_if _ _ _ _ _ (λ u. terms_has most m s true) (terms_has most m s false) refl) refl

abbrev a_comparison : Outline
a_comparison = one_of (Punctuation AtLeast ∷ Punctuation AtMost ∷ Punctuation Equal ∷ [])

compare_has : Has compare a_comparison
unfolding compare
compare_has = has_if _ _ _ _ _ (λ u. has_give _) (has_if _ _ _ _ _ (λ u. has_give _) (has_then _ _ _ _ (has_symbol Equal) (λ u. has_give _) refl) refl) refl

abbrev pub a_relation : List (List ℕ) → Outline
a_relation ts = one_then (a_sum ts) (one_then a_comparison (one_then (a_sum []) nothing))

pub relation_has : (s : Scope) → Has (relation s) (a_relation [])
unfolding relation
relation_has s = has_then _ _ _ _ (sum_has _ _ s) (λ left. has_then _ _ _ _ compare_has
    (λ sign. has_then _ _ _ _ (sum_has _ _ s) (λ right. has_give _) refl) refl) refl

-- ---- the constraints of `given` lines

members_has : (d : Symbol) (env : Environment) (sets : List ℕ) → all_apart (Punctuation Comma ∷ []) (Punctuation d ∷ []) ≡ true
    → Has (more_members d env sets) (repeated (Punctuation d ∷ []) (one_then some_names nothing))
unfolding more_members
members_has d env sets e = has_while _ _ _ _ _ (λ sets u. has_then _ _ _ _ (has_flagged _ _ _ (names_has env)) (λ set. has_give _) refl) e

abbrev a_constraint : List Kind → Outline
a_constraint goes = record { begins = WordBut [] ∷ []; skips = false; goes = goes }

chain_has : (env : Environment) → Has (chain env) (a_constraint (Punctuation Arrow ∷ Punctuation Comma ∷ Punctuation Comma ∷ []))
unfolding chain
chain_has env =
    has_then _ _ _ _ (names_has env) (λ a. has_then _ _ _ _ (has_symbol Arrow)
    (λ u. has_then _ _ _ _ (names_has env) (λ b. has_then _ _ _ _ (has_symbol Arrow) (λ u. has_then _ _ _ _ (names_has env) (λ c.
    has_then _ _ _ _ (members_has Arrow env _ refl) (λ sets. has_give _) refl) refl) refl) refl) refl) refl

after_bar_has : (env : Environment) → Has (after_bar env) (one_or (Punctuation Bar ∷ []) some_names nothing)
unfolding after_bar
after_bar_has env = has_if _ _ _ _ _ (λ u. names_has env) (has_give _) refl

independence_has : (env : Environment) → Has (independence env) (a_constraint
    (Punctuation Comma ∷ Punctuation Bar ∷ Punctuation Semicolon ∷ Punctuation Comma ∷ Punctuation Comma ∷ []))
unfolding independence
independence_has env =
    has_then _ _ _ _ (names_has env) (λ a. has_then _ _ _ _ (has_symbol Semicolon) (λ u. has_then _ _ _ _ (names_has env) (λ b.
    has_then _ _ _ _ (members_has Semicolon env _ refl) (λ sets. has_then _ _ _ _ (after_bar_has env) (λ given. has_give _) refl) refl) refl) refl) refl

function_has : (env : Environment) → Has (function env) (a_constraint (Punctuation Comma ∷ []))
unfolding function
function_has env = has_then _ _ _ _ (names_has env) (λ value. has_then _ _ _ _ (has_take _ (Word (codes "of")) refl) (λ u. has_then _ _ _ _ (names_has env) (λ argument. has_give _) refl) refl) refl

-- ---- a relation in front of which `markov`, `indep` and `func` don't stand

abbrev forms : List (List ℕ)
forms = codes "markov" ∷ codes "indep" ∷ codes "func" ∷ []

atom_but : (s : Scope) → Has (but forms (atom s)) (an_atom forms)
unfolding atom but
atom_but s = has_if _ _ _ _ _ (λ u. entropy_has s.variables) (has_if _ _ _ _ _ (λ u. mutual_information_has s.variables) (has_take _ (Word []) refl) refl) refl

term_but : (m : ℕ) (s : Scope) (minus : Bool) → Has (but forms (term m s minus)) (a_term forms)
unfolding term but
term_but m s minus = has_if _ _ _ _ _ (λ u. over_zero m s minus) (has_if _ _ _ _ _ (λ n. over_atom m s minus n)
    (has_then _ _ _ _ (atom_but s) (λ a. has_give _) refl) refl) refl

-- the flags of a first letter and its words don't meet
but_flagged : {A : Type 0} (ts : List (List ℕ)) (m : Option Code) (f : Form A) → but ts (flagged m f) ≡ flagged m (but ts f)
unfolding but flagged
but_flagged ts m (Give a) = refl
but_flagged ts m (Take t) = refl
but_flagged ts m (Then f g) = ap (λ (h : Form _). Then h g) (but_flagged ts m f)
but_flagged ts m (If t g h) = ap (λ (h : Form _). If (flagged_terminal m (terminal_but ts t)) g h) (but_flagged ts m h)
but_flagged ts m (While ks says step a) = refl

terms_but : (most m : ℕ) (s : Scope) (minus : Bool) → Has (but forms (terms most m s minus)) (some_terms forms)
unfolding terms but
terms_but most m s minus = has_then _ _ _ _ (subst (λ (f : Form Term). Has f (a_term forms)) (sym (but_flagged forms _ (term m s minus)))
    (has_flagged _ _ _ (term_but m s minus))) (λ t. more_terms_has most m s _) refl

sum_but : (most m : ℕ) (s : Scope) → Has (but forms (sum most m s)) (a_sum forms)
unfolding sum but
sum_but most m s = has_if _ _ _ _ _ (λ u. terms_has most m s false) (has_if _ _ _ _ _ (λ u. terms_has most m s true) (terms_but most m s false) refl) refl

relation_but : (s : Scope) → Has (but forms (relation s)) (a_relation forms)
unfolding relation but
relation_but s = has_then _ _ _ _ (sum_but _ _ s) (λ left. has_then _ _ _ _ compare_has
    (λ sign. has_then _ _ _ _ (sum_has _ _ s) (λ right. has_give _) refl) refl) refl

abbrev pub a_given : Outline
a_given =
    one_or (Keyword (codes "markov") ∷ []) (a_constraint (Punctuation Arrow ∷ Punctuation Comma ∷ Punctuation Comma ∷ []))
    (one_or (Keyword (codes "indep") ∷ []) (a_constraint (Punctuation Comma ∷ Punctuation Bar ∷ Punctuation Semicolon ∷ Punctuation Comma ∷ Punctuation Comma ∷ []))
    (one_or (Keyword (codes "func") ∷ []) (a_constraint (Punctuation Comma ∷ [])) (one_then (a_relation forms) nothing)))

pub given_has : (s : Scope) → Has (given s) a_given
unfolding given
given_has s = has_if _ _ _ _ _ (λ u. chain_has s.variables) (has_if _ _ _ _ _ (λ u. independence_has s.variables)
    (has_if _ _ _ _ _ (λ u. function_has s.variables) (has_then _ _ _ _ (relation_but s) (λ r. has_give _) refl) refl) refl) refl
