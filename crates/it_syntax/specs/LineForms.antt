-- The grammar of relations and of the constraints of `given` lines. `Name` flags a name that is unknown, `Word` H or I in its place,
-- `Many` the first letter past a limit, `Number` a denominator that is 0 or with which the least common multiple passes the limit.
use Rattle.it_syntax.specs.MeasureWords.{is_measure}
use Rattle.std.specs.Prelude.{ℕ, ◌-◌, ◌^◌, bit_or, Bool, true, false, List, [], ◌∷◌, ◌++◌, length, None, codes, unwrap_or, if◌then◌else◌, Some}
use Rattle.it_forms.specs.declared.types.Symbol.{Symbol}
use Rattle.it_forms.specs.declared.types.Symbol.TheVariants.{LeftParen, RightParen, Comma, Semicolon, Bar, Plus, Minus, Slash, Arrow, AtLeast, AtMost, Equal}
use Rattle.it_syntax.specs.declared.types.Atom.{Atom}
use Rattle.it_syntax.specs.declared.types.Atom.TheVariants.{Nothing, Entropy, Mutual, Rate}
use Rattle.it_syntax.specs.declared.types.Term.{Term}
use Rattle.it_syntax.specs.declared.types.Sign.{Sign}
use Rattle.it_syntax.specs.declared.types.Sign.TheVariants as comparisons
use Rattle.it_forms.specs.declared.types.Code.TheVariants as codes
use Rattle.it_syntax.specs.Scopes.{Environment, Scope}
use Rattle.it_syntax.specs.Multiples.{most_terms, multiple_with}
use Rattle.it_syntax.specs.Meaning.{RelationView, multiple_from}
use Rattle.it_syntax.specs.Givens.{GivenView, Relation, Markov, Independent, Function}
use Rattle.it_forms.specs.Forms.{Kind, Terminal, Punctuation, is_of, Form, Give, Take, If}
use Rattle.it_forms.specs.Words.{◌>>=◌, ◌>>◌, symbol, word, any_word, word_but, number, each, each_after, zero_alone, positive, allowed, but, missing_flag}

-- ---- atoms

-- the name of a variable
unfoldable pub variable : Environment → Form ℕ
variable env = Take (any_word (λ w. (if is_measure w then Some codes.Word else missing_flag codes.Name (env w), unwrap_or (env w) 0)))

-- further names, each after a comma, added to a set
unfoldable pub more_names : Environment → ℕ → Form ℕ
more_names env set = each_after Comma (λ set. variable env) (λ set i. bit_or set (2 ^ i)) set

-- names with commas between them, by the set of them
unfoldable pub names : Environment → Form ℕ
names env = do
  i ← variable env
  more_names env (2 ^ i)

-- `)`, or `|`, names and `)`
unfoldable pub given_set : Environment → Form ℕ
given_set env = If (symbol Bar) (λ u. do
  c ← names env
  Take (symbol RightParen)
  Give c)
    (Take (symbol RightParen) >> Give 0)

-- after `H`
unfoldable pub entropy : Environment → Form Atom
entropy env = do
  Take (symbol LeftParen)
  a ← names env
  c ← given_set env
  Give (Entropy a c)

-- after `I`
unfoldable pub mutual_information : Environment → Form Atom
mutual_information env = do
  Take (symbol LeftParen)
  a ← names env
  Take (symbol Semicolon)
  b ← names env
  c ← given_set env
  Give (Mutual a b c)

-- an entropy, a mutual information, or something else
abbrev pub measure_or : Environment → Form Atom → Form Atom
measure_or env other = If (word (codes "H")) (λ u. entropy env) (If (word (codes "I")) (λ u. mutual_information env) other)

-- the name of a rate: any word but `H` and `I`
abbrev pub rate : Environment → Terminal Atom
rate rates = word_but (codes "H" ∷ codes "I" ∷ []) (λ w. (missing_flag codes.Name (rates w), Rate (unwrap_or (rates w) 0)))

-- an entropy, a mutual information or a rate
unfoldable pub atom : Scope → Form Atom
atom s = measure_or s.variables (Take (rate s.rates))

-- an atom, or nothing
unfoldable pub atom_or_nothing : Scope → Form Atom
atom_or_nothing s = measure_or s.variables (If (rate s.rates) Give (Give Nothing))

-- ---- terms and sums; m is the least common multiple of the denominators before

-- n / d times the atom that f reads, negative if `minus`
abbrev pub counted : Bool → ℕ → ℕ → Form Atom → Form Term
counted minus n d f = do
  a ← f
  Give (record { negative = minus; number = n; denominator = d; atom = a })

-- a denominator
abbrev pub denominator : ℕ → Terminal ℕ
denominator m = number (λ d. missing_flag codes.Number (multiple_with m d))

-- after a number n: `/`, a denominator and an atom, or else the atom that f reads
abbrev pub over_or : ℕ → Scope → Bool → ℕ → Form Atom → Form Term
over_or m s minus n f = If (symbol Slash) (λ u. Take (denominator m) >>= λ d. counted minus n d (atom s)) (counted minus n 1 f)

-- `0`, an atom, a number and an atom, a fraction and an atom
unfoldable pub term : ℕ → Scope → Bool → Form Term
term m s minus =
    If zero_alone (λ u. over_or m s minus 0 (atom_or_nothing s))
    (If positive (λ n. over_or m s minus n (atom s))
    (counted minus 1 1 (atom s)))

-- `+` and `-`
abbrev pub signs : List Kind
signs = Punctuation Plus ∷ Punctuation Minus ∷ []

-- the terms `ts` and further ones, each after a sign, at most `most` in all
unfoldable pub more_terms : ℕ → ℕ → Scope → List Term → Form (List Term)
more_terms most m s ts =
    each signs (λ ts l. (None, is_of (Punctuation Minus) l))
    (λ ts minus. allowed (most - length ts) (term (multiple_from m ts) s minus)) (λ ts t. ts ++ t ∷ []) ts

-- one to `most` terms, the first negative if `minus`
unfoldable pub terms : ℕ → ℕ → Scope → Bool → Form (List Term)
terms most m s minus = do
  t ← allowed most (term m s minus)
  more_terms most m s (t ∷ [])

-- a sum of one to `most` terms, the first with or without a sign
unfoldable pub sum : ℕ → ℕ → Scope → Form (List Term)
sum most m s =
    If (symbol Plus) (λ u. terms most m s false)
    (If (symbol Minus) (λ u. terms most m s true)
    (terms most m s false))

-- ---- relations

-- `>=`, `<=` or `=`
unfoldable pub compare : Form Sign
compare =
    If (symbol AtLeast) (λ u. Give comparisons.AtLeast)
    (If (symbol AtMost) (λ u. Give comparisons.AtMost)
    (Take (symbol Equal) >> Give comparisons.Equal))

-- two sums with a comparison between them, of at most 256 terms together
unfoldable pub relation : Scope → Form RelationView
relation s = do
  left ← sum most_terms 1 s
  sign ← compare
  right ← sum (most_terms - length left) (multiple_from 1 left) s
  Give (record { left = left; sign = sign; right = right })

-- ---- the constraints of `given` lines

-- the most members of a chain or an independence
abbrev pub most_members : ℕ
most_members = 16

-- further members, each after a divider
unfoldable pub more_members : Symbol → Environment → List ℕ → Form (List ℕ)
more_members divider env sets = each_after divider (λ sets. allowed (most_members - length sets) (names env)) (λ sets set. sets ++ set ∷ []) sets

-- after `markov`: three lists or more
unfoldable pub chain : Environment → Form GivenView
chain env = do
  a ← names env
  Take (symbol Arrow)
  b ← names env
  Take (symbol Arrow)
  c ← names env
  sets ← more_members Arrow env (a ∷ b ∷ c ∷ [])
  Give (Markov sets)

-- `|` and names, or nothing
unfoldable pub after_bar : Environment → Form ℕ
after_bar env = If (symbol Bar) (λ u. names env) (Give 0)

-- after `indep`: two lists or more, and what is given, if anything is
unfoldable pub independence : Environment → Form GivenView
independence env = do
  a ← names env
  Take (symbol Semicolon)
  b ← names env
  sets ← more_members Semicolon env (a ∷ b ∷ [])
  given ← after_bar env
  Give (Independent sets given)

-- after `func`: a list, `of`, and the list of its argument
unfoldable pub function : Environment → Form GivenView
function env = do
  value ← names env
  Take (word (codes "of"))
  argument ← names env
  Give (Function value argument)

-- the constraint of a `given` line; what begins with one of its words is never a relation
unfoldable pub given : Scope → Form GivenView
given s =
    If (word (codes "markov")) (λ u. chain s.variables)
    (If (word (codes "indep")) (λ u. independence s.variables)
    (If (word (codes "func")) (λ u. function s.variables)
    (but (codes "markov" ∷ codes "indep" ∷ codes "func" ∷ []) (relation s) >>= λ r. Give (Relation r))))
