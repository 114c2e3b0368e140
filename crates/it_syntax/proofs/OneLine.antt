-- The forms of the grammar of relations and constraints end neither a line nor the file.
use Rattle.std.proofs.Common.{ℕ, Bool, List, refl}
use Rattle.it_forms.specs.declared.types.Symbol.{Symbol}
use Rattle.it_forms.specs.Forms.{Form, Give, Take, If}
use Rattle.it_forms.proofs.LineEnds.{HasNoEnd, no_end_flagged, no_end_but}
use Rattle.it_syntax.specs.declared.types.Atom.{Atom}
use Rattle.it_syntax.specs.declared.types.Atom.TheVariants.{Nothing}
use Rattle.it_syntax.specs.LineForms.{variable, more_names, names, given_set, entropy, mutual_information, measure_or, rate, atom, atom_or_nothing, over_or, term, more_terms, terms, sum, compare, relation, more_members, chain, after_bar, independence, function, given}
use Rattle.it_syntax.specs.Scopes.{Environment, Scope}

variable_has_no_end : (env : Environment) → HasNoEnd (variable env)
unfolding variable HasNoEnd
variable_has_no_end env = refl

pub names_has_no_end : (env : Environment) → HasNoEnd (names env)
unfolding names more_names HasNoEnd
names_has_no_end env = (variable_has_no_end env, λ i. (refl, λ set u. (variable_has_no_end env, λ i. tt)))

given_set_has_no_end : (env : Environment) → HasNoEnd (given_set env)
unfolding given_set HasNoEnd
given_set_has_no_end env = (refl, λ u. (names_has_no_end env, λ c. (refl, λ u. tt)), (refl, λ u. tt))

entropy_has_no_end : (env : Environment) → HasNoEnd (entropy env)
unfolding entropy HasNoEnd
entropy_has_no_end env = (refl, λ u. (names_has_no_end env, λ a. (given_set_has_no_end env, λ c. tt)))

mutual_information_has_no_end : (env : Environment) → HasNoEnd (mutual_information env)
unfolding mutual_information HasNoEnd
mutual_information_has_no_end env = (refl, λ u. (names_has_no_end env, λ a. (refl, λ u. (names_has_no_end env, λ b. (given_set_has_no_end env, λ c. tt)))))

measure_or_has_no_end : (env : Environment) (other : Form Atom) → HasNoEnd other → HasNoEnd (measure_or env other)
unfolding HasNoEnd
measure_or_has_no_end env other h = (refl, λ u. entropy_has_no_end env, (refl, λ u. mutual_information_has_no_end env, h))

atom_has_no_end : (s : Scope) → HasNoEnd (atom s)
unfolding atom HasNoEnd
atom_has_no_end s = measure_or_has_no_end s.variables (Take (rate s.rates)) refl

atom_or_nothing_has_no_end : (s : Scope) → HasNoEnd (atom_or_nothing s)
unfolding atom_or_nothing HasNoEnd
atom_or_nothing_has_no_end s = measure_or_has_no_end s.variables (If (rate s.rates) Give (Give Nothing)) (refl, λ a. tt, tt)

over_or_has_no_end : (m : ℕ) (s : Scope) (minus : Bool) (n : ℕ) (f : Form Atom) → HasNoEnd f → HasNoEnd (over_or m s minus n f)
unfolding HasNoEnd
over_or_has_no_end m s minus n f h = (refl, λ u. (refl, λ d. (atom_has_no_end s, λ a. tt)), (h, λ a. tt))

term_has_no_end : (m : ℕ) (s : Scope) (minus : Bool) → HasNoEnd (term m s minus)
unfolding term HasNoEnd
term_has_no_end m s minus = (
  refl,
  λ u. over_or_has_no_end m s minus 0 (atom_or_nothing s) (atom_or_nothing_has_no_end s),
  (refl, λ n. over_or_has_no_end m s minus n (atom s) (atom_has_no_end s), (atom_has_no_end s, λ a. tt)),
)

terms_has_no_end : (most m : ℕ) (s : Scope) (minus : Bool) → HasNoEnd (terms most m s minus)
unfolding terms more_terms HasNoEnd
terms_has_no_end most m s minus = (
  no_end_flagged _ (term m s minus) (term_has_no_end m s minus),
  λ t.
      (refl, λ ts minus. (no_end_flagged _ (term _ s minus) (term_has_no_end _ s minus), λ t. tt)),
)

pub sum_has_no_end : (most m : ℕ) (s : Scope) → HasNoEnd (sum most m s)
unfolding sum HasNoEnd
sum_has_no_end most m s = (refl, λ u. terms_has_no_end most m s _, (refl, λ u. terms_has_no_end most m s _, terms_has_no_end most m s _))

pub relation_has_no_end : (s : Scope) → HasNoEnd (relation s)
unfolding relation compare HasNoEnd
relation_has_no_end s = (sum_has_no_end _ _ s, λ left. ((refl, λ u. tt, (refl, λ u. tt, (refl, λ u. tt))), λ sign. (sum_has_no_end _ _ s, λ right. tt)))

members_has_no_end : (d : Symbol) (env : Environment) (sets : List ℕ) → HasNoEnd (more_members d env sets)
unfolding more_members HasNoEnd
members_has_no_end d env sets = (refl, λ sets u. (no_end_flagged _ (names env) (names_has_no_end env), λ set. tt))

chain_has_no_end : (env : Environment) → HasNoEnd (chain env)
unfolding chain HasNoEnd
chain_has_no_end env = let n = names_has_no_end env in (n, λ a. (refl, λ u. (n, λ b. (refl, λ u. (n, λ c. (members_has_no_end _ env _, λ sets. tt))))))

after_bar_has_no_end : (env : Environment) → HasNoEnd (after_bar env)
unfolding after_bar HasNoEnd
after_bar_has_no_end env = (refl, λ u. names_has_no_end env, tt)

independence_has_no_end : (env : Environment) → HasNoEnd (independence env)
unfolding independence HasNoEnd
independence_has_no_end env = let n = names_has_no_end env
    in (n, λ a. (refl, λ u. (n, λ b. (members_has_no_end _ env _, λ sets. (after_bar_has_no_end env, λ given. tt)))))

function_has_no_end : (env : Environment) → HasNoEnd (function env)
unfolding function HasNoEnd
function_has_no_end env = (names_has_no_end env, λ value. (refl, λ u. (names_has_no_end env, λ argument. tt)))

pub given_has_no_end : (s : Scope) → HasNoEnd (given s)
unfolding given HasNoEnd
given_has_no_end s = (
  refl,
  λ u. chain_has_no_end s.variables,
  (
    refl,
    λ u. independence_has_no_end s.variables,
    (refl, λ u. function_has_no_end s.variables, (no_end_but _ (relation s) (relation_has_no_end s), λ r. tt)),
  ),
)
