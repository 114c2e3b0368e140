-- The sets of an entropy or a mutual information that is read are sets of the question's variables.
use Rattle.std.proofs.Common.{◌≡◌, ℕ, List, length, Ok}
use Rattle.it_forms.specs.Letters.{Letter}
use Rattle.it_forms.specs.FormReading.{read}
use Rattle.it_forms.proofs.FormParts.{Always, always_weaker, value_read}
use Rattle.it_syntax.specs.declared.types.Atom.{Atom}
use Rattle.it_syntax.specs.LineForms.{names, given_set, entropy, mutual_information}
use Rattle.it_syntax.specs.Meaning.{IsAtomOf}
use Rattle.it_syntax.specs.NamesViews.{NamesView}
use Rattle.it_syntax.specs.Scopes.{Environment, env_of}
use Rattle.it_syntax.proofs.FormLimits.{Knows, IsSet, empty_is_set, names_keep, knows_names}

given_set_keeps : (env : Environment) (n : ℕ) → Knows env n → Always (given_set env) (λ p s. IsSet n s)
unfolding given_set Always
given_set_keeps env n k = (λ l e m. always_weaker (names env) _ _ (λ p c hc l e m. hc) (names_keep env n k), λ l e m. empty_is_set n)

entropy_keeps : (env : Environment) (n m : ℕ) → Knows env n → Always (entropy env) (λ p a. IsAtomOf n m a)
unfolding entropy Always
entropy_keeps env n m k l e u = always_weaker (names env) _ _ (λ p a ha. always_weaker (given_set env) _ _ (λ q c hc. (ha, hc))
    (given_set_keeps env n k)) (names_keep env n k)

mutual_information_keeps : (env : Environment) (n m : ℕ) → Knows env n → Always (mutual_information env) (λ p a. IsAtomOf n m a)
unfolding mutual_information Always
mutual_information_keeps env n m k l e u = always_weaker (names env) _ _
    (λ p a ha l e u. always_weaker (names env) _ _ (λ q b hb. always_weaker (given_set env) _ _ (λ r c hc. (ha, hb, hc))
    (given_set_keeps env n k)) (names_keep env n k)) (names_keep env n k)

pub entropy_limited : (v : NamesView) (ls r : List Letter) (a : Atom) → read (entropy (env_of v)) ls ≡ Ok (a, r)
    → IsAtomOf (length v.variables) (length v.rates) a
entropy_limited v ls r a = value_read (entropy (env_of v)) _ ls r a (entropy_keeps (env_of v) _ _ (knows_names v))

pub mutual_information_limited : (v : NamesView) (ls r : List Letter) (a : Atom) → read (mutual_information (env_of v)) ls ≡ Ok (a, r)
    → IsAtomOf (length v.variables) (length v.rates) a
mutual_information_limited v ls r a = value_read (mutual_information (env_of v)) _ ls r a (mutual_information_keeps (env_of v) _ _ (knows_names v))
