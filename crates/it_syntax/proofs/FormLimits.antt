-- What is read keeps the limits: sets of the variables that there are, at most 256 terms, denominators with a least common
-- multiple within its limit, and no more members than are allowed.
use Rattle.std.proofs.Common.{◌≡◌, ℕ, ◌-◌, ◌^◌, ◌<◌, ◌≤◌, Bool, true, false, cond, List, [], ◌∷◌, ◌++◌, length, Option, Some, None, Ok, refl, sym, subst, arith}
use Rattle.std.specs.Prelude.{All, bit_or, bytes_eq, codes, unwrap_or}
use Rattle.std.proofs.Math.Pow.{pow-lt, ones_lt}
use Rattle.std.proofs.lemmas.Nat.{or_lt}
use Rattle.std.proofs.lemmas.List.{length-append}
use Rattle.std.proofs.lemmas.List.Elements.{All-nil, All-cons, All-append}
use Rattle.std.proofs.lemmas.List.Quantifiers.{position-Some}
use Rattle.it_number.specs.Gcd.{lcm}
use Rattle.it_forms.specs.declared.types.Code.TheVariants as codes
use Rattle.it_forms.specs.declared.types.Symbol.{Symbol}
use Rattle.it_forms.specs.declared.types.Symbol.TheVariants.{Comma, Minus}
use Rattle.it_forms.specs.Letters.{Letter}
use Rattle.it_forms.specs.Forms.{Punctuation, Form, Give, Take, If, is_of}
use Rattle.it_forms.specs.FormReading.{read}
use Rattle.it_forms.specs.Words.{text_of, number_of, allowed, but, missing_flag}
use Rattle.it_forms.proofs.FormParts.{Always, always_weaker, each_keeps, line_keeps, value_read}
use Rattle.it_forms.proofs.FlaggedParts.{Takes, always_allowed, always_but}
use Rattle.it_syntax.specs.declared.types.Atom.{Atom}
use Rattle.it_syntax.specs.declared.types.Term.{Term}
use Rattle.it_syntax.specs.declared.types.Sign.{Sign}
use Rattle.it_syntax.specs.GivenLines.{given_line}
use Rattle.it_syntax.specs.Givens.{GivenView, AreSetsOf, IsRelationOf, IsGivenOf}
use Rattle.it_syntax.specs.declared.types.Atom.TheVariants.{Nothing}
use Rattle.it_syntax.specs.LineForms.{variable, more_names, names, given_set, entropy, mutual_information, measure_or, rate, atom, atom_or_nothing, counted, over_or, term, signs, more_terms, terms, sum, compare, relation, more_members, chain, after_bar, independence, function, given}
use Rattle.it_syntax.specs.Meaning.{RelationView, IsAtomOf, multiple_from}
use Rattle.it_syntax.specs.Multiples.{most_terms, multiple_with}
use Rattle.it_syntax.specs.MeasureWords.{is_measure}
use Rattle.it_syntax.specs.NamesViews.{NamesView, index_of}
use Rattle.it_syntax.specs.RelationLines.{relation_line}
use Rattle.it_syntax.specs.Scopes.{Environment, Scope, env_of, scope_of}
use Rattle.it_syntax.proofs.MultipleLemmas.{IsMultiple, lcm_one, multiple-append, multiple_limited, one_is_multiple}

-- ---- names

-- the names are those of n variables
abbrev pub Knows : Environment → ℕ → Type 0
Knows env n = (w : List ℕ) (i : ℕ) → env w ≡ Some i → i < n

-- a set of n variables
abbrev pub IsSet : ℕ → ℕ → Type 0
IsSet n s = s < 2 ^ n

pub empty_is_set : (n : ℕ) → IsSet n 0
empty_is_set n = omega (arith, ones_lt n)

known_below : (n : ℕ) (o : Option ℕ) → missing_flag codes.Name o ≡ None → ((i : ℕ) → o ≡ Some i → i < n) → unwrap_or o 0 < n
known_below n (Some i) e h = h i refl
known_below n None e h = absurd cc

named_below : (n : ℕ) (b : Bool) (o : Option ℕ) → cond b (Some codes.Word) (missing_flag codes.Name o) ≡ None
    → ((i : ℕ) → o ≡ Some i → i < n) → unwrap_or o 0 < n
named_below n true o e h = absurd cc
named_below n false o e h = known_below n o e h

variable_keeps : (env : Environment) (n : ℕ) → Knows env n → Always (variable env) (λ p i. i < n)
unfolding variable Always
variable_keeps env n k l e m = named_below n (is_measure (text_of l)) (env (text_of l)) m (k (text_of l))

more_names_keep : (env : Environment) (n : ℕ) → Knows env n → (set : ℕ) → IsSet n set → Always (more_names env set) (λ p s. IsSet n s)
unfolding more_names
more_names_keep env n k = each_keeps (Punctuation Comma ∷ []) (λ a l. (None, tt)) (λ a u. variable env) (λ set i. bit_or set (2 ^ i))
    (IsSet n) (λ s hs l e m. always_weaker (variable env) _ _ (λ p i hi. or_lt n s (2 ^ i) hs (pow-lt hi)) (variable_keeps env n k))

pub names_keep : (env : Environment) (n : ℕ) → Knows env n → Always (names env) (λ p s. IsSet n s)
unfolding names Always
names_keep env n k = always_weaker (variable env) _ _ (λ p i hi. more_names_keep env n k (2 ^ i) (pow-lt hi)) (variable_keeps env n k)

-- ---- atoms

-- the names are those of n variables and m rates
pub record Covers (s : Scope) (n m : ℕ) : Type 0 where
  pub variables : Knows s.variables n
  pub rates : Knows s.rates m

given_set_keeps : (env : Environment) (n : ℕ) → Knows env n → Always (given_set env) (λ p s. IsSet n s)
unfolding given_set Always
given_set_keeps env n k = (λ l e m. always_weaker (names env) _ _ (λ p c hc l e m. hc) (names_keep env n k), λ l e m. empty_is_set n)

entropy_keeps : (env : Environment) (n m : ℕ) → Knows env n → Always (entropy env) (λ p a. IsAtomOf n m a)
unfolding entropy Always
entropy_keeps env n m k l e u = always_weaker (names env) _ _ (λ p a ha. always_weaker (given_set env) _ _ (λ q c hc. (ha, hc))
    (given_set_keeps env n k)) (names_keep env n k)

mutual_information_keeps : (env : Environment) (n m : ℕ) → Knows env n → Always (mutual_information env) (λ p a. IsAtomOf n m a)
unfolding mutual_information Always
mutual_information_keeps env n m k l e u = always_weaker (names env) _ _
    (λ p a ha l e u. always_weaker (names env) _ _ (λ q b hb. always_weaker (given_set env) _ _ (λ r c hc. (ha, hb, hc))
    (given_set_keeps env n k)) (names_keep env n k)) (names_keep env n k)

measure_or_keeps : (env : Environment) (n m : ℕ) (other : Form Atom) → Knows env n → Always other (λ p a. IsAtomOf n m a)
    → Always (measure_or env other) (λ p a. IsAtomOf n m a)
unfolding Always
measure_or_keeps env n m other k h = (λ l e u. entropy_keeps env n m k, (λ l e u. mutual_information_keeps env n m k, h))

atom_keeps : (s : Scope) (n m : ℕ) → Covers s n m → Always (atom s) (λ p a. IsAtomOf n m a)
unfolding atom Always
atom_keeps s n m k = measure_or_keeps s.variables n m (Take (rate s.rates)) k.variables (λ l e u. known_below m (s.rates (text_of l)) u (k.rates (text_of l)))

atom_or_nothing_keeps : (s : Scope) (n m : ℕ) → Covers s n m → Always (atom_or_nothing s) (λ p a. IsAtomOf n m a)
unfolding atom_or_nothing Always
atom_or_nothing_keeps s n m k = measure_or_keeps s.variables n m (If (rate s.rates) Give (Give Nothing)) k.variables
    (λ l e u. known_below m (s.rates (text_of l)) u (k.rates (text_of l)), tt)

-- ---- terms; k is the least common multiple of the denominators before

-- its atom is within the limits, and the multiple with its denominator
abbrev IsTermOf : ℕ → ℕ → ℕ → Term → Type 0
IsTermOf n m k t = IsAtomOf n m t.atom × IsMultiple (lcm k t.denominator)

counted_keeps : (n m k d : ℕ) (minus : Bool) (number : ℕ) (f : Form Atom) → IsMultiple (lcm k d) → Always f (λ p a. IsAtomOf n m a)
    → Always (counted minus number d f) (λ p t. IsTermOf n m k t)
unfolding Always
counted_keeps n m k d minus number f small h = always_weaker f _ _ (λ p a ha. (ha, small)) h

whole_keeps : (n m k : ℕ) (minus : Bool) (number : ℕ) (f : Form Atom) → IsMultiple k → Always f (λ p a. IsAtomOf n m a)
    → Always (counted minus number 1 f) (λ p t. IsTermOf n m k t)
whole_keeps n m k minus number f small h = counted_keeps n m k 1 minus number f (subst IsMultiple (sym (lcm_one k)) small) h

multiple_keeps : (k d : ℕ) (o : Option ℕ) → 1 ≤ k → multiple_with k d ≡ o → missing_flag codes.Number o ≡ None → IsMultiple (lcm k d)
multiple_keeps k d (Some x) h e m = multiple_limited k d x h e
multiple_keeps k d None h e m = absurd cc

over_or_keeps : (s : Scope) (n m k : ℕ) (minus : Bool) (number : ℕ) (f : Form Atom) → Covers s n m → IsMultiple k
    → Always f (λ p a. IsAtomOf n m a) → Always (over_or k s minus number f) (λ p t. IsTermOf n m k t)
unfolding Always
over_or_keeps s n m k minus number f c small h = (
  λ l e u x i v. counted_keeps n m k (number_of x) minus number (atom s)
      (multiple_keeps k (number_of x) (multiple_with k (number_of x)) small.0 refl v) (atom_keeps s n m c),
  whole_keeps n m k minus number f small h,
)

term_keeps : (s : Scope) (n m k : ℕ) (minus : Bool) → Covers s n m → IsMultiple k → Always (term k s minus) (λ p t. IsTermOf n m k t)
unfolding term Always
term_keeps s n m k minus c small = (
  λ l e u. over_or_keeps s n m k minus 0 (atom_or_nothing s) c small (atom_or_nothing_keeps s n m c),
  (λ l e u. over_or_keeps s n m k minus (number_of l) (atom s) c small (atom_keeps s n m c), whole_keeps n m k minus 1 (atom s) small (atom_keeps s n m c)),
)

-- ---- sums of at most `most` terms

-- at most `most` terms with atoms of n variables and m rates, where the least common multiple of k and their denominators is
-- within the limit
abbrev pub AreFew : ℕ → ℕ → ℕ → ℕ → List Term → Type 0
AreFew n m k most ts = (length ts ≤ most) × All (λ t. IsAtomOf n m t.atom) ts × IsMultiple (multiple_from k ts)

one_more_term : (n m k most : ℕ) (ts : List Term) (t : Term) → ¬ (most - length ts ≡ 0) → AreFew n m k most ts
    → IsTermOf n m (multiple_from k ts) t → AreFew n m k most (ts ++ t ∷ [])
one_more_term n m k most ts t left h e = (
  let s = length-append ts (t ∷ []) in omega (arith, s, left, h.0),
  All-append (λ (t : Term). IsAtomOf n m t.atom) ts (t ∷ []) h.1 (All-cons (λ (t : Term). IsAtomOf n m t.atom) t [] e.0
      (All-nil (λ (t : Term). IsAtomOf n m t.atom))),
  subst IsMultiple (sym (multiple-append k ts t)) e.1,
)

term_takes : (k : ℕ) (s : Scope) (minus : Bool) → Takes (term k s minus)
unfolding term atom Takes
term_takes k s minus = tt

more_terms_keep : (s : Scope) (n m k most : ℕ) → Covers s n m → (ts : List Term) → AreFew n m k most ts
    → Always (more_terms most k s ts) (λ p ts. AreFew n m k most ts)
unfolding more_terms
more_terms_keep s n m k most c = each_keeps signs (λ ts l. (None, is_of (Punctuation Minus) l))
    (λ ts minus. allowed (most - length ts) (term (multiple_from k ts) s minus)) (λ ts t. ts ++ t ∷ []) (AreFew n m k most)
    (λ ts h l e u. always_allowed _ _ _ (term_takes _ s _) (λ left. always_weaker (term _ s _) _ _
    (λ p t ht. one_more_term n m k most ts t left h ht) (term_keeps s n m _ _ c h.2)))

terms_keep : (s : Scope) (n m k most : ℕ) (minus : Bool) → Covers s n m → IsMultiple k → Always (terms most k s minus) (λ p ts. AreFew n m k most ts)
unfolding terms Always
terms_keep s n m k most minus c small = always_allowed _ _ _ (term_takes k s minus)
    (λ left. always_weaker (term k s minus) _ _ (λ p t ht. more_terms_keep s n m k most c (t ∷ [])
    (omega (arith, left), All-cons (λ (t : Term). IsAtomOf n m t.atom) t [] ht.0 (All-nil (λ (t : Term). IsAtomOf n m t.atom)), ht.1))
    (term_keeps s n m k minus c small))

pub sum_keeps : (s : Scope) (n m k most : ℕ) → Covers s n m → IsMultiple k → Always (sum most k s) (λ p ts. AreFew n m k most ts)
unfolding sum Always
sum_keeps s n m k most c small = (
  λ l e u. terms_keep s n m k most false c small,
  (λ l e u. terms_keep s n m k most true c small, terms_keep s n m k most false c small),
)

-- ---- relations

pub relation_keeps : (s : Scope) (n m : ℕ) → Covers s n m → Always (relation s) (λ p r. IsRelationOf n m r)
unfolding relation compare Always
relation_keeps s n m c = always_weaker (sum most_terms 1 s) _ _ (λ p left hl.
    (λ l e u. right left hl _, (λ l e u. right left hl _, λ l e u. right left hl _))) (sum_keeps s n m 1 most_terms c one_is_multiple)
  where
    right : (left : List Term) → AreFew n m 1 most_terms left → (sign : Sign)
        → Always (sum (most_terms - length left) (multiple_from 1 left) s)
        (λ p ts. IsRelationOf n m (record { left = left; sign = sign; right = ts }))
    right left hl sign = always_weaker (sum (most_terms - length left) (multiple_from 1 left) s) _ _
        (λ p ts hr. record { few = omega (arith, hl.0, hr.0); left = hl.1; right = hr.1; some_multiple = hr.2.0; small_multiple = hr.2.1 })
        (sum_keeps s n m (multiple_from 1 left) (most_terms - length left) c hl.2)

-- ---- the constraints of `given` lines

one_more_member : (n least : ℕ) (sets : List ℕ) (s : ℕ) → ¬ (16 - length sets ≡ 0) → AreSetsOf n least 16 sets → IsSet n s
    → AreSetsOf n least 16 (sets ++ s ∷ [])
one_more_member n least sets s left h e = let l = length-append sets (s ∷ []) in record {
  some = omega (arith, l, h.some);
  few = omega (arith, l, left, h.few);
  within = All-append (IsSet n) sets (s ∷ []) h.within (All-cons (IsSet n) s [] e (All-nil (IsSet n)));
}

names_take : (env : Environment) → Takes (names env)
unfolding names variable Takes
names_take env = tt

more_members_keep : (d : Symbol) (env : Environment) (n least : ℕ) → Knows env n → (sets : List ℕ) → AreSetsOf n least 16 sets
    → Always (more_members d env sets) (λ p sets. AreSetsOf n least 16 sets)
unfolding more_members
more_members_keep d env n least k = each_keeps (Punctuation d ∷ []) (λ sets l. (None, tt))
    (λ sets u. allowed (16 - length sets) (names env)) (λ sets s. sets ++ s ∷ []) (AreSetsOf n least 16)
    (λ sets h l e u. always_allowed _ _ _ (names_take env) (λ left. always_weaker (names env) _ _
    (λ p s hs. one_more_member n least sets s left h hs) (names_keep env n k)))

chain_keeps : (env : Environment) (n : ℕ) → Knows env n → Always (chain env) (λ p g. IsGivenOf n g)
unfolding chain Always
chain_keeps env n k = always_weaker (names env) _ _ (λ p a ha l e u. always_weaker (names env) _ _
    (λ q b hb i f v. always_weaker (names env) _ _ (λ r c hc. always_weaker (more_members _ env _) _ _ (λ o sets h. h)
    (more_members_keep _ env n 3 k (a ∷ b ∷ c ∷ []) (three a b c ha hb hc))) (names_keep env n k)) (names_keep env n k))
    (names_keep env n k)
  where
    three : (a b c : ℕ) → IsSet n a → IsSet n b → IsSet n c → AreSetsOf n 3 16 (a ∷ b ∷ c ∷ [])
    three a b c ha hb hc = record {
      some = omega arith;
      few = omega arith;
      within = All-cons (IsSet n) a (b ∷ c ∷ []) ha
          (All-cons (IsSet n) b (c ∷ []) hb (All-cons (IsSet n) c [] hc (All-nil (IsSet n))));
    }

after_bar_keeps : (env : Environment) (n : ℕ) → Knows env n → Always (after_bar env) (λ p s. IsSet n s)
unfolding after_bar Always
after_bar_keeps env n k = (λ l e m. names_keep env n k, empty_is_set n)

independence_keeps : (env : Environment) (n : ℕ) → Knows env n → Always (independence env) (λ p g. IsGivenOf n g)
unfolding independence Always
independence_keeps env n k = always_weaker (names env) _ _ (λ p a ha l e u. always_weaker (names env) _ _
    (λ q b hb. always_weaker (more_members _ env _) _ _ (λ r sets h. always_weaker (after_bar env) _ _ (λ o w hw. (h, hw))
    (after_bar_keeps env n k)) (more_members_keep _ env n 2 k (a ∷ b ∷ []) (two a b ha hb))) (names_keep env n k)) (names_keep env n k)
  where
    two : (a b : ℕ) → IsSet n a → IsSet n b → AreSetsOf n 2 16 (a ∷ b ∷ [])
    two a b ha hb = record { some = omega arith; few = omega arith; within = All-cons (IsSet n) a (b ∷ []) ha (All-cons (IsSet n) b [] hb (All-nil (IsSet n))) }

function_keeps : (env : Environment) (n : ℕ) → Knows env n → Always (function env) (λ p g. IsGivenOf n g)
unfolding function Always
function_keeps env n k = always_weaker (names env) _ _ (λ p a ha l e u. always_weaker (names env) _ _ (λ q b hb. (ha, hb))
    (names_keep env n k)) (names_keep env n k)

pub given_keeps : (s : Scope) (n : ℕ) → Covers s n 0 → Always (given s) (λ p g. IsGivenOf n g)
unfolding given Always
given_keeps s n c = (
  λ l e u. chain_keeps s.variables n c.variables,
  (
    λ l e u. independence_keeps s.variables n c.variables,
    (
      λ l e u. function_keeps s.variables n c.variables,
      always_weaker (but (codes "markov" ∷ codes "indep" ∷ codes "func" ∷ []) (relation s)) _ _ (λ p r h. h) (always_but _ (relation s) _ (relation_keeps s n 0 c)),
    ),
  ),
)

-- ---- the names of a vocabulary

pub knows_names : (v : NamesView) → Knows (env_of v) (length v.variables)
unfolding env_of
knows_names v w i e = (position-Some (bytes_eq w) v.variables i [] e).0

pub scope_covers : (v : NamesView) (rates : Bool) → Covers (scope_of v rates) (length v.variables) (length v.rates)
unfolding scope_of
scope_covers v rates = record { variables = knows_names v; rates = λ w i. by_test w i rates }
  where
    by_test : (w : List ℕ) (i : ℕ) (b : Bool) → cond b (index_of v.rates w) None ≡ Some i → i < length v.rates
    by_test w i true e = (position-Some (bytes_eq w) v.rates i [] e).0
    by_test w i false e = absurd cc

-- a scope without rates covers none
pub variables_covered : (v : NamesView) → Covers (scope_of v false) (length v.variables) 0
unfolding scope_of
variables_covered v = record { variables = knows_names v; rates = λ w i (e : None ≡ Some i). absurd cc }

-- a line that is read keeps the limits
pub relation_limited : (v : NamesView) (rates : Bool) (ls r : List Letter) (y : RelationView) → read (relation_line v rates) ls ≡ Ok (y, r)
    → IsRelationOf (length v.variables) (length v.rates) y
relation_limited v rates ls r y = value_read (relation_line v rates) _ ls r y
    (line_keeps (relation (scope_of v rates)) _ (relation_keeps (scope_of v rates) _ _ (scope_covers v rates)))

pub given_limited : (v : NamesView) (ls r : List Letter) (y : GivenView) → read (given_line v) ls ≡ Ok (y, r) → IsGivenOf (length v.variables) y
given_limited v ls r y = value_read (given_line v) _ ls r y (line_keeps (given (scope_of v false)) _ (given_keeps (scope_of v false) _ (variables_covered v)))
