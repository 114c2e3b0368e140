-- A sharing file that is read keeps the limits.
use Rattle.std.proofs.Common.{◌≡◌, inl, inr, ℕ, zero, suc, ◌+◌, ◌-◌, ◌<◌, ◌≤◌, ◌^◌, Bool, true, false, cond, bit_or, List, [], ◌∷◌, ◌++◌, length, Option, Some, None, Ok, refl, ap, ◌∙◌, subst, arith, length-append, All}
use Rattle.std.specs.Prelude.{bytes_eq, nat_eq, codes, unwrap_or, option_and_then, if◌then◌else◌}
use Rattle.std.specs.Int.{bit_at}
use Rattle.std.proofs.Math.Pow.{pow-lt}
use Rattle.std.proofs.lemmas.Bool.Decides.{eqb_tells}
use Rattle.std.proofs.lemmas.Nat.{or_lt, pow_pos, le_or_l}
use Rattle.std.proofs.lemmas.Nat.Bits.{bit_at_or, bit_at_lowest}
use Rattle.std.proofs.lemmas.List.Elements.{All-nil, All-cons, All-append, All-weaker}
use Rattle.std.proofs.lemmas.List.Quantifiers.{position-Some}
use Rattle.it_forms.specs.declared.types.Symbol.TheVariants.{Comma}
use Rattle.it_forms.specs.declared.types.Code.TheVariants as codes
use Rattle.it_forms.specs.Letters.{Letter}
use Rattle.it_forms.specs.Forms.{Keyword, Punctuation, Form, Give, Take}
use Rattle.it_forms.specs.FormReading.{read}
use Rattle.it_forms.specs.Words.{◌>>=◌, ◌>>◌, word, text_of, limit_flag, to_end, file_end, missing_flag}
use Rattle.it_forms.proofs.FormParts.{Always, always_weaker, each_keeps, line_keeps, value_read}
use Rattle.it_syntax.specs.declared.types.Sign.TheVariants.{AtLeast}
use Rattle.it_syntax.specs.Givens.{IsRelationOf}
use Rattle.it_syntax.specs.LineForms.{variable, more_names, names, sum, relation}
use Rattle.it_syntax.specs.Meaning.{RelationView, multiple_from}
use Rattle.it_syntax.specs.Multiples.{most_terms}
use Rattle.it_syntax.specs.MeasureWords.{is_measure}
use Rattle.it_syntax.specs.NamesViews.{NamesView, index_of}
use Rattle.it_syntax.specs.Scopes.{scope_of}
use Rattle.it_question.specs.NewNames.{Variable, no_names, is_taken, new_flag}
use Rattle.it_question.specs.QuestionForms.{new_name, more_new, new_names}
use Rattle.it_syntax.proofs.FormLimits.{sum_keeps, relation_keeps, scope_covers}
use Rattle.it_syntax.proofs.MultipleLemmas.{one_is_multiple}
use Rattle.it_sharing.specs.AccessStructures.{IsPartySet}
use Rattle.it_sharing.specs.Sharings.{SharingView, IsSharing, IsBoundWhereBest}
use Rattle.it_sharing.specs.SharingForms.{more_lists, bound, aim, sharing}
use Rattle.it_space.specs.Spaces.{most_variables}
use Rattle.it_question.specs.declared.sizes.FileLimits.{FileLimits}
use Rattle.it_question.specs.QuestionLimits.{names_within}
use Rattle.it_question.proofs.LimitLemmas.{within_space}
use Rattle.it_sharing.specs.Parties.{most_parties, most_qualified, parties_within, party_env}

-- ---- names

-- one variable, and no rates
abbrev IsOne : NamesView → Type 0
IsOne v = (length v.variables ≡ 1) × (v.rates ≡ [])

secret_is_one : Always (new_name Variable 1 no_names) (λ p v. IsOne v)
unfolding Always new_name
secret_is_one l e m = (refl, refl)

-- the line of the secret declares one variable
pub one_secret : (ls r : List Letter) (v : NamesView) → read (new_name Variable 1 no_names) ls ≡ Ok (v, r) → length v.variables ≡ 1
one_secret ls r v e = (value_read (new_name Variable 1 no_names) IsOne ls r v secret_is_one e).0

-- more variables than before, at most `most`, and the same rates
abbrev HasGrown : ℕ → NamesView → NamesView → Type 0
HasGrown most v w = (length v.variables < length w.variables) × (length w.variables ≤ most) × (w.rates ≡ v.rates)

one_allowed : (measure taken : Bool) (n : ℕ) → new_flag measure taken n ≡ None → 1 ≤ n
one_allowed true taken n e = absurd cc
one_allowed false true n e = absurd cc
one_allowed false false zero e = absurd cc
one_allowed false false (suc n) e = omega arith

new_name_grows : (most : ℕ) (v : NamesView) → Always (new_name Variable most v) (λ p w. HasGrown most v w)
unfolding Always new_name
new_name_grows most v l e m =
    let some = one_allowed (is_measure (text_of l)) (is_taken v (text_of l)) (most - length v.variables) m in
    let long = length-append v.variables (text_of l ∷ []) in
    (omega (arith, long), omega (arith, long, some), refl)

grown_more : (most : ℕ) (u v w : NamesView) → HasGrown most u v → HasGrown most v w → HasGrown most u w
grown_more most u v w g h = (omega (arith, g.0, h.0), h.1, h.2 ∙ g.2)

more_new_grow : (most : ℕ) (u v : NamesView) → HasGrown most u v → Always (more_new Variable most v) (λ p w. HasGrown most u w)
unfolding more_new
more_new_grow most u =
    each_keeps (Punctuation Comma ∷ []) (λ v l. (None, tt {0})) (λ v u. new_name Variable most v) (λ v more. more) (HasGrown most u)
    (λ v g l e m. always_weaker (new_name Variable most v) (λ q w. HasGrown most v w) _ (λ q w h. grown_more most u v w g h)
    (new_name_grows most v))

new_names_grow : (most : ℕ) (v : NamesView) → Always (new_names Variable most v) (λ p w. HasGrown most v w)
unfolding Always new_names
new_names_grow most v = always_weaker (new_name Variable most v) (λ q w. HasGrown most v w) _
    (λ q w g. always_weaker (more_new Variable most w) (λ r x. HasGrown most v x) _ (λ r x h l e m. h) (more_new_grow most v w g))
    (new_name_grows most v)

-- ---- lists of parties

-- the parties are variables from 1 on
abbrev IsParty : ℕ → ℕ → Type 0
IsParty n i = (1 ≤ i) × (i < n)

knows_parties : (v : NamesView) (w : List ℕ) (i : ℕ) → party_env v w ≡ Some i → IsParty (length v.variables) i
unfolding party_env
knows_parties v w i e = by_option (index_of v.variables w) refl e
  where
    by_option : (o : Option ℕ) → index_of v.variables w ≡ o → option_and_then (λ j. if nat_eq j 0 then None else Some j) o ≡ Some i
        → IsParty (length v.variables) i
    by_option None h e = absurd cc
    by_option (Some j) h e =
        elim (eqb_tells j 0) [
          | inl t ↦ let none : None ≡ Some i = subst (λ (b : Bool). cond b None (Some j) ≡ Some i) t.0 e in absurd cc
          | inr t ↦
              let found : Some j ≡ Some i = subst (λ (b : Bool). cond b None (Some j) ≡ Some i) t.0 e in
              let same : j ≡ i = cc in
              (omega (arith, same, t.1), omega (arith, same, (position-Some (bytes_eq w) v.variables j [] h).0))
        ]

named : (n : ℕ) (measure : Bool) (o : Option ℕ) → cond measure (Some codes.Word) (missing_flag codes.Name o) ≡ None
    → ((i : ℕ) → o ≡ Some i → IsParty n i) → IsParty n (unwrap_or o 0)
named n true o e k = absurd cc
named n false None e k = absurd cc
named n false (Some i) e k = k i refl

party_keeps : (v : NamesView) → Always (variable (party_env v)) (λ p i. IsParty (length v.variables) i)
unfolding Always variable
party_keeps v l e m = named (length v.variables) (is_measure (text_of l)) (party_env v (text_of l)) m (knows_parties v (text_of l))

-- a set of parties, and one that isn't empty
abbrev Even : ℕ → ℕ → Type 0
Even n s = (s < 2 ^ n) × (bit_at s 0 ≡ 0)

abbrev IsListed : ℕ → ℕ → Type 0
IsListed n s = Even n s × (0 < s)

single_listed : (n i : ℕ) → IsParty n i → IsListed n (2 ^ i)
single_listed n zero h = absurd (omega (arith, h.0))
single_listed n (suc i) h = ((pow-lt h.1, bit_at_lowest (2 ^ suc i) ∙ omega arith), pow_pos (suc i))

union_listed : (n s t : ℕ) → IsListed n s → IsListed n t → IsListed n (bit_or s t)
union_listed n s t a b = ((or_lt n s t a.0.0 b.0.0, bit_at_or s t 0 ∙ omega (arith, a.0.1, b.0.1)), omega (arith, a.1, le_or_l s t))

more_parties_keep : (v : NamesView) (set : ℕ) → IsListed (length v.variables) set
    → Always (more_names (party_env v) set) (λ p s. IsListed (length v.variables) s)
unfolding more_names
more_parties_keep v =
    let n = length v.variables in
    each_keeps (Punctuation Comma ∷ []) (λ s l. (None, tt {0})) (λ s u. variable (party_env v)) (λ s i. bit_or s (2 ^ i)) (IsListed n)
    (λ s h l e m. always_weaker (variable (party_env v)) (λ q i. IsParty n i) _ (λ q i k. union_listed n s (2 ^ i) h (single_listed n i k)) (party_keeps v))

parties_keep : (v : NamesView) → Always (names (party_env v)) (λ p s. IsListed (length v.variables) s)
unfolding Always names
parties_keep v = always_weaker (variable (party_env v)) (λ q i. IsParty (length v.variables) i) _
    (λ q i k. more_parties_keep v (2 ^ i) (single_listed (length v.variables) i k)) (party_keeps v)

-- ---- `qualified` lines

abbrev AreListed : ℕ → List ℕ → Type 0
AreListed n sets = (1 ≤ length sets) × (length sets ≤ most_qualified) × All (IsListed n) sets

few_lists : (i : ℕ) → limit_flag (most_qualified - i) ≡ None → i < most_qualified
few_lists i e = by_number (most_qualified - i) refl e
  where
    by_number : (k : ℕ) → most_qualified - i ≡ k → limit_flag k ≡ None → i < most_qualified
    by_number zero h e = absurd cc
    by_number (suc k) h e = omega (arith, h)

more_lists_keep : (v : NamesView) (sets : List ℕ) → AreListed (length v.variables) sets
    → Always (more_lists (party_env v) sets) (λ p s. AreListed (length v.variables) s)
unfolding more_lists
more_lists_keep v =
    let n = length v.variables in
    each_keeps (Keyword (codes "qualified") ∷ []) (λ s l. (limit_flag (most_qualified - length s), tt {0})) (λ s u. to_end (names (party_env v))) (λ s set. s ++ set ∷ []) (AreListed n)
    (λ s h l e m. always_weaker (to_end (names (party_env v))) (λ q set. IsListed n set) _
    (λ q set k. let long = length-append s (set ∷ []) in (
      omega (arith, long),
      omega (arith, long, few_lists (length s) m),
      All-append
          (IsListed n) s (set ∷ []) h.2 (All-cons (IsListed n) set [] k (All-nil (IsListed n))),
    ))
    (line_keeps (names (party_env v)) (IsListed n) (parties_keep v)))

-- ---- what is asked

-- a relation of the variables and rates, with `>=` where the least factor is asked for
abbrev IsAsked : NamesView → (Bool × RelationView) → Type 0
IsAsked v x = IsRelationOf (length v.variables) (length v.rates) x.1 × (x.0 ≡ true → x.1.sign ≡ AtLeast)

abbrev IsBound : NamesView → RelationView → Type 0
IsBound v r = IsRelationOf (length v.variables) (length v.rates) r × (r.sign ≡ AtLeast)

bound_keeps : (v : NamesView) → Always (bound (scope_of v true)) (λ p r. IsBound v r)
unfolding Always bound
bound_keeps v =
    let s = scope_of v true in
    let n = length v.variables in
    let m = length v.rates in
    always_weaker (sum most_terms 1 s) _ _ (λ p left hl l e u.
    always_weaker (sum (most_terms - length left) (multiple_from 1 left) s) _ _
    (λ q right hr. (
      record {
        few = omega (arith, hl.0, hr.0);
        left = hl.1;
        right = hr.1;
        some_multiple = hr.2.0;
        small_multiple = hr.2.1;
      },
      refl,
    ))
    (sum_keeps s n m (multiple_from 1 left) (most_terms - length left) (scope_covers v true) hl.2))
    (sum_keeps s n m 1 most_terms (scope_covers v true) one_is_multiple)

aim_keeps : (v : NamesView) → Always (aim v) (λ p x. IsAsked v x)
unfolding Always aim
aim_keeps v =
    let s = scope_of v true in (
      λ l e m. always_weaker (to_end (relation s)) (λ q r. IsRelationOf (length v.variables) (length v.rates) r)
          (λ q r. IsAsked v (false, r)) (λ q r h. (h, λ (e : false ≡ true). absurd cc))
          (line_keeps (relation s) (IsRelationOf (length v.variables) (length v.rates)) (relation_keeps s _ _ (scope_covers v true))),
      λ l e m. always_weaker (to_end (bound s)) (λ q r. IsBound v r) (λ q r. IsAsked v (true, r)) (λ q r h. (h.0, λ e. h.1))
          (line_keeps (bound s) (IsBound v) (bound_keeps v)),
    )

-- ---- the whole file

even_party : (n s : ℕ) → IsListed n s → IsPartySet n s
even_party n s h = (h.0.0, ap (λ (b : ℕ). nat_eq b 1) h.0.1)

abbrev Keeps : FileLimits → SharingView → Type 0
Keeps limits y = IsSharing y × IsBoundWhereBest y × (length y.names.variables ≤ 1 + parties_within limits)

-- the secret and the parties are no more variables than a space has
pub parties_fit : (limits : FileLimits) → 1 + parties_within limits ≤ most_variables
parties_fit limits = by_test limits.large_tables
  where
    by_test : (b : Bool) → 1 + cond b (names_within limits - 1) most_parties ≤ most_variables
    by_test true = omega (arith, within_space limits)
    by_test false = omega arith

keeps_all : (limits : FileLimits) (secret all : NamesView) (sets : List ℕ) (asked : (Bool × RelationView)) → IsOne secret
    → HasGrown (length secret.variables + parties_within limits) secret all → AreListed (length all.variables) sets → IsAsked all asked
    → Keeps limits (record { names = all; qualified = sets; best = asked.0; relation = asked.1 })
keeps_all limits secret all sets asked one grown listed asks =
    let n = length all.variables in
    let none : all.rates ≡ [] = grown.2 ∙ one.1 in (
      record {
        some = omega (arith, one.0, grown.0);
        few = omega (arith, one.0, grown.1, parties_fit limits);
        no_rates = none;
        some_listed = listed.0;
        few_listed = listed.1;
        nonempty = All-weaker (IsListed n) (λ s. 0 < s) (λ s h. h.1) sets listed.2;
        parties = All-weaker (IsListed n) (IsPartySet n) (even_party n) sets listed.2;
        relation = subst (λ (names : List (List ℕ)). IsRelationOf n (length names) asked.1) none asks.0;
      },
      asks.1,
      omega (arith, one.0, grown.1),
    )

-- what comes after the lists, after the first list and after the secret
abbrev after_lists : NamesView → List ℕ → Form SharingView
after_lists all sets = aim all >>= λ asked. file_end >> Give (record { names = all; qualified = sets; best = asked.0; relation = asked.1 })

abbrev after_first : NamesView → ℕ → Form SharingView
after_first all set = more_lists (party_env all) (set ∷ []) >>= after_lists all

abbrev after_names : NamesView → Form SharingView
after_names all = Take (word (codes "qualified")) >> (to_end (names (party_env all)) >>= after_first all)

abbrev after_secret : FileLimits → NamesView → Form SharingView
after_secret limits secret = Take (word (codes "parties")) >> (new_names Variable (length secret.variables + parties_within limits) secret >>= after_names)

abbrev KeepsAlways : FileLimits → Form SharingView → Type 0
KeepsAlways limits f = Always f (λ p y. Keeps limits y)

module _ (limits : FileLimits) (secret all : NamesView) (one : IsOne secret)
    (grown : HasGrown (length secret.variables + parties_within limits) secret all) where
  lists_keep : (sets : List ℕ) → AreListed (length all.variables) sets → KeepsAlways limits (after_lists all sets)
  unfolding Always
  lists_keep sets listed = always_weaker (aim all) (λ q x. IsAsked all x) _
      (λ q asked asks l e m. keeps_all limits secret all sets asked one grown listed asks) (aim_keeps all)

  first_keeps : (set : ℕ) → IsListed (length all.variables) set → KeepsAlways limits (after_first all set)
  unfolding Always
  first_keeps set h =
      let n = length all.variables in
      always_weaker (more_lists (party_env all) (set ∷ [])) (λ q sets. AreListed n sets) (λ q sets. KeepsAlways limits (after_lists all sets))
      (λ q sets listed. lists_keep sets listed)
      (more_lists_keep all (set ∷ []) (omega arith, omega arith, All-cons (IsListed n) set [] h (All-nil (IsListed n))))

  names_keep : KeepsAlways limits (after_names all)
  unfolding Always
  names_keep l e m =
      let n = length all.variables in
      always_weaker (to_end (names (party_env all))) (λ q set. IsListed n set) (λ q set. KeepsAlways limits (after_first all set))
      (λ q set h. first_keeps set h) (line_keeps (names (party_env all)) (IsListed n) (parties_keep all))

secret_keeps : (limits : FileLimits) (secret : NamesView) → IsOne secret → KeepsAlways limits (after_secret limits secret)
unfolding Always
secret_keeps limits secret one l e m =
    let most = length secret.variables + parties_within limits in
    always_weaker (new_names Variable most secret) (λ q w. HasGrown most secret w) (λ q all. KeepsAlways limits (after_names all))
    (λ q all grown. names_keep limits secret all one grown) (new_names_grow most secret)

sharing_keeps : (limits : FileLimits) → KeepsAlways limits (sharing limits)
unfolding Always sharing
sharing_keeps limits l e m = always_weaker (to_end (new_name Variable 1 no_names)) (λ q v. IsOne v)
    (λ q secret. KeepsAlways limits (after_secret limits secret))
    (λ q secret one. secret_keeps limits secret one) (line_keeps (new_name Variable 1 no_names) IsOne secret_is_one)

pub sharing_limited : (limits : FileLimits) (ls r : List Letter) (y : SharingView) → read (sharing limits) ls ≡ Ok (y, r) → IsSharing y × IsBoundWhereBest y
sharing_limited limits ls r y e = let kept = value_read (sharing limits) (Keeps limits) ls r y (sharing_keeps limits) e in (kept.0, kept.1)

-- and has no more variables than the secret and the most parties
pub few_are_named : (limits : FileLimits) (ls r : List Letter) (y : SharingView) → read (sharing limits) ls ≡ Ok (y, r)
    → length y.names.variables ≤ 1 + parties_within limits
few_are_named limits ls r y e = let kept = value_read (sharing limits) (Keeps limits) ls r y (sharing_keeps limits) e in kept.2
