-- Questions with copies keep the limits.
use Rattle.std.proofs.Common.{◌≡◌, ℕ, ◌+◌, ◌-◌, ◌<◌, ◌≤◌, ◌^◌, List, [], ◌∷◌, length, filter, All, Option, None, bit_or, refl, sym, ap, subst, arith, length-append}
use Rattle.std.proofs.Math.Pow.{ones_lt, pow-lt}
use Rattle.std.proofs.lemmas.List.Elements.{All-nil, All-cons, All-append, All-filter, All-map, All-weaker}
use Rattle.it_polymatroid.proofs.Spans.{get_or-span, length-span}
use Rattle.std.proofs.lemmas.Nat.{or_lt, pow_pos}
use Rattle.std.specs.Option.{option_map_or}
use Rattle.std.specs.Prelude.{map}
use Rattle.it_polymatroid.specs.Elementals.{span}
use Rattle.it_syntax.specs.declared.types.Term.{Term}
use Rattle.it_syntax.specs.declared.types.Atom.TheVariants.{Nothing, Entropy, Mutual}
use Rattle.it_syntax.specs.NamesViews.{NamesView}
use Rattle.it_syntax.specs.Meaning.{IsAtomOf}
use Rattle.it_syntax.specs.Givens.{GivenView, IsGivenOf, IsRelationOf}
use Rattle.it_closure.specs.Closures.{is_inside}
use Rattle.it_question.specs.Questions.{BodyView, VerbView, Prove, Eliminate, Contain}
use Rattle.it_question.specs.Limits.{IsQuestion, IsVerbOver}
use Rattle.it_question.specs.QuestionLimits.{most_lines, names_within}
use Rattle.it_space.specs.Spaces.{most_variables}
use Rattle.it_question.specs.declared.sizes.FileLimits.{FileLimits}
use Rattle.it_number.specs.Gcd.{gcd, gcd_within, lcm}
use Rattle.it_demand.proofs.LimitLemmas.{wider_given, wider_relation}
use Rattle.it_copy.specs.CopyLines.{CopyView}
use Rattle.it_copy.specs.Equations.{apart_equation, copy_equations, inside_equation, term_of}
use Rattle.it_copy.specs.Extensions.{CanBeMade, IsProof, equations_of, extended, first_unplaced, named_parts, placed, with_copies, with_copy}
use Rattle.it_copy.proofs.PlaceLemmas.{first_has_place, place_named, place_told, place_within}

-- ---- the equations of one copy

-- both terms count once
one_multiple : lcm (lcm 1 1) 1 ≡ 1
unfolding lcm gcd gcd_within
one_multiple = refl

one_term : (n : ℕ) (t : Term) → IsAtomOf n 0 t.atom → All (λ (u : Term). IsAtomOf n 0 u.atom) (t ∷ [])
one_term n t a = All-cons (λ (u : Term). IsAtomOf n 0 u.atom) t [] a (All-nil (λ (u : Term). IsAtomOf n 0 u.atom))

-- a part of a set of the variables before the copy
module _ (n a over : ℕ) (old : a < n) (inside : over < 2 ^ n) where
  copy_set : 2 ^ n < 2 ^ (n + 1)
  copy_set = pow-lt {i = n} {j = n + 1} (omega arith)

  old_set : 2 ^ a < 2 ^ (n + 1)
  old_set = let h = pow-lt {i = a} {j = n + 1} (omega (arith, old)) in h

  inside_is_given : (s : ℕ) → s < over + 1 → IsGivenOf (n + 1) (inside_equation n a s)
  inside_is_given s h =
      let part : s < 2 ^ (n + 1) = omega (arith, h, inside, copy_set) in record {
        few = omega arith;
        left = one_term (n + 1) (term_of (Entropy (bit_or (2 ^ n) s) 0)) (or_lt (n + 1) (2 ^ n) s copy_set part, pow_pos (n + 1));
        right = one_term (n + 1) (term_of (Entropy (bit_or (2 ^ a) s) 0)) (or_lt (n + 1) (2 ^ a) s old_set part, pow_pos (n + 1));
        some_multiple = omega (arith, one_multiple);
        small_multiple = omega (arith, one_multiple);
      }

  apart_is_given : IsGivenOf (n + 1) (apart_equation n over)
  apart_is_given =
      let rest : (2 ^ n - 1) - over < 2 ^ (n + 1) = omega (arith, ones_lt n, copy_set) in
      let part : over < 2 ^ (n + 1) = omega (arith, inside, copy_set) in record {
        few = omega arith;
        left = one_term (n + 1) (term_of (Mutual (2 ^ n) ((2 ^ n - 1) - over) over)) (copy_set, rest, part);
        right = one_term (n + 1) (term_of Nothing) tt;
        some_multiple = omega (arith, one_multiple);
        small_multiple = omega (arith, one_multiple);
      }

  numbers_below : All (λ s. s < over + 1) (span 0 (over + 1))
  numbers_below i d h = let below : i < over + 1 = omega (arith, h, length-span 0 (over + 1)) in omega (arith, get_or-span 0 (over + 1) i d below, below)

  pub equations_are_givens : All (IsGivenOf (n + 1)) (copy_equations n a over)
  unfolding copy_equations
  equations_are_givens =
      All-append (IsGivenOf (n + 1)) (map (inside_equation n a) (filter (λ s. is_inside s over) (span 0 (over + 1)))) (apart_equation n over ∷ [])
      (All-map (IsGivenOf (n + 1)) (inside_equation n a) (filter (λ s. is_inside s over) (span 0 (over + 1)))
      (All-weaker (λ s. s < over + 1) (λ s. IsGivenOf (n + 1) (inside_equation n a s)) inside_is_given
      (filter (λ s. is_inside s over) (span 0 (over + 1))) (All-filter (λ s. is_inside s over) (λ s. s < over + 1)
      (span 0 (over + 1)) numbers_below)))
      (All-cons (IsGivenOf (n + 1)) (apart_equation n over) [] apart_is_given (All-nil (IsGivenOf (n + 1))))

-- ---- the equations of all copies, over all variables

-- what copies add to names that have room for them
pub record AreAdded (v all : NamesView) (equations : List GivenView) : Type 0 where
  pub more : length v.variables ≤ length all.variables
  pub few : length all.variables ≤ most_variables
  pub rates : all.rates ≡ v.rates
  pub givens : All (IsGivenOf (length all.variables)) equations

copies_are_added : (limits : FileLimits) (k : ℕ) (v : NamesView) (cs : List CopyView) → length v.variables ≤ most_variables
    → first_unplaced limits k v cs ≡ None
    → AreAdded v (with_copies v cs) (equations_of v cs)
copies_are_added limits k v [] few e = record { more = omega arith; few = few; rates = refl; givens = All-nil (IsGivenOf (length v.variables)) }
copies_are_added limits k v (c ∷ cs) few e =
    let x = first_has_place limits k v c cs (placed limits v c) refl e in
    let named = place_named limits v c x.0 x.1 x.2 in
    let p = place_told limits v c x.0 x.1 x.2 in
    let counted : length (with_copy v c).variables ≡ length v.variables + 1 = length-append v.variables (c.fresh ∷ []) in
    let later = copies_are_added limits (k + 1) (with_copy v c) cs (omega (arith, counted, p.room)) x.3 in
    let all = with_copies (with_copy v c) cs in
    let own : All (IsGivenOf (length all.variables)) (copy_equations (length v.variables) x.0 x.1) =
    All-weaker (IsGivenOf (length v.variables + 1)) (IsGivenOf (length all.variables))
    (λ g h. wider_given (length v.variables + 1) (length all.variables) (omega (arith, counted, later.more)) g h)
    (copy_equations (length v.variables) x.0 x.1) (equations_are_givens (length v.variables) x.0 x.1 p.old p.over) in
    record {
      more = omega (arith, counted, later.more);
      few = later.few;
      rates = later.rates;
      givens = All-append (IsGivenOf (length all.variables)) (option_map_or (λ (x : ℕ × ℕ). copy_equations (length v.variables) x.0 x.1)
          (named_parts v c) []) (equations_of (with_copy v c) cs)
          (subst (λ (o : Option (ℕ × ℕ)). All (IsGivenOf (length all.variables))
          (option_map_or (λ (x : ℕ × ℕ). copy_equations (length v.variables) x.0 x.1) o [])) (sym named) own) later.givens;
    }

-- copies that a file allows, in a question that it allows, leave as many names as it allows
pub copies_are_few : (limits : FileLimits) (k : ℕ) (v : NamesView) (cs : List CopyView) → length v.variables ≤ names_within limits
    → first_unplaced limits k v cs ≡ None → length (with_copies v cs).variables ≤ names_within limits
copies_are_few limits k v [] few e = few
copies_are_few limits k v (c ∷ cs) few e =
    let x = first_has_place limits k v c cs (placed limits v c) refl e in
    let counted : length (with_copy v c).variables ≡ length v.variables + 1 = length-append v.variables (c.fresh ∷ []) in
    copies_are_few limits (k + 1) (with_copy v c) cs (omega (arith, counted, place_within limits v c x.0 x.1 x.2)) x.3

-- ---- the question with copies

proof_over : (q : BodyView) (cs : List CopyView) (added : AreAdded q.names (with_copies q.names cs) (equations_of q.names cs))
    (verb : VerbView) → IsProof verb → IsVerbOver q.names verb → IsVerbOver (with_copies q.names cs) verb
proof_over q cs added (Prove r) proof h =
    subst (λ (m : ℕ). IsRelationOf (length (with_copies q.names cs).variables) m r) (sym (ap length added.rates))
    (wider_relation (length q.names.variables) (length (with_copies q.names cs).variables) (length q.names.rates) added.more r h)
proof_over q cs added (Eliminate rates) proof h = absurd proof
proof_over q cs added (Contain first second tries) proof h = absurd proof

pub extended_is_question : (limits : FileLimits) (q : BodyView) (cs : List CopyView) → IsQuestion q → CanBeMade limits q cs
    → length (extended q cs).lines.givens ≤ most_lines → IsQuestion (extended q cs)
extended_is_question limits q cs k made few =
    let added = copies_are_added limits 1 q.names cs k.few made.placed in
    let n = length q.names.variables in
    let m = length (with_copies q.names cs).variables in record {
      some = omega (arith, k.some, added.more);
      few = added.few;
      few_rates = subst (λ (rates : List (List ℕ)). length rates ≤ 16) (sym added.rates) k.few_rates;
      lines = record {
        few_givens = few;
        few_rows = k.lines.few_rows;
        givens = All-append (IsGivenOf m) q.lines.givens (equations_of q.names cs)
            (All-weaker (IsGivenOf n) (IsGivenOf m) (λ g h. wider_given n m added.more g h) q.lines.givens k.lines.givens) added.givens;
        rows = All-weaker (IsRelationOf n (length q.names.rates)) (IsRelationOf m (length (with_copies q.names cs).rates))
            (λ r h. subst (λ (rates : ℕ). IsRelationOf m rates r) (sym (ap length added.rates))
            (wider_relation n m (length q.names.rates) added.more r h)) q.lines.rows k.lines.rows;
      };
      verb = proof_over q cs added q.verb made.proof k.verb;
    }
