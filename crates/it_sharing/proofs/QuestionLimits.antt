-- The question that is made keeps the limits of questions.
use Rattle.std.proofs.Common.{◌≡◌, ℕ, ◌+◌, ◌<◌, ◌≤◌, ◌^◌, List, [], length, map, sym, ap, subst, length-append, arith}
use Rattle.std.specs.List.{AllByRecursion as Every}
use Rattle.std.proofs.lemmas.Nat.{pow_below, pow_pos}
use Rattle.std.proofs.lemmas.List.{length-map}
use Rattle.std.proofs.lemmas.List.Elements.{All-nil, All-cons}
use Rattle.it_space.proofs.EveryLemmas.{every_of, all_of, every-append, every-map}
use Rattle.it_syntax.specs.declared.types.Atom.{Atom}
use Rattle.it_syntax.specs.declared.types.Term.{Term}
use Rattle.it_syntax.specs.Givens.{IsRelationOf, IsGivenOf}
use Rattle.it_syntax.specs.Meaning.{IsAtomOf}
use Rattle.it_question.specs.Limits.{IsQuestion}
use Rattle.it_sharing.specs.AccessStructures.{secret, IsPartySet, minimal_sets, maximal_sets}
use Rattle.it_sharing.specs.Sharings.{SharingView, IsSharing, vanishing, knows, knows_nothing, made_givens, made_question}
use Rattle.it_sharing.proofs.VanishingLemmas.{multiple_is_one}
use Rattle.it_sharing.proofs.AccessLemmas.{minimal_listed, maximal_unqualified}
use Rattle.it_sharing.proofs.Perfection.{every_member, every_by_members}

vanishing_over : (n : ℕ) (a : Atom) → IsAtomOf n 0 a → IsGivenOf n (vanishing a)
vanishing_over n a h = record {
  few = omega arith;
  left = All-cons (λ (t : Term). IsAtomOf n 0 t.atom) _ [] h (All-nil (λ (t : Term). IsAtomOf n 0 t.atom));
  right = All-cons (λ (t : Term). IsAtomOf n 0 t.atom) _ [] tt (All-nil (λ (t : Term). IsAtomOf n 0 t.atom));
  some_multiple = omega (arith, multiple_is_one a);
  small_multiple = omega (arith, multiple_is_one a);
}

givens_over : (n : ℕ) (listed : List ℕ) → 1 ≤ n → Every (IsPartySet n) listed → Every (IsGivenOf n) (made_givens n listed)
unfolding made_givens
givens_over n listed some parties =
    let s : secret < 2 ^ n = pow_below 0 n (omega arith) in
    every-append (IsGivenOf n) (map knows (minimal_sets listed)) (map knows_nothing (maximal_sets n listed))
    (every-map (IsGivenOf n) knows (minimal_sets listed) (every_by_members (λ a. IsGivenOf n (knows a)) (minimal_sets listed)
    (λ m j. vanishing_over n _ (s, (every_member (IsPartySet n) m listed parties (minimal_listed listed m j)).0))))
    (every-map (IsGivenOf n) knows_nothing (maximal_sets n listed) (every_by_members (λ b. IsGivenOf n (knows_nothing b))
    (maximal_sets n listed) (λ m j. vanishing_over n _ (s, (maximal_unqualified n listed m j).0.0, pow_pos n))))

how_many : (n : ℕ) (listed : List ℕ) → length (made_givens n listed) ≡ length (minimal_sets listed) + length (maximal_sets n listed)
unfolding made_givens
how_many n listed = omega (
  arith,
  length-append (map knows (minimal_sets listed)) (map knows_nothing (maximal_sets n listed)),
  length-map
      (minimal_sets listed) knows,
  length-map (maximal_sets n listed) knows_nothing,
)

pub question_limited : (x : SharingView) → IsSharing x
    → length (minimal_sets x.qualified) + length (maximal_sets (length x.names.variables) x.qualified) ≤ 64
    → IsQuestion (made_question x).body
unfolding made_question
question_limited x h few =
    let n = length x.names.variables in
    let none : length x.names.rates ≡ 0 = ap length h.no_rates in
    record {
      some = omega (arith, h.some);
      few = omega (arith, h.few);
      few_rates = omega (arith, none);
      lines = record {
        few_givens = omega (arith, few, how_many n x.qualified);
        few_rows = omega arith;
        givens = all_of (IsGivenOf n) (made_givens n x.qualified) (givens_over n x.qualified (omega (arith, h.some))
            (every_of (IsPartySet n) x.qualified h.parties));
        rows = All-nil (IsRelationOf n (length x.names.rates));
      };
      verb = subst (λ (m : ℕ). IsRelationOf n m x.relation) (sym none) h.relation;
    }
