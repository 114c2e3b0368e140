use Rattle.std.proofs.Common.{◌≡◌, ℕ, ℤ, pos, negsuc, ◌+◌, ◌-◌, ◌^◌, ◌++◌, Option, ap, subst, ◌∙◌, arith}
use Rattle.std.proofs.lemmas.Nat.{pow_below}
use Rattle.it_space.specs.Rows.{Terms}
use Rattle.it_polymatroid.specs.Elementals.{Elemental, Conditional, Mutual}
use Rattle.it_elemental.specs.Rows.{elemental_row, set_term}
use Rattle.it_check.specs.NextTerms.{IsNextTerm, first_from}
use Rattle.it_check.proofs.TermLemmas.{elemental_is_next, first_of_more}
use Rattle.it_check.proofs.terms.next_of_elemental.Goals as goal

pub overflow_sub-all-in-Conditional : goal.overflow_sub-all-in-Conditional
overflow_sub-all-in-Conditional c = omega (
  arith,
  pow_below c.in-Conditional.of c.args.n c.in-Conditional.ensures.shape,
  c.power-all.ensures.value,
  c.power.ensures.value,
)

-- a term by the number of its set
at_set : (from s t : ℕ) (x : ℤ) (o : Option (ℕ × ℤ)) → o ≡ first_from from (set_term s x) → s ≡ t → o ≡ first_from from (set_term t x)
at_set from s t x o e f = e ∙ ap (λ u. first_from from (set_term u x)) f

pub returns-in-Conditional : goal.returns-in-Conditional
returns-in-Conditional c =
    let n : ℕ = c.args.n in
    let i : ℕ = c.in-Conditional.of in
    let first = at_set c.args.from (c.power-all.result - 1 - c.power.result) (2 ^ n - 1 - 2 ^ i) (negsuc 0) c.term_from.result c.term_from.ensures
    (omega (arith, c.power-all.ensures.value, c.power.ensures.value)) in
    let second = at_set c.args.from (c.power-all.result - 1) (2 ^ n - 1) (pos 1) c.term_from-in-Conditional.result c.term_from-in-Conditional.ensures
    (omega (arith, c.power-all.ensures.value)) in
    subst (λ (e : Elemental). IsNextTerm c.args.from (elemental_row n e) c.or.result) c.in-Conditional.ensures.value
    (elemental_is_next c.args.from n (Conditional i) c.or.result c.in-Conditional.ensures.shape
    (c.or.ensures ∙ first_of_more c.args.from (2 ^ n - 1) (set_term (2 ^ n - 1 - 2 ^ i) (negsuc 0)) (pos 1) c.term_from.result
    c.term_from-in-Conditional.result first second))

pub returns-in-Mutual : goal.returns-in-Mutual
returns-in-Mutual c =
    let from : ℕ = c.args.from in
    let i : ℕ = c.in-Mutual.left in
    let j : ℕ = c.in-Mutual.right in
    let k : ℕ = c.in-Mutual.given in
    let given = c.number-given.ensures in
    let first = at_set from c.number-given.result k (negsuc 0) c.term_from-in-Mutual.result c.term_from-in-Mutual.ensures given in
    let second = at_set from (c.number-given.result + c.power-in-Mutual.result) (k + 2 ^ i) (pos 1) c.term_from-in-Mutual-2.result
    c.term_from-in-Mutual-2.ensures (omega (arith, given, c.power-in-Mutual.ensures.value)) in
    let third = at_set from (c.number-given.result + c.power-in-Mutual-2.result) (k + 2 ^ j) (pos 1) c.term_from-in-Mutual-3.result
    c.term_from-in-Mutual-3.ensures (omega (arith, given, c.power-in-Mutual-2.ensures.value)) in
    let fourth = at_set from (c.number-given.result + c.power-in-Mutual.result + c.power-in-Mutual-3.result) (k + 2 ^ i + 2 ^ j) (negsuc 0)
    c.term_from-in-Mutual-4.result c.term_from-in-Mutual-4.ensures
    (omega (arith, given, c.power-in-Mutual.ensures.value, c.power-in-Mutual-3.ensures.value)) in
    let a : Terms = set_term k (negsuc 0) in
    let b : Terms = set_term (k + 2 ^ i) (pos 1) in
    let d : Terms = set_term (k + 2 ^ j) (pos 1) in
    let two = c.or-in-Mutual.ensures ∙ first_of_more from (k + 2 ^ i) a (pos 1) c.term_from-in-Mutual.result c.term_from-in-Mutual-2.result first second in
    let three = c.or-in-Mutual-2.ensures ∙ first_of_more from (k + 2 ^ j) (a ++ b) (pos 1) c.or-in-Mutual.result c.term_from-in-Mutual-3.result two third in
    subst (λ (e : Elemental). IsNextTerm from (elemental_row c.args.n e) c.or-in-Mutual-3.result) c.in-Mutual.ensures.value
    (elemental_is_next from c.args.n (Mutual i j k) c.or-in-Mutual-3.result c.in-Mutual.ensures.shape
    (c.or-in-Mutual-3.ensures ∙ first_of_more from (k + 2 ^ i + 2 ^ j) (a ++ b ++ d) (negsuc 0) c.or-in-Mutual-2.result
    c.term_from-in-Mutual-4.result three fourth))
