use Rattle.std.proofs.Common.{rules, ℕ, ℤ, pos, ◌≡◌, ◌≤◌, nat_lt, get_or, subst, sym, true, false}
use Rattle.std.specs.List.Sorted.{IsPartitionPoint}
use Rattle.std.proofs.lemmas.List.Sorted.{IsPartitionPoint-from_clause, IsPartitionedBy-ltb}
use Rattle.it_space.specs.Rows.{Terms, Ascends, coefficient}
use Rattle.it_space.proofs.CanonicalRows.{ascends_far}
use Rattle.it_check.specs.NextTerms.{IsTermFrom}
use Rattle.it_check.proofs.TermLemmas.{place_is_next, none_is_next}
use Rattle.it_check.proofs.terms.next_of_row.Goals as goal
use Rattle.it_check.proofs.terms.next_of_row.Goals.{After-partition_point-place}

ascending : (c : After-partition_point-place) → Ascends 0 c.terms-terms.result.now
ascending c = subst (Ascends 0) (sym c.terms-terms.ensures.value) c.terms-terms.ensures.canonical

parted : (c : After-partition_point-place) → IsPartitionPoint (λ (t : ℕ × ℤ). nat_lt t.0 c.args.from ≡ true) (λ (t : ℕ × ℤ). nat_lt t.0 c.args.from ≡ false)
    c.terms-terms.result.now c.partition_point-place.result
parted c = IsPartitionPoint-from_clause (λ (t : ℕ × ℤ). nat_lt t.0 c.args.from) c.terms-terms.result.now c.partition_point-place.result
    c.partition_point-place.ensures.partitioned
    (IsPartitionedBy-ltb (λ (t : ℕ × ℤ). t.0) c.terms-terms.result.now c.args.from
    (λ i j d h l. (ascends_far 0 c.terms-terms.result.now i j d (ascending c) h l).1))
    (λ a r f' e. search rules)

pub returns-then-place-terms : goal.returns-then-place-terms
returns-then-place-terms c =
    let p = (goal.at.returns-then-place-terms c).After-partition_point-place in
    let ts : Terms = c.terms-terms.result.now in
    subst (λ (rs : Terms). IsTermFrom c.args.from rs (get_or ts c.partition_point-place.result (0, pos 0))) c.terms-terms.ensures.value
    (place_is_next c.args.from ts c.partition_point-place.result (ascending p) (parted p) (0, pos 0) c.if-place-terms.true)

pub returns-else-place-terms : goal.returns-else-place-terms
returns-else-place-terms c =
    let p = (goal.at.returns-else-place-terms c).After-partition_point-place in
    let ts : Terms = c.terms-terms.result.now in
    subst (λ (rs : Terms). (s : ℕ) → c.args.from ≤ s → coefficient rs s ≡ pos 0) c.terms-terms.ensures.value
    (none_is_next c.args.from ts c.partition_point-place.result (ascending p) (parted p) c.if-place-terms.false)
