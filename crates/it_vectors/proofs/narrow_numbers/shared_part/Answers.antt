use Rattle.std.proofs.Common.{rules, ◌≡◌, ℕ, ◌≤◌, ◌<◌, subst, unsigned_abs, to_z, w32}
use Prim.Native.Nat.{◌∣◌}
use Rattle.it_space.specs.Sums.{number_at}
use Rattle.it_vectors.proofs.Quotients.{part_is_divided}
use Rattle.it_vectors.proofs.narrow_numbers.shared_part.Goals as goal

pub returns-then-divides_at_once : goal.returns-then-divides_at_once
returns-then-divides_at_once c =
    let e : unsigned_abs (to_z w32 c.args.earlier.value) ≡ c.args.earlier.value = search (rules, c.if-earlier.true) in
    part_is_divided c.args.row.now c.args.from c.args.to c.args.earlier.value c.requires.some
    (subst (λ (d : ℕ). (j : ℕ) → c.args.from ≤ j → j < c.args.to → d ∣ unsigned_abs (number_at c.args.row.now j)) e c.if-divides_at_once.ensures)
