use Rattle.std.proofs.Common.{ℕ, ◌<◌, ◌≤◌, ℤ, unsigned_abs, subst, FitsSigned, to_z-of_z, w32}
use Prim.Native.Nat.{◌∣◌}
use Rattle.std.specs.Bool.{OnTrue}
use Rattle.it_space.specs.Sums.{number_at}
use Rattle.it_vectors.proofs.Quotients.{told_divides}
use Rattle.it_vectors.proofs.narrow_numbers.divides_at_once.Goals as goal

pub returns-in-Some : goal.returns-in-Some
returns-in-Some c =
    let f : FitsSigned w32 c.args.k = c.ranges.k in
    let e = simp to_z-of_z at c.in-Some.ensures.value in
    subst (λ (k : ℤ). OnTrue c.are_told.result ((j : ℕ) → c.args.from ≤ j → j < c.args.to → unsigned_abs k ∣ unsigned_abs (number_at c.args.row.now j))) e
    (told_divides c.are_told.result c.args.row.now c.args.from c.args.to c.in-Some.by.shift c.in-Some.by.inverse c.in-Some.by.value c.are_told.ensures)
