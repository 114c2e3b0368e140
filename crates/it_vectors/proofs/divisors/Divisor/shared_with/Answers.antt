use Rattle.std.proofs.Common.{ℕ, ◌<◌, sym, subst}
use Rattle.it_number.proofs.Divisors.{gcd-pos}
use Rattle.it_vectors.proofs.Divisions.{gcd_of_multiple}
use Rattle.it_vectors.proofs.divisors.Divisor.shared_with.Goals as goal

pub new-requires : goal.new-requires
new-requires c = subst (λ (k : ℕ). 0 < k) (sym c.common_divisor.ensures.value) (gcd-pos c.args.size c.args.self.value c.requires)

pub returns-in-Some : goal.returns-in-Some
returns-in-Some c = sym (gcd_of_multiple c.in-Some.field-0 c.args.self.value c.args.size c.in-Some.ensures)
