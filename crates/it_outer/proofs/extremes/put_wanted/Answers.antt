use Rattle.std.proofs.Common.{rules, ◌≡◌, subst, sym, length, List, ℤ, All}
use Rattle.it_space.specs.Spaces.{size_of}
use Rattle.it_outer.specs.Extremes.{put_in_order}
use Rattle.it_outer.proofs.ExtremeLemmas.{all_put}
use Rattle.it_outer.proofs.extremes.put_wanted.Goals as goal

pub returns-in_ok-put_in_order-clause-ordered : goal.returns-in_ok-put_in_order-clause-ordered
returns-in_ok-put_in_order-clause-ordered c =
    let is : c.put_in_order.new.points.items ≡ put_in_order c.args.kept.now c.args.ray.now c.args.ordered.now.items = search rules in
    subst (λ (ps : List (List ℤ)). All (λ p. length p ≡ size_of c.args.space) ps) (sym is)
    (all_put (λ p. length p ≡ size_of c.args.space) c.args.kept.now c.args.ray.now c.args.ordered.now.items c.requires.ray
    c.requires.ordered)
