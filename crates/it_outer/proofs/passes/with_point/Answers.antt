use Rattle.std.proofs.Common.{rules, ◌≡◌, ◌∷◌, [], ◌++◌, List, ℤ, subst}
use Rattle.it_outer.specs.declared.types.Next.TheVariants as nexts
use Rattle.it_outer.specs.declared.types.Outer.TheVariants as ends
use Rattle.it_outer.specs.declared.types.OuterCause.TheVariants as causes
use Rattle.it_outer.specs.declared.types.Round.TheVariants as rounds
use Rattle.it_outer.specs.Rounds.{search_of}
use Rattle.it_outer.specs.Search.{PassEnds}
use Rattle.it_outer.proofs.RoundLemmas.{with_hull}
use Rattle.it_outer.proofs.passes.with_point.Goals as goal

pub returns-in_ok-push-in-Hull-clause-ends : goal.returns-in_ok-push-in-Hull-clause-ends
returns-in_ok-push-in-Hull-clause-ends c =
    let pushed : c.push.new.self.items ≡ c.args.rays.items ++ c.args.point ∷ [] = search rules in
    with_hull (search_of c.args.frame.now) c.args.hull.now.rows.items c.args.rays.items c.args.point c.in_ok-next.field-0
    (nexts.Hull c.in-Hull.next) (rounds.Goes c.in-Hull.next c.push.new.self) c.in-Hull.is c.in_ok-next.ensures.ends
    (λ more end e. subst (λ (rays : List (List ℤ)). PassEnds (search_of c.args.frame.now) more c.in-Hull.next.rows.items rays end) pushed e)

pub returns-in-TooMany-clause-ends : goal.returns-in-TooMany-clause-ends
returns-in-TooMany-clause-ends c = with_hull (search_of c.args.frame.now) c.args.hull.now.rows.items c.args.rays.items c.args.point
    c.in_ok-next.field-0 nexts.TooMany (rounds.Ends (ends.Undecided causes.Rows)) c.in-TooMany.is c.in_ok-next.ensures.ends
    (λ more end e. e)

pub returns-in-TooWide-clause-ends : goal.returns-in-TooWide-clause-ends
returns-in-TooWide-clause-ends c = with_hull (search_of c.args.frame.now) c.args.hull.now.rows.items c.args.rays.items c.args.point
    c.in_ok-next.field-0 nexts.TooWide (rounds.Ends (ends.Undecided causes.Width)) c.in-TooWide.is c.in_ok-next.ensures.ends
    (λ more end e. e)
