use Rattle.std.proofs.Common.{rules, ◌≡◌, sym, subst, arith}
use Rattle.it_space.specs.Cancelling.{with_term}
use Rattle.it_space.specs.Rows.{IsCanonical}
use Rattle.it_hull.proofs.TermLemmas.{canonical-with_term}
use Rattle.it_hull.proofs.terms.with_term.Goals as goal

pub new-requires : goal.new-requires
new-requires c =
    let is : c.put_term.new.terms.items ≡ with_term c.args.at c.args.number c.args.row.now = search rules in
    let canonical : IsCanonical c.args.row.now = search rules in
    subst IsCanonical (sym is) (canonical-with_term 0 c.args.at c.args.number c.args.row.now (omega arith) c.requires.within canonical c.requires.lacks)
