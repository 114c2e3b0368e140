use Rattle.std.proofs.Common.{List, sym, subst}
use Rattle.it_space.specs.Rows.{Terms, IsCanonical}
use Rattle.it_eliminate.proofs.OrderLemmas.{every-with_row}
use Rattle.it_eliminate.proofs.ordered.put_lowest.Goals as goal
use Rattle.it_eliminate.specs.Gathering.{rows_of}
use Rattle.std.specs.List.{AllByRecursion as Every}

pub returns-clause-canonical : goal.returns-clause-canonical
returns-clause-canonical c = λ a. subst (λ (rs : List Terms). Every IsCanonical rs) (sym c.in_ok-put.ensures)
    (every-with_row IsCanonical (rows_of c.args.rows.now.keys) c.into_terms.result.items
    (subst (λ (r : Terms). IsCanonical r) (sym c.into_terms.ensures.terms) c.normal.ensures.canonical) a)
