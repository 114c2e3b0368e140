use Rattle.std.proofs.Common.{◌≡◌, ◌∙◌, ap, drop, List, ℤ}
use Rattle.it_space.specs.Sums.{terms_from}
use Rattle.it_demand.proofs.TermLemmas.{row_canonical, row-value, row_up_to, row-mass}
use Rattle.it_demand.proofs.coefficients.Coefficients.into_row.Goals as goal

terms_are : (c : goal.In_ok-terms) → c.in_ok-terms.field-0.items ≡ terms_from 1 (drop 1 c.args.self)
terms_are c = c.in_ok-terms.ensures ∙ ap (λ (xs : List ℤ). terms_from 1 (drop 1 xs)) c.self.view_is

terms_of : (c : goal.After-drop-self-inside-2) → c.new.result ≡ terms_from 1 (drop 1 c.args.self)
terms_of c = c.new.ensures ∙ c.in_ok-terms.ensures ∙ ap (λ (xs : List ℤ). terms_from 1 (drop 1 xs)) c.self.view_is

pub new-requires : goal.new-requires
new-requires c = row_canonical c.args.self _ (terms_are c) c.requires.small

pub returns-clause-same : goal.returns-clause-same
returns-clause-same c = λ p zero. row-value c.args.self c.new.result p (terms_of c) zero

pub returns-clause-coordinates : goal.returns-clause-coordinates
returns-clause-coordinates c = row_up_to c.args.self c.new.result (terms_of c)

pub returns-clause-canonical : goal.returns-clause-canonical
returns-clause-canonical c = row_canonical c.args.self c.new.result (terms_of c) c.requires.small

pub returns-clause-bounded : goal.returns-clause-bounded
returns-clause-bounded c = row-mass c.args.self c.new.result (terms_of c)
