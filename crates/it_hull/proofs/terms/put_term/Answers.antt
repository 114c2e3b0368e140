use Rattle.std.proofs.Common.{rules, ◌≡◌, ◌≢◌, ℤ, pos, sym, ap, ◌∙◌}
use Rattle.std.specs.List.{insert}
use Rattle.it_space.specs.Cancelling.{with_term}
use Rattle.it_hull.specs.Places.{IsPlaceFor}
use Rattle.it_hull.proofs.TermLemmas.{inserted, none_put}
use Rattle.it_hull.proofs.terms.put_term.Goals as goal

pub returns-in_ok-insert : goal.returns-in_ok-insert
returns-in_ok-insert c =
    let place : IsPlaceFor c.args.at c.args.terms.now.items c.place_for-place.result = search rules in
    let some : c.args.number ≢ pos 0 = search rules in
    let is : c.insert.new.self.items ≡ insert c.args.terms.now.items c.place_for-place.result (c.args.at, c.args.number) = search rules in
    is ∙ inserted c.args.at c.args.number c.args.terms.now.items c.place_for-place.result some place

pub returns-else-number-ne0 : goal.returns-else-number-ne0
returns-else-number-ne0 c =
    let place : IsPlaceFor c.args.at c.args.terms.now.items c.place_for-place.result = search rules in
    let none : c.args.number ≡ pos 0 = search rules in
    none_put c.args.at c.args.terms.now.items c.place_for-place.result place ∙ ap (λ (x : ℤ). with_term c.args.at x c.args.terms.now.items) (sym none)
