use Rattle.std.proofs.Common.{rules, ◌≡◌, ◌∙◌, ap, sym, subst, length, List, ℕ, ℤ, pos, ◌<◌, ◌*ℤ◌, to_z, w32, arith}
use Rattle.std.proofs.lemmas.List.{with_items_is}
use Rattle.std.specs.Vec.{with_items}
use Rattle.it_space.specs.Sums.{number_at}
use Rattle.it_whole.specs.Updates.{IsShortened}
use Rattle.it_whole.specs.WholeRows.{WholeRowView}
use Rattle.it_whole.proofs.narrow_rows.NarrowRow.divide_out.Goals as goal

pub returns-clause-shortened : goal.returns-clause-shortened
returns-clause-shortened c =
    let lent = c.as_mut_slice.ensures.value in
    let denominator = ap (λ (v : WholeRowView). v.denominator) c.self.view_is in
    let e : to_z w32 c.self.inside.denominator ≡ pos c.self.inside.denominator = search (rules, c.if-self.false) in
    let written : (with_items c.self.inside.numbers c.divide_at_once.new.row).items ≡ c.divide_at_once.new.row =
    with_items_is c.self.inside.numbers c.divide_at_once.new.row (c.divide_at_once.ensures.length ∙ ap length lent ∙ sym c.self.inside.numbers.ok.0) in
    subst (λ (new : List ℤ). IsShortened c.args.self.now record { numbers = new; denominator = 1 }) (sym written)
    (subst (λ (v : WholeRowView). IsShortened v record { numbers = c.divide_at_once.new.row; denominator = 1 }) c.self.view_is
    (subst (λ (old : List ℤ). IsShortened record { numbers = old; denominator = c.self.inside.denominator }
    record { numbers = c.divide_at_once.new.row; denominator = 1 }) lent record {
      shared = c.self.inside.denominator;
      some = subst (λ (b : ℕ). 0 < b) (sym denominator) c.requires.some;
      length_is = c.divide_at_once.ensures.length;
      entries = λ k l. subst (λ (b : ℤ). number_at c.divide_at_once.new.row k *ℤ b ≡ number_at c.as_mut_slice.result.now k) e
          (c.if-not-divide_at_once.ensures.entries k l);
      denominator_is = omega arith;
    }))
