use Rattle.std.proofs.Common.{◌≡◌, ◌*◌, ◌∙◌, ap, sym, subst, length, List, ℤ}
use Rattle.std.proofs.lemmas.List.{with_items_is}
use Rattle.std.specs.Vec.{with_items}
use native.Mathlib.Nat.{div-mul_cancel}
use Rattle.it_whole.specs.Updates.{IsShortened}
use Rattle.it_whole.specs.WholeRows.{WholeRowView}
use Rattle.it_whole.proofs.RowSteps.{same_shortened}
use Rattle.it_whole.proofs.wide_rows.WideRow.shorten.Goals as goal

pub returns-then-is_one : goal.returns-then-is_one
returns-then-is_one c = same_shortened c.args.self.now

pub returns : goal.returns
returns c =
    let lent = c.as_mut_slice.ensures.value in
    let written : (with_items c.self.inside.numbers c.divide.new.row).items ≡ c.divide.new.row =
    with_items_is c.self.inside.numbers c.divide.new.row (c.divide.ensures.length ∙ ap length lent ∙ sym c.self.inside.numbers.ok.0) in
    subst (λ (new : List ℤ). IsShortened c.args.self.now record { numbers = new; denominator = c.size_quotient-self-inside.result }) (sym written)
    (subst (λ (v : WholeRowView). IsShortened v record { numbers = c.divide.new.row; denominator = c.size_quotient-self-inside.result }) c.self.view_is
    (subst (λ (old : List ℤ). IsShortened record { numbers = old; denominator = c.self.inside.denominator }
    record { numbers = c.divide.new.row; denominator = c.size_quotient-self-inside.result }) lent record {
      shared = c.divisor-shared.result.value;
      some = c.divisor-shared.ensures.numbers.some;
      length_is = c.divide.ensures.length;
      entries = c.divide.ensures.entries;
      denominator_is = ap (λ b. b * c.divisor-shared.result.value) c.size_quotient-self-inside.ensures
          ∙ div-mul_cancel c.divisor-shared.result.value c.divisor-shared.ensures.denominator;
    }))
