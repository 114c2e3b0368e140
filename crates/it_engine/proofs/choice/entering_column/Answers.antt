use Rattle.std.proofs.Common.{rules, FitsSigned, to_z-of_z, w64, length, subst, sym, ap, ◌∙◌, [], slice_index_or}
use Rattle.it_rational.specs.Rational.{sign_least}
use Rattle.it_space.specs.Rows.{Terms, value}
use Rattle.it_whole.specs.ColumnTerms.{Suits}
use Rattle.it_space.specs.Sums.{number_at}
use Rattle.it_vectors.proofs.Items.{item_by_default}
use Rattle.it_run.proofs.SearchLemmas.{first_is}
use Rattle.it_engine.proofs.choice.entering_column.Goals as goal

pub price-requires : goal.price-requires
price-requires c = record {
  suits = subst (λ (ts : Terms). Suits ts c.args.cost.now.numbers) (sym
      (item_by_default c.args.columns.now c.loop-j.j c.index-columns-j.result [] (search rules) c.index-columns-j.is))
      (c.requires c.loop-j.j (search rules));
}

pub returns-then-not-is_at_least_zero-clause-some : goal.returns-then-not-is_at_least_zero-clause-some
returns-then-not-is_at_least_zero-clause-some c =
    let f : FitsSigned w64 c.price.result = search rules in
    first_is (λ j. sign_least (value (slice_index_or c.args.columns.now j []) (number_at c.args.cost.now.numbers)))
    (length c.args.columns.now) c.loop-j.j (search rules) c.loop-j.invariant
    (ap (λ (ts : Terms). sign_least (value ts (number_at c.args.cost.now.numbers)))
    (sym (item_by_default c.args.columns.now c.loop-j.j c.index-columns-j.result [] (search rules) c.index-columns-j.is))
    ∙ ap sign_least (sym c.price.ensures) ∙ ap sign_least (sym (to_z-of_z f)) ∙ sym c.is_at_least_zero.ensures ∙ c.if-not-is_at_least_zero.true)
