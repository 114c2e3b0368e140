use Rattle.std.proofs.Common.{◌≡◌, List, refl, sym, subst}
use Rattle.it_rational.specs.Rational.{Rational}
use Rattle.it_tableau.specs.TableauViews.{table_of, start_of}
use Rattle.it_tableau.proofs.StartView.{start_shown}
use Rattle.it_tableau.proofs.tableau.Tableau.start.Goals as goal

pub returns-clause-value : goal.returns-clause-value
returns-clause-value c = let a = c.in_ok-rows.ensures.value in record {
  usable = refl;
  generator_columns_are = refl;
  height_is = c.in_ok-basis.ensures.count;
  table_is = subst (λ (rows : List (List Rational)). table_of rows c.in_ok-basis.basis.items
      ≡ start_of c.args.coordinates.now c.args.columns.now c.args.target.now) (sym a.all_are)
      (start_shown c.args.coordinates.now c.args.columns.now c.args.target.now a.rows a.rows_are a.cost a.cost_is c.in_ok-basis.basis.items
      c.in_ok-basis.ensures.count c.in_ok-basis.ensures.value);
  signs_are = c.in_ok-negated.ensures.value;
}
