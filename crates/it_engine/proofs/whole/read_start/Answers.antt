use Rattle.std.proofs.Common.{◌≤◌, ◌∙◌, ◌+◌, ◌/◌, ℕ, List, length, slice_index_or, sym, ap, subst, arith}
use Rattle.it_space.specs.Rows.{Terms}
use Rattle.it_engine.specs.Loading.{right_sum, AreReadColumns, AreReadRows, IsNorm}
use Rattle.it_whole.specs.WholeRows.{WholeRowView}
use Rattle.it_engine.proofs.Answers.{of_some}
use Rattle.it_engine.proofs.Starts.{columns_are_of_start, engine_start, limit_fits, limit_short, stands_start, IsLoaded}
use Rattle.it_engine.proofs.StartSums.{start_fits}
use Rattle.it_engine.proofs.whole.read_start.Goals as goal

pub returns : goal.returns
returns c =
    let cs = c.args.coordinates.now in let generators = c.args.generators.now in let target = c.args.target.now in
    let columns = c.in-Some.columns.items in let norm = c.in-Some-norm.norm in let limit = 9223372036854775807 / norm in
    let rows = c.in_ok-engine.engine.rows in let basis = c.in_ok-engine.engine.basis in
    let loaded : IsLoaded cs generators target columns norm limit rows basis = record {
      columns_are = of_some c.in_ok-columns.field-0 c.in-Some.columns (λ columns. AreReadColumns cs generators target columns.items)
          c.in-Some.is c.in_ok-columns.ensures;
      norm_is = subst (λ (columns : List Terms). IsNorm columns norm) c.as_slice.ensures.value c.in-Some-norm.ensures;
      fit = limit_fits norm;
      rows_are = subst (λ (rows : List WholeRowView). AreReadRows cs target limit (length cs + 1) rows) (sym c.in_ok-engine.ensures.rows)
          (of_some c.in_ok-rows.field-0 c.in-Some-2.rows (λ rows. AreReadRows cs target limit (length cs + 1) rows.items) c.in-Some-2.is
          c.in_ok-rows.ensures.rows);
      height = ap length c.in_ok-engine.ensures.basis ∙ c.in_ok-basis.ensures.count;
      basis_is = λ i l. ap (λ (basis : List ℕ). slice_index_or basis i 0) c.in_ok-engine.ensures.basis ∙ c.in_ok-basis.ensures.value i l;
    } in
    let rights : right_sum cs target (length cs) ≤ limit = of_some c.in_ok-rows.field-0 c.in-Some-2.rows
    (λ rows. right_sum cs target (length cs) ≤ limit) c.in-Some-2.is c.in_ok-rows.ensures.rights in
    let short = limit_short cs generators target columns norm limit rows basis loaded in
    record {
      height = loaded.height;
      count = loaded.columns_are.0;
      safe = engine_start cs generators target columns norm limit rows basis loaded;
      stands = stands_start cs generators target columns norm limit rows basis loaded;
      fits = start_fits cs generators target columns norm loaded.norm_is.short
          (columns_are_of_start cs generators target columns norm limit rows basis loaded) (omega (arith, rights, short));
    }
