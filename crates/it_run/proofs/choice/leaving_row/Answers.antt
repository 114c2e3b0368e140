use Rattle.std.proofs.Common.{◌≡◌, ◌<◌, ℕ, ◌+◌, true, not, ap, sym, ◌∙◌, subst, arith}
use Rattle.std.proofs.lemmas.Bool.{true≢false}
use Rattle.it_rational.specs.Rational.{minus, is_at_least_zero}
use Rattle.it_fraction.specs.Fits.{IsNarrow}
use Rattle.it_tableau.specs.Operations.{rationals}
use Rattle.it_tableau.specs.TableauViews.{height, table}
use Rattle.it_tableau.specs.SimplexTables.{ratio}
use Rattle.it_tableau.proofs.RowsLemmas.{fits_more}
use Rattle.it_run.specs.Choice.{is_candidate}
use Rattle.it_run.specs.Steps.{IsBestOf}
use Rattle.it_run.proofs.SearchLemmas.{best_skips, best_takes}
use Rattle.it_run.proofs.choice.leaving_row.Goals as goal
use Rattle.it_run.proofs.choice.leaving_row.Goals.{Joined-is_positive, then-is_positive+in_ok-ratio, else-is_positive}

-- the entry of row i is above 0
abbrev Candidate : Joined-is_positive → ℕ → Type 0
Candidate c i = is_candidate rationals (table c.args.tableau.now) c.args.column i ≡ true

-- its ratio fits
abbrev Fit : Joined-is_positive → ℕ → Type 0
Fit c i = IsNarrow (ratio rationals (height c.args.tableau.now) c.args.tableau.now.generator_columns (table c.args.tableau.now) c.args.column i)

pub loop-i-preserved : goal.loop-i-preserved
loop-i-preserved c =
    let t = c.args.tableau.now in
    let within : c.loop-i.i < height t = omega (arith, c.loop-i-test.true) in
    elim c.if-is_positive.branch [
      | then-is_positive+in_ok-ratio w ↦
          let o : Candidate c c.loop-i.i = ap not (ap (λ q. is_at_least_zero (minus q)) (sym c.entry.ensures) ∙ w.if-is_positive.ensures.yes) in record {
            best = subst (IsBestOf (height t) t.generator_columns (table t) c.args.column (c.loop-i.i + 1)) (sym (w.best-is ∙ w.best_after-best.ensures))
                (best_takes (height t) t.generator_columns (table t) c.args.column c.loop-i.i w.in_ok-ratio.ratio c.loop-i.best within o
                w.in_ok-ratio.ensures.1 c.loop-i.invariant.best);
            fits = fits_more c.loop-i.i (λ i. Candidate c i → Fit c i) c.loop-i.invariant.fits (λ _. w.in_ok-ratio.ensures.0);
          }
      | else-is_positive w ↦
          let o = ap not (ap (λ q. is_at_least_zero (minus q)) (sym c.entry.ensures) ∙ w.if-is_positive.ensures.no) in record {
            best = subst (IsBestOf (height t) t.generator_columns (table t) c.args.column (c.loop-i.i + 1)) (sym w.best-is)
                (best_skips (height t) t.generator_columns (table t) c.args.column c.loop-i.i c.loop-i.best o c.loop-i.invariant.best);
            fits = fits_more c.loop-i.i (λ i. Candidate c i → Fit c i) c.loop-i.invariant.fits (λ a. absurd (true≢false (sym a ∙ o)));
          }
    ]
