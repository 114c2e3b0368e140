use Rattle.std.proofs.Common.{◌≡◌, ◌+◌, ◌∙◌, pos, Bool, if◌then◌else◌, int_lt, to_z, of_z, w8, false, slice_index_or, sym, ap, arith}
use Rattle.it_rational.specs.Rational.{minus, times}
use Rattle.it_tableau.specs.TableauViews.{height, table}
use Rattle.it_run.specs.Answers.{sign_number}
use Rattle.it_run.proofs.SignLemmas.{sign_is_negative, signed_is}
use Rattle.it_run.proofs.readings.value_at.Goals as goal
use Rattle.it_run.proofs.readings.value_at.Goals.{After-sign}

-- whether the row was negated
abbrev is_negated : (c : After-sign) → Bool
is_negated c = slice_index_or c.args.tableau.now.negated c.args.k false

sign_test : (c : After-sign) → int_lt (to_z w8 (of_z w8 c.sign.result)) (pos 0) ≡ is_negated c
sign_test c = ap (λ s. int_lt (to_z w8 (of_z w8 s)) (pos 0)) c.sign.ensures ∙ sign_is_negative (is_negated c)

signed_cost : (c : After-sign) → (if is_negated c then minus c.cost-cost.result else c.cost-cost.result)
    ≡ times (sign_number c.args.tableau.now c.args.k) ((table c.args.tableau.now).entry (height c.args.tableau.now)
    (c.args.tableau.now.generator_columns + c.args.k))
signed_cost c = signed_is (is_negated c) c.cost-cost.result
    ∙ ap (times (sign_number c.args.tableau.now c.args.k)) (c.cost-cost.ensures
    ∙ ap (λ j. (table c.args.tableau.now).entry (height c.args.tableau.now) j) (omega (arith, c.columns.ensures, c.rows.ensures)))

pub returns-then-sign-lt0 : goal.returns-then-sign-lt0
returns-then-sign-lt0 c = let d = (goal.at.returns-then-sign-lt0 c).After-sign in
    c.neg.ensures ∙ ap (λ b. if b then minus c.cost-cost.result else c.cost-cost.result) (sym c.if-sign-lt0.true ∙ sign_test d) ∙ signed_cost d

pub returns-else-sign-lt0 : goal.returns-else-sign-lt0
returns-else-sign-lt0 c = let d = (goal.at.returns-else-sign-lt0 c).After-sign in
    ap (λ b. if b then minus c.cost-cost.result else c.cost-cost.result) (sym c.if-sign-lt0.false ∙ sign_test d) ∙ signed_cost d
