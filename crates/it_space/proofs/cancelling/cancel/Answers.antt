use Rattle.std.proofs.Common.{rules, ◌∙◌, refl}
use Rattle.it_space.proofs.MixLemmas.{times_up_is, times_down_is, cancelled_fits, not_cancelled, cancel_is, cancel_told, where_fault}
use Rattle.it_space.proofs.cancelling.cancel.Goals as goal

pub returns-in_err-terms-clause-wide : goal.returns-in_err-terms-clause-wide
returns-in_err-terms-clause-wide c =
    let up = times_up_is c.args.at c.args.up.now c.args.down.now c.size.result c.common_divisor-common.result c.size.ensures.value
    c.common_divisor-common.ensures.value in
    let down = times_down_is c.args.at c.args.up.now c.args.down.now c.size-2.result c.common_divisor-common.result c.size-2.ensures.value
    c.common_divisor-common.ensures.value in
    let stops = where_fault c.in_err-terms.ensures.wide (not_cancelled c.args.at _ _ c.args.up.now c.args.down.now _ _ up down
    c.terms.ensures.value c.terms-2.ensures.value) in
    search (rules, stops)

pub returns-clause-row : goal.returns-clause-row
returns-clause-row c =
    let up = times_up_is c.args.at c.args.up.now c.args.down.now c.size.result c.common_divisor-common.result c.size.ensures.value
    c.common_divisor-common.ensures.value in
    let down = times_down_is c.args.at c.args.up.now c.args.down.now c.size-2.result c.common_divisor-common.result c.size-2.ensures.value
    c.common_divisor-common.ensures.value in
    c.new.ensures ∙ cancel_told c.args.at c.args.up.now c.args.down.now c.in_ok-terms.terms.items c.requires.up c.requires.down
    c.terms.ensures.canonical c.terms-2.ensures.canonical c.in_ok-terms.ensures.is.canonical
    (cancel_is c.args.at _ _ c.args.up.now c.args.down.now _ _ up down c.terms.ensures.value c.terms-2.ensures.value
    c.in_ok-terms.terms.items c.in_ok-terms.terms.items refl c.requires.up c.requires.down c.in_ok-terms.ensures.is)

pub returns-clause-fits : goal.returns-clause-fits
returns-clause-fits c =
    let up = times_up_is c.args.at c.args.up.now c.args.down.now c.size.result c.common_divisor-common.result c.size.ensures.value
    c.common_divisor-common.ensures.value in
    let down = times_down_is c.args.at c.args.up.now c.args.down.now c.size-2.result c.common_divisor-common.result c.size-2.ensures.value
    c.common_divisor-common.ensures.value in
    cancelled_fits c.args.at _ _ c.args.up.now c.args.down.now _ _ up down c.terms.ensures.value c.terms-2.ensures.value c.in_ok-terms.ensures.is.fits
