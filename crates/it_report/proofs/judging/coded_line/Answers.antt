use Rattle.std.proofs.Common.{◌^◌, ◌-◌, ◌≤◌, ℕ, length, sym, subst, subst₂}
use Rattle.it_space.specs.Answers.{answer_view}
use Rattle.it_codes.specs.Codes.{CodeView, FirstOtherIs, variables_of}
use Rattle.it_report.specs.Judging.{values_of}
use Rattle.it_report.proofs.JudgingLemmas.{invalid_coded, other_coded, set_named, valid_coded, values_complete}
use Rattle.it_report.proofs.judging.coded_line.Goals as goal

pub first_other-requires : goal.first_other-requires
first_other-requires c =
    let code = c.args.code.now in
    record {
      complete = subst₂ (λ (x : CodeView) values. 2 ^ variables_of x - 1 ≤ length values) (sym c.code.ensures) c.point_of-point.ensures
          (values_complete c.args.question.now.body (answer_view c.args.answer.now) code c.requires.fits);
    }

pub returns-then-judged : goal.returns-then-judged
returns-then-judged c =
    invalid_coded c.args.k c.args.question.now.body (answer_view c.args.answer.now)
    c.args.code.now c.in_ok-judged.judged.text.items c.in_ok-judged.judged.invalid
    c.requires.fits.no c.if-judged.true c.in_ok-judged.ensures

pub other_line-requires : goal.other_line-requires
other_line-requires c =
    let code = c.args.code.now in
    let a = answer_view c.args.answer.now in
    let told = subst (λ values. FirstOtherIs code.code code.times values c.in_ok-other.other) (sym c.point_of-point.ensures)
    (subst₂ (λ (x : CodeView) (t : ℕ). FirstOtherIs x t c.point_of-point.result.now c.in_ok-other.other) c.code.ensures c.times.ensures
    c.in_ok-other.ensures) in
    set_named c.args.question.now.body a code c.problem_names.result.now c.in-Some.set c.requires.fits c.problem_names.ensures.value
    (subst (FirstOtherIs code.code code.times (values_of a)) c.in-Some.is told)

pub returns-in-Some : goal.returns-in-Some
returns-in-Some c =
    let code = c.args.code.now in
    let a = answer_view c.args.answer.now in
    let told = subst (λ values. FirstOtherIs code.code code.times values c.in_ok-other.other) (sym c.point_of-point.ensures)
    (subst₂ (λ (x : CodeView) (t : ℕ). FirstOtherIs x t c.point_of-point.result.now c.in_ok-other.other) c.code.ensures c.times.ensures
    c.in_ok-other.ensures) in
    other_coded (λ j. j.text.items) (λ j. j.invalid) c.args.k c.args.question.now.body a code c.in_ok-judged.judged.text.items
    c.in_ok-judged.judged.invalid
    c.problem_names.result.now c.in-Some.set c.other_line.result c.requires.fits.no c.if-judged.false c.in_ok-judged.ensures c.problem_names.ensures.value
    (subst (FirstOtherIs code.code code.times (values_of a)) c.in-Some.is told) c.other_line.ensures

pub returns-in-None : goal.returns-in-None
returns-in-None c =
    let code = c.args.code.now in
    let a = answer_view c.args.answer.now in
    let told = subst (λ values. FirstOtherIs code.code code.times values c.in_ok-other.other) (sym c.point_of-point.ensures)
    (subst₂ (λ (x : CodeView) (t : ℕ). FirstOtherIs x t c.point_of-point.result.now c.in_ok-other.other) c.code.ensures c.times.ensures
    c.in_ok-other.ensures) in
    valid_coded c.args.k c.args.question.now.body a code c.in_ok-judged.judged.text.items c.in_ok-judged.judged.invalid
    c.requires.fits.no c.if-judged.false c.in_ok-judged.ensures
    (subst (FirstOtherIs code.code code.times (values_of a)) c.in-None.is told)
