use Rattle.it_question.specs.QuestionLimits.{widest}
use Rattle.it_tell.proofs.LineLemmas.{can_be_printed, fault_line, has_verdict, invalid_line, reported_line}
use Rattle.it_tell.proofs.lines.tell_line.Goals as goal

pub returns-in-Err : goal.returns-in-Err
returns-in-Err c = fault_line (λ j. j.text.items) (λ j. j.invalid) c.args.options c.args.k c.args.line.now c.in-Err.fault c.judge_fault.result
    c.in-Err.ensures.reading c.judge_fault.ensures.line c.judge_fault.ensures.invalid

pub returns-then-judged : goal.returns-then-judged
returns-then-judged c = invalid_line c.args.options c.args.k c.args.line.now c.in_ok-judged.judged.text.items c.in_ok-judged.judged.invalid
    (c.in_ok-judged.ensures widest c.args.line.now c.in-Ok.ensures.reading) c.if-judged.true

pub reported_text-requires-clause-printable : goal.reported_text-requires-clause-printable
reported_text-requires-clause-printable c = can_be_printed c.args.line.now c.in-Ok.reported c.in-Ok.ensures.reading c.in-Ok.ensures.limits
    (has_verdict c.args.k c.args.line.now c.in_ok-judged.judged.text.items c.in_ok-judged.judged.invalid
    (c.in_ok-judged.ensures widest c.args.line.now c.in-Ok.ensures.reading) c.if-judged.false)

pub returns : goal.returns
returns c = reported_line c.args.options c.args.k c.args.line.now c.in_ok-text.text.items c.in-Ok.reported c.in-Ok.ensures.reading
    (has_verdict c.args.k c.args.line.now c.in_ok-judged.judged.text.items c.in_ok-judged.judged.invalid
    (c.in_ok-judged.ensures widest c.args.line.now c.in-Ok.ensures.reading) c.if-judged.false) c.in_ok-text.ensures
