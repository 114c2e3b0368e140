use Rattle.std.proofs.Common.{List, ℕ, ◌++◌, ◌∙◌, map, ap}
use Rattle.std.proofs.lemmas.Result.{on_ok_weaker}
use Rattle.it_space.specs.Answers.{certificate_view}
use Rattle.it_space.specs.Rows.{value}
use Rattle.it_tell.specs.Tellings.{indented_line}
use Rattle.it_tell.proofs.DetailLemmas.{proof_appended}
use Rattle.it_tell.proofs.details.write_proof.Goals as goal

pub returns : goal.returns
returns c = on_ok_weaker c.write_steps.result
    (proof_appended c.args.asked.now.question.now.body c.args.asked.now.options (value c.args.proven.now.row.now, certificate_view c.args.proven.now.certificate.now)
    c.args.out.now.items c.write_indented.new.out.items c.write_steps.new.out.items
    c.in_ok-texts.texts.proof.items (map (λ s. s.items) c.in_ok-texts.texts.steps.items) c.in_ok-texts.ensures
    (c.in_ok-write_indented.ensures ∙ ap (λ (t : List ℕ). c.args.out.now.items ++ indented_line t) c.as_slice.ensures.value))
    (rw c.as_slice-2.ensures.value at c.write_steps.ensures)
