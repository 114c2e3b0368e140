use Rattle.std.proofs.Common.{List, ℕ, ◌++◌, ◌∙◌, map, ap, refl}
use Rattle.it_tell.proofs.DetailLemmas.{styled_is_printed}
use Rattle.it_tell.proofs.details.styled_texts.Goals as goal

pub returns : goal.returns
returns c = λ target printed.
    let given = c.args.proof in
    let own = c.in-Some.own in
    styled_is_printed c.args.question.now.body c.args.options c.args.options.style target given.lines.items given.named.items
    own.named.items given.text.items given.whole.items given.by.items own.proof.items
    c.in_ok-proof.proof.items (map (λ s. s.items) c.in_ok-steps.steps.items) refl printed c.in-Some.ensures
    (rw c.as_slice-3.ensures.value at rw c.as_slice-2.ensures.value at rw c.as_slice.ensures.value at c.in_ok-steps.ensures)
    (c.in_ok-proof.ensures ∙ ap (λ (b : List ℕ). own.proof.items ++ b) c.as_slice-4.ensures.value)
