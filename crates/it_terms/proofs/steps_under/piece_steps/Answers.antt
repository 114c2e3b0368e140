use Rattle.std.proofs.Common.{List, ℕ, ◌+◌, ◌∷◌, [], map, take, subst, sym, ap, ◌∙◌}
use Rattle.std.proofs.lemmas.List.{map-append}
use Rattle.it_elemental.specs.Generators.{forms_of, of_constraint}
use Rattle.it_print.specs.Lines.{origins_of}
use Rattle.it_syntax.specs.declared.types.Term.{Term}
use Rattle.it_terms.specs.StepsUnder.{ArePieceSteps, IsPieceStep, piece_terms}
use Rattle.it_terms.proofs.StepLemmas.{no_step_of, step_more_of}
use Rattle.it_terms.proofs.steps_under.piece_steps.Goals as goal

pub loop-i-init : goal.loop-i-init
loop-i-init c =
    let cs = c.args.under.now.problem.now.constraints in
    let tells = IsPieceStep c.args.under.now.names.now (origins_of cs) (forms_of (map of_constraint cs)) c.args.under.now.lines.now in
    rw c.in_ok-sum.ensures.items (rw c.new-lines.ensures.items (no_step_of piece_terms tells c.args.first.now))

pub loop-i-preserved : goal.loop-i-preserved
loop-i-preserved c =
    let v = c.args.under.now.names.now in
    let cs = c.args.under.now.problem.now.constraints in
    let os = origins_of cs in
    let g = forms_of (map of_constraint cs) in
    let by = c.args.under.now.lines.now in
    let lines = map (λ line. line.items) c.loop-i.lines.items in
    let step = c.in-Some.step in
    let piece = c.index-pieces-i.result in
    subst (λ (ls : List (List ℕ)). ArePieceSteps v os g by c.args.first.now (take (c.loop-i.i + 1) c.args.pieces.now) step.sum.items ls)
    (sym (ap (map (λ line. line.items)) c.in_ok-push-in-Some.ensures.items ∙ map-append (λ line. line.items) c.loop-i.lines.items (step.text ∷ [])))
    (step_more_of piece_terms (IsPieceStep v os g by) c.args.first.now c.args.pieces.now c.loop-i.sum.items step.sum.items lines c.loop-i.i
    piece step.text.items c.loop-i-test.true c.index-pieces-i.is c.loop-i.invariant
    (subst (λ (sum : List Term). ArePieceSteps v os g by sum (piece ∷ []) step.sum.items (step.text.items ∷ [])) c.as_slice.ensures.value
    (rw c.in-Some.is at c.in_ok-step.ensures)))
