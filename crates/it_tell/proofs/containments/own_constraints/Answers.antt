use Rattle.std.proofs.Common.{ap, subst, sym, ◌∙◌}
use Rattle.it_space.specs.declared.spaces.Space.{Space}
use Rattle.it_demand.specs.Origins.{AreStated}
use Rattle.it_question.specs.LineDemands.{line_demands}
use Rattle.it_question.specs.LineOrigins.{line_origins}
use Rattle.it_question.specs.Questions.{VerbView, verb_view}
use Rattle.it_tell.specs.Steps.{AreOwnConstraintsBy}
use Rattle.it_tell.proofs.containments.own_constraints.Goals as goal

pub returns : goal.returns
returns c =
    let own = c.in_ok-own.own.items in
    let lines = c.in-Contain.second.lines in
    subst (λ (v : VerbView). AreOwnConstraintsBy v own) (sym (ap verb_view c.in-Contain.is) ∙ c.verb.ensures.value)
    (subst (λ (s : Space). AreStated s (line_origins s.variables lines) (line_demands s.variables lines) own) c.space-space.ensures.counts c.in_ok-own.ensures)
