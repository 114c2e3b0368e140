use Rattle.std.proofs.Common.{ap, ◌∙◌}
use Rattle.std.specs.List.{list_all}
use Rattle.it_codes.specs.Codes.{is_zero_at}
use Rattle.it_codes.proofs.CountingLemmas.{all_vanish}
use Rattle.it_codes.proofs.counting.vanishes.Goals as goal

pub returns : goal.returns
returns c =
    c.are_zero_at.ensures
    ∙ ap (list_all (λ f. is_zero_at c.args.size c.args.message f.items)) c.as_slice.ensures.value
    ∙ all_vanish c.args.size c.args.message c.args.variable.now
