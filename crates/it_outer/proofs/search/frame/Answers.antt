use Rattle.std.proofs.Common.{refl}
use Rattle.it_outer.specs.declared.types.Frame.{Frame}
use Rattle.it_outer.proofs.FrameLemmas.{is_frame}
use Rattle.std.proofs.Common.{get_or}
use Rattle.it_outer.proofs.search.frame.Goals as goal

pub returns : goal.returns
returns c =
    let f : Frame = record {
      problem = c.args.problem;
      constants = c.in_ok-constants.constants;
      kept = c.in_ok-kept.kept;
      spare = get_or
          c.args.gone.now 0 0;
      limits = c.args.limits;
    } in
    let all = is_frame f c.args.gone.now c.facts.ensures c.requires.gone c.requires.some c.requires.few_rows
    (rw c.space.ensures.value at c.in_ok-constants.ensures) refl (rw c.space-2.ensures.value at c.in_ok-kept.ensures)
    in record { frame = all.0; search = all.1 }
