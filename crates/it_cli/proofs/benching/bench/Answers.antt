use Rattle.std.proofs.Common.{refl}
use Rattle.it_cli.specs.Outputs.{bench_mode}
use Rattle.it_cli.proofs.EndLemmas.{end_of_item}
use Rattle.it_cli.proofs.benching.bench.Goals as goal

pub returns-in-Ok : goal.returns-in-Ok
returns-in-Ok g c bytes = end_of_item (bench_mode c.args.budgets _ c.args.seed c.args.count) tt c.in-Ok.line.items _ _ _ _ bytes
    c.in-Ok.line.items c.as_slice.result.now c.tell.result refl c.in-Ok.ensures refl refl c.as_slice.ensures.value c.tell.ensures
