use Rattle.std.proofs.Common.{◌≡◌, map}
use Rattle.it_run.proofs.AnswerLemmas.{if_ok}
use Rattle.it_cli.specs.Counts.{IsBenchLine, bench_line}
use Rattle.it_cli.proofs.benching.generated_line.Goals as goal

pub returns : goal.returns
returns g c = if_ok c.bench_line.result (λ t. t.items ≡ bench_line c.args.seed c.args.count c.in_ok-counts.counts)
    (λ t. IsBenchLine c.args.budgets _ c.args.seed c.args.count t.items) c.bench_line.ensures (λ t is. record {
      questions = c.in_ok-questions.questions.items;
      asked = c.in_ok-questions.ensures.read;
      counts = c.in_ok-counts.counts;
      counted = rw (← c.as_slice.ensures.value) c.in_ok-counts.ensures;
      is = is;
    })
