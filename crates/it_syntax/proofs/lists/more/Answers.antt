use Rattle.std.proofs.Common.{◌^◌}
use Rattle.std.specs.Prelude.{bit_or}
use Rattle.it_forms.specs.declared.types.Symbol.TheVariants.{Comma}
use Rattle.it_syntax.specs.LineForms.{variable, more_names}
use Rattle.it_syntax.specs.Scopes.{env_of}
use Rattle.it_syntax.proofs.Loops.{symbol_goes, symbol_stops, symbol_ends}
use Rattle.it_syntax.proofs.lists.more.Goals as goal

pub loop-rest-preserved : goal.loop-rest-preserved
unfolding more_names
loop-rest-preserved c = rw (c.union-set.ensures, c.single.ensures) (symbol_goes Comma (λ set. variable (env_of c.args.names.now))
    (λ set i. bit_or set (2 ^ i)) c.loop-rest.set c.in-Ok.i _ _ _ _ c.loop-rest-test.ensures.taken c.in-Ok.ensures.gives
    c.loop-rest.invariant)

pub returns-in-Err : goal.returns-in-Err
unfolding more_names
returns-in-Err c = symbol_stops Comma (λ set. variable (env_of c.args.names.now))
    (λ set i. bit_or set (2 ^ i)) c.loop-rest.set _ _ _ c.in-Err.stop _ c.loop-rest-test.ensures.taken c.in-Err.ensures.gives
    c.loop-rest.invariant

pub returns : goal.returns
unfolding more_names
returns c = rw c.loop-rest-test.ensures.same (symbol_ends Comma (λ set. variable (env_of c.args.names.now))
    (λ set i. bit_or set (2 ^ i)) c.loop-rest.set _ _ c.loop-rest-test.ensures.none c.loop-rest.invariant)
