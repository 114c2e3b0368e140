use Rattle.std.proofs.Common.{◌≡◌, ◌-◌, ◌++◌, length, [], ◌∷◌, arith}
use Rattle.it_forms.specs.Words.{symbol, allowed}
use Rattle.it_syntax.specs.LineForms.{names, more_members}
use Rattle.it_syntax.specs.Scopes.{env_of}
use Rattle.it_syntax.proofs.Loops.{symbol_goes, symbol_stops, symbol_ends, rest_is_shorter}
use Rattle.it_syntax.proofs.members.more_members.Goals as goal

pub loop-divider-smaller : goal.loop-divider-smaller
loop-divider-smaller c = rest_is_shorter (symbol c.args.divider) _ _ _ _ _ _ c.loop-divider-test.ensures.taken c.in-Ok.ensures

pub loop-divider-preserved : goal.loop-divider-preserved
unfolding more_members
loop-divider-preserved c =
    let left : c.saturating_sub-left.result ≡ 16 - length c.loop-divider.found.items = omega (arith, c.saturating_sub-left.ensures, c.len.ensures) in
    rw c.in_ok-add-in-Ok.ensures.added (symbol_goes c.args.divider (λ sets. allowed (16 - length sets) (names (env_of c.args.names.now)))
    (λ sets set. sets ++ set ∷ []) c.loop-divider.found.items c.in-Ok.next _ _ _ _ c.loop-divider-test.ensures.taken
    (rw (← left) c.in-Ok.ensures) c.loop-divider.invariant)

pub returns-in-Err : goal.returns-in-Err
unfolding more_members
returns-in-Err c =
    let left : c.saturating_sub-left.result ≡ 16 - length c.loop-divider.found.items = omega (arith, c.saturating_sub-left.ensures, c.len.ensures) in
    symbol_stops c.args.divider (λ sets. allowed (16 - length sets) (names (env_of c.args.names.now)))
    (λ sets set. sets ++ set ∷ []) c.loop-divider.found.items _ _ _ c.in-Err.stop _ c.loop-divider-test.ensures.taken
    (rw (← left) c.in-Err.ensures) c.loop-divider.invariant

pub returns : goal.returns
unfolding more_members
returns c = rw c.loop-divider-test.ensures.same (symbol_ends c.args.divider
    (λ sets. allowed (16 - length sets) (names (env_of c.args.names.now)))
    (λ sets set. sets ++ set ∷ []) c.loop-divider.found.items _ _ c.loop-divider-test.ensures.none c.loop-divider.invariant)
