use Rattle.std.proofs.Common.{◌≡◌, ◌≤◌, ◌<◌, ◌^◌, ◌++◌, ◌∷◌, [], List, ℤ, pos, length, sym, subst, ap, ◌∙◌, arith}
use Rattle.std.proofs.lemmas.Int.{to_z_pos}
use Rattle.std.proofs.lemmas.List.Elements.{All-push}
use Rattle.it_number.specs.Limit.{IsWithin}
use Rattle.it_codes.specs.Codes.{variables_of, HasEntropy}
use Rattle.it_codes.proofs.EntropyLemmas.{more_entropies}
use Rattle.it_codes.proofs.entropies.entropies_of.Goals as goal
use mir.Syntax.{w128}

pub loop-set-preserved : goal.loop-set-preserved
loop-set-preserved c =
    let values = c.loop-set.values.items in
    let small : c.in-Some.h < 2 ^ 127 = omega (arith, c.in-Some.ensures.small) in
    let items : c.push.new.self.items ≡ values ++ pos c.in-Some.h ∷ [] = c.in_ok-push-in-Some.ensures.items
    ∙ ap (λ x. values ++ x ∷ []) (to_z_pos w128 c.in-Some.h small) in
    let within : IsWithin (pos c.in-Some.h) = omega (arith, c.in-Some.ensures.small) in (
      c.loop-set.invariant.0,
      omega (arith, c.in_ok-push-in-Some.ensures.len, ap length items, c.loop-set.invariant.1),
      rw items (All-push IsWithin values (pos c.in-Some.h) c.loop-set.invariant.2 within),
      rw items (more_entropies c.args.code.now values c.loop-set.set c.in-Some.h c.loop-set.invariant.1 c.loop-set.invariant.3
          c.in-Some.ensures.found),
    )

pub returns-clause-values : goal.returns-clause-values
returns-clause-values c = λ s from below.
    let last : 2 ^ variables_of c.args.code.now ≤ c.loop-set.set = subst (λ n. n ≤ c.loop-set.set) c.loop-set.invariant.0 c.loop-set-test.false in
    subst (λ (v : List ℤ). HasEntropy c.args.code.now 1 v s) (sym c.new.ensures) (c.loop-set.invariant.3 s from (omega (arith, last, below)))
