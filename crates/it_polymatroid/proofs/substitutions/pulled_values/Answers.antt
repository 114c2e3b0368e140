use Rattle.std.proofs.Common.{rules, ◌≡◌, ◌∙◌, ◌++◌, ◌∷◌, [], length, ap, arith, FitsSigned, to_z-of_z}
use Rattle.std.proofs.lemmas.List.Elements.{All-push}
use Rattle.it_number.specs.Limit.{IsWithin}
use Rattle.it_polymatroid.specs.Substitutions.{union_of_images}
use Rattle.it_polymatroid.specs.Tables.{value_at}
use Rattle.it_polymatroid.proofs.Images.{union_below, values-push}
use Rattle.it_polymatroid.proofs.TableLemmas.{table_within}
use Rattle.it_polymatroid.proofs.substitutions.pulled_values.Goals as goal
use mir.Syntax.{w128}

pub at-requires : goal.at-requires
at-requires c = rw (c.union_of_images.ensures) (union_below c.args.table.now.variables 0 c.args.by.now c.from_number.result c.requires.within)

pub loop-number-preserved : goal.loop-number-preserved
loop-number-preserved c =
    let values = c.loop-number.values.items in
    let fits : FitsSigned w128 c.at.result = search rules in
    let items : c.push.new.self.items ≡ values ++ c.at.result ∷ [] = simp to_z-of_z at c.in_ok-push.ensures.items in
    let same : c.at.result ≡ value_at c.args.table.now (union_of_images c.args.by.now c.loop-number.number) = c.at.ensures.value
    ∙ ap (value_at c.args.table.now) (c.union_of_images.ensures ∙ ap (union_of_images c.args.by.now) c.from_number.ensures) in
    let within : IsWithin c.at.result = rw same (table_within c.args.table.now c.at.ensures.table (union_of_images c.args.by.now c.loop-number.number)) in (
      omega (arith, c.in_ok-push.ensures.len, ap length items),
      rw items (All-push IsWithin values c.at.result c.loop-number.invariant.1 within),
      rw items (values-push values (λ s. value_at c.args.table.now (union_of_images c.args.by.now s)) c.loop-number.number c.at.result
          c.loop-number.invariant.0 c.loop-number.invariant.2 same),
      λ _. c.at.ensures.table,
    )
