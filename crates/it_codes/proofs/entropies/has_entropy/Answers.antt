use Rattle.std.proofs.Common.{rules, ◌≡◌, ◌*◌, pos, FitsSigned, to_z-of_z}
use Rattle.std.specs.Bool.{OnFalse}
use Rattle.std.proofs.lemmas.Bool.{OnFalse_at, OnFalse_from}
use Rattle.it_codes.specs.Codes.{HasEntropy}
use Rattle.it_codes.proofs.EntropyLemmas.{other_value}
use Rattle.it_codes.proofs.entropies.has_entropy.Goals as goal
use mir.Syntax.{w128}

pub returns-in-Some-clause-no : goal.returns-in-Some-clause-no
returns-in-Some-clause-no c = OnFalse_from c.is_product.result (HasEntropy c.args.code.now c.args.times c.args.point.now c.args.set → ⊥) (λ e.
    let fits : FitsSigned w128 c.at.result = search rules in
    let differs : OnFalse c.is_product.result (c.at.result ≡ pos (c.args.times * c.in-Some.h) → ⊥) = simp to_z-of_z at c.is_product.ensures.no in
    other_value c.args.code.now c.args.times c.args.point.now c.args.set c.in-Some.h c.at.result c.at.ensures.value
    c.in-Some.ensures.found (OnFalse_at e differs))
