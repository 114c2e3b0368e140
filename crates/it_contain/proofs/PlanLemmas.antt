-- Plans once candidates have been proved, one after the other.
use Rattle.std.proofs.Common.{◌≡◌, List, [], ◌∷◌, ◌++◌, map, refl, ap, sym, ◌∙◌, append_assoc}
use Rattle.std.proofs.Math.Path.{fun_ext}
use Rattle.it_region.specs.declared.types.Candidate.{Candidate}
use Rattle.it_contain.specs.Proposals.{Plan, plan_after_all}

-- before any is proved nothing has changed
pub after_none : (plans : List Plan) → map (plan_after_all []) plans ≡ plans
after_none [] = refl
after_none (p ∷ plans) = ap (λ zs. p ∷ zs) (after_none plans)

-- first some are proved, and then more
pub after_more : (proved more : List Candidate) (plans : List Plan) → map (plan_after_all more) (map (plan_after_all proved) plans)
    ≡ map (plan_after_all (proved ++ more)) plans
after_more proved more [] = refl
after_more proved more (p ∷ plans) =
    ap (λ z. z ∷ map (plan_after_all more) (map (plan_after_all proved) plans))
    (fun_ext (λ shape. fun_ext (λ later. ap (p shape) (sym (append_assoc proved more later)))))
    ∙ ap (λ zs. plan_after_all (proved ++ more) p ∷ zs) (after_more proved more plans)
