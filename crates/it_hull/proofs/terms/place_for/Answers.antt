use Rattle.std.proofs.Common.{rules, ◌≡◌, ℕ, get_or, ℤ, pos}
use Rattle.std.proofs.lemmas.List.Sorted.{answers_always}
use Rattle.std.proofs.lemmas.Map.Lookups.{exact_unsigned}
use Rattle.it_space.proofs.CanonicalRows.{ranks_rise}
use Rattle.it_hull.proofs.TermLemmas.{found_is_some, place_found}
use Rattle.it_hull.proofs.terms.place_for.Goals as goal

pub returns-in-Ok : goal.returns-in-Ok
returns-in-Ok c =
    let p = c.in-Ok.ensures.position (λ t. t.0) (answers_always _ _ _ (λ f a r f' e. search rules)) in
    let t : ℕ × ℤ = get_or c.args.terms.now c.in-Ok.place (0, pos 0) in
    let same : t.0 ≡ c.args.at = exact_unsigned t.0 c.args.at (p (0, pos 0)) in
    absurd (found_is_some c.args.at c.args.terms.now c.in-Ok.place (0, pos 0) c.requires.canonical c.requires.lacks c.in-Ok.ensures.bound same)

pub returns-in-Err : goal.returns-in-Err
returns-in-Err c = place_found c.args.at c.args.terms.now c.in-Err.place c.in-Err.ensures.bound
    (c.in-Err.ensures.position (λ t. t.0) (answers_always _ _ _ (λ f a r f' e. search rules)) (ranks_rise c.args.terms.now c.args.at c.requires.canonical))
