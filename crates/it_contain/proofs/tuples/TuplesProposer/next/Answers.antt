use Rattle.std.proofs.Common.{◌≤◌, ◌<◌, ◌∷◌, drop, ◌+◌, ◌^◌, ℕ, ◌∙◌, sym, ap, subst}
use Rattle.it_contain.specs.Shapes.{tuple_candidates}
use Rattle.it_contain.proofs.CandidateLemmas.{candidates_more, candidates_end}
use Rattle.it_contain.proofs.TupleLemmas.{few_tuples}
use Rattle.it_contain.proofs.tuples.TuplesProposer.next.Goals as goal

pub pow-requires : goal.pow-requires
pow-requires g c = few_tuples c.count.result c.args.self.now.shape.parts c.count.ensures.few c.args.self.now.within.1

pub returns-then-self-pow-clause-takes : goal.returns-then-self-pow-clause-takes
returns-then-self-pow-clause-takes g c =
    let total = c.pow.ensures ∙ ap (λ b. b ^ c.args.self.now.shape.parts) c.count.ensures.value in
    let e = candidates_end g.S.PartSets.sets c.args.self.now.shape c.args.self.now.number
    (subst (λ (t : ℕ). t ≤ c.args.self.now.number) total c.if-self-pow.true) in (e, e)

pub returns-clause-takes : goal.returns-clause-takes
returns-clause-takes g c =
    let total = c.pow.ensures ∙ ap (λ b. b ^ c.args.self.now.shape.parts) c.count.ensures.value in
    let some = subst (λ (b : ℕ). 0 < b) c.count.ensures.value c.count.ensures.some in
    candidates_more g.S.PartSets.sets c.args.self.now.shape c.args.self.now.number some
    (subst (λ (t : ℕ). c.args.self.now.number < t) total c.if-self-pow.false)
    ∙ ap (λ z. z ∷ drop (c.args.self.now.number + 1) (tuple_candidates g.S.PartSets.sets c.args.self.now.shape)) (sym c.candidate_at-candidate.ensures)
