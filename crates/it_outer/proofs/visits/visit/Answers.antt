use Rattle.std.proofs.Common.{rules, ◌≡◌, ◌∷◌, [], ◌++◌, map, ap, sym, ◌∙◌, subst}
use Rattle.std.proofs.lemmas.List.{map-append}
use Rattle.it_space.specs.Answers.{certificate_view}
use Rattle.it_space.specs.Rows.{Terms}
use Rattle.it_outer.specs.Search.{IsFirstWith}
use Rattle.it_prove.specs.ProofViews.{EndsWith, Yes, No, Undecided, proof_view}
use Rattle.it_prove.specs.declared.types.Proof.{Proof}
use Rattle.it_outer.proofs.RoundLemmas.{all_proved, first_with, proved_more}
use Rattle.it_outer.proofs.visits.visit.Goals as goal

pub loop-row-preserved : goal.loop-row-preserved
loop-row-preserved c =
    let pushed : c.push.new.self.items ≡ c.loop-row.proofs.items ++ c.in-Yes.proof ∷ [] = search rules in
    let ends : EndsWith c.args.problem.now c.row-item.result c.args.effort (Yes (certificate_view c.in-Yes.proof)) =
    subst (λ (p : Proof). EndsWith c.args.problem.now c.row-item.result c.args.effort (proof_view p)) c.in-Yes.is c.in_ok-proof.ensures.ends in record {
      proved = proved_more c.args.problem.now c.args.effort c.args.rows.now (map certificate_view c.loop-row.proofs.items)
          (map certificate_view c.push.new.self.items) c.loop-row.row-index c.row-item.result (certificate_view c.in-Yes.proof)
          c.loop-row-test.true c.row-item.is ends (ap (map certificate_view) pushed
          ∙ map-append certificate_view c.loop-row.proofs.items (c.in-Yes.proof ∷ [])) c.loop-row.invariant.proved;
      outcomes = c.in_ok-proof.ensures.outcomes;
    }

pub returns-in-No-clause-ends : goal.returns-in-No-clause-ends
returns-in-No-clause-ends c = (
  c.row-item.result,
  first_with c.args.problem.now c.args.effort c.args.rows.now (map certificate_view c.loop-row.proofs.items) c.loop-row.row-index
      c.row-item.result (No c.in-No.point) c.loop-row-test.true c.row-item.is
      (subst (λ (p : Proof). EndsWith c.args.problem.now c.row-item.result c.args.effort (proof_view p)) c.in-No.is
      c.in_ok-proof.ensures.ends) c.loop-row.invariant.proved,
)

pub returns-in-Undecided-clause-ends : goal.returns-in-Undecided-clause-ends
returns-in-Undecided-clause-ends c =
    let same : c.in_ok-left-in-Undecided.left ≡ c.row-item.result = search rules in
    subst (λ (row : Terms). IsFirstWith c.args.problem.now c.args.effort c.args.rows.now row (Undecided c.in-Undecided.cause)) (sym same)
    (first_with c.args.problem.now c.args.effort c.args.rows.now (map certificate_view c.loop-row.proofs.items) c.loop-row.row-index
    c.row-item.result (Undecided c.in-Undecided.cause) c.loop-row-test.true c.row-item.is
    (subst (λ (p : Proof). EndsWith c.args.problem.now c.row-item.result c.args.effort (proof_view p)) c.in-Undecided.is
    c.in_ok-proof.ensures.ends) c.loop-row.invariant.proved)

pub returns-clause-ends : goal.returns-clause-ends
returns-clause-ends c = all_proved c.args.problem.now c.args.effort c.args.rows.now
    (map certificate_view c.loop-row.proofs.items) c.loop-row.row-index c.loop-row-test.false c.loop-row.invariant.proved
