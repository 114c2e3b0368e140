use Rattle.std.proofs.Common.{◌≡◌, refl, rules, sym, subst}
use Rattle.it_space.specs.Answers.{CertificateView, certificate_view}
use Rattle.it_space.specs.Rows.{Terms}
use Rattle.it_prove.specs.ProofViews.{EndsWith, Yes, proof_view}
use Rattle.it_prove.specs.declared.types.Proof.{Proof}
use Rattle.it_prove.specs.declared.types.Proof.TheVariants as proofs
use Rattle.it_outer.proofs.OutcomeLemmas.{one_more}
use Rattle.it_outer.proofs.outcomes.Outcomes.keep.Goals as goal

pub returns-in_ok-insert : goal.returns-in_ok-insert
returns-in_ok-insert c =
    let same : c.in_ok-terms.terms.items ≡ c.args.row.now = search rules in
    let is : c.args.proof.now ≡ proofs.Yes c.in-Yes.certificate = search rules in
    λ q effort r h. one_more q effort _ (λ s t. refl) c.args.self.now
    (record { by_row = c.insert.new.self; closed = c.args.self.now.closed }) c.in_ok-terms.terms c.in_ok-kept.kept
    c.in_ok-insert.ensures.entries refl r
    (subst (λ (t : Terms). EndsWith q t effort (Yes (certificate_view c.in_ok-kept.kept))) (sym same)
    (subst (λ (w : CertificateView). EndsWith q c.args.row.now effort (Yes w)) (sym c.in_ok-kept.ensures)
    (subst (λ (p : Proof). EndsWith q c.args.row.now effort (proof_view p)) is h)))
