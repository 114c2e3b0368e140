-- Steps of the lines of certificates.
use Rattle.std.proofs.Common.{◌≡◌, ℕ, zero, suc, ◌+◌, ◌<◌, ◌≤◌, List, [], ◌∷◌, ◌++◌, length, drop, map, get_or, min, refl, sym, ap, ap₂, ◌∙◌, arith, append_assoc, append-nil}
use Rattle.it_space.proofs.ListLemmas.{drop_item}
use Rattle.it_space.specs.declared.answers.Certificate.{Certificate}
use Rattle.it_problems.specs.declared.problems.Origin.{Origin}
use Rattle.it_space.specs.Answers.{CertificateView, certificate_view}
use Rattle.it_space.specs.Rows.{Terms}
use Rattle.it_elemental.specs.Generators.{Generator}
use Rattle.it_syntax.specs.NamesViews.{NamesView}
use Rattle.it_print.specs.ProofLines.{certificate_lines, proof_lines}

module _ (k : ℕ) (v : NamesView) (origins : List Origin) (rows : ℕ → Generator) where
  -- one more certificate with its target
  pub proof_step : (proofs : List Certificate) (targets : List Terms) (i : ℕ) (w : Certificate) (target : Terms) (old new whole : List ℕ)
      → i < length proofs → i < length targets
      → w ≡ get_or proofs i w → target ≡ get_or targets i target → new ≡ old ++ certificate_lines k v origins rows (certificate_view w) target
      → old ++ proof_lines k v origins rows (map certificate_view (drop i proofs)) (drop i targets) ≡ whole
      → new ++ proof_lines k v origins rows (map certificate_view (drop (i + 1) proofs)) (drop (i + 1) targets) ≡ whole
  proof_step proofs targets i w target old new whole h l is also_is written e =
      let rest = proof_lines k v origins rows (map certificate_view (drop (i + 1) proofs)) (drop (i + 1) targets) in
      let here : drop i proofs ≡ w ∷ drop (i + 1) proofs = drop_item proofs i w h is in
      let also_here : drop i targets ≡ target ∷ drop (i + 1) targets = drop_item targets i target l also_is in
      ap (λ (x : List ℕ). x ++ rest) written ∙ append_assoc old (certificate_lines k v origins rows (certificate_view w) target) rest
      ∙ ap (λ (x : List ℕ). old ++ x) (sym (ap₂ (λ (ws : List Certificate) (ts : List Terms). proof_lines k v origins rows
      (map certificate_view ws) ts) here also_here)) ∙ e

  no_targets : (ws : List CertificateView) → proof_lines k v origins rows ws [] ≡ []
  no_targets [] = refl
  no_targets (w ∷ ws) = refl

  none_left : (proofs : List Certificate) (targets : List Terms) (i : ℕ) → min (length proofs) (length targets) ≤ i
      → proof_lines k v origins rows (map certificate_view (drop i proofs)) (drop i targets) ≡ []
  none_left [] targets zero h = refl
  none_left [] targets (suc i) h = refl
  none_left (w ∷ proofs) [] zero h = refl
  none_left (w ∷ proofs) [] (suc i) h = no_targets (map certificate_view (drop i proofs))
  none_left (w ∷ proofs) (target ∷ targets) zero h = absurd (omega (arith, h))
  none_left (w ∷ proofs) (target ∷ targets) (suc i) h = none_left proofs targets i (omega (arith, h))

  -- after the last certificate, or the last target
  pub proofs_done : (proofs : List Certificate) (targets : List Terms) (i : ℕ) (out whole : List ℕ) → min (length proofs) (length targets) ≤ i
      → out ++ proof_lines k v origins rows (map certificate_view (drop i proofs)) (drop i targets) ≡ whole → out ≡ whole
  proofs_done proofs targets i out whole h e = sym (append-nil out) ∙ ap (λ (x : List ℕ). out ++ x) (sym (none_left proofs targets i h)) ∙ e
