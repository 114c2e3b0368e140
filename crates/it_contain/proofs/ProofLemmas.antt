-- Proofs of obligations: of one target, of all, and of a candidate.
use Rattle.std.proofs.Common.{◌≡◌, ℕ, ◌<◌, ◌≤◌, ℤ, List, [], ◌∷◌, ◌++◌, map, length, drop, get_or, sym, ap, subst, ◌∙◌, Option, Some, None, append-nil, append_assoc, ◌+◌}
use Rattle.std.specs.Prelude.{Contains}
use Rattle.std.proofs.lemmas.List.{drop_all, map-append}
use Rattle.std.proofs.lemmas.List.Elements.{Contains-get_or}
use Rattle.it_space.specs.declared.answers.Cause.{Cause}
use Rattle.it_space.specs.declared.answers.Certificate.{Certificate}
use Rattle.it_space.specs.Answers.{CertificateView, certificate_view}
use Rattle.it_space.proofs.ListLemmas.{drop_item}
use Rattle.it_problems.specs.Problems.{ProblemView}
use Rattle.it_space.specs.Rows.{Terms}
use Rattle.it_space.specs.Spaces.{size_of}
use Rattle.it_demand.specs.RowsOfForms.{terms_of_form}
use Rattle.it_prove.specs.declared.types.Proof.{Proof}
use Rattle.it_prove.specs.declared.types.Proof.TheVariants as proofs
use Rattle.it_prove.specs.ProofViews.{Yes, No, Undecided, proof_view, EndsWith, AreProofsOf}
use Rattle.it_prove.specs.declared.types.Effort.{Effort}
use Rattle.it_region.specs.declared.types.Candidate.{Candidate}
use Rattle.it_region.specs.declared.types.Pair.{Pair}
use Rattle.it_region.specs.Obligations.{ArePulledRows}
use Rattle.it_region.specs.Pairs.{FitsPair, pair_obligations}
use Rattle.it_region.proofs.TextLemmas.{pulled_rows_are}
use Rattle.it_contain.specs.Search.{IsProof, Proofs, pair_goal}
use Rattle.it_contain.specs.SearchSteps.{ProvesOne, ProvesAll, Judges}

-- ---- one target

module _ (q : ProblemView) (t : Terms) (effort : Effort) (p : Proof) (end : EndsWith q t effort (proof_view p)) where
  pub no_proves : (values : List ℤ) → p ≡ proofs.No values → ProvesOne q effort t None
  no_proves values is = (No values, subst (EndsWith q t effort) (ap proof_view is) end, tt)

  pub undecided_proves : (cause : Cause) → p ≡ proofs.Undecided cause → ProvesOne q effort t None
  undecided_proves cause is = (Undecided cause, subst (EndsWith q t effort) (ap proof_view is) end, tt)

-- ---- all targets

-- the first i targets are proved
pub record AreUnderWay (q : ProblemView) (effort : Effort) (ts : List Terms) (found : List CertificateView) (i : ℕ) : Type 0 where
  pub all : (more : List CertificateView) → AreProofsOf q effort (drop i ts) more → AreProofsOf q effort ts (found ++ more)

pub proofs_end : (q : ProblemView) (effort : Effort) (ts : List Terms) (found : List CertificateView) (i : ℕ) → length ts ≤ i
    → AreUnderWay q effort ts found i → AreProofsOf q effort ts found
proofs_end q effort ts found i l u = subst (λ (ws : List CertificateView). AreProofsOf q effort ts ws) (append-nil found)
    (u.all [] (subst (λ (xs : List Terms). AreProofsOf q effort xs []) (sym (drop_all i ts l)) tt))

pub none_at : (q : ProblemView) (effort : Effort) (ts : List Terms) (i : ℕ) (t : Terms) → i < length ts → t ≡ get_or ts i t
    → ProvesOne q effort t None → ProvesAll q effort ts None
none_at q effort ts i t l is n = (t, n.0, subst (Contains ts) (sym is) (Contains-get_or ts i t l), n.1, n.2)

-- one target more is proved
pub under_way_more : (q : ProblemView) (effort : Effort) (ts : List Terms) (proofs all : List Certificate) (c : Certificate) (i : ℕ)
    (t : Terms) → i < length ts → t ≡ get_or ts i t → EndsWith q t effort (Yes (certificate_view c))
    → all ≡ proofs ++ c ∷ [] → AreUnderWay q effort ts (map certificate_view proofs) i → AreUnderWay q effort ts (map certificate_view all) (i + 1)
under_way_more q effort ts proofs all c i t l is e pushed u = record {
  all = λ more a. subst (λ (ws : List CertificateView). AreProofsOf q effort ts ws)
      (sym (ap (λ (cs : List Certificate). map certificate_view cs ++ more) pushed
      ∙ ap (λ (ws : List CertificateView). ws ++ more) (map-append certificate_view proofs (c ∷ []))
      ∙ append_assoc (map certificate_view proofs) (certificate_view c ∷ []) more))
      (u.all (certificate_view c ∷ more) (subst (λ (xs : List Terms). AreProofsOf q effort xs (certificate_view c ∷ more))
      (sym (drop_item ts i t l is)) (e, a)));
}

-- ---- a candidate

module _ (p : Pair) (effort : Effort) (c : Candidate) where
  pub not_fitting : (FitsPair p c → ⊥) → Judges (pair_goal p effort) c None
  not_fitting n fits = absurd (n fits)

  pub proofs_judge : (rows : List Terms) (o : Option Proofs) → FitsPair p c → ArePulledRows p.first.space (pair_obligations p c) rows
      → ProvesAll p.first effort rows o → Judges (pair_goal p effort) c o
  unfolding IsProof
  proofs_judge rows o f a proves = by_option o (subst (λ (ts : List Terms). ProvesAll p.first effort ts o)
      (pulled_rows_are p.first.space (pair_obligations p c) rows a) proves)
    where
      by_option : (o : Option Proofs) → ProvesAll p.first effort (map (terms_of_form (size_of p.first.space)) (pair_obligations p c)) o
          → Judges (pair_goal p effort) c o
      by_option (Some w) h = record { fits = f; proofs = h }
      by_option None n = λ fits. n
