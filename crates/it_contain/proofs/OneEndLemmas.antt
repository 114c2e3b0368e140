-- A search has one end: one first proved candidate, or one count of candidates that are tried in vain.
use Rattle.std.proofs.Common.{◌≡◌, ℕ, zero, suc, ◌<◌, List, [], ◌∷◌, ◌++◌, length, take, All, sym, subst, ◌∙◌, arith}
use Rattle.std.specs.Prelude.{Contains}
use Rattle.std.specs.List.{AllZip}
use Rattle.std.proofs.lemmas.List.Elements.{All-head, All-tail, All-weaker}
use Rattle.it_space.specs.Answers.{CertificateView}
use Rattle.it_space.specs.Rows.{Terms}
use Rattle.it_prove.specs.ProofViews.{ProofView, Yes}
use Rattle.it_region.specs.declared.types.Candidate.{Candidate}
use Rattle.it_contain.specs.Search.{Goal, IsNoProof, IsProofOf, IsProved, IsUnproved, IsFirstProved, IsOpen}

-- ---- one goal

same_heads : (c d : Candidate) (us vs : List Candidate) → c ∷ us ≡ d ∷ vs → c ≡ d
same_heads c d us vs e = cc

same_tails : (c d : Candidate) (us vs : List Candidate) → c ∷ us ≡ d ∷ vs → us ≡ vs
same_tails c d us vs e = cc

-- a candidate that is proved leaves no target unproved
abbrev pub Decides : Goal → Type 0
Decides goal = (c : Candidate) → IsUnproved goal c → IsProved goal c → ⊥

-- each of the targets ends with one of the certificates
proof_of_one : (ends : Terms → ProofView → Type 0) (ts : List Terms) (ws : List CertificateView) (t : Terms) → Contains ts t
    → AllZip (λ t w. ends t (Yes w)) ts ws → (w : CertificateView) × ends t (Yes w)
proof_of_one ends [] ws t (k, l, e) a = absurd (omega arith)
proof_of_one ends (x ∷ ts) [] t m a = absurd a
proof_of_one ends (x ∷ ts) (w ∷ ws) t (zero, l, e) a = (w, subst (λ y. ends y (Yes w)) e a.0)
proof_of_one ends (x ∷ ts) (w ∷ ws) t (suc k, l, e) a = proof_of_one ends ts ws t (k, omega arith, e) a.1

-- a candidate isn't both proved and unproved where each target has one outcome
pub decides_by_one : (goal : Goal) → ((t : Terms) (o p : ProofView) → goal.ends t o → goal.ends t p → o ≡ p) → Decides goal
unfolding IsProved
decides_by_one goal one c unproved (ws, proof) =
    let left = unproved proof.fits in
    let w = proof_of_one goal.ends (goal.targets c) ws left.0 left.2 proof.proofs in
    subst IsNoProof (one left.0 left.1 (Yes w.0) left.3 w.1) left.4

module _ (goal : Goal) (decides : Decides goal) where
  one_of_list : (xs ys us vs : List Candidate) (c d : Candidate) → xs ++ c ∷ us ≡ ys ++ d ∷ vs → All (IsUnproved goal) xs
      → All (IsUnproved goal) ys → IsProved goal c → IsProved goal d → c ≡ d
  one_of_list [] [] us vs c d e a b p q = same_heads c d us vs e
  one_of_list [] (y ∷ ys) us vs c d e a b p q = absurd (decides y (All-head (IsUnproved goal) y ys b)
      (subst (IsProved goal) (same_heads c y us (ys ++ d ∷ vs) e) p))
  one_of_list (x ∷ xs) [] us vs c d e a b p q = absurd (decides x (All-head (IsUnproved goal) x xs a)
      (subst (IsProved goal) (sym (same_heads x d (xs ++ c ∷ us) vs e)) q))
  one_of_list (x ∷ xs) (y ∷ ys) us vs c d e a b p q =
      one_of_list xs ys us vs c d (same_tails x y (xs ++ c ∷ us) (ys ++ d ∷ vs) e) (All-tail (IsUnproved goal) x xs a) (All-tail (IsUnproved goal) y ys b) p q

  pub one_first : (tries : ℕ) (plan : List Candidate) (c d : Candidate) → IsFirstProved goal tries plan c → IsFirstProved goal tries plan d → c ≡ d
  one_first tries plan c d f g = one_of_list f.before g.before f.after g.after c d (sym f.parts ∙ g.parts) f.unproved g.unproved f.proved g.proved

  tried_unproved : (tries : ℕ) (xs us : List Candidate) (c : Candidate) → length xs < tries
      → All (IsUnproved goal) (take tries (xs ++ c ∷ us)) → IsUnproved goal c
  tried_unproved zero xs us c l a = absurd (omega arith)
  tried_unproved (suc tries) [] us c l a = All-head (IsUnproved goal) c (take tries us) a
  tried_unproved (suc tries) (x ∷ xs) us c l a = tried_unproved tries xs us c (omega arith) (All-tail (IsUnproved goal) x (take tries (xs ++ c ∷ us)) a)

  pub first_not_open : (tries : ℕ) (plan : List Candidate) (c : Candidate) (t : ℕ) → IsFirstProved goal tries plan c → IsOpen goal tries plan t → ⊥
  first_not_open tries plan c t f o =
      decides c (tried_unproved tries f.before f.after c f.within (subst (λ (cs : List Candidate). All (IsUnproved goal) (take tries cs))
      f.parts o.unproved)) f.proved

pub one_open : (goal : Goal) (tries : ℕ) (plan : List Candidate) (t u : ℕ) → IsOpen goal tries plan t → IsOpen goal tries plan u → t ≡ u
one_open goal tries plan t u o p = o.tried_is ∙ sym p.tried_is

-- ---- from one goal to another

module _ (g h : Goal) (proved : (c : Candidate) (ws : List CertificateView) → IsProofOf g c ws → IsProofOf h c ws)
    (unproved : (c : Candidate) → IsUnproved g c → IsUnproved h c) where
  proved_by_other : (c : Candidate) → IsProved g c → IsProved h c
  unfolding IsProved
  proved_by_other c p = (p.0, proved c p.0 p.1)

  unproved_by_other : (cs : List Candidate) → All (IsUnproved g) cs → All (IsUnproved h) cs
  unproved_by_other cs u = All-weaker (IsUnproved g) (IsUnproved h) unproved cs u

  pub first_by_other : (tries : ℕ) (plan : List Candidate) (c : Candidate) → IsFirstProved g tries plan c → IsFirstProved h tries plan c
  first_by_other tries plan c f = record {
    before = f.before;
    after = f.after;
    parts = f.parts;
    within = f.within;
    unproved = unproved_by_other f.before f.unproved;
    proved = proved_by_other c f.proved;
  }

  pub open_by_other : (tries : ℕ) (plan : List Candidate) (t : ℕ) → IsOpen g tries plan t → IsOpen h tries plan t
  open_by_other tries plan t o = record { unproved = unproved_by_other (take tries plan) o.unproved; tried_is = o.tried_is }
