-- Lines over the common variables say the same of two maps that agree.
use Rattle.std.proofs.Common.{◌≡◌, ℕ, ◌<◌, ◌^◌, bit_or, ℤ, pos, neg_ℤ, ◌+ℤ◌, ◌-ℤ◌, ◌*ℤ◌, List, [], ◌∷◌, cond, refl, sym, ap₂, subst₂, ◌∙◌, All}
use Rattle.std.proofs.lemmas.List.Elements.{All-nil, All-cons, All-head, All-tail}
use Rattle.std.proofs.lemmas.Nat.{or_lt}
use Rattle.it_syntax.specs.declared.types.Atom.{Atom}
use Rattle.it_syntax.specs.declared.types.Atom.TheVariants.{Nothing, Entropy, Mutual, Rate}
use Rattle.it_syntax.specs.declared.types.Term.{Term}
use Rattle.it_syntax.specs.Meaning.{RelationView, common_denominator, multiplicity, atom_at, side_at, Relates, Holds, IsAtomOf}
use Rattle.it_syntax.specs.Givens.{GivenView, Relation, Markov, Independent, Function, union_of, links, links_from, sum_of_conditionals, IsTrueAt, IsRelationOf, IsGivenOf}
use Rattle.it_demand.proofs.ChainLemmas.{union_below}
use Rattle.it_demand.proofs.LimitLemmas.{more_rates}
use Rattle.it_canon.specs.Agreement.{AgreeOnCommon}

module _ (common rates n m : ℕ) (p q : ℕ → ℤ) (h : AgreeOnCommon common rates n m p q) where
  atom_same : (a : Atom) → IsAtomOf common rates a → atom_at m q a ≡ atom_at n p a
  atom_same Nothing k = refl
  atom_same (Entropy of given) k = ap₂ (λ x y. x -ℤ y) (h.on_sets (bit_or of given) (or_lt common of given k.0 k.1)) (h.on_sets given k.1)
  atom_same (Mutual left right given) k = ap₂ (λ x y. x -ℤ y)
      (ap₂ (λ x y. x +ℤ y) (h.on_sets (bit_or left given) (or_lt common left given k.0 k.2))
      (h.on_sets (bit_or right given) (or_lt common right given k.1 k.2)))
      (ap₂ (λ x y. x +ℤ y) (h.on_sets (bit_or (bit_or left right) given) (or_lt common (bit_or left right) given
      (or_lt common left right k.0 k.1) k.2)) (h.on_sets given k.2))
  atom_same (Rate r) k = h.on_rates r k

  side_same : (k : ℕ) (ts : List Term) → All (λ t. IsAtomOf common rates t.atom) ts → side_at m q k ts ≡ side_at n p k ts
  side_same k [] a = refl
  side_same k (t ∷ ts) a = ap₂ (λ x y. cond t.negative (neg_ℤ (pos (multiplicity k t))) (pos (multiplicity k t)) *ℤ x +ℤ y)
      (atom_same t.atom (All-head (λ (t : Term). IsAtomOf common rates t.atom) t ts a))
      (side_same k ts (All-tail (λ (t : Term). IsAtomOf common rates t.atom) t ts a))

  pub holds_same : (r : RelationView) → IsRelationOf common rates r → Holds n p r → Holds m q r
  holds_same r k t = subst₂ (λ (x y : ℤ). Relates r.sign x y) (sym (side_same (common_denominator r) r.left k.left))
      (sym (side_same (common_denominator r) r.right k.right)) t

  zero_same : (a : Atom) → IsAtomOf common rates a → atom_at n p a ≡ pos 0 → atom_at m q a ≡ pos 0
  zero_same a k t = atom_same a k ∙ t

  links_same : (past : ℕ) (sets : List ℕ) → past < 2 ^ common → All (λ s. s < 2 ^ common) sets
      → All (λ link. atom_at n p link ≡ pos 0) (links_from past sets) → All (λ link. atom_at m q link ≡ pos 0) (links_from past sets)
  links_same past [] l a t = All-nil (λ link. atom_at m q link ≡ pos 0)
  links_same past (here ∷ []) l a t = All-nil (λ link. atom_at m q link ≡ pos 0)
  links_same past (here ∷ next ∷ sets) l a t =
      let after = All-tail (λ s. s < 2 ^ common) here (next ∷ sets) a in
      let here_lt = All-head (λ s. s < 2 ^ common) here (next ∷ sets) a in
      let link : Atom = Mutual past next here in
      All-cons (λ link. atom_at m q link ≡ pos 0) link (links_from (bit_or past here) (next ∷ sets))
      (zero_same link (l, All-head (λ s. s < 2 ^ common) next sets after, here_lt)
      (All-head (λ link. atom_at n p link ≡ pos 0) link (links_from (bit_or past here) (next ∷ sets)) t))
      (links_same (bit_or past here) (next ∷ sets) (or_lt common past here l here_lt) after
      (All-tail (λ link. atom_at n p link ≡ pos 0) link (links_from (bit_or past here) (next ∷ sets)) t))

  all_links_same : (sets : List ℕ) → All (λ s. s < 2 ^ common) sets → All (λ link. atom_at n p link ≡ pos 0) (links sets)
      → All (λ link. atom_at m q link ≡ pos 0) (links sets)
  all_links_same [] a t = All-nil (λ link. atom_at m q link ≡ pos 0)
  all_links_same (s ∷ sets) a t = links_same s sets (All-head (λ s. s < 2 ^ common) s sets a) (All-tail (λ s. s < 2 ^ common) s sets a) t

  sum_same : (members : List ℕ) (given : ℕ) → All (λ s. s < 2 ^ common) members → given < 2 ^ common
      → sum_of_conditionals m q members given ≡ sum_of_conditionals n p members given
  sum_same [] given a l = refl
  sum_same (s ∷ members) given a l = ap₂ (λ x y. x +ℤ y) (atom_same (Entropy s given) (All-head (λ s. s < 2 ^ common) s members a, l))
      (sum_same members given (All-tail (λ s. s < 2 ^ common) s members a) l)

  pub true_same : (c : GivenView) → IsGivenOf common c → IsTrueAt n p c → IsTrueAt m q c
  true_same (Relation r) k t = holds_same r (more_rates common rates r k) t
  true_same (Markov sets) k t = all_links_same sets k.within t
  true_same (Independent members given) k t =
      atom_same (Entropy (union_of members) given) (union_below common members k.0.within, k.1) ∙ t ∙ sym (sum_same members given k.0.within k.1)
  true_same (Function value argument) k t = zero_same (Entropy value argument) k t

  pub all_true : (cs : List GivenView) → All (IsGivenOf common) cs → All (IsTrueAt n p) cs → All (IsTrueAt m q) cs
  all_true [] k t = All-nil (IsTrueAt m q)
  all_true (c ∷ cs) k t = All-cons (IsTrueAt m q) c cs (true_same c (All-head (IsGivenOf common) c cs k) (All-head (IsTrueAt n p) c cs t))
      (all_true cs (All-tail (IsGivenOf common) c cs k) (All-tail (IsTrueAt n p) c cs t))

  pub all_hold : (rs : List RelationView) → All (IsRelationOf common rates) rs → All (Holds n p) rs → All (Holds m q) rs
  all_hold [] k t = All-nil (Holds m q)
  all_hold (r ∷ rs) k t = All-cons (Holds m q) r rs (holds_same r (All-head (IsRelationOf common rates) r rs k)
      (All-head (Holds n p) r rs t)) (all_hold rs (All-tail (IsRelationOf common rates) r rs k) (All-tail (Holds n p) r rs t))
