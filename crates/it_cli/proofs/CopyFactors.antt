-- A factor holds for a question with copies exactly where it holds for the question wherever there are such copies.
use Rattle.std.proofs.Common.{◌≡◌, ℕ, ◌<◌, ◌^◌, bit_or, ℤ, pos, neg_ℤ, ◌+ℤ◌, ◌-ℤ◌, ◌*ℤ◌, ◌≤ℤ◌, ◌↔◌, List, [], ◌∷◌, ◌++◌, cond, length, All, Some, refl, sym, ap, ap₂, subst, ◌∙◌}
use Rattle.std.proofs.lemmas.List.Elements.{All-head, All-tail}
use Rattle.std.proofs.lemmas.Nat.{or_lt}
use Rattle.it_space.proofs.OptionLemmas.{none_is_not_some, some_same}
use Rattle.it_polymatroid.specs.Polymatroid.{IsPolymatroid}
use Rattle.it_syntax.specs.declared.types.Atom.{Atom}
use Rattle.it_syntax.specs.declared.types.Atom.TheVariants.{Nothing, Entropy, Mutual, Rate}
use Rattle.it_syntax.specs.declared.types.Sign.{Sign}
use Rattle.it_syntax.specs.declared.types.Sign.TheVariants.{AtLeast, AtMost, Equal}
use Rattle.it_syntax.specs.declared.types.Term.{Term}
use Rattle.it_syntax.specs.Givens.{IsRelationOf}
use Rattle.it_syntax.specs.Meaning.{RelationView, common_denominator, multiplicity, atom_at, side_at, IsAtomOf}
use Rattle.it_question.specs.Limits.{IsQuestion, IsVerbOver}
use Rattle.it_question.specs.ProblemLines.{lines_under, names_under}
use Rattle.it_question.specs.Questions.{BodyView, VerbView, Prove, Eliminate, Contain}
use Rattle.it_canon.specs.Agreement.{AgreeOnCommon}
use Rattle.it_canon.specs.TrueLines.{AreTrueAt, AreTrueTogether}
use Rattle.it_copy.specs.Points.{HasCopies}
use Rattle.it_ratio.specs.Truth.{HoldsFor, asked_by, at_least, factor_form}
use Rattle.it_region.specs.Pulling.{pulled_map, substituted_sets}
use Rattle.it_region.proofs.PullingLemmas.{common_stay, coordinate_of_rate, coordinate_of_set}
use Rattle.it_cli.specs.Truth.{HoldsWithCopies}

-- ---- sides over the common variables at two maps that agree

module _ (common rates n m : ℕ) (p image : ℕ → ℤ) (h : AgreeOnCommon common rates n m p image) where
  atom_same : (a : Atom) → IsAtomOf common rates a → atom_at m image a ≡ atom_at n p a
  atom_same Nothing k = refl
  atom_same (Entropy of given) k = ap₂ (λ x y. x -ℤ y) (h.on_sets (bit_or of given) (or_lt common of given k.0 k.1)) (h.on_sets given k.1)
  atom_same (Mutual left right given) k = ap₂ (λ x y. x -ℤ y)
      (ap₂ (λ x y. x +ℤ y) (h.on_sets (bit_or left given) (or_lt common left given k.0 k.2))
      (h.on_sets (bit_or right given) (or_lt common right given k.1 k.2)))
      (ap₂ (λ x y. x +ℤ y) (h.on_sets (bit_or (bit_or left right) given) (or_lt common (bit_or left right) given
      (or_lt common left right k.0 k.1) k.2)) (h.on_sets given k.2))
  atom_same (Rate r) k = h.on_rates r k

  side_same : (k : ℕ) (ts : List Term) → All (λ t. IsAtomOf common rates t.atom) ts → side_at m image k ts ≡ side_at n p k ts
  side_same k [] a = refl
  side_same k (t ∷ ts) a = ap₂ (λ x y. cond t.negative (neg_ℤ (pos (multiplicity k t))) (pos (multiplicity k t)) *ℤ x +ℤ y)
      (atom_same t.atom (All-head (λ (t : Term). IsAtomOf common rates t.atom) t ts a))
      (side_same k ts (All-tail (λ (t : Term). IsAtomOf common rates t.atom) t ts a))

  -- num times the left side less den times the right one
  form_same : (num den : ℤ) (r : RelationView) → IsRelationOf common rates r
      → (num *ℤ side_at m image (common_denominator r) r.left -ℤ den *ℤ side_at m image (common_denominator r) r.right)
      ≡ (num *ℤ side_at n p (common_denominator r) r.left -ℤ den *ℤ side_at n p (common_denominator r) r.right)
  form_same num den r k = ap₂ (λ x y. num *ℤ x -ℤ den *ℤ y) (side_same (common_denominator r) r.left k.left) (side_same (common_denominator r) r.right k.right)

-- values at the sets of the first n of m variables, and at the rates
abbrev restricted : ℕ → ℕ → (ℕ → ℤ) → ℕ → ℤ
restricted n m image = pulled_map m n (substituted_sets n []) image

restricted_agrees : (rates n m : ℕ) (image : ℕ → ℤ) → AgreeOnCommon n rates n m (restricted n m image) image
restricted_agrees rates n m image = record {
  on_sets = λ s l. sym (ap image (coordinate_of_set m n (substituted_sets n []) s l ∙ common_stay n [] s l));
  on_rates = λ r l. sym (ap image (coordinate_of_rate m n (substituted_sets n []) r));
}

-- ---- of a question about a relation

-- a question whose factors are asked for is about that relation
asked_sign : (s : Sign) (r x : RelationView) → at_least s r ≡ Some x → r ≡ x
asked_sign AtLeast r x e = some_same r x e
asked_sign AtMost r x e = absurd (none_is_not_some x e)
asked_sign Equal r x e = absurd (none_is_not_some x e)

pub asked_is_proof : (verb : VerbView) (r : RelationView) → asked_by verb ≡ Some r → verb ≡ Prove r
asked_is_proof (Prove x) r e = ap Prove (asked_sign x.sign x r e)
asked_is_proof (Eliminate rates) r e = absurd (none_is_not_some r e)
asked_is_proof (Contain first second tries) r e = absurd (none_is_not_some r e)

-- its problem has its own names
own_count : (q : BodyView) (r : RelationView) → q.verb ≡ Prove r → length (names_under q.names q.verb).variables ≡ length q.names.variables
own_count q r verb = ap (λ (v : VerbView). length (names_under q.names v).variables) verb

-- the lines of the problem of a question with this verb are true at a polymatroid
abbrev TogetherUnder : BodyView → (ℕ → ℤ) → VerbView → Type 0
TogetherUnder q p verb = IsPolymatroid (length (names_under q.names verb).variables) p
    × AreTrueAt (length (names_under q.names verb).variables) p (lines_under q.lines verb)

own_factor : (q : BodyView) (r : RelationView) (num den : ℤ) (p : ℕ → ℤ) → q.verb ≡ Prove r
    → factor_form q r num den p ≡ (num *ℤ side_at (length q.names.variables) p (common_denominator r) r.left
    -ℤ den *ℤ side_at (length q.names.variables) p (common_denominator r) r.right)
own_factor q r num den p verb = ap (λ n. num *ℤ side_at n p (common_denominator r) r.left
    -ℤ den *ℤ side_at n p (common_denominator r) r.right) (own_count q r verb)

module _ (q e : BodyView) (r : RelationView) (limits : IsQuestion q) (verb : q.verb ≡ Prove r) (same_verb : e.verb ≡ Prove r) (num den : ℤ) where
  -- at a point and its image both questions compare the same sides
  same_factor : (p image : ℕ → ℤ) → AgreeOnCommon (length q.names.variables) (length q.names.rates) (length q.names.variables)
      (length e.names.variables) p image → factor_form e r num den image ≡ factor_form q r num den p
  same_factor p image agree =
      let n = length q.names.variables in
      let relation : IsRelationOf n (length q.names.rates) r = subst (IsVerbOver q.names) verb limits.verb in
      own_factor e r num den image same_verb ∙ form_same n (length q.names.rates) n
      (length e.names.variables) p image agree num den r relation ∙ sym (own_factor q r num den p verb)

  by_image : HoldsFor e r num den → HoldsWithCopies q e r num den
  by_image holds p copies =
      let together : AreTrueTogether e copies.image = subst (TogetherUnder e copies.image) (sym same_verb) (copies.polymatroid, copies.lines_hold) in
      subst (λ x. pos 0 ≤ℤ x) (same_factor p copies.image copies.agree) (holds copies.image together)

  by_restriction : HoldsWithCopies q e r num den → HoldsFor e r num den
  by_restriction holds image together =
      let own : TogetherUnder e image (Prove r) = subst (TogetherUnder e image) same_verb together in
      let n = length q.names.variables in
      let agree = restricted_agrees (length q.names.rates) n (length e.names.variables) image in
      let p = restricted n (length e.names.variables) image in
      let copies : HasCopies q e p = record { image = image; agree = agree; polymatroid = own.0; lines_hold = own.1 } in
      subst (λ x. pos 0 ≤ℤ x) (sym (same_factor p image agree)) (holds p copies)

  pub same_with_copies : HoldsFor e r num den ↔ HoldsWithCopies q e r num den
  same_with_copies = (by_image, by_restriction)
