-- Forms that are sums over a list, added item by item.
use Rattle.std.proofs.Common.{◌≡◌, ℕ, ◌+◌, ◌*◌, ◌<◌, ◌≤◌, ℤ, pos, ◌+ℤ◌, ◌*ℤ◌, refl, sym, ap, ◌∙◌, arith, Bool, true, false, List, ◌∷◌, length, drop, get_or}
use Rattle.std.proofs.lemmas.Int.{ints}
use Rattle.it_number.proofs.Integers.{zring}
use Rattle.it_space.proofs.ListLemmas.{drop_item}
use Rattle.it_polymatroid.specs.Certificates.{Form}
use Rattle.it_syntax.specs.declared.types.Term.{Term}
use Rattle.it_syntax.specs.Meaning.{atom_at, side_at, multiplicity}
use Rattle.it_demand.specs.Coefficients.{dense_form, mass, signed_by, IsFormAdded}

-- the first i items are added, each of which adds at most a bound to the sum of the absolute values, and the form of the rest is still to add
pub record IsUnderWay {X : Type 0} (form : List X → Form) (bound : ℕ) (old now : List ℤ) (items : List X) (i : ℕ) : Type 0 where
  pub complete : length now ≡ length old
  pub small : mass now ≤ mass old + bound * i
  pub sum : (p : ℕ → ℤ) → dense_form now p +ℤ form (drop i items) p ≡ dense_form old p +ℤ form items p

-- one item further
pub under_way-more : {X : Type 0} (form : List X → Form) (one : Form) (bound m : ℕ) (old now new : List ℤ) (items : List X) (i : ℕ) (x : X)
    → i < length items → x ≡ get_or items i x
    → ((p : ℕ → ℤ) → form (x ∷ drop (i + 1) items) p ≡ one p +ℤ form (drop (i + 1) items) p) → m ≤ bound → IsFormAdded now new m one
    → IsUnderWay form bound old now items i → IsUnderWay form bound old new items (i + 1)
under_way-more form one bound m old now new items i x h is splits small a u = record {
  complete = a.complete ∙ u.complete;
  small = omega (arith, a.small, u.small);
  sum = λ p. sum_with_rest (dense_form new p) (dense_form now p) (dense_form old p) (one p) (form (drop (i + 1) items) p) (form items p)
      (a.sum p) (ap (λ z. dense_form now p +ℤ z) (sym (splits p) ∙ ap (λ xs. form xs p) (sym (drop_item items i x h is))) ∙ u.sum p);
}
  where
    sum_with_rest : (new now old y rest all : ℤ) → new ≡ now +ℤ y → now +ℤ (y +ℤ rest) ≡ old +ℤ all → new +ℤ rest ≡ old +ℤ all
    sum_with_rest new now old y rest all f g = omega (arith, ints, f, g)

-- a side of a relation, added or taken off
abbrev pub side_form : ℕ → ℕ → Bool → List Term → Form
side_form n m negative terms p = signed_by negative (side_at n p m terms)

pub side-splits : (n m : ℕ) (negative : Bool) (t : Term) (ts : List Term) (times : ℤ)
    → times ≡ signed_by negative (signed_by t.negative (pos (multiplicity m t)))
    → (p : ℕ → ℤ) → side_form n m negative (t ∷ ts) p ≡ times *ℤ atom_at n p t.atom +ℤ side_form n m negative ts p
side-splits n m negative t ts times e p = signed_sum negative times (signed_by t.negative (pos (multiplicity m t))) (atom_at n p t.atom) (side_at n p m ts) e
  where
    signed_sum : (b : Bool) (k y x rest : ℤ) → k ≡ signed_by b y → signed_by b (y *ℤ x +ℤ rest) ≡ k *ℤ x +ℤ signed_by b rest
    signed_sum true k y x rest e = rw e (omega (arith, zring))
    signed_sum false k y x rest e = rw e refl
