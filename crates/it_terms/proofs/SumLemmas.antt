-- Sums by place to which forms are added, item by item.
use Rattle.std.proofs.Common.{◌≡◌, ℕ, ◌+◌, ◌<◌, ◌≤◌, ◌^◌, ℤ, pos, ◌+ℤ◌, ◌*ℤ◌, Bool, ◌&&◌, refl, sym, ap, ap₂, ◌∙◌, arith, List, [], ◌∷◌, length, All, drop, get_or, replicate, Result, Ok, Err, IfOk}
use Rattle.std.specs.Bool.{Decides, OnTrue}
use Rattle.std.specs.Prelude.{nat_eq}
use Rattle.std.specs.Ordering.{int_eq}
use Rattle.std.proofs.lemmas.Option.{get_or_from_slice_get, slice_get-get_or}
use Rattle.std.proofs.lemmas.Bool.{OnTrue_at, OnTrue_from}
use Rattle.std.proofs.lemmas.Bool.Decides.{Decides-and, Decides-eqb, Decides-int_eq}
use Rattle.std.proofs.lemmas.Int.{ints}
use Rattle.std.proofs.lemmas.List.{drop_all, length-replicate}
use Rattle.it_number.specs.Limit.{IsWithin}
use Rattle.it_number.proofs.Integers.{mul_assoc, mul-add}
use Rattle.it_space.proofs.ListLemmas.{drop_item}
use Rattle.it_space.proofs.SpaceLemmas.{few_coordinates}
use Rattle.it_space.specs.declared.spaces.Space.{Space}
use Rattle.it_space.specs.Rows.{Terms, value}
use Rattle.it_space.specs.Spaces.{IsSpace, size_of}
use Rattle.it_space.specs.Sums.{IsAdded}
use Rattle.it_polymatroid.specs.Certificates.{Form, combination}
use Rattle.it_demand.specs.Coefficients.{dense_form}
use Rattle.it_demand.proofs.CoefficientLemmas.{form_added, zeros-total}
use Rattle.it_terms.specs.Proofs.{AreSame}
use Rattle.it_terms.specs.Sums.{IsPlus}

-- an amount added at its place
pub plus_from_added : (old new : List ℤ) (at : ℕ) (times x amount : ℤ) → at < length old → amount ≡ times *ℤ x → IsAdded old new at amount
    → IsPlus old new (λ p. times *ℤ (x *ℤ p at))
plus_from_added old new at times x amount h e a =
    let f = form_added old new at amount h a in record {
      complete = f.complete;
      within = a.within;
      sum = λ p. f.sum p ∙ ap (λ (z : ℤ). dense_form old p +ℤ z) (ap (λ (z : ℤ). z *ℤ p at) e ∙ mul_assoc times x (p at));
    }

-- one form added once, and then another one
pub plus_both : (old now new : List ℤ) (f g : Form) → IsPlus old now (λ p. pos 1 *ℤ f p) → IsPlus now new g → IsPlus old new (λ p. f p +ℤ g p)
plus_both old now new f g a b = record {
  complete = b.complete ∙ a.complete;
  within = λ w. b.within (a.within w);
  sum = λ p. one_after_another (dense_form new p) (dense_form now p) (dense_form old p) (f p) (g p) (b.sum p) (a.sum p);
}
  where
    one_after_another : (new now old x y : ℤ) → new ≡ now +ℤ y → now ≡ old +ℤ pos 1 *ℤ x → new ≡ old +ℤ (x +ℤ y)
    one_after_another new now old x y e h = omega (arith, ints, e, h)

-- the form of the first i items is added, and that of the others is still to add
pub record IsPartAdded {X : Type 0} (form : List X → Form) (old now : List ℤ) (items : List X) (i : ℕ) : Type 0 where
  pub complete : length now ≡ length old
  pub within : All IsWithin old → All IsWithin now
  pub sum : (p : ℕ → ℤ) → dense_form now p +ℤ form (drop i items) p ≡ dense_form old p +ℤ form items p

pub part_added-first : {X : Type 0} (form : List X → Form) (old : List ℤ) (items : List X) → IsPartAdded form old old items 0
part_added-first form old items = record { complete = refl; within = λ w. w; sum = λ p. refl }

pub part_added-more : {X : Type 0} (form : List X → Form) (one : Form) (old now new : List ℤ) (items : List X) (i : ℕ) (x : X)
    → i < length items → x ≡ get_or items i x
    → ((p : ℕ → ℤ) → form (x ∷ drop (i + 1) items) p ≡ one p +ℤ form (drop (i + 1) items) p) → IsPlus now new one
    → IsPartAdded form old now items i → IsPartAdded form old new items (i + 1)
part_added-more form one old now new items i x h is splits a u = record {
  complete = a.complete ∙ u.complete;
  within = λ w. a.within (u.within w);
  sum = λ p. sum_with_rest (dense_form new p) (dense_form now p) (dense_form old p) (one p) (form (drop (i + 1) items) p) (form items p)
      (a.sum p) (ap (λ (z : ℤ). dense_form now p +ℤ z) (sym (splits p) ∙ ap (λ xs. form xs p) (sym (drop_item items i x h is))) ∙ u.sum p);
}
  where
    sum_with_rest : (new now old y rest all : ℤ) → new ≡ now +ℤ y → now +ℤ (y +ℤ rest) ≡ old +ℤ all → new +ℤ rest ≡ old +ℤ all
    sum_with_rest new now old y rest all f g = omega (arith, ints, f, g)

pub part_added-all : {X : Type 0} (form : List X → Form) (old now : List ℤ) (items : List X) (i : ℕ) → length items ≤ i
    → ((p : ℕ → ℤ) → form [] p ≡ pos 0) → IsPartAdded form old now items i
    → IsPlus old now (form items)
part_added-all form old now items i h nothing u = record {
  complete = u.complete;
  within = u.within;
  sum = λ p. without_rest (dense_form now p) (form (drop i items) p) (dense_form old p +ℤ form items p)
      (ap (λ xs. form xs p) (drop_all i items h) ∙ nothing p) (u.sum p);
}
  where
    without_rest : (now rest all : ℤ) → rest ≡ pos 0 → now +ℤ rest ≡ all → now ≡ all
    without_rest now rest all e f = omega (arith, ints, e, f)

-- a multiple of a row, as a form of its terms
abbrev pub times_form : ℤ → Terms → Form
times_form times terms p = times *ℤ value terms p

pub times_form-splits : (times : ℤ) (t : ℕ × ℤ) (ts : Terms) (p : ℕ → ℤ) → times_form times (t ∷ ts) p ≡ times *ℤ (t.1 *ℤ p t.0) +ℤ times_form times ts p
times_form-splits times t ts p = mul-add times (t.1 *ℤ p t.0) (value ts p)

pub times_form-nothing : (times : ℤ) (p : ℕ → ℤ) → times_form times [] p ≡ pos 0
times_form-nothing times p = grind (arith, ints)

-- weights times numbers, as a form of the weights
abbrev pub weights_form : ((ℕ → ℤ) → ℕ → ℤ) → List (ℕ × ℤ) → Form
weights_form values weights p = combination weights (values p)

-- ---- rows that are what was added to zeros

-- what `==` says of two terms
pub pair_decides : (a b : ℕ × ℤ) → Decides (nat_eq a.0 b.0 && int_eq a.1 b.1) (a ≡ b)
pair_decides a b =
    let d = Decides-and (nat_eq a.0 b.0) (int_eq a.1 b.1) (Decides-eqb a.0 b.0) (Decides-int_eq a.1 b.1) in
    ((λ e. let p = d.0 e in ap₂ (λ (x : ℕ) (y : ℤ). (x, y)) p.0 p.1), (λ e. d.1 (ap (λ (t : ℕ × ℤ). t.0) e, ap (λ (t : ℕ × ℤ). t.1) e)))

-- sums at the places of a space are few
pub places_few : (s : Space) (sums : List ℤ) (places : ℕ) → IsSpace s → places ≡ size_of s + 1
    → length sums ≡ length (replicate places (pos 0)) → length sums ≤ 2 ^ 31
places_few s sums places k e h =
    let count : length (replicate places (pos 0)) ≡ places = length-replicate places (pos 0) in
    omega (arith, count, e, h, few_coordinates s k)

pub same_as_added : {E : Type 0} (row : Terms) (old new : List ℤ) (places : ℕ) (form : Form) (result : Result Bool E)
    → old ≡ replicate places (pos 0) → IsPlus old new form
    → IfOk result (λ b. OnTrue b (AreSame (value row) (dense_form new))) → IfOk result (λ b. OnTrue b (AreSame (value row) form))
same_as_added row old new places form (Ok b) zeros plus h =
    OnTrue_from b (AreSame (value row) form) (λ e p z.
    sum_from_zero (value row p) (dense_form new p) (dense_form old p) (form p) (OnTrue_at e h p z) (plus.sum p)
    (ap (λ (xs : List ℤ). dense_form xs p) zeros ∙ zeros-total 0 places p))
  where
    sum_from_zero : (row new old form : ℤ) → row ≡ new → new ≡ old +ℤ form → old ≡ pos 0 → row ≡ form
    sum_from_zero row new old form e f g = omega (arith, ints, e, f, g)
same_as_added row old new places form (Err x) zeros plus h = tt

-- an item of a list, whatever stands for one that isn't there
pub item_read : {X : Type 0} (xs : List X) (i : ℕ) (d : X) → i < length xs → get_or xs i d ≡ get_or xs i (get_or xs i d)
item_read xs i d h = sym (get_or_from_slice_get xs i (get_or xs i d) (get_or xs i d) (slice_get-get_or xs i d h))
