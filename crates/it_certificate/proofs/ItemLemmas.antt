-- One more item of an array that is read, and one that has no reading.
use Rattle.std.proofs.Common.{◌≡◌, ℕ, ◌+◌, ◌<◌, List, [], ◌∷◌, ◌++◌, length, map, drop, get_or, refl, ap, sym, ◌∙◌, Option, Some, None, option_and_then, option_map}
use mathlib.Core.List.{append_assoc}
use Rattle.std.proofs.lemmas.List.{map-append}
use Rattle.serde_json.specs.Data.{Data}
use Rattle.serde_json.specs.View.{view, items_view}
use Rattle.serde_json.specs.declared.value.Value.{Value}
use Rattle.it_space.proofs.ListLemmas.{drop_item}
use Rattle.it_certificate.specs.Parts.{all_of}
use Rattle.it_certificate.specs.Steps.{prepend}

-- an item before the others, where they are read
abbrev with_first : {A : Type 0} → Option (List A) → A → Option (List A)
with_first o a = option_map (λ rest. a ∷ rest) o

prepend_one : {A : Type 0} (xs : List A) (a : A) (o : Option (List A)) → prepend (xs ++ a ∷ []) o ≡ prepend xs (with_first o a)
prepend_one xs a None = refl
prepend_one xs a (Some ys) = ap Some (append_assoc xs (a ∷ []) ys)

module _ {A : Type 0} (f : Data → Option A) (vs : List Value) (i : ℕ) (v : Value) (there : i < length vs) (at : v ≡ get_or vs i v) where
  -- the items from this one on, by its reading
  from_item : (xs : List A) (o : Option A) → o ≡ f (view v) → prepend xs (all_of f (items_view (drop i vs)))
      ≡ prepend xs (option_and_then (with_first (all_of f (items_view (drop (i + 1) vs)))) o)
  from_item xs o is =
      ap (λ zs. prepend xs (all_of f (items_view zs))) (drop_item vs i v there at)
      ∙ ap (λ p. prepend xs (option_and_then (with_first (all_of f (items_view (drop (i + 1) vs)))) p)) (sym is)

  pub item_more : (xs : List A) (a : A) (whole : Option (List A)) → Some a ≡ f (view v)
      → prepend xs (all_of f (items_view (drop i vs))) ≡ whole → prepend (xs ++ a ∷ []) (all_of f (items_view (drop (i + 1) vs))) ≡ whole
  item_more xs a whole is before = prepend_one xs a (all_of f (items_view (drop (i + 1) vs))) ∙ sym (from_item xs (Some a) is) ∙ before

  -- like `item_more`, where the items are seen through `g`
  pub item_seen : {B : Type 0} (g : B → A) (bs : List B) (b : B) (whole : Option (List A)) → Some (g b) ≡ f (view v)
      → prepend (map g bs) (all_of f (items_view (drop i vs))) ≡ whole → prepend (map g (bs ++ b ∷ [])) (all_of f (items_view (drop (i + 1) vs))) ≡ whole
  item_seen g bs b whole is before =
      ap (λ xs. prepend xs (all_of f (items_view (drop (i + 1) vs)))) (map-append g bs (b ∷ []))
      ∙ item_more (map g bs) (g b) whole is before

  pub item_without : (xs : List A) (whole : Option (List A)) → None ≡ f (view v) → prepend xs (all_of f (items_view (drop i vs))) ≡ whole → whole ≡ None
  item_without xs whole is before = sym before ∙ from_item xs None is
