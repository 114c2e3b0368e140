-- The rest of a list from an item on.
use Rattle.std.proofs.Common.{◌≡◌, ◌∷◌, ◌<◌, ◌+◌, ℕ, List, length, get_or, drop, ap, sym, ◌∙◌}
use Rattle.std.proofs.lemmas.List.{drop_more}

-- the rest from item i on is that item, and the rest after it
pub drop_item : {A : Type 0} {x : A} (xs : List A) (i : ℕ) (d : A) → i < length xs → x ≡ get_or xs i d → drop i xs ≡ x ∷ drop (i + 1) xs
drop_item xs i d h is = drop_more xs i d h ∙ ap (λ y. y ∷ drop (i + 1) xs) (sym is)
