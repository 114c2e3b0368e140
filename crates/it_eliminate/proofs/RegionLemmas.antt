-- The result of a step that ends with a region.
use Rattle.std.proofs.Common.{◌≡◌, inl, inr, ℕ, ◌+◌, ◌≤◌, List, [], ◌∷◌, length, sym, subst, All}
use Rattle.it_space.specs.Rows.{Terms, IsOver}
use Rattle.it_eliminate.specs.Elimination.{EliminationEnds, Region, Rows, Wide, ordered_rows, next_list}
use Rattle.it_eliminate.proofs.SpaceLemmas.{projection_up_to}

pub not_wide : (next : List Terms) (r : ℕ) → Region next ≡ Wide r → ⊥
not_wide next r e = cc

pub not_rows : (next : List Terms) (r : ℕ) → Region next ≡ Rows r → ⊥
not_rows next r e = cc

pub same_list : (xs ys : List Terms) → Region xs ≡ Region ys → xs ≡ ys
same_list xs ys e = cc

-- it is the next list, and few rows
pub step_list : (base most : ℕ) (rows : List Terms) (r : ℕ) (next : List Terms) → EliminationEnds base most rows (r ∷ []) (Region next)
    → (next ≡ next_list (base + r) rows) × (length next ≤ most)
step_list base most rows r next (inl e) = absurd (not_wide next r e.1)
step_list base most rows r next (inr (inl e)) = absurd (not_rows next r e.2)
step_list base most rows r next (inr (inr e)) =
    let is : next ≡ next_list (base + r) rows = same_list next (next_list (base + r) rows) e.2
    in (is, subst (λ (xs : List Terms). length xs ≤ most) (sym is) e.1)

-- and its coordinates are those of the rows
pub step_up : (size base most : ℕ) (rows : List Terms) (r : ℕ) (next : List Terms) → All (IsOver size) rows
    → EliminationEnds base most (ordered_rows rows) (r ∷ []) (Region next) → All (IsOver size) next
step_up size base most rows r next up e = subst (λ (xs : List Terms). All (IsOver size) xs)
    (sym (step_list base most (ordered_rows rows) r next e).0) (projection_up_to size ((base + r) ∷ []) rows up)
