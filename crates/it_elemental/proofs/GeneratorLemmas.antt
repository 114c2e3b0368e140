-- The list of generators, by number.
use Rattle.std.proofs.Common.{◌≡◌, ℕ, zero, suc, ◌+◌, ◌-◌, ◌*◌, ◌/◌, ◌^◌, ◌<◌, ◌≤◌, ℤ, pos, List, [], ◌∷◌, length, map, get_or, refl, sym, ap, subst, ◌∙◌, arith, length-append, All}
use Rattle.std.proofs.lemmas.List.{get_or_default, get_or-map, get_or_append_left, get_or-append_right, length-map}
use Rattle.it_problems.specs.declared.problems.Kind.TheVariants.{Inequality}
use Rattle.it_problems.specs.declared.problems.Constraint.{Constraint}
use Rattle.it_space.specs.Rows.{Terms, coefficient, IsOver}
use Rattle.it_space.specs.Spaces.{most_variables}
use Rattle.it_space.proofs.SpaceLemmas.{few_sets}
use Rattle.std.proofs.lemmas.List.Elements.{All-head, All-tail}
use Rattle.it_space.proofs.CanonicalRows.{other_is}
use Rattle.it_polymatroid.specs.Elementals.{Conditional, elementals, elemental_at}
use Rattle.it_elemental.specs.Places.{index_pairs, most_elementals, most_pairs, most_sets_without_two}
use Rattle.it_elemental.proofs.PairLemmas.{length-index_pairs}
use Rattle.std.specs.List.{AllByRecursion as Every}
use Rattle.it_space.proofs.EveryLemmas.{every_of, every-append, every-map}
use Rattle.it_elemental.specs.Rows.{elemental_row}
use Rattle.it_elemental.proofs.PlaceLemmas.{length-elementals, is_elemental}
use Rattle.it_elemental.proofs.RowLemmas.{within-row}
use Rattle.it_elemental.specs.Generators.{Generator, of_elemental, of_constraint, generator_list, generator_at}

pub length-listed : (n : ℕ) (cs : List Constraint) → length (generator_list n cs) ≡ length (elementals n) + length cs
unfolding generator_list
length-listed n cs = simp (length-append, length-map)

pub front_is_elemental : (n : ℕ) (cs : List Constraint) (i : ℕ) → i < length (elementals n)
    → generator_at (generator_list n cs) i ≡ of_elemental n (elemental_at n i)
unfolding generator_list
front_is_elemental n cs i h =
    get_or_append_left (map (of_elemental n) (elementals n)) (map of_constraint cs) (record { kind = Inequality; row = [] }) i (simp length-map h)
    ∙ get_or-map (of_elemental n) (elementals n) i (Conditional 0) (record { kind = Inequality; row = [] }) h

pub after_is_constraint : (n : ℕ) (cs : List Constraint) (i : ℕ) (d : Constraint) → length (elementals n) ≤ i → i < length (generator_list n cs)
    → generator_at (generator_list n cs) i ≡ of_constraint (get_or cs (i - length (elementals n)) d)
unfolding generator_list
after_is_constraint n cs i d h l =
    get_or-append_right (map (of_elemental n) (elementals n)) (map of_constraint cs) (length (elementals n)) i
    (record { kind = Inequality; row = [] }) (simp length-map) h
    ∙ get_or-map of_constraint cs (i - length (elementals n)) d (record { kind = Inequality; row = [] }) (omega (arith, length-listed n cs, l))

-- there are few elemental inequalities
pub few_elementals : (n : ℕ) → n ≤ most_variables → length (elementals n) ≤ most_elementals
few_elementals n h =
    let power : 2 ^ n ≤ 2 ^ most_variables = few_sets n h in
    let square : n * (n - 1) ≤ most_variables * (most_variables - 1) = product n (n - 1) most_variables (most_variables - 1) h (omega arith) in
    let both : length (index_pairs n) * (2 ^ n / 4) ≤ most_pairs * most_sets_without_two =
    product (length (index_pairs n)) (2 ^ n / 4) most_pairs most_sets_without_two (omega (arith, length-index_pairs n)) (omega arith) in
    omega (arith, length-elementals n)
  where
    product : (a b c d : ℕ) → a ≤ c → b ≤ d → a * b ≤ c * d
    product a b c d h k = native.Mathlib.Nat.mul-le-mul h k

-- past the last coordinate a row has no coefficient
pub no_coefficient_beyond : (size : ℕ) (ts : Terms) (c : ℕ) → IsOver size ts → size < c → coefficient ts c ≡ pos 0
no_coefficient_beyond size [] c u h = refl
no_coefficient_beyond size (t ∷ ts) c u h =
    other_is t ts c (λ e. omega (arith, (All-head (λ (t : ℕ × ℤ). (1 ≤ t.0) × (t.0 ≤ size)) t ts u).1))
    ∙ no_coefficient_beyond size ts c (All-tail (λ (t : ℕ × ℤ). (1 ≤ t.0) × (t.0 ≤ size)) t ts u) h

-- the same as code reads them, with the count of the elemental inequalities and the constraint that it found
pub front_is : (n : ℕ) (cs : List Constraint) (i k : ℕ) → k ≡ length (elementals n) → i < k
    → generator_at (generator_list n cs) i ≡ of_elemental n (elemental_at n i)
front_is n cs i k e h = front_is_elemental n cs i (omega (arith, e))

pub after_is : (n : ℕ) (cs : List Constraint) (i k : ℕ) (d : Constraint) → k ≡ length (elementals n) → k ≤ i → i < length (generator_list n cs)
    → d ≡ get_or cs (i - k) d → generator_at (generator_list n cs) i ≡ of_constraint d
after_is n cs i k d e h l is = after_is_constraint n cs i d (omega (arith, e)) l ∙ ap of_constraint (ap (λ k. get_or cs (i - k) d) (sym e) ∙ sym is)

up_to_greater : (n m : ℕ) (row : Terms) → n ≤ m → IsOver n row → IsOver m row
up_to_greater n m row h u i d l = let k = u i d l in (k.0, omega (arith, k.1))

-- the rows of the generators are of the space
pub rows_of_space : (n : ℕ) (size : ℕ) (cs : List Constraint) → 2 ^ n ≤ size + 1 → All (λ c. IsOver size c.row) cs
    → Every (λ g. IsOver size g.row) (generator_list n cs)
unfolding generator_list
rows_of_space n size cs h a = every-append (λ (g : Generator). IsOver size g.row) (map (of_elemental n) (elementals n)) (map of_constraint cs)
    (every-map (λ (g : Generator). IsOver size g.row) (of_elemental n) (elementals n) (every_of (λ e. IsOver size (elemental_row n e)) (elementals n)
    (λ i d l. let same : get_or (elementals n) i (Conditional 0) ≡ get_or (elementals n) i d = get_or_default (elementals n) i (Conditional 0) d l in
    up_to_greater (2 ^ n - 1) size (elemental_row n (get_or (elementals n) i d)) (omega arith)
    (subst (λ e. IsOver (2 ^ n - 1) (elemental_row n e)) same (within-row n (get_or (elementals n) i (Conditional 0))
    (is_elemental n i l))))))
    (every-map (λ (g : Generator). IsOver size g.row) of_constraint cs (every_of (λ (c : Constraint). IsOver size c.row) cs a))

-- what holds of each item holds at each place, where it holds of what is read past the end
pub every_or : {X : Type 0} (P : X → Type 0) (xs : List X) (i : ℕ) (d : X) → Every P xs → P d → P (get_or xs i d)
every_or P [] i d e h = h
every_or P (x ∷ xs) zero d e h = e.0
every_or P (x ∷ xs) (suc i) d e h = every_or P xs i d e.1 h
