-- Unions of sets, and the constraints of a chain, link by link.
use Rattle.std.proofs.Common.{◌≡◌, ℕ, zero, suc, ◌+◌, ◌-◌, ◌<◌, ◌≤◌, ◌^◌, bit_or, refl, sym, ap, subst, ◌∙◌, arith, List, [], ◌∷◌, ◌++◌, length, drop, get_or, All, append_assoc, append-nil}
use Rattle.std.specs.List.{fold}
use Rattle.std.proofs.lemmas.List.{length-map}
use Rattle.std.proofs.lemmas.List.Elements.{All-head, All-tail}
use Rattle.std.proofs.lemmas.Nat.{or_lt, pow_pos}
use Rattle.it_space.proofs.ListLemmas.{drop_item}
use Rattle.it_space.specs.declared.spaces.Space.{Space}
use Rattle.it_problems.specs.declared.problems.Origin.TheVariants.{Given}
use Rattle.it_problems.specs.declared.problems.Constraint.{Constraint}
use Rattle.it_syntax.specs.declared.types.Atom.{Atom}
use Rattle.it_syntax.specs.declared.types.Atom.TheVariants.{Mutual}
use Rattle.it_syntax.specs.Meaning.{atom_at}
use Rattle.it_syntax.specs.Givens.{union_of, links, links_from}
use Rattle.it_demand.specs.Demands.{Demand, equations, equation}
use Rattle.it_demand.specs.Origins.{States, ComesFrom, AreStated, part_origins, AreParts}

-- a union of sets of n variables is one
pub union_below : (n : ℕ) (sets : List ℕ) → All (λ s. s < 2 ^ n) sets → union_of sets < 2 ^ n
union_below n sets a = fold_stays_below n 0 sets (pow_pos n) a
  where
    fold_stays_below : (n u : ℕ) (sets : List ℕ) → u < 2 ^ n → All (λ s. s < 2 ^ n) sets → fold bit_or u sets < 2 ^ n
    fold_stays_below n u [] h a = h
    fold_stays_below n u (s ∷ ss) h a = fold_stays_below n (bit_or u s) ss (or_lt n u s h (All-head (λ s. s < 2 ^ n) s ss a)) (All-tail (λ s. s < 2 ^ n) s ss a)

-- the link at place i, and those after it
links-more : (past : ℕ) (sets : List ℕ) (i here next : ℕ) → i + 1 < length sets → here ≡ get_or sets i here → next ≡ get_or sets (i + 1) next
    → links_from past (drop i sets) ≡ Mutual past next here ∷ links_from (bit_or past here) (drop (i + 1) sets)
links-more past sets i here next h is was =
    let later : drop (i + 1) sets ≡ next ∷ drop (i + 1 + 1) sets = drop_item sets (i + 1) next h was in
    let now : drop i sets ≡ here ∷ next ∷ drop (i + 1 + 1) sets = drop_item sets i here (omega arith) is ∙ ap (λ xs. here ∷ xs) later in
    ap (links_from past) now ∙ ap (λ xs. Mutual past next here ∷ links_from (bit_or past here) xs) (sym later)

-- the last set has no link
links-end : (past : ℕ) (sets : List ℕ) (i : ℕ) → length sets ≤ i + 1 → links_from past (drop i sets) ≡ []
links-end past [] zero h = refl
links-end past [] (suc i) h = refl
links-end past (s ∷ []) zero h = refl
links-end past (s ∷ t ∷ sets) zero h = absurd (omega arith)
links-end past (s ∷ sets) (suc i) h = links-end past sets i (omega arith)

pub links-length : (past : ℕ) (sets : List ℕ) → length (links_from past sets) ≡ length sets - 1
links-length past [] = refl
links-length past (s ∷ []) = refl
links-length past (s ∷ t ∷ sets) = omega (arith, links-length (bit_or past s) (t ∷ sets))

pub chain-length : (n : ℕ) (sets : List ℕ) → length (equations n (links sets)) ≡ length sets - 2
chain-length n [] = refl
chain-length n (s ∷ sets) = length-map (links_from s sets) (λ link. equation (λ p. atom_at n p link)) ∙ links-length s sets ∙ omega arith

-- one constraint for each demand, in order, as parts of a line from number `part` on
abbrev pub ArePartsFrom : ℕ → Space → ℕ → ℕ → List Demand → List Constraint → Type 0
ArePartsFrom part s line parts ds cs = AreStated s (part_origins line parts part (length ds)) ds cs

-- the equations of the links before place i are there: with those of the links from there on they are all
pub record IsChained (space : Space) (line parts : ℕ) (sets : List ℕ) (past i : ℕ) (constraints : List Constraint) : Type 0 where
  pub below : past < 2 ^ space.variables
  pub all : (more : List Constraint) → ArePartsFrom i space line parts (equations space.variables (links_from past (drop i sets))) more
      → ArePartsFrom 1 space line parts (equations space.variables (links sets)) (constraints ++ more)

-- one link further
pub chained-more : (space : Space) (line parts : ℕ) (sets : List ℕ) (past i here next : ℕ) (old new : List Constraint) (c : Constraint)
    → i + 1 < length sets → here ≡ get_or sets i here → next ≡ get_or sets (i + 1) next
    → here < 2 ^ space.variables → States space (equation (λ p. atom_at space.variables p (Mutual past next here))) c
    → ComesFrom (Given line i parts) c → new ≡ old ++ c ∷ []
    → IsChained space line parts sets past i old → IsChained space line parts sets (bit_or past here) (i + 1) new
chained-more space line parts sets past i here next old new c h is was low states comes e u = record {
  below = or_lt space.variables past here u.below low;
  all = λ more m. subst (λ (cs : List Constraint). ArePartsFrom 1 space line parts (equations space.variables (links sets)) cs)
      (sym (ap (λ (cs : List Constraint). cs ++ more) e ∙ append_assoc old (c ∷ []) more))
      (u.all (c ∷ more) (subst (λ (ls : List Atom). ArePartsFrom i space line parts (equations space.variables ls) (c ∷ more))
      (sym (links-more past sets i here next h is was)) (record { placed = (comes, m.placed); stated = (states, m.stated) })));
}

-- after the last link
pub chained-end : (space : Space) (line parts : ℕ) (sets : List ℕ) (past i : ℕ) (constraints : List Constraint) → length sets ≤ i + 1 → parts ≡ length sets - 2
    → IsChained space line parts sets past i constraints → AreParts space line (equations space.variables (links sets)) constraints
chained-end space line parts sets past i constraints h e u =
    let count : parts ≡ length (equations space.variables (links sets)) = e ∙ sym (chain-length space.variables sets) in
    let whole : ArePartsFrom 1 space line parts (equations space.variables (links sets)) (constraints ++ []) =
    u.all [] (subst (λ (ls : List Atom). ArePartsFrom i space line parts (equations space.variables ls) []) (sym (links-end past sets i h))
    (record { placed = tt; stated = tt })) in
    subst (λ (n : ℕ). ArePartsFrom 1 space line n (equations space.variables (links sets)) constraints) count
    (subst (λ (cs : List Constraint). ArePartsFrom 1 space line parts (equations space.variables (links sets)) cs)
    (append-nil constraints) whole)
