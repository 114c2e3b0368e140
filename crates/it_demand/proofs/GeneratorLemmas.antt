-- What a question demands, line by line: origins and demands of lines that are put together, and loops over the lines.
use Rattle.std.proofs.Common.{◌≡◌, ℕ, ◌+◌, sym, ap, subst, ◌∙◌, arith, List, [], ◌∷◌, ◌++◌, length, map, drop, get_or, append_assoc, ◌<◌, ◌≤◌}
use Rattle.std.specs.List.{flat_map}
use Rattle.std.proofs.lemmas.List.{map-append}
use Rattle.std.proofs.lemmas.List.Concat.{flat_map-append}
use Rattle.it_problems.specs.declared.problems.Constraint.{Constraint}
use Rattle.it_problems.specs.declared.problems.Origin.{Origin}
use Rattle.it_space.specs.declared.spaces.Space.{Space}
use Rattle.it_polymatroid.specs.Certificates.{Form}
use Rattle.it_syntax.specs.declared.types.Given.{Given}
use Rattle.it_syntax.specs.declared.types.Relation.{Relation}
use Rattle.it_syntax.specs.Meaning.{RelationView, relation_view}
use Rattle.it_syntax.specs.Givens.{GivenView, given_view}
use Rattle.it_demand.specs.Demands.{Demand, demand_of, demands}
use Rattle.it_demand.specs.Origins.{States, ComesFrom, AreStated, line_parts, given_origins, row_origins}
use Rattle.it_demand.specs.SystemForms.{system_forms}
use Rattle.it_demand.proofs.ZipLemmas.{AreMatched, matched-more, matched-end, zip-append}

-- ---- loops over lines

-- the demands of the `given` lines from place i on
abbrev pub givens_wanted : ℕ → ℕ → List Given → List Demand
givens_wanted n i givens = flat_map (demands n) (map given_view givens)

-- their origins, where the first line of all has the number `first`
abbrev pub given_origins_wanted : ℕ → ℕ → ℕ → List Given → List Origin
given_origins_wanted n first i givens = given_origins n (first + i) (map given_view givens)

-- the demands of the `row` lines from place i on
abbrev pub rows_wanted : ℕ → ℕ → List Relation → List Demand
rows_wanted n i rows = map (demand_of n) (map relation_view rows)

abbrev pub row_origins_wanted : ℕ → ℕ → List Relation → List Origin
row_origins_wanted first i rows = row_origins (first + i) (map relation_view rows)

-- the forms of the relations from place i on, which have no origins
abbrev pub forms_wanted : ℕ → ℕ → List Relation → List Form
forms_wanted n i relations = system_forms n (map relation_view relations)

-- constraints of the lines before place i, which go before those of the lines from there on
pub record AreStatedSoFar {X : Type 0} (s : Space) (places : ℕ → List X → List Origin) (wanted : ℕ → List X → List Demand) (xs : List X)
    (i : ℕ) (found : List Constraint) : Type 0 where
  pub placed : AreMatched ComesFrom places xs i found
  pub stated : AreMatched (States s) wanted xs i found

-- one line further
pub stated-more : {X : Type 0} (s : Space) (places : ℕ → List X → List Origin) (wanted : ℕ → List X → List Demand) (xs : List X) (i : ℕ)
    (x : X) (own_places : List Origin) (own_demands : List Demand) (old new own : List Constraint)
    → i < length xs → x ≡ get_or xs i x → places i (x ∷ drop (i + 1) xs) ≡ own_places ++ places (i + 1) (drop (i + 1) xs)
    → wanted i (x ∷ drop (i + 1) xs) ≡ own_demands ++ wanted (i + 1) (drop (i + 1) xs)
    → AreStated s own_places own_demands own → new ≡ old ++ own → AreStatedSoFar s places wanted xs i old → AreStatedSoFar s places wanted xs (i + 1) new
stated-more s places wanted xs i x own_places own_demands old new own below is placed stated a e u = record {
  placed = matched-more ComesFrom places xs i x own_places old new own below is placed a.placed e u.placed;
  stated = matched-more (States s) wanted xs i x own_demands old new own below is stated a.stated e u.stated;
}

-- after the last line
pub stated-end : {X : Type 0} (s : Space) (places : ℕ → List X → List Origin) (wanted : ℕ → List X → List Demand) (xs : List X) (i : ℕ)
    (found : List Constraint) → length xs ≤ i → places i [] ≡ [] → wanted i [] ≡ []
    → AreStatedSoFar s places wanted xs i found → AreStated s (places 0 xs) (wanted 0 xs) found
stated-end s places wanted xs i found h none nothing u = record {
  placed = matched-end ComesFrom places xs i found h none u.placed;
  stated = matched-end (States s) wanted xs i found h nothing u.stated;
}

pub given_origins-split : (n first i : ℕ) (g : Given) (gs : List Given)
    → given_origins_wanted n first i (g ∷ gs) ≡ line_parts (first + i) (demands n (given_view g)) ++ given_origins_wanted n first (i + 1) gs
given_origins-split n first i g gs = let e : first + i + 1 ≡ first + (i + 1) = omega arith
    in ap (λ (l : ℕ). line_parts (first + i) (demands n (given_view g)) ++ given_origins n l (map given_view gs)) e

pub row_origins-split : (first i : ℕ) (r : Relation) (rs : List Relation)
    → row_origins_wanted first i (r ∷ rs) ≡ row_origins (first + i) (relation_view r ∷ []) ++ row_origins_wanted first (i + 1) rs
row_origins-split first i r rs = let e : first + i + 1 ≡ first + (i + 1) = omega arith
    in ap (λ (l : ℕ). row_origins (first + i) (relation_view r ∷ []) ++ row_origins l (map relation_view rs)) e

-- ---- lines put together

pub stated-append : (s : Space) (places others : List Origin) (ds es : List Demand) (cs ts all : List Constraint) → AreStated s places ds cs
    → AreStated s others es ts → all ≡ cs ++ ts → AreStated s (places ++ others) (ds ++ es) all
stated-append s places others ds es cs ts all a b e = subst (λ (x : List Constraint). AreStated s (places ++ others) (ds ++ es) x) (sym e) (record {
  placed = zip-append ComesFrom places others cs ts a.placed b.placed;
  stated = zip-append (States s) ds es cs ts a.stated b.stated;
})

given_origins-append : (n line : ℕ) (cs ds : List GivenView) → given_origins n line (cs ++ ds) ≡ given_origins n line cs
    ++ given_origins n (line + length cs) ds
given_origins-append n line [] ds = let e : line ≡ line + 0 = omega arith in ap (λ (l : ℕ). given_origins n l ds) e
given_origins-append n line (c ∷ cs) ds =
    let e : line + 1 + length cs ≡ line + length (c ∷ cs) = omega arith in
    let parts : List Origin = line_parts line (demands n c) in
    ap (λ (xs : List Origin). parts ++ xs) (given_origins-append n (line + 1) cs ds
    ∙ ap (λ (l : ℕ). given_origins n (line + 1) cs ++ given_origins n l ds) e)
    ∙ sym (append_assoc parts (given_origins n (line + 1) cs) (given_origins n (line + length (c ∷ cs)) ds))

row_origins-append : (line : ℕ) (rs ts : List RelationView) → row_origins line (rs ++ ts) ≡ row_origins line rs ++ row_origins (line + length rs) ts
row_origins-append line [] ts = let e : line ≡ line + 0 = omega arith in ap (λ (l : ℕ). row_origins l ts) e
row_origins-append line (r ∷ rs) ts =
    let e : line + 1 + length rs ≡ line + length (r ∷ rs) = omega arith in
    ap (λ (xs : List Origin). row_origins line (r ∷ []) ++ xs) (row_origins-append (line + 1) rs ts
    ∙ ap (λ (l : ℕ). row_origins (line + 1) rs ++ row_origins l ts) e)

-- the constraints of givens, and of more givens after them
pub givens-append : (s : Space) (n next : ℕ) (gs more : List GivenView) (cs ts all : List Constraint) → next ≡ 1 + length gs
    → AreStated s (given_origins n 1 gs) (flat_map (demands n) gs) cs → AreStated s (given_origins n next more) (flat_map (demands n) more) ts → all ≡ cs ++ ts
    → AreStated s (given_origins n 1 (gs ++ more)) (flat_map (demands n) (gs ++ more)) all
givens-append s n next gs more cs ts all e a b is = subst (λ (places : List Origin). AreStated s places (flat_map (demands n) (gs ++ more)) all)
    (ap (λ (l : ℕ). given_origins n 1 gs ++ given_origins n l more) e ∙ sym (given_origins-append n 1 gs more))
    (subst (λ (ds : List Demand). AreStated s (given_origins n 1 gs ++ given_origins n next more) ds all) (sym (flat_map-append (demands n) gs more))
    (stated-append s (given_origins n 1 gs) (given_origins n next more) (flat_map (demands n) gs) (flat_map (demands n) more) cs ts all a b is))

-- and of rows
pub rows-append : (s : Space) (n next : ℕ) (rs more : List RelationView) (cs ts all : List Constraint) → next ≡ 1 + length rs
    → AreStated s (row_origins 1 rs) (map (demand_of n) rs) cs → AreStated s (row_origins next more) (map (demand_of n) more) ts → all ≡ cs ++ ts
    → AreStated s (row_origins 1 (rs ++ more)) (map (demand_of n) (rs ++ more)) all
rows-append s n next rs more cs ts all e a b is = subst (λ (places : List Origin). AreStated s places (map (demand_of n) (rs ++ more)) all)
    (ap (λ (l : ℕ). row_origins 1 rs ++ row_origins l more) e ∙ sym (row_origins-append 1 rs more))
    (subst (λ (ds : List Demand). AreStated s (row_origins 1 rs ++ row_origins next more) ds all) (sym (map-append (demand_of n) rs more))
    (stated-append s (row_origins 1 rs) (row_origins next more) (map (demand_of n) rs) (map (demand_of n) more) cs ts all a b is))
