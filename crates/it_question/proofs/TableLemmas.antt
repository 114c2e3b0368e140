-- The problem of lines, and the flag that its table's size gives.
use Rattle.std.proofs.Common.{◌≡◌, ℕ, ◌+◌, ◌-◌, ◌*◌, ◌/◌, ◌≤◌, ◌^◌, Bool, false, nat_lt, List, [], ◌∷◌, length, map, None, refl, sym, ap, ap₂, subst, subst₂, ◌∙◌, arith, lit<, length-append}
use Rattle.std.specs.Prelude.{All, flat_map, zip}
use Rattle.std.specs.List.{AllZip}
use Rattle.std.proofs.lemmas.Slice.Zip.{length-zip}
use Rattle.std.proofs.lemmas.List.Elements.{All-weaker}
use Rattle.it_space.specs.declared.spaces.Space.{Space}
use Rattle.it_problems.specs.declared.problems.Kind.{Kind}
use Rattle.it_problems.specs.declared.problems.Origin.{Origin}
use Rattle.it_problems.specs.declared.problems.Constraint.{Constraint}
use Rattle.it_problems.specs.Problems.{IsProblem}
use Rattle.it_space.specs.Rows.{Terms, IsOver}
use Rattle.it_space.specs.Spaces.{IsSpace, size_of}
use Rattle.std.proofs.Math.Nat.{mul-le-mul, pow-le-pow_right}
use Rattle.std.proofs.lemmas.List.{length-map, append-nil}
use Rattle.it_elemental.specs.Places.{index_pairs}
use Rattle.it_elemental.proofs.PairLemmas.{length-index_pairs}
use Rattle.it_elemental.proofs.PlaceLemmas.{length-elementals}
use Rattle.std.proofs.lemmas.Bool.Decides.{nat_tests}
use Rattle.it_polymatroid.specs.Elementals.{elementals}
use Rattle.it_closure.specs.Reading.{dependences_of}
use Rattle.it_closure.specs.Sizes.{most_entries, table_rows, table_columns, table_size}
use Rattle.it_closure.proofs.SizeLemmas.{rows-few, columns-few}
use Rattle.it_syntax.specs.Givens.{GivenView, given_view, IsRelationOf, IsGivenOf}
use Rattle.it_syntax.specs.declared.types.Given.{Given}
use Rattle.it_syntax.specs.Meaning.{RelationView}
use Rattle.it_syntax.specs.NamesViews.{NamesView}
use Rattle.it_demand.specs.Demands.{Demand, demand_of, demands}
use Rattle.it_demand.specs.Origins.{ComesFrom, States, AreStated, given_origins}
use Rattle.it_demand.specs.QuestionSpaces.{space_of}
use Rattle.it_demand.specs.RowsOfForms.{terms_of_form}
use Rattle.it_demand.proofs.FormRows.{row_is_terms_of_form}
use Rattle.it_demand.proofs.LimitLemmas.{wider_relation, wider_given, givens-few}
use Rattle.it_demand.proofs.ZipLemmas.{zip-both, zip-length, zip-right}
use Rattle.it_question.specs.OwnLines.{OwnLinesView, RegionView}
use Rattle.it_question.specs.Limits.{IsRegionOf}
use Rattle.it_question.specs.ReaderSteps.{flag_if_large}
use Rattle.it_question.specs.LineOrigins.{line_origins}
use Rattle.it_question.specs.LineDemands.{line_demands}
use Rattle.it_question.specs.TableSizes.{constraint_of, problem_of_lines, size_flag}

abbrev constraint : Terms → Kind → Origin → Constraint
constraint row kind origin = record { row = row; kind = kind; origin = origin }

-- constraints that state demands are those that are made of them
pub stated_are : (s : Space) (places : List Origin) (ds : List Demand) (cs : List Constraint) → AreStated s places ds cs
    → cs ≡ map (constraint_of s) (zip places ds)
stated_are s places ds cs h = pairs_are (zip places ds) cs (zip-both ComesFrom (States s) places ds cs h.placed h.stated)
  where
    pairs_are : (ps : List (Origin × Demand)) (cs : List Constraint)
        → AllZip (λ (p : Origin × Demand) (c : Constraint). ComesFrom p.0 c × States s p.1 c) ps cs → cs ≡ map (constraint_of s) ps
    pairs_are [] [] a = refl
    pairs_are [] (c ∷ cs) a = absurd a
    pairs_are (p ∷ ps) [] a = absurd a
    pairs_are (p ∷ ps) (c ∷ cs) a =
        let row = row_is_terms_of_form s p.1.form c.row a.0.1.row in
        let one : c ≡ constraint_of s p = ap₂ (λ (x : Terms) (y : Kind). constraint x y c.origin) row a.0.1.kind
        ∙ ap (constraint (terms_of_form (size_of s) p.1.form) p.1.kind) a.0.0 in
        ap₂ (λ (x : Constraint) (xs : List Constraint). x ∷ xs) one (pairs_are ps cs a.1)

-- they are a problem
pub stated_problem : (s : Space) (places : List Origin) (ds : List Demand) (cs : List Constraint) → IsSpace s → length ds ≤ 2 ^ 20
    → AreStated s places ds cs → IsProblem (record { space = s; constraints = cs })
stated_problem s places ds cs k few h = record {
  space = k;
  rows = zip-right (States s) (λ c. IsOver (size_of s) c.row) (λ d c t. t.row.coordinates) ds cs h.stated;
  few = omega (arith, zip-length (States s) ds cs h.stated, few);
}

-- lines have few demands
pub lines-few : (n : ℕ) (own : OwnLinesView) → All (IsGivenOf n) own.givens → length (line_demands n own) ≤ 14 * length own.givens + length own.rows
lines-few n own a = omega (
  arith,
  length-append (flat_map (demands n) own.givens)
      (map (demand_of n) own.rows),
  givens-few n own.givens a,
  length-map own.rows (demand_of n),
)

-- the flag by the size of the problem with the constraints that were made
pub flag_by_size : (v : NamesView) (own : OwnLinesView) (cs : List Constraint) (large : Bool)
    → AreStated (space_of v) (line_origins (length v.variables) own) (line_demands (length v.variables) own) cs
    → large ≡ nat_lt most_entries (table_size (record { space = space_of v; constraints = cs })) → size_flag v own ≡ flag_if_large large
unfolding size_flag
flag_by_size v own cs large h e =
    let same = stated_are (space_of v) (line_origins (length v.variables) own) (line_demands (length v.variables) own) cs h in
    ap (λ (ds : List Constraint). flag_if_large (nat_lt most_entries (table_size (record { space = space_of v; constraints = ds }))))
    (sym same) ∙ ap flag_if_large (sym e)

-- ---- a question's lines under the names of its region

region_wider : (v : NamesView) (r : RegionView) → IsRegionOf v r → length v.variables ≤ length r.names.variables
region_wider v r a = omega (arith, ap length a.variables, length-append v.variables a.own)

pub region_space : (v : NamesView) (r : RegionView) → IsSpace (space_of v) → IsRegionOf v r → IsSpace (space_of r.names)
region_space v r k a = record {
  some = omega (arith, k.some, region_wider v r a);
  few = omega (arith, a.few_variables);
  few_rates
      = omega (arith, k.few_rates, ap length a.rates);
}

pub region_givens : (v : NamesView) (r : RegionView) (gs : List GivenView) → IsRegionOf v r → All (IsGivenOf (length v.variables)) gs
    → All (IsGivenOf (length r.names.variables)) gs
region_givens v r gs a h = All-weaker (IsGivenOf (length v.variables)) (IsGivenOf (length r.names.variables))
    (λ c d. wider_given (length v.variables) (length r.names.variables) (region_wider v r a) c d) gs h

pub region_rows : (v : NamesView) (r : RegionView) (rs : List RelationView) → IsRegionOf v r
    → All (IsRelationOf (length v.variables) (length v.rates)) rs → All (IsRelationOf (length r.names.variables) (length r.names.rates)) rs
region_rows v r rs a h = All-weaker (IsRelationOf (length v.variables) (length v.rates)) (IsRelationOf (length r.names.variables) (length r.names.rates))
    (λ x d. subst (λ (m : ℕ). IsRelationOf (length r.names.variables) m x) (sym (ap length a.rates))
    (wider_relation (length v.variables) (length r.names.variables) (length v.rates) (region_wider v r a) x d)) rs h

-- the constraints of lines within the limits are a problem
pub lines_problem : (s : Space) (own : OwnLinesView) (cs : List Constraint) → IsSpace s → All (IsGivenOf s.variables) own.givens
    → length own.givens ≤ 128 → length own.rows ≤ 128 → AreStated s (line_origins s.variables own) (line_demands s.variables own) cs
    → IsProblem (record { space = s; constraints = cs })
lines_problem s own cs k givens g r h = stated_problem s (line_origins s.variables own) (line_demands s.variables own) cs k
    (omega (arith, lines-few s.variables own givens, g, r)) h

-- and give the flag
pub space_flag : (s : Space) (v : NamesView) (own : OwnLinesView) (cs : List Constraint) (large : Bool) → s ≡ space_of v
    → AreStated s (line_origins s.variables own) (line_demands s.variables own) cs
    → large ≡ nat_lt most_entries (table_size (record { space = s; constraints = cs })) → size_flag v own ≡ flag_if_large large
space_flag s v own cs large e h k = flag_by_size v own cs large (subst
    (λ (t : Space). AreStated t (line_origins t.variables own) (line_demands t.variables own) cs) e h)
    (subst (λ (t : Space). large ≡ nat_lt most_entries (table_size (record { space = t; constraints = cs }))) e k)

-- the constraints of the givens alone
pub givens_stated : (s : Space) (gs own : List GivenView) (cs : List Constraint) → gs ≡ own
    → AreStated s (given_origins s.variables 1 gs) (flat_map (demands s.variables) gs) cs
    → AreStated s (line_origins s.variables (record { givens = own; rows = [] })) (line_demands s.variables (record { givens = own; rows = [] })) cs
givens_stated s gs own cs e h = subst₂ (λ (places : List Origin) (ds : List Demand). AreStated s places ds cs)
    (sym (append-nil (given_origins s.variables 1 own))) (sym (append-nil (flat_map (demands s.variables) own)))
    (subst (λ (xs : List GivenView). AreStated s (given_origins s.variables 1 xs) (flat_map (demands s.variables) xs) cs) e h)

-- ---- small tables

-- at most nine variables have few elemental inequalities
elementals-few : (n : ℕ) → n ≤ 9 → length (elementals n) ≤ 4617
elementals-few n h =
    let power : 2 ^ n ≤ 2 ^ 9 = pow-le-pow_right (lit< tt) h in
    let less : n - 1 ≤ 8 = omega (arith, h) in
    let square : n * (n - 1) ≤ 9 * 8 = mul-le-mul h less in
    let pairs : length (index_pairs n) ≤ 36 = omega (arith, length-index_pairs n, square) in
    let quarter : 2 ^ n / 4 ≤ 128 = omega (arith, power) in
    let both : length (index_pairs n) * (2 ^ n / 4) ≤ 36 * 128 = mul-le-mul pairs quarter in
    omega (arith, length-elementals n, both, h)

-- at most nine variables, with lines within the limits, have a table that isn't too large
pub few_variables : (v : NamesView) (own : OwnLinesView) → length v.variables ≤ 9 → length v.rates ≤ 16
    → All (IsGivenOf (length v.variables)) own.givens → length own.givens ≤ 64 → length own.rows ≤ 64 → size_flag v own ≡ None
unfolding size_flag table_size
few_variables v own few rates a givens lines =
    let n = length v.variables in
    let q = problem_of_lines v own in
    let ds = zip (line_origins n own) (line_demands n own) in
    let rows : table_rows q ≤ 527 = rows-few n 9 (length v.rates) (dependences_of q) few rates in
    let columns : table_columns q ≤ 7064 = omega (
      arith,
      elementals-few n few,
      columns-few q.constraints,
      length-map ds
          (constraint_of (space_of v)),
      length-zip (line_origins n own) (line_demands n own),
      lines-few n own a,
      givens,
      lines,
      rows,
    ) in
    let size : table_rows q * table_columns q ≤ 527 * 7064 = mul-le-mul rows columns in
    let small : nat_lt most_entries (table_rows q * table_columns q) ≡ false = grind (arith, nat_tests) in
    rw small refl
