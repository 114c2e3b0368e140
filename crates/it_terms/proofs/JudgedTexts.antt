-- What a judged text tells.
use Rattle.std.proofs.Common.{◌≡◌, ◌≢◌, ◌↔◌, ℕ, ◌≤◌, ℤ, pos, ◌-ℤ◌, ◌≤ℤ◌, Bool, List, length, Result, Ok, Err, IfOk, refl, sym, subst, arith}
use Rattle.std.specs.Bool.{OnTrue}
use Rattle.std.proofs.lemmas.Bool.{OnTrue_at, OnTrue_from}
use Rattle.std.proofs.lemmas.Int.{ints}
use Rattle.it_space.specs.declared.spaces.Space.{Space}
use Rattle.it_space.specs.Spaces.{IsSpace}
use Rattle.it_space.specs.Rows.{Terms, AreLowestTermsOf, value}
use Rattle.it_syntax.specs.declared.types.Sign.{Sign}
use Rattle.it_syntax.specs.declared.types.Sign.TheVariants.{AtLeast, AtMost, Equal}
use Rattle.it_syntax.specs.Meaning.{RelationView, Relates, common_denominator, side_at}
use Rattle.it_syntax.specs.NamesViews.{NamesView, AreNames}
use Rattle.it_demand.specs.Canonical.{IsRowOf, form_of, signed_difference}
use Rattle.it_terms.specs.Tells.{IsRelationText, SaysRow, TellsRow}

pub space_of_names : (v : NamesView) (s : Space) → s ≡ record { variables = length v.variables; rates = length v.rates } → AreNames v
    → 1 ≤ length v.variables → IsSpace s
space_of_names v s e names some = subst IsSpace (sym e) (record { some = some; few = names.few_variables; few_rates = names.few_rates })

pub compares_by_difference : (s : Sign) (x y : ℤ) → s ≢ Equal → Relates s x y ↔ (pos 0 ≤ℤ signed_difference s (x -ℤ y))
compares_by_difference AtLeast x y h = (λ a. omega (arith, ints, a), λ a. omega (arith, ints, a))
compares_by_difference AtMost x y h = (λ a. omega (arith, ints, a), λ a. omega (arith, ints, a))
compares_by_difference Equal x y h = absurd (h refl)

-- an inequality whose row is the other one in lowest terms says what that one says
pub same_row_says : (s : Space) (r : RelationView) (row own low wanted : Terms) → r.sign ≢ Equal → IsRowOf s (form_of s.variables r) own
    → AreLowestTermsOf own low → AreLowestTermsOf row wanted
    → low ≡ wanted → SaysRow s.variables r row
same_row_says s r row own low wanted h is a b e p z =
    let n : ℕ = s.variables in
    let m : ℕ = common_denominator r in
    let c = compares_by_difference r.sign (side_at n p m r.left) (side_at n p m r.right) h in (
      λ holds. (b.signs p).positive.1 (subst (λ (t : Terms). pos 0 ≤ℤ value t p) e
          ((a.signs p).positive.0 (subst (λ (x : ℤ). pos 0 ≤ℤ x) (sym (is.same p z)) (c.0 holds)))),
      λ least. c.1 (subst (λ (x : ℤ). pos 0 ≤ℤ x) (is.same p z) ((a.signs p).positive.1
          (subst (λ (t : Terms). pos 0 ≤ℤ value t p) (sym e) ((b.signs p).positive.0 least)))),
    )

-- what a text that is a relation tells
pub told_by_relation : {E : Type 0} (v : NamesView) (row : Terms) (text : List ℕ) (s : Space) (r : RelationView) (result : Result Bool E)
    → s ≡ record { variables = length v.variables; rates = length v.rates } → IsRelationText v text r
    → IfOk result (λ b. OnTrue b (SaysRow s.variables r row)) → IfOk result (λ b. OnTrue b (TellsRow v row text))
told_by_relation v row text s r (Ok b) e is h =
    OnTrue_from b (TellsRow v row text) (λ t. record { relation = r; is = is; same = subst (λ (z : Space). SaysRow z.variables r row) e (OnTrue_at t h) })
told_by_relation v row text s r (Err x) e is h = tt
