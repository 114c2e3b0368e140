-- Where the obligations hold at a point of the first region, the pulled-back point is one of the second.
use Rattle.std.proofs.Common.{◌≡◌, ℕ, ◌≤◌, ℤ, pos, ◌≤ℤ◌, List, [], ◌∷◌, map, length, ap, subst, ◌∙◌, arith, All}
use Rattle.std.proofs.lemmas.List.Elements.{All-nil, All-cons, All-append}
use Rattle.it_demand.specs.Targets.{inequalities_of}
use Rattle.it_polymatroid.specs.Certificates.{Form}
use Rattle.it_polymatroid.proofs.Images.{pulled_polymatroid}
use Rattle.it_question.specs.Limits.{IsQuestion, IsVerbOver}
use Rattle.it_question.specs.OwnLines.{RegionView}
use Rattle.it_question.specs.Questions.{Contain, BodyView}
use Rattle.it_syntax.specs.Meaning.{Holds}
use Rattle.it_syntax.specs.Givens.{IsTrueAt}
use Rattle.it_demand.specs.Demands.{Demand, demand_of, demands}
use Rattle.it_question.specs.LineDemands.{line_demands}
use Rattle.std.specs.List.{flat_map}
use Rattle.it_demand.proofs.MetLemmas.{IsSatisfied, givens_satisfied, rows_satisfied}
use Rattle.it_demand.proofs.ZipLemmas.{All-parts}
use Rattle.it_demand.proofs.LimitLemmas.{wider_set}
use Rattle.it_region.specs.Pulling.{substituted_sets, pulled_coordinate, pulled_map}
use Rattle.it_canon.specs.Agreement.{AgreeOnCommon}
use Rattle.it_region.specs.Obligations.{pulled_form, demand_obligations, AreFormsAtLeastZero}
use Rattle.it_region.specs.Theorems.{PulledPointIsIn, ObligationsContain}
use Rattle.it_region.proofs.PullingLemmas.{common_stay, sets_within, coordinate_of_set, coordinate_of_rate}
use Rattle.it_canon.proofs.AgreeLemmas.{all_true, all_hold}
use Rattle.it_region.proofs.PairLemmas.{region_wider}
use Rattle.it_region.proofs.RowLemmas.{demanded_forms_met}

-- where the obligations of demands hold at a map, the demands are met at the pulled-back one
pub all_met : (f : ℕ → ℕ) (p : ℕ → ℤ) (ds : List Demand) → AreFormsAtLeastZero p (demand_obligations f ds) → All (IsSatisfied (λ c. p (f c))) ds
all_met f p [] a = All-nil (IsSatisfied (λ c. p (f c)))
all_met f p (d ∷ ds) a =
    let each = All-parts (λ (g : Form). pos 0 ≤ℤ g p) (inequalities_of d.kind (pulled_form f d.form)) (demand_obligations f ds) a in
    All-cons (IsSatisfied (λ c. p (f c))) d ds ((demanded_forms_met d.kind (pulled_form f d.form) p).0 each.0) (all_met f p ds each.1)

-- the limits of a containment
verb_limits : (q : BodyView) (a b : RegionView) (tries : List (List ℕ)) → IsQuestion q → q.verb ≡ Contain a b tries → IsVerbOver q.names (Contain a b tries)
verb_limits q a b tries k e = subst (IsVerbOver q.names) e k.verb

pub pulled_point_is_in : PulledPointIsIn
pulled_point_is_in q a b tries parts k is s p inside owe =
    let n : ℕ = length a.names.variables in
    let m : ℕ = length b.names.variables in
    let common : ℕ = length q.names.variables in
    let rates : ℕ = length q.names.rates in
    let sets : List ℕ = substituted_sets common parts in
    let both = verb_limits q a b tries k is in
    let few : common ≤ n = omega (arith, region_wider q a both.0) in
    let fewer : common ≤ m = omega (arith, region_wider q b both.1) in
    let image : ℕ → ℤ = pulled_map n m sets p in
    let agree : AgreeOnCommon common rates n m p image = record {
      on_sets = λ t l. ap p (coordinate_of_set n m sets t (wider_set common m t fewer l) ∙ common_stay common parts t l);
      on_rates = λ r l. ap p (coordinate_of_rate n m sets r);
    } in
    let shared_givens = All-parts (IsTrueAt n p) q.lines.givens a.lines.givens inside.lines_hold.givens in
    let shared_rows = All-parts (Holds n p) q.lines.rows a.lines.rows inside.lines_hold.rows in
    let owned = All-parts (IsSatisfied image) (flat_map (demands m) b.lines.givens) (map (demand_of m) b.lines.rows)
    (all_met (pulled_coordinate n m sets) p (line_demands m b.lines) owe) in
    record {
      is_in = record {
        polymatroid = pulled_polymatroid n m p image sets (sets_within n common parts few s.within)
            (λ t l. ap p (coordinate_of_set n m sets t l)) inside.polymatroid;
        lines_hold = record {
          givens = All-append (IsTrueAt m image) q.lines.givens b.lines.givens
              (all_true common rates n m p image agree q.lines.givens k.lines.givens shared_givens.0)
              ((givens_satisfied m b.lines.givens image).0 owned.0);
          rows = All-append (Holds m image) q.lines.rows b.lines.rows
              (all_hold common rates n m p image agree q.lines.rows k.lines.rows shared_rows.0)
              ((rows_satisfied m b.lines.rows image).0 owned.1);
        };
      };
      agree = agree;
    }

pub obligations_contain : ObligationsContain
obligations_contain q a b tries parts k is s owe p inside = (
  pulled_map (length a.names.variables) (length b.names.variables) (substituted_sets (length q.names.variables) parts) p,
  pulled_point_is_in q a b tries parts k is s p inside (owe p inside),
)
