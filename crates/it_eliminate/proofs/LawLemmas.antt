-- Elimination has one end, and a region that it ends with is the projection.
use Rattle.std.proofs.Common.{◌≡◌, inl, inr, ◌↔◌, ℕ, ◌+◌, ◌^◌, sym, ap, subst, ◌∙◌, arith, List, [], ◌∷◌, map, All}
use Rattle.it_problems.specs.declared.problems.System.{System}
use Rattle.it_space.specs.declared.spaces.Space.{Space}
use Rattle.it_problems.specs.Problems.{IsSystem}
use Rattle.it_space.specs.Rows.{Terms, IsOver}
use Rattle.it_space.specs.Spaces.{IsSpace, size_of}
use Rattle.it_eliminate.specs.Elimination.{EliminatedView, Region, Rows, Wide, next_list, EliminationEnds, ordered_rows, list_after}
use Rattle.it_eliminate.specs.Projections.{IsPointOf, Extends, LacksCoordinate, IsProjection}
use Rattle.it_eliminate.specs.Laws.{OneEnd}
use Rattle.it_eliminate.proofs.MemberLemmas.{member_of, member-map}
use Rattle.it_eliminate.proofs.SpaceLemmas.{projection_up_to}
use Rattle.it_eliminate.proofs.RateLemmas.{projection_exact, projection_lacks}

pub one_end : OneEnd
one_end base most rows [] o u e f = e ∙ sym f
one_end base most rows (r ∷ rs) o u (inl e) (inl f) = e.1 ∙ sym f.1
one_end base most rows (r ∷ rs) o u (inl e) (inr (inl f)) = absurd (e.0 f.0)
one_end base most rows (r ∷ rs) o u (inl e) (inr (inr f)) = absurd (e.0 f.0)
one_end base most rows (r ∷ rs) o u (inr (inl e)) (inl f) = absurd (f.0 e.0)
one_end base most rows (r ∷ rs) o u (inr (inl e)) (inr (inl f)) = e.2 ∙ sym f.2
one_end base most rows (r ∷ rs) o u (inr (inl e)) (inr (inr f)) = absurd (omega (arith, e.1, f.1))
one_end base most rows (r ∷ rs) o u (inr (inr e)) (inl f) = absurd (f.0 e.0)
one_end base most rows (r ∷ rs) o u (inr (inr e)) (inr (inl f)) = absurd (omega (arith, e.1, f.1))
one_end base most rows (r ∷ rs) o u (inr (inr e)) (inr (inr f)) = one_end base most (next_list (base + r) rows) rs o u e.2 f.2

abbrev rows_or : EliminatedView → List Terms → List Terms
rows_or (Region rows) other = rows
rows_or (Rows r) other = other
rows_or (Wide r) other = other

abbrev IsRegion : EliminatedView → Type 0
IsRegion (Region rows) = Unit {0}
IsRegion (Rows r) = ⊥
IsRegion (Wide r) = ⊥

-- a region has the list after all rates
region_is : (base most : ℕ) (rows : List Terms) (rates : List ℕ) (kept : List Terms) → EliminationEnds base most rows rates (Region kept)
    → kept ≡ list_after (map (λ r. base + r) rates) rows
region_is base most rows [] kept e = ap (λ o. rows_or o rows) e
region_is base most rows (r ∷ rs) kept (inl e) = absurd (subst IsRegion e.1 tt)
region_is base most rows (r ∷ rs) kept (inr (inl e)) = absurd (subst IsRegion e.2 tt)
region_is base most rows (r ∷ rs) kept (inr (inr e)) = region_is base most (next_list (base + r) rows) rs kept e.2

pub is_projection : (most : ℕ) (system region : System) (rates : List ℕ) → IsSystem system → region.space ≡ system.space
    → EliminationEnds (2 ^ system.space.variables) most (ordered_rows system.rows.items) rates (Region region.rows.items) → IsProjection system rates region
is_projection most system region rates h same e =
    let ats : List ℕ = map (λ r. 2 ^ system.space.variables + r) rates in
    let is : region.rows.items ≡ list_after ats (ordered_rows system.rows.items) = region_is (2 ^ system.space.variables) most
    (ordered_rows system.rows.items) rates region.rows.items e in
    let fits : All (IsOver (size_of system.space)) region.rows.items
    = subst (λ (rs : List Terms). All (IsOver (size_of system.space)) rs) (sym is)
    (projection_up_to (size_of system.space) ats system.rows.items h.rows) in record {
      space = same;
      system = record {
        space = subst (λ (s : Space). IsSpace s) (sym same) h.space;
        rows = subst (λ (s : Space). All (IsOver (size_of s)) region.rows.items) (sym same) fits;
      };
      free = λ r m. subst (λ (rs : List Terms). LacksCoordinate (2 ^ system.space.variables + r) rs) (sym is)
          (projection_lacks (2 ^ system.space.variables + r) ats system.rows.items
          (member-map (λ r. 2 ^ system.space.variables + r) r rates (member_of rates r m)));
      exact = λ p. subst (λ (rs : List Terms). IsPointOf rs p ↔ Extends ats system.rows.items p) (sym is) (projection_exact ats system.rows.items p);
    }
