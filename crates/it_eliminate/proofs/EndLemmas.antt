-- The rates one after the other.
use Rattle.std.proofs.Common.{◌≡◌, inl, inr, ℕ, ◌+◌, ◌<◌, ◌≤◌, refl, sym, ap, subst, subst₂, ◌∙◌, List, [], ◌∷◌, length, drop, get_or}
use Rattle.std.proofs.lemmas.List.{drop_more, drop_all}
use Rattle.it_space.specs.Rows.{Terms}
use Rattle.it_eliminate.specs.declared.types.Stop.{Stop}
use Rattle.it_eliminate.specs.declared.types.Stop.TheVariants as stops
use Rattle.it_eliminate.specs.Elimination.{EliminatedView, Region, Rows, Wide, next_list, PairsFit, EliminationEnds}
use Rattle.it_eliminate.specs.Views.{StopsBy}
use Rattle.it_eliminate.proofs.RegionLemmas.{not_rows, not_wide, same_list}

-- the end of one rate, which is at coordinate `at`
module _ (base most : ℕ) (rows : List Terms) (rate at : ℕ) (is : at ≡ base + rate) where
  pub rate_wide : ¬ (PairsFit at rows) → EliminationEnds base most rows (rate ∷ []) (Wide rate)
  rate_wide wide = inl (subst (λ (a : ℕ). ¬ (PairsFit a rows)) is wide, refl)

  module _ (fits : PairsFit at rows) where
    pub rate_many : most < length (next_list at rows) → EliminationEnds base most rows (rate ∷ []) (Rows rate)
    rate_many many = inr (inl (subst (λ (a : ℕ). PairsFit a rows) is fits, subst (λ (a : ℕ). most < length (next_list a rows)) is many, refl))

    pub rate_kept : (next : List Terms) → length (next_list at rows) ≤ most → next ≡ next_list at rows
        → EliminationEnds base most rows (rate ∷ []) (Region next)
    rate_kept next few e = inr (inr (
      subst (λ (a : ℕ). PairsFit a rows) is fits,
      subst (λ (a : ℕ). length (next_list a rows) ≤ most) is few,
      ap Region (e ∙ ap (λ (a : ℕ). next_list a rows) is),
    ))

-- what comes after a region is the end with the rates after it
region_goes_on : (base most : ℕ) (rows : List Terms) (r : ℕ) (rs : List ℕ) (next : List Terms) (end : EliminatedView)
    → EliminationEnds base most rows (r ∷ []) (Region next) → EliminationEnds base most next rs end → EliminationEnds base most rows (r ∷ rs) end
region_goes_on base most rows r rs next end (inl e) more = absurd (not_wide next r e.1)
region_goes_on base most rows r rs next end (inr (inl e)) more = absurd (not_rows next r e.2)
region_goes_on base most rows r rs next end (inr (inr e)) more = inr (inr (
  e.0,
  e.1,
  subst (λ (xs : List Terms). EliminationEnds base most xs rs end) (same_list next (next_list (base + r) rows) e.2) more,
))

-- a cause after one rate is the end with further ones
cause_stays : (base most : ℕ) (rows : List Terms) (r : ℕ) (rs : List ℕ) (end : EliminatedView) → ((xs : List Terms) → end ≡ Region xs → ⊥)
    → EliminationEnds base most rows (r ∷ []) end → EliminationEnds base most rows (r ∷ rs) end
cause_stays base most rows r rs end none (inl e) = inl e
cause_stays base most rows r rs end none (inr (inl e)) = inr (inl e)
cause_stays base most rows r rs end none (inr (inr e)) = absurd (none (next_list (base + r) rows) e.2)

-- the end of the remaining rates is that of all
abbrev pub LeadsTo : ℕ → ℕ → List Terms → List Terms → List ℕ → ℕ → Type 0
LeadsTo base most start now rates i = (end : EliminatedView) → EliminationEnds base most now (drop i rates) end → EliminationEnds base most start rates end

module _ (base most : ℕ) (start now : List Terms) (rates : List ℕ) (i : ℕ) (l : LeadsTo base most start now rates i) where
  pub ends_done : length rates ≤ i → EliminationEnds base most start rates (Region now)
  ends_done h = l (Region now) (subst (λ (rs : List ℕ). EliminationEnds base most now rs (Region now)) (sym (drop_all i rates h)) refl)

  module _ (rows : List Terms) (rate : ℕ) (is_now : rows ≡ now) (is_rate : rate ≡ get_or rates i 0) (h : i < length rates) where
    next_leads : (end : EliminatedView) → EliminationEnds base most now (get_or rates i 0 ∷ drop (i + 1) rates) end → EliminationEnds base most start rates end
    next_leads end e = l end (subst (λ (rs : List ℕ). EliminationEnds base most now rs end) (sym (drop_more rates i 0 h)) e)

    here : (end : EliminatedView) → EliminationEnds base most rows (rate ∷ []) end → EliminationEnds base most now (get_or rates i 0 ∷ []) end
    here end e = subst₂ (λ (rs : List Terms) (r : ℕ). EliminationEnds base most rs (r ∷ []) end) is_now is_rate e

    pub leads_on : (next : List Terms) → EliminationEnds base most rows (rate ∷ []) (Region next) → LeadsTo base most start next rates (i + 1)
    leads_on next e end more = next_leads end (region_goes_on base most now (get_or rates i 0) (drop (i + 1) rates) next end (here (Region next) e) more)

    pub stops_on : (stop : Stop) → StopsBy (EliminationEnds base most rows (rate ∷ [])) stop → StopsBy (EliminationEnds base most start rates) stop
    stops_on stops.Memory e = tt
    stops_on (stops.Rows r) e = next_leads (Rows r) (cause_stays base most now (get_or rates i 0) (drop (i + 1) rates) (Rows r)
        (λ xs is. not_rows xs r (sym is)) (here (Rows r) e))
    stops_on (stops.Wide r) e = next_leads (Wide r) (cause_stays base most now (get_or rates i 0) (drop (i + 1) rates) (Wide r)
        (λ xs is. not_wide xs r (sym is)) (here (Wide r) e))
