-- The steps that make a hull: the rows that go by their numbers, one step, and the loop over rays.
use Rattle.std.proofs.Common.{◌≡◌, ◌⊎◌, inl, inr, ℕ, ◌+◌, ◌-◌, ◌^◌, ◌<◌, ◌≤◌, ℤ, pos, List, [], ◌∷◌, ◌++◌, map, length, drop, get_or, true, false, Option, Some, None, option_map, if◌then◌else◌, refl, sym, ap, ap₂, subst, ◌∙◌, arith, append_assoc, append-nil, length-append}
use Rattle.std.proofs.lemmas.Bool.{cases_lt, false≢true}
use Rattle.std.proofs.lemmas.List.{drop_all, map-append}
use Rattle.it_space.specs.declared.answers.Certificate.{Certificate}
use Rattle.it_problems.specs.declared.problems.System.{System}
use Rattle.it_space.specs.Answers.{CertificateView, certificate_view}
use Rattle.it_problems.specs.Problems.{ProblemView}
use Rattle.it_space.specs.Rows.{IsOver, Terms, coefficient}
use Rattle.it_space.specs.Spaces.{size_of}
use Rattle.it_space.proofs.ListLemmas.{drop_item}
use Rattle.it_eliminate.specs.Elimination.{Region, Rows, Wide, is_same}
use Rattle.it_eliminate.specs.declared.types.Eliminated.{Eliminated}
use Rattle.it_eliminate.specs.declared.types.Eliminated.TheVariants as eliminated
use Rattle.it_eliminate.specs.Views.{eliminated_view}
use Rattle.it_prove.specs.declared.types.Effort.{Effort}
use Rattle.it_redundant.specs.declared.types.Reduced.{Reduced}
use Rattle.it_redundant.specs.Reduction.{IsSystemUnder, Reduces, dropped_view, kept_rows, kept_view}
use Rattle.it_redundant.proofs.ReductionLemmas.{all_kept}
use Rattle.it_redundant.proofs.VisitLemmas.{rows_kept}
use Rattle.it_hull.specs.Constants.{constants}
use Rattle.it_hull.specs.Hulls.{first_rows}
use Rattle.it_hull.specs.Rays.{AddsRay, IsNextHull, RayEnds}
use Rattle.it_hull.proofs.ConstantLemmas.{constants_are_problem, few_constants}
use Rattle.it_hull.proofs.RayLemmas.{next_free}
use Rattle.it_spans.specs.declared.types.Frame.{Frame}
use Rattle.it_spans.specs.declared.types.RowDrop.{RowDrop}
use Rattle.it_spans.specs.declared.types.Step.{Step}
use Rattle.it_spans.specs.Drops.{DropView, drop_view}
use Rattle.it_spans.specs.HullRows.{AreHullRows}
use Rattle.it_spans.specs.Spans.{StepView, step_view, step_views}
use Rattle.it_spans.specs.Theorems.{AreKept, IsFrame}
use Rattle.it_spans.proofs.SpanLemmas.{few_next, led_first}
use Rattle.it_bounds.specs.declared.steps.Made.{Made}
use Rattle.it_bounds.specs.HullSteps.{AreMade, MadeStep, numbered_drops}
use Rattle.it_bounds.specs.StepViews.{IsMadeStep, IsReducedStep, goes_first, made_view}

-- ---- the rows that go, by their numbers

-- rows with their certificates, as contracts see them
abbrev pub certified : List (Terms × Certificate) → List (Terms × CertificateView)
certified dropped = map (λ d. (d.0, certificate_view d.1)) dropped

none_numbered : (stayed : ℕ) (rows : List Terms) → numbered_drops stayed rows [] ≡ []
none_numbered stayed [] = refl
none_numbered stayed (row ∷ rows) = refl

no_rows_numbered : (stayed : ℕ) (dropped : List (Terms × CertificateView)) → numbered_drops stayed [] dropped ≡ []
no_rows_numbered stayed [] = refl
no_rows_numbered stayed (d ∷ dropped) = refl

row_stays : (stayed : ℕ) (row : Terms) (rows : List Terms) (dropped : List (Terms × Certificate)) → goes_first row dropped ≡ false
    → numbered_drops stayed (row ∷ rows) (certified dropped) ≡ numbered_drops (stayed + 1) rows (certified dropped)
row_stays stayed row rows [] e = sym (none_numbered (stayed + 1) rows)
row_stays stayed row rows (d ∷ dropped) e =
    ap (λ b. if b then record { row = stayed; proof = certificate_view d.1 } ∷ numbered_drops stayed rows (certified dropped)
    else numbered_drops (stayed + 1) rows (certified (d ∷ dropped))) e

row_goes : (stayed : ℕ) (row : Terms) (rows : List Terms) (d : Terms × Certificate) (dropped : List (Terms × Certificate)) → is_same row d.0 ≡ true
    → numbered_drops stayed (row ∷ rows) (certified (d ∷ dropped)) ≡ record { row = stayed; proof = certificate_view d.1 }
    ∷ numbered_drops stayed rows (certified dropped)
row_goes stayed row rows d dropped e =
    ap (λ b. if b then record { row = stayed; proof = certificate_view d.1 } ∷ numbered_drops stayed rows (certified dropped)
    else numbered_drops (stayed + 1) rows (certified (d ∷ dropped))) e

-- where a row is the first of the dropped ones, there is one
first_is_there : (row : Terms) (n : ℕ) (dropped : List (Terms × Certificate)) → goes_first row (drop n dropped) ≡ true → n < length dropped
first_is_there row n dropped e = by_order (cases_lt n (length dropped))
  where
    by_order : (n < length dropped) ⊎ (length dropped ≤ n) → n < length dropped
    by_order (inl l) = l
    by_order (inr l) = absurd (false≢true (subst (λ (ds : List (Terms × Certificate)). goes_first row ds ≡ true) (drop_all n dropped l) e))

-- the first i rows were looked at, and these drops found
pub record AreNumbered (rows : List Terms) (dropped : List (Terms × Certificate)) (i : ℕ) (drops : List RowDrop) : Type 0 where
  pub rest : map drop_view drops ++ numbered_drops (i - length drops) (drop i rows) (certified (drop (length drops) dropped))
      ≡ numbered_drops 0 rows (certified dropped)
  pub few : length drops ≤ i

pub numbered_first : (rows : List Terms) (dropped : List (Terms × Certificate)) (drops : List RowDrop) → drops ≡ [] → AreNumbered rows dropped 0 drops
numbered_first rows dropped drops e = subst (λ (ds : List RowDrop). AreNumbered rows dropped 0 ds) (sym e) (record { rest = refl; few = omega arith })

module _ (rows : List Terms) (dropped : List (Terms × Certificate)) (i : ℕ) (drops : List RowDrop) (u : AreNumbered rows dropped i drops) where
  module _ (row : Terms) (l : i < length rows) (at : row ≡ get_or rows i row) where
    next_row : map drop_view drops ++ numbered_drops (i - length drops) (row ∷ drop (i + 1) rows) (certified (drop (length drops) dropped))
        ≡ numbered_drops 0 rows (certified dropped)
    next_row = ap (λ (rs : List Terms). map drop_view drops ++ numbered_drops (i - length drops) rs
        (certified (drop (length drops) dropped))) (sym (drop_item rows i row l at)) ∙ u.rest

    stays_so : goes_first row (drop (length drops) dropped) ≡ false → AreNumbered rows dropped (i + 1) drops
    stays_so e = let few = u.few in record {
      rest = ap (λ ds. map drop_view drops ++ ds) (ap (λ n. numbered_drops n (drop (i + 1) rows) (certified (drop (length drops) dropped)))
          (let one : (i + 1) - length drops ≡ (i - length drops) + 1 = omega (arith, few) in one)
          ∙ sym (row_stays (i - length drops) row (drop (i + 1) rows) (drop (length drops) dropped) e)) ∙ next_row;
      few = omega (arith, few);
    }

    goes_so : (d : Terms × Certificate) (gone : RowDrop) → d ≡ get_or dropped (length drops) d → goes_first row (drop (length drops) dropped) ≡ true
        → drop_view gone ≡ record { row = i - length drops; proof = certificate_view d.1 } → AreNumbered rows dropped (i + 1) (drops ++ gone ∷ [])
    goes_so d gone n e view = record { rest = rest_goes; few = (let few = u.few in omega (arith, few, counted)) }
      where
        later : List (Terms × Certificate)
        later = drop (length drops + 1) dropped

        counted : length (drops ++ gone ∷ []) ≡ length drops + 1
        counted = length-append drops (gone ∷ [])

        parts : drop (length drops) dropped ≡ d ∷ later
        parts = drop_item dropped (length drops) d (first_is_there row (length drops) dropped e) n

        same : is_same row d.0 ≡ true
        same = subst (λ (ds : List (Terms × Certificate)). goes_first row ds ≡ true) parts e

        left : numbered_drops (i - length drops) (row ∷ drop (i + 1) rows) (certified (drop (length drops) dropped))
            ≡ drop_view gone ∷ numbered_drops (i - length drops) (drop (i + 1) rows) (certified later)
        left = ap (λ (ds : List (Terms × Certificate)). numbered_drops (i - length drops) (row ∷ drop (i + 1) rows) (certified ds)) parts
            ∙ row_goes (i - length drops) row (drop (i + 1) rows) d later same
            ∙ ap (λ v. v ∷ numbered_drops (i - length drops) (drop (i + 1) rows) (certified later)) (sym view)

        rest_goes : map drop_view (drops ++ gone ∷ []) ++ numbered_drops ((i + 1) - length (drops ++ gone ∷ [])) (drop (i + 1) rows)
            (certified (drop (length (drops ++ gone ∷ [])) dropped)) ≡ numbered_drops 0 rows (certified dropped)
        rest_goes =
            ap₂ (λ (vs : List DropView) (k : ℕ). vs ++ numbered_drops ((i + 1) - k) (drop (i + 1) rows) (certified (drop k dropped)))
            (map-append drop_view drops (gone ∷ [])) counted
            ∙ ap (λ k. (map drop_view drops ++ drop_view gone ∷ []) ++ numbered_drops k (drop (i + 1) rows) (certified later))
            (let few = u.few in let k : (i + 1) - (length drops + 1) ≡ i - length drops = omega (arith, few) in k)
            ∙ append_assoc (map drop_view drops) (drop_view gone ∷ []) (numbered_drops (i - length drops) (drop (i + 1) rows) (certified later))
            ∙ ap (λ vs. map drop_view drops ++ vs) (sym left) ∙ next_row

    module _ (n : ℕ) (counts : n ≡ length drops) where
      pub numbered_stays : (more : List RowDrop) → more ≡ drops → goes_first row (drop n dropped) ≡ false → AreNumbered rows dropped (i + 1) more
      numbered_stays more are e = subst (λ (ds : List RowDrop). AreNumbered rows dropped (i + 1) ds) (sym are)
          (stays_so (subst (λ (k : ℕ). goes_first row (drop k dropped) ≡ false) counts e))

      pub numbered_goes : (d : Terms × Certificate) (proof : Certificate) (more : List RowDrop) → d ≡ get_or dropped n d
          → certificate_view proof ≡ certificate_view d.1 → more ≡ drops ++ record { row = i - n; proof = proof } ∷ []
          → goes_first row (drop n dropped) ≡ true → AreNumbered rows dropped (i + 1) more
      numbered_goes d proof more at_n same are e = subst (λ (ds : List RowDrop). AreNumbered rows dropped (i + 1) ds) (sym are)
          (goes_so d (record { row = i - n; proof = proof }) (subst (λ (k : ℕ). d ≡ get_or dropped k d) counts at_n)
          (subst (λ (k : ℕ). goes_first row (drop k dropped) ≡ true) counts e)
          (ap₂ (λ (k : ℕ) (w : CertificateView). viewed (i - k) w) counts same))
        where
          viewed : ℕ → CertificateView → DropView
          viewed k w = record { row = k; proof = w }

  pub numbered_done : length rows ≤ i → map drop_view drops ≡ numbered_drops 0 rows (certified dropped)
  numbered_done l = sym (ap (λ vs. map drop_view drops
      ++ vs) (ap (λ (rs : List Terms). numbered_drops (i - length drops) rs (certified (drop (length drops) dropped))) (drop_all i rows l)
      ∙ no_rows_numbered (i - length drops) (certified (drop (length drops) dropped))) ∙ append-nil (map drop_view drops)) ∙ u.rest

-- ---- one step

-- what the reduction after a ray requires
module _ (f : Frame) (hull next : System) (ray : List ℤ) (e : Eliminated) (same : hull.space ≡ f.space) (is : e ≡ eliminated.Region next)
    (adds : AddsRay hull ray f.spare e) where
  next_hull : IsNextHull hull ray f.spare next
  next_hull = subst (λ (x : Eliminated). AddsRay hull ray f.spare x) is adds

  pub under_constants : (q : ProblemView) → IsFrame f → q ≡ constants f.space → IsSystemUnder q next
  under_constants q h g = subst (λ (p : ProblemView). IsSystemUnder p next) (sym g) (record {
    system = next_hull.system;
    givens = constants_are_problem f.space h.space;
    space = next_hull.space ∙ same;
    few_givens = (let k = few_constants f.space h.space in omega (arith, k));
  })

  pub ray_of_next : length ray ≡ size_of f.space → length ray ≡ size_of next.space
  ray_of_next l = l ∙ ap size_of (sym (next_hull.space ∙ same))

module _ (f : Frame) (rows : List Terms) (ray : List ℤ) (next : System) (e : Eliminated) (is : e ≡ eliminated.Region next)
    (ends : RayEnds (2 ^ f.space.variables) f.rows ray f.spare rows (eliminated_view e)) where
  region_ends : RayEnds (2 ^ f.space.variables) f.rows ray f.spare rows (Region next.rows.items)
  region_ends = subst (λ (x : Eliminated). RayEnds (2 ^ f.space.variables) f.rows ray f.spare rows (eliminated_view x)) is ends

  pub few_left : IsFrame f → AreHullRows f rows → length next.rows.items ≤ 65535
  few_left h a = (few_next f h rows next.rows.items ray a.over region_ends).few

  pub step_is_made : (effort : Effort) (q : ProblemView) (made : Made) → q ≡ constants f.space
      → IsReducedStep q effort next.rows.items ray made → IsMadeStep f effort rows ray (Some made)
  step_is_made effort q made g (kept, dropped, red, same) = (
    Region next.rows.items,
    region_ends,
    (kept, dropped, subst (λ (p : ProblemView). Reduces p effort [] next.rows.items kept dropped) g red, ap (λ (m : MadeStep). Some m) same),
  )

-- a step as it is put together
pub reduced_step : (q : ProblemView) (effort : Effort) (left : List Terms) (ray : List ℤ) (reduced : Reduced) (made : Made)
    → Reduces q effort [] left (kept_view reduced) (dropped_view reduced) → made.step.ray ≡ ray
    → map drop_view made.step.drops.items ≡ numbered_drops 0 left (dropped_view reduced)
    → made.rows.items ≡ map (λ k. k.0) reduced.kept.items → IsReducedStep q effort left ray made
reduced_step q effort left ray reduced made red same drops stay = (
  kept_view reduced,
  dropped_view reduced,
  red,
  ap₂ (λ (r : List ℤ) (ds : List DropView). put_together r ds made.rows.items) same drops
      ∙ ap (put_together ray (numbered_drops 0 left (dropped_view reduced))) (stay ∙ sym (rows_kept reduced.kept.items)),
)
  where
    put_together : List ℤ → List DropView → List Terms → MadeStep
    put_together r ds rs = record { step = record { ray = r; drops = ds }; rows = rs }

-- the rows that stay are those of a hull again
made_rows : (f : Frame) (effort : Effort) (rows : List Terms) (ray : List ℤ) (made : Made) → IsFrame f → AreHullRows f rows
    → IsMadeStep f effort rows ray (Some made) → AreHullRows f made.rows.items
made_rows f effort rows ray made h a (Region next, ends, (kept, dropped, red, same)) = subst (λ (rs : List Terms). AreHullRows f rs)
    (sym (ap (λ (m : MadeStep). m.rows) is_made)) (record {
      over = all_kept (constants f.space) effort (IsOver (size_of f.space)) [] next kept dropped red (few_next f h rows next ray a.over ends).over;
      free = all_kept (constants f.space) effort (λ (row : Terms). coefficient row (2 ^ f.space.variables + f.spare) ≡ pos 0) [] next kept
          dropped red (next_free (2 ^ f.space.variables) f.rows ray f.spare rows next ends);
    })
  where
    is_made : made_view made ≡ record { step = record { ray = ray; drops = numbered_drops 0 next dropped }; rows = kept_rows kept }
    is_made = cc
made_rows f effort rows ray made h a (Rows rate, ends, same) = absurd (cc)
made_rows f effort rows ray made h a (Wide rate, ends, same) = absurd (cc)

-- where a ray leaves no rows there is no step
pub none_by_rows : (f : Frame) (effort : Effort) (rows : List Terms) (ray : List ℤ) (e : Eliminated) (rate : ℕ) → e ≡ eliminated.Rows rate
    → RayEnds (2 ^ f.space.variables) f.rows ray f.spare rows (eliminated_view e) → IsMadeStep f effort rows ray None
none_by_rows f effort rows ray e rate is ends = (
  Rows rate,
  subst (λ (x : Eliminated). RayEnds
      (2 ^ f.space.variables) f.rows ray f.spare rows (eliminated_view x)) is ends,
  refl,
)

pub none_by_width : (f : Frame) (effort : Effort) (rows : List Terms) (ray : List ℤ) (e : Eliminated) (rate : ℕ) → e ≡ eliminated.Wide rate
    → RayEnds (2 ^ f.space.variables) f.rows ray f.spare rows (eliminated_view e) → IsMadeStep f effort rows ray None
none_by_width f effort rows ray e rate is ends = (
  Wide rate,
  subst (λ (x : Eliminated). RayEnds
      (2 ^ f.space.variables) f.rows ray f.spare rows (eliminated_view x)) is ends,
  refl,
)

-- ---- the loop over rays

-- the first i rays are put in by these steps, which leave these rows
pub record IsMaking (f : Frame) (effort : Effort) (first : List Terms) (rays : List (List ℤ)) (i : ℕ) (rows : List Terms) (steps : List StepView) : Type 0 where
  pub leads : (rest : Option (List StepView)) → AreMade f effort rows (drop i rays) rest → AreMade f effort first rays (option_map (λ more. steps ++ more) rest)
  pub hull : AreHullRows f rows

pub making_first : (f : Frame) (effort : Effort) (kept : List ℕ) (rays : List (List ℤ)) (rows : List Terms) (steps : List Step)
    → AreKept f kept → rows ≡ first_rows kept → steps ≡ []
    → IsMaking f effort (first_rows kept) rays 0 rows (step_views steps)
making_first f effort kept rays rows steps k are none = subst (λ (rs : List Terms). IsMaking f effort (first_rows kept) rays 0 rs (step_views steps)) (sym are)
    (subst (λ (ss : List Step). IsMaking f effort (first_rows kept) rays 0 (first_rows kept) (step_views ss)) (sym none) (record {
      leads = λ rest a. subst (λ (o : Option (List StepView)). AreMade f effort (first_rows kept) rays o) (sym (nothing_before rest)) a;
      hull = (led_first f kept [] k).hull;
    }))
  where
    nothing_before : (rest : Option (List StepView)) → option_map (λ more. [] ++ more) rest ≡ rest
    nothing_before None = refl
    nothing_before (Some more) = refl

module _ (f : Frame) (effort : Effort) (first : List Terms) (rays : List (List ℤ)) (i : ℕ) (rows : List Terms) (steps : List Step)
    (u : IsMaking f effort first rays i rows (step_views steps)) where
  module _ (ray : List ℤ) (l : i < length rays) (at : ray ≡ get_or rays i ray) where
    by_step : (rest : Option (List StepView)) → AreMade f effort rows (ray ∷ drop (i + 1) rays) rest
        → AreMade f effort first rays (option_map (λ more. step_views steps ++ more) rest)
    by_step rest a = u.leads rest (subst (λ (rs : List (List ℤ)). AreMade f effort rows rs rest) (sym (drop_item rays i ray l at)) a)

    pub making_more : (made : Made) (more : List Step) → IsFrame f → IsMadeStep f effort rows ray (Some made)
        → more ≡ steps ++ made.step ∷ [] → IsMaking f effort first rays (i + 1) made.rows.items (step_views more)
    making_more made more h m are = record {
      leads = λ rest a. subst (λ (o : Option (List StepView)). AreMade f effort first rays o) (both rest)
          (by_step (option_map (λ ys. step_view made.step ∷ ys) rest) (m.0, Some (made_view made), m.1, m.2, (rest, a, refl)));
      hull = made_rows f effort rows ray made h u.hull m;
    }
      where
        longer : (ys : List StepView) → step_views steps ++ step_view made.step ∷ ys ≡ step_views more ++ ys
        longer ys = sym (append_assoc (step_views steps) (step_view made.step ∷ []) ys)
            ∙ ap (λ (zs : List StepView). zs ++ ys) (sym (ap step_views are ∙ map-append step_view steps (made.step ∷ [])))

        both : (rest : Option (List StepView)) → option_map (λ ys. step_views steps ++ ys)
            (option_map (λ ys. step_view made.step ∷ ys) rest) ≡ option_map (λ ys. step_views more ++ ys) rest
        both None = refl
        both (Some ys) = ap (λ zs. Some zs) (longer ys)

    pub making_none : IsMadeStep f effort rows ray None → AreMade f effort first rays None
    making_none m = by_step None (m.0, None, m.1, m.2, refl)

  pub making_done : length rays ≤ i → AreMade f effort first rays (Some (step_views steps))
  making_done l = subst (λ (vs : List StepView). AreMade f effort first rays (Some vs)) (append-nil (step_views steps))
      (u.leads (Some []) (subst (λ (rs : List (List ℤ)). AreMade f effort rows rs (Some [])) (sym (drop_all i rays l)) refl))
