-- The rows that steps leave are the hull of their rays, and steps have one end.
use Rattle.std.proofs.Common.{◌≡◌, ℕ, ◌+◌, ◌^◌, ◌<◌, ◌≤◌, ℤ, List, [], ◌∷◌, ◌++◌, length, drop, get_or, Result, Ok, Err, refl, sym, ap, subst, ◌∙◌, arith, append_assoc, append-nil, All}
use Rattle.std.specs.Prelude.{Contains}
use Rattle.std.specs.List.{remove}
use Rattle.it_space.specs.Rows.{Terms, IsOver}
use Rattle.it_space.specs.Spaces.{size_of}
use Rattle.it_eliminate.specs.Elimination.{Region, Rows, Wide}
use Rattle.it_eliminate.proofs.MemberLemmas.{all_member, member_of}
use Rattle.it_eliminate.proofs.OrderLemmas.{RowLacks}
use Rattle.it_eliminate.specs.declared.types.Eliminated.{Eliminated}
use Rattle.it_eliminate.specs.declared.types.Eliminated.TheVariants as eliminated
use Rattle.it_eliminate.specs.Views.{eliminated_view}
use Rattle.it_problems.specs.declared.problems.System.{System}
use Rattle.it_space.specs.declared.spaces.Space.{Space}
use Rattle.it_problems.specs.Problems.{ProblemView}
use Rattle.it_space.proofs.ListLemmas.{drop_item}
use Rattle.it_hull.specs.Constants.{constants}
use Rattle.it_hull.specs.Hulls.{IsHull, first_rows}
use Rattle.it_hull.specs.Rays.{RayEnds}
use Rattle.it_hull.proofs.RateLemmas.{first_rows_over}
use Rattle.it_hull.proofs.RayLemmas.{next_free, next_of_space, one_more_ray, one_ray_end}
use Rattle.it_hull.proofs.StepLemmas.{first_is_hull}
use Rattle.it_spans.specs.declared.types.Fault.{Fault}
use Rattle.it_spans.specs.declared.types.Frame.{Frame}
use Rattle.it_spans.specs.declared.types.Spanned.{Spanned}
use Rattle.it_spans.specs.declared.types.Step.{Step}
use Rattle.it_spans.specs.Drops.{DropView}
use Rattle.it_spans.specs.HullRows.{AreHullRows}
use Rattle.it_spans.specs.Spans.{GoesOn, SpanEnds, StepEnds, StepView, StepsEnd, rays_of, spanned_view, step_end, step_view, step_views}
use Rattle.it_spans.specs.Theorems.{AreKept, IsFrame, IsRightSpan, OneSpanEnd, SpansAreRight}
use Rattle.it_spans.proofs.DropLemmas.{all-remove, drop_leaves_hull, drops_keep, fewer-remove}

-- ---- the end of steps is right

module _ (f : Frame) (h : IsFrame f) where
  -- rows of the space, few enough for a problem
  pub record AreFew (rows : List Terms) : Type 0 where
    pub over : All (IsOver (size_of f.space)) rows
    pub few : length rows ≤ 65535

  pub few_next : (rows next : List Terms) (ray : List ℤ) → All (IsOver (size_of f.space)) rows
      → RayEnds (2 ^ f.space.variables) f.rows ray f.spare rows (Region next) → AreFew next
  few_next rows next ray o e = let n = next_of_space f.space f.rows f.spare ray rows next h.spare o e
      in record { over = n.0; few = let k = n.1 in omega (arith, k, h.few_rows) }

  few_left : (rows : List Terms) (d : DropView) → AreFew rows → d.row < length rows → AreFew (remove rows d.row)
  few_left rows d a l = record {
    over = all-remove (IsOver (size_of f.space)) rows d.row a.over;
    few = let k = fewer-remove rows d.row l
        in let few = a.few in omega (arith, k, few);
  }

  -- the rows that a step leaves are those of a hull again
  next_rows : (ray : ℕ) (rows next : List Terms) (s : StepView) → AreHullRows f rows → StepEnds f ray rows s (Ok next) → AreHullRows f next
  next_rows ray rows next s a (Region left, e, is) = drops_keep f.space ray (AreHullRows f)
      (λ rs d g l v. record {
        over = all-remove (IsOver (size_of f.space)) rs d.row g.over;
        free = all-remove
            (RowLacks (2 ^ f.space.variables + f.spare)) rs d.row g.free;
      })
      0 left s.drops next (record {
        over = (few_next rows left s.ray a.over e).over;
        free = next_free
            (2 ^ f.space.variables) f.rows s.ray f.spare rows left e;
      }) (sym is)
  next_rows ray rows next s a (Rows rate, e, is) = absurd (cc)
  next_rows ray rows next s a (Wide rate, e, is) = absurd (cc)

  module _ (kept : List ℕ) (k : AreKept f kept) where
    no_sets : (c : ℕ) → Contains kept c → 2 ^ f.space.variables ≤ c
    no_sets c m = (all_member (λ (c : ℕ). (2 ^ f.space.variables ≤ c) × (c ≤ size_of f.space)) kept c k.rates (member_of kept c m)).0

    record IsGoing (rays : List (List ℤ)) (rows : List Terms) : Type 0 where
      hull : IsHull kept rows rays
      rows_few : AreFew rows

    step_going : (ray : ℕ) (rows next : List Terms) (rays : List (List ℤ)) (s : StepView) → IsHull kept rows rays
        → All (IsOver (size_of f.space)) rows → StepEnds f ray rows s (Ok next) → IsGoing (rays ++ s.ray ∷ []) next
    step_going ray rows next rays s hull over (Region left, e, is) = drops_keep f.space ray (IsGoing (rays ++ s.ray ∷ []))
        (λ rs d g l v. record {
          hull = drop_leaves_hull f.space h.space rs d g.rows_few.over g.rows_few.few l kept
              (rays ++ s.ray ∷ []) no_sets v g.hull;
          rows_few = few_left rs d g.rows_few l;
        })
        0 left s.drops next (record {
          hull = one_more_ray (2 ^ f.space.variables) f.rows s.ray f.spare kept rows left rays k.away hull e;
          rows_few = few_next rows left s.ray over e;
        }) (sym is)
    step_going ray rows next rays s hull over (Rows rate, e, is) = absurd (cc)
    step_going ray rows next rays s hull over (Wide rate, e, is) = absurd (cc)

    steps_right : (ray : ℕ) (rows : List Terms) (rays : List (List ℤ)) (steps : List StepView) (end : Result (List Terms) Fault)
        → IsHull kept rows rays → All (IsOver (size_of f.space)) rows
        → StepsEnd f ray rows steps end → IsRightSpan kept (rays ++ rays_of steps) end
    steps_right ray rows rays [] end hull over e = subst (λ o. IsRightSpan kept (rays ++ []) o) (sym e)
        (subst (λ (ps : List (List ℤ)). IsHull kept rows ps) (sym (append-nil rays)) hull)
    steps_right ray rows rays (s ∷ steps) end hull over (Ok next, e, later) =
        let g = step_going ray rows next rays s hull over e in
        subst (λ (ps : List (List ℤ)). IsRightSpan kept ps end) (append_assoc rays (s.ray ∷ []) (rays_of steps))
        (steps_right (ray + 1) next (rays ++ s.ray ∷ []) steps end g.hull g.rows_few.over later)
    steps_right ray rows rays (s ∷ steps) end hull over (Err fault, e, later) = subst (λ o. IsRightSpan kept (rays ++ s.ray ∷ rays_of steps) o) (sym later) tt

pub spans_are_right : SpansAreRight
spans_are_right f kept steps end h k e = steps_right f h kept k 0 (first_rows kept) [] steps end (first_is_hull kept) (first_rows_over f.space kept k.rates) e

-- ---- and there is one end

one_step_end : (f : Frame) (ray : ℕ) (rows : List Terms) (s : StepView) (end other : Result (List Terms) Fault) → StepEnds f ray rows s end
    → StepEnds f ray rows s other → end ≡ other
one_step_end f ray rows s end other (left, e, is) (right, d, at) =
    is ∙ ap (step_end f.space ray s.drops) (one_ray_end (2 ^ f.space.variables) f.rows s.ray f.spare rows left right e d) ∙ sym at

pub one_span_end : OneSpanEnd
one_span_end f ray rows [] end other e d = e ∙ sym d
one_span_end f ray rows (s ∷ steps) end other (first, e, later) (second, d, more) =
    by_first first later (subst (λ (o : Result (List Terms) Fault). GoesOn (λ next end. StepsEnd f (ray + 1) next steps end) o other)
    (sym (one_step_end f ray rows s first second e d)) more)
    (λ next a b. one_span_end f (ray + 1) next steps end other a b)
  where
    by_first : (o : Result (List Terms) Fault) → GoesOn (λ next end. StepsEnd f (ray + 1) next steps end) o end
        → GoesOn (λ next end. StepsEnd f (ray + 1) next steps end) o other
        → ((next : List Terms) → StepsEnd f (ray + 1) next steps end → StepsEnd f (ray + 1) next steps other → end ≡ other) → end ≡ other
    by_first (Ok next) a b same = same next a b
    by_first (Err fault) a b same = a ∙ sym b

-- ---- one step

-- what the call for the drops requires
pub record AreDropped (f : Frame) (q : ProblemView) (rows : List Terms) : Type 0 where
  pub givens : q ≡ constants q.space
  pub over : All (IsOver (size_of q.space)) rows
  pub few : length rows ≤ 65535

pub drops_of_region : (f : Frame) (q : ProblemView) (rows : List Terms) (ray : List ℤ) (e : Eliminated) (next : System) → IsFrame f
    → q ≡ constants f.space → AreHullRows f rows → e ≡ eliminated.Region next
    → RayEnds (2 ^ f.space.variables) f.rows ray f.spare rows (eliminated_view e) → AreDropped f q next.rows.items
drops_of_region f q rows ray e next h g a is r =
    let same : f.space ≡ q.space = sym (ap (λ (p : ProblemView). p.space) g) in
    let n = few_next f h rows next.rows.items ray a.over (subst
    (λ (x : Eliminated). RayEnds (2 ^ f.space.variables) f.rows ray f.spare rows (eliminated_view x)) is r) in record {
      givens = g ∙ ap (λ (x : Space). constants x) same;
      over = subst (λ (x : Space). All (IsOver (size_of x)) next.rows.items) same n.over;
      few = n.few;
    }

-- ---- the loop over the steps

pub record IsLed (f : Frame) (kept : List ℕ) (steps : List Step) (i : ℕ) (rows : List Terms) : Type 0 where
  pub leads : (end : Result (List Terms) Fault) → StepsEnd f i rows (step_views (drop i steps)) end → SpanEnds f kept (step_views steps) end
  pub hull : AreHullRows f rows

pub led_first : (f : Frame) (kept : List ℕ) (steps : List Step) → AreKept f kept → IsLed f kept steps 0 (first_rows kept)
led_first f kept steps k = record {
  leads = λ end e. e;
  hull = record { over = first_rows_over f.space kept k.rates; free = λ i d l. (first_is_hull kept).over i d l (2 ^ f.space.variables + f.spare) k.away };
}

module _ (f : Frame) (h : IsFrame f) (kept : List ℕ) (steps : List Step) (i : ℕ) (rows : List Terms) (led : IsLed f kept steps i rows) where
  module _ (s : Step) (l : i < length steps) (at : s ≡ get_or steps i s) where
    step_first : (first end : Result (List Terms) Fault) → StepEnds f i rows (step_view s) first
        → GoesOn (λ next end. StepsEnd f (i + 1) next (step_views (drop (i + 1) steps)) end) first end
        → SpanEnds f kept (step_views steps) end
    step_first first end e g = led.leads end (subst (λ (ss : List Step). StepsEnd f i rows (step_views ss) end) (sym (drop_item steps i s l at)) (first, e, g))

    pub led_more : (end : Spanned) (next : List Terms) → spanned_view end ≡ Ok next → StepEnds f i rows (step_view s) (spanned_view end)
        → IsLed f kept steps (i + 1) next
    led_more end next is e =
        let own : StepEnds f i rows (step_view s) (Ok next) = subst (λ (o : Result (List Terms) Fault). StepEnds f i rows (step_view s) o) is e in record {
          leads = λ last g. step_first (Ok next) last own g;
          hull = next_rows f h i rows next (step_view s) led.hull own;
        }

    pub led_fault : (end : Spanned) (fault : Fault) → spanned_view end ≡ Err fault → StepEnds f i rows (step_view s) (spanned_view end)
        → SpanEnds f kept (step_views steps) (Err fault)
    led_fault end fault is e = step_first (Err fault) (Err fault) (subst (λ (o : Result (List Terms) Fault). StepEnds f i rows (step_view s) o) is e) refl
