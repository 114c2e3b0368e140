-- The input and the results of a search for outer bounds in rates.
use Rattle.std.specs.Prelude.{ℕ, ℤ, List, map, slice_index_or}
use Rattle.it_space.specs.declared.answers.Cause.{Cause}
use Rattle.it_space.specs.Answers.{CertificateView, certificate_view}
use Rattle.it_problems.specs.Problems.{ProblemView}
use Rattle.it_space.specs.Rows.{Terms}
use Rattle.it_prove.specs.Reach.{effort_under}
use Rattle.it_hull.specs.KeptRates.{kept_coordinates}
use Rattle.it_outer.specs.declared.types.Limits.{Limits}
use Rattle.it_outer.specs.declared.types.Outer.{Outer}
use Rattle.it_outer.specs.declared.types.Outer.TheVariants as ends
use Rattle.it_outer.specs.declared.types.OuterCause.{OuterCause}
use Rattle.it_outer.specs.declared.types.OuterCause.TheVariants as causes

-- a search: the problem, the rate at which multipliers of rays are, the coordinates that are kept, and the limits
pub record Search : Type 0 where
  pub problem : ProblemView
  pub spare : ℕ
  pub kept : List ℕ
  pub limits : Limits

-- the search for the bounds of a problem without some rates, the first of which has the multipliers
abbrev pub search_without : ProblemView → List ℕ → Limits → Search
search_without q gone limits = record { problem = q; spare = slice_index_or gone 0 0; kept = kept_coordinates q.space gone; limits = limits }

-- these limits for the search under a problem: quick runs alone decide its rows where the defined run is out of reach
abbrev pub limits_under : ProblemView → Limits → Limits
limits_under q limits = record { rows = limits.rows; rays = limits.rays; effort = effort_under q limits.effort }

-- why bounds stay undecided: the run about a row of the hull has no end within its bounds; a further ray leaves too many rows; a
-- number passes the limit; a row is refuted, and no more rays are allowed
pub data CauseView : Type 0 where
  Run : (row : Terms) (cause : Cause) → CauseView
  Rows : CauseView
  Width : CauseView
  Rays : CauseView

-- rows with a certificate of each, and rays; or neither, and why
pub data OuterView : Type 0 where
  Bounds : (rows : List Terms) (proofs : List CertificateView) (rays : List (List ℤ)) → OuterView
  Undecided : (cause : CauseView) → OuterView

-- a cause as contracts see it
abbrev pub cause_view : OuterCause → CauseView
cause_view (causes.Run row cause) = Run row cause
cause_view causes.Rows = Rows
cause_view causes.Width = Width
cause_view causes.Rays = Rays

-- an end as contracts see it
abbrev pub outer_view : Outer → OuterView
outer_view (ends.Bounds b) = Bounds b.hull.rows.items (map certificate_view b.proofs.items) b.rays.items
outer_view (ends.Undecided cause) = Undecided (cause_view cause)
