-- Coordinates, rows and maps over closed sets.
use Rattle.std.specs.Prelude.{◌≡◌, ℕ, ◌^◌, ◌<◌, ℤ, pos, ◌+ℤ◌, List, [], ◌∷◌, map, nat_eq, nat_lt, if◌then◌else◌, All}
use Rattle.it_number.specs.Limit.{IsWithin}
use Rattle.it_space.specs.Rows.{Terms, coefficient, value}
use Rattle.it_space.specs.Sums.{plus_at}
use Rattle.it_space.specs.Sets.{IsInside}
use Rattle.it_polymatroid.specs.Elementals.{MeetsElementals}
use Rattle.it_polymatroid.specs.Polymatroid.{IsPolymatroid}
use Rattle.it_closure.specs.declared.dependences.Dependence.{Dependence}
use Rattle.it_closure.specs.Closures.{closure, MeetsDependences}

-- the place over closed sets of a coordinate: for a set its closure, or 0 if that is the closure of the empty set; for a rate its own
unfoldable pub place : ℕ → List Dependence → ℕ → ℕ
place n ds c = if nat_lt c (2 ^ n) then (if nat_eq (closure n ds c) (closure n ds 0) then 0 else closure n ds c) else c

-- terms with each coordinate replaced by its place
abbrev pub placed_terms : ℕ → List Dependence → Terms → Terms
placed_terms n ds terms = map (λ t. (place n ds t.0, t.1)) terms

-- f has at each place other than 0 the sum of the coefficients there
abbrev pub AreSumsByPlace : ℕ → List Dependence → Terms → (ℕ → ℤ) → Type 0
AreSumsByPlace n ds terms f = (c : ℕ) → 0 < c → f c ≡ coefficient (placed_terms n ds terms) c

-- the map that has at each coordinate the value of p at its place
abbrev pub spread_out : ℕ → List Dependence → (ℕ → ℤ) → ℕ → ℤ
spread_out n ds p c = p (place n ds c)

-- new is old over closed sets: its value at each map is that of old at the map spread out
abbrev pub IsCollapseOf : ℕ → List Dependence → Terms → Terms → Type 0
IsCollapseOf n ds old new = (p : ℕ → ℤ) → p 0 ≡ pos 0 → value new p ≡ value old (spread_out n ds p)

-- each partial sum at a place other than 0 is within the limit, one term added after the other
abbrev pub PlaceSumsFit : (ℕ → ℤ) → Terms → Type 0
PlaceSumsFit f [] = Unit {0}
PlaceSumsFit f (t ∷ ts) = (0 < t.0 → IsWithin (f t.0 +ℤ t.1)) × PlaceSumsFit (plus_at f t) ts

-- each partial sum of coefficients at one place, in order of the terms, is within the limit
abbrev pub CollapseFits : ℕ → List Dependence → Terms → Type 0
CollapseFits n ds terms = PlaceSumsFit (λ c. pos 0) (placed_terms n ds terms)

-- ds are dependences of sets of the n variables
pub record AreDependences (n : ℕ) (ds : List Dependence) : Type 0 where
  pub inside : All (λ d. IsInside d.from d.to) ds
  pub below : All (λ d. d.to < 2 ^ n) ds

-- A polymatroid that meets the dependences has the same value at a set and at its closure.
abbrev pub ClosuresKeep : Type 0
ClosuresKeep = (n : ℕ) (ds : List Dependence) (h : ℕ → ℤ) → AreDependences n ds → IsPolymatroid n h → MeetsDependences ds h → (s : ℕ) → s < 2 ^ n → h (closure n ds s) ≡ h s

-- So it is spread out from the closed sets, and a row over closed sets has the row's value there.
abbrev pub CollapseKeeps : Type 0
CollapseKeeps = (n : ℕ) (ds : List Dependence) (h : ℕ → ℤ) → AreDependences n ds → IsPolymatroid n h → MeetsDependences ds h
    → (old new : Terms) → IsCollapseOf n ds old new → value new h ≡ value old h

-- A map on closed sets at which the elemental inequalities hold over closed sets is a polymatroid spread out, and meets the dependences.
abbrev pub SpreadOutHolds : Type 0
SpreadOutHolds = (n : ℕ) (ds : List Dependence) (p : ℕ → ℤ) → AreDependences n ds → p 0 ≡ pos 0 → MeetsElementals n (spread_out n ds p)
    → IsPolymatroid n (spread_out n ds p) × MeetsDependences ds (spread_out n ds p)
