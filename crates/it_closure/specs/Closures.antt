-- Sets that are closed under functional dependences, and the closure of a set (W. W. Armstrong, "Dependency structures of data base relationships", 1974).
use Rattle.std.specs.Prelude.{◌≡◌, ℕ, zero, suc, ℤ, ◌-◌, ◌^◌, ◌<◌, List, [], ◌∷◌, Option, Some, None, Bool, true, ◌&&◌, not, nat_eq, bit_and, bit_or, filter, All, if◌then◌else◌}
use Rattle.it_space.specs.Sets.{IsInside}
use Rattle.it_polymatroid.specs.Elementals.{span}
use Rattle.it_closure.specs.declared.dependences.Dependence.{Dependence}

-- a set contains what it determines
abbrev pub IsClosed : List Dependence → ℕ → Type 0
IsClosed ds a = All (λ d. IsInside d.from a → IsInside d.to a) ds

-- whether each member of s is one of t
abbrev pub is_inside : ℕ → ℕ → Bool
is_inside s t = nat_eq (bit_and s t) s

-- whether a violates d: it contains d.from, but not d.to
abbrev pub is_open : Dependence → ℕ → Bool
is_open d a = is_inside d.from a && not (is_inside d.to a)

-- whether a set contains what it determines
abbrev pub is_closed : List Dependence → ℕ → Bool
is_closed [] a = true
is_closed (d ∷ ds) a = not (is_open d a) && is_closed ds a

-- the intersection of a set and all sets of a list
abbrev pub meet_all : ℕ → List ℕ → ℕ
meet_all whole [] = whole
meet_all whole (a ∷ bs) = bit_and a (meet_all whole bs)

-- the closure of s: the intersection of all closed sets of the n variables that contain s
unfoldable pub closure : ℕ → List Dependence → ℕ → ℕ
closure n ds s = meet_all (2 ^ n - 1) (filter (λ a. is_inside s a && is_closed ds a) (span 0 (2 ^ n)))

-- c is the least closed set of the n variables that contains s
pub record IsClosureOf (n : ℕ) (ds : List Dependence) (s c : ℕ) : Type 0 where
  pub below : c < 2 ^ n
  pub holds : IsInside s c
  pub closed : IsClosed ds c
  pub least : (a : ℕ) → a < 2 ^ n → IsInside s a → IsClosed ds a → IsInside c a

-- The closure is the least closed set that contains s.
abbrev pub ClosureIsLeast : Type 0
ClosureIsLeast = (n : ℕ) (ds : List Dependence) (s : ℕ) → All (λ d. d.to < 2 ^ n) ds → s < 2 ^ n → IsClosureOf n ds s (closure n ds s)

-- a map on sets has the same value at both sets of each dependence
abbrev pub MeetsDependences : List Dependence → (ℕ → ℤ) → Type 0
MeetsDependences ds h = All (λ d. h d.to ≡ h d.from) ds

-- the first dependence that a set violates
abbrev pub first_open : List Dependence → ℕ → Option Dependence
first_open [] a = None
first_open (d ∷ ds) a = if is_open d a then Some d else first_open ds a

-- a set with the first dependence that it violates, and the rest of the way from its union with the set which that determines
abbrev pub way_on : ℕ → Option Dependence → (ℕ → List (ℕ × Dependence)) → List (ℕ × Dependence)
way_on a None rest = []
way_on a (Some d) rest = (a, d) ∷ rest (bit_or a d.to)

-- the way from a to its closure, as far as the number of steps allows
abbrev pub way_for : ℕ → List Dependence → ℕ → List (ℕ × Dependence)
way_for zero ds a = []
way_for (suc turns) ds a = way_on a (first_open ds a) (λ b. way_for turns ds b)

-- the way from a to its closure: the sets on it that aren't closed, each with the first dependence that it violates. Each step adds a
-- member, so there are fewer steps than sets.
unfoldable pub way : ℕ → List Dependence → ℕ → List (ℕ × Dependence)
way n ds a = way_for (2 ^ n) ds a
