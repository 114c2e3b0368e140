-- The dependences of all constraints.
use Rattle.std.proofs.Common.{◌≡◌, ℕ, suc, ◌+◌, ◌<◌, List, [], ◌∷◌, Option, Some, None, length, refl, ◌∙◌, arith, All}
use Rattle.std.proofs.lemmas.List.Elements.{All-head, All-tail}
use Rattle.it_space.specs.declared.spaces.Space.{Space}
use Rattle.it_problems.specs.declared.problems.Constraint.{Constraint}
use Rattle.it_problems.specs.Problems.{ProblemView, IsProblem}
use Rattle.it_space.specs.Rows.{IsOver}
use Rattle.it_space.specs.Spaces.{size_of}
use Rattle.std.specs.List.{AllByRecursion as Every}
use Rattle.it_space.proofs.EveryLemmas.{all_of, every-append}
use Rattle.it_closure.specs.declared.dependences.Dependence.{Dependence}
use Rattle.it_closure.specs.DependencesViews.{IsDependenceOf, AreOfSpace}
use Rattle.it_closure.specs.Reading.{SaysDependence, read_one, dependence_list, read_from}
use Rattle.it_closure.proofs.ReadLemmas.{reads_exactly}

-- what is read is the dependence of a constraint, with its number
pub record IsRead (s : Space) (cs : List Constraint) (g : ℕ) (d : Dependence) : Type 0 where
  pub place : ℕ
  pub inside : place < length cs
  pub number : d.generator ≡ g + place
  pub is : (c : Constraint) → SaysDependence s (Rattle.std.specs.Prelude.slice_index_or cs place c) d

first_is_read : (s : Space) (size g : ℕ) (c : Constraint) (cs : List Constraint) (o : Option Dependence) → IsOver size c.row
    → read_one s.variables g c ≡ o → Every (IsRead s (c ∷ cs) g) (dependence_list o)
first_is_read s size g c cs None u e = tt
first_is_read s size g c cs (Some d) u e =
    let r = (reads_exactly s size g c d u).0 e in
    (record { place = 0; inside = omega arith; number = r.1 ∙ omega arith; is = λ x. r.0 }, tt)

later_are_read : (s : Space) (c : Constraint) (cs : List Constraint) (g : ℕ) (ds : List Dependence) → Every (IsRead s cs (g + 1)) ds
    → Every (IsRead s (c ∷ cs) g) ds
later_are_read s c cs g [] e = tt
later_are_read s c cs g (d ∷ ds) e = (
  record {
    place = suc e.0.place;
    inside = omega (arith, e.0.inside);
    number = e.0.number
        ∙ omega arith;
    is = λ x. e.0.is x;
  },
  later_are_read s c cs g ds e.1,
)

pub all_read : (s : Space) (size g : ℕ) (cs : List Constraint) → All (λ c. IsOver size c.row) cs → Every (IsRead s cs g) (read_from s.variables g cs)
all_read s size g [] u = tt
all_read s size g (c ∷ cs) u = every-append (IsRead s (c ∷ cs) g) (dependence_list (read_one s.variables g c)) (read_from s.variables (g + 1) cs)
    (first_is_read s size g c cs (read_one s.variables g c) (All-head (λ c. IsOver size c.row) c cs u) refl)
    (later_are_read s c cs g (read_from s.variables (g + 1) cs) (all_read s size (g + 1) cs (All-tail (λ c. IsOver size c.row) c cs u)))

each_is_dependence : (s : Space) (cs : List Constraint) (g : ℕ) (x : Constraint) (ds : List Dependence) → Every (IsRead s cs g) ds → Every (IsDependenceOf s) ds
each_is_dependence s cs g x [] e = tt
each_is_dependence s cs g x (d ∷ ds) e = ((e.0.is x).sets, each_is_dependence s cs g x ds e.1)

pub read_of_space : (q : ProblemView) (g : ℕ) → IsProblem q → AreOfSpace (record { space = q.space; list = read_from q.space.variables g q.constraints })
read_of_space q g p = record {
  space = p.space;
  each = all_of (IsDependenceOf q.space) (read_from q.space.variables g q.constraints) (constraints_read q.constraints p.rows);
}
  where
    constraints_read : (cs : List Constraint) → All (λ c. IsOver (size_of q.space) c.row) cs → Every (IsDependenceOf q.space) (read_from q.space.variables g cs)
    constraints_read [] u = tt
    constraints_read (c ∷ cs) u = each_is_dependence q.space (c ∷ cs) g c (read_from q.space.variables g (c ∷ cs))
        (all_read q.space (size_of q.space) g (c ∷ cs) u)
