-- The dependences that are read from a problem are equations of it, in order.
use Rattle.std.proofs.Common.{◌≡◌, ℕ, zero, suc, ◌+◌, ◌-◌, ◌<◌, ◌≤◌, ℤ, pos, negsuc, ◌+ℤ◌, ◌-ℤ◌, ◌*ℤ◌, List, [], ◌∷◌, ◌++◌, Option, Some, None, length, get_or, Bool, true, false, refl, sym, ap, subst, ◌∙◌, arith, All}
use Rattle.std.proofs.lemmas.Int.{ints}
use Rattle.it_problems.specs.declared.problems.Constraint.{Constraint}
use Rattle.it_problems.specs.Problems.{ProblemView}
use Rattle.it_space.specs.Rows.{value, IsOver}
use Rattle.it_space.specs.Spaces.{size_of}
use Rattle.it_polymatroid.specs.Elementals.{elementals}
use Rattle.std.specs.List.{AllByRecursion as Every}
use Rattle.it_space.proofs.EveryLemmas.{all_of, every-same}
use Rattle.it_elemental.specs.Rows.{set_term}
use Rattle.it_closure.specs.declared.dependences.Dependence.{Dependence}
use Rattle.it_closure.specs.Reading.{dependence_row, dependence_list, read_one, read_from, dependences_of}
use Rattle.it_closure.proofs.ReadLemmas.{reads_exactly}
use Rattle.it_closure.proofs.ReadLists.{IsRead, all_read, read_of_space}
use Rattle.it_lift.specs.Fits.{GeneratorsAscend}
use Rattle.it_elemental.specs.Generators.{Generator, generators, generator_at, generators_of, is_equation}
use Rattle.it_lift.specs.Lifts.{signed_value}
use Rattle.it_lift.specs.OfProblems.{ReadingGivesDependences}
use Rattle.it_lift.proofs.GeneratorLemmas.{total_is, constraint_is}
use Rattle.std.proofs.lemmas.List.{get_or_default}
use Rattle.std.proofs.Math.IntN.{+ℤ_idr}

-- the numbers ascend
ascend_from_lower : (from to : ℕ) (ds : List Dependence) → from ≤ to → GeneratorsAscend to ds → GeneratorsAscend from ds
ascend_from_lower from to [] h a = tt
ascend_from_lower from to (d ∷ ds) h a = (omega (arith, a.0), a.1)

ascend_read : (s : Rattle.it_space.specs.declared.spaces.Space.Space) (size g : ℕ) (cs : List Constraint) → All (λ c. IsOver size c.row) cs
    → GeneratorsAscend g (read_from s.variables g cs)
ascend_read s size g [] u = tt
ascend_read s size g (c ∷ cs) u = by_option (read_one s.variables g c) refl
    (ascend_read s size (g + 1) cs (Rattle.std.proofs.lemmas.List.Elements.All-tail (λ c. IsOver size c.row) c cs u))
  where
    by_option : (o : Option Dependence) → read_one s.variables g c ≡ o → GeneratorsAscend (g + 1) (read_from s.variables (g + 1) cs)
        → GeneratorsAscend g (dependence_list o ++ read_from s.variables (g + 1) cs)
    by_option None e a = ascend_from_lower g (g + 1) (read_from s.variables (g + 1) cs) (omega arith) a
    by_option (Some d) e a =
        let r = (reads_exactly s size g c d (Rattle.std.proofs.lemmas.List.Elements.All-head (λ c. IsOver size c.row) c cs u)).0 e in
        let k : d.generator ≡ g = r.1 in
        (omega arith, ascend_from_lower (d.generator + 1) (g + 1) (read_from s.variables (g + 1) cs) (omega arith) a)

-- the value of the row
value-two : (f t : ℕ) (a b : ℤ) (h : ℕ → ℤ) → h 0 ≡ pos 0 → value (set_term f a ++ set_term t b) h ≡ a *ℤ h f +ℤ b *ℤ h t
value-two zero zero a b h z = rw z (omega (arith, ints))
value-two zero (suc t) a b h z = rw z (omega (arith, ints))
value-two (suc f) zero a b h z = rw z (omega (arith, ints))
value-two (suc f) (suc t) a b h z = ap (λ y. a *ℤ h (suc f) +ℤ y) (+ℤ_idr (b *ℤ h (suc t)))

value-row : (b : Bool) (f t : ℕ) (h : ℕ → ℤ) → h 0 ≡ pos 0 → value (dependence_row b f t) h ≡ signed_value b (h t -ℤ h f)
value-row true f t h z = value-two f t (pos 1) (negsuc 0) h z ∙ omega (arith, ints)
value-row false f t h z = value-two f t (negsuc 0) (pos 1) h z ∙ omega (arith, ints)

record IsEquation (q : ProblemView) (d : Dependence) : Type 0 where
  placed : d.generator < (generators_of q).count
  kind : (generators_of q).is_equation d.generator ≡ true
  equation : (h : ℕ → ℤ) → h 0 ≡ pos 0 → (generators_of q).form d.generator h ≡ signed_value d.negated (h d.to -ℤ h d.from)

some_of : (cs : List Constraint) (i : ℕ) → i < length cs → Constraint
some_of [] i h = absurd (omega arith)
some_of (c ∷ cs) i h = c

equation_of : (q : ProblemView) (d : Dependence) → IsRead q.space q.constraints (length (elementals q.space.variables)) d → IsEquation q d
equation_of q d r =
    let x : Constraint = some_of q.constraints r.place r.inside in
    let c : Constraint = get_or q.constraints r.place x in
    let place : d.generator - length (elementals q.space.variables) ≡ r.place = omega (arith, r.number) in
    let is : generator_at (generators q) d.generator ≡ record { kind = c.kind; row = c.row } =
    constraint_is q d.generator (length (elementals q.space.variables)) c refl (omega (arith, r.number)) (omega (arith, place, r.inside))
    (get_or_default q.constraints r.place x c r.inside ∙ ap (λ k. get_or q.constraints k c) (sym place)) in
    record {
      placed = omega (arith, r.number, r.inside, total_is q);
      kind = ap (λ (g : Generator). is_equation g.kind) is ∙ ap is_equation (r.is x).equation;
      equation = λ h z. ap (λ (g : Generator). value g.row h) is ∙ ap (λ ts. value ts h) (r.is x).row ∙ value-row d.negated d.from d.to h z;
    }

pub reading_gives_dependences : ReadingGivesDependences
reading_gives_dependences q d p s e =
    let g : ℕ = length (elementals q.space.variables) in
    let n : q.space.variables ≡ d.space.variables = ap (λ t. t.variables) (sym s) in
    let equations : Every (IsEquation q) (dependences_of q) = every-same (IsRead q.space q.constraints g) (IsEquation q) (dependences_of q)
    (λ x r. equation_of q x r) (all_read q.space (size_of q.space) g q.constraints p.rows) in
    let all : All (IsEquation q) d.list = subst (All (IsEquation q)) (sym e) (all_of (IsEquation q) (dependences_of q) equations) in
    record {
      shape = rw (s, e) (read_of_space q g p);
      space = s;
      numbered = subst (GeneratorsAscend (length (elementals d.space.variables))) (sym e)
          (subst (λ (k : ℕ). GeneratorsAscend k (dependences_of q)) (ap (λ m. length (elementals m)) n)
          (ascend_read q.space (size_of q.space) g q.constraints p.rows));
      placed = λ i x l. (all i x l).placed;
      kinds = λ i x l. (all i x l).kind;
      equations = λ i x l. (all i x l).equation;
    }
