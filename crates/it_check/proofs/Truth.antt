-- The meaning of valid certificates and counterexamples for the problem.
use Rattle.std.proofs.Common.{◌≡◌, ℕ, ◌+◌, ℤ, pos, ◌≤ℤ◌, List, [], ◌∷◌, length, true, All, refl, arith}
use Rattle.std.proofs.lemmas.Int.{ints}
use Rattle.it_problems.specs.declared.problems.Kind.{Kind}
use Rattle.it_problems.specs.declared.problems.Kind.TheVariants.{Inequality, Equation}
use Rattle.it_problems.specs.Problems.{Meets}
use Rattle.it_space.specs.Rows.{IsOver, ValueFits, point_of, value}
use Rattle.it_space.specs.Spaces.{size_of}
use Rattle.it_polymatroid.specs.Elementals.{elementals}
use Rattle.it_polymatroid.proofs.Certified.{certificates_prove}
use Rattle.std.specs.List.{AllByRecursion as Every}
use Rattle.it_space.proofs.EveryLemmas.{every_of, all_of, every-same}
use Rattle.it_polymatroid.proofs.Forms.{value_linear}
use Rattle.it_elemental.proofs.GeneratorLemmas.{rows_of_space}
use Rattle.it_elemental.specs.Generators.{Generator, generators, generator_at, forms_of, is_equation}
use Rattle.it_check.specs.Meaning.{ValidMet, ValidYes, ValidNo, YesIsTrue}
use Rattle.it_check.proofs.YesMeaning.{valid_yes, yes_valid}
use Rattle.it_check.proofs.NoMeaning.{IsRight, valid_met, met_valid, valid_no, no_valid, met_listed, listed_met}

pub valid_yes_is : ValidYes
valid_yes_is q target w k u = (
  λ e. valid_yes (generators q) (size_of q.space) target w e,
  λ h. yes_valid (generators q) (size_of q.space) target w h.0 h.1,
)

each_is_right : (p : ℕ → ℤ) (gs : List Generator) → Every (λ g. ValueFits g.row p) gs → Every (λ g. Meets g.kind (value g.row p)) gs → Every (IsRight p) gs
each_is_right p [] a b = tt
each_is_right p (g ∷ gs) a b = ((a.0, b.0), each_is_right p gs a.1 b.1)

pub valid_met_is : ValidMet
valid_met_is q values k e = (
  λ v.
      let told = valid_met (length (elementals q.space.variables)) (generators q) (point_of values) v in
      let both = listed_met q.space.variables q.constraints (point_of values) refl
      (every-same (IsRight (point_of values)) (λ g. Meets g.kind (value g.row (point_of values))) (generators q) (λ g h. h.1) told) in (
        record { complete = e; polymatroid = both.0; met = both.1 },
        all_of (λ g. ValueFits g.row (point_of values)) (generators q) (every-same (IsRight (point_of values))
            (λ g. ValueFits g.row (point_of values)) (generators q) (λ g h. h.0) told),
      ),
  λ h. met_valid (length (elementals q.space.variables)) (generators q) (point_of values)
      (each_is_right (point_of values) (generators q) (every_of (λ g. ValueFits g.row (point_of values)) (generators q) h.1)
      (met_listed q.space.variables q.constraints (point_of values) refl h.0.polymatroid h.0.met)),
)

pub valid_no_is : ValidNo
valid_no_is q target values k u e = (
  λ v.
      let told = valid_no (length (elementals q.space.variables)) (generators q) target (point_of values) v in
      let both = listed_met q.space.variables q.constraints (point_of values) refl
      (every-same (IsRight (point_of values)) (λ g. Meets g.kind (value g.row (point_of values))) (generators q) (λ g h. h.1) told.0)
      in (
        record { complete = e; polymatroid = both.0; met = both.1; violated = told.1.1 },
        record {
          each = all_of (λ g. ValueFits g.row (point_of values)) (generators q)
              (every-same (IsRight (point_of values)) (λ g. ValueFits g.row (point_of values)) (generators q) (λ g h. h.0) told.0);
          own
              = told.1.0;
        },
      ),
  λ h. no_valid (length (elementals q.space.variables)) (generators q) target (point_of values)
      (each_is_right (point_of values) (generators q) (every_of (λ g. ValueFits g.row (point_of values)) (generators q) h.1.each)
      (met_listed q.space.variables q.constraints (point_of values) refl h.0.polymatroid h.0.met)) h.1.own h.0.violated,
)

-- ---- a certified target is at least 0

pub at_least : (k : Kind) (x : ℤ) → Meets k x → pos 0 ≤ℤ x
at_least Inequality x h = h
at_least Equation x h = omega (arith, ints, h)

pub is_zero : (k : Kind) (x : ℤ) → Meets k x → is_equation k ≡ true → x ≡ pos 0
is_zero Inequality x h e = absurd (cc)
is_zero Equation x h e = h

pub yes_is_true : YesIsTrue
yes_is_true q target w k u c p h m =
    let size = size_of q.space in
    let gs = generators q in
    let none : Generator = record { kind = Inequality; row = [] } in
    let rows : All (λ g. IsOver size g.row) gs = all_of (λ g. IsOver size g.row) gs (rows_of_space q.space.variables size q.constraints (omega arith) k.rows) in
    let met : All (λ g. Meets g.kind (value g.row p)) gs = all_of (λ g. Meets g.kind (value g.row p)) gs
    (met_listed q.space.variables q.constraints p h.empty h m) in
    certificates_prove (size + 1) (forms_of gs) (value target) w (λ i l. value_linear size (generator_at gs i).row (rows i none l))
    (value_linear size target u) c p h.empty
    (λ i l. at_least (generator_at gs i).kind (value (generator_at gs i).row p) (met i none l))
    (λ i l e. is_zero (generator_at gs i).kind (value (generator_at gs i).row p) (met i none l) e)
