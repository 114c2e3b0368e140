-- The verdict on a counterexample, step by step as the code forms it.
use Rattle.std.proofs.Common.{◌≡◌, ℕ, ◌+◌, ◌<◌, ◌≤◌, ℤ, pos, ◌≤ℤ◌, ◌<ℤ◌, List, length, drop, true, false, cond, Option, Some, None, Result, Ok, Err, OkIff, sym, ap, ◌∙◌, arith}
use Rattle.std.specs.Option.{option_or}
use Rattle.std.specs.Result.{result_ok}
use Rattle.std.specs.Int.Signed.{lt_z}
use Rattle.std.proofs.lemmas.Int.{ints}
use Rattle.std.proofs.lemmas.List.{drop_more, at_drop_all}
use Rattle.it_fraction.specs.declared.fraction.Wide.{Wide}
use Rattle.it_problems.specs.declared.problems.Kind.{Kind}
use Rattle.it_space.specs.Rows.{Terms, ValueFits, value}
use Rattle.it_elemental.specs.Generators.{Generator, generator_at}
use Rattle.it_check.specs.Sums.{sum_within}
use Rattle.it_check.specs.Verdicts.{valid_unless, violates, violation, of_value, of_generators, of_target, no_verdict}
use Rattle.it_check.specs.declared.verdicts.Verdict.{Verdict}
use Rattle.it_check.specs.declared.verdicts.Verdict.TheVariants.{Width, NotViolated}
use Rattle.it_check.proofs.SumLemmas.{sum_is}

-- ---- one generator

module _ (count i : ℕ) (g : Generator) (p : ℕ → ℤ) (r : Result ℤ Wide) (o : OkIff r (ValueFits g.row p) (value g.row p)) where
  generator_is : of_value count i g.kind (sum_within (pos 0) g.row p) ≡ of_value count i g.kind (result_ok r)
  generator_is = ap (of_value count i g.kind) (sum_is r g.row p o)

  pub generator_wide : (e : Wide) → r ≡ Err e → Some (Width i) ≡ of_value count i g.kind (sum_within (pos 0) g.row p)
  generator_wide e q = sym (generator_is ∙ ap (λ x. of_value count i g.kind (result_ok x)) q)

  module _ (x : ℤ) (q : r ≡ Ok x) (k : Kind) (same : k ≡ g.kind) where
    tested_generator : of_value count i g.kind (sum_within (pos 0) g.row p) ≡ cond (violates k x) (Some (violation count i x)) None
    tested_generator = generator_is ∙ ap (λ x. of_value count i g.kind (result_ok x)) q
        ∙ ap (λ k. cond (violates k x) (Some (violation count i x)) None) (sym same)

    pub generator_unmet : (v : Verdict) → true ≡ violates k x → v ≡ violation count i x → Some v ≡ of_value count i g.kind (sum_within (pos 0) g.row p)
    generator_unmet v b e = ap Some e ∙ ap (λ b. cond b (Some (violation count i x)) None) b ∙ sym tested_generator

    pub generator_met : false ≡ violates k x → None ≡ of_value count i g.kind (sum_within (pos 0) g.row p)
    generator_met b = ap (λ b. cond b (Some (violation count i x)) None) b ∙ sym tested_generator

-- ---- all generators

generators-step : (count : ℕ) (gs : List Generator) (p : ℕ → ℤ) (i : ℕ) → i < length gs
    → of_generators count i (drop i gs) p ≡ option_or (of_value count i (generator_at gs i).kind
    (sum_within (pos 0) (generator_at gs i).row p)) (of_generators count (i + 1) (drop (i + 1) gs) p)
unfolding of_generators
generators-step count gs p i h = ap (λ xs. of_generators count i xs p) (drop_more gs i _ h)

module _ (count : ℕ) (gs : List Generator) (p : ℕ → ℤ) (i : ℕ) (inv : of_generators count i (drop i gs) p ≡ of_generators count 0 gs p) where
  pub generators_found : (v : Verdict) → i < length gs
      → Some v ≡ of_value count i (generator_at gs i).kind (sum_within (pos 0) (generator_at gs i).row p)
      → Some v ≡ of_generators count 0 gs p
  generators_found v h e = ap (λ o. option_or o (of_generators count (i + 1) (drop (i + 1) gs) p)) e ∙ sym (generators-step count gs p i h) ∙ inv

  pub generators_more : i < length gs → None ≡ of_value count i (generator_at gs i).kind (sum_within (pos 0) (generator_at gs i).row p)
      → of_generators count (i + 1) (drop (i + 1) gs) p ≡ of_generators count 0 gs p
  generators_more h e = ap (λ o. option_or o (of_generators count (i + 1) (drop (i + 1) gs) p)) e ∙ sym (generators-step count gs p i h) ∙ inv

  pub generators_done : length gs ≤ i → None ≡ of_generators count 0 gs p
  unfolding of_generators
  generators_done h = sym (at_drop_all (λ xs. of_generators count i xs p) gs i h) ∙ inv

-- ---- the target

module _ (place : ℕ) (row : Terms) (p : ℕ → ℤ) (r : Result ℤ Wide) (o : OkIff r (ValueFits row p) (value row p)) where
  target_is : of_target place (sum_within (pos 0) row p) ≡ of_target place (result_ok r)
  target_is = ap (of_target place) (sum_is r row p o)

  pub target_wide : (e : Wide) (k : ℕ) → r ≡ Err e → k ≡ place → Some (Width k) ≡ of_target place (sum_within (pos 0) row p)
  target_wide e k q s = ap (λ k. Some (Width k)) s ∙ sym (target_is ∙ ap (λ x. of_target place (result_ok x)) q)

  tested_target : (x : ℤ) → r ≡ Ok x → of_target place (sum_within (pos 0) row p) ≡ cond (lt_z x (pos 0)) None (Some (NotViolated x))
  tested_target x q = target_is ∙ ap (λ x. of_target place (result_ok x)) q

  pub target_violated : (x : ℤ) → r ≡ Ok x → x <ℤ pos 0 → None ≡ of_target place (sum_within (pos 0) row p)
  target_violated x q b = let t : lt_z x (pos 0) ≡ true = grind (arith, ints) in sym (tested_target x q ∙ ap (λ b. cond b None (Some (NotViolated x))) t)

  pub not_violated : (x : ℤ) → r ≡ Ok x → pos 0 ≤ℤ x → Some (NotViolated x) ≡ of_target place (sum_within (pos 0) row p)
  not_violated x q b = let t : lt_z x (pos 0) ≡ false = grind (arith, ints) in sym (tested_target x q ∙ ap (λ b. cond b None (Some (NotViolated x))) t)

-- ---- all of it

module _ (count : ℕ) (gs : List Generator) (target : Terms) (p : ℕ → ℤ) where
  pub by_generators : (v : Verdict) → Some v ≡ of_generators count 0 gs p → v ≡ no_verdict count gs target p
  unfolding no_verdict
  by_generators v e = ap (λ o. valid_unless (option_or o (of_target (length gs) (sum_within (pos 0) target p)))) e

  pub by_target : (o : Option Verdict) → None ≡ of_generators count 0 gs p → o ≡ of_target (length gs) (sum_within (pos 0) target p)
      → valid_unless o ≡ no_verdict count gs target p
  unfolding no_verdict
  by_target o e f = ap valid_unless f ∙ ap (λ o. valid_unless (option_or o (of_target (length gs) (sum_within (pos 0) target p)))) e
