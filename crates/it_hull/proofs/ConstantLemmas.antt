-- The problem in which all variables are constant.
use Rattle.std.proofs.Common.{pow_mono, add-one, ◌≡◌, ℕ, zero, suc, ◌+◌, ◌-◌, ◌*◌, ◌^◌, ◌<◌, ◌≤◌, ℤ, pos, List, [], ◌∷◌, ◌++◌, length, refl, sym, ap, ◌∙◌, append_assoc, append-nil, arith, All}
use Rattle.std.specs.List.{AllByRecursion as Every}
use Rattle.std.proofs.lemmas.Nat.{pow_pos}
use Rattle.std.proofs.Math.Nat.{pow-suc}
use Rattle.it_problems.specs.declared.problems.Constraint.{Constraint}
use Rattle.it_space.specs.declared.spaces.Space.{Space}
use Rattle.it_problems.specs.Problems.{IsProblem}
use Rattle.it_space.specs.Rows.{IsOver}
use Rattle.it_space.specs.Spaces.{IsSpace, most_variables, size_of}
use Rattle.it_space.proofs.EveryLemmas.{all_of}
use Rattle.it_hull.specs.Constants.{constant_line, constant_lines, constants}

each_line : (P : Constraint → Type 0) (i count : ℕ) → ((k : ℕ) → k < i + count → P (constant_line k)) → Every P (constant_lines i count)
each_line P i zero f = tt
each_line P i (suc count) f = (f i (omega arith), each_line P (i + 1) count (λ k l. f k (omega (arith, l))))

line_count : (i count : ℕ) → length (constant_lines i count) ≡ count
line_count i zero = refl
line_count i (suc count) = let k = line_count (i + 1) count in omega (arith, k)

line_over : (n size k : ℕ) → 2 ^ n ≤ size + 1 → k < n → IsOver size (constant_line k).row
line_over n size k few l = all_of (λ (t : ℕ × ℤ). (1 ≤ t.0) × (t.0 ≤ size)) ((2 ^ k, pos 1) ∷ []) (
  (
    pow_pos k,
    (let m : 2 ^ (k + 1) ≤ 2 ^ n = pow_mono (let b : k + 1 ≤ n = omega (arith, l) in b) in let d : 2 ^ (k + 1)
        ≡ 2 ^ k * 2 = ap (λ m. 2 ^ m) (add-one k) ∙ pow-suc 2 k in omega (arith, m, d, few, pow_pos k)),
  ),
  tt,
)

pub constants_speak_of_sets : (s : Space) → All (λ c. IsOver (2 ^ s.variables - 1) c.row) (constants s).constraints
constants_speak_of_sets s = all_of (λ (c : Constraint). IsOver (2 ^ s.variables - 1) c.row) (constant_lines 0 s.variables)
    (each_line (λ c. IsOver (2 ^ s.variables - 1) c.row) 0 s.variables (λ k l. line_over s.variables (2 ^ s.variables - 1) k
    (omega (arith, pow_pos s.variables)) (omega (arith, l))))

pub few_constants : (s : Space) → IsSpace s → length (constants s).constraints ≤ most_variables
few_constants s h = omega (arith, line_count 0 s.variables, h.few)

pub constants_are_problem : (s : Space) → IsSpace s → IsProblem (constants s)
constants_are_problem s h = record {
  space = h;
  rows = all_of (λ (c : Constraint). IsOver (size_of s) c.row) (constant_lines 0 s.variables)
      (each_line (λ c. IsOver (size_of s) c.row) 0 s.variables (λ k l. line_over s.variables (size_of s) k
      (omega (arith, pow_pos s.variables)) (omega (arith, l))));
  few = let k = few_constants s h in omega (arith, k);
}

-- ---- the loop over the variables

pub line_more : (i n : ℕ) (xs ys all : List Constraint) (x : Constraint) → i < n → ys ≡ xs ++ x ∷ [] → x ≡ constant_line i
    → xs ++ constant_lines i (n - i) ≡ all → ys ++ constant_lines (i + 1) (n - (i + 1)) ≡ all
line_more i n xs ys all x l pushed is e =
    let left : n - i ≡ suc (n - (i + 1)) = omega arith in
    ap (λ (zs : List Constraint). zs ++ constant_lines (i + 1) (n - (i + 1))) pushed ∙ append_assoc xs (x ∷ []) (constant_lines (i + 1) (n - (i + 1)))
    ∙ ap (λ (z : Constraint). xs ++ z ∷ constant_lines (i + 1) (n - (i + 1))) is ∙ ap (λ k. xs ++ constant_lines i k) (sym left) ∙ e

pub lines_done : (i n : ℕ) (xs all : List Constraint) → n ≤ i → xs ++ constant_lines i (n - i) ≡ all → xs ≡ all
lines_done i n xs all l e = let none : n - i ≡ 0 = omega arith in sym (append-nil xs) ∙ ap (λ k. xs ++ constant_lines i k) (sym none) ∙ e
