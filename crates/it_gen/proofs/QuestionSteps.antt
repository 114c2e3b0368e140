-- What the writer of questions still has to write.
use Rattle.std.proofs.Common.{◌≡◌, ℕ, suc, ◌+◌, ◌-◌, ◌<◌, List, ◌++◌, ap, ◌∙◌, append_assoc, append-nil, arith}
use Rattle.it_gen.specs.Draws.{state_after}
use Rattle.it_gen.specs.GeneratedFiles.{question_text, generated_file}

-- the first question of those from number i on
pub one_more : (x n i : ℕ) (out : List ℕ) → i < n → (out ++ question_text x) ++ generated_file (state_after 8 x) (n - (i + 1)) ≡ out ++ generated_file x (n - i)
one_more x n i out h =
    let left : suc (n - (i + 1)) ≡ n - i = omega (arith, h) in
    append_assoc out (question_text x) (generated_file (state_after 8 x) (n - (i + 1))) ∙ ap (λ (count : ℕ). out ++ generated_file x count) left

pub no_more : (x n i : ℕ) (out : List ℕ) → n - i ≡ 0 → out ++ generated_file x (n - i) ≡ out
no_more x n i out e = ap (λ (count : ℕ). out ++ generated_file x count) e ∙ append-nil out
