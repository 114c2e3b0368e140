-- Results that are `Wide`.
use Rattle.std.proofs.Common.{◌≡◌, ◌↔◌, Ok, Err, Result, ◌∙◌}
use Rattle.std.specs.Result.{OkIff, IsErr}

-- `Wide` is right if the condition that the numbers fit doesn't hold
pub OkIff-err : {T E : Type 0} (r : Result T E) (P : Type 0) (v : T) → IsErr r → ¬ P → OkIff r P v
OkIff-err (Ok x) P v h n = absurd (cc)
OkIff-err (Err e) P v h n = n

-- the same result in other words
pub OkIff-same : {T E : Type 0} (r : Result T E) (P Q : Type 0) (v w : T) → (P ↔ Q) → v ≡ w → OkIff r P v → OkIff r Q w
OkIff-same (Ok x) P Q v w h e k = (h.0 k.0, k.1 ∙ e)
OkIff-same (Err x) P Q v w h e k = λ q. k (h.1 q)
