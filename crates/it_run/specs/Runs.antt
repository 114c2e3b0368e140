-- The ends of a run of steps.
use Rattle.std.specs.Prelude.{◌≡◌, ◌≢◌, ◌⊎◌, ℕ, zero, suc, min, Option, Some, None}

-- the end of a run: weights, a point, its budget, by the number of steps made, or a step whose numbers don't fit, by its number
pub data RunEndView (W P : Type 0) : Type 0 where
  Weights : W → RunEndView W P
  Point : P → RunEndView W P
  Pivots : ℕ → RunEndView W P
  Width : ℕ → RunEndView W P

-- the state after k steps from s
abbrev pub state_after_steps : {S : Type 0} → (S → S) → S → ℕ → S
state_after_steps next s zero = s
state_after_steps next s (suc k) = next (state_after_steps next s k)

-- the number of a step in 32 bits: each greater number becomes the greatest one of 32 bits
abbrev pub clip_number : ℕ → ℕ
clip_number k = min k 4294967295

module _ {S W P : Type 0} (IsDone IsStuck Fits : S → Type 0) (next : S → S) (weights : S → W) (point : S → P) where
  -- From the state s after k steps, with as many steps left as the first argument says, the run ends with e. At each state the first of
  -- these that holds is the end: it is done; it is stuck; no step is left; the next step doesn't fit.
  abbrev pub EndsAs : ℕ → ℕ → S → RunEndView W P → Type 0
  EndsAs zero k s e = (IsDone s × (e ≡ Weights (weights s))) ⊎ ((¬ (IsDone s) × IsStuck s × (e ≡ Point (point s))) ⊎ (¬ (IsDone s) × ¬ (IsStuck s) × (e ≡ Pivots k)))
  EndsAs (suc left) k s e = (IsDone s × (e ≡ Weights (weights s))) ⊎ ((¬ (IsDone s) × IsStuck s × (e ≡ Point (point s))) ⊎
      (¬ (IsDone s) × ¬ (IsStuck s) × ((¬ (Fits s) × (e ≡ Width (clip_number (suc k)))) ⊎ (Fits s × EndsAs left (suc k) (next s) e))))

  -- The run from s ends with e, with a budget of steps or without one; without one it ends as with any budget that it doesn't use up.
  -- With a budget of 32 bits no number is clipped, since the run makes no step of a greater number.
  abbrev pub EndsBy : Option ℕ → S → RunEndView W P → Type 0
  EndsBy (Some budget) s e = EndsAs budget zero s e
  EndsBy None s e = (budget : ℕ) × EndsAs budget zero s e × ((k : ℕ) → e ≢ Pivots k)
