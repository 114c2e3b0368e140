-- Open searches one after the other.
use Rattle.std.proofs.Common.{◌≡◌, ℕ, ◌+◌, ◌-◌, ◌<◌, ◌≤◌, List, ◌++◌, length, take, ap, sym, ◌∙◌, ◌⊎◌, inl, inr, arith, length-append}
use Rattle.std.proofs.lemmas.Bool.{cases_lt}
use Rattle.std.proofs.Math.Seq.{take-append-add}
use Rattle.std.proofs.lemmas.List.{take-append-le}
use Rattle.std.proofs.lemmas.List.Elements.{All-append, All-same}
use Rattle.it_region.specs.declared.types.Candidate.{Candidate}
use Rattle.it_contain.specs.Search.{Goal, IsUnproved, IsOpen}
use Rattle.it_contain.proofs.SearchLemmas.{open_whole}

open_at : (goal : Goal) (tries : ℕ) (xs ys : List Candidate) (t u : ℕ) → IsOpen goal tries xs t → IsOpen goal (tries - t) ys u
    → (t < tries) ⊎ (tries ≤ t) → IsOpen goal tries (xs ++ ys) (t + u)
open_at goal tries xs ys t u o p (inl lt) =
    let w = open_whole goal tries xs t o lt in
    let at : length xs + (tries - t) ≡ tries = omega (arith, w.1) in
    let all : take tries (xs ++ ys) ≡ xs ++ take (tries - t) ys = ap (λ k. take k (xs ++ ys)) (sym at) ∙ take-append-add xs ys (tries - t) in
    let is = p.tried_is in
    record {
      unproved = All-same (IsUnproved goal) _ _ all (All-append (IsUnproved goal) xs (take (tries - t) ys) w.0 p.unproved);
      tried_is = omega (arith, w.1, is, length-append xs ys);
    }
open_at goal tries xs ys t u o p (inr ge) =
    let is = o.tried_is in
    let also = p.tried_is in
    let long : tries ≤ length xs = omega (arith, is) in
    record {
      unproved = All-same (IsUnproved goal) _ _ (take-append-le tries xs ys long) o.unproved;
      tried_is = omega (arith, is, also, length-append xs ys);
    }

pub open_more : (goal : Goal) (tries : ℕ) (xs ys : List Candidate) (t u : ℕ) → IsOpen goal tries xs t → IsOpen goal (tries - t) ys u
    → IsOpen goal tries (xs ++ ys) (t + u)
open_more goal tries xs ys t u o p = open_at goal tries xs ys t u o p (cases_lt t tries)
