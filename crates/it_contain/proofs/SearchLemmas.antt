-- A list that is searched from its front.
use Rattle.std.proofs.Common.{◌≡◌, ℕ, ◌+◌, ◌-◌, ◌<◌, ◌≤◌, List, [], ◌∷◌, ◌++◌, length, take, ap, ap₂, sym, subst, ◌∙◌, arith, append_assoc, append-nil, length-append}
use Rattle.std.proofs.Math.Seq.{take-append_seam}
use Rattle.std.specs.List.{All}
use Rattle.std.proofs.lemmas.List.{take_all}
use Rattle.std.proofs.lemmas.List.Elements.{All-append, All-push, All-same}
use Rattle.it_region.specs.declared.types.Candidate.{Candidate}
use Rattle.it_contain.specs.Search.{Goal, Proofs, proof_views, IsProof, IsProved, IsUnproved, IsFirstProved, IsOpen}
use Rattle.it_contain.specs.SearchSteps.{IsPast}

pub passed_more : (goal : Goal) (whole rest rest_after : List Candidate) (c : Candidate) (t : ℕ)
    → IsPast goal whole rest t → rest ≡ c ∷ rest_after → IsUnproved goal c → IsPast goal whole rest_after (t + 1)
passed_more goal whole rest rest_after c t p is not = record {
  passed = p.passed ++ c ∷ [];
  parts = p.parts ∙ ap (λ zs. p.passed ++ zs) is ∙ sym (append_assoc p.passed (c ∷ []) rest_after);
  unproved = All-push (IsUnproved goal) p.passed c p.unproved not;
  count = length-append p.passed (c ∷ []) ∙ ap (λ n. n + 1) p.count;
}

pub passed_found : (goal : Goal) (tries : ℕ) (whole rest rest_after : List Candidate) (c : Candidate) (t : ℕ) (w : Proofs)
    → IsPast goal whole rest t → rest ≡ c ∷ rest_after → IsProof goal c w → t < tries → IsFirstProved goal tries whole c
unfolding IsProved IsProof
passed_found goal tries whole rest rest_after c t w p is proof lt = record {
  before = p.passed;
  after = rest_after;
  parts = p.parts ∙ ap (λ zs. p.passed ++ zs) is;
  within = omega (arith, p.count);
  unproved = p.unproved;
  proved = (proof_views w, proof);
}

-- what was found in a prefix is found in the whole
pub first_prefix : (goal : Goal) (tries : ℕ) (xs ys : List Candidate) (c : Candidate) → IsFirstProved goal tries xs c → IsFirstProved goal tries (xs ++ ys) c
first_prefix goal tries xs ys c f = record {
  before = f.before;
  after = f.after ++ ys;
  parts = ap (λ zs. zs ++ ys) f.parts ∙ append_assoc f.before (c ∷ f.after) ys;
  within = f.within;
  unproved = f.unproved;
  proved = f.proved;
}

-- an open prefix is all of it, where tries are left
pub open_whole : (goal : Goal) (tries : ℕ) (xs : List Candidate) (t : ℕ) → IsOpen goal tries xs t → t < tries → (All (IsUnproved goal) xs) × (length xs ≡ t)
open_whole goal tries xs t o lt =
    let is = o.tried_is in
    let n : length xs ≡ t = omega (arith, is) in
    let long : length xs ≤ tries = omega (arith, is) in
    (All-same (IsUnproved goal) _ _ (sym (take_all tries xs long)) o.unproved, n)

pub first_later : (goal : Goal) (tries : ℕ) (xs ys : List Candidate) (t : ℕ) (c : Candidate) → IsOpen goal tries xs t
    → IsFirstProved goal (tries - t) ys c → IsFirstProved goal tries (xs ++ ys) c
first_later goal tries xs ys t c o f =
    let within = f.within in
    let lt : t < tries = omega arith in
    let w = open_whole goal tries xs t o lt in
    record {
      before = xs ++ f.before;
      after = f.after;
      parts = ap (λ zs. xs ++ zs) f.parts ∙ sym (append_assoc xs f.before (c ∷ f.after));
      within = omega (arith, w.1, length-append xs f.before);
      unproved = All-append (IsUnproved goal) xs f.before w.0 f.unproved;
      proved = f.proved;
    }

-- where nothing is left the search is open, and so it is where as many are passed as are to be tried
pub passed_all : (goal : Goal) (tries : ℕ) (whole rest : List Candidate) (t : ℕ) → IsPast goal whole rest t → rest ≡ [] → t ≤ tries → IsOpen goal tries whole t
passed_all goal tries whole rest t p none le =
    let same : whole ≡ p.passed = p.parts ∙ ap (λ (zs : List Candidate). p.passed ++ zs) none ∙ append-nil p.passed in
    let n : length whole ≡ t = ap length same ∙ p.count in
    let long : length whole ≤ tries = omega (arith, n, le) in
    record {
      unproved = subst (λ (cs : List Candidate). All (IsUnproved goal) cs)
          (sym same ∙ sym (take_all tries whole long)) p.unproved;
      tried_is = omega (arith, n, le);
    }

pub passed_most : (goal : Goal) (tries : ℕ) (whole rest : List Candidate) (t : ℕ) → IsPast goal whole rest t → t ≡ tries → IsOpen goal tries whole t
passed_most goal tries whole rest t p most =
    let first : take tries whole ≡ p.passed = ap₂ (λ (k : ℕ) (cs : List Candidate). take k cs) (sym (p.count ∙ most)) p.parts
    ∙ take-append_seam p.passed rest in
    let parts : length whole ≡ length p.passed + length rest = ap length p.parts ∙ length-append p.passed rest in
    let count = p.count in
    record { unproved = subst (λ (cs : List Candidate). All (IsUnproved goal) cs) (sym first) p.unproved; tried_is = omega (arith, parts, count, most) }

pub passed_tries : (goal : Goal) (tries : ℕ) (whole rest : List Candidate) (t : ℕ) → IsPast goal whole rest t → t ≡ tries → IsOpen goal tries whole tries
passed_tries goal tries whole rest t p most = subst (λ (n : ℕ). IsOpen goal tries whole n) most (passed_most goal tries whole rest t p most)
