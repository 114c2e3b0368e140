-- The functions that are read off some of a problem's constraints are said by these.
use Rattle.std.proofs.Common.{◌≡◌, ℕ, zero, suc, ◌+◌, ◌<◌, ℤ, pos, Bool, true, false, List, [], ◌∷◌, ◌++◌, length, map, take, get_or, All, refl, sym, ap, ◌∙◌, subst, arith}
use Rattle.std.specs.List.{AllByRecursion as Every}
use Rattle.std.proofs.lemmas.Grind.{take_at_read}
use Rattle.std.proofs.lemmas.Int.{ints}
use Rattle.std.proofs.lemmas.List.{length-map}
use Rattle.std.proofs.lemmas.List.Elements.{All-cons, All-get_or, All-nil, Contains-get_or}
use Rattle.it_space.specs.declared.spaces.Space.{Space}
use Rattle.it_problems.specs.declared.problems.Constraint.{Constraint}
use Rattle.it_space.specs.Rows.{IsOver, Terms, value}
use Rattle.it_space.specs.Spaces.{size_of}
use Rattle.it_space.proofs.EveryLemmas.{all_of}
use Rattle.it_polymatroid.specs.Elementals.{elementals}
use Rattle.it_elemental.specs.Generators.{Generator, forms_of, of_constraint, generator_at, is_equation}
use Rattle.it_closure.specs.declared.dependences.Dependence.{Dependence}
use Rattle.it_closure.specs.Reading.{dependence_row, dependences_of, read_from}
use Rattle.it_closure.proofs.ReadLists.{IsRead, all_read}
use Rattle.it_demand.proofs.ZipLemmas.{zip-append, zip-length, zip-right}
use Rattle.it_terms.specs.FunctionProofs.{IsSaid}
use Rattle.it_terms.specs.Sums.{AreChosen}

-- where the row of a dependence is 0, both its sets have one value
row_says : (b : Bool) (f t : ℕ) (p : ℕ → ℤ) → p 0 ≡ pos 0 → value (dependence_row b f t) p ≡ pos 0 → p t ≡ p f
row_says true zero zero p z e = refl
row_says true zero (suc t) p z e = omega (arith, ints, z, e)
row_says true (suc f) zero p z e = omega (arith, ints, z, e)
row_says true (suc f) (suc t) p z e = omega (arith, ints, z, e)
row_says false zero zero p z e = refl
row_says false zero (suc t) p z e = omega (arith, ints, z, e)
row_says false (suc f) zero p z e = omega (arith, ints, z, e)
row_says false (suc f) (suc t) p z e = omega (arith, ints, z, e)

pub constraint_at : (cs : List Constraint) (i : ℕ) (c : Constraint) → i < length cs → generator_at (map of_constraint cs) i ≡ of_constraint (get_or cs i c)
constraint_at [] i c h = absurd (omega arith)
constraint_at (x ∷ cs) zero c h = refl
constraint_at (x ∷ cs) (suc i) c h = constraint_at cs i c (omega arith)

-- a chosen constraint is the one of its number
chosen_at : (cs : List Constraint) (lines : List ℕ) (chosen : List Constraint) (i : ℕ) (c : Constraint) → i < length chosen → AreChosen cs lines chosen
    → (get_or lines i 0 < length cs) × (get_or chosen i c ≡ get_or cs (get_or lines i 0) (get_or chosen i c))
chosen_at cs lines [] i c h a = absurd (omega arith)
chosen_at cs [] (x ∷ chosen) i c h a = absurd a
chosen_at cs (l ∷ lines) (x ∷ chosen) zero c h a = a.0
chosen_at cs (l ∷ lines) (x ∷ chosen) (suc i) c h a = chosen_at cs lines chosen i c (omega arith) a.1

-- one more chosen constraint
pub chosen_more : (cs : List Constraint) (lines : List ℕ) (chosen new : List Constraint) (i : ℕ) (c : Constraint) → i < length lines
    → get_or lines i 0 < length cs → c ≡ get_or cs (get_or lines i 0) c
    → AreChosen cs (take i lines) chosen → new ≡ chosen ++ c ∷ [] → AreChosen cs (take (i + 1) lines) new
chosen_more cs lines chosen new i c within there is before e =
    let line = get_or lines i 0 in
    subst (λ (x : List Constraint). AreChosen cs (take (i + 1) lines) x) (sym e)
    (subst (λ (ls : List ℕ). AreChosen cs ls (chosen ++ c ∷ [])) (sym (take_at_read lines i 0 within).1)
    (zip-append (λ line c. (line < length cs) × (c ≡ get_or cs line c)) (take i lines) (line ∷ []) chosen (c ∷ []) before ((there, is), tt)))

read_is_said : (s : Space) (cs chosen : List Constraint) (lines : List ℕ) (g : ℕ) (x : Constraint) (d : Dependence)
    → AreChosen cs lines chosen → IsRead s chosen g d
    → IsSaid s.variables (forms_of (map of_constraint cs)) lines d
read_is_said s cs chosen lines g x d a r =
    let line = get_or lines r.place 0 in
    let c = get_or chosen r.place x in
    let k = chosen_at cs lines chosen r.place x r.inside a in
    let counted : length chosen ≡ length lines = zip-length (λ line c. (line < length cs) × (c ≡ get_or cs line c)) lines chosen a in
    let same = constraint_at cs line c k.0 ∙ ap of_constraint (sym k.1) in
    let t = r.is x in record {
      line = line;
      among = Contains-get_or lines r.place 0 (subst (λ (m : ℕ). r.place < m) counted r.inside);
      there = subst (λ (m : ℕ). line < m) (sym (length-map cs of_constraint)) k.0;
      equation = ap (λ (k : Generator). is_equation k.kind) same ∙ ap is_equation t.equation;
      says = λ p z e. row_says d.negated d.from d.to p z (sym (ap (λ (ts : Terms). value ts p) (ap (λ (k : Generator). k.row) same ∙ t.row)) ∙ e);
      inside = t.sets.inside;
      below = t.sets.below;
    }

each_is_said : (s : Space) (cs chosen : List Constraint) (lines : List ℕ) (g : ℕ) (x : Constraint) (ds : List Dependence)
    → AreChosen cs lines chosen → Every (IsRead s chosen g) ds
    → Every (IsSaid s.variables (forms_of (map of_constraint cs)) lines) ds
each_is_said s cs chosen lines g x [] a e = tt
each_is_said s cs chosen lines g x (d ∷ ds) a e = (read_is_said s cs chosen lines g x d a e.0, each_is_said s cs chosen lines g x ds a e.1)

-- what is chosen is over the coordinates that all are over
pub chosen_over : (size : ℕ) (cs : List Constraint) (lines : List ℕ) (chosen : List Constraint) → All (λ c. IsOver size c.row) cs
    → AreChosen cs lines chosen → All (λ c. IsOver size c.row) chosen
chosen_over size cs lines chosen over a =
    zip-right (λ line c. (line < length cs) × (c ≡ get_or cs line c)) (λ c. IsOver size c.row)
    (λ line c k. All-at (λ (c : Constraint). IsOver size c.row) cs line c k.0 k.1 over) lines chosen a
  where
    All-at : (P : Constraint → Type 0) (cs : List Constraint) (i : ℕ) (c : Constraint) → i < length cs → c ≡ get_or cs i c → All P cs → P c
    All-at P cs i c h e all = subst P (sym e) (All-get_or P cs i c h all)

-- who chooses constraints names ones that are there
pub chosen_are_there : (cs : List Constraint) (lines : List ℕ) (chosen : List Constraint) → AreChosen cs lines chosen
    → All (λ l. l < (forms_of (map of_constraint cs)).count) lines
chosen_are_there cs [] [] a = All-nil (λ l. l < (forms_of (map of_constraint cs)).count)
chosen_are_there cs [] (x ∷ chosen) a = absurd a
chosen_are_there cs (l ∷ lines) [] a = absurd a
chosen_are_there cs (l ∷ lines) (x ∷ chosen) a =
    All-cons (λ l. l < (forms_of (map of_constraint cs)).count) l lines (subst (λ (m : ℕ). l < m) (sym (length-map cs of_constraint)) a.0.0)
    (chosen_are_there cs lines chosen a.1)

pub chosen_are_said : (s : Space) (cs chosen : List Constraint) (lines : List ℕ) → All (λ c. IsOver (size_of s) c.row) chosen → AreChosen cs lines chosen
    → All (IsSaid s.variables (forms_of (map of_constraint cs)) lines) (dependences_of (record { space = s; constraints = chosen }))
chosen_are_said s cs chosen lines over a = all_of (IsSaid s.variables (forms_of (map of_constraint cs)) lines)
    (dependences_of (record { space = s; constraints = chosen }))
    (by_first chosen (all_read s (size_of s) (length (elementals s.variables)) chosen over) a)
  where
    by_first : (chosen : List Constraint) → Every (IsRead s chosen (length (elementals s.variables)))
        (read_from s.variables (length (elementals s.variables)) chosen) → AreChosen cs lines chosen
        → Every (IsSaid s.variables (forms_of (map of_constraint cs)) lines) (read_from s.variables (length (elementals s.variables)) chosen)
    by_first [] e a = tt
    by_first (x ∷ chosen) e a = each_is_said s cs (x ∷ chosen) lines (length (elementals s.variables)) x
        (read_from s.variables (length (elementals s.variables)) (x ∷ chosen)) a e
