-- A language has one first fault at most, and what stands at it.
use Rattle.std.specs.Prelude.{slice_get}
use Rattle.std.proofs.Common.{◌≡◌, List, [], ◌∷◌, ◌++◌, Some, None, Err, refl, sym, ap, ◌∙◌, subst, inl, inr, ◌⊎◌, append_assoc}
use Rattle.std.proofs.lemmas.List.{append_cancel_right}
use Rattle.it_forms.specs.declared.types.Code.{Code}
use Rattle.it_forms.specs.Letters.{Letter, FlaggedLetters, letters, without_flags}
use Rattle.it_forms.specs.FirstFault.{own_code, FlaggedAt, FirstFault}
use Rattle.it_forms.specs.Reads.{Fault, Reads}
use Rattle.it_forms.proofs.FlaggedReadings.{Flags}
use Rattle.it_forms.proofs.LetterLemmas.{letters_after, second_is, same_tails}

-- why the fault is c where r is left, and q would be spelled there: no rule goes on, or the rules flag the letter
abbrev pub Why : FlaggedLetters → Code → List Letter → Type 0
Why q c r = (own_code r ≡ c) ⊎ ((l : Letter) × (more : FlaggedLetters) × ((q ≡ (l, Some c) ∷ more) × (slice_get r 0 ≡ Some l)))

abbrev pub err_of : {A : Type 0} → Fault → Reads A
err_of f = Err f

pub err_is : {A : Type 0} (f g : Fault) → err_of {A = A} f ≡ err_of {A = A} g → f ≡ g
err_is f g e = cc

-- a flag at which q is left stands after `prefix`
pub flag_place : (m : FlaggedLetters) (f : Fault) (prefix q : List Letter) (c : Code) → Flags m f → f ≡ (c, q) → letters m ≡ prefix ++ q → FlaggedAt m prefix c
flag_place m f prefix q c k e h =
    let q-is : q ≡ k.letter ∷ letters k.rest = sym (ap (λ (t : Fault). t.1) e) ∙ k.left in
    let same : k.prefix ++ q ≡ prefix ++ q = ap (λ (t : List Letter). k.prefix ++ t) q-is
    ∙ sym (letters_after k.prefix ((k.letter, Some f.0) ∷ k.rest)) ∙ sym (ap letters k.is) ∙ h in
    let front-is : k.prefix ≡ prefix = append_cancel_right k.prefix prefix q same in (
      k.letter,
      k.rest,
      k.is ∙ ap (λ (t : List Letter). without_flags t ++ ((k.letter, Some f.0) ∷ k.rest)) front-is
          ∙ ap (λ (t : Fault). without_flags prefix ++ ((k.letter, Some t.0) ∷ k.rest)) e,
    )

-- of two prefixes of one list, one begins the other
one_prefix_begins_other : (p q a b : List Letter) → p ++ a ≡ q ++ b → ((l : Letter) × (d : List Letter)
    × ((q ≡ p ++ (l ∷ d)) × (a ≡ l ∷ (d ++ b)))) ⊎ (((l : Letter) × (d : List Letter) × ((p ≡ q ++ (l ∷ d)) × (b ≡ l ∷ (d ++ a))))
    ⊎ ((p ≡ q) × (a ≡ b)))
one_prefix_begins_other [] [] a b e = inr (inr (refl, e))
one_prefix_begins_other [] (l ∷ q) a b e = inl (l, q, (refl, e))
one_prefix_begins_other (l ∷ p) [] a b e = inr (inl (l, p, (refl, sym e)))
one_prefix_begins_other (l ∷ p) (m ∷ q) a b e =
    let same : l ≡ m = cc in
    let tails : p ++ a ≡ q ++ b = cc in
    elim (one_prefix_begins_other p q a b tails) [
      | inl x ↦ inl (x.0, x.1, (rw same (ap (λ (t : List Letter). m ∷ t) x.2.0), x.2.1))
      | inr y ↦ elim y [
        | inl x ↦ inr (inl (x.0, x.1, (rw same (ap (λ (t : List Letter). m ∷ t) x.2.0), x.2.1)))
        | inr x ↦ inr (inr (rw same (ap (λ (t : List Letter). m ∷ t) x.0), x.1))
      ]
    ]

-- no flag stands inside letters without flags
clean_not_flagged : (prefix d : List Letter) (l : Letter) (more : FlaggedLetters) (c : Code)
    → FlaggedAt (without_flags (prefix ++ (l ∷ d)) ++ more) prefix c → ⊥
clean_not_flagged [] d l more c k = let e : None ≡ Some c = second_is (l, None) (k.0, Some c) (without_flags d ++ more) k.1 k.2 in absurd cc
clean_not_flagged (x ∷ prefix) d l more c k = clean_not_flagged prefix d l more c (
  k.0,
  k.1,
  same_tails (x, None) (x, None) (without_flags (prefix ++ (l ∷ d)) ++ more)
      (without_flags prefix ++ ((k.0, Some c) ∷ k.1)) k.2,
)

-- nor in m, which begins with such letters
not_flagged_as : (m : FlaggedLetters) (prefix d : List Letter) (l : Letter) (more : FlaggedLetters) (c : Code)
    → m ≡ without_flags (prefix ++ (l ∷ d)) ++ more → FlaggedAt m prefix c → ⊥
not_flagged_as m prefix d l more c e k = clean_not_flagged prefix d l more c (subst (λ (m : FlaggedLetters). FlaggedAt m prefix c) e k)

-- a fault that stands before another's place contradicts it
no_earlier_fault : {X : Type 0} (spell : X → FlaggedLetters) (ls : List Letter) (c e : Code) (r s : List Letter)
    (f : FirstFault spell ls c r) (g : FirstFault spell ls e s) (l : Letter) (d : List Letter) → g.prefix ≡ f.prefix ++ (l ∷ d)
    → r ≡ l ∷ (d ++ s) → ⊥
no_earlier_fault spell ls c e r s f g l d front-is r-is =
    let spelled : spell g.tree ≡ without_flags (f.prefix ++ (l ∷ d)) ++ g.more = g.viable ∙ ap (λ (t : List Letter). without_flags t ++ g.more) front-is in
    let here : letters (spell g.tree) ≡ f.prefix ++ (l ∷ (d ++ letters g.more)) = ap letters spelled
    ∙ letters_after (f.prefix ++ (l ∷ d)) g.more ∙ append_assoc f.prefix (l ∷ d) (letters g.more) in
    not_flagged_as (spell g.tree) f.prefix d l g.more c spelled (f.each g.tree (l ∷ (d ++ letters g.more))
    (sym (ap (λ (ls : List Letter). slice_get ls 0) r-is)) here)

flags_same : (m : FlaggedLetters) (prefix : List Letter) (c e : Code) → FlaggedAt m prefix c → FlaggedAt m prefix e → c ≡ e
flags_same m [] c e j k = let p : Some c ≡ Some e = second_is (j.0, Some c) (k.0, Some e) j.1 k.1 (sym j.2 ∙ k.2) in cc
flags_same [] (x ∷ prefix) c e j k = let p = j.2 in absurd cc
flags_same (y ∷ m) (x ∷ prefix) c e j k =
    flags_same m prefix c e (j.0, j.1, same_tails y (x, None) m (without_flags prefix ++ ((j.0, Some c) ∷ j.1)) j.2)
    (k.0, k.1, same_tails y (x, None) m (without_flags prefix ++ ((k.0, Some e) ∷ k.1)) k.2)

one_code : {X : Type 0} (spell : X → FlaggedLetters) (ls : List Letter) (c e : Code) (r s : List Letter) (f : FirstFault spell ls c r)
    (g : FirstFault spell ls e s) → f.prefix ≡ g.prefix → r ≡ s → c ≡ e
one_code spell ls c e r s f g same left =
    elim f.code [
      | inl a ↦ elim g.code [
        | inl b ↦ sym a ∙ ap own_code left ∙ b
        | inr y ↦ flags_same (spell y.0) f.prefix c e (f.each y.0 y.1 (y.2.0 ∙ ap (λ (ls : List Letter). slice_get ls 0) (sym left))
            (y.2.1 ∙ ap (λ (t : List Letter). t ++ y.1) (sym same))) (subst (λ (t : List Letter). FlaggedAt (spell y.0) t e) (sym same)
            (g.each y.0 y.1 y.2.0 y.2.1))
      ]
      | inr x ↦ flags_same (spell x.0) f.prefix c e (f.each x.0 x.1 x.2.0 x.2.1)
          (subst (λ (t : List Letter). FlaggedAt (spell x.0) t e) (sym same)
          (g.each x.0 x.1 (x.2.0 ∙ ap (λ (ls : List Letter). slice_get ls 0) left) (x.2.1 ∙ ap (λ (t : List Letter). t ++ x.1) same)))
    ]

-- two first faults are one
pub one_fault : {X : Type 0} (spell : X → FlaggedLetters) (ls : List Letter) (c e : Code) (r s : List Letter) → FirstFault spell ls c r
    → FirstFault spell ls e s → (c ≡ e) × (r ≡ s)
one_fault spell ls c e r s f g =
    elim (one_prefix_begins_other f.prefix g.prefix r s (sym f.parts ∙ g.parts)) [
      | inl x ↦ absurd (no_earlier_fault spell ls c e r s f g x.0 x.1 x.2.0 x.2.1)
      | inr y ↦ elim y [
        | inl x ↦ absurd (no_earlier_fault spell ls e c s r g f x.0 x.1 x.2.0 x.2.1)
        | inr x ↦ (one_code spell ls c e r s f g x.0 x.1, x.1)
      ]
    ]
