-- The reader of a list of names where no more lists are allowed.
use Rattle.std.proofs.Common.{◌≡◌, ℕ, Bool, true, false, cond, List, [], ◌∷◌, Option, Some, None, Ok, Err, refl, ap}
use Rattle.std.specs.Option.{option_or}
use Rattle.it_forms.specs.declared.types.Code.{Code}
use Rattle.it_forms.specs.declared.types.Code.TheVariants.{Many}
use Rattle.it_forms.specs.Letters.{Letter}
use Rattle.it_forms.specs.Reads.{Reads, Fault, ◌>>=◌, no_rule}
use Rattle.it_forms.specs.Forms.{Terminal, is_among, Form, Take, Then}
use Rattle.it_forms.specs.FormReading.{if_unflagged, read}
use Rattle.it_forms.specs.Words.{flagged, allowed}
use Rattle.it_syntax.specs.declared.rest.Stop.{Stop}
use Rattle.it_syntax.specs.declared.rest.Stop.TheVariants as stops
use Rattle.it_syntax.specs.Gives.{StopsAs}
use Rattle.it_syntax.specs.LineForms.{variable, names}
use Rattle.it_syntax.specs.Scopes.{Environment}

-- where no more is allowed, what begins with a terminal stops at it
many_at : {A B : Type 0} (t : Terminal A) (g : A → Form B) (ls rest : List Letter) (a : A) → read (Take t) ls ≡ Ok (a, rest)
    → read (allowed 0 (Then (Take t) g)) ls ≡ Err (Many, ls)
unfolding read flagged
many_at t g [] rest a e = absurd cc
many_at {A} t g (l ∷ ls) rest a e = by_test (is_among t.kinds l) (t.says l) e
  where
    by_test : (b : Bool) (p : Option Code × A) → cond b (if_unflagged p l ls (λ a. Ok (a, ls))) (no_rule (l ∷ ls)) ≡ Ok (a, rest)
        → (cond b (if_unflagged (option_or p.0 (Some Many), p.1) l ls (λ a. Ok (a, ls))) (no_rule (l ∷ ls)) >>= λ x. read (g x.0) x.1) ≡ Err (Many, l ∷ ls)
    by_test true (None, c) e = refl
    by_test true (Some d, c) e = absurd cc
    by_test false p e = absurd cc

abbrev fault_of : {A : Type 0} → Fault → Reads A
fault_of x = Err x

same_fault : {A : Type 0} (x y : Fault) → fault_of {A = A} x ≡ fault_of {A = A} y → x.0 ≡ y.0
same_fault x y e = let h : x ≡ y = cc in ap (λ (q : Fault). q.0) h

fault_at : {A B : Type 0} (t : Terminal A) (g : A → Form B) (ls rest : List Letter) (c : Code) → read (Take t) ls ≡ Err (c, rest)
    → read (allowed 0 (Then (Take t) g)) ls ≡ Err (c, ls)
unfolding read flagged
fault_at t g [] rest c e = ap (λ (d : Code). Err (d, [])) (same_fault (_, []) (c, rest) e)
fault_at {A} t g (l ∷ ls) rest c e = by_test (is_among t.kinds l) (t.says l) e
  where
    by_test : (b : Bool) (p : Option Code × A) → cond b (if_unflagged p l ls (λ a. Ok (a, ls))) (no_rule (l ∷ ls)) ≡ Err (c, rest)
        → (cond b (if_unflagged (option_or p.0 (Some Many), p.1) l ls (λ a. Ok (a, ls))) (no_rule (l ∷ ls)) >>= λ x. read (g x.0) x.1) ≡ Err (c, l ∷ ls)
    by_test true (None, a) e = absurd cc
    by_test true (Some d, a) e = ap (λ (d : Code). Err (d, l ∷ ls)) (same_fault (d, l ∷ ls) (c, rest) e)
    by_test false p e = ap (λ (d : Code). Err (d, l ∷ ls)) (same_fault (_, l ∷ ls) (c, rest) e)

pub surplus_many : (env : Environment) (ls rest : List Letter) (i : ℕ) → read (variable env) ls ≡ Ok (i, rest)
    → read (allowed 0 (names env)) ls ≡ Err (Many, ls)
unfolding names variable
surplus_many env ls rest i e = many_at _ _ ls rest i e

pub surplus_stops : (env : Environment) (ls rest : List Letter) (stop : Stop) → StopsAs stop rest (read (variable env) ls)
    → StopsAs stop ls (read (allowed 0 (names env)) ls)
unfolding names variable
surplus_stops env ls rest stops.Memory e = tt
surplus_stops env ls rest (stops.Fault c) e = fault_at _ _ ls rest c e
