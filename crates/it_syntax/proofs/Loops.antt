-- What a form reads of letters, by the terminal that stands in front, and a loop turn by turn, as code reads it.
use Rattle.std.proofs.Common.{◌≡◌, ℕ, zero, suc, Bool, true, false, cond, List, [], ◌∷◌, Option, Some, None, Ok, Err, refl, sym, ap, ◌∙◌, subst, ◌<◌, ◌≤◌, length, arith}
use Rattle.it_forms.specs.declared.types.Code.{Code}
use Rattle.it_syntax.specs.declared.rest.Stop.{Stop}
use Rattle.it_syntax.specs.declared.rest.Stop.TheVariants as stops
use Rattle.it_forms.specs.Letters.{Letter}
use Rattle.it_syntax.specs.Gives.{StopsAs}
use Rattle.it_forms.specs.Reads.{Reads, ◌>>=◌}
use Rattle.it_forms.specs.Forms.{Kind, Punctuation, Terminal, is_among, Form, Give, Then, While}
use Rattle.it_forms.specs.Words.{symbol, each, each_after, limit_flag}
use Rattle.it_forms.specs.declared.types.Symbol.{Symbol}
use Rattle.it_forms.specs.FormReading.{if_unflagged, if_taken, read, after}
use Rattle.it_forms.proofs.FormTraces.{Reader}
use Rattle.it_forms.proofs.FormLaws.{NoLonger, rest_no_longer, while_turn}

-- what t says of the letter that stands there, and what is after it
abbrev Standing : Type 0 → Type 0
Standing A = (Option Code × A) × List Letter

same_standing : {A : Type 0} (x y : Standing A) → Some x ≡ Some y → x ≡ y
same_standing x y e = cc

pub taken_after : {A B : Type 0} (t : Terminal A) (ls tail : List Letter) (a : A) (g : A → Reader B) (other : Reads B)
    → after t ls ≡ Some ((None, a), tail) → if_taken t ls g other ≡ g a tail
taken_after t [] tail a g other e = absurd cc
taken_after {A} t (l ∷ ls) tail a g other e = by_test (is_among t.kinds l) (t.says l) e
  where
    by_test : (b : Bool) (p : Option Code × A) → cond {A = Option (Standing A)} b (Some (p, ls)) None ≡ Some ((None, a), tail)
        → cond b (if_unflagged p l ls (λ a. g a ls)) other ≡ g a tail
    by_test true (None, c) e = let h = same_standing ((None, c), ls) ((None, a), tail) e
        in rw (ap (λ (q : Standing A). q.0.1) h, ap (λ (q : Standing A). q.1) h) refl
    by_test true (Some d, c) e = let h : Some d ≡ None = ap (λ (q : Standing A). q.0.0) (same_standing ((Some d, c), ls) ((None, a), tail) e) in absurd cc
    by_test false p e = absurd cc

pub flagged_after : {A B : Type 0} (t : Terminal A) (ls tail : List Letter) (c : Code) (a : A) (g : A → Reader B) (other : Reads B)
    → after t ls ≡ Some ((Some c, a), tail) → if_taken t ls g other ≡ Err (c, ls)
flagged_after t [] tail c a g other e = absurd cc
flagged_after {A} t (l ∷ ls) tail c a g other e = by_test (is_among t.kinds l) (t.says l) e
  where
    by_test : (b : Bool) (p : Option Code × A) → cond {A = Option (Standing A)} b (Some (p, ls)) None ≡ Some ((Some c, a), tail)
        → cond b (if_unflagged p l ls (λ a. g a ls)) other ≡ Err (c, l ∷ ls)
    by_test true (None, b) e = let h : None ≡ Some c = ap (λ (q : Standing A). q.0.0) (same_standing ((None, b), ls) ((Some c, a), tail) e) in absurd cc
    by_test true (Some d, b) e = let h : Some d ≡ Some c = ap (λ (q : Standing A). q.0.0)
        (same_standing ((Some d, b), ls) ((Some c, a), tail) e) in let x : d ≡ c = cc in rw x refl
    by_test false p e = absurd cc

pub other_after : {A B : Type 0} (t : Terminal A) (ls : List Letter) (g : A → Reader B) (other : Reads B) → after t ls ≡ None → if_taken t ls g other ≡ other
other_after t [] g other e = refl
other_after {A} t (l ∷ ls) g other e = by_test (is_among t.kinds l) (t.says l) e
  where
    by_test : (b : Bool) (p : Option Code × A) → cond {A = Option (Standing A)} b (Some (p, ls)) None ≡ None
        → cond b (if_unflagged p l ls (λ a. g a ls)) other ≡ other
    by_test true p e = absurd cc
    by_test false p e = refl

-- by whether a terminal stands in front
pub ruleset front_lemmas = (taken_after, other_after)

-- one more turn
pub loop_goes : {A B : Type 0} (ks : List Kind) (says : A → Letter → Option Code × B) (step : A → B → Form A) (a c : A) (b : B)
    (ls tail rest : List Letter) → after (record { kinds = ks; says = says a }) ls ≡ Some ((None, b), tail)
    → read (step a b) tail ≡ Ok (c, rest)
    → read (While ks says step c) rest ≡ read (While ks says step a) ls
loop_goes ks says step a c b ls tail rest e h = sym (while_turn ks says step a ls
    ∙ taken_after (record { kinds = ks; says = says a }) ls tail b (λ b rest. read (step a b) rest >>= λ x. read
    (While ks says step x.0) x.1) (Ok (a, ls)) e ∙ ap (λ (r : Reads _). r >>= λ x. read (While ks says step x.0) x.1) h)

-- a turn stops
pub loop_stops : {A B : Type 0} (ks : List Kind) (says : A → Letter → Option Code × B) (step : A → B → Form A) (a : A) (b : B)
    (ls tail rest : List Letter) (s : Stop) → after (record { kinds = ks; says = says a }) ls ≡ Some ((None, b), tail)
    → StopsAs s rest (read (step a b) tail)
    → StopsAs s rest (read (While ks says step a) ls)
loop_stops ks says step a b ls tail rest stops.Memory e h = tt
loop_stops ks says step a b ls tail rest (stops.Fault c) e h = while_turn ks says step a ls
    ∙ taken_after (record { kinds = ks; says = says a }) ls tail b (λ b rest. read (step a b) rest >>= λ x. read
    (While ks says step x.0) x.1) (Ok (a, ls)) e ∙ ap (λ (r : Reads _). r >>= λ x. read (While ks says step x.0) x.1) h

-- the terminal is flagged
pub loop_flagged : {A B : Type 0} (ks : List Kind) (says : A → Letter → Option Code × B) (step : A → B → Form A) (a : A) (b : B) (c : Code)
    (ls tail : List Letter) → after (record { kinds = ks; says = says a }) ls ≡ Some ((Some c, b), tail)
    → read (While ks says step a) ls ≡ Err (c, ls)
loop_flagged ks says step a b c ls tail e = while_turn ks says step a ls
    ∙ flagged_after (record { kinds = ks; says = says a }) ls tail c b (λ b rest. read (step a b) rest >>= λ x. read
    (While ks says step x.0) x.1) (Ok (a, ls)) e

-- the loop is over
pub loop_ends : {A B : Type 0} (ks : List Kind) (says : A → Letter → Option Code × B) (step : A → B → Form A) (a : A) (ls : List Letter)
    → after (record { kinds = ks; says = says a }) ls ≡ None → read (While ks says step a) ls ≡ Ok (a, ls)
loop_ends ks says step a ls e = while_turn ks says step a ls ∙ other_after (record { kinds = ks; says = says a }) ls
    (λ b rest. read (step a b) rest >>= λ x. read (While ks says step x.0) x.1) (Ok (a, ls)) e

-- ---- terminals, each with a form, over and over

abbrev put_to : {A B : Type 0} → (A → B → A) → A → Reads B → Reads A
put_to put a r = r >>= λ x. Ok (put a x.0, x.1)

stops_before : {A B : Type 0} (put : A → B → A) (a : A) (s : Stop) (rest : List Letter) (r : Reads B) → StopsAs s rest r → StopsAs s rest (put_to put a r)
stops_before put a stops.Memory rest r e = tt
stops_before put a (stops.Fault c) rest r e = ap (put_to put a) e

-- In each, `total` is what the whole loop reads.
pub each_goes : {A B C : Type 0} (ks : List Kind) (says : A → Letter → Option Code × B) (item : A → B → Form C) (put : A → C → A) (a : A)
    (b : B) (c : C) (ls tail rest : List Letter) (total : Reads A) → after (record { kinds = ks; says = says a }) ls
    ≡ Some ((None, b), tail) → read (item a b) tail ≡ Ok (c, rest) → read (each ks says item put a) ls ≡ total
    → read (each ks says item put (put a c)) rest ≡ total
unfolding read
each_goes ks says item put a b c ls tail rest total e h so_far = loop_goes ks says (λ a b. Then (item a b) (λ c. Give (put a c))) a
    (put a c) b ls tail rest e (ap (put_to put a) h) ∙ so_far

pub each_stops : {A B C : Type 0} (ks : List Kind) (says : A → Letter → Option Code × B) (item : A → B → Form C) (put : A → C → A) (a : A)
    (b : B) (ls tail rest : List Letter) (stop : Stop) (total : Reads A)
    → after (record { kinds = ks; says = says a }) ls ≡ Some ((None, b), tail) → StopsAs stop rest (read (item a b) tail)
    → read (each ks says item put a) ls ≡ total → StopsAs stop rest total
unfolding read
each_stops ks says item put a b ls tail rest stop total e h so_far = subst (StopsAs stop rest) so_far
    (loop_stops ks says (λ a b. Then (item a b) (λ c. Give (put a c))) a b ls tail rest stop e
    (stops_before put a stop rest (read (item a b) tail) h))

pub each_ends : {A B C : Type 0} (ks : List Kind) (says : A → Letter → Option Code × B) (item : A → B → Form C) (put : A → C → A) (a : A)
    (ls : List Letter) (total : Reads A) → after (record { kinds = ks; says = says a }) ls ≡ None
    → read (each ks says item put a) ls ≡ total → total ≡ Ok (a, ls)
each_ends ks says item put a ls total e so_far = sym so_far ∙ loop_ends ks says (λ a b. Then (item a b) (λ c. Give (put a c))) a ls e

-- what is read after a terminal is shorter
pub rest_is_shorter : {A B : Type 0} (t : Terminal A) (f : Form B) (ls tail rest : List Letter) (p : Option Code × A) (b : B)
    → after t ls ≡ Some (p, tail) → read f tail ≡ Ok (b, rest) → length rest < length ls
rest_is_shorter {A} {B} t f [] tail rest p b e h = absurd cc
rest_is_shorter {A} {B} t f (l ∷ ls) tail rest p b e h = by_test (is_among t.kinds l) e
  where
    by_test : (x : Bool) → cond {A = Option (Standing A)} x (Some (t.says l, ls)) None ≡ Some (p, tail) → length rest < length (l ∷ ls)
    by_test true e = let s : length ls ≡ length tail = ap (λ (q : Standing A). length q.1) (same_standing (t.says l, ls) (p, tail) e)
        in let n : length rest ≤ length tail = subst (NoLonger tail) h (rest_no_longer f tail) in omega (arith, n, s)
    by_test false e = absurd cc

-- ---- symbols, each with a form, over and over

pub symbol_goes : {A C : Type 0} (s : Symbol) (item : A → Form C) (put : A → C → A) (a : A) (c : C) (ls tail rest : List Letter)
    (total : Reads A) → after (symbol s) ls ≡ Some ((None, tt), tail) → read (item a) tail ≡ Ok (c, rest)
    → read (each_after s item put a) ls ≡ total → read (each_after s item put (put a c)) rest ≡ total
symbol_goes s item put a c ls tail rest total e h so_far = each_goes (Punctuation s ∷ []) (λ a l. (None, tt))
    (λ a u. item a) put a tt c ls tail rest total e h so_far

pub symbol_stops : {A C : Type 0} (s : Symbol) (item : A → Form C) (put : A → C → A) (a : A) (ls tail rest : List Letter) (stop : Stop)
    (total : Reads A) → after (symbol s) ls ≡ Some ((None, tt), tail) → StopsAs stop rest (read (item a) tail)
    → read (each_after s item put a) ls ≡ total → StopsAs stop rest total
symbol_stops s item put a ls tail rest stop total e h so_far = each_stops (Punctuation s ∷ []) (λ a l. (None, tt))
    (λ a u. item a) put a tt ls tail rest stop total e h so_far

pub symbol_ends : {A C : Type 0} (s : Symbol) (item : A → Form C) (put : A → C → A) (a : A) (ls : List Letter) (total : Reads A)
    → after (symbol s) ls ≡ None → read (each_after s item put a) ls ≡ total → total ≡ Ok (a, ls)
symbol_ends s item put a ls total e so_far = each_ends (Punctuation s ∷ []) (λ a l. (None, tt)) (λ a u. item a) put a ls total e so_far

-- a terminal whose flags depend on what it says
pub after_with_flags : {B : Type 0} (ks : List Kind) (f : Letter → B) (m : B → Option Code) (b : B) (ls tail : List Letter)
    → after (record { kinds = ks; says = λ l. (None, f l) }) ls ≡ Some ((None, b), tail)
    → after (record { kinds = ks; says = λ l. (m (f l), f l) }) ls ≡ Some ((m b, b), tail)
after_with_flags ks f m b [] tail e = absurd cc
after_with_flags {B} ks f m b (l ∷ ls) tail e = by_test (is_among ks l) e
  where
    by_test : (x : Bool) → cond {A = Option (Standing B)} x (Some ((None, f l), ls)) None ≡ Some ((None, b), tail)
        → cond {A = Option (Standing B)} x (Some ((m (f l), f l), ls)) None ≡ Some ((m b, b), tail)
    by_test true e = let h = same_standing ((None, f l), ls) ((None, b), tail) e in ap (λ (q : Standing B). Some ((m q.0.1, q.0.1), q.1)) h
    by_test false e = absurd cc

pub no_limit : (n : ℕ) → ¬ (n ≡ 0) → limit_flag n ≡ None
no_limit zero h = absurd (h refl)
no_limit (suc n) h = refl
