-- What a reading tells of the letters that it looked at, for readers and for what they read.
use Rattle.std.specs.Prelude.{slice_get}
use Rattle.std.proofs.Common.{◌≡◌, Bool, true, false, cond, List, [], ◌∷◌, ◌++◌, Option, Some, None, Ok, Err, refl, sym, ap, ◌∙◌, subst, inl, inr, append_assoc}
use Rattle.it_forms.specs.declared.types.Code.{Code}
use Rattle.it_forms.specs.Letters.{Letter, Bad, FlaggedLetters, without_flags}
use Rattle.it_forms.specs.FirstFault.{own_code}
use Rattle.it_forms.specs.Reads.{Reads, ◌>>=◌, no_rule}
use Rattle.it_forms.proofs.FirstFaults.{Why}
use Rattle.it_forms.proofs.LetterLemmas.{cleaned_append}
use Rattle.it_forms.specs.Forms.{Terminal, is_among, IsTaken}
use Rattle.it_forms.specs.FormReading.{if_unflagged, if_taken}

-- what is written, by what it says, its letters and what follows
abbrev pub Language : Type 0 → Type 1
Language A = A → FlaggedLetters → FlaggedLetters → Type 0

abbrev pub Reader : Type 0 → Type 0
Reader A = List Letter → Reads A

-- It read y up to r: the letters before r say y, and they are read so whatever follows r's first letter.
pub record Went {A : Type 0} (f : Reader A) (says : Language A) (ls : List Letter) (y : A) (r : List Letter) : Type 0 where
  pub prefix : List Letter
  pub parts : ls ≡ prefix ++ r
  pub spells : (k : FlaggedLetters) → says y (without_flags prefix ++ k) k
  pub stays : (s : List Letter) → slice_get s 0 ≡ slice_get r 0 → f (prefix ++ s) ≡ Ok (y, s)

-- It stopped with code c at r: something is written so up to r, and the same letters stop it whatever follows r's first
-- letter.
pub record Stuck {A : Type 0} (f : Reader A) (says : Language A) (ls : List Letter) (c : Code) (r : List Letter) : Type 0 where
  pub prefix : List Letter
  pub parts : ls ≡ prefix ++ r
  pub value : A
  pub spells : (k : FlaggedLetters) → (q : FlaggedLetters) × says value (without_flags prefix ++ q) k × Why q c r
  pub stays : (s : List Letter) → slice_get s 0 ≡ slice_get r 0 → f (prefix ++ s) ≡ Err (c, s)

-- what a result tells
abbrev pub By : {A : Type 0} → Reader A → Language A → List Letter → Reads A → Type 0
By f says ls (Ok x) = Went f says ls x.0 x.1
By f says ls (Err e) = Stuck f says ls e.0 e.1

-- something says so before anything
abbrev pub Completes : {A : Type 0} → Language A → Type 0
Completes {A} says = (y : A) × ((k : FlaggedLetters) → (m : FlaggedLetters) × says y m k)

unflagged_all_append : (p q : List Letter) (k : FlaggedLetters) → without_flags p ++ (without_flags q ++ k) ≡ without_flags (p ++ q) ++ k
unflagged_all_append p q k = rw (cleaned_append p q, append_assoc) refl

head_same : (p s r : List Letter) → slice_get s 0 ≡ slice_get r 0 → slice_get (p ++ s) 0 ≡ slice_get (p ++ r) 0
head_same [] s r e = e
head_same (l ∷ p) s r e = refl

for_head : (P : List Letter → Type 0) (l : Letter) → ((s : List Letter) → P (l ∷ s)) → (s : List Letter) → slice_get s 0 ≡ Some l → P s
for_head P l h [] e = absurd cc
for_head P l h (m ∷ s) e = let same : l ≡ m = cc in subst (λ (n : Letter). P (n ∷ s)) same (h s)

for_no_head : (P : List Letter → Type 0) → P [] → (s : List Letter) → slice_get s 0 ≡ None → P s
for_no_head P h [] e = h
for_no_head P h (m ∷ s) e = absurd cc

-- ---- one reader, and then another that may depend on what the first read

pub record Chain {A B : Type 0} (f : Reader A) (g : A → Reader B) (h : Reader B) (first : Language A) (second : A → Language B)
    (both : Language B) : Type 0 where
  pub is : (ls : List Letter) → h ls ≡ (f ls >>= λ x. g x.0 x.1)
  pub says : (a : A) (y : B) (m n k : FlaggedLetters) → first a m n → second a y n k → both y m k
  pub completes : (a : A) → Completes (second a)

bind_ok : {A B : Type 0} (f : Reader A) (g : A → Reader B) (p : List Letter) (a : A) (s : List Letter) (t : Reads B)
    → f (p ++ s) ≡ Ok (a, s) → g a s ≡ t → (f (p ++ s) >>= λ x. g x.0 x.1) ≡ t
bind_ok f g p a s t e h = ap (λ (q : Reads _). q >>= λ x. g x.0 x.1) e ∙ h

second_then : {A B : Type 0} (f : Reader A) (g : A → Reader B) (h : Reader B) (first : Language A) (second : A → Language B)
    (both : Language B) → Chain f g h first second both
    → (ls : List Letter) (a : A) (r : List Letter) → Went f first ls a r → (s : Reads B) → By (g a) (second a) r s → By h both ls s
second_then f g h first second both c ls a r w (Ok x) v = record {
  prefix = w.prefix ++ v.prefix;
  parts = w.parts ∙ ap (λ (t : List Letter). w.prefix ++ t) v.parts ∙ sym (append_assoc w.prefix v.prefix x.1);
  spells = λ k. subst (λ (m : FlaggedLetters). both x.0 m k) (unflagged_all_append w.prefix v.prefix k)
      (c.says a x.0 (without_flags w.prefix ++ (without_flags v.prefix ++ k)) (without_flags v.prefix ++ k) k
      (w.spells (without_flags v.prefix ++ k)) (v.spells k));
  stays = λ s e. ap h (append_assoc w.prefix v.prefix s) ∙ c.is (w.prefix ++ (v.prefix ++ s))
      ∙ bind_ok f g w.prefix a (v.prefix ++ s) (Ok (x.0, s)) (w.stays (v.prefix ++ s)
      (head_same v.prefix s x.1 e ∙ ap (λ (ls : List Letter). slice_get ls 0) (sym v.parts))) (v.stays s e);
}
second_then f g h first second both c ls a r w (Err x) v = record {
  prefix = w.prefix ++ v.prefix;
  parts = w.parts ∙ ap (λ (t : List Letter). w.prefix ++ t) v.parts ∙ sym (append_assoc w.prefix v.prefix x.1);
  value = v.value;
  spells = λ k. let q = v.spells k in (
    q.0,
    subst (λ (m : FlaggedLetters). both v.value m k) (unflagged_all_append w.prefix v.prefix q.0)
        (c.says a v.value (without_flags w.prefix ++ (without_flags v.prefix ++ q.0)) (without_flags v.prefix ++ q.0) k
        (w.spells (without_flags v.prefix ++ q.0)) q.1),
    q.2,
  );
  stays = λ s e. ap h (append_assoc w.prefix v.prefix s) ∙ c.is (w.prefix ++ (v.prefix ++ s))
      ∙ bind_ok f g w.prefix a (v.prefix ++ s) (Err (x.0, s)) (w.stays (v.prefix ++ s)
      (head_same v.prefix s x.1 e ∙ ap (λ (ls : List Letter). slice_get ls 0) (sym v.parts))) (v.stays s e);
}

first_then : {A B : Type 0} (f : Reader A) (g : A → Reader B) (h : Reader B) (first : Language A) (second : A → Language B)
    (both : Language B) → Chain f g h first second both
    → (ls : List Letter) → ((a : A) (r : List Letter) → f ls ≡ Ok (a, r) → By (g a) (second a) r (g a r)) → (t : Reads A) → f ls ≡ t
    → By f first ls t → By h both ls (t >>= λ x. g x.0 x.1)
first_then f g h first second both c ls next (Ok x) same w = second_then f g h first second both c ls x.0 x.1 w (g x.0 x.1) (next x.0 x.1 same)
first_then {A} f g h first second both c ls next (Err x) same w = record {
  prefix = w.prefix;
  parts = w.parts;
  value = (c.completes w.value).0;
  spells = λ k. let m = (c.completes w.value).1 k in let q = w.spells m.0
      in (q.0, c.says w.value (c.completes w.value).0 (without_flags w.prefix ++ q.0) m.0 k q.1 m.1, q.2);
  stays = λ s e. c.is (w.prefix ++ s) ∙ ap (λ (t : Reads A). t >>= λ x. g x.0 x.1) (w.stays s e);
}

pub by_then : {A B : Type 0} (f : Reader A) (g : A → Reader B) (h : Reader B) (first : Language A) (second : A → Language B)
    (both : Language B) → Chain f g h first second both
    → (ls : List Letter) → By f first ls (f ls) → ((a : A) (r : List Letter) → f ls ≡ Ok (a, r) → By (g a) (second a) r (g a r)) → By h both ls (h ls)
by_then f g h first second both c ls w next = subst (λ (t : Reads _). By h both ls t) (sym (c.is ls))
    (first_then f g h first second both c ls next (f ls) refl w)

-- ---- a token, or something else

pub taken_is : {A B : Type 0} (t : Terminal A) (l : Letter) (p : Option Code × A) → is_among t.kinds l ≡ true → t.says l ≡ p
    → (g : A → Reader B) (s : List Letter) (other : Reads B) → if_taken t (l ∷ s) g other ≡ if_unflagged p l s (λ a. g a s)
taken_is {A} t l p e h g s other = ap (λ (b : Bool). cond b (if_unflagged (t.says l) l s (λ a. g a s)) other) e
    ∙ ap (λ (q : Option Code × A). if_unflagged q l s (λ a. g a s)) h

pub other_is : {A B : Type 0} (t : Terminal A) (l : Letter) → is_among t.kinds l ≡ false
    → (g : A → Reader B) (s : List Letter) (other : Reads B) → if_taken t (l ∷ s) g other ≡ other
other_is {A} t l e g s other = ap (λ (b : Bool). cond b (if_unflagged (t.says l) l s (λ a. g a s)) other) e

-- A reader that reads a token and then goes on, or else is another.
pub record Branch {A B : Type 0} (t : Terminal A) (g : A → Reader B) (other : Reader B) (h : Reader B) (left : A → Language B)
    (right : Language B) (both : Language B) : Type 0 where
  pub is : (ls : List Letter) → h ls ≡ if_taken t ls g (other ls)
  pub taken : (a : A) (y : B) (m n k : FlaggedLetters) → IsTaken t a m n → left a y n k → both y m k
  pub else : (y : B) (m k : FlaggedLetters) → right y m k → both y m k
  pub completes : (a : A) → Completes (left a)

by_terminal : {A B : Type 0} (t : Terminal A) (g : A → Reader B) (other : Reader B) (h : Reader B) (left : A → Language B)
    (right : Language B) (both : Language B) → Branch t g other h left right both
    → (l : Letter) (rest : List Letter) → is_among t.kinds l ≡ true → (p : Option Code × A) → t.says l ≡ p
    → ((a : A) → By (g a) (left a) rest (g a rest)) → By h both (l ∷ rest) (if_unflagged p l rest (λ a. g a rest))
by_terminal t g other h left right both c l rest e (None, a) same next = by_result (g a rest) (next a)
  where
    token : (n : FlaggedLetters) → IsTaken t a ((l, None) ∷ n) n
    token n = (l, e, ap (λ (q : Option Code × _). q.1) same, ap (λ (q : Option Code × _). (l, q.0) ∷ n) (sym same))

    reads : (s : List Letter) → h (l ∷ s) ≡ g a s
    reads s = c.is (l ∷ s) ∙ taken_is t l (None, a) e same g s (other (l ∷ s))

    by_result : (r : Reads _) → By (g a) (left a) rest r → By h both (l ∷ rest) r
    by_result (Ok x) w = record {
      prefix = l ∷ w.prefix;
      parts = ap (λ (s : List Letter). l ∷ s) w.parts;
      spells = λ k. c.taken a x.0 ((l, None) ∷ (without_flags w.prefix ++ k)) (without_flags w.prefix ++ k) k
          (token (without_flags w.prefix ++ k)) (w.spells k);
      stays = λ s h. reads (w.prefix ++ s) ∙ w.stays s h;
    }
    by_result (Err x) w = record {
      prefix = l ∷ w.prefix;
      parts = ap (λ (s : List Letter). l ∷ s) w.parts;
      value = w.value;
      spells = λ k. let q = w.spells k in (
        q.0,
        c.taken a w.value ((l, None) ∷ (without_flags w.prefix ++ q.0))
            (without_flags w.prefix ++ q.0) k (token (without_flags w.prefix ++ q.0)) q.1,
        q.2,
      );
      stays = λ s h. reads (w.prefix ++ s) ∙ w.stays s h;
    }
by_terminal t g other h left right both c l rest e (Some x, a) same next = record {
  prefix = [];
  parts = refl;
  value = (c.completes a).0;
  spells = λ k. let m = (c.completes a).1 k in (
    (l, Some x) ∷ m.0,
    c.taken a (c.completes a).0 ((l, Some x) ∷ m.0) m.0 k
        (l, e, ap (λ (q : Option Code × _). q.1) same, ap (λ (q : Option Code × _). (l, q.0) ∷ m.0) (sym same)) m.1,
    inr
        (l, m.0, (refl, refl)),
  );
  stays = for_head (λ s. h s ≡ Err (x, s)) l (λ s. c.is (l ∷ s) ∙ taken_is t l (Some x, a) e same g s (other (l ∷ s)));
}

else_then : {A B : Type 0} (t : Terminal A) (g : A → Reader B) (other : Reader B) (h : Reader B) (left : A → Language B)
    (right : Language B) (both : Language B) → Branch t g other h left right both
    → (ls : List Letter) → ((s : List Letter) → slice_get s 0 ≡ slice_get ls 0 → h s ≡ other s) → (r : Reads B) → By other right ls r → By h both ls r
else_then t g other h left right both c ls same (Ok x) w = record {
  prefix = w.prefix;
  parts = w.parts;
  spells = λ k. c.else x.0 (without_flags w.prefix ++ k) k (w.spells k);
  stays = λ s e. same (w.prefix ++ s) (head_same w.prefix s x.1 e ∙ ap (λ (ls : List Letter). slice_get ls 0) (sym w.parts)) ∙ w.stays s e;
}
else_then t g other h left right both c ls same (Err x) w = record {
  prefix = w.prefix;
  parts = w.parts;
  value = w.value;
  spells = λ k. let q = w.spells k in (q.0, c.else w.value (without_flags w.prefix ++ q.0) k q.1, q.2);
  stays = λ s e. same (w.prefix ++ s) (head_same w.prefix s x.1 e ∙ ap (λ (ls : List Letter). slice_get ls 0) (sym w.parts)) ∙ w.stays s e;
}

branch_by : {A B : Type 0} (t : Terminal A) (g : A → Reader B) (other : Reader B) (h : Reader B) (left : A → Language B)
    (right : Language B) (both : Language B) → Branch t g other h left right both
    → (l : Letter) (rest : List Letter) → ((a : A) → By (g a) (left a) rest (g a rest)) → By other right (l ∷ rest) (other (l ∷ rest))
    → (b : Bool) → is_among t.kinds l ≡ b → By h both (l ∷ rest) (h (l ∷ rest))
branch_by t g other h left right both c l rest next w true e =
    subst (λ (r : Reads _). By h both (l ∷ rest) r) (sym (c.is (l ∷ rest) ∙ taken_is t l (t.says l) e refl g rest (other (l ∷ rest))))
    (by_terminal t g other h left right both c l rest e (t.says l) refl next)
branch_by t g other h left right both c l rest next w false e =
    let here : (s : List Letter) → h (l ∷ s) ≡ other (l ∷ s) = λ s. c.is (l ∷ s) ∙ other_is t l e g s (other (l ∷ s)) in
    subst (λ (r : Reads _). By h both (l ∷ rest) r) (sym (here rest)) (else_then t g other h left right both c (l ∷ rest)
    (for_head (λ s. h s ≡ other s) l here) (other (l ∷ rest)) w)

pub by_branch : {A B : Type 0} (t : Terminal A) (g : A → Reader B) (other : Reader B) (h : Reader B) (left : A → Language B)
    (right : Language B) (both : Language B) → Branch t g other h left right both
    → (ls : List Letter) → ((l : Letter) (rest : List Letter) → ls ≡ l ∷ rest → (a : A) → By (g a) (left a) rest (g a rest))
    → By other right ls (other ls) → By h both ls (h ls)
by_branch t g other h left right both c [] next w =
    subst (λ (r : Reads _). By h both [] r) (sym (c.is [])) (else_then t g other h left right both c []
    (for_no_head (λ s. h s ≡ other s) (c.is [])) (other []) w)
by_branch t g other h left right both c (l ∷ rest) next w = branch_by t g other h left right both c l rest (next l rest refl) w (is_among t.kinds l) refl

-- nothing is read
pub by_nothing : {A : Type 0} (f : Reader A) (says : Language A) (a : A) (ls : List Letter) → ((s : List Letter) → f s ≡ Ok (a, s))
    → ((k : FlaggedLetters) → says a k k) → By f says ls (f ls)
by_nothing f says a ls e h = subst (λ (r : Reads _). By f says ls r) (sym (e ls)) (record { prefix = []; parts = refl; spells = h; stays = λ s h. e s })

no_rule_stays : {A : Type 0} (ls s : List Letter) → slice_get s 0 ≡ slice_get ls 0 → no_rule {A = A × List Letter} s ≡ Err (own_code ls, s)
no_rule_stays {A} [] = for_no_head (λ s. no_rule {A = A × List Letter} s ≡ Err (own_code [], s)) refl
no_rule_stays {A} (l ∷ ls) = for_head (λ s. no_rule {A = A × List Letter} s ≡ Err (own_code (l ∷ ls), s)) l (λ s. own_is l ls s)
  where
    own_is : (l : Letter) (ls s : List Letter) → no_rule {A = A × List Letter} (l ∷ s) ≡ Err (own_code (l ∷ ls), l ∷ s)
    own_is (Bad c) ls s = refl
    own_is l ls s = refl

-- no rule goes on
pub by_no_rule : {A : Type 0} (says : Language A) (ls : List Letter) → Completes says → By no_rule says ls (no_rule ls)
by_no_rule says ls c = record { prefix = []; parts = refl; value = c.0; spells = λ k. let m = c.1 k in (m.0, m.1, inl refl); stays = no_rule_stays ls }
