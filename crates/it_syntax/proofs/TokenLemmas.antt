-- The tokens of a line: one token, and no other, stands in front.
use Rattle.std.proofs.Common.{◌≡◌, ℕ, zero, suc, ◌+◌, ◌-◌, ◌<◌, ◌≤◌, ◌^◌, Bool, true, false, cond, ◌&&◌, List, [], ◌∷◌, ◌++◌, length, take, drop, Some, IsSomeAnd, refl, ap, sym, subst, ◌∙◌, arith, length-take, length-drop, inl, inr, ◌⊎◌, length-append}
use Rattle.std.specs.Prelude.{◌==◌, find}
use Rattle.std.specs.List.{starts_with}
use Rattle.std.proofs.lemmas.Slice.Eq.{starts_is}
use Rattle.std.proofs.lemmas.List.{take_at, drop_at, take-append-drop}
use Rattle.std.proofs.lemmas.Bool.Decides.{Decides-eqb, eqb_tells, nat_tests}
use Rattle.it_number.specs.Decimals.{value_from}
use Rattle.it_forms.specs.declared.types.Symbol.{Symbol}
use Rattle.it_forms.specs.declared.types.Symbol.TheVariants.{LeftParen, RightParen, Comma, Semicolon, Bar, Plus, Minus, Arrow, AtLeast, AtMost, Equal, Assign, Slash}
use Rattle.it_syntax.specs.declared.types.TokenKind.{TokenKind}
use Rattle.it_syntax.specs.declared.types.TokenKind.TheVariants as kinds
use Rattle.it_syntax.specs.declared.types.Token.{Token}
use Rattle.std.specs.Char.{is_ascii_alphabetic, is_ascii_digit}
use Rattle.it_syntax.specs.Spelling.{is_word_byte, is_space, AreAll, StartsWith, Stops, IsText, EndsToken, Cut}
use Rattle.it_forms.specs.SymbolTexts.{symbol_text}
use Rattle.it_syntax.specs.Prefixes.{IsLongestRun, symbol_of}
use Rattle.it_syntax.specs.ReaderSteps.{IsTokenPrefix}
use Rattle.it_syntax.proofs.RunLemmas.{value_digits}

-- ---- runs

pub run_of_text : (f : ℕ → Bool) (text rest : List ℕ) → AreAll f text → Stops f rest → IsLongestRun f (text ++ rest) (length text)
run_of_text f [] rest h s = record { within = omega arith; all = tt; stops = s }
run_of_text f (b ∷ text) rest h s = let r = run_of_text f text rest h.1 s in record { within = omega (arith, r.within); all = (h.0, r.all); stops = r.stops }

pub run_once : (f : ℕ → Bool) (bs : List ℕ) (n m : ℕ) → IsLongestRun f bs n → IsLongestRun f bs m → n ≡ m
run_once f [] n m r s = omega (arith, r.within, s.within)
run_once f (b ∷ bs) zero zero r s = refl
run_once f (b ∷ bs) zero (suc m) r s = let x = r.stops in let y = s.all.0 in absurd cc
run_once f (b ∷ bs) (suc n) zero r s = let x = s.stops in let y = r.all.0 in absurd cc
run_once f (b ∷ bs) (suc n) (suc m) r s = ap suc (run_once f bs n m
    (record { within = omega (arith, r.within); all = r.all.1; stops = r.stops })
    (record { within = omega (arith, s.within); all = s.all.1; stops = s.stops }))

pub blank_run : (f : ℕ → Bool) (xs : List ℕ) → AreAll f xs → IsLongestRun f xs (length xs)
blank_run f [] h = record { within = omega arith; all = tt; stops = tt }
blank_run f (x ∷ xs) h = let r = blank_run f xs h.1 in record { within = omega (arith, r.within); all = (h.0, r.all); stops = r.stops }

pub run_all : (f : ℕ → Bool) (xs : List ℕ) (g : ℕ) → AreAll f (take g xs) → length xs ≤ g → AreAll f xs
run_all f [] g h le = tt
run_all f (x ∷ xs) zero h le = absurd (omega arith)
run_all f (x ∷ xs) (suc g) h le = (h.0, run_all f xs g h.1 (omega arith))

-- ---- first bytes

-- a kind of bytes that has not this byte
pub other_byte : (f : ℕ → Bool) (c : ℕ) → f c ≡ false → (b : ℕ) → f b ≡ true → (b == c) ≡ false
other_byte f c no_c b h =
    elim (eqb_tells b c) [
      | inl e ↦ let same = e.1 in let k : f c ≡ true = subst (λ (x : ℕ). f x ≡ true) same h in absurd cc
      | inr e ↦ e.0
    ]

no_letter : (s : Symbol) (rest : List ℕ) → StartsWith is_ascii_alphabetic (symbol_text s ++ rest) → ⊥
no_letter LeftParen rest h = absurd cc
no_letter RightParen rest h = absurd cc
no_letter Comma rest h = absurd cc
no_letter Semicolon rest h = absurd cc
no_letter Bar rest h = absurd cc
no_letter Plus rest h = absurd cc
no_letter Minus rest h = absurd cc
no_letter Arrow rest h = absurd cc
no_letter AtLeast rest h = absurd cc
no_letter AtMost rest h = absurd cc
no_letter Equal rest h = absurd cc
no_letter Assign rest h = absurd cc
no_letter Slash rest h = absurd cc

no_digit : (s : Symbol) (rest : List ℕ) → StartsWith is_ascii_digit (symbol_text s ++ rest) → ⊥
no_digit LeftParen rest h = absurd cc
no_digit RightParen rest h = absurd cc
no_digit Comma rest h = absurd cc
no_digit Semicolon rest h = absurd cc
no_digit Bar rest h = absurd cc
no_digit Plus rest h = absurd cc
no_digit Minus rest h = absurd cc
no_digit Arrow rest h = absurd cc
no_digit AtLeast rest h = absurd cc
no_digit AtMost rest h = absurd cc
no_digit Equal rest h = absurd cc
no_digit Assign rest h = absurd cc
no_digit Slash rest h = absurd cc

no_both : (b : ℕ) → is_ascii_alphabetic b ≡ true → is_ascii_digit b ≡ true → ⊥
no_both b h k = grind (arith, nat_tests)

-- ---- symbols

cond_either : {A : Type 0} (b : Bool) (x y z : A) → cond b x y ≡ z → ((b ≡ true) × (x ≡ z)) ⊎ ((b ≡ false) × (y ≡ z))
cond_either true x y z e = inl (refl, e)
cond_either false x y z e = inr (refl, e)

find_is : (ss : List Symbol) (bytes : List ℕ) (s : Symbol) → find (λ s. starts_with ◌==◌ bytes (symbol_text s)) ss ≡ Some s
    → starts_with ◌==◌ bytes (symbol_text s) ≡ true
find_is [] bytes s e = absurd cc
find_is (x ∷ ss) bytes s e =
    elim (cond_either (starts_with ◌==◌ bytes (symbol_text x)) (Some x) (find (λ s. starts_with ◌==◌ bytes (symbol_text s)) ss) (Some s) e) [
      | inl p ↦ let same : x ≡ s = cc in subst (λ (y : Symbol). starts_with ◌==◌ bytes (symbol_text y) ≡ true) same p.0
      | inr p ↦ find_is ss bytes s p.1
    ]

symbol_spelled : (s : Symbol) (rest : List ℕ) → EndsToken (kinds.Symbol s) rest → symbol_of (symbol_text s ++ rest) ≡ Some s
unfolding symbol_of
symbol_spelled Minus [] h = refl
symbol_spelled Minus (c ∷ rest) h = rw h refl
symbol_spelled LeftParen rest h = refl
symbol_spelled RightParen rest h = refl
symbol_spelled Comma rest h = refl
symbol_spelled Semicolon rest h = refl
symbol_spelled Bar rest h = refl
symbol_spelled Plus rest h = refl
symbol_spelled Arrow rest h = refl
symbol_spelled AtLeast rest h = refl
symbol_spelled AtMost rest h = refl
symbol_spelled Equal rest h = refl
symbol_spelled Assign rest h = refl
symbol_spelled Slash rest h = refl

minus_ends : (rest : List ℕ) → symbol_of (45 ∷ rest) ≡ Some Minus → Stops (λ b. 62 == b) rest
unfolding symbol_of
minus_ends [] e = tt
minus_ends (c ∷ rest) e = by_test (62 == c) rest e
  where
    by_test : (b : Bool) (rest : List ℕ) → cond (b && true) (Some Arrow) (Some Minus) ≡ Some Minus → b ≡ false
    by_test true rest e = absurd cc
    by_test false rest e = refl

symbol_is : (s : Symbol) (body : List ℕ) → symbol_of body ≡ Some s → body ≡ symbol_text s ++ drop (length (symbol_text s)) body
unfolding symbol_of
symbol_is s body e = (starts_is Decides-eqb body (symbol_text s) true (sym
    (find_is (Arrow ∷ AtLeast ∷ AtMost ∷ Assign ∷ LeftParen ∷ RightParen ∷ Comma ∷ Semicolon ∷ Bar ∷ Plus ∷ Minus ∷ Equal ∷ Slash ∷ []) body
    s e))).0 refl

symbol_ends : (s : Symbol) (rest : List ℕ) → symbol_of (symbol_text s ++ rest) ≡ Some s → EndsToken (kinds.Symbol s) rest
symbol_ends Minus rest e = minus_ends rest e
symbol_ends LeftParen rest e = tt
symbol_ends RightParen rest e = tt
symbol_ends Comma rest e = tt
symbol_ends Semicolon rest e = tt
symbol_ends Bar rest e = tt
symbol_ends Plus rest e = tt
symbol_ends Arrow rest e = tt
symbol_ends AtLeast rest e = tt
symbol_ends AtMost rest e = tt
symbol_ends Equal rest e = tt
symbol_ends Assign rest e = tt
symbol_ends Slash rest e = tt

-- ---- a token in front

starts_prefix : (f : ℕ → Bool) (text rest : List ℕ) → StartsWith f text → StartsWith f (text ++ rest)
starts_prefix f [] rest h = elim h [ ]
starts_prefix f (b ∷ text) rest h = h

-- a token and what ends it have a shape
pub shape_of : (k : TokenKind) (text rest : List ℕ) → IsText k text → EndsToken k rest → IsTokenPrefix k (length text) (text ++ rest)
shape_of kinds.Word text rest t e = (starts_prefix is_ascii_alphabetic text rest t.0, run_of_text is_word_byte text rest t.1 e, t.2)
shape_of (kinds.Number v) text rest t e = (
  starts_prefix is_ascii_digit text rest t.0,
  run_of_text is_ascii_digit text rest
      (value_digits 0 text v t.1) e,
  rw (take_at text rest (length text) refl) t.1,
  t.2,
)
shape_of (kinds.Symbol s) text rest t e = (subst (λ (u : List ℕ). symbol_of (u ++ rest) ≡ Some s) (sym t) (symbol_spelled s rest e), ap length t)

starts_take : (f g : ℕ → Bool) (body : List ℕ) (n : ℕ) → StartsWith f body → IsLongestRun g body n → ((b : ℕ) → f b ≡ true → g b ≡ true)
    → StartsWith f (take n body)
starts_take f g [] n h r i = elim h [ ]
starts_take f g (b ∷ body) zero h r i = let x = i b h in let y = r.stops in absurd cc
starts_take f g (b ∷ body) (suc n) h r i = h

letter_wordly : (b : ℕ) → is_ascii_alphabetic b ≡ true → is_word_byte b ≡ true
unfolding is_word_byte
letter_wordly b h = rw h refl

-- and back
pub shape_text : (k : TokenKind) (n : ℕ) (body : List ℕ) → IsTokenPrefix k n body → IsText k (take n body) × (EndsToken k (drop n body) × (n ≤ length body))
shape_text kinds.Word n body h = (
  (
    starts_take is_ascii_alphabetic is_word_byte body n h.0 h.1 letter_wordly,
    h.1.all,
    omega (arith, length-take n body, h.2),
  ),
  (h.1.stops, h.1.within),
)
shape_text (kinds.Number v) n body h = ((starts_take is_ascii_digit is_ascii_digit body n h.0 h.1 (λ b e. e), h.2, h.3), (h.1.stops, h.1.within))
shape_text (kinds.Symbol s) n body h =
    let is : body ≡ symbol_text s ++ drop (length (symbol_text s)) body = symbol_is s body h.0 in
    let there : symbol_of (symbol_text s ++ drop (length (symbol_text s)) body) ≡ Some s = ap symbol_of (sym is) ∙ h.0 in
    let taken : take (length (symbol_text s)) body ≡ symbol_text s = ap (take (length (symbol_text s))) is
    ∙ take_at (symbol_text s) _ (length (symbol_text s)) refl in (
      ap (λ (m : ℕ). take m body) h.1 ∙ taken,
      (
        subst (λ (m : ℕ). EndsToken (kinds.Symbol s) (drop m body)) (sym h.1)
            (symbol_ends s _ there),
        omega (arith, h.1, ap length is, length-append (symbol_text s) (drop (length (symbol_text s)) body)),
      ),
    )

-- the kind and the length are those of one token
first_letter : (f : ℕ → Bool) (s : Symbol) (body : List ℕ) → symbol_of body ≡ Some s → StartsWith f body
    → StartsWith f (symbol_text s ++ drop (length (symbol_text s)) body)
first_letter f s body e h = subst (StartsWith f) (symbol_is s body e) h

pub both_starts : (body : List ℕ) → StartsWith is_ascii_alphabetic body → StartsWith is_ascii_digit body → ⊥
both_starts [] h k = elim h [ ]
both_starts (b ∷ body) h k = no_both b h k

pub one_shape : (k l : TokenKind) (n m : ℕ) (body : List ℕ) → IsTokenPrefix k n body → IsTokenPrefix l m body → (k ≡ l) × (n ≡ m)
one_shape kinds.Word kinds.Word n m body g h = (refl, run_once is_word_byte body n m g.1 h.1)
one_shape kinds.Word (kinds.Number v) n m body g h = absurd (both_starts body g.0 h.0)
one_shape kinds.Word (kinds.Symbol s) n m body g h = absurd (no_letter s _ (first_letter is_ascii_alphabetic s body h.0 g.0))
one_shape (kinds.Number v) kinds.Word n m body g h = absurd (both_starts body h.0 g.0)
one_shape (kinds.Number v) (kinds.Number w) n m body g h =
    let same : n ≡ m = run_once is_ascii_digit body n m g.1 h.1 in
    let values : Some v ≡ Some w = sym g.2 ∙ ap (λ (i : ℕ). value_from 0 (take i body)) same ∙ h.2 in
    let value : v ≡ w = cc in
    (ap kinds.Number value, same)
one_shape (kinds.Number v) (kinds.Symbol s) n m body g h = absurd (no_digit s _ (first_letter is_ascii_digit s body h.0 g.0))
one_shape (kinds.Symbol s) kinds.Word n m body g h = absurd (no_letter s _ (first_letter is_ascii_alphabetic s body g.0 h.0))
one_shape (kinds.Symbol s) (kinds.Number v) n m body g h = absurd (no_digit s _ (first_letter is_ascii_digit s body g.0 h.0))
one_shape (kinds.Symbol s) (kinds.Symbol r) n m body g h =
    let x = g.0 in let y = h.0 in
    let same : s ≡ r = cc in
    (ap kinds.Symbol same, g.1 ∙ ap (λ (t : Symbol). length (symbol_text t)) same ∙ sym h.1)

-- ---- a line

pub not_space : (f : ℕ → Bool) → f 32 ≡ false → (b : ℕ) → f b ≡ true → is_space b ≡ false
not_space f n b h = other_byte f 32 n b h

text_stops : (k : TokenKind) (text rest : List ℕ) → IsText k text → Stops is_space (text ++ rest)
text_stops kinds.Word [] rest t = elim (t.0) [ ]
text_stops kinds.Word (b ∷ text) rest t = not_space is_ascii_alphabetic refl b t.0
text_stops (kinds.Number v) [] rest t = elim (t.0) [ ]
text_stops (kinds.Number v) (b ∷ text) rest t = not_space is_ascii_digit refl b t.0
text_stops (kinds.Symbol s) text rest t = subst (λ (u : List ℕ). Stops is_space (u ++ rest)) (sym t) (symbol_stops s rest)
  where
    symbol_stops : (s : Symbol) (rest : List ℕ) → Stops is_space (symbol_text s ++ rest)
    symbol_stops LeftParen rest = refl
    symbol_stops RightParen rest = refl
    symbol_stops Comma rest = refl
    symbol_stops Semicolon rest = refl
    symbol_stops Bar rest = refl
    symbol_stops Plus rest = refl
    symbol_stops Minus rest = refl
    symbol_stops Arrow rest = refl
    symbol_stops AtLeast rest = refl
    symbol_stops AtMost rest = refl
    symbol_stops Equal rest = refl
    symbol_stops Assign rest = refl
    symbol_stops Slash rest = refl

-- what a cut tells of the bytes after the spaces
pub record Found (at g : ℕ) (body : List ℕ) (t : Token) (rest : List ℕ) : Type 0 where
  pub shape : IsTokenPrefix t.kind (t.end - t.start) body
  pub start : t.start ≡ at + g
  pub end : t.end ≡ t.start + (t.end - t.start)
  pub rest_is : rest ≡ drop (t.end - t.start) body

-- a cut is found after the spaces
pub found_of : (at g : ℕ) (bytes : List ℕ) (t : Token) (rest : List ℕ) → IsLongestRun is_space bytes g → Cut at bytes t rest → Found at g (drop g bytes) t rest
found_of at g bytes t rest r c =
    let gap_run : IsLongestRun is_space bytes (length c.gap) = subst (λ (b : List ℕ). IsLongestRun is_space b (length c.gap)) (sym c.whole)
    (run_of_text is_space c.gap (c.text ++ rest) c.blank (text_stops t.kind c.text rest c.spelled)) in
    let gap_is : length c.gap ≡ g = run_once is_space bytes (length c.gap) g gap_run r in
    let body_is : drop g bytes ≡ c.text ++ rest = ap (λ (b : List ℕ). drop g b) c.whole ∙ drop_at c.gap (c.text ++ rest) g gap_is in
    let n_is : t.end - t.start ≡ length c.text = omega (arith, c.end) in
    let s : IsTokenPrefix t.kind (length c.text) (c.text ++ rest) = shape_of t.kind c.text rest c.spelled c.ends in
    record {
      shape = subst (λ (b : List ℕ). IsTokenPrefix t.kind (t.end - t.start) b) (sym body_is)
          (subst (λ (n : ℕ). IsTokenPrefix t.kind n (c.text ++ rest)) (sym n_is) s);
      start = c.start ∙ ap (λ (n : ℕ). at + n) gap_is;
      end = omega (arith, c.end);
      rest_is = sym (ap (λ (b : List ℕ). drop (t.end - t.start) b) body_is ∙ drop_at c.text rest (t.end - t.start) (sym n_is));
    }

-- a shape after the spaces is a cut
pub cut_made : (at g n : ℕ) (bytes : List ℕ) (t : Token) → IsLongestRun is_space bytes g → IsTokenPrefix t.kind n (drop g bytes)
    → t.start ≡ at + g → t.end ≡ t.start + n → Cut at bytes t (drop n (drop g bytes))
cut_made at g n bytes t r s start end =
    let x = shape_text t.kind n (drop g bytes) s in
    record {
      gap = take g bytes;
      text = take n (drop g bytes);
      whole = sym (ap (λ (b : List ℕ). take g bytes ++ b) (take-append-drop n (drop g bytes)) ∙ take-append-drop g bytes);
      blank = r.all;
      spelled = x.0;
      ends = x.1.0;
      start = start ∙ omega (arith, length-take g bytes, r.within);
      end = end ∙ omega (arith, length-take n (drop g bytes), x.1.1);
    }

token_at : TokenKind → ℕ → ℕ → Token
token_at k s e = record { kind = k; start = s; end = e }

same_token : (t u : Token) → t.kind ≡ u.kind → t.start ≡ u.start → t.end ≡ u.end → t ≡ u
unfolding token_at
same_token t u p q r = ap (λ (k : TokenKind). token_at k t.start t.end) p ∙ ap (λ (n : ℕ). token_at u.kind n t.end) q
    ∙ ap (λ (n : ℕ). token_at u.kind u.start n) r

-- a cut is one
pub one_cut : (at : ℕ) (bytes : List ℕ) (g : ℕ) (t u : Token) (r s : List ℕ) → IsLongestRun is_space bytes g → Cut at bytes t r
    → Cut at bytes u s → (t ≡ u) × (r ≡ s)
one_cut at bytes g t u r s run c d =
    let f = found_of at g bytes t r run c in
    let h = found_of at g bytes u s run d in
    let one = one_shape t.kind u.kind (t.end - t.start) (u.end - u.start) (drop g bytes) f.shape h.shape in
    let start_is : t.start ≡ u.start = f.start ∙ sym h.start in
    let end_is : t.end ≡ u.end = omega (arith, f.end, h.end, one.1, start_is) in
    (same_token t u one.0 start_is end_is, f.rest_is ∙ ap (λ (n : ℕ). drop n (drop g bytes)) one.1 ∙ sym h.rest_is)

-- a token has bytes
pub shape_some : (k : TokenKind) (n : ℕ) (body : List ℕ) → IsTokenPrefix k n body → 0 < n
shape_some k n body h = text_some k n (take n body) (shape_text k n body h).0 (omega (arith, length-take n body, (shape_text k n body h).1.1))
  where
    text_some : (k : TokenKind) (n : ℕ) (text : List ℕ) → IsText k text → length text ≡ n → 0 < n
    text_some kinds.Word n [] t e = elim (t.0) [ ]
    text_some kinds.Word n (b ∷ text) t e = omega (arith, e)
    text_some (kinds.Number v) n [] t e = elim (t.0) [ ]
    text_some (kinds.Number v) n (b ∷ text) t e = omega (arith, e)
    text_some (kinds.Symbol s) n text t e = omega (arith, e, ap length t, symbol_some s)
      where
        symbol_some : (s : Symbol) → 0 < length (symbol_text s)
        symbol_some LeftParen = omega arith
        symbol_some RightParen = omega arith
        symbol_some Comma = omega arith
        symbol_some Semicolon = omega arith
        symbol_some Bar = omega arith
        symbol_some Plus = omega arith
        symbol_some Minus = omega arith
        symbol_some Arrow = omega arith
        symbol_some AtLeast = omega arith
        symbol_some AtMost = omega arith
        symbol_some Equal = omega arith
        symbol_some Assign = omega arith
        symbol_some Slash = omega arith

-- ---- no token in front

-- spaces alone have no token in front
pub blank_none : (at g : ℕ) (rest : List ℕ) (t : Token) (r : List ℕ) → IsLongestRun is_space rest g → Cut at rest t r → AreAll is_space rest → ⊥
blank_none at g rest t r run c h =
    let f = found_of at g rest t r run c in
    let e = run_once is_space rest g (length rest) run (blank_run is_space rest h) in
    omega (
      arith,
      length-drop g rest,
      e,
      shape_some t.kind (t.end - t.start) (drop g rest) f.shape,
      (shape_text t.kind (t.end - t.start) (drop g rest) f.shape).1.1,
    )

-- a word past the limit in front, and yet no token
pub word_long : (n : ℕ) (body : List ℕ) → StartsWith is_ascii_alphabetic body → IsLongestRun is_word_byte body n → 16 < n
    → (k : TokenKind) (m : ℕ) → IsTokenPrefix k m body → ⊥
word_long n body h r lt kinds.Word m s = omega (arith, run_once is_word_byte body n m r s.1, s.2)
word_long n body h r lt (kinds.Number v) m s = both_starts body h s.0
word_long n body h r lt (kinds.Symbol x) m s = no_letter x _ (first_letter is_ascii_alphabetic x body s.0 h)

-- a number past the limit in front, and yet no token
pub number_large : (n : ℕ) (body : List ℕ) → StartsWith is_ascii_digit body → IsLongestRun is_ascii_digit body n
    → IsSomeAnd (value_from 0 (take n body)) (λ v. 2 ^ 64 ≤ v) → (k : TokenKind) (m : ℕ) → IsTokenPrefix k m body → ⊥
number_large n body h r le kinds.Word m s = both_starts body s.0 h
number_large n body h r le (kinds.Number v) m s =
    let same : value_from 0 (take n body) ≡ Some v = ap (λ (i : ℕ). value_from 0 (take i body)) (run_once is_ascii_digit body n m r s.1) ∙ s.2 in
    let large : 2 ^ 64 ≤ v = subst (λ o. IsSomeAnd o (λ v. 2 ^ 64 ≤ v)) same le in
    omega (arith, large, s.3)
number_large n body h r le (kinds.Symbol x) m s = no_digit x _ (first_letter is_ascii_digit x body s.0 h)

-- the test for emptiness
pub empty_len : (n : ℕ) → true ≡ (n == 0) → n ≡ 0
empty_len n e = (Decides-eqb n 0).0 (sym e)

-- ---- the spaces in front

pub gap_run : (at : ℕ) (bytes : List ℕ) (t : Token) (rest : List ℕ) (c : Cut at bytes t rest) → IsLongestRun is_space bytes (length c.gap)
gap_run at bytes t rest c = subst (λ (b : List ℕ). IsLongestRun is_space b (length c.gap)) (sym c.whole)
    (run_of_text is_space c.gap (c.text ++ rest) c.blank (text_stops t.kind c.text rest c.spelled))
