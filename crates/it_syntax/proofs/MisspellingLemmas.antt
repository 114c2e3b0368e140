-- A line is one list of tokens, up to at most one misspelling.
use Rattle.std.proofs.Common.{◌≡◌, ℕ, ◌+◌, ◌-◌, Bool, false, List, [], ◌∷◌, ◌++◌, length, take, drop, Option, Some, None, refl, ap, sym, subst, ◌∙◌, arith, length-drop, length-take, length-append, append_assoc}
use Rattle.std.proofs.lemmas.List.{append-nil, drop_at, take-append-drop}
use Rattle.it_forms.specs.declared.types.Code.{Code}
use Rattle.it_forms.specs.declared.types.Code.TheVariants as codes
use Rattle.it_syntax.specs.declared.types.Misspelling.{Misspelling}
use Rattle.it_syntax.specs.declared.types.Token.{Token}
use Rattle.it_syntax.specs.declared.types.TokenKind.{TokenKind}
use Rattle.it_syntax.specs.declared.types.TokenKind.TheVariants as kinds
use Rattle.it_syntax.specs.Prefixes.{IsLongestRun}
use Rattle.it_syntax.specs.ReaderSteps.{IsTokenPrefix}
use Rattle.it_syntax.specs.Misspellings.{BeginsNothing, IsWrong, IsMisspellingAt, SpellsUntil, LineTokensAreOne}
use Rattle.it_syntax.specs.Spans.{InLine}
use Rattle.std.specs.Char.{is_ascii_alphabetic, is_ascii_digit}
use Rattle.it_syntax.specs.Spelling.{is_space, AreAll, StartsWith, Stops, Cut}
use Rattle.it_syntax.proofs.SpanLemmas.{text_length}
use Rattle.it_syntax.proofs.TokenLemmas.{run_of_text, run_once, blank_run, run_all, not_space, both_starts, found_of, one_cut, cut_made, gap_run, blank_none, word_long, number_large}

starts_stop : (f : ℕ → Bool) → f 32 ≡ false → (body : List ℕ) → StartsWith f body → Stops is_space body
starts_stop f n [] h = elim h [ ]
starts_stop f n (b ∷ body) h = not_space f n b h

nothing_stops : (body : List ℕ) → BeginsNothing body → Stops is_space body
nothing_stops [] h = tt
nothing_stops (b ∷ body) h = h.2

wrong_stops : (c : Code) (body : List ℕ) → IsWrong c body → Stops is_space body
wrong_stops codes.Byte body h = nothing_stops body h
wrong_stops codes.Many body h = starts_stop is_ascii_alphabetic refl body h.0
wrong_stops codes.Number body h = starts_stop is_ascii_digit refl body h.0
wrong_stops c body h = absurd h

wrong_some : (c : Code) → IsWrong c [] → ⊥
wrong_some codes.Byte h = h
wrong_some codes.Many h = h.0
wrong_some codes.Number h = h.0
wrong_some c h = h

nothing_front : (k : TokenKind) (n : ℕ) (body : List ℕ) → BeginsNothing body → IsTokenPrefix k n body → ⊥
nothing_front k n [] h s = elim h [ ]
nothing_front kinds.Word n (b ∷ body) h s = let x = h.0 in let y = s.0 in absurd cc
nothing_front (kinds.Number v) n (b ∷ body) h s = let x = h.1 in let y = s.0 in absurd cc
nothing_front (kinds.Symbol r) n (b ∷ body) h s = let x = h.3 in let y = s.0 in absurd cc

-- what is wrong is no token
wrong_prefix : (c : Code) (k : TokenKind) (n : ℕ) (body : List ℕ) → IsWrong c body → IsTokenPrefix k n body → ⊥
wrong_prefix codes.Byte k n body h s = nothing_front k n body h s
wrong_prefix codes.Many k n body h s = word_long h.1.0 body h.0 h.1.1.0 h.1.1.1 k n s
wrong_prefix codes.Number k n body h s = number_large h.1.0 body h.0 h.1.1.0 h.1.1.1 k n s
wrong_prefix c k n body h s = absurd h

no_letter : (body : List ℕ) → BeginsNothing body → StartsWith is_ascii_alphabetic body → ⊥
no_letter [] h s = elim h [ ]
no_letter (b ∷ body) h s = let x = h.0 in absurd cc

no_digit : (body : List ℕ) → BeginsNothing body → StartsWith is_ascii_digit body → ⊥
no_digit [] h s = elim h [ ]
no_digit (b ∷ body) h s = let x = h.1 in absurd cc

-- what stands there is wrong by one code
wrong_one : (c d : Code) (body : List ℕ) → IsWrong c body → IsWrong d body → c ≡ d
wrong_one codes.Byte codes.Byte body h k = refl
wrong_one codes.Byte codes.Many body h k = absurd (no_letter body h k.0)
wrong_one codes.Byte codes.Number body h k = absurd (no_digit body h k.0)
wrong_one codes.Many codes.Byte body h k = absurd (no_letter body k h.0)
wrong_one codes.Many codes.Many body h k = refl
wrong_one codes.Many codes.Number body h k = absurd (both_starts body h.0 k.0)
wrong_one codes.Number codes.Byte body h k = absurd (no_digit body k h.0)
wrong_one codes.Number codes.Many body h k = absurd (both_starts body k.0 h.0)
wrong_one codes.Number codes.Number body h k = refl
wrong_one codes.Byte d body h k = absurd k
wrong_one codes.Many d body h k = absurd k
wrong_one codes.Number d body h k = absurd k
wrong_one c d body h k = absurd h

wrong_run : (at : ℕ) (bytes : List ℕ) (m : Misspelling) (h : IsMisspellingAt at bytes m) → IsLongestRun is_space bytes (length h.gap)
wrong_run at bytes m h = subst (λ (b : List ℕ). IsLongestRun is_space b (length h.gap)) (sym h.whole)
    (run_of_text is_space h.gap h.body h.blank (wrong_stops m.code h.body h.wrong))

wrong_body : (at : ℕ) (bytes : List ℕ) (m : Misspelling) (h : IsMisspellingAt at bytes m) → drop (length h.gap) bytes ≡ h.body
wrong_body at bytes m h = ap (λ (b : List ℕ). drop (length h.gap) b) h.whole ∙ drop_at h.gap h.body (length h.gap) refl

blank_or_wrong : (at : ℕ) (bytes : List ℕ) (m : Misspelling) → IsMisspellingAt at bytes m → AreAll is_space bytes → ⊥
blank_or_wrong at bytes m h k = not_wrong h.body
    (omega (
      arith,
      run_once is_space bytes (length h.gap) (length bytes) (wrong_run at bytes m h)
          (blank_run is_space bytes k),
      ap length h.whole,
      length-append h.gap h.body,
    )) h.wrong
  where
    not_wrong : (body : List ℕ) → length body ≡ 0 → IsWrong m.code body → ⊥
    not_wrong [] e w = wrong_some m.code w
    not_wrong (b ∷ body) e w = omega (arith, e)

token_or_wrong : (at : ℕ) (bytes : List ℕ) (m : Misspelling) (t : Token) (rest : List ℕ) → IsMisspellingAt at bytes m → Cut at bytes t rest → ⊥
token_or_wrong at bytes m t rest h c =
    let f = found_of at (length h.gap) bytes t rest (wrong_run at bytes m h) c in
    wrong_prefix m.code t.kind (t.end - t.start) h.body h.wrong (subst (λ (b : List ℕ). IsTokenPrefix t.kind (t.end - t.start) b)
    (wrong_body at bytes m h) f.shape)

misspelling_at : ℕ → Code → Misspelling
misspelling_at column code = record { column = column; code = code }

same_misspelling : (at : ℕ) (bytes : List ℕ) (m k : Misspelling) → IsMisspellingAt at bytes m → IsMisspellingAt at bytes k → m ≡ k
unfolding misspelling_at
same_misspelling at bytes m k h g =
    let gaps : length h.gap ≡ length g.gap = run_once is_space bytes (length h.gap) (length g.gap) (wrong_run at bytes m h) (wrong_run at bytes k g) in
    let bodies : h.body ≡ g.body = sym (wrong_body at bytes m h) ∙ ap (λ (n : ℕ). drop n bytes) gaps ∙ wrong_body at bytes k g in
    let codes : m.code ≡ k.code = wrong_one m.code k.code g.body (subst (λ (b : List ℕ). IsWrong m.code b) bodies h.wrong) g.wrong in
    let columns : m.column ≡ k.column = omega (arith, h.column, g.column, gaps) in
    ap (λ (n : ℕ). misspelling_at n m.code) columns ∙ ap (λ (c : Code). misspelling_at k.column c) codes

until_one : (at : ℕ) (bytes : List ℕ) (ts us : List Token) (m k : Option Misspelling) → SpellsUntil at bytes ts m
    → SpellsUntil at bytes us k → (ts ≡ us) × (m ≡ k)
until_one at bytes [] [] None None h g = (refl, refl)
until_one at bytes [] [] None (Some k) h g = absurd (blank_or_wrong at bytes k g h)
until_one at bytes [] [] (Some m) None h g = absurd (blank_or_wrong at bytes m h g)
until_one at bytes [] [] (Some m) (Some k) h g = (refl, ap (λ (x : Misspelling). Some x) (same_misspelling at bytes m k h g))
until_one at bytes [] (u ∷ us) None k h g = absurd (blank_none at (length g.1.gap) bytes u g.0 (gap_run at bytes u g.0 g.1) g.1 h)
until_one at bytes [] (u ∷ us) (Some m) k h g = absurd (token_or_wrong at bytes m u g.0 h g.1)
until_one at bytes (t ∷ ts) [] m None h g = absurd (blank_none at (length h.1.gap) bytes t h.0 (gap_run at bytes t h.0 h.1) h.1 g)
until_one at bytes (t ∷ ts) [] m (Some k) h g = absurd (token_or_wrong at bytes k t h.0 g h.1)
until_one at bytes (t ∷ ts) (u ∷ us) m k h g =
    let one = one_cut at bytes (length h.1.gap) t u h.0 g.0 (gap_run at bytes t h.0 h.1) h.1 g.1 in
    let rest : SpellsUntil t.end h.0 us k = subst (λ (r : List ℕ). SpellsUntil t.end r us k) (sym one.1)
    (subst (λ (v : Token). SpellsUntil v.end g.0 us k) (sym one.0) g.2) in
    let more = until_one t.end h.0 ts us m k h.2 rest in
    (ap (λ (v : Token). v ∷ ts) one.0 ∙ ap (λ (vs : List Token). u ∷ vs) more.0, more.1)

-- a line has one reading
pub line_tokens_are_one : LineTokensAreOne
line_tokens_are_one line = until_one 0 line

-- ---- the loop

-- the tokens so far, whatever is left
abbrev pub GoesOn : List ℕ → List Token → ℕ → List ℕ → Type 0
GoesOn line so_far at rest = (ts : List Token) (m : Option Misspelling) → SpellsUntil at rest ts m → SpellsUntil 0 line (so_far ++ ts) m

-- one more token
pub goes_on_more : (line : List ℕ) (so_far : List Token) (at g n : ℕ) (rest : List ℕ) (t : Token) → IsLongestRun is_space rest g
    → IsTokenPrefix t.kind n (drop g rest) → t.start ≡ at + g → t.end ≡ t.start + n
    → GoesOn line so_far at rest → GoesOn line (so_far ++ t ∷ []) t.end (drop n (drop g rest))
goes_on_more line so_far at g n rest t run shape start end w ts m h =
    subst (λ (us : List Token). SpellsUntil 0 line us m) (sym (append_assoc so_far (t ∷ []) ts))
    (w (t ∷ ts) m (drop n (drop g rest), cut_made at g n rest t run shape start end, h))

-- nothing but spaces is left
pub ends_blank : (line : List ℕ) (so_far : List Token) (at g : ℕ) (rest : List ℕ) → IsLongestRun is_space rest g → length (drop g rest) ≡ 0
    → GoesOn line so_far at rest → SpellsUntil 0 line so_far None
ends_blank line so_far at g rest run e w = subst (λ (ts : List Token). SpellsUntil 0 line ts None) (append-nil so_far)
    (w [] None (run_all is_space rest g run.all (omega (arith, length-drop g rest, e))))

-- a misspelling is left
pub ends_wrong : (line : List ℕ) (so_far : List Token) (at g : ℕ) (rest : List ℕ) (m : Misspelling) → IsLongestRun is_space rest g
    → IsWrong m.code (drop g rest) → m.column ≡ at + g + 1 → GoesOn line so_far at rest → SpellsUntil 0 line so_far (Some m)
ends_wrong line so_far at g rest m run wrong column w =
    subst (λ (ts : List Token). SpellsUntil 0 line ts (Some m)) (append-nil so_far) (w [] (Some m) (record {
      gap = take g rest;
      body = drop g rest;
      whole = sym (take-append-drop g rest);
      blank = run.all;
      wrong = wrong;
      column = omega (arith, column, gap_length);
    }))
  where
    gap_length : length (take g rest) ≡ g
    gap_length = omega (arith, length-take g rest, run.within)

-- ---- places

until_within : (line : List ℕ) (at : ℕ) (bytes : List ℕ) (ts : List Token) (m : Option Misspelling) → at + length bytes ≡ length line
    → SpellsUntil at bytes ts m → InLine line ts
until_within line at bytes [] m e h = tt
until_within line at bytes (t ∷ ts) m e h =
    let c = h.1 in
    let total : length bytes ≡ length c.gap + (length c.text + length h.0) = ap length c.whole ∙ length-append c.gap (c.text ++ h.0)
    ∙ ap (λ (n : ℕ). length c.gap + n) (length-append c.text h.0) in
    let end : t.end + length h.0 ≡ length line = omega (arith, c.start, c.end, total, e) in (
      (omega (arith, c.end), omega (arith, end)),
      text_length t.kind c.text (t.end - t.start)
          (omega (arith, c.end)) c.spelled,
      until_within line t.end h.0 ts m end h.2,
    )

-- the tokens of a line lie in it
pub until_in_line : (line : List ℕ) (ts : List Token) (m : Option Misspelling) → SpellsUntil 0 line ts m → InLine line ts
until_in_line line ts m h = until_within line 0 line ts m (omega arith) h
