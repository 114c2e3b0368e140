-- Each line has its tokens, up to a misspelling.
use Rattle.std.proofs.Common.{◌≡◌, ℕ, zero, suc, ◌+◌, ◌<◌, ◌≤◌, ◌^◌, Bool, true, false, List, [], ◌∷◌, length, take, drop, Option, Some, None, refl, sym, ap, subst, inl, inr, ◌⊎◌, length-drop, length-take, arith}
use Rattle.std.proofs.lemmas.Bool.{cases_lt}
use Rattle.std.proofs.lemmas.List.{take-append-drop}
use Rattle.it_forms.specs.declared.types.Code.{Code}
use Rattle.it_forms.specs.declared.types.Code.TheVariants as codes
use Rattle.it_syntax.specs.declared.types.Misspelling.{Misspelling}
use Rattle.it_forms.specs.declared.types.Symbol.{Symbol}
use Rattle.it_syntax.specs.declared.types.Token.{Token}
use Rattle.it_syntax.specs.declared.types.TokenKind.{TokenKind}
use Rattle.it_syntax.specs.declared.types.TokenKind.TheVariants as kinds
use Rattle.it_syntax.specs.Prefixes.{IsLongestRun, symbol_of}
use Rattle.it_syntax.specs.ReaderSteps.{IsTokenPrefix}
use Rattle.it_syntax.specs.Misspellings.{IsWrong, SpellsUntil}
use Rattle.std.specs.Char.{is_ascii_alphabetic, is_ascii_digit}
use Rattle.it_syntax.specs.Spelling.{is_word_byte, is_space, Stops}
use Rattle.it_forms.specs.SymbolTexts.{symbol_text}
use Rattle.it_syntax.proofs.RunLemmas.{digits_value}
use Rattle.it_syntax.proofs.TokenLemmas.{run_all, cut_made, shape_some}

-- how many bytes of a kind stand in front
pub run_there : (f : ℕ → Bool) (bytes : List ℕ) → (n : ℕ) × IsLongestRun f bytes n
run_there f [] = (0, record { within = omega arith; all = tt; stops = tt })
run_there f (b ∷ bytes) = by_test (f b) refl (run_there f bytes)
  where
    by_test : (t : Bool) → f b ≡ t → (n : ℕ) × IsLongestRun f bytes n → (n : ℕ) × IsLongestRun f (b ∷ bytes) n
    by_test true e r = (suc r.0, record { within = omega (arith, r.1.within); all = (e, r.1.all); stops = r.1.stops })
    by_test false e r = (0, record { within = omega arith; all = tt; stops = e })

-- a token stands in front, or something wrong
abbrev Prefix : List ℕ → Type 0
Prefix body = ((k : TokenKind) × (n : ℕ) × IsTokenPrefix k n body) ⊎ ((c : Code) × IsWrong c body)

word_prefix : (b : ℕ) (bytes : List ℕ) → is_ascii_alphabetic b ≡ true → Prefix (b ∷ bytes)
word_prefix b bytes e = by_run (run_there is_word_byte (b ∷ bytes))
  where
    by_run : (n : ℕ) × IsLongestRun is_word_byte (b ∷ bytes) n → Prefix (b ∷ bytes)
    by_run r = elim (cases_lt 16 r.0) [
      | inl h ↦ inr (codes.Many, (e, (r.0, (r.1, h))))
      | inr h ↦ inl (kinds.Word, r.0, (e, r.1, h))
    ]

number_prefix : (b : ℕ) (bytes : List ℕ) → is_ascii_digit b ≡ true → Prefix (b ∷ bytes)
number_prefix b bytes e = by_run (run_there is_ascii_digit (b ∷ bytes))
  where
    by_run : (n : ℕ) × IsLongestRun is_ascii_digit (b ∷ bytes) n → Prefix (b ∷ bytes)
    by_run r = let v = digits_value 0 (take r.0 (b ∷ bytes)) r.1.all in elim (cases_lt v.0 (2 ^ 64)) [
      | inl h ↦ inl (kinds.Number v.0, r.0, (e, r.1, v.1, h))
      | inr h ↦ inr (codes.Number, (e, (r.0, (r.1, rw v.1 h))))
    ]

other_prefix : (b : ℕ) (bytes : List ℕ) → is_ascii_alphabetic b ≡ false → is_ascii_digit b ≡ false → is_space b ≡ false
    → (o : Option Symbol) → symbol_of (b ∷ bytes) ≡ o → Prefix (b ∷ bytes)
other_prefix b bytes l d s (Some x) e = inl (kinds.Symbol x, length (symbol_text x), (e, refl))
other_prefix b bytes l d s None e = inr (codes.Byte, (l, d, s, e))

prefix_there : (b : ℕ) (bytes : List ℕ) → is_space b ≡ false → Prefix (b ∷ bytes)
prefix_there b bytes s = by_tests (is_ascii_alphabetic b) (is_ascii_digit b) refl refl
  where
    by_tests : (l d : Bool) → is_ascii_alphabetic b ≡ l → is_ascii_digit b ≡ d → Prefix (b ∷ bytes)
    by_tests true d e h = word_prefix b bytes e
    by_tests false true e h = number_prefix b bytes h
    by_tests false false e h = other_prefix b bytes e h s (symbol_of (b ∷ bytes)) refl

-- the bytes from column `at` on are tokens, up to a misspelling
abbrev pub AreThere : ℕ → List ℕ → Type 0
AreThere at bytes = (ts : List Token) × (m : Option Misspelling) × SpellsUntil at bytes ts m

blank_there : (at : ℕ) (bytes : List ℕ) (g : ℕ) → IsLongestRun is_space bytes g → drop g bytes ≡ [] → AreThere at bytes
blank_there at bytes g run e = ([], None, run_all is_space bytes g run.all (omega (arith, ap length e, length-drop g bytes)))

wrong_there : (at : ℕ) (bytes : List ℕ) (g : ℕ) (c : Code) → IsLongestRun is_space bytes g → IsWrong c (drop g bytes) → AreThere at bytes
wrong_there at bytes g c run wrong = (
  [],
  Some (record { column = at + g + 1; code = c }),
  record {
    gap = take g bytes;
    body = drop g bytes;
    whole = sym (take-append-drop g bytes);
    blank = run.all;
    wrong = wrong;
    column = let e : length (take g bytes) ≡ g = omega (arith, length-take g bytes, run.within) in omega (arith, e);
  },
)

token_there : (at : ℕ) (bytes : List ℕ) (g : ℕ) (k : TokenKind) (n : ℕ) → IsLongestRun is_space bytes g → IsTokenPrefix k n (drop g bytes)
    → AreThere (at + g + n) (drop n (drop g bytes)) → AreThere at bytes
token_there at bytes g k n run shape more =
    let t : Token = record { kind = k; start = at + g; end = at + g + n } in
    (t ∷ more.0, more.1, (drop n (drop g bytes), cut_made at g n bytes t run shape refl refl, more.2))

tokens_step : (at : ℕ) (bytes : List ℕ) → ((at : ℕ) (rest : List ℕ) → length rest < length bytes → AreThere at rest) → AreThere at bytes
tokens_step at bytes more = by_run (run_there is_space bytes)
  where
    by_list : (g : ℕ) → IsLongestRun is_space bytes g → (body : List ℕ) → drop g bytes ≡ body → Stops is_space body → AreThere at bytes
    by_list g run [] e s = blank_there at bytes g run e
    by_list g run (b ∷ body) e s = elim (prefix_there b body s) [
      | inl f ↦
          let shape : IsTokenPrefix f.0 f.1 (drop g bytes) = subst (λ (t : List ℕ). IsTokenPrefix f.0 f.1 t) (sym e) f.2 in
          token_there at bytes g f.0 f.1 run shape (more (at + g + f.1) (drop f.1 (drop g bytes))
          (omega (arith, length-drop g bytes, length-drop f.1 (drop g bytes), ap length e, shape_some f.0 f.1 (drop g bytes) shape)))
      | inr f ↦ wrong_there at bytes g f.0 run (subst (λ (t : List ℕ). IsWrong f.0 t) (sym e) f.1)
    ]

    by_run : (g : ℕ) × IsLongestRun is_space bytes g → AreThere at bytes
    by_run r = by_list r.0 r.1 (drop r.0 bytes) refl r.1.stops

tokens_there_within : (fuel : ℕ) (at : ℕ) (bytes : List ℕ) → length bytes ≤ fuel → AreThere at bytes
tokens_there_within zero at bytes le = tokens_step at bytes (λ a rest lt. absurd (omega arith))
tokens_there_within (suc fuel) at bytes le = tokens_step at bytes (λ a rest lt. tokens_there_within fuel a rest (omega arith))

-- a line has its tokens
pub tokens_there : (line : List ℕ) → AreThere 0 line
tokens_there line = tokens_there_within (length line) 0 line (omega arith)
