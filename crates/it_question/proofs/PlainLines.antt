-- A line of tokens alone holds no comment, tab, line feed or carriage return, so it stays as it is when it is read as a line.
use Rattle.std.proofs.Common.{◌≡◌, ℕ, ◌==◌, ◌&&◌, Bool, true, false, not, cond, List, [], ◌∷◌, ◌++◌, map, None, refl, sym, ap, ◌∙◌, subst}
use Rattle.it_forms.specs.declared.types.Symbol.{Symbol}
use Rattle.it_forms.specs.declared.types.Symbol.TheVariants.{LeftParen, RightParen, Comma, Semicolon, Bar, Plus, Minus, Arrow, AtLeast, AtMost, Equal, Assign, Slash}
use Rattle.it_syntax.specs.declared.types.Token.{Token}
use Rattle.it_syntax.specs.declared.types.TokenKind.{TokenKind}
use Rattle.it_syntax.specs.declared.types.TokenKind.TheVariants as kinds
use Rattle.it_syntax.specs.Misspellings.{SpellsUntil}
use Rattle.std.specs.Char.{is_ascii_digit}
use Rattle.it_syntax.specs.Spelling.{is_word_byte, is_space, AreAll, IsText}
use Rattle.it_forms.specs.SymbolTexts.{symbol_text}
use Rattle.it_syntax.proofs.TokenLemmas.{other_byte}
use Rattle.it_syntax.proofs.RunLemmas.{value_digits}
use Rattle.it_question.specs.Lines.{in_front, split_lines, without_return, before_comment, without_tab, plain_text}

-- none of the bytes that are read otherwise
abbrev pub is_plain : ℕ → Bool
is_plain b = not (b == 9) && (not (b == 10) && (not (b == 13) && not (b == 35)))

record IsPlain (b : ℕ) : Type 0 where
  no_tab : (b == 9) ≡ false
  no_feed : (b == 10) ≡ false
  no_return : (b == 13) ≡ false
  no_comment : (b == 35) ≡ false

is_so : (b : ℕ) → is_plain b ≡ true → IsPlain b
is_so b e = let k = by_tests (b == 9) (b == 10) (b == 13) (b == 35) e in record { no_tab = k.0; no_feed = k.1; no_return = k.2; no_comment = k.3 }
  where
    by_tests : (a b c d : Bool) → (not a && (not b && (not c && not d))) ≡ true → (a ≡ false) × (b ≡ false) × (c ≡ false) × (d ≡ false)
    by_tests true b c d e = absurd cc
    by_tests false true c d e = absurd cc
    by_tests false false true d e = absurd cc
    by_tests false false false true e = absurd cc
    by_tests false false false false e = (refl, refl, refl, refl)

-- ---- bytes of tokens

-- a kind of bytes that has none of the others
all_plain : (f : ℕ → Bool) → f 9 ≡ false → f 10 ≡ false → f 13 ≡ false → f 35 ≡ false → (bytes : List ℕ) → AreAll f bytes → AreAll is_plain bytes
all_plain f tab feed return comment [] h = tt
all_plain f tab feed return comment (b ∷ bytes) h = (
  rw (other_byte f 9 tab b h.0, other_byte f 10 feed b h.0, other_byte f 13 return b h.0, other_byte f 35 comment b h.0) refl,
  all_plain
      f tab feed return comment bytes h.1,
)

symbol_plain : (s : Symbol) → AreAll is_plain (symbol_text s)
symbol_plain LeftParen = (refl, tt)
symbol_plain RightParen = (refl, tt)
symbol_plain Comma = (refl, tt)
symbol_plain Semicolon = (refl, tt)
symbol_plain Bar = (refl, tt)
symbol_plain Plus = (refl, tt)
symbol_plain Minus = (refl, tt)
symbol_plain Arrow = (refl, (refl, tt))
symbol_plain AtLeast = (refl, (refl, tt))
symbol_plain AtMost = (refl, (refl, tt))
symbol_plain Equal = (refl, tt)
symbol_plain Assign = (refl, (refl, tt))
symbol_plain Slash = (refl, tt)

text_plain : (k : TokenKind) (text : List ℕ) → IsText k text → AreAll is_plain text
unfolding is_word_byte
text_plain kinds.Word text h = all_plain is_word_byte refl refl refl refl text h.1
text_plain (kinds.Number n) text h = all_plain is_ascii_digit refl refl refl refl text (value_digits 0 text n h.1)
text_plain (kinds.Symbol s) text h = subst (AreAll is_plain) (sym h) (symbol_plain s)

all_join : (f : ℕ → Bool) (a b : List ℕ) → AreAll f a → AreAll f b → AreAll f (a ++ b)
all_join f [] b h g = g
all_join f (x ∷ a) b h g = (h.0, all_join f a b h.1 g)

-- what is spelled without a misspelling
pub spelled_plain : (at : ℕ) (bytes : List ℕ) (ts : List Token) → SpellsUntil at bytes ts None → AreAll is_plain bytes
spelled_plain at bytes [] h = all_plain is_space refl refl refl refl bytes h
spelled_plain at bytes (t ∷ ts) h =
    let c = h.1 in
    subst (AreAll is_plain) (sym c.whole) (all_join is_plain c.gap (c.text ++ h.0) (all_plain is_space refl refl refl refl c.gap c.blank)
    (all_join is_plain c.text h.0 (text_plain t.kind c.text c.spelled) (spelled_plain t.end h.0 ts h.2)))

-- ---- read as a line

no_return : (line : List ℕ) → AreAll is_plain line → without_return line ≡ line
no_return [] h = refl
no_return (b ∷ []) h = ap (λ (t : Bool). cond t [] (b ∷ [])) (is_so b h.0).no_return
no_return (b ∷ c ∷ line) h = ap (λ (t : List ℕ). b ∷ t) (no_return (c ∷ line) h.1)

no_comment : (line : List ℕ) → AreAll is_plain line → before_comment line ≡ line
no_comment [] h = refl
no_comment (b ∷ line) h = ap (λ (t : Bool). cond t [] (b ∷ before_comment line)) (is_so b h.0).no_comment ∙ ap (λ (t : List ℕ). b ∷ t) (no_comment line h.1)

no_tab : (line : List ℕ) → AreAll is_plain line → map without_tab line ≡ line
no_tab [] h = refl
no_tab (b ∷ line) h = ap (λ (t : Bool). cond t 32 b ∷ map without_tab line) (is_so b h.0).no_tab ∙ ap (λ (t : List ℕ). b ∷ t) (no_tab line h.1)

-- it is read as it is
pub plain_same : (line : List ℕ) → AreAll is_plain line → plain_text line ≡ line
plain_same line h = ap (λ (t : List ℕ). map without_tab (before_comment t)) (no_return line h) ∙ ap (map without_tab) (no_comment line h) ∙ no_tab line h

-- with a line feed after it, it is the first line
pub plain_first : (line rest : List ℕ) → AreAll is_plain line → split_lines (line ++ 10 ∷ rest) ≡ line ∷ split_lines rest
plain_first [] rest h = refl
plain_first (b ∷ line) rest h =
    let more = split_lines (line ++ 10 ∷ rest) in
    ap (λ (t : Bool). cond t ([] ∷ more) (in_front b more)) (is_so b h.0).no_feed ∙ ap (in_front b) (plain_first line rest h.1)
