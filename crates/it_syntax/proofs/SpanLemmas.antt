-- Tokens lie in their line.
use Rattle.std.proofs.Common.{◌≡◌, ℕ, zero, suc, ◌<◌, ◌≤◌, List, [], ◌∷◌, length, drop, arith}
use Rattle.std.proofs.Math.ListN.{get_or}
use Rattle.it_syntax.specs.declared.types.Token.{Token}
use Rattle.it_syntax.specs.declared.types.TokenKind.{TokenKind}
use Rattle.it_syntax.specs.declared.types.TokenKind.TheVariants as kinds
use Rattle.std.specs.Char.{is_ascii_alphabetic}
use Rattle.it_syntax.specs.Spelling.{IsText, StartsWith}
use Rattle.it_syntax.specs.Spans.{IsLength, InLine}

some_first : (text : List ℕ) → StartsWith is_ascii_alphabetic text → 1 ≤ length text
some_first [] h = absurd h
some_first (b ∷ bs) h = omega arith

-- a token is as long as its text may be
pub text_length : (k : TokenKind) (text : List ℕ) (n : ℕ) → n ≡ length text → IsText k text → IsLength k n
text_length kinds.Word text n e t = (omega (arith, e, some_first text t.0), omega (arith, e, t.2))
text_length (kinds.Number v) text n e t = tt
text_length (kinds.Symbol s) text n e t = tt

pub in_line_drop : (line : List ℕ) (ts : List Token) (n : ℕ) → InLine line ts → InLine line (drop n ts)
in_line_drop line [] zero h = tt
in_line_drop line [] (suc n) h = tt
in_line_drop line (t ∷ ts) zero h = h
in_line_drop line (t ∷ ts) (suc n) h = in_line_drop line ts n h.2

-- stands in for a token that isn't there
abbrev pub no_token : Token
no_token = record { kind = kinds.Word; start = 0; end = 0 }

-- each token takes bytes of its line
pub in_line_at : (line : List ℕ) (ts : List Token) (i : ℕ) (d : Token) → i < length ts → InLine line ts
    → ((get_or ts i d).start ≤ (get_or ts i d).end) × ((get_or ts i d).end ≤ length line)
in_line_at line [] i d lt h = absurd (omega (arith, lt))
in_line_at line (t ∷ ts) zero d lt h = h.0
in_line_at line (t ∷ ts) (suc i) d lt h = in_line_at line ts i d (omega (arith, lt)) h.2
