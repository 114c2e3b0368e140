-- A text is the same relation after whatever stands before it in a line.
use Rattle.std.proofs.Common.{◌≡◌, true, ℕ, suc, ◌+◌, ◌-◌, List, [], ◌∷◌, ◌++◌, length, take, drop, map, None, refl, sym, ap, ap₂, ◌∙◌, subst, arith}
use Rattle.it_syntax.specs.declared.types.Token.{Token}
use Rattle.it_syntax.specs.declared.types.TokenKind.{TokenKind}
use Rattle.it_syntax.specs.declared.types.TokenKind.TheVariants as kinds
use Rattle.it_forms.specs.Letters.{Letter, Word, End}
use Rattle.it_forms.specs.FormTexts.{Says}
use Rattle.it_syntax.specs.RelationLines.{relation_line}
use Rattle.it_syntax.specs.Misspellings.{SpellsUntil}
use Rattle.it_syntax.specs.Spans.{letter_of, letters_until}
use Rattle.it_terms.specs.Tells.{TextsMove}

moved : ℕ → Token → Token
moved k t = record { kind = t.kind; start = k + t.start; end = k + t.end }

moved_spelling : (k at at' : ℕ) (bytes : List ℕ) (ts : List Token) → at' ≡ k + at → SpellsUntil at bytes ts None → SpellsUntil at' bytes (map (moved k) ts) None
unfolding moved
moved_spelling k at at' bytes [] e h = h
moved_spelling k at at' bytes (t ∷ ts) e h =
    let c = h.1 in (
      h.0,
      record {
        gap = c.gap;
        text = c.text;
        whole = c.whole;
        blank = c.blank;
        spelled = c.spelled;
        ends = c.ends;
        start
            = omega (arith, c.start, e);
        end = omega (arith, c.end);
      },
      moved_spelling k t.end (k + t.end) h.0 ts refl h.2,
    )

drop_prefix : (prefix line : List ℕ) (i : ℕ) → drop (length prefix + i) (prefix ++ line) ≡ drop i line
drop_prefix [] line i = ap (λ (n : ℕ). drop n line) (let e : 0 + i ≡ i = omega arith in e)
drop_prefix (b ∷ bs) line i = ap (λ (n : ℕ). drop n (b ∷ (bs ++ line)))
    (let e : suc (length bs) + i ≡ suc (length bs + i) = omega arith in e) ∙ drop_prefix bs line i

moved_letter : (prefix line : List ℕ) (start end : ℕ) (kind : TokenKind)
    → letter_of (prefix ++ line) (length prefix + start) (length prefix + end) kind ≡ letter_of line start end kind
moved_letter prefix line start end kinds.Word = ap Word (ap₂ (λ (n : ℕ) (bytes : List ℕ). take n bytes)
    (let e : length prefix + end - (length prefix + start) ≡ end - start = omega arith in e) (drop_prefix prefix line start))
moved_letter prefix line start end (kinds.Number n) = refl
moved_letter prefix line start end (kinds.Symbol s) = refl

moved_letters : (prefix line : List ℕ) (ts : List Token) (last : Letter)
    → letters_until (prefix ++ line) (map (moved (length prefix)) ts) last ≡ letters_until line ts last
unfolding moved
moved_letters prefix line [] last = refl
moved_letters prefix line (t ∷ ts) last = ap₂ (λ (l : Letter) (ls : List Letter). l ∷ ls) (moved_letter prefix line t.start t.end t.kind)
    (moved_letters prefix line ts last)

pub texts_move : TextsMove
texts_move v prefix text r h = record {
  tokens = map (moved (length prefix)) h.tokens;
  spelled = moved_spelling (length prefix) 0 (length prefix) text h.tokens (let e : length prefix ≡ length prefix + 0 = omega arith in e) h.spelled;
  says = subst (λ (ls : List Letter). Says (relation_line v true) ls r) (sym (moved_letters prefix text h.tokens End)) h.says;
}
