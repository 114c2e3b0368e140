-- What a line says in a form, and its first fault: where reading stops, with the place of the token there.
use Rattle.std.proofs.Common.{◌≡◌, ℕ, ◌-◌, ◌≤◌, suc, zero, List, [], ◌∷◌, ◌++◌, length, drop, Err, refl, sym, ap, ◌∙◌, subst, arith, length-append, length-drop, append_assoc}
use Rattle.it_forms.specs.declared.types.Code.{Code}
use Rattle.it_forms.specs.Letters.{Letter}
use Rattle.it_forms.specs.FirstFault.{FirstFault}
use Rattle.it_forms.specs.Forms.{Form}
use Rattle.it_forms.specs.FormReading.{read}
use Rattle.it_forms.specs.FormTexts.{spelling}
use Rattle.it_forms.proofs.FirstFaults.{one_fault}
use Rattle.it_forms.proofs.FormFaults.{first_fault}
use Rattle.it_forms.proofs.Outlines.{Outline, Has}
use Rattle.it_syntax.specs.declared.types.Token.{Token}
use Rattle.it_syntax.specs.declared.types.LineTokens.{LineTokens}
use Rattle.it_syntax.specs.Spans.{letter_of, letters_until, last_letter}
use Rattle.it_syntax.specs.Lines.{letters_from, column_of, column_after, FaultAt}

pub until_length : (line : List ℕ) (ts : List Token) (last : Letter) → length (letters_until line ts last) ≡ suc (length ts)
until_length line [] last = refl
until_length line (t ∷ ts) last = ap suc (until_length line ts last)

suc_minus : (a n : ℕ) → n ≤ a → suc a - n ≡ suc (a - n)
suc_minus a n h = omega (arith, h)

-- what is left of the letters is what is left of the tokens
suffix_is_of_tokens : (line : List ℕ) (ts : List Token) (last : Letter) (prefix r : List Letter) (n : ℕ)
    → letters_until line ts last ≡ prefix ++ r → length r ≡ suc n → (n ≤ length ts)
    × (r ≡ letters_until line (drop (length ts - n) ts) last)
suffix_is_of_tokens line ts last [] r n e h =
    let same : suc n ≡ suc (length ts) = sym h ∙ ap length (sym e) ∙ until_length line ts last in
    let none : length ts - n ≡ 0 = omega (arith, same) in
    (omega (arith, same), sym e ∙ ap (λ (i : ℕ). letters_until line (drop i ts) last) (sym none))
suffix_is_of_tokens line [] last (l ∷ prefix) r n e h =
    let total : 1 ≡ suc (length (prefix ++ r)) = ap length e in
    let parts = length-append prefix r in
    absurd (omega (arith, total, parts, h))
suffix_is_of_tokens line (t ∷ ts) last (l ∷ prefix) r n e h =
    let tails : letters_until line ts last ≡ prefix ++ r = cc in
    let k = suffix_is_of_tokens line ts last prefix r n tails h in
    (omega (arith, k.0), k.1 ∙ ap (λ (i : ℕ). letters_until line (drop i (t ∷ ts)) last) (sym (suc_minus (length ts) n k.0)))

-- the letters of a line end with those of its last tokens
split_letters : (line : List ℕ) (ts : List Token) (last : Letter) (n : ℕ)
    → (prefix : List Letter) × (letters_until line ts last ≡ prefix ++ letters_until line (drop n ts) last)
split_letters line ts last zero = ([], refl)
split_letters line [] last (suc n) = ([], refl)
split_letters line (t ∷ ts) last (suc n) = let k = split_letters line ts last n
    in (letter_of line t.start t.end t.kind ∷ k.0, ap (λ (q : List Letter). letter_of line t.start t.end t.kind ∷ q) k.1)

-- where n tokens are left
left_is : (line : List ℕ) (ts : LineTokens) (from n : ℕ) (prefix r : List Letter) → letters_from line ts from ≡ prefix ++ r
    → length r ≡ suc n → (n ≤ length ts.tokens.items) × (r ≡ letters_from line ts (length ts.tokens.items - n))
left_is line ts from n prefix r e h =
    let last = last_letter ts.misspelling in
    let k = split_letters line ts.tokens.items last from in
    suffix_is_of_tokens line ts.tokens.items last (k.0 ++ prefix) r n (k.1 ∙ ap (λ (q : List Letter). k.0 ++ q) e ∙ sym (append_assoc k.0 prefix r)) h

-- the fault at the letters r has the place of the token from which they come
fault_at : {A : Type 0} (f : Form A) (line : List ℕ) (ts : LineTokens) (from n : ℕ) (c : Code) (r : List Letter)
    → FirstFault (spelling f) (letters_from line ts from) c r → length r ≡ suc n
    → (n ≤ length ts.tokens.items) × FaultAt f line ts from (column_of (drop (length ts.tokens.items - n) ts.tokens.items)
    (column_after ts.tokens.items ts.misspelling)) c
fault_at f line ts from n c r w h =
    let k = left_is line ts from n w.prefix r w.parts h in (
      k.0,
      record {
        at = length ts.tokens.items - n;
        within = omega arith;
        first = subst (λ (q : List Letter). FirstFault (spelling f) (letters_from line ts from) c q) k.1 w;
        place = refl;
      },
    )

-- a reading that stopped did so at the first fault, and left tokens of the line
pub stop_is_fault : {A : Type 0} (f : Form A) (o : Outline) → Has f o
    → (line : List ℕ) (ts : LineTokens) (from : ℕ) (text : List ℕ) (us : List Token) (last : Letter) (c : Code)
    → read f (letters_from line ts from) ≡ Err (c, letters_until text us last)
    → (length us ≤ length ts.tokens.items) × FaultAt f line ts from (column_of (drop (length ts.tokens.items - length us) ts.tokens.items)
    (column_after ts.tokens.items ts.misspelling)) c
stop_is_fault f o h line ts from text us last c e = fault_at f line ts from (length us) c (letters_until text us last)
    (first_fault f o h (letters_from line ts from) c (letters_until text us last) e) (until_length text us last)

from_length : (line : List ℕ) (ts : LineTokens) (n : ℕ) → length (letters_from line ts n) ≡ suc (length ts.tokens.items - n)
from_length line ts n = until_length line (drop n ts.tokens.items) (last_letter ts.misspelling) ∙ ap suc (length-drop n ts.tokens.items)

-- two first faults are one
pub fault_at_one : {A : Type 0} (f : Form A) (line : List ℕ) (ts : LineTokens) (from a b : ℕ) (c d : Code) → FaultAt f line ts from a c
    → FaultAt f line ts from b d → (a ≡ b) × (c ≡ d)
fault_at_one f line ts from a b c d v w =
    let k = one_fault (spelling f) (letters_from line ts from) c d (letters_from line ts v.at) (letters_from line ts w.at) v.first w.first in
    let lengths = sym (from_length line ts v.at) ∙ ap length k.1 ∙ from_length line ts w.at in
    let same : v.at ≡ w.at = omega (arith, lengths, v.within, w.within) in
    (v.place ∙ ap (λ (i : ℕ). column_of (drop i ts.tokens.items) (column_after ts.tokens.items ts.misspelling)) same ∙ sym w.place, k.0)
