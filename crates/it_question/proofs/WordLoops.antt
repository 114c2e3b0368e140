-- A loop over lines that begin with one word, turn by turn, as code reads it. In each, `total` is what the whole loop reads.
use Rattle.std.proofs.Common.{◌≡◌, ℕ, List, [], ◌∷◌, Option, Some, None, Ok, Err, sym, ap, ◌∙◌, Bool, true, false, cond, refl}
use Rattle.it_forms.specs.declared.types.Code.{Code}
use Rattle.it_forms.specs.Letters.{Letter}
use Rattle.it_forms.specs.Reads.{Reads}
use Rattle.it_forms.specs.Forms.{Keyword, is_among, Form, Give, Then}
use Rattle.it_forms.specs.FormReading.{read}
use Rattle.it_forms.specs.FormReading.{after}
use Rattle.it_forms.specs.Words.{word, flagged_word, each_flagged}
use Rattle.it_syntax.specs.declared.rest.Stop.{Stop}
use Rattle.it_syntax.specs.Gives.{StopsAs}
use Rattle.it_syntax.proofs.Loops.{after_with_flags, each_goes, each_stops, each_ends, loop_flagged}

-- the word under a flag
flagged_after : (w : List ℕ) (flag m : Option Code) (ls tail : List Letter) → flag ≡ m → after (word w) ls ≡ Some ((None, tt), tail)
    → after (flagged_word w flag) ls ≡ Some ((m, tt), tail)
flagged_after w flag m ls tail h e = after_with_flags (Keyword w ∷ []) (λ l. tt) (λ u. flag) tt ls tail e ∙ ap (λ (k : Option Code). Some ((k, tt), tail)) h

none_after : (w : List ℕ) (flag : Option Code) (ls : List Letter) → after (word w) ls ≡ None → after (flagged_word w flag) ls ≡ None
none_after w flag [] e = refl
none_after w flag (l ∷ ls) e = by_test (is_among (Keyword w ∷ []) l) e
  where
    by_test : (x : Bool) → cond {A = Option ((Option Code × Unit {0}) × List Letter)} x (Some ((None, tt), ls)) None ≡ None
        → cond {A = Option ((Option Code × Unit {0}) × List Letter)} x (Some ((flag, tt), ls)) None ≡ None
    by_test true e = absurd cc
    by_test false e = refl

module _ {A C : Type 0} (w : List ℕ) (flag : A → Option Code) (item : A → Form C) (put : A → C → A) (a : A) (ls : List Letter)
    (total : Reads A) (so_far : read (each_flagged w flag item put a) ls ≡ total) where
  -- one more turn
  pub word_goes : (c : C) (tail rest : List Letter) → flag a ≡ None → after (word w) ls ≡ Some ((None, tt), tail)
      → read (item a) tail ≡ Ok (c, rest) → read (each_flagged w flag item put (put a c)) rest ≡ total
  word_goes c tail rest m e h = each_goes (Keyword w ∷ []) (λ a l. (flag a, tt)) (λ a u. item a) put a tt c ls tail rest total
      (flagged_after w (flag a) None ls tail m e) h so_far

  -- a turn stops
  pub word_stops : (stop : Stop) (tail rest : List Letter) → flag a ≡ None → after (word w) ls ≡ Some ((None, tt), tail)
      → StopsAs stop rest (read (item a) tail) → StopsAs stop rest total
  word_stops stop tail rest m e h = each_stops (Keyword w ∷ []) (λ a l. (flag a, tt)) (λ a u. item a) put a tt ls tail rest stop total
      (flagged_after w (flag a) None ls tail m e) h so_far

  -- the word is flagged
  pub word_flagged : (c : Code) (tail : List Letter) → flag a ≡ Some c → after (word w) ls ≡ Some ((None, tt), tail) → total ≡ Err (c, ls)
  word_flagged c tail m e = sym so_far ∙ loop_flagged (Keyword w ∷ []) (λ a l. (flag a, tt))
      (λ a u. Then (item a) (λ c. Give (put a c))) a tt c ls tail (flagged_after w (flag a) (Some c) ls tail m e)

  -- the loop is over
  pub word_ends : after (word w) ls ≡ None → total ≡ Ok (a, ls)
  word_ends e = each_ends (Keyword w ∷ []) (λ a l. (flag a, tt)) (λ a u. item a) put a ls total (none_after w (flag a) ls e) so_far
