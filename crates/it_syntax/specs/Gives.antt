-- The results of the code's readers, compared with those of reading as it is defined.
use Rattle.std.specs.Prelude.{◌≡◌, List, [], Result, Ok, Err}
use Rattle.it_syntax.specs.declared.rest.Stop.{Stop}
use Rattle.it_syntax.specs.declared.rest.Rest.{Rest}
use Rattle.it_forms.specs.Letters.{Letter}
use Rattle.it_forms.specs.Reads.{Reads, Fault}
use Rattle.it_forms.specs.Forms.{Form}
use Rattle.it_forms.specs.FormReading.{read}
use Rattle.it_syntax.specs.Spans.{letters_until, last_letter}
use Rattle.it_syntax.specs.declared.rest.Stop.TheVariants as stops

-- the letters that are left of a line
abbrev pub letters_left : Rest → List Letter
letters_left r = letters_until r.line.now r.tokens.now (last_letter r.misspelling)

-- the code's reader stopped where `read` stops, by the same fault with `rest` left, unless memory ran out
abbrev pub StopsAs : {A : Type 0} → Stop → List Letter → Result A Fault → Type 0
StopsAs stops.Memory rest read = Unit {0}
StopsAs (stops.Fault code) rest read = read ≡ Err (code, rest)

-- the code's reader gave what `read` gives, its value seen by `view`, and left `rest`
abbrev pub GivesBy : {X Y : Type 0} → (X → Y) → Result X Stop → List Letter → Reads Y → Type 0
GivesBy view (Ok x) rest read = read ≡ Ok (view x, rest)
GivesBy view (Err e) rest read = StopsAs e rest read

-- from `before` on the code's reader gave what f reads, its value seen by `view`, and left `rest`
abbrev pub ParsesBy : {X Y : Type 0} → (X → Y) → Result X Stop → Form Y → Rest → Rest → Type 0
ParsesBy view result f before rest = GivesBy view result (letters_left rest) (read f (letters_left before))

-- from `before` on the code's reader gave what f reads, and left `rest`
abbrev pub Parses : {X : Type 0} → Result X Stop → Form X → Rest → Rest → Type 0
Parses result f before rest = ParsesBy (λ x. x) result f before rest

-- the code's reader gave what `read` gives, its value seen by `view`, with nothing left
abbrev pub GivesAll : {X Y : Type 0} → (X → Y) → Result X Stop → List Letter → Reads Y → Type 0
GivesAll view (Ok x) rest read = read ≡ Ok (view x, [])
GivesAll view (Err e) rest read = StopsAs e rest read
