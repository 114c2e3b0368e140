use Rattle.std.proofs.Common.{◌≡◌, ◌≤◌, ◌-◌, ◌++◌, ◌∷◌, [], List, length, map, Option, ap, sym, ◌∙◌, subst, length-append, arith}
use Rattle.std.proofs.lemmas.List.{length-map, map-append}
use Rattle.std.proofs.lemmas.List.Elements.{All-nil, All-cons, All-append}
use Rattle.std.specs.Prelude.{codes}
use Rattle.it_forms.specs.declared.types.Code.{Code}
use Rattle.it_forms.specs.declared.types.Code.TheVariants.{Many}
use Rattle.it_forms.specs.FormReading.{read}
use Rattle.it_forms.specs.Words.{word, limit_flag, to_end}
use Rattle.it_syntax.proofs.Loops.{no_limit, rest_is_shorter}
use Rattle.it_question.specs.Cursors.{letters_left}
use Rattle.it_question.proofs.WordLoops.{word_goes, word_stops, word_flagged, word_ends}
use Rattle.it_copy.specs.declared.types.CopyLine.{CopyLine}
use Rattle.it_copy.specs.CopyForms.{copy, more_copies}
use Rattle.it_copy.specs.CopyLines.{CopyView, AreNamed, copy_view, most_copies}
use Rattle.it_copy.proofs.copy_lines.copies.Goals as goal

-- the flag of the word of a copy after these
abbrev copy_flag : List CopyView → Option Code
copy_flag cs = limit_flag (most_copies - length cs)

-- one copy more
abbrev with_copy : List CopyView → CopyView → List CopyView
with_copy cs c = cs ++ c ∷ []

-- the name of a copy has 1 to 16 bytes
abbrev IsNamed : CopyLine → Type 0
IsNamed c = (1 ≤ length c.fresh.items) × (length c.fresh.items ≤ 16)

pub returns-then-len-ge-MOST_COPIES-clause-gives : goal.returns-then-len-ge-MOST_COPIES-clause-gives
unfolding more_copies
returns-then-len-ge-MOST_COPIES-clause-gives c =
    let none : most_copies - length (map copy_view c.loop-after.found.items)
    ≡ 0 = omega (arith, length-map c.loop-after.found.items copy_view, c.len.ensures, c.if-len-ge-MOST_COPIES.true) in
    word_flagged (codes "copy") copy_flag (λ cs. to_end copy) with_copy (map copy_view c.loop-after.found.items) (letters_left c.loop-after.cursor) _ c.loop-after.invariant.0 Many _ (ap limit_flag none) c.in-Some.ensures.found

pub loop-after-smaller : goal.loop-after-smaller
loop-after-smaller c = rest_is_shorter (word (codes "copy")) _ _ _ _ _ _ c.in-Some.ensures.found c.in-Ok.ensures.gives

pub loop-after-preserved : goal.loop-after-preserved
unfolding more_copies
loop-after-preserved c =
    let found = c.loop-after.found.items in
    let added = c.in_ok-add-in-Ok.ensures.added in
    let free = no_limit (most_copies - length (map copy_view found))
    (λ e. omega (arith, length-map found copy_view, c.len.ensures, c.if-len-ge-MOST_COPIES.false, e)) in
    let views : map copy_view c.add.new.copies.items ≡ map copy_view found ++ copy_view c.in-Ok.next ∷ [] = ap (map copy_view) added
    ∙ map-append copy_view found (c.in-Ok.next ∷ []) in
    let named : AreNamed (found ++ c.in-Ok.next ∷ []) = All-append IsNamed found (c.in-Ok.next ∷ []) c.loop-after.invariant.1
    (All-cons IsNamed c.in-Ok.next [] c.in-Ok.ensures.length (All-nil IsNamed)) in (
      subst (λ (cs : List CopyView). read (more_copies cs) (letters_left c.copy_to_end.new.cursor)
          ≡ read (more_copies []) (letters_left c.args.cursor.now)) (sym views)
          (word_goes (codes "copy") copy_flag (λ cs. to_end copy) with_copy (map copy_view found) (letters_left c.loop-after.cursor) _ c.loop-after.invariant.0 (copy_view c.in-Ok.next) _ _ free c.in-Some.ensures.found c.in-Ok.ensures.gives),
      subst AreNamed (sym added) named,
      omega (arith, ap length added, length-append found (c.in-Ok.next ∷ []), c.if-len-ge-MOST_COPIES.false, c.len.ensures),
    )

pub returns-in-Err-clause-gives : goal.returns-in-Err-clause-gives
unfolding more_copies
returns-in-Err-clause-gives c =
    let free = no_limit (most_copies - length (map copy_view c.loop-after.found.items))
    (λ e. omega (arith, length-map c.loop-after.found.items copy_view, c.len.ensures, c.if-len-ge-MOST_COPIES.false, e)) in
    word_stops (codes "copy") copy_flag (λ cs. to_end copy) with_copy (map copy_view c.loop-after.found.items) (letters_left c.loop-after.cursor) _ c.loop-after.invariant.0 c.in-Err.stop _ _ free c.in-Some.ensures.found c.in-Err.ensures.gives

pub returns-clause-gives : goal.returns-clause-gives
unfolding more_copies
returns-clause-gives c = word_ends (codes "copy") copy_flag (λ cs. to_end copy) with_copy (map copy_view c.loop-after.found.items) (letters_left c.loop-after.cursor) _ c.loop-after.invariant.0 c.in_default.ensures.none
