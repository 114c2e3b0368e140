use Rattle.std.proofs.Common.{ℕ, ◌≡◌, Option, Some, arith, ap, ◌∙◌, sym}
use Rattle.it_question.specs.Cursors.{line_view}
use Rattle.it_question.proofs.PlaceLemmas.{place_is, column_is}
use Rattle.it_question.proofs.places.place_in.Goals as goal

abbrev place_at : ℕ → ℕ → Option (ℕ × ℕ)
place_at line column = Some (line, column)

same_place : (line : ℕ) {a b : ℕ} → a ≡ b → place_at line b ≡ place_at line a
same_place line e = sym (ap (place_at line) e)

pub returns : goal.returns
returns c =
    let line = c.args.line.now in
    let e = c.column.ensures ∙ column_is line.tokens.tokens.items c.as_slice-2.result.now line.tokens.misspelling c.len.result c.args.at
    c.as_slice-2.ensures.value (omega (arith, c.len.ensures)) c.requires in
    place_is (line_view line) c.args.at c.requires ∙ same_place line.number e
