use Rattle.std.proofs.Common.{◌≡◌, ℕ, List, [], Ok, arith, subst}
use Rattle.std.proofs.lemmas.Result.{err_from_is_err_and}
use Rattle.it_question.specs.Cursors.{letters_left}
use Rattle.it_question.specs.QuestionLimits.{most_lines, most_names, givens_left, rows_left}
use Rattle.it_question.proofs.LimitLemmas.{declared_space, region_limited}
use Rattle.it_question.proofs.RegionLemmas.{tries_stop, contain_stops, contain_gives, region_under}
use Rattle.it_forms.specs.FormReading.{read}
use Rattle.it_forms.specs.Forms.{Form}
use Rattle.it_syntax.specs.Gives.{StopsAs}
use Rattle.it_syntax.specs.NamesViews.{NamesView}
use Rattle.it_syntax.specs.Scopes.{env_of}
use Rattle.it_question.specs.QuestionForms.{more_tries}
use Rattle.it_question.specs.TrySets.{auxiliary_env, unnamed_sets}
use Rattle.it_question.proofs.regions.containment.Goals as goal

-- the form of the `try` lines where the names of the question and of both regions are these
abbrev tried : NamesView → NamesView → NamesView → ℕ → Form (List (List ℕ))
tried question first second n = more_tries (auxiliary_env question second) (env_of first) (unnamed_sets n) []

with_names : (P : Form (List (List ℕ)) → Type 0) (q a b s t : NamesView) (n m : ℕ) → a ≡ b → s ≡ t → n ≡ m
    → P (tried q a s n) → P (tried q b t m)
with_names P q a b s t n m e g h p = subst (λ (k : ℕ). P (tried q b t k)) h
    (subst (λ (v : NamesView). P (tried q b v n)) g (subst (λ (v : NamesView). P (tried q v s n)) e p))

pub returns-in_err-tries : goal.returns-in_err-tries
returns-in_err-tries c =
    let p = err_from_is_err_and c.from_residual-in_err-tries.result c.from_residual-in_err-tries.ensures.1 in
    rw (p.1, p.2) (tries_stop c.args.lines.now c.args.names.now (letters_left c.args.cursor.now)
    (letters_left c.region.new.cursor) (letters_left c.word.new.cursor) (letters_left c.region-2.new.cursor)
    c.in_ok-first.first c.in_ok-second.second c.givens_left-most_givens.result c.rows_left-most_rows.result
    c.givens_left-givens.result c.rows_left-rows.result
    (record {
      most_givens_are = c.givens_left-most_givens.ensures;
      most_rows_are = c.rows_left-most_rows.ensures;
      one
          = c.in_ok-first.ensures;
      word = c.in_ok-word.ensures;
      givens = rw c.lines.ensures at c.givens_left-givens.ensures;
      rows = rw c.lines-2.ensures at c.rows_left-rows.ensures;
      two
          = c.in_ok-second.ensures;
    }) c.in_err-tries.field-0.0 (letters_left c.tries.new.cursor)
    (with_names (λ form. StopsAs c.in_err-tries.field-0.0 (letters_left c.tries.new.cursor) (read form (letters_left c.region-2.new.cursor)))
    c.args.names.now _ _ _ _ _ _ c.names.ensures c.names-2.ensures c.auxiliaries.ensures c.in_err-tries.ensures))

pub returns-in_err-contain : goal.returns-in_err-contain
returns-in_err-contain c =
    let p = err_from_is_err_and c.from_residual-in_err-contain.result c.from_residual-in_err-contain.ensures.1 in
    rw (p.1, p.2) (contain_stops c.args.lines.now c.args.names.now (letters_left c.args.cursor.now)
    (letters_left c.region.new.cursor) (letters_left c.word.new.cursor) (letters_left c.region-2.new.cursor)
    c.in_ok-first.first c.in_ok-second.second c.givens_left-most_givens.result c.rows_left-most_rows.result
    c.givens_left-givens.result c.rows_left-rows.result
    (record {
      most_givens_are = c.givens_left-most_givens.ensures;
      most_rows_are = c.rows_left-most_rows.ensures;
      one
          = c.in_ok-first.ensures;
      word = c.in_ok-word.ensures;
      givens = rw c.lines.ensures at c.givens_left-givens.ensures;
      rows = rw c.lines-2.ensures at c.rows_left-rows.ensures;
      two
          = c.in_ok-second.ensures;
    }) c.in_ok-tries.tries.items (letters_left c.tries.new.cursor)
    (with_names (λ form. read form (letters_left c.region-2.new.cursor) ≡ Ok (c.in_ok-tries.tries.items, letters_left c.tries.new.cursor))
    c.args.names.now _ _ _ _ _ _ c.names.ensures c.names-2.ensures c.auxiliaries.ensures c.in_ok-tries.ensures)
    c.in_err-contain.field-0.0 (letters_left c.contain.new.cursor) c.in_err-contain.ensures)

pub returns : goal.returns
returns c = contain_gives c.args.lines.now c.args.names.now (letters_left c.args.cursor.now)
    (letters_left c.region.new.cursor) (letters_left c.word.new.cursor) (letters_left c.region-2.new.cursor)
    c.in_ok-first.first c.in_ok-second.second c.givens_left-most_givens.result c.rows_left-most_rows.result
    c.givens_left-givens.result c.rows_left-rows.result
    (record {
      most_givens_are = c.givens_left-most_givens.ensures;
      most_rows_are = c.rows_left-most_rows.ensures;
      one
          = c.in_ok-first.ensures;
      word = c.in_ok-word.ensures;
      givens = rw c.lines.ensures at c.givens_left-givens.ensures;
      rows = rw c.lines-2.ensures at c.rows_left-rows.ensures;
      two
          = c.in_ok-second.ensures;
    }) c.in_ok-tries.tries.items (letters_left c.tries.new.cursor)
    (with_names (λ form. read form (letters_left c.region-2.new.cursor) ≡ Ok (c.in_ok-tries.tries.items, letters_left c.tries.new.cursor))
    c.args.names.now _ _ _ _ _ _ c.names.ensures c.names-2.ensures c.auxiliaries.ensures c.in_ok-tries.ensures)
    (letters_left c.contain.new.cursor) c.in_ok-contain.ensures

pub contain-requires-clause-space : goal.contain-requires-clause-space
contain-requires-clause-space c = declared_space most_names c.args.names.now (omega arith) c.requires.names

pub contain-requires-clause-region : goal.contain-requires-clause-region
contain-requires-clause-region c =
    let own = c.args.lines.now in
    (region_limited own c.args.names.now (letters_left c.args.cursor.now) (letters_left c.region.new.cursor)
    c.in_ok-first.first c.requires.names.few
    (region_under c.givens_left-most_givens.result c.rows_left-most_rows.result (givens_left most_lines own)
    (rows_left most_lines own) c.args.names.now (letters_left c.args.cursor.now) (letters_left c.region.new.cursor)
    c.in_ok-first.first c.givens_left-most_givens.ensures c.rows_left-most_rows.ensures c.in_ok-first.ensures)).region

pub contain-requires-clause-few_givens : goal.contain-requires-clause-few_givens
contain-requires-clause-few_givens c =
    let own = c.args.lines.now in
    let counted = region_limited own c.args.names.now (letters_left c.args.cursor.now) (letters_left c.region.new.cursor)
    c.in_ok-first.first c.requires.names.few
    (region_under c.givens_left-most_givens.result c.rows_left-most_rows.result (givens_left most_lines own)
    (rows_left most_lines own) c.args.names.now (letters_left c.args.cursor.now) (letters_left c.region.new.cursor)
    c.in_ok-first.first c.givens_left-most_givens.ensures c.rows_left-most_rows.ensures c.in_ok-first.ensures) in
    omega (
      arith,
      counted.givens,
      c.requires.lines.few_givens,
    )

pub contain-requires-clause-few_rows : goal.contain-requires-clause-few_rows
contain-requires-clause-few_rows c =
    let own = c.args.lines.now in
    let counted = region_limited own c.args.names.now (letters_left c.args.cursor.now) (letters_left c.region.new.cursor)
    c.in_ok-first.first c.requires.names.few
    (region_under c.givens_left-most_givens.result c.rows_left-most_rows.result (givens_left most_lines own)
    (rows_left most_lines own) c.args.names.now (letters_left c.args.cursor.now) (letters_left c.region.new.cursor)
    c.in_ok-first.first c.givens_left-most_givens.ensures c.rows_left-most_rows.ensures c.in_ok-first.ensures) in
    omega (
      arith,
      counted.rows,
      c.requires.lines.few_rows,
    )
