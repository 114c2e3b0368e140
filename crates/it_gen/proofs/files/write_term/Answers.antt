use Rattle.std.proofs.Common.{◌≡◌, ℕ, List, ◌++◌, length, ◌<◌, OnOk, subst, sym, append_assoc}
use Rattle.it_polymatroid.specs.Elementals.{elementals, elemental_at}
use Rattle.it_print.specs.Lines.{elemental_text}
use Rattle.it_gen.specs.GeneratedFiles.{generated_term_text}
use Rattle.it_gen.proofs.files.write_term.Goals as goal

pub write_elemental-requires-clause-listed : goal.write_elemental-requires-clause-listed
write_elemental-requires-clause-listed c = subst (λ names. c.draw-inequality.result < length (elementals (length names)))
    (sym c.requires) c.draw-inequality.ensures.within

pub returns-clause-text : goal.returns-clause-text
unfolding generated_term_text
returns-clause-text c =
    let whole : c.extend_from_slice.new.self.items ++ elemental_text c.args.names.now.variables
    (elemental_at (length c.args.names.now.variables) c.draw-inequality.result)
    ≡ c.args.out.now.items ++ generated_term_text c.args.draws.now.state =
    rw (
      c.in_ok-extend_from_slice.ensures.items,
      c.in_ok-write_number.ensures,
      c.requires,
      c.draw-inequality.ensures.drawn,
      c.draw-coefficient.ensures.state,
      c.draw-coefficient.ensures.drawn,
    ) (simp append_assoc) in
    subst (λ (text : List ℕ). OnOk c.write_elemental.result (c.write_elemental.new.out.items ≡ text)) whole c.write_elemental.ensures
