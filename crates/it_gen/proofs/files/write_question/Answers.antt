use Rattle.std.proofs.Common.{◌≡◌, ℕ, List, ◌++◌, cond, OnOk, Result, Ok, Err, is_ok, codes, subst, append_assoc}
use Rattle.it_gen.specs.GeneratedFiles.{question_text}
use Rattle.it_gen.proofs.files.write_question.Goals as goal

on_ok : {A E : Type 0} (r : Result A E) (new more old : List ℕ) → new ≡ cond (is_ok r) more old → OnOk r (new ≡ more)
on_ok (Ok x) new more old e = e
on_ok (Err x) new more old e = tt

pub returns-clause-text : goal.returns-clause-text
unfolding question_text
returns-clause-text c =
    let whole : c.write_bound.new.out.items ++ codes "\n" ≡ c.args.out.now.items ++ question_text c.args.draws.now.state =
    rw (
      c.in_ok-write_bound.ensures.text,
      c.in_ok-extend_from_slice-4.ensures.items,
      c.in_ok-write_term-3.ensures.text,
      c.in_ok-extend_from_slice-3.ensures.items,
      c.in_ok-write_term-2.ensures.text,
      c.in_ok-extend_from_slice-2.ensures.items,
      c.in_ok-write_term.ensures.text,
      c.in_ok-extend_from_slice.ensures.items,
      c.in_ok-write_term-3.ensures.state,
      c.in_ok-write_term-2.ensures.state,
      c.in_ok-write_term.ensures.state,
    ) (simp append_assoc) in
    subst (λ (text : List ℕ). OnOk c.extend_from_slice-5.result (c.extend_from_slice-5.new.self.items ≡ text)) whole
    (on_ok c.extend_from_slice-5.result c.extend_from_slice-5.new.self.items (c.write_bound.new.out.items ++ codes "\n") c.write_bound.new.out.items c.extend_from_slice-5.ensures.items)
