use Rattle.std.proofs.Common.{ℕ, ◌≡◌, ◌++◌, Result, Ok, Err, None, map, refl, codes}
use Rattle.std.specs.Global.{Vec}
use Rattle.std.specs.Prelude.{IfOk}
use Rattle.std.specs.declared.alloc.AllocError.{AllocError}
use Rattle.it_settings.specs.declared.types.Format.TheVariants.{Text, Json, Proof, Derived}
use Rattle.it_space.specs.Answers.{answer_view}
use Rattle.it_question.specs.ProblemLines.{problem_names}
use Rattle.it_region.specs.AnswerForms.{answer_forms}
use Rattle.it_certificate.specs.Values.{answer_text}
use Rattle.it_print.specs.Lines.{answer_line, origins_of}
use Rattle.it_print.specs.ProofLines.{generator_rows, proof_text}
use Rattle.it_canon.specs.QuestionDemands.{terms_in}
use Rattle.it_cli.specs.InnerEnds.{IsDerivedLine, IsToldText}
use Rattle.it_cli.proofs.LineLemmas.{proof_by_places, text_by_places, printable_is_writable}
use Rattle.it_cli.proofs.answering.lines.Goals as goal

pub json_line-requires-clause-writable : goal.json_line-requires-clause-writable
json_line-requires-clause-writable c = printable_is_writable c.args.question.now _ c.args.answered.now.answer
    c.facts.ensures c.requires.ascii c.requires.printable

pub derived_line-requires-clause-writable : goal.derived_line-requires-clause-writable
derived_line-requires-clause-writable c = printable_is_writable c.args.question.now _ c.args.answered.now.answer
    c.facts.ensures c.requires.ascii c.requires.printable

pub returns-in-Text : goal.returns-in-Text
returns-in-Text c = rw c.in-Text.is (by_result c.text_lines.result c.text_lines.ensures)
  where
    by_result : (r : Result (Vec ℕ) AllocError) → IfOk r (λ t. t.items ≡ answer_line c.args.k c.args.question.now.body
        (origins_of c.args.answered.now.problem.constraints) (answer_view c.args.answered.now.answer))
        → IfOk r (λ t. IsToldText Text c.args.k c.args.question.now (answer_view c.args.answered.now.answer) t.items)
    by_result (Ok t) e = record {
      origins = None;
      told = refl;
      is = text_by_places c.args.question.now c.args.k c.args.answered.now.problem.space
          c.args.answered.now.problem.constraints (answer_view c.args.answered.now.answer) t.items c.requires.stated e;
    }
    by_result (Err e) h = tt

pub returns-in-Json : goal.returns-in-Json
returns-in-Json c = rw c.in-Json.is (by_result c.json_line.result c.json_line.ensures)
  where
    by_result : (r : Result (Vec ℕ) AllocError) → IfOk r (λ t. t.items ≡ answer_text c.args.question.now.text c.args.question.now.body.names (answer_view c.args.answered.now.answer) ++ codes "\n")
        → IfOk r (λ t. IsToldText Json c.args.k c.args.question.now (answer_view c.args.answered.now.answer) t.items)
    by_result (Ok t) e = record { origins = None; told = refl; is = e }
    by_result (Err e) h = tt

pub returns-in-Proof : goal.returns-in-Proof
returns-in-Proof c = rw c.in-Proof.is (by_result c.proof_lines.result c.proof_lines.ensures)
  where
    by_result : (r : Result (Vec ℕ) AllocError) → IfOk r (λ t. t.items ≡ proof_text c.args.k c.args.question.now.body
        (origins_of c.args.answered.now.problem.constraints)
        (generator_rows (problem_names c.args.question.now.body) c.args.answered.now.problem.constraints)
        (map (terms_in c.args.question.now.body) (answer_forms c.args.question.now.body
        (answer_view c.args.answered.now.answer))) (answer_view c.args.answered.now.answer))
        → IfOk r (λ t. IsToldText Proof c.args.k c.args.question.now (answer_view c.args.answered.now.answer) t.items)
    by_result (Ok t) e = record {
      origins = None;
      told = refl;
      is = proof_by_places c.args.question.now c.args.k c.args.answered.now.problem.space
          c.args.answered.now.problem.constraints (answer_view c.args.answered.now.answer) t.items
          c.requires.space c.requires.stated e;
    }
    by_result (Err e) h = tt

pub returns-in-Derived : goal.returns-in-Derived
returns-in-Derived c = rw c.in-Derived.is (by_result c.derived_line.result c.derived_line.ensures)
  where
    by_result : (r : Result (Vec ℕ) AllocError) → IfOk r (λ t. IsDerivedLine c.args.question.now
        (answer_view c.args.answered.now.answer) t.items)
        → IfOk r (λ t. IsToldText Derived c.args.k c.args.question.now (answer_view c.args.answered.now.answer) t.items)
    by_result (Ok t) h = record { origins = h.0; told = h.1; is = h.2 }
    by_result (Err e) h = tt
