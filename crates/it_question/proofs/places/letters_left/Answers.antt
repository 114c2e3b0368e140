use Rattle.std.proofs.Common.{arith}
use Rattle.it_question.proofs.PlaceLemmas.{left_length}
use Rattle.it_question.proofs.places.letters_left.Goals as goal

pub overflow_add-result : goal.overflow_add-result
overflow_add-result c = omega (arith, c.requires, left_length c.args.cursor.now c.in-Some.rest c.in-Some.is)

pub count-requires : goal.count-requires
count-requires c = omega (arith, c.requires, left_length c.args.cursor.now c.in-Some.rest c.in-Some.is)

pub overflow_add-result-in-Some : goal.overflow_add-result-in-Some
overflow_add-result-in-Some c = omega (arith, c.requires, c.count.ensures, left_length c.args.cursor.now c.in-Some.rest c.in-Some.is)

pub returns-in-Some : goal.returns-in-Some
returns-in-Some c = omega (arith, c.count.ensures, left_length c.args.cursor.now c.in-Some.rest c.in-Some.is)
