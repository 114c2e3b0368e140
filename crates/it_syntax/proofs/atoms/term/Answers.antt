use Rattle.std.proofs.Common.{◌≡◌, ◌∷◌}
use Rattle.it_forms.specs.Letters.{Number}
use Rattle.it_syntax.specs.Gives.{letters_left}
use Rattle.it_syntax.specs.ReaderSteps.{known_scope}
use Rattle.it_syntax.proofs.TermLemmas.{read_at_number}
use Rattle.it_syntax.proofs.atoms.term.Goals as goal

pub returns-in-Number-default-clause-read : goal.returns-in-Number-default-clause-read
returns-in-Number-default-clause-read c =
    let n = c.in-Number-default.number in
    let front : letters_left c.args.rest.now ≡ Number n ∷ letters_left c.front.result.1 = rw c.in-Number-default.is-0 at c.front.ensures.front in
    rw (front, read_at_number c.args.multiple (known_scope c.args.known.now) c.args.negative n (letters_left c.front.result.1))
    c.after_number.ensures.read
