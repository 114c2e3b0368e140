use Rattle.std.proofs.Common.{◌≡◌, ◌∙◌, ◌<◌, ℕ, List, None, length, map, subst, sym, refl}
use Rattle.std.proofs.lemmas.List.{map-append}
use Rattle.it_space.specs.Spaces.{most_variables}
use Rattle.it_syntax.specs.NamesViews.{NamesView, IsNew, index_of}
use Rattle.it_syntax.proofs.NameLemmas.{with_variable, insert_new}
use Rattle.it_syntax.proofs.names.Names.add_variable.Goals as goal

pub invariant_of-self-2 : goal.invariant_of-self-2
invariant_of-self-2 c =
    let new = subst (λ (v : NamesView). IsNew v c.args.name.now) (sym c.self.view_is) c.requires.new in
    let few = subst (λ (v : NamesView). length v.variables < most_variables) (sym c.self.view_is) c.requires.few in
    let absent = subst (λ (name : List ℕ). index_of (map (λ v. v.items) c.self.inside.variables.keys) name ≡ None) (sym c.in_ok-name.ensures.items) new.0 in
    let keys = c.in_ok-insert.ensures.keys ∙ insert_new c.self.inside.variables.keys c.in_ok-name.name absent in
    rw (keys, map-append, c.in_ok-name.ensures.items) (with_variable _ c.args.name.now c.self.invariant new c.requires.some c.requires.short few)

pub returns-clause-added : goal.returns-clause-added
returns-clause-added c =
    let new = subst (λ (v : NamesView). IsNew v c.args.name.now) (sym c.self.view_is) c.requires.new in
    let absent = subst (λ (name : List ℕ). index_of (map (λ v. v.items) c.self.inside.variables.keys) name ≡ None) (sym c.in_ok-name.ensures.items) new.0 in
    let keys = c.in_ok-insert.ensures.keys ∙ insert_new c.self.inside.variables.keys c.in_ok-name.name absent in
    rw (← c.self.view_is, keys, map-append, c.in_ok-name.ensures.items) refl
