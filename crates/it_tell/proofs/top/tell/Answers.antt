use Rattle.std.proofs.Common.{[], Some, refl, sym, ap, ◌∙◌}
use Rattle.it_outside.proofs.Moved.{Gains-nil}
use Rattle.it_cli.specs.Ends.{call_of}
use Rattle.it_tell.specs.declared.settings.Settings.TheVariants.{Help, Version}
use Rattle.it_tell.proofs.EndLemmas.{end_of_text, end_of_usage}
use Rattle.it_tell.proofs.top.tell.Goals as goal

pub returns-in-Some-Help : goal.returns-in-Some-Help
returns-in-Some-Help g c = end_of_text (call_of g.S.Source.left g.S.Source.faults g.K.Sink.taken g.K.Sink.faults c.args.words.now []
    c.args.source.now c.args.source.now c.args.sink.now c.write_last.new.sink) Help _
    c.write_last.result (sym c.settings_of.ensures ∙ c.in-Some-Help.is ∙ ap Some c.in-Some-Help.field-0-is) refl (refl, refl) c.write_last.ensures

pub returns-in-Some-Version : goal.returns-in-Some-Version
returns-in-Some-Version g c = end_of_text (call_of g.S.Source.left g.S.Source.faults g.K.Sink.taken g.K.Sink.faults c.args.words.now []
    c.args.source.now c.args.source.now c.args.sink.now c.write_last-in-Some-Version.new.sink) Version _
    c.write_last-in-Some-Version.result (sym c.settings_of.ensures ∙ c.in-Some-Version.is ∙ ap Some c.in-Some-Version.field-0-is) refl
    (refl, refl) c.write_last-in-Some-Version.ensures

pub returns-in-None : goal.returns-in-None
returns-in-None g c = end_of_usage (call_of g.S.Source.left g.S.Source.faults g.K.Sink.taken g.K.Sink.faults c.args.words.now []
    c.args.source.now c.args.source.now c.args.sink.now c.args.sink.now)
    (sym c.settings_of.ensures ∙ c.in-None.is) (refl, refl) refl (Gains-nil _)
