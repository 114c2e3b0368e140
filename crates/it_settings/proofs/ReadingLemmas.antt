-- The reading, from what clap gave.
use Rattle.std.proofs.Math.Path.{fun_ext}
use Rattle.std.proofs.Common.{◌≡◌, ◌==◌, [], ◌∷◌, List, length, if◌then◌else◌, refl, ap, sym, ◌∙◌, codes, Option, None, Err, arith}
use Rattle.std.proofs.lemmas.Bool.{ne_eqb}
use Rattle.clap.specs.Words.{Text, Kinds, fault_of, matches_of, rows_of, first_of, first_value}
use Rattle.clap.specs.declared.parser.matches.Found.{Found}
use Rattle.clap.specs.declared.error.kind.ErrorKind.{ErrorKind}
use Rattle.clap.specs.declared.error.kind.ErrorKind.TheVariants as kinds
use Rattle.clap.proofs.WalkLemmas.{first_value-rows}
use Rattle.it_settings.specs.App.{itip_app}
use Rattle.it_settings.specs.ErrorKinds.{IsFaultOf}
use Rattle.it_settings.specs.Settings.{settings_of, settings_by, answer_of, bench_of, runs_of, outer_of, TellsReading}
use Rattle.it_settings.specs.ValuesViews.{AreTexts, by_name, texts_of}
use Rattle.it_settings.specs.declared.reading.Values.{Values}
use Rattle.it_settings.specs.declared.types.Settings.{Settings}
use Rattle.it_settings.specs.declared.types.WordsFault.{WordsFault}
use Rattle.it_settings.specs.declared.types.WordsFault.TheVariants.{Usage, Memory}

by_their_names : (given : Text → Option Text)
    → settings_by (by_name (given (codes "mode")) (given (codes "format")) (given (codes "pivots")) (given (codes "rows")) (given (codes "tries"))
    (given (codes "seed")) (given (codes "count")) (given (codes "run")) (given (codes "names")) (given (codes "report"))) ≡ settings_by given
unfolding settings_by answer_of bench_of runs_of outer_of
by_their_names given = refl

pub same_settings : (given : Text → Option Text) (v : Values) → AreTexts given v → settings_by (texts_of v) ≡ settings_by given
same_settings given v are =
    (λ i. settings_by (by_name (are.mode i) (are.format i) (are.pivots i) (are.rows i) (are.tries i) (are.seed i) (are.count i) (are.run i)
    (are.names i) (are.report i))) ∙ by_their_names given

pub has_reading : (words : List Text) (f : Found) → fault_of itip_app words ≡ [] → rows_of f ≡ matches_of itip_app words
    → settings_of words ≡ settings_by (first_value f)
unfolding settings_of
has_reading words f none rows =
    ap (λ (ks : Kinds). if length ks == 0 then settings_by (λ id. first_of id (matches_of itip_app words)) else None) none
    ∙ ap (λ rs. settings_by (λ id. first_of id rs)) (sym rows) ∙ ap settings_by (sym (fun_ext (first_value-rows f)))

none_with_fault : (ks : Kinds) (o : Option Settings) → (ks ≡ [] → ⊥) → (if length ks == 0 then o else None) ≡ None
none_with_fault [] o some = absurd (some refl)
none_with_fault (k ∷ ks) o some = ap (λ b. if b then o else None) (ne_eqb (length (k ∷ ks)) 0 (λ e. omega arith))

pub has_no_reading : (words : List Text) (kind : ErrorKind) (fault : WordsFault)
    → (fault_of itip_app words ≡ [] → kind ≡ kinds.OutOfMemory) → IsFaultOf kind fault → TellsReading (settings_of words) (Err fault)
unfolding settings_of
has_no_reading words kind Usage none is = none_with_fault (fault_of itip_app words) _ (λ e. is (none e))
has_no_reading words kind Memory none is = tt
