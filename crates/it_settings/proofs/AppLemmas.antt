-- The command by clap's contracts.
use Rattle.std.proofs.Common.{◌≡◌, [], List, refl, true, subst, Result, Ok, Err, IfOk, IfErr, inl, inr}
use Rattle.clap.specs.Words.{App, Text, Kinds, FailsBy, IsAmong, fault_of, is_simple_and_free, is_simple, matches_of, HasMatchesOf, kind_of, rows_of, found_of}
use Rattle.clap.specs.declared.error.Error.{Error}
use Rattle.clap.specs.declared.parser.matches.ArgMatches.{ArgMatches}
use Rattle.clap.specs.declared.error.kind.ErrorKind.TheVariants as kinds
use Rattle.it_settings.specs.App.{option_rule, flag_rule, mode_rule, bare_app, itip_app}

pub itip_is_simple : is_simple_and_free itip_app ≡ true
unfolding itip_app bare_app mode_rule option_rule flag_rule
itip_is_simple = refl

pub itip_is_plain : is_simple itip_app ≡ true
unfolding itip_app bare_app mode_rule option_rule flag_rule
itip_is_plain = refl

fits_by : {T : Type 0} (ks : Kinds) (r : Result T Error) → FailsBy ks r → IfOk r (λ m. ks ≡ [])
fits_by ks (Ok m) h = h
fits_by ks (Err e) h = tt

none_by : {T : Type 0} (ks : Kinds) (r : Result T Error) → FailsBy ks r → IfErr r (λ e. ks ≡ [] → kind_of e ≡ kinds.OutOfMemory)
none_by ks (Ok m) h = tt
none_by ks (Err e) (inl memory) = λ none. memory
none_by ks (Err e) (inr among) = λ none. absurd (subst (IsAmong (kind_of e)) none among)

pub fits : (a : App) (words : List Text) (r : Result ArgMatches Error) → a ≡ itip_app
    → (is_simple_and_free a ≡ true → FailsBy (fault_of a words) r) → IfOk r (λ m. fault_of itip_app words ≡ [])
fits a words r is h = fits_by (fault_of itip_app words) r (subst (λ b. is_simple_and_free b ≡ true → FailsBy (fault_of b words) r) is h itip_is_simple)

pub has_none : (a : App) (words : List Text) (r : Result ArgMatches Error) → a ≡ itip_app
    → (is_simple_and_free a ≡ true → FailsBy (fault_of a words) r) → IfErr r (λ e. fault_of itip_app words ≡ [] → kind_of e ≡ kinds.OutOfMemory)
has_none a words r is h = none_by (fault_of itip_app words) r (subst (λ b. is_simple_and_free b ≡ true → FailsBy (fault_of b words) r) is h itip_is_simple)

rows_by : (words : List Text) (r : Result ArgMatches Error) → IfOk r (HasMatchesOf itip_app words)
    → IfOk r (λ m. rows_of (found_of m) ≡ matches_of itip_app words)
rows_by words (Ok m) h = (h itip_is_plain).0
rows_by words (Err e) h = tt

pub has_rows : (a : App) (words : List Text) (r : Result ArgMatches Error) → a ≡ itip_app
    → IfOk r (HasMatchesOf a words) → IfOk r (λ m. rows_of (found_of m) ≡ matches_of itip_app words)
has_rows a words r is h = rows_by words r (subst (λ b. IfOk r (HasMatchesOf b words)) is h)
