-- How a call of `tell` ends, from what the calls in it say.
use Rattle.std.proofs.Common.{◌≡◌, ℕ, inl, inr, List, [], Some, option_and_then, sym, ap, subst, ◌∙◌}
use Rattle.it_outside.specs.Traffic.{GaveMore}
use Rattle.it_outside.specs.Causes.{next_count}
use Rattle.it_cli.specs.Ends.{Call, IsUntouched, Wrote, FaultsAre, IsFaultless}
use Rattle.it_cli.specs.InnerEnds.{EndOfBytes, EndOfLine}
use Rattle.it_cli.specs.Refusals.{long_line}
use Rattle.it_cli.specs.declared.status.Status.{Status}
use Rattle.it_cli.specs.declared.status.Status.TheVariants.{Done, Invalid, Usage, Refused, ReadFault, WriteFault, Memory}
use Rattle.it_tell.specs.declared.settings.Options.{Options}
use Rattle.it_tell.specs.declared.settings.Settings.{Settings}
use Rattle.it_tell.specs.Settings.{settings_of}
use Rattle.it_tell.specs.Ends.{AsksToTell, Ends, HasNone, IsReport, most_bytes, shown_by, tell_mode}

module _ (r : Call) (options : Options) (asked : AsksToTell r options) where
  -- the report was read
  pub end_of_report : (bytes : List ℕ) (s : Status) → r.read_faults_after ≡ r.read_faults → IsReport r bytes
      → EndOfBytes (tell_mode options) r.taken r.taken_after r.write_faults r.write_faults_after bytes s → Ends r s
  end_of_report bytes Done read report (stayed, h) =
      ((read, stayed), inl (record { options = options; asked = asked; bytes = bytes; out = h.out; report = report; output = h.output; wrote = h.wrote }))
  end_of_report bytes Invalid read report (stayed, h) = (
    (read, stayed),
    record { options = options; asked = asked; bytes = bytes; out = h.out; report = report; output = h.output; wrote = h.wrote },
  )
  end_of_report bytes Usage read report h = absurd h
  end_of_report bytes ReadFault read report h = absurd h
  end_of_report bytes Refused read report (stayed, text, (line, column, code, fault, is), gains) = absurd fault
  end_of_report bytes WriteFault read report (failed, inl (text, (line, column, code, fault, is), took)) = absurd fault
  end_of_report bytes WriteFault read report (failed, inr part) = (
    (read, failed),
    inr (inl (record {
      options = options;
      asked = asked;
      bytes = bytes;
      out = part.out;
      report = report;
      output
          = part.output;
      wrote = part.wrote;
    })),
  )
  end_of_report bytes Memory read report (stayed, inl wrote) = ((read, stayed), inl ((options, asked), wrote))
  end_of_report bytes Memory read report (stayed, inr first) = (
    (read, stayed),
    inr (record {
      options = options;
      asked = asked;
      bytes = bytes;
      out = first.out;
      report = report;
      output
          = first.output;
      wrote = first.wrote;
    }),
  )

  -- it was too long
  pub end_of_long_report : (s : Status) → r.read_faults_after ≡ r.read_faults → GaveMore r.left r.left_after most_bytes
      → EndOfLine r.taken r.taken_after r.write_faults r.write_faults_after long_line Refused s → Ends r s
  end_of_long_report s read long (inl (is, stayed, wrote)) = subst (Ends r) (sym is) ((read, stayed), ((options, asked), long), wrote)
  end_of_long_report s read long (inr (is, failed, took)) = subst (Ends r) (sym is) ((read, failed), inl (((options, asked), long), took))

  -- reading it failed, or allocation failed
  pub end_of_failed_read : FaultsAre r (next_count r.read_faults) r.write_faults → Wrote r [] → Ends r ReadFault
  end_of_failed_read failed wrote = (failed, (options, asked), wrote)

  pub end_of_memory : IsFaultless r → Wrote r [] → Ends r Memory
  end_of_memory faultless wrote = (faultless, inl ((options, asked), wrote))

-- a text was asked for
pub end_of_text : (r : Call) (settings : Settings) (text : List ℕ) (s : Status) → settings_of r.words ≡ Some settings
    → shown_by settings ≡ Some text → IsUntouched r
    → EndOfLine r.taken r.taken_after r.write_faults r.write_faults_after text Done s → Ends r s
end_of_text r settings text s reading shown untouched (inl (is, stayed, wrote)) =
    subst (Ends r) (sym is) ((untouched.1, stayed), inr (text, (record { asked = ap (option_and_then shown_by) reading ∙ shown; unread = untouched }, wrote)))
end_of_text r settings text s reading shown untouched (inr (is, failed, took)) =
    subst (Ends r) (sym is) (
      (untouched.1, failed),
      inr (inr
          (text, (record { asked = ap (option_and_then shown_by) reading ∙ shown; unread = untouched }, took))),
    )

-- the words have no reading
pub end_of_usage : (r : Call) → HasNone r → IsUntouched r → r.write_faults_after ≡ r.write_faults → Wrote r [] → Ends r Usage
end_of_usage r none untouched stayed wrote = ((untouched.1, stayed), none, untouched, wrote)
