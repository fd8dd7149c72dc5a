-- A run whose words found no memory took and wrote nothing.
use Rattle.std.proofs.Common.{Option, [], refl, inl}
use Rattle.mm_types.specs.{Text}
use Rattle.mm_types.proofs.{appended_none, took_none}
use Rattle.mm_move_rules.specs.{unstarted}
use Rattle.mm_log_check.specs.{no_counts, LogCheckRan, Asked}
use Rattle.mm_log_check.specs.declared.endings.Ending.TheVariants as ending

pub ran_refused : (a : Asked) (left took : Option Text) → LogCheckRan a left left took took 1
ran_refused a left took = record {
  ending = ending.NoMemory;
  life = unstarted;
  counts = no_counts;
  came = record {
    moves = [];
    held = [];
    total = 0;
    replayed = record { taken = []; took = took_none left; whole = refl; in_range = tt; replays = refl; total_is = refl };
    counts = λ e. cc;
    ends = tt;
  };
  shows = inl (refl, appended_none took);
}
