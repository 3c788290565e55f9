-- What a status says of a load.
use Rattle.std.proofs.Common.{◌≡◌, ℕ, true, false, List, [], ◌∷◌, Option, Result, Ok, Err, arith, refl, inl, inr}
use Rattle.std.specs.{Prelude.{◌⊎◌, IfErr, OnOk}, Io.KnownBytes.{append_known}}
use Rattle.ptu_outside.specs.Handing.{HasPut, HasPutPart}
use Rattle.ptu_world.specs.World.{Stock}
use Rattle.ptu_report.specs.declared.fault.RunFault.{RunFault}
use Rattle.ptu_script.specs.declared.cause.Cause.{Cause}
use Rattle.ptu_report.specs.declared.fault.RunFault.TheVariants.{Line, Read, Write, OutOfMemory}
use Rattle.ptu_report.specs.Runs.{CountsRead}
use Rattle.ptu_show.specs.Generated.{IsWriteOrMemory}
use Rattle.ptu_lab.specs.Load.{summary}
use Rattle.ptu_run.specs.declared.command.Command.TheVariants.{Load}
use Rattle.ptu_run.specs.Run.{HasLoaded, HasRun, status_of_answer}
use Rattle.ptu_run.proofs.Answered.{IsWritten}

-- a load never finds that a source failed
pub reads_nothing : {A : Type 0} (reads : ℕ) (r : Result A (RunFault Cause)) → IfErr r IsWriteOrMemory → CountsRead r reads reads
reads_nothing reads (Ok x) cause = refl
reads_nothing reads (Err (Line line cause)) never = refl
reads_nothing reads (Err Read) never = absurd never
reads_nothing reads (Err Write) cause = refl
reads_nothing reads (Err OutOfMemory) cause = refl

module _ {K : Type 0} (written : K → Option (List ℕ)) (handed : K → Option (List (List ℕ))) (old new : K) (number : ℕ) where
  -- an answer that says that the line was written
  pub loaded : (stock : Stock) (input : List ℕ) (left : Option (List ℕ)) (r : Result (Unit {0}) (RunFault Cause)) → IsWritten r → IfErr r IsWriteOrMemory
      → OnOk r (HasPut written handed old new (summary number ∷ [])) → HasRun written handed old new stock (Load number) input left (status_of_answer r)
  loaded stock input left (Ok x) is cause put = record {
    output_is = put.written_is;
    in_pieces = put;
    status_is = refl;
    read_whole = λ reads e. absurd (let never : false ≡ true = reads in cc);
  }
  loaded stock input left (Err (Line line cause)) is never put = absurd never
  loaded stock input left (Err Read) is cause put = absurd is
  loaded stock input left (Err Write) is cause put = absurd is
  loaded stock input left (Err OutOfMemory) is cause put = absurd is

  module _ {S : Type 0} (source source' : S) (unread : source' ≡ source) (front : HasPutPart written handed old new (summary number ∷ [])) where
    -- it stopped
    unloaded : (status : ℕ) → (status ≡ 0) ⊎ (status ≡ 67) ⊎ (status ≡ 71) → (status ≡ 0 → ⊥) → HasLoaded written handed old new source source' number status
    unloaded status is fails = record {
      unread = unread;
      statuses = is;
      whole = λ e. absurd (fails e);
      line = λ e. absurd (fails e);
      front = front;
    }

    -- every answer
    pub has_loaded : (r : Result (Unit {0}) (RunFault Cause)) → IfErr r IsWriteOrMemory → OnOk r (HasPut written handed old new (summary number ∷ []))
        → OnOk r (written new ≡ append_known (written old) (summary number)) → HasLoaded written handed old new source source' number (status_of_answer r)
    has_loaded (Ok x) cause put line = record { unread = unread; statuses = inl refl; whole = λ e. put; line = λ e. line; front = front }
    has_loaded (Err (Line number cause)) never put line = absurd never
    has_loaded (Err Read) never put line = absurd never
    has_loaded (Err Write) cause put line = unloaded 67 (inr (inl refl)) (λ e. omega (arith, e))
    has_loaded (Err OutOfMemory) cause put line = unloaded 71 (inr (inr refl)) (λ e. omega (arith, e))
