-- What contracts see of the sources and sinks in memory.
use Rattle.std.specs.Prelude.{◌≡◌, ℕ, List, drop, Option, Some, Result, OnOk, OnErr, IsErrOf}
use Rattle.pl_frame.specs.Causes.{raised}

-- all bytes of a source, and how many of them were read
pub record Reading : Type 0 where
  pub bytes : List ℕ
  pub place : ℕ

-- the bytes that were not read
abbrev pub left_of : Reading → Option (List ℕ)
left_of reading = Some (drop reading.place reading.bytes)

-- the bytes that a sink received, and how often memory was wanting
pub record Writing : Type 0 where
  pub received : List ℕ
  pub wants : ℕ

-- the bytes to come, the most that a call gives, the numbers of the calls that fail, the number of the next call, and how
-- often a call has failed
pub record PipeReading : Type 0 where
  pub left : List ℕ
  pub step : ℕ
  pub fails : List ℕ
  pub calls : ℕ
  pub faults : ℕ

-- the bytes so far, the most that a call takes, the numbers of the calls that fail, the number of the next call, how often
-- a call has failed, and how often memory was wanting
pub record PipeWriting : Type 0 where
  pub received : List ℕ
  pub step : ℕ
  pub fails : List ℕ
  pub calls : ℕ
  pub faults : ℕ
  pub wants : ℕ

-- a count rises by one where the call failed, and stays where it did not
pub record RisesAtErr {T E : Type 0} (before now : ℕ) (result : Result T E) : Type 0 where
  pub stays : OnOk result (now ≡ before)
  pub rises : OnErr result (now ≡ raised before)

-- a count rises by one at one of the faults, and stays at any other answer
pub record RisesAt {T E : Type 0} (fault : E) (before now : ℕ) (result : Result T E) : Type 0 where
  pub rises : IsErrOf result fault → now ≡ raised before
  pub stays : ¬ IsErrOf result fault → now ≡ before
