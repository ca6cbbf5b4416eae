-- How the counters of the folders and the sinks go up.
use Rattle.std.specs.Prelude.{ℕ, ◌+◌, ◌-◌, ◌^◌, min}
use Rattle.io_edge.specs.declared.outside.ReadAnswer.{ReadAnswer}
use Rattle.io_edge.specs.declared.outside.WriteAnswer.{WriteAnswer}
use Rattle.io_edge.specs.declared.outside.PutAnswer.{PutAnswer}
use Rattle.io_edge.specs.declared.outside.ReadAnswer.TheVariants as Read
use Rattle.io_edge.specs.declared.outside.WriteAnswer.TheVariants as Write
use Rattle.io_edge.specs.declared.outside.PutAnswer.TheVariants as Put

-- one more, but a counter stops at the end of its type
abbrev pub count_after : ℕ → ℕ
count_after count = min (count + 1) (2 ^ 64 - 1)

-- the count of faults after an answer: one more with a failure, else as before
abbrev pub faults_after_read : ℕ → ReadAnswer → ℕ
faults_after_read faults Read.Failed = count_after faults
faults_after_read faults _ = faults

abbrev pub faults_after_write : ℕ → WriteAnswer → ℕ
faults_after_write faults Write.Failed = count_after faults
faults_after_write faults _ = faults

abbrev pub faults_after_put : ℕ → PutAnswer → ℕ
faults_after_put faults Put.Failed = count_after faults
faults_after_put faults _ = faults
