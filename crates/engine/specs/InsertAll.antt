-- R25: inserting a list of jobs in one call, each in order, as R6 has it. The first that is refused ends it, and then nothing is changed.
use Rattle.std.specs.Prelude.{ℕ, zero, suc, ◌+◌, cond, List, eqb}
use Rattle.dependence.specs.declared.Job.{Job}
use Rattle.dependence.specs.Job.{job_at}
use Rattle.engine.specs.declared.Batch.{Batch}
use Rattle.engine.specs.declared.InsertedAll.{InsertedAll}
use Rattle.engine.specs.Form.{in_form}
use Rattle.engine.specs.Opening.{inserted}

-- The n jobs of the list from place k on, inserted into b one after the other. A refused job is named by its place, and the batch
-- is then as it was before.
unfoldable pub inserted_from : Batch → Batch → List Job → ℕ → ℕ → InsertedAll
inserted_from before b jobs k zero = record { refusal = 0; at = 0; batch = b }
inserted_from before b jobs k (suc n) =
    cond (eqb (inserted b (job_at jobs k)).refusal 0) (inserted_from before (inserted b (job_at jobs k)).batch jobs (k + 1) n)
    (record { refusal = (inserted b (job_at jobs k)).refusal; at = k; batch = before })

-- R132 goes before the jobs. A list of more than 128 jobs needs no refusal of its own: some job of it finds no place (R103).
unfoldable pub inserted_all : Batch → List Job → ℕ → InsertedAll
inserted_all b jobs count =
    cond (in_form b) (inserted_from b b jobs 0 count) (record { refusal = 32; at = 0; batch = b })
