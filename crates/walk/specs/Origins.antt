-- The walk from all places of a job at once, with the cells that are looked back for as the bits of a word.
use Rattle.std.specs.Prelude.{ℕ, ◌+◌, ◌≤◌, ◌<◌, Bool, true, cond, not, ◌&&◌, List, [], ◌∷◌, ◌≡◌, eqb, get_or}
use Rattle.std.specs.Int.Bits.{bit_and, bit_or, bit_xor}
use Rattle.laws.specs.Search.{any_below}
use Rattle.dependence.specs.declared.Job.{Job}
use Rattle.dependence.specs.Job.{in_use, access_at, job_at}
use Rattle.dependence.specs.Ready.{is_committed}
use Rattle.jobset.specs.JobSet.{bit, with_job}
use Rattle.rules.specs.Walk.{looks_back}
use Rattle.cellset.specs.Cells.{cells_of}
use Rattle.cellset.specs.ConflictWords.{Within}
use Rattle.walk.specs.declared.origins.Origins.{Origins}
use Rattle.walk.specs.declared.origins.Walk.{Walk}
use Rattle.walk.specs.Sources.{sources_of, bypassed_set}

-- Where the values of job j come from.
abbrev pub origins_of : List Job → List ℕ → ℕ → Origins
origins_of jobs committed j = record { sources = sources_of jobs committed j; bypassed = bypassed_set jobs committed j }

-- The job's cells have a bit each, and its modes are 0 to 3: as of each job that is admitted.
pub record Plain (job : Job) : Type 0 where
  pub within : Within job
  pub modes : (i : ℕ) → i < 4 → in_use job i ≡ true → (access_at job i).mode ≤ 3

-- So of job j and those before it.
abbrev pub AllPlain : List Job → ℕ → Type 0
AllPlain jobs j = (i : ℕ) → i ≤ j → Plain (job_at jobs i)

-- The job's cell at the place is one of those wanted.
abbrev pub wanted_at : Job → ℕ → ℕ → Bool
wanted_at job wanted place = in_use job place && bit wanted (access_at job place).cell

-- The walk does not pass the job by: it is not committed, and names a cell that is wanted.
abbrev pub is_met : Job → ℕ → ℕ → Bool
is_met earlier how wanted = not (is_committed how) && any_below 4 (wanted_at earlier wanted)

-- The number at a place that looks back for one of the cells met, and so at each place.
abbrev pub source_or : Job → ℕ → ℕ → ℕ → ℕ → ℕ
source_or job met number place old = cond (looks_back job place && bit met (access_at job place).cell) number old

abbrev pub noted_in : Job → ℕ → ℕ → List ℕ → List ℕ
noted_in job met number sources =
    source_or job met number 0 (get_or sources 0 0)
    ∷ source_or job met number 1 (get_or sources 1 0)
    ∷ source_or job met number 2 (get_or sources 2 0)
    ∷ source_or job met number 3 (get_or sources 3 0)
    ∷ []

-- What is still wanted past a job that surely writes those cells.
abbrev pub wanted_past : ℕ → ℕ → ℕ
wanted_past wanted sure = bit_xor (bit_or wanted sure) sure

-- The walk of the job past the earlier one, of number k.
abbrev pub walk_past : Walk → Job → Job → ℕ → Walk
walk_past walk job earlier k =
    record {
      wanted = wanted_past walk.wanted (cells_of earlier).sure;
      sources = noted_in job (bit_and walk.wanted (cells_of earlier).sure) (k + 1) walk.sources;
      bypassed =
          cond (eqb (bit_and (wanted_past walk.wanted (cells_of earlier).sure) (cells_of earlier).written) 0) walk.bypassed
          (with_job walk.bypassed k);
    }

abbrev pub found_by : Walk → Origins
found_by walk = record { sources = walk.sources; bypassed = walk.bypassed }
