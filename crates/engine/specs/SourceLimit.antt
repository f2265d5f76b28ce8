-- A speculative run is forwarded from earlier jobs only, and the code's test of its sources is the rule's.
use Rattle.std.specs.Prelude.{ℕ, zero, suc, ◌-◌, ◌<◌, ◌≤◌, Bool, true, false, cond, List, ◌≡◌, get_or}
use Rattle.std.proofs.Common.{arith}
use Rattle.laws.specs.Search.{any_below}
use Rattle.dependence.specs.declared.Job.{Job}
use Rattle.dependence.specs.Job.{access_at, job_at}
use Rattle.walk.specs.declared.origins.Origins.{Origins}
use Rattle.walk.specs.Sources.{source_for, source_in, sources_of, committed_in}
use Rattle.walk.specs.Origins.{origins_of}
use Rattle.walk.specs.SourceLaws.{source_le}
use Rattle.rules.specs.Walk.{looks_back}
use Rattle.rules.specs.Speculation.{source_missing}
use Rattle.engine.specs.declared.Batch.{Batch}
use Rattle.engine.specs.Record.{run_at, snapshot_of}
use Rattle.engine.specs.Speculation.{unusable_any, SourcesHeld, guess_from}
use Rattle.engine.specs.Change.{guess_at}

pub source_limit : (jobs : List Job) (committed : List ℕ) (j place : ℕ) → source_in jobs committed j place ≤ j
source_limit jobs committed j place = cases (looks_back (job_at jobs j) place)
  where
    cases : (back : Bool) → cond back (source_for jobs committed (access_at (job_at jobs j) place).cell j) 0 ≤ j
    cases true = source_le (λ i. job_at jobs i) (λ i. committed_in committed i) (access_at (job_at jobs j) place).cell j
    cases false = omega arith

-- So each of the four is a job's place, or none.
pub sources_held : (jobs : List Job) (committed : List ℕ) (j : ℕ) (sources : List ℕ) → j < 128 → sources ≡ sources_of jobs committed j → SourcesHeld sources
sources_held jobs committed j sources small e place here = rw e (cases place here)
  where
    cases : (place : ℕ) → place < 4 → get_or (sources_of jobs committed j) place 0 ≤ 128
    cases zero here = omega (arith, source_limit jobs committed j 0, small)
    cases (suc zero) here = omega (arith, source_limit jobs committed j 1, small)
    cases (suc (suc zero)) here = omega (arith, source_limit jobs committed j 2, small)
    cases (suc (suc (suc zero))) here = omega (arith, source_limit jobs committed j 3, small)
    cases (suc (suc (suc (suc place)))) here = absurd (omega arith)

-- R115: they are missing by the code's test where they are by the rule's.
pub missing_is : (b : Batch) (j : ℕ) (sources : List ℕ) → sources ≡ sources_of b.jobs b.committed j
    → unusable_any sources b.phase ≡ source_missing (snapshot_of b) j
unfolding any_below
missing_is b j sources e = rw e

-- The guess made of the jobs that stand in the sources' places is the guess that is started.
pub guess_is : (b : Batch) (j : ℕ) (origins : Origins) → origins ≡ origins_of b.jobs b.committed j → {i k l m : ℕ}
    → i ≡ get_or origins.sources 0 0 - 1 → k ≡ get_or origins.sources 1 0 - 1 → l ≡ get_or origins.sources 2 0 - 1
    → m ≡ get_or origins.sources 3 0 - 1
    → guess_from (job_at b.jobs j) b.cells origins (job_at b.jobs i) (run_at b i) (job_at b.jobs k) (run_at b k)
    (job_at b.jobs l) (run_at b l) (job_at b.jobs m) (run_at b m)
    ≡ guess_at b j
guess_is b j origins e first second third fourth = rw (first, second, third, fourth, e)
