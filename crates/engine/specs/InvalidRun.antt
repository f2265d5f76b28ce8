-- R43 to R45 as the code judges a guess are the rules'.
use Rattle.std.specs.Prelude.{ℕ, Bool, cond, ◌&&◌, ◌≡◌, pos, get_or}
use Rattle.std.proofs.Math.Bool.{true, false, not}
use Rattle.std.proofs.Math.Path.{refl}
use Rattle.std.proofs.Common.{◌∙◌}
use Rattle.dependence.specs.Job.{job_at}
use Rattle.dependence.specs.Ready.{ready}
use Rattle.rules.specs.Values.{value_at, is_stale}
use Rattle.rules.specs.Snapshot.{is_live}
use Rattle.rules.specs.Speculation.{is_ready, handed_stale, is_invalid, judged_as, validity}
use Rattle.engine.specs.declared.Batch.{Batch}
use Rattle.engine.specs.Record.{run_at, committed_at, snapshot_of}
use Rattle.engine.specs.StepLaws.{ready_is}
use Rattle.engine.specs.Speculation.{invalid_run}

module _ (b : Batch) (j : ℕ) where
  -- What the run of job j was handed, compared with the cells.
  abbrev pub run_stale : Bool
  run_stale = is_stale (job_at b.jobs j) (value_at (run_at b j).handed) (value_at b.cells)

  -- The same as the snapshot gives it, where the run is the guess's only while that is live.
  abbrev guess_stale : Bool → Bool
  guess_stale live =
      is_stale (job_at b.jobs j) (λ place. cond live (value_at (run_at b j).handed place) (pos 0)) (value_at b.cells)

  -- R44. Whose the run is makes no difference, since only a live guess is judged.
  pub invalid_is : {readyNow told : Bool} → readyNow ≡ ready b.jobs b.committed j
      → told ≡ invalid_run readyNow (get_or b.phase j 0) (job_at b.jobs j) (run_at b j) b.cells
      → told ≡ is_invalid (snapshot_of b) j
  unfolding is_invalid
  invalid_is e f = f ∙ rw (e, ← ready_is b j) (cases (is_ready (snapshot_of b) j) (is_live (get_or b.phase j 0)))
    where
      cases : (readyNow live : Bool) → ((readyNow && live) && run_stale) ≡ ((readyNow && live) && guess_stale live)
      cases true true = refl
      cases true false = refl
      cases false live = refl

  -- R45.
  pub validity_is : judged_as (is_live (get_or b.phase j 0) && not (committed_at b j)) (is_ready (snapshot_of b) j) run_stale
      ≡ validity (snapshot_of b) j
  unfolding validity
  validity_is = cases (is_live (get_or b.phase j 0)) (committed_at b j) (is_ready (snapshot_of b) j)
    where
      cases : (live settled readyNow : Bool)
          → judged_as (live && not settled) readyNow run_stale ≡ judged_as (live && not settled) readyNow (guess_stale live)
      cases true settled readyNow = refl
      cases false settled readyNow = refl

  -- R43. What is handed to a live guess is what its job's run was handed.
  pub live_stale : (is_live (get_or b.phase j 0) && run_stale) ≡ (is_live (get_or b.phase j 0) && handed_stale (snapshot_of b) j)
  live_stale = cases (is_live (get_or b.phase j 0))
    where
      cases : (live : Bool) → (live && run_stale) ≡ (live && guess_stale live)
      cases true = refl
      cases false = refl
