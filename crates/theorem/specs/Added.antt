-- What an accepted insert does to a batch: the proof.
use Rattle.std.specs.Prelude.{ℕ, suc, ◌<◌, ◌≤◌, ◌≢◌, true, ◌≡◌, refl, pos, get_or, replicate}
use Rattle.std.proofs.Common.{arith, ◌∙◌}
use Rattle.std.proofs.Math.Numerals.{add-one}
use Rattle.std.proofs.Math.Bool.{not}
use Rattle.std.proofs.Math.Path.{sym, ap}
use Rattle.std.proofs.Math.Seq.{get_or-set_same, get_or-set_other}
use Rattle.dependence.specs.declared.Job.{Job}
use Rattle.dependence.specs.Job.{no_job, job_at}
use Rattle.rules.specs.Values.{value_at}
use Rattle.rules.specs.Snapshot.{Snapshot, is_live}
use Rattle.rules.specs.Speculation.{validity}
use Rattle.rules.specs.Call.{insert, start_own}
use Rattle.engine.specs.declared.Batch.{Batch}
use Rattle.engine.specs.Record.{no_run, blank_run, run_at, snapshot_of}
use Rattle.engine.specs.Opening.{with_inserted, insert_refusal, inserted}
use Rattle.engine.specs.OpeningLaws.{insert_place}
use Rattle.engine.specs.Ask.{shown_job, asked_job, cell_refusal, asked_cell, is_finished, asked_batch}
use Rattle.engine.specs.AskLaws.{finished_means, gains_unfinished}
use Rattle.engine.specs.Perform.{perform}
use Rattle.claims.specs.Ledger.{Ledger, Entry, no_entry, is_counted, own_is_out, guess_phase}
use Rattle.claims.specs.Enter.{snapshot_of_ledger, enter}
use Rattle.claims.specs.Trace.{batch_of}
use Rattle.claims.specs.Added.{grown, untried, Added, AddedStatement}
use Rattle.theorem.specs.Effect.{accepted_leaves}
use Rattle.theorem.specs.SameRefusal.{with_held, validity_same}
use Rattle.theorem.specs.Faithful.{Faithful, faithful_form, same_snapshot}
use Rattle.theorem.specs.Agreement.{inserted_kept}
use Rattle.theorem.specs.Replayed.{Replayed, cells_are_replayed}
use Rattle.theorem.specs.Promises.{settled_counted, own_may_start}
use Rattle.theorem.specs.AsAsked.{asked_job_lem}
use Rattle.theorem.specs.Right.{Sound, insert_right}
use Rattle.theorem.specs.Always.{sound_always}

-- A record that agrees with its ledger, as the rules read it: by the ledger, but for jobs and cells.
abbrev pub seen_in : Batch → Ledger → Snapshot
seen_in b l = with_held (snapshot_of_ledger l) l.job_count (λ i. job_at b.jobs i) (λ x. value_at b.cells x)

module _ {b : Batch} {l : Ledger} (agree : Faithful b l) (job : Job) (e : insert_refusal b job ≡ 0) where
  -- The record and the ledger agree after the insert too.
  pub agrees_after : Faithful (with_inserted b job) (enter l (insert job) (replicate 4 (pos 0)))
  agrees_after = inserted_kept agree job (replicate 4 (pos 0)) e

  -- There is a place for the job.
  place : b.job_count < 128
  place = insert_place b job e

  -- What is held of an earlier job is as it was.
  module _ (j : ℕ) (h : j < l.job_count) where
    pub elsewhere : j ≢ b.job_count
    elsewhere q = omega (arith, agree.job_count, q)

    pub same_job : job_at (with_inserted b job).jobs j ≡ job_at b.jobs j
    unfolding with_inserted
    same_job = get_or-set_other b.jobs b.job_count j job no_job elsewhere

    pub same_run : run_at (with_inserted b job) j ≡ run_at b j
    unfolding with_inserted
    same_run = get_or-set_other b.runs b.job_count j blank_run no_run elsewhere

    pub same_committed : get_or (with_inserted b job).committed j 0 ≡ get_or b.committed j 0
    unfolding with_inserted
    same_committed = get_or-set_other b.committed b.job_count j 0 0 elsewhere

    pub same_running : get_or (with_inserted b job).running j 0 ≡ get_or b.running j 0
    unfolding with_inserted
    same_running = get_or-set_other b.running b.job_count j 0 0 elsewhere

    pub same_phase : get_or (with_inserted b job).phase j 0 ≡ get_or b.phase j 0
    unfolding with_inserted
    same_phase = get_or-set_other b.phase b.job_count j 0 0 elsewhere

  -- What does not depend on the number of jobs, nor on those past the ledger's, is as it was.
  pub unnoticed : {A : Type 0} (f : Snapshot → A)
      → ((count : ℕ) (g : ℕ → Job) → l.job_count ≤ count → ((i : ℕ) → i < l.job_count → job_at b.jobs i ≡ g i)
      → f (seen_in b l) ≡ f (with_held (seen_in b l) count g (seen_in b l).cells))
      → f (snapshot_of (with_inserted b job)) ≡ f (snapshot_of b)
  unfolding enter with_inserted
  unnoticed f depends =
      ap f (same_snapshot agrees_after)
      ∙ sym (depends (suc l.job_count) (λ i. job_at (with_inserted b job).jobs i) (omega arith) (λ i h. sym (same_job i h)))
      ∙ sym (ap f (same_snapshot agree))

  -- R179: the batch has one job more, and is not finished.
  grows : asked_batch (with_inserted b job) ≡ grown (asked_batch b)
  unfolding asked_batch with_inserted
  grows =
      rw (
        faithful_form agrees_after,
        faithful_form agree,
        gains_unfinished b job (omega (arith, place, agree.committed_length)),
        add-one b.job_count,
      )

  -- The job is as given, and no step was taken on it.
  new_job : shown_job (with_inserted b job) b.job_count ≡ untried job
  unfolding shown_job validity with_inserted
  new_job =
      let n = b.job_count in
      rw (
        get_or-set_same b.committed n 0 0 (omega (arith, place, agree.committed_length)),
        get_or-set_same b.runs n blank_run no_run (omega (arith, place, agree.runs_length)),
        get_or-set_same b.running n 0 0 (omega (arith, place, agree.running_length)),
        get_or-set_same b.phase n 0 0 (omega (arith, place, agree.phase_length)),
        get_or-set_same b.jobs n job no_job (omega (arith, place, agree.jobs_length)),
      )

  -- An earlier job is shown as it was.
  old_validity : (j : ℕ) → j < l.job_count → validity (snapshot_of (with_inserted b job)) j ≡ validity (snapshot_of b) j
  old_validity j h =
      unnoticed (λ s. validity s j) (λ count g more same. validity_same (seen_in b l) count g (seen_in b l).cells same j h (λ x. refl))

  old_job : (j : ℕ) → j < l.job_count → shown_job (with_inserted b job) j ≡ shown_job b j
  unfolding shown_job
  old_job j h =
      rw (old_validity j h, same_committed j h, same_run j h, same_running j h, same_phase j h, same_job j h)

  -- So is every cell.
  old_cell : (x : ℕ) → asked_cell (with_inserted b job) x ≡ asked_cell b x
  unfolding asked_cell cell_refusal with_inserted
  old_cell x = rw (faithful_form agrees_after, faithful_form agree)

  -- What is asked for of the batch before.
  finished_told : (asked_batch b).finished ≡ is_finished b
  unfolding asked_batch
  finished_told = rw (faithful_form agree)

  count_told : (asked_batch b).job_count ≡ l.job_count
  unfolding asked_batch
  count_told = rw (faithful_form agree) agree.job_count

  -- R181: where all others are settled, its own run may be started.
  starts : Replayed (with_inserted b job) (enter l (insert job) (replicate 4 (pos 0))) → is_finished b ≡ true
      → (perform (with_inserted b job) (start_own l.job_count)).refusal ≡ 0
  unfolding enter
  starts replayed finished =
      let f = finished_means b finished in
      let new : l.entry l.job_count ≡ no_entry = agree.nothing_beyond l.job_count (omega arith) in
      own_may_start agrees_after replayed
      (sym (ap (λ (s : Snapshot). s.sealed) (same_snapshot agree)) ∙ ap not f.is_sealed)
      l.job_count (omega arith)
      (ap is_counted new)
      (λ i h. sym (settled_counted agree i) ∙ f.all_settled i (omega (arith, agree.job_count)))
      (ap own_is_out new)
      (ap (λ (n : Entry). is_live (guess_phase n.guess)) new)

  added : Replayed (with_inserted b job) (enter l (insert job) (replicate 4 (pos 0))) → Added job b (with_inserted b job)
  unfolding enter
  added replayed =
      record {
        grows = grows;
        as_given =
            ap (asked_job (with_inserted b job)) (count_told ∙ sym agree.job_count)
            ∙ asked_job_lem agrees_after b.job_count (omega (arith, agree.job_count))
            ∙ new_job;
        jobs_stay = λ j h.
            let held : j < l.job_count = omega (arith, count_told) in
            asked_job_lem agrees_after j (omega arith) ∙ old_job j held ∙ sym (asked_job_lem agree j held);
        cells_stay = old_cell;
        next_step = λ t.
            ap (λ (n : ℕ). (perform (with_inserted b job) (start_own n)).refusal) count_told ∙ starts replayed (sym finished_told ∙ t);
      }

-- The cells are those of the insertion-order run after the insert too.
replayed_after : {b : Batch} {l : Ledger} → Sound b l → (job : Job) → insert_refusal b job ≡ 0
    → Replayed (with_inserted b job) (enter l (insert job) (replicate 4 (pos 0)))
unfolding with_inserted
replayed_after sound job e =
    cells_are_replayed (agrees_after sound.agree job e) (insert_right sound job (replicate 4 (pos 0))).right

pub job_added : AddedStatement
unfolding perform inserted
job_added heights calls e job accepted =
    let sound = sound_always heights calls e in
    rw (accepted_leaves (batch_of heights calls) (insert job) accepted)
    (added sound.agree job accepted (replayed_after sound job accepted))
