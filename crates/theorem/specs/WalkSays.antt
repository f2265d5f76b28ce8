-- A guess that the rules allow to start gathers its values as the model's walk does, where none of them is predicted.
use Prim.Native.Nat.{ℕ, zero, suc, ◌-◌, ◌<◌, ◌≤◌}
use native.Mathlib.Omega.{arith}
use Rattle.std.specs.Prelude.{Bool, true, false, cond, not, ◌&&◌, List, ◌≡◌, eqb, ℤ}
use Rattle.std.proofs.Math.Option.{Option, none, some}
use Rattle.std.proofs.Math.Path.{refl, ap}
use Rattle.std.proofs.Common.{sym, ◌∙◌, eq-eqb, ne_eqb, eqb-true, le-leb, lt-ltb}
use Rattle.std.proofs.lemmas.Bool.{not-false}
use Rattle.laws.specs.SearchLaws.{any_find, any_found, any_fails, each_of_four, if-or, clash, and_left, and_right}
use Rattle.dependence.specs.declared.Job.{Job}
use Rattle.dependence.specs.Job.{is_predicted, counts_as, in_use, access_at, predicts_at, predicts, job_at}
use Rattle.admission.specs.AdmissionLaws.{admitted_distinct}
use Rattle.rules.specs.Values.{four, value_at, value_for, presumed_at, stored_values}
use Rattle.rules.specs.Walk.{access_is, writes as writesCell, maybe_writes, source_below as sourceNumber, bypass_at}
use Rattle.rules.specs.Snapshot.{is_stored}
use Rattle.rules.specs.Speculation.{source_now, bypassed_now, unusable, source_missing}
use Rattle.runs.specs.RunLaws.{DistinctCells, stored_value}
use Rattle.engine.specs.declared.Batch.{Batch}
use Rattle.engine.specs.Record.{run_at}
use Rattle.engine.specs.Steps.{speculative_at, speculative_values}
use Rattle.model.specs.State.{Use, absent, reads, writes, maybe, names, is_committed, report_at}
use Rattle.model.specs.StateLaws.{writes_named}
use Rattle.model.specs.Walk.{stop_at, source_below, first_after, source_met, HandedFrom, Gathered}
use Rattle.claims.specs.Ledger.{Report, Guess, GuessEntry, never, entered, reported, struck, Ledger}
use Rattle.claims.specs.Ledger.{is_counted, guess_phase}
use Rattle.claims.specs.Enter.{snapshot_of_ledger}
use Rattle.theorem.specs.Faithful.{Faithful}
use Rattle.theorem.specs.Held.{guess_stored}
use Rattle.theorem.specs.StepAgreement.{sources_agree}
use Rattle.theorem.specs.View.{use_of_mode, use_of, job_number, origin_for, speculation_of, state_of, progress_committed}
use Rattle.theorem.specs.View.{mode_one, mode_two, use_counts, one_writes, Place, place_of, place_mode}

-- The rules' tests on a job, and the uses of the cell.

-- A job that surely writes a cell passes the rules' test for it,
writes_said : (job : Job) (x : ℕ) → use_of job x ≡ writes → writesCell job x ≡ true
writes_said job x e = at (place_of job x (writes_named e))
  where
    at : Place job x 4 → writesCell job x ≡ true
    at p =
        any_found 4 p.place (λ i. in_use job i && access_is 1 x (access_at job i)) p.below
        (rw (
          p.used,
          eq-eqb (access_at job p.place).cell x p.cell,
          mode_one (access_at job p.place).mode (sym p.mode ∙ e),
        ))

-- and back, where the job names no cell twice.
said_writes : (job : Job) (x : ℕ) → DistinctCells job → writesCell job x ≡ true → use_of job x ≡ writes
said_writes job x distinct e =
    let f = any_find 4 (λ i. in_use job i && access_is 1 x (access_at job i)) e in
    at f.place f.below f.holds
  where
    at : (i : ℕ) → i < 4 → (in_use job i && (eqb (access_at job i).cell x && eqb (counts_as (access_at job i).mode) 1)) ≡ true
        → use_of job x ≡ writes
    at i h t =
        let used : in_use job i ≡ true = and_left (in_use job i) _ t in
        let both : (eqb (access_at job i).cell x && eqb (counts_as (access_at job i).mode) 1) ≡ true = and_right (in_use job i) _ t in
        let cell : (access_at job i).cell ≡ x =
        eqb-true (access_at job i).cell x (and_left (eqb (access_at job i).cell x) _ both) in
        let mode : counts_as (access_at job i).mode ≡ 1 =
        eqb-true (counts_as (access_at job i).mode) 1 (and_right (eqb (access_at job i).cell x) _ both) in
        ap (λ (y : ℕ). use_of job y) (sym cell) ∙ place_mode job distinct i h used
        ∙ sym (use_counts (access_at job i).mode) ∙ ap use_of_mode mode ∙ one_writes

-- A maybe-writer names its cell.
maybe_named : {use' : Use} → use' ≡ maybe → names use' ≡ true
unfolding names
maybe_named e = rw e

-- A maybe-writer passes the rules' test for one.
maybe_said : (job : Job) (x : ℕ) → use_of job x ≡ maybe → maybe_writes job x ≡ true
maybe_said job x e = at (place_of job x (maybe_named e))
  where
    at : Place job x 4 → maybe_writes job x ≡ true
    at p =
        any_found 4 p.place (λ i. in_use job i && access_is 2 x (access_at job i)) p.below
        (rw (
          p.used,
          eq-eqb (access_at job p.place).cell x p.cell,
          mode_two (access_at job p.place).mode (sym p.mode ∙ e),
        ))

-- The walk back.

-- It goes on past a job that does not surely write the cell.
passed_by : (use' : Use) (i : ℕ) (further : Option ℕ) → (use' ≡ writes → ⊥) → stop_at false use' i further ≡ further
unfolding stop_at
passed_by absent i further n = refl
passed_by reads i further n = refl
passed_by writes i further n = absurd (n refl)
passed_by maybe i further n = refl

-- At one job, the rules' walk by numbers does what the model's does.
walk_step : (job : Job) (x : ℕ) → DistinctCells job → (t : Bool) (i n : ℕ)
    → job_number (cond (not t && writesCell job x) (suc i) n) ≡ stop_at t (use_of job x) i (job_number n)
unfolding stop_at job_number
walk_step job x distinct true i n = refl
walk_step job x distinct false i n =
    if-or (writesCell job x)
    (λ t. rw (t, said_writes job x distinct t))
    (λ f. rw f (sym (passed_by (use_of job x) i (job_number n) (λ e. clash (writes_said job x e) f))))

-- So they stop at the same job.
module _ {b : Batch} {l : Ledger} (agree : Faithful b l) (cells : List ℤ) (x : ℕ) where
  pub walk_says : (j : ℕ) → j ≤ l.job_count
      → job_number (sourceNumber l.job (λ i. is_counted (l.entry i)) x j) ≡ source_below (state_of l cells) x j
  unfolding sourceNumber source_below job_number
  walk_says zero h = refl
  walk_says (suc j) h =
      walk_step (l.job j) x (admitted_distinct (l.job j) _ (agree.admitted j h)) (is_counted (l.entry j)) j
      (sourceNumber l.job (λ i. is_counted (l.entry i)) x j)
      ∙ ap (λ (t : Bool). stop_at t (use_of (l.job j) x) j (job_number (sourceNumber l.job (λ i. is_counted (l.entry i)) x j)))
      (sym (progress_committed (l.job j) (l.entry j).own (l.entry j).counted))
      ∙ ap (stop_at (is_committed ((state_of l cells).progress j)) (use_of (l.job j) x) j) (walk_says j (omega arith))

-- What a stored report of the record holds at a cell that the job surely writes is the reported value.
forwarded_value : (job : Job) (x : ℕ) → use_of job x ≡ writes → (handed values : List ℤ) (wrote : ℕ)
    → value_for job (stored_values job handed values wrote) x ≡ value_for job values x
forwarded_value job x e handed values wrote = at (place_of job x (writes_named e))
  where
    at : Place job x 4 → value_for job (stored_values job handed values wrote) x ≡ value_for job values x
    at p =
        p.value (stored_values job handed values wrote)
        ∙ stored_value job handed values wrote p.place p.below
        ∙ rw (p.used, mode_one (access_at job p.place).mode (sym p.mode ∙ e)) (sym (p.value values))

-- A guess with a report, as the ledger has it.
pub record ReportedGuess (guess : GuessEntry) : Type 0 where
  pub of : Guess
  pub report : Report
  pub entered_as : guess ≡ reported of report

-- A guess in the stored state is one.
pub reported_guess : (guess : GuessEntry) → is_stored (guess_phase guess) ≡ true → ReportedGuess guess
reported_guess never t = clash t refl
reported_guess (entered g) t = clash t refl
reported_guess (reported g r) t = record { of = g; report = r; entered_as = refl }
reported_guess struck t = clash t refl

-- What the model reads of its report.
report_is : (job : Job) (guess : GuessEntry) (g : Guess) (r : Report) (x : ℕ) → guess ≡ reported g r
    → report_at (speculation_of job guess) x ≡ some (value_for job r.values x)
unfolding report_at speculation_of
report_is job guess g r x e = rw e

-- A source as a number, and as a job that there may be.

number_none : job_number 0 ≡ none
unfolding job_number
number_none = refl

number_some : (w : ℕ) → job_number (suc w) ≡ some w
unfolding job_number
number_some w = refl

after_number : (n : ℕ) → first_after (job_number n) ≡ n
unfolding job_number
after_number zero = refl
after_number (suc w) = refl

-- A value of four by its place.
pub four_at : (f : ℕ → ℤ) (i : ℕ) → i < 4 → value_at (four f) i ≡ f i
four_at f = each_of_four (λ i. value_at (four f) i ≡ f i) refl refl refl refl

-- A guess of job j that starts now.
abbrev pub new_guess : Ledger → ℕ → List ℤ → Guess
new_guess l j handed =
    record { handed = handed; bypassed = bypassed_now (snapshot_of_ledger l) j; source = source_now (snapshot_of_ledger l) j }

module _ {b : Batch} {l : Ledger} (agree : Faithful b l) (j : ℕ) (h : j < l.job_count)
    (usable : source_missing (snapshot_of_ledger l) j ≡ false) (plain : predicts (l.job j) ≡ false) where
  -- The job predicts nothing, so it looks back from each place in use.
  unpredicted_at : (i : ℕ) → i < 4 → predicts_at (l.job j) i ≡ false
  unpredicted_at i place = any_fails 4 i (predicts_at (l.job j)) plain place

  mode_unpredicted : (i : ℕ) → i < 4 → in_use (l.job j) i ≡ true → is_predicted (access_at (l.job j) i).mode ≡ false
  mode_unpredicted i place used = rw used at (unpredicted_at i place)

  -- What is handed out at a place, by where its value comes from (a number as the record has it).
  handed_by : ℕ → ℕ → ℤ
  handed_by i n =
      cond (eqb n 0) (presumed_at (job_at b.jobs j) b.cells i)
      (value_for (job_at b.jobs (n - 1)) (run_at b (n - 1)).reported (access_at (job_at b.jobs j) i).cell)

  -- It is what the guess is handed there.
  handed_by_lem : (i n : ℕ) → source_now (snapshot_of_ledger l) j i ≡ n → speculative_at b j i ≡ handed_by i n
  unfolding handed_by
  handed_by_lem i n e = ap (handed_by i) (sources_agree agree j h i ∙ e)

  -- The walk at a place of the job is the model's at its cell.
  walked_at : (x i : ℕ) → i < 4 → in_use (l.job j) i ≡ true → (access_at (l.job j) i).cell ≡ x
      → job_number (source_now (snapshot_of_ledger l) j i) ≡ source_below (state_of l b.cells) x j
  walked_at x i place used cell =
      rw (used, mode_unpredicted i place used)
      (ap (λ (y : ℕ). job_number (sourceNumber l.job (λ i. is_counted (l.entry i)) y j)) cell
      ∙ walk_says agree b.cells x j (omega arith))

  -- Where no writer is met the present value is handed out,
  value_present : (x i : ℕ) → i < 4 → in_use (l.job j) i ≡ true → (access_at (l.job j) i).cell ≡ x
      → source_now (snapshot_of_ledger l) j i ≡ 0 → speculative_at b j i ≡ value_at b.cells x
  unfolding handed_by
  value_present x i place used cell e =
      handed_by_lem i 0 e ∙ rw (agree.jobs_are j h, used, mode_unpredicted i place used) (ap (value_at b.cells) cell)

  -- and else what the writer's guess reported.
  module _ (x i w : ℕ) (place : i < 4) (used : in_use (l.job j) i ≡ true) (cell : (access_at (l.job j) i).cell ≡ x)
      (e : source_now (snapshot_of_ledger l) j i ≡ suc w) where
    -- The writer comes before job j and surely writes the cell.
    met : (w < j) × (use_of (l.job w) x ≡ writes)
    met =
        let m =
        (source_met (state_of l b.cells) x j).writer w (sym (walked_at x i place used cell) ∙ ap job_number e ∙ number_some w) in
        (m.0, m.1)

    -- Its guess has a report, or the start would have been refused with 15.
    usable_at : (n : ℕ) → n ≡ suc w → unusable (snapshot_of_ledger l) n ≡ false
        → is_stored (guess_phase (l.entry w).guess) ≡ true
    usable_at n q t =
        let m : suc w - 1 ≡ w = omega arith in
        not-false (is_stored (guess_phase (l.entry w).guess)) (rw (q, ne_eqb (suc w) 0 (λ z. omega arith), m) at t)

    has_report : ReportedGuess (l.entry w).guess
    has_report =
        reported_guess (l.entry w).guess
        (usable_at (source_now (snapshot_of_ledger l) j i) e
        (any_fails 4 i (λ place. unusable (snapshot_of_ledger l) (source_now (snapshot_of_ledger l) j place)) usable place))

    -- That report's value is handed out.
    value_forwarded : report_at (speculation_of (l.job w) (l.entry w).guess) x ≡ some (speculative_at b j i)
    unfolding handed_by
    value_forwarded =
        let g = has_report in
        let held = guess_stored agree w g.of g.report g.entered_as in
        let m : suc w - 1 ≡ w = omega arith in
        let earlier : w < l.job_count = omega (arith, met.0) in
        report_is (l.job w) (l.entry w).guess g.of g.report x g.entered_as
        ∙ ap some
        (sym
        (handed_by_lem i (suc w) e
        ∙ rw (ne_eqb (suc w) 0 (λ z. omega arith), m, agree.jobs_are j h, agree.jobs_are w earlier, cell, held.reported_is)
        (forwarded_value (l.job w) x met.1 g.of.handed g.report.values g.report.wrote)))

  -- So each value is the one that the model's walk hands out.
  value_at_lem : (x i : ℕ) → i < 4 → in_use (l.job j) i ≡ true → (access_at (l.job j) i).cell ≡ x
      → (n : ℕ) → source_now (snapshot_of_ledger l) j i ≡ n
      → HandedFrom (state_of l b.cells) x (job_number n) (speculative_at b j i)
  value_at_lem x i place used cell zero e = rw number_none (value_present x i place used cell e)
  value_at_lem x i place used cell (suc w) e = rw (number_some w) (value_forwarded x i w place used cell e)

  -- A maybe-writer that is met is among those looked past.
  covered : (x i k : ℕ) → i < 4 → in_use (l.job j) i ≡ true → (access_at (l.job j) i).cell ≡ x
      → source_now (snapshot_of_ledger l) j i ≤ k → k < j → is_counted (l.entry k) ≡ false → use_of (l.job k) x ≡ maybe
      → bypassed_now (snapshot_of_ledger l) j k ≡ true
  covered x i k place used cell from below unsettled use' =
      rw (lt-ltb k j below)
      (any_found 4 i (bypass_at l.job (λ i. is_counted (l.entry i)) j k) place
      (rw (
        le-leb (source_now (snapshot_of_ledger l) j i) k from,
        used,
        mode_unpredicted i place used,
        unsettled,
        cell,
        maybe_said (l.job k) x use',
      )))

  -- A guess that the rules let start gathers its values by the walk.
  pub new_gathered : Gathered (state_of l b.cells) j (origin_for (l.job j) (new_guess l j (speculative_values b j)))
  new_gathered =
      record {
        walked = λ x n. let p = place_of (l.job j) x n in
            ap job_number (p.number (source_now (snapshot_of_ledger l) j)) ∙ walked_at x p.place p.below p.used p.cell;
        value = λ x n. let p = place_of (l.job j) x n in
            rw (
              p.number (source_now (snapshot_of_ledger l) j),
              p.value (speculative_values b j),
              four_at (speculative_at b j) p.place p.below,
            )
            (value_at_lem x p.place p.below p.used p.cell (source_now (snapshot_of_ledger l) j p.place) refl);
        covers = λ x k n from below unsettled use'. let p = place_of (l.job j) x n in
            covered x p.place k p.below p.used p.cell
            (rw (after_number, p.number (source_now (snapshot_of_ledger l) j)) at from) below
            (sym (progress_committed (l.job k) (l.entry k).own (l.entry k).counted) ∙ unsettled) use';
      }
