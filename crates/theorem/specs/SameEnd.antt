-- The end of two lists of calls with the same jobs and the same rules: the proof.
use Prim.Native.Nat.{ℕ, zero, suc, ◌<◌, ◌≤◌}
use Rattle.std.proofs.Common.{arith, ◌∙◌}
use Rattle.std.specs.Prelude.{Bool, true, false, cond, List, [], ◌∷◌, ◌≡◌, refl, ℤ, length}
use Rattle.std.proofs.Math.Option.{Option, none, some}
use Rattle.std.proofs.Math.Path.{sym, ap}
use Rattle.laws.specs.SearchLaws.{clash}
use Rattle.dependence.specs.declared.Job.{Job}
use Rattle.rules.specs.Values.{value_at, present_values, write_back}
use Rattle.rules.specs.Call.{Call, insert, seal, start_own, start_speculation, report_own, report_speculation, commit}
use Rattle.engine.specs.declared.Batch.{Batch}
use Rattle.engine.specs.Opening.{opened}
use Rattle.claims.specs.Ledger.{Report, Counted, Ledger, empty_ledger, is_some}
use Rattle.claims.specs.Enter.{enter}
use Rattle.claims.specs.Replay.{turn, replay, left_for}
use Rattle.claims.specs.Trace.{Event, events_of, recorded, ledger_after, ledger_of}
use Rattle.claims.specs.Demand3.{Demand3}
use Rattle.claims.specs.SameEnd.{SameJobs, Follows, EndAlike, SameEndStatement}
use Rattle.theorem.specs.Theorem.{told, demand3}
use Rattle.theorem.specs.SameJob.{present_same, write_back_same}

-- What is counted of a settled job.
record IsCounted (counted : Option Counted) : Type 0 where
  run : Counted
  is : counted ≡ some run

-- A settled job has a counted run.
counted_as : (counted : Option Counted) → is_some counted ≡ true → IsCounted counted
counted_as none t = clash t refl
counted_as (some c) t = record { run = c; is = refl }

-- Its turn writes the counted report.
turn_counted : (job : Job) (counted : Option Counted) (c : Counted) (cells : List ℤ) → counted ≡ some c
    → turn job counted cells ≡ write_back job c.report.values c.report.wrote cells
turn_counted job counted c cells e = rw e

-- Two batches with their ledgers, of which demand 3 holds.
module _ {b d : Batch} {l m : Ledger} (claim-l : Demand3 b l) (claim-m : Demand3 d m)
    (heights_same : l.heights ≡ m.heights) (same : SameJobs l m) (rule : ℕ → List ℤ → Report) (ruled-l : Follows rule l) (ruled-m : Follows rule m) where
  -- A job's counted report is what its rule gives for what the jobs before it left.
  report_l : (j : ℕ) (c : Counted) → (l.entry j).counted ≡ some c → c.report ≡ rule j (left_for l j)
  report_l j c e = ruled-l.by_rule j c e ∙ ap (rule j) (claim-l.handed j c e)

  report_m : (j : ℕ) (c : Counted) → (m.entry j).counted ≡ some c → c.report ≡ rule j (left_for m j)
  report_m j c e = ruled-m.by_rule j c e ∙ ap (rule j) (claim-m.handed j c e)

  -- Where the runs agree before a job, the job is left the same values.
  left_same : (j : ℕ) → j < l.job_count → replay l j ≡ replay m j → left_for l j ≡ left_for m j
  left_same j h e =
      present_same (same.jobs_same j h) (replay l j) ∙ ap (present_values (m.job j)) e

  -- So its reports are the same,
  reports_same : (j : ℕ) → j < l.job_count → replay l j ≡ replay m j → (c k : Counted)
      → (l.entry j).counted ≡ some c → (m.entry j).counted ≡ some k → c.report ≡ k.report
  reports_same j h e c k p q = report_l j c p ∙ ap (rule j) (left_same j h e) ∙ sym (report_m j k q)

  -- Every job has a counted run in both.
  counted_l : (j : ℕ) → j < l.job_count → IsCounted (l.entry j).counted
  counted_l j h = counted_as (l.entry j).counted (ruled-l.all_settled j h)

  counted_m : (j : ℕ) → j < l.job_count → IsCounted (m.entry j).counted
  counted_m j h = counted_as (m.entry j).counted (ruled-m.all_settled j (omega (arith, same.count_same)))

  -- and the runs agree before the next.
  replays_same : (k : ℕ) → k ≤ l.job_count → replay l k ≡ replay m k
  unfolding replay
  replays_same zero h = heights_same
  replays_same (suc k) h =
      let before = replays_same k (omega arith) in
      let c = counted_l k h in
      let n = counted_m k h in
      turn_counted (l.job k) (l.entry k).counted c.run (replay l k) c.is
      ∙ ap (λ (r : Report). write_back (l.job k) r.values r.wrote (replay l k))
      (reports_same k h before c.run n.run c.is n.is)
      ∙ write_back_same (same.jobs_same k h) n.run.report.values n.run.report.wrote (replay l k)
      ∙ ap (write_back (m.job k) n.run.report.values n.run.report.wrote) before
      ∙ sym (turn_counted (m.job k) (m.entry k).counted n.run (replay m k) n.is)

  -- The batches ended alike.
  pub end_alike : EndAlike (length l.heights) l.job_count b d
  end_alike =
      record {
        cells_same = λ x h.
            claim-l.cells x h
            ∙ ap (λ (cells : List ℤ). told (value_at cells x)) (replays_same l.job_count (omega arith))
            ∙ ap (λ (n : ℕ). told (value_at (replay m n) x)) same.count_same
            ∙ sym (claim-m.cells x (omega (arith, ap length heights_same)));
        marks_same = λ j h.
            let c = counted_l j h in
            let n = counted_m j h in
            claim-l.marks j c.run c.is
            ∙ ap (λ (r : Report). r.wrote) (reports_same j h (replays_same j (omega arith)) c.run n.run c.is n.is)
            ∙ sym (claim-m.marks j n.run n.is);
      }

-- The heights of a ledger stay those of the opening.

enter_heights : (l : Ledger) (call : Call) (handed : List ℤ) → (enter l call handed).heights ≡ l.heights
unfolding enter
enter_heights l (insert job) handed = refl
enter_heights l (seal switch) handed = refl
enter_heights l (start_own j) handed = refl
enter_heights l (start_speculation j) handed = refl
enter_heights l (report_own j values wrote) handed = refl
enter_heights l (report_speculation j values wrote) handed = refl
enter_heights l (commit j) handed = refl

recorded_heights : (l : Ledger) (e : Event) → (recorded l e).heights ≡ l.heights
recorded_heights l e = cases e.accepted
  where
    cases : (t : Bool) → (cond t (enter l e.call e.handed) l).heights ≡ l.heights
    cases true = enter_heights l e.call e.handed
    cases false = refl

ledger_heights : (l : Ledger) (events : List Event) → (ledger_after l events).heights ≡ l.heights
unfolding ledger_after
ledger_heights l [] = refl
ledger_heights l (e ∷ events) = ledger_heights (recorded l e) events ∙ recorded_heights l e

pub same_end : SameEndStatement
same_end heights first second e same rule ruled-first ruled-second =
    let start = ledger_heights (empty_ledger heights) in
    let heights-first : (ledger_of heights first).heights ≡ heights = start (events_of (opened heights).batch first) in
    let heights-second : (ledger_of heights second).heights ≡ heights = start (events_of (opened heights).batch second) in
    let ended =
    end_alike (demand3 heights first e) (demand3 heights second e) (heights-first ∙ sym heights-second) same rule ruled-first
    ruled-second
    in
    record {
      cells_same = λ x h. ended.cells_same x (omega (arith, ap length heights-first));
      marks_same = ended.marks_same;
    }
