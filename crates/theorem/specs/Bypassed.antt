-- What asking a guess tells is what the ledger says of it, and while a job that it looked past is open its job is not ready:
-- the proof.
use Rattle.std.specs.Prelude.{ℕ, zero, suc, ◌<◌, ◌≤◌, Bool, true, false, cond, not, ◌&&◌, List, [], ◌∷◌, ◌≡◌, refl, eqb, leb, ltb, ℤ, get_or}
use Rattle.std.proofs.Common.{arith, sym, ap, ap₂, ◌∙◌, eqb-true, ne_eqb}
use Rattle.std.proofs.Math.Option.{Option}
use Rattle.laws.specs.SearchLaws.{clash, and_left, and_right, any_find, any_found}
use Rattle.dependence.specs.declared.Job.{Job}
use Rattle.dependence.specs.Job.{is_read, counts_as, in_use, access_at}
use Rattle.dependence.specs.Conflict.{conflicts}
use Rattle.dependence.specs.ConflictLaws.{writer_conflicts}
use Rattle.jobset.specs.declared.JobSet.{JobSet}
use Rattle.jobset.specs.JobSet.{has_job}
use Rattle.jobset.specs.JobSetLaws.{has_empty}
use Rattle.rules.specs.Walk.{access_is, looks_back, bypass_at, bypasses}
use Rattle.rules.specs.Speculation.{waits, is_ready}
use Rattle.rules.specs.Call.{Call, insert, seal, start_own, start_speculation, report_own, report_speculation, commit}
use Rattle.engine.specs.declared.Batch.{Batch}
use Rattle.engine.specs.Perform.{perform}
use Rattle.engine.specs.Record.{run_at}
use Rattle.bypass.specs.Bypass.{told_of, bypassed_in, open_at, asked_speculation}
use Rattle.bypass.specs.BypassLaws.{told_same, asked_held}
use Rattle.claims.specs.Ledger.{Report, Counted, GuessEntry, never, entered, reported, struck, Entry, Ledger}
use Rattle.claims.specs.Ledger.{is_counted, guess_phase, guess_bypassed}
use Rattle.claims.specs.Enter.{snapshot_of_ledger, struck_out, with_report, step_entered, enter}
use Rattle.claims.specs.Trace.{event_of, events_of, recorded, ledger_after}
use Rattle.claims.specs.Bypassed.{is_bypassed, is_open, GuessToldStatement}
use Rattle.model.specs.Cases.{below_or}
use Rattle.theorem.specs.Update.{at-or, update_same, update_other}
use Rattle.theorem.specs.Faithful.{Faithful, faithful_form, bypassed_earlier, stage_phase, stage_committed}
use Rattle.theorem.specs.Right.{Sound}
use Rattle.theorem.specs.Always.{call_sound, opened_sound, sound_always}

-- R183: the record's set has the jobs that the ledger entered, and none where there is no guess.

live_has : (guess : GuessEntry) (set : JobSet) (i : ℕ) → has_job set i ≡ guess_bypassed guess i
    → has_job (bypassed_in set (guess_phase guess)) i ≡ guess_bypassed guess i
live_has never set i e = has_empty i
live_has (entered g) set i e = e
live_has (reported g r) set i e = e
live_has struck set i e = has_empty i

module _ {b : Batch} {l : Ledger} (agree : Faithful b l) (j : ℕ) where
  abbrev held : JobSet
  held = bypassed_in (run_at b j).bypassed (get_or b.phase j 0)

  held_has : (i : ℕ) → has_job held i ≡ is_bypassed l j i
  held_has i =
      rw (stage_phase (agree.job_is j).stage)
      (live_has (l.entry j).guess (run_at b j).bypassed i ((agree.job_is j).bypassed_are i))

  open_is : (i : ℕ) → open_at held b.committed i ≡ is_open l j i
  open_is i = ap₂ (λ (s t : Bool). s && not t) (held_has i) (stage_committed (agree.job_is i).stage)

  faithful_told : j < l.job_count
      → asked_speculation b j ≡ record { refusal = 0; bypassed = told_of (is_bypassed l j); «open» = told_of (is_open l j) }
  faithful_told h =
      asked_held b j (faithful_form agree) (omega (arith, agree.job_count))
      ∙ (λ k.
      record {
        refusal = 0;
        bypassed = told_same (has_job held) (is_bypassed l j) held_has k;
        «open» = told_same (open_at held b.committed) (is_open l j) open_is k;
      })

-- What counts as a maybe-write is no read.
no_read : (mode : ℕ) → counts_as mode ≡ 2 → is_read mode ≡ false
no_read zero e = absurd (omega arith)
no_read (suc mode) e = ne_eqb (suc mode) 0 (λ q. omega arith)

-- R184. A guess looks past a job only by a cell that both have and that the earlier one maybe-writes, so the two conflict.
bypass_conflicts : (job : ℕ → Job) (committed : ℕ → Bool) (j i : ℕ) → bypasses job committed j i ≡ true
    → conflicts (job i) (job j) ≡ true
bypass_conflicts job committed j i e =
    let p = any_find 4 (bypass_at job committed j i) (and_right (ltb i j) _ e) in
    let used = and_left (in_use (job j) p.place) _ (and_left (looks_back (job j) p.place) _ p.holds) in
    let cell = (access_at (job j) p.place).cell in
    let met = and_right (leb _ i) _ (and_right (looks_back (job j) p.place) _ p.holds) in
    let q = any_find 4 (λ k. in_use (job i) k && access_is 2 cell (access_at (job i) k)) (and_right (not (committed i)) _ met) in
    let access = and_right (in_use (job i) q.place) _ q.holds in
    let same = eqb-true (access_at (job i) q.place).cell cell (and_left (eqb (access_at (job i) q.place).cell cell) _ access) in
    let mode = eqb-true (counts_as (access_at (job i) q.place).mode) 2 (and_right (eqb (access_at (job i) q.place).cell cell) _ access) in
    writer_conflicts (job i) (job j) q.place p.place q.below p.below
    (and_left (in_use (job i) q.place) _ q.holds) used same
    (rw (no_read (access_at (job i) q.place).mode mode))

-- So in every ledger that a list of calls leads to the jobs that a guess looked past conflict with its job.
abbrev PastConflicts : Ledger → Type 0
PastConflicts l = (j i : ℕ) → is_bypassed l j i ≡ true → conflicts (l.job i) (l.job j) ≡ true

-- A step on job j: its guess looked past jobs in conflict with it, and the other guesses are as they were.
step_conflicts : (l : Ledger) (j : ℕ) (own : Option (List ℤ)) (guess : GuessEntry) (counted : Option Counted) → PastConflicts l
    → ((i : ℕ) → guess_bypassed guess i ≡ true → conflicts (l.job i) (l.job j) ≡ true)
    → PastConflicts (step_entered l j own guess counted)
step_conflicts l j own guess counted past here k i =
    at-or k j
    (λ same. rw (update_same l.entry j _ k same, same) (here i))
    (λ other. rw (update_other l.entry j _ k other) (past k i))

-- What becomes of a guess when its own run is started, and when it is reported.
struck_past : (guess : GuessEntry) (i : ℕ) → guess_bypassed (struck_out guess) i ≡ false
struck_past never i = refl
struck_past (entered g) i = refl
struck_past (reported g r) i = refl
struck_past struck i = refl

report_past : (guess : GuessEntry) (r : Report) (i : ℕ) → guess_bypassed (with_report guess r) i ≡ guess_bypassed guess i
report_past never r i = refl
report_past (entered g) r i = refl
report_past (reported g r') r i = refl
report_past struck r i = refl

enter_conflicts : {b : Batch} {l : Ledger} → Faithful b l → PastConflicts l → (call : Call) (handed : List ℤ)
    → PastConflicts (enter l call handed)
unfolding enter
enter_conflicts {b} {l} agree past (insert job) handed j i e =
    let n = l.job_count in
    let nothing : n ≤ j → is_bypassed l j i ≡ false =
    λ h. ap (λ (entry : Entry). guess_bypassed entry.guess i) (agree.nothing_beyond j h) in
    let j-held : j < n = below_or j n (λ h. h) (λ h. clash e (nothing h)) in
    let i-before = bypassed_earlier agree j i e in
    rw (update_other l.job n job i (λ q. omega arith), update_other l.job n job j (λ q. omega arith)) (past j i e)
enter_conflicts agree past (seal switch) handed j i e = past j i e
enter_conflicts {b} {l} agree past (start_own k) handed j i e =
    step_conflicts l k _ _ _ past (λ i e. clash e (struck_past (l.entry k).guess i)) j i e
enter_conflicts {b} {l} agree past (start_speculation k) handed j i e =
    step_conflicts l k _ _ _ past (bypass_conflicts l.job (λ i. is_counted (l.entry i)) k) j i e
enter_conflicts {b} {l} agree past (report_own k values wrote) handed j i e = step_conflicts l k _ _ _ past (past k) j i e
enter_conflicts {b} {l} agree past (report_speculation k values wrote) handed j i e =
    step_conflicts l k _ _ _ past (λ i e. past k i (sym (report_past (l.entry k).guess _ i) ∙ e)) j i e
enter_conflicts {b} {l} agree past (commit k) handed j i e = step_conflicts l k _ _ _ past (past k) j i e

past_after : {b : Batch} {l : Ledger} → Sound b l → PastConflicts l → (calls : List Call)
    → PastConflicts (ledger_after l (events_of b calls))
unfolding events_of ledger_after
past_after sound past [] = past
past_after {b} {l} sound past (call ∷ calls) =
    past_after {b = (perform b call).batch} {l = recorded l (event_of b call)} (call_sound sound call) (cases (eqb (perform b call).refusal 0)) calls
  where
    cases : (t : Bool) → PastConflicts (cond t (enter l call (perform b call).handed) l)
    cases true = enter_conflicts sound.agree past call (perform b call).handed
    cases false = past

-- While one of them is open, the job is not ready.
open_waits : {b : Batch} {l : Ledger} → Faithful b l → PastConflicts l → (j i : ℕ) → is_open l j i ≡ true
    → is_ready (snapshot_of_ledger l) j ≡ false
unfolding is_ready
open_waits {b} {l} agree past j i e =
    let looked = and_left (is_bypassed l j i) _ e in
    ap not
    (any_found j i (waits (snapshot_of_ledger l) j) (bypassed_earlier agree j i looked) (rw (and_right (is_bypassed l j i) _ e) (past j i looked)))

pub guess_told : GuessToldStatement
guess_told heights calls e =
    let agree = (sound_always heights calls e).agree in
    record {
      told = faithful_told agree;
      waits = open_waits agree (past_after (opened_sound heights e) (λ j i looked. clash looked refl) calls);
    }
