-- What a start leaves of the ranks: those of the other jobs, unless a stored guess goes with it. So a turn need not survey the
-- jobs again after each of its steps.
use Rattle.std.specs.Prelude.{ℕ, zero, suc, ◌-◌, ◌<◌, ◌≤◌, Bool, cond, ◌&&◌, ◌||◌, List, [], ◌∷◌, ◌≡◌, leb, length, get_or, set}
use Rattle.std.proofs.Common.{arith, sym, ◌∙◌, length-set}
use Rattle.std.proofs.Math.Bool.{true, false, not}
use Rattle.std.proofs.Math.Path.{refl, ap}
use Rattle.std.proofs.Math.Dec.{eqb, eqb-suc-zero}
use Rattle.std.proofs.Math.Seq.{get_or-set_same, get_or-set_other}
use borrow.Author.Tests.{eqb-true, eqb-false, ne_eqb, not-false}
use Rattle.laws.specs.Refusal.{Refusal, when, first_of}
use Rattle.laws.specs.Search.{any_below}
use Rattle.laws.specs.RefusalLaws.{passed}
use Rattle.laws.specs.SearchLaws.{any_same, if-or, or_true, or_left, or_right}
use Rattle.dependence.specs.declared.Job.{Job}
use Rattle.dependence.specs.Job.{access_at, job_at}
use Rattle.dependence.specs.Ready.{is_committed, ready}
use Rattle.rules.specs.Walk.{source_below, looks_back}
use Rattle.rules.specs.Snapshot.{never_started, is_stored, is_live}
use Rattle.rules.specs.Speculation.{waits, is_ready, is_valid, is_invalid, unusable, source_now, source_missing}
use Rattle.rules.specs.Call.{start_own, start_speculation, commit}
use Rattle.rules.specs.Refusals.{refusal_of}
use Rattle.cellset.specs.AllowedLaws.{allowed_rank}
use Rattle.engine.specs.declared.Batch.{Batch}
use Rattle.engine.specs.declared.Report.{Report}
use Rattle.engine.specs.declared.change.Standing.{Standing}
use Rattle.engine.specs.declared.change.Change.{Change}
use Rattle.engine.specs.Record.{no_run, run_at, committed_at, snapshot_of}
use Rattle.engine.specs.Steps.{with_job_changed}
use Rattle.engine.specs.StepLaws.{ready_is}
use Rattle.engine.specs.Speculation.{invalid_run}
use Rattle.engine.specs.Change.{speculation_start, standing_at, guess_at, plain_change, change_for, with_change}
use Rattle.engine.specs.InsertAllPass.{Sized}
use Rattle.engine.specs.ChooserPass.{open_at}
use Rattle.engine.specs.Ranks.{Ranked}

-- c is b but for the run of job p, whether its own run is out, and its guess; no stored guess of it came or went.
pub record Apart (p : ℕ) (b c : Batch) : Type 0 where
  pub count_same : c.job_count ≡ b.job_count
  pub sealed_same : c.sealed ≡ b.sealed
  pub switch_same : c.speculating ≡ b.speculating
  pub jobs_same : c.jobs ≡ b.jobs
  pub cells_same : c.cells ≡ b.cells
  pub settled_same : (i : ℕ) → committed_at c i ≡ committed_at b i
  pub running_same : (i : ℕ) → (i ≡ p → ⊥) → get_or c.running i 0 ≡ get_or b.running i 0
  pub phase_same : (i : ℕ) → (i ≡ p → ⊥) → get_or c.phase i 0 ≡ get_or b.phase i 0
  pub run_same : (i : ℕ) → (i ≡ p → ⊥) → run_at c i ≡ run_at b i
  pub stored_same : is_stored (get_or c.phase p 0) ≡ is_stored (get_or b.phase p 0)

source_same : (job : ℕ → Job) (f g : ℕ → Bool) (cell : ℕ) → ((i : ℕ) → f i ≡ g i) → (j : ℕ) → source_below job f cell j ≡ source_below job g cell j
unfolding source_below
source_same job f g cell same zero = refl
source_same job f g cell same (suc j) = rw (same j, source_same job f g cell same j)

module _ (p : ℕ) (b c : Batch) (apart : Apart p b c) where
  ready_same : (j : ℕ) → is_ready (snapshot_of c) j ≡ is_ready (snapshot_of b) j
  unfolding is_ready
  ready_same j =
      ap not
      (any_same j (waits (snapshot_of c) j) (waits (snapshot_of b) j) (λ i h. rw (apart.settled_same i, apart.jobs_same)))

  stored_at : (i : ℕ) → is_stored (get_or c.phase i 0) ≡ is_stored (get_or b.phase i 0)
  stored_at i =
      if-or (eqb i p)
      (λ t. rw (eqb-true i p t) apart.stored_same)
      (λ f. ap is_stored (apart.phase_same i (eqb-false i p f)))

  source_kept : (j place : ℕ) → source_now (snapshot_of c) j place ≡ source_now (snapshot_of b) j place
  source_kept j place =
      rw apart.jobs_same
      (ap (λ (source : ℕ). cond (looks_back (job_at b.jobs j) place) source 0)
      (source_same (λ i. job_at b.jobs i) (committed_at c) (committed_at b) (access_at (job_at b.jobs j) place).cell apart.settled_same j))

  missing_same : (j : ℕ) → source_missing (snapshot_of c) j ≡ source_missing (snapshot_of b) j
  missing_same j =
      any_same 4 (λ place. unusable (snapshot_of c) (source_now (snapshot_of c) j place)) (λ place. unusable (snapshot_of b) (source_now (snapshot_of b) j place))
      (λ place h. rw (source_kept j place) (usable (source_now (snapshot_of b) j place)))
    where
      usable : (source : ℕ) → unusable (snapshot_of c) source ≡ unusable (snapshot_of b) source
      usable source = rw (stored_at (source - 1))

  -- On another job just the same is allowed.
  pub rank_same : (j : ℕ) → (j ≡ p → ⊥) → allowed_rank (snapshot_of c) j ≡ allowed_rank (snapshot_of b) j
  unfolding refusal_of is_valid is_invalid first_of is_ready any_below
  rank_same j other =
      rw (
        ready_same j,
        missing_same j,
        apart.settled_same j,
        apart.running_same j other,
        apart.phase_same j other,
        apart.run_same j other,
        apart.count_same,
        apart.sealed_same,
        apart.switch_same,
        apart.cells_same,
        apart.jobs_same,
      )

  -- So where nothing is allowed on job p any more, its rank alone is to be taken away.
  pub start_ranked : (ranks : List ℕ) → p < 128 → ((j : ℕ) → j < b.job_count → get_or ranks j 0 ≡ allowed_rank (snapshot_of b) j)
      → ((j : ℕ) → j < b.job_count → get_or ranks j 0 ≤ 3) → length ranks ≡ 128 → allowed_rank (snapshot_of c) p ≡ 0
      → Ranked c (set ranks p 0)
  start_ranked ranks h is-rank judged long gone = record {
    long = length-set ranks p 0 ∙ long;
    few = λ j l.
        if-or (eqb j p)
        (λ t. rw (eqb-true j p t, get_or-set_same ranks p 0 0 (omega (arith, long))) (omega arith))
        (λ f.
        rw (get_or-set_other ranks p j 0 0 (eqb-false j p f)) (omega (arith, judged j (omega (arith, apart.count_same, l)))));
    at = λ j l.
        let held : j < b.job_count = omega (arith, apart.count_same, l) in
        if-or (eqb j p)
        (λ t. rw (eqb-true j p t, get_or-set_same ranks p 0 0 (omega (arith, long))) (sym gone))
        (λ f.
        let other = eqb-false j p f in
        rw (get_or-set_other ranks p j 0 0 other, ne_eqb (get_or ranks j 0) 4 (λ q. absurd (omega (arith, q, judged j held))))
        (is-rank j held ∙ sym (rank_same j other)));
  }

-- When nothing is allowed on a job.
module _ (c : Batch) (p : ℕ) where
  -- A test that holds refuses, whatever is tested before.

  third_refuses : (a d : Bool) (x y z : ℕ) (rest : List Refusal)
      → eqb (first_of (when a (suc x) ∷ when d (suc y) ∷ when true (suc z) ∷ rest)) 0 ≡ false
  unfolding first_of
  third_refuses true d x y z rest = eqb-suc-zero x
  third_refuses false true x y z rest = eqb-suc-zero y
  third_refuses false false x y z rest = eqb-suc-zero z

  fourth_refuses : (a d e : Bool) (x y u z : ℕ) (rest : List Refusal)
      → eqb (first_of (when a (suc x) ∷ when d (suc y) ∷ when e (suc u) ∷ when true (suc z) ∷ rest)) 0 ≡ false
  unfolding first_of
  fourth_refuses true d e x y u z rest = eqb-suc-zero x
  fourth_refuses false true e x y u z rest = eqb-suc-zero y
  fourth_refuses false false true x y u z rest = eqb-suc-zero u
  fourth_refuses false false false x y u z rest = eqb-suc-zero z

  abbrev unsealed : Bool
  unsealed = not (snapshot_of c).sealed

  abbrev absent : Bool
  absent = leb c.job_count p

  no_commit : is_stored (get_or c.phase p 0) ≡ false → eqb (refusal_of (snapshot_of c) (commit p)) 0 ≡ false
  unfolding refusal_of
  no_commit e = rw (e, or_true (committed_at c p) true refl) (third_refuses unsealed absent 9 10 12 _)

  no_guess : (settled : Bool) → (settled || (not (eqb (get_or c.running p 0) 0) || not (never_started (get_or c.phase p 0)))) ≡ true
      → settled ≡ committed_at c p → eqb (refusal_of (snapshot_of c) (start_speculation p)) 0 ≡ false
  unfolding refusal_of
  no_guess settled t e = rw (← e, t) (fourth_refuses unsealed absent (not (snapshot_of c).speculating) 9 10 11 12 _)

  -- Its own run is out.
  running_own : get_or c.running p 0 ≡ 1 → eqb (refusal_of (snapshot_of c) (start_own p)) 0 ≡ false
  unfolding refusal_of
  running_own out = rw (out, or_true (committed_at c p) true refl) (third_refuses unsealed absent 9 10 12 _)

  pub running_rank : get_or c.running p 0 ≡ 1 → is_stored (get_or c.phase p 0) ≡ false → allowed_rank (snapshot_of c) p ≡ 0
  running_rank out unstored =
      rw (no_commit unstored, running_own out, no_guess (committed_at c p) (rw out (or_true (committed_at c p) true refl)) refl)

  -- Its guess is out, and it is not ready.
  waiting_own : is_ready (snapshot_of c) p ≡ false → eqb (refusal_of (snapshot_of c) (start_own p)) 0 ≡ false
  unfolding refusal_of
  waiting_own unready = rw unready (fourth_refuses unsealed absent (committed_at c p || not (eqb (get_or c.running p 0) 0)) 9 10 12 14 _)

  pub waiting_rank : get_or c.phase p 0 ≡ 1 → is_ready (snapshot_of c) p ≡ false → allowed_rank (snapshot_of c) p ≡ 0
  waiting_rank out unready =
      rw (
        no_commit (rw out),
        waiting_own unready,
        no_guess (committed_at c p)
            (rw (out, or_true (not (eqb (get_or c.running p 0) 0)) true refl) (or_true (committed_at c p) true refl)) refl,
      )

-- What it says of the job that a step of the chooser's is accepted on it, and that the change is made as the code makes it: for
-- a ready job by steps 0 and 4, for another by step 1.
module _ (b : Batch) (p : ℕ) (report : Report) where
  abbrev waiting : Standing
  waiting = standing_at b p

  abbrev is_free : Bool
  is_free = ready b.jobs b.committed p

  unsettled : (how rest : Bool) → (not how || rest) ≡ false → how ≡ true
  unsettled how rest e = not-false how (or_left (not how) rest e)

  own_passed : (change_for b 0 p report).refusal ≡ 0 → (open_at b p ≡ true) × (is_free ≡ true)
  unfolding change_for
  own_passed e =
      let t =
      passed
      (when (is_committed waiting.committed || not (eqb waiting.running 0)) 13
      ∷ when (not is_free) 15
      ∷ when ((is_free && is_live waiting.phase) && not (invalid_run is_free waiting.phase (job_at b.jobs p) (run_at b p) b.cells)) 17
      ∷ []) (tt, (tt, (tt, tt))) e in
      (unsettled (eqb waiting.committed 0) _ t.0, not-false is_free t.1.0)

  commit_passed : (change_for b 4 p report).refusal ≡ 0 → (open_at b p ≡ true) × (is_free ≡ true)
  unfolding change_for
  commit_passed e =
      let t =
      passed
      (when (is_committed waiting.committed || not (is_stored waiting.phase)) 13
      ∷ when (not is_free) 15
      ∷ when (invalid_run is_free waiting.phase (job_at b.jobs p) (run_at b p) b.cells) 18
      ∷ []) (tt, (tt, (tt, tt))) e in
      (unsettled (eqb waiting.committed 0) _ t.0, not-false is_free t.1.0)

  guess_passed : (change_for b 1 p report).refusal ≡ 0
      → (open_at b p ≡ true) × (waiting.phase ≡ 0) × (is_free ≡ false) × (source_missing (snapshot_of b) p ≡ false)
  unfolding change_for
  guess_passed e =
      let t =
      passed
      (when (not (not (eqb b.speculating 0))) 12
      ∷ when (is_committed waiting.committed || (not (eqb waiting.running 0) || not (never_started waiting.phase))) 13
      ∷ when is_free 14
      ∷ when (source_missing (snapshot_of b) p) 15
      ∷ []) (tt, (tt, (tt, (tt, tt)))) e in (
        unsettled (eqb waiting.committed 0) _ t.1.0,
        eqb-true waiting.phase 0
            (not-false (never_started waiting.phase)
            (or_right (not (eqb waiting.running 0)) (not (never_started waiting.phase))
            (or_right (is_committed waiting.committed) _ t.1.0))),
        t.1.1.0,
        t.1.1.1.0,
      )

  -- The steps that the chooser names.
  pub data Named : ℕ → Type 0 where
    own : Named 0
    guess : Named 1
    settle : Named 4

  pub named_open : (number : ℕ) → Named number → (change_for b number p report).refusal ≡ 0 → open_at b p ≡ true
  named_open number own e = (own_passed e).0
  named_open number guess e = (guess_passed e).0
  named_open number settle e = (commit_passed e).0

  pub own_made : (change_for b 0 p report).refusal ≡ 0 → {made : Change}
      → made ≡ plain_change 0 (job_at b.jobs p) (run_at b p) waiting b.cells report true → made ≡ change_for b 0 p report
  unfolding change_for
  own_made e f = f ∙ rw (own_passed e).1

  pub commit_made : (change_for b 4 p report).refusal ≡ 0 → {made : Change}
      → made ≡ plain_change 4 (job_at b.jobs p) (run_at b p) waiting b.cells report true → made ≡ change_for b 4 p report
  unfolding change_for
  commit_made e f = f ∙ rw (commit_passed e).1

  pub guess_made : (change_for b 1 p report).refusal ≡ 0 → {made : Change}
      → made ≡ speculation_start (not (eqb b.speculating 0)) waiting b.cells false false (guess_at b p) → made ≡ change_for b 1 p report
  unfolding change_for
  guess_made e f = f ∙ rw ((guess_passed e).2, (guess_passed e).3)

  -- No job is open again after a change on an open one.
  pub opened_before : (change : Change) → open_at b p ≡ true → (i : ℕ) → open_at (with_change b p change) i ≡ true → open_at b i ≡ true
  unfolding with_job_changed
  opened_before change here i e =
      if-or (eqb i p)
      (λ t. rw (eqb-true i p t) here)
      (λ f. ap (λ (how : ℕ). eqb how 0) (sym (get_or-set_other b.committed p i change.now.committed 0 (eqb-false i p f))) ∙ e)

  -- A start that throws no stored guess away.
  module _ (change : Change) (held : p < 128) (sized : Sized b) (here : open_at b p ≡ true) (cells : change.cells ≡ b.cells)
      (committed : change.now.committed ≡ 0) where
    start_apart : is_stored change.now.phase ≡ is_stored waiting.phase → Apart p b (with_change b p change)
    unfolding with_job_changed
    start_apart stored = record {
      count_same = refl;
      sealed_same = refl;
      switch_same = refl;
      jobs_same = refl;
      cells_same = cells;
      settled_same = λ i.
          if-or (eqb i p)
          (λ t.
          rw (eqb-true i p t, get_or-set_same b.committed p change.now.committed 0 (omega (arith, held, sized.committed_length)), committed, here))
          (λ f. rw (get_or-set_other b.committed p i change.now.committed 0 (eqb-false i p f)));
      running_same = λ i other. get_or-set_other b.running p i change.now.running 0 other;
      phase_same = λ i other. get_or-set_other b.phase p i change.now.phase 0 other;
      run_same = λ i other. get_or-set_other b.runs p i change.run no_run other;
      stored_same = ap is_stored (get_or-set_same b.phase p change.now.phase 0 (omega (arith, held, sized.phase_length))) ∙ stored;
    }

  -- What the two starts leave.

  own_change : ((change_for b 0 p report).cells ≡ b.cells) × ((change_for b 0 p report).now.committed ≡ 0)
      × ((change_for b 0 p report).now.running ≡ 1) × (is_stored (change_for b 0 p report).now.phase ≡ false)
  unfolding change_for
  own_change = (refl, refl, refl, discarded (eqb waiting.phase 0))
    where
      discarded : (never : Bool) → is_stored (cond never 0 3) ≡ false
      discarded true = refl
      discarded false = refl

  guess_change : ((change_for b 1 p report).cells ≡ b.cells) × ((change_for b 1 p report).now.committed ≡ 0) × ((change_for b 1 p report).now.phase ≡ 1)
  unfolding change_for
  guess_change = (refl, refl, refl)

  module _ (held : p < 128) (sized : Sized b) (ranks : List ℕ) (is-rank : (j : ℕ) → j < b.job_count → get_or ranks j 0 ≡ allowed_rank (snapshot_of b) j)
      (judged : (j : ℕ) → j < b.job_count → get_or ranks j 0 ≤ 3) (long : length ranks ≡ 128) where
    out_at : (change : Change) → get_or (with_change b p change).running p 0 ≡ change.now.running
    unfolding with_job_changed
    out_at change = get_or-set_same b.running p change.now.running 0 (omega (arith, held, sized.running_length))

    phase_at : (change : Change) → get_or (with_change b p change).phase p 0 ≡ change.now.phase
    unfolding with_job_changed
    phase_at change = get_or-set_same b.phase p change.now.phase 0 (omega (arith, held, sized.phase_length))

    pub own_ranked : (change_for b 0 p report).refusal ≡ 0 → is_stored waiting.phase ≡ false
        → Ranked (with_change b p (change_for b 0 p report)) (set ranks p 0)
    own_ranked e unstored =
        let change = change_for b 0 p report in
        let c = with_change b p change in
        let left = own_change in
        let apart = start_apart change held sized (own_passed e).0 left.0 left.1 (left.3 ∙ sym unstored) in
        start_ranked p b c apart ranks held is-rank judged long
        (running_rank c p (out_at change ∙ left.2) (ap is_stored (phase_at change) ∙ left.3))

    pub guess_ranked : (change_for b 1 p report).refusal ≡ 0 → Ranked (with_change b p (change_for b 1 p report)) (set ranks p 0)
    guess_ranked e =
        let change = change_for b 1 p report in
        let c = with_change b p change in
        let left = guess_change in
        let was = guess_passed e in
        let apart = start_apart change held sized was.0 left.0 left.1 (ap is_stored left.2 ∙ sym (ap is_stored was.1)) in
        start_ranked p b c apart ranks held is-rank judged long
        (waiting_rank c p (phase_at change ∙ left.2) (ready_same p b c apart p ∙ ready_is b p ∙ was.2))
