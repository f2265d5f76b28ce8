-- The five steps keep the invariant. Steps 0, 1 and 3 change an open job, steps 2 and 4 commit one.
use Rattle.std.specs.Prelude.{ℕ, ◌<◌, ◌≡◌, refl, Bool, true, false, ℤ}
use Rattle.std.proofs.Common.{inl, inr}
use Rattle.std.proofs.Math.Option.{none, some}
use Rattle.laws.specs.SearchLaws.{if-or}
use Rattle.model.specs.Cases.{none-some}
use Rattle.model.specs.Update.{update_same}
use Rattle.model.specs.State.{names, Progress, idle, running, committed, is_committed}
use Rattle.model.specs.State.{Origin, Speculation, never, out, stored, discarded, origin_of}
use Rattle.model.specs.State.{State, Open, Ready, Right, Matches, SpeculationOk}
use Rattle.model.specs.FormerRule.{Lost, told_beforehand, Source, Carried}
use Rattle.model.specs.StateLaws.{idle_open, running_open}
use Rattle.model.specs.InvariantLaws.{matches_is_right}
use Rattle.model.specs.Commit.{commit_state, commit_state_keeps}
use Rattle.model.specs.Change.{Grow, kept, dropped, begun, told, change_state, change_state_keeps}
use Rattle.model.specs.Change.{still_source, old_sources}
use Rattle.model.specs.Walk.{Gathered, gathered_source}

-- Starting a job's own run throws its fallen guess away: what is left of its guess.
unfoldable pub discard : Speculation → Speculation
discard never = never
discard (out origin) = discarded
discard (stored origin reported mark) = discarded
discard discarded = discarded

-- It is a way in which a guess may change,
discard_grows : (u : Speculation) → Grow u (discard u)
unfolding discard
discard_grows never = kept
discard_grows (out origin) = dropped
discard_grows (stored origin reported mark) = dropped
discard_grows discarded = dropped

-- and goes with any state of the job.
discard_ok : (p : Progress) (u : Speculation) → SpeculationOk p (discard u)
unfolding discard
discard_ok p never = tt
discard_ok p (out origin) = tt
discard_ok p (stored origin reported mark) = tt
discard_ok p discarded = tt

-- After an own start there is no guess.
pub discard_origin : (u : Speculation) → origin_of (discard u) ≡ none
unfolding discard origin_of
discard_origin never = refl
discard_origin (out origin) = refl
discard_origin (stored origin reported mark) = refl
discard_origin discarded = refl

-- R51, start own.
abbrev pub own_start : State → ℕ → (ℕ → ℤ) → State
own_start s j handed = change_state s j (running handed) (discard (s.speculation j))

-- The job is ready, and the present cells hold what the jobs before it left.
pub own_start_keeps : (s : State) (j : ℕ) (handed : ℕ → ℤ)
    → Carried s
    → j < s.job_count
    → s.progress j ≡ idle
    → Ready s j
    → Matches s j handed
    → Carried (own_start s j handed)
unfolding is_committed
own_start_keeps s j handed carried l e ready matches =
    change_state_keeps s j (running handed) (discard (s.speculation j))
    carried.right (idle_open e) refl (discard_grows (s.speculation j))
    (ready, matches_is_right s carried.right j handed l (idle_open e) matches)
    (discard_ok _ (s.speculation j))
    carried.sourced
    (λ origin d. none-some (discard_origin (s.speculation j)) d)

-- R52, start guess.
abbrev pub speculation_start : State → ℕ → Origin → State
speculation_start s j origin = change_state s j idle (out origin)

-- The walk back gives every value its source, where none is a prediction.
pub speculation_start_keeps : (s : State) (j : ℕ) (origin : Origin)
    → Carried s
    → j < s.job_count
    → s.progress j ≡ idle
    → s.speculation j ≡ never
    → (origin.predicted ≡ false → Gathered s j origin)
    → Carried (speculation_start s j origin)
unfolding is_committed origin_of
speculation_start_keeps s j origin carried l e g gathered =
    change_state_keeps s j idle (out origin) carried.right o refl grow tt refl carried.sourced
    (λ origin' d valid x n. let same : origin ≡ origin' = cc in rw (← same) (new valid x n))
  where
    o : Open s j
    o = idle_open e

    grow : Grow (s.speculation j) (out origin)
    grow = rw g begun

    new : ¬ Lost (speculation_start s j origin) j
        → (x : ℕ) → names (s.uses j x) ≡ true → Source (speculation_start s j origin) j x origin
    new valid x n =
        let now-out : origin_of ((speculation_start s j origin).speculation j) ≡ some origin =
        rw (update_same s.speculation j (out origin) j refl) in
        still_source s j idle (out origin) carried.right o refl grow j x origin now-out valid
        (gathered_source s j origin carried.right l o
        (gathered (if-or origin.predicted (λ t. absurd (valid (told_beforehand now-out t))) (λ f. f))) x n)

-- R53, report own.
abbrev pub own_report : State → ℕ → (ℕ → ℤ) → (ℕ → ℤ) → Bool → State
own_report s j handed reported mark = commit_state s j handed reported mark

-- The own run that is out was handed the right values, and its job is ready.
pub own_report_keeps : (s : State) (j : ℕ) (handed reported : ℕ → ℤ) (mark : Bool)
    → Carried s
    → j < s.job_count
    → s.progress j ≡ running handed
    → Carried (own_report s j handed reported mark)
own_report_keeps s j handed reported mark carried l e =
    commit_state_keeps s j handed reported mark carried.right l (running_open e) run.0 run.1
    (no_guess (s.speculation j) (rw e at (carried.right.speculations j)))
    carried.sourced
  where
    run : Ready s j × Right s j handed
    run = rw e at (carried.right.runs j)

    -- while an own run is out there is no guess
    no_guess : (u : Speculation) → SpeculationOk (running handed) u → SpeculationOk (committed handed reported mark) u
    no_guess never ok = tt
    no_guess (out origin) ok = cc
    no_guess (stored origin r m) (inl ok) = inr (cc)
    no_guess (stored origin r m) (inr ok) = inr (cc)
    no_guess discarded ok = tt

-- R54, report guess.
abbrev pub speculation_report : State → ℕ → Origin → (ℕ → ℤ) → Bool → State
speculation_report s j origin reported mark = change_state s j idle (stored origin reported mark)

-- The guess keeps its origin.
pub speculation_report_keeps : (s : State) (j : ℕ) (origin : Origin) (reported : ℕ → ℤ) (mark : Bool)
    → Carried s
    → s.speculation j ≡ out origin
    → Carried (speculation_report s j origin reported mark)
unfolding is_committed origin_of
speculation_report_keeps s j origin reported mark carried g =
    change_state_keeps s j idle (stored origin reported mark) carried.right o refl grow tt (inl refl) carried.sourced
    (λ origin' d valid x n. let same : origin ≡ origin' = cc in rw (← same) (old valid x n))
  where
    e : s.progress j ≡ idle
    e = rw g at (carried.right.speculations j)

    o : Open s j
    o = idle_open e

    grow : Grow (s.speculation j) (stored origin reported mark)
    grow = rw g told

    old : ¬ Lost (speculation_report s j origin reported mark) j
        → (x : ℕ) → names (s.uses j x) ≡ true → Source (speculation_report s j origin reported mark) j x origin
    old valid x n =
        old_sources s j idle (stored origin reported mark) carried.right o refl grow carried.sourced j origin
        (rw g)
        (rw (update_same s.speculation j (stored origin reported mark) j refl))
        (rw (update_same s.progress j idle j refl))
        valid x n

-- R55, settle.
abbrev pub speculation_commit : State → ℕ → Origin → (ℕ → ℤ) → Bool → State
speculation_commit s j origin reported mark = commit_state s j origin.handed reported mark

-- The guess was handed the present heights, so the right values.
pub commit_keeps : (s : State) (j : ℕ) (origin : Origin) (reported : ℕ → ℤ) (mark : Bool)
    → Carried s
    → j < s.job_count
    → s.progress j ≡ idle
    → s.speculation j ≡ stored origin reported mark
    → Ready s j
    → Matches s j origin.handed
    → Carried (speculation_commit s j origin reported mark)
commit_keeps s j origin reported mark carried l e g ready matches =
    commit_state_keeps s j origin.handed reported mark carried.right l (idle_open e) ready
    (matches_is_right s carried.right j origin.handed l (idle_open e) matches)
    (rw g (inr refl))
    carried.sourced
