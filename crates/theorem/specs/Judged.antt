-- R186: the proof. A ready job's cells hold what the jobs before it left, and those of them that may write its cells are all
-- settled, which no call takes back.
use Rattle.std.specs.Prelude.{ℕ, ◌<◌, ◌≤◌, Bool, ◌&&◌, ◌⊎◌, ◌≡◌, leb, ℤ}
use Rattle.std.proofs.Common.{arith, ◌∙◌, le-leb}
use Rattle.std.proofs.Math.Bool.{true, false, not}
use mathlib.Core.List.{List}
use Rattle.std.proofs.Math.Logic.{inl, inr}
use Rattle.std.proofs.Math.Option.{Option, none, some}
use Rattle.std.proofs.Math.Path.{refl, sym, ap}
use Rattle.laws.specs.Refusal.{first_of}
use Rattle.laws.specs.Search.{any_below}
use Rattle.laws.specs.SearchLaws.{any_same, any_fails, any_absent, if-or, clash, and_false, not_true}
use Rattle.dependence.specs.declared.Job.{Job}
use Rattle.dependence.specs.Job.{in_use, access_at}
use Rattle.rules.specs.Values.{value_at, stale_at}
use Rattle.rules.specs.Snapshot.{is_live}
use Rattle.rules.specs.Speculation.{waits, is_ready, handed_stale, judged_as, validity}
use Rattle.rules.specs.Call.{Call}
use Rattle.engine.specs.declared.Batch.{Batch}
use Rattle.engine.specs.Ask.{job_ask_refusal, asked_job}
use Rattle.engine.specs.Perform.{perform}
use Rattle.model.specs.Cases.{below_or}
use Rattle.model.specs.Column.{after, after_agree}
use Rattle.model.specs.State.{names, may_write, effect, effects, before}
use Rattle.model.specs.StateLaws.{write_then_name, unwritten_no_effect}
use Rattle.model.specs.InvariantLaws.{present_is_before}
use Rattle.claims.specs.Ledger.{Counted, Ledger, is_some, is_counted, guess_phase, guess_handed}
use Rattle.claims.specs.Replay.{replay}
use Rattle.claims.specs.Enter.{snapshot_of_ledger}
use Rattle.claims.specs.Judged.{Stays, JudgementStatement}
use Rattle.theorem.specs.Faithful.{Faithful, faithful_form}
use Rattle.theorem.specs.View.{use_of, progress_from, progress_of, state_of, progress_committed, place_named}
use Rattle.theorem.specs.AsAsked.{asked_validity}
use Rattle.theorem.specs.RulesSay.{ready_says}
use Rattle.theorem.specs.Later.{Later, later_call}
use Rattle.theorem.specs.Right.{Sound, sound_replayed}
use Rattle.theorem.specs.Always.{call_sound, sound_always}

-- A job that has a counted report has it still.
counted_some : (counted : Option Counted) → is_some counted ≡ true → (after : Option Counted)
    → ((c : Counted) → counted ≡ some c → after ≡ some c) → after ≡ counted
counted_some none e after same = clash e refl
counted_some (some c) e after same = same c refl

-- How far a settled job has come is said by its counted report alone.
progress_counted : (job : Job) (own own' : Option (List ℤ)) (counted : Option Counted) → is_some counted ≡ true
    → progress_from job own counted ≡ progress_from job own' counted
unfolding progress_from
progress_counted job own own' none e = clash e refl
progress_counted job own own' (some c) e = refl

-- A record and ledger, and later ones; job j is ready, and open still.
module _ {b b' : Batch} {l l' : Ledger} (sound : Sound b l) (sound' : Sound b' l') (later : Later l l')
    (j : ℕ) (held : j < l.job_count) (ready : is_ready (snapshot_of_ledger l) j ≡ true)
    (uncounted : is_counted (l.entry j) ≡ false) (uncounted' : is_counted (l'.entry j) ≡ false) where
  still_counted : (i : ℕ) → is_counted (l.entry i) ≡ true → (l'.entry i).counted ≡ (l.entry i).counted
  still_counted i e = counted_some (l.entry i).counted e (l'.entry i).counted (later.counted_same i)

  -- It is ready still.
  still_ready : is_ready (snapshot_of_ledger l') j ≡ true
  unfolding is_ready
  still_ready =
      ap not
      (any_absent j (waits (snapshot_of_ledger l') j)
      (λ i h.
      let waited : waits (snapshot_of_ledger l) j i ≡ false =
      any_fails j i (waits (snapshot_of_ledger l) j) (not_true (any_below j (waits (snapshot_of_ledger l) j)) ready) h in
      if-or (is_counted (l.entry i))
      (λ t. rw (still_counted i t, t))
      (λ f.
      let apart = rw f at waited in
      rw (later.jobs_same i (omega arith), later.jobs_same j held, apart) (and_false (not (is_counted (l'.entry i)))))))

  -- What the jobs before it left at a cell of its own is what it was: whoever may write the cell is settled, and stays so.
  module _ (x : ℕ) (named : names (use_of (l.job j) x) ≡ true) where
    same_effects : (i : ℕ) → i < j → effects (state_of l' b'.cells) x i ≡ effects (state_of l b.cells) x i
    unfolding effects
    same_effects i h =
        let same : l'.job i ≡ l.job i = later.jobs_same i (omega arith) in
        if-or (may_write (use_of (l.job i) x))
        (λ w.
        let settled : is_counted (l.entry i) ≡ true =
        sym (progress_committed (l.job i) (l.entry i).own (l.entry i).counted)
        ∙ ready_says l b.cells j ready i x h (write_then_name _ _ w named) in
        rw (same, still_counted i settled)
        (ap (effect (use_of (l.job i) x) x)
        (progress_counted (l.job i) (l'.entry i).own (l.entry i).own (l.entry i).counted settled)))
        (λ w.
        rw same (unwritten_no_effect _ x (progress_from (l.job i) (l'.entry i).own (l'.entry i).counted) w)
        ∙ sym (unwritten_no_effect _ x (progress_of (l.job i) (l.entry i)) w))

    same_left : before (state_of l' b'.cells) j x ≡ before (state_of l b.cells) j x
    unfolding before
    same_left =
        ap (λ (heights : List ℤ). after (value_at heights x) (effects (state_of l' b'.cells) x) j) later.heights_same
        ∙ after_agree (value_at l.heights x) (effects (state_of l b.cells) x) (effects (state_of l' b'.cells) x) j same_effects

    -- So the cell holds what it held, by the record and by the ledger.
    same_cell : value_at b'.cells x ≡ value_at b.cells x
    same_cell =
        present_is_before (state_of l' b'.cells) sound'.carried.right j x (omega (arith, later.more))
        (progress_committed (l'.job j) (l'.entry j).own (l'.entry j).counted ∙ uncounted')
        (rw (later.jobs_same j held) named)
        ∙ same_left
        ∙ sym
        (present_is_before (state_of l b.cells) sound.carried.right j x held
        (progress_committed (l.job j) (l.entry j).own (l.entry j).counted ∙ uncounted) named)

    same_present : value_at (replay l' l'.job_count) x ≡ value_at (replay l l.job_count) x
    same_present = sym (sound_replayed sound' x) ∙ same_cell ∙ sound_replayed sound x

  -- A guess that is there still is as stale as it was.
  same_stale : is_live (guess_phase (l.entry j).guess) ≡ true → is_live (guess_phase (l'.entry j).guess) ≡ true
      → handed_stale (snapshot_of_ledger l') j ≡ handed_stale (snapshot_of_ledger l) j
  same_stale live live' =
      any_same 4
      (stale_at (l'.job j) (guess_handed (l'.entry j).guess) (λ x. value_at (replay l' l'.job_count) x))
      (stale_at (l.job j) (guess_handed (l.entry j).guess) (λ x. value_at (replay l l.job_count) x))
      (λ place h.
      if-or (in_use (l.job j) place)
      (λ used.
      rw (
        later.jobs_same j held,
        later.handed_same j live' live place,
        same_present (access_at (l.job j) place).cell (place_named (l.job j) place h used),
      ))
      (λ unused. rw (later.jobs_same j held, unused)))

-- What a judgement says of the guess, and when there is one to judge.
judged_parts : (live settled ready stale : Bool) → 2 ≤ judged_as (live && not settled) ready stale
    → (live ≡ true) × (settled ≡ false) × (ready ≡ true)
judged_parts true false true stale h = (refl, refl, refl)
judged_parts true false false stale h = absurd (omega arith)
judged_parts true true ready stale h = absurd (omega arith)
judged_parts false settled ready stale h = absurd (omega arith)

module _ {b b' : Batch} {l l' : Ledger} (sound : Sound b l) (sound' : Sound b' l') (later : Later l l')
    (j : ℕ) (held : j < l.job_count) where
  stays_judged : 2 ≤ validity (snapshot_of_ledger l) j
      → (validity (snapshot_of_ledger l') j ≡ validity (snapshot_of_ledger l) j) ⊎ (validity (snapshot_of_ledger l') j ≡ 0)
  unfolding validity
  stays_judged h =
      let parts =
      judged_parts (is_live (guess_phase (l.entry j).guess)) (is_counted (l.entry j)) (is_ready (snapshot_of_ledger l) j)
      (handed_stale (snapshot_of_ledger l) j) h in
      cases parts (is_live (guess_phase (l'.entry j).guess)) (is_counted (l'.entry j)) refl refl
    where
      cases : (is_live (guess_phase (l.entry j).guess) ≡ true) × (is_counted (l.entry j) ≡ false) × (is_ready (snapshot_of_ledger l) j ≡ true)
          → (live settled : Bool) → is_live (guess_phase (l'.entry j).guess) ≡ live → is_counted (l'.entry j) ≡ settled
          → (judged_as (is_live (guess_phase (l'.entry j).guess) && not (is_counted (l'.entry j))) (is_ready (snapshot_of_ledger l') j)
          (handed_stale (snapshot_of_ledger l') j)
          ≡ judged_as (is_live (guess_phase (l.entry j).guess) && not (is_counted (l.entry j))) (is_ready (snapshot_of_ledger l) j)
          (handed_stale (snapshot_of_ledger l) j))
          ⊎ (judged_as (is_live (guess_phase (l'.entry j).guess) && not (is_counted (l'.entry j))) (is_ready (snapshot_of_ledger l') j)
          (handed_stale (snapshot_of_ledger l') j) ≡ 0)
      cases parts true false live settled =
          inl
          (rw (
            live,
            settled,
            parts.0,
            parts.1,
            parts.2,
            still_ready sound sound' later j held parts.2 parts.1 settled,
            same_stale sound sound' later j held parts.2 parts.1 settled parts.0 live,
          ))
      cases parts true true live settled = inr (rw (live, settled))
      cases parts false settled' live settled = inr (rw live)

-- Of a number that names no job nothing is told.
untold : {b : Batch} {l : Ledger} → Faithful b l → (j : ℕ) → l.job_count ≤ j → (asked_job b j).validity ≡ 0
unfolding asked_job job_ask_refusal first_of
untold {b} {l} agree j beyond =
    let none-held : leb b.job_count j ≡ true = le-leb b.job_count j (omega (arith, agree.job_count)) in
    rw (faithful_form agree, none-held)

told : {b : Batch} {l : Ledger} → Sound b l → (j : ℕ) → j < l.job_count → (asked_job b j).validity ≡ validity (snapshot_of_ledger l) j
told sound = asked_validity sound.agree (sound_replayed sound)

call_stays : {b : Batch} {l : Ledger} → Sound b l → (call : Call) (j : ℕ) → Stays b (perform b call).batch j
call_stays {b} {l} sound call j h =
    let after = call_sound sound call in
    let later = later_call sound call in
    below_or j l.job_count
    (λ held.
    rw (told sound j held, told after j (omega (arith, later.more)))
    (stays_judged sound after later j held (rw (told sound j held) at h)))
    (λ none-held. absurd (omega (arith, h, untold sound.agree j none-held)))

pub judgement_stays : JudgementStatement
judgement_stays heights calls e call j = call_stays (sound_always heights calls e) call j
