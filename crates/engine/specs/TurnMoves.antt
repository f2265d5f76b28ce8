-- The moves of a turn's loop: a guess is judged, a step is taken, or the turn ends. What holds before each holds after it.
use Rattle.std.specs.Prelude.{ℕ, zero, suc, ◌+◌, ◌*◌, ◌-◌, ◌<◌, ◌≤◌, Bool, true, false, cond, not, ◌&&◌, ◌||◌, List, ◌≡◌, eqb, ltb, length, get_or, set, drop}
use Rattle.std.proofs.Common.{arith, sym, ap, ◌∙◌, subst, length-set, eqb-true, ne_eqb, ltb-true, ltb-false, get_or-set_same, get_or-set_other}
use Rattle.std.proofs.Math.Path.{refl}
use Rattle.std.proofs.lemmas.Bool.{eqb-false}
use Rattle.laws.specs.Fold.{column, count_below}
use Rattle.laws.specs.FoldLaws.{count_same}
use Rattle.laws.specs.SearchLaws.{if-or, clash}
use Rattle.dependence.specs.Job.{job_at}
use Rattle.passes.specs.Chain.{chain_length_at}
use Rattle.cellset.specs.Survey.{columns, Surveyed}
use Rattle.engine.specs.declared.Batch.{Batch}
use Rattle.engine.specs.declared.Choice.{Choice}
use Rattle.engine.specs.declared.Started.{Started}
use Rattle.engine.specs.declared.Taken.{Taken}
use Rattle.engine.specs.declared.JobRun.{JobRun}
use Rattle.engine.specs.declared.TurnChange.{TurnChange}
use Rattle.engine.specs.declared.chooser.Pick.{Pick}
use Rattle.engine.specs.declared.change.Change.{Change}
use Rattle.engine.specs.Record.{run_at, snapshot_of}
use Rattle.engine.specs.Form.{in_form}
use Rattle.engine.specs.FormLaws.{form_counts}
use Rattle.engine.specs.FormPass.{top_below}
use Rattle.engine.specs.Steps.{with_job_changed}
use Rattle.engine.specs.Change.{speculation_start, standing_at, guess_at, plain_change, change_for, change_on, with_change}
use Rattle.engine.specs.ChangeLaws.{step_is_change}
use Rattle.engine.specs.InsertAllPass.{Sized}
use Rattle.engine.specs.Chooser.{pick_below, named, chosen}
use Rattle.engine.specs.ChooserPass.{Columned, open_at, columned_later}
use Rattle.engine.specs.Ranks.{judged_at, Ranked, survey_ranked, judge_ranked, step_of, top_reaches, top_met, top_limit, rank_is, choice_none, choice_top, lowest_below, highest_below, lowest_le, lowest_met, pick_is, best, best_in, sole_is}
use Rattle.engine.specs.Turn.{blank_report, next_step, next_taken}
use Rattle.engine.specs.TurnChange.{next_change, next_run, changes_at, changes_from}
use Rattle.cellset.specs.AllowedLaws.{allowed_rank}
use Rattle.engine.specs.TurnForm.{chosen_accepted, Accepted, change_accepted, change_keeps_form}
use Rattle.engine.specs.TurnLaws.{next_leaves}
use Rattle.engine.specs.TurnPass.{own_made, commit_made, guess_made, Named, own, guess, settle, named_open, opened_before, own_ranked, guess_ranked}

-- How a turn stands that is to come to `goal`: the batch as the steps so far left it, with its columns of words, its ranks, the
-- chains that are known, and what was noted.
pub record Underway (goal : TurnChange) (most n : ℕ) (on : Bool) (names written sure back arities : List ℕ) (b : Batch) (ranks : List ℕ)
    (taken : List Taken) (changed : List JobRun) (count stored : ℕ) (chains : List ℕ) (known : ℕ) : Type 0 where
  pub held : n ≡ b.job_count
  pub form : in_form b ≡ true
  pub closed : eqb b.sealed 0 ≡ false
  pub switch : on ≡ not (eqb b.speculating 0)
  pub sized : Sized b
  pub columned : Columned b n names written sure back arities
  pub ranked : Ranked b ranks
  pub chained : drop known chains ≡ drop known (column 128 n (chain_length_at b.jobs n) 0)
  pub left : goal ≡ changes_from b taken changed count stored (most - count)

-- What falls with each move: first the steps left, and then the guesses to be judged.

pub steps_fall : (most count n x y : ℕ) → count < most → n ≤ 128 → y ≤ n → (most - (count + 1)) * 129 + y < (most - count) * 129 + x
steps_fall most count n x y h few small = omega arith

count_falls : (n j : ℕ) (p q : ℕ → Bool) → j < n → p j ≡ true → q j ≡ false → ((i : ℕ) → (i ≡ j → ⊥) → q i ≡ p i)
    → count_below n q < count_below n p
unfolding count_below
count_falls zero j p q h t f same = absurd (omega arith)
count_falls (suc n) j p q h t f same =
    if-or (eqb j n)
    (λ e.
    let here = eqb-true j n e in
    let before : count_below n q ≡ count_below n p = count_same n q p (λ i l. same i (λ e. absurd (omega (arith, e, l, here)))) in
    rw (rw here at t, rw here at f) (omega (arith, before)))
    (λ e.
    let other = eqb-false j n e in
    let before = count_falls n j p q (omega (arith, other)) t f same in
    rw (same n (λ e. other (sym e))) (omega (arith, before)))

pub guesses_fall : (n : ℕ) (ranks : List ℕ) (j rank : ℕ) → j < n → j < length ranks → get_or ranks j 0 ≡ 4 → rank ≤ 3
    → count_below n (λ i. eqb (get_or (set ranks j rank) i 0) 4) < count_below n (λ i. eqb (get_or ranks i 0) 4)
guesses_fall n ranks j rank h l four few =
    count_falls n j (λ i. eqb (get_or ranks i 0) 4) (λ i. eqb (get_or (set ranks j rank) i 0) 4) h (rw four)
    (rw (get_or-set_same ranks j rank 0 l) (ne_eqb rank 4 (λ q. absurd (omega (arith, q, few)))))
    (λ i other. ap (λ (r : ℕ). eqb r 4) (get_or-set_other ranks j i rank 0 other))

-- The end: no step is left to be taken, or none is named.

pub all_taken : (b : Batch) (taken : List Taken) (changed : List JobRun) (count stored most : ℕ) → most ≤ count
    → changes_from b taken changed count stored (most - count) ≡ changes_at b taken changed count stored
unfolding changes_from
all_taken b taken changed count stored most h = let e : most - count ≡ 0 = omega arith in rw e

none_named : (b : Batch) (taken : List Taken) (changed : List JobRun) (count stored n : ℕ) → (chosen b).refusal ≡ 19
    → changes_from b taken changed count stored n ≡ changes_at b taken changed count stored
unfolding changes_from
none_named b taken changed count stored zero e = refl
none_named b taken changed count stored (suc n) e = rw e

-- One step more.
one_more : (b : Batch) (taken : List Taken) (changed : List JobRun) (count stored most : ℕ) → count < most → (chosen b).refusal ≡ 0
    → changes_from b taken changed count stored (most - count)
    ≡ changes_from (next_step b).batch (set taken count (next_taken b)) (set changed stored (next_run b)) (count + 1) (stored + 1)
    (most - (count + 1))
unfolding changes_from
one_more b taken changed count stored most h e =
    let more : most - count ≡ suc (most - (count + 1)) = omega arith in
    rw (more, e)

-- The step of a rank.
module _ (b : Batch) (p : ℕ) where
  named_step : (top : ℕ) → top ≤ 3 → 0 < top → Named b p blank_report (step_of top)
  named_step zero low some = absurd (omega arith)
  named_step (suc zero) low some = guess
  named_step (suc (suc zero)) low some = own
  named_step (suc (suc (suc zero))) low some = settle
  named_step (suc (suc (suc (suc top)))) low some = absurd (omega arith)

  by_rank : (change : Change) (top : ℕ) → top ≤ 3 → 0 < top → (change_for b (step_of top) p blank_report).refusal ≡ 0
      → ((top ≡ 1 → ⊥) → change ≡ plain_change (step_of top) (job_at b.jobs p) (run_at b p) (standing_at b p) b.cells blank_report true)
      → (top ≡ 1 → change ≡ speculation_start (not (eqb b.speculating 0)) (standing_at b p) b.cells false false (guess_at b p))
      → change ≡ change_for b (step_of top) p blank_report
  by_rank change zero low some e plain guessed = absurd (omega arith)
  by_rank change (suc zero) low some e plain guessed = guess_made b p blank_report e (guessed refl)
  by_rank change (suc (suc zero)) low some e plain guessed = own_made b p blank_report e (plain (λ q. absurd (omega (arith, q))))
  by_rank change (suc (suc (suc zero))) low some e plain guessed = commit_made b p blank_report e (plain (λ q. absurd (omega (arith, q))))
  by_rank change (suc (suc (suc (suc top)))) low some e plain guessed = absurd (omega arith)

  rank_after : (top : ℕ) → top ≤ 3 → 0 < top → (change_for b (step_of top) p blank_report).refusal ≡ 0 → p < 128 → Sized b → (ranks : List ℕ)
      → ((j : ℕ) → j < b.job_count → get_or ranks j 0 ≡ allowed_rank (snapshot_of b) j)
      → ((j : ℕ) → j < b.job_count → get_or ranks j 0 ≤ 3) → length ranks ≡ 128
      → (eqb top 3 || (eqb top 2 && eqb (get_or b.phase p 0) 2)) ≡ false
      → Ranked (with_change b p (change_for b (step_of top) p blank_report)) (set ranks p 0)
  rank_after zero low some e h sized ranks is-rank few long quiet = absurd (omega arith)
  rank_after (suc zero) low some e h sized ranks is-rank few long quiet = guess_ranked b p blank_report h sized ranks is-rank few long e
  rank_after (suc (suc zero)) low some e h sized ranks is-rank few long quiet = own_ranked b p blank_report h sized ranks is-rank few long e quiet
  rank_after (suc (suc (suc zero))) low some e h sized ranks is-rank few long quiet = clash refl quiet
  rank_after (suc (suc (suc (suc top)))) low some e h sized ranks is-rank few long quiet = absurd (omega arith)

sized_after : (b : Batch) (p : ℕ) (change : Change) → Sized b → Sized (with_change b p change)
unfolding with_job_changed
sized_after b p change s = record {
  jobs_length = s.jobs_length;
  runs_length = length-set b.runs p change.run ∙ s.runs_length;
  committed_length = length-set b.committed p change.now.committed ∙ s.committed_length;
  running_length = length-set b.running p change.now.running ∙ s.running_length;
  phase_length = length-set b.phase p change.now.phase ∙ s.phase_length;
}

module _ {goal : TurnChange} {most n : ℕ} {on : Bool} {names written sure back arities : List ℕ} {b : Batch} {ranks : List ℕ}
    {taken : List Taken} {changed : List JobRun} {count stored : ℕ} {chains : List ℕ} {known : ℕ}
    (g : Underway goal most n on names written sure back arities b ranks taken changed count stored chains known)
    (top : ℕ) (is-top : top ≡ top_below n ranks) where
  is_largest : top ≡ top_below b.job_count ranks
  is_largest = is-top ∙ ap (λ (m : ℕ). top_below m ranks) g.held

  all : Columned b b.job_count names written sure back arities
  all = subst (λ (m : ℕ). Columned b m names written sure back arities) g.held g.columned

  pub top_few : top ≤ 4
  top_few = rw is-top (top_limit n 4 ranks (λ j h. g.ranked.few j (omega (arith, h, g.held))))

  pub stopped : top ≡ 0 → goal ≡ changes_at b taken changed count stored
  stopped e =
      g.left
      ∙ none_named b taken changed count stored (most - count)
      (sym (ap (λ (choice : Choice). choice.refusal) (choice_none b g.form g.closed ranks g.ranked top is_largest (omega arith) e)))

  -- The lowest job of the largest rank is held, and has that rank.
  pub lowest_held : 0 < top → (lowest_below n top ranks < n) × (get_or ranks (lowest_below n top ranks) 0 ≡ top)
  lowest_held some =
      let found = top_met n ranks (omega (arith, is-top)) in
      let place = ap (λ (k : ℕ). eqb (get_or ranks found.place 0) k) is-top ∙ found.holds in
      let few : n ≤ 128 = omega (arith, g.held, (form_counts b g.form).few_jobs) in (
        omega (arith, found.below, lowest_le top ranks n found.place found.below place),
        eqb-true (get_or ranks (lowest_below n top ranks) 0) top (lowest_met top ranks n found.place found.below few place),
      )

  -- A guess is judged.
  pub judged : top ≡ 4 → {rank : ℕ} → rank ≡ judged_at b (lowest_below n top ranks)
      → Underway goal most n on names written sure back arities b (set ranks (lowest_below n top ranks) rank) taken changed count stored chains known
  judged e f =
      let at = lowest_held (omega arith) in
      let few : n ≤ 128 = omega (arith, g.held, (form_counts b g.form).few_jobs) in
      record {
        held = g.held;
        form = g.form;
        closed = g.closed;
        switch = g.switch;
        sized = g.sized;
        columned = g.columned;
        ranked = judge_ranked b ranks (lowest_below n top ranks) (omega (arith, at.0, few)) (at.1 ∙ e) f g.ranked;
        chained = g.chained;
        left = g.left;
      }

  -- A step is taken, on the job picked.
  module _ (low : top ≤ 3) (some : 0 < top) where
    abbrev pick : Pick
    pick = best b g.form g.closed names written sure back arities all ranks g.ranked top is_largest low some

    named_is : named (step_of top) pick ≡ chosen b
    named_is = choice_top b g.form g.closed ranks g.ranked top is_largest low some

    pub accepted : (chosen b).refusal ≡ 0
    accepted = sym (ap (λ (choice : Choice). choice.refusal) named_is)

    -- It is the lowest of them where that is the highest too, and else the one that the chains tell.
    module _ (lengths : List ℕ) (from : ℕ) (enough : lowest_below n top ranks < highest_below n top ranks → from ≤ lowest_below n top ranks)
        (right : drop from lengths ≡ drop from (column 128 n (chain_length_at b.jobs n) 0)) {p : ℕ}
        (picked : p
        ≡ cond (ltb (lowest_below n top ranks) (highest_below n top ranks))
        (pick_below n (λ j. eqb (get_or ranks j 0) top) (λ j. get_or lengths j 0) (λ j. get_or arities j 0)).job (lowest_below n top ranks)) where
      pub picked_is : p ≡ (chosen b).job
      picked_is =
          picked
          ∙ if-or (ltb (lowest_below n top ranks) (highest_below n top ranks))
          (λ t.
          rw t
          (ap (λ (x : Pick). x.job)
          (subst
          (λ (m : ℕ). from ≤ lowest_below m top ranks → drop from lengths ≡ drop from (column 128 m (chain_length_at b.jobs m) 0)
          → pick_below m (λ j. eqb (get_or ranks j 0) top) (λ j. get_or lengths j 0) (λ j. get_or arities j 0) ≡ pick) (sym g.held)
          (λ early e. pick_is b g.form g.closed names written sure back arities all ranks g.ranked top is_largest low some from early lengths e)
          (enough (ltb-true (lowest_below n top ranks) (highest_below n top ranks) t)) right)))
          (λ f.
          rw f
          (subst (λ (m : ℕ). highest_below m top ranks ≤ lowest_below m top ranks → lowest_below m top ranks ≡ pick.job) (sym g.held)
          (λ one. sole_is b g.form g.closed names written sure back arities all ranks g.ranked top is_largest low some one)
          (ltb-false (lowest_below n top ranks) (highest_below n top ranks) f)))
          ∙ ap (λ (choice : Choice). choice.job) named_is

      pub picked_in : p < n
      picked_in =
          omega (
            arith,
            picked_is ∙ sym (ap (λ (choice : Choice). choice.job) named_is),
            g.held,
            (best_in b g.form g.closed names written sure back arities all ranks g.ranked top is_largest low some).0,
          )

    pub number_is : step_of top ≡ (chosen b).step
    number_is = ap (λ (choice : Choice). choice.step) named_is

    -- The change of that step, made as the code makes it.
    module _ {p : ℕ} (is-p : p ≡ (chosen b).job) (change : Change)
        (plain : (top ≡ 1 → ⊥) → change ≡ plain_change (step_of top) (job_at b.jobs p) (run_at b p) (standing_at b p) b.cells blank_report true)
        (guessed : top ≡ 1 → change ≡ speculation_start (not (eqb b.speculating 0)) (standing_at b p) b.cells false false (guess_at b p)) where
      unrefused : (change_on b (step_of top) p blank_report).refusal ≡ 0
      unrefused = rw (number_is, is-p) (chosen_accepted b blank_report accepted)

      abbrev step : Accepted b (step_of top) p blank_report
      step = change_accepted b (step_of top) p blank_report unrefused

      change_for_lem : change ≡ change_for b (step_of top) p blank_report
      change_for_lem = by_rank b p change top low some step.made plain guessed

      change_is : change ≡ next_change b
      change_is = change_for_lem ∙ sym step.is_made ∙ rw (number_is, is-p)

      abbrev after : Batch
      after = with_change b p change

      after_is : (next_step b).batch ≡ after
      after_is = next_leaves b accepted ∙ rw (is-p, change_is)

      handed_is : (next_step b).handed ≡ change.handed
      handed_is =
          ap (λ (s : Started). s.handed) (step_is_change b (chosen b).step (chosen b).job blank_report)
          ∙ rw (chosen_accepted b blank_report accepted, change_is)

      abbrev noted : Taken
      noted = record { step = step_of top; job = p; handed = change.handed }

      abbrev kept : JobRun
      kept = record { job = p; run = change.run }

      left_after : count < most
          → goal ≡ changes_from after (set taken count noted) (set changed stored kept) (count + 1) (stored + 1) (most - (count + 1))
      left_after h =
          g.left
          ∙ one_more b taken changed count stored most h accepted
          ∙ rw (after_is, handed_is, number_is, is-p, change_is)

      -- Where the step takes nothing from the others, their ranks stay.
      pub ranks_left : p < n → (eqb top 3 || (eqb top 2 && eqb (get_or b.phase p 0) 2)) ≡ false → Ranked after (set ranks p 0)
      ranks_left h quiet =
          rw change_for_lem
          (rank_after b p top low some step.made (omega (arith, h, g.held, (form_counts b g.form).few_jobs)) g.sized ranks
          (rank_is b g.form g.closed ranks g.ranked top is_largest low)
          (λ j l. omega (arith, is_largest, low, top_reaches b.job_count ranks j l)) g.ranked.long quiet)

      abbrev unsettled : open_at b p ≡ true
      unsettled = named_open b p blank_report (step_of top) (named_step b p top low some) step.made

      columned_after : Columned after n names written sure back arities
      unfolding with_job_changed
      columned_after = columned_later b after n names written sure back arities refl (opened_before b p blank_report change unsettled) g.columned

      form_after : in_form after ≡ true
      form_after =
          ap (λ (made : Change). in_form (with_change b p made)) (change_for_lem ∙ sym step.is_made)
          ∙ change_keeps_form b (step_of top) p blank_report unrefused

      -- What holds after it, with the chains that are known now.
      pub step_taken : count < most → {lengths : List ℕ} {from : ℕ} → drop from lengths ≡ drop from (column 128 n (chain_length_at b.jobs n) 0)
          → {left : List ℕ} → Ranked after left
          → Underway goal most n on names written sure back arities after left (set taken count noted) (set changed stored kept) (count + 1) (stored + 1) lengths from
      unfolding with_job_changed
      step_taken h right ranked = record {
        held = g.held;
        form = form_after;
        closed = g.closed;
        switch = g.switch;
        sized = sized_after b p change g.sized;
        columned = columned_after;
        ranked = ranked;
        chained = right;
        left = left_after h;
      }

      -- Else the jobs are surveyed again.
      pub ranks_anew : {left : List ℕ}
          → Surveyed on (columns names written sure back after.committed after.running after.phase) n left → Ranked after left
      unfolding with_job_changed
      ranks_anew {left} surveyed =
          survey_ranked after form_after g.closed names written sure back arities
          (subst (λ (m : ℕ). Columned after m names written sure back arities) g.held columned_after) left
          (subst (λ (m : ℕ). Surveyed (not (eqb b.speculating 0)) (columns names written sure back after.committed after.running after.phase) m left) g.held
          (subst (λ (t : Bool). Surveyed t (columns names written sure back after.committed after.running after.phase) n left) g.switch surveyed))
