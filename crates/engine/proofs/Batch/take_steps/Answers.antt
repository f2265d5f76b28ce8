-- `Batch::take_steps` meets its contract: the words of the open jobs, their ranks, and then one move after the other, each by its
-- law of specs/TurnMoves.antt.
use native.Mathlib.Omega.{arith}
use Prim.Native.Nat.{ℕ, ◌-◌, ◌<◌, ◌≤◌, min}
use mathlib.Core.Bool.{Bool, true, false, not}
use mathlib.Core.Path.{◌≡◌, refl, sym, ap, ◌∙◌, subst}
use lib.Dec.{eqb}
use lib.ListN.{length-set, get_or, drop, replicate}
use borrow.Author.Tests.{eq-eqb, ne_eqb, lt-ltb}
use borrow.Author.Rules.{rules}
use Rattle.laws.specs.Fold.{column}
use Rattle.laws.specs.FoldLaws.{count_limit, back_none}
use Rattle.dependence.specs.Job.{job_at}
use Rattle.passes.specs.Chain.{chain_length_at}
use Rattle.walk.specs.declared.origins.Origins.{Origins}
use Rattle.engine.specs.declared.Run.{Run}
use Rattle.engine.specs.Record.{run_at}
use Rattle.engine.specs.FormLaws.{form_counts, form_walks}
use Rattle.engine.specs.Steps.{with_job_changed}
use Rattle.engine.specs.Change.{standing_at, guess_at, plain_change, speculation_start}
use Rattle.engine.specs.InsertAllPass.{Sized}
use Rattle.engine.specs.Chooser.{chosen}
use Rattle.engine.specs.ChooserPass.{columned_none, columned_past, columned_more}
use Rattle.engine.specs.Ranks.{judged_few, survey_ranked, step_of}
use Rattle.engine.specs.SourceLimit.{sources_held, guess_is}
use Rattle.engine.specs.Turn.{blank_report}
use Rattle.engine.specs.TurnChange.{changes_at, changes_from}
use Rattle.engine.specs.TurnMoves.{steps_fall, guesses_fall, all_taken, top_few, stopped, lowest_held, judged, picked_is, picked_in, ranks_left, ranks_anew, step_taken}
use Rattle.engine.proofs.Batch.take_steps.Goals as goal
use Rattle.engine.proofs.Batch.take_steps.Goals.{After-picked-pick, Else-top-eq4, Joined-from-known, Then-top-eq4, else-from-known, else-loop-count-test, then-from-known, then-loop-count-test+then-top-eq0}

-- a step is to be taken
top_in : (c : Else-top-eq4) → (c.top-top.result ≤ 3) × (0 < c.top-top.result)
top_in c =
    let t = c.top-top in
    let few = top_few c.loop-count.invariant.5 t.result (rw c.loop-count.invariant.4 at t.ensures) in
    (omega (arith, few, c.if-top-eq4.false), omega (arith, c.if-top-eq0.false))

-- chains are known from the lowest job with the rank on, where there are several
chains_known : (c : Joined-from-known)
    → (c.lowest-lowest.result < c.highest-highest.result → c.if-from-known.known ≤ c.lowest-lowest.result)
    × (drop c.if-from-known.known c.if-from-known.chains
    ≡ drop c.if-from-known.known (column 128 c.args.self.job_count (chain_length_at c.loop-count.self.jobs c.args.self.job_count) 0))
chains_known c =
    let from = c.needed_from-from in
    let g = c.loop-count.invariant.5 in
    elim c.if-from-known.branch [
      | then-from-known w ↦ (
        λ several. rw w.known-is (omega (arith, rw (lt-ltb _ _ several) at from.ensures)),
        rw (w.chains-is, w.known-is) w.chain_lengths_from-chains.ensures,
      )
      | else-from-known w ↦ (
        λ several. rw w.known-is (omega (arith, w.if-from-known.false, rw (lt-ltb _ _ several) at from.ensures)),
        rw (w.chains-is, w.known-is) g.chained,
      )
    ]

-- the job is the one that the chooser names, and is held
picked_chosen : (c : After-picked-pick)
    → (c.picked-pick.result ≡ (chosen c.loop-count.self).job) × (c.picked-pick.result < c.args.self.job_count)
picked_chosen c =
    let g = c.loop-count.invariant.5 in
    let t = c.top-top in
    let in_range = top_in (goal.at.After-picked-pick c).Else-top-eq4 in
    let chains = chains_known (goal.at.After-picked-pick c).Joined-from-known in
    let low = (rw c.loop-count.invariant.4 at c.lowest-lowest.ensures) in
    let high = (rw c.loop-count.invariant.4 at c.highest-highest.ensures) in
    let enough = rw (low, high) at chains.0 in
    let told = rw (low, high) at (rw c.loop-count.invariant.4 at c.picked-pick.ensures) in (
      picked_is g t.result (rw c.loop-count.invariant.4 at t.ensures) in_range.0 in_range.1 c.if-from-known.chains c.if-from-known.known enough chains.1 told,
      picked_in g t.result (rw c.loop-count.invariant.4 at t.ensures) in_range.0 in_range.1 c.if-from-known.chains c.if-from-known.known enough chains.1 told,
    )

-- the job whose guess is to be judged is held
guess_held : (c : Then-top-eq4)
    → (c.lowest-lowest.result < c.args.self.job_count) × (get_or c.loop-count.ranks.0 c.lowest-lowest.result 0 ≡ 4)
guess_held c =
    let t = c.top-top in
    let held = lowest_held c.loop-count.invariant.5 t.result (rw c.loop-count.invariant.4 at t.ensures) (omega (arith, c.if-top-eq4.true)) in
    rw (rw c.loop-count.invariant.4 at c.lowest-lowest.ensures) (held.0, held.1 ∙ c.if-top-eq4.true)

pub fill-requires : goal.fill-requires
fill-requires c = (form_counts c.args.self c.requires.0).few_jobs

pub ranks-ranks-requires : goal.ranks-ranks-requires
ranks-ranks-requires c = (form_counts c.args.self c.requires.0).few_jobs

-- nothing taken yet
pub loop-count-init : goal.loop-count-init
loop-count-init c =
    let b = c.args.self in
    let of = c.fill.new.columns in
    let form = c.requires.0 in
    let closed = c.requires.1 in
    let few : min b.job_count 128 ≡ b.job_count = omega (arith, (form_counts b form).few_jobs) in
    let none : c.args.most - 0 ≡ c.args.most = omega arith in
    let g = c.well_formed.0.1.1.1.1.1.1.1 in
    let sized : Sized b = record {
      jobs_length = g.0.1.0.1;
      runs_length = g.1.0.1.0.1;
      committed_length = search rules;
      running_length = search rules;
      phase_length = search rules;
    } in (
      omega arith,
      c.requires.3,
      omega (arith, c.requires.2),
      (form_counts b form).few_jobs,
      c.ranks-ranks.ensures.0,
      record {
        held = refl;
        form = form;
        closed = closed;
        switch = refl;
        sized = sized;
        columned = c.fill.ensures;
        ranked =
            survey_ranked b form closed of.named of.written of.sure of.back of.arities c.fill.ensures _ c.ranks-ranks.ensures.1;
        chained =
            subst (λ (k : ℕ). drop k (replicate 128 0) ≡ drop k (column 128 b.job_count (chain_length_at b.jobs b.job_count) 0)) few
            (back_none 128 b.job_count (chain_length_at b.jobs b.job_count) 0);
        left = ap (λ (m : ℕ). changes_from b (replicate 16 c.default-none.result) c.args.noted 0 c.args.start m) (sym none);
      },
    )

pub bounds-self-at : goal.bounds-self-at
bounds-self-at c = omega (arith, (guess_held (goal.at.bounds-self-at c).Then-top-eq4).0, c.loop-count.invariant.3)

pub bounds-self-at-then-top-eq4 : goal.bounds-self-at-then-top-eq4
bounds-self-at-then-top-eq4 c = omega (arith, (guess_held (goal.at.bounds-self-at-then-top-eq4 c).Then-top-eq4).0, c.loop-count.invariant.3)

pub bounds-self-at-then-top-eq4-2 : goal.bounds-self-at-then-top-eq4-2
bounds-self-at-then-top-eq4-2 c = omega (arith, (guess_held (goal.at.bounds-self-at-then-top-eq4-2 c).Then-top-eq4).0, c.loop-count.invariant.3)

pub bounds-self-at-then-top-eq4-3 : goal.bounds-self-at-then-top-eq4-3
bounds-self-at-then-top-eq4-3 c = omega (arith, (guess_held (goal.at.bounds-self-at-then-top-eq4-3 c).Then-top-eq4).0, c.loop-count.invariant.3)

pub bounds-ranks-at : goal.bounds-ranks-at
bounds-ranks-at c = omega (arith, (guess_held (goal.at.bounds-ranks-at c).Then-top-eq4).0, c.loop-count.invariant.3)

pub loop-count-smaller-then-top-eq4 : goal.loop-count-smaller-then-top-eq4
loop-count-smaller-then-top-eq4 c =
    let l = c.loop-count in
    let at = guess_held (goal.at.loop-count-smaller-then-top-eq4 c).Then-top-eq4 in
    let few = judged_few (get_or l.self.running c.lowest-lowest.result 0) (get_or l.self.phase c.lowest-lowest.result 0) c.is_stale-stale.result in
    omega (
      arith,
      guesses_fall _ l.ranks.0 c.lowest-lowest.result c.judged_rank.result at.0
          (omega (arith, at.0, l.invariant.3, l.invariant.5.ranked.long)) at.1 (omega (arith, few, c.judged_rank.ensures)),
    )

-- a guess judged
pub loop-count-preserved-then-top-eq4 : goal.loop-count-preserved-then-top-eq4
loop-count-preserved-then-top-eq4 c =
    let l = c.loop-count in
    let t = c.top-top in
    let low = (rw c.loop-count.invariant.4 at c.lowest-lowest.ensures) in
    let done = judged l.invariant.5 t.result (rw c.loop-count.invariant.4 at t.ensures) c.if-top-eq4.true (rw low at (rw c.is_stale-stale.ensures at c.judged_rank.ensures)) in
    (l.invariant.0, l.invariant.1, l.invariant.2, l.invariant.3, l.invariant.4, rw low done)

pub bounds-self-p : goal.bounds-self-p
bounds-self-p c = omega (arith, (picked_chosen (goal.at.bounds-self-p c).After-picked-pick).1, c.loop-count.invariant.3)

pub chosen_change-change-requires : goal.chosen_change-change-requires
chosen_change-change-requires c =
    let g = c.loop-count.invariant.5 in
    let here = (picked_chosen (goal.at.chosen_change-change-requires c).After-picked-pick).1 in
    record {
      held = omega (arith, here, c.loop-count.invariant.3);
      walks = form_walks c.loop-count.self g.form c.picked-pick.result (omega (arith, here, g.held));
    }

pub store-requires : goal.store-requires
store-requires c = omega (arith, (picked_chosen (goal.at.store-requires c).After-picked-pick).1, c.loop-count.invariant.3)

pub bounds-ranks-p : goal.bounds-ranks-p
bounds-ranks-p c = omega (arith, (picked_chosen (goal.at.bounds-ranks-p c).After-picked-pick).1, c.loop-count.invariant.3)

pub ranks-ranks-requires-then-touches_others : goal.ranks-ranks-requires-then-touches_others
unfolding with_job_changed
ranks-ranks-requires-then-touches_others c =
    rw c.store.ensures (omega (arith, c.loop-count.invariant.3, c.loop-count.invariant.5.held))

pub loop-count-smaller-then-touches_others : goal.loop-count-smaller-then-touches_others
loop-count-smaller-then-touches_others c = steps_fall _ _ _ _ _ c.loop-count-test.true c.loop-count.invariant.3 (count_limit _ _)

-- a step taken, and the jobs surveyed again
pub loop-count-preserved-then-touches_others : goal.loop-count-preserved-then-touches_others
unfolding with_job_changed
loop-count-preserved-then-touches_others c =
    let d = goal.at.loop-count-preserved-then-touches_others c in
    let l = c.loop-count in
    let g = l.invariant.5 in
    let t = c.top-top in
    let in_range = top_in d.Else-top-eq4 in
    let picked = picked_chosen d.After-picked-pick in
    let change = c.chosen_change-change.result in
    let plain = λ (other : t.result ≡ 1 → ⊥). rw (ne_eqb _ _ other) at c.chosen_change-change.ensures in
    let guess = λ (one : t.result ≡ 1). rw (eq-eqb _ _ one) at c.chosen_change-change.ensures in
    let right = (chains_known d.Joined-from-known).1 in
    let below = c.loop-count-test.true in
    let surveyed = rw (c.store.ensures, ← g.held) at c.ranks-ranks-then-touches_others.ensures.1 in
    let ranked = ranks_anew g t.result (rw c.loop-count.invariant.4 at t.ensures) in_range.0 in_range.1 picked.0 change plain guess surveyed in
    let after = step_taken g t.result (rw c.loop-count.invariant.4 at t.ensures) in_range.0 in_range.1 picked.0 change plain guess below right ranked in
    (omega (arith, below), l.invariant.1, omega (arith, l.invariant.2), l.invariant.3, (rw c.store.ensures at c.ranks-ranks-then-touches_others.ensures.0) ∙ sym g.held, rw (c.store.ensures, c.step_of-number.ensures) after)

pub loop-count-smaller : goal.loop-count-smaller
loop-count-smaller c = steps_fall _ _ _ _ _ c.loop-count-test.true c.loop-count.invariant.3 (count_limit _ _)

-- a start that leaves the other jobs as they are
pub loop-count-preserved : goal.loop-count-preserved
unfolding with_job_changed
loop-count-preserved c =
    let d = goal.at.loop-count-preserved c in
    let l = c.loop-count in
    let g = l.invariant.5 in
    let t = c.top-top in
    let in_range = top_in d.Else-top-eq4 in
    let picked = picked_chosen d.After-picked-pick in
    let change = c.chosen_change-change.result in
    let plain = λ (other : t.result ≡ 1 → ⊥). rw (ne_eqb _ _ other) at c.chosen_change-change.ensures in
    let guess = λ (one : t.result ≡ 1). rw (eq-eqb _ _ one) at c.chosen_change-change.ensures in
    let right = (chains_known d.Joined-from-known).1 in
    let below = c.loop-count-test.true in
    let quiet = sym c.touches_others.ensures ∙ c.if-touches_others.false in
    let ranked = ranks_left g t.result (rw c.loop-count.invariant.4 at t.ensures) in_range.0 in_range.1 picked.0 change plain guess picked.1 quiet in
    let after = step_taken g t.result (rw c.loop-count.invariant.4 at t.ensures) in_range.0 in_range.1 picked.0 change plain guess below right ranked in
    (omega (arith, below), l.invariant.1, omega (arith, l.invariant.2), l.invariant.3, l.invariant.4, rw (c.store.ensures, c.step_of-number.ensures) after)

-- all taken, or nothing to take
pub returns : goal.returns
returns c =
    let l = c.loop-count in
    let g = l.invariant.5 in
    let a = c.args in
    let done : changes_at l.self l.taken l.changed l.count l.stored ≡ changes_from a.self (replicate 16 c.default-none.result) a.noted 0 a.start a.most =
    elim c.loop-count-test.branch [
      | else-loop-count-test w ↦ sym (g.left ∙ all_taken l.self l.taken l.changed l.count l.stored a.most w.loop-count-test.false)
      | then-loop-count-test+then-top-eq0 w ↦ sym (stopped g w.top-top.result (rw c.loop-count.invariant.4 at w.top-top.ensures) w.if-top-eq0.true)
    ] in
    rw c.default-none.ensures at done
