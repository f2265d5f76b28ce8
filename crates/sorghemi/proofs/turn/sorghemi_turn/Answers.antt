-- `sorghemi_turn` meets its contract: a turn that is refused leaves the batch and the list as they were, and else the stores
-- make the turn.
use Rattle.std.proofs.Common.{◌≡◌, ◌<◌, ◌≤◌, ℕ, zero, suc, List, length, get_or, take, set, refl, ap, sym, ◌∙◌, arith, add-one, subst}
use Rattle.std.proofs.lemmas.List.{get_or_default, get_or-take, length-take}
use borrow.Author.Tests.{ne_eqb}
use Rattle.engine.specs.TurnChange.{turn_change, turn_made, runs_stored, no_job_run}
use Rattle.engine.specs.TurnLaws.{turn_stored}
use Rattle.engine.specs.TurnPlaces.{turn_few, turn_places}
use Rattle.engine.specs.declared.Batch.{Batch}
use Rattle.engine.specs.declared.Report.{Report}
use Rattle.engine.specs.declared.JobRun.{JobRun}
use Rattle.engine.specs.declared.Run.{Run}
use Rattle.engine.specs.declared.TurnChange.{TurnChange}
use Rattle.sorghemi.specs.Stores.{with_columns}
use Rattle.sorghemi.specs.Turn.{turned_for}
use Rattle.sorghemi.proofs.turn.sorghemi_turn.Goals as goal

module _ (b : Batch) (number j : ℕ) (report : Report) (limit : ℕ) (change : TurnChange) (told : change ≡ turn_change b number j report limit) where
  -- The turn is the change made.
  made : turned_for b number j report limit ≡ turn_made b change
  made = sym (turn_stored b number j report limit) ∙ ap (turn_made b) (sym told)

  module _ (taken : change.refusal ≡ 0) where
    not_refused : (turn_change b number j report limit).refusal ≡ 0
    not_refused = sym (ap (λ (x : TurnChange). x.refusal) told) ∙ taken

    few : change.stored ≤ 17
    few = subst (λ (x : TurnChange). x.stored ≤ 17) (sym told) (turn_few b number j report limit not_refused)

    placed : (i : ℕ) → i < change.stored → (get_or change.changed i no_job_run).job < 128
    placed = subst (λ (x : TurnChange). (i : ℕ) → i < x.stored → (get_or x.changed i no_job_run).job < 128) (sym told) (turn_places b number j report limit not_refused)

-- The runs to store are the first of those changed.
module _ (changed : List JobRun) (n : ℕ) where
  is_held : (i : ℕ) → i < length (take n changed) → get_or (take n changed) i no_job_run ≡ get_or changed i no_job_run
  is_held i h = get_or-take n changed i no_job_run (omega (arith, length-take n changed))

  stored_same : (runs : List Run) (i : ℕ) → i ≤ length (take n changed) → runs_stored runs (take n changed) i ≡ runs_stored runs changed i
  unfolding runs_stored
  stored_same runs zero h = refl
  stored_same runs (suc i) h = rw (is_held i (omega arith), stored_same runs i (omega arith))

-- One run more stored.
more_stored : (b before : Batch) (runs : List JobRun) (i : ℕ) (held : JobRun)
    → b ≡ with_columns before before.cells (runs_stored before.runs runs i) before.committed before.running before.phase
    → held ≡ get_or runs i no_job_run
    → with_columns b b.cells (set b.runs held.job held.run) b.committed b.running b.phase
    ≡ with_columns before before.cells (runs_stored before.runs runs (suc i)) before.committed before.running before.phase
unfolding runs_stored
more_stored b before runs i held e h = rw (e, h)

-- refused
pub returns-then-change-ne0 : goal.returns-then-change-ne0
returns-then-change-ne0 c =
    let turn = made c.args.batch.now c.args.number c.args.job c.args.report c.args.limit c.turn-change.result c.turn-change.ensures in
    let is_refused = ne_eqb c.turn-change.result.refusal 0 c.if-change-ne0.true in
    rw (turn, is_refused) (refl, refl, refl)

-- taken
pub loop-held-init : goal.loop-held-init
unfolding runs_stored
loop-held-init c = refl

pub bounds-batch-held : goal.bounds-batch-held
bounds-batch-held c =
    let change = c.turn-change.result in
    let i = c.loop-held.held-index in
    let h = placed c.args.batch.now c.args.number c.args.job c.args.report c.args.limit change c.turn-change.ensures c.if-change-ne0.false i
    (omega (arith, length-take change.stored change.changed, c.loop-held-test.true)) in
    rw (get_or_default (take change.stored change.changed) i _ no_job_run c.loop-held-test.true, is_held change.changed change.stored i c.loop-held-test.true) h

pub loop-held-preserved : goal.loop-held-preserved
loop-held-preserved c =
    let change = c.turn-change.result in
    let i = c.loop-held.held-index in
    rw add-one
    (more_stored c.loop-held.batch _ (take change.stored change.changed) i _ c.loop-held.invariant
    (get_or_default (take change.stored change.changed) i _ no_job_run c.loop-held-test.true))

pub returns : goal.returns
returns c =
    let change = c.turn-change.result in
    let turn = made c.args.batch.now c.args.number c.args.job c.args.report c.args.limit change c.turn-change.ensures in
    let k = few c.args.batch.now c.args.number c.args.job c.args.report c.args.limit change c.turn-change.ensures c.if-change-ne0.false in
    let many : length change.changed ≡ 17 = omega arith in
    let all : c.loop-held.held-index ≡ change.stored = omega (arith, length-take change.stored change.changed, k, many) in
    rw (turn, c.loop-held.invariant, c.if-change-ne0.false, all, stored_same change.changed change.stored c.args.batch.now.runs change.stored (omega (arith, length-take change.stored change.changed, k, many))) (refl, refl, refl)
