-- `Batch::live_validity` meets its contract.
use mathlib.Core.Bool.{true, false}
use mathlib.Core.Path.{◌≡◌, sym, ◌∙◌}
use Rattle.rules.specs.Speculation.{is_ready}
use Rattle.engine.specs.Record.{snapshot_of}
use Rattle.engine.specs.StepLaws.{ready_is}
use Rattle.engine.specs.InvalidRun.{run_stale}
use Rattle.engine.proofs.Batch.live_validity.Goals as goal

-- it is invalid
pub returns-then-is_stale : goal.returns-then-is_stale
returns-then-is_stale c =
    let a = c.args in
    let due : is_ready (snapshot_of a.self.now) a.j ≡ true =
    ready_is a.self.now a.j ∙ sym c.is_ready.ensures ∙ c.if-not-is_ready.false in
    let compared : run_stale a.self.now a.j ≡ true = sym c.is_stale.ensures ∙ c.if-is_stale.true in
    rw (due, compared)

-- its job is not ready
pub returns-then-not-is_ready : goal.returns-then-not-is_ready
returns-then-not-is_ready c =
    let a = c.args in
    let early : is_ready (snapshot_of a.self.now) a.j ≡ false =
    ready_is a.self.now a.j ∙ sym c.is_ready.ensures ∙ c.if-not-is_ready.true in
    rw early

-- it is valid
pub returns : goal.returns
returns c =
    let a = c.args in
    let due : is_ready (snapshot_of a.self.now) a.j ≡ true =
    ready_is a.self.now a.j ∙ sym c.is_ready.ensures ∙ c.if-not-is_ready.false in
    let compared : run_stale a.self.now a.j ≡ false = sym c.is_stale.ensures ∙ c.if-is_stale.false in
    rw (due, compared)
