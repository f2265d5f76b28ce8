-- `Job::dependence` meets its contract: the pass of specs/SortPass.antt, a place a turn.
use Rattle.std.proofs.Common.{ℕ, ◌≡◌, ◌<◌, Bool, sym, eq-eqb, ne_eqb, le-leb, ◌∙◌, arith}
use Rattle.std.proofs.lemmas.Bool.{lt-leb}
use Rattle.dependence.specs.declared.Job.{Job}
use Rattle.dependence.specs.Job.{access_at}
use Rattle.dependence.specs.Conflict.{touches, conflict_at}
use Rattle.dependence.specs.SortPass.{sort_start, sort_flow, sort_overwrite, sort_pass, sort_end}
use Rattle.dependence.proofs.Job.dependence.Goals as goal
use Rattle.dependence.proofs.Job.dependence.Goals.{then-i-self+then-touches+else-access-ne-READ, else-i-self, else-i-self-via-then-i-self+else-touches, else-i-self-via-else-i-self}

-- a place in use conflicts where its access does
met : (job later : Job) (i : ℕ) (touched : Bool) → i < job.arity → touched ≡ touches (access_at job i) later → conflict_at job later i ≡ touched
met job later i touched used e = rw (lt-leb job.arity i used) (sym e)

pub loop-i-init : goal.loop-i-init
loop-i-init c = sort_start _ _

-- the place conflicts, and may write
pub returns-then-access-ne-READ : goal.returns-then-access-ne-READ
returns-then-access-ne-READ c =
    sort_flow _ _ c.loop-i.i (omega arith)
    (met c.args.self c.args.later _ _ c.if-i-self.true c.touches.ensures ∙ c.if-touches.true)
    (ne_eqb _ _ c.if-access-ne-READ.true)

-- it only reads, does not conflict or is not in use
pub loop-i-preserved : goal.loop-i-preserved
loop-i-preserved c =
    let job = c.args.self in
    let later = c.args.later in
    let l = c.loop-i in
    (elim c.if-i-self.branch [
      | then-i-self+then-touches+else-access-ne-READ w ↦
          rw w.found-is
          (sort_overwrite job later l.i _ l.invariant
          (met job later l.i _ w.if-i-self.true w.touches.ensures ∙ w.if-touches.true) (eq-eqb _ _ w.if-access-ne-READ.false))
      | else-i-self w ↦
          rw w.found-is
          (sort_pass job later l.i _ l.invariant
          (elim w.else-i-self.branch [
            | else-i-self-via-then-i-self+else-touches u ↦ met job later l.i _ u.if-i-self.true u.touches.ensures ∙ u.if-touches.false
            | else-i-self-via-else-i-self u ↦ rw (le-leb job.arity l.i u.if-i-self.false)
          ]))
    ])

-- all places are passed
pub returns : goal.returns
returns c =
    let l = c.loop-i in
    let e : l.i ≡ 4 = omega arith in
    sort_end _ _ l.i _ l.invariant e
