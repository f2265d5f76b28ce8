-- `chain_lengths_from` meets its contract: the pass of specs/ChainPass.antt, a job a turn from the last one back.
use native.Mathlib.Omega.{arith}
use Prim.Native.Nat.{◌+◌, ◌-◌, suc}
use native.Mathlib.Numerals.{add-one}
use mathlib.Core.Path.{◌≡◌, ap, ◌∙◌}
use lib.ListN.{length}
use borrow.Author.Rules.{rules}
use Rattle.passes.specs.ChainPass.{chain_start, chain_short, chain_step, chain_end}
use Rattle.passes.proofs.chain_lengths_from.Goals as goal

pub loop-j-init : goal.loop-j-init
loop-j-init c =
    let long : length c.args.jobs ≡ 128 = search rules in
    rw c.min-j.ensures (omega arith, chain_start c.args.jobs c.args.job_count long)

-- a chain is at most 128 long
pub overflow_add-length : goal.overflow_add-length
overflow_add-length c =
    let l = c.loop-j in
    let long : length c.args.jobs ≡ 128 = search rules in
    let e : l.j ≡ suc (l.j - 1) = omega arith in
    omega (
      arith,
      c.met_by-next.ensures.0,
      chain_short c.args.jobs c.args.job_count (l.j - 1) l.lengths l.named long (omega arith)
          c.met_by-next.ensures.1 (rw e at l.invariant.1),
    )

pub loop-j-preserved : goal.loop-j-preserved
loop-j-preserved c =
    let l = c.loop-j in
    let long : length c.args.jobs ≡ 128 = search rules in
    let e : l.j ≡ suc (l.j - 1) = omega arith in (
      omega arith,
      rw c.note.ensures
          (chain_step c.args.jobs c.args.job_count (l.j - 1) l.lengths l.named long (omega arith)
          c.met_by-next.ensures.1 (rw e at l.invariant.1) (c.met_by-next.result + 1) (add-one _ ∙ ap suc c.met_by-next.ensures.0)),
    )

-- all from the first one on are
pub returns : goal.returns
returns c =
    let l = c.loop-j in
    let a = c.args in
    chain_end a.jobs a.job_count l.j a.first l.lengths l.named l.invariant.1 (omega arith)
