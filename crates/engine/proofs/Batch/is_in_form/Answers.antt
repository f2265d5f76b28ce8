-- `Batch::is_in_form` meets its contract: the counts, the columns, the jobs, the runs.
use native.Mathlib.Omega.{arith}
use mathlib.Core.Path.{◌≡◌, sym}
use Rattle.laws.specs.SearchLaws.{any_none, passed, missed}
use Rattle.engine.specs.FormPass.{refused_at, run_out_at, few_jobs, states_in, counts_out_of_form, committed_out_of_form, running_out_of_form, phase_out_of_form, refused_out_of_form, run_out_of_form, passed_in_form}
use Rattle.engine.proofs.Batch.is_in_form.Goals as goal

-- a count
pub returns-then-counts_out : goal.returns-then-counts_out
returns-then-counts_out c = sym (counts_out_of_form c.args.self.now c.counts_out.ensures c.if-counts_out.true)

pub top_of-requires : goal.top_of-requires
top_of-requires c =
    few_jobs c.args.self.now c.counts_out.ensures c.if-counts_out.false

-- a column
pub returns-then-top_of-gt2 : goal.returns-then-top_of-gt2
returns-then-top_of-gt2 c =
    let b = c.args.self.now in
    sym (committed_out_of_form b c.top_of.ensures c.if-top_of-gt2.true)

pub top_of-requires-2 : goal.top_of-requires-2
top_of-requires-2 c =
    few_jobs c.args.self.now c.counts_out.ensures c.if-counts_out.false

pub returns-then-top_of-gt1 : goal.returns-then-top_of-gt1
returns-then-top_of-gt1 c =
    let b = c.args.self.now in
    sym (running_out_of_form b c.top_of-2.ensures c.if-top_of-gt1.true)

pub top_of-requires-3 : goal.top_of-requires-3
top_of-requires-3 c =
    few_jobs c.args.self.now c.counts_out.ensures c.if-counts_out.false

pub returns-then-top_of-gt3 : goal.returns-then-top_of-gt3
returns-then-top_of-gt3 c =
    let b = c.args.self.now in
    sym (phase_out_of_form b c.top_of-3.ensures c.if-top_of-gt3.true)

pub loop-j-init : goal.loop-j-init
loop-j-init c =
    let b = c.args.self.now in
    let counts = c.counts_out.ensures in (
      states_in b counts c.if-counts_out.false c.top_of.ensures c.if-top_of-gt2.false
          c.top_of-2.ensures c.if-top_of-gt1.false c.top_of-3.ensures c.if-top_of-gt3.false,
      any_none _,
    )

-- a job
pub returns-then-is_refused : goal.returns-then-is_refused
returns-then-is_refused c =
    let b = c.args.self.now in
    sym (refused_out_of_form b c.loop-j.j c.loop-j-test.true c.is_refused.ensures c.if-is_refused.true)

pub loop-j-preserved : goal.loop-j-preserved
loop-j-preserved c =
    let l = c.loop-j in
    (l.invariant.0, passed _ _ l.invariant.1 c.is_refused.ensures c.if-is_refused.false)

pub loop-k-init : goal.loop-k-init
loop-k-init c =
    let l = c.loop-j in
    let all : l.j ≡ c.args.self.now.job_count = omega arith in
    (l.invariant.0, rw all at l.invariant.1, any_none _)

-- a run
pub returns-then-run_out : goal.returns-then-run_out
returns-then-run_out c =
    let b = c.args.self.now in
    sym (run_out_of_form b c.loop-k.k c.loop-k-test.true c.run_out.ensures c.if-run_out.true)

pub loop-k-preserved : goal.loop-k-preserved
loop-k-preserved c =
    let l = c.loop-k in
    (l.invariant.0, l.invariant.1, passed _ _ l.invariant.2 c.run_out.ensures c.if-run_out.false)

-- all passed
pub returns : goal.returns
returns c =
    let i = c.loop-k.invariant in
    let all : c.loop-k.k ≡ c.args.self.now.job_count = omega arith in
    sym (passed_in_form c.args.self.now i.0 i.1 (rw all at i.2))
