-- `Batch::insert_all` meets its contract: the record, the jobs, and then the places filled.
use native.Mathlib.Omega.{arith}
use borrow.Author.Rules.{rules}
use Prim.Native.Nat.{◌-◌}
use mathlib.Core.Path.{◌≡◌, sym, ◌∙◌}
use Rattle.engine.specs.FormLaws.{form_counts}
use Rattle.engine.specs.Opening.{with_inserted}
use Rattle.engine.specs.InsertAllPass.{Sized, fill_none, fill_more, all_out_of_form, all_refused, all_room, all_accepted}
use Rattle.engine.proofs.Batch.insert_all.Goals as goal

-- the record
pub returns-then-not-is_in_form : goal.returns-then-not-is_in_form
returns-then-not-is_in_form c =
    let a = c.args in
    sym (all_out_of_form a.self a.list.jobs a.list.count (sym c.is_in_form.ensures ∙ c.if-not-is_in_form.true))

pub first_refused-refused-requires : goal.first_refused-refused-requires
first_refused-refused-requires c =
    let form = sym c.is_in_form.ensures ∙ c.if-not-is_in_form.false in
    (form_counts c.args.self form).few_jobs

-- a job
pub returns-then-refused-ne0 : goal.returns-then-refused-ne0
returns-then-refused-ne0 c =
    let a = c.args in
    let form = sym c.is_in_form.ensures ∙ c.if-not-is_in_form.false in
    let g = c.well_formed.0.1.1.1.1.1.1.1 in
    let sized : Sized a.self = record {
      jobs_length = g.0.1.0.1;
      runs_length = g.1.0.1.0.1;
      committed_length = search rules;
      running_length = search rules;
      phase_length = search rules;
    } in
    sym (all_refused a.self a.list.jobs a.list.count form sized c.first_refused-refused.ensures c.if-refused-ne0.true)

-- no place filled yet
pub loop-k-init : goal.loop-k-init
loop-k-init c =
    let a = c.args in
    let form = sym c.is_in_form.ensures ∙ c.if-not-is_in_form.false in
    let g = c.well_formed.0.1.1.1.1.1.1.1 in
    let sized : Sized a.self = record {
      jobs_length = g.0.1.0.1;
      runs_length = g.1.0.1.0.1;
      committed_length = search rules;
      running_length = search rules;
      phase_length = search rules;
    } in
    let looked = c.first_refused-refused.ensures in
    let room = all_room a.self a.list.jobs a.list.count form sized looked c.if-refused-ne0.false in
    let accepted = all_accepted a.self a.list.jobs a.list.count form sized looked c.if-refused-ne0.false in
    let e : a.list.count - 0 ≡ a.list.count = omega arith in
    (omega (arith, room), omega (arith, room), rw e accepted)

pub add-requires : goal.add-requires
add-requires c = omega (arith, c.loop-k-test.true, c.loop-k.invariant.1)

-- the place of job k filled
pub loop-k-preserved : goal.loop-k-preserved
unfolding with_inserted
loop-k-preserved c =
    let l = c.loop-k in
    let a = c.args in
    let more = fill_more l.self a.list.jobs l.k a.list.count c.loop-k-test.true in
    (l.invariant.0, rw c.add.ensures (omega (arith, l.invariant.1)), rw c.add.ensures (l.invariant.2 ∙ rw more))

-- all filled
pub returns : goal.returns
returns c =
    let l = c.loop-k in
    let a = c.args in
    let e : a.list.count - l.k ≡ 0 = omega arith in
    sym (l.invariant.2 ∙ rw (e, fill_none l.self a.list.jobs l.k))
