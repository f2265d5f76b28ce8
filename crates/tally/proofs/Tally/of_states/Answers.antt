-- `Tally::of_states` meets its contract: a job a turn.
use Rattle.std.proofs.Common.{◌≡◌, length, ◌∙◌, arith, rules, length-append, ◌∷◌, []}
use native.Mathlib.Nat.{lt_of_le_of_lt}
use Rattle.std.specs.Slice.Iter.{iter_rest}
use Rattle.std.specs.Iterator.Adapters.{zip_first, zip_second}
use Rattle.std.proofs.lemmas.Slice.Zip.{zip_turn}
use Rattle.tally.specs.TallyLaws.{tally_none, tally_more, tally_limit}
use Rattle.tally.proofs.Tally.of_states.Goals as goal

pub loop-how-init : goal.loop-how-init
loop-how-init c = rw (← tally_none c.args.committed.now c.args.phase.now) (search rules)

pub with_job-tally-requires : goal.with_job-tally-requires
with_job-tally-requires c =
    let first : iter_rest (zip_first c.into_iter-how-iterator.result) ≡ c.args.committed.now = search rules in
    let second : iter_rest (zip_second c.into_iter-how-iterator.result) ≡ c.args.phase.now = search rules in
    let turn = zip_turn c.args.committed.now c.args.phase.now c.loop-how.yielded c.into_iter-how-iterator.result c.loop-how.how-iterator c.next.new.self _ first second c.loop-how.yielded_by
    (c.in-Some.how, c.in-Some.guess) c.in-Some.is c.next.ensures.steps in
    rw c.loop-how.invariant (lt_of_le_of_lt (tally_limit _ _ _) (omega (arith, turn.0)))

pub loop-how-preserved : goal.loop-how-preserved
loop-how-preserved c =
    let first : iter_rest (zip_first c.into_iter-how-iterator.result) ≡ c.args.committed.now = search rules in
    let second : iter_rest (zip_second c.into_iter-how-iterator.result) ≡ c.args.phase.now = search rules in
    let turn = zip_turn c.args.committed.now c.args.phase.now c.loop-how.yielded c.into_iter-how-iterator.result c.loop-how.how-iterator c.next.new.self _ first second c.loop-how.yielded_by
    (c.in-Some.how, c.in-Some.guess) c.in-Some.is c.next.ensures.steps in
    c.with_job-tally.ensures
    ∙ rw (length-append c.loop-how.yielded ((c.in-Some.how, c.in-Some.guess) ∷ []), c.loop-how.invariant, turn.2 0, turn.3 0)
    (tally_more c.args.committed.now c.args.phase.now (length c.loop-how.yielded))
