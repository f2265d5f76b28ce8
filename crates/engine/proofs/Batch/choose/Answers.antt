-- `Batch::choose` meets its contract: the record's check as `is_in_form` makes it, the columns filled a job a turn, the guesses judged, and each answer the definition's.
use native.Mathlib.Omega.{arith}
use Prim.Native.Nat.{ℕ, ◌+◌, ◌<◌, ◌≤◌}
use native.Mathlib.Nat.{eq-or-lt_of_le}
use mathlib.Core.Logic.{⊎_elim}
use mathlib.Core.List.{List}
use mathlib.Core.Path.{◌≡◌, refl, sym, ap, ◌∙◌}
use lib.ListN.{get_or, set, replicate}
use lib.Seq.{get_or-set_same, get_or-set_other}
use borrow.Author.Tests.{eq-eqb, ne_eqb}
use Rattle.laws.specs.SearchLaws.{any_none, passed, missed}
use Rattle.cellset.specs.Survey.{judged_rank}
use Rattle.engine.specs.FormPass.{refused_at, few_jobs, states_in, counts_out_of_form, committed_out_of_form, running_out_of_form, phase_out_of_form, refused_out_of_form, run_out_of_form, all_seen}
use Rattle.engine.specs.FormLaws.{form_counts}
use Rattle.engine.specs.InvalidRun.{run_stale}
use Rattle.engine.specs.Chooser.{named}
use Rattle.engine.specs.ChooserLaws.{chosen_32, chosen_10}
use Rattle.engine.specs.ChooserPass.{columned_none, columned_past, columned_more}
use Rattle.engine.specs.Ranks.{judged_at, survey_ranked, judge_ranked, judged_few, top_limit, choice_none, choice_top, step_of, pick_is}
use Rattle.engine.proofs.Batch.choose.Goals as goal
use Rattle.engine.proofs.Batch.choose.Goals.{then-ranks-p-eq4, else-ranks-p-eq4}

-- the ranks of the jobs before the next, where that job's own is small
few_more : (ranks : List ℕ) (k : ℕ) → get_or ranks k 0 ≤ 3 → ((i : ℕ) → i < k → get_or ranks i 0 ≤ 3)
    → (i : ℕ) → i < k + 1 → get_or ranks i 0 ≤ 3
few_more ranks k last before i h =
    let le : i ≤ k = omega arith in
    ⊎_elim (λ (q : i ≡ k). rw q last) (λ (l : i < k). before i l) (eq-or-lt_of_le le)

below_four : (rank : ℕ) → rank ≤ 4 → (rank ≡ 4 → ⊥) → rank ≤ 3
below_four rank few other = omega (arith, few, other)

above_none : (rank : ℕ) → (rank ≡ 0 → ⊥) → 0 < rank
above_none rank other = omega (arith, other)

-- out of form
pub returns-then-not-is_in_form : goal.returns-then-not-is_in_form
returns-then-not-is_in_form c =
    c.refused.ensures ∙ chosen_32 c.args.self.now (sym c.is_in_form.ensures ∙ c.if-not-is_in_form.true)

-- not sealed
pub returns-then-self-eq0 : goal.returns-then-self-eq0
returns-then-self-eq0 c =
    c.refused-then-self-eq0.ensures
    ∙ chosen_10 c.args.self.now (sym c.is_in_form.ensures ∙ c.if-not-is_in_form.false) (eq-eqb _ _ c.if-self-eq0.true)

pub fill-requires : goal.fill-requires
fill-requires c = (form_counts c.args.self.now (sym c.is_in_form.ensures ∙ c.if-not-is_in_form.false)).few_jobs

pub ranks-ranks-requires : goal.ranks-ranks-requires
ranks-ranks-requires c = (form_counts c.args.self.now (sym c.is_in_form.ensures ∙ c.if-not-is_in_form.false)).few_jobs

-- the survey's ranks, of which none is judged yet
pub loop-p-init : goal.loop-p-init
loop-p-init c =
    let of = c.fill.new.columns in
    let form = sym c.is_in_form.ensures ∙ c.if-not-is_in_form.false in
    let closed = ne_eqb _ _ c.if-self-eq0.false in (
      c.ranks-ranks.ensures.0,
      survey_ranked c.args.self.now form closed of.named of.written of.sure of.back of.arities c.fill.ensures _ c.ranks-ranks.ensures.1,
      λ i h. absurd (omega arith),
    )

pub loop-p-preserved : goal.loop-p-preserved
loop-p-preserved c =
    let l = c.loop-p in
    let b = c.args.self.now in
    let ranked = l.invariant.1 in
    let within : l.p < b.job_count = c.loop-p-test.true in
    let few = (form_counts b (sym c.is_in_form.ensures ∙ c.if-not-is_in_form.false)).few_jobs in
    elim c.if-ranks-p-eq4.branch [
      | then-ranks-p-eq4 w ↦
          let rank : w.judged_rank.result ≡ judged_at b l.p =
          w.judged_rank.ensures
          ∙ ap (judged_rank (get_or b.running l.p 0) (get_or b.phase l.p 0)) w.is_stale-stale.ensures in
          rw w.ranks-is (
            l.invariant.0,
            judge_ranked b l.ranks.0 l.p (omega (arith, within, few)) w.if-ranks-p-eq4.true rank ranked,
            few_more (set l.ranks.0 l.p w.judged_rank.result) l.p
                (rw (get_or-set_same l.ranks.0 l.p w.judged_rank.result 0 (omega (arith, ranked.long, within, few)), rank)
                (judged_few (get_or b.running l.p 0) (get_or b.phase l.p 0) (run_stale b l.p)))
                (λ i h. rw (get_or-set_other l.ranks.0 l.p i w.judged_rank.result 0 (λ q. omega arith)) (l.invariant.2 i h)),
          )
      | else-ranks-p-eq4 w ↦
          rw w.ranks-is (l.invariant.0, ranked, few_more l.ranks.0 l.p (below_four _ (ranked.few l.p within) w.if-ranks-p-eq4.false) l.invariant.2)
    ]

-- nothing is allowed
pub returns-then-top-eq0 : goal.returns-then-top-eq0
returns-then-top-eq0 c =
    let l = c.loop-p in
    let b = c.args.self.now in
    let form = sym c.is_in_form.ensures ∙ c.if-not-is_in_form.false in
    let closed = ne_eqb _ _ c.if-self-eq0.false in
    let all : l.p ≡ b.job_count = omega arith in
    c.refused-then-top-eq0.ensures
    ∙ choice_none b form closed l.ranks.0 l.invariant.1 c.top-top.result (rw c.loop-p.invariant.0 at c.top-top.ensures)
    (rw (rw c.loop-p.invariant.0 at c.top-top.ensures) (top_limit _ 3 l.ranks.0 (λ i h. l.invariant.2 i (omega (arith, all, h))))) c.if-top-eq0.true

-- the step of the largest rank
pub returns : goal.returns
returns c =
    let l = c.loop-p in
    let b = c.args.self.now in
    let of = c.fill.new.columns in
    let form = sym c.is_in_form.ensures ∙ c.if-not-is_in_form.false in
    let closed = ne_eqb _ _ c.if-self-eq0.false in
    let all : l.p ≡ b.job_count = omega arith in
    let most : c.top-top.result ≤ 3 =
    rw (rw c.loop-p.invariant.0 at c.top-top.ensures) (top_limit _ 3 l.ranks.0 (λ i h. l.invariant.2 i (omega (arith, all, h)))) in
    let some : 0 < c.top-top.result = above_none _ c.if-top-eq0.false in
    c.named.ensures
    ∙ ap (λ (step : ℕ). named step c.pick-pick.result) c.step_of.ensures
    ∙ ap (named (step_of c.top-top.result))
    ((rw c.loop-p.invariant.0 at c.pick-pick.ensures)
    ∙ pick_is b form closed of.named of.written of.sure of.back of.arities c.fill.ensures l.ranks.0 l.invariant.1
    c.top-top.result (rw c.loop-p.invariant.0 at c.top-top.ensures) most some c.lowest-first.result (omega (arith, (rw c.loop-p.invariant.0 at c.lowest-first.ensures)))
    c.chain_lengths_from-chains.result c.chain_lengths_from-chains.ensures)
    ∙ choice_top b form closed l.ranks.0 l.invariant.1 c.top-top.result (rw c.loop-p.invariant.0 at c.top-top.ensures) most some
