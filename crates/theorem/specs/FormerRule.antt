-- R185: the proof. What the former rule lets stand has a source for each of its values, so a ready job's was handed the present
-- heights.
use Rattle.std.specs.Prelude.{ℕ, suc, ◌-◌, Bool, true, false, ◌&&◌, ◌||◌, ◌≡◌, refl, length}
use Rattle.std.proofs.Common.{arith, sym, ap, ◌∙◌, ne_eqb, eqb-true}
use Rattle.std.proofs.Math.Option.{some}
use Rattle.laws.specs.Search.{any_below}
use Rattle.laws.specs.SearchLaws.{any_found, clash, or_true}
use Rattle.dependence.specs.declared.Job.{Job}
use Rattle.dependence.specs.Job.{predicts}
use Rattle.admission.specs.AdmissionLaws.{admitted_distinct}
use Rattle.rules.specs.Values.{value_at}
use Rattle.rules.specs.Snapshot.{is_discarded, is_live}
use Rattle.rules.specs.Speculation.{handed_stale, is_valid, validity}
use Rattle.rules.specs.SpeculationLaws.{stands_told}
use Rattle.engine.specs.declared.Batch.{Batch}
use Rattle.engine.specs.Ask.{asked_job}
use Rattle.model.specs.State.{Origin, discarded, origin_of, State, Open}
use Rattle.model.specs.InvariantLaws.{present_is_before}
use Rattle.model.specs.FormerRule.{Lost, bypassed_wrote, source_discarded, told_beforehand, sourced_is_right}
use Rattle.claims.specs.Ledger.{Guess, GuessEntry, never, entered, reported, struck, Ledger}
use Rattle.claims.specs.Ledger.{is_some, counted_mark, guess_phase, guess_bypassed, guess_source, guess_handed}
use Rattle.claims.specs.Enter.{snapshot_of_ledger}
use Rattle.claims.specs.FormerRule.{source_lost, fell_below, fell_formerly, StoodFormerly, StandsStillStatement}
use Rattle.theorem.specs.Faithful.{Faithful, bypassed_earlier}
use Rattle.theorem.specs.View.{origin_for, speculation_of, state_of, progress_committed, progress_marked}
use Rattle.theorem.specs.View.{NumberAt, source_place}
use Rattle.theorem.specs.AsAsked.{asked_validity}
use Rattle.theorem.specs.RulesSay.{ready_says}
use Rattle.theorem.specs.MatchSays.{matches_fresh}
use Rattle.theorem.specs.Right.{Sound, sound_replayed}
use Rattle.theorem.specs.Always.{sound_always}

-- A guess that there is, out or stored, by the ledger and as the model knows it.
record Live (job : Job) (guess : GuessEntry) : Type 0 where
  of : Guess
  live : is_live (guess_phase guess) ≡ true
  known : origin_of (speculation_of job guess) ≡ some (origin_for job of)
  handed : (place : ℕ) → guess_handed guess place ≡ value_at of.handed place
  bypassed : (i : ℕ) → guess_bypassed guess i ≡ of.bypassed i
  source : (place : ℕ) → guess_source guess place ≡ of.source place

live_guess : (job : Job) (guess : GuessEntry) → is_live (guess_phase guess) ≡ true → Live job guess
unfolding origin_of speculation_of
live_guess job never e = clash e refl
live_guess job (entered g) e =
    record { of = g; live = refl; known = refl; handed = λ place. refl; bypassed = λ i. refl; source = λ place. refl }
live_guess job (reported g r) e =
    record { of = g; live = refl; known = refl; handed = λ place. refl; bypassed = λ i. refl; source = λ place. refl }
live_guess job struck e = clash e refl

-- Two things that are there are equal where the options are.
some_is : {A : Type 0} {a b : A} → some a ≡ some b → a ≡ b
some_is e = cc

-- A guess that was thrown away is struck out in the ledger.
discarded_struck : (job : Job) (guess : GuessEntry) → speculation_of job guess ≡ discarded
    → is_discarded (guess_phase guess) ≡ true
unfolding speculation_of
discarded_struck job never e = cc
discarded_struck job (entered g) e = cc
discarded_struck job (reported g r) e = cc
discarded_struck job struck e = refl

-- The first of two tests suffices.
or_first : (s t : Bool) → s ≡ true → (s || t) ≡ true
or_first true t e = refl
or_first false t e = clash e refl

-- What the model calls lost fell by the former rule, where nothing was predicted.
module _ {b : Batch} {l : Ledger} (agree : Faithful b l) (j : ℕ) (plain : predicts (l.job j) ≡ false)
    (g : Live (l.job j) (l.entry j).guess) where
  abbrev s : State
  s = state_of l b.cells

  by_mark : (i : ℕ) → guess_bypassed (l.entry j).guess i ≡ true → counted_mark (l.entry i).counted ≡ true
      → fell_formerly l j ≡ true
  by_mark i past mark =
      rw g.live
      (or_first _ _
      (any_found j i (λ i. guess_bypassed (l.entry j).guess i && counted_mark (l.entry i).counted)
      (bypassed_earlier agree j i past) (rw (past, mark))))

  by_source : (w : ℕ) → NumberAt g.of.source 4 w → is_discarded (guess_phase (l.entry w).guess) ≡ true
      → fell_formerly l j ≡ true
  by_source w from gone =
      let k = from.place in
      let is : guess_source (l.entry j).guess k ≡ suc w = g.source k ∙ from.is in
      let m : suc w - 1 ≡ w = omega arith in
      let lost : source_lost l (fell_below l j) (guess_source (l.entry j).guess k) ≡ true =
      rw (is, ne_eqb (suc w) 0 (λ q. omega arith), m) (or_first _ _ gone) in
      rw g.live
      (or_true (any_below j (λ i. guess_bypassed (l.entry j).guess i && counted_mark (l.entry i).counted)) _
      (any_found 4 k (λ place. source_lost l (fell_below l j) (guess_source (l.entry j).guess place)) from.below lost))

  origin_is : {origin : Origin} → origin_of (s.speculation j) ≡ some origin → origin_for (l.job j) g.of ≡ origin
  origin_is e = some_is (sym g.known ∙ e)

  lost_fell : Lost s j → fell_formerly l j ≡ true
  lost_fell (bypassed_wrote {i = i} e f m) =
      by_mark i (g.bypassed i ∙ ap (λ (o : Origin). o.bypassed i) (origin_is e) ∙ f)
      (sym (progress_marked (l.job i) (l.entry i).own (l.entry i).counted) ∙ m)
  lost_fell (source_discarded {w = w} {x = x} e f z) =
      by_source w (source_place (l.job j) g.of x w (ap (λ (o : Origin). o.source x) (origin_is e) ∙ f))
      (discarded_struck (l.job w) (l.entry w).guess z)
  lost_fell (told_beforehand e f) = clash (ap (λ (o : Origin). o.predicted) (origin_is e) ∙ f) plain

module _ {b : Batch} {l : Ledger} (sound : Sound b l) (j : ℕ) (stood : StoodFormerly l j) where
  -- It was handed what the jobs before it left, which are the present heights,
  fresh : handed_stale (snapshot_of_ledger l) j ≡ false
  fresh =
      let s = state_of l b.cells in
      let g = live_guess (l.job j) (l.entry j).guess stood.live in
      let unsettled : Open s j = progress_committed (l.job j) (l.entry j).own (l.entry j).counted ∙ ap is_some stood.unsettled in
      let right =
      sourced_is_right s sound.carried.sourced j (origin_for (l.job j) g.of) g.known unsettled
      (ready_says l b.cells j stood.ready) (λ lost. clash (lost_fell sound.agree j stood.unpredicted g lost) stood.not_fallen)
      in
      matches_fresh b l (sound_replayed sound) j g.of g.handed
      (admitted_distinct (l.job j) (length l.heights) (sound.agree.admitted j stood.held))
      (λ x n. right x n ∙ sym (present_is_before s sound.carried.right j x stood.held unsettled n))

  -- so it stands, and is told to.
  still : is_valid (snapshot_of_ledger l) j ≡ true
  unfolding is_valid
  still = rw (stood.ready, stood.live, fresh)

  told_still : (asked_job b j).validity ≡ 2
  told_still =
      asked_validity sound.agree (sound_replayed sound) j stood.held
      ∙ eqb-true (validity (snapshot_of_ledger l) j) 2 (stands_told (snapshot_of_ledger l) j ∙ rw (stood.unsettled, still))

pub stands_still : StandsStillStatement
stands_still heights calls e =
    let sound = sound_always heights calls e in
    record { stands = still sound; told = told_still sound }
