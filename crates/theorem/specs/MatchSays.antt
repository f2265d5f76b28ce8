-- What the comparison of a guess's values with the cells says in the model: it was handed the present heights, and back.
use Rattle.std.specs.Prelude.{ℕ, false, ◌≡◌, ℤ}
use Rattle.std.proofs.Common.{sym, ap, ◌∙◌}
use Rattle.dependence.specs.Job.{access_at}
use Rattle.rules.specs.Values.{value_at, value_for}
use Rattle.rules.specs.Speculation.{handed_stale}
use Rattle.rules.specs.SpeculationLaws.{fresh_present, present_fresh}
use Rattle.runs.specs.RunLaws.{DistinctCells, value_present}
use Rattle.engine.specs.declared.Batch.{Batch}
use Rattle.model.specs.State.{Matches}
use Rattle.claims.specs.Ledger.{Guess, Ledger, guess_handed}
use Rattle.claims.specs.Replay.{replay}
use Rattle.claims.specs.Enter.{snapshot_of_ledger}
use Rattle.theorem.specs.View.{place_of, place_named, state_of}
use Rattle.theorem.specs.Replayed.{Replayed}

module _ (b : Batch) (l : Ledger) (replayed : Replayed b l) (j : ℕ) (g : Guess)
    (is : (place : ℕ) → guess_handed (l.entry j).guess place ≡ value_at g.handed place) where
  abbrev held : ℕ → ℤ
  held x = value_at (replay l l.job_count) x

  pub fresh_matches : handed_stale (snapshot_of_ledger l) j ≡ false
      → Matches (state_of l b.cells) j (λ x. value_for (l.job j) g.handed x)
  fresh_matches fresh x n =
      let p = place_of (l.job j) x n in
      p.value g.handed
      ∙ sym (is p.place)
      ∙ fresh_present (l.job j) (guess_handed (l.entry j).guess) held fresh p.place p.below p.used
      ∙ sym (replayed (access_at (l.job j) p.place).cell)
      ∙ ap (value_at b.cells) p.cell

  -- And back, for a job that names no cell twice.
  pub matches_fresh : DistinctCells (l.job j) → Matches (state_of l b.cells) j (λ x. value_for (l.job j) g.handed x)
      → handed_stale (snapshot_of_ledger l) j ≡ false
  matches_fresh distinct matches =
      present_fresh (l.job j) (guess_handed (l.entry j).guess) held
      (λ place below used.
      let x = (access_at (l.job j) place).cell in
      is place
      ∙ sym (value_present (l.job j) g.handed distinct place used below)
      ∙ matches x (place_named (l.job j) place below used)
      ∙ replayed x)
